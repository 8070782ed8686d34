-- What a CLOSE or RELEAS leaves of its channel and of its job.
use Rattle.std.specs.Prelude.{◌++◌, if◌then◌else◌, ℕ, Bool, List, Option, None, Some, slice_set}
use Rattle.spec_machine.specs.Common.{header_closed, after_writes, cleared, is_buffered}
use Rattle.spec_machine.specs.declared.call.Reply.{Reply}
use Rattle.spec_machine.specs.declared.call.Reply.TheVariants.{Stopped}
use Rattle.retrieval.specs.Common.{mode_number}
use Rattle.monitor.specs.declared.channel.OpenChannel.{OpenChannel}
use Rattle.monitor.specs.declared.input.Input.{Input}
use Rattle.monitor.specs.declared.job.Job.{Job}

-- both sides are closed
abbrev pub both_closed : OpenChannel → OpenChannel
both_closed c = record c { status = cleared c.status; input = None; output = None }

-- the output side is closed, and this is the input side
abbrev pub output_closed : OpenChannel → Input → OpenChannel
output_closed c input = record c { status = cleared c.status; input = Some input; output = None }

-- the core, in which the headers of the rings of the sides that close are marked, the output's first
abbrev pub rings_closed : List ℕ → OpenChannel → (closes_output closes_input : Bool) → List ℕ
rings_closed core c closes_output closes_input =
    if is_buffered (mode_number c.mode)
    then after_writes core (header_closed core c.output_header closes_output
    ++ header_closed core c.input_header closes_input)
    else core

-- the job if it is done: the channel is this one, or none
abbrev pub closed_in : Job → ℕ → OpenChannel → (closes_output closes_input : Bool) → Option OpenChannel → Job
closed_in job number c closes_output closes_input x = record job {
  core = rings_closed job.core c closes_output closes_input;
  channels = slice_set job.channels number x;
}

-- and if it isn't: the channel has the status that stopped the call, if one did
abbrev pub left_open : Job → ℕ → OpenChannel → Reply → Job
left_open job number c (Stopped status) =
    record job { channels = slice_set job.channels number (Some (record c { status = status })) }
left_open job number c reply = job
