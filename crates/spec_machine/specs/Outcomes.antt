-- Outcomes: an answer, and what it leaves.
use Rattle.std.specs.Prelude.{ℕ, ◌+◌, Some}
use Rattle.spec_machine.specs.Jobs.{Channel, SpecJob, with_channel, cleared}
use Rattle.spec_machine.specs.Cores.{with_right}
use Rattle.spec_machine.specs.declared.call.Reply.{Reply}
use Rattle.spec_machine.specs.declared.call.Reply.TheVariants.{Done, Refused, Stopped}

-- an answer, with one result if it is Done, and otherwise what the answer leaves
abbrev pub settled : {A : Type 0} → Reply → A → (Reply → A) → Reply × A
settled Done done other = (Done, done)
settled reply done other = (reply, other reply)

-- the channel with none of the bits that calls report
abbrev pub clean : Channel → Channel
clean c = record c { status = cleared c.status }

-- the answer that reports one of these bits, with the whole status
abbrev pub reports : Channel → ℕ → Reply
reports c bit = Stopped (cleared c.status + bit)

-- what an answer other than Done leaves of a job that called a channel: the channel stores the status that stopped the
-- call
abbrev pub stopped_in : SpecJob → ℕ → Channel → Reply → SpecJob
stopped_in job number c (Stopped status) = with_channel job number (Some (record c { status = status }))
stopped_in job number c reply = job

-- and of a job that named a block of words at an address: a refusal's code goes into the second word's right half
abbrev pub refused_at : SpecJob → ℕ → Reply → SpecJob
refused_at job e (Refused code) = record job { core = with_right job.core (e + 1) code }
refused_at job e reply = job
