-- What the monitor returns for a call is what the machine's job has.
use Rattle.std.proofs.Common.{◌≡◌, ◌≤◌, ℕ, List, [], ◌∷◌, length, Option, Some, sym, ap, subst, ◌∙◌, arith}
use Rattle.std.specs.List.{AllByRecursion}
use Rattle.std.specs.Prelude.{Bool, Result, IfOk, option_map}
use Rattle.blockdisk.specs.Common.{DiskState}
use Rattle.spec_image.specs.Common.{File}
use Rattle.spec_machine.specs.Common.{State, channel_at, job_at, slot, Serving}
use Rattle.spec_machine.specs.declared.area.Area.{Area}
use Rattle.spec_machine.specs.declared.call.Call.{Call}
use Rattle.volume.specs.Common.{MemoryMap}
use Rattle.monitor.specs.Common.{IsInside, IsPart, in_core, on_open, areas_named, areas_of, areas_for, Serves}
use Rattle.monitor.specs.Common.{UnderKeys, channel_of, job_of}
use Rattle.monitor.specs.declared.channel.OpenChannel.{OpenChannel}
use Rattle.monitor.specs.declared.job.Job.{Job}
use Rattle.monitor.proofs.common.CallRows.{channel_is}
use Rattle.monitor.proofs.CoreAreas.Words.{parts}
use Rattle.spec_machine.proofs.Common.{slot-map}
use Rattle.volume.proofs.VolumeStart.Starts.{ok_on}
use Rattle.spec_machine.specs.Jobs as machine

-- on a channel that is open
pub opened_there : {X E : Type 0} (items : X → List Area) (r : Result X E) (core : List ℕ) (c : OpenChannel)
    (channel : Option OpenChannel) (areas : machine.Channel → List Area) → channel ≡ Some c
    → IfOk r (λ x. (w : UnderKeys) → items x ≡ in_core core (areas (channel_of w c)))
    → IfOk r (λ x. (w : UnderKeys) → items x ≡ in_core core (on_open (option_map (channel_of w) channel) areas))
opened_there items r core c channel areas there is = ok_on _ _ r
    (λ x told w. told w ∙ ap (λ o. in_core core (on_open (option_map (channel_of w) o) areas)) (sym there)) is

-- on the channel that a call names
pub on_channel : {X E : Type 0} (items : X → List Area) (r : Result X E) (job : Job) (number : ℕ)
    (channel : Option OpenChannel) (areas : machine.Channel → List Area) (call named : Call)
    → ((w : UnderKeys) → areas_of (job_of w job) named
    ≡ in_core job.core (on_open (channel_at (job_of w job) number) areas))
    → channel ≡ slot job.channels number → call ≡ named
    → IfOk r (λ x. (w : UnderKeys) → items x ≡ in_core job.core (on_open (option_map (channel_of w) channel) areas))
    → IfOk r (λ x. (w : UnderKeys) → items x ≡ areas_of (job_of w job) call)
on_channel items r job number channel areas call named row at is told = ok_on _ _ r
    (λ x areas_are w. areas_are w
    ∙ ap (λ o. in_core job.core (on_open o areas)) (sym (channel_is w job number channel (sym at)))
    ∙ sym (row w) ∙ ap (areas_of (job_of w job)) (sym is)) told

-- of a job that is logged in
pub for_slot : {X E : Type 0} (items : X → List Area) (r : Result X E) (jobs : List (Option Job)) (n : ℕ) (job : Job)
    (call : Call) → slot jobs n ≡ Some job → IfOk r (λ x. (w : UnderKeys) → items x ≡ areas_of (job_of w job) call)
    → IfOk r (λ x. (w : UnderKeys) → items x ≡ areas_for (option_map (job_of w) (slot jobs n)) call)
for_slot items r jobs n job call there told = ok_on _ _ r
    (λ x areas_are w. areas_are w ∙ ap (λ o. areas_for (option_map (job_of w) o) call) (sym there)) told

-- of the job that the machine has
pub for_job : (items : List Area) (jobs : List (Option Job)) (n : ℕ) (call : Call)
    → ((w : UnderKeys) → items ≡ areas_for (option_map (job_of w) (slot jobs n)) call)
    → (d : DiskState) (map : MemoryMap) (failed : Bool) (s : State) → Serves d map failed jobs (Serving s)
    → items ≡ areas_for (job_at s n) call
for_job items jobs n call told d map failed s serves =
    told serves.1.under ∙ ap (λ o. areas_for o call) (sym (slot-map (job_of serves.1.under) jobs n)
    ∙ ap (λ slots. slot slots n) (sym serves.1.jobs_are))

-- Whatever is under its keys, the areas of a job lie in its core, which has at most this many words.

no_file : File
no_file = record { protection = 0; mode = 0; time = 0; date = 0; body = [] }

no_keys : UnderKeys
no_keys = record {
  written = λ key. record { place = record { ppn = 0; name = record { name = 0; ext = 0 } }; file = no_file };
  read = λ key. record { file = no_file; serial = 0 };
}

all_inside : (core : List ℕ) (areas : List Area) → length core ≤ 0o400000 → AllByRecursion (IsPart core) areas
    → AllByRecursion IsInside areas
all_inside core [] most are = tt
all_inside core (area ∷ areas) most are = (omega (arith, most, are.0.1), all_inside core areas most are.1)

pub slot_inside : {X E : Type 0} (items : X → List Area) (r : Result X E) (job : Job) (call : Call)
    → length job.core ≤ 0o400000 → IfOk r (λ x. (w : UnderKeys) → items x ≡ areas_of (job_of w job) call)
    → IfOk r (λ x. AllByRecursion IsInside (items x))
slot_inside items r job call most told = ok_on _ _ r
    (λ x areas_are. subst (λ areas. AllByRecursion IsInside areas) (sym (areas_are no_keys))
    (all_inside job.core (areas_of (job_of no_keys job) call) most
    (parts job.core (areas_named (job_of no_keys job) call)))) told
