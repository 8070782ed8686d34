-- What a refusal leaves of a job, and what an answer leaves that is decided before anything is done.
use Rattle.std.proofs.Common.{◌≡◌, ℕ, Bool, List, Option, subst, true, false, refl, ◌⊎◌, inl, inr}
use Rattle.blockdisk.specs.Common.{DiskState}
use Rattle.spec_machine.specs.declared.call.Reply.{Reply}
use Rattle.spec_machine.specs.declared.call.Reply.TheVariants.{Refused, Device, Failed}
use Rattle.volume.specs.Common.{MemoryMap}
use Rattle.monitor.specs.Common.{IsDecided, IsPublishing, IsOut, IsIn}
use Rattle.monitor.specs.declared.channel.OpenChannel.{OpenChannel}
use Rattle.monitor.specs.declared.output.Output.{Output}
use Rattle.monitor.specs.declared.job.Job.{Job}
use Rattle.monitor.proofs.common.Called.{by_decided}
use Rattle.std.specs.Prelude.{◌↔◌, IsTrue}

-- it failed just where the device or the disk did
pub alive_after : (failed' : Bool) (reply : Reply) → IsTrue failed' ↔ ((reply ≡ Device) ⊎ (reply ≡ Failed))
    → (reply ≡ Device → ⊥) → (reply ≡ Failed → ⊥) → failed' ≡ false
alive_after false reply exact device failed = refl
alive_after true reply exact device failed = by (exact.0 refl)
  where
    by : (reply ≡ Device) ⊎ (reply ≡ Failed) → true ≡ false
    by (inl is) = absurd (device is)
    by (inr is) = absurd (failed is)

pub same_code : {a b : ℕ} → Refused a ≡ Refused b → a ≡ b
same_code is = cc is

pub in_refused : (d d' : DiskState) (c : MemoryMap) (job job' : Job) (number a code : ℕ) (reply : Reply)
    → IsIn d d' c job job' number a reply → reply ≡ Refused code → job' ≡ job
in_refused d d' c job job' number a code reply is refused = (subst (IsIn d d' c job job' number a) refused is).0

pub out_refused : (d d' : DiskState) (c c' : MemoryMap) (same : Type 0) (job job' : Job) (number a code : ℕ)
    (reply : Reply) → IsOut d d' c c' same job job' number a reply → reply ≡ Refused code → job' ≡ job
out_refused d d' c c' same job job' number a code reply is refused =
    (subst (IsOut d d' c c' same job job' number a) refused is).1

pub in_decided : (d d' : DiskState) (c : MemoryMap) (job job' : Job) (number a : ℕ) (reply : Reply)
    → IsIn d d' c job job' number a reply → IsDecided reply → job' ≡ job
in_decided d d' c job job' number a reply is decided =
    by_decided (λ r. IsIn d d' c job job' number a r → job' ≡ job) reply decided (λ x. x.0) (λ x. x.0)
    (λ x. absurd x) (λ x. absurd x) is

pub out_decided : (d d' : DiskState) (c c' : MemoryMap) (same : Type 0) (job job' : Job) (number a : ℕ)
    (reply : Reply) → IsOut d d' c c' same job job' number a reply → IsDecided reply → (job' ≡ job) × same
out_decided d d' c c' same job job' number a reply is decided =
    by_decided (λ r. IsOut d d' c c' same job job' number a r → (job' ≡ job) × same) reply decided
    (λ x. (x.0, x.1)) (λ x. (x.0, x.1)) (λ x. absurd x) (λ x. absurd x) is

pub publishing_refused : (d d' : DiskState) (c c' : MemoryMap) (failed failed' : Bool) (channel : OpenChannel)
    (o : Output)
    (last : Option (List ℕ)) (code : ℕ) (reply : Reply) → IsPublishing d d' c c' failed failed' channel o last reply
    → reply ≡ Refused code → ⊥
publishing_refused d d' c c' failed failed' channel o last code reply is refused = subst
    (IsPublishing d d' c c' failed failed' channel o last) refused is
