-- RENAME that moves a file: the words at its address.
use Rattle.std.proofs.Common.{◌≡◌, ◌≤◌, ◌+◌, ◌/◌, ◌^◌, ℕ, false, if◌then◌else◌, List, length, None, Some, sym, ap}
use Rattle.std.proofs.Common.{◌∙◌, slice_index, arith}
use Rattle.std.proofs.lemmas.Bool.{ne_eqb}
use Rattle.std.proofs.lemmas.Bool.Decides.{nat_tests}
use Rattle.spec_machine.specs.Common.{lies_outside, protection_at}
use Rattle.monitor.specs.Common.{asked_protection, UnderKeys, job_of}
use Rattle.monitor.specs.declared.job.Job.{Job}

-- Words that a core has are at addresses of a core.
pub address_within : (core : List ℕ) (e : ℕ) → lies_outside core e 4 ≡ false → length core ≤ 0o400000 → e + 4 ≤ 0o400000
address_within core e inside few = grind (arith, nat_tests)

-- The protection of the words is asked for if they have a name.
pub asks_for : (w : UnderKeys) (job : Job) (e protection : ℕ) → (slice_index job.core e ≡ 0 → ⊥)
    → protection ≡ slice_index job.core (e + 2) / 2 ^ 27 → Some protection ≡ asked_protection (job_of w job) e
asks_for w job e protection named is = ap Some is
    ∙ sym (ap (λ b. if b then None else Some (protection_at (job_of w job) e))
    (ne_eqb (slice_index job.core e) 0 named))
