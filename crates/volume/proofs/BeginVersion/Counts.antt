-- What is being created in a directory, counted over a slab's entries.
use Rattle.std.proofs.Common.{◌≡◌, ℕ, ◌+◌, ◌≤◌, ◌==◌, Bool, true, false, if◌then◌else◌, List, [], ◌∷◌, Option, Some}
use Rattle.std.proofs.Common.{None, refl, ap, arith}
use Rattle.spec_image.specs.Common.{total}
use Rattle.slab.specs.Slab.{entries_from}
use Rattle.volume.specs.Common.{is_creation, creates}
use Rattle.volume.specs.declared.pending.PendingVersion.{PendingVersion}

-- how many of these entries will be new ones of the directory
abbrev pub created : ℕ → List (ℕ × PendingVersion) → ℕ
created ppn es = total (λ e. creates ppn (Some e.1)) es

pub created_from : (ppn k : ℕ) (slots : List (Option PendingVersion))
    → created ppn (entries_from k slots) ≡ total (creates ppn) slots
created_from ppn k [] = refl
created_from ppn k (None ∷ rest) = let e = created_from ppn (k + 1) rest in omega arith
created_from ppn k (Some p ∷ rest) = ap (λ (n : ℕ). creates ppn (Some p) + n) (created_from ppn (k + 1) rest)

one_or_none : (a b : Bool) → (if a then (if b then 1 else 0) else 0) ≤ 1
one_or_none true true = omega arith
one_or_none true false = omega arith
one_or_none false b = omega arith

-- a version is one entry at most
pub creates_few : (ppn : ℕ) (p : PendingVersion) → creates ppn (Some p) ≤ 1
creates_few ppn p = one_or_none (is_creation p) (p.prime.ppn == ppn)
