-- A stretch of calls that wrote only quiet blocks leaves, at each moment, contents that stand for the same files.
use Rattle.std.proofs.Common.{◌≡◌, ℕ, ◌<◌, inl, inr, ⊎_elim, List, [], ◌∷◌, sym, subst, arith}
use Rattle.std.specs.List.{AllByRecursion}
use Rattle.std.proofs.lemmas.Bool.{cases_eq}
use Rattle.std.proofs.lemmas.Bool.Decides.{nat_tests}
use Rattle.blockdisk.specs.Common.{Contents, DiskState, MayLeave, Near, Modifies, LeavesOnly, modifies_leaves}
use Rattle.spec_image.specs.Maps.{times}
use Rattle.spec_image.specs.Files.{File, Files}
use Rattle.spec_image.specs.Stands.{Stands}
use Rattle.spec_image.specs.Quiet.{IsQuiet}
use Rattle.spec_image.proofs.Settled.{quiet_writes}
use Rattle.spec_image.proofs.Publication.{none_or_some}

-- what holds for each of a list holds for what is in it
pub each_times : (P : ℕ → Type 0) (ns : List ℕ) (n : ℕ) → AllByRecursion P ns → 0 < times n ns → P n
each_times P [] n a h = absurd (omega arith)
each_times P (k ∷ ns) n a h = ⊎_elim
    (λ (here : n ≡ k). subst P (sym here) a.0)
    (λ (other : n ≡ k → ⊥). each_times P ns n a.1 (let e : times n (k ∷ ns) ≡ times n ns = grind (arith, nat_tests) in
    omega arith))
    (cases_eq n k)

pub quiet_leaves : (s s' : DiskState) (blocks : List ℕ) (files : Files File) → AllByRecursion (IsQuiet s) blocks
    → ((c : Contents) → MayLeave s c → Stands s.size c files)
    → ((c : Contents) → s.left_since s.clock c → MayLeave s c) → Modifies (λ n. 0 < times n blocks) s s'
    → LeavesOnly s s' (λ c. Stands s.size c files)
quiet_leaves s s' blocks files quiet stands only_now modifies = modifies_leaves (λ n. 0 < times n blocks) s s'
    (λ c. Stands s.size c files) only_now modifies near
  where
    near : (c : Contents) → Near (λ n. 0 < times n blocks) s c → Stands s.size c files
    near c is =
        let before = stands is.0 is.1 in
        quiet_writes s.size is.0 c files before (λ n. ⊎_elim
        (λ (out : times n blocks ≡ 0). inl (is.2 n (λ h. omega arith)))
        (λ (inside : 0 < times n blocks).
        inr (each_times (IsQuiet s) blocks n quiet inside is.0 before.0 is.1 before.1))
        (none_or_some (times n blocks)))
