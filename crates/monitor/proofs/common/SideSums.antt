-- Sums over output sides are sums over the versions that they write: each version belongs to one side.
use Rattle.std.proofs.Common.{◌≡◌, ◌≢◌, ℕ, zero, suc, List, [], ◌∷◌, Option, Some, None, IfSome, refl, sym, ap, subst}
use Rattle.std.proofs.Common.{◌∙◌, arith}
use Rattle.std.specs.Prelude.{slice_index_or, slice_set}
use Rattle.std.specs.List.{AllByRecursion}
use Rattle.spec_image.specs.Common.{total}
use Rattle.spec_image.proofs.Common.{some_none, times_head, times_other}
use Rattle.volume.specs.Common.{pending_at}
use Rattle.volume.specs.declared.pending.PendingVersion.{PendingVersion}
use Rattle.volume.proofs.common.LiveTotals.{total_updated}
use Rattle.monitor.specs.Common.{present, keys_of}
use Rattle.monitor.specs.declared.output.Output.{Output}
use Rattle.monitor.proofs.common.Dropped.{same_or_not}
use Rattle.monitor.proofs.common.SideLists.{count, each-as}

pub emptied_at : {X : Type 0} (xs : List (Option X)) (n : ℕ) → slice_index_or (slice_set xs n None) n None ≡ None
emptied_at [] n = refl
emptied_at (x ∷ xs) zero = refl
emptied_at (x ∷ xs) (suc n) = emptied_at xs n

pub emptied_other : {X : Type 0} (xs : List (Option X)) (n k : ℕ) → k ≢ n
    → slice_index_or (slice_set xs n None) k None ≡ slice_index_or xs k None
emptied_other [] n k apart = refl
emptied_other (x ∷ xs) zero zero apart = absurd (apart refl)
emptied_other (x ∷ xs) zero (suc k) apart = refl
emptied_other (x ∷ xs) (suc n) zero apart = refl
emptied_other (x ∷ xs) (suc n) (suc k) apart = emptied_other xs n k (λ same. apart (ap suc same))

-- a version in a list of slots
pub all_at : {X : Type 0} (P : X → Type 0) (xs : List (Option X)) (n : ℕ) (x : X) → AllByRecursion (λ o. IfSome o P) xs
    → slice_index_or xs n None ≡ Some x → P x
all_at P [] n x all is = absurd (some_none (sym is))
all_at P (o ∷ os) zero x all is = subst (λ o. IfSome o P) is all.0
all_at P (o ∷ os) (suc n) x all is = all_at P os n x all.1 is

module _ (g : Option PendingVersion → ℕ) (none : g None ≡ 0) where
  none_there : (pending : List (Option PendingVersion)) → ((key : ℕ) → present (pending_at pending key) ≡ 0)
      → total g pending ≡ 0
  none_there [] all = refl
  none_there (None ∷ os) all = omega (arith, none, none_there os (λ k. all (suc k)))
  none_there (Some p ∷ os) all = let wrong = all 0 in absurd (omega arith)

  abbrev Alike : (Output → ℕ) → List (Option PendingVersion) → Output → Type 0
  Alike f pending o = (p : PendingVersion) → pending_at pending o.pending.key ≡ Some p → f o ≡ g (Some p)

  abbrev Sums : (Output → ℕ) → List Output → List (Option PendingVersion) → Type 0
  Sums f os pending = ((key : ℕ) → count key os ≡ present (pending_at pending key))
      → AllByRecursion (Alike f pending) os → total f os ≡ total g pending

  -- one more
  sum_more : (f : Output → ℕ) (o : Output) (os : List Output) (pending : List (Option PendingVersion))
      → ((less : List (Option PendingVersion)) → Sums f os less)
      → (was : Option PendingVersion) → pending_at pending o.pending.key ≡ was → Sums f (o ∷ os) pending
  sum_more f o os pending rest None is once each =
      let here = times_head o.pending.key (keys_of os) in let at = once o.pending.key in let zero = ap present is in
      absurd (omega arith)
  sum_more f o os pending rest (Some p) is once each =
      let key = o.pending.key in
      let less = slice_set pending key None in
      let gone : pending_at less key ≡ None = emptied_at pending key in
      let once' : (k : ℕ) → count k os ≡ present (pending_at less k) =
      λ k. same_or_not k key
      (λ same. subst (λ (n : ℕ). count n os ≡ present (pending_at less n)) (sym same)
      (let here = times_head key (keys_of os) in let at = once key in let one = ap present is in
      let now = ap present gone in omega arith))
      (λ apart. sym (times_other k key (keys_of os) apart) ∙ once k
      ∙ ap present (sym (emptied_other pending key k apart))) in
      let stays : (k : ℕ) (q : PendingVersion) → pending_at less k ≡ Some q → pending_at pending k ≡ Some q =
      λ k q at. same_or_not k key (λ same. absurd (some_none (sym at ∙ ap (pending_at less) same ∙ gone)))
      (λ apart. sym (emptied_other pending key k apart) ∙ at) in
      let others = rest less once'
      (each-as (Alike f pending) (Alike f less) (λ x holds q at. holds q (stays x.pending.key q at)) os each.1) in
      let updated = total_updated g none pending less key None gone (λ k apart. emptied_other pending key k apart) in
      let was = ap g is in
      let here = each.0 p is in
      omega arith

  pub sum_sides : (f : Output → ℕ) (os : List Output) (pending : List (Option PendingVersion)) → Sums f os pending
  sum_sides f [] pending once each = sym (none_there pending (λ key. sym (once key)))
  sum_sides f (o ∷ os) pending once each = sum_more f o os pending (λ less. sum_sides f os less)
      (pending_at pending o.pending.key) refl once each
