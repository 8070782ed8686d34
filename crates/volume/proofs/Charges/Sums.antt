-- The sums of which a charge consists, as loops add them up, and that they don't overflow.
use Rattle.std.proofs.Common.{◌≡◌, ℕ, ◌+◌, ◌^◌, ◌<◌, ◌≤◌, ◌==◌, Bool, true, false, if◌then◌else◌, List, [], ◌∷◌, ◌++◌}
use Rattle.std.proofs.Common.{length, take, drop, get_or, slice_get, Option, Some, None, filter_map, refl, sym, ap, ◌∙◌}
use Rattle.std.proofs.Common.{arith}
use Rattle.std.proofs.lemmas.List.{take_more, take-append-drop}
use Rattle.std.specs.List.{AllByRecursion}
use Rattle.spec_image.specs.Common.{total, most_blocks}
use Rattle.slab.specs.Slab.{entries_from}
use Rattle.volume.specs.Common.{version_before, writes_in, CurrentDirectory, cost_before, cost_of_version}
use Rattle.volume.specs.Common.{cost_of_directory, MemoryMap, slot, as_written, pending_cost, AreWaiting, IsWholeMemory}
use Rattle.volume.specs.Common.{known_at}
use Rattle.volume.specs.declared.live.LiveVersion.{LiveVersion}
use Rattle.volume.specs.declared.pending.PendingVersion.{PendingVersion}
use Rattle.volume.proofs.common.MapCosts.{few_blocks}
use Rattle.volume.proofs.common.Lookups.{total-append, total-push}
use Rattle.volume.proofs.PublishVersion.Blocks.{total_place}

-- The element that a loop is at.

module _ {A : Type 0} (f : A → ℕ) (xs : List A) (i : ℕ) (x : A) (below : i < length xs) (is : x ≡ get_or xs i x) where
  pub total_next : total f (take (i + 1) xs) ≡ total f (take i xs) + f x
  total_next = ap (total f) (take_more xs i x below ∙ ap (λ (y : A). take i xs ++ y ∷ []) (sym is))
      ∙ total-push f (take i xs) x

  pub total_part : total f (take i xs) + f x ≤ total f xs
  total_part =
      let next = total_next in
      let all = ap (total f) (take-append-drop (i + 1) xs) in
      let parts = total-append f (take (i + 1) xs) (drop (i + 1) xs) in
      omega arith

-- Files, by their keys.

abbrev pub cost_under : List (Option LiveVersion) → ℕ → ℕ
cost_under live key = cost_before (version_before live (Some key))

pub costs_under : (live : List (Option LiveVersion)) (keys : List ℕ)
    → total cost_of_version (filter_map (known_at live) keys) ≡ total (cost_under live) keys
costs_under live [] = refl
costs_under live (k ∷ ks) = by (slot live k) refl (costs_under live ks)
  where
    by : (o : Option LiveVersion) → slot live k ≡ o
        → total cost_of_version (filter_map (known_at live) ks) ≡ total (cost_under live) ks
        → total cost_of_version (filter_map (known_at live) (k ∷ ks)) ≡ total (cost_under live) (k ∷ ks)
    by None is rest = rw is (omega arith)
    by (Some v) is rest = rw is (omega arith)

-- Versions that are being written, by a slab's entries.

-- what those of the directory cost
abbrev pub written : ℕ → List (ℕ × PendingVersion) → ℕ
written ppn es = total (λ e. writes_in ppn (Some e.1)) es

pub written_from : (ppn k : ℕ) (slots : List (Option PendingVersion))
    → written ppn (entries_from k slots) ≡ total (writes_in ppn) slots
written_from ppn k [] = refl
written_from ppn k (None ∷ rest) = let e = written_from ppn (k + 1) rest in omega arith
written_from ppn k (Some p ∷ rest) = ap (λ (n : ℕ). writes_in ppn (Some p) + n) (written_from ppn (k + 1) rest)

abbrev pub HaveFewBlocks : List (ℕ × PendingVersion) → Type 0
HaveFewBlocks es = AllByRecursion (λ e. length e.1.version.blocks ≤ most_blocks) es

pub few_from : (size k : ℕ) (slots : List (Option PendingVersion)) → AreWaiting size slots
    → HaveFewBlocks (entries_from k slots)
few_from size k [] all = tt
few_from size k (None ∷ rest) all = few_from size (k + 1) rest all.1
few_from size k (Some p ∷ rest) all = (few_blocks (as_written p) all.0.whole, few_from size (k + 1) rest all.1)

part_or_none : (b : Bool) (n : ℕ) → (if b then n else 0) ≤ n
part_or_none true n = omega arith
part_or_none false n = omega arith

-- they cost no more than all that are being written
pub writes_few : (ppn : ℕ) (slots : List (Option PendingVersion)) → total (writes_in ppn) slots
    ≤ total pending_cost slots
writes_few ppn [] = omega arith
writes_few ppn (None ∷ rest) = let few = writes_few ppn rest in omega arith
writes_few ppn (Some p ∷ rest) =
    let few = writes_few ppn rest in
    let one = part_or_none (p.prime.ppn == ppn) (pending_cost (Some p)) in
    omega arith

-- Both are booked.

pub charge_fits : (size : ℕ) (c : MemoryMap) (ppn place : ℕ) (d : CurrentDirectory) → IsWholeMemory size c
    → slice_get c.known.directories place ≡ Some d
    → total cost_of_version d.versions + total (writes_in ppn) c.pending < 2 ^ 63
charge_fits size c ppn place d whole at =
    let booked = whole.booked in
    let fits = whole.fits in
    let part = total_place cost_of_directory c.known.directories place d at in
    let few = writes_few ppn c.pending in
    omega arith
