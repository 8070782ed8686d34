-- Sums over what is in memory: a slot that changes, and that no more blocks are in use than are booked.
use Rattle.std.proofs.Common.{◌≡◌, ℕ, zero, suc, ◌+◌, ◌-◌, ◌<◌, ◌≤◌, ⊎_elim, Bool, true, false, cond, eqb, ltb}
use Rattle.std.proofs.Common.{if◌then◌else◌, ◌==◌, List, [], ◌∷◌, length, Option, Some, None, IfSome, slice_index_or}
use Rattle.std.proofs.Common.{refl, sym, ap, subst, ◌∙◌, arith, length-append, add-suc}
use Rattle.std.proofs.lemmas.Bool.{cases_lt}
use Rattle.std.proofs.lemmas.Bool.Decides.{nat_tests}
use Rattle.std.specs.List.{AllByRecursion}
use Rattle.spec_image.specs.Common.{sum_below, SpecFileEntry, total, times, space_start, fixed}
use Rattle.alloctab.specs.Common.{bit, holds, used, uses, used_in_space, space}
use Rattle.retrieval.specs.Common.{rib_count}
use Rattle.volume.specs.declared.live.LiveVersion.{LiveVersion}
use Rattle.volume.specs.declared.pending.PendingVersion.{PendingVersion}
use Rattle.volume.specs.Common.{CurrentVersion, CurrentDirectory, blocks_reached, reaches_in_entries, reaches_in_known}
use Rattle.volume.specs.Common.{known_reaches, cost_of_version, cost_of_directory, IsWholeVersion, IsWholeDirectory}
use Rattle.volume.specs.Common.{MemoryMap, as_known, pinned_reaches, pinned_cost, pending_reaches, pending_cost}
use Rattle.volume.specs.Common.{growths}
use Rattle.volume.specs.Common.{IsWholePending, IsWholeMemory}
use Rattle.spec_image.proofs.Common.{below_sum, below_none}
use Rattle.retrieval.proofs.HeldBlocks.{sum_le}

-- A slot that is another.

module _ {X : Type 0} (f : Option X → ℕ) (none : f None ≡ 0) where
  total_none : (xs : List (Option X)) → ((k : ℕ) → slice_index_or xs k None ≡ None) → total f xs ≡ 0
  total_none [] all = refl
  total_none (x ∷ xs) all =
      let here = ap f (all 0) ∙ none in
      let rest = total_none xs (λ k. all (suc k)) in
      omega arith

  total_same : (old new : List (Option X)) → ((k : ℕ) → slice_index_or new k None ≡ slice_index_or old k None)
      → total f new ≡ total f old
  total_same [] new same = total_none new same
  total_same (x ∷ xs) [] same = sym (total_none (x ∷ xs) (λ k. sym (same k)))
  total_same (x ∷ xs) (y ∷ ys) same =
      let here : f y ≡ f x = ap f (same 0) in
      let rest = total_same xs ys (λ k. same (suc k)) in
      omega arith

  updated : (old new : List (Option X)) (key : ℕ)
      → ((k : ℕ) → (k ≡ key → ⊥) → slice_index_or new k None ≡ slice_index_or old k None)
      → total f new + f (slice_index_or old key None) ≡ total f old + f (slice_index_or new key None)
  updated [] [] key others = refl
  updated [] (y ∷ ys) zero others =
      let rest = total_none ys (λ k. others (suc k) (λ same. absurd (omega arith))) in
      omega arith
  updated [] (y ∷ ys) (suc key) others =
      let here : f y ≡ 0 = ap f (others 0 (λ same. absurd (omega arith))) ∙ none in
      let rest = updated [] ys key (λ k apart. others (suc k) (λ same. apart (omega arith))) in
      omega arith
  updated (x ∷ xs) [] zero others =
      let rest = total_none xs (λ k. sym (others (suc k) (λ same. absurd (omega arith)))) in
      omega arith
  updated (x ∷ xs) [] (suc key) others =
      let here : f x ≡ 0 = ap f (sym (others 0 (λ same. absurd (omega arith)))) ∙ none in
      let rest = updated xs [] key (λ k apart. others (suc k) (λ same. apart (omega arith))) in
      omega arith
  updated (x ∷ xs) (y ∷ ys) zero others =
      let rest = total_same xs ys (λ k. others (suc k) (λ same. absurd (omega arith))) in
      omega arith
  updated (x ∷ xs) (y ∷ ys) (suc key) others =
      let here : f y ≡ f x = ap f (others 0 (λ same. absurd (omega arith))) in
      let rest = updated xs ys key (λ k apart. others (suc k) (λ same. apart (omega arith))) in
      omega arith

pub total_updated : {X : Type 0} (f : Option X → ℕ) → f None ≡ 0 → (old new : List (Option X)) (key : ℕ) (x : Option X)
    → slice_index_or new key None ≡ x
    → ((k : ℕ) → (k ≡ key → ⊥) → slice_index_or new k None ≡ slice_index_or old k None)
    → total f new + f (slice_index_or old key None) ≡ total f old + f x
total_updated f none old new key x is others = let e = updated f none old new key others in let s = ap f is in
    omega arith

-- Sums over k blocks from s.

test_one : (a x : ℕ) → cond {A = ℕ} (eqb a x) 1 0 + cond (ltb x a) 1 0 ≤ cond (ltb x (suc a)) 1 0
test_one a x = grind (arith, nat_tests)

stretch_one : (s x k : ℕ) → sum_below (λ i. cond (eqb (s + i) x) 1 0) k ≤ cond (ltb x (s + k)) 1 0
stretch_one s x zero = omega arith
stretch_one s x (suc k) = let r = stretch_one s x k in let t = test_one (s + k) x in rw (add-suc s k) (omega arith)

cond_few : (b : Bool) → cond {A = ℕ} b 1 0 ≤ 1
cond_few true = omega arith
cond_few false = omega arith

-- the numbers of a list, counted one by one
stretch_times : (s k : ℕ) (xs : List ℕ) → sum_below (λ i. times (s + i) xs) k ≤ length xs
stretch_times s k [] = omega (arith, below_none k)
stretch_times s k (x ∷ xs) =
    let r = stretch_times s k xs in
    let one = stretch_one s x k in
    let few = cond_few (ltb x (s + k)) in
    let parts = below_sum (λ i. cond (eqb (s + i) x) 1 0) (λ i. times (s + i) xs) k in
    omega arith

-- a version's blocks are no more than it costs
version_reaches : (prime : ℕ) (v : CurrentVersion) → IsWholeVersion v
    → length (blocks_reached prime v.version) ≤ cost_of_version v
version_reaches prime v whole =
    let few = whole.few_ribs in
    let parts = length-append v.version.ribs v.version.blocks in
    omega arith

stretch_version : (s k prime : ℕ) (v : CurrentVersion) → IsWholeVersion v
    → sum_below (λ i. times (s + i) (blocks_reached prime v.version)) k ≤ cost_of_version v
stretch_version s k prime v whole =
    let one = stretch_times s k (blocks_reached prime v.version) in
    let few = version_reaches prime v whole in
    omega arith

stretch_entries : (s k : ℕ) (es : List SpecFileEntry) (vs : List CurrentVersion) → AllByRecursion IsWholeVersion vs
    → sum_below (λ i. reaches_in_entries (s + i) es vs) k ≤ total cost_of_version vs
stretch_entries s k [] vs all = omega (arith, below_none k)
stretch_entries s k (e ∷ es) [] all = omega (arith, below_none k)
stretch_entries s k (e ∷ es) (v ∷ vs) all =
    let one = stretch_version s k e.1 v all.0 in
    let rest = stretch_entries s k es vs all.1 in
    let parts = below_sum (λ i. times (s + i) (blocks_reached e.1 v.version))
    (λ i. reaches_in_entries (s + i) es vs) k in
    omega arith

stretch_directory : (size s k : ℕ) (d : CurrentDirectory) → IsWholeDirectory size d
    → sum_below (λ i. reaches_in_known (s + i) d) k ≤ cost_of_directory d
stretch_directory size s k d whole =
    let chain = stretch_times s k d.chain.blocks in
    let entries = stretch_entries s k d.chain.entries d.versions whole.versions in
    let parts = below_sum (λ i. times (s + i) d.chain.blocks)
    (λ i. reaches_in_entries (s + i) d.chain.entries d.versions) k in
    omega arith

-- a sum over a list in each block of the stretch
stretch_total : {X : Type 0} (P : X → Type 0) (s k : ℕ) (g : ℕ → X → ℕ) (f : X → ℕ)
    → ((x : X) → P x → sum_below (λ i. g (s + i) x) k ≤ f x) → (xs : List X) → AllByRecursion P xs
    → sum_below (λ i. total (g (s + i)) xs) k ≤ total f xs
stretch_total P s k g f each [] all = omega (arith, below_none k)
stretch_total P s k g f each (x ∷ xs) all =
    let one = each x all.0 in
    let rest = stretch_total P s k g f each xs all.1 in
    let parts = below_sum (λ i. g (s + i) x) (λ i. total (g (s + i)) xs) k in
    omega arith

stretch_held : (s k : ℕ) (o : Option LiveVersion) → IfSome o (λ v. IsWholeVersion (as_known v))
    → sum_below (λ i. pinned_reaches (s + i) o) k ≤ pinned_cost o
stretch_held s k None whole = omega (arith, below_none k)
stretch_held s k (Some v) whole = by v.is_current refl
  where
    by : (b : Bool) → v.is_current ≡ b → sum_below (λ i. pinned_reaches (s + i) (Some v)) k ≤ pinned_cost (Some v)
    by true is = rw is (omega (arith, below_none k))
    by false is = rw is (stretch_version s k v.at (as_known v) whole)

-- the blocks of a version that is being written
abbrev pub pending_blocks : Option PendingVersion → ℕ
pending_blocks None = 0
pending_blocks (Some p) = length p.version.blocks

stretch_pending : (size s k : ℕ) (o : Option PendingVersion) → IfSome o (IsWholePending size)
    → sum_below (λ i. pending_reaches (s + i) o) k ≤ pending_blocks o
stretch_pending size s k None whole = omega (arith, below_none k)
stretch_pending size s k (Some p) whole = stretch_times s k p.version.blocks

-- they cost a block more each, for the prime block

waiting_cost : (pending : List (Option PendingVersion)) → total pending_blocks pending ≤ total pending_cost pending
waiting_cost [] = omega arith
waiting_cost (None ∷ os) = let rest = waiting_cost os in omega arith
waiting_cost (Some p ∷ os) = let rest = waiting_cost os in omega arith

waiting_one : (pending : List (Option PendingVersion)) (key : ℕ) (p : PendingVersion)
    → slice_index_or pending key None ≡ Some p → total pending_blocks pending + 1 ≤ total pending_cost pending
waiting_one [] key p is = cc
waiting_one (None ∷ os) zero p is = cc
waiting_one (None ∷ os) (suc key) p is = let rest = waiting_one os key p is in omega arith
waiting_one (Some q ∷ os) zero p is = let rest = waiting_cost os in omega arith
waiting_one (Some q ∷ os) (suc key) p is = let rest = waiting_one os key p is in omega arith

-- and as many more as they have ribs
waiting_ribs : (pending : List (Option PendingVersion)) (key : ℕ) (p : PendingVersion) → slice_index_or pending key None
    ≡ Some p → total pending_blocks pending + (1 + rib_count (length p.version.blocks)) ≤ total pending_cost pending
waiting_ribs [] key p is = cc
waiting_ribs (None ∷ os) zero p is = cc
waiting_ribs (None ∷ os) (suc key) p is = let rest = waiting_ribs os key p is in omega arith
waiting_ribs (Some q ∷ os) zero p is =
    let rest = waiting_cost os in
    let same : q ≡ p = cc in
    let blocks = ap (λ (x : PendingVersion). length x.version.blocks) same in
    subst (λ (n : ℕ). total pending_blocks (Some q ∷ os) + (1 + rib_count n) ≤ total pending_cost (Some q ∷ os)) blocks
    (omega arith)
waiting_ribs (Some q ∷ os) (suc key) p is = let rest = waiting_ribs os key p is in omega arith

-- What is in use.

past_fixed : (size i : ℕ) → fixed size (space_start size + i) ≡ 0
past_fixed size i = grind (arith, nat_tests)

same_stretch : (f g : ℕ → ℕ) (k : ℕ) → ((i : ℕ) → f i ≡ g i) → sum_below f k ≡ sum_below g k
same_stretch f g zero same = refl
same_stretch f g (suc k) same = let a = same k in let r = same_stretch f g k same in omega arith

uses_by : (size : ℕ) (c : MemoryMap) → IsWholeMemory size c → (more : ℕ)
    → total pending_blocks c.pending + more ≤ growths c.pending c.known.master.entries c.known.directories
    + total pending_cost c.pending → uses c.known.table + more ≤ c.known.table.booked
uses_by size c whole more waits =
    let t = c.known.table in
    let s = space_start t.size in
    let k = space t.size in
    let bits = whole.map.bits in
    let master = c.known.master in
    let directories = c.known.directories in
    let set : (i : ℕ) → bit t (s + i) ≡ known_reaches (s + i) master directories = λ i.
    let at = bits (s + i) in
    let none = past_fixed t.size i in
    let size_is = ap (λ n. fixed n (s + i)) whole.map.size_is in
    omega arith in
    let parts = below_sum (λ i. bit t (s + i)) (λ i. holds t (s + i)) k in
    let sets = same_stretch (λ i. bit t (s + i)) (λ i. known_reaches (s + i) master directories) k set in
    let helds = same_stretch (λ i. holds t (s + i)) (λ i. total (pinned_reaches (s + i)) c.live
    + total (pending_reaches (s + i)) c.pending) k (λ i. whole.held (s + i)) in
    let apart = below_sum (λ i. total (pinned_reaches (s + i)) c.live) (λ i. total (pending_reaches (s + i)) c.pending)
    k in
    let waiting = stretch_total (λ o. IfSome o (IsWholePending size)) s k pending_reaches pending_blocks
    (stretch_pending size s k) c.pending whole.waiting in
    let chain = stretch_times s k master.blocks in
    let each = stretch_total (IsWholeDirectory size) s k reaches_in_known cost_of_directory
    (λ d is. stretch_directory size s k d is) directories whole.map.each in
    let both = below_sum (λ i. times (s + i) master.blocks) (λ i. total (reaches_in_known (s + i)) directories) k in
    let held = stretch_total (λ o. IfSome o (λ v. IsWholeVersion (as_known v))) s k pinned_reaches pinned_cost
    (stretch_held s k) c.live whole.standing in
    let booked = whole.booked in
    omega arith

-- as many blocks are booked as blocks of the free space are set or held
pub memory_uses : (size : ℕ) (c : MemoryMap) → IsWholeMemory size c → uses c.known.table ≤ c.known.table.booked
memory_uses size c whole = let few = waiting_cost c.pending in let all = uses_by size c whole 0 (omega arith) in
    omega arith

-- and one more if a version is being written
pub memory_uses_one : (size : ℕ) (c : MemoryMap) → IsWholeMemory size c → (key : ℕ) (p : PendingVersion)
    → slice_index_or c.pending key None ≡ Some p → uses c.known.table + 1 ≤ c.known.table.booked
memory_uses_one size c whole key p is = let one = waiting_one c.pending key p is in uses_by size c whole 1 (omega arith)

-- and as many as it still needs, with what the directories grow by
pub memory_uses_more : (size : ℕ) (c : MemoryMap) → IsWholeMemory size c → (key : ℕ) (p : PendingVersion)
    → slice_index_or c.pending key None ≡ Some p → (more : ℕ)
    → more ≤ growths c.pending c.known.master.entries c.known.directories
    → uses c.known.table + (more + (1 + rib_count (length p.version.blocks))) ≤ c.known.table.booked
memory_uses_more size c whole key p is more few = let ribs = waiting_ribs c.pending key p is in
    uses_by size c whole (more + (1 + rib_count (length p.version.blocks))) (omega arith)

-- and as many as the directories grow by
pub memory_uses_grown : (size : ℕ) (c : MemoryMap) → IsWholeMemory size c → (more : ℕ)
    → more ≤ growths c.pending c.known.master.entries c.known.directories
    → uses c.known.table + more ≤ c.known.table.booked
memory_uses_grown size c whole more few = let rest = waiting_cost c.pending in uses_by size c whole more (omega arith)

stretch_at : (f : ℕ → ℕ) (k i : ℕ) → i < k → f i ≤ sum_below f k
stretch_at f zero i below = absurd (omega arith)
stretch_at f (suc k) i below = ⊎_elim (λ less. let r = stretch_at f k i less in
    omega arith) (λ past. let same : i ≡ k = omega arith in let here = ap f same in omega arith) (cases_lt i k)

-- a block is held no more often than blocks are booked
pub memory_holds : (size : ℕ) (c : MemoryMap) → IsWholeMemory size c → (n : ℕ)
    → holds c.known.table n ≤ c.known.table.booked
memory_holds size c whole n = ⊎_elim
    (λ some.
    let t = c.known.table in
    let inside = whole.inside n some in
    let from = inside.from in
    let below = inside.below in
    let same = whole.map.size_is in
    let starts = ap space_start same in
    let i = n - space_start t.size in
    let place : space_start t.size + i ≡ n = omega arith in
    let part = stretch_at (λ k. bit t (space_start t.size + k) + holds t (space_start t.size + k)) (space t.size) i
    (omega arith) in
    let here = ap (holds t) place in
    let all = memory_uses size c whole in
    omega arith)
    (λ none. omega arith) (cases_lt 0 (holds c.known.table n))

used_once : (b h : ℕ) → (if b + h == 0 then 0 else 1) ≤ b + h
used_once zero zero = grind (arith, nat_tests)
used_once zero (suc h) = grind (arith, nat_tests)
used_once (suc b) h = grind (arith, nat_tests)

-- no more blocks are in use than each time counted
pub memory_used : (size : ℕ) (c : MemoryMap) → IsWholeMemory size c → used_in_space c.known.table ≤ uses c.known.table
memory_used size c whole =
    let t = c.known.table in
    let s = space_start t.size in
    sum_le (λ i. used t (s + i)) (λ i. bit t (s + i) + holds t (s + i)) (space t.size)
    (λ i. used_once (bit t (s + i)) (holds t (s + i)))
