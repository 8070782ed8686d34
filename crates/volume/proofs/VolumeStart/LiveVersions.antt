-- A map that was read is whole in memory: all of its versions are current, and none is pinned.
use Rattle.std.proofs.Common.{◌≡◌, ℕ, ◌^◌, ◌<◌, ◌≤◌, Bool, List, [], ◌∷◌, length, replicate, slice_index, Option}
use Rattle.std.proofs.Common.{Some, None, IfSome, if◌then◌else◌, refl, sym, ap, subst, ◌∙◌, arith, ⊎_elim}
use Rattle.std.proofs.lemmas.Bool.{cases_lt}
use Rattle.std.proofs.lemmas.List.{get_or-replicate, get_or_past, length-replicate}
use Rattle.std.specs.List.{AllByRecursion, AllZip}
use Rattle.spec_image.specs.Common.{total, times, cost_of_blocks, SpecMasterEntry}
use Rattle.spec_image.proofs.Common.{some_none}
use Rattle.alloctab.specs.Common.{holds}
use Rattle.volume.specs.declared.live.LiveVersion.{LiveVersion}
use Rattle.volume.specs.Common.{CurrentMap, CurrentDirectory, blocks_reached, cost_of_known, IsWholeMap, IsBooked}
use Rattle.volume.specs.Common.{MemoryMap, pending_at, IsKeyed, IsFirstRead, AreStanding, pinned_reaches, pinned_cost}
use Rattle.volume.specs.Common.{current_reaches, entry_reaches, pending_reaches, pending_cost, creates, growths}
use Rattle.volume.specs.Common.{cost_beyond, AreWaiting, IsWholeMemory}
use Rattle.volume.proofs.common.Answers.{map_few}

replicate_none : (n i : ℕ) → slice_index (replicate n 0) i ≡ 0
replicate_none n i = ⊎_elim (λ below. get_or-replicate n i 0 0 below)
    (λ past. get_or_past (replicate n 0) i 0 (subst (λ (k : ℕ). k ≤ i) (sym (length-replicate {A = ℕ} n 0)) past))
    (cases_lt i n)

all_standing : (live : List (Option LiveVersion)) → AllByRecursion (λ o. IfSome o IsFirstRead) live → AreStanding live
all_standing [] all = tt
all_standing (None ∷ os) all = (tt, all_standing os all.1)
all_standing (Some v ∷ os) all = (all.0.whole, all_standing os all.1)

pub none_held : (n : ℕ) (live : List (Option LiveVersion)) → AllByRecursion (λ o. IfSome o IsFirstRead) live
    → total (pinned_reaches n) live ≡ 0
none_held n [] all = refl
none_held n (None ∷ os) all = let rest = none_held n os all.1 in omega arith
none_held n (Some v ∷ os) all = let here : pinned_reaches n (Some v) ≡ 0 = ap (λ (b : Bool). if b then 0
    else times n (blocks_reached v.at v.version)) all.0.current in let rest = none_held n os all.1 in omega arith

pub none_costs : (live : List (Option LiveVersion)) → AllByRecursion (λ o. IfSome o IsFirstRead) live
    → total pinned_cost live ≡ 0
none_costs [] all = refl
none_costs (None ∷ os) all = let rest = none_costs os all.1 in omega arith
none_costs (Some v ∷ os) all = let here : pinned_cost (Some v) ≡ 0 = ap (λ (b : Bool). if b then 0
    else cost_of_blocks (length v.version.blocks)) all.0.current in let rest = none_costs os all.1 in omega arith

no_growths : (es : List SpecMasterEntry) (ds : List CurrentDirectory) → growths [] es ds ≡ 0
no_growths [] ds = refl
no_growths (e ∷ es) [] = refl
no_growths (e ∷ es) (d ∷ ds) = let rest = no_growths es ds in omega arith

pub none_beyond : (c : MemoryMap) → AllByRecursion (λ o. IfSome o IsFirstRead) c.live → c.pending ≡ []
    → cost_beyond c ≡ 0
none_beyond c read none =
    let growth = ap (λ p. growths p c.known.master.entries c.known.directories) none
    ∙ no_growths c.known.master.entries c.known.directories in
    let held = none_costs c.live read in
    let waits = ap (total pending_cost) none in
    omega arith

pub kept_whole : (size : ℕ) (k : CurrentMap) (c : MemoryMap) → IsWholeMap size k → IsBooked size k → c.known ≡ k
    → AllZip (IsKeyed c.live) c.known.directories c.keys → AllByRecursion (λ o. IfSome o IsFirstRead) c.live
    → c.pending ≡ [] → ((n : ℕ) → total (current_reaches n) c.live ≡ entry_reaches n c.known.directories)
    → IsWholeMemory size c
kept_whole size k c whole booked same keyed read none current =
    let unheld : (n : ℕ) → holds c.known.table n ≡ 0 = λ n. ap (λ (x : CurrentMap). holds x.table n) same
    ∙ ap (λ l. slice_index l n) booked.unheld ∙ replicate_none size n in
    record {
      map = subst (IsWholeMap size) (sym same) whole;
      keyed = keyed;
      standing = all_standing c.live read;
      waiting = subst (AreWaiting size) (sym none) tt;
      current = current;
      housed = λ ppn absent. ap (total (creates ppn)) none;
      held = λ n. let held = none_held n c.live read in let waits = ap (total (pending_reaches n)) none in
          let free = unheld n in omega arith;
      own = λ key p at. absurd (some_none (sym at ∙ ap (λ ps. pending_at ps key) none));
      inside = λ n some. let none = unheld n in absurd (omega arith);
      apart = λ n some. let none = unheld n in absurd (omega arith);
      primes = λ key v there file. unheld v.at;
      beyond = λ some. absurd (let beyond = none_beyond c read none in omega arith);
      within = λ some. absurd (let waits = ap (total pending_cost) none in omega arith);
      fits = subst (λ (x : CurrentMap). x.table.booked < 2 ^ 63) (sym same) (map_few size k whole booked);
      booked = let b = subst (λ (x : CurrentMap). x.table.booked ≡ cost_of_known x.master x.directories)
          (sym same) booked.booked in let beyond = none_beyond c read none in omega arith;
    }
