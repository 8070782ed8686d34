-- Sides are closed one by one: the versions that output sides wrote are dropped, and those that input sides read are
-- unpinned.
use Rattle.std.proofs.Common.{◌≡◌, ◌≢◌, ℕ, zero, suc, ◌+◌, ◌<◌, ◌≤◌, Bool, true, false, List, [], ◌∷◌, length, take}
use Rattle.std.proofs.Common.{get_or, Option, Some, None, refl, sym, ap, subst, ◌∙◌, ⊎_elim, arith}
use Rattle.std.specs.Prelude.{◌==◌, slice_set, filter_map, option_to_list, IsTrue, IsFalse}
use Rattle.std.proofs.lemmas.Bool.{eqb-true, eq-eqb}
use Rattle.std.specs.List.{AllByRecursion}
use Rattle.spec_machine.specs.Common.{slot}
use Rattle.spec_image.specs.Common.{times}
use Rattle.spec_image.proofs.Common.{some_none, times_head, times_other}
use Rattle.volume.specs.Common.{CurrentMap, MemoryMap, pending_at, is_creation, slot as version_at}
use Rattle.volume.specs.declared.pending.PendingVersion.{PendingVersion}
use Rattle.monitor.specs.Common.{OnlyDrops, Closes, readers_of, KeepsSides, present, IsSide, AreKeyed, side_of}
use Rattle.monitor.specs.Common.{sides_in, sides, keys_of, reader_of, pins_of, reset_job}
use Rattle.monitor.specs.declared.channel.OpenChannel.{OpenChannel}
use Rattle.monitor.specs.declared.input.Input.{Input}
use Rattle.monitor.specs.declared.output.Output.{Output}
use Rattle.monitor.specs.declared.job.Job.{Job}
use Rattle.monitor.proofs.common.ReaderLists.{held-within, held-more}
use Rattle.monitor.proofs.common.SideLists.{count, count-set, count-slot, count-more, count-within, each-set, each-slot}
use Rattle.monitor.proofs.common.SideLists.{each-as, each_counted, each-both}

-- two keys
pub same_or_not : {P : Type 0} (k key : ℕ) → (k ≡ key → P) → (k ≢ key → P) → P
same_or_not {P} k key same other = by (k == key) refl
  where
    by : (b : Bool) → (k == key) ≡ b → P
    by true e = same (eqb-true k key e)
    by false e = other (λ is. let yes = eq-eqb k key is in cc)

-- What there is stays.

pub leaves_none : (c : MemoryMap) → OnlyDrops c c
leaves_none c = record {
  stay = λ key p at. at;
  live = λ key v at. (v.readers, omega arith, at);
  unread = λ none. none;
  known = refl;
}

pub leaves_on : (a b c : MemoryMap) → OnlyDrops a b → OnlyDrops b c → OnlyDrops a c
leaves_on a b c first second = record {
  stay = λ key p at. first.stay key p (second.stay key p at);
  live = λ key v at.
      let later = second.live key v at in
      let sooner = first.live key (record v { readers = later.0 }) later.2 in
      (sooner.0, omega (arith, later.1, sooner.1), sooner.2);
  unread = λ none. second.unread (first.unread none);
  known = second.known ∙ ap (λ (k : CurrentMap). record k { table = c.known.table }) first.known;
}

pub closes_none : (c : MemoryMap) → Closes c c [] []
closes_none c = record { gone = λ key. omega arith; released = λ key. omega arith; leaves = leaves_none c }

-- one version is dropped
pub drops_one : (c c' : MemoryMap) (key : ℕ) → 1 ≤ present (pending_at c.pending key) → pending_at c'.pending key
    ≡ None → ((k : ℕ) → (k ≡ key → ⊥) → pending_at c'.pending k ≡ pending_at c.pending k) → c'.live ≡ c.live
    → c'.known ≡ record c.known { table = c'.known.table } → Closes c c' (key ∷ []) []
drops_one c c' key there gone others live known = record {
  gone = λ k. same_or_not k key
      (λ is. subst (λ (n : ℕ). present (pending_at c'.pending n) + times n (key ∷ [])
      ≡ present (pending_at c.pending n)) (sym is) (here (pending_at c.pending key) there))
      (λ apart. let none = times_other k key [] apart in let same = ap present (others k apart) in omega arith);
  released = λ k. let same = ap (λ vs. readers_of (version_at vs k)) live in omega arith;
  leaves = record {
    stay = λ k p at. same_or_not k key
        (λ is. absurd (some_none (sym at ∙ ap (pending_at c'.pending) is ∙ gone)))
        (λ apart. sym (others k apart) ∙ at);
    live = λ k v at. (v.readers, omega arith, sym (ap (λ vs. version_at vs k) live) ∙ at);
    unread = λ none k v at past. none k v (sym (ap (λ vs. version_at vs k) live) ∙ at) past;
    known = known;
  };
}
  where
    here : (o : Option PendingVersion) → 1 ≤ present o → present (pending_at c'.pending key) + times key (key ∷ [])
        ≡ present o
    here None there = absurd (omega arith)
    here (Some p) there = let none = ap present gone in let one = times_head key [] in omega arith

-- more are dropped, and unpinned
pub closes_on : (a b c : MemoryMap) (xs ys zs ps qs rs : List ℕ) → Closes a b xs ps → Closes b c ys qs
    → ((key : ℕ) → times key zs ≡ times key xs + times key ys)
    → ((key : ℕ) → times key rs ≡ times key ps + times key qs)
    → Closes a c zs rs
closes_on a b c xs ys zs ps qs rs first second all each = record {
  gone = λ key. let f = first.gone key in let s = second.gone key in let z = all key in omega arith;
  released = λ key. let f = first.released key in let s = second.released key in let z = each key in omega arith;
  leaves = leaves_on a b c first.leaves second.leaves;
}

-- what is at a place of a list doesn't depend on the default
pub get_there : {X : Type 0} (xs : List X) (i : ℕ) (a b : X) → i < length xs → get_or xs i a ≡ get_or xs i b
get_there [] i a b below = absurd (omega (arith, below))
get_there (x ∷ xs) zero a b below = refl
get_there (x ∷ xs) (suc i) a b below = get_there xs i a b (omega (arith, below))

-- The channels up to a place have closed their sides.
module _ (a b : MemoryMap) (cs : List (Option OpenChannel)) (i : ℕ) (o : Option Output) (r : Option Input) (below : i
    < length cs) (is : o ≡ side_of (get_or cs i None)) (reads : r ≡ reader_of (get_or cs i None))
    (closed : Closes a b (keys_of (filter_map side_of (take i cs))) (pins_of (filter_map reader_of (take i cs)))) where
  pub next_live : ((key : ℕ) → times key (keys_of (filter_map side_of cs)) ≤ present (pending_at a.pending key))
      → (key : ℕ) → times key (keys_of (option_to_list o)) ≤ present (pending_at b.pending key)
  next_live live key = let l = live key in let d = closed.gone key in let w = count-within key cs (i + 1) in
      let m = count-more key cs i o below is in omega arith

  pub next_held : ((key : ℕ) → times key (pins_of (filter_map reader_of cs)) ≤ readers_of (version_at a.live key))
      → (key : ℕ) → times key (pins_of (option_to_list r)) ≤ readers_of (version_at b.live key)
  next_held held key = let l = held key in let d = closed.released key in let w = held-within key cs (i + 1) in
      let m = held-more key cs i r below reads in omega arith

  pub closed_more : (c : MemoryMap) → Closes b c (keys_of (option_to_list o)) (pins_of (option_to_list r))
      → Closes a c (keys_of (filter_map side_of (take (i + 1) cs))) (pins_of (filter_map reader_of (take (i + 1) cs)))
  closed_more c next = closes_on a b c _ _ _ _ _ _ closed next (λ key. count-more key cs i o below is)
      (λ key. held-more key cs i r below reads)

-- A side that is there stays one.
pub side_stays : (old new : List (Option PendingVersion))
    → ((key : ℕ) (p : PendingVersion) → pending_at new key ≡ Some p → pending_at old key ≡ Some p)
    → (jobs : List (Option Job))
    → AllByRecursion (IsSide old) (sides jobs) → AllByRecursion (IsSide new) (sides jobs)
side_stays old new stay jobs all = each-as (IsSide old) (IsSide new)
    (λ o is. record { starts = is.starts; kind = λ p at. is.kind p (stay o.pending.key p at) }) (sides jobs) all

-- The job of a slot is another one, with no output side, and what it wrote is dropped.
pub closed_keyed : (c c' : MemoryMap) (pins : List ℕ) (jobs : List (Option Job)) (n : ℕ) (x : Option Job)
    → AreKeyed c.pending jobs → Closes c c' (keys_of (sides_in (slot jobs n))) pins → sides_in x ≡ []
    → AreKeyed c'.pending (slice_set jobs n x)
closed_keyed c c' pins jobs n x keyed closed none = record {
  once = λ key.
      let bare = ap (count key) none in
      let set = count-set key jobs n x (λ e. bare) in
      let was = keyed.once key in
      let gone = closed.gone key in
      omega arith;
  each = side_stays c.pending c'.pending closed.leaves.stay (slice_set jobs n x)
      (each-set (IsSide c.pending) jobs n x keyed.each (subst (AllByRecursion (IsSide c.pending)) (sym none) tt));
}

-- a job that is there has what it writes
pub job_live : (c : MemoryMap) (jobs : List (Option Job)) (n : ℕ) (job : Job) → AreKeyed c.pending jobs
    → slot jobs n ≡ Some job → (key : ℕ) → count key (filter_map side_of job.channels)
    ≤ present (pending_at c.pending key)
job_live c jobs n job keyed there key =
    let once = keyed.once key in
    let part = count-slot key jobs n in
    let here = ap (λ o. count key (sides_in o)) there in
    omega arith

-- a job is reset, if there is one
pub reset_keyed : (c c' : MemoryMap) (pins : List ℕ) (jobs jobs' : List (Option Job)) (n : ℕ) (result : Bool)
    → AreKeyed c.pending jobs → Closes c c' (keys_of (sides_in (slot jobs n))) pins
    → (IsTrue result → (job : Job) × (slot jobs n ≡ Some job) × (jobs' ≡ slice_set jobs n (Some (reset_job job))))
    → (IsFalse result → (slot jobs n ≡ None) × (jobs' ≡ jobs)) → AreKeyed c'.pending jobs'
reset_keyed c c' pins jobs jobs' n true keyed closed found none =
    let done = found refl in
    subst (AreKeyed c'.pending) (sym done.2) (closed_keyed c c' pins jobs n (Some (reset_job done.0)) keyed closed refl)
reset_keyed c c' pins jobs jobs' n false keyed closed found none =
    let same = none refl in
    subst (AreKeyed c'.pending) (sym same.1) (record {
      once = λ key. let gone = closed.gone key in let was = keyed.once key in
          let here = ap (λ o. count key (sides_in o)) same.0 in omega arith;
      each = side_stays c.pending c'.pending closed.leaves.stay jobs keyed.each;
    })

-- The job of a slot is another one, with the same output sides.
pub job_keyed : (pending : List (Option PendingVersion)) (jobs : List (Option Job)) (n : ℕ) (x : Option Job)
    → AreKeyed pending jobs → sides_in x ≡ sides_in (slot jobs n) → AreKeyed pending (slice_set jobs n x)
job_keyed pending jobs n x keyed same = record {
  once = λ key. let set = count-set key jobs n x (λ e. ap (count key) (same ∙ ap sides_in e)) in
      let was = keyed.once key in let alike = ap (count key) same in omega arith;
  each = each-set (IsSide pending) jobs n x keyed.each
      (subst (AllByRecursion (IsSide pending)) (sym same) (each-slot (IsSide pending) jobs n keyed.each));
}

-- The job of a slot is another one, and versions have come and gone with its output sides.
pub keeps_keyed : (pending pending' : List (Option PendingVersion)) (jobs : List (Option Job)) (n : ℕ) (job job' : Job)
    → AreKeyed pending jobs → slot jobs n ≡ Some job → KeepsSides pending pending' job job'
    → AreKeyed pending' (slice_set jobs n (Some job'))
keeps_keyed pending pending' jobs n job job' keyed there keeps = record {
  once = λ key.
      let set = count-set key jobs n (Some job') (λ e. absurd (some_none (sym there ∙ e))) in
      let was = keyed.once key in
      let kept = keeps.once key in
      let here = ap (λ o. count key (sides_in o)) there in
      omega arith;
  each = each-set (IsSide pending') jobs n (Some job') all
      (keeps.each (subst (λ o. AllByRecursion (IsSide pending') (sides_in o)) there
      (each-slot (IsSide pending') jobs n all)));
}
  where
    still : (o : Output) → IsSide pending o → 1 ≤ count o.pending.key (sides jobs) → IsSide pending' o
    still o is counted = record {
      starts = is.starts;
      kind = λ p at. ⊎_elim
          (λ none. absurd (let once = keyed.once o.pending.key in let zero = ap present none in omega arith))
          (λ (old : (q : PendingVersion) × (pending_at pending o.pending.key ≡ Some q)
          × (is_creation p ≡ is_creation q)). old.2 ∙ is.kind old.0 old.1)
          (keeps.known o.pending.key p at);
    }

    all : AllByRecursion (IsSide pending') (sides jobs)
    all = each-both (IsSide pending) (λ o. 1 ≤ count o.pending.key (sides jobs)) (IsSide pending') still
        (sides jobs) keyed.each (each_counted (sides jobs))
