-- A version that is being written has other blocks: what is in memory stays whole.
use Rattle.std.proofs.Common.{◌≡◌, ◌⊎◌, ⊎_elim, inl, inr, ℕ, ◌+◌, ◌<◌, ◌≤◌, List, [], ◌∷◌, length, slice_set, Option}
use Rattle.std.proofs.Common.{Some, None, IfSome, refl, sym, ap, subst, ◌∙◌, arith}
use Rattle.std.proofs.lemmas.Bool.{cases_eq, cases_lt}
use Rattle.spec_image.specs.Common.{directory_cost, SpecMasterEntry, InSpace, total, times}
use Rattle.spec_image.proofs.Common.{some_same, each_times}
use Rattle.alloctab.specs.Common.{TableState, IsFree, bit, holds}
use Rattle.retrieval.specs.Common.{VersionState}
use Rattle.retrieval.specs.declared.prime.Prime.{Prime}
use Rattle.volume.specs.Common.{CurrentDirectory, reaches_in_known, prime_in, MemoryMap, pending_at, pending_reaches}
use Rattle.volume.specs.Common.{pending_cost, creates, growths, IsWholePending, IsApart, IsWholeMemory, IsReady}
use Rattle.volume.specs.Common.{Regrows, Regrown}
use Rattle.volume.specs.declared.pending.PendingVersion.{PendingVersion}
use Rattle.volume.proofs.common.LiveTotals.{total_updated, memory_uses_one}
use Rattle.volume.proofs.common.TableBits.{whole_fixed}
use Rattle.volume.proofs.common.OnePlace.{first_set}
use Rattle.volume.proofs.PinVersion.Pins.{each_slot, total_at, all_updated, counts_whole}
use Rattle.volume.proofs.PublishVersion.Slots.{set_here}

-- directories grow by as many entries as before
growths_same : (old new : List (Option PendingVersion))
    → ((ppn : ℕ) → total (creates ppn) new ≡ total (creates ppn) old)
    → (es : List SpecMasterEntry) (ds : List CurrentDirectory) → growths new es ds ≡ growths old es ds
growths_same old new same [] ds = refl
growths_same old new same (e ∷ es) [] = refl
growths_same old new same (e ∷ es) (d ∷ ds) =
    let here = ap (λ (n : ℕ). directory_cost (length d.chain.entries + n)) (same e.0) in
    let rest = growths_same old new same es ds in
    omega arith

-- a directory's chain is a part of what it reaches
pub chains_within : (n : ℕ) (ds : List CurrentDirectory) → total (λ (d : CurrentDirectory). times n d.chain.blocks) ds
    ≤ total (reaches_in_known n) ds
chains_within n [] = omega arith
chains_within n (d ∷ ds) = let rest = chains_within n ds in omega arith

module _ (size : ℕ) (c : MemoryMap) (whole : IsWholeMemory size c) (key : ℕ) (p : PendingVersion)
    (was : pending_at c.pending key ≡ Some p) where
  pub waits : IsWholePending size p
  waits = subst (λ o. IfSome o (IsWholePending size)) was
      (each_slot (λ o. IfSome o (IsWholePending size)) tt c.pending whole.waiting key)

  -- words can be put into it
  pub ready : IsReady size c.known.table p.version
  ready = record {
    fixed = whole_fixed size c.known whole.map;
    inside = waits.inside;
    counted = waits.whole.counted;
    few = waits.whole.few;
    held = λ n.
        let part = total_at (pending_reaches n) refl c.pending key in
        let here = ap (pending_reaches n) was in
        let all = whole.held n in
        omega arith;
    used = let one = memory_uses_one size c whole key p was in omega arith;
    cost =
        let part = total_at pending_cost refl c.pending key in
        let here = ap pending_cost was in
        let all = whole.booked in
        omega arith;
    within =
        let part = total_at pending_cost refl c.pending key in
        let here = ap pending_cost was in
        whole.within (omega arith);
  }

  module _ (t : TableState) (pending : List (Option PendingVersion)) (v : VersionState)
      (is : Regrown size c.known.table t pending key p v)
      (others : (k : ℕ) → (k ≡ key → ⊥) → pending_at pending k ≡ pending_at c.pending k) where
    grown : Regrows size c.known.table t p.version v
    grown = is.1

    new_total : (f : Option PendingVersion → ℕ) → f None ≡ 0
        → total f pending + f (Some p) ≡ total f c.pending + f (Some (record p { version = v }))
    new_total f none =
        let all = total_updated f none c.pending pending key (Some (record p { version = v })) is.0 others in
        let here = ap f was in
        omega arith

    new_creates : (ppn : ℕ) → total (creates ppn) pending ≡ total (creates ppn) c.pending
    new_creates ppn =
        let all = new_total (creates ppn) refl in
        let same : creates ppn (Some (record p { version = v })) ≡ creates ppn (Some p) = refl in
        omega arith

    new_waits : IsWholePending size (record p { version = v })
    new_waits = record {
      whole = record {
        counted = grown.counted;
        few = grown.few;
        few_ribs = let none = ap (λ (l : List ℕ). length l) (grown.ribs ∙ waits.bare) in omega arith;
      };
      inside = grown.inside;
      bare = grown.ribs ∙ waits.bare;
    }

    -- a block that is held was held, or its bit was clear and it is one of the version
    held_or_new : (n : ℕ) → 0 < holds t n → (0 < holds c.known.table n)
        ⊎ ((bit c.known.table n ≡ 0) × (0 < times n v.blocks))
    held_or_new n some = ⊎_elim
        (λ was_held. inl was_held)
        (λ unheld.
        let sum = grown.held n in
        let part = ready.held n in
        let stands : 0 < times n v.blocks = omega arith in
        ⊎_elim (λ fewer. absurd (omega arith)) (λ free. inr (free.0.clear, stands)) (grown.adds n))
        (cases_lt 0 (holds c.known.table n))

    -- one whose bit is clear is in no chain
    clear_apart : (n : ℕ) → bit c.known.table n ≡ 0
        → times n c.known.master.blocks + total (λ d. times n d.chain.blocks) c.known.directories ≡ 0
    clear_apart n clear =
        let is = whole.map.bits n in
        let most = chains_within n c.known.directories in
        omega arith

    -- A block of it is one that it had, or one that no version had.

    abbrev new_memory : MemoryMap
    new_memory = record c {
      known = record c.known { table = record c.known.table { held = t.held; booked = t.booked } };
      pending = pending;
    }

    new_block : (n : ℕ) → 0 < times n v.blocks → (0 < times n p.version.blocks) ⊎ IsFree c.known.table n
    new_block n there = ⊎_elim (λ fewer. inl (omega arith)) (λ free. inr free.0) (grown.adds n)

    -- the blocks of what is being written are held
    has_held : (k : ℕ) (q : PendingVersion) → pending_at c.pending k ≡ Some q → (n : ℕ) → 0 < times n q.version.blocks
        → IsFree c.known.table n → ⊥
    has_held k q at n there free =
        let part = total_at (pending_reaches n) refl c.pending k in
        let here = ap (pending_reaches n) at in
        let all = whole.held n in
        let none = free.unheld in
        absurd (omega arith)

    -- each version that is being written now was, with blocks that it had, or free ones in the one under the key
    was_written : (k : ℕ) (q : PendingVersion) → pending_at pending k ≡ Some q
        → (r : PendingVersion) × (pending_at c.pending k ≡ Some r) × (q.prime ≡ r.prime)
        × ((n : ℕ) → 0 < times n q.version.blocks → (0 < times n r.version.blocks) ⊎ (IsFree c.known.table n
        × (k ≡ key)))
        × ((n : ℕ) → times n q.version.blocks ≤ 1)
    was_written k q at = ⊎_elim
        (λ (same : k ≡ key).
        let of : record p { version = v } ≡ q = some_same (sym is.0 ∙ sym (ap (pending_at pending) same) ∙ at) in (
          p,
          ap (pending_at c.pending) same ∙ was,
          sym (ap (λ (x : PendingVersion). x.prime) of),
          λ n there. ⊎_elim (λ had. inl had) (λ free. inr (free, same))
              (new_block n (subst (λ (x : PendingVersion). 0 < times n x.version.blocks) (sym of) there)),
          λ n. subst (λ (x : PendingVersion). times n x.version.blocks ≤ 1) of (new_once n),
        ))
        (λ other. (
          q,
          sym (others k other) ∙ at,
          refl,
          λ n there. inl there,
          (whole.own k q (sym (others k other) ∙ at)).once,
        )) (cases_eq k key)
      where
        new_once : (n : ℕ) → times n v.blocks ≤ 1
        new_once n = ⊎_elim (λ fewer. let few = (whole.own key p was).once n in omega arith) (λ free. free.1)
            (grown.adds n)

    new_own : (k : ℕ) (q : PendingVersion) → pending_at pending k ≡ Some q → IsApart new_memory q
    new_own k q at =
        let old = was_written k q at in
        let apart = whole.own k old.0 old.1 in
        record {
          once = old.4;
          shared = λ n there set. ⊎_elim
              (λ had.
              let v = apart.shared n had set in (
                v.0,
                record {
                  key = v.1.key;
                  there = v.1.there;
                  current = v.1.current;
                  at = (λ i. prime_in c.known.master.entries c.known.directories (old.2 i).ppn (old.2 i).file) ∙ v.1.at;
                },
                v.2,
              ))
              (λ free. absurd (let clear = free.0.clear in omega arith)) (old.3 n there);
          places = λ j r r_at n mine its.
              let other = was_written j r r_at in
              ⊎_elim
              (λ had. ⊎_elim
              (λ has.
              let same = apart.places j other.0 other.1 n had has in (
                ap (λ (x : Prime). x.ppn) old.2 ∙ same.0 ∙ sym (ap (λ (x : Prime). x.ppn) other.2),
                ap (λ (x : Prime). x.file) old.2 ∙ same.1 ∙ sym (ap (λ (x : Prime). x.file) other.2),
              ))
              (λ free. absurd (has_held k old.0 old.1 n had free.0)) (other.3 n its))
              (λ free. ⊎_elim (λ has. absurd (has_held j other.0 other.1 n has free.0))
              (λ also.
              let one : q ≡ r = some_same (sym at ∙ ap (pending_at pending) (free.1 ∙ sym also.1) ∙ r_at) in
              (ap (λ (x : PendingVersion). x.prime.ppn) one, ap (λ (x : PendingVersion). x.prime.file) one))
              (other.3 n its)) (old.3 n mine);
        }

    regrown_whole : IsWholeMemory size
        (record c {
          known = record c.known { table = record c.known.table { held = t.held; booked = t.booked } };
          pending = pending;
        })
    regrown_whole = record {
      map = counts_whole size c.known t.held t.booked whole.map;
      keyed = whole.keyed;
      standing = whole.standing;
      waiting = all_updated (λ o. IfSome o (IsWholePending size)) c.pending pending key others tt whole.waiting
          (subst (λ o. IfSome o (IsWholePending size)) (sym is.0) new_waits);
      current = whole.current;
      housed = λ ppn absent. new_creates ppn ∙ whole.housed ppn absent;
      held = λ n.
          let all = new_total (pending_reaches n) refl in
          let sum = grown.held n in
          let before = whole.held n in
          omega arith;
      own = new_own;
      inside = λ n some. ⊎_elim (λ old. whole.inside n old)
          (λ new. each_times (InSpace size) v.blocks n grown.inside new.1) (held_or_new n some);
      apart = λ n some. ⊎_elim (λ old. whole.apart n old) (λ new. clear_apart n new.0) (held_or_new n some);
      primes = λ k u there current. ⊎_elim
          (λ some. absurd (let none = whole.primes k u there current in
          let set = first_set size c whole k u there current in
          ⊎_elim (λ old. omega arith) (λ new. let clear = new.0 in omega arith) (held_or_new u.at some)))
          (λ few. omega arith) (cases_lt 0 (holds t u.at));
      fits = let few = grown.within in let large = whole.map.volume.large in omega arith;
      beyond = λ some. let few = grown.within in omega arith;
      within = λ some. grown.within;
      booked =
          let all = new_total pending_cost refl in
          let sum = grown.booked in
          let before = whole.booked in
          let same = growths_same c.pending pending new_creates c.known.master.entries c.known.directories in
          omega arith;
    }

    pub put_whole : IsWholeMemory size (record c { known = record c.known { table = t }; pending = pending })
    put_whole = subst (λ (u : TableState). IsWholeMemory size
        (record c { known = record c.known { table = u }; pending = pending })) (sym grown.table) regrown_whole

-- One version in its slot.

-- as it was
pub regrows_same : (size : ℕ) (t : TableState) (v : VersionState) → IsReady size t v → Regrows size t t v v
regrows_same size t v is = record {
  counted = is.counted;
  few = is.few;
  ribs = refl;
  inside = is.inside;
  adds = λ n. inl (omega arith);
  table = refl;
  held = λ n. refl;
  booked = refl;
  within = is.within;
}

module _ (slots : List (Option PendingVersion)) (key : ℕ) (q p : PendingVersion) (got : Some q
    ≡ pending_at slots key) (was : pending_at slots key ≡ Some p) where
  pub same_version : q ≡ p
  same_version = let both : Some q ≡ Some p = got ∙ was in cc

  pub now_put : (v : VersionState) → pending_at (slice_set slots key (Some (record q { version = v }))) key
      ≡ Some (record p { version = v })
  now_put v = set_here slots key q (Some (record q { version = v })) (sym got)
      ∙ ap (λ (u : PendingVersion). Some (record u { version = v })) same_version

  pub regrown_same : (size : ℕ) (t : TableState) → IsReady size t p.version → (v : VersionState)
      × Regrown size t t (slice_set slots key (Some q)) key p v
  regrown_same size t is = (
    p.version,
    (
      set_here slots key q (Some q) (sym got) ∙ ap (λ (u : PendingVersion). Some u) same_version,
      regrows_same size t p.version is,
    ),
  )
