-- What versions that are being written share, if one begins with the blocks of its file, and if one becomes it.
use Rattle.std.proofs.Common.{◌≡◌, ◌⊎◌, inl, inr, ⊎_elim, ℕ, ◌+◌, ◌<◌, ◌≤◌, Bool, true, if◌then◌else◌, List, ◌∷◌}
use Rattle.std.proofs.Common.{◌++◌, Option, Some, None, option_map, refl, sym, ap, subst, ◌∙◌, arith}
use Rattle.std.proofs.lemmas.Bool.{cases_eq, cases_lt}
use Rattle.words36.specs.declared.names.FileName.{FileName}
use Rattle.spec_image.specs.declared.put.Put.{Put}
use Rattle.spec_image.specs.Common.{InSpace, total, times}
use Rattle.spec_image.proofs.Common.{fixed_below, some_same, some_none, times-append}
use Rattle.alloctab.specs.Common.{IsTable, bit}
use Rattle.changeset.specs.Common.{some_or_none}
use Rattle.volume.specs.Common.{blocks_reached, given_up, prime_in, MemoryMap, as_known, slot, pending_at}
use Rattle.volume.specs.Common.{current_reaches, pending_reaches, IsApart, IsCurrentAt, IsWholeMemory, Entered, before}
use Rattle.volume.specs.Common.{IsEnded, HasOtherKey, MakesCurrent}
use Rattle.volume.specs.declared.live.LiveVersion.{LiveVersion}
use Rattle.volume.specs.declared.pending.PendingVersion.{PendingVersion}
use Rattle.volume.proofs.common.Growths.{Adds}
use Rattle.volume.proofs.common.TableBits.{bit_few}
use Rattle.volume.proofs.common.OnePlace.{both_at, reached_once, one_key, one_place}
use Rattle.volume.proofs.PinVersion.Pins.{entries_within, total_at}
use Rattle.volume.proofs.common.ReachedBlocks.{reaches_parts}
use Rattle.volume.proofs.common.RetiredVersions.{set_inside}
use Rattle.volume.proofs.PublishVersion.Places.{published_here, published_before, published_elsewhere}

-- Blocks of current versions.

-- a block of a current version counts
pub current_block : (live : List (Option LiveVersion)) (key n : ℕ) (v : LiveVersion) → slot live key ≡ Some v
    → v.is_current ≡ true → times n v.version.blocks ≤ current_reaches n (slot live key)
current_block live key n v there current =
    let here = ap (current_reaches n) there
    ∙ ap (λ (b : Bool). if b then times n (blocks_reached v.at v.version) else 0) current in
    let parts = times-append n v.version.ribs v.version.blocks in
    omega arith

module _ (size : ℕ) (c : MemoryMap) (whole : IsWholeMemory size c) where
  -- no block occurs in two of them
  pub one_current : (key key' : ℕ) (v v' : LiveVersion) → slot c.live key ≡ Some v → slot c.live key' ≡ Some v'
      → v.is_current ≡ true → v'.is_current ≡ true → (n : ℕ) → 0 < times n v.version.blocks
      → 0 < times n v'.version.blocks → key ≡ key'
  one_current key key' v v' there there' current current' n some some' = ⊎_elim
      (λ (is : key ≡ key'). is)
      (λ apart.
      let both = both_at (current_reaches n) refl c.live key key' apart in
      let one = current_block c.live key n v there current in
      let other = current_block c.live key' n v' there' current' in
      let all = whole.current n in
      let most = entries_within n c.known.directories in
      let once = reached_once size c whole n in
      absurd (omega arith)) (cases_eq key key')

  module _ (ppn : ℕ) (name : FileName) (v : LiveVersion) (is : IsCurrentAt c ppn name v) where
    reached : (n : ℕ) → times n v.version.blocks ≤ bit c.known.table n
    reached n =
        let one = current_block c.live is.key n v is.there is.current in
        let part = total_at (current_reaches n) refl c.live is.key in
        let all = whole.current n in
        let most = entries_within n c.known.directories in
        let bits = whole.map.bits n in
        omega arith

    -- each block of a file occurs in it once, and its bit is set
    pub file_once : (n : ℕ) → times n v.version.blocks ≤ 1
    file_once n = let most = reached n in let few = bit_few c.known.table n in omega arith

    pub file_set : (n : ℕ) → 0 < times n v.version.blocks → 0 < bit c.known.table n
    file_set n some = let most = reached n in omega arith

    -- it lies in the free space, in no chain
    pub file_inside : IsTable c.known.table → (n : ℕ) → 0 < times n v.version.blocks → InSpace size n
    file_inside sound n some =
        let one = current_block c.live is.key n v is.there is.current in
        let part = total_at (current_reaches n) refl c.live is.key in
        let all = whole.current n in
        let most = entries_within n c.known.directories in
        let bits = whole.map.bits n in
        let few = bit_few c.known.table n in
        record {
          from = ⊎_elim (λ low. absurd (let fixed = fixed_below size n low in omega arith)) (λ from. from)
              (cases_lt n _);
          below = let below = set_inside c.known.table n sound (file_set n some) in let same = whole.map.size_is in
              omega arith;
        }

    pub file_apart : (n : ℕ) → 0 < times n v.version.blocks
        → times n c.known.master.blocks + total (λ d. times n d.chain.blocks) c.known.directories ≡ 0
    file_apart n some =
        let one = current_block c.live is.key n v is.there is.current in
        let part = total_at (current_reaches n) refl c.live is.key in
        let all = whole.current n in
        let parts = reaches_parts n c.known.directories in
        let bits = whole.map.bits n in
        let few = bit_few c.known.table n in
        omega arith

    -- a file with the same block is the file of this place
    pub one_file : (ppn' : ℕ) (name' : FileName) (v' : LiveVersion) → IsCurrentAt c ppn' name' v' → (n : ℕ)
        → 0 < times n v.version.blocks → 0 < times n v'.version.blocks → (ppn ≡ ppn') × (name ≡ name')
    one_file ppn' name' v' is' n some some' =
        let key = one_current is.key is'.key v v' is.there is'.there is.current is'.current n some some' in
        let same : v ≡ v' = some_same (sym is.there ∙ ap (slot c.live) key ∙ is'.there) in
        one_place size c whole ppn ppn' name name' v.at is.at (is'.at ∙ ap (λ u. Some u.at) (sym same))

-- One more is being written, whose blocks are those of the file of its place.

module _ (size : ℕ) (c : MemoryMap) (whole : IsWholeMemory size c) (pending : List (Option PendingVersion)) (key : ℕ)
    (p : PendingVersion) (adds : Adds c.pending pending key p) (held : List ℕ) (booked : ℕ)
    (once : (n : ℕ) → times n p.version.blocks ≤ 1) (shares : (n : ℕ) → 0 < times n p.version.blocks
    → (v : LiveVersion) × IsCurrentAt c p.prime.ppn p.prime.file v × (0 < times n v.version.blocks)) where
  abbrev c' : MemoryMap
  c' = record c {
    known = record c.known { table = record c.known.table { held = held; booked = booked } };
    pending = pending;
  }

  still : (ppn : ℕ) (name : FileName) (v : LiveVersion) → IsCurrentAt c ppn name v → IsCurrentAt c' ppn name v
  still ppn name v is = record { key = is.key; there = is.there; current = is.current; at = is.at }

  -- another that has one of its blocks is of its place
  its_place : (j : ℕ) (q : PendingVersion) → pending_at c.pending j ≡ Some q → (n : ℕ) → 0 < times n p.version.blocks
      → 0 < times n q.version.blocks → (p.prime.ppn ≡ q.prime.ppn) × (p.prime.file ≡ q.prime.file)
  its_place j q at n mine its =
      let file = shares n mine in
      let set = file_set size c whole p.prime.ppn p.prime.file file.0 file.1 n file.2 in
      let other = (whole.own j q at).shared n its set in
      one_file size c whole p.prime.ppn p.prime.file file.0 file.1 q.prime.ppn q.prime.file other.0 other.1 n
      file.2 other.2

  new_or_old : (k : ℕ) (q : PendingVersion) → pending_at pending k ≡ Some q
      → (q ≡ p) ⊎ (pending_at c.pending k ≡ Some q)
  new_or_old k q at = ⊎_elim
      (λ (same : k ≡ key). inl (some_same (sym at ∙ ap (pending_at pending) same ∙ adds.here)))
      (λ other. inr (sym (adds.others k other) ∙ at)) (cases_eq k key)

  new_apart : IsApart c' p
  new_apart = record {
    once = once;
    shared = λ n there set. let file = shares n there in (file.0, still p.prime.ppn p.prime.file file.0 file.1, file.2);
    places = λ j r at n mine its. ⊎_elim
        (λ (same : r ≡ p). (
          ap (λ (x : PendingVersion). x.prime.ppn) (sym same),
          ap (λ (x : PendingVersion). x.prime.file) (sym same),
        ))
        (λ was. its_place j r was n mine its) (new_or_old j r at);
  }

  old_apart : (k : ℕ) (q : PendingVersion) → pending_at c.pending k ≡ Some q → IsApart c' q
  old_apart k q was = record {
    once = (whole.own k q was).once;
    shared = λ n there set.
        let file = (whole.own k q was).shared n there set in
        (file.0, still q.prime.ppn q.prime.file file.0 file.1, file.2);
    places = λ j r at n mine its. ⊎_elim
        (λ (same : r ≡ p).
        let place = its_place k q was n (subst (λ (x : PendingVersion). 0 < times n x.version.blocks) same its)
        mine in (
          sym place.0 ∙ ap (λ (x : PendingVersion). x.prime.ppn) (sym same),
          sym place.1 ∙ ap (λ (x : PendingVersion). x.prime.file) (sym same),
        ))
        (λ r_was. (whole.own k q was).places j r r_was n mine its) (new_or_old j r at);
  }

  pub begun_apart : (k : ℕ) (q : PendingVersion) → pending_at pending k ≡ Some q → IsApart c' q
  begun_apart k q at = ⊎_elim (λ (same : q ≡ p). subst (IsApart c') (sym same) new_apart)
      (λ was. old_apart k q was) (new_or_old k q at)

-- One of them becomes the file of its place.

module _ (size : ℕ) (c c' : MemoryMap) (key : ℕ) (p : PendingVersion) (at : ℕ) (ribs : List ℕ) (puts : List Put)
    (whole : IsWholeMemory size c) (is : MakesCurrent size c c' key p at ribs puts) (k : ℕ) (q : PendingVersion)
    (q_at : pending_at c'.pending k ≡ Some q) where
  abbrev new : LiveVersion
  new = record { prime = p.prime; version = record p.version { ribs = ribs }; at = at; readers = 0; is_current = true }

  -- it was being written before
  still_written : (j : ℕ) (r : PendingVersion) → pending_at c'.pending j ≡ Some r → pending_at c.pending j ≡ Some r
  still_written j r r_at = ⊎_elim
      (λ (same : j ≡ key). absurd (some_none (sym r_at ∙ ap (pending_at c'.pending) same ∙ is.gone)))
      (λ other. sym (is.other_pending j other) ∙ r_at) (cases_eq j key)

  was : IsApart c q
  was = whole.own k q (still_written k q q_at)

  prime_here : prime_in c'.known.master.entries c'.known.directories p.prime.ppn p.prime.file ≡ Some at
  prime_here = published_here size c.known c'.known p.prime.ppn p.prime.file at (as_known new) (before is.old)
      puts is.published

  -- Its block is the new file's as well.
  in_new : (n : ℕ) → 0 < times n q.version.blocks → 0 < times n p.version.blocks
      → (v : LiveVersion) × IsCurrentAt c' q.prime.ppn q.prime.file v × (0 < times n v.version.blocks)
  in_new n mine its =
      let place = was.places key p is.written n mine its in (
        new,
        record {
          key = is.new_key;
          there = is.here;
          current = refl;
          at = (λ i. prime_in c'.known.master.entries c'.known.directories (place.0 i) (place.1 i)) ∙ prime_here;
        },
        its,
      )

  -- Or it is another file's still.
  module _ (n : ℕ) (mine : 0 < times n q.version.blocks) (none : times n p.version.blocks ≡ 0)
      (set : 0 < bit c'.known.table n) where
    not_taken : times n (is.published.grown ++ at ∷ ribs) ≡ 0
    not_taken = ⊎_elim
        (λ taken.
        let unheld = is.unheld n taken in
        let part = total_at (pending_reaches n) refl c.pending k in
        let here = ap (pending_reaches n) (still_written k q q_at) in
        let held = whole.held n in
        absurd (omega arith)) (λ no. no) (some_or_none (times n (is.published.grown ++ at ∷ ribs)))

    not_given : (given_up n (before is.old) ≡ 0) × (0 < bit c.known.table n)
    not_given =
        let bits = is.published.bits n in
        let all = times-append n is.published.grown (at ∷ (ribs ++ p.version.blocks)) in
        let front = times-append n is.published.grown (at ∷ ribs) in
        let back = times-append n (at ∷ ribs) p.version.blocks in
        let taken = not_taken in
        let few = bit_few c.known.table n in
        let once = is.published.once n in
        (omega arith, omega arith)

    file : (v : LiveVersion) × IsCurrentAt c q.prime.ppn q.prime.file v × (0 < times n v.version.blocks)
    file = was.shared n mine not_given.1

    v : LiveVersion
    v = file.0

    -- a version that has the block isn't the one before
    not_old : (old : Entered) → given_up n (before old) ≡ 0 → IsEnded c.live c'.live old → HasOtherKey old file.1.key
    not_old None given ended = tt
    not_old (Some o) given ended = λ same.
        let is_old : o.1 ≡ file.0 = some_same (sym ended.0 ∙ ap (slot c.live) (sym same) ∙ file.1.there) in
        let parts = times-append n o.1.version.ribs o.1.version.blocks in
        let some : 0 < times n o.1.version.blocks = subst (λ (u : LiveVersion). 0 < times n u.version.blocks)
        (sym is_old) file.2 in
        absurd (omega arith)

    stays : slot c'.live file.1.key ≡ Some file.0
    stays = is.others file.1.key
        (λ same. some_none (sym file.1.there ∙ ap (slot c.live) same ∙ is.vacant))
        (not_old is.old not_given.0 is.ended) ∙ file.1.there

    -- so its place isn't the one that is published
    elsewhere : (old : Entered) → given_up n (before old) ≡ 0 → IsEnded c.live c'.live old
        → prime_in c.known.master.entries c.known.directories p.prime.ppn p.prime.file
        ≡ option_map (λ o. o.0) (before old) → (q.prime.ppn ≡ p.prime.ppn) × (q.prime.file ≡ p.prime.file) → ⊥
    elsewhere None given ended had same = some_none (sym file.1.at
        ∙ (λ i. prime_in c.known.master.entries c.known.directories (same.0 i) (same.1 i)) ∙ had)
    elsewhere (Some o) given ended had same =
        let prime : file.0.at ≡ o.1.at = some_same (sym file.1.at
        ∙ (λ i. prime_in c.known.master.entries c.known.directories (same.0 i) (same.1 i)) ∙ had) in
        not_old (Some o) given ended
        (one_key size c whole file.1.key o.0 file.0 o.1 file.1.there ended.0 file.1.current ended.1 prime)

    in_other : (w : LiveVersion) × IsCurrentAt c' q.prime.ppn q.prime.file w × (0 < times n w.version.blocks)
    in_other = (
      file.0,
      record {
        key = file.1.key;
        there = stays;
        current = file.1.current;
        at = published_elsewhere size c.known c'.known p.prime.ppn p.prime.file at (as_known new) (before is.old)
            puts is.published q.prime.ppn q.prime.file
            (elsewhere is.old not_given.0 is.ended (published_before size c.known c'.known p.prime.ppn p.prime.file at
            (as_known new) (before is.old) puts is.published)) ∙ file.1.at;
      },
      file.2,
    )

  pub made_current_apart : IsApart c' q
  made_current_apart = record {
    once = was.once;
    shared = λ n mine set. ⊎_elim (λ its. in_new n mine its) (λ none. in_other n mine none set)
        (some_or_none (times n p.version.blocks));
    places = λ j r r_at n mine its. was.places j r (still_written j r r_at) n mine its;
  }
