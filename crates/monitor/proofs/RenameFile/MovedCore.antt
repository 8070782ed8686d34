-- What a move of a file does to memory, within a directory or to another one, and which versions that are being written
-- may still be published.
use Rattle.std.proofs.Common.{◌≡◌, ◌≢◌, ℕ, true, List, Some, slice_get, slice_set, sym, ap, ◌∙◌, ⊎_elim, subst}
use Rattle.std.specs.Prelude.{is_none}
use Rattle.std.proofs.lemmas.Bool.{cases_eq}
use Rattle.std.specs.Ordering.{nat_cmp}
use Rattle.std.specs.FinMap.Entries.{find}
use Rattle.words36.specs.declared.names.FileName.{FileName}
use Rattle.spec_image.specs.declared.put.Put.{Put}
use Rattle.spec_image.specs.Common.{SpecMasterEntry, name_cmp}
use Rattle.retrieval.specs.declared.prime.Prime.{Prime}
use Rattle.directory.specs.Common.{StandsAt}
use Rattle.volume.specs.Common.{IsDirectoryOf, CurrentDirectory, MemoryMap, pending_at, as_known, slot, IsPrimeMoved}
use Rattle.volume.specs.Common.{MovesWithin, MovesAcross, prime_at}
use Rattle.volume.specs.declared.live.LiveVersion.{LiveVersion}
use Rattle.volume.specs.declared.pending.PendingVersion.{PendingVersion}
use Rattle.volume.proofs.RenameAcross.Places.{set_elsewhere, across_before, across_here, across_elsewhere}
use Rattle.volume.proofs.common.PrimeBlocks.{prime_of_place}
use Rattle.volume.proofs.common.Lists.{set_there}
use Rattle.volume.proofs.RenameWithin.Places.{moved_before, moved_here, moved_elsewhere}
use Rattle.monitor.specs.Common.{ArePlaced}

-- The file's version stays under its key and in its blocks; its prime block states the new place and the new
-- protection.
pub record MovesFile (c c' : MemoryMap) (ppn : ℕ) (name : FileName) (to_ppn : ℕ) (to : FileName)
    (protection : ℕ) : Type 0 where
  pub key : ℕ
  pub version : LiveVersion
  pub prime : Prime
  pub prime_is : IsPrimeMoved version.prime prime to_ppn to protection
  pub pending : c'.pending ≡ c.pending
  pub there : slot c.live key ≡ Some version
  pub current : version.is_current ≡ true
  pub here : slot c'.live key ≡ Some (record version { prime = prime })
  pub others : (k : ℕ) → k ≢ key → slot c'.live k ≡ slot c.live k
  -- the old place has its prime block, and the new one has it then; any other keeps what it has
  pub before : prime_at c ppn name ≡ Some version.at
  pub after : prime_at c' to_ppn to ≡ Some version.at
  pub elsewhere : (q : ℕ) (n : FileName) → ((q ≡ ppn) × (n ≡ name) → ⊥) → ((q ≡ to_ppn) × (n ≡ to) → ⊥)
      → prime_at c' q n ≡ prime_at c q n
  -- each directory stays, with such entries as it has then
  pub directories : (q : ℕ) (d : CurrentDirectory) → IsDirectoryOf c q d → (e : CurrentDirectory) × IsDirectoryOf c' q e

-- a list with another element at one place has some at each place that had some
still_some : {X : Type 0} (xs : List X) (i j : ℕ) (x y : X) → slice_get xs j ≡ Some x → (z : X)
    × (slice_get (slice_set xs i y) j ≡ Some z)
still_some xs i j x y is = ⊎_elim
    (λ (same : j ≡ i). (
      y,
      ap (slice_get (slice_set xs i y)) same ∙ set_there xs i x y (ap (slice_get xs) (sym same) ∙ is),
    ))
    (λ apart. (x, set_elsewhere xs i j y apart ∙ is)) (cases_eq j i)

module _ (size : ℕ) (c c' : MemoryMap) (ppn : ℕ) (name to : FileName) (protection key : ℕ) (v : LiveVersion)
    (words : List ℕ) (puts : List Put) (is : MovesWithin size c c' ppn name to protection key v words puts) where
  pub moves_within : MovesFile c c' ppn name ppn to protection
  moves_within = record {
    key = key;
    version = v;
    prime = is.prime;
    prime_is = is.prime_is;
    pending = is.pending;
    there = is.there;
    current = is.current;
    here = is.here;
    others = is.others;
    before = moved_before size c.known c'.known ppn name to (v.at, as_known v) _ words puts is.moved;
    after = moved_here size c.known c'.known ppn name to (v.at, as_known v) _ words puts is.moved;
    elsewhere = moved_elsewhere size c.known c'.known ppn name to (v.at, as_known v) _ words puts is.moved;
    directories = λ q d there.
        let left = still_some c.known.directories is.moved.place there.0 d is.moved.directory' there.3 in (
          left.0,
          (
            there.0,
            there.1,
            stands q there.1 there.0 there.2,
            ap (λ ds. slice_get ds there.0) is.moved.directories ∙ left.1,
          ),
        );
  }
    where
      stands : (q : ℕ) (w : ℕ × ℕ) (i : ℕ) → StandsAt nat_cmp c.known.master.entries q w i
          → StandsAt nat_cmp c'.known.master.entries q w i
      stands q w i at = subst (λ (es : List SpecMasterEntry). StandsAt nat_cmp es q w i)
          (sym (ap (λ m. m.entries) is.moved.master)) at

module _ (size : ℕ) (c c' : MemoryMap) (ppn : ℕ) (name : FileName) (to_ppn : ℕ) (to : FileName) (protection key : ℕ)
    (v : LiveVersion) (words : List ℕ) (puts : List Put)
    (is : MovesAcross size c c' ppn name to_ppn to protection key v words puts) where
  pub moves_across : MovesFile c c' ppn name to_ppn to protection
  moves_across = record {
    key = key;
    version = v;
    prime = is.prime;
    prime_is = is.prime_is;
    pending = is.pending;
    there = is.there;
    current = is.current;
    here = is.here;
    others = is.others;
    before = across_before size c.known c'.known ppn name to_ppn to (v.at, as_known v) _ words puts is.moved;
    after = across_here size c.known c'.known ppn name to_ppn to (v.at, as_known v) _ words puts is.moved;
    elsewhere = across_elsewhere size c.known c'.known ppn name to_ppn to (v.at, as_known v) _ words puts is.moved;
    directories = λ q d there.
        let one = still_some c.known.directories is.moved.to_place there.0 d is.moved.target' there.3 in
        let two = still_some (slice_set c.known.directories is.moved.to_place is.moved.target') is.moved.place there.0
        one.0 is.moved.directory' one.1 in (
          two.0,
          (
            there.0,
            there.1,
            stands q there.1 there.0 there.2,
            ap (λ ds. slice_get ds there.0) is.moved.directories ∙ two.1,
          ),
        );
  }
    where
      stands : (q : ℕ) (w : ℕ × ℕ) (i : ℕ) → StandsAt nat_cmp c.known.master.entries q w i
          → StandsAt nat_cmp c'.known.master.entries q w i
      stands q w i at = subst (λ (es : List SpecMasterEntry). StandsAt nat_cmp es q w i)
          (sym (ap (λ m. m.entries) is.moved.master)) at

-- Versions that are being written for other places.
module _ (c c' : MemoryMap) (ppn : ℕ) (name : FileName) (to_ppn : ℕ) (to : FileName) (protection : ℕ)
    (is : MovesFile c c' ppn name to_ppn to protection) where
  -- what an entry of a directory has
  entry_of : (x : MemoryMap) (q : ℕ) (n : FileName) (d : CurrentDirectory) → IsDirectoryOf x q d
      → prime_at x q n ≡ find name_cmp n d.chain.entries
  entry_of x q n d there = prime_of_place x.known.master.entries x.known.directories there.0 q n there.1 d there.2
      there.3

  pub placed_moved : ((key : ℕ) (p : PendingVersion) → pending_at c.pending key ≡ Some p
      → ((p.prime.ppn ≡ ppn) × (p.prime.file ≡ name) → ⊥) × ((p.prime.ppn ≡ to_ppn) × (p.prime.file ≡ to) → ⊥))
      → ArePlaced c → ArePlaced c'
  placed_moved apart placed = record {
    each = λ key p at.
        let was = placed.each key p (before key p at) in
        let other = apart key p (before key p at) in
        let left = is.directories p.prime.ppn was.directory was.there in
        record {
          named = was.named;
          directory = left.0;
          there = left.1;
          is_new = was.is_new ∙ ap is_none (sym (entry_of c p.prime.ppn p.prime.file was.directory was.there)
              ∙ sym (is.elsewhere p.prime.ppn p.prime.file other.0 other.1)
              ∙ entry_of c' p.prime.ppn p.prime.file left.0 left.1);
        };
    single = λ k key p q at here. placed.single k key p q (before k p at) (before key q here);
  }
    where
      before : (key : ℕ) (p : PendingVersion) → pending_at c'.pending key ≡ Some p → pending_at c.pending key ≡ Some p
      before key p at = ap (λ ps. pending_at ps key) (sym is.pending) ∙ at
