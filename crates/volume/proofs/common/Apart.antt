-- What a version that is being written shares with others, if they change and it doesn't.
use Rattle.std.proofs.Common.{◌≡◌, ℕ, ◌<◌, List, Some, sym, ap, subst, ◌∙◌}
use Rattle.spec_image.specs.Common.{times}
use Rattle.words36.specs.declared.names.FileName.{FileName}
use Rattle.alloctab.specs.Common.{bit}
use Rattle.volume.specs.Common.{prime_in, MemoryMap, pending_at, IsApart, IsCurrentAt}
use Rattle.volume.specs.declared.live.LiveVersion.{LiveVersion}
use Rattle.volume.specs.declared.pending.PendingVersion.{PendingVersion}
use Rattle.volume.proofs.common.VersionKeys.{StayCurrent, all_stay}

-- No block of it comes to be set, the file of its place has the same blocks, and no other version begins.
pub record KeepsApart (c c' : MemoryMap) (p : PendingVersion) : Type 0 where
  pub bits : (n : ℕ) → 0 < times n p.version.blocks → 0 < bit c'.known.table n → 0 < bit c.known.table n
  pub file : (v : LiveVersion) → IsCurrentAt c p.prime.ppn p.prime.file v
      → (w : LiveVersion) × IsCurrentAt c' p.prime.ppn p.prime.file w × (w.version.blocks ≡ v.version.blocks)
  pub fewer : (key : ℕ) (q : PendingVersion) → pending_at c'.pending key ≡ Some q → pending_at c.pending key ≡ Some q

pub apart_stays : (c c' : MemoryMap) (p : PendingVersion) → IsApart c p → KeepsApart c c' p → IsApart c' p
apart_stays c c' p is keeps = record {
  once = is.once;
  shared = λ n there set.
      let was = is.shared n there (keeps.bits n there set) in
      let now = keeps.file was.0 was.1 in
      (now.0, now.1, subst (λ (ns : List ℕ). 0 < times n ns) (sym now.2) was.2);
  places = λ key q at n mine its. is.places key q (keeps.fewer key q at) n mine its;
}

-- The file of a place has the same blocks if the versions that are current stay, and its entry does.
pub current_stays : (c c' : MemoryMap) (ppn : ℕ) (name : FileName) → StayCurrent c.live c'.live
    → ((n : ℕ) → prime_in c.known.master.entries c.known.directories ppn name ≡ Some n
    → prime_in c'.known.master.entries c'.known.directories ppn name ≡ Some n)
    → (v : LiveVersion) → IsCurrentAt c ppn name v
    → (w : LiveVersion) × IsCurrentAt c' ppn name w × (w.version.blocks ≡ v.version.blocks)
current_stays c c' ppn name stay primes v is =
    let still = stay is.key v is.there is.current in (
      still.version,
      record {
        key = is.key;
        there = still.there;
        current = still.current;
        at = primes still.version.at (is.at ∙ ap Some (sym still.at));
      },
      ap (λ k. k.version.blocks) still.known,
    )

-- If no version in use changes, and no entry and no bit.
pub apart_same : (c c' : MemoryMap) (p : PendingVersion) → IsApart c p → c'.live ≡ c.live
    → ((n : ℕ) → prime_in c.known.master.entries c.known.directories p.prime.ppn p.prime.file ≡ Some n
    → prime_in c'.known.master.entries c'.known.directories p.prime.ppn p.prime.file ≡ Some n)
    → ((n : ℕ) → 0 < times n p.version.blocks → 0 < bit c'.known.table n → 0 < bit c.known.table n)
    → ((key : ℕ) (q : PendingVersion) → pending_at c'.pending key ≡ Some q → pending_at c.pending key ≡ Some q)
    → IsApart c' p
apart_same c c' p is live primes bits fewer = apart_stays c c' p is (record {
  bits = bits;
  file = current_stays c c' p.prime.ppn p.prime.file
      (subst (StayCurrent c.live) (sym live) (all_stay c.live c.live (λ k v at. at))) primes;
  fewer = fewer;
})
