-- What readers have pinned, after a volume was opened, and over calls that leave the versions and the places of those
-- that are current.
use Rattle.std.proofs.Common.{◌≡◌, ℕ, ◌<◌, true, false, None, Some, IfSome, refl, sym, ap, ◌∙◌, ⊎_elim, arith}
use Rattle.std.specs.Cmp.{nat_cmp_total}
use Rattle.std.specs.FinMap.{nat_cmp-IsAntisymmetric}
use Rattle.std.specs.List.{AllByRecursion}
use Rattle.words36.specs.declared.names.FileName.{FileName}
use Rattle.blockdisk.specs.Common.{DiskState}
use Rattle.spec_image.specs.Common.{Files, Directory, Place, get, insert, empty, values, SpecVersion, file_in, file_at}
use Rattle.spec_machine.specs.Common.{has_serial}
use Rattle.spec_image.proofs.Common.{some_none, same_or_other, get-insert_other, body_kept}
use Rattle.volume.specs.Common.{MemoryMap, slot, IsFirstRead, prime_at, KeepsRead}
use Rattle.volume.specs.declared.live.LiveVersion.{LiveVersion}
use Rattle.volume.proofs.common.LiveLookups.{standing_at}
use Rattle.monitor.specs.Common.{AreRead}
use Rattle.monitor.proofs.common.Changes.{versions_made, none_in}
use Rattle.monitor.proofs.common.ReadBookings.{versions_of}

-- If each version is current and has no reader, nothing is read.
pub reads_start : (d : DiskState) (c : MemoryMap) (files : Files SpecVersion) (read : ℕ → SpecVersion)
    → AllByRecursion (λ o. IfSome o IsFirstRead) c.live → AreRead d c files read
reads_start d c files read first = record {
  each = λ key v there held. absurd (unheld key v there held);
  unread = λ key v there ended. let wrong : true ≡ false = sym (at key v there).current ∙ ended in absurd (cc);
  apart = λ key other v w there there' held held' same. absurd (unheld key v there held);
}
  where
    at : (key : ℕ) (v : LiveVersion) → slot c.live key ≡ Some v → IsFirstRead v
    at key v there = standing_at IsFirstRead c.live key v first there

    unheld : (key : ℕ) (v : LiveVersion) → slot c.live key ≡ Some v → 0 < v.readers → ⊥
    unheld key v there held = let none = (at key v there).unread in omega arith

-- Over a call.
module _ (d d' : DiskState) (c c' : MemoryMap) (read : ℕ
    → SpecVersion) (live : c'.live ≡ c.live) (kept : KeepsRead d.contents d'.contents c) where
  was : (key : ℕ) (v : LiveVersion) → slot c'.live key ≡ Some v → slot c.live key ≡ Some v
  was key v there = ap (λ vs. slot vs key) (sym live) ∙ there

  -- each place keeps the prime block and the file that it has, and no version is another
  pub reads_go : (files files' : Files SpecVersion)
      → ((ppn : ℕ) (name : FileName) (n : ℕ) → prime_at c ppn name ≡ Some n → prime_at c' ppn name ≡ Some n)
      → ((place : Place) (x : SpecVersion) → file_at files place ≡ Some x → file_at files' place ≡ Some x)
      → versions_of files' ≡ versions_of files → AreRead d c files read → AreRead d' c' files' read
  reads_go files files' primes stays versions reads = record {
    each = λ key v there held.
        let is = reads.each key v (was key v there) held in
        record {
          version = record {
            protection = is.version.protection;
            mode = is.version.mode;
            time = is.version.time;
            date = is.version.date;
            words = is.version.words;
            body = body_kept d.contents d'.contents v.version.blocks (read key).file.body is.version.body
                (kept key v (was key v there) held);
          };
          current = λ current. let found = is.current current in
              (found.0, primes found.0.ppn found.0.name v.at found.1, stays found.0 (read key) found.2);
          past = λ ended. ap (has_serial (read key).serial) versions ∙ is.past ended;
        };
    unread = λ key v there. reads.unread key v (was key v there);
    apart = λ key other v w there there'. reads.apart key other v w (was key v there) (was other w there');
  }

  pub reads_kept : (files : Files SpecVersion)
      → ((ppn : ℕ) (name : FileName) → prime_at c' ppn name ≡ prime_at c ppn name)
      → AreRead d c files read → AreRead d' c' files read
  reads_kept files primes = reads_go files files (λ ppn name n is. primes ppn name ∙ is) (λ place x is. is) refl

  pub reads_made : (files : Files SpecVersion) (owner : ℕ) (v : Directory SpecVersion) → v.files ≡ empty
      → get files owner ≡ None
      → ((ppn : ℕ) (name : FileName) (n : ℕ) → prime_at c ppn name ≡ Some n → prime_at c' ppn name ≡ Some n)
      → AreRead d c files read → AreRead d' c' (insert files owner v) read
  reads_made files owner v bare none primes = reads_go files (insert files owner v) primes stays
      (versions_made files owner v (ap values bare ∙ none_in) none)
    where
      -- a place with a file is not in the new directory
      stays : (place : Place) (x : SpecVersion) → file_at files place ≡ Some x
          → file_at (insert files owner v) place ≡ Some x
      stays place x is = ⊎_elim
          (λ here. absurd (some_none (sym is ∙ ap (λ o. file_in o place.name) (ap (get files) here ∙ none))))
          (λ other. ap (λ o. file_in o place.name)
          (get-insert_other nat_cmp_total nat_cmp-IsAntisymmetric files owner v place.ppn other) ∙ is)
          (same_or_other nat_cmp_total nat_cmp-IsAntisymmetric place.ppn owner)
