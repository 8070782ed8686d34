-- What readers have pinned, if a file is deleted: its version is past for those who read it.
use Rattle.std.proofs.Common.{◌≡◌, ◌⊎◌, inl, inr, ℕ, ◌<◌, true, false, Option, Some, refl, sym, ap, subst, ◌∙◌}
use Rattle.std.proofs.Common.{⊎_elim, List}
use Rattle.std.proofs.lemmas.Bool.{cases_Bool, cases_eq, both_ways}
use Rattle.words36.specs.declared.names.FileName.{FileName}
use Rattle.blockdisk.specs.Common.{DiskState}
use Rattle.spec_image.specs.declared.put.Put.{Put}
use Rattle.spec_image.specs.Common.{Files, Place, SpecVersion, file_at, without_file, place_of}
use Rattle.spec_machine.specs.Common.{HaveDistinctSerials}
use Rattle.spec_image.proofs.Common.{some_same}
use Rattle.volume.specs.Common.{as_known, MemoryMap, slot, IsWholeMemory, prime_at, live_left, RemovesFile, KeepsRead}
use Rattle.volume.specs.declared.live.LiveVersion.{LiveVersion}
use Rattle.volume.proofs.common.OnePlace.{one_key, one_place}
use Rattle.volume.proofs.DeleteFile.Places.{removed_current, primes_elsewhere}
use Rattle.monitor.specs.Common.{readers_of, IsVersionRead, AreRead}
use Rattle.monitor.proofs.RenameFile.DeletedFiles.{left_elsewhere, none_left, serial_gone}
use Rattle.monitor.proofs.common.Copies.{versions_in}
use Rattle.monitor.proofs.common.ReadsPinned.{words_kept}
use Rattle.monitor.proofs.common.ReadsPublished.{left_of_read, left_readers}

-- One version isn't current any more, and is gone if nobody reads it; all others are as they were.
module _ (live live' : List (Option LiveVersion)) (key : ℕ) (v : LiveVersion) (there : slot live key ≡ Some v)
    (ended : slot live' key ≡ live_left (Some (key, v)))
    (others : (k : ℕ) → (k ≡ key → ⊥) → slot live' k ≡ slot live k) where
  -- what is under a key was there
  abbrev WasThere : ℕ → LiveVersion → Type 0
  WasThere k w = (u : LiveVersion) × (slot live k ≡ Some u)
      × ((u ≡ w) ⊎ ((0 < u.readers) × (record u { is_current = false } ≡ w)))

  was_there : (k : ℕ) (w : LiveVersion) → slot live' k ≡ Some w → WasThere k w
  was_there k w now = ⊎_elim
      (λ (same : k ≡ key). (
        v,
        ap (slot live) same ∙ there,
        inr (left_of_read v w (sym ended ∙ ap (slot live') (sym same) ∙ now)),
      ))
      (λ other. (w, sym (others k other) ∙ now, inl refl))
      (cases_eq k key)

  -- one that is read was read before
  pub was_read : (k : ℕ) (w : LiveVersion) → slot live' k ≡ Some w → 0 < w.readers → (u : LiveVersion)
      × (slot live k ≡ Some u) × (0 < u.readers)
  was_read k w now held =
      let was = was_there k w now in (
        was.0,
        was.1,
        ⊎_elim (λ same. subst (λ (u : LiveVersion). 0 < u.readers) (sym same) held) (λ turned. turned.0) was.2,
      )

  pub still_held : ((k : ℕ) (w : LiveVersion) → slot live k ≡ Some w → w.is_current ≡ false → 0 < w.readers)
      → (k : ℕ) (w : LiveVersion) → slot live' k ≡ Some w → w.is_current ≡ false → 0 < w.readers
  still_held all k w now past =
      let was = was_there k w now in
      ⊎_elim (λ same. all k w (was.1 ∙ ap Some same) past)
      (λ turned. subst (λ (u : LiveVersion). 0 < u.readers) turned.1 turned.0) was.2

  -- each version has as many readers as before
  pub readers_left : (k : ℕ) → readers_of (slot live' k) ≡ readers_of (slot live k)
  readers_left k = ⊎_elim
      (λ (same : k ≡ key). ap readers_of (ap (slot live') same ∙ ended) ∙ left_readers v
      ∙ sym (ap readers_of (ap (slot live) same ∙ there)))
      (λ other. ap readers_of (others k other))
      (cases_eq k key)

module _ (d d' : DiskState) (c c' : MemoryMap) (files : Files SpecVersion) (read : ℕ → SpecVersion) (ppn : ℕ)
    (name : FileName) (key : ℕ) (v : LiveVersion) (puts : List Put) (x : SpecVersion)
    (reads : AreRead d c files read) (whole : IsWholeMemory d.size c) (is : RemovesFile d.size c c' ppn name key v puts)
    (at : file_at files (place_of ppn name) ≡ Some x) (distinct : HaveDistinctSerials (versions_in files))
    (keeps : KeepsRead d.contents d'.contents c) where
  abbrev place : Place
  place = place_of ppn name

  abbrev files' : Files SpecVersion
  files' = without_file files place

  module _ (k : ℕ) (u : LiveVersion) (was : slot c.live k ≡ Some u) (held : 0 < u.readers) where
    old : IsVersionRead d c files u (read k)
    old = reads.each k u was held

    -- the one that is deleted is past, and no file has its serial
    deleted_read : (q : Place) → file_at files q ≡ Some (read k) → (q.ppn ≡ ppn) × (q.name ≡ name)
        → IsVersionRead d' c' files' (record u { is_current = false }) (read k)
    deleted_read q found here = record {
      version = words_kept d.contents d'.contents (as_known u) (read k).file (keeps k u was held) old.version;
      current = λ current. absurd (both_ways false refl current);
      past = λ past. serial_gone files place (read k)
          (ap (file_at files) (λ i. record { ppn = sym here.0 i; name = sym here.1 i }) ∙ found) distinct;
    }

    -- one that was past is
    past_read : u.is_current ≡ false → IsVersionRead d' c' files' u (read k)
    past_read past = record {
      version = words_kept d.contents d'.contents (as_known u) (read k).file (keeps k u was held) old.version;
      current = λ current. absurd (both_ways u.is_current past current);
      past = λ again. none_left files place x at (read k).serial (old.past past);
    }

    -- and that of another place is current there
    current_read : u.is_current ≡ true → (q : Place) → prime_at c q.ppn q.name ≡ Some u.at
        → file_at files q ≡ Some (read k) → ((q.ppn ≡ ppn) × (q.name ≡ name) → ⊥)
        → IsVersionRead d' c' files' u (read k)
    current_read now q prime found apart = record {
      version = words_kept d.contents d'.contents (as_known u) (read k).file (keeps k u was held) old.version;
      current = λ current. (
        q,
        primes_elsewhere d.size c c' ppn name key v puts is q.ppn q.name apart ∙ prime,
        left_elsewhere files place q (λ same. apart (ap (λ (z : Place). z.ppn) same, ap (λ (z : Place). z.name) same))
            ∙ found,
      );
      past = λ past. absurd (both_ways u.is_current past now);
    }

    here_before : prime_at c ppn name ≡ Some v.at
    here_before = (removed_current d.size c c' ppn name key v puts is).at

    goes_on : (w : LiveVersion) → slot c'.live k ≡ Some w → IsVersionRead d' c' files' w (read k)
    goes_on w now = ⊎_elim
        (λ (same : k ≡ key).
        let which : v ≡ u = some_same (sym is.there ∙ ap (slot c.live) (sym same) ∙ was) in
        let of_file = sym (ap (λ (z : LiveVersion). z.is_current) which) ∙ is.current in
        let found = old.current of_file in
        let turned = (left_of_read v w
        (sym is.ended ∙ ap (slot c'.live) (sym same) ∙ now)).1 in
        subst (λ z. IsVersionRead d' c' files' z (read k))
        (ap (λ (z : LiveVersion). record z { is_current = false }) (sym which) ∙ turned)
        (deleted_read found.0 found.2 (one_place d.size c whole found.0.ppn ppn found.0.name name v.at
        (found.1 ∙ ap (λ (z : LiveVersion). Some z.at) (sym which)) here_before)))
        (λ other.
        let kept : u ≡ w = some_same (sym was ∙ sym (is.others k other) ∙ now) in
        subst (λ z. IsVersionRead d' c' files' z (read k)) kept (⊎_elim
        (λ (of_file : u.is_current ≡ true).
        let found = old.current of_file in
        current_read of_file found.0 found.1 found.2 (λ both. other (one_key d.size c whole k key u v was is.there
        of_file is.current (some_same (sym found.1 ∙ (λ i. prime_at c (both.0 i) (both.1 i)) ∙ here_before)))))
        (λ past. past_read past)
        (cases_Bool u.is_current)))
        (cases_eq k key)

  pub reads_deleted : AreRead d' c' files' read
  reads_deleted = record {
    each = λ k w now held. let was = was_read c.live c'.live key v is.there is.ended is.others k w now held in
        goes_on k was.0 was.1 was.2 w now;
    unread = still_held c.live c'.live key v is.there is.ended is.others reads.unread;
    apart = λ k l w z now now' held held' same.
        let a = was_read c.live c'.live key v is.there is.ended is.others k w now held in
        let b = was_read c.live c'.live key v is.there is.ended is.others l z now' held' in
        reads.apart k l a.0 b.0 a.1 b.1 a.2 b.2 same;
  }
