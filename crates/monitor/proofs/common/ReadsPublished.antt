-- What readers have pinned, if a version is published: the one that it supersedes is past for those who read it.
use Rattle.std.proofs.Common.{◌≡◌, ◌⊎◌, inl, inr, ℕ, ◌<◌, ◌==◌, if◌then◌else◌, true, false, Some, None, refl, sym, ap}
use Rattle.std.proofs.Common.{subst, ◌∙◌, ⊎_elim, arith}
use Rattle.std.proofs.lemmas.Bool.{cases_Bool, cases_eq, cases_lt, both_ways}
use Rattle.blockdisk.specs.Common.{DiskState}
use Rattle.spec_image.specs.Common.{Files, Place, SpecVersion, file_at, with_file, place_of}
use Rattle.spec_machine.specs.Common.{HaveDistinctSerials}
use Rattle.spec_image.proofs.Common.{some_same, some_none}
use Rattle.volume.specs.Common.{as_known, MemoryMap, slot, IsWholeMemory, prime_at, IsPublishedMemory, KeepsRead}
use Rattle.volume.specs.declared.live.LiveVersion.{LiveVersion}
use Rattle.volume.specs.declared.pending.PendingVersion.{PendingVersion}
use Rattle.volume.proofs.PublishVersion.Places.{ended_stays, current_goes_on}
use Rattle.volume.proofs.PublishVersion.Slots.{left, left_cases, made_current_slot}
use Rattle.monitor.specs.Common.{readers_of, IsVersionRead, AreRead}
use Rattle.monitor.proofs.common.PinnedSerials.{superseded, still_none}
use Rattle.monitor.proofs.common.Copies.{versions_in}
use Rattle.monitor.proofs.CloseChannel.PublishedFiles.{put_elsewhere}
use Rattle.monitor.proofs.common.ReadsPinned.{words_kept}

-- Nothing is left of a version that nobody reads and that isn't current any more.
none_left : (v : LiveVersion) → v.readers ≡ 0 → left v ≡ None
none_left v unread = ap (λ n. if n == 0 then None else Some (record v { is_current = false })) unread

-- one of which something is left has a reader
pub left_of_read : (u v : LiveVersion) → left u ≡ Some v → (0 < u.readers) × (record u { is_current = false } ≡ v)
left_of_read u v is_left = ⊎_elim
    (λ none. absurd (some_none (sym is_left ∙ none.1)))
    (λ some. (
      ⊎_elim (λ (held : 0 < u.readers). held) (λ few. absurd (some_none (sym is_left ∙ none_left u (omega arith))))
          (cases_lt 0 u.readers),
      some_same (sym some ∙ is_left),
    )) (left_cases u)

-- and it keeps its readers
pub left_readers : (u : LiveVersion) → readers_of (left u) ≡ u.readers
left_readers u = ⊎_elim (λ none. ap readers_of none.1 ∙ sym none.0) (λ some. ap readers_of some) (left_cases u)

-- What was under a key before.
module _ (size : ℕ) (c c' : MemoryMap) (key : ℕ) (p : PendingVersion) (words : ℕ)
    (is : IsPublishedMemory size c c' key p words) where
  -- the new version is current, and has no reader
  new_under : (k : ℕ) (v : LiveVersion) → slot c'.live k ≡ Some v → k ≡ is.makes_current.new_key
      → (v.is_current ≡ true) × (v.readers ≡ 0)
  new_under k v now same =
      let version = some_same (sym is.makes_current.here ∙ ap (slot c'.live) (sym same) ∙ now) in
      (sym (ap (λ (u : LiveVersion). u.is_current) version), sym (ap (λ (u : LiveVersion). u.readers) version))

  -- any other version was there
  abbrev WasThere : ℕ → LiveVersion → Type 0
  WasThere k v = (u : LiveVersion) × (slot c.live k ≡ Some u)
      × ((u ≡ v) ⊎ ((0 < u.readers) × (record u { is_current = false } ≡ v)))

  put_is : (k : ℕ) → slot c.live k ≡ slot is.put.live k
  put_is k = ap (λ l. slot l k) (sym is.live)

  was_there : (k : ℕ) (v : LiveVersion) → slot c'.live k ≡ Some v → (k ≡ is.makes_current.new_key → ⊥) → WasThere k v
  was_there k v now other = ⊎_elim
      (λ kept. (v, put_is k ∙ sym kept ∙ now, inl refl))
      (λ ended. (ended.0, put_is k ∙ ended.1, inr (left_of_read ended.0 v (sym ended.2 ∙ now))))
      (made_current_slot is.put.live c'.live is.makes_current.old is.makes_current.new_key is.makes_current.ended
      is.makes_current.others k other)

  -- one that is read was read before
  was_read : (k : ℕ) (v : LiveVersion) → slot c'.live k ≡ Some v → 0 < v.readers → (u : LiveVersion)
      × (slot c.live k ≡ Some u) × (0 < u.readers)
  was_read k v now held = ⊎_elim
      (λ (new : k ≡ is.makes_current.new_key). let none = (new_under k v now new).1 in absurd (omega arith))
      (λ other.
      let was = was_there k v now other in (
        was.0,
        was.1,
        ⊎_elim (λ same. subst (λ (u : LiveVersion). 0 < u.readers) (sym same) held)
            (λ ended. ended.0) was.2,
      )) (cases_eq k is.makes_current.new_key)

  still_held : ((k : ℕ) (v : LiveVersion) → slot c.live k ≡ Some v → v.is_current ≡ false → 0 < v.readers)
      → (k : ℕ) (v : LiveVersion) → slot c'.live k ≡ Some v → v.is_current ≡ false → 0 < v.readers
  still_held all k v now ended = ⊎_elim
      (λ (new : k ≡ is.makes_current.new_key). absurd (both_ways v.is_current ended (new_under k v now new).0))
      (λ other.
      let was = was_there k v now other in
      ⊎_elim (λ same. all k v (was.1 ∙ ap Some same) ended) (λ turned. subst (λ (u : LiveVersion). 0
      < u.readers) turned.1 turned.0) was.2) (cases_eq k is.makes_current.new_key)

  -- each version has as many readers as before
  pub readers_stay : (k : ℕ) → readers_of (slot c'.live k) ≡ readers_of (slot c.live k)
  readers_stay k = ⊎_elim
      (λ (new : k ≡ is.makes_current.new_key). ap readers_of (ap (slot c'.live) new ∙ is.makes_current.here)
      ∙ sym (ap readers_of (put_is k ∙ ap (slot is.put.live) new ∙ is.makes_current.vacant)))
      (λ other. ⊎_elim
      (λ kept. ap readers_of (kept ∙ sym (put_is k)))
      (λ ended. ap readers_of ended.2 ∙ left_readers ended.0 ∙ sym (ap readers_of (put_is k ∙ ended.1)))
      (made_current_slot is.put.live c'.live is.makes_current.old is.makes_current.new_key is.makes_current.ended
      is.makes_current.others k other))
      (cases_eq k is.makes_current.new_key)

-- The version that is published has a serial that no version that is read has.
module _ (d d' : DiskState) (c c' : MemoryMap) (files : Files SpecVersion) (read : ℕ
    → SpecVersion) (key : ℕ) (p : PendingVersion) (words : ℕ) (place : Place) (x : SpecVersion)
    (reads : AreRead d c files read) (whole : IsWholeMemory d.size c) (is : IsPublishedMemory d.size c c' key p words)
    (distinct : HaveDistinctSerials (versions_in files)) (place_is : place ≡ place_of p.prime.ppn p.prime.file)
    (fresh : (k : ℕ) (v : LiveVersion) → slot c.live k ≡ Some v → 0 < v.readers → x.serial ≡ (read k).serial
    → ⊥) (keeps : KeepsRead d.contents d'.contents c) where
  abbrev files' : Files SpecVersion
  files' = with_file files place x

  module _ (k : ℕ) (u : LiveVersion) (was : slot c.live k ≡ Some u) (held : 0 < u.readers) where
    old : IsVersionRead d c files u (read k)
    old = reads.each k u was held

    -- one that was past is
    past_read : u.is_current ≡ false → IsVersionRead d' c' files' u (read k)
    past_read ended = record {
      version = words_kept d.contents d'.contents (as_known u) (read k).file (keeps k u was held) old.version;
      current = λ current. absurd (both_ways u.is_current ended current);
      past = λ again. still_none files place x (read k).serial (old.past ended) (fresh k u was held);
    }

    -- so is the one of the place
    superseded_read : (q : Place) → file_at files q ≡ Some (read k) → q.ppn ≡ p.prime.ppn → q.name ≡ p.prime.file
        → IsVersionRead d' c' files' (record u { is_current = false }) (read k)
    superseded_read q at ppn name = record {
      version = words_kept d.contents d'.contents (as_known u) (read k).file (keeps k u was held) old.version;
      current = λ current. absurd (both_ways false refl current);
      past = λ ended. superseded files distinct place x (read k) (ap (file_at files) (place_is
          ∙ (λ i. record { ppn = sym ppn i; name = sym name i })) ∙ at) (fresh k u was held);
    }

    -- and that of another place is current there
    current_read : u.is_current ≡ true → (q : Place) → prime_at c' q.ppn q.name ≡ Some u.at → file_at files q
        ≡ Some (read k) → ((q.ppn ≡ p.prime.ppn) × (q.name ≡ p.prime.file) → ⊥) → IsVersionRead d' c' files' u (read k)
    current_read now q prime at apart = record {
      version = words_kept d.contents d'.contents (as_known u) (read k).file (keeps k u was held) old.version;
      current = λ current. (
        q,
        prime,
        put_elsewhere files place x q (λ same. let both = same ∙ place_is in
            apart (ap (λ (z : Place). z.ppn) both, ap (λ (z : Place). z.name) both)) ∙ at,
      );
      past = λ ended. absurd (both_ways u.is_current ended now);
    }

    goes_on : (v : LiveVersion) → slot c'.live k ≡ Some v → IsVersionRead d' c' files' v (read k)
    goes_on v now = ⊎_elim
        (λ (current : u.is_current ≡ true).
        let at = old.current current in
        ⊎_elim
        (λ gone. subst (λ z. IsVersionRead d' c' files' z (read k)) (some_same (sym gone.2 ∙ now))
        (superseded_read at.0 at.2 gone.0 gone.1))
        (λ stays. subst (λ z. IsVersionRead d' c' files' z (read k)) (some_same (sym stays.1 ∙ now))
        (current_read current at.0 stays.2 at.2 stays.0))
        (current_goes_on d.size c c' key p words whole is k u was current at.0.ppn at.0.name at.1 held))
        (λ ended. subst (λ z. IsVersionRead d' c' files' z (read k))
        (some_same (sym (ended_stays d.size c c' key p words whole is k u was ended) ∙ now)) (past_read ended))
        (cases_Bool u.is_current)

  pub reads_published : AreRead d' c' files' read
  reads_published = record {
    each = λ k v now held. let was = was_read d.size c c' key p words is k v now held in
        goes_on k was.0 was.1 was.2 v now;
    unread = still_held d.size c c' key p words is reads.unread;
    apart = λ k l v w now now' held held' same.
        let a = was_read d.size c c' key p words is k v now held in
        let b = was_read d.size c c' key p words is l w now' held' in
        reads.apart k l a.0 b.0 a.1 b.1 a.2 b.2 same;
  }
