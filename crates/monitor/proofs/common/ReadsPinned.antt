-- What readers have pinned, if one comes or goes: one comes to the version that a place has now.
use Rattle.std.proofs.Common.{◌≡◌, ◌≢◌, ◌⊎◌, inl, inr, ℕ, ◌+◌, ◌-◌, ◌<◌, true, false, Some, None, sym, ap, subst, ◌∙◌}
use Rattle.std.proofs.Common.{⊎_elim, arith}
use Rattle.std.specs.Prelude.{◌==◌, if◌then◌else◌}
use Rattle.std.proofs.lemmas.Bool.{eq-eqb, ne_eqb, cases_Bool, cases_lt, cases_eq, both_ways}
use Rattle.blockdisk.specs.Common.{Contents, DiskState}
use Rattle.spec_image.specs.Common.{AgreeOn, File, Files, Place, SpecVersion, file_at}
use Rattle.spec_machine.specs.Common.{HaveDistinctSerials}
use Rattle.spec_image.proofs.Common.{some_same, some_none, body_kept}
use Rattle.volume.specs.Common.{CurrentVersion, as_known, MemoryMap, slot, IsWholeMemory, IsVersionOf, prime_at}
use Rattle.volume.specs.declared.live.LiveVersion.{LiveVersion}
use Rattle.volume.proofs.common.OnePlace.{one_key, one_place}
use Rattle.volume.proofs.common.PrimeBlocks.{primes_table}
use Rattle.monitor.specs.Common.{IsVersionRead, AreRead}
use Rattle.monitor.proofs.common.PinnedSerials.{not_there, one_at}
use Rattle.monitor.proofs.common.Copies.{versions_in}

-- A version that is of a file still is, on contents that agree on its blocks.
pub words_kept : (old new : Contents) (v : CurrentVersion) (file : File) → AgreeOn v.version.blocks old new
    → IsVersionOf old v file → IsVersionOf new v file
words_kept old new v file agree is = record {
  protection = is.protection;
  mode = is.mode;
  time = is.time;
  date = is.date;
  words = is.words;
  body = body_kept old new v.version.blocks file.body is.body agree;
}

-- One key has this version.

abbrev pub with_read : (ℕ → SpecVersion) → ℕ → SpecVersion → ℕ → SpecVersion
with_read read key x k = if k == key then x else read k

pub with_read_same : (read : ℕ → SpecVersion) (key : ℕ) (x : SpecVersion) (k : ℕ) → k ≡ key → with_read read key x k ≡ x
with_read_same read key x k same = ap (λ b. if b then x else read k) (eq-eqb k key same)

pub with_read_other : (read : ℕ → SpecVersion) (key : ℕ) (x : SpecVersion) (k : ℕ) → k ≢ key
    → with_read read key x k ≡ read k
with_read_other read key x k apart = ap (λ b. if b then x else read k) (ne_eqb k key apart)

-- A version that is read stays so if prime blocks stay and its disk, its files and its memory are these.
moved : (d : DiskState) (c c' : MemoryMap) (files : Files SpecVersion) (v : LiveVersion) (readers : ℕ) (x : SpecVersion)
    → ((place : Place) → prime_at c' place.ppn place.name ≡ prime_at c place.ppn place.name)
    → IsVersionRead d c files v x → IsVersionRead d c' files (record v { readers = readers }) x
moved d c c' files v readers x primes is = record {
  version = is.version;
  current = λ current. let at = is.current current in (at.0, primes at.0 ∙ at.1, at.2);
  past = is.past;
}

-- A reader comes to the version of a place.

module _ (d : DiskState) (c : MemoryMap) (files : Files SpecVersion) (read : ℕ → SpecVersion)
    (reads : AreRead d c files read)
    (whole : IsWholeMemory d.size c) (place : Place) (x : SpecVersion) (there : file_at files place ≡ Some x) where
  -- If it was read before, the machine has this very version under its key.
  pub read_again : (key : ℕ) (v : LiveVersion) → slot c.live key ≡ Some v → 0 < v.readers → v.is_current ≡ true
      → prime_at c place.ppn place.name ≡ Some v.at → read key ≡ x
  read_again key v here held current at =
      let was = (reads.each key v here held).current current in
      let same = one_place d.size c whole was.0.ppn place.ppn was.0.name place.name v.at was.1 at in
      let place_is : was.0 ≡ place = λ i. record { ppn = same.0 i; name = same.1 i } in
      some_same (sym was.2 ∙ ap (file_at files) place_is ∙ there)

  module _ (c' : MemoryMap) (key : ℕ) (distinct : HaveDistinctSerials (versions_in files))
      (pinned : (v : LiveVersion) × (slot c.live key ≡ Some v)
      × (slot c'.live key ≡ Some (record v { readers = v.readers + 1 })))
      (others : (k : ℕ) → (k ≡ key → ⊥) → slot c'.live k ≡ slot c.live k)
      (core : c' ≡ record c { live = c'.live })
      (at : (v : LiveVersion) × (slot c.live key ≡ Some v) × (v.is_current ≡ true)
      × (prime_at c place.ppn place.name ≡ Some v.at))
      (value : (v : LiveVersion) × (slot c'.live key ≡ Some v) × IsVersionOf d.contents (as_known v) x.file) where
    primes : (q : Place) → prime_at c' q.ppn q.name ≡ prime_at c q.ppn q.name
    primes q = ap (λ (z : MemoryMap). prime_at z q.ppn q.name) core

    -- it is current still
    still_current : (u : LiveVersion) → slot c'.live key ≡ Some u → u.is_current ≡ true
    still_current u now =
        let same : record pinned.0 { readers = pinned.0.readers + 1 } ≡ u = some_same (sym pinned.2 ∙ now) in
        let was : at.0 ≡ pinned.0 = some_same (sym at.1 ∙ pinned.1) in
        sym (ap (λ (z : LiveVersion). z.is_current) same) ∙ sym (ap (λ (z : LiveVersion). z.is_current) was) ∙ at.2

    still_at : (u : LiveVersion) → slot c'.live key ≡ Some u → at.0.at ≡ u.at
    still_at u now =
        let same : record pinned.0 { readers = pinned.0.readers + 1 } ≡ u = some_same (sym pinned.2 ∙ now) in
        let was : at.0 ≡ pinned.0 = some_same (sym at.1 ∙ pinned.1) in
        ap (λ (z : LiveVersion). z.at) was ∙ ap (λ (z : LiveVersion). z.at) same

    is_read : (u : LiveVersion) → slot c'.live key ≡ Some u → IsVersionRead d c' files u x
    is_read u now = record {
      version = subst (λ z. IsVersionOf d.contents (as_known z) x.file) (some_same (sym value.1 ∙ now)) value.2;
      current = λ current. (place, primes place ∙ at.3 ∙ ap Some (still_at u now), there);
      past = λ ended. absurd (both_ways u.is_current ended (still_current u now));
    }

    -- another version of its serial would be the file of its place, and so this one
    alone : (k : ℕ) (w : LiveVersion) → slot c.live k ≡ Some w → 0 < w.readers → (read k).serial ≡ x.serial → k ≡ key
    alone k w here held same = ⊎_elim
        (λ (current : w.is_current ≡ true).
        let was = (reads.each k w here held).current current in
        let place_is : was.0 ≡ place = one_at files distinct was.0 place (read k) x was.2 there same in
        let prime : w.at ≡ at.0.at = some_same (sym was.1 ∙ ap (λ (q : Place). prime_at c q.ppn q.name) place_is
        ∙ at.3) in
        one_key d.size c whole k key w at.0 here at.1 current at.2 prime)
        (λ ended. absurd (not_there files place x (read k).serial there ((reads.each k w here held).past ended)
        (sym same)))
        (cases_Bool w.is_current)

    pub reads_pinned : AreRead d c' files (with_read read key x)
    reads_pinned = record {
      each = λ k u now held. ⊎_elim
          (λ (same : k ≡ key). subst (λ z. IsVersionRead d c' files u z) (sym (with_read_same read key x k same))
          (is_read u (ap (slot c'.live) (sym same) ∙ now)))
          (λ apart. subst (λ z. IsVersionRead d c' files u z) (sym (with_read_other read key x k apart))
          (moved d c c' files u u.readers (read k) primes (reads.each k u (sym (others k apart) ∙ now) held)))
          (cases_eq k key);
      unread = λ k u now ended. ⊎_elim
          (λ (same : k ≡ key).
          absurd (both_ways u.is_current ended (still_current u (ap (slot c'.live) (sym same) ∙ now))))
          (λ apart. reads.unread k u (sym (others k apart) ∙ now) ended) (cases_eq k key);
      apart = λ k l u w now now' held held' same. ⊎_elim
          (λ (is : k ≡ key). ⊎_elim
          (λ (is' : l ≡ key). is ∙ sym is')
          (λ other. is ∙ sym (alone l w (sym (others l other)
          ∙ now') held' (sym (ap (λ (z : SpecVersion). z.serial) (with_read_other read key x l other)) ∙ sym same
          ∙ ap (λ (z : SpecVersion). z.serial) (with_read_same read key x k is)))) (cases_eq l key))
          (λ other. ⊎_elim
          (λ (is' : l ≡ key). alone k u (sym (others k other)
          ∙ now) held (sym (ap (λ (z : SpecVersion). z.serial) (with_read_other read key x k other)) ∙ same
          ∙ ap (λ (z : SpecVersion). z.serial) (with_read_same read key x l is')) ∙ sym is')
          (λ other'. reads.apart k l u w (sym (others k other) ∙ now) (sym (others l other') ∙ now') held held'
          (sym (ap (λ (z : SpecVersion). z.serial) (with_read_other read key x k other)) ∙ same
          ∙ ap (λ (z : SpecVersion). z.serial) (with_read_other read key x l other'))) (cases_eq l key))
          (cases_eq k key);
    }

-- A reader goes.

module _ (d : DiskState) (c c' : MemoryMap) (files : Files SpecVersion) (read : ℕ → SpecVersion) (key : ℕ)
    (v : LiveVersion)
    (reads : AreRead d c files read) (here : slot c.live key ≡ Some v) (held : 0 < v.readers)
    (stays : (v.is_current ≡ true) ⊎ (1 < v.readers) → slot c'.live key ≡ Some (record v { readers = v.readers - 1 }))
    (gone : v.is_current ≡ false → v.readers ≡ 1 → slot c'.live key ≡ None)
    (others : (k : ℕ) → (k ≡ key → ⊥) → slot c'.live k ≡ slot c.live k) (known : c'.known
    ≡ record c.known { table = c'.known.table }) where
  -- what is left under its key: the version with a reader less, or nothing of one that isn't current
  left_under : (u : LiveVersion) → slot c'.live key ≡ Some u → (record v { readers = v.readers - 1 } ≡ u)
      × ((v.is_current ≡ true) ⊎ (1 < v.readers))
  left_under u now = ⊎_elim
      (λ (current : v.is_current ≡ true). (some_same (sym (stays (inl current)) ∙ now), inl current))
      (λ ended. ⊎_elim
      (λ (more : 1 < v.readers). (some_same (sym (stays (inr more)) ∙ now), inr more))
      (λ few. absurd (some_none (sym now ∙ gone ended (omega arith)))) (cases_lt 1 v.readers))
      (cases_Bool v.is_current)

  -- a version that is read was read before
  was_read : (k : ℕ) (u : LiveVersion) → slot c'.live k ≡ Some u → 0 < u.readers → (w : LiveVersion)
      × (slot c.live k ≡ Some w) × (0 < w.readers)
  was_read k u now some = ⊎_elim
      (λ (same : k ≡ key). (v, ap (slot c.live) same ∙ here, held))
      (λ apart. (u, sym (others k apart) ∙ now, some)) (cases_eq k key)

  pub reads_let_go : AreRead d c' files read
  reads_let_go = record {
    each = λ k u now some. ⊎_elim
        (λ (same : k ≡ key).
        let left = left_under u (ap (slot c'.live) (sym same) ∙ now) in
        subst (λ n. IsVersionRead d c' files u (read n)) (sym same)
        (subst (λ z. IsVersionRead d c' files z (read key)) left.0
        (moved d c c' files v (v.readers - 1) (read key) primes (reads.each key v here held))))
        (λ apart. moved d c c' files u u.readers (read k) primes (reads.each k u (sym (others k apart) ∙ now) some))
        (cases_eq k key);
    unread = λ k u now ended. ⊎_elim
        (λ (same : k ≡ key).
        let left = left_under u (ap (slot c'.live) (sym same) ∙ now) in
        let readers = ap (λ (z : LiveVersion). z.readers) left.0 in
        ⊎_elim (λ current. absurd (both_ways u.is_current ended (sym (ap (λ (z : LiveVersion). z.is_current) left.0)
        ∙ current))) (λ (more : 1 < v.readers). omega arith) left.1)
        (λ apart. reads.unread k u (sym (others k apart) ∙ now) ended) (cases_eq k key);
    apart = λ k l u w now now' some some' same. let a = was_read k u now some in let b = was_read l w now' some' in
        reads.apart k l a.0 b.0 a.1 b.1 a.2 b.2 same;
  }
    where
      primes : (q : Place) → prime_at c' q.ppn q.name ≡ prime_at c q.ppn q.name
      primes q = primes_table c c' c'.known.table known q.ppn q.name
