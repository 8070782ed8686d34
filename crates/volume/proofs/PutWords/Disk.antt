-- Words are put into a version that is being written: what is read and written besides it stays, and no crash
-- sees the writes.
use Rattle.std.proofs.Common.{◌≡◌, inl, inr, ⊎_elim, ℕ, ◌+◌, ◌<◌, ◌≤◌, Bool, true, false, if◌then◌else◌, List, []}
use Rattle.std.proofs.Common.{◌∷◌, length, Option, Some, None, refl, sym, ap, subst, ◌∙◌, arith}
use Rattle.std.proofs.lemmas.Bool.{cases_eq, cases_lt}
use Rattle.std.specs.List.{AllZip}
use Rattle.blockdisk.specs.Common.{Contents, DiskState, MayLeave, SameDisk, SameOutside, Modifies, LeavesOnly}
use Rattle.blockdisk.specs.Common.{leaves_weaker}
use Rattle.changeset.specs.Common.{times_tail, Ignores, AtRest, SettlesTo, quiet_rest, quiet_leaves, quiet_stands}
use Rattle.spec_image.specs.Common.{File, Files, times, DifferInFree, space_start, HasBody, splice, length_after}
use Rattle.spec_image.specs.Common.{DiskMap, reaches, table_bit, fixed, pack_of, StandsOn, date_limit}
use Rattle.spec_image.proofs.Common.{fixed_below, quiet, quiet_bits, some_none, some_same, times-append}
use Rattle.spec_image.proofs.Common.{length-splice}
use Rattle.alloctab.specs.Common.{TableState, bit}
use Rattle.retrieval.specs.Common.{IsOwn, VersionState}
use Rattle.volume.specs.declared.live.LiveVersion.{LiveVersion}
use Rattle.volume.specs.declared.pending.PendingVersion.{PendingVersion}
use Rattle.volume.specs.Common.{CurrentMap, MatchesMap, blocks_reached, MemoryMap, slot, pending_at, pinned_reaches}
use Rattle.volume.specs.Common.{pending_reaches, IsWholeMemory, IsAligned, Regrown, IsAtRest, HasSomeBody}
use Rattle.volume.specs.Common.{IsSoundMemory}
use Rattle.volume.specs.Common.{RestsAt, KeepsRead, KeepsWritten}
use Rattle.volume.proofs.common.LiveBodies.{HaveBodies, body_stays}
use Rattle.volume.proofs.common.Rests.{files_are, rest_for, sound_for, sound_failed}
use Rattle.volume.proofs.common.TableBits.{whole_fixed}
use Rattle.volume.proofs.common.UsedBlocks.{held_kept}
use Rattle.volume.proofs.PinVersion.Pins.{total_at, current_stands}
use Rattle.volume.proofs.PutWords.Memory.{put_whole}
use Rattle.volume.proofs.common.Packs.{pack_held}
use Rattle.volume.proofs.common.OnePlace.{both_at}

-- Quiet writes.

-- Blocks whose bits are clear are not read.
pub ignores_clear : (size : ℕ) (k : CurrentMap) (m : DiskMap) (In : ℕ → Type 0) → IsAligned k
    → ((n : ℕ) → In n → bit k.table n ≡ 0) → Ignores In (MatchesMap size k m)
ignores_clear size k m In aligned clear c d same h =
    held_kept size k m c d aligned h (quiet size c d free m h.stands) stays (quiet_bits size c d free)
  where
    bits_are : (n : ℕ) → table_bit size c n ≡ fixed size n + reaches n m
    bits_are n = h.stands.marked.bits n

    -- a clear bit is one of the free space
    in_space : (n : ℕ) → bit k.table n ≡ 0 → space_start size ≤ n
    in_space n none = ⊎_elim
        (λ below. absurd (let one = fixed_below size n below in let is = bits_are n in let known = h.bits n in
        omega arith))
        (λ from. from) (cases_lt n (space_start size))

    free : DifferInFree size c c d
    free n = ⊎_elim
        (λ none. inr (record { in_space = in_space n none; clear = h.bits n ∙ none }))
        (λ set. inl (same n (λ there. set (clear n there)))) (cases_eq (bit k.table n) 0)

    stays : (n : ℕ) → 0 < reaches n m → d n ≡ c n
    stays n there = same n (λ is. let none = clear n is in let known = h.bits n in let e = bits_are n in
        absurd (omega arith))

-- The same map, with another table that has its bits.
same_bits : (size : ℕ) (k : CurrentMap) (t : TableState) (m : DiskMap) (c : Contents)
    → ((n : ℕ) → bit t n ≡ bit k.table n)
    → MatchesMap size k m c → MatchesMap size (record k { table = t }) m c
same_bits size k t m c same h = record {
  known = record { chain = h.known.chain; names = h.known.names; each = h.known.each };
  stands = h.stands;
  master = h.master;
  chains = h.chains;
  bits = λ n. h.bits n ∙ sym (same n);
}

-- Blocks are written whose bits are clear.
module _ (s s' : DiskState) (k : CurrentMap) (In : ℕ → Type 0) (clear : (n : ℕ) → In n → bit k.table n ≡ 0)
    (aligned : IsAligned k) (at : IsAtRest s k) (size : s'.size ≡ s.size) (modified : Modifies In s s')
    (gate : bit k.table 3 ≡ 1) where
  ignores : Ignores In (MatchesMap s.size k at.map)
  ignores = ignores_clear s.size k at.map In aligned clear

  not_gate : In 3 → ⊥
  not_gate is = let none = clear 3 is in omega arith

  pub quiet_at_rest : AtRest s' (MatchesMap s.size k at.map)
  quiet_at_rest = quiet_rest In s s' (MatchesMap s.size k at.map) ignores not_gate size at.rest modified

  -- a crash finds the files from before
  pub quiet_finds : (f : Files File) → RestsAt s f → ((c : Contents) → s.left_since s.clock c → MayLeave s c)
      → LeavesOnly s s' (λ c. StandsOn (pack_of s) c f)
  quiet_finds f rests only_now =
      let same = files_are s k at.map f at.rest rests in
      leaves_weaker s s' (SettlesTo s.size (MatchesMap s.size k at.map)) (λ c. StandsOn (pack_of s) c f)
      (quiet_stands s s' (MatchesMap s.size k at.map)
      (quiet_leaves In s s' (MatchesMap s.size k at.map) ignores not_gate
      at.rest only_now modified))
      (λ c held. (held.0, held.1, (at.map, held.2.stands, same, pack_held s k at.map at.rest)))

  -- and so does a start
  pub quiet_rests : (f : Files File) → RestsAt s f → RestsAt s' f
  quiet_rests f rests = rest_for s s' k at.map f size (files_are s k at.map f at.rest rests) quiet_at_rest

  -- what is in memory is still the disk's
  pub put_at : (t : TableState) → ((n : ℕ) → bit t n ≡ bit k.table n)
      → (m : DiskMap) × AtRest s' (MatchesMap s.size (record k { table = t }) m) × (m.layout ≡ (pack_of s).layout)
  put_at t same = (
    at.map,
    record { shut = quiet_at_rest.shut; all = λ c left. same_bits s.size k t at.map c same (quiet_at_rest.all c left) },
    pack_held s k at.map at.rest,
  )

-- The words of other versions.

module _ (size : ℕ) (c : MemoryMap) (whole : IsWholeMemory size c) (key : ℕ) (p : PendingVersion)
    (was : pending_at c.pending key ≡ Some p) where
  -- what is the version's own is no other's

  read_apart : (k : ℕ) (v : LiveVersion) → slot c.live k ≡ Some v → 0 < v.readers → (n : ℕ)
      → 0 < times n v.version.blocks → IsOwn c.known.table p.version.blocks n → ⊥
  read_apart k v is some n there own = by v.is_current refl
    where
      stands : 0 < times n (blocks_reached v.at v.version)
      stands = let parts = times-append n v.version.ribs v.version.blocks in omega arith

      by : (b : Bool) → v.is_current ≡ b → ⊥
      by true current =
          let most = current_stands size c whole k v is current n in
          let here = stands in
          let bits = whole.map.bits n in
          let clear = own.clear in
          omega arith
      by false ended =
          let part = total_at (pinned_reaches n) refl c.live k in
          let here = ap (pinned_reaches n) is
          ∙ ap (λ (b : Bool). if b then 0 else times n (blocks_reached v.at v.version)) ended in
          let mine = total_at (pending_reaches n) refl c.pending key in
          let its = ap (pending_reaches n) was in
          let all = whole.held n in
          let one = stands in
          let alone = own.alone in
          omega arith

  written_apart : (k : ℕ) (q : PendingVersion) → (k ≡ key → ⊥) → pending_at c.pending k ≡ Some q → (n : ℕ)
      → 0 < times n q.version.blocks → IsOwn c.known.table p.version.blocks n → ⊥
  written_apart k q other is n there own =
      let two = both_at (pending_reaches n) refl c.pending k key other in
      let here = ap (pending_reaches n) is in
      let mine = ap (pending_reaches n) was in
      let all = whole.held n in
      let alone = own.alone in
      omega arith

  pub keeps_read : (old new : Contents) → SameOutside (IsOwn c.known.table p.version.blocks) old new
      → KeepsRead old new c
  keeps_read old new same k v is some n there = same n (read_apart k v is some n there)

  pub keeps_written : (old new : Contents) → SameOutside (IsOwn c.known.table p.version.blocks) old new
      → KeepsWritten old new c key
  keeps_written old new same k q other is n there = same n (written_apart k q other is n there)

  -- the words of all versions after the words are put
  pub put_bodies : (s s' : DiskState) (failed : Bool) → IsSoundMemory s c failed → s.honest → failed ≡ false
      → SameOutside (IsOwn c.known.table p.version.blocks) s.contents s'.contents
      → (c' : MemoryMap) (v : VersionState) (block : ℕ) (words : List ℕ) → c'.live ≡ c.live
      → ((k : ℕ) → (k ≡ key → ⊥) → pending_at c'.pending k ≡ pending_at c.pending k)
      → pending_at c'.pending key ≡ Some (record p { version = v })
      → v.words ≡ length_after p.version.words block (length words)
      → ((body : List ℕ) → length body ≡ p.version.words → HasBody s.contents p.version.blocks body
      → HasBody s'.contents v.blocks (splice body block words)) → HaveBodies s'.contents c'
  put_bodies s s' failed sound h ok same c' v block words live others now long put = record {
    read = λ k u is some.
        let old : slot c.live k ≡ Some u = ap (λ l. slot l k) (sym live) ∙ is in
        body_stays s.contents s'.contents u.version (sound.read h ok k u old some)
        (λ n there. same n (read_apart k u old some n there));
    written = λ k q is. ⊎_elim
        (λ (here : k ≡ key). subst (λ (u : PendingVersion). HasSomeBody s'.contents u.version)
        (some_is (sym now ∙ ap (pending_at c'.pending) (sym here) ∙ is)) new_body)
        (λ other.
        let old : pending_at c.pending k ≡ Some q = sym (others k other) ∙ is in
        body_stays s.contents s'.contents q.version (sound.written h ok k q old)
        (λ n there. same n (written_apart k q other old n there)))
        (cases_eq k key);
  }
    where
      some_is : {A : Type 0} {x y : A} → Some x ≡ Some y → x ≡ y
      some_is e = cc

      new_body : HasSomeBody s'.contents v
      new_body =
          let had = sound.written h ok key p was in (
            splice had.0 block words,
            length-splice had.0 block words
                ∙ ap (λ (n : ℕ). length_after n block (length words)) had.1 ∙ sym long,
            put had.0 had.1 had.2,
          )

-- a block of a version that has its words isn't damaged
undamaged_at : (contents : Contents) (blocks : List ℕ) (each : List (List ℕ))
    → AllZip (λ n words. contents n ≡ Some words) blocks each → (k : ℕ) → 0 < times k blocks → contents k ≡ None → ⊥
undamaged_at contents [] each zip k there none = omega arith
undamaged_at contents (n ∷ ns) [] zip k there none = absurd zip
undamaged_at contents (n ∷ ns) (w ∷ ws) zip k there none = ⊎_elim
    (λ (is : k ≡ n). some_none (sym zip.0 ∙ ap contents (sym is) ∙ none))
    (λ other. undamaged_at contents ns ws zip.1 k (let tail = times_tail k n ns other in omega arith) none)
    (cases_eq k n)

pub none_damaged : (contents : Contents) (v : VersionState) → HasSomeBody contents v → (k : ℕ) → 0 < times k v.blocks
    → contents k ≡ None → ⊥
none_damaged contents v has k there none = undamaged_at contents v.blocks has.2.each has.2.undamaged k there none

-- The whole of it.

module _ {s s' : DiskState} {c : MemoryMap} (sound : IsSoundMemory s c false) (same : SameDisk s s') (key : ℕ)
    {p : PendingVersion} (was : pending_at c.pending key ≡ Some p) {t : TableState}
    (pending : List (Option PendingVersion)) {v : VersionState}
    (is : Regrown s.size c.known.table t pending key p v) (others : (k : ℕ) → (k ≡ key → ⊥)
    → pending_at pending k ≡ pending_at c.pending k)
    (modified : s'.honest → Modifies (IsOwn c.known.table p.version.blocks) s s') where
  gate_set : bit c.known.table 3 ≡ 1
  gate_set = whole_fixed s.size c.known sound.whole.map 3 (omega arith)

  pub put_failed : IsSoundMemory s' (record c { known = record c.known { table = t }; pending = pending }) true
  put_failed = sound_failed s s' (record c { known = record c.known { table = t }; pending = pending }) true same.size
      (put_whole s.size c sound.whole key p was t pending v is others) refl

  pub put_done : (w : VersionState) (block : ℕ) (words : List ℕ) → pending_at pending key
      ≡ Some (record p { version = w }) → w.words ≡ length_after p.version.words block (length words)
      → (s'.honest → (body : List ℕ) → length body ≡ p.version.words → HasBody s.contents p.version.blocks body
      → HasBody s'.contents w.blocks (splice body block words))
      → IsSoundMemory s' (record c { known = record c.known { table = t }; pending = pending }) false
  put_done w block words now long put = sound_for s s'
      (record c { known = record c.known { table = t }; pending = pending }) false same.size
      (put_whole s.size c sound.whole key p was t pending v is others)
      (λ h' ok. let h : s.honest = same.was_honest h' in
      put_bodies s.size c sound.whole key p was s s' false sound h refl (modified h').contents
      (record c { known = record c.known { table = t }; pending = pending }) w block words refl others now long
      (put h'))
      (λ h' ok k q there. ⊎_elim
      (λ (here : k ≡ key). let which = some_same (sym now ∙ ap (pending_at pending) (sym here) ∙ there) in
      subst (λ (u : PendingVersion). u.prime.moment.date < date_limit (pack_of s).layout) which
      (sound.dated (same.was_honest h') refl key p was))
      (λ other. sound.dated (same.was_honest h') refl k q (sym (others k other) ∙ there)) (cases_eq k key))
      (λ h' ok. let h : s.honest = same.was_honest h' in
      put_at s s' c.known (IsOwn c.known.table p.version.blocks) (λ n own. own.clear) sound.whole.map.aligned
      (sound.rest h refl) same.size (modified h') gate_set t (λ n. ap (λ (u : TableState). bit u n) is.1.table))

  pub crash_finds : s'.honest → (f : Files File) → RestsAt s f
      → ((d : Contents) → s.left_since s.clock d → MayLeave s d) → LeavesOnly s s' (λ d. StandsOn (pack_of s) d f)
  crash_finds h = quiet_finds s s' c.known (IsOwn c.known.table p.version.blocks) (λ n own. own.clear)
      sound.whole.map.aligned (sound.rest (same.was_honest h) refl) same.size (modified h) gate_set

  pub rest_finds : s'.honest → (f : Files File) → RestsAt s f → RestsAt s' f
  rest_finds h = quiet_rests s s' c.known (IsOwn c.known.table p.version.blocks) (λ n own. own.clear)
      sound.whole.map.aligned (sound.rest (same.was_honest h) refl) same.size (modified h) gate_set
