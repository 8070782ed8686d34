-- Words that are read: what stays, and that a version which can be read has its words.
use Rattle.std.proofs.Common.{◌≡◌, ℕ, ◌<◌, Bool, true, false, if◌then◌else◌, List, [], ◌∷◌, Option, Some, None}
use Rattle.std.proofs.Common.{option_map, IfSome, refl, sym, ap, subst, ◌∙◌, arith, ⊎_elim}
use Rattle.std.proofs.lemmas.Bool.{cases_eq, cases_lt}
use Rattle.std.proofs.lemmas.List.{get_or_past}
use Rattle.std.specs.List.{AllByRecursion, AllZip}
use Rattle.blockdisk.specs.Common.{Contents, DiskState}
use Rattle.changeset.specs.Common.{OnlyReads, AtRest, times_tail}
use Rattle.spec_image.specs.Common.{InSpace, File, Files, times, pack_of, SettledStandsOn}
use Rattle.spec_image.proofs.Common.{times_here, times_later, some_none, some_same, times-append}
use Rattle.alloctab.specs.Common.{digit, IsTable, bit}
use Rattle.retrieval.specs.Common.{VersionState}
use Rattle.volume.specs.declared.handles.VersionHandle.{VersionHandle}
use Rattle.volume.specs.declared.handles.VersionHandle.TheVariants.{Pinned, Pending}
use Rattle.volume.specs.declared.live.LiveVersion.{LiveVersion}
use Rattle.volume.specs.declared.pending.PendingVersion.{PendingVersion}
use Rattle.volume.specs.Common.{blocks_reached, MatchesMap, MemoryMap, slot, pinned_reaches, IsWholePending}
use Rattle.volume.specs.Common.{IsWholeMemory}
use Rattle.volume.specs.Common.{version_under, IsReadable, AreDated, HasSomeBody, IsSoundMemory, RestsAt}
use Rattle.volume.proofs.common.MapStays.{read_kept}
use Rattle.volume.proofs.common.LiveBodies.{body_stays}
use Rattle.volume.proofs.PinVersion.Pins.{total_at, each_slot, current_stands}
use Rattle.volume.proofs.VolumeStart.Starts.{rest_read}
use Rattle.volume.proofs.common.Packs.{homes_layout, rests_in}

-- Reading changes nothing.

pub rests_read : (s s' : DiskState) (files : Files File) → s'.size ≡ s.size → OnlyReads s s' → RestsAt s files
    → RestsAt s' files
rests_read s s' files size reads rests = rests_in s' (pack_of s) files (sym size)
    (rest_read s s' (λ c. SettledStandsOn (pack_of s) c files) size reads rests)

pub sound_read : (s s' : DiskState) (c : MemoryMap) (failed : Bool) → s'.size ≡ s.size → (s'.honest → s.honest)
    → (s'.honest → OnlyReads s s') → IsSoundMemory s c failed → IsSoundMemory s' c failed
sound_read s s' c failed size honest reads sound = record {
  whole = subst (λ (n : ℕ). IsWholeMemory n c) (sym size) sound.whole;
  rest = λ h ok.
      let own = sound.rest (honest h) ok in
      record {
        map = own.map;
        rest = subst (λ (n : ℕ). AtRest s' (MatchesMap n c.known own.map)) (sym size)
            (rest_read s s' (MatchesMap s.size c.known own.map) size (reads h) own.rest);
      };
  read = λ h ok key v at some. body_stays s.contents s'.contents v.version (sound.read (honest h) ok key v at some)
      (λ n there. (reads h).still.contents n);
  written = λ h ok key p at. body_stays s.contents s'.contents p.version (sound.written (honest h) ok key p at)
      (λ n there. (reads h).still.contents n);
  dated = λ h ok. subst (λ (l : ℕ). AreDated l c)
      (sym (homes_layout s s' size (λ n low. (reads h).still.contents n))) (sound.dated (honest h) ok);
}

-- What can be read lies in the free space.

module _ (size : ℕ) (c : MemoryMap) (whole : IsWholeMemory size c) (table : IsTable c.known.table) where
  set_below : (n : ℕ) → 0 < bit c.known.table n → n < size
  set_below n some = ⊎_elim (λ below. below)
      (λ past.
      let long = table.bits_are in
      let same = whole.map.size_is in
      let none : bit c.known.table n ≡ 0 = ap digit (get_or_past c.known.table.bits n false (omega arith)) in
      absurd (omega arith)) (cases_lt n size)

  read_inside : (key : ℕ) (v : LiveVersion) → slot c.live key ≡ Some v → 0 < v.readers → (n : ℕ)
      → 0 < times n v.version.blocks → InSpace size n
  read_inside key v is some n there = record {
    from = (read_kept size c whole key v is some n there).from;
    below = by v.is_current refl;
  }
    where
      stands : 0 < times n (blocks_reached v.at v.version)
      stands = let parts = times-append n v.version.ribs v.version.blocks in omega arith

      by : (b : Bool) → v.is_current ≡ b → n < size
      by true current = set_below n (let most = current_stands size c whole key v is current n in let here = stands in
          let is = whole.map.bits n in omega arith)
      by false ended = (whole.inside n
          (let part = total_at (pinned_reaches n) refl c.live key in
          let here = ap (pinned_reaches n) is
          ∙ ap (λ (b : Bool). if b then 0 else times n (blocks_reached v.at v.version)) ended in
          let all = whole.held n in
          let one = stands in
          omega arith)).below

  all_of : (P : ℕ → Type 0) (ns : List ℕ) → ((n : ℕ) → 0 < times n ns → P n) → AllByRecursion P ns
  all_of P [] has = tt
  all_of P (n ∷ ns) has = (has n (times_here n ns), all_of P ns (λ m there. has m (times_later m n ns there)))

  pub readable_inside : (handle : VersionHandle) (v : VersionState) → IsReadable c handle
      → version_under c handle ≡ Some v → AllByRecursion (InSpace size) v.blocks
  readable_inside (Pinned pin) v readable is =
      let same : readable.0.version ≡ v = some_same (sym (ap (option_map (λ (w : LiveVersion). w.version)) readable.1)
      ∙ is) in
      subst (λ (w : VersionState). AllByRecursion (InSpace size) w.blocks) same
      (all_of (InSpace size) readable.0.version.blocks (read_inside pin.key readable.0 readable.1 readable.2))
  readable_inside (Pending pending) v readable is =
      let same : readable.0.version
      ≡ v = some_same (sym (ap (option_map (λ (p : PendingVersion). p.version)) readable.1) ∙ is) in
      let here = subst (λ (o : Option PendingVersion). IfSome o (IsWholePending size)) readable.1
      (each_slot (λ o. IfSome o (IsWholePending size)) tt c.pending whole.waiting pending.key) in
      subst (λ (w : VersionState). AllByRecursion (InSpace size) w.blocks) same here.inside

-- On an honest disk none of its blocks is damaged.

pub readable_body : (s : DiskState) (c : MemoryMap) (failed : Bool) → IsSoundMemory s c failed → s.honest → failed
    ≡ false
    → (handle : VersionHandle) (v : VersionState) → IsReadable c handle → version_under c handle ≡ Some v
    → HasSomeBody s.contents v
readable_body s c failed sound h ok (Pinned pin) v readable is =
    subst (HasSomeBody s.contents) (some_same (sym (ap (option_map (λ (w : LiveVersion). w.version)) readable.1) ∙ is))
    (sound.read h ok pin.key readable.0 readable.1 readable.2)
readable_body s c failed sound h ok (Pending pending) v readable is =
    subst (HasSomeBody s.contents) (some_same (sym (ap (option_map (λ (p : PendingVersion). p.version)) readable.1)
    ∙ is)) (sound.written h ok pending.key readable.0 readable.1)

zip_there : (contents : Contents) (blocks : List ℕ) (each : List (List ℕ)) (n : ℕ)
    → AllZip (λ n words. contents n ≡ Some words) blocks each → 0 < times n blocks → (words : List ℕ)
    × (contents n ≡ Some words)
zip_there contents [] each n zip there = absurd (omega arith)
zip_there contents (b ∷ bs) [] n zip there = absurd zip
zip_there contents (b ∷ bs) (w ∷ ws) n zip there = ⊎_elim (λ (same : n ≡ b). (w, ap contents same ∙ zip.0))
    (λ other. zip_there contents bs ws n zip.1 (let tail = times_tail n b bs other in omega arith)) (cases_eq n b)

pub undamaged : (contents : Contents) (v : VersionState) (n : ℕ) → HasSomeBody contents v → 0 < times n v.blocks
    → contents n ≡ None → ⊥
undamaged contents v n has there none = some_none
    (sym (zip_there contents v.blocks has.2.each n has.2.undamaged there).1 ∙ none)
