-- One change of a volume, whichever call makes it: blocks that nothing reads are written, and then its puts are
-- committed. All that its call states of the disk follows from what the change is, over values.
use Rattle.std.proofs.Common.{◌≡◌, ⊎_elim, ℕ, ◌≤◌, Bool, true, false, List, length, Result, Ok, Err, OnOk, IfErr}
use Rattle.std.proofs.Common.{IsErrOf, refl, sym, ap, ◌∙◌, subst, arith}
use Rattle.std.proofs.lemmas.Result.{on_ok_weaker}
use Rattle.std.specs.List.{AllByRecursion}
use Rattle.blockdisk.specs.Common.{Contents, DiskState, MayLeave, Keeps, Near, Modifies, SameDisk, LeavesOnly}
use Rattle.blockdisk.specs.Common.{modifies_start, keeps_still, still_modifies, same_disk_start, same_disk_on}
use Rattle.changeset.specs.Common.{IsGateOrLog, IsPutIn, Ignores, AtRest, transaction_leaves, commit_rest}
use Rattle.spec_image.specs.declared.layout.Layout.{Layout}
use Rattle.spec_image.specs.declared.put.Put.{Put}
use Rattle.spec_image.specs.Common.{File, Files, pack_of, IsTarget, targets, with_puts, log_images, DiskMap, files_of}
use Rattle.alloctab.specs.Common.{IsFree, bit}
use Rattle.volume.specs.Common.{IsWrittenBy, IsCommitted, IsEdited, ChangesFiles, KeepsHomeCopies, MatchesMap}
use Rattle.volume.specs.Common.{MemoryMap}
use Rattle.volume.specs.Common.{IsWholeMemory, AreDated, IsAtRest, IsSoundMemory, IsSoundVolume, RestsAt}
use Rattle.volume.specs.Common.{StandsForOneOf}
use Rattle.volume.specs.declared.error.CallError.{CallError}
use Rattle.volume.specs.declared.error.CallError.TheVariants.{Device}
use Rattle.volume.proofs.common.UnchangedHomes.{homes_start, homes_modified, homes_written, homes_stay, past_homes}
use Rattle.volume.proofs.common.UnchangedHomes.{clear_past}
use Rattle.volume.proofs.common.MapStays.{IsKept, read_kept, written_kept}
use Rattle.volume.proofs.common.LiveBodies.{HaveBodies, body_stays}
use Rattle.volume.proofs.common.PassedErrors.{err_of}
use Rattle.volume.proofs.common.Rests.{files_are, crash_for, rest_for, sound_for, sound_failed}
use Rattle.volume.proofs.common.TableBits.{whole_fixed}
use Rattle.volume.proofs.common.UsedBlocks.{ignores_log}
use Rattle.volume.proofs.common.Packs.{pack_held}
use Rattle.volume.proofs.PublishVersion.Publications.{quiet_leaves_either, unchanged_leaves}
use Rattle.volume.proofs.PutWords.Disk.{ignores_clear, quiet_at_rest, quiet_finds}
use Rattle.volume.proofs.common.SoundVolumes.{not_both, volume_goes_on}

-- no block is written beforehand,
abbrev pub Nowhere : ℕ → Type 0
Nowhere n = ⊥

-- and nothing is required of the disk
abbrev pub Anyhow : Contents → Type 0
Anyhow d = Unit {0}

-- What a change is: memory before and after, the blocks that are written beforehand, what the disk has then, the puts,
-- and what becomes of the files. `layout` is the volume's.
pub record IsEdit (size layout : ℕ) (c c' : MemoryMap) (Quiet : ℕ → Type 0) (Ready : Contents → Type 0)
    (puts : List Put) (become : Files File → Files File) : Type 0 where
  -- memory stays whole, and each version has its words if it had them
  pub whole : IsWholeMemory size c'
  pub bodies : (d : Contents) → HaveBodies d c → HaveBodies d c'
  pub dated : (n : ℕ) → AreDated n c → AreDated n c'
  -- what is written beforehand is free
  pub quiet : (n : ℕ) → Quiet n → IsFree c.known.table n
  -- the puts lie where they may, and there is room for them; none is of a home copy or of a version in use
  pub in_range : AllByRecursion (IsTarget size) (targets puts)
  pub few : length puts ≤ log_images size
  pub low : (n : ℕ) → n ≤ 2 → IsPutIn puts n → ⊥
  pub spares : (n : ℕ) → IsKept size c n → IsPutIn puts n → ⊥
  -- and they turn any map that the disk has into the one of the new memory
  pub leads : (m : DiskMap) (d : Contents) → m.layout ≡ layout → MatchesMap size c.known m d → Ready d
      → (m' : DiskMap) × MatchesMap size c'.known m' (with_puts puts d) × (files_of m' ≡ become (files_of m))
      × (m'.layout ≡ m.layout)

-- what is required of the puts, on a disk of the same size
module _ {s mid : DiskState} {layout : ℕ} {c c' : MemoryMap} {Quiet : ℕ → Type 0} {Ready : Contents → Type 0}
    {puts : List Put} {become : Files File → Files File} (edit : IsEdit s.size layout c c' Quiet Ready puts become)
    (same : SameDisk s mid) where
  pub edit_in_range : AllByRecursion (IsTarget mid.size) (targets puts)
  edit_in_range = subst (λ (n : ℕ). AllByRecursion (IsTarget n) (targets puts)) (sym same.size) edit.in_range

  pub edit_few : length puts ≤ log_images mid.size
  edit_few = subst (λ (n : ℕ). length puts ≤ log_images n) (sym same.size) edit.few

-- a read writes nothing
pub read_nothing : (s mid : DiskState) → Keeps s mid → Modifies Nowhere s mid
read_nothing s mid keeps = still_modifies Nowhere s mid (keeps_still s mid keeps)

-- What a commit returned.

-- it was made, unless the device failed
unless_device : {T : Type 0} (result : Result T CallError) (X : Type 0) → IfErr result (λ e. e ≡ Device)
    → (IsErrOf result Device → ⊥) → OnOk result X → X
unless_device (Ok x) X only served is = is
unless_device (Err e) X only served is = absurd (served (err_of e Device only))

-- what follows from three facts that hold if a call returns Ok
on_ok_three : {T E : Type 0} {A B C X : Type 0} (result : Result T E) → (A → B → C → X) → OnOk result A
    → OnOk result B → OnOk result C → OnOk result X
on_ok_three (Ok x) gives a b c = gives a b c
on_ok_three (Err e) gives a b c = tt

-- what holds anyway holds at Ok
pub ok_anyway : {T E : Type 0} (result : Result T E) (P : Type 0) → P → OnOk result P
ok_anyway (Ok x) P is = is
ok_anyway (Err e) P is = tt

-- no other error comes of it
pub only_device : {T : Type 0} (result : Result T CallError) (e : CallError) → IfErr result (λ x. x ≡ Device)
    → IsErrOf result e → e ≡ Device
only_device (Ok x) e only is = cc
only_device (Err x) e only is = cc

-- What follows.

module _ {s mid : DiskState} {c : MemoryMap} {Quiet : ℕ → Type 0} {alive : Bool} (sound : IsSoundMemory s c alive)
    (ok : alive ≡ false) (only_now : s.honest → (d : Contents) → s.left_since s.clock d → MayLeave s d)
    (same : SameDisk s mid) (free : (n : ℕ) → Quiet n → IsFree c.known.table n) where
  -- no home copy is written beforehand
  quiet_past : (n : ℕ) → n ≤ 2 → Quiet n → ⊥
  quiet_past n low is = clear_past s.size c.known sound.whole.map n low (free n is).clear

  -- nor the gate
  gate : bit c.known.table 3 ≡ 1
  gate = whole_fixed s.size c.known sound.whole.map 3 (omega arith)

  -- nor a block of a version in use
  quiet_stays : Modifies Quiet s mid → (n : ℕ) → IsKept s.size c n → mid.contents n ≡ s.contents n
  quiet_stays written n kept = written.contents n (λ is. kept.used (free n is))

  -- What is written beforehand, no crash sees.
  module _ (h : s.honest) (written : Modifies Quiet s mid) where
    mid_rest : AtRest mid (MatchesMap s.size c.known (sound.rest h ok).map)
    mid_rest = quiet_at_rest s mid c.known Quiet (λ n is. (free n is).clear) sound.whole.map.aligned (sound.rest h ok)
        same.size written gate

    written_crash : (f g : Files File) → RestsAt s f → LeavesOnly s mid (StandsForOneOf (pack_of s) f g)
    written_crash f g rests = quiet_leaves_either s mid f g
        (quiet_finds s mid c.known Quiet (λ n is. (free n is).clear) sound.whole.map.aligned (sound.rest h ok) same.size
        written gate f rests (only_now h))

  -- The call breaks off there.
  pub interrupted : {c' : MemoryMap} {become : Files File → Files File} → IsWholeMemory s.size c'
      → (mid.honest → Modifies Quiet s mid) → (e : CallError) → IsEdited s mid c c' become true (Err e)
  interrupted {c'} {become} whole written e = record {
    sound = sound_failed s mid c' true same.size whole refl;
    files = record {
      crash = λ m f. written_crash (same.was_honest m) (written m) f (become f);
      done = λ m f rests. tt;
      readers = λ m served k v is some n there.
          quiet_stays (written m) n (read_kept s.size c sound.whole k v is some n there);
      writers = λ m served k q is n there.
          quiet_stays (written m) n (written_kept s.size c sound.whole k q is n there);
      homes = record {
        crash = λ m. homes_modified Quiet s mid quiet_past (only_now (same.was_honest m)) (written m);
        stay = λ m served. homes_stay Quiet s mid quiet_past (written m);
      };
    };
    device = λ failed. refl;
    same = same;
  }

  -- The puts are committed.
  module _ {s' : DiskState} {c' : MemoryMap} {layout : ℕ} {Ready : Contents → Type 0} {puts : List Put}
      {become : Files File → Files File} {was failed : Bool} {result : Result (Unit {0}) CallError}
      (edit : IsEdit s.size layout c c' Quiet Ready puts become) (committed : IsCommitted mid s' puts was failed result)
      (written : mid.honest → Modifies Quiet s mid) (ready : mid.honest → Ready mid.contents)
      (layout_is : s.honest → (pack_of s).layout ≡ layout) where
    both : SameDisk s s'
    both = same_disk_on s mid s' same committed.same

    past : (n : ℕ) → n ≤ 2 → IsWrittenBy mid.size puts n → ⊥
    past = past_homes mid.size puts edit.low

    module _ (h' : s'.honest) where
      abbrev m : mid.honest
      m = committed.same.was_honest h'

      abbrev h : s.honest
      h = same.was_honest m

      abbrev now : IsAtRest s c.known
      now = sound.rest h ok

      led : (m' : DiskMap) × MatchesMap s.size c'.known m' (with_puts puts mid.contents)
          × (files_of m' ≡ become (files_of now.map)) × (m'.layout ≡ now.map.layout)
      led = edit.leads now.map mid.contents (pack_held s c.known now.map now.rest ∙ layout_is h)
          ((mid_rest h (written m)).all mid.contents (λ n closed. refl)) (ready m)

      names : (f : Files File) → RestsAt s f → files_of led.0 ≡ become f
      names f rests = led.2 ∙ ap become (files_are s c.known now.map f now.rest rests)

      ignores_new : Ignores (IsGateOrLog s.size) (MatchesMap s.size c'.known led.0)
      ignores_new = ignores_log s.size c'.known led.0 edit.whole.map.aligned

      -- the commit leaves the files from before, or the new ones
      crash : (f : Files File) → RestsAt s f → LeavesOnly s s' (StandsForOneOf (pack_of s) f (become f))
      crash f rests = crash_for s s' c.known c'.known now.map led.0 f (become f) now.rest
          (files_are s c.known now.map f now.rest rests) (names f rests) led.3
          (transaction_leaves Quiet puts s mid s' (MatchesMap s.size c.known now.map) (MatchesMap s.size c'.known led.0)
          (ignores_clear s.size c.known now.map Quiet sound.whole.map.aligned (λ n is. (free n is).clear))
          (λ is. let none = (free 3 is).clear in let set = gate in omega arith)
          (ignores_log s.size c.known now.map sound.whole.map.aligned) ignores_new
          same.size now.rest (only_now h) (written m) led.1 (committed.crash h' (mid_rest h (written m)).shut))

      -- and at Ok the latter
      rest : OnOk result (AtRest s' (MatchesMap s.size c'.known led.0))
      rest = on_ok_three result (commit_rest puts mid s' (MatchesMap s.size c'.known led.0)
          (subst (λ (n : ℕ). Ignores (IsGateOrLog n) (MatchesMap s.size c'.known led.0)) (sym same.size) ignores_new)
          led.1) (committed.all h') (committed.settled h') (committed.shut h' (mid_rest h (written m)).shut)

      module _ (served : IsErrOf result Device → ⊥) where
        -- the blocks of versions in use stay
        stays : (n : ℕ) → IsKept s.size c n → s'.contents n ≡ s.contents n
        stays n kept =
            (unless_device result _ committed.only served (committed.modified h')).contents n
            (⊎_elim (λ log. let from = kept.from in let below = log.1 in let e = same.size in omega arith)
            (edit.spares n kept))
            ∙ quiet_stays (written m) n kept

        bodies : HaveBodies s'.contents c'
        bodies = edit.bodies s'.contents (record {
          read = λ k v is some. body_stays s.contents s'.contents v.version (sound.read h ok k v is some)
              (λ n there. stays n (read_kept s.size c sound.whole k v is some n there));
          written = λ k q is. body_stays s.contents s'.contents q.version (sound.written h ok k q is)
              (λ n there. stays n (written_kept s.size c sound.whole k q is n there));
        })

    served : failed ≡ false → IsErrOf result Device → ⊥
    served good is = not_both failed (committed.device is) good

    pub edited : IsEdited s s' c c' become failed result
    edited = record {
      sound = sound_for s s' c' failed both.size edit.whole (λ h' good. bodies h' (served good))
          (λ h' good. edit.dated (pack_of s).layout (sound.dated (h h') ok))
          (λ h' good. (
            (led h').0,
            unless_device result _ committed.only (served good) (rest h'),
            (led h').3 ∙ pack_held s c.known (now h').map (now h').rest,
          ));
      files = record {
        crash = crash;
        done = λ h' f rests. on_ok_weaker result (rest_for s s' c'.known (led h').0 (become f) both.size
            (names h' f rests)) (rest h');
        readers = λ h' good k v is some n there. stays h' good n (read_kept s.size c sound.whole k v is some n there);
        writers = λ h' good k q is n there. stays h' good n (written_kept s.size c sound.whole k q is n there);
        homes = record {
          crash = λ h'. homes_written Quiet (IsWrittenBy mid.size puts) s mid s' quiet_past past (only_now (h h'))
              (written (m h')) (committed.near h');
          stay = λ h' good n low.
              homes_stay (IsWrittenBy mid.size puts) mid s' past
              (unless_device result _ committed.only good (committed.modified h')) n low
              ∙ homes_stay Quiet s mid quiet_past (written (m h')) n low;
        };
      };
      device = committed.device;
      same = both;
    }

-- with nothing written beforehand
pub edited_alone : {s s' : DiskState} {c c' : MemoryMap} {layout : ℕ} {puts : List Put}
    {become : Files File → Files File} {alive was failed : Bool} {result : Result (Unit {0}) CallError}
    → IsEdit s.size layout c c' Nowhere Anyhow puts become → IsSoundMemory s c alive → alive ≡ false
    → (s.honest → (d : Contents) → s.left_since s.clock d → MayLeave s d) → IsCommitted s s' puts was failed result
    → (s.honest → (pack_of s).layout ≡ layout) → IsEdited s s' c c' become failed result
edited_alone {s} edit sound ok only_now committed layout_is =
    edited sound ok only_now (same_disk_start s) edit.quiet edit committed
    (λ h. modifies_start Nowhere s) (λ h. tt) layout_is

-- A volume that was sound is sound.
pub edited_volume : {s s' : DiskState} {c c' : MemoryMap} {become : Files File → Files File} {alive failed : Bool}
    {result : Result (Unit {0}) CallError} {layout : Layout} → IsSoundVolume s c alive layout → alive ≡ false
    → IsEdited s s' c c' become failed result → IsSoundVolume s' c' failed layout
edited_volume {s} {s'} {c} {c'} {become} {alive} {failed} {result} {layout} was ok edited =
    volume_goes_on s s' c c' alive failed layout was edited.sound edited.same.size edited.same.was_honest (λ good. ok)
    (λ h good. edited.files.homes.stay h (λ is. not_both failed (edited.device is) good))

-- a closed block that wasn't written is as it was
near_closed : (In : ℕ → Type 0) (s s' : DiskState) → LeavesOnly s s' (Near In s) → (n : ℕ) → (In n → ⊥)
    → s.is_open n ≡ false → s'.contents n ≡ s.contents n
near_closed In s s' leaves n out closed =
    let near = leaves.now s'.contents (λ m is. refl) in
    near.2 n out ∙ near.1 n closed

-- A block that isn't written stays, and if the device failed a closed one does.
pub not_written_stays : {s s' : DiskState} {puts : List Put} {was failed : Bool}
    {result : Result (Unit {0}) CallError} → IsCommitted s s' puts was failed result → s'.honest → (n : ℕ)
    → (IsWrittenBy s.size puts n → ⊥) → (IsErrOf result Device → s.is_open n ≡ false)
    → s'.contents n ≡ s.contents n
not_written_stays {s} {s'} {puts} {was} {failed} {result} committed h n out closed =
    by result committed.only (committed.modified h) closed
  where
    by : (r : Result (Unit {0}) CallError) → IfErr r (λ e. e ≡ Device)
        → OnOk r (Modifies (IsWrittenBy s.size puts) s s') → (IsErrOf r Device → s.is_open n ≡ false)
        → s'.contents n ≡ s.contents n
    by (Ok x) only modified shut = modified.contents n out
    by (Err e) only modified shut = near_closed (IsWrittenBy s.size puts) s s' (committed.near h) n out
        (shut (err_of e Device only))

-- Nothing was done.
pub copies_stay : {T : Type 0} {s : DiskState} {result : Result T CallError}
    → (s.honest → (d : Contents) → s.left_since s.clock d → MayLeave s d) → KeepsHomeCopies s s result
copies_stay {T} {s} only_now = record {
  crash = λ h. homes_start s (only_now h);
  stay = λ h served n low. refl;
}

pub files_stay : {s : DiskState} {c : MemoryMap} {become : Files File → Files File} {e : CallError}
    → (s.honest → (d : Contents) → s.left_since s.clock d → MayLeave s d) → ChangesFiles s s c become (Err e)
files_stay {s} {c} {become} only_now = record {
  crash = λ h f rests. unchanged_leaves s f (become f) rests (only_now h);
  done = λ h f rests. tt;
  readers = λ h served k v is some n there. refl;
  writers = λ h served k q is n there. refl;
  homes = copies_stay only_now;
}
