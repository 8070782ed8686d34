-- What becomes of images and their disks.
use Rattle.std.proofs.Common.{◌≡◌, ◌⊎◌, inl, inr, ⊎_elim, ℕ, List, Option, Some, Result, Ok, Err, OnOk, refl, sym}
use Rattle.std.proofs.Common.{subst, ◌∙◌, ◌+◌, ◌-◌, ◌*◌, ◌^◌, min, IfOk, ap, length, replicate, arith}
use Rattle.std.proofs.lemmas.List.{length-replicate}
use Rattle.std.specs.Prelude.{IsErrOf, option_map, None as Nothing}
use Rattle.std.specs.declared.io.Error.{Error}
use Rattle.blockdisk.specs.Common.{DiskState, LeavesOnly, NoneOpen, SameDisk, Still, one_more, leaves_on}
use Rattle.blockdisk.specs.Common.{Memory as MemoryDisk, memory_state, zeroed}
use Rattle.changeset.specs.Common.{IsRecovered, AtRest}
use Rattle.imagefile.specs.Common.{BeganAs, begun_image, block_length, other_form, Unseen}
use Rattle.imagefile.specs.declared.form.Form.{Form}
use Rattle.spec_image.specs.Common.{File, Files, empty, IsVolumeSize, layout_number, pack_in, pack_of, StandsOn}
use Rattle.spec_image.specs.Common.{Stands}
use Rattle.spec_image.specs.declared.layout.Layout.{Layout}
use Rattle.spec_image.proofs.Common.{stands_in_any}
use Rattle.monitor.proofs.Events.Along.{no_fault}
use Rattle.volume.specs.Common.{HomesComeLast, NamesInSpace, Refuses, RestsAt, StandsLikeBefore}
use Rattle.volume.specs.declared.error.CopyError.{CopyError}
use Rattle.volume.specs.declared.error.CopyError.TheVariants.{Source, Target}
use Rattle.volume.specs.declared.error.VolumeError.{VolumeError}
use Rattle.volume.specs.declared.error.VolumeError.TheVariants.{NotVolume, Device}
use Rattle.filser.specs.Common.{IsDeviceFault, IsExplained, HostFacts, IsOpened, IsCopied, IsCopyFault, IsCopyRun}
use Rattle.filser.specs.Common.{IsEmptyVolume, IsFaultOf, IsFresh, IsLeftAlone, IsNewDisk, IsNoNewDisk, IsNotMade}
use Rattle.filser.specs.Common.{IsOnBoth, IsOnCopy, IsOnSource, IsTaskRun, IsWhole, IsLine, refusal_code}
use Rattle.filser.specs.Common.{access_of, refusal_text, IsGivenBack, IsRefusedBy, Attends, Views}
use Rattle.filser.specs.declared.disks.Disks.{Disks}
use Rattle.filser.specs.declared.disks.Disks.TheVariants.{Unserved}
use Rattle.filser.specs.declared.fault.HostFault.{HostFault}
use Rattle.filser.specs.declared.fault.HostFault.TheVariants.{System}
use Rattle.filser.specs.declared.fault.ImageFault.{ImageFault}
use Rattle.filser.specs.declared.host.Access.TheVariants.{Read}
use Rattle.filser.specs.declared.refusal.Refusal.TheVariants.{Start}
use Rattle.filser.specs.declared.status.Status.{Status}
use Rattle.filser.specs.declared.task.Task.{Task}
use Rattle.filser.proofs.Since.{alone_since, fault_since, leaves_since, served_since, taken_since, unserved_since}

pub on_ok : {T E : Type 0} (result : Result T E) (value : T) (X : Type 0) → result ≡ Ok value → OnOk result X → X
on_ok {T = T} {E = E} result value X is p = subst (λ (r : Result T E). OnOk r X) is p

-- A new volume.

pub empty_volume : (layout : Layout) (size : ℕ) (new : DiskState) → new.size ≡ size
    → (new.honest → AtRest new (λ c. StandsOn (pack_in (layout_number layout) size) c empty))
    → (new.honest → NoneOpen new) → IsEmptyVolume layout new
empty_volume layout size new same rests settled = record {
  rests = λ h. subst (λ n. AtRest new (λ c. StandsOn (pack_in (layout_number layout) n) c empty)) (sym same) (rests h);
  settled = settled;
}

is_error : {T : Type 0} (error other : VolumeError) → error ≡ other
    → IsErrOf {T = T} {E = VolumeError} (Err error) other
is_error {T = T} error other is =
    subst (λ e. IsErrOf {T = T} {E = VolumeError} (Err e) other) (sym is) refl

pub no_volume : {T : Type 0} (size was failures failed blocks : ℕ) (error : VolumeError) (host : Option HostFault)
    (told : Option Error) → host ≡ option_map System told → size ≡ was → failures ≡ 0
    → (error ≡ NotVolume) ⊎ (error ≡ Device)
    → (IsErrOf {T = T} {E = VolumeError} (Err error) NotVolume → IsVolumeSize was → ⊥)
    → (IsErrOf {T = T} {E = VolumeError} (Err error) Device → failed ≡ one_more failures)
    → IsNoNewDisk size failed blocks (record { refusal = Start error; host = host })
no_volume {T = T} size was failures failed blocks error host told is same none (inl other) range fails = inr (inr (
  λ fits. range (is_error {T = T} error NotVolume other) (subst (λ n. IsVolumeSize n) same fits),
  λ i. Start (other i),
  (told, is),
))
no_volume {T = T} size was failures failed blocks error host told is same none (inr device) range fails = inl (
  (λ i. Start (device i), (told, is)),
  fails (is_error {T = T} error Device device) ∙ (λ i. min (none i + 1) (2 ^ 64 - 1)),
)

pub same_ok : {D E : Type 0} (result : Result D E) (disk : D) (P Q : D → Type 0)
    → IfOk result (λ long. (long ≡ disk) × Q long) → P disk → IfOk result P
same_ok (Ok long) disk P Q same p = subst P (sym same.0) p
same_ok (Err error) disk P Q same p = tt

-- A volume in memory.

sixty_four : (calls : ℕ) (old : MemoryDisk) → old ≡ zeroed 64 calls → length old.blocks ≡ 64
sixty_four calls old is =
    ap (λ (m : MemoryDisk). length m.blocks) is ∙ length-replicate 64 (Some (replicate {A = ℕ} 128 0))

pub fresh_disk : (calls : ℕ) (old new : MemoryDisk) → old ≡ zeroed 64 calls → length new.blocks ≡ length old.blocks
    → AtRest (memory_state new) (λ c. StandsOn (pack_in 1 (length old.blocks)) c empty) → NoneOpen (memory_state new)
    → new.failures ≡ old.failures → IsFresh (memory_state new)
fresh_disk calls old new is same rests settled sound = record {
  size = same ∙ sixty_four calls old is;
  honest = tt;
  rests = subst (λ n. AtRest (memory_state new) (λ c. StandsOn (pack_in 1 n) c empty)) (sixty_four calls old is) rests;
  settled = settled;
  failures = sound ∙ ap (λ (m : MemoryDisk). m.failures) is;
}

pub fresh_refused : {T : Type 0} (calls : ℕ) (old : MemoryDisk) (failed : ℕ) (error : VolumeError)
    → old ≡ zeroed 64 calls → (error ≡ NotVolume) ⊎ (error ≡ Device)
    → (IsErrOf {T = T} {E = VolumeError} (Err error) NotVolume → IsVolumeSize (length old.blocks) → ⊥)
    → (IsErrOf {T = T} {E = VolumeError} (Err error) Device → failed ≡ one_more old.failures)
    → (failed ≡ 1) × (error ≡ Device)
fresh_refused {T = T} calls old failed error is (inl other) range fails =
    absurd (range (is_error {T = T} error NotVolume other) (record {
      small = omega (arith, sixty_four calls old is);
      large = omega (arith, sixty_four calls old is);
    }))
fresh_refused {T = T} calls old failed error is (inr device) range fails = (
  fails (is_error {T = T} error Device device) ∙ ap (λ (m : MemoryDisk). min (m.failures + 1) (2 ^ 64 - 1)) is,
  device,
)

pub told_device : (sink full : Option (List ℕ)) (status : Status) (error : VolumeError) → error ≡ Device
    → IsLine sink full status (refusal_code (Start error)) (refusal_text (Start error))
    → IsExplained sink full status (record { refusal = Start Device; host = Nothing })
told_device sink full status error is said =
    subst (λ e. IsLine sink full status (refusal_code (Start e)) (refusal_text (Start e))) is said

-- A start that refuses.

pub refused_by : (old new : DiskState) (error : VolumeError) → SameDisk old new → NamesInSpace old.size error
    → (error ≡ Device → new.failures ≡ one_more old.failures)
    → ((error ≡ Device → ⊥) → new.failures ≡ old.failures)
    → (new.honest → Refuses old.size new.contents error)
    → (new.honest → (error ≡ Device → ⊥) → Still old new ⊎ IsRecovered old.size old.contents new.contents)
    → (new.honest → LeavesOnly old new (StandsLikeBefore old)) → IsRefusedBy old new error
refused_by old new error same named failed sound refuses kept crash = record {
  size = same.size;
  named = named;
  failed = failed;
  sound = sound;
  was_honest = same.was_honest;
  why = λ h. record {
    refuses = refuses h;
    faultless = λ files stands. no_fault old new stands.2.0.layout files
        (stands.0, stands.1, (stands.2.0, stands.2.1, stands.2.2, refl)) error (refuses h) (kept h);
    kept = kept h;
    crash = crash h;
  };
}

-- A copy.

pub copied_all : (result : Result (Unit {0}) CopyError) (mid from new to : DiskState) → to.size ≡ mid.size
    → OnOk result ((files : Files File) × StandsOn (pack_of to) mid.contents files × RestsAt to files)
    → OnOk result (NoneOpen to) → LeavesOnly new to (HomesComeLast mid.size from.contents new)
    → ((files : Files File) → Stands mid.size mid.contents files → OnOk result (RestsAt from files))
    → ((IsErrOf result (Source Device) → ⊥) → Still mid from ⊎ IsRecovered mid.size mid.contents from.contents)
    → OnOk result (IsCopied mid from new to)
copied_all (Ok value) mid from new to size stood settled last rests kept = record {
  files = stood.0;
  stood = stood.1;
  source = rests stood.0 (subst (λ n. Stands n mid.contents stood.0) size
      (stands_in_any (pack_of to) mid.contents stood.0 stood.1));
  kept = kept (λ e. cc);
  copy = stood.2;
  settled = settled;
  last = last;
}
copied_all (Err error) mid from new to size stood settled last rests kept = tt

same_source : (result : Result (Unit {0}) CopyError) (error other : VolumeError) → IsErrOf result (Source error)
    → IsErrOf result (Source other) → error ≡ other
same_source result error other is also = cc

pub copy_refused : (result : Result (Unit {0}) CopyError) (old new : DiskState) → SameDisk old new
    → ((error : VolumeError) → IsErrOf result (Source error) → NamesInSpace old.size error)
    → (IsErrOf result (Source Device) → new.failures ≡ one_more old.failures)
    → ((IsErrOf result (Source Device) → ⊥) → new.failures ≡ old.failures)
    → (new.honest → (error : VolumeError) → IsErrOf result (Source error) → Refuses old.size new.contents error)
    → (new.honest → (IsErrOf result (Source Device) → ⊥)
    → Still old new ⊎ IsRecovered old.size old.contents new.contents)
    → (new.honest → LeavesOnly old new (StandsLikeBefore old))
    → (error : VolumeError) → IsErrOf result (Source error) → IsRefusedBy old new error
copy_refused result old new same named failed sound refuses kept crash error is =
    refused_by old new error same (named error is)
    (λ device. failed (subst (λ e. IsErrOf result (Source e)) device is))
    (λ other. sound (λ also. other (same_source result error Device is also)))
    (λ h. refuses h error is)
    (λ h other. kept h (λ also. other (same_source result error Device is also)))
    crash

pub alone_on : (a b c : DiskState) → b.size ≡ a.size → (c.honest → b.honest) → IsLeftAlone a b → IsLeftAlone b c
    → IsLeftAlone a c
alone_on a b c size was p q = record {
  was_honest = λ h. p.was_honest (was h);
  crash = λ h.
      let first = p.crash (was h) in
      leaves_on a b c (StandsLikeBefore a) (StandsLikeBefore b) first (q.crash h) (λ x like.
      let before = first.now like.0 like.1 in (
        before.0,
        before.1,
        λ layout files stands. subst (λ n. StandsOn (pack_in layout n) x files) size (like.2 layout files
            (subst (λ n. StandsOn (pack_in layout n) like.0 files) (sym size) (before.2 layout files stands))),
      ));
}

-- a new disk on which no volume was made
pub not_made : {H L M F D I : Type 0} (facts : HostFacts H) (views : Views M F D I) (path : List ℕ) (form : Form)
    (blocks : ℕ) (u : Unseen) (made left : D) (fault : ImageFault) (disks : Disks L F D I)
    → IsNewDisk facts views path form blocks u made → disks ≡ Unserved left
    → ((n : ℕ) → IsNoNewDisk (views.disk left).size (views.disk left).failures n fault)
    → IsNotMade facts views path form blocks u fault disks
not_made facts views path form blocks u made left fault disks new is none =
    subst (λ d. IsNotMade facts views path form blocks u fault d) (sym is) (new.made, none blocks)

-- A task on an image.

-- a disk that is handed back after a refusal has the same size, and is as honest
pub given_size : {D : Type 0} (state : D → DiskState) (task : Task) (refused end : D)
    → IsGivenBack state task refused end → (state end).size ≡ (state refused).size
given_size state task refused end given = ⊎_elim (λ same. ap (λ d. (state d).size) same)
    (λ searched. searched.1.same.size) given

pub given_honest : {D : Type 0} (state : D → DiskState) (task : Task) (refused end : D)
    → IsGivenBack state task refused end → (state end).honest → (state refused).honest
given_honest state task refused end given h = ⊎_elim (λ same. subst (λ d. (state d).honest) same h)
    (λ searched. searched.1.same.was_honest h) given

pub served_image : {H I : Type 0} (facts : HostFacts H) (state : I → DiskState) (path : List ℕ)
    (form : Form) (u : Unseen) (task : Task) (source left sink full : Option (List ℕ)) (status : Status)
    (image end : I) → IsOpened facts path (access_of task) u → BeganAs form u (state image) → (state image).failures ≡ 0
    → (state end).size ≡ (state image).size → ((state end).honest → (state image).honest)
    → IsTaskRun state (state image) task source left sink full end status
    → IsOpened facts path (access_of task) u × IsWhole form u (state end)
    × IsTaskRun state (begun_image form (state end).size u) task source left sink full end status
served_image facts state path form u task source left sink full status image end opened began sound size was ran = (
  opened,
  record { size = λ h. began.size (was h) ∙ (λ i. block_length form * sym size i) },
  subst (λ n. IsTaskRun state (begun_image form n u) task source left sink full end status) (sym size)
      (⊎_elim (λ p. inl (served_since form u (state image) began sound state end status
      (Attends state task source left sink full) p))
      (λ p. inr (
        p.0,
        unserved_since form u (state image) began sound (state p.0) source left sink full status p.1,
        p.2,
      ))
      ran),
)

-- why a copy failed
pub copy_fault : (result : Result (Unit {0}) CopyError) (mid from : DiskState) (failed failures : ℕ) (error : CopyError)
    (fault : ImageFault) → result ≡ Err error → IsCopyFault error fault
    → ((e : VolumeError) → IsErrOf result (Source e) → IsRefusedBy mid from e)
    → (IsErrOf result Target → failed ≡ one_more failures)
    → IsFaultOf mid from fault ⊎ (IsDeviceFault fault × (failed ≡ one_more failures))
copy_fault result mid from failed failures (Source e) fault is told refused fails =
    inl (e, told.0, told.1, refused e is)
copy_fault result mid from failed failures Target fault is told refused fails = inr (told, fails is)

copied_since : (form : Form) (v : Unseen) (mid from target to : DiskState) → BeganAs form v target
    → target.failures ≡ 0 → target.honest → IsCopied mid from target to
    → IsCopied mid from (begun_image form target.size v) to
copied_since form v mid from target to began sound h p = record {
  files = p.files;
  stood = p.stood;
  source = p.source;
  kept = p.kept;
  copy = p.copy;
  settled = p.settled;
  last = leaves_since form v target began sound to (HomesComeLast mid.size from.contents target)
      (HomesComeLast mid.size from.contents (begun_image form target.size v)) h p.last
      (λ c. ⊎_elim (λ homes. inl (homes.0, (began.still h).crash homes.0 homes.1, homes.2)) (λ parts. inr parts))
      (λ c may. inl (c, may, λ n few. refl));
}

module _ {H L M F D I : Type 0} (facts : HostFacts H) (views : Views M F D I) (sink full : Option (List ℕ))
    (status : Status) where
  on_copy_so : (new : List ℕ) (form : Form) (v : Unseen) (mid from : DiskState) (target to : D)
      (disks : Disks L F D I) → IsNewDisk facts views new form mid.size v target → BeganAs form v (views.disk target)
      → (views.disk target).failures ≡ 0 → SameDisk (views.disk target) (views.disk to)
      → IsCopyRun views mid from (views.disk target) to sink full disks status
      → IsOnCopy facts views new form v mid from sink full disks status
  on_copy_so new form v mid from target to disks disk began sound same (inl p) = inl (
    to,
    p.0,
    p.1,
    record {
      made = disk.made;
      size = same.size ∙ disk.size;
      whole = record { size = λ h. disk.whole.size (same.was_honest h) ∙ (λ i. block_length form * sym same.size i) };
    },
    λ h k. subst (λ n. IsCopied mid from (begun_image form n v) (views.disk to)) disk.size
        (copied_since form v mid from (views.disk target) (views.disk to) began sound (same.was_honest k) (p.2 h k)),
    p.3,
  )
  on_copy_so new form v mid from target to disks disk began sound same (inr p) = ⊎_elim
      (λ fault. inr (inl (to, p.0, disk.made, (p.1.0, fault, p.1.2))))
      (λ device. inr (inr (
        p.1.0,
        subst (λ (d : Disks L F D I). IsNotMade facts views new form mid.size v p.1.0 d) (sym p.0) (
          disk.made,
          inl (device.0, device.1 ∙ (λ i. min (sound i + 1) (2 ^ 64 - 1))),
        ),
        p.1.2,
      ))) p.1.1

  pub on_copy : (new : List ℕ) (form other : Form) (blocks : ℕ) (v : Unseen) (mid from : DiskState) (target to : D)
      (disks : Disks L F D I) → other ≡ form → blocks ≡ mid.size → IsNewDisk facts views new other blocks v target
      → BeganAs other v (views.disk target) → (views.disk target).failures ≡ 0
      → SameDisk (views.disk target) (views.disk to)
      → IsCopyRun views mid from (views.disk target) to sink full disks status
      → IsOnCopy facts views new form v mid from sink full disks status
  on_copy new form other blocks v mid from target to disks formed sized disk began sound same run =
      on_copy_so new form v mid from target to disks
      (subst (λ (f : Form). IsNewDisk facts views new f mid.size v target) formed
      (subst (λ n. IsNewDisk facts views new other n v target) sized disk))
      (subst (λ (f : Form). BeganAs f v (views.disk target)) formed began) sound same run

  -- A conversion of an image that was opened.
  source_since : (new : List ℕ) (form : Form) (u v : Unseen) (making : L) (disk from : DiskState)
      (copy : Disks L F D I) (began : BeganAs form u disk) (sound : disk.failures ≡ 0)
      → IsOnSource facts views new (other_form form) v making disk from sink full copy status
      → IsOnSource facts views new (other_form form) v making (begun_image form disk.size u) from sink full copy status
  source_since new form u v making disk from copy began sound (inl p) =
      inl (p.0, (p.1.0, fault_since form u disk began sound from p.1.0 p.1.1, p.1.2))
  source_since new form u v making disk from copy began sound (inr p) = inr (record {
    mid = p.mid;
    size = p.size;
    was_honest = p.was_honest;
    was_taken = λ h. tt;
    taken = λ h. taken_since form u disk began sound (views.disk p.mid) (p.was_taken h) (p.taken h);
    done = p.done;
  })

  pub converted : {N : Type 0} (path new : List ℕ) (form : Form) (u v : Unseen) (opening : N) (making : L)
      (disk from : D) (image : Disks N F D I) (copy : Disks L F D I) → image ≡ Unserved from
      → IsOpened facts path Read u → BeganAs form u (views.disk disk) → (views.disk disk).failures ≡ 0
      → SameDisk (views.disk disk) (views.disk from) → IsLeftAlone (views.disk disk) (views.disk from)
      → IsOnSource facts views new (other_form form) v making (views.disk disk) (views.disk from) sink full copy status
      → IsOnBoth facts views path new form u v opening making sink full image copy status
  converted path new form u v opening making disk from image copy is opened began sound same alone source = inl (
    from,
    is,
    opened,
    record { size = λ h. began.size (same.was_honest h) ∙ (λ i. block_length form * sym same.size i) },
    subst (λ n. IsLeftAlone (begun_image form n u) (views.disk from)) (sym same.size)
        (alone_since form u (views.disk disk) began sound (views.disk from) same.was_honest alone),
    subst (λ n. IsOnSource facts views new (other_form form) v making (begun_image form n u) (views.disk from) sink full
        copy status) (sym same.size)
        (source_since new form u v making (views.disk disk) (views.disk from) copy began sound source),
  )
