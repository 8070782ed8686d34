-- A volume that is given layout 2.
use Rattle.std.proofs.Common.{◌≡◌, ◌⊎◌, inl, inr, ⊎_elim, ℕ, List, Option, refl, sym, subst, ◌∙◌, ◌+◌, ◌-◌, ◌*◌, ◌^◌}
use Rattle.std.proofs.Common.{min, Err}
use Rattle.std.specs.Prelude.{IsErrOf}
use Rattle.blockdisk.specs.Common.{Contents, DiskState, LeavesOnly, NoneOpen, SameDisk, Still, one_more}
use Rattle.blockdisk.specs.Common.{same_contents, still_on}
use Rattle.changeset.specs.Common.{IsRecovered, AtRest}
use Rattle.imagefile.specs.Common.{BeganAs, begun_image, block_length, Unseen}
use Rattle.imagefile.specs.declared.form.Form.{Form}
use Rattle.spec_image.specs.Common.{File, Files, pack_in, SettledStandsOn, StandsOn, Stands}
use Rattle.monitor.proofs.Events.Along.{no_fault}
use Rattle.volume.specs.Common.{NamesInSpace, Refuses, IsMigrated, IsTold, RaisedLikeBefore}
use Rattle.volume.specs.declared.error.VolumeError.{VolumeError}
use Rattle.volume.specs.declared.error.VolumeError.TheVariants.{Device}
use Rattle.volume.specs.declared.migrate.Migrated.{Migrated}
use Rattle.volume.specs.declared.migrate.Migrated.TheVariants.{Done, Already}
use Rattle.filser.specs.Common.{HostFacts, IsOpened, IsWhole, IsKeptBack, IsMigration, IsMigrationRefused}
use Rattle.filser.specs.Common.{IsMigrationRun, IsRaised}
use Rattle.filser.specs.declared.host.Access.{Access}
use Rattle.filser.specs.declared.status.Status.{Status}
use Rattle.filser.proofs.Since.{leaves_since}

-- What `Volume::migrate` states of a disk.

by_layout : (layout : ℕ) (migrated : Migrated) (X Y : Type 0) → IsTold layout migrated → (migrated ≡ Done → X)
    → (migrated ≡ Already → Y) → ((layout ≡ 1) × X) ⊎ ((layout ≡ 2) × Y)
by_layout layout Done X Y told done already = inl (told, done refl)
by_layout layout Already X Y told done already = inr (told, already refl)

pub migration : (old new : DiskState) (migrated : Migrated) → SameDisk old new → new.failures ≡ old.failures
    → (new.honest → (layout : ℕ) × (files : Files File) × StandsOn (pack_in layout old.size) old.contents files)
    → (new.honest → (layout : ℕ) (files : Files File) → StandsOn (pack_in layout old.size) old.contents files
    → IsTold layout migrated × AtRest new (λ c. SettledStandsOn (pack_in 2 old.size) c files))
    → (new.honest → NoneOpen new) → (new.honest → LeavesOnly old new (RaisedLikeBefore old))
    → (new.honest → migrated ≡ Done → IsMigrated old.size old.contents new.contents)
    → (new.honest → migrated ≡ Already → IsRecovered old.size old.contents new.contents) → IsMigration old new
migration old new migrated same sound stood rests settled crash done already = record {
  size = same.size;
  failures = sound;
  was_honest = same.was_honest;
  raised = λ h.
      let s = stood h in
      let r = rests h s.0 s.1 s.2 in
      record {
        layout = s.0;
        files = s.1;
        stood = s.2;
        rests = r.1;
        settled = settled h;
        crash = crash h;
        done = by_layout s.0 migrated (IsMigrated old.size old.contents new.contents)
            (IsRecovered old.size old.contents new.contents) r.0 (done h) (already h);
      };
}

is_error : {T : Type 0} (error : VolumeError) → error ≡ Device → IsErrOf {T = T} {E = VolumeError} (Err error) Device
is_error {T = T} error is = subst (λ e. IsErrOf {T = T} {E = VolumeError} (Err e) Device) (sym is) refl

same_error : {T : Type 0} (error : VolumeError) → IsErrOf {T = T} {E = VolumeError} (Err error) Device
    → error ≡ Device
same_error error is = cc

pub migration_refused : {T : Type 0} (old new : DiskState) (error : VolumeError) → SameDisk old new
    → NamesInSpace old.size error
    → (IsErrOf {T = T} {E = VolumeError} (Err error) Device → new.failures ≡ one_more old.failures)
    → ((IsErrOf {T = T} {E = VolumeError} (Err error) Device → ⊥) → new.failures ≡ old.failures)
    → (new.honest → Refuses old.size new.contents error)
    → (new.honest → (error ≡ Device → ⊥) → Still old new ⊎ IsRecovered old.size old.contents new.contents)
    → (new.honest → LeavesOnly old new (RaisedLikeBefore old)) → IsMigrationRefused old new error
migration_refused {T = T} old new error same named failed sound refuses kept crash = record {
  size = same.size;
  named = named;
  failed = λ device. failed (is_error {T = T} error device);
  sound = λ other. sound (λ is. other (same_error {T = T} error is));
  was_honest = same.was_honest;
  why = λ h. record {
    refuses = refuses h;
    faultless = λ files stands. no_fault old new stands.2.0.layout files
        (stands.0, stands.1, (stands.2.0, stands.2.1, stands.2.2, refl)) error (refuses h) (kept h);
    kept = kept h;
    crash = crash h;
  };
}

-- What holds since the disk was made holds since before the first call on its file.

module _ (form : Form) (u : Unseen) (d : DiskState) (began : BeganAs form u d) (sound : d.failures ≡ 0) where
  abbrev begun : DiskState
  begun = begun_image form d.size u

  same_begun : d.honest → d.contents ≡ begun.contents
  same_begun h = same_contents begun.contents d.contents (began.still h).contents

  raised_crash : (e : DiskState) → d.honest → LeavesOnly d e (RaisedLikeBefore d)
      → LeavesOnly begun e (RaisedLikeBefore begun)
  raised_crash e h leaves = leaves_since form u d began sound e (RaisedLikeBefore d) (RaisedLikeBefore begun) h leaves
      (λ c like. (like.0, (began.still h).crash like.0 like.1, like.2))
      (λ c may. (c, may, λ layout files stands. inl stands))

  recovered_begun : (now : Contents) → d.honest → IsRecovered d.size d.contents now
      → IsRecovered begun.size begun.contents now
  recovered_begun now h recovered = subst (λ (c : Contents). IsRecovered d.size c now) (same_begun h) recovered

  raised_since : (end : DiskState) → d.honest → IsRaised d end → IsRaised begun end
  raised_since end h p = record {
    layout = p.layout;
    files = p.files;
    stood = subst (λ (c : Contents). StandsOn (pack_in p.layout d.size) c p.files) (same_begun h) p.stood;
    rests = p.rests;
    settled = p.settled;
    crash = raised_crash end h p.crash;
    done = ⊎_elim (λ done. inl (
      done.0,
      subst (λ (c : Contents). IsMigrated d.size c end.contents) (same_begun h) done.1,
    )) (λ already. inr (already.0, recovered_begun end.contents h already.1)) p.done;
  }

  kept_since : (end : DiskState) (error : VolumeError) → d.honest → IsKeptBack d end error
      → IsKeptBack begun end error
  kept_since end error h p = record {
    refuses = p.refuses;
    faultless = λ files stands.
        p.faultless files (subst (λ (c : Contents). Stands d.size c files) (sym (same_begun h)) stands);
    kept = λ other. ⊎_elim (λ still. inl (still_on begun d end (began.still h) still))
        (λ recovered. inr (recovered_begun end.contents h recovered)) (p.kept other);
    crash = raised_crash end h p.crash;
  }

  run_since : (end : DiskState) (sink full : Option (List ℕ)) (status : Status)
      → IsMigrationRun d end sink full status → IsMigrationRun begun end sink full status
  run_since end sink full status (inl p) = inl (
    record {
      size = p.0.size;
      failures = p.0.failures ∙ sound;
      was_honest = λ h. tt;
      raised = λ h. raised_since end (p.0.was_honest h) (p.0.raised h);
    },
    p.1,
  )
  run_since end sink full status (inr p) = inr (
    p.0,
    record {
      size = p.1.size;
      named = p.1.named;
      failed = λ device. subst (λ n. end.failures ≡ min (n + 1) (2 ^ 64 - 1)) sound (p.1.failed device);
      sound = λ other. p.1.sound other ∙ sound;
      was_honest = λ h. tt;
      why = λ h. kept_since end p.0 (p.1.was_honest h) (p.1.why h);
    },
    p.2,
  )

pub migrated_image : {H : Type 0} {access : Access} (facts : HostFacts H) (path : List ℕ) (form : Form) (u : Unseen)
    (sink full : Option (List ℕ)) (status : Status) (disk end : DiskState) → IsOpened facts path access u
    → BeganAs form u disk → disk.failures ≡ 0 → SameDisk disk end → IsMigrationRun disk end sink full status
    → IsOpened facts path access u × IsWhole form u end
    × IsMigrationRun (begun_image form end.size u) end sink full status
migrated_image facts path form u sink full status disk end opened began sound same ran = (
  opened,
  record { size = λ h. began.size (same.was_honest h) ∙ (λ i. block_length form * sym same.size i) },
  subst (λ n. IsMigrationRun (begun_image form n u) end sink full status) (sym same.size)
      (run_since form u disk began sound end sink full status ran),
)
