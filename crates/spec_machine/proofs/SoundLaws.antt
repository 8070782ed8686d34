-- A state stays sound after an event.
use Rattle.std.proofs.Common.{◌≡◌, ℕ, true, false, List, ◌++◌, Option, Some, refl, sym, ap, subst, ◌∙◌, ◌⊎◌, inl, inr}
use Rattle.std.proofs.Common.{⊎_elim}
use Rattle.std.specs.Prelude.{◌==◌, ◌&&◌, IsSome, slice_set}
use Rattle.std.proofs.lemmas.Bool.{eqb-true, eq-eqb}
use Rattle.spec_image.specs.Common.{get, Files, Place, SpecVersion, same_place, file_at}
use Rattle.spec_machine.specs.Jobs.{Channel, SpecJob, SpecOutput, State, is_create, channel_at, job_at, with_channel}
use Rattle.spec_machine.specs.Jobs.{all_closed}
use Rattle.spec_machine.specs.Room.{output_of, version_of, is_claimed, current_versions, pinned_versions}
use Rattle.spec_machine.specs.Runs.{IsFresh}
use Rattle.spec_machine.specs.Sound.{output_for, writes_at, version_for, Exists, AreAlike, IsSound}
use Rattle.spec_machine.proofs.SlotLaws.{slot-set_cases, slot-empty}
use Rattle.spec_machine.proofs.SideLaws.{unclaimed, none_passes, version_of_all}
use Rattle.words36.proofs.OctetReaderLaws.{both-true}

-- One place.

pub same_place-equal : (a b : Place) → same_place a b ≡ true → a ≡ b
same_place-equal a b e =
    let h = both-true ((a.ppn == b.ppn) && (a.name.name == b.name.name)) (a.name.ext == b.name.ext) e in
    let g = both-true (a.ppn == b.ppn) (a.name.name == b.name.name) h.0 in
    let p = eqb-true a.ppn b.ppn g.0 in
    let n = eqb-true a.name.name b.name.name g.1 in
    let x = eqb-true a.name.ext b.name.ext h.1 in
    λ i. record { ppn = p i; name = record { name = n i; ext = x i } }

-- How a state follows from another: the output sides that were there, and perhaps one more, of job n on channel ch, at
-- a place that was free; the versions that were there, and perhaps a new one.

abbrev pub OldSide : State → ℕ → ℕ → SpecOutput → Type 0
OldSide s m k new = (o : SpecOutput) × (writes_at s m k ≡ Some o) × (new.place ≡ o.place) × (new.kind ≡ o.kind)

abbrev pub NewSide : State → ℕ → ℕ → ℕ → ℕ → SpecOutput → Type 0
NewSide s n ch m k new =
    (m ≡ n) × (k ≡ ch) × (is_claimed s new.place ≡ false)
    × (is_create new.kind ≡ false → IsSome (file_at s.files new.place)) × IsSome (get s.files new.place.ppn)

-- Versions that are alike.

pub alike_same : {v w : SpecVersion} → v ≡ w → AreAlike v w
alike_same e = record {
  mode = ap (λ x. x.file.mode) e;
  time = ap (λ x. x.file.time) e;
  date = ap (λ x. x.file.date) e;
  body = ap (λ x. x.file.body) e;
}

alike_on : {u v w : SpecVersion} → AreAlike u v → AreAlike v w → AreAlike u w
alike_on a b = record { mode = a.mode ∙ b.mode; time = a.time ∙ b.time; date = a.date ∙ b.date; body = a.body ∙ b.body }

alike_back : {v w : SpecVersion} → AreAlike v w → AreAlike w v
alike_back a = record { mode = sym a.mode; time = sym a.time; date = sym a.date; body = sym a.body }

-- a version that was there, except for its protection
abbrev pub Known : State → SpecVersion → Type 0
Known s w = (u : SpecVersion) × Exists s u × (u.serial ≡ w.serial) × AreAlike u w

pub known : (s : State) (w : SpecVersion) → Exists s w → Known s w
known s w there = (w, there, refl, alike_same refl)

pub record Goes (s s' : State) (v : SpecVersion) (n ch : ℕ) : Type 0 where
  pub writes : (m k : ℕ) (o : SpecOutput) → writes_at s' m k ≡ Some o → OldSide s m k o ⊎ NewSide s n ch m k o
  pub versions : (w : SpecVersion) → Exists s' w → Known s w ⊎ (w ≡ v)
  -- a file at an output side's place stays
  pub stays : (m k : ℕ) (o : SpecOutput) → writes_at s' m k ≡ Some o → IsSome (file_at s.files o.place)
      → IsSome (file_at s'.files o.place)
  pub keeps : (m k : ℕ) (o : SpecOutput) → writes_at s' m k ≡ Some o → IsSome (get s.files o.place.ppn)
      → IsSome (get s'.files o.place.ppn)

-- a version of a fresh serial is one that doesn't exist
pub fresh_is_new : (s : State) (serial : ℕ) → IsFresh s serial → (w : SpecVersion) → Exists s w → w.serial ≡ serial → ⊥
fresh_is_new s serial fresh w there e =
    let h = version_of_all s (λ v. (v.serial == serial) ≡ false)
    (none_passes (λ v. v.serial == serial) (current_versions s ++ pinned_versions s) fresh) w there in
    let g = eq-eqb w.serial serial e in
    let wrong = sym h ∙ g in cc

module _ (s s' : State) (v : SpecVersion) (n ch : ℕ) (sound : IsSound s) (goes : Goes s s' v n ch) where
  single_on : (a b x y : ℕ) (o p : SpecOutput) → OldSide s a x o ⊎ NewSide s n ch a x o → OldSide s b y p
      ⊎ NewSide s n ch b y p → same_place o.place p.place ≡ true → (a ≡ b) × (x ≡ y)
  single_on a b x y o p (inl old) (inl was) e =
      sound.single a b x y old.0 was.0 old.1 was.1 (ap (λ l. same_place l was.0.place) (sym old.2)
      ∙ ap (λ l. same_place o.place l) (sym was.2) ∙ e)
  single_on a b x y o p (inl old) (inr new) e =
      let free = unclaimed s p.place new.2 a x old.0 old.1 in
      let wrong = sym free ∙ ap (λ l. same_place l p.place) (sym old.2) ∙ e in cc
  single_on a b x y o p (inr new) (inl was) e =
      let here : o.place ≡ p.place = same_place-equal o.place p.place e in
      let free = unclaimed s o.place new.2 b y was.0 was.1 in
      let wrong = sym free ∙ ap (λ l. same_place l o.place) (sym was.2) ∙ ap (λ l. same_place p.place l) here
      ∙ ap (λ l. same_place l p.place) (sym here) ∙ e in cc
  single_on a b x y o p (inr new) (inr also) e = (new.0 ∙ sym also.0, new.1 ∙ sym also.1)

  present_on : (a x : ℕ) (o : SpecOutput) → OldSide s a x o ⊎ NewSide s n ch a x o → is_create o.kind ≡ false
      → IsSome (file_at s.files o.place)
  present_on a x o (inl old) e = subst (λ l. IsSome (file_at s.files l)) (sym old.2)
      (sound.present a x old.0 old.1 (ap is_create (sym old.3) ∙ e))
  present_on a x o (inr new) e = new.3 e

  housed_on : (a x : ℕ) (o : SpecOutput) → OldSide s a x o ⊎ NewSide s n ch a x o → IsSome (get s.files o.place.ppn)
  housed_on a x o (inl old) = subst (λ (l : Place). IsSome (get s.files l.ppn)) (sym old.2)
      (sound.housed a x old.0 old.1)
  housed_on a x o (inr new) = new.4

  serials_on : (w u : SpecVersion) → IsFresh s v.serial → Known s w ⊎ (w ≡ v) → Known s u ⊎ (u ≡ v)
      → w.serial ≡ u.serial
      → AreAlike w u
  serials_on w u fresh (inl a) (inl b) e = alike_on (alike_back a.3)
      (alike_on (sound.serials a.0 b.0 a.1 b.1 (a.2 ∙ e ∙ sym b.2)) b.3)
  serials_on w u fresh (inl a) (inr b) e = absurd (fresh_is_new s v.serial fresh a.0 a.1 (a.2 ∙ e
      ∙ ap (λ z. z.serial) b))
  serials_on w u fresh (inr a) (inl b) e = absurd (fresh_is_new s v.serial fresh b.0 b.1 (b.2 ∙ sym e
      ∙ ap (λ z. z.serial) a))
  serials_on w u fresh (inr a) (inr b) e = alike_same (a ∙ sym b)

  pub sound_goes : IsFresh s v.serial → IsSound s'
  sound_goes fresh = record {
    single = λ a b x y o p h g e. single_on a b x y o p (goes.writes a x o h) (goes.writes b y p g) e;
    housed = λ a x o h. goes.keeps a x o h (housed_on a x o (goes.writes a x o h));
    present = λ a x o h e. goes.stays a x o h (present_on a x o (goes.writes a x o h) e);
    serials = λ w u a b e. serials_on w u fresh (goes.versions w a) (goes.versions u b) e;
  }

-- A job's new record.

pub record GoodJob (s : State) (v : SpecVersion) (n ch : ℕ) (job : SpecJob) : Type 0 where
  pub writes : (k : ℕ) (o : SpecOutput) → output_of (channel_at job k) ≡ Some o → OldSide s n k o ⊎ NewSide s n ch n k o
  pub versions : (k : ℕ) (w : SpecVersion) → version_of (channel_at job k) ≡ Some w → Exists s w ⊎ (w ≡ v)

pub good_self : (s : State) (v : SpecVersion) (n ch : ℕ) (job : SpecJob) → job_at s n ≡ Some job → (core : List ℕ)
    → GoodJob s v n ch (record job { core = core })
good_self s v n ch job there core = record {
  writes = λ k o h. inl (o, ap (output_for k) there ∙ h, refl, refl);
  versions = λ k w h. inl (inr (n, k, ap (version_for k) there ∙ h));
}

pub good_channel : (s : State) (v : SpecVersion) (n ch : ℕ) (job : SpecJob) → job_at s n ≡ Some job
    → (core : List ℕ) (x : Option Channel)
    → ((o : SpecOutput) → output_of x ≡ Some o → OldSide s n ch o ⊎ NewSide s n ch n ch o)
    → ((w : SpecVersion) → version_of x ≡ Some w → Exists s w ⊎ (w ≡ v))
    → GoodJob s v n ch (with_channel (record job { core = core }) ch x)
good_channel s v n ch job there core x sides holds = record {
  writes = λ k o h. ⊎_elim
      (λ here. subst (λ q. OldSide s n q o ⊎ NewSide s n ch n q o) (sym here.1)
      (sides o (ap output_of (sym here.0) ∙ h)))
      (λ other. inl (o, ap (output_for k) there ∙ ap output_of (sym other) ∙ h, refl, refl))
      (slot-set_cases job.channels ch k x);
  versions = λ k w h. ⊎_elim
      (λ here. holds w (ap version_of (sym here.0) ∙ h))
      (λ other. inl (inr (n, k, ap (version_for k) there ∙ ap version_of (sym other) ∙ h)))
      (slot-set_cases job.channels ch k x);
}

-- a job that has all its channels closed
pub good_closed : (s : State) (v : SpecVersion) (n ch ppn : ℕ) (core : List ℕ)
    → GoodJob s v n ch (record { ppn = ppn; core = core; channels = all_closed })
good_closed s v n ch ppn core = record {
  writes = λ k o h. let wrong = ap output_of (sym (slot-empty 16 k)) ∙ h in cc;
  versions = λ k w h. let wrong = ap version_of (sym (slot-empty 16 k)) ∙ h in cc;
}

module _ (s : State) (v : SpecVersion) (n ch : ℕ) (files : Files SpecVersion) (job : SpecJob) where
  -- the state with these files and the job's new record
  abbrev after : State
  after = record s { files = files; jobs = slice_set s.jobs n (Some job) }

  versions_by : ((k : ℕ) (w : SpecVersion) → version_of (channel_at job k) ≡ Some w → Exists s w ⊎ (w ≡ v))
      → ((place : Place) (w : SpecVersion) → file_at files place ≡ Some w → Known s w ⊎ (w ≡ v))
      → (w : SpecVersion) → Exists after w → Known s w ⊎ (w ≡ v)
  versions_by holds current_versions w there = ⊎_elim (λ at. current_versions at.0 w at.1)
      (λ at. ⊎_elim
      (λ here. ⊎_elim (λ was. inl (known s w was)) (λ new. inr new) (holds at.1 w (ap (version_for at.1) (sym here.0)
      ∙ at.2)))
      (λ other. inl (known s w (inr (at.0, at.1, ap (version_for at.1) (sym other) ∙ at.2))))
      (slot-set_cases s.jobs n at.0 (Some job))) there

  -- with files that have the versions that existed, and perhaps the new one
  pub goes_with : GoodJob s v n ch job → ((place : Place) (w : SpecVersion) → file_at files place ≡ Some w
      → Exists s w ⊎ (w ≡ v))
      → ((place : Place) → IsSome (file_at s.files place) → IsSome (file_at files place))
      → ((ppn : ℕ) → IsSome (get s.files ppn) → IsSome (get files ppn))
      → Goes s after v n ch
  goes_with good current_versions stays keeps = record {
    writes = λ m k o h. ⊎_elim
        (λ here. subst (λ q. OldSide s q k o ⊎ NewSide s n ch q k o) (sym here.1)
        (good.writes k o (ap (output_for k) (sym here.0) ∙ h)))
        (λ other. inl (o, ap (output_for k) (sym other) ∙ h, refl, refl)) (slot-set_cases s.jobs n m (Some job));
    versions = versions_by good.versions (λ place w is. ⊎_elim (λ was. inl (known s w was)) (λ new. inr new)
        (current_versions place w is));
    stays = λ m k o h is. stays o.place is;
    keeps = λ m k o h is. keeps o.place.ppn is;
  }

  -- with the same output sides, and files that have those at their places
  pub goes_kept : ((k : ℕ) (o : SpecOutput) → output_of (channel_at job k) ≡ Some o → OldSide s n k o)
      → ((k : ℕ) (w : SpecVersion) → version_of (channel_at job k) ≡ Some w → Exists s w)
      → ((place : Place) (w : SpecVersion) → file_at files place ≡ Some w → Known s w)
      → ((m k : ℕ) (o : SpecOutput) → writes_at s m k ≡ Some o → IsSome (file_at s.files o.place)
      → IsSome (file_at files o.place))
      → ((m k : ℕ) (o : SpecOutput) → writes_at s m k ≡ Some o → IsSome (get s.files o.place.ppn)
      → IsSome (get files o.place.ppn))
      → Goes s after v n ch
  goes_kept sides holds current_versions stays keeps = record {
    writes = λ m k o h. inl (old m k o h);
    versions = versions_by (λ k w h. inl (holds k w h)) (λ place w is. inl (current_versions place w is));
    stays = λ m k o h is. let was = old m k o h in
        subst (λ q. IsSome (file_at files q)) (sym was.2)
        (stays m k was.0 was.1 (subst (λ q. IsSome (file_at s.files q)) was.2 is));
    keeps = λ m k o h is. let was = old m k o h in
        subst (λ (q : Place). IsSome (get files q.ppn)) (sym was.2)
        (keeps m k was.0 was.1 (subst (λ (q : Place). IsSome (get s.files q.ppn)) was.2 is));
  }
    where
      old : (m k : ℕ) (o : SpecOutput) → writes_at after m k ≡ Some o → OldSide s m k o
      old m k o h = ⊎_elim
          (λ here. subst (λ q. OldSide s q k o) (sym here.1) (sides k o (ap (output_for k) (sym here.0) ∙ h)))
          (λ other. (o, ap (output_for k) (sym other) ∙ h, refl, refl)) (slot-set_cases s.jobs n m (Some job))

-- only the job's record
pub goes_job : (s : State) (v : SpecVersion) (n ch : ℕ) (job : SpecJob) → GoodJob s v n ch job
    → Goes s (record s { jobs = slice_set s.jobs n (Some job) }) v n ch
goes_job s v n ch job good = goes_with s v n ch s.files job good (λ place w is. inl (inl (place, is)))
    (λ place is. is) (λ ppn is. is)

pub goes_nowhere : (s : State) (v : SpecVersion) (n ch : ℕ) → Goes s s v n ch
goes_nowhere s v n ch = record {
  writes = λ m k o h. inl (o, h, refl, refl);
  versions = λ w there. inl (known s w there);
  stays = λ m k o h is. is;
  keeps = λ m k o h is. is;
}
