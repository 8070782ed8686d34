-- A reader keeps what it reads when others rename, delete and remove; and reading takes no room.
use Rattle.std.proofs.Common.{◌≡◌, ◌≢◌, ℕ, Bool, true, false, if◌then◌else◌, Option, Some, None, refl, sym, ap, subst}
use Rattle.std.proofs.Common.{◌∙◌, ◌⊎◌, inl, inr}
use Rattle.std.specs.Prelude.{◌==◌, nat_lt, pos, ◌-ℤ◌}
use Rattle.std.proofs.lemmas.Bool.{eqb-true, eq-eqb}
use Rattle.words36.specs.declared.moment.Moment.{Moment}
use Rattle.spec_image.specs.Common.{Files, SpecVersion, Pack, blocks_of}
use Rattle.spec_machine.specs.Jobs.{Channel, SpecJob, State, channel_at, job_at}
use Rattle.spec_machine.specs.Room.{version_of, booked, space, room}
use Rattle.spec_machine.specs.Outcomes.{clean, stopped_in, refused_at}
use Rattle.spec_machine.specs.Inputs.{reads, in_answer, in_done, words_ahead, words_moved, core_filled, moved_on}
use Rattle.spec_machine.specs.Rename.{renames, rename_answer, rename_done, files_renamed}
use Rattle.spec_machine.specs.MakeDir.{removes, remove_answer}
use Rattle.spec_machine.specs.Step.{step, last_date, on_job, on_channel, of_files}
use Rattle.spec_machine.specs.Sound.{version_for, holds_at}
use Rattle.spec_machine.specs.declared.call.Call.TheVariants.{Rename, In, DeleteDir}
use Rattle.spec_machine.specs.declared.call.Event.TheVariants.{Call as Calls}
use Rattle.spec_machine.specs.declared.call.Reply.{Reply}
use Rattle.spec_machine.specs.declared.call.Reply.TheVariants.{Done, Refused, DateRange}
use Rattle.spec_machine.proofs.OutcomeLaws.{settled_by, stopped_by, refused_by}
use Rattle.spec_machine.proofs.SlotLaws.{slot-set_same, slot-set_other}
use Rattle.spec_machine.proofs.SoundSteps.{same_moved}
use Rattle.spec_machine.proofs.StepLaws.{spares_step, keeps_step}
use Rattle.spec_machine.proofs.UndoneLaws.{SameSides, same_sides, booked-same_sides}

-- The rows of one job.

abbrev Holds : State → Reply × State → ℕ → ℕ → Type 0
Holds s r n k = holds_at r.1 n k ≡ holds_at s n k

holds_if : (s : State) (late : Bool) (r : Reply × State) (n k : ℕ) → Holds s r n k
    → Holds s (if late then (DateRange, s) else r) n k
holds_if s true r n k h = refl
holds_if s false r n k h = h

holds_job : (s : State) (row : SpecJob → Reply × State) (o : Option SpecJob) (n k : ℕ)
    → ((job : SpecJob) → o ≡ Some job → Holds s (row job) n k) → Holds s (on_job s o row) n k
holds_job s row None n k h = refl
holds_job s row (Some job) n k h = h job refl

holds_channel : (s : State) (row : Channel → Reply × State) (o : Option Channel) (n k : ℕ)
    → ((c : Channel) → Holds s (row c) n k) → Holds s (on_channel s o row) n k
holds_channel s row None n k h = refl
holds_channel s row (Some c) n k h = h c

-- the versions that a job's channels pin, if its record changes
holds_files : (s : State) (n : ℕ) (job : SpecJob) (r : Reply × (SpecJob × Files SpecVersion)) (k : ℕ)
    → job_at s n ≡ Some job
    → version_of (channel_at r.1.0 k) ≡ version_of (channel_at job k) → Holds s (of_files s n r) n k
holds_files s n job r k there h = ap (version_for k) (slot-set_same s.jobs n r.1.0 job there) ∙ h
    ∙ sym (ap (version_for k) there)

rename_holds : (pack : Pack) (s : State) (job : SpecJob) (ch : ℕ) (c : Channel) (e k : ℕ) → k ≢ ch
    → version_of (channel_at (renames pack s job ch c e).1.0 k) ≡ version_of (channel_at job k)
rename_holds pack s job ch c e k apart =
    settled_by {A = SpecJob × Files SpecVersion} (λ r. version_of (channel_at r.1.0 k) ≡ version_of (channel_at job k))
    (rename_answer pack s job c e) (rename_done job ch c, files_renamed s.files job e c.input)
    (λ r. (refused_at job e r, s.files))
    (λ is. ap version_of (slot-set_other job.channels ch k _ apart))
    (λ differs. refused_by (λ j. version_of (channel_at j k) ≡ version_of (channel_at job k)) job e _ (λ core. refl))

pub renamed_holds : (pack : Pack) (serial : ℕ) (s : State) (n ch e : ℕ) (moment : Moment) (m k : ℕ) → (m ≢ n) ⊎ (k ≢ ch)
    → holds_at (step pack serial s (Calls n (Rename ch e) moment)).1 m k ≡ holds_at s m k
renamed_holds pack serial s n ch e moment m k (inl apart) = ap (version_for k)
    (spares_step pack serial s m (Calls n (Rename ch e) moment) apart)
renamed_holds pack serial s n ch e moment m k (inr apart) = decide (m == n) refl
  where
    own : holds_at (step pack serial s (Calls n (Rename ch e) moment)).1 n k ≡ holds_at s n k
    own = holds_if s (nat_lt (last_date pack.layout) moment.date) _ n k (holds_job s _ (job_at s n) n k (λ job there.
        holds_channel s _ (channel_at job ch) n k
        (λ c. holds_files s n job (renames pack s job ch c e) k there (rename_holds pack s job ch c e k apart))))

    decide : (b : Bool) → (m == n) ≡ b → holds_at (step pack serial s (Calls n (Rename ch e) moment)).1 m k
        ≡ holds_at s m k
    decide true f = subst (λ q. holds_at (step pack serial s (Calls n (Rename ch e) moment)).1 q k
        ≡ holds_at s q k) (sym (eqb-true m n f)) own
    decide false f = ap (version_for k) (spares_step pack serial s m (Calls n (Rename ch e) moment)
        (λ same. let wrong = sym f ∙ eq-eqb m n same in cc))

remove_holds : (s : State) (job : SpecJob) (e k : ℕ) → version_of (channel_at (removes s job e).1.0 k)
    ≡ version_of (channel_at job k)
remove_holds s job e k =
    settled_by {A = SpecJob × Files SpecVersion} (λ r. version_of (channel_at r.1.0 k) ≡ version_of (channel_at job k))
    (remove_answer s job e _) (job, _) (λ r. (refused_at job e r, s.files))
    (λ is. refl) (λ differs. refused_by (λ j. version_of (channel_at j k) ≡ version_of (channel_at job k)) job e _
    (λ core. refl))

pub removed_holds : (pack : Pack) (serial : ℕ) (s : State) (n e : ℕ) (moment : Moment) (m k : ℕ)
    → holds_at (step pack serial s (Calls n (DeleteDir e) moment)).1 m k ≡ holds_at s m k
removed_holds pack serial s n e moment m k = decide (m == n) refl
  where
    own : holds_at (step pack serial s (Calls n (DeleteDir e) moment)).1 n k ≡ holds_at s n k
    own = holds_if s (nat_lt (last_date pack.layout) moment.date) _ n k
        (holds_job s _ (job_at s n) n k (λ job there. holds_files s n job (removes s job e) k there
        (remove_holds s job e k)))

    decide : (b : Bool) → (m == n) ≡ b → holds_at (step pack serial s (Calls n (DeleteDir e) moment)).1 m k
        ≡ holds_at s m k
    decide true f = subst (λ q. holds_at (step pack serial s (Calls n (DeleteDir e) moment)).1 q k
        ≡ holds_at s q k) (sym (eqb-true m n f)) own
    decide false f = ap (version_for k) (spares_step pack serial s m (Calls n (DeleteDir e) moment)
        (λ same. let wrong = sym f ∙ eq-eqb m n same in cc))

-- A refused RENAME.

not_done : (reply : Reply) (code : ℕ) → reply ≡ Refused code → reply ≢ Done
not_done reply code e f = let wrong = sym e ∙ f in cc

pub refused_rename : (pack : Pack) (serial : ℕ) (s : State) (n ch e : ℕ) (moment : Moment) (code : ℕ)
    → (step pack serial s (Calls n (Rename ch e) moment)).0 ≡ Refused code
    → (step pack serial s (Calls n (Rename ch e) moment)).1.files ≡ s.files
refused_rename pack serial s n ch e moment code is = keeps_step pack serial s (Calls n (Rename ch e) moment)
    (not_done _ code is)

-- The room after an IN.

abbrev SameBooked : State → Reply × State → Type 0
SameBooked s r = booked r.1 ≡ booked s

booked_if : (s : State) (late : Bool) (r : Reply × State) → SameBooked s r
    → SameBooked s (if late then (DateRange, s) else r)
booked_if s true r h = refl
booked_if s false r h = h

booked_job : (s : State) (row : SpecJob → Reply × State) (o : Option SpecJob)
    → ((job : SpecJob) → o ≡ Some job → SameBooked s (row job)) → SameBooked s (on_job s o row)
booked_job s row None h = refl
booked_job s row (Some job) h = h job refl

booked_channel : (s : State) (row : Channel → Reply × State) (o : Option Channel)
    → ((c : Channel) → o ≡ Some c → SameBooked s (row c)) → SameBooked s (on_channel s o row)
booked_channel s row None h = refl
booked_channel s row (Some c) h = h c refl

in_sides : (job : SpecJob) (ch : ℕ) (c : Channel) (a : ℕ) → channel_at job ch ≡ Some c
    → SameSides (reads job ch c a).1 job
in_sides job ch c a is =
    settled_by (λ r. SameSides r.1 job) (in_answer job c a) (in_done job ch c a) (stopped_in job ch c)
    (λ done. same_sides job (core_filled job c a (words_ahead c.input c.output)) ch c
    (record (clean c) { input = moved_on c.input (blocks_of (words_moved job c a)) }) is (same_moved c.input _) refl)
    (λ differs. stopped_by (λ j. SameSides j job) job ch c _ (refl, refl)
    (λ status. same_sides job job.core ch c (record c { status = status }) is refl refl))

pub in_booked : (pack : Pack) (serial : ℕ) (s : State) (n ch a : ℕ) (moment : Moment)
    → booked (step pack serial s (Calls n (In ch a) moment)).1 ≡ booked s
in_booked pack serial s n ch a moment =
    booked_if s (nat_lt (last_date pack.layout) moment.date) _ (booked_job s _ (job_at s n) (λ job there.
    booked_channel s _ (channel_at job ch) (λ c is. booked-same_sides s n (reads job ch c a).1 job there
    (in_sides job ch c a is))))

pub in_room : (pack : Pack) (serial : ℕ) (s : State) (n ch a : ℕ) (moment : Moment)
    → room pack (step pack serial s (Calls n (In ch a) moment)).1 ≡ room pack s
in_room pack serial s n ch a moment = ap (λ b. pos (space pack) -ℤ pos b) (in_booked pack serial s n ch a moment)
