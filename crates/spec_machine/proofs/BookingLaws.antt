-- Sums over output sides, and what is booked, if a job's record changes.
use Rattle.std.proofs.Common.{◌≡◌, ℕ, zero, suc, ◌+◌, ◌≤◌, Bool, true, false, List, [], ◌∷◌, ◌++◌, length, Option}
use Rattle.std.proofs.Common.{Some, None, refl, sym, ap, subst, ◌∙◌, ◌⊎◌, inl, inr, arith}
use Rattle.std.specs.List.{AllByRecursion, cons_option}
use Rattle.std.specs.Prelude.{slice_set, flat_map, filter_map, ◌==◌, ◌||◌}
use Rattle.std.proofs.lemmas.Bool.{eq-eqb}
use Rattle.spec_image.specs.Common.{total, Files, SpecVersion, version_cost}
use Rattle.spec_machine.specs.Jobs.{Channel, SpecJob, SpecOutput, State, slot, channel_at, job_at, with_channel}
use Rattle.spec_machine.specs.Jobs.{all_closed}
use Rattle.spec_machine.specs.Room.{output_of, outputs_of, outputs, distinct_cost, current_versions, pinned_versions}
use Rattle.spec_machine.specs.Room.{has_serial}
use Rattle.spec_machine.specs.Runs.{IsFresh}
use Rattle.spec_machine.specs.Sound.{Exists, AreAlike, IsSound}
use Rattle.spec_image.proofs.Common.{total-append}
use Rattle.spec_machine.proofs.SlotLaws.{none_some}
use Rattle.spec_machine.proofs.SideLaws.{none_passes, version_of_all, all_versions}
use Rattle.spec_machine.proofs.SoundLaws.{Known}
use Rattle.spec_machine.proofs.CostLaws.{cost, Fits, distinct_le, distinct_more}

-- Sums over lists of slots.

abbrev pub item : {Y : Type 0} → (Y → ℕ) → Option Y → ℕ
item f None = 0
item f (Some y) = f y

total-cons_option : {Y : Type 0} (f : Y → ℕ) (o : Option Y) (ys : List Y)
    → total f (cons_option o ys) ≡ item f o + total f ys
total-cons_option f None ys = omega arith
total-cons_option f (Some y) ys = refl

total-filter_map : {X Y : Type 0} (f : Y → ℕ) (h : X → Option Y) (xs : List X)
    → total f (filter_map h xs) ≡ total (λ x. item f (h x)) xs
total-filter_map f h [] = refl
total-filter_map f h (x ∷ xs) = total-cons_option f (h x) (filter_map h xs)
    ∙ ap (λ k. item f (h x) + k) (total-filter_map f h xs)

pub total-flat_map : {X Y : Type 0} (f : Y → ℕ) (h : X → List Y) (xs : List X)
    → total f (flat_map h xs) ≡ total (λ x. total f (h x)) xs
total-flat_map f h [] = refl
total-flat_map f h (x ∷ xs) = total-append f (h x) (flat_map h xs) ∙ ap (λ k. total f (h x) + k) (total-flat_map f h xs)

plus_swap : (a b t : ℕ) → (a + t) + b ≡ (b + t) + a
plus_swap a b t = omega arith

-- a slot that is full gets another value
total-set : {X : Type 0} (g : Option X → ℕ) (xs : List (Option X)) (n : ℕ) (x : Option X) (y : X) → slot xs n ≡ Some y
    → total g (slice_set xs n x) + g (Some y) ≡ total g xs + g x
total-set g [] n x y e = absurd (none_some e)
total-set g (z ∷ xs) zero x y e = ap (λ k. (g x + total g xs) + g k) (sym e) ∙ plus_swap (g x) (g z) (total g xs)
total-set g (z ∷ xs) (suc n) x y e = let r = total-set g xs n x y e in omega arith

-- any slot does
total-set_le : {X : Type 0} (g : Option X → ℕ) (xs : List (Option X)) (n : ℕ) (x : Option X)
    → total g (slice_set xs n x) ≤ total g xs + g x
total-set_le g [] n x = omega arith
total-set_le g (z ∷ xs) zero x = omega arith
total-set_le g (z ∷ xs) (suc n) x = let r = total-set_le g xs n x in omega arith

-- Sums over output sides.

module _ (f : SpecOutput → ℕ) where
  abbrev pub sum_of : State → ℕ
  sum_of s = total f (outputs s)

  of_job : Option SpecJob → ℕ
  of_job j = total f (outputs_of j)

  of_jobs : (s : State) → sum_of s ≡ total of_job s.jobs
  unfolding of_job
  of_jobs s = total-flat_map f outputs_of s.jobs

  of_channels : (job : SpecJob) → of_job (Some job) ≡ total (λ c. item f (output_of c)) job.channels
  unfolding of_job
  of_channels job = total-filter_map f output_of job.channels

  -- a job that exists gets another record
  replaced : (s : State) (files : Files SpecVersion) (n : ℕ) (job new : SpecJob) → job_at s n ≡ Some job
      → sum_of (record s { files = files; jobs = slice_set s.jobs n (Some new) }) + of_job (Some job)
      ≡ sum_of s + of_job (Some new)
  replaced s files n job new there =
      ap (λ k. k + of_job (Some job)) (of_jobs (record s { files = files; jobs = slice_set s.jobs n (Some new) }))
      ∙ total-set of_job s.jobs n (Some new) job there ∙ ap (λ k. k + of_job (Some new)) (sym (of_jobs s))

  replaced_le : (s : State) (n : ℕ) (new : SpecJob) → sum_of (record s { jobs = slice_set s.jobs n (Some new) })
      ≤ sum_of s + of_job (Some new)
  replaced_le s n new =
      let a = of_jobs (record s { jobs = slice_set s.jobs n (Some new) }) in
      let b = of_jobs s in
      let c = total-set_le of_job s.jobs n (Some new) in
      omega (arith, a, b, c)

  channel_replaced : (job : SpecJob) (core : List ℕ) (ch : ℕ) (c : Channel) (x : Option Channel)
      → channel_at job ch ≡ Some c
      → of_job (Some (with_channel (record job { core = core }) ch x)) + item f c.output
      ≡ of_job (Some job) + item f (output_of x)
  channel_replaced job core ch c x is =
      ap (λ k. k + item f c.output) (of_channels (with_channel (record job { core = core }) ch x))
      ∙ total-set (λ c. item f (output_of c)) job.channels ch x c is
      ∙ ap (λ k. k + item f (output_of x)) (sym (of_channels job))

  channel_le : (job : SpecJob) (core : List ℕ) (ch : ℕ) (x : Option Channel)
      → of_job (Some (with_channel (record job { core = core }) ch x)) ≤ of_job (Some job) + item f (output_of x)
  channel_le job core ch x =
      let a = of_channels (with_channel (record job { core = core }) ch x) in
      let b = of_channels job in
      let c = total-set_le (λ c. item f (output_of c)) job.channels ch x in
      omega (arith, a, b, c)

  -- a channel that is open becomes another one, or is closed
  pub sum_channel : (s : State) (files : Files SpecVersion) (n : ℕ) (job : SpecJob) (core : List ℕ) (ch : ℕ)
      (c : Channel)
      (x : Option Channel) → job_at s n ≡ Some job → channel_at job ch ≡ Some c
      → sum_of (record s {
        files = files;
        jobs = slice_set s.jobs n (Some (with_channel (record job { core = core }) ch x));
      }) + item f c.output ≡ sum_of s + item f (output_of x)
  sum_channel s files n job core ch c x there is =
      let a = replaced s files n job (with_channel (record job { core = core }) ch x) there in
      let b = channel_replaced job core ch c x is in
      omega (arith, a, b)

  -- a channel with no output side is opened
  pub sum_opened : (s : State) (n : ℕ) (job : SpecJob) (core : List ℕ) (ch : ℕ) (d : Channel) → job_at s n ≡ Some job
      → d.output ≡ None
      → sum_of (record s { jobs = slice_set s.jobs n (Some (with_channel (record job { core = core }) ch (Some d))) })
      ≤ sum_of s
  sum_opened s n job core ch d there none =
      let a = replaced s s.files n job (with_channel (record job { core = core }) ch (Some d)) there in
      let b = channel_le job core ch (Some d) in
      let c : item f d.output ≡ 0 = ap (item f) none in
      omega (arith, a, b, c)

  none_of : (ppn : ℕ) (core : List ℕ) → of_job (Some (record { ppn = ppn; core = core; channels = all_closed })) ≡ 0
  unfolding of_job
  none_of ppn core = refl

  -- a job with all its channels closed
  pub sum_closed : (s : State) (n ppn : ℕ) (core : List ℕ)
      → sum_of
      (record s { jobs = slice_set s.jobs n (Some (record { ppn = ppn; core = core; channels = all_closed })) })
      ≤ sum_of s
  sum_closed s n ppn core =
      let a = replaced_le s n (record { ppn = ppn; core = core; channels = all_closed }) in
      let b = none_of ppn core in
      omega (arith, a, b)

-- What versions cost.

module _ (s s' : State) (sound : IsSound s) where
  serial_there : (w : SpecVersion) → Exists s w → has_serial w.serial (current_versions s ++ pinned_versions s) ≡ true
  serial_there w there = decide (has_serial w.serial (current_versions s ++ pinned_versions s)) refl
    where
      decide : (b : Bool) → has_serial w.serial (current_versions s ++ pinned_versions s) ≡ b → b ≡ true
      decide true e = refl
      decide false e =
          let h = version_of_all s (λ v. (v.serial == w.serial) ≡ false)
          (none_passes (λ v. v.serial == w.serial) (current_versions s ++ pinned_versions s) e) w there in
          let wrong = sym h ∙ eq-eqb w.serial w.serial refl in cc

  cost_alike : (v w : SpecVersion) → AreAlike v w → cost v ≡ cost w
  cost_alike v w a = ap (λ body. version_cost (length body)) a.body

  same_cost : (w : SpecVersion) → Known s w
      → AllByRecursion (λ y. y.serial ≡ w.serial → cost y ≡ cost w) (current_versions s ++ pinned_versions s)
  same_cost w at = all_versions s (λ y. y.serial ≡ w.serial → cost y ≡ cost w)
      (λ y is e. cost_alike y at.0 (sound.serials y at.0 is at.1 (e ∙ sym at.2)) ∙ cost_alike at.0 w at.3)

  serial_known : (w : SpecVersion) → Known s w → has_serial w.serial (current_versions s ++ pinned_versions s) ≡ true
  serial_known w at = subst (λ k. has_serial k (current_versions s ++ pinned_versions s) ≡ true) at.2
      (serial_there at.0 at.1)

  pub costs_kept : ((w : SpecVersion) → Exists s' w → Known s w)
      → distinct_cost (current_versions s' ++ pinned_versions s')
      ≤ distinct_cost (current_versions s ++ pinned_versions s)
  costs_kept was = distinct_le (current_versions s' ++ pinned_versions s') (current_versions s ++ pinned_versions s)
      (all_versions s' (Fits (current_versions s ++ pinned_versions s))
      (λ w there. (serial_known w (was w there), same_cost w (was w there))))

  module _ (v : SpecVersion) (fresh : IsFresh s v.serial) where
    another : (w : SpecVersion) → Exists s w → w.serial ≡ v.serial → ⊥
    another w there e =
        let h = version_of_all s (λ u. (u.serial == v.serial) ≡ false)
        (none_passes (λ u. u.serial == v.serial) (current_versions s ++ pinned_versions s) fresh) w there in
        let wrong = sym h ∙ eq-eqb w.serial v.serial e in cc

    fits_new : (w : SpecVersion) → Known s w ⊎ (w ≡ v) → Fits (v ∷ (current_versions s ++ pinned_versions s)) w
    fits_new w (inl at) = (
      passes (v.serial == w.serial) (serial_known w at),
      ((λ e. absurd (another at.0 at.1 (at.2 ∙ sym e))), same_cost w at),
    )
      where
        passes : (a : Bool) {b : Bool} → b ≡ true → (a || b) ≡ true
        passes true e = refl
        passes false e = e
    fits_new w (inr same) = (
      subst (λ u. has_serial u.serial (v ∷ (current_versions s ++ pinned_versions s)) ≡ true) (sym same)
          (first v (current_versions s ++ pinned_versions s)),
      (
        (λ e. ap cost (sym same)),
        all_versions s (λ y. y.serial ≡ w.serial
            → cost y ≡ cost w) (λ y is e. absurd (another y is (e ∙ ap (λ (u : SpecVersion). u.serial) same))),
      ),
    )
      where
        first : (v : SpecVersion) (vs : List SpecVersion) → has_serial v.serial (v ∷ vs) ≡ true
        first v vs = let e = eq-eqb v.serial v.serial refl in rw e refl

    pub costs_new : ((w : SpecVersion) → Exists s' w → Known s w ⊎ (w ≡ v))
        → distinct_cost (current_versions s' ++ pinned_versions s') ≤ cost v + distinct_cost
        (current_versions s ++ pinned_versions s)
    costs_new was =
        let a = distinct_le (current_versions s' ++ pinned_versions s') (v ∷ (current_versions s ++ pinned_versions s))
        (all_versions s' (Fits (v ∷ (current_versions s ++ pinned_versions s)))
        (λ w there. fits_new w (was w there))) in
        let b = distinct_more v (current_versions s ++ pinned_versions s) in
        omega (arith, a, b)
