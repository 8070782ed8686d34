-- The lists of output sides and of versions, and what is at a job and a channel.
use Rattle.std.proofs.Common.{◌≡◌, ℕ, Bool, true, false, List, [], ◌∷◌, ◌++◌, Option, Some, None, refl, sym, ap}
use Rattle.std.proofs.Common.{subst, ◌∙◌, inl, inr, ⊎_elim}
use Rattle.std.specs.List.{AllByRecursion, list_any}
use Rattle.std.specs.Prelude.{◌||◌}
use Rattle.std.specs.Cmp.{nat_cmp_total}
use Rattle.std.specs.FinMap.{nat_cmp-IsAntisymmetric}
use Rattle.spec_image.specs.Common.{get, entries, values, Directory, Place, SpecVersion, same_place, file_at, file_in}
use Rattle.spec_machine.specs.Jobs.{Channel, SpecJob, SpecOutput, State, slot, job_at}
use Rattle.spec_machine.specs.Room.{output_of, outputs_of, outputs, version_of, pinned_by, pinned_versions}
use Rattle.spec_machine.specs.Room.{current_versions, is_claimed}
use Rattle.spec_machine.specs.Sound.{output_for, writes_at, version_for, holds_at, Exists}
use Rattle.spec_image.proofs.Common.{each_in_entries, get-holds, name_total, name_exact, all_append, all_left}
use Rattle.spec_image.proofs.Common.{all_right}
use Rattle.spec_machine.proofs.SlotLaws.{OfItem, all_slots, slot_of_all, all_flat_map, all_of_flat_map, all_map}
use Rattle.spec_machine.proofs.SlotLaws.{all_of_map, all_filter_map, all_of_filter_map}

-- an item of each job and channel
module _ {Y : Type 0} (f : Option Channel → Option Y) (none : f None ≡ None) (P : Y → Type 0) where
  of_none : OfItem P (f None)
  of_none = subst (OfItem P) (sym none) tt

  of_some : (o : Option Y) → ((y : Y) → o ≡ Some y → P y) → OfItem P o
  of_some None h = tt
  of_some (Some y) h = h y refl

  is_of : (o : Option Y) (y : Y) → OfItem P o → o ≡ Some y → P y
  is_of None y a e = let wrong = e in cc
  is_of (Some z) y a e = subst (OfItem P) e a

  all_items : (xs : List (Option Channel)) → ((ch : ℕ) (y : Y) → f (slot xs ch) ≡ Some y → P y)
      → AllByRecursion (λ c. OfItem P (f c)) xs
  all_items xs h = all_slots (λ c. OfItem P (f c)) xs of_none
      (λ ch c e. of_some (f (Some c)) (λ y is. h ch y (ap f e ∙ is)))

  item_of_all : (xs : List (Option Channel)) (ch : ℕ) (y : Y) → AllByRecursion (λ c. OfItem P (f c)) xs
      → f (slot xs ch) ≡ Some y → P y
  item_of_all xs ch y a e = at (slot xs ch) refl e
    where
      at : (o : Option Channel) → slot xs ch ≡ o → f o ≡ Some y → P y
      at None g is = let wrong : None ≡ Some y = sym none ∙ is in cc
      at (Some c) g is = is_of (f (Some c)) y (slot_of_all (λ c. OfItem P (f c)) xs ch c a g) is

-- Output sides.

module _ (s : State) (P : SpecOutput → Type 0) where
  pub all_outputs : ((n ch : ℕ) (o : SpecOutput) → writes_at s n ch ≡ Some o → P o) → AllByRecursion P (outputs s)
  all_outputs h = all_flat_map P outputs_of s.jobs
      (all_slots (λ j. AllByRecursion P (outputs_of j)) s.jobs tt (λ n job e.
      all_filter_map P output_of job.channels
      (all_items output_of refl P job.channels (λ ch o is. h n ch o (ap (output_for ch) e ∙ is)))))

  pub output_of_all : AllByRecursion P (outputs s) → (n ch : ℕ) (o : SpecOutput) → writes_at s n ch ≡ Some o → P o
  output_of_all a n ch o is = at (job_at s n) refl is
    where
      at : (j : Option SpecJob) → job_at s n ≡ j → output_for ch j ≡ Some o → P o
      at None e h = let wrong = h in cc
      at (Some job) e h = item_of_all output_of refl P job.channels ch o
          (all_of_filter_map P output_of job.channels (slot_of_all (λ j. AllByRecursion P (outputs_of j)) s.jobs n job
          (all_of_flat_map P outputs_of s.jobs a) e)) h

pub or_false : (a b : Bool) → (a || b) ≡ false → (a ≡ false) × (b ≡ false)
or_false true b e = let wrong = e in cc
or_false false b e = (refl, e)

pub none_passes : {X : Type 0} (p : X → Bool) (xs : List X) → list_any p xs ≡ false
    → AllByRecursion (λ x. p x ≡ false) xs
none_passes p [] e = tt
none_passes p (x ∷ xs) e = let h = or_false (p x) (list_any p xs) e in (h.0, none_passes p xs h.1)

-- no output side has a place that isn't claimed
pub unclaimed : (s : State) (place : Place) → is_claimed s place ≡ false → (n ch : ℕ) (o : SpecOutput)
    → writes_at s n ch ≡ Some o → same_place o.place place ≡ false
unclaimed s place free n ch o is = output_of_all s (λ o. same_place o.place place ≡ false)
    (none_passes (λ o. same_place o.place place) (outputs s) free) n ch o is

-- Versions.

module _ (s : State) (P : SpecVersion → Type 0) where
  all_current : ((place : Place) (v : SpecVersion) → file_at s.files place ≡ Some v → P v)
      → AllByRecursion P (current_versions s)
  all_current h = all_flat_map P (λ d. values d.files) (values s.files)
      (all_map (λ d. AllByRecursion P (values d.files)) (λ e. e.1) (entries s.files)
      (each_in_entries nat_cmp_total (λ ppn d. AllByRecursion P (values d.files)) s.files
      (λ ppn d is. all_map P (λ e. e.1) (entries d.files)
      (each_in_entries name_total (λ name v. P v) d.files
      (λ name v at. h (record { ppn = ppn; name = name }) v (ap (λ o. file_in o name) is ∙ at))))))

  current_of_all : AllByRecursion P (current_versions s) → (place : Place) (v : SpecVersion) → file_at s.files place
      ≡ Some v → P v
  current_of_all a place v is = at (get s.files place.ppn) refl is
    where
      at : (d : Option (Directory SpecVersion)) → get s.files place.ppn ≡ d → file_in d place.name ≡ Some v → P v
      at None e h = let wrong = h in cc
      at (Some d) e h = get-holds name_total name_exact (λ name v. P v) d.files
          (all_of_map P (λ e. e.1) (entries d.files)
          (get-holds nat_cmp_total nat_cmp-IsAntisymmetric (λ ppn d. AllByRecursion P (values d.files)) s.files
          (all_of_map (λ d. AllByRecursion P (values d.files)) (λ e. e.1) (entries s.files)
          (all_of_flat_map P (λ d. values d.files) (values s.files) a)) place.ppn d e)) place.name v h

  all_held : ((n ch : ℕ) (v : SpecVersion) → holds_at s n ch ≡ Some v → P v) → AllByRecursion P (pinned_versions s)
  all_held h = all_flat_map P pinned_by s.jobs (all_slots (λ j. AllByRecursion P (pinned_by j)) s.jobs tt (λ n job e.
      all_filter_map P version_of job.channels
      (all_items version_of refl P job.channels (λ ch v is. h n ch v (ap (version_for ch) e ∙ is)))))

  held_of_all : AllByRecursion P (pinned_versions s) → (n ch : ℕ) (v : SpecVersion) → holds_at s n ch ≡ Some v → P v
  held_of_all a n ch v is = at (job_at s n) refl is
    where
      at : (j : Option SpecJob) → job_at s n ≡ j → version_for ch j ≡ Some v → P v
      at None e h = let wrong = h in cc
      at (Some job) e h = item_of_all version_of refl P job.channels ch v
          (all_of_filter_map P version_of job.channels
          (slot_of_all (λ j. AllByRecursion P (pinned_by j)) s.jobs n job (all_of_flat_map P pinned_by s.jobs a) e)) h

  pub all_versions : ((v : SpecVersion) → Exists s v → P v) → AllByRecursion P (current_versions s ++ pinned_versions s)
  all_versions h = all_append P (current_versions s) (pinned_versions s)
      (all_current (λ place v is. h v (inl (place, is))))
      (all_held (λ n ch v is. h v (inr (n, ch, is))))

  pub version_of_all : AllByRecursion P (current_versions s ++ pinned_versions s) → (v : SpecVersion) → Exists s v → P v
  version_of_all a v there = ⊎_elim
      (λ at. current_of_all (all_left P (current_versions s) (pinned_versions s) a) at.0 v at.1)
      (λ at. held_of_all (all_right P (current_versions s) (pinned_versions s) a) at.0 at.1 v at.2) there
