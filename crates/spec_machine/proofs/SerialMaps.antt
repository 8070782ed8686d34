-- A state with other serials, and what is the same in it.
use Rattle.std.proofs.Common.{◌≡◌, ℕ, zero, suc, ◌+◌, Bool, true, false, if◌then◌else◌, List, [], ◌∷◌, ◌++◌, map, not}
use Rattle.std.proofs.Common.{length, Option, Some, None, refl, sym, ap, ◌∙◌, option_map}
use Rattle.std.specs.List.{list_any, cons_option}
use Rattle.std.specs.Prelude.{◌==◌, ◌||◌, nat_lt, is_some, is_none, slice_set, flat_map, filter_map, ◌&&◌}
use Rattle.std.specs.Cmp.{nat_cmp_total}
use Rattle.std.specs.FinMap.{nat_cmp-IsAntisymmetric}
use Rattle.std.proofs.lemmas.Bool.{eqb-true, eq-eqb}
use Rattle.spec_image.specs.Common.{get, insert, remove, size, values, entries, total, Directory, Files, Place}
use Rattle.spec_image.specs.Common.{map_directory, map_files, version_cost, directory_cost, SpecVersion, file_in}
use Rattle.spec_image.specs.Common.{file_at}
use Rattle.spec_image.specs.Common.{with_file, with_file_in, without_file, without_file_in, Pack}
use Rattle.spec_machine.specs.Jobs.{SpecInput, SpecOutput, Channel, SpecJob, State, slot, channel_at, job_at, with_job}
use Rattle.spec_machine.specs.Jobs.{with_channel}
use Rattle.spec_machine.specs.Room.{output_of, outputs_of, outputs, is_claimed, pending_creations, names_in}
use Rattle.spec_machine.specs.Room.{entry_count, current_versions, version_of, pinned_by, pinned_versions, has_serial}
use Rattle.spec_machine.specs.Room.{distinct_cost, directories_cost, booked, space, exceeds_room}
use Rattle.spec_machine.specs.Lookup.{has_no_directory, is_absent, digit_for_directory, directory_digit_at}
use Rattle.spec_machine.specs.Lookup.{digit_for_version, digit_at}
use Rattle.spec_image.proofs.Common.{entries-map_values, values-map_values, get-map_values, map_values-insert}
use Rattle.spec_image.proofs.Common.{map_values-remove, size-map_values, sum-map_values, name_total, name_exact}
use Rattle.spec_machine.specs.Charges.{quota_in, quota_of, charge_in, charge, exceeds_left, pending_cost_in}

-- Lists and slots.

pub slot-map : {X Y : Type 0} (f : X → Y) (xs : List (Option X)) (n : ℕ)
    → slot (map (option_map f) xs) n ≡ option_map f (slot xs n)
slot-map f [] n = refl
slot-map f (x ∷ xs) zero = refl
slot-map f (x ∷ xs) (suc n) = slot-map f xs n

pub set-map : {X Y : Type 0} (f : X → Y) (xs : List X) (n : ℕ) (x : X)
    → slice_set (map f xs) n (f x) ≡ map f (slice_set xs n x)
set-map f [] n x = refl
set-map f (y ∷ xs) zero x = refl
set-map f (y ∷ xs) (suc n) x = ap (λ zs. f y ∷ zs) (set-map f xs n x)

pub is_some-map : {X Y : Type 0} (f : X → Y) (o : Option X) → is_some (option_map f o) ≡ is_some o
is_some-map f None = refl
is_some-map f (Some x) = refl

pub is_none-map : {X Y : Type 0} (f : X → Y) (o : Option X) → is_none (option_map f o) ≡ is_none o
is_none-map f None = refl
is_none-map f (Some x) = refl

map-append : {X Y : Type 0} (f : X → Y) (xs ys : List X) → map f (xs ++ ys) ≡ map f xs ++ map f ys
map-append f [] ys = refl
map-append f (x ∷ xs) ys = ap (λ zs. f x ∷ zs) (map-append f xs ys)

module _ (f : ℕ → ℕ) where
  -- The same with other serials.

  abbrev pub re_version : SpecVersion → SpecVersion
  re_version v = record v { serial = f v.serial }

  abbrev pub re_input : SpecInput → SpecInput
  re_input i = record i { version = re_version i.version }

  abbrev pub re_channel : Channel → Channel
  re_channel c = record c { input = option_map re_input c.input }

  abbrev pub re_job : SpecJob → SpecJob
  re_job job = record job { channels = map (option_map re_channel) job.channels }

  abbrev pub re_files : Files SpecVersion → Files SpecVersion
  re_files files = map_files re_version files

  abbrev pub re_state : State → State
  re_state s = record { files = re_files s.files; jobs = map (option_map re_job) s.jobs }

  -- Files.

  pub get-re : (files : Files SpecVersion) (ppn : ℕ)
      → get (re_files files) ppn ≡ option_map (map_directory re_version) (get files ppn)
  get-re files ppn = get-map_values nat_cmp_total (map_directory re_version) files ppn

  in_re : (o : Option (Directory SpecVersion)) (place : Place)
      → file_in (option_map (map_directory re_version) o) place.name ≡ option_map re_version (file_in o place.name)
  in_re None place = refl
  in_re (Some d) place = get-map_values name_total re_version d.files place.name

  pub file-re : (files : Files SpecVersion) (place : Place)
      → file_at (re_files files) place ≡ option_map re_version (file_at files place)
  file-re files place = ap (λ o. file_in o place.name) (get-re files place.ppn) ∙ in_re (get files place.ppn) place

  pub insert-re : (files : Files SpecVersion) (ppn : ℕ) (d : Directory SpecVersion)
      → re_files (insert files ppn d) ≡ insert (re_files files) ppn (map_directory re_version d)
  insert-re files ppn d = map_values-insert nat_cmp_total nat_cmp-IsAntisymmetric (map_directory re_version) files ppn d

  pub remove-re : (files : Files SpecVersion) (ppn : ℕ) → re_files (remove files ppn) ≡ remove (re_files files) ppn
  remove-re files ppn = map_values-remove nat_cmp_total nat_cmp-IsAntisymmetric (map_directory re_version) files ppn

  with_in : (o : Option (Directory SpecVersion)) (files : Files SpecVersion) (place : Place) (v : SpecVersion)
      → with_file_in (option_map (map_directory re_version) o) (re_files files) place (re_version v)
      ≡ re_files (with_file_in o files place v)
  with_in None files place v = refl
  with_in (Some d) files place v =
      ap (insert (re_files files) place.ppn)
      (λ i. record {
        protection = d.protection;
        quota = d.quota;
        files = sym (map_values-insert name_total name_exact re_version d.files place.name v) i;
      })
      ∙ sym (insert-re files place.ppn (record d { files = insert d.files place.name v }))

  pub with_file-re : (files : Files SpecVersion) (place : Place) (v : SpecVersion)
      → with_file (re_files files) place (re_version v) ≡ re_files (with_file files place v)
  with_file-re files place v = ap (λ o. with_file_in o (re_files files) place (re_version v)) (get-re files place.ppn)
      ∙ with_in (get files place.ppn) files place v

  without_in : (o : Option (Directory SpecVersion)) (files : Files SpecVersion) (place : Place)
      → without_file_in (option_map (map_directory re_version) o) (re_files files) place
      ≡ re_files (without_file_in o files place)
  without_in None files place = refl
  without_in (Some d) files place =
      ap (insert (re_files files) place.ppn)
      (λ i. record {
        protection = d.protection;
        quota = d.quota;
        files = sym (map_values-remove name_total name_exact re_version d.files place.name) i;
      })
      ∙ sym (insert-re files place.ppn (record d { files = remove d.files place.name }))

  pub without_file-re : (files : Files SpecVersion) (place : Place) → without_file (re_files files) place
      ≡ re_files (without_file files place)
  without_file-re files place = ap (λ o. without_file_in o (re_files files) place) (get-re files place.ppn)
      ∙ without_in (get files place.ppn) files place

  pub size-re : (files : Files SpecVersion) → size (re_files files) ≡ size files
  size-re files = size-map_values nat_cmp_total (map_directory re_version) files

  -- Jobs and output sides.

  pub channel-re : (job : SpecJob) (ch : ℕ) → channel_at (re_job job) ch ≡ option_map re_channel (channel_at job ch)
  channel-re job ch = slot-map re_channel job.channels ch

  pub job-re : (s : State) (n : ℕ) → job_at (re_state s) n ≡ option_map re_job (job_at s n)
  job-re s n = slot-map re_job s.jobs n

  pub with_channel-re : (job : SpecJob) (ch : ℕ) (x : Option Channel)
      → with_channel (re_job job) ch (option_map re_channel x) ≡ re_job (with_channel job ch x)
  with_channel-re job ch x = ap (λ channels. record job { channels = channels })
      (set-map (option_map re_channel) job.channels ch x)

  pub with_job-re : (s : State) (n : ℕ) (job : SpecJob) → with_job (re_state s) n (re_job job) ≡ re_state
      (with_job s n job)
  with_job-re s n job = ap (λ jobs. record { files = re_files s.files; jobs = jobs })
      (set-map (option_map re_job) s.jobs n (Some job))

  output-re : (c : Option Channel) → output_of (option_map re_channel c) ≡ output_of c
  output-re None = refl
  output-re (Some c) = refl

  outputs_of_re : (cs : List (Option Channel)) → filter_map output_of (map (option_map re_channel) cs)
      ≡ filter_map output_of cs
  outputs_of_re [] = refl
  outputs_of_re (c ∷ cs) = λ i. cons_option (output-re c i) (outputs_of_re cs i)

  of_job_re : (j : Option SpecJob) → outputs_of (option_map re_job j) ≡ outputs_of j
  of_job_re None = refl
  of_job_re (Some job) = outputs_of_re job.channels

  all_outputs_re : (js : List (Option SpecJob)) → flat_map outputs_of (map (option_map re_job) js) ≡ flat_map outputs_of
      js
  all_outputs_re [] = refl
  all_outputs_re (j ∷ js) = λ i. of_job_re j i ++ all_outputs_re js i

  pub outputs-re : (s : State) → outputs (re_state s) ≡ outputs s
  outputs-re s = all_outputs_re s.jobs

  pub claimed-re : (s : State) (place : Place) → is_claimed (re_state s) place ≡ is_claimed s place
  claimed-re s place = ap (list_any _) (outputs-re s)

  pub creations-re : (s : State) (ppn : ℕ) → pending_creations (re_state s) ppn ≡ pending_creations s ppn
  creations-re s ppn = ap (total _) (outputs-re s)

  names_re : (o : Option (Directory SpecVersion)) → names_in (option_map (map_directory re_version) o) ≡ names_in o
  names_re None = refl
  names_re (Some d) = size-map_values name_total re_version d.files

  pub entries-re : (s : State) (ppn : ℕ) → entry_count (re_state s) ppn ≡ entry_count s ppn
  entries-re s ppn = λ i. (ap names_in (get-re s.files ppn) ∙ names_re (get s.files ppn)) i + creations-re s ppn i

  -- Versions.

  current_re : (ds : List (Directory SpecVersion)) → flat_map (λ d. values d.files) (map (map_directory re_version) ds)
      ≡ map re_version (flat_map (λ (d : Directory SpecVersion). values d.files) ds)
  current_re [] = refl
  current_re (d ∷ ds) =
      (λ i. values-map_values name_total re_version d.files i ++ current_re ds i)
      ∙ sym (map-append re_version (values d.files) (flat_map (λ (d : Directory SpecVersion). values d.files) ds))

  pub current-re : (s : State) → current_versions (re_state s) ≡ map re_version (current_versions s)
  current-re s = ap (flat_map (λ (d : Directory SpecVersion). values d.files))
      (values-map_values nat_cmp_total (map_directory re_version) s.files) ∙ current_re (values s.files)

  pub version-re : (c : Option Channel) → version_of (option_map re_channel c) ≡ option_map re_version (version_of c)
  version-re None = refl
  version-re (Some c) = input_re c.input
    where
      input_re : (i : Option SpecInput) → option_map (λ (i : SpecInput). i.version) (option_map re_input i)
          ≡ option_map re_version (option_map (λ (i : SpecInput). i.version) i)
      input_re None = refl
      input_re (Some i) = refl

  cons_re : (o : Option SpecVersion) (vs : List SpecVersion) → cons_option (option_map re_version o) (map re_version vs)
      ≡ map re_version (cons_option o vs)
  cons_re None vs = refl
  cons_re (Some v) vs = refl

  held_by_re : (cs : List (Option Channel)) → filter_map version_of (map (option_map re_channel) cs)
      ≡ map re_version (filter_map version_of cs)
  held_by_re [] = refl
  held_by_re (c ∷ cs) = (λ i. cons_option (version-re c i) (held_by_re cs i))
      ∙ cons_re (version_of c) (filter_map version_of cs)

  held_job_re : (j : Option SpecJob) → pinned_by (option_map re_job j) ≡ map re_version (pinned_by j)
  held_job_re None = refl
  held_job_re (Some job) = held_by_re job.channels

  held_re : (js : List (Option SpecJob)) → flat_map pinned_by (map (option_map re_job) js)
      ≡ map re_version (flat_map pinned_by js)
  held_re [] = refl
  held_re (j ∷ js) = (λ i. held_job_re j i ++ held_re js i)
      ∙ sym (map-append re_version (pinned_by j) (flat_map pinned_by js))

  pub versions-re : (s : State) → current_versions (re_state s) ++ pinned_versions (re_state s)
      ≡ map re_version (current_versions s ++ pinned_versions s)
  versions-re s = (λ i. current-re s i ++ held_re s.jobs i)
      ∙ sym (map-append re_version (current_versions s) (pinned_versions s))

  -- What is booked, if different serials stay different.

  module _ (exact : (a b : ℕ) → f a ≡ f b → a ≡ b) where
    same_test : (a b : ℕ) → (f a == f b) ≡ (a == b)
    same_test a b = decide (a == b) refl
      where
        decide : (t : Bool) → (a == b) ≡ t → (f a == f b) ≡ (a == b)
        decide true e = eq-eqb (f a) (f b) (ap f (eqb-true a b e)) ∙ sym e
        decide false e = other (f a == f b) refl ∙ sym e
          where
            other : (t : Bool) → (f a == f b) ≡ t → (f a == f b) ≡ false
            other false g = g
            other true g = let wrong = sym e ∙ eq-eqb a b (exact a b (eqb-true (f a) (f b) g)) in cc

    pub serial-re : (k : ℕ) (vs : List SpecVersion) → has_serial (f k) (map re_version vs) ≡ has_serial k vs
    serial-re k [] = refl
    serial-re k (v ∷ vs) = λ i. same_test v.serial k i || serial-re k vs i

    distinct_re : (vs : List SpecVersion) → distinct_cost (map re_version vs) ≡ distinct_cost vs
    distinct_re [] = refl
    distinct_re (v ∷ vs) = λ i. (if serial-re v.serial vs i then 0 else version_cost (length v.file.body))
        + distinct_re vs i

    total-mapped : {X Y : Type 0} (g : X → Y) (h : Y → ℕ) (k : X → ℕ) → ((x : X) → h (g x) ≡ k x) → (xs : List X)
        → total h (map g xs) ≡ total k xs
    total-mapped g h k e [] = refl
    total-mapped g h k e (x ∷ xs) = λ i. e x i + total-mapped g h k e xs i

    directories_re : (s : State) → directories_cost (re_state s) ≡ directories_cost s
    directories_re s =
        λ i. directory_cost (size-re s.files i)
        + (ap (total (λ e. directory_cost (size e.1.files + pending_creations (re_state s) e.0)))
        (entries-map_values nat_cmp_total (map_directory re_version) s.files)
        ∙ total-mapped (λ (e : ℕ × Directory SpecVersion). (e.0, map_directory re_version e.1))
        (λ e. directory_cost (size e.1.files + pending_creations (re_state s) e.0))
        (λ e. directory_cost (size e.1.files + pending_creations s e.0))
        (λ e j. directory_cost (size-map_values name_total re_version e.1.files j + creations-re s e.0 j))
        (entries s.files)) i

    pub booked-re : (s : State) → booked (re_state s) ≡ booked s
    booked-re s = λ i. (directories_re s i
        + (ap distinct_cost (versions-re s) ∙ distinct_re (current_versions s ++ pinned_versions s)) i)
        + ap (total (λ (o : SpecOutput). version_cost (length o.pending.body))) (outputs-re s) i

    pub exceeds-re : (pack : Pack) (s : State) (more : ℕ) → exceeds_room pack (re_state s) more
        ≡ exceeds_room pack s more
    exceeds-re pack s more = ap (λ b. nat_lt (space pack) (b + more)) (booked-re s)

  -- What a directory is charged for, and what its quota leaves.

  quota_re : (o : Option (Directory SpecVersion)) → quota_in (option_map (map_directory re_version) o) ≡ quota_in o
  quota_re None = refl
  quota_re (Some d) = refl

  pub quota-re : (s : State) (ppn : ℕ) → quota_of (re_state s) ppn ≡ quota_of s ppn
  quota-re s ppn = ap quota_in (get-re s.files ppn) ∙ quota_re (get s.files ppn)

  charge_re : (o : Option (Directory SpecVersion)) (creations : ℕ)
      → charge_in (option_map (map_directory re_version) o) creations ≡ charge_in o creations
  charge_re None creations = refl
  charge_re (Some d) creations = λ i. directory_cost (size-map_values name_total re_version d.files i + creations)
      + sum-map_values name_total (λ (v : SpecVersion). version_cost (length v.file.body)) re_version d.files i

  charge-re : (s : State) (ppn : ℕ) → charge (re_state s) ppn ≡ charge s ppn
  charge-re s ppn =
      (λ i. charge_in (get-re s.files ppn i) (creations-re s ppn i)
      + total (λ o. if o.place.ppn == ppn then version_cost (length o.pending.body) else 0) (outputs-re s i))
      ∙ ap (λ n. n + pending_cost_in s ppn) (charge_re (get s.files ppn) (pending_creations s ppn))

  pub left-re : (s : State) (ppn more : ℕ) → exceeds_left (re_state s) ppn more ≡ exceeds_left s ppn more
  left-re s ppn more = λ i. not (quota-re s ppn i == 0) && nat_lt (quota-re s ppn i) (charge-re s ppn i + more)

  -- What answers depend on.

  pub no_directory-re : (s : State) (place : Place) → has_no_directory (re_state s) place ≡ has_no_directory s place
  no_directory-re s place = ap is_none (get-re s.files place.ppn) ∙ is_none-map _ (get s.files place.ppn)

  pub absent-re : (s : State) (place : Place) → is_absent (re_state s) place ≡ is_absent s place
  absent-re s place = ap is_none (file-re s.files place) ∙ is_none-map _ (file_at s.files place)

  directory_re : (job : SpecJob) (ppn : ℕ) (o : Option (Directory SpecVersion))
      → digit_for_directory (re_job job) ppn (option_map (map_directory re_version) o) ≡ digit_for_directory job ppn o
  directory_re job ppn None = refl
  directory_re job ppn (Some d) = refl

  pub directory_digit-re : (s : State) (job : SpecJob) (place : Place)
      → directory_digit_at (re_state s) (re_job job) place
      ≡ directory_digit_at s job place
  directory_digit-re s job place = ap (digit_for_directory job place.ppn) (get-re s.files place.ppn)
      ∙ directory_re job place.ppn (get s.files place.ppn)

  version_re : (job : SpecJob) (ppn : ℕ) (o : Option SpecVersion)
      → digit_for_version (re_job job) ppn (option_map re_version o)
      ≡ digit_for_version job ppn o
  version_re job ppn None = refl
  version_re job ppn (Some v) = refl

  pub digit-re : (s : State) (job : SpecJob) (place : Place) → digit_at (re_state s) (re_job job) place
      ≡ digit_at s job place
  digit-re s job place = ap (digit_for_version job place.ppn) (file-re s.files place)
      ∙ version_re job place.ppn (file_at s.files place)
