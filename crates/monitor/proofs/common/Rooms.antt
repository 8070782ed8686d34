-- What is booked: what the files cost, without their serials, what is being written, and what is read.
use Rattle.std.proofs.Common.{◌≡◌, ℕ, ◌+◌, Bool, true, false, List, [], ◌∷◌, ◌++◌, length, map, flat_map, Option}
use Rattle.std.proofs.Common.{Some, None, refl, sym, ap, ◌∙◌, arith, append-nil}
use Rattle.std.specs.Prelude.{◌==◌, ◌&&◌, if◌then◌else◌, option_map, filter_map}
use Rattle.std.specs.List.{cons_option}
use Rattle.std.specs.Cmp.{nat_cmp_total}
use Rattle.blockdisk.specs.Common.{DiskState}
use Rattle.spec_image.specs.Common.{entries, values, size, total, sum_over, sum_entries, Files, Directory}
use Rattle.spec_image.specs.Common.{map_directory, version_cost, cost_of_blocks, directory_cost, cost_of_directory}
use Rattle.spec_image.specs.Common.{cost_of_files, SpecVersion, without_serials}
use Rattle.spec_machine.specs.Common.{State, is_create, outputs_of, outputs, pinned_by, pinned_versions}
use Rattle.spec_machine.specs.Common.{current_versions}
use Rattle.spec_machine.specs.Common.{distinct_cost, pending_creations, pending_cost, booked, pending_cost_in}
use Rattle.spec_machine.specs.Common.{HaveDistinctSerials}
use Rattle.spec_image.proofs.Common.{name_total, total-map, size-map_values, sum-map_values}
use Rattle.volume.specs.Common.{writes_in, MemoryMap, pending_at, is_creation, creates, cost_beyond, pinned_cost}
use Rattle.volume.specs.Common.{IsWholePending, IsWholeMemory}
use Rattle.volume.specs.declared.pending.PendingVersion.{PendingVersion}
use Rattle.volume.proofs.common.Answers.{Holds}
use Rattle.monitor.specs.Common.{IsSide, IsState, UnderKeys, side_of, sides_in, sides, readers, pins_of, kind_of}
use Rattle.monitor.specs.Common.{output_of, channel_of, job_of, jobs_of}
use Rattle.monitor.specs.declared.output.Output.{Output}
use Rattle.monitor.specs.declared.channel.OpenChannel.{OpenChannel}
use Rattle.monitor.specs.declared.job.Job.{Job}
use Rattle.monitor.proofs.common.Growths.{growths_are}
use Rattle.monitor.proofs.common.PinnedReaders.{shown as shown_by, held_are, shown_as}
use Rattle.monitor.proofs.common.PinnedRooms.{held_as_once}
use Rattle.monitor.proofs.common.ReadBookings.{reads_booked}
use Rattle.monitor.proofs.common.SideLists.{each-as}
use Rattle.monitor.proofs.common.SideSums.{all_at, sum_sides}
use Rattle.spec_machine.proofs.Common.{total-flat_map}
use Rattle.spec_machine.specs.Jobs as machine
use Rattle.spec_machine.specs.Room as room
use Rattle.volume.specs.MemoryMap as live

-- The machine's output sides, and what it holds.

module _ (w : UnderKeys) where
  cons_shown : (o : Option Output) (os : List Output) → cons_option (option_map (output_of w) o) (map (output_of w) os)
      ≡ map (output_of w) (cons_option o os)
  cons_shown None os = refl
  cons_shown (Some o) os = refl

  channel_sides : (cs : List (Option OpenChannel)) → filter_map room.output_of (map (option_map (channel_of w)) cs)
      ≡ map (output_of w) (filter_map side_of cs)
  channel_sides [] = refl
  channel_sides (None ∷ cs) = channel_sides cs
  channel_sides (Some c ∷ cs) = ap (cons_option (option_map (output_of w) c.output)) (channel_sides cs)
      ∙ cons_shown c.output (filter_map side_of cs)

  job_sides : (o : Option Job) → outputs_of (option_map (job_of w) o) ≡ map (output_of w) (sides_in o)
  job_sides None = refl
  job_sides (Some job) = channel_sides job.channels

  map-append : {A B : Type 0} (f : A → B) (xs ys : List A) → map f (xs ++ ys) ≡ map f xs ++ map f ys
  map-append f [] ys = refl
  map-append f (x ∷ xs) ys = ap (λ zs. f x ∷ zs) (map-append f xs ys)

  pub sides_are : (jobs : List (Option Job)) → flat_map outputs_of (jobs_of w jobs) ≡ map (output_of w) (sides jobs)
  sides_are [] = refl
  sides_are (j ∷ jobs) = (λ i. job_sides j i ++ sides_are jobs i)
      ∙ sym (map-append (output_of w) (sides_in j) (sides jobs))

-- Versions with serials of their own cost what each costs.

each_once : (vs : List SpecVersion) → HaveDistinctSerials vs → distinct_cost vs
    ≡ total (λ v. version_cost (length v.file.body)) vs
each_once [] distinct = refl
each_once (v ∷ vs) distinct = cc (distinct.0, each_once vs distinct.1)

total-add : {X : Type 0} (f g : X → ℕ) (xs : List X) → total (λ x. f x + g x) xs ≡ total f xs + total g xs
total-add f g [] = refl
total-add f g (x ∷ xs) = omega (arith, total-add f g xs)

-- the versions of one directory, and of all
costs_in : (d : Directory SpecVersion) → total (λ v. version_cost (length v.file.body)) (values d.files)
    ≡ sum_over (λ v. version_cost (length v.file.body)) d.files
costs_in d = total-map (λ v. version_cost (length v.file.body)) (λ e. e.1) (entries d.files)

total_same : {X : Type 0} (f g : X → ℕ) → ((x : X) → f x ≡ g x) → (xs : List X) → total f xs ≡ total g xs
total_same f g same [] = refl
total_same f g same (x ∷ xs) = omega (arith, same x, total_same f g same xs)

-- a directory with all its files
abbrev cost_in : Directory SpecVersion → ℕ
cost_in d = directory_cost (size d.files) + total (λ v. version_cost (length v.file.body)) (values d.files)

shown : (d : Directory SpecVersion) → cost_of_directory (map_directory (λ v. v.file) d) ≡ cost_in d
shown d =
    let names = ap directory_cost (size-map_values name_total (λ (v : SpecVersion). v.file) d.files) in
    let files = sum-map_values name_total (λ f. version_cost (length f.body)) (λ (v : SpecVersion). v.file) d.files in
    let each = costs_in d in
    omega (arith, names, files, each)

abbrev booked_of : Files SpecVersion → List SpecVersion → List machine.SpecOutput → ℕ
booked_of files versions outs =
    (directory_cost (size files) + sum_entries
    (λ ppn d. directory_cost (size d.files + total (λ o. if is_create o.kind && (o.place.ppn == ppn) then 1
    else 0) outs)) files)
    + distinct_cost (flat_map (λ d. values d.files) (values files) ++ versions)
    + total (λ o. version_cost (length o.pending.body)) outs

booked_alone : (files : Files SpecVersion) → HaveDistinctSerials (flat_map (λ d. values d.files) (values files))
    → booked_of files [] [] ≡ cost_of_files (without_serials files)
booked_alone files distinct =
    let size_is = ap directory_cost
    (size-map_values nat_cmp_total (map_directory (λ (v : SpecVersion). v.file)) files) in
    let sums = sum-map_values nat_cmp_total cost_of_directory (map_directory (λ (v : SpecVersion). v.file)) files in
    let directories = total_same (λ e. cost_of_directory (map_directory (λ (v : SpecVersion). v.file) e.1))
    (λ e. cost_in e.1) (λ e. shown e.1) (entries files) in
    let apart = total-add (λ e. directory_cost (size e.1.files))
    (λ e. total (λ v. version_cost (length v.file.body)) (values e.1.files)) (entries files) in
    let chains = total_same (λ e. directory_cost (size e.1.files + 0)) (λ e. directory_cost (size e.1.files))
    (λ e. ap directory_cost (plain (size e.1.files))) (entries files) in
    let all = ap distinct_cost (append-nil (flat_map (λ d. values d.files) (values files))) ∙ each_once _ distinct
    ∙ total-flat_map (λ v. version_cost (length v.file.body)) (λ d. values d.files) (values files)
    ∙ total-map (λ d. total (λ v. version_cost (length v.file.body)) (values d.files)) (λ e. e.1) (entries files) in
    omega (arith, size_is, sums, directories, apart, chains, all)
  where
    plain : (n : ℕ) → n + 0 ≡ n
    plain n = omega arith

-- What is being written.

abbrev one_if : Bool → ℕ
one_if b = if b then 1 else 0

module _ (d : DiskState) (map : MemoryMap) (jobs : List (Option Job)) (s : State) (state : IsState d map jobs s) where
  -- the sum over output sides is the one over versions
  pub sum_is : (f : machine.SpecOutput → ℕ) (g : Option PendingVersion → ℕ) → g None ≡ 0
      → ((o : Output) (p : PendingVersion) → pending_at map.pending o.pending.key ≡ Some p → IsSide map.pending o
      → f (output_of state.under o) ≡ g (Some p)) → total f (outputs s) ≡ total g map.pending
  sum_is f g none each =
      ap (λ js. total f (flat_map outputs_of js)) state.jobs_are ∙ ap (total f) (sides_are state.under jobs)
      ∙ total-map f (output_of state.under) (sides jobs)
      ∙ sum_sides g none (λ o. f (output_of state.under o)) (sides jobs) map.pending state.keyed.once
      (each-as (IsSide map.pending) (λ o. (p : PendingVersion) → pending_at map.pending o.pending.key ≡ Some p
      → f (output_of state.under o) ≡ g (Some p)) (λ o side p at. each o p at side) (sides jobs) state.keyed.each)

  pub creations_are : (ppn : ℕ) → pending_creations s ppn ≡ total (creates ppn) map.pending
  creations_are ppn = sum_is (λ o. if is_create o.kind && (o.place.ppn == ppn) then 1 else 0) (creates ppn) refl
      (λ o p at side. let place = ap (λ l. l.ppn) (state.versions o.pending.key p at).place in
      both (is_create (kind_of o.kind)) (is_creation p) ((state.under.written o.pending.key).place.ppn == ppn)
      (p.prime.ppn == ppn) (sym (side.kind p at)) (ap (λ n. n == ppn) place))
    where
      both : (a b x y : Bool) → a ≡ b → x ≡ y → one_if (a && x) ≡ (if b then one_if y else 0)
      both true b x y e f = λ i. if e i then one_if (f i) else 0
      both false b x y e f = ap (λ c. if c then one_if y else 0) e

  pub costs_are : IsWholeMemory d.size map → room.pending_cost s ≡ total live.pending_cost map.pending
  costs_are whole = sum_is (λ o. version_cost (length o.pending.body)) live.pending_cost refl
      (λ o p at side. ap version_cost (state.versions o.pending.key p at).words
      ∙ ap cost_of_blocks
      (sym (all_at (IsWholePending d.size) map.pending o.pending.key p whole.waiting at).whole.counted))

  -- the same of one directory
  pub written_are : IsWholeMemory d.size map → (ppn : ℕ) → pending_cost_in s ppn ≡ total (writes_in ppn) map.pending
  written_are whole ppn =
      sum_is (λ o. if o.place.ppn == ppn then version_cost (length o.pending.body) else 0) (writes_in ppn) refl
      (λ o p at side.
      let place = ap (λ l. l.ppn) (state.versions o.pending.key p at).place in
      let cost = ap version_cost (state.versions o.pending.key p at).words ∙ ap cost_of_blocks
      (sym (all_at (IsWholePending d.size) map.pending o.pending.key p whole.waiting at).whole.counted) in
      λ i. if place i == ppn then cost i else 0)

  held_is : pinned_versions s ≡ shown_by state.under (readers jobs)
  held_is = ap (flat_map pinned_by) state.jobs_are ∙ held_are state.under jobs

  -- What is read is booked once, and what a file still has is booked with it.
  held_booked : IsWholeMemory d.size map → distinct_cost (current_versions s ++ pinned_versions s)
      ≡ distinct_cost (current_versions s) + total pinned_cost map.live
  held_booked whole =
      ap (λ vs. distinct_cost (current_versions s ++ vs)) held_is
      ∙ held_as_once map.live (current_versions s) state.under.read (pins_of (readers jobs))
      (shown_by state.under (readers jobs))
      (shown_as state.under (readers jobs)) state.reading.pinned
      (reads_booked d map s.files state.under.read whole state.serials state.read)

  -- what is booked of the disk
  pub booked_is : IsWholeMemory d.size map → Holds d map.known (without_serials s.files)
      → booked s ≡ cost_of_files (without_serials s.files) + cost_beyond map
  booked_is whole holds =
      let alone = booked_alone s.files state.serials in
      let costs = costs_are whole in
      let grown = total_same (λ e. directory_cost (size e.1.files + pending_creations s e.0))
      (λ e. directory_cost (size e.1.files + total (creates e.0) map.pending))
      (λ e. ap (λ n. directory_cost (size e.1.files + n)) (creations_are e.0)) (entries s.files) in
      let growth = growths_are d map.known s.files holds whole.map map.pending in
      let held = held_booked whole in
      let bare = ap distinct_cost (append-nil (current_versions s)) in
      omega arith
