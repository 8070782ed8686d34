-- RENAME and DeleteDir that are done cost no more than before, or no more than there is room for.
use Rattle.std.proofs.Common.{◌≡◌, ◌≢◌, ℕ, ◌+◌, ◌≤◌, Bool, true, false, if◌then◌else◌, ◌++◌, Option, Some, None, refl}
use Rattle.std.proofs.Common.{sym, ap, subst, ◌∙◌, ◌⊎◌, inl, inr, ⊎_elim, arith}
use Rattle.std.specs.Prelude.{◌==◌, ◌&&◌, not, slice_set, is_none}
use Rattle.std.specs.Cmp.{nat_cmp_total}
use Rattle.std.specs.FinMap.{nat_cmp-IsAntisymmetric}
use Rattle.std.proofs.lemmas.Bool.{eqb-true, eq-eqb}
use Rattle.spec_image.specs.Common.{FinMap, size, get, insert, remove, Files, Directory, Place, name_cmp}
use Rattle.spec_image.specs.Common.{directory_cost, SpecVersion, file_at, with_file, with_file_in, without_file}
use Rattle.spec_image.specs.Common.{without_file_in, with_protection, Pack, growth, with_quota, files_limited}
use Rattle.words36.specs.declared.names.FileName.{FileName}
use Rattle.spec_machine.specs.Jobs.{Channel, SpecJob, SpecOutput, State, channel_at, job_at}
use Rattle.spec_machine.specs.Room.{names_in, entry_count, pending_creations, directories_cost, distinct_cost}
use Rattle.spec_machine.specs.Room.{current_versions, pinned_versions, booked, has_no_room}
use Rattle.spec_machine.specs.Outcomes.{clean}
use Rattle.spec_machine.specs.Lookup.{place_at, has_no_directory}
use Rattle.spec_machine.specs.Rename.{deletes_at, protection_at, crowds, rename_answer, rename_done, files_moved}
use Rattle.spec_machine.specs.Rename.{files_from, files_renamed}
use Rattle.spec_machine.specs.MakeDir.{remove_answer, limit_answer, owner_at, quota_at}
use Rattle.spec_machine.specs.Sound.{IsSound}
use Rattle.spec_machine.specs.declared.call.Reply.TheVariants.{Done}
use Rattle.spec_image.proofs.Common.{get-insert_same, get-insert_other, insert_same, insert-insert_same}
use Rattle.spec_image.proofs.Common.{size-insert_over, size-insert_new, size-remove, sum_entries-remove, name_total}
use Rattle.spec_image.proofs.Common.{name_exact, some_is, directory_of_file}
use Rattle.spec_machine.proofs.SoundSteps.{is_some_there}
use Rattle.spec_machine.proofs.RemovalSteps.{Renames, rename_needs, move_needs, remove_needs, renamed_goes}
use Rattle.spec_machine.proofs.RemovalSteps.{removed_goes, limit_needs, limited_goes}
use Rattle.spec_machine.proofs.SlotLaws.{set-slot}
use Rattle.spec_machine.proofs.SoundLaws.{Goes}
use Rattle.spec_machine.proofs.BookingLaws.{sum_of, sum_channel, costs_kept}
use Rattle.spec_machine.proofs.RoomLaws.{pending, creation, directory_cost_le, directories_changed, directories_more}
use Rattle.spec_machine.proofs.RoomSteps.{Fine, was_there, fits, same_le}

pub size-insert_le : (m : FinMap name_cmp SpecVersion) (k : FileName) (v : SpecVersion)
    → size (insert m k v) ≤ size m + 1
size-insert_le m k v = decide (get m k) refl
  where
    decide : (o : Option SpecVersion) → get m k ≡ o → size (insert m k v) ≤ size m + 1
    decide None e = let h = size-insert_new name_total name_exact m k v e in omega (arith, h)
    decide (Some w) e = let h = size-insert_over name_total name_exact m k v w e in omega (arith, h)

pub not_false : (b : Bool) → not b ≡ false → b ≡ true
not_false true e = refl
not_false false e = let wrong = e in cc

-- another directory grows by no block, or there is room
split_crowds : (same none full : Bool) → (not same && not none && full) ≡ false → same ≡ false
    → (none ≡ true) ⊎ (full ≡ false)
split_crowds true none full e f = let wrong = f in cc
split_crowds false true full e f = inl refl
split_crowds false false true e f = let wrong = e in cc
split_crowds false false false e f = inr refl

pub grows_by_one : (n : ℕ) → growth n ≤ 1
grows_by_one n = omega arith

module _ (pack : Pack) (s : State) (sound : IsSound s) (n : ℕ) (job : SpecJob) (there : job_at s n
    ≡ Some job) (ch : ℕ) (c : Channel) (is : channel_at job ch ≡ Some c) where
  -- the state with these files
  abbrev pub with_files : Files SpecVersion → State
  with_files files = record s { files = files; jobs = slice_set s.jobs n (Some (rename_done job ch c)) }

  pub sums_stay : (f : SpecOutput → ℕ) (files : Files SpecVersion) → sum_of f (with_files files) ≡ sum_of f s
  sums_stay f files =
      let h = sum_channel f s files n job job.core ch c (Some (record (clean c) { input = None })) there is in
      omega (arith, h)

  module _ (old : Place) (d : Directory SpecVersion) (w : SpecVersion) (at : get s.files old.ppn ≡ Some d)
      (here : get d.files old.name ≡ Some w) where
    -- the old place's directory without the file
    abbrev thinner : Directory SpecVersion
    thinner = record d { files = remove d.files old.name }

    files_without : without_file s.files old ≡ insert s.files old.ppn thinner
    files_without = ap (λ q. without_file_in q s.files old) at

    fewer : size d.files ≡ size (remove d.files old.name) + 1
    fewer = size-remove name_total name_exact d.files old.name w here

    removed_le : directories_cost (with_files (without_file s.files old)) ≤ directories_cost s
    removed_le =
        let z = fewer in
        let p = sums_stay (creation old.ppn) (without_file s.files old) in
        directories_changed s (with_files (without_file s.files old)) old.ppn d thinner at files_without
        (omega (arith, z, p)) (λ ppn differs. same_le (sums_stay (creation ppn) (without_file s.files old)))

    module _ (new : Place) (v : SpecVersion) where
      abbrev moved : Files SpecVersion
      moved = with_file (without_file s.files old) new v

      there_after : get (without_file s.files old) old.ppn ≡ Some thinner
      there_after = ap (λ fs. get fs old.ppn) files_without ∙ get-insert_same nat_cmp_total s.files old.ppn thinner

      -- within a directory
      within_le : new.ppn ≡ old.ppn → directories_cost (with_files moved) ≤ directories_cost s
      within_le same =
          let both : Directory SpecVersion = record thinner { files = insert thinner.files new.name v } in
          let files : moved ≡ insert s.files old.ppn both =
          ap (λ q. with_file_in q (without_file s.files old) new v) (ap (get (without_file s.files old)) same
          ∙ there_after)
          ∙ ap (λ fs. insert fs new.ppn both) files_without
          ∙ ap (λ k. insert (insert s.files old.ppn thinner) k both) same
          ∙ insert-insert_same nat_cmp_total nat_cmp-IsAntisymmetric s.files old.ppn thinner both in
          let z = fewer in
          let l = size-insert_le thinner.files new.name v in
          let p = sums_stay (creation old.ppn) moved in
          directories_changed s (with_files moved) old.ppn d both at files (omega (arith, z, l, p))
          (λ ppn differs. same_le (sums_stay (creation ppn) moved))

      -- into another one
      across_le : new.ppn ≢ old.ppn → (t : Directory SpecVersion) → get s.files new.ppn ≡ Some t
          → directories_cost (with_files moved) ≤ directories_cost s + growth (entry_count s new.ppn)
      across_le other t is_there =
          let s1 = with_files (without_file s.files old) in
          let both : Directory SpecVersion = record t { files = insert t.files new.name v } in
          let now : get (without_file s.files old) new.ppn ≡ Some t =
          ap (λ fs. get fs new.ppn) files_without
          ∙ get-insert_other nat_cmp_total nat_cmp-IsAntisymmetric s.files old.ppn thinner new.ppn other ∙ is_there in
          let files : moved ≡ insert (without_file s.files old) new.ppn both = ap
          (λ q. with_file_in q (without_file s.files old) new v) now in
          let l = size-insert_le t.files new.name v in
          let m = directories_more s1 (with_files moved) new.ppn t both now files (omega (arith, l))
          (λ ppn differs. same_le refl) in
          let count : growth (size t.files + pending_creations s1 new.ppn) ≡ growth (entry_count s new.ppn) =
          ap (λ k. growth (size t.files + k)) (sums_stay (creation new.ppn) (without_file s.files old))
          ∙ ap (λ q. growth (names_in q + pending_creations s new.ppn)) (sym is_there) in
          let r = removed_le in
          omega (arith, m, count, r)

  -- what is booked besides directories doesn't rise
  booked_by : (files : Files SpecVersion) (more : ℕ) → ((v : SpecVersion) → Goes s (with_files files) v n ch)
      → directories_cost (with_files files) ≤ directories_cost s + more → booked (with_files files) ≤ booked s + more
  booked_by files more goes dirs =
      let costs = costs_kept s (with_files files) sound (was_there s (with_files files) n ch goes) in
      let pend = sums_stay pending files in
      omega (arith, dirs, costs, pend)

  moved_fine : (old new : Place) (protection : ℕ) → has_no_directory s old ≡ false → has_no_directory s new ≡ false
      → crowds pack s old new ≡ false → (found : Option SpecVersion) → file_at s.files old ≡ found
      → ((v : SpecVersion) → Goes s (with_files (files_moved s.files old new protection found)) v n ch)
      → Fine pack s (with_files (files_moved s.files old new protection found))
  moved_fine old new protection housed to_house room None at goes = inl (let b = booked_by s.files 0 goes (same_dirs) in
      omega (arith, b))
    where
      same_dirs : directories_cost (with_files s.files) ≤ directories_cost s + 0
      same_dirs =
          let d = some_is (get s.files old.ppn) (is_some_there (get s.files old.ppn) housed) in
          let p = sums_stay (creation old.ppn) s.files in
          let h = directories_changed s (with_files s.files) old.ppn d.0 d.0 d.1
          (sym (insert_same nat_cmp_total nat_cmp-IsAntisymmetric s.files old.ppn d.0 d.1)) (omega (arith, p))
          (λ ppn differs. same_le (sums_stay (creation ppn) s.files)) in
          omega (arith, h)
  moved_fine old new protection housed to_house room (Some w) at goes =
      let d = directory_of_file s.files old w at in
      decide d.0 d.1 d.2 (new.ppn == old.ppn) refl
    where
      v : SpecVersion
      v = with_protection w protection

      decide : (d : Directory SpecVersion) → get s.files old.ppn ≡ Some d → get d.files old.name ≡ Some w → (b : Bool)
          → (new.ppn == old.ppn) ≡ b → Fine pack s (with_files (files_moved s.files old new protection (Some w)))
      decide d is here true e = inl (let l = within_le old d w is here new (with_protection w protection)
          (eqb-true new.ppn old.ppn e) in
          let b = booked_by (files_moved s.files old new protection (Some w)) 0 goes (omega (arith, l)) in
          omega (arith, b))
      decide d is here false e =
          let t = some_is (get s.files new.ppn) (is_some_there (get s.files new.ppn) to_house) in
          let l = across_le old d w is here new (with_protection w protection) (λ same. let wrong = sym e
          ∙ eq-eqb new.ppn old.ppn same in cc) t.0 t.1 in
          let b = booked_by (files_moved s.files old new protection (Some w)) (growth (entry_count s new.ppn)) goes l in
          let one = grows_by_one (entry_count s new.ppn) in
          ⊎_elim
          (λ none. let z = eqb-true (growth (entry_count s new.ppn)) 0 none in inl (omega (arith, b, z)))
          (λ full. let f = fits pack s 1 full in inr (omega (arith, b, one, f)))
          (split_crowds (new.ppn == old.ppn) (growth (entry_count s new.ppn) == 0) (has_no_room pack s) room e)

  deleted_fine : (old : Place) → (found : Option SpecVersion) → file_at s.files old ≡ found → is_none found ≡ false
      → ((v : SpecVersion) → Goes s (with_files (without_file s.files old)) v n ch)
      → Fine pack s (with_files (without_file s.files old))
  deleted_fine old None at there goes = let wrong = there in cc
  deleted_fine old (Some w) at there goes =
      let d = directory_of_file s.files old w at in
      let l = removed_le old d.0 w d.1 d.2 in
      let b = booked_by (without_file s.files old) 0 goes (omega (arith, l)) in
      inl (omega (arith, b))

  abbrev either : ℕ → Place → Bool → Files SpecVersion
  either e old deletes = if deletes then without_file s.files old
      else files_moved s.files old (place_at job e) (protection_at job e) (file_at s.files old)

  pub fine_rename : (e : ℕ) → rename_answer pack s job c e ≡ Done
      → Fine pack s (with_files (files_renamed s.files job e c.input))
  fine_rename e done =
      let needs = rename_needs pack s job c e done in
      let goes : (v : SpecVersion) → Goes s (with_files (files_from s.files job e needs.side.place)) v n ch =
      λ v. subst (λ i. Goes s (with_files (files_renamed s.files job e i)) v n ch) needs.side_is
      (renamed_goes pack s n job there ch c is v e done) in
      subst (λ i. Fine pack s (with_files (files_renamed s.files job e i))) (sym needs.side_is)
      (by_kind needs (deletes_at job e) refl goes)
    where
      by_kind : (needs : Renames pack s job c e) (deletes : Bool) → deletes_at job e ≡ deletes
          → ((v : SpecVersion) → Goes s (with_files (either e needs.side.place deletes)) v n ch)
          → Fine pack s (with_files (either e needs.side.place deletes))
      by_kind needs true k goes = deleted_fine needs.side.place (file_at s.files needs.side.place) refl
          needs.present goes
      by_kind needs false k goes =
          let moves = move_needs pack s job needs.side.place (place_at job e) (needs.moves k) in
          moved_fine needs.side.place (place_at job e) (protection_at job e) needs.housed moves.0 moves.1
          (file_at s.files needs.side.place) refl goes

-- DeleteDir.

pub fine_remove : (s : State) → IsSound s → (n : ℕ) (job : SpecJob) → job_at s n ≡ Some job → (e : ℕ)
    → remove_answer s job e (owner_at job e) ≡ Done
    → booked (record s { files = remove s.files (owner_at job e); jobs = slice_set s.jobs n (Some job) }) ≤ booked s
fine_remove s sound n job there e done =
    let owner = owner_at job e in
    let s' : State = record s { files = remove s.files owner; jobs = slice_set s.jobs n (Some job) } in
    let s1 : State = record s { files = remove s.files owner } in
    let back : s' ≡ s1 = ap (λ jobs. record s { files = remove s.files owner; jobs = jobs })
    (set-slot s.jobs n job there) in
    let d = some_is (get s.files owner) (is_some_there (get s.files owner) (remove_needs s job e owner done).0) in
    let costs = costs_kept s s' sound (was_there s s' n 0 (λ v. removed_goes s sound n job there v e done)) in
    let a = sum_entries-remove nat_cmp_total nat_cmp-IsAntisymmetric
    (λ ppn d. directory_cost (size d.files + pending_creations s ppn)) s.files owner d.0 d.1 in
    let z = size-remove nat_cmp_total nat_cmp-IsAntisymmetric s.files owner d.0 d.1 in
    let m = directory_cost_le (size (remove s.files owner)) (size s.files) (omega (arith, z)) in
    let dirs : directories_cost s1 ≤ directories_cost s = omega (arith, a, m) in
    let costs1 = subst (λ t. distinct_cost (current_versions t ++ pinned_versions t) ≤ distinct_cost
    (current_versions s ++ pinned_versions s)) back costs in
    subst (λ t. booked t ≤ booked s) (sym back) (omega (arith, dirs, costs1))

-- Quota.

pub fine_limit : (pack : Pack) (s : State) → IsSound s → (n : ℕ) (job : SpecJob) → job_at s n ≡ Some job → (e : ℕ)
    → limit_answer pack s job e (owner_at job e) ≡ Done
    → booked (record s {
      files = files_limited s.files (owner_at job e) (quota_at job e);
      jobs = slice_set s.jobs n (Some job);
    })
    ≤ booked s
fine_limit pack s sound n job there e done =
    let owner = owner_at job e in
    let files = files_limited s.files owner (quota_at job e) in
    let s' : State = record s { files = files; jobs = slice_set s.jobs n (Some job) } in
    let s1 : State = record s { files = files } in
    let back : s' ≡ s1 = ap (λ jobs. record s { files = files; jobs = jobs }) (set-slot s.jobs n job there) in
    let d = some_is (get s.files owner) (is_some_there (get s.files owner)
    (limit_needs pack s job e owner done)) in
    let costs = costs_kept s s' sound (was_there s s' n 0 (λ v. limited_goes s n job there v e)) in
    let dirs = directories_changed s s1 owner d.0 (record d.0 { quota = quota_at job e }) d.1
    (ap (with_quota s.files owner (quota_at job e)) d.1) (same_le refl) (λ ppn differs. same_le refl) in
    let costs1 = subst (λ t. distinct_cost (current_versions t ++ pinned_versions t) ≤ distinct_cost
    (current_versions s ++ pinned_versions s)) back costs in
    subst (λ t. booked t ≤ booked s) (sym back) (omega (arith, dirs, costs1))
