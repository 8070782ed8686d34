-- What a RENAME that is done makes of the files: the version is at its new place with the protection given, or nowhere,
-- and all other places have what they had.
use Rattle.std.proofs.Common.{◌≡◌, ◌≢◌, ℕ, Bool, true, false, if◌then◌else◌, Some, None, refl, sym, ap, subst, ◌∙◌}
use Rattle.std.proofs.Common.{⊎_elim}
use Rattle.std.specs.Prelude.{nat_lt}
use Rattle.std.specs.Cmp.{nat_cmp_total}
use Rattle.std.specs.FinMap.{nat_cmp-IsAntisymmetric}
use Rattle.words36.specs.declared.moment.Moment.{Moment}
use Rattle.spec_image.specs.Common.{get, insert, remove, Directory, Files, Place, SpecVersion, file_in, file_at}
use Rattle.spec_image.specs.Common.{with_file, with_file_in, without_file, without_file_in, with_protection, Pack}
use Rattle.spec_machine.specs.Jobs.{SpecInput, Channel, SpecJob, State, channel_at, job_at}
use Rattle.spec_machine.specs.Outcomes.{refused_at}
use Rattle.spec_machine.specs.Lookup.{place_at, has_no_directory}
use Rattle.spec_machine.specs.Rename.{deletes_at, protection_at, rename_answer, rename_done, files_moved}
use Rattle.spec_machine.specs.Rename.{files_from, files_renamed, renames}
use Rattle.spec_machine.specs.Step.{step, last_date, on_job, on_channel, of_files}
use Rattle.spec_machine.specs.declared.call.Call.TheVariants.{Rename}
use Rattle.spec_machine.specs.declared.call.Event.TheVariants.{Call as Calls}
use Rattle.spec_machine.specs.declared.call.Reply.{Reply}
use Rattle.spec_machine.specs.declared.call.Reply.TheVariants.{Done, DateRange}
use Rattle.spec_image.proofs.Common.{some_same, get-insert_same, get-insert_other, get-removed, get-remove_other}
use Rattle.spec_image.proofs.Common.{same_or_other, name_total, name_exact, some_is, keeps_without_file}
use Rattle.spec_machine.proofs.OutcomeLaws.{settled_by}
use Rattle.spec_machine.proofs.SoundSteps.{is_some_there}
use Rattle.spec_machine.proofs.RemovalSteps.{Renames, rename_needs, move_needs}

-- Places.

same_as : (a b : Place) → a.ppn ≡ b.ppn → a.name ≡ b.name → a ≡ b
same_as a b p n = λ i. record { ppn = p i; name = n i }

pub at_there : (files : Files SpecVersion) (place : Place) (d : Directory SpecVersion) → get files place.ppn ≡ Some d
    → file_at files place ≡ get d.files place.name
at_there files place d is = ap (λ o. file_in o place.name) is

module _ (files : Files SpecVersion) (place : Place) (d : Directory SpecVersion)
    (is : get files place.ppn ≡ Some d) where
  pub put_here : (v : SpecVersion) → file_at (with_file files place v) place ≡ Some v
  put_here v =
      let new : Directory SpecVersion = record d { files = insert d.files place.name v } in
      let files' : with_file files place v ≡ insert files place.ppn new = ap (λ o. with_file_in o files place v) is in
      ap (λ fs. file_at fs place) files'
      ∙ at_there (insert files place.ppn new) place new (get-insert_same nat_cmp_total files place.ppn new)
      ∙ get-insert_same name_total d.files place.name v

  changed_other : (files' : Files SpecVersion) (new : Directory SpecVersion) → files' ≡ insert files place.ppn new
      → (q : Place) → q ≢ place → (q.name ≢ place.name → get new.files q.name ≡ get d.files q.name)
      → file_at files' q ≡ file_at files q
  changed_other files' new e q differs h = ap (λ fs. file_at fs q) e ∙ ⊎_elim
      (λ here. at_there (insert files place.ppn new) q new (ap (get (insert files place.ppn new)) here
      ∙ get-insert_same nat_cmp_total files place.ppn new)
      ∙ h (λ name. differs (same_as q place here name)) ∙ sym (at_there files q d (ap (get files) here ∙ is)))
      (λ other. ap (λ o. file_in o q.name)
      (get-insert_other nat_cmp_total nat_cmp-IsAntisymmetric files place.ppn new q.ppn other))
      (same_or_other nat_cmp_total nat_cmp-IsAntisymmetric q.ppn place.ppn)

  put_other : (v : SpecVersion) (q : Place) → q ≢ place → file_at (with_file files place v) q ≡ file_at files q
  put_other v q differs =
      changed_other (with_file files place v) (record d { files = insert d.files place.name v })
      (ap (λ o. with_file_in o files place v) is) q differs
      (λ name. get-insert_other name_total name_exact d.files place.name v q.name name)

  out_here : file_at (without_file files place) place ≡ None
  out_here =
      let new : Directory SpecVersion = record d { files = remove d.files place.name } in
      let files' : without_file files place ≡ insert files place.ppn new = ap (λ o. without_file_in o files place) is in
      ap (λ fs. file_at fs place) files'
      ∙ at_there (insert files place.ppn new) place new (get-insert_same nat_cmp_total files place.ppn new)
      ∙ get-removed name_total d.files place.name

  out_other : (q : Place) → q ≢ place → file_at (without_file files place) q ≡ file_at files q
  out_other q differs =
      changed_other (without_file files place) (record d { files = remove d.files place.name })
      (ap (λ o. without_file_in o files place) is) q differs
      (λ name. get-remove_other name_total name_exact d.files place.name q.name name)

-- The event.

module _ (pack : Pack) (serial : ℕ) (s : State) (n ch e : ℕ) (moment : Moment) (job : SpecJob) (c : Channel)
    (i : SpecInput) (there : job_at s n ≡ Some job) (is_open : channel_at job ch ≡ Some c)
    (side : c.input ≡ Some i) where
  abbrev HasMoved : Reply × State → Type 0
  HasMoved r = r.0 ≡ Done → (r.1.files ≡ files_from s.files job e i.place) × Renames pack s job c e

  row_told : HasMoved (of_files s n (renames pack s job ch c e))
  row_told = settled_by {A = SpecJob × Files SpecVersion} (λ r. r.0 ≡ Done → (r.1.1 ≡ files_from s.files job e i.place)
      × Renames pack s job c e)
      (rename_answer pack s job c e) (rename_done job ch c, files_renamed s.files job e c.input)
      (λ r. (refused_at job e r, s.files))
      (λ is done. (ap (files_renamed s.files job e) side, rename_needs pack s job c e is))
      (λ differs done. absurd (differs done))

  if_told : (late : Bool) (r : Reply × State) → HasMoved r → HasMoved (if late then (DateRange, s) else r)
  if_told true r h done = let wrong = done in cc
  if_told false r h done = h done

  told : HasMoved (step pack serial s (Calls n (Rename ch e) moment))
  told = if_told (nat_lt (last_date pack.layout) moment.date) _
      (subst (λ o. HasMoved (on_job s o
      (λ job. on_channel s (channel_at job ch) (λ c. of_files s n (renames pack s job ch c e))))) (sym there)
      (subst (λ o. HasMoved (on_channel s o (λ c. of_files s n (renames pack s job ch c e)))) (sym is_open) row_told))

  own_side : (needs : Renames pack s job c e) → needs.side ≡ i
  own_side needs = some_same (sym needs.side_is ∙ side)

  -- the directory of the old place
  old_there : Renames pack s job c e → (d : Directory SpecVersion) × (get s.files i.place.ppn ≡ Some d)
  old_there needs = some_is (get s.files i.place.ppn) (is_some_there (get s.files i.place.ppn)
      (ap (λ (x : SpecInput). has_no_directory s x.place) (sym (own_side needs)) ∙ needs.housed))

  -- that of the new one, also without the file
  new_there : (needs : Renames pack s job c e) → deletes_at job e ≡ false → (d : Directory SpecVersion)
      × (get (without_file s.files i.place) (place_at job e).ppn ≡ Some d)
  new_there needs stays =
      let move = move_needs pack s job needs.side.place (place_at job e) (needs.moves stays) in
      some_is (get (without_file s.files i.place) (place_at job e).ppn)
      (keeps_without_file s.files i.place (place_at job e).ppn
      (is_some_there (get s.files (place_at job e).ppn) move.0))

  from_moves : deletes_at job e ≡ false → files_from s.files job e i.place
      ≡ files_moved s.files i.place (place_at job e) (protection_at job e) (file_at s.files i.place)
  from_moves stays = ap (λ b. if b then without_file s.files i.place
      else files_moved s.files i.place (place_at job e) (protection_at job e) (file_at s.files i.place)) stays

  from_deletes : deletes_at job e ≡ true → files_from s.files job e i.place ≡ without_file s.files i.place
  from_deletes gone = ap (λ b. if b then without_file s.files i.place
      else files_moved s.files i.place (place_at job e) (protection_at job e) (file_at s.files i.place)) gone

  abbrev after : Files SpecVersion
  after = (step pack serial s (Calls n (Rename ch e) moment)).1.files

  abbrev IsDone : Type 0
  IsDone = (step pack serial s (Calls n (Rename ch e) moment)).0 ≡ Done

  pub is_moved : (v : SpecVersion) → IsDone → file_at s.files i.place ≡ Some v → deletes_at job e ≡ false
      → file_at after (place_at job e) ≡ Some (with_protection v (protection_at job e))
  is_moved v done at stays =
      let t = told done in
      let d = new_there t.1 stays in
      ap (λ fs. file_at fs (place_at job e)) (t.0 ∙ from_moves stays
      ∙ ap (files_moved s.files i.place (place_at job e) (protection_at job e)) at)
      ∙ put_here (without_file s.files i.place) (place_at job e) d.0 d.1 (with_protection v (protection_at job e))

  pub is_gone : IsDone → deletes_at job e ≡ true → file_at after i.place ≡ None
  is_gone done gone =
      let t = told done in
      let d = old_there t.1 in
      ap (λ fs. file_at fs i.place) (t.0 ∙ from_deletes gone) ∙ out_here s.files i.place d.0 d.1

  pub is_left : (v : SpecVersion) → IsDone → file_at s.files i.place ≡ Some v → deletes_at job e ≡ false
      → i.place ≢ place_at job e → file_at after i.place ≡ None
  is_left v done at stays differs =
      let t = told done in
      let d = new_there t.1 stays in
      let old = old_there t.1 in
      ap (λ fs. file_at fs i.place) (t.0 ∙ from_moves stays
      ∙ ap (files_moved s.files i.place (place_at job e) (protection_at job e)) at)
      ∙ put_other (without_file s.files i.place) (place_at job e) d.0 d.1
      (with_protection v (protection_at job e)) i.place differs ∙ out_here s.files i.place old.0 old.1

  pub is_untouched : (v : SpecVersion) → IsDone → file_at s.files i.place ≡ Some v → (q : Place) → q ≢ i.place
      → q ≢ place_at job e → file_at after q ≡ file_at s.files q
  is_untouched v done at q old new = by_kind (deletes_at job e) refl
    where
      by_kind : (b : Bool) → deletes_at job e ≡ b → file_at after q ≡ file_at s.files q
      by_kind true gone =
          let t = told done in
          let o = old_there t.1 in
          ap (λ fs. file_at fs q) (t.0 ∙ from_deletes gone) ∙ out_other s.files i.place o.0 o.1 q old
      by_kind false stays =
          let t = told done in
          let d = new_there t.1 stays in
          let o = old_there t.1 in
          ap (λ fs. file_at fs q) (t.0 ∙ from_moves stays
          ∙ ap (files_moved s.files i.place (place_at job e) (protection_at job e)) at)
          ∙ put_other (without_file s.files i.place) (place_at job e) d.0 d.1
          (with_protection v (protection_at job e)) q new ∙ out_other s.files i.place o.0 o.1 q old
