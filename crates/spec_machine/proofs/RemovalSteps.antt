-- RENAME and DeleteDir lead to sound states.
use Rattle.std.proofs.Common.{◌≡◌, ◌≢◌, ℕ, ◌+◌, Bool, true, false, if◌then◌else◌, not, List, [], ◌∷◌, Option, Some}
use Rattle.std.proofs.Common.{None, refl, sym, ap, subst, ◌∙◌, inl, inr, ⊎_elim, arith}
use Rattle.std.specs.List.{AllByRecursion}
use Rattle.std.specs.Prelude.{◌==◌, ◌&&◌, slice_set, is_some, is_none, IsSome, ◌||◌}
use Rattle.std.proofs.lemmas.Bool.{eqb-true, eq-eqb}
use Rattle.spec_image.specs.Common.{get, remove, size, total, Directory, Files, Place, name_cmp, SpecVersion}
use Rattle.spec_image.specs.Common.{same_place}
use Rattle.spec_image.specs.Common.{file_at, without_file, with_protection, Pack, files_limited}
use Rattle.spec_machine.specs.Rights.{may_look, may_create}
use Rattle.spec_machine.specs.Cores.{lies_outside}
use Rattle.spec_machine.specs.Jobs.{Channel, SpecJob, SpecInput, SpecOutput, State, is_create, channel_at, job_at}
use Rattle.spec_machine.specs.Room.{output_of, version_of, outputs, is_claimed, names_in, entry_count}
use Rattle.spec_machine.specs.Room.{pending_creations}
use Rattle.spec_machine.specs.Outcomes.{clean}
use Rattle.spec_machine.specs.Lookup.{place_at, has_no_directory, is_absent, directory_digit_at}
use Rattle.spec_machine.specs.Rename.{deletes_at, protection_at, is_forbidden, crowds, overfills, move_answer}
use Rattle.spec_machine.specs.Rename.{rename_from, rename_sides, rename_answer, files_moved, files_from}
use Rattle.spec_machine.specs.Rename.{files_renamed, rename_done}
use Rattle.spec_machine.specs.MakeDir.{remove_answer, owner_at, may_not_remove, limit_answer, quota_at}
use Rattle.spec_machine.specs.Sound.{output_for, writes_at, version_for, Exists, IsSound}
use Rattle.spec_machine.specs.declared.call.Reply.{Reply}
use Rattle.spec_machine.specs.declared.call.Reply.TheVariants.{Done, Refused, AddressCheck}
use Rattle.spec_image.proofs.Common.{empty_of_size, get-empty, some_is, directory_of_file, found_with_file}
use Rattle.spec_image.proofs.Common.{stays_with_file, keeps_with_file, found_without_file, stays_without_file}
use Rattle.spec_image.proofs.Common.{keeps_without_file, found_without_directory, stays_without_directory}
use Rattle.spec_image.proofs.Common.{keeps_without_directory, file_at-limited, keeps_limited}
use Rattle.spec_machine.proofs.LookupLaws.{passed_test, is_none_of}
use Rattle.spec_machine.proofs.SlotLaws.{slot-set_cases}
use Rattle.spec_machine.proofs.SideLaws.{unclaimed, output_of_all, or_false}
use Rattle.spec_machine.proofs.SoundLaws.{Goes, Known, known, OldSide, goes_kept}
use Rattle.spec_machine.proofs.RoomLaws.{creation}

-- What RENAME has seen if it is done.

pub move_needs : (pack : Pack) (s : State) (job : SpecJob) (old new : Place) → move_answer pack s job old new ≡ Done
    → (has_no_directory s new ≡ false) × (crowds pack s old new ≡ false) × (overfills s old new ≡ false)
move_needs pack s job old new done =
    let a = passed_test (has_no_directory s new) (Refused 1) _ (λ x. cc) done in
    let b = passed_test (not (new.ppn == old.ppn) && not (may_create (directory_digit_at s job new))) (Refused 2) _
    (λ x. cc) a.1 in
    let d = passed_test (not (same_place new old) && not (is_absent s new)) (Refused 4) _ (λ x. cc) b.1 in
    let f = passed_test (not (same_place new old) && is_claimed s new) (Refused 3) _ (λ x. cc) d.1 in
    let g = passed_test (crowds pack s old new || overfills s old new) (Refused 0o14) _ (λ x. cc) f.1 in
    let both = or_false (crowds pack s old new) (overfills s old new) g.0 in
    (a.0, both.0, both.1)

pub record Renames (pack : Pack) (s : State) (job : SpecJob) (c : Channel) (e : ℕ) : Type 0 where
  pub side : SpecInput
  pub side_is : c.input ≡ Some side
  pub writes_nothing : c.output ≡ None
  pub housed : has_no_directory s side.place ≡ false
  pub present : is_absent s side.place ≡ false
  pub free : is_claimed s side.place ≡ false
  pub moves : deletes_at job e ≡ false → move_answer pack s job side.place (place_at job e) ≡ Done

module _ (pack : Pack) (s : State) (job : SpecJob) (c : Channel) (e : ℕ) where
  rename_else : (b : Bool) (rest : Reply) → (if b then Done else rest) ≡ Done → b ≡ false → rest ≡ Done
  rename_else true rest h f = let wrong = f in cc
  rename_else false rest h f = h

  by_side : (i : SpecInput) → c.input ≡ Some i → c.output ≡ None → rename_from pack s job e i.place ≡ Done
      → Renames pack s job c e
  by_side i side none done =
      let a = passed_test (has_no_directory s i.place) (Refused 1) _ (λ x. cc) done in
      let b = passed_test (not (may_look (directory_digit_at s job i.place))) (Refused 2) _ (λ x. cc) a.1 in
      let d = passed_test (is_absent s i.place) (Refused 0) _ (λ x. cc) b.1 in
      let f = passed_test (is_forbidden s job e i.place) (Refused 2) _ (λ x. cc) d.1 in
      let g = passed_test (is_claimed s i.place) (Refused 3) _ (λ x. cc) f.1 in
      record {
        side = i;
        side_is = side;
        writes_nothing = none;
        housed = a.0;
        present = d.0;
        free = g.0;
        moves = rename_else (deletes_at job e) _ g.1;
      }

  by_sides : (input : Option SpecInput) → c.input ≡ input → rename_sides pack s job e input c.output ≡ Done
      → Renames pack s job c e
  by_sides None side done = let wrong = done in cc
  by_sides (Some i) side done = let a = passed_test (is_some c.output) (Refused 5) _ (λ x. cc) done in
      by_side i side (is_none_of c.output a.0) a.1

  pub rename_needs : rename_answer pack s job c e ≡ Done → Renames pack s job c e
  rename_needs done = by_sides c.input refl (passed_test (lies_outside job.core e 4) AddressCheck _ (λ x. cc) done).1

-- The versions that a RENAME leaves, and the places.

module _ (s : State) (old : Place) where
  found_moved : (new : Place) (protection : ℕ) (found : Option SpecVersion) → file_at s.files old ≡ found
      → (q : Place) (w : SpecVersion) → file_at (files_moved s.files old new protection found) q ≡ Some w → Known s w
  found_moved new protection None at q w is = known s w (inl (q, is))
  found_moved new protection (Some v) at q w is =
      ⊎_elim (λ was. known s w (inl (q, found_without_file s.files old q w was)))
      (λ (new : w ≡ with_protection v protection). (
        v,
        inl (old, at),
        ap (λ x. x.serial) (sym new),
        record {
          mode = ap (λ x. x.file.mode) (sym new);
          time = ap (λ x. x.file.time) (sym new);
          date = ap (λ x. x.file.date) (sym new);
          body = ap (λ x. x.file.body) (sym new);
        },
      ))
      (found_with_file (without_file s.files old) new (with_protection v protection) q w is)

  stays_moved : (new : Place) (protection : ℕ) (found : Option SpecVersion) (q : Place) → same_place q old ≡ false
      → IsSome (file_at s.files q) → IsSome (file_at (files_moved s.files old new protection found) q)
  stays_moved new protection None q apart is = is
  stays_moved new protection (Some v) q apart is = stays_with_file (without_file s.files old) new
      (with_protection v protection) q (stays_without_file s.files old q apart is)

  keeps_moved : (new : Place) (protection : ℕ) (found : Option SpecVersion) (q : ℕ) → IsSome (get s.files q)
      → IsSome (get (files_moved s.files old new protection found) q)
  keeps_moved new protection None q is = is
  keeps_moved new protection (Some v) q is = keeps_with_file (without_file s.files old) new
      (with_protection v protection) q (keeps_without_file s.files old q is)

  module _ (new : Place) (protection : ℕ) where
    abbrev files_either : Bool → Files SpecVersion
    files_either deletes = if deletes then without_file s.files old
        else files_moved s.files old new protection (file_at s.files old)

    found_either : (deletes : Bool) (q : Place) (w : SpecVersion) → file_at (files_either deletes) q ≡ Some w
        → Known s w
    found_either true q w is = known s w (inl (q, found_without_file s.files old q w is))
    found_either false q w is = found_moved new protection (file_at s.files old) refl q w is

    stays_either : (deletes : Bool) (q : Place) → same_place q old ≡ false → IsSome (file_at s.files q)
        → IsSome (file_at (files_either deletes) q)
    stays_either true q apart is = stays_without_file s.files old q apart is
    stays_either false q apart is = stays_moved new protection (file_at s.files old) q apart is

    keeps_either : (deletes : Bool) (q : ℕ) → IsSome (get s.files q) → IsSome (get (files_either deletes) q)
    keeps_either true q is = keeps_without_file s.files old q is
    keeps_either false q is = keeps_moved new protection (file_at s.files old) q is

module _ (pack : Pack) (s : State) (n : ℕ) (job : SpecJob) (there : job_at s n ≡ Some job) (ch : ℕ) (c : Channel)
    (is_open : channel_at job ch ≡ Some c) where
  sides_kept : (k : ℕ) (o : SpecOutput) → output_of (channel_at (rename_done job ch c) k) ≡ Some o → OldSide s n k o
  sides_kept k o h = ⊎_elim
      (λ here. subst (λ q. OldSide s n q o) (sym here.1)
      (o, ap (output_for ch) there ∙ ap output_of is_open ∙ ap output_of (sym here.0) ∙ h, refl, refl))
      (λ other. (o, ap (output_for k) there ∙ ap output_of (sym other) ∙ h, refl, refl))
      (slot-set_cases job.channels ch k (Some (record (clean c) { input = None })))

  versions_kept : (k : ℕ) (w : SpecVersion) → version_of (channel_at (rename_done job ch c) k) ≡ Some w → Exists s w
  versions_kept k w h = ⊎_elim
      (λ here. let wrong = ap version_of (sym here.0) ∙ h in cc)
      (λ other. inr (n, k, ap (version_for k) there ∙ ap version_of (sym other) ∙ h))
      (slot-set_cases job.channels ch k (Some (record (clean c) { input = None })))

  pub renamed_goes : (v : SpecVersion) (e : ℕ) → rename_answer pack s job c e ≡ Done
      → Goes s (record s {
        files = files_renamed s.files job e c.input;
        jobs = slice_set s.jobs n (Some (rename_done job ch c));
      }) v n ch
  renamed_goes v e done =
      let needs = rename_needs pack s job c e done in
      let old = needs.side.place in
      subst (λ i. Goes s (record s {
        files = files_renamed s.files job e i;
        jobs = slice_set s.jobs n (Some (rename_done job ch c));
      }) v n ch) (sym needs.side_is)
      (goes_kept s v n ch (files_from s.files job e old) (rename_done job ch c) sides_kept versions_kept
      (λ q w is. found_either s old (place_at job e) (protection_at job e) (deletes_at job e) q w is)
      (λ m k o h is. stays_either s old (place_at job e) (protection_at job e) (deletes_at job e) o.place
      (unclaimed s old needs.free m k o h) is)
      (λ m k o h is. keeps_either s old (place_at job e) (protection_at job e) (deletes_at job e) o.place.ppn is))

-- DeleteDir.

pub remove_needs : (s : State) (job : SpecJob) (e owner : ℕ) → remove_answer s job e owner ≡ Done
    → (is_none (get s.files owner) ≡ false) × (entry_count s owner ≡ 0)
remove_needs s job e owner done =
    let a = passed_test (lies_outside job.core e 2) AddressCheck _ (λ x. cc) done in
    let b = passed_test (is_none (get s.files owner)) (Refused 1) _ (λ x. cc) a.1 in
    let d = passed_test (may_not_remove s job owner) (Refused 2) _ (λ x. cc) b.1 in
    let f = passed_test (not (entry_count s owner == 0)) (Refused 0o22) _ (λ x. cc) d.1 in
    (b.0, eqb-true (entry_count s owner) 0 (not_false (entry_count s owner == 0) f.0))
  where
    not_false : (b : Bool) → not b ≡ false → b ≡ true
    not_false true e = refl
    not_false false e = let wrong = e in cc

each_zero : {X : Type 0} (f : X → ℕ) (xs : List X) → total f xs ≡ 0 → AllByRecursion (λ x. f x ≡ 0) xs
each_zero f [] e = tt
each_zero f (x ∷ xs) e = (first (f x) (total f xs) e, each_zero f xs (second (f x) (total f xs) e))
  where
    first : (a b : ℕ) → a + b ≡ 0 → a ≡ 0
    first a b e = omega (arith, e)

    second : (a b : ℕ) → a + b ≡ 0 → b ≡ 0
    second a b e = omega (arith, e)

module _ (s : State) (sound : IsSound s) (owner : ℕ) (unused : entry_count s owner ≡ 0) where
  no_names : (d : Directory SpecVersion) → get s.files owner ≡ Some d → size d.files ≡ 0
  no_names d is = zero_of (size d.files) (pending_creations s owner)
      (sym (ap (λ q. names_in q + pending_creations s owner) is) ∙ unused)
    where
      zero_of : (a b : ℕ) → a + b ≡ 0 → a ≡ 0
      zero_of a b e = omega (arith, e)

  none_created : pending_creations s owner ≡ 0
  none_created = zero_of (names_in (get s.files owner)) (pending_creations s owner) unused
    where
      zero_of : (a b : ℕ) → a + b ≡ 0 → b ≡ 0
      zero_of a b e = omega (arith, e)

  -- no output side is in it
  elsewhere : (m k : ℕ) (o : SpecOutput) → writes_at s m k ≡ Some o → o.place.ppn ≢ owner
  elsewhere m k o h same = decide (is_create o.kind) refl
    where
      decide : (b : Bool) → is_create o.kind ≡ b → ⊥
      decide true e =
          let zero = output_of_all s (λ o. creation owner o ≡ 0) (each_zero (creation owner) (outputs s) none_created)
          m k o h in
          let one : creation owner o ≡ 1 = created e (eq-eqb o.place.ppn owner same) in
          let wrong = sym zero ∙ one in cc
        where
          created : is_create o.kind ≡ true → (o.place.ppn == owner) ≡ true → creation owner o ≡ 1
          created e f = rw e (rw f refl)
      decide false e =
          let there = some_is (file_at s.files o.place) (sound.present m k o h e) in
          let at = directory_of_file s.files o.place there.0 there.1 in
          let bare = empty_of_size at.0.files (no_names at.0 (ap (get s.files) (sym same) ∙ at.1)) in
          let wrong : None ≡ Some there.0 = sym (get-empty name_cmp SpecVersion o.place.name)
          ∙ ap (λ m. get m o.place.name) (sym bare) ∙ at.2 in cc

pub removed_goes : (s : State) → IsSound s → (n : ℕ) (job : SpecJob) → job_at s n ≡ Some job → (v : SpecVersion) (e : ℕ)
    → remove_answer s job e (owner_at job e) ≡ Done
    → Goes s (record s { files = remove s.files (owner_at job e); jobs = slice_set s.jobs n (Some job) }) v n 0
removed_goes s sound n job there v e done =
    let owner = owner_at job e in
    let unused = (remove_needs s job e owner done).1 in
    goes_kept s v n 0 (remove s.files owner) job (λ k o h. (o, ap (output_for k) there ∙ h, refl, refl))
    (λ k w h. inr (n, k, ap (version_for k) there ∙ h))
    (λ q w is. known s w (inl (q, found_without_directory s.files owner q w is)))
    (λ m k o h is. stays_without_directory s.files owner o.place (elsewhere s sound owner unused m k o h) is)
    (λ m k o h is. keeps_without_directory s.files owner o.place.ppn (elsewhere s sound owner unused m k o h) is)

-- Quota.

pub limit_needs : (pack : Pack) (s : State) (job : SpecJob) (e owner : ℕ) → limit_answer pack s job e owner ≡ Done
    → is_none (get s.files owner) ≡ false
limit_needs pack s job e owner done =
    let a = passed_test (lies_outside job.core e 2) AddressCheck _ (λ x. cc) done in
    let b = passed_test (pack.layout == 1) (Refused 5) _ (λ x. cc) a.1 in
    (passed_test (is_none (get s.files owner)) (Refused 1) _ (λ x. cc) b.1).0

pub limited_goes : (s : State) (n : ℕ) (job : SpecJob) → job_at s n ≡ Some job → (v : SpecVersion) (e : ℕ)
    → Goes s (record s {
      files = files_limited s.files (owner_at job e) (quota_at job e);
      jobs = slice_set s.jobs n (Some job);
    }) v n 0
limited_goes s n job there v e =
    let same = file_at-limited s.files (owner_at job e) (quota_at job e) in
    goes_kept s v n 0 (files_limited s.files (owner_at job e) (quota_at job e)) job
    (λ k o h. (o, ap (output_for k) there ∙ h, refl, refl))
    (λ k w h. inr (n, k, ap (version_for k) there ∙ h))
    (λ q w is. known s w (inl (q, sym (same q) ∙ is)))
    (λ m k o h is. subst (λ (w : Option SpecVersion). IsSome w) (sym (same o.place)) is)
    (λ m k o h is. keeps_limited s.files (owner_at job e) (quota_at job e) o.place.ppn is)
