-- What MakeDir keeps, and what the other calls that change a directory take from it.
use Rattle.std.proofs.Common.{◌≡◌, ℕ, true, List, [], ◌∷◌, ◌++◌, map, flat_map, cond, Option, None, Some, refl, sym}
use Rattle.std.proofs.Common.{ap, subst, ◌∙◌, inr}
use Rattle.std.specs.Prelude.{is_some, option_map}
use Rattle.std.specs.Cmp.{nat_cmp_total}
use Rattle.std.specs.FinMap.Entries.{find, put, by_order}
use Rattle.std.specs.Ordering.{nat_cmp, is_eq}
use Rattle.std.specs.declared.cmp.Ordering.TheVariants.{Less, Equal, Greater}
use Rattle.blockdisk.specs.Common.{DiskState}
use Rattle.spec_image.specs.Common.{Files, Directory, map_directory, name_cmp, entries, values, get, insert, empty}
use Rattle.spec_image.specs.Common.{SpecVersion, without_serials, StoredDirectory, directory_of, entry_of}
use Rattle.spec_image.proofs.Common.{some_none, entries-insert, entries-empty, get-entries, get-map_values}
use Rattle.spec_image.proofs.Common.{get-from_entries}
use Rattle.volume.specs.Common.{MemoryMap}
use Rattle.volume.specs.declared.pending.PendingVersion.{PendingVersion}
use Rattle.volume.proofs.common.Answers.{Holds, directory_none}
use Rattle.monitor.specs.Common.{IsAbsent, KeepsSides}
use Rattle.monitor.specs.declared.job.Job.{Job}
use Rattle.monitor.proofs.common.Growths.{shown_at}

-- a job whose core is another one writes what it wrote
pub keeps_core : (pending pending' : List (Option PendingVersion)) (job : Job) (core : List ℕ) → pending' ≡ pending
    → KeepsSides pending pending' job (record job { core = core })
keeps_core pending pending' job core same = subst (λ ps. KeepsSides pending ps job (record job { core = core }))
    (sym same) (record { once = λ key. refl; known = λ key p at. inr (p, at, refl); each = λ all. all })

-- The files with one directory more, which has none.

abbrev versions_in : List (ℕ × Directory SpecVersion) → List SpecVersion
versions_in es = flat_map (λ (d : Directory SpecVersion). values d.files) (map (λ e. e.1) es)

versions-put : (k : ℕ) (v : Directory SpecVersion) (es : List (ℕ × Directory SpecVersion)) → values v.files ≡ []
    → find nat_cmp k es ≡ None → versions_in (put nat_cmp k v es) ≡ versions_in es
versions-put k v [] bare none = ap (λ vs. vs ++ []) bare
versions-put k v (e ∷ es) bare none =
    elim (nat_cmp k e.0) as (λ r. cond (is_eq r) (Some e.1) (find nat_cmp k es) ≡ None
    → versions_in (by_order r ((k, v) ∷ e ∷ es) ((e.0, v) ∷ es) (e ∷ put nat_cmp k v es)) ≡ versions_in (e ∷ es)) [
      | Less ↦ λ h. ap (λ vs. vs ++ versions_in (e ∷ es)) bare
      | Equal ↦ λ h. absurd (some_none h)
      | Greater ↦ λ h. ap (λ vs. values e.1.files ++ vs) (versions-put k v es bare h)
    ] none

-- no version is another
pub versions_made : (files : Files SpecVersion) (owner : ℕ) (v : Directory SpecVersion) → values v.files ≡ []
    → get files owner ≡ None
    → flat_map (λ (d : Directory SpecVersion). values d.files) (values (insert files owner v))
    ≡ flat_map (λ (d : Directory SpecVersion). values d.files) (values files)
versions_made files owner v bare none = ap versions_in (entries-insert nat_cmp_total files owner v)
    ∙ versions-put owner v (entries files) bare (sym (get-entries files owner) ∙ none)

pub none_in : values (empty {X = SpecVersion} {R = name_cmp}) ≡ []
none_in = ap (map (λ e. e.1)) (entries-empty name_cmp SpecVersion)

-- Whether there is such a directory.
module _ (d : DiskState) (c : MemoryMap) (files : Files SpecVersion) (holds : Holds d c.known (without_serials files))
    (owner : ℕ) where
  pub none_there : IsAbsent c owner → get files owner ≡ None
  none_there absent = by (get files owner) (sym (shown_at files owner)
      ∙ directory_none d c.known (without_serials files) holds owner absent)
    where
      by : (was : Option (Directory SpecVersion)) → option_map (map_directory (λ (v : SpecVersion). v.file)) was ≡ None
          → was ≡ None
      by None is = refl
      by (Some x) is = cc is

  pub one_there : (IsAbsent c owner → ⊥) → is_some (get files owner) ≡ true
  one_there present = by (get files owner) refl
    where
      stored : option_map directory_of (get holds.map.directories owner) ≡ get (without_serials files) owner
      stored = sym (get-map_values nat_cmp_total directory_of holds.map.directories owner)
          ∙ ap (λ f. get f owner) holds.files_are

      entered : option_map entry_of (get holds.map.directories owner) ≡ find nat_cmp owner c.known.master.entries
      entered = sym (get-map_values nat_cmp_total entry_of holds.map.directories owner)
          ∙ ap (λ m. get m owner) holds.held.known.names ∙ get-from_entries nat_cmp_total c.known.master.entries owner

      gone : (was : Option StoredDirectory) → option_map directory_of was ≡ None → option_map entry_of was ≡ None
      gone None is = refl
      gone (Some x) is = cc is

      by : (was : Option (Directory SpecVersion)) → get files owner ≡ was → is_some was ≡ true
      by None is = absurd (present (sym entered ∙ gone (get holds.map.directories owner) (stored ∙ shown_at files owner
          ∙ ap (option_map (map_directory (λ (v : SpecVersion). v.file))) is)))
      by (Some x) is = refl
