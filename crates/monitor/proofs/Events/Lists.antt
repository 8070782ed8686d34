-- What the monitor lists is what the machine lists.
use Rattle.std.proofs.Common.{◌≡◌, ℕ, true, false, List, [], ◌∷◌, map, Option, Some, None, Result, Ok, Err, refl, sym}
use Rattle.std.proofs.Common.{ap, ◌∙◌, ◌⊎◌, inr}
use Rattle.std.specs.Prelude.{if◌then◌else◌, option_map}
use Rattle.std.specs.Cmp.{nat_cmp_total}
use Rattle.words36.specs.declared.names.FileName.{FileName}
use Rattle.spec_image.specs.Common.{get, entries, keys, File, Files, Directory, map_directory, SpecVersion}
use Rattle.spec_image.specs.Common.{without_serials}
use Rattle.spec_machine.specs.Common.{SpecJob, State, slot, directory_digit, may_look, IsNoJob, entry, list, list_for}
use Rattle.spec_machine.specs.Common.{listed}
use Rattle.spec_image.specs.declared.entry.Entry.{Entry}
use Rattle.spec_image.specs.declared.code.ErrorCode.TheVariants.{NoDirectory}
use Rattle.spec_machine.specs.declared.call.Reply.{Reply}
use Rattle.spec_image.proofs.Common.{name_total, get-map_values, entries-map_values, keys-map_values}
use Rattle.volume.specs.Common.{line, protection_answer, IsListError}
use Rattle.volume.specs.declared.error.CallError.{CallError}
use Rattle.volume.specs.declared.error.CallError.TheVariants.{Refused, Device, NoMemory, Failed}
use Rattle.monitor.specs.Common.{reply_of}
use Rattle.spec_machine.specs.declared.call.Reply.TheVariants as replies

-- the one, or that memory was lacking
abbrev IsAnswer : Result (List Entry) Reply → Result (List Entry) Reply → Type 0
IsAnswer answer right = (answer ≡ right) ⊎ ((answer ≡ Err replies.NoMemory) × (IsNoJob right → ⊥))

lines_are : (es : List (FileName × SpecVersion)) → map line (map (λ e. (e.0, e.1.file)) es) ≡ map entry es
lines_are [] = refl
lines_are (e ∷ es) = ap (λ ls. entry e ∷ ls) (lines_are es)

module _ (s : State) (jobs : List (Option SpecJob)) (n owner : ℕ) (job : SpecJob) (jobs_are : s.jobs
    ≡ jobs) (there : slot jobs n ≡ Some job) where
  asked : list s n owner ≡ listed job owner (get s.files owner)
  asked = ap (λ o. list_for s o owner) (ap (λ slots. slot slots n) jobs_are ∙ there)

  shown : get (without_serials s.files) owner ≡ option_map (map_directory (λ (v : SpecVersion). v.file))
      (get s.files owner)
  shown = get-map_values nat_cmp_total (map_directory (λ (v : SpecVersion). v.file)) s.files owner

  -- the volume has no such directory
  pub absent : (error : CallError) → Err error ≡ protection_answer (get (without_serials s.files) owner)
      → list s n owner ≡ Err (replies.Refused 1)
  absent error answer = by_directory (get s.files owner) refl
    where
      by_directory : (o : Option (Directory SpecVersion)) → get s.files owner ≡ o
          → list s n owner ≡ Err (replies.Refused 1)
      by_directory None none = asked ∙ ap (listed job owner) none
      by_directory (Some d) some =
          let is : Err error ≡ Ok d.protection = answer
          ∙ ap protection_answer (shown ∙ ap (option_map (map_directory (λ (v : SpecVersion). v.file))) some) in
          absurd (cc is)

  -- The directory that the volume has is the state's.
  found : (protection : ℕ) → Ok protection ≡ protection_answer (get (without_serials s.files) owner)
      → (d : Directory SpecVersion) × (get s.files owner ≡ Some d) × (d.protection ≡ protection)
  found protection answer = by_directory (get s.files owner) refl
    where
      by_directory : (o : Option (Directory SpecVersion)) → get s.files owner ≡ o → (d : Directory SpecVersion)
          × (get s.files owner ≡ Some d) × (d.protection ≡ protection)
      by_directory None none =
          let is : Ok protection ≡ Err (Refused NoDirectory) = answer
          ∙ ap protection_answer (shown ∙ ap (option_map (map_directory (λ (v : SpecVersion). v.file))) none) in
          absurd (cc is)
      by_directory (Some d) some =
          let is : Ok protection ≡ Ok d.protection = answer
          ∙ ap protection_answer (shown ∙ ap (option_map (map_directory (λ (v : SpecVersion). v.file))) some) in
          (d, some, cc is)

  module _ (protection : ℕ) (answer : Ok protection ≡ protection_answer (get (without_serials s.files) owner)) where
    by_digit : (d : Directory SpecVersion) → get s.files owner ≡ Some d → d.protection ≡ protection
        → list s n owner ≡ (if may_look (directory_digit protection job.ppn owner) then Ok (map entry (entries d.files))
        else Err (replies.Refused 2))
    by_digit d some same =
        asked ∙ ap (listed job owner) some ∙ ap (λ p. if may_look (directory_digit p job.ppn owner)
        then Ok (map entry (entries d.files)) else Err (replies.Refused 2)) same

    pub forbidden : may_look (directory_digit protection job.ppn owner) ≡ false
        → list s n owner ≡ Err (replies.Refused 2)
    forbidden not =
        let f = found protection answer in
        by_digit f.0 f.1 f.2 ∙ ap (λ b. if b then Ok (map entry (entries f.0.files)) else Err (replies.Refused 2)) not

    allowed : may_look (directory_digit protection job.ppn owner) ≡ true → (d : Directory SpecVersion)
        × (get s.files owner ≡ Some d) × (list s n owner ≡ Ok (map entry (entries d.files)))
    allowed may =
        let f = found protection answer in (
          f.0,
          f.1,
          by_digit f.0 f.1 f.2
              ∙ ap (λ b. if b then Ok (map entry (entries f.0.files)) else Err (replies.Refused 2)) may,
        )

    pub given : (lines : List Entry) → may_look (directory_digit protection job.ppn owner) ≡ true
        → (d : Directory File) × (get (without_serials s.files) owner ≡ Some d) × (lines ≡ map line (entries d.files))
        → list s n owner ≡ Ok lines
    given lines may answered =
        let a = allowed may in
        let same : Some answered.0 ≡ Some (map_directory (λ (v : SpecVersion). v.file) a.0) = sym answered.1
        ∙ shown ∙ ap (option_map (map_directory (λ (v : SpecVersion). v.file))) a.1 in
        let is : answered.0 ≡ map_directory (λ (v : SpecVersion). v.file) a.0 = cc same in
        let all : lines ≡ map entry (entries a.0.files) =
        answered.2 ∙ ap (λ (d : Directory File). map line (entries d.files)) is
        ∙ ap (map line) (entries-map_values name_total (λ (v : SpecVersion). v.file) a.0.files)
        ∙ lines_are (entries a.0.files) in
        a.2 ∙ ap Ok (sym all)

    there_is : may_look (directory_digit protection job.ppn owner) ≡ true → IsNoJob (list s n owner) → ⊥
    there_is may no_job =
        let a = allowed may in
        let is : Ok (map entry (entries a.0.files)) ≡ Err replies.NoJob = sym a.2 ∙ no_job in
        cc is

    has_one : get (without_serials s.files) owner ≡ None → ⊥
    has_one none = cc (answer ∙ ap protection_answer none)

    -- The directory is there and may be listed, and the volume hasn't failed: then only memory was lacking.
    pub unlisted : (error : CallError) (reply : Reply) → may_look (directory_digit protection job.ppn owner) ≡ true
        → IsListError error → reply ≡ reply_of error
        → (error ≡ Refused NoDirectory → get (without_serials s.files) owner ≡ None) → (error ≡ Failed → ⊥)
        → IsAnswer (Err reply) (list s n owner)
    unlisted (Refused code) reply may only is none serves = absurd (has_one (none (ap Refused only)))
    unlisted Device reply may only is none serves = absurd only
    unlisted NoMemory reply may only is none serves = inr (ap Err is, there_is may)
    unlisted Failed reply may only is none serves = absurd (serves refl)

-- the owners of directories, whatever serials their files have
pub owners_without : (files : Files SpecVersion) → keys (without_serials files) ≡ keys files
owners_without files = keys-map_values nat_cmp_total (map_directory (λ v. v.file)) files
