-- A file gets another name in its directory: which refusal comes when.
use Rattle.std.proofs.Common.{◌≡◌, ◌↔◌, ◌⊎◌, inl, inr, ⊎_elim, ℕ, None, Result, Ok, Err, IsErrOf, IfErr, refl, sym}
use Rattle.std.proofs.Common.{ap, subst, ◌∙◌}
use Rattle.std.specs.Ordering.{nat_cmp}
use Rattle.std.specs.FinMap.Entries.{find}
use Rattle.words36.specs.declared.names.FileName.{FileName}
use Rattle.spec_image.specs.declared.code.ErrorCode.{ErrorCode}
use Rattle.spec_image.specs.declared.code.ErrorCode.TheVariants.{NameExists, NoDirectory, NotFound}
use Rattle.spec_image.specs.Common.{name_cmp}
use Rattle.spec_image.proofs.Common.{some_none}
use Rattle.volume.specs.Common.{IsDirectoryOf, CurrentDirectory, MemoryMap, IsWholeMemory, IsMoveRefusal, IsKeyOf}
use Rattle.volume.specs.declared.error.CallError.{CallError}
use Rattle.volume.specs.declared.error.CallError.TheVariants.{Refused, Device, Failed, NoMemory}
use Rattle.volume.proofs.BeginVersion.Beginnings.{same_directory}

-- a directory exists and lacks the file
abbrev pub IsLacking : MemoryMap → ℕ → FileName → Type 0
IsLacking c ppn name = (d : CurrentDirectory) × IsDirectoryOf c ppn d × (find name_cmp name d.chain.entries ≡ None)

-- it has the file, and another of the new name
abbrev pub IsBeside : MemoryMap → ℕ → FileName → FileName → Type 0
IsBeside c ppn name to = (d : CurrentDirectory) × IsDirectoryOf c ppn d
    × (find name_cmp name d.chain.entries ≡ None → ⊥)
    × (to ≡ name → ⊥) × (find name_cmp to d.chain.entries ≡ None → ⊥)

module _ (size : ℕ) (c : MemoryMap) (whole : IsWholeMemory size c) (ppn : ℕ) (name : FileName) where
  one : (d e : CurrentDirectory) → IsDirectoryOf c ppn d → IsDirectoryOf c ppn e → d ≡ e
  one d e there there' = same_directory size c ppn there'.0 there'.1 d e whole there there'.2.is there'.3

  -- if there is a file, it isn't lacking
  pub key_there : (key : ℕ) → IsKeyOf c ppn name key → IsLacking c ppn name → ⊥
  key_there key file lacks =
      let same = one file.directory lacks.0 (file.place, file.word, file.there, file.directory_at) lacks.1 in
      some_none (sym file.at.found
      ∙ ap (λ (d : CurrentDirectory). find name_cmp name d.chain.entries) same ∙ lacks.2)

  abbrev IsRefusal : CallError → ErrorCode → Type 0
  IsRefusal error code = error ≡ Refused code

  said : (error : CallError) (code : ErrorCode) → IsErrOf {T = Unit {0}} (Err error) (Refused code)
      → IsRefusal error code
  said error code is = cc

  pub refused_not_found : (to : FileName) (error : CallError) → IsMoveRefusal c ppn name to error
      → (IsErrOf {T = Unit {0}} (Err error) (Refused NotFound) ↔ IsLacking c ppn name)
  refused_not_found to error (inl (inl none)) = (
    λ is. absurd (let a : Refused NotFound ≡ Refused NoDirectory = sym (said error NotFound is) ∙ none.1 in cc),
    λ lacks. absurd (some_none (sym lacks.1.2.found ∙ none.0)),
  )
  refused_not_found to error (inl (inr none)) = (
    λ is. (none.3, (none.0, none.1, none.2, none.4), none.5),
    λ lacks. ap (λ e. Err e) none.6,
  )
  refused_not_found to error (inr taken) = (
    λ is. absurd (let a : Refused NotFound ≡ Refused NameExists = sym (said error NotFound is) ∙ taken.0 in cc),
    λ lacks. absurd (key_there taken.1.key taken.1.file lacks),
  )

  pub refused_exists : (to : FileName) (error : CallError) → IsMoveRefusal c ppn name to error
      → (IsErrOf {T = Unit {0}} (Err error) (Refused NameExists) ↔ IsBeside c ppn name to)
  refused_exists to error (inl (inl none)) = (
    λ is. absurd (let a : Refused NameExists ≡ Refused NoDirectory = sym (said error NameExists is) ∙ none.1 in cc),
    λ beside. absurd (some_none (sym beside.1.2.found ∙ none.0)),
  )
  refused_exists to error (inl (inr none)) = (
    λ is. absurd (let a : Refused NameExists ≡ Refused NotFound = sym (said error NameExists is) ∙ none.6 in cc),
    λ beside. absurd (beside.2 (ap (λ (d : CurrentDirectory). find name_cmp name d.chain.entries)
        (one beside.0 none.3 beside.1 (none.0, none.1, none.2, none.4)) ∙ none.5)),
  )
  refused_exists to error (inr taken) =
      let file = taken.1.file in
      let there : IsDirectoryOf c ppn file.directory = (file.place, file.word, file.there, file.directory_at) in (
        λ is. (
          file.directory,
          there,
          λ none. some_none (sym file.at.found ∙ none),
          taken.1.other,
          taken.1.taken file.directory there,
        ),
        λ beside. ap (λ e. Err e) taken.0,
      )

  pub refused_no_directory : (to : FileName) (error : CallError) → IsMoveRefusal c ppn name to error
      → (IsErrOf {T = Unit {0}} (Err error) (Refused NoDirectory) ↔ (find nat_cmp ppn c.known.master.entries ≡ None))
  refused_no_directory to error (inl (inl none)) = (λ is. none.0, λ absent. ap (λ e. Err e) none.1)
  refused_no_directory to error (inl (inr none)) = (
    λ is. absurd (let a : Refused NoDirectory ≡ Refused NotFound = sym (said error NoDirectory is) ∙ none.6 in cc),
    λ absent. absurd (some_none (sym none.2.found ∙ absent)),
  )
  refused_no_directory to error (inr taken) = (
    λ is. absurd (let a : Refused NoDirectory ≡ Refused NameExists = sym (said error NoDirectory is) ∙ taken.0 in cc),
    λ absent. absurd (some_none (sym taken.1.file.there.found ∙ absent)),
  )

  -- which code it is
  pub refused_code : (to : FileName) (error : CallError) → IsMoveRefusal c ppn name to error
      → (code : ErrorCode) × (error ≡ Refused code) × ((code ≡ NoDirectory) ⊎ (code ≡ NotFound) ⊎ (code ≡ NameExists))
  refused_code to error (inl (inl none)) = (NoDirectory, none.1, inl refl)
  refused_code to error (inl (inr none)) = (NotFound, none.6, inr (inl refl))
  refused_code to error (inr taken) = (NameExists, taken.0, inr (inr refl))

  pub refused_codes : (to : FileName) (error : CallError) → IsMoveRefusal c ppn name to error → (code : ErrorCode)
      → IsErrOf {T = Unit {0}} (Err error) (Refused code)
      → (code ≡ NoDirectory) ⊎ (code ≡ NotFound) ⊎ (code ≡ NameExists)
  refused_codes to error refusal code is =
      let of = refused_code to error refusal in
      let both : Refused code ≡ Refused of.0 = sym (said error code is) ∙ of.1 in
      let same : of.0 ≡ code = cc in
      subst (λ x. (x ≡ NoDirectory) ⊎ (x ≡ NotFound) ⊎ (x ≡ NameExists)) same of.2

  -- nothing else is blamed
  pub refused_plain : (to : FileName) (error : CallError) → IsMoveRefusal c ppn name to error
      → (IsErrOf {T = Unit {0}} (Err error) NoMemory → ⊥) × (IsErrOf {T = Unit {0}} (Err error) Device → ⊥)
      × (IsErrOf {T = Unit {0}} (Err error) Failed → ⊥)
  refused_plain to error refusal =
      let of = refused_code to error refusal in (
        λ is. let a : NoMemory ≡ Refused of.0 = sym (plain error NoMemory is) ∙ of.1 in absurd (cc),
        λ is. let a : Device ≡ Refused of.0 = sym (plain error Device is) ∙ of.1 in absurd (cc),
        λ is. let a : Failed ≡ Refused of.0 = sym (plain error Failed is) ∙ of.1 in absurd (cc),
      )
    where
      plain : (x y : CallError) → IsErrOf {T = Unit {0}} (Err x) y → x ≡ y
      plain x y is = cc

-- If the device or the disk is blamed, no code is returned.
pub not_refused : (result : Result (Unit {0}) CallError) → IfErr result (λ error. (error ≡ Device) ⊎ (error ≡ Failed))
    → (code : ErrorCode) → IsErrOf result (Refused code) → ⊥
not_refused (Ok x) only code is = cc
not_refused (Err error) only code is = ⊎_elim
    (λ (device : error ≡ Device). let a : Refused code ≡ Device = sym (same error (Refused code) is) ∙ device in
    absurd (cc))
    (λ (failed : error ≡ Failed). let a : Refused code ≡ Failed = sym (same error (Refused code) is) ∙ failed in
    absurd (cc)) only
  where
    same : (x y : CallError) → IsErrOf {T = Unit {0}} (Err x) y → x ≡ y
    same x y is = cc
