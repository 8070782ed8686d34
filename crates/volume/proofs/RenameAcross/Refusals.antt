-- A file moves to another directory: which refusal comes when.
use Rattle.std.proofs.Common.{◌≡◌, ◌↔◌, ◌⊎◌, inl, inr, ⊎_elim, ℕ, ◌+◌, ◌^◌, ◌<◌, ◌≤◌, true, false, map, slice_get}
use Rattle.std.proofs.Common.{Option, Some, None, IfSome, IfNone, is_some, Result, Ok, Err, IsErrOf, refl, sym, ap}
use Rattle.std.proofs.Common.{subst, ◌∙◌, arith}
use Rattle.std.specs.Ordering.{nat_cmp}
use Rattle.std.specs.FinMap.Entries.{find}
use Rattle.words36.specs.declared.names.FileName.{FileName}
use Rattle.spec_image.specs.declared.code.ErrorCode.{ErrorCode}
use Rattle.spec_image.specs.declared.code.ErrorCode.TheVariants.{NameExists, NoDirectory, NoRoom, NotFound}
use Rattle.spec_image.specs.Common.{name_cmp, growth}
use Rattle.spec_image.proofs.Common.{some_same, some_none}
use Rattle.alloctab.specs.Common.{space}
use Rattle.directory.specs.Common.{StandsAt}
use Rattle.volume.specs.Common.{entries_with, IsDirectoryOf, file_view, master_view, CurrentDirectory, MemoryMap}
use Rattle.volume.specs.Common.{IsWholeMemory, memory_of, live_directory, HasFile, HasNoRoom, IsKeyOf, IsNoFile}
use Rattle.volume.specs.declared.error.CallError.{CallError}
use Rattle.volume.specs.declared.error.CallError.TheVariants.{Refused, NoMemory}
use Rattle.volume.specs.declared.live.LiveDirectory.{LiveDirectory}
use Rattle.volume.specs.declared.live.LiveMap.{LiveMap}
use Rattle.volume.proofs.BeginVersion.Beginnings.{same_directory}
use Rattle.volume.proofs.VolumeStart.FoundDirectories.{mapped_at}
use Rattle.volume.proofs.common.Growths.{entries_few}
use Rattle.volume.proofs.RenameWithin.Renamings.{name_free, name_taken}
use Rattle.volume.proofs.RenameWithin.Refusals.{IsLacking, IsBeside, key_there}
use Rattle.volume.proofs.Charges.Charges.{first_once}

-- The directory that a file moves to.

module _ (m : LiveMap) (whole : IsWholeMemory m.table.size (memory_of m)) (ppn place : ℕ) (w : ℕ × ℕ)
    (stands : StandsAt nat_cmp (map master_view m.master.entries) ppn w place)
    (d : LiveDirectory) (at : slice_get m.directories.items place ≡ Some d) (name : FileName) where
  abbrev dk : CurrentDirectory
  dk = live_directory m.versions.slots d

  known_here : slice_get (memory_of m).known.directories place ≡ Some dk
  known_here = mapped_at (live_directory m.versions.slots) m.directories.items place d at

  there : IsDirectoryOf (memory_of m) ppn dk
  there = (place, w, stands, known_here)

  pub target_few : (x : CurrentDirectory) → slice_get (memory_of m).known.directories place ≡ Some x
      → entries_with (memory_of m) x ppn < 2 ^ 64
  target_few x is = let few = entries_few m.table.size (memory_of m) ppn place x whole is in omega arith

  -- It has the name.

  module _ (found : Option ℕ) (some : is_some found ≡ true)
      (stands_at : IfSome found (λ i. (v : ℕ) × StandsAt name_cmp (map file_view d.chain.entries) name v i)) where
    pub target_named : HasFile (memory_of m) ppn name
    target_named = (dk, there, name_taken m whole ppn place w stands d at name found some stands_at dk there)

    pub named_no_room : HasNoRoom m.table.size (memory_of m) ppn name → ⊥
    named_no_room lacks = name_taken m whole ppn place w stands d at name found some stands_at lacks.0 lacks.1 lacks.2

  -- It has not.

  module _ (found : Option ℕ) (none : is_some found ≡ false)
      (absent : IfNone found (find name_cmp name (map file_view d.chain.entries) ≡ None)) where
    pub target_free : (x : CurrentDirectory) → IsDirectoryOf (memory_of m) ppn x
        → find name_cmp name x.chain.entries ≡ None
    target_free = name_free m whole ppn place w stands d at name found none absent

    pub free_unnamed : HasFile (memory_of m) ppn name → ⊥
    free_unnamed has = has.2 (target_free has.0 has.1)

    module _ (more : ℕ) (more_is : (x : CurrentDirectory) → slice_get (memory_of m).known.directories place ≡ Some x
        → more ≡ growth (entries_with (memory_of m) x ppn)) where
      -- what the directory costs more, whatever it is called
      costs_more : (x : CurrentDirectory) → IsDirectoryOf (memory_of m) ppn x
          → more ≡ growth (entries_with (memory_of m) x ppn)
      costs_more x there_x = more_is x (known_here
          ∙ ap Some (sym (same_directory m.table.size (memory_of m) ppn place w x dk whole there_x stands.is
          known_here)))

      pub target_full : 0 < more → space m.table.size < m.table.booked + more
          → HasNoRoom m.table.size (memory_of m) ppn name
      target_full grows full =
          let cost = costs_more dk there in
          (dk, there, target_free dk there, (omega arith), (omega arith))

      module _ (fits : 0 < more → m.table.booked + more ≤ space m.table.size) where
        pub target_room : (x : CurrentDirectory) → IsDirectoryOf (memory_of m) ppn x
            → 0 < growth (entries_with (memory_of m) x ppn)
            → m.table.booked + growth (entries_with (memory_of m) x ppn) ≤ space m.table.size
        target_room x there_x grows =
            let cost = costs_more x there_x in
            let room = fits (omega arith) in
            omega arith

        pub room_enough : HasNoRoom m.table.size (memory_of m) ppn name → ⊥
        room_enough lacks =
            let room = target_room lacks.0 lacks.1 lacks.3 in
            let full = lacks.4 in
            absurd (omega arith)

-- The call.

-- the directory doesn't exist, or the one that the file moves to doesn't
abbrev pub IsHomeless : MemoryMap → ℕ → FileName → ℕ → Type 0
IsHomeless c ppn name to_ppn = (find nat_cmp ppn c.known.master.entries ≡ None)
    ⊎ (HasFile c ppn name × (find nat_cmp to_ppn c.known.master.entries ≡ None))

-- an error is the one that is stated
error_is : {T : Type 0} (error error' : CallError) → IsErrOf {T = T} (Err error) error' → error ≡ error'
error_is error error' is = cc

error_on : {T : Type 0} (error error' : CallError) → error ≡ error' → IsErrOf {T = T} (Err error) error'
error_on error error' is = ap (λ e. Err e) is

module _ (size : ℕ) (c : MemoryMap) (whole : IsWholeMemory size c) (ppn : ℕ) (name : FileName) (to_ppn : ℕ)
    (to : FileName) where
  -- a file that has a key is there
  pub key_has : (key : ℕ) → IsKeyOf c ppn name key → HasFile c ppn name
  key_has key file = (
    file.directory,
    (file.place, file.word, file.there, file.directory_at),
    λ none. some_none (sym file.at.found ∙ none),
  )

  key_housed : (key : ℕ) → IsKeyOf c ppn name key → find nat_cmp ppn c.known.master.entries ≡ None → ⊥
  key_housed key file none = some_none (sym file.there.found ∙ none)

  -- If there is no such file.

  module _ (error : CallError) (is : IsNoFile c ppn name error) where
    no_file : HasFile c ppn name → ⊥
    no_file has = by is
      where
        by : IsNoFile c ppn name error → ⊥
        by (inl absent) = some_none (sym has.1.2.found ∙ absent.0)
        by (inr none) =
            let same = same_directory size c ppn none.0 none.1 has.0 none.3 whole has.1 none.2.is none.4 in
            has.2 (ap (λ (d : CurrentDirectory). find name_cmp name d.chain.entries) same ∙ none.5)

    pub no_file_homeless : IsErrOf {T = Unit {0}} (Err error) (Refused NoDirectory) ↔ IsHomeless c ppn name to_ppn
    no_file_homeless = by is
      where
        by : IsNoFile c ppn name error
            → (IsErrOf {T = Unit {0}} (Err error) (Refused NoDirectory) ↔ IsHomeless c ppn name to_ppn)
        by (inl absent) = (λ said. inl absent.0, λ any. ap (λ e. Err e) absent.1)
        by (inr none) = (
          λ said. absurd (let a : Refused NoDirectory ≡ Refused NotFound = sym (error_is error _ said) ∙ none.6 in cc),
          λ any. absurd (⊎_elim (λ absent. some_none (sym none.2.found ∙ absent)) (λ has. no_file has.0) any),
        )

    -- which code it is
    no_file_code : (code : ErrorCode) × (error ≡ Refused code) × ((code ≡ NoDirectory) ⊎ (code ≡ NotFound))
    no_file_code = by is
      where
        by : IsNoFile c ppn name error
            → (code : ErrorCode) × (error ≡ Refused code) × ((code ≡ NoDirectory) ⊎ (code ≡ NotFound))
        by (inl absent) = (NoDirectory, absent.1, inl refl)
        by (inr none) = (NotFound, none.6, inr refl)

    no_file_other : (code : ErrorCode) → (NoDirectory ≡ code → ⊥) → (NotFound ≡ code → ⊥)
        → IsErrOf {T = Unit {0}} (Err error) (Refused code) → ⊥
    no_file_other code first second said =
        let of = no_file_code in
        let both : Refused of.0 ≡ Refused code = sym of.1 ∙ error_is error _ said in
        let same : of.0 ≡ code = cc in
        ⊎_elim (λ is_first. first (sym is_first ∙ same)) (λ is_second. second (sym is_second ∙ same)) of.2

    pub no_file_exists : IsErrOf {T = Unit {0}} (Err error) (Refused NameExists)
        ↔ (HasFile c ppn name × HasFile c to_ppn to)
    no_file_exists = (
      λ said. absurd (no_file_other NameExists (λ same. cc) (λ same. cc) said),
      λ has. absurd (no_file has.0),
    )

    pub no_file_no_room : IsErrOf {T = Unit {0}} (Err error) (Refused NoRoom)
        ↔ (HasFile c ppn name × HasNoRoom size c to_ppn to)
    no_file_no_room = (
      λ said. absurd (no_file_other NoRoom (λ same. cc) (λ same. cc) said),
      λ has. absurd (no_file has.0),
    )

  -- If the file is there, and may not move to its place.

  module _ (key : ℕ) (file : IsKeyOf c ppn name key) (error : CallError)
      (only : (error ≡ Refused NoDirectory) ⊎ (error ≡ Refused NameExists) ⊎ (error ≡ Refused NoRoom)) where
    -- a clause of the answer of a place is one of the answer of the call
    on_call : (code : ErrorCode) (P : Type 0) → (IsErrOf {T = ℕ} (Err error) (Refused code) ↔ P)
        → (IsErrOf {T = Unit {0}} (Err error) (Refused code) ↔ (HasFile c ppn name × P))
    on_call code P says = (
      λ said. (key_has key file, says.0 (error_on error _ (error_is error _ said))),
      λ both. error_on error _ (error_is error _ (says.1 both.1)),
    )

    pub target_homeless : (IsErrOf {T = ℕ} (Err error) (Refused NoDirectory)
        ↔ (find nat_cmp to_ppn c.known.master.entries ≡ None))
        → (IsErrOf {T = Unit {0}} (Err error) (Refused NoDirectory) ↔ IsHomeless c ppn name to_ppn)
    target_homeless says =
        let call = on_call NoDirectory _ says in (
          λ said. inr (call.0 said),
          λ any. ⊎_elim (λ absent. absurd (key_housed key file absent)) (λ has. call.1 has) any,
        )

    pub target_exists : (IsErrOf {T = ℕ} (Err error) (Refused NameExists) ↔ HasFile c to_ppn to)
        → (IsErrOf {T = Unit {0}} (Err error) (Refused NameExists) ↔ (HasFile c ppn name × HasFile c to_ppn to))
    target_exists says = on_call NameExists _ says

    pub target_no_room : (IsErrOf {T = ℕ} (Err error) (Refused NoRoom) ↔ HasNoRoom c.known.table.size c to_ppn to)
        → (IsErrOf {T = Unit {0}} (Err error) (Refused NoRoom) ↔ (HasFile c ppn name × HasNoRoom size c to_ppn to))
    target_no_room says = on_call NoRoom (HasNoRoom size c to_ppn to)
        (subst (λ (n : ℕ). IsErrOf {T = ℕ} (Err error) (Refused NoRoom) ↔ HasNoRoom n c to_ppn to)
        whole.map.size_is says)

    target_code : (code : ErrorCode) × (error ≡ Refused code)
        × ((code ≡ NoDirectory) ⊎ (code ≡ NameExists) ⊎ (code ≡ NoRoom))
    target_code = by only
      where
        by : (error ≡ Refused NoDirectory) ⊎ (error ≡ Refused NameExists) ⊎ (error ≡ Refused NoRoom)
            → (code : ErrorCode) × (error ≡ Refused code)
            × ((code ≡ NoDirectory) ⊎ (code ≡ NameExists) ⊎ (code ≡ NoRoom))
        by (inl is) = (NoDirectory, is, inl refl)
        by (inr (inl is)) = (NameExists, is, inr (inl refl))
        by (inr (inr is)) = (NoRoom, is, inr (inr refl))

    pub target_lacking : IsErrOf {T = Unit {0}} (Err error) (Refused NotFound) ↔ IsLacking c ppn name
    target_lacking = (
      λ said.
          let of = target_code in
          let both : Refused of.0 ≡ Refused NotFound = sym of.1 ∙ error_is error _ said in
          let same : of.0 ≡ NotFound = cc in
          absurd (⊎_elim (λ first. let a : NoDirectory ≡ NotFound = sym first ∙ same in cc)
          (λ rest. ⊎_elim (λ second. let a : NameExists ≡ NotFound = sym second ∙ same in cc)
          (λ third. let a : NoRoom ≡ NotFound = sym third ∙ same in cc) rest) of.2),
      λ lacks. absurd (key_there size c whole ppn name key file lacks),
    )

  -- If both are there, and no refusal is left.

  module _ (key : ℕ) (file : IsKeyOf c ppn name key) (result : Result (Unit {0}) CallError)
      (plain : (code : ErrorCode) → IsErrOf result (Refused code) → ⊥) (place : ℕ) where
    pub moved_lacking : IsErrOf result (Refused NotFound) ↔ IsLacking c ppn name
    moved_lacking = (
      λ said. absurd (plain NotFound said),
      λ lacks. absurd (key_there size c whole ppn name key file lacks),
    )

    pub moved_exists : (IsErrOf {T = ℕ} {E = CallError} (Ok place) (Refused NameExists) ↔ HasFile c to_ppn to)
        → (IsErrOf result (Refused NameExists) ↔ (HasFile c ppn name × HasFile c to_ppn to))
    moved_exists says = (λ said. absurd (plain NameExists said), λ has. absurd (let no = says.1 has.1 in cc))

    pub moved_no_room : (IsErrOf {T = ℕ} {E = CallError} (Ok place) (Refused NoRoom)
        ↔ HasNoRoom c.known.table.size c to_ppn to)
        → (IsErrOf result (Refused NoRoom) ↔ (HasFile c ppn name × HasNoRoom size c to_ppn to))
    moved_no_room says = (
      λ said. absurd (plain NoRoom said),
      λ has. absurd (let no = says.1 (subst (λ (n : ℕ). HasNoRoom n c to_ppn to) (sym whole.map.size_is) has.1) in cc),
    )

-- That there was no memory is no refusal.
pub memory_plain : (code : ErrorCode) → IsErrOf {T = Unit {0}} (Err NoMemory) (Refused code) → ⊥
memory_plain code said = let a : NoMemory ≡ Refused code = error_is NoMemory _ said in cc

-- Within one directory.

pub within_exists : (c : MemoryMap) (ppn : ℕ) (name : FileName) (to_ppn : ℕ) (to : FileName) → to_ppn ≡ ppn
    → (result : Result (Unit {0}) CallError) → (IsErrOf result (Refused NameExists) ↔ IsBeside c ppn name to)
    → (IsErrOf result (Refused NameExists) ↔ (HasFile c ppn name × ((to_ppn ≡ ppn) × (to ≡ name) → ⊥)
    × HasFile c to_ppn to))
within_exists c ppn name to_ppn to same result says = (
  λ said.
      let beside = says.0 said in (
        (beside.0, beside.1, beside.2),
        λ both. beside.3 both.1,
        subst (λ (q : ℕ). HasFile c q to) (sym same) (beside.0, beside.1, beside.4),
      ),
  λ has.
      let there = has.0.1 in
      let taken : HasFile c ppn to = subst (λ (q : ℕ). HasFile c q to) same has.2 in
      let place = first_once c.known.master.entries taken.1.0 there.0 ppn taken.1.1 there.1 taken.1.2.is
      taken.1.2.before there.2.is there.2.before in
      let one : taken.0 ≡ has.0.0 = some_same (sym taken.1.3 ∙ ap (slice_get c.known.directories) place ∙ there.3) in
      says.1 (
        has.0.0,
        there,
        has.0.2,
        λ is_name. has.1 (same, is_name),
        λ none. taken.2 (ap (λ (d : CurrentDirectory). find name_cmp to d.chain.entries) one ∙ none),
      ),
)
