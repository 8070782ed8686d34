-- An ENTER begins, or is refused, as by the machine.
use Rattle.std.proofs.Common.{◌≡◌, ◌<◌, ℕ, ◌+◌, Bool, true, false, nat_lt, Option, None, Some, Result, Ok, Err, refl}
use Rattle.std.proofs.Common.{sym, ap, subst, ◌∙◌, ⊎_elim, slice_index}
use Rattle.std.proofs.lemmas.Bool.{both_ways}
use Rattle.std.specs.Prelude.{◌==◌, ◌||◌, if◌then◌else◌, is_none, option_map, ◌↔◌}
use Rattle.std.specs.Ordering.{nat_cmp}
use Rattle.std.specs.Cmp.{nat_cmp_total}
use Rattle.std.specs.FinMap.{nat_cmp-IsAntisymmetric}
use Rattle.std.specs.FinMap.Entries.{find}
use Rattle.words36.specs.Common.{left, IsPpn}
use Rattle.words36.specs.declared.names.FileName.{FileName}
use Rattle.blockdisk.specs.Common.{DiskState}
use Rattle.spec_machine.specs.Common.{exceeds_left, exceeds_limits, begin_answer, State, own_if_zero, place_at}
use Rattle.spec_machine.specs.Common.{entry_count, names_in, is_plain}
use Rattle.spec_image.specs.Common.{number_of, Directory, Place, map_directory, get, SpecVersion, without_serials}
use Rattle.spec_image.specs.Common.{growth}
use Rattle.spec_image.specs.Common.{place_of, pack_of}
use Rattle.spec_image.specs.declared.code.ErrorCode.{ErrorCode}
use Rattle.spec_image.specs.declared.code.ErrorCode.TheVariants.{NoDirectory, NameExists, NotFound, NoRoom}
use Rattle.spec_image.proofs.Common.{get-map_values, name_total}
use Rattle.alloctab.specs.Common.{space}
use Rattle.retrieval.specs.declared.prime.Prime.{Prime}
use Rattle.volume.specs.Common.{begin_cost, entries_with, is_absent, IsBeginRefusal, IsDirectoryOf, CurrentDirectory}
use Rattle.volume.specs.Common.{Before, IsNamed, IsWholeDirectory, MemoryMap, is_create, IsSoundMemory, claims}
use Rattle.volume.specs.declared.error.CallError.{CallError}
use Rattle.volume.specs.declared.pending.PendingKind.{PendingKind}
use Rattle.volume.proofs.common.Answers.{Holds, rest_holds, all_at_place}
use Rattle.volume.proofs.BeginVersion.Beginnings.{named_none}
use Rattle.volume.proofs.common.Lookups.{first_place}
use Rattle.monitor.specs.Common.{IsKnown, IsAnswer, found_file, found_in, begun_as, allowed, kind_for}
use Rattle.monitor.specs.Common.{begin_answer_at, UnderKeys, job_of}
use Rattle.monitor.specs.declared.found.Found.{Found}
use Rattle.monitor.specs.declared.job.Job.{Job}
use Rattle.monitor.proofs.EnterFile.Begins.{home, listed, named_before, begin_reply, begin_is}
use Rattle.monitor.proofs.common.Growths.{shown_at}
use Rattle.monitor.proofs.common.Limits.{AllowsBegin, limits_are}
use Rattle.monitor.proofs.common.Numbers.{less, not_less}
use Rattle.spec_machine.specs.declared.call.Reply.TheVariants as replies
use Rattle.volume.specs.declared.error.CallError.TheVariants as errors
use Rattle.volume.specs.declared.pending.PendingKind.TheVariants as kinds

-- the place that the words at an address name
pub at_place : (w : UnderKeys) (job : Job) (address ppn : ℕ) (file : FileName)
    → ppn ≡ own_if_zero (slice_index job.core (address + 3)) job.ppn → file.name ≡ slice_index job.core address
    → file.ext ≡ left (slice_index job.core (address + 1))
    → place_of ppn file ≡ place_at (job_of w job) address
at_place w job address ppn file p n x = λ i. record { ppn = p i; name = record { name = n i; ext = x i } }

-- A job that begins, begins a new file if there is none.

pub begun_kind : (k kind : PendingKind) (may is_zero claimed : Bool) → begun_as k may is_zero claimed ≡ Ok kind
    → kind ≡ k
begun_kind k kind may true claimed is = cc is
begun_kind k kind false false claimed is = cc is
begun_kind k kind true false true is = cc is
begun_kind k kind true false false is = sym (cc is)

kind_is : (name : FileName) (who owner : ℕ) (is_zero claimed : Bool) (D : Directory SpecVersion) (kind : PendingKind)
    → allowed (found_in (Some (map_directory (λ (v : SpecVersion). v.file) D)) name) who owner is_zero claimed ≡ Ok kind
    → (was : Option SpecVersion) → get D.files name ≡ was → (is_none was ≡ true → kind ≡ kinds.Create)
    × (is_none was ≡ false → kind ≡ kinds.Supersede)
kind_is name who owner is_zero claimed D kind ok None at =
    let shown = get-map_values name_total (λ (v : SpecVersion). v.file) D.files name
    ∙ ap (option_map (λ (v : SpecVersion). v.file)) at in (
      (λ e. begun_kind kinds.Create kind _ is_zero claimed
          (sym (ap (λ f. allowed (found_file D.protection f) who owner is_zero claimed) shown) ∙ ok)),
      λ e. cc e,
    )
kind_is name who owner is_zero claimed D kind ok (Some v) at =
    let shown = get-map_values name_total (λ (v : SpecVersion). v.file) D.files name
    ∙ ap (option_map (λ (v : SpecVersion). v.file)) at in (
      (λ e. cc e),
      λ e. begun_kind kinds.Supersede kind _ is_zero claimed
          (sym (ap (λ f. allowed (found_file D.protection f) who owner is_zero claimed) shown) ∙ ok),
    )

module _ (d : DiskState) (map : MemoryMap) (s : State) (known : IsKnown d map s) (sound : IsSoundMemory d map false)
    (honest : d.honest) where
  holds : Holds d map.known (without_serials s.files)
  holds = rest_holds d map false sound honest refl (without_serials s.files) known.files

  -- how a job may begin at a place
  abbrev pub may : ℕ → Place → Result PendingKind ErrorCode
  may who place = allowed (found_in (get (without_serials s.files) place.ppn) place.name) who place.ppn (place.name.name
      == 0) (claims map.pending place)

  -- something was found there, by which it may
  abbrev pub MayBegin : Found → Job → ℕ → FileName → Type 0
  MayBegin found job ppn file = (found ≡ found_in (get (without_serials s.files) ppn) file)
      × ((kind : PendingKind) × (allowed found job.ppn ppn (file.name == 0) (claims map.pending (place_of ppn file))
      ≡ Ok kind))

  reply_is : (w : UnderKeys) (job : Job) (place : Place)
      → begin_answer_at (pack_of d) s (job_of w job) place
      ≡ begin_reply (may job.ppn place) (exceeds_limits (pack_of d) s place.ppn (1 + growth (entry_count s place.ppn)))
      (exceeds_limits (pack_of d) s place.ppn 1)
  reply_is w job place =
      begin_is place.name place.ppn (job_of w job) (get s.files place.ppn) (place.name.name == 0) _ _ _
      ∙ (let shown = sym (shown_at s.files place.ppn) in
      λ i. begin_reply (allowed (found_in (shown i) place.name) job.ppn place.ppn (place.name.name
      == 0) (known.claimed place i)) (exceeds_limits (pack_of d) s place.ppn (1 + growth (entry_count s place.ppn)))
      (exceeds_limits (pack_of d) s place.ppn 1))

  -- no directory has a number that is no PPN
  pub no_directory : (place : Place) → (IsPpn place.ppn → ⊥) → get s.files place.ppn ≡ None
  no_directory place none = gone (get s.files place.ppn) refl
    where
      unnamed : (was : Option (ℕ × ℕ)) → find nat_cmp place.ppn map.known.master.entries ≡ was
          → find nat_cmp place.ppn map.known.master.entries ≡ None
      unnamed None is = is
      unnamed (Some v) is =
          let at = first_place nat_cmp_total nat_cmp-IsAntisymmetric map.known.master.entries place.ppn v is in
          absurd (none (all_at_place _ map.known.master.entries at.0
          (place.ppn, v) sound.whole.map.chain.are_entries at.1.is).ppn)

      gone : (was : Option (Directory SpecVersion)) → get s.files place.ppn ≡ was → get s.files place.ppn ≡ None
      gone None is = is
      gone (Some x) is = absurd (listed d map s.files holds sound.whole.map place.ppn x is
          (unnamed (find nat_cmp place.ppn map.known.master.entries) refl))

  pub no_owner : (w : UnderKeys) (job : Job) (place : Place) → (IsPpn place.ppn → ⊥)
      → begin_answer_at (pack_of d) s (job_of w job) place ≡ replies.Refused 1
  no_owner w job place none = ap (λ o. if is_none o then replies.Refused 1
      else (if place.name.name == 0 then replies.Refused 0 else begin_answer (pack_of d) s (job_of w job) None place))
      (no_directory place none)

  pub refused : (w : UnderKeys) (job : Job) (place : Place) (code : ErrorCode) → may job.ppn place ≡ Err code
      → begin_answer_at (pack_of d) s (job_of w job) place ≡ replies.Refused (number_of code)
  refused w job place code is = reply_is w job place
      ∙ ap (λ r. begin_reply r (exceeds_limits (pack_of d) s place.ppn (1 + growth (entry_count s place.ppn)))
      (exceeds_limits (pack_of d) s place.ppn 1)) is

  -- how a version begins there
  abbrev pub begins_as : Place → PendingKind
  begins_as place = kind_for (found_in (get (without_serials s.files) place.ppn) place.name)

  kind_found : (place : Place) (D : Directory SpecVersion) → get s.files place.ppn ≡ Some D → (was : Option SpecVersion)
      → get D.files place.name ≡ was
      → begins_as place ≡ kind_for (found_file D.protection (option_map (λ (v : SpecVersion). v.file) was))
  kind_found place D at was name =
      ap (λ o. kind_for (found_in o place.name)) (shown_at s.files place.ppn
      ∙ ap (option_map (map_directory (λ (v : SpecVersion). v.file))) at)
      ∙ ap (λ o. kind_for (found_file D.protection o))
      (get-map_values name_total (λ (v : SpecVersion). v.file) D.files place.name
      ∙ ap (option_map (λ (v : SpecVersion). v.file)) name)

  -- a version that begins in this way doesn't fit
  abbrev pub full : PendingKind → Place → CurrentDirectory → Before → Bool
  full kind place x old = nat_lt (space d.size) (map.known.table.booked + begin_cost kind
      (entries_with map x place.ppn) old)

  -- nor does its directory's quota leave as much
  abbrev pub past : PendingKind → Place → CurrentDirectory → Before → Bool
  past kind place x old = exceeds_left s place.ppn (begin_cost kind (entries_with map x place.ppn) old)

  -- There is a directory in which a version may begin in this way, and the answer depends on the room and the quota.
  pub record Begins (w : UnderKeys) (job : Job) (place : Place) (kind : PendingKind) : Type 0 where
    pub directory : CurrentDirectory
    pub there : IsDirectoryOf map place.ppn directory
    pub found : find nat_cmp place.ppn map.known.master.entries ≡ None → ⊥
    pub old : Before
    pub named : IsNamed directory place.name old
    pub is_new : is_create kind ≡ is_none old
    pub answer : begin_answer_at (pack_of d) s (job_of w job) place
        ≡ (if full kind place directory old || past kind place directory old then replies.Refused 0o14
        else replies.Done)

  pub begins : (w : UnderKeys) (job : Job) (place : Place) (kind : PendingKind) → may job.ppn place ≡ Ok kind
      → Begins w job place (begins_as place)
  begins w job place kind is = by (get s.files place.ppn) refl
      (sym (ap (λ o. allowed (found_in o place.name) job.ppn place.ppn (place.name.name
      == 0) (claims map.pending place)) (shown_at s.files place.ppn)) ∙ is)
    where
      -- by what is there
      by_room : (x : CurrentDirectory) (D : Directory SpecVersion) → get s.files place.ppn ≡ Some D
          → entry_count s place.ppn
          ≡ entries_with map x place.ppn → (old : Before) → (was : Option SpecVersion) → get D.files place.name ≡ was
          → is_none old ≡ is_none was → may job.ppn place ≡ Ok kind
          → (is_none was ≡ true → kind ≡ kinds.Create) → (is_none was ≡ false → kind ≡ kinds.Supersede)
          → (is_create (begins_as place) ≡ is_none old) × (begin_answer_at (pack_of d) s (job_of w job) place
          ≡ (if full (begins_as place) place x old || past (begins_as place) place x old then replies.Refused 0o14
          else replies.Done))
      by_room x D at count old None name none ok new present =
          subst (λ k. (is_create k ≡ is_none old) × (begin_answer_at (pack_of d) s (job_of w job) place
          ≡ (if full k place x old || past k place x old then replies.Refused 0o14 else replies.Done)))
          (sym (kind_found place D at None name)) (
            sym none,
            reply_is w job place
                ∙ ap (λ r. begin_reply r (exceeds_limits (pack_of d) s place.ppn (1 + growth (entry_count s place.ppn)))
                (exceeds_limits (pack_of d) s place.ppn 1)) (ok ∙ ap Ok (new refl))
                ∙ (λ i. if nat_lt (space d.size) (known.booked_is i + begin_cost kinds.Create (count i) old)
                || exceeds_left s place.ppn (begin_cost kinds.Create (count i) old)
                then replies.Refused 0o14 else replies.Done),
          )
      by_room x D at count old (Some v) name none ok new present =
          subst (λ k. (is_create k ≡ is_none old) × (begin_answer_at (pack_of d) s (job_of w job) place
          ≡ (if full k place x old || past k place x old then replies.Refused 0o14 else replies.Done)))
          (sym (kind_found place D at (Some v) name)) (
            sym none,
            reply_is w job place
                ∙ ap (λ r. begin_reply r (exceeds_limits (pack_of d) s place.ppn (1 + growth (entry_count s place.ppn)))
                (exceeds_limits (pack_of d) s place.ppn 1)) (ok ∙ ap Ok (present refl))
                ∙ (λ i. if nat_lt (space d.size) (known.booked_is i + begin_cost kinds.Supersede (count i) old)
                || exceeds_left s place.ppn (begin_cost kinds.Supersede (count i) old)
                then replies.Refused 0o14 else replies.Done),
          )

      by : (was : Option (Directory SpecVersion)) → get s.files place.ppn ≡ was
          → allowed (found_in (option_map (map_directory (λ (v : SpecVersion). v.file)) was) place.name) job.ppn
          place.ppn
          (place.name.name == 0) (claims map.pending place) ≡ Ok kind → Begins w job place (begins_as place)
      by None at ok = cc ok
      by (Some D) at ok =
          let h = home d map s.files holds sound.whole.map place.ppn place.name D at in
          let count : entry_count s place.ppn ≡ entries_with map h.known place.ppn = λ i. (ap names_in at ∙ h.entries) i
          + known.creations place.ppn i in
          let whole = all_at_place (IsWholeDirectory d.size) map.known.directories h.there.0 h.known
          sound.whole.map.each h.there.3 in
          let before = named_before d.size h.known whole place.name in
          let which = kind_is place.name job.ppn place.ppn (place.name.name
          == 0) (claims map.pending place) D kind ok (get D.files place.name) refl in
          let room = by_room h.known D at count before.0 (get D.files place.name) refl
          (named_none h.known place.name before.0 before.1 ∙ h.absent) is which.0 which.1 in
          record {
            directory = h.known;
            there = h.there;
            found = listed d map s.files holds sound.whole.map place.ppn D at;
            old = before.0;
            named = before.1;
            is_new = room.0;
            answer = room.1;
          }

  -- The answer, by what the volume answers.
  module _ (w : UnderKeys) (job : Job) (place : Place) (kind : PendingKind) (b : Begins w job place kind) where
    begun : (space d.size < map.known.table.booked + begin_cost kind (entries_with map b.directory place.ppn) b.old
        → ⊥) → past kind place b.directory b.old ≡ false
        → begin_answer_at (pack_of d) s (job_of w job) place ≡ replies.Done
    begun fits left = let room = not_less _ _ fits in
        b.answer ∙ (λ i. if room i || left i then replies.Refused 0o14 else replies.Done)

    -- the quota leaves too little
    limited : past kind place b.directory b.old ≡ true
        → begin_answer_at (pack_of d) s (job_of w job) place ≡ replies.Refused 0o14
    limited many = b.answer ∙ either (full kind place b.directory b.old) (past kind place b.directory b.old) many
      where
        either : (a b : Bool) → b ≡ true → (if a || b then replies.Refused 0o14 else replies.Done) ≡ replies.Refused
            0o14
        either true b is = refl
        either false b is = ap (λ t. if t then replies.Refused 0o14 else replies.Done) is

    -- the name is there, or absent, as the kind requires
    absent_is : is_absent place.name b.directory ≡ is_create kind
    absent_is = sym (b.is_new ∙ named_none b.directory place.name b.old b.named)

    not_begun : (X : Type 0) (error : CallError)
        → (error ≡ errors.Refused NoDirectory → find nat_cmp place.ppn map.known.master.entries ≡ None)
        → (error ≡ errors.Refused NameExists → (is_create kind ≡ true) × (is_absent place.name b.directory ≡ false))
        → (error ≡ errors.Refused NotFound → (is_create kind ≡ false) × (is_absent place.name b.directory ≡ true))
        → (error ≡ errors.Refused NoRoom → space d.size < map.known.table.booked
        + begin_cost kind (entries_with map b.directory place.ppn) b.old)
        → ((code : ErrorCode) → error ≡ errors.Refused code → IsBeginRefusal code)
        → (error ≡ errors.Device → ⊥) → (error ≡ errors.Failed → ⊥)
        → IsAnswer {X = X} (Err error) (begin_answer_at (pack_of d) s (job_of w job) place)
    not_begun X (errors.Refused code) gone exists none many codes device failed = ⊎_elim
        (λ is. absurd (b.found (gone (ap errors.Refused is))))
        (⊎_elim (λ is. let said = exists (ap errors.Refused is) in
        absurd (both_ways (is_create kind) (sym absent_is ∙ said.1) said.0))
        (⊎_elim (λ is. let said = none (ap errors.Refused is) in
        absurd (both_ways (is_create kind) said.0 (sym absent_is ∙ said.1)))
        (λ is. b.answer ∙ ap (λ t. if t || past kind place b.directory b.old then replies.Refused 0o14
        else replies.Done)
        (less _ _ (many (ap errors.Refused is))) ∙ ap (λ c. replies.Refused (number_of c)) (sym is))))
        (codes code refl)
    not_begun X errors.Device gone exists none many codes device failed = device refl
    not_begun X errors.NoMemory gone exists none many codes device failed = ap is_plain b.answer
        ∙ plain (full kind place b.directory b.old || past kind place b.directory b.old)
      where
        plain : (t : Bool) → is_plain (if t then replies.Refused 0o14 else replies.Done) ≡ false
        plain true = refl
        plain false = refl
    not_begun X errors.Failed gone exists none many codes device failed = failed refl

  -- what may begin at a place may begin at that which a prime block names
  pub may_begin_at : (found : Found) (job : Job) (ppn : ℕ) (file : FileName) (prime : Prime) → prime.ppn ≡ ppn
      → prime.file ≡ file → MayBegin found job ppn file → MayBegin found job prime.ppn prime.file
  may_begin_at found job ppn file prime p f there =
      subst (λ (n : ℕ). MayBegin found job n prime.file) (sym p)
      (subst (λ (x : FileName). MayBegin found job ppn x) (sym f) there)

  -- what it begins with there
  begins_at : (w : UnderKeys) (job : Job) (found : Found) (kind : PendingKind) (ppn : ℕ) (file : FileName)
      → MayBegin found job ppn file → kind ≡ kind_for found → Begins w job (place_of ppn file) kind
  begins_at w job found kind ppn file there kind_is =
      subst (Begins w job (place_of ppn file)) (sym (kind_is ∙ ap kind_for there.0))
      (begins w job (place_of ppn file) there.1.0
      (ap (λ x. allowed x job.ppn ppn (file.name == 0) (claims map.pending (place_of ppn file))) (sym there.0)
      ∙ there.1.1))

  -- if the directory's quota leaves less than it costs
  pub limited_at : (w : UnderKeys) (job : Job) (found : Found) (kind : PendingKind) (ppn : ℕ) (file : FileName)
      → MayBegin found job ppn file → kind ≡ kind_for found → (allows : Bool) → allows ≡ false
      → AllowsBegin map ppn file kind allows
      → begin_answer_at (pack_of d) s (job_of w job) (place_of ppn file) ≡ replies.Refused 0o14
  limited_at w job found kind ppn file there kind_is allows refuses quota =
      let b = begins_at w job found kind ppn file there kind_is in
      limited w job (place_of ppn file) kind b ((limits_are d map s known sound honest ppn _).0
      ((quota b.directory b.there b.old b.named).0 refuses))

  -- The same, if the prime block names the place.
  module _ {X : Type 0} (w : UnderKeys) (job : Job) (found : Found) (kind : PendingKind) (prime : Prime)
      (result : Result X CallError) (there : MayBegin found job prime.ppn prime.file) (kind_is : kind ≡ kind_for found)
      (room : (x : CurrentDirectory) → IsDirectoryOf map prime.ppn x → (old : Before) → IsNamed x prime.file old
      → is_create kind ≡ is_none old
      → (result ≡ Err (errors.Refused NoRoom)
      ↔ (space d.size < map.known.table.booked + begin_cost kind (entries_with map x prime.ppn) old))) where
    begins_here : Begins w job (place_of prime.ppn prime.file) kind
    begins_here = begins_at w job found kind prime.ppn prime.file there kind_is

    room_here : result ≡ Err (errors.Refused NoRoom)
        ↔ (space d.size < map.known.table.booked + begin_cost kind
        (entries_with map begins_here.directory prime.ppn) begins_here.old)
    room_here = room begins_here.directory begins_here.there begins_here.old begins_here.named begins_here.is_new

    -- if the quota leaves what it costs
    pub begun_at : (x : X) → result ≡ Ok x → (allows : Bool) → allows ≡ true
        → AllowsBegin map prime.ppn prime.file kind allows
        → begin_answer_at (pack_of d) s (job_of w job) (place_of prime.ppn prime.file) ≡ replies.Done
    begun_at x is allows so quota = begun w job (place_of prime.ppn prime.file) kind begins_here
        (λ many. let no = room_here.1 many in cc (is, no))
        ((limits_are d map s known sound honest prime.ppn _).1
        (λ over. both_ways allows
        ((quota begins_here.directory begins_here.there begins_here.old begins_here.named).1 over) so))

    pub not_begun_at : (Y : Type 0) (error : CallError) → result ≡ Err error
        → (result ≡ Err (errors.Refused NoDirectory) → find nat_cmp prime.ppn map.known.master.entries ≡ None)
        → ((x : CurrentDirectory) → IsDirectoryOf map prime.ppn x → (result ≡ Err (errors.Refused NameExists)
        ↔ ((is_create kind ≡ true) × (is_absent prime.file x ≡ false))))
        → ((x : CurrentDirectory) → IsDirectoryOf map prime.ppn x → (result ≡ Err (errors.Refused NotFound)
        ↔ ((is_create kind ≡ false) × (is_absent prime.file x ≡ true))))
        → ((code : ErrorCode) → result ≡ Err (errors.Refused code) → IsBeginRefusal code)
        → (result ≡ Err errors.Device → ⊥) → (result ≡ Err errors.Failed → ⊥)
        → IsAnswer {X = Y} (Err error) (begin_answer_at (pack_of d) s (job_of w job) (place_of prime.ppn prime.file))
    not_begun_at Y error is gone exists none codes device failed =
        not_begun w job (place_of prime.ppn prime.file) kind begins_here Y error
        (λ e. gone (is ∙ ap Err e))
        (λ e. (exists begins_here.directory begins_here.there).0 (is ∙ ap Err e))
        (λ e. (none begins_here.directory begins_here.there).0 (is ∙ ap Err e))
        (λ e. room_here.0 (is ∙ ap Err e)) (λ code e. codes code (is ∙ ap Err e))
        (λ e. device (is ∙ ap Err e)) (λ e. failed (is ∙ ap Err e))
