-- A LOOKUP answers as the machine does, and finds what the machine finds.
use Rattle.std.proofs.Common.{◌≡◌, ◌<◌, ℕ, ◌*◌, ◌≤◌, ◌^◌, true, false, length, List, Option, None, Some, Ok, Err}
use Rattle.std.proofs.Common.{refl, sym, ap, subst, ◌∙◌, arith}
use Rattle.std.proofs.lemmas.Bool.Decides.{nat_tests}
use Rattle.std.specs.Prelude.{◌==◌, ◌||◌, not, if◌then◌else◌, is_none, is_some, option_map}
use Rattle.std.specs.Cmp.{nat_cmp_total}
use Rattle.words36.specs.declared.names.FileName.{FileName}
use Rattle.words36.specs.Common.{IsPpn}
use Rattle.blockdisk.specs.Common.{Contents, DiskState}
use Rattle.spec_image.specs.Common.{number_of, blocks_of, File, Files, Directory, Place, map_directory, get}
use Rattle.spec_image.specs.Common.{SpecVersion}
use Rattle.spec_image.specs.Common.{without_serials, file_in, file_at, StoredFile, StoredDirectory, directory_of}
use Rattle.spec_machine.specs.Common.{lies_outside, State, digit_for_directory, digit_for_version, lookup_answer}
use Rattle.spec_machine.specs.Common.{directory_digit, file_digit, may_look, may_read}
use Rattle.spec_image.specs.declared.code.ErrorCode.{ErrorCode}
use Rattle.spec_machine.specs.declared.call.Reply.{Reply}
use Rattle.spec_machine.specs.declared.call.Reply.TheVariants.{Done, Refused, AddressCheck}
use Rattle.spec_image.proofs.Common.{some_same, some_none, get-map_values, name_total}
use Rattle.volume.specs.Common.{CurrentMap, as_known, MemoryMap, slot, IsVersionOf, IsFilePinned, IsPinAnswer}
use Rattle.volume.specs.Common.{protection_answer, IsShown, IsFileAnswer, IsLookAnswer, IsSoundMemory}
use Rattle.volume.specs.declared.error.CallError.{CallError}
use Rattle.volume.specs.declared.file_facts.FileFacts.{FileFacts}
use Rattle.volume.specs.declared.handles.Pin.{Pin}
use Rattle.volume.specs.declared.live.LiveVersion.{LiveVersion}
use Rattle.volume.proofs.common.Answers.{Holds, rest_holds}
use Rattle.monitor.specs.Common.{IsKnown, HasShortFacts, named_in, digit_for, read_answer, IsReadAnswer, UnderKeys}
use Rattle.monitor.specs.Common.{job_of}
use Rattle.monitor.specs.declared.job.Job.{Job}
use Rattle.monitor.proofs.EnterFile.Outcomes.{no_directory}
use Rattle.monitor.proofs.common.Growths.{shown_at}
use Rattle.spec_machine.specs.Jobs as machine

nonzero : (n : ℕ) → (n ≡ 0 → ⊥) → (n == 0) ≡ false
nonzero n some = grind (arith, nat_tests)

-- The file may be read.
pub read : (who owner : ℕ) (name : FileName) (o : Option (Directory File)) (p : ℕ) (facts : FileFacts)
    → Ok p ≡ protection_answer o → may_look (directory_digit p who owner) ≡ true → (name.name ≡ 0 → ⊥)
    → IsLookAnswer name (Ok facts) o
    → may_read (file_digit facts.protection who owner) ≡ true → IsReadAnswer who owner name o (Ok facts)
read who owner name None p facts there look named looked may = cc there
read who owner name (Some d) p facts there look named looked may = by (get d.files name) refl looked
  where
    digits : p ≡ d.protection
    digits = cc there

    unlike : (name.name == 0) ≡ false
    unlike = nonzero name.name named

    seen : may_look (directory_digit d.protection who owner) ≡ true
    seen = ap (λ (q : ℕ). may_look (directory_digit q who owner)) (sym digits) ∙ look

    by : (was : Option File) → get d.files name ≡ was → IsFileAnswer (Ok facts) was
        → IsReadAnswer who owner name (Some d) (Ok facts)
    by None at is = cc is
    by (Some file) at is =
        let same : facts ≡ is.0 = cc is.1 in
        let shown : IsShown file facts = subst (IsShown file) (sym same) is.2 in (
          (λ i. if not (seen i) then Refused 2 else if unlike i || is_none (at i) then Refused 0
              else if not (may_read (digit_for who owner (at i))) then Refused 2 else Done)
              ∙ ap (λ b. if not b then Refused 2 else Done)
              (ap (λ (q : ℕ). may_read (file_digit q who owner)) (sym shown.protection) ∙ may),
          (file, at, shown),
        )

-- What the machine answers in a directory, if the channel has no output side and the words are there.
abbrev asked : machine.SpecJob → ℕ → FileName → Option (Directory SpecVersion) → Reply
asked job owner name o =
    if is_none o then Refused 1
    else if not (may_look (digit_for_directory job owner o)) then Refused 2
    else if (name.name == 0) || is_none (file_in o name) then Refused 0
    else if not (may_read (digit_for_version job owner (file_in o name))) then Refused 2
    else Done

-- It depends on the files alone.
asked_is : (job : machine.SpecJob) (owner : ℕ) (name : FileName) (o : Option (Directory SpecVersion))
    → asked job owner name o ≡ read_answer job.ppn owner name
    (option_map (map_directory (λ (v : SpecVersion). v.file)) o)
asked_is job owner name None = refl
asked_is job owner name (Some d) = by (get d.files name)
    ∙ ap answer_for (sym (get-map_values name_total (λ (v : SpecVersion). v.file) d.files name))
  where
    answer_for : Option File → Reply
    answer_for was =
        if not (may_look (directory_digit d.protection job.ppn owner)) then Refused 2
        else if (name.name == 0) || is_none was then Refused 0
        else if not (may_read (digit_for job.ppn owner was)) then Refused 2
        else Done

    answer_by : Option SpecVersion → Reply
    answer_by was =
        if not (may_look (directory_digit d.protection job.ppn owner)) then Refused 2
        else if (name.name == 0) || is_none was then Refused 0
        else if not (may_read (digit_for_version job owner was)) then Refused 2
        else Done

    by : (was : Option SpecVersion) → answer_by was ≡ answer_for (option_map (λ (v : SpecVersion). v.file) was)
    by None = refl
    by (Some v) = refl

-- The version of that file.
pub version_in : (o : Option (Directory SpecVersion)) (name : FileName) (file : File)
    → named_in (option_map (map_directory (λ (v : SpecVersion). v.file)) o) name ≡ Some file
    → (x : SpecVersion) × (file_in o name ≡ Some x) × (x.file ≡ file)
version_in None name file is = absurd (some_none (sym is))
version_in (Some d) name file is = by (get d.files name) refl
    (sym (get-map_values name_total (λ (v : SpecVersion). v.file) d.files name) ∙ is)
  where
    by : (was : Option SpecVersion) → get d.files name ≡ was → option_map (λ (v : SpecVersion). v.file) was ≡ Some file
        → (x : SpecVersion) × (get d.files name ≡ Some x) × (x.file ≡ file)
    by None at shown = absurd (some_none (sym shown))
    by (Some v) at shown = (v, at, some_same shown)

-- Half a word counts the blocks of a file that a prime block can have.
few_blocks : (n : ℕ) → n ≤ 16384 * 128 → blocks_of n < 2 ^ 18
few_blocks n few = omega arith

-- A file of a disk has short facts.
short_facts : (d : DiskState) (k : CurrentMap) (files : Files File) → Holds d k files
    → (ppn : ℕ) (name : FileName) (file : File) → named_in (get files ppn) name ≡ Some file → HasShortFacts file
short_facts d k files holds ppn name file is =
    by (get holds.map.directories ppn) refl
    (ap (λ o. named_in o name) (sym (get-map_values nat_cmp_total directory_of holds.map.directories ppn)
    ∙ ap (λ f. get f ppn) holds.files_are) ∙ is)
  where
    in_stored : (stored : StoredDirectory) → get holds.map.directories ppn ≡ Some stored → (was : Option StoredFile)
        → get stored.files name ≡ was → option_map (λ (f : StoredFile). f.file) was ≡ Some file → HasShortFacts file
    in_stored stored at None named shown = absurd (some_none (sym shown))
    in_stored stored at (Some f) named shown =
        let fits = ((holds.held.stands.mapped.directories ppn stored at).files name f named).retrieved.fits in
        subst HasShortFacts (some_same shown)
        (record { protection = fits.protection; blocks = few_blocks (length f.file.body) fits.few })

    by : (was : Option StoredDirectory) → get holds.map.directories ppn ≡ was
        → named_in (option_map directory_of was) name ≡ Some file → HasShortFacts file
    by None at named = absurd (some_none (sym named))
    by (Some stored) at named = in_stored stored at (get stored.files name) refl
        (sym (get-map_values name_total (λ (f : StoredFile). f.file) stored.files name) ∙ named)

-- The version that is pinned is that of the file; and it can be pinned.
pub held_version : (contents : Contents) (live : List (Option LiveVersion)) (name : FileName) (pin : Pin)
    (o : Option (Directory File)) (file : File) → IsPinAnswer contents live name (Ok pin) o
    → named_in o name ≡ Some file
    → (v : LiveVersion) × (slot live pin.key ≡ Some v) × IsVersionOf contents (as_known v) file
held_version contents live name pin None file answer is = absurd (some_none (sym is))
held_version contents live name pin (Some d) file answer is =
    let there = subst (IsFilePinned contents live (Ok pin)) is answer in
    let same : there.0 ≡ pin = cc there.1 in (there.2, ap (λ (p : Pin). slot live p.key) (sym same) ∙ there.3, there.4)

not_refused : (contents : Contents) (live : List (Option LiveVersion)) (name : FileName) (error : CallError)
    (o : Option (Directory File)) (file : File) → IsPinAnswer contents live name (Err error) o
    → named_in o name ≡ Some file → ⊥
not_refused contents live name error None file answer is = some_none (sym is)
not_refused contents live name error (Some d) file answer is = let there = subst
    (IsFilePinned contents live (Err error)) is answer in cc there.1

module _ (d : DiskState) (map : MemoryMap) (s : State) (known : IsKnown d map s) (sound : IsSoundMemory d map false)
    (honest : d.honest) (w : UnderKeys) (job : Job) (c : machine.Channel) (e : ℕ) (free : c.output
    ≡ None) (inside : lies_outside job.core e 4 ≡ false) where
  answer_is : (place : Place) → lookup_answer s (job_of w job) c e place
      ≡ read_answer job.ppn place.ppn place.name (get (without_serials s.files) place.ppn)
  answer_is place =
      (λ i. if inside i then AddressCheck else if is_some (free i) then Refused 5
      else asked (job_of w job) place.ppn place.name (get s.files place.ppn))
      ∙ asked_is (job_of w job) place.ppn place.name (get s.files place.ppn)
      ∙ ap (read_answer job.ppn place.ppn place.name) (sym (shown_at s.files place.ppn))

  -- no directory has such a number
  pub nowhere : (place : Place) → (IsPpn place.ppn → ⊥) → lookup_answer s (job_of w job) c e place ≡ Refused 1
  nowhere place none = λ i. if inside i then AddressCheck else if is_some (free i) then Refused 5
      else asked (job_of w job) place.ppn place.name (no_directory d map s known sound honest place none i)

  pub refused : (place : Place) (code : ErrorCode)
      → IsReadAnswer job.ppn place.ppn place.name (get (without_serials s.files) place.ppn) (Err code)
      → lookup_answer s (job_of w job) c e place ≡ Refused (number_of code)
  refused place code is = answer_is place ∙ is

  module _ (place : Place) (facts : FileFacts)
      (may : IsReadAnswer job.ppn place.ppn place.name (get (without_serials s.files) place.ppn) (Ok facts)) where
    pub done : lookup_answer s (job_of w job) c e place ≡ Done
    done = answer_is place ∙ may.0

    pub held : (live : List (Option LiveVersion)) (pin : Pin)
        → IsPinAnswer d.contents live place.name (Ok pin) (get (without_serials s.files) place.ppn)
        → (x : SpecVersion) × (file_at s.files place ≡ Some x) × IsShown x.file facts × HasShortFacts x.file
        × (v : LiveVersion) × (slot live pin.key ≡ Some v) × IsVersionOf d.contents (as_known v) x.file
    held live pin answer =
        let file = may.1.0 in
        let x = version_in (get s.files place.ppn) place.name file
        (sym (ap (λ o. named_in o place.name) (shown_at s.files place.ppn)) ∙ may.1.1) in
        let v = held_version d.contents live place.name pin (get (without_serials s.files) place.ppn) file
        answer may.1.1 in
        let short = short_facts d map.known (without_serials s.files) (rest_holds d map false sound honest refl
        (without_serials s.files) known.files) place.ppn place.name file may.1.1 in (
          x.0,
          x.1,
          subst (λ (f : File). IsShown f facts) (sym x.2) may.1.2,
          subst HasShortFacts (sym x.2) short,
          v.0,
          v.1,
          subst (IsVersionOf d.contents (as_known v.0)) (sym x.2) v.2,
        )

    pub not_held : (live : List (Option LiveVersion)) (error : CallError)
        → IsPinAnswer d.contents live place.name (Err error) (get (without_serials s.files) place.ppn) → ⊥
    not_held live error answer = not_refused d.contents live place.name error
        (get (without_serials s.files) place.ppn) may.1.0 answer may.1.1
