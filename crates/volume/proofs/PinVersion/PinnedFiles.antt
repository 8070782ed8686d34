-- The version of a file under its key: its blocks have the words of the file.
use Rattle.std.proofs.Common.{◌≡◌, ◌⊎◌, inl, inr, ⊎_elim, ℕ, zero, suc, ◌+◌, ◌-◌, ◌<◌, Bool, true, false, List}
use Rattle.std.proofs.Common.{slice_get, Option, Some, None, option_map, Result, Ok, Err, refl, sym, ap, subst, ◌∙◌}
use Rattle.std.proofs.Common.{arith}
use Rattle.std.specs.Cmp.{nat_cmp_total}
use Rattle.words36.specs.declared.names.FileName.{FileName}
use Rattle.blockdisk.specs.Common.{Contents, DiskState}
use Rattle.spec_image.specs.Common.{File, Files, get, HasBody, master_words, StoredFile, StoredDirectory, DiskMap}
use Rattle.spec_image.specs.Common.{directory_of, files_of}
use Rattle.alloctab.specs.Common.{bit}
use Rattle.directory.specs.Common.{IsOn}
use Rattle.std.proofs.lemmas.Bool.{cases_eq}
use Rattle.spec_image.proofs.Common.{some_none, some_same, get-map_values, get-from_entries, name_total}
use Rattle.volume.specs.declared.error.CallError.{CallError}
use Rattle.volume.specs.declared.handles.Pin.{Pin}
use Rattle.volume.specs.declared.live.LiveVersion.{LiveVersion}
use Rattle.volume.specs.Common.{IsDirectoryOf, CurrentMap, CurrentVersion, CurrentDirectory, IsNamed, AgreesOnMap}
use Rattle.volume.specs.Common.{MatchesMap, MemoryMap, slot, pending_at, as_known, IsWholeMemory, IsKeyOf, IsNoFile}
use Rattle.volume.specs.Common.{IsVersionOf, IsFilePinned, IsPinAnswer, HasSomeBody, IsAtRest, IsSoundMemory}
use Rattle.volume.proofs.common.Answers.{Holds, directory_none}

-- On an honest disk it is the file's.
pub record IsFileOf (s : DiskState) (files : Files File) (ppn : ℕ) (name : FileName) (v : CurrentVersion) : Type 0 where
  pub stored : StoredDirectory
  pub get_is : get files ppn ≡ Some (directory_of stored)
  pub file : File
  pub file_is : get (directory_of stored).files name ≡ Some file
  pub version_is : IsVersionOf s.contents v file

pub named_file : (s : DiskState) (c : MemoryMap) (files : Files File) → Holds s c.known files
    → (ppn : ℕ) (name : FileName) (d : CurrentDirectory) (v : ℕ × CurrentVersion) → IsDirectoryOf c ppn d
    → IsNamed d name (Some v) → IsFileOf s files ppn name v.1
named_file s c files holds ppn name d v there named =
    let found = holds.held.known.each there.0 (ppn, there.1) d there.2.is there.3 in
    let f = found.2.each named.0 (name, v.0) v.1 named.1.is named.2 in
    let whole = holds.held.stands.mapped.directories ppn found.0 found.1 in
    let body : HasBody s.contents f.0.blocks f.0.file.body = (whole.files name f.0 f.1).body in
    record {
      stored = found.0;
      get_is = ap (λ fs. get fs ppn) (sym holds.files_are)
          ∙ get-map_values nat_cmp_total directory_of holds.map.directories ppn ∙ ap (option_map directory_of) found.1;
      file = f.0.file;
      file_is = get-map_values name_total (λ (x : StoredFile). x.file) found.0.files name
          ∙ ap (option_map (λ (x : StoredFile). x.file)) f.1;
      version_is = record {
        protection = sym (ap (λ x. x.protection) f.2);
        mode = sym (ap (λ x. x.mode) f.2);
        time = sym (ap (λ x. x.time) f.2);
        date = sym (ap (λ x. x.date) f.2);
        words = sym (ap (λ x. x.words) f.2);
        body = subst (λ (ns : List ℕ). HasBody s.contents ns f.0.file.body) (ap (λ x. x.blocks) f.2) body;
      };
    }

pub key_file : (s : DiskState) (c : MemoryMap) (files : Files File) → Holds s c.known files
    → (ppn : ℕ) (name : FileName) (key : ℕ) → (is : IsKeyOf c ppn name key)
    → IsFileOf s files ppn name (as_known is.version)
key_file s c files holds ppn name key is = named_file s c files holds ppn name is.directory
    (is.prime, as_known is.version) (is.place, is.word, is.there, is.directory_at) (is.index, is.at, is.known)

pub file_body : (contents : Contents) (v : CurrentVersion) (file : File) → IsVersionOf contents v file
    → HasSomeBody contents v.version
file_body contents v file is = (file.body, sym is.words, is.body)

-- The answer.

pub pin_answered : (s : DiskState) (files : Files File) (ppn : ℕ) (name : FileName) (v : LiveVersion)
    (live : List (Option LiveVersion)) (pin : Pin) (readers : ℕ) → IsFileOf s files ppn name (as_known v)
    → slot live pin.key ≡ Some (record v { readers = readers })
    → IsPinAnswer s.contents live name (Ok pin) (get files ppn)
pin_answered s files ppn name v live pin readers is here =
    subst (IsPinAnswer s.contents live name (Ok pin)) (sym is.get_is)
    (subst (IsFilePinned s.contents live (Ok pin)) (sym is.file_is)
    (pin, refl, record v { readers = readers }, here, is.version_is))

pub pin_refused : (s : DiskState) (c : MemoryMap) (files : Files File) → Holds s c.known files
    → (ppn : ℕ) (name : FileName) (live : List (Option LiveVersion)) (error : CallError) (answer : Result Pin CallError)
    → answer ≡ Err error → IsNoFile c ppn name error
    → IsPinAnswer s.contents live name answer (get files ppn)
pin_refused s c files holds ppn name live error answer is none = ⊎_elim
    (λ absent. subst (IsPinAnswer s.contents live name answer) (sym (directory_none s c.known files holds ppn absent.0))
    (is ∙ ap Err absent.1))
    (λ there.
    let found = holds.held.known.each there.0 (ppn, there.1) there.3 there.2.is there.4 in
    let get_is : get files ppn ≡ Some (directory_of found.0) = ap (λ fs. get fs ppn) (sym holds.files_are)
    ∙ get-map_values nat_cmp_total directory_of holds.map.directories ppn ∙ ap (option_map directory_of) found.1 in
    let no_prime : option_map (λ (f : StoredFile). f.prime) (get found.0.files name) ≡ None =
    sym (get-map_values name_total (λ (f : StoredFile). f.prime) found.0.files name)
    ∙ ap (λ m. get m name) found.2.names ∙ get-from_entries name_total there.3.chain.entries name ∙ there.5 in
    let no_file : get (directory_of found.0).files name
    ≡ None = get-map_values name_total (λ (f : StoredFile). f.file) found.0.files name
    ∙ by (get found.0.files name) no_prime in
    subst (IsPinAnswer s.contents live name answer) (sym get_is)
    (subst (IsFilePinned s.contents live answer) (sym no_file) (is ∙ ap Err there.6)))
    none
  where
    by : (was : Option StoredFile) → option_map (λ (f : StoredFile). f.prime) was ≡ None
        → option_map (λ (f : StoredFile). f.file) was ≡ None
    by None e = refl
    by (Some f) e = cc

-- The pinned versions have their words, with another number of readers under one key.

pub at_rest_holds : (s : DiskState) (c : MemoryMap) (failed : Bool) → IsSoundMemory s c failed → (h : s.honest)
    → (ok : failed ≡ false) → (files : Files File) × Holds s c.known files
at_rest_holds s c failed sound h ok =
    let own = sound.rest h ok in
    (files_of own.map, record { map = own.map; held = own.rest.all s.contents (λ n closed. refl); files_are = refl })

pub pinned_sound : (s : DiskState) (c c' : MemoryMap) (failed : Bool) (ppn : ℕ) (name : FileName) (key : ℕ)
    → IsSoundMemory s c failed → (is : IsKeyOf c ppn name key) → IsWholeMemory s.size c'
    → c' ≡ record c { live = c'.live }
    → slot c'.live key ≡ Some (record is.version { readers = is.version.readers + 1 })
    → ((k : ℕ) → (k ≡ key → ⊥) → slot c'.live k ≡ slot c.live k) → IsSoundMemory s c' failed
pinned_sound s c c' failed ppn name key sound is whole same here others = record {
  whole = whole;
  rest = λ h ok. subst (IsAtRest s) (ap (λ x. x.known) (sym same)) (sound.rest h ok);
  read = λ h ok k v at some. ⊎_elim
      (λ (this : k ≡ key).
      let holds = at_rest_holds s c failed sound h ok in
      let v_is : record is.version { readers = is.version.readers + 1 }
      ≡ v = some_same (sym here ∙ ap (slot c'.live) (sym this) ∙ at) in
      let file = key_file s c holds.0 holds.1 ppn name key is in
      subst (λ (w : LiveVersion). HasSomeBody s.contents w.version) v_is
      (file_body s.contents (as_known is.version) file.file file.version_is))
      (λ other. sound.read h ok k v (sym (others k other) ∙ at) some) (cases_eq k key);
  written = λ h ok k p at. sound.written h ok k p (ap (λ x. pending_at x.pending k) (sym same) ∙ at);
  dated = λ h ok k p at. sound.dated h ok k p (ap (λ x. pending_at x.pending k) (sym same) ∙ at);
}

one_or_more : (n : ℕ) → 0 < n → (n ≡ 1 → ⊥) → 1 < n
one_or_more zero some other = absurd (omega arith)
one_or_more (suc zero) some other = absurd (other refl)
one_or_more (suc (suc n)) some other = omega arith

pub unpinned_sound : (s : DiskState) (c c' : MemoryMap) (failed : Bool) (key : ℕ) (v : LiveVersion)
    → IsSoundMemory s c failed → slot c.live key ≡ Some v → IsWholeMemory s.size c' → c'.pending ≡ c.pending
    → c'.known ≡ record c.known { table = c'.known.table }
    → ((n : ℕ) → bit c'.known.table n ≡ bit c.known.table n)
    → ((v.is_current ≡ true) ⊎ (1 < v.readers) → slot c'.live key ≡ Some (record v { readers = v.readers - 1 }))
    → (v.is_current ≡ false → v.readers ≡ 1 → slot c'.live key ≡ None)
    → 0 < v.readers → ((k : ℕ) → (k ≡ key → ⊥) → slot c'.live k ≡ slot c.live k) → IsSoundMemory s c' failed
unpinned_sound s c c' failed key v sound was whole pending known bits stays gone some others = record {
  whole = whole;
  rest = λ h ok.
      let own = sound.rest h ok in
      record {
        map = own.map;
        rest = record {
          shut = own.rest.shut;
          all = λ contents left. pinned_by own.map contents (own.rest.all contents left);
        };
      };
  read = λ h ok k w at more. ⊎_elim
      (λ (this : k ≡ key).
      let now = ap (slot c'.live) (sym this) ∙ at in
      by_case w now (sound.read h ok key v was some) v.is_current refl)
      (λ other. sound.read h ok k w (sym (others k other) ∙ at) more) (cases_eq k key);
  written = λ h ok k p at. sound.written h ok k p (ap (λ x. pending_at x k) (sym pending) ∙ at);
  dated = λ h ok k p at. sound.dated h ok k p (ap (λ x. pending_at x k) (sym pending) ∙ at);
}
  where
    pinned_by : (m : DiskMap) (contents : Contents) → MatchesMap s.size c.known m contents
        → MatchesMap s.size c'.known m contents
    pinned_by m contents held = record {
      known = subst (λ (k : CurrentMap). AgreesOnMap k m) (sym known)
          (record {
            chain = held.known.chain;
            names = held.known.names;
            each = held.known.each;
          });
      stands = held.stands;
      master = subst (IsOn master_words contents) (ap (λ x. x.master) (sym known)) held.master;
      chains = λ i d is. held.chains i d (ap (λ x. slice_get x.directories i) (sym known) ∙ is);
      bits = λ n. held.bits n ∙ sym (bits n);
    }

    kept : slot c'.live key ≡ Some (record v { readers = v.readers - 1 }) → (contents : Contents) (w : LiveVersion)
        → slot c'.live key ≡ Some w → HasSomeBody contents v.version → HasSomeBody contents w.version
    kept here contents w at has = let same : record v { readers = v.readers - 1 } ≡ w = some_same (sym here ∙ at) in
        subst (λ (u : LiveVersion). HasSomeBody contents u.version) same has

    by_case : (w : LiveVersion) → slot c'.live key ≡ Some w → HasSomeBody s.contents v.version → (b : Bool)
        → v.is_current ≡ b → HasSomeBody s.contents w.version
    by_case w at has true current = kept (stays (inl current)) s.contents w at has
    by_case w at has false ended = ⊎_elim
        (λ (last : v.readers ≡ 1). absurd (some_none (sym at ∙ gone ended last)))
        (λ more. kept (stays (inr (one_or_more v.readers some more))) s.contents w at has) (cases_eq v.readers 1)
