-- ENTER on a channel that reads is served as the machine serves it.
use Rattle.std.proofs.Common.{◌≡◌, ◌<◌, ℕ, zero, suc, ◌+◌, Bool, true, false, List, [], ◌∷◌, length, Option, None}
use Rattle.std.proofs.Common.{Some, refl, sym, ap, subst, ◌∙◌, inl, inr, ⊎_elim, arith, slice_set}
use Rattle.std.specs.Prelude.{if◌then◌else◌, IfSome, option_map, option_to_list}
use Rattle.words36.specs.declared.names.FileName.{FileName}
use Rattle.words36.specs.declared.moment.Moment.{Moment}
use Rattle.blockdisk.specs.Common.{DiskState}
use Rattle.spec_image.specs.Common.{blocks_of, File, Files, Place, get, times, SpecVersion, without_serials, file_at}
use Rattle.spec_image.specs.Common.{with_protection, HasBody, place_of, pack_of}
use Rattle.spec_machine.specs.Common.{enter, enter_answer, enter_done, entered, output_opened, input_updating}
use Rattle.spec_machine.specs.Common.{output_updating, State, slot, channel_at, with_channel, is_create, place_at}
use Rattle.spec_machine.specs.Common.{digit_at, digit_for_version, with_attributes, settled, refused_at, file_digit}
use Rattle.spec_machine.specs.Common.{may_update, Service, Serving, Answers, step, on_channel, of_job}
use Rattle.spec_machine.specs.declared.call.Call.TheVariants.{Enter}
use Rattle.spec_machine.specs.declared.call.Event.TheVariants.{Call as Calls}
use Rattle.spec_machine.specs.declared.call.Reply.TheVariants.{Done}
use Rattle.spec_image.proofs.Common.{some_same, times_head, times_other}
use Rattle.spec_machine.proofs.Common.{none_some}
use Rattle.retrieval.specs.declared.prime.Prime.{Prime}
use Rattle.volume.specs.Common.{begun, is_update, Before, MemoryMap, pending_at, is_creation, IsWholeMemory}
use Rattle.volume.specs.Common.{IsWholePending, AreWaiting, is_create as creates_name, prime_at, IsSoundMemory, RestsAt}
use Rattle.volume.specs.declared.pending.PendingKind.{PendingKind}
use Rattle.volume.specs.declared.pending.PendingVersion.{PendingVersion}
use Rattle.monitor.specs.Common.{IsEnterAnswer, IsKnown, file_begun, named_in, AreRead, ArePinned, KeepsSides}
use Rattle.monitor.specs.Common.{KeepsReading, present, IsSide, AreKeyed, IsWriting, AreReading, IsState, Serves}
use Rattle.monitor.specs.Common.{IsTimely, Writing, UnderKeys, side_of, kind_of, input_of, output_of, channel_of}
use Rattle.monitor.specs.Common.{job_of, state_of, pins_of, readers, update_kind, updating_kind, first_block}
use Rattle.monitor.specs.Common.{updating_side, updating, IsUpdating, IsUpdateOf}
use Rattle.monitor.specs.declared.channel.OpenChannel.{OpenChannel}
use Rattle.monitor.specs.declared.input.Input.{Input}
use Rattle.monitor.specs.declared.output.Output.{Output}
use Rattle.monitor.specs.declared.job.Job.{Job}
use Rattle.monitor.proofs.common.EventAnswers.{state_is, job_set, called, goes_on}
use Rattle.monitor.proofs.common.CallRows.{channel_is, channel_set}
use Rattle.monitor.proofs.common.Dropped.{same_or_not, keeps_keyed}
use Rattle.monitor.proofs.EnterFile.Serves.{with_writing, with_same, with_other, jobs_same}
use Rattle.monitor.proofs.common.Growths.{shown_at}
use Rattle.monitor.proofs.common.KnownState.{known}
use Rattle.monitor.proofs.LookupFile.LookupAnswers.{version_in}
use Rattle.monitor.proofs.LookupFile.Calls.{with_version}
use Rattle.monitor.proofs.common.ReadStays.{reads_kept}
use Rattle.monitor.proofs.common.JobReaders.{keeps_reading}
use Rattle.monitor.proofs.common.ReadsPinned.{with_read_same}
use Rattle.monitor.proofs.common.Renewals.{renewed_pending, renewed_reading, renewed_reads, renewed_jobs}
use Rattle.monitor.proofs.common.Dates.{attributes_in, version_dated}
use Rattle.monitor.proofs.common.SideLists.{count, count-channel, each-channel}
use Rattle.spec_machine.specs.Jobs as machine
use Rattle.volume.specs.declared.pending.PendingKind.TheVariants as kinds

-- a version that begins with a file is no new name
no_creation : (kind : PendingKind) → is_update kind ≡ true → creates_name kind ≡ false
no_creation kinds.Create updates = cc updates
no_creation kinds.Supersede updates = cc updates
no_creation kinds.Update updates = refl
no_creation kinds.Append updates = refl

-- nor is its side
no_creator : (kind : PendingKind) (blocks : ℕ) → is_create (kind_of (updating_kind kind blocks)) ≡ false
no_creator kinds.Create blocks = refl
no_creator kinds.Supersede blocks = refl
no_creator kinds.Update blocks = refl
no_creator kinds.Append blocks = refl

first_is : (kind : PendingKind) (blocks : ℕ) → 0 < first_block kind blocks
first_is kinds.Create blocks = omega arith
first_is kinds.Supersede blocks = omega arith
first_is kinds.Update blocks = omega arith
first_is kinds.Append blocks = omega arith

-- The output side that is opened is the machine's, by the job's digit.

abbrev as_machine : Place → SpecVersion → Bool → machine.SpecOutput
as_machine place v b = if b then record { place = place; kind = machine.Update; pending = v.file; next = 1 }
    else record {
      place = place;
      kind = machine.Append (blocks_of (length v.file.body));
      pending = v.file;
      next = blocks_of (length v.file.body) + 1;
    }

abbrev as_monitor : Place → SpecVersion → PendingKind → ℕ → machine.SpecOutput
as_monitor place v kind blocks = record {
  place = place;
  kind = kind_of (updating_kind kind blocks);
  pending = v.file;
  next = first_block kind blocks;
}

side_updating : (digit : ℕ) (place : Place) (v : SpecVersion) (kind : PendingKind) (blocks : ℕ)
    → kind ≡ update_kind digit
    → (kind ≡ kinds.Append → blocks ≡ blocks_of (length v.file.body))
    → output_updating digit place v ≡ as_monitor place v kind blocks
side_updating digit place v kind blocks is kept = by (may_update digit) refl
  where
    by : (b : Bool) → may_update digit ≡ b → as_machine place v (may_update digit) ≡ as_monitor place v kind blocks
    by true e = ap (as_machine place v) e
        ∙ ap (λ k. as_monitor place v k blocks) (sym (is ∙ ap (λ c. if c then kinds.Update else kinds.Append) e))
    by false e =
        let k : kind ≡ kinds.Append = is ∙ ap (λ c. if c then kinds.Update else kinds.Append) e in
        ap (as_machine place v) e ∙ ap (as_monitor place v kinds.Append) (sym (kept k))
        ∙ ap (λ l. as_monitor place v l blocks) (sym k)

-- an append keeps all blocks that it begins with
all_kept : (kind : PendingKind) (prime : Prime) (old : Before) (p : PendingVersion) → p ≡ begun kind prime old
    → kind ≡ kinds.Append → p.kept_blocks ≡ length p.version.blocks
all_kept kind prime old p is append =
    ap (λ (q : PendingVersion). q.kept_blocks) same ∙ sym (ap (λ (q : PendingVersion). length q.version.blocks) same)
  where
    same : p ≡ begun kinds.Append prime old
    same = is ∙ ap (λ k. begun k prime old) append

-- each version that is being written is whole
waiting_at : (size : ℕ) (pending : List (Option PendingVersion)) (key : ℕ) (p : PendingVersion)
    → AreWaiting size pending → pending_at pending key ≡ Some p → IsWholePending size p
waiting_at size [] key p all is = cc is
waiting_at size (o ∷ os) zero p all is = subst (λ (x : Option PendingVersion). IfSome x (IsWholePending size)) is all.0
waiting_at size (o ∷ os) (suc key) p all is = waiting_at size os key p all.1 is

module _ (d : DiskState) (map map' : MemoryMap) (jobs jobs' : List (Option Job)) (n : ℕ) (job job' : Job)
    (ch e : ℕ) (moment : Moment) (c : OpenChannel) (input : Input) (key : ℕ)
    (there : slot jobs n ≡ Some job) (set : jobs' ≡ slice_set jobs n (Some job'))
    (is : IsUpdating map map' job job' ch e c input key) (keyed : AreKeyed map.pending jobs)
    (reading : AreReading map.live jobs) where
  -- the new side, and the channel with it
  abbrev out : Output
  out = updating_side key is.kind is.version.kept_blocks

  abbrev now : OpenChannel
  now = updating c is.renewed out

  pending_is : map'.pending ≡ is.between.pending
  pending_is = renewed_pending is.between map' input is.renewed input.ppn input.file is.version.prime.protection
      is.renews

  -- the version that is begun, and the others
  here : pending_at map'.pending key ≡ Some is.version
  here = ap (λ ps. pending_at ps key) pending_is ∙ is.version_is

  version_begun : is.version ≡ begun is.kind is.prime is.begun.old
  version_begun = some_same (sym is.version_is ∙ is.begun.here)

  others : (k : ℕ) → (k ≡ key → ⊥) → pending_at map'.pending k ≡ pending_at map.pending k
  others k apart = ap (λ ps. pending_at ps k) pending_is ∙ is.begun.others k apart

  keeps : KeepsSides map.pending map'.pending job job'
  keeps = subst (KeepsSides map.pending map'.pending job) (sym is.job_is) (record {
    once = λ k.
        let moved = count-channel k job.channels ch (Some now) (λ none. absurd (none_some (sym none ∙ is.there))) in
        let was = ap (λ o. count k (option_to_list (side_of o))) is.there
        ∙ ap (λ o. count k (option_to_list o)) is.free in
        let grown = more k in
        omega arith;
    known = λ k p at. same_or_not k key (λ same. inl (ap (pending_at map.pending) same ∙ is.begun.vacant))
        (λ apart. inr (p, sym (others k apart) ∙ at, refl));
    each = λ all. each-channel (IsSide map'.pending) job.channels ch (Some now) all (
      record {
        starts = first_is is.kind is.version.kept_blocks;
        kind = λ p at. ap is_creation (some_same (sym at ∙ here) ∙ version_begun) ∙ no_creation is.kind is.updates
            ∙ sym (no_creator is.kind is.version.kept_blocks);
      },
      tt,
    );
  })
    where
      more : (k : ℕ) → present (pending_at map'.pending k) ≡ present (pending_at map.pending k) + times k (key ∷ [])
      more k = same_or_not k key
          (λ same. subst (λ (i : ℕ). present (pending_at map'.pending i)
          ≡ present (pending_at map.pending i) + times i (key ∷ [])) (sym same)
          (let now_there = ap present here in let none = ap present is.begun.vacant in
          let one = times_head key [] in omega arith))
          (λ apart. let same = ap present (others k apart) in let none = times_other k key [] apart in
          omega arith)

  pub update_keyed : AreKeyed map'.pending jobs'
  update_keyed = subst (AreKeyed map'.pending) (sym set)
      (keeps_keyed map.pending map'.pending jobs n job job' keyed there keeps)

  pub update_reading : AreReading map'.live jobs'
  update_reading = subst (AreReading map'.live) (sym set) (keeps_reading map.live map'.live jobs n job job' reading
      there
      (subst (KeepsReading map.live map'.live job) (sym is.job_is)
      (subst (λ vs. KeepsReading vs map'.live job (record job {
        core = with_attributes 2 job.core e (file_begun is.version.prime);
        channels = slice_set job.channels ch (Some now);
      })) is.begun.live
      (renewed_reading is.between map' input is.renewed input.ppn input.file is.version.prime.protection is.renews job
      ch now c
      (with_attributes 2 job.core e (file_begun is.version.prime)) is.there is.side refl))))

  module _ (sound : IsSoundMemory d map false) (honest : d.honest) (timely : IsTimely d moment)
      (whole : IsWholeMemory d.size is.between)
      (row : (s : State) → IsKnown d map s → (w : UnderKeys)
      → IsEnterAnswer (pack_of d) s (job_of w job) (job_of w job') (channel_at (job_of w job) ch) e Done)
      (updates : (files : Files File) → RestsAt d files
      → IsUpdateOf d.contents job input is.kind is.version is.renews.between is.renewed files) where
    module _ (s : State) (state : IsState d map jobs s) where
      of_file : IsUpdateOf d.contents job input is.kind is.version is.renews.between is.renewed
          (without_serials s.files)
      of_file = updates (without_serials s.files) state.files

      abbrev place : Place
      place = place_of input.ppn input.file

      -- the version that is current
      found : (x : SpecVersion) × (file_at s.files place ≡ Some x) × (x.file ≡ of_file.file)
      found = version_in (get s.files input.ppn) input.file of_file.file
          (sym (ap (λ o. named_in o input.file) (shown_at s.files input.ppn)) ∙ of_file.there)

      abbrev version : SpecVersion
      version = found.0

      abbrev new_writing : Writing
      new_writing = record { place = place; file = version.file }

      abbrev w0 : UnderKeys
      w0 = with_writing state.under key new_writing

      abbrev pin : ℕ
      pin = is.renewed.pin.key

      abbrev w : UnderKeys
      w = with_version w0 pin version

      -- each place has the prime block that it had
      primes : (ppn : ℕ) (name : FileName) → prime_at is.between ppn name ≡ prime_at map ppn name
      primes ppn name = ap (λ k. prime_at (record map { known = k }) ppn name) is.begun.known

      reads_begun : AreRead d is.between s.files state.under.read
      reads_begun = reads_kept d d map is.between state.under.read is.begun.live (λ k v at some m held. refl) s.files
          primes state.read

      -- the same state
      abbrev t : State
      t = state_of s.files w jobs

      t_is : s ≡ t
      t_is = state_is s w jobs (state.jobs_are
          ∙ sym (jobs_same state.under key new_writing jobs (keyed.once key ∙ ap present is.begun.vacant))
          ∙ sym (renewed_jobs is.between map' input is.renewed input.ppn input.file is.version.prime.protection
          is.renews d s.files
          state.under.read reads_begun whole version found.1 w0 jobs refl
          (subst (λ vs. ArePinned vs (pins_of (readers jobs))) (sym is.begun.live) reading.pinned)))

      t_known : IsKnown d map t
      t_known = subst (IsKnown d map) t_is (known d map jobs s state sound honest)

      answer : enter_answer (pack_of d) t (job_of w job) (channel_of w c) e (place_at (job_of w job) e) ≡ Done
      answer = ⊎_elim (λ none. absurd (cc none.0)) (λ a. a.0)
          (subst (λ o. IsEnterAnswer (pack_of d) t (job_of w job) (job_of w job') o e Done)
          (channel_is w job ch (Some c) is.there) (row t t_known w))

      -- where the version is, in either state
      found_at : file_at s.files (place_at (job_of w job) e) ≡ Some version
      found_at = ap (file_at s.files) (sym (is.named w)) ∙ found.1

      -- the job's digit for it
      digit_is : digit_at t (job_of w job) (place_at (job_of w job) e)
          ≡ file_digit of_file.file.protection job.ppn input.ppn
      digit_is =
          ap (λ q. digit_for_version (job_of w job) q.ppn (file_at s.files q)) (sym (is.named w))
          ∙ ap (digit_for_version (job_of w job) input.ppn) found.1
          ∙ ap (λ (f : File). file_digit f.protection job.ppn input.ppn) found.2

      -- how many blocks an append keeps
      kept : is.kind ≡ kinds.Append → is.version.kept_blocks ≡ blocks_of (length version.file.body)
      kept append =
          let waits : IsWholePending d.size is.version = waiting_at d.size is.between.pending key is.version
          whole.waiting is.version_is in
          all_kept is.kind is.prime is.begun.old is.version version_begun append ∙ waits.whole.counted
          ∙ ap blocks_of (of_file.begins.words ∙ ap (λ (f : File). length f.body) (sym found.2))

      opens : output_updating (digit_at t (job_of w job) (place_at (job_of w job) e))
          (place_at (job_of w job) e) version
          ≡ output_of w out
      opens =
          side_updating (digit_at t (job_of w job) (place_at (job_of w job) e)) (place_at (job_of w job) e) version
          is.kind is.version.kept_blocks (of_file.kind_is ∙ ap update_kind (sym digit_is)) kept
          ∙ (let p = sym (is.named w) in let x = sym (with_same state.under key new_writing) in λ i. record {
            place = (p ∙ ap (λ (y : Writing). y.place) x) i;
            kind = kind_of out.kind;
            pending = (ap (λ (y : Writing). y.file) x) i;
            next = out.next;
          })

      -- the input side
      input_is : record (input_of w input) { version = version } ≡ input_of w is.renewed
      input_is =
          let same = is.renews.renewed_is in
          let v = sym (with_read_same state.under.read pin version pin refl) in
          let q : version.file.protection ≡ is.version.prime.protection = ap (λ (f : File). f.protection) found.2
          ∙ sym of_file.begins.protection in
          (λ i. record { place = place; version = with_protection (v i) (q i); next = input.next })
          ∙ ap (λ (j : Input). record {
            place = place_of j.ppn j.file;
            version = with_protection (w.read pin) j.protection;
            next = j.next;
          }) (sym same)

      -- what is put into the words
      attributes_are : with_attributes (pack_of d).layout job.core e version.file
          ≡ with_attributes 2 job.core e (file_begun is.version.prime)
      attributes_are = sym (attributes_in (pack_of d).layout job.core e version.file
          (version_dated d s.files state.files place version found.1))
          ∙ ap (with_attributes 2 job.core e) found.2
          ∙ (let p = sym of_file.begins.protection in let m = sym of_file.begins.mode in
          let a = sym of_file.begins.time in let b = sym of_file.begins.date in
          λ i. with_attributes 2 job.core e (record of_file.file {
            protection = p i;
            mode = m i;
            time = a i;
            date = b i;
          }))

      -- the row
      row_is : (serial : ℕ) → step (pack_of d) serial t (Calls n (Enter ch e) moment)
          ≡ (Done, state_of s.files w jobs')
      row_is serial =
          called (pack_of d) jobs n (Enter ch e) moment serial s.files w (timely honest) job there
          ∙ ap (λ o. on_channel t o (λ y. of_job t n (enter (pack_of d) t (job_of w job) ch y e moment)))
          (channel_is w job ch (Some c) is.there)
          ∙ ap (of_job t n)
          (ap (λ r. settled r (enter_done (pack_of d) t (job_of w job) ch (channel_of w c) e moment
          (place_at (job_of w job) e)) (refused_at (job_of w job) e)) answer
          ∙ ap (λ o. (
            Done,
            entered (pack_of d) (job_of w job) ch (channel_of w c) e
                (input_updating o (file_at s.files (place_at (job_of w job) e)))
                (output_opened (job_of w job) (channel_of w c) e moment (place_at (job_of w job) e)
                (digit_at t (job_of w job) (place_at (job_of w job) e)) o
                (file_at s.files (place_at (job_of w job) e))),
          )) (ap (option_map (input_of w)) is.side)
          ∙ ap (λ o. (
            Done,
            entered (pack_of d) (job_of w job) ch (channel_of w c) e (input_updating (Some (input_of w input)) o)
                (output_opened (job_of w job) (channel_of w c) e moment (place_at (job_of w job) e)
                (digit_at t (job_of w job) (place_at (job_of w job) e)) (Some (input_of w input)) o),
          )) found_at
          ∙ ap (λ i. (
            Done,
            entered (pack_of d) (job_of w job) ch (channel_of w c) e (Some i)
                (output_updating (digit_at t (job_of w job) (place_at (job_of w job) e)) (place_at (job_of w job) e)
                version),
          )) input_is
          ∙ ap (λ o. (
            Done,
            entered (pack_of d) (job_of w job) ch (channel_of w c) e (Some (input_of w is.renewed)) o,
          )) opens
          ∙ ap (λ core. (
            Done,
            with_channel (record (job_of w job) { core = core }) ch (Some (channel_of w now)),
          )) (ap (λ (x : Writing). with_attributes (pack_of d).layout job.core e x.file)
          (with_same state.under key new_writing)
          ∙ attributes_are)
          ∙ ap (λ j. (Done, j))
          (channel_set w (record job { core = with_attributes 2 job.core e (file_begun is.version.prime) })
          ch (Some now) ∙ ap (job_of w) (sym is.job_is)))
          ∙ ap (λ y. (Done, y)) (job_set s.files w jobs n job' ∙ ap (state_of s.files w) (sym set))

      -- what is written under the new key
      new_version : (k : ℕ) (p : PendingVersion) → pending_at map'.pending k ≡ Some p → k ≡ key
          → IsWriting d p (w.written k)
      new_version k p at same =
          let p_is : is.version ≡ p = some_same (sym here ∙ ap (pending_at map'.pending) (sym same) ∙ at) in
          let file = found.2 in
          subst (λ q. IsWriting d q (w.written k)) p_is
          (subst (IsWriting d is.version) (sym (ap w.written same ∙ with_same state.under key new_writing)) (record {
            place = let a = sym is.prime_is.0 in let b = sym is.prime_is.1 in
                (λ i. place_of (a i) (b i)) ∙ at_place;
            protection = ap (λ (f : File). f.protection) file ∙ sym of_file.begins.protection;
            mode = ap (λ (f : File). f.mode) file ∙ sym of_file.begins.mode;
            time = ap (λ (f : File). f.time) file ∙ sym of_file.begins.time;
            date = ap (λ (f : File). f.date) file ∙ sym of_file.begins.date;
            words = ap (λ (f : File). length f.body) file ∙ sym of_file.begins.words;
            body = subst (λ (f : File). HasBody d.contents is.version.version.blocks f.body) (sym file)
                of_file.begins.body;
          }))
        where
          -- the version begun is of the place of the prime block
          at_place : place_of is.prime.ppn is.prime.file ≡ place_of is.version.prime.ppn is.version.prime.file
          at_place = ap (λ (q : PendingVersion). place_of q.prime.ppn q.prime.file) (sym version_begun)

      new_absent : (k : ℕ) (p : PendingVersion) → pending_at map'.pending k ≡ Some p → k ≡ key
          → is_creation p ≡ true → file_at s.files (w.written k).place ≡ None
      new_absent k p at same is_new =
          let p_is : p ≡ is.version = some_same (sym at ∙ ap (pending_at map'.pending) same ∙ here) in
          let old : is_creation p ≡ false = ap is_creation (p_is ∙ version_begun) ∙ no_creation is.kind is.updates in
          absurd (let wrong = sym is_new ∙ old in cc wrong)

      pub updating_leads : (failed : Bool) → failed ≡ false → (new : Service) × Serves d map' failed jobs' new
          × Answers (pack_of d) (Serving s) (Calls n (Enter ch e) moment) Done new
      updating_leads failed serves =
          goes_on d map' failed jobs' (pack_of d) (Calls n (Enter ch e) moment) Done s
          (state_of s.files w jobs') serves state.sound
          (λ serial. subst (λ x. step (pack_of d) serial x (Calls n (Enter ch e) moment)
          ≡ (Done, state_of s.files w jobs')) (sym t_is) (row_is serial))
          (λ still. record {
            files = state.files;
            serials = state.serials;
            under = w;
            versions = λ k p at. same_or_not k key (new_version k p at)
                (λ apart. subst (IsWriting d p) (sym (with_other state.under key new_writing k apart))
                (state.versions k p (sym (others k apart) ∙ at)));
            absent = λ k p at is_new. same_or_not k key (λ same. new_absent k p at same is_new)
                (λ apart. ap (λ (x : Writing). file_at s.files x.place) (with_other state.under key new_writing k apart)
                ∙ state.absent k p (sym (others k apart) ∙ at) is_new);
            keyed = update_keyed;
            read = renewed_reads is.between map' input is.renewed input.ppn input.file is.version.prime.protection
                is.renews d s.files
                state.under.read reads_begun whole version found.1 state.serials of_file.pinned;
            reading = update_reading;
            jobs_are = refl;
            sound = still;
          })
