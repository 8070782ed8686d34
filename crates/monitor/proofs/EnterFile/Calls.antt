-- ENTER is served as the machine serves it.
use Rattle.std.proofs.Common.{◌≡◌, ◌<◌, ℕ, ◌+◌, ◌%◌, Bool, true, false, List, [], ◌∷◌, Option, None, Some, refl, sym}
use Rattle.std.proofs.Common.{ap, subst, ◌∙◌, inl, inr, ⊎_elim, arith, slice_index, slice_set}
use Rattle.std.specs.Prelude.{is_none, option_map, option_to_list}
use Rattle.words36.specs.declared.names.FileName.{FileName}
use Rattle.words36.specs.declared.moment.Moment.{Moment}
use Rattle.blockdisk.specs.Common.{DiskState}
use Rattle.spec_machine.specs.Common.{protection_or, new_file, enter, enter_answer, enter_done, entered}
use Rattle.spec_machine.specs.Common.{output_opened, input_updating, State, slot, channel_at, with_channel, is_create}
use Rattle.spec_machine.specs.Common.{place_at, digit_at, with_attributes, settled, refused_at, Service, Serving}
use Rattle.spec_machine.specs.Common.{Answers, step, on_channel, of_job}
use Rattle.spec_image.specs.Common.{File, Files, Place, map_directory, get, times, SpecVersion, without_serials}
use Rattle.spec_image.specs.Common.{file_in}
use Rattle.spec_image.specs.Common.{file_at, place_of, date_limit, pack_of}
use Rattle.spec_machine.specs.declared.call.Call.TheVariants.{Enter}
use Rattle.spec_machine.specs.declared.call.Event.TheVariants.{Call as Calls}
use Rattle.spec_machine.specs.declared.call.Reply.TheVariants.{Done}
use Rattle.spec_image.proofs.Common.{some_same, times_head, times_other, get-map_values, name_total}
use Rattle.spec_machine.proofs.Common.{none_some}
use Rattle.retrieval.specs.Common.{mode_number}
use Rattle.retrieval.specs.declared.prime.Prime.{Prime}
use Rattle.volume.specs.Common.{begun, no_words, is_absent, MemoryMap, pending_at, is_creation, prime_at}
use Rattle.volume.specs.Common.{IsSoundMemory, RestsAt}
use Rattle.volume.specs.declared.pending.PendingVersion.{PendingVersion}
use Rattle.volume.proofs.common.Answers.{rest_holds}
use Rattle.volume.proofs.BeginVersion.Beginnings.{named_none, begun_bare}
use Rattle.monitor.specs.Common.{IsEntering, IsEnterAnswer, IsKnown, found_file, found_in, protection_for, file_begun}
use Rattle.monitor.specs.Common.{KeepsSides, present, IsSide, AreKeyed, IsWriting, AreReading, IsState, Serves}
use Rattle.monitor.specs.Common.{IsTimely, Writing, UnderKeys, side_of, kind_of, input_of, output_of, channel_of}
use Rattle.monitor.specs.Common.{job_of, state_of}
use Rattle.monitor.specs.declared.channel.OpenChannel.{OpenChannel}
use Rattle.monitor.specs.declared.output.OutputKind.{OutputKind}
use Rattle.monitor.specs.declared.output.Output.{Output}
use Rattle.monitor.specs.declared.job.Job.{Job}
use Rattle.monitor.proofs.common.EventAnswers.{state_is, job_set, called, goes_on}
use Rattle.monitor.proofs.EnterFile.Begins.{IsKnownAs, home_of}
use Rattle.monitor.proofs.common.CallRows.{channel_is, channel_set}
use Rattle.monitor.proofs.common.Dropped.{same_or_not, keeps_keyed}
use Rattle.monitor.proofs.EnterFile.Readers.{reading_entered}
use Rattle.monitor.proofs.EnterFile.Serves.{with_writing, with_same, with_other, jobs_same}
use Rattle.monitor.proofs.EnterFile.Outcomes.{at_place}
use Rattle.monitor.proofs.common.Growths.{shown_at}
use Rattle.monitor.proofs.common.KnownState.{known}
use Rattle.monitor.proofs.common.ReadStays.{reads_kept}
use Rattle.monitor.proofs.common.JobReaders.{keeps_reading}
use Rattle.monitor.proofs.common.SideLists.{count, count-channel, each-channel}
use Rattle.monitor.proofs.common.Dates.{attributes_in, in_time}
use Rattle.monitor.specs.EnterFile as entering

-- The output side that is opened.

-- one of a new name is a creation
creates_new : (is_new : Bool) → is_new ≡ is_create (kind_of (entering.entered_kind is_new))
creates_new true = refl
creates_new false = refl

module _ (w : UnderKeys) (job : Job) (c : OpenChannel) (e : ℕ) (moment : Moment) (q : Place) (digit : ℕ)
    (kind : OutputKind)
    (prime : Prime) (directory : ℕ) (mode : mode_number prime.mode ≡ mode_number c.mode)
    (at : prime.moment ≡ moment) where
  file_is : (protection : ℕ) → prime.protection ≡ protection → new_file protection (channel_of w c) moment
      ≡ file_begun prime
  file_is protection is =
      let p = sym is in let m = sym mode in let t = ap (λ (x : Moment). x.minute) (sym at) in
      let d = ap (λ (x : Moment). x.date) (sym at) in
      λ i. record { protection = p i; mode = m i; time = t i; date = d i; body = [] }

  opened_is : (was : Option SpecVersion) → kind ≡ entering.entered_kind (is_none was)
      → ((v : SpecVersion) → was ≡ Some v → v.file.protection < 512)
      → prime.protection ≡ protection_for (found_file directory (option_map (λ (v : SpecVersion). v.file) was))
      (protection_or (slice_index job.core (e + 2)) 0o057)
      → output_opened (job_of w job) (channel_of w c) e moment q digit None was
      ≡ record { place = q; kind = kind_of kind; pending = file_begun prime; next = 1 }
  opened_is None is few protection =
      let k = ap kind_of (sym is) in let f = file_is _ protection in
      λ i. record { place = q; kind = k i; pending = f i; next = 1 }
  opened_is (Some v) is few protection =
      let k = ap kind_of (sym is) in
      let less = few v refl in
      let small : v.file.protection % 512 ≡ v.file.protection = omega arith in
      let f = file_is v.file.protection (protection ∙ small) in
      λ i. record { place = q; kind = k i; pending = f i; next = 1 }

module _ (d : DiskState) (map map' : MemoryMap) (jobs jobs' : List (Option Job)) (n : ℕ) (job job' : Job)
    (ch e : ℕ) (moment : Moment) (c : OpenChannel) (key : ℕ) (prime : Prime)
    (there : slot jobs n ≡ Some job) (set : jobs' ≡ slice_set jobs n (Some job'))
    (enters : IsEntering map map' job job' ch e moment c key prime) (keyed : AreKeyed map.pending jobs)
    (reading : AreReading map.live jobs) where
  -- the new side
  abbrev out : Output
  out = record { pending = record { key = key }; kind = enters.kind; next = 1 }

  keeps : KeepsSides map.pending map'.pending job job'
  keeps = subst (KeepsSides map.pending map'.pending job) (sym enters.job_is) (record {
    once = λ k.
        let moved = count-channel k job.channels ch (Some (entering.side_entered c key enters.kind))
        (λ none. absurd (none_some (sym none ∙ enters.there))) in
        let was = ap (λ o. count k (option_to_list (side_of o))) enters.there
        ∙ ap (λ o. count k (option_to_list o)) enters.free in
        let grown = more k in
        omega arith;
    known = λ k p at. same_or_not k key (λ same. inl (ap (pending_at map.pending) same ∙ enters.begun.vacant))
        (λ apart. inr (p, sym (enters.begun.others k apart) ∙ at, refl));
    each = λ all. each-channel (IsSide map'.pending) job.channels ch
        (Some (entering.side_entered c key enters.kind)) all (
          record {
            starts = omega arith;
            kind = λ p at. ap is_creation (some_same (sym at ∙ enters.begun.here)) ∙ enters.begun.is_new
                ∙ creates_new (is_none enters.begun.old) ∙ ap (λ k. is_create (kind_of k)) (sym enters.kind_is);
          },
          tt,
        );
  })
    where
      more : (k : ℕ) → present (pending_at map'.pending k) ≡ present (pending_at map.pending k) + times k (key ∷ [])
      more k = same_or_not k key
          (λ same. subst (λ (i : ℕ). present (pending_at map'.pending i)
          ≡ present (pending_at map.pending i) + times i (key ∷ [])) (sym same)
          (let here = ap present enters.begun.here in let none = ap present enters.begun.vacant in
          let one = times_head key [] in omega arith))
          (λ apart. let same = ap present (enters.begun.others k apart) in let none = times_other k key [] apart in
          omega arith)

  pub enter_keyed : AreKeyed map'.pending jobs'
  enter_keyed = subst (AreKeyed map'.pending) (sym set)
      (keeps_keyed map.pending map'.pending jobs n job job' keyed there keeps)

  pub enter_reading : AreReading map'.live jobs'
  enter_reading = subst (AreReading map'.live) (sym set) (keeps_reading map.live map'.live jobs n job job' reading there
      (reading_entered map map' job job' ch e moment c key prime enters))

  module _ (sound : IsSoundMemory d map false) (honest : d.honest) (timely : IsTimely d moment)
      (row : (s : State) → IsKnown d map s → (w : UnderKeys)
      → IsEnterAnswer (pack_of d) s (job_of w job) (job_of w job') (channel_at (job_of w job) ch) e Done)
      (protection : (files : Files File) → RestsAt d files
      → prime.protection ≡ protection_for (found_in (get files prime.ppn) prime.file)
      (protection_or (slice_index job.core (e + 2)) 0o057)) where
    abbrev new_writing : Writing
    new_writing = record { place = place_of prime.ppn prime.file; file = file_begun prime }

    module _ (s : State) (state : IsState d map jobs s) where
      abbrev w : UnderKeys
      w = with_writing state.under key new_writing

      -- the same state
      abbrev t : State
      t = state_of s.files w jobs

      t_is : s ≡ t
      t_is =
          state_is s w jobs (state.jobs_are
          ∙ sym (jobs_same state.under key new_writing jobs (keyed.once key ∙ ap present enters.begun.vacant)))

      t_known : IsKnown d map t
      t_known = subst (IsKnown d map) t_is (known d map jobs s state sound honest)

      -- where it is
      directory : IsKnownAs s.files prime.ppn prime.file enters.begun.directory
      directory = home_of d map s.files (rest_holds d map false sound honest refl (without_serials s.files) state.files)
          sound.whole.map prime.ppn prime.file enters.begun.directory enters.begun.there

      named : is_none enters.begun.old ≡ is_absent prime.file enters.begun.directory
      named = named_none enters.begun.directory prime.file enters.begun.old enters.begun.named

      place_is : place_of prime.ppn prime.file ≡ place_at (job_of w job) e
      place_is = at_place w job e prime.ppn prime.file enters.at.ppn enters.at.name enters.at.ext

      found_is : file_at s.files (place_of prime.ppn prime.file) ≡ get directory.directory.files prime.file
      found_is = ap (λ o. file_in o prime.file) directory.there

      answer : enter_answer (pack_of d) t (job_of w job) (channel_of w c) e (place_at (job_of w job) e) ≡ Done
      answer = ⊎_elim (λ none. absurd (cc none.0)) (λ is. is.0)
          (subst (λ o. IsEnterAnswer (pack_of d) t (job_of w job) (job_of w job') o e Done)
          (channel_is w job ch (Some c) enters.there) (row t t_known w))

      opens : output_opened (job_of w job) (channel_of w c) e moment (place_at (job_of w job) e)
          (digit_at t (job_of w job) (place_at (job_of w job) e)) None (file_at s.files (place_at (job_of w job) e))
          ≡ output_of w out
      opens =
          ap (λ p. output_opened (job_of w job) (channel_of w c) e moment p (digit_at t (job_of w job) p) None
          (file_at s.files p)) (sym place_is)
          ∙ ap (output_opened (job_of w job) (channel_of w c) e moment (place_of prime.ppn prime.file)
          (digit_at t (job_of w job) (place_of prime.ppn prime.file)) None) found_is
          ∙ opened_is w job c e moment (place_of prime.ppn prime.file)
          (digit_at t (job_of w job) (place_of prime.ppn prime.file)) enters.kind prime directory.directory.protection
          (ap mode_number enters.at.mode_is) enters.at.moment_is
          (get directory.directory.files prime.file)
          (enters.kind_is ∙ ap entering.entered_kind (named ∙ directory.absent)) directory.few
          (protection (without_serials s.files) state.files
          ∙ ap (λ f. protection_for f (protection_or (slice_index job.core (e + 2)) 0o057))
          (ap (λ o. found_in o prime.file) (shown_at s.files prime.ppn
          ∙ ap (option_map (map_directory (λ (v : SpecVersion). v.file))) directory.there)
          ∙ ap (found_file directory.directory.protection)
          (get-map_values name_total (λ (v : SpecVersion). v.file) directory.directory.files prime.file)))
          ∙ (let x = sym (with_same state.under key new_writing) in
          λ i. record { place = (x i).place; kind = kind_of enters.kind; pending = (x i).file; next = 1 })

      -- its date is one that the layout holds
      dated : prime.moment.date < date_limit (pack_of d).layout
      dated = subst (λ (m : Moment). m.date < date_limit (pack_of d).layout) (sym enters.at.moment_is)
          (in_time (pack_of d).layout moment.date (timely honest))

      -- the row
      row_is : (serial : ℕ) → step (pack_of d) serial t (Calls n (Enter ch e) moment)
          ≡ (Done, state_of s.files w jobs')
      row_is serial =
          called (pack_of d) jobs n (Enter ch e) moment serial s.files w (timely honest) job there
          ∙ ap (λ o. on_channel t o (λ x. of_job t n (enter (pack_of d) t (job_of w job) ch x e moment)))
          (channel_is w job ch (Some c) enters.there)
          ∙ ap (of_job t n)
          (ap (λ r. settled r (enter_done (pack_of d) t (job_of w job) ch (channel_of w c) e moment
          (place_at (job_of w job) e)) (refused_at (job_of w job) e)) answer
          ∙ ap (λ o. (
            Done,
            entered (pack_of d) (job_of w job) ch (channel_of w c) e
                (input_updating o (file_at s.files (place_at (job_of w job) e)))
                (output_opened (job_of w job) (channel_of w c) e moment (place_at (job_of w job) e)
                (digit_at t (job_of w job) (place_at (job_of w job) e)) o
                (file_at s.files (place_at (job_of w job) e))),
          )) (ap (option_map (input_of w)) enters.unread)
          ∙ ap (λ o. (Done, entered (pack_of d) (job_of w job) ch (channel_of w c) e None o)) opens
          ∙ ap (λ o. (
            Done,
            entered (pack_of d) (job_of w job) ch (channel_of w c) e (option_map (input_of w) o)
                (output_of w out),
          )) (sym enters.unread)
          ∙ ap (λ (x : Writing). (
            Done,
            with_channel (record (job_of w job) { core = with_attributes (pack_of d).layout job.core e x.file }) ch
                (Some (channel_of w (entering.side_entered c key enters.kind))),
          )) (with_same state.under key new_writing)
          ∙ ap (λ core. (
            Done,
            with_channel (record (job_of w job) { core = core }) ch
                (Some (channel_of w (entering.side_entered c key enters.kind))),
          )) (sym (attributes_in (pack_of d).layout job.core e (file_begun prime) dated))
          ∙ ap (λ j. (Done, j)) (channel_set w (record job { core = with_attributes 2 job.core e (file_begun prime) })
          ch (Some (entering.side_entered c key enters.kind)) ∙ ap (job_of w) (sym enters.job_is)))
          ∙ ap (λ x. (Done, x)) (job_set s.files w jobs n job' ∙ ap (state_of s.files w) (sym set))

      -- what is written under the new key
      begins : (k : ℕ) (p : PendingVersion) → pending_at map'.pending k ≡ Some p → k ≡ key
          → p ≡ begun enters.begins prime enters.begun.old
      begins k p at same = some_same (sym at ∙ ap (pending_at map'.pending) same ∙ enters.begun.here)

      abbrev bare_version : PendingVersion
      bare_version = record { prime = prime; version = no_words; kind = enters.begins; kept_blocks = 0 }

      new_version : (k : ℕ) (p : PendingVersion) → pending_at map'.pending k ≡ Some p → k ≡ key
          → IsWriting d p (w.written k)
      new_version k p at same =
          subst (λ v. IsWriting d v (w.written k))
          (begun_bare enters.begins prime enters.begun.old enters.bare ∙ sym (begins k p at same))
          (subst (IsWriting d bare_version) (sym (ap w.written same ∙ with_same state.under key new_writing)) (record {
            place = refl;
            protection = refl;
            mode = refl;
            time = refl;
            date = refl;
            words = refl;
            body = record { each = []; undamaged = tt; whole = tt; body_is = refl };
          }))

      new_absent : (k : ℕ) (p : PendingVersion) → pending_at map'.pending k ≡ Some p → k ≡ key
          → is_creation p ≡ true → file_at s.files (w.written k).place ≡ None
      new_absent k p at same is_new =
          ap (λ (x : Writing). file_at s.files x.place) (ap w.written same ∙ with_same state.under key new_writing)
          ∙ found_is
          ∙ gone (get directory.directory.files prime.file) (sym directory.absent ∙ sym named
          ∙ sym enters.begun.is_new ∙ ap is_creation (sym (begins k p at same)) ∙ is_new)
        where
          gone : (o : Option SpecVersion) → is_none o ≡ true → o ≡ None
          gone None e = refl
          gone (Some v) e = cc e

      -- each place has the prime block that it had
      primes : (ppn : ℕ) (name : FileName) → prime_at map' ppn name ≡ prime_at map ppn name
      primes ppn name = ap (λ k. prime_at (record map { known = k }) ppn name) enters.begun.known

      pub entered_leads : (failed : Bool) → failed ≡ false → (new : Service) × Serves d map' failed jobs' new
          × Answers (pack_of d) (Serving s) (Calls n (Enter ch e) moment) Done new
      entered_leads failed serves =
          goes_on d map' failed jobs' (pack_of d) (Calls n (Enter ch e) moment) Done s
          (state_of s.files w jobs') serves state.sound
          (λ serial. subst (λ x. step (pack_of d) serial x (Calls n (Enter ch e) moment)
          ≡ (Done, state_of s.files w jobs')) (sym t_is) (row_is serial))
          (λ still. record {
            files = state.files;
            serials = state.serials;
            under = w;
            versions = λ k p at. same_or_not k key (new_version k p at)
                (λ apart. subst (IsWriting d p) (sym (with_other state.under key new_writing k apart))
                (state.versions k p (sym (enters.begun.others k apart) ∙ at)));
            absent = λ k p at is_new. same_or_not k key (λ same. new_absent k p at same is_new)
                (λ apart. ap (λ (x : Writing). file_at s.files x.place) (with_other state.under key new_writing k apart)
                ∙ state.absent k p (sym (enters.begun.others k apart) ∙ at) is_new);
            keyed = enter_keyed;
            read = reads_kept d d map map' state.under.read enters.begun.live
                (λ k v at some m held. refl) s.files primes state.read;
            reading = enter_reading;
            jobs_are = refl;
            sound = still;
          })
