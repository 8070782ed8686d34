-- What a CLOSE or RELEAS that publishes promises: the versions that are unpinned or pinned after it, and the machine's
-- row.
use Rattle.std.proofs.Common.{◌≡◌, ℕ, Bool, true, false, List, length, Option, Some, None, Ok, refl, sym, ap, subst}
use Rattle.std.proofs.Common.{◌∙◌, slice_set}
use Rattle.std.specs.Prelude.{◌&&◌, not, if◌then◌else◌, is_some, option_map, IsSome}
use Rattle.std.specs.Cmp.{nat_cmp_total}
use Rattle.words36.specs.declared.moment.Moment.{Moment}
use Rattle.words36.specs.declared.names.FileName.{FileName}
use Rattle.blockdisk.specs.Common.{Contents, DiskState, LeavesOnly}
use Rattle.spec_machine.specs.Common.{keeps_output, keeps_input, discards, State, slot, finds_no_place}
use Rattle.spec_machine.specs.Common.{HaveDistinctSerials, step}
use Rattle.spec_image.specs.Common.{File, Files, Directory, Place, map_directory, pack_of, StandsOn, get, insert}
use Rattle.spec_image.specs.Common.{SpecVersion, without_serials, file_in, file_at, with_file, with_file_in, place_of}
use Rattle.spec_machine.specs.declared.call.Call.TheVariants.{Close, Releas}
use Rattle.spec_machine.specs.declared.call.Event.TheVariants.{Call as Calls}
use Rattle.spec_machine.specs.declared.call.Reply.{Reply}
use Rattle.spec_machine.specs.declared.call.Reply.TheVariants.{Done}
use Rattle.spec_image.proofs.Common.{some_none, get-insert_same, name_total, some_is}
use Rattle.retrieval.specs.declared.prime.Prime.{Prime}
use Rattle.volume.specs.Common.{MemoryMap, pending_at, IsWholeMemory, IsPinAnswer, RestsAt, IsSoundMemory}
use Rattle.volume.specs.declared.handles.Pin.{Pin}
use Rattle.volume.specs.declared.live.LiveVersion.{LiveVersion}
use Rattle.volume.specs.declared.pending.PendingVersion.{PendingVersion}
use Rattle.monitor.specs.Common.{both_closed, output_closed, rings_closed, closed_in, left_open, OnlyDrops, IsIdle}
use Rattle.monitor.specs.Common.{last_at, HasPublished, IsPublishing, PublishesBy, IsPublishRow, CrashesAsRow}
use Rattle.monitor.specs.Common.{StillStands, ArePinned, AreRead, Renews, HoldsPublished, IsState, IsTimely}
use Rattle.monitor.specs.Common.{UnderKeys, readers, pins_of, input_of, output_of, jobs_of, state_of}
use Rattle.monitor.specs.declared.channel.OpenChannel.{OpenChannel}
use Rattle.monitor.specs.declared.input.Input.{Input}
use Rattle.monitor.specs.declared.output.Output.{Output}
use Rattle.monitor.specs.declared.job.Job.{Job}
use Rattle.monitor.proofs.common.EventAnswers.{state_is}
use Rattle.monitor.proofs.common.Growths.{shown_at}
use Rattle.monitor.proofs.LookupFile.Calls.{with_version}
use Rattle.monitor.proofs.CloseChannel.Publications.{IsBehind, readers_behind, renewed_behind}
use Rattle.monitor.proofs.CloseChannel.PublishedAnswers.{GoesOn, still_stand, crashes_as, published_answered}
use Rattle.monitor.proofs.common.Copies.{versions_in}
use Rattle.monitor.proofs.CloseChannel.PublishedRows.{version_with, channel_both, channel_renewed, close_rows}
use Rattle.monitor.proofs.CloseChannel.PublishedRows.{close_step, release_rows, release_step}
use Rattle.monitor.proofs.common.JobReaders.{reads_left}
use Rattle.monitor.proofs.common.ReadsPinned.{with_read, with_read_same}
use Rattle.monitor.proofs.common.Renewals.{renewed_pending, renewed_jobs, renewed_reads}
use Rattle.monitor.proofs.CloseChannel.Rings.{rings_marked, input_ends, input_stays}
use Rattle.spec_machine.proofs.Common.{is_some-map}

-- what holds for an answer that is Done
pub has_published : {d d' : DiskState} {c b : MemoryMap} {failed failed' : Bool} {channel : OpenChannel} {o : Output}
    {last : Option (List ℕ)} {reply : Reply} → PublishesBy d d' c b failed failed' channel o last reply → reply ≡ Done
    → IsPublishing d d' c b failed failed' channel o last Done
has_published {d} {d'} {c} {b} {failed} {failed'} {channel} {o} {last} by done =
    subst (IsPublishing d d' c b failed failed' channel o last) done by.answered

-- A version is pinned in a directory that there is, and a version that is put there is the file of its place.

some_directory : (contents : Contents) (live : List (Option LiveVersion)) (name : FileName) (pin : Pin)
    (o : Option (Directory File)) → IsPinAnswer contents live name (Ok pin) o → o ≡ None → ⊥
some_directory contents live name pin None answer none = cc answer
some_directory contents live name pin (Some d) answer none = cc none

put_here : (files : Files SpecVersion) (place : Place) (v : SpecVersion)
    → (get (without_serials (with_file files place v)) place.ppn ≡ None → ⊥)
    → file_at (with_file files place v) place ≡ Some v
put_here files place v some = by (get files place.ppn) refl some
  where
    by : (o : Option (Directory SpecVersion)) → get files place.ppn ≡ o
        → (get (without_serials (with_file_in o files place v)) place.ppn ≡ None → ⊥)
        → file_at (with_file_in o files place v) place ≡ Some v
    by None is there = absurd (there (shown_at files place.ppn
        ∙ ap (option_map (map_directory (λ (x : SpecVersion). x.file))) is))
    by (Some d) is there =
        let new : Directory SpecVersion = record d { files = insert d.files place.name v } in
        ap (λ o. file_in o place.name) (get-insert_same nat_cmp_total files place.ppn new)
        ∙ get-insert_same name_total d.files place.name v

-- an input side stays by this bit alone, and as it is
pub kept_by : (k : Bool) (x : Option Input) (input : Input) → (if k then x else None) ≡ Some input
    → (k ≡ true) × (x ≡ Some input)
kept_by true x input is = (refl, is)
kept_by false x input is = absurd (some_none (sym is))

-- An input side that stays pins what is published if a side was renewed, and the disk left alone.
pub holds_published : {D : Type 0} (state : D → DiskState) (mid new : D) (c b c' : MemoryMap) (failed : Bool) (key : ℕ)
    (job job' : Job) (number : ℕ) (channel : OpenChannel) (input renewed : Input) (prime : Prime) → new ≡ mid
    → IsSoundMemory (state mid) b failed → ((is : Renews b c' input renewed prime.ppn prime.file prime.protection)
    × ((state new).honest → (files : Files File) → RestsAt (state mid) files
    → IsPinAnswer (state mid).contents is.between.live prime.file (Ok is.held.pin) (get files prime.ppn)))
    → ((p : PendingVersion) → pending_at c.pending key ≡ Some p → prime ≡ p.prime)
    → job' ≡ closed_in job number channel true false (Some (output_closed channel renewed))
    → HoldsPublished (state new) c b c' key job job' number channel input
holds_published state mid new c b c' failed key job job' number channel input renewed prime same sound renews of set =
    record {
      renewed = renewed;
      ppn = prime.ppn;
      file = prime.file;
      protection = prime.protection;
      renews = renews.0;
      place = λ p at. let is = of p at in
          (ap (λ (q : Prime). q.ppn) is, ap (λ (q : Prime). q.file) is, ap (λ (q : Prime). q.protection) is);
      whole = subst (λ disk. IsWholeMemory (state disk).size b) (sym same) sound.whole;
      pinned = λ honest files rests.
          subst (λ (pin : Pin). IsPinAnswer (state new).contents renews.0.between.live prime.file (Ok pin)
          (get files prime.ppn)) (sym (ap (λ (i : Input). i.pin) renews.0.renewed_is))
          (subst (λ disk. IsPinAnswer (state disk).contents renews.0.between.live prime.file (Ok renews.0.held.pin)
          (get files prime.ppn)) (sym same)
          (renews.1 honest files (subst (λ disk. RestsAt (state disk) files) same rests)));
      job_is = set;
    }

-- An input side ends with the output side, except if it stays.

ends_output : (w : UnderKeys) (channel : OpenChannel) (o : Output) (bits : ℕ) → channel.output ≡ Some o
    → keeps_output bits ≡ false → (is_some (option_map (output_of w) channel.output) && not (keeps_output bits)) ≡ true
ends_output w channel o bits side drops = λ i. is_some (option_map (output_of w) (side i)) && not (drops i)

ends_input : (w : UnderKeys) (channel : OpenChannel) (bits : ℕ)
    → (if keeps_input bits then channel.input else None) ≡ None
    → (is_some (option_map (input_of w) channel.input) && not (keeps_input bits)) ≡ is_some channel.input
ends_input w channel bits none = ap (λ b. b && not (keeps_input bits)) (is_some-map (input_of w) channel.input)
    ∙ input_ends channel.input (keeps_input bits) none

module _ {d d' : DiskState} {c b : MemoryMap} {failed failed' : Bool} {reply : Reply} (c' : MemoryMap) (o : Output)
    (job job' : Job) (number : ℕ) (channel : OpenChannel) (there : slot job.channels number ≡ Some channel)
    (side : channel.output ≡ Some o)
    (by : PublishesBy d d' c b failed failed' channel o (last_at job.core channel) reply)
    (live : IsSome (pending_at c.pending o.pending.key)) where
  abbrev key : ℕ
  key = o.pending.key

  -- A crash.
  module _ (sound : IsSoundMemory d c failed) (alive : failed ≡ false) (idle : IsIdle reply → d'.honest
      → (f : Files File) → RestsAt d f → LeavesOnly d d' (λ contents. StandsOn (pack_of d) contents f)) where
    pub close_crashes : (bits : ℕ) → keeps_output bits ≡ false → discards bits ≡ false
        → CrashesAsRow d d' c job (Close number bits)
    close_crashes bits drops publishes_it honest jobs n moment at timely s state =
        crashes_as (Close number bits) moment jobs n job number channel o at there
        (close_rows d jobs n moment (timely (by.same.was_honest honest)) job at number channel there o side bits drops
        publishes_it) by live sound
        alive honest s state (λ idles. idle idles honest (without_serials s.files) state.files)

    pub release_crashes : CrashesAsRow d d' c job (Releas number)
    release_crashes honest jobs n moment at timely s state =
        crashes_as (Releas number) moment jobs n job number channel o at there
        (release_rows d jobs n moment (timely (by.same.was_honest honest)) job at number channel there o side) by live
        sound alive honest s state
        (λ idles. idle idles honest (without_serials s.files) state.files)

  module _ (kept : (reply ≡ Done → ⊥) → job' ≡ left_open job number channel reply)
      (behind : reply ≡ Done → IsBehind c b c' job job') where
    -- What is written and read is what the jobs have.
    pub sides_stand : (IsIdle reply → c' ≡ c) → StillStands c c' failed' job job'
    sides_stand same jobs n at keyed placed reading serves =
        still_stand c' jobs n job job' number channel o at there (last_at job.core channel) by live kept behind same
        keyed placed reading serves

    -- The machine's row.
    module _ (unchanged : IsIdle reply → (jobs : List (Option Job)) (s : State) → IsState d c jobs s
        → IsState d' c' jobs s) (sound : IsSoundMemory d c failed) (alive : failed ≡ false) where
      -- if versions are unpinned
      module _ (leaves : reply ≡ Done → OnlyDrops b c') where
        pub closed_row : (bits : ℕ) → keeps_output bits ≡ false → discards bits ≡ false
            → (if keeps_input bits then channel.input else None) ≡ None
            → (reply ≡ Done
            → job' ≡ closed_in job number channel true (is_some channel.input) (Some (both_closed channel)))
            → IsPublishRow d d' c c' failed' job job' (Close number bits) reply
        closed_row bits drops publishes_it none set honest placed jobs n moment at timely s state =
            published_answered (Close number bits) moment jobs n job number channel o at there
            (close_rows d jobs n moment (timely (by.same.was_honest honest)) job at number channel there o side bits
            drops publishes_it) by live sound
            alive honest s state c' job' placed kept behind
            (λ done last found place has serial fresh rests distinct reads. (
              state.under.read,
              reads_left d' b c' _ state.under.read (leaves done) reads,
              subst (λ t. step (pack_of d) serial t (Calls n (Close number bits) moment)
                  ≡ (
                    Done,
                    state_of (with_file s.files (state.under.written key).place
                        (version_with (state.under.written key) o.next last serial)) state.under
                        (slice_set jobs n (Some job')),
                  )) (sym (state_is s state.under jobs state.jobs_are))
                  (close_step d jobs n moment (timely (by.same.was_honest honest)) job at number channel there o side
                  bits drops publishes_it s.files
                  state.under serial last found place (both_closed channel) true (is_some channel.input)
                  (channel_both state.under channel o bits side drops publishes_it serial job none)
                  (rings_marked job.core state.under channel bits true (is_some channel.input)
                  (ends_output state.under channel o bits side drops) (ends_input state.under channel bits none)
                  publishes_it) job' (set done)),
            )) unchanged

        pub released_row : (reply ≡ Done → job' ≡ closed_in job number channel true (is_some channel.input) None)
            → IsPublishRow d d' c c' failed' job job' (Releas number) reply
        released_row set honest placed jobs n moment at timely s state =
            published_answered (Releas number) moment jobs n job number channel o at there
            (release_rows d jobs n moment (timely (by.same.was_honest honest)) job at number channel there o side) by
            live sound alive honest s state
            c' job' placed kept behind
            (λ done last found place has serial fresh rests distinct reads. (
              state.under.read,
              reads_left d' b c' _ state.under.read (leaves done) reads,
              subst (λ t. step (pack_of d) serial t (Calls n (Releas number) moment)
                  ≡ (
                    Done,
                    state_of (with_file s.files (state.under.written key).place
                        (version_with (state.under.written key) o.next last serial)) state.under
                        (slice_set jobs n (Some job')),
                  )) (sym (state_is s state.under jobs state.jobs_are))
                  (release_step d jobs n moment (timely (by.same.was_honest honest)) job at number channel there o side
                  s.files state.under serial
                  last found place true (is_some channel.input)
                  (rings_marked job.core state.under channel 0 true (is_some channel.input)
                  (ends_output state.under channel o 0 side refl) (ends_input state.under channel 0 refl) refl) job'
                  (set done)),
            )) unchanged

      -- if what is published is pinned
      module _ (input : Input) (reads_it : channel.input ≡ Some input)
          (holds : reply ≡ Done → HoldsPublished d' c b c' key job job' number channel input) (bits : ℕ)
          (drops : keeps_output bits ≡ false) (publishes_it : discards bits ≡ false)
          (keeps : keeps_input bits ≡ true) where
        module _ (jobs : List (Option Job)) (n : ℕ) (moment : Moment) (at : slot jobs n ≡ Some job)
            (timely : IsTimely d moment) (s : State) (state : IsState d c jobs s) (honest : d'.honest) (last : List ℕ)
            (found : last_at job.core channel ≡ Some last)
            (finds : finds_no_place (pack_of d) (state_of s.files state.under jobs) (output_of state.under o)
            (length last) ≡ false) (serial : ℕ) (has : HasPublished d d' c b o last)
            (h : HoldsPublished d' c b c' key job job' number channel input) where
          abbrev w : UnderKeys
          w = state.under

          abbrev x : SpecVersion
          x = version_with (w.written key) o.next last serial

          abbrev files' : Files SpecVersion
          files' = with_file s.files (w.written key).place x

          abbrev u : UnderKeys
          u = with_version w h.renewed.pin.key x

          place_same : (w.written key).place ≡ place_of h.ppn h.file
          place_same =
              let p = some_is (pending_at c.pending key) live in
              let owner = sym (h.place p.0 p.1).0 in
              let name = sym (h.place p.0 p.1).1 in
              (state.versions key p.0 p.1).place ∙ (λ i. place_of (owner i) (name i))

          module _ (rests : RestsAt d' (without_serials files')) (distinct : HaveDistinctSerials (versions_in files'))
              (reads : AreRead d' b files' w.read) where
            answer : IsPinAnswer d'.contents h.renews.between.live h.file (Ok h.renewed.pin)
                (get (without_serials files') h.ppn)
            answer = h.pinned honest (without_serials files') rests

            it_is : file_at files' (place_of h.ppn h.file) ≡ Some x
            it_is = ap (file_at files') (sym place_same)
                ∙ put_here s.files (w.written key).place x
                (subst (λ (q : Place). get (without_serials files') q.ppn ≡ None → ⊥) (sym place_same)
                (some_directory d'.contents h.renews.between.live h.file h.renewed.pin
                (get (without_serials files') h.ppn) answer))

            pinned : ArePinned b.live (pins_of (readers jobs))
            pinned k = state.reading.pinned k ∙ sym (readers_behind o (by.whatever last found) has live k)

            jobs_same : jobs_of u jobs ≡ jobs_of w jobs
            jobs_same = renewed_jobs b c' input h.renewed h.ppn h.file h.protection h.renews d' files' w.read reads
                h.whole x it_is
                w jobs refl pinned

            pin_only : h.renewed ≡ record input { pin = h.renewed.pin; protection = h.renewed.protection }
            pin_only = h.renews.renewed_is
                ∙ ap (λ (i : Input). record input { pin = i.pin; protection = i.protection })
                (sym h.renews.renewed_is)

            protected : h.renewed.protection ≡ x.file.protection
            protected =
                let p = some_is (pending_at c.pending key) live in
                ap (λ (i : Input). i.protection) h.renews.renewed_is ∙ (h.place p.0 p.1).2
                ∙ sym (state.versions key p.0 p.1).protection

            finds_still : finds_no_place (pack_of d) (state_of s.files u jobs) (output_of u o) (length last) ≡ false
            finds_still = ap (λ js. finds_no_place (pack_of d) (record { files = s.files; jobs = js }) (output_of w o)
                (length last)) jobs_same ∙ finds

            renewed_goes : GoesOn (Close number bits) moment jobs n job number channel o at there
                (close_rows d jobs n moment (timely (by.same.was_honest honest)) job at number channel there o side
                bits drops publishes_it) by live
                sound alive honest s state c' job' last serial
            renewed_goes = (
              with_read w.read h.renewed.pin.key x,
              renewed_reads b c' input h.renewed h.ppn h.file h.protection h.renews d' files' w.read reads h.whole x
                  it_is distinct answer,
              subst (λ t. step (pack_of d) serial t (Calls n (Close number bits) moment)
                  ≡ (Done, state_of files' u (slice_set jobs n (Some job'))))
                  (sym (state_is s u jobs (state.jobs_are ∙ sym jobs_same)))
                  (close_step d jobs n moment (timely (by.same.was_honest honest)) job at number channel there o side
                  bits drops publishes_it s.files
                  u serial last found finds_still (output_closed channel h.renewed) true false
                  (channel_renewed u channel o bits side drops publishes_it serial job last found input h.renewed
                  reads_it keeps pin_only protected
                  (with_read_same w.read h.renewed.pin.key x h.renewed.pin.key refl))
                  (rings_marked job.core u channel bits true false (ends_output u channel o bits side drops)
                  (input_stays (is_some (option_map (input_of u) channel.input)) (keeps_input bits) keeps)
                  publishes_it) job' h.job_is),
            )

        pub renewed_row : IsPublishRow d d' c c' failed' job job' (Close number bits) reply
        renewed_row honest placed jobs n moment at timely s state =
            published_answered (Close number bits) moment jobs n job number channel o at there
            (close_rows d jobs n moment (timely (by.same.was_honest honest)) job at number channel there o side bits
            drops publishes_it) by live sound
            alive honest s state c' job' placed kept behind
            (λ done last found place has serial fresh rests distinct reads. renewed_goes jobs n moment at timely s state
            honest last found place serial has (holds done) rests distinct reads) unchanged

  -- what is pinned is all that comes after it
  pub holds_behind : (input : Input) → channel.input ≡ Some input
      → HoldsPublished d' c b c' key job job' number channel input → reply ≡ Done → IsBehind c b c' job job'
  holds_behind input reads h done =
      let is = has_published by done in
      renewed_behind o (by.whatever is.0 is.1) is.2 live c' job job' number channel there side
      (renewed_pending b c' input h.renewed h.ppn h.file h.protection h.renews) input h.renewed h.ppn h.file
      h.protection
      (output_closed channel h.renewed) (rings_closed job.core channel true false) reads refl refl h.job_is h.renews
