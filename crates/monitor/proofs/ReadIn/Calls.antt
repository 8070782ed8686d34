-- IN: the rows of the machine, by what the call finds.
use Rattle.std.proofs.Common.{◌≡◌, ◌<◌, ◌≤◌, ◌+◌, ℕ, zero, suc, Bool, true, false, if◌then◌else◌, List, [], ◌∷◌}
use Rattle.std.proofs.Common.{length, min, Option, None, Some, ◌⊎◌, inl, inr, refl, sym, ap, ◌∙◌, arith, slice_set}
use Rattle.std.specs.Prelude.{option_map, is_none, ◌||◌}
use Rattle.words36.specs.declared.moment.Moment.{Moment}
use Rattle.blockdisk.specs.Common.{DiskState}
use Rattle.spec_machine.specs.Common.{dump_list, word_count, after_writes, dealt, reads, words_ahead, is_empty}
use Rattle.spec_machine.specs.Common.{dump_in_answer, ring_in_answer, areas_or_none, buffer_filled, lacks_header}
use Rattle.spec_machine.specs.Common.{moved_on, State, slot, with_channel, cleared, end_of_file, settled, clean}
use Rattle.spec_machine.specs.Common.{stopped_in, is_buffered, byte_size, data_words, in_ready, is_plain, step}
use Rattle.spec_machine.specs.Common.{on_channel, of_job, last_date}
use Rattle.spec_image.specs.Common.{blocks_of, Files, pack_of, SpecVersion}
use Rattle.spec_machine.specs.declared.area.Area.{Area}
use Rattle.spec_machine.specs.declared.call.Call.TheVariants.{In}
use Rattle.spec_machine.specs.declared.call.Event.TheVariants.{Call as Calls}
use Rattle.spec_machine.specs.declared.call.Reply.{Reply}
use Rattle.spec_machine.specs.declared.call.Reply.TheVariants.{Done, Refused, Stopped, NoChannel, AddressCheck}
use Rattle.retrieval.specs.Common.{mode_number}
use Rattle.monitor.specs.Common.{Asked, areas_asked, buffer_asked, names_none, asked_at, read_on, IsRow, UnderKeys}
use Rattle.monitor.specs.Common.{input_of, output_of, channel_of, job_of, state_of}
use Rattle.monitor.specs.declared.channel.OpenChannel.{OpenChannel}
use Rattle.monitor.specs.declared.input.Input.{Input}
use Rattle.monitor.specs.declared.job.Job.{Job}
use Rattle.monitor.proofs.common.EventAnswers.{job_set, called, settled_reply}
use Rattle.monitor.proofs.ReadIn.AskedWords.{asked_of, none_of, asks_areas, asks_buffer}
use Rattle.monitor.proofs.common.CallRows.{channel_is, channel_set, on_row, on_none}
use Rattle.spec_machine.specs.Jobs as machine

-- there are words
pub words_there : (words : List ℕ) → 0 < length words → is_empty words ≡ false
words_there [] some = absurd (omega arith)
words_there (word ∷ words) some = refl

-- The answer, by what is asked for and what the body has.

abbrev asked_answer : machine.Channel → Bool → List ℕ → Reply
asked_answer c none ahead = if none then Done
    else if is_empty ahead then Stopped (cleared c.status + end_of_file) else Done

listed_answer : (c : machine.Channel) (areas : List Area)
    → dump_in_answer c (Some areas) ≡ asked_answer c (names_none areas) (words_ahead c.input c.output)
listed_answer c [] = refl
listed_answer c (area ∷ areas) = refl

answer_done : (c : machine.Channel) (none : Bool) (ahead : List ℕ) → (none ≡ false → is_empty ahead ≡ false)
    → asked_answer c none ahead ≡ Done
answer_done c true ahead some = refl
answer_done c false ahead some = ap (λ b. if b then Stopped (cleared c.status + end_of_file) else Done) (some refl)

answer_undecided : (c : machine.Channel) (none : Bool) (ahead : List ℕ) → is_plain (asked_answer c none ahead) ≡ false
answer_undecided c true ahead = refl
answer_undecided c false [] = refl
answer_undecided c false (word ∷ words) = refl

module _ (job : Job) (ch a : ℕ) where
  pub in_none : slot job.channels ch ≡ None → IsRow job job (In ch a) NoChannel
  in_none none pack serial s n w moment at = on_none s n w job ch (λ c. of_job s n (reads (job_of w job) ch c a))
      none at

  module _ (c : OpenChannel) (there : slot job.channels ch ≡ Some c) where
    -- the channel, with these sides
    abbrev with_sides : UnderKeys → Option machine.SpecInput → Option machine.SpecOutput → machine.Channel
    with_sides w i o = record (channel_of w c) { input = i; output = o }

    -- the row, by its sides, the core and the count of words that it asks for, and its answer
    abbrev by_answer : UnderKeys → Option machine.SpecInput → Option machine.SpecOutput → List ℕ → ℕ → Reply
        → Reply × machine.SpecJob
    by_answer w i o core count reply =
        settled reply
        (with_channel (record (job_of w job) { core = core }) ch
        (Some (record (clean (channel_of w c)) {
          input = moved_on i (blocks_of (min count (length (words_ahead i o))));
        })))
        (stopped_in (job_of w job) ch (channel_of w c))

    -- by whether it lacks a header, whether it has buffers, its ring and what the list names
    abbrev by_core : UnderKeys → Option machine.SpecInput → Option machine.SpecOutput → Bool → Bool → Option (List ℕ)
        → Option (List Area) → Reply × machine.SpecJob
    by_core w i o lacks buffered ready listed =
        by_answer w i o
        (if buffered then buffer_filled job.core (channel_of w c) ready (words_ahead i o)
        else after_writes job.core (dealt (areas_or_none listed) (words_ahead i o)))
        (if buffered then data_words else word_count (areas_or_none listed))
        (if is_none i || lacks then Refused 5
        else if buffered then ring_in_answer (with_sides w i o) ready
        else dump_in_answer (with_sides w i o) listed)

    abbrev lacks : Bool
    lacks = lacks_header (mode_number c.mode) c.input_header

    abbrev buffered : Bool
    buffered = is_buffered (mode_number c.mode)

    abbrev ready : Option (List ℕ)
    ready = in_ready job.core c.input_header (byte_size (mode_number c.mode))

    abbrev side_out : UnderKeys → Option machine.SpecOutput
    side_out w = option_map (output_of w) c.output

    pub in_refused : (c.input ≡ None) ⊎ (lacks ≡ true) → IsRow job job (In ch a) (Refused 5)
    in_refused why pack serial s n w moment at =
        on_row s n w job job ch c (Refused 5) (λ x. reads (job_of w job) ch x a) there (by why)
      where
        by : (c.input ≡ None) ⊎ (lacks ≡ true) → reads (job_of w job) ch (channel_of w c) a ≡ (Refused 5, job_of w job)
        by (inl none) = ap (λ i. by_core w (option_map (input_of w) i) (side_out w) lacks buffered ready
            (dump_list job.core a)) none
        by (inr none) =
            ap (λ b. by_core w (option_map (input_of w) c.input) (side_out w) b buffered ready (dump_list job.core a))
            none
            ∙ without (option_map (input_of w) c.input)
          where
            without : (i : Option machine.SpecInput) → by_core w i (side_out w) true buffered ready
                (dump_list job.core a)
                ≡ (Refused 5, job_of w job)
            without None = refl
            without (Some i) = refl

    module _ (i : Input) (side : c.input ≡ Some i) (has : lacks ≡ false) where
      -- the row of a channel with an input side
      abbrev by_mode : UnderKeys → Bool → Option (List ℕ) → Option (List Area) → Reply × machine.SpecJob
      by_mode w b ring listed = by_core w (Some (input_of w i)) (side_out w) false b ring listed

      on_side : (w : UnderKeys) → reads (job_of w job) ch (channel_of w c) a
          ≡ by_mode w buffered ready (dump_list job.core a)
      on_side w =
          ap (λ x. by_core w (option_map (input_of w) x) (side_out w) lacks buffered ready (dump_list job.core a)) side
          ∙ ap (λ b. by_core w (Some (input_of w i)) (side_out w) b buffered ready (dump_list job.core a)) has

      pub in_unlisted : asked_at job.core c a ≡ None → IsRow job job (In ch a) AddressCheck
      in_unlisted none pack serial s n w moment at =
          on_row s n w job job ch c AddressCheck (λ x. reads (job_of w job) ch x a) there
          (on_side w ∙ by buffered refl)
        where
          by : (b : Bool) → buffered ≡ b
              → by_mode w buffered ready (dump_list job.core a) ≡ (AddressCheck, job_of w job)
          by true is =
              ap (λ b. by_mode w b ready (dump_list job.core a)) is
              ∙ ap (λ o. by_mode w true o (dump_list job.core a))
              (none_of (buffer_asked c) ready (asked_at job.core c a) (asks_buffer job.core c a is) none)
          by false is =
              ap (λ b. by_mode w b ready (dump_list job.core a)) is
              ∙ ap (by_mode w false ready) (none_of (areas_asked job.core) (dump_list job.core a)
              (asked_at job.core c a) (asks_areas job.core c a is) none)

      -- Core has what is asked for; what the channel reads may be what its output side writes.
      module _ (k : Asked) (asks : asked_at job.core c a ≡ Some k) (w : UnderKeys) where
        abbrev side_in : Option machine.SpecInput
        side_in = Some (input_of w i)

        abbrev ahead : List ℕ
        ahead = words_ahead side_in (side_out w)

        -- the row, by what is asked for
        abbrev by_asked : Asked → Reply × machine.SpecJob
        by_asked x = by_answer w side_in (side_out w) (x.filled ahead) x.count
            (asked_answer (channel_of w c) x.none ahead)

        found : reads (job_of w job) ch (channel_of w c) a ≡ by_asked k
        found = on_side w ∙ by buffered refl
          where
            by : (b : Bool) → buffered ≡ b → by_mode w buffered ready (dump_list job.core a) ≡ by_asked k
            by true is =
                let from = asked_of (buffer_asked c) ready (asked_at job.core c a) (asks_buffer job.core c a is) k
                asks in
                ap (λ b. by_mode w b ready (dump_list job.core a)) is
                ∙ ap (λ o. by_mode w true o (dump_list job.core a)) from.1
                ∙ ap by_asked from.2
            by false is =
                let from = asked_of (areas_asked job.core) (dump_list job.core a) (asked_at job.core c a)
                (asks_areas job.core c a is) k asks in
                ap (λ b. by_mode w b ready (dump_list job.core a)) is
                ∙ ap (by_mode w false ready) from.1
                ∙ ap (by_answer w side_in (side_out w) (after_writes job.core (dealt from.0 ahead)) (word_count from.0))
                (listed_answer (with_sides w side_in (side_out w)) from.0)
                ∙ ap by_asked from.2

        pub row_read : (count : ℕ) (core : List ℕ) → (count ≡ 0 → k.none ≡ true)
            → count ≡ min k.count (length ahead) → core ≡ k.filled ahead
            → reads (job_of w job) ch (channel_of w c) a
            ≡ (
              Done,
              job_of w (record job { core = core; channels = slice_set job.channels ch (Some (read_on c i count)) }),
            )
        row_read count core some many moved =
            found
            ∙ ap (by_answer w side_in (side_out w) (k.filled ahead) k.count)
            (answer_done (channel_of w c) k.none ahead (λ named. words_there ahead (by count refl named)))
            ∙ ap (λ ws. by_answer w side_in (side_out w) ws k.count Done) (sym moved)
            ∙ ap (λ m. (
              Done,
              with_channel (record (job_of w job) { core = core }) ch
                  (Some (record (clean (channel_of w c)) { input = moved_on side_in (blocks_of m) })),
            )) (sym many)
            ∙ ap (λ j. (Done, j)) (channel_set w (record job { core = core }) ch (Some (read_on c i count)))
          where
            by : (m : ℕ) → count ≡ m → k.none ≡ false → 0 < length ahead
            by zero none named = let wrong = sym (some none) ∙ named in absurd (cc wrong)
            by (suc m) is named = omega (arith, is, many)

        pub row_ended : k.none ≡ false → ahead ≡ [] → (status : ℕ) → status ≡ cleared c.status + end_of_file
            → reads (job_of w job) ch (channel_of w c) a
            ≡ (
              Stopped status,
              job_of w (record job { channels = slice_set job.channels ch (Some (record c { status = status })) }),
            )
        row_ended named none status is =
            found
            ∙ ap (λ b. by_answer w side_in (side_out w) (k.filled ahead) k.count
            (asked_answer (channel_of w c) b ahead)) named
            ∙ ap (λ ws. by_answer w side_in (side_out w) (k.filled ahead) k.count
            (asked_answer (channel_of w c) false ws)) none
            ∙ ap (λ m. (Stopped m, with_channel (job_of w job) ch (Some (record (channel_of w c) { status = m }))))
            (sym is)
            ∙ ap (λ j. (Stopped status, j)) (channel_set w job ch (Some (record c { status = status })))

        row_undecided : is_plain ((reads (job_of w job) ch (channel_of w c) a).0) ≡ false
        row_undecided =
            ap (λ r. is_plain r.0) found
            ∙ ap is_plain (settled_reply (asked_answer (channel_of w c) k.none ahead)
            (with_channel (record (job_of w job) { core = k.filled ahead }) ch
            (Some (record (clean (channel_of w c)) {
              input = moved_on side_in (blocks_of (min k.count (length ahead)));
            })))
            (stopped_in (job_of w job) ch (channel_of w c)))
            ∙ answer_undecided (channel_of w c) k.none ahead

        module _ (d : DiskState) (jobs : List (Option Job)) (n : ℕ) (here : slot jobs n ≡ Some job) (moment : Moment)
            (timely : moment.date ≤ last_date (pack_of d).layout) (serial : ℕ) (files : Files SpecVersion) where
          abbrev t : State
          t = state_of files w jobs

          -- it isn't decided before memory and the disk are needed
          pub undecided : is_plain ((step (pack_of d) serial t (Calls n (In ch a) moment)).0) ≡ false
          undecided =
              ap (λ r. is_plain r.0) (called (pack_of d) jobs n (In ch a) moment serial files w timely job here
              ∙ ap (λ o. on_channel t o (λ x. of_job t n (reads (job_of w job) ch x a)))
              (channel_is w job ch (Some c) there))
              ∙ row_undecided

          pub row_goes : (job' : Job) (reply : Reply) (jobs' : List (Option Job)) → jobs' ≡ slice_set jobs n (Some job')
              → reads (job_of w job) ch (channel_of w c) a ≡ (reply, job_of w job')
              → step (pack_of d) serial t (Calls n (In ch a) moment) ≡ (reply, state_of files w jobs')
          row_goes job' reply jobs' set is =
              called (pack_of d) jobs n (In ch a) moment serial files w timely job here
              ∙ on_row t n w job job' ch c reply (λ x. reads (job_of w job) ch x a) there is
              ∙ ap (λ s. (reply, s)) (job_set files w jobs n job' ∙ ap (state_of files w) (sym set))
