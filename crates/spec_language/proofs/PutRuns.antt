-- A file that job 1 puts, of characters or of words, from its OPEN to its CLOSE.
use Rattle.std.proofs.Common.{◌≡◌, inl, inr, ℕ, ◌+◌, ◌-◌, ◌<◌, ◌≤◌, false, List, [], ◌∷◌, ◌++◌, length, take, Some}
use Rattle.std.proofs.Common.{None, option_map, refl, sym, ap, subst, ◌∙◌, arith, append_assoc}
use Rattle.std.specs.Prelude.{slice_index, is_none, nat_le}
use Rattle.words36.specs.Common.{right, join}
use Rattle.words36.specs.declared.moment.Moment.{Moment}
use Rattle.spec_image.specs.Common.{get, File, Place, blocks_of, splice, Pack}
use Rattle.spec_machine.specs.Common.{after_writes, placed, first_free, rings_begin, Channel, SpecJob, State}
use Rattle.spec_machine.specs.Common.{SpecOutput}
use Rattle.spec_machine.specs.Common.{Kind, job_at, channel_at, with_channel, clean, stopped_in, disk, dump_mode}
use Rattle.spec_machine.specs.Common.{open_answer, open_done, core_opened, channel_opened, ring_answer}
use Rattle.spec_machine.specs.Common.{ring_made as made_ring, core_or, out_answer, out_done, put_done, ring_out}
use Rattle.spec_machine.specs.Common.{pointer, out_ready, out_writes, ring_words, Steps}
use Rattle.spec_language.specs.Plans.{call_event, deposit_events, name_events, out_event, open_words, new_words}
use Rattle.spec_language.specs.Plans.{list_words}
use Rattle.spec_language.specs.Errands.{create_events, header_address, data_address}
use Rattle.spec_language.specs.Copies.{HasHalfwordExtension, place_of, made}
use Rattle.spec_language.specs.declared.command.Spec.{Spec}
use Rattle.spec_language.specs.declared.encoding.Encoding.TheVariants.{Characters, Words}
use Rattle.spec_machine.specs.declared.call.Event.{Event}
use Rattle.spec_machine.specs.declared.call.Call.TheVariants.{Open, Enter, Outbuf, Out}
use Rattle.spec_machine.specs.declared.call.Reply.TheVariants.{Done}
use Rattle.spec_language.proofs.PlanRuns.{AllDone, split_done}
use Rattle.spec_machine.proofs.Common.{writes_length, found, spared, written, passed, header, Ring, ring_made}
use Rattle.spec_machine.proofs.Common.{setup_is, made_fresh, fresh_ready, fresh_words, fresh_after, used_ready}
use Rattle.spec_machine.proofs.Common.{used_words, used_after}
use Rattle.spec_language.proofs.CallRuns.{at, IsJob, with_core, call_done, on_open, row_done, deposits_done}
use Rattle.spec_language.proofs.OpenRuns.{with_open, at_own, job_core, job_open, open_test}
use Rattle.spec_language.proofs.EnterRuns.{side, outputs, enter_done_by, writes_done}
use Rattle.spec_language.proofs.BlockRuns.{put_at_end}
use Rattle.spec_language.proofs.CopyRuns.{with_body, start_is, one_block}
use Rattle.spec_language.proofs.FillLaws.{PartsAreDone, PutsWords}

-- a channel of characters that was just opened
abbrev pub ring_channel : Channel
ring_channel = record {
  mode = 0;
  input_header = 0;
  output_header = header_address;
  status = 0;
  input = None;
  output = None;
}

abbrev pub opening_words : List ℕ
opening_words = 0 ∷ disk ∷ join header_address 0 ∷ []

abbrev pub header_made : List ℕ
header_made = join 0o400000 0 ∷ pointer 7 0 ∷ 0 ∷ []

ring_core : (core : List ℕ) → slice_index core open_words ≡ 0
    → slice_index core (open_words + 2) ≡ join header_address 0
    → core_opened core open_words ≡ after_writes core (placed header_address header_made)
ring_core core e f = rw (e, f) refl

ring_opened : (core : List ℕ) → slice_index core open_words ≡ 0
    → slice_index core (open_words + 2) ≡ join header_address 0 → channel_opened core open_words ≡ ring_channel
ring_opened core e f = rw (e, f) refl

-- Job 1 with a file that it writes through the ring.
pub record PutsCharacters (me : ℕ) (to : Place) (kind : Kind) (file : File) (k : ℕ) (done : List ℕ) (j : SpecJob)
    : Type 0 where
  pub whole : IsJob me j
  pub ring : Ring 0 j.core
  pub second : channel_at j 2 ≡ Some (outputs ring_channel (side to kind (with_body file done) (k + 1)))

module _ (pack : Pack) (s : State) (j0 : SpecJob) (there : job_at s 1 ≡ Some j0) (moment : Moment) where
  -- an OUT through the ring, of the words in its buffer
  ring_put : (me : ℕ) (j : SpecJob) (o : SpecOutput) (t : State) → IsJob me j
      → channel_at j 2 ≡ Some (outputs ring_channel o) → out_ready j.core header 7 ≡ Some j.core
      → Steps pack (at s j) (out_event moment) Done t
      → t ≡ at s (with_open (with_core j (after_writes j.core (out_writes j.core header 7))) 2
      (outputs ring_channel (record o {
        pending = record o.pending { body = splice o.pending.body o.next (ring_words j.core header) };
        next = o.next + blocks_of (length (ring_words j.core header));
      })))
  ring_put me j o t is second ready steps =
      let call = call_done pack s j0 there j (Out 2 list_words) moment t steps in
      let c = outputs ring_channel o in
      let row = row_done pack s j0 there j (out_answer pack (at s j) j c list_words) (out_done j 2 c list_words)
      (stopped_in j 2 c) t (on_open pack s j0 there j 2 c _ t second call.1) in
      row.1 ∙ ap (λ r. at s (put_done j 2 c (option_map (ring_out c) r))) ready

  opened_ring : (me : ℕ) (j : SpecJob) (t : State) → IsJob me j
      → AllDone pack (at s j) (deposit_events open_words opening_words ++ call_event moment (Open 2 open_words) ∷ []) t
      → t ≡ at s (with_open (with_core j (after_writes (after_writes j.core (placed open_words opening_words))
      (placed header_address header_made))) 2 ring_channel)
  opened_ring me j t is all =
      let l = is.core in
      let parts = split_done pack (at s j) (deposit_events open_words opening_words)
      (call_event moment (Open 2 open_words) ∷ []) t
      all in
      let core1 = after_writes j.core (placed open_words opening_words) in
      let j1 = with_core j core1 in
      let first = deposits_done pack s j0 there opening_words j open_words parts.0 parts.1 in
      let call = call_done pack s j0 there j1 (Open 2 open_words) moment parts.2.0
      (subst (λ u. Steps pack u (call_event moment (Open 2 open_words)) Done parts.2.0) first parts.2.1) in
      let row = row_done pack s j0 there j1 (open_answer j1 2 open_words) (open_done j1 2 open_words) (λ reply. j1)
      parts.2.0 (open_test (at s j1) (nat_le 2 15) _ parts.2.0 call.1) in
      let mode : slice_index core1 open_words ≡ 0 =
      found j.core open_words opening_words 0 (omega arith) (omega arith) in
      let named : slice_index core1 (open_words + 2) ≡ join header_address 0 = found j.core open_words opening_words 2
      (omega arith) (omega arith) in
      parts.2.2 ∙ row.1 ∙ ap (λ core. at s (with_channel (with_core j core) 2 (Some (channel_opened core1 open_words))))
      (ring_core core1 mode named)
      ∙ ap (λ c. at s (with_channel (with_core j (after_writes core1 (placed header_address header_made))) 2 (Some c)))
      (ring_opened core1 mode named)

  made_done : (me : ℕ) (j : SpecJob) (o : SpecOutput) (t : State) → IsJob me j
      → channel_at j 2 ≡ Some (outputs ring_channel o) → slice_index j.core first_free ≡ rings_begin
      → Steps pack (at s j) (call_event moment (Outbuf 2 1)) Done t
      → t ≡ at s (with_open (with_core j (after_writes j.core ring_made)) 2 (outputs ring_channel o))
  made_done me j o t is second free steps =
      let c = outputs ring_channel o in
      let call = call_done pack s j0 there j (Outbuf 2 1) moment t steps in
      let row = row_done pack s j0 there j (ring_answer j c header_address 1)
      (with_channel (with_core j (core_or j.core (made_ring j c header_address 1))) 2 (Some (clean c))) (λ reply. j) t
      (on_open pack s j0 there j 2 c _ t second call.1) in
      row.1 ∙ ap (λ m. at s (with_channel (with_core j (core_or j.core m)) 2 (Some (clean c))))
      (setup_is j.core is.core free)

  -- Parts that are characters: the buffer has them, and the header's byte pointer points to their end.
  pub characters_done : (me : ℕ) (to : Place) (kind : Kind) (file : File)
      → PartsAreDone pack s moment Characters (PutsCharacters me to kind file)
  characters_done me to kind file k done part j t is long some few all =
      let count = length part in
      let last = split_done pack (at s j) (deposit_events data_address part) (deposit_events (header_address + 1)
      (join 0o010700 (data_address - 1 + count) ∷ []) ++ out_event moment ∷ []) t all in
      let both = split_done pack last.0
      (deposit_events (header_address + 1) (join 0o010700 (data_address - 1 + count) ∷ []))
      (out_event moment ∷ []) t last.2 in
      let core1 = after_writes j.core (placed data_address part) in
      let j1 = with_core j core1 in
      let is1 : IsJob me j1 = job_core me j core1 is.whole (writes_length j.core (placed data_address part)) in
      let to1 = deposits_done pack s j0 there part j data_address last.0 last.1 in
      let ends : List ℕ = join 0o010700 (data_address - 1 + count) ∷ [] in
      let core2 = after_writes core1 (placed (header_address + 1) ends) in
      let j2 = with_core j1 core2 in
      let is2 : IsJob me j2 = job_core me j1 core2 is1 (writes_length core1 (placed (header_address + 1) ends)) in
      let to2 = deposits_done pack s j0 there ends j1 (header_address + 1) both.0
      (subst (λ u. AllDone pack u (deposit_events (header_address + 1) ends) both.0) to1 both.1) in
      let ring : Ring count core2 = record {
        head = spared core1 (header_address + 1) ends header (inl (omega arith))
            ∙ spared j.core data_address part header (inl (omega arith)) ∙ is.ring.head;
        end = ap right (found core1 (header_address + 1) ends 0 (omega arith) (let l = is1.core in omega arith))
            ∙ pointed count few;
        link = spared core1 (header_address + 1) ends 0o141 (inr (omega arith))
            ∙ spared j.core data_address part 0o141 (inl (omega arith)) ∙ is.ring.link;
      } in
      let o = side to kind (with_body file done) (k + 1) in
      let to3 = ring_put me j2 o both.2.0 is2 is.second (used_ready core2 is2.core count few ring)
      (subst (λ u. Steps pack u (out_event moment) Done both.2.0) to2 both.2.1) in
      let words : ring_words core2 header ≡ part =
      used_words core2 is2.core count few ring
      ∙ ap (take count) (passed core1 (header_address + 1) data_address ends (omega arith))
      ∙ written j.core data_address count part refl (let l = is.whole.core in omega arith) in
      let after : k + 1 + blocks_of (length (ring_words core2 header)) ≡ k + 1 + 1 =
      ap (λ ws. k + 1 + blocks_of (length ws)) words ∙ two count some few in
      let body : splice done (k + 1) (ring_words core2 header) ≡ done ++ part =
      ap (splice done (k + 1)) words ∙ put_at_end done (k + 1) part (start_is k ∙ sym long) in
      let o' = side to kind (with_body file (done ++ part)) (k + 1 + 1) in
      let one : k + 1 ≡ k + blocks_of count = omega (arith, one_block count some few) in
      let core3 = after_writes core2 (out_writes core2 header 7) in
      let j3 = with_core j2 core3 in
      let is3 : IsJob me j3 = job_core me j2 core3 is2 (writes_length core2 (out_writes core2 header 7)) in (
        with_open j3 2 (outputs ring_channel o'),
        both.2.2 ∙ to3 ∙ ap {A = List ℕ × ℕ}
            (λ b. at s (with_open j3 2 (outputs ring_channel (side to kind (with_body file b.0) b.1))))
            (λ i. (body i, after i)),
        subst (λ n. PutsCharacters me to kind file n (done ++ part) (with_open j3 2 (outputs ring_channel o'))) one
            (record {
              whole = job_open me j3 2 (outputs ring_channel o') is3;
              ring = used_after core2 is2.core count few ring;
              second = at_own j3 me 2 (outputs ring_channel o') is3 (omega arith);
            }),
      )
    where
      two : (n : ℕ) → 0 < n → n ≤ 128 → k + 1 + blocks_of n ≡ k + 1 + 1
      two n some few = grind arith

      pointed : (n : ℕ) → n ≤ 128 → right (join 0o010700 (data_address - 1 + n)) ≡ 0o141 + 1 + n
      pointed n few = grind arith

  -- The file is entered, and nothing of it is put yet.
  abbrev pub Begins : ℕ → Spec → ℕ → (Kind → File → SpecJob → Type 0) → State → Type 0
  Begins me spec mode W t = (j' : SpecJob) × (kind : Kind) × (t ≡ at s j')
      × W kind (made s.files (place_of me spec) mode moment []) j'
      × (is_none (get s.files (place_of me spec).ppn) ≡ false)

  pub words_begun : (me : ℕ) (j : SpecJob) (spec : Spec) (t : State) → IsJob me j → HasHalfwordExtension spec
      → AllDone pack (at s j) (create_events moment Words spec) t
      → Begins me spec dump_mode (λ kind file j'. PutsWords me (place_of me spec) kind file 0 [] j') t
  words_begun me j spec t is few all =
      let e = writes_done pack s j0 there moment me j spec t is few all in
      (e.job, e.kind, e.is, record { whole = e.whole; second = e.second }, e.directory)

  pub characters_begun : (me : ℕ) (j : SpecJob) (spec : Spec) (t : State) → IsJob me j → HasHalfwordExtension spec
      → slice_index j.core first_free ≡ rings_begin → AllDone pack (at s j) (create_events moment Characters spec) t
      → Begins me spec 0 (λ kind file j'. PutsCharacters me (place_of me spec) kind file 0 [] j') t
  characters_begun me j spec t is few free all =
      let rest : List Event = name_events new_words spec 0 ++ call_event moment (Enter 2 new_words)
      ∷ call_event moment (Outbuf 2 1)
      ∷ out_event moment ∷ [] in
      let one =
      split_done pack (at s j) (deposit_events open_words opening_words ++ call_event moment (Open 2 open_words) ∷ [])
      rest t
      (subst (λ es. AllDone pack (at s j) es t)
      (sym (append_assoc (deposit_events open_words opening_words) (call_event moment (Open 2 open_words) ∷ []) rest))
      all) in
      let core1 = after_writes j.core (placed open_words opening_words) in
      let core2 = after_writes core1 (placed header_address header_made) in
      let c2 = with_core j core2 in
      let is2 : IsJob me c2 = job_core me j core2 is (writes_length core1 (placed header_address header_made)
      ∙ writes_length j.core (placed open_words opening_words)) in
      let j2 = with_open c2 2 ring_channel in
      let to2 : one.0 ≡ at s j2 = opened_ring me j one.0 is one.1 in
      let two = split_done pack one.0 (name_events new_words spec 0 ++ call_event moment (Enter 2 new_words) ∷ [])
      (call_event moment (Outbuf 2 1) ∷ out_event moment ∷ []) t (subst (λ es. AllDone pack one.0 es t)
      (sym (append_assoc (name_events new_words spec 0) (call_event moment (Enter 2 new_words) ∷ [])
      (call_event moment (Outbuf 2 1) ∷ out_event moment ∷ []))) one.2) in
      let e = enter_done_by pack s j0 there moment me ring_channel j2 spec two.0 (job_open me c2 2 ring_channel is2) few
      (at_own c2 me 2 ring_channel is2 (omega arith))
      (subst (λ u. AllDone pack u (name_events new_words spec 0 ++ call_event moment (Enter 2 new_words) ∷ []) two.0)
      to2
      two.1) in
      let o = side (place_of me spec) e.kind (made s.files (place_of me spec) 0 moment []) 1 in
      let base : slice_index e.job.core first_free ≡ rings_begin =
      e.kept first_free (inr (omega arith)) ∙ spared core1 header_address header_made first_free (inr (omega arith))
      ∙ spared j.core open_words opening_words first_free (inr (omega arith)) ∙ free in
      let core3 = after_writes e.job.core ring_made in
      let c3 = with_core e.job core3 in
      let is3 : IsJob me c3 = job_core me e.job core3 e.whole (writes_length e.job.core ring_made) in
      let j3 = with_open c3 2 (outputs ring_channel o) in
      let to3 : two.2.0 ≡ at s j3 = made_done me e.job o two.2.0 e.whole e.second base
      (subst (λ u. Steps pack u (call_event moment (Outbuf 2 1)) Done two.2.0) e.is two.2.1) in
      let fresh = made_fresh e.job.core e.whole.core in
      let last = two.2.2 in
      let to4 = ring_put me j3 o last.0 (job_open me c3 2 (outputs ring_channel o) is3)
      (at_own c3 me 2 (outputs ring_channel o) is3 (omega arith)) (fresh_ready core3 is3.core fresh)
      (subst (λ u. Steps pack u (out_event moment) Done last.0) to3 last.1) in
      let core4 = after_writes core3 (out_writes core3 header 7) in
      let c4 = with_core j3 core4 in
      let is4 : IsJob me c4 = job_core me j3 core4 (job_open me c3 2 (outputs ring_channel o) is3)
      (writes_length core3 (out_writes core3 header 7)) in (
        with_open c4 2 (outputs ring_channel o),
        e.kind,
        last.2 ∙ to4 ∙ ap (λ ws. at s (with_open c4 2 (outputs ring_channel (record o {
          pending = record o.pending { body = splice o.pending.body o.next ws };
          next = o.next + blocks_of (length ws);
        })))) (fresh_words core3 is3.core fresh),
        record {
          whole = job_open me c4 2 (outputs ring_channel o) is4;
          ring = fresh_after core3 is3.core fresh;
          second = at_own c4 me 2 (outputs ring_channel o) is4 (omega arith);
        },
        e.directory,
      )
