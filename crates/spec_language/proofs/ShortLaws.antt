-- No event makes a body longer than a file may be.
use Rattle.std.proofs.Common.{◌≡◌, ⊎_elim, ℕ, ◌+◌, ◌≤◌, Bool, true, false, ◌||◌, if◌then◌else◌, List, [], ◌∷◌, length}
use Rattle.std.proofs.Common.{Option, Some, None, refl, sym, ap, subst, ◌∙◌, arith}
use Rattle.std.specs.Prelude.{nat_lt, nat_le, ◌==◌, ◌&&◌, not, slice_set, option_map}
use Rattle.std.proofs.lemmas.Bool.Decides.{nat_tests}
use Rattle.words36.specs.declared.moment.Moment.{Moment}
use Rattle.spec_image.specs.Common.{get, insert, remove, Files, File, Directory, Place, map_directory, SpecVersion}
use Rattle.spec_image.specs.Common.{file_at, file_in, without_serials, without_file, with_protection, splice}
use Rattle.spec_image.specs.Common.{length_after, Pack, blocks_of, files_limited, Stands, StoredFile, StoredDirectory}
use Rattle.spec_image.specs.Common.{directory_of}
use Rattle.spec_machine.specs.Common.{Channel, SpecInput, SpecOutput, Update, Append, SpecJob, State, job_at}
use Rattle.spec_machine.specs.Common.{channel_at}
use Rattle.spec_machine.specs.Common.{with_job, with_channel, slot, output_of, settled, clean, stopped_in, refused_at}
use Rattle.spec_machine.specs.Common.{opens, open_answer, open_done, ring_answer, ring_made, core_or, core_opened}
use Rattle.spec_machine.specs.Common.{channel_opened, after_writes, lookup_answer, lookup_done, looked_up, place_at}
use Rattle.spec_machine.specs.Common.{digit_at, with_attributes, size_word, enter_answer, enter_done, output_opened}
use Rattle.spec_machine.specs.Common.{in_answer, in_done, core_filled, words_ahead, words_moved, moved_on}
use Rattle.spec_machine.specs.Common.{useti_answer, useti_done, Outgoing, longest, finds_no_place, place_answer}
use Rattle.spec_machine.specs.Common.{put_answer, out_answer, outgoing, put_on, put_done, out_done, useto_answer}
use Rattle.spec_machine.specs.Common.{useto_done, output_at, output_updating, input_updating, may_update, output_for}
use Rattle.spec_machine.specs.Common.{close_answer, close_done, files_closed, files_with, output_put, publishes}
use Rattle.spec_machine.specs.Common.{last_buffer, last_answer, words_or_none, published, core_closed, keeps_output}
use Rattle.spec_machine.specs.Common.{channel_closed, rename_answer, rename_done, files_renamed, files_from}
use Rattle.spec_machine.specs.Common.{files_moved, deletes_at, protection_at, make_answer, remove_answer, owner_at}
use Rattle.spec_machine.specs.Common.{directory_made, limit_answer, quota_at, login_answer, new_job, deposit_answer}
use Rattle.spec_machine.specs.Common.{deposit_done, resets, step, last_date, on_job, on_channel, of_job, of_files}
use Rattle.spec_machine.specs.Common.{call_of, Answers, AnswersAll, Serving, Broken, IsStart}
use Rattle.spec_language.specs.Copies.{AreShort, IsShort}
use Rattle.spec_machine.specs.declared.call.Reply.{Reply}
use Rattle.spec_machine.specs.declared.call.Reply.TheVariants.{Done, Refused, AddressCheck, NoChannel, DateRange}
use Rattle.spec_machine.specs.declared.call.Call.{Call}
use Rattle.spec_machine.specs.declared.call.Call.TheVariants.{Open, Inbuf, Outbuf, Lookup, Enter, Rename, In, Out}
use Rattle.spec_machine.specs.declared.call.Call.TheVariants.{Useti, Useto, Close, Releas, Getsts, Reset, MakeDir}
use Rattle.spec_machine.specs.declared.call.Call.TheVariants.{DeleteDir, Quota}
use Rattle.spec_machine.specs.declared.call.Event.{Event}
use Rattle.spec_machine.specs.declared.call.Event.TheVariants.{Login, Deposit, Examine, Call as Calls}
use Rattle.spec_image.proofs.Common.{found_with_file, found_without_file, found_with_directory}
use Rattle.spec_image.proofs.Common.{found_without_directory, file_at-limited, length-splice, some_same}
use Rattle.spec_image.proofs.Common.{get-map_values, name_total, image}
use Rattle.spec_machine.proofs.Common.{make_needs, settled_by, stopped_by, refused_by, slot-set_cases, slot-empty}
use Rattle.spec_machine.proofs.Common.{serving_same, not_broken, broken_stays, passed_test, placed_needs}
use Rattle.blockdisk.specs.Common.{Contents}
use Rattle.words36.specs.declared.names.FileName.{FileName}
use Rattle.std.specs.Cmp.{nat_cmp_total}

-- Sides and jobs that write nothing longer.

abbrev pub ShortSide : Option SpecOutput → Type 0
ShortSide side = (o : SpecOutput) → side ≡ Some o → length o.pending.body ≤ longest

abbrev pub ShortJob : SpecJob → Type 0
ShortJob job = (ch : ℕ) → ShortSide (output_of (channel_at job ch))

pub nothing : ShortSide None
nothing o e = let wrong : None ≡ Some o = e in cc

pub short_with : (job : SpecJob) → ShortJob job → (core : List ℕ) (ch : ℕ) (c : Option Channel)
    → ShortSide (output_of c)
    → ShortJob (with_channel (record job { core = core }) ch c)
short_with job own core ch c side k o is = ⊎_elim
    (λ here. side o (ap output_of (sym here.0) ∙ is))
    (λ other. own k o (ap output_of (sym other) ∙ is)) (slot-set_cases job.channels ch k c)

pub short_state : (s : State) → IsShort s → (n : ℕ) (job : SpecJob) (files : Files SpecVersion) → AreShort files
    → ShortJob job
    → IsShort (record s { files = files; jobs = slice_set s.jobs n (Some job) })
short_state s short n job files few own = record {
  files = few;
  pending = λ m ch o is. ⊎_elim (λ here. own ch o (ap (output_for ch) (sym here.0) ∙ is))
      (λ other. short.pending m ch o (ap (output_for ch) (sym other) ∙ is)) (slot-set_cases s.jobs n m (Some job));
}

-- Words that are put.

placed_few : (count len after : ℕ) (b c d : Bool)
    → (not (count == 0) && (nat_lt longest after || b || c || d)) ≡ false → len ≤ longest → (count ≡ 0 → after ≡ len)
    → after ≤ longest
placed_few count len after b c d none few same = by (count == 0) refl
  where
    zero_is : (count == 0) ≡ true → count ≡ 0
    zero_is e = grind (arith, nat_tests)

    below : (x : Bool) → (true && (x || b || c || d)) ≡ false → x ≡ false
    below true e = let wrong = e in cc
    below false e = refl

    at_most : (a : ℕ) → nat_lt longest a ≡ false → a ≤ longest
    at_most a e = grind (arith, nat_tests)

    by : (z : Bool) → (count == 0) ≡ z → after ≤ longest
    by true e = omega (arith, same (zero_is e))
    by false e = at_most after (below (nat_lt longest after)
        (sym (ap (λ z. not z && (nat_lt longest after || b || c || d)) e) ∙ none))

none_after : (len next count : ℕ) → count ≡ 0 → length_after len next count ≡ len
none_after len next count e = rw e refl

pub put_short : (pack : Pack) (s : State) (o : SpecOutput) (words : List ℕ)
    → finds_no_place pack s o (length words) ≡ false
    → length o.pending.body ≤ longest → length (splice o.pending.body o.next words) ≤ longest
put_short pack s o words none few =
    omega (
      arith,
      length-splice o.pending.body o.next words,
      placed_few (length words) (length o.pending.body)
          (length_after (length o.pending.body) o.next (length words)) _ _ _ none few
          (none_after (length o.pending.body) o.next (length words)),
    )

-- An OUT that is done, and the last words of a CLOSE.

put_fits : (pack : Pack) (s : State) (c : Channel) (side : Option SpecOutput) (found : Option Outgoing) (o : SpecOutput)
    (f : Outgoing) → put_answer pack s c side found ≡ Done → side ≡ Some o → found ≡ Some f
    → finds_no_place pack s o (length f.words) ≡ false
put_fits pack s c None found o f e is at = let wrong : None ≡ Some o = is in cc
put_fits pack s c (Some p) None o f e is at = let wrong : None ≡ Some f = at in cc
put_fits pack s c (Some p) (Some g) o f e is at =
    let h = placed_needs pack s c p g.words
    (passed_test _ (Refused 5) (place_answer pack s c p g.words) (λ w. cc) e).1 in
    subst (λ q. finds_no_place pack s q (length f.words) ≡ false) (some_same is)
    (subst (λ (q : Outgoing). finds_no_place pack s p (length q.words) ≡ false) (some_same at) h)

put_side : (pack : Pack) (s : State) (side : Option SpecOutput) (words : List ℕ) → ShortSide side
    → ((o : SpecOutput) → side ≡ Some o → finds_no_place pack s o (length words) ≡ false)
    → ShortSide (put_on side words)
put_side pack s None words few fits = nothing
put_side pack s (Some p) words few fits = λ o is.
    subst (λ (q : SpecOutput). length q.pending.body ≤ longest) (some_same is)
    (put_short pack s p words (fits p refl) (few p refl))

last_fits : (pack : Pack) (s : State) (c : Channel) (side : Option SpecOutput) (last : Option (List ℕ))
    → last_answer pack s c side last ≡ Done → (o : SpecOutput) → side ≡ Some o
    → finds_no_place pack s o (length (words_or_none last)) ≡ false
last_fits pack s c None last e o is = let wrong : None ≡ Some o = is in cc
last_fits pack s c (Some p) None e o is = let wrong : AddressCheck ≡ Done = e in cc
last_fits pack s c (Some p) (Some words) e o is =
    subst (λ q. finds_no_place pack s q (length words) ≡ false) (some_same is) (placed_needs pack s c p words e)

published_short : (serial : ℕ) (files : Files SpecVersion) (side : Option SpecOutput) → AreShort files → ShortSide side
    → AreShort (files_with files serial side)
published_short serial files None few short = few
published_short serial files (Some o) few short = λ q w is. ⊎_elim (few q w)
    (λ same. subst (λ (x : SpecVersion). length x.file.body ≤ longest) (sym same) (short o refl))
    (found_with_file files o.place (published serial o) q w is)

closed_short : (pack : Pack) (serial : ℕ) (s : State) (job : SpecJob) (c : Channel) (bits : ℕ) → AreShort s.files
    → ShortSide c.output → close_answer pack s job c bits ≡ Done → AreShort (files_closed serial s.files job c bits)
closed_short pack serial s job c bits few short e = by (publishes c bits) refl
  where
    by : (b : Bool) → publishes c bits ≡ b
        → AreShort (if b then files_with s.files serial (output_put job c) else s.files)
    by false f = few
    by true f = published_short serial s.files (output_put job c) few (put_side pack s c.output
        (words_or_none (last_buffer job c)) short
        (last_fits pack s c c.output (last_buffer job c) (sym (ap (λ b. if b then last_answer pack s c c.output
        (last_buffer job c) else Done) f) ∙ e)))

-- Files that a RENAME and a removal leave.

moved_short : (files : Files SpecVersion) (old new : Place) (protection : ℕ) (found : Option SpecVersion)
    → file_at files old ≡ found → AreShort files → AreShort (files_moved files old new protection found)
moved_short files old new protection None e few = few
moved_short files old new protection (Some v) e few = λ q w is. ⊎_elim
    (λ was. few q w (found_without_file files old q w was))
    (λ same. subst (λ (x : SpecVersion). length x.file.body ≤ longest) (sym same) (few old v e))
    (found_with_file (without_file files old) new (with_protection v protection) q w is)

from_short : (files : Files SpecVersion) (job : SpecJob) (e : ℕ) (old : Place) → AreShort files
    → AreShort (files_from files job e old)
from_short files job e old few = by (deletes_at job e)
  where
    by : (b : Bool) → AreShort (if b then without_file files old
        else files_moved files old (place_at job e) (protection_at job e) (file_at files old))
    by true = λ q w is. few q w (found_without_file files old q w is)
    by false = moved_short files old (place_at job e) (protection_at job e) (file_at files old) refl few

renamed_short : (files : Files SpecVersion) (job : SpecJob) (e : ℕ) (input : Option SpecInput) → AreShort files
    → AreShort (files_renamed files job e input)
renamed_short files job e None few = few
renamed_short files job e (Some i) few = from_short files job e i.place few

-- What an ENTER opens.
updating_short : (digit : ℕ) (place : Place) (v : SpecVersion) → length v.file.body ≤ longest
    → length (output_updating digit place v).pending.body ≤ longest
updating_short digit place v few = by (may_update digit)
  where
    either : Bool → SpecOutput
    either b = if b then record { place = place; kind = Update; pending = v.file; next = 1 }
        else record {
          place = place;
          kind = Append (blocks_of (length v.file.body));
          pending = v.file;
          next = blocks_of (length v.file.body) + 1;
        }

    by : (b : Bool) → length (either b).pending.body ≤ longest
    by true = few
    by false = few

opened_short : (files : Files SpecVersion) (job : SpecJob) (c : Channel) (e : ℕ) (moment : Moment) (place : Place)
    (digit : ℕ)
    (input : Option SpecInput) (found : Option SpecVersion) → file_at files place ≡ found → AreShort files
    → length (output_opened job c e moment place digit input found).pending.body ≤ longest
opened_short files job c e moment place digit input None is few = omega arith
opened_short files job c e moment place digit None (Some v) is few = omega arith
opened_short files job c e moment place digit (Some i) (Some v) is few = updating_short digit place v (few place v is)

-- The rows of one job.
module _ (pack : Pack) (serial : ℕ) (s : State) (short : IsShort s) (n : ℕ) (job : SpecJob) (there : job_at s n
    ≡ Some job) where
  own : ShortJob job
  own ch o is = short.pending n ch o (ap (output_for ch) there ∙ is)

  side_of : (ch : ℕ) (c : Channel) → channel_at job ch ≡ Some c → ShortSide c.output
  side_of ch c is o e = own ch o (ap output_of is ∙ e)

  by_job : (j : SpecJob) → ShortJob j → IsShort (of_job s n (Done, j)).1
  by_job j few = short_state s short n j s.files short.files few

  -- of a settled row that changes only its own job
  by_row : (reply : Reply) (done : SpecJob) (other : Reply → SpecJob) → (reply ≡ Done → ShortJob done)
      → ((r : Reply) → ShortJob (other r)) → IsShort (of_job s n (settled reply done other)).1
  by_row reply done other d o = settled_by (λ r. IsShort (of_job s n r).1) reply done other
      (λ is. by_job done (d is)) (λ differs. by_job (other reply) (o reply))

  stopped_short : (ch : ℕ) (c : Channel) → channel_at job ch ≡ Some c → (r : Reply) → ShortJob (stopped_in job ch c r)
  stopped_short ch c is r = stopped_by ShortJob job ch c r own
      (λ status. short_with job own job.core ch (Some (record c { status = status })) (side_of ch c is))

  refused_short : (e : ℕ) (r : Reply) → ShortJob (refused_at job e r)
  refused_short e r = refused_by ShortJob job e r (λ core. own)

  found_short : (ch e : ℕ) (c : Channel) (place : Place) (found : Option SpecVersion) → channel_at job ch ≡ Some c
      → ShortJob (looked_up pack job ch c e place found)
  found_short ch e c place None is = own
  found_short ch e c place (Some v) is = short_with job own
      (after_writes (with_attributes pack.layout job.core e v.file) ((e + 3, size_word (length v.file.body)) ∷ [])) ch
      (Some (record (clean c) { input = Some (record { place = place; version = v; next = 1 }) })) (side_of ch c is)

  out_short : (ch a : ℕ) (c : Channel) → channel_at job ch ≡ Some c → out_answer pack s job c a ≡ Done
      → ShortJob (out_done job ch c a)
  out_short ch a c is done = by (outgoing job c a) refl
    where
      by : (found : Option Outgoing) → outgoing job c a ≡ found → ShortJob (put_done job ch c found)
      by None e = own
      by (Some f) e = short_with job own f.core ch (Some (record (clean c) { output = put_on c.output f.words }))
          (put_side pack s c.output f.words (side_of ch c is)
          (λ o at. put_fits pack s c c.output (outgoing job c a) o f done at e))

  at_short : (side : Option SpecOutput) (k : ℕ) → ShortSide side → ShortSide (output_at side k)
  at_short None k few = nothing
  at_short (Some o) k few = λ p is. subst (λ (q : SpecOutput). length q.pending.body ≤ longest) (some_same is)
      (few o refl)

  by_files : (reply : Reply) (done : SpecJob) (files : Files SpecVersion) (other : Reply → SpecJob)
      → (reply ≡ Done → ShortJob done × AreShort files) → ((r : Reply) → ShortJob (other r))
      → IsShort (of_files s n (settled reply (done, files) (λ r. (other r, s.files)))).1
  by_files reply done files other d o =
      settled_by {A = SpecJob × Files SpecVersion} (λ r. IsShort (of_files s n r).1) reply (done, files)
      (λ r. (other r, s.files))
      (λ is. let both = d is in short_state s short n done files both.1 both.0)
      (λ differs. short_state s short n (other reply) s.files short.files (o reply))

  kept_side : (keeps : Bool) (side : Option SpecOutput) → ShortSide side → ShortSide (if keeps then side else None)
  kept_side true side few = few
  kept_side false side few = nothing

  entered_short : (ch : ℕ) (c : Channel) (e : ℕ) (moment : Moment)
      → ShortJob (enter_done pack s job ch c e moment (place_at job e))
  entered_short ch c e moment =
      let place = place_at job e in
      let o = output_opened job c e moment place (digit_at s job place) c.input (file_at s.files place) in
      short_with job own (with_attributes pack.layout job.core e o.pending) ch
      (Some (record (clean c) { input = input_updating c.input (file_at s.files place); output = Some o }))
      (λ p is. subst (λ (q : SpecOutput). length q.pending.body ≤ longest) (some_same is)
      (opened_short s.files job c e moment place (digit_at s job place) c.input
      (file_at s.files place) refl short.files))

  open_short : (ch a : ℕ) (b : Bool) → IsShort (if b then of_job s n (opens job ch a) else (NoChannel, s)).1
  open_short ch a true = by_row (open_answer job ch a) (open_done job ch a) (λ r. job)
      (λ is. short_with job own (core_opened job.core a) ch (Some (channel_opened job.core a)) nothing) (λ r. own)
  open_short ch a false = short

  on_channel_short : (row : Channel → Reply × State) (o : Option Channel)
      → ((c : Channel) → o ≡ Some c → IsShort (row c).1) → IsShort (on_channel s o row).1
  on_channel_short row None h = short
  on_channel_short row (Some c) h = h c refl

  call_short : (call : Call) (moment : Moment) → IsShort (call_of pack serial s n job call moment).1
  call_short (Open ch a) moment = open_short ch a (nat_le ch 15)
  call_short (Inbuf ch k) moment = on_channel_short _ (channel_at job ch) (λ c is.
      by_row (ring_answer job c c.input_header k)
      (with_channel (record job { core = core_or job.core (ring_made job c c.input_header k) }) ch (Some (clean c)))
      (λ r. job) (λ done. short_with job own (core_or job.core (ring_made job c c.input_header k)) ch (Some (clean c))
      (side_of ch c is)) (λ r. own))
  call_short (Outbuf ch k) moment = on_channel_short _ (channel_at job ch) (λ c is.
      by_row (ring_answer job c c.output_header k)
      (with_channel (record job { core = core_or job.core (ring_made job c c.output_header k) }) ch (Some (clean c)))
      (λ r. job) (λ done. short_with job own (core_or job.core (ring_made job c c.output_header k)) ch (Some (clean c))
      (side_of ch c is)) (λ r. own))
  call_short (Lookup ch e) moment = on_channel_short _ (channel_at job ch) (λ c is.
      by_row (lookup_answer s job c e (place_at job e)) (lookup_done pack s job ch c e (place_at job e))
      (refused_at job e)
      (λ done. found_short ch e c (place_at job e) (file_at s.files (place_at job e)) is) (refused_short e))
  call_short (Enter ch e) moment = on_channel_short _ (channel_at job ch) (λ c is.
      by_row (enter_answer pack s job c e (place_at job e)) (enter_done pack s job ch c e moment (place_at job e))
      (refused_at job e)
      (λ done. entered_short ch c e moment) (refused_short e))
  call_short (Rename ch e) moment = on_channel_short _ (channel_at job ch) (λ c is.
      by_files (rename_answer pack s job c e) (rename_done job ch c) (files_renamed s.files job e c.input)
      (refused_at job e)
      (λ done. (
        short_with job own job.core ch (Some (record (clean c) { input = None })) (side_of ch c is),
        renamed_short s.files job e c.input short.files,
      )) (refused_short e))
  call_short (In ch a) moment = on_channel_short _ (channel_at job ch) (λ c is.
      by_row (in_answer job c a) (in_done job ch c a) (stopped_in job ch c)
      (λ done. short_with job own (core_filled job c a (words_ahead c.input c.output)) ch
      (Some (record (clean c) { input = moved_on c.input (blocks_of (words_moved job c a)) })) (side_of ch c is))
      (stopped_short ch c is))
  call_short (Out ch a) moment = on_channel_short _ (channel_at job ch) (λ c is.
      by_row (out_answer pack s job c a) (out_done job ch c a) (stopped_in job ch c) (out_short ch a c is)
      (stopped_short ch c is))
  call_short (Useti ch k) moment = on_channel_short _ (channel_at job ch) (λ c is.
      by_row (useti_answer c k) (with_channel job ch (Some (useti_done c k))) (stopped_in job ch c)
      (λ done. short_with job own job.core ch (Some (useti_done c k)) (side_of ch c is)) (stopped_short ch c is))
  call_short (Useto ch k) moment = on_channel_short _ (channel_at job ch) (λ c is.
      by_row (useto_answer c k) (with_channel job ch (Some (useto_done c k))) (stopped_in job ch c)
      (λ done. short_with job own job.core ch (Some (useto_done c k)) (at_short c.output k (side_of ch c is)))
      (stopped_short ch c is))
  call_short (Close ch bits) moment = on_channel_short _ (channel_at job ch) (λ c is.
      by_files (close_answer pack s job c bits) (close_done serial job ch c bits)
      (files_closed serial s.files job c bits)
      (stopped_in job ch c)
      (λ done. (
        short_with job own (core_closed job.core c bits) ch (Some (channel_closed serial job c bits))
            (kept_side (keeps_output bits) c.output (side_of ch c is)),
        closed_short pack serial s job c bits short.files (side_of ch c is) done,
      )) (stopped_short ch c is))
  call_short (Releas ch) moment = on_channel_short _ (channel_at job ch) (λ c is.
      by_files (close_answer pack s job c 0) (with_channel (record job { core = core_closed job.core c 0 }) ch None)
      (files_closed serial s.files job c 0) (stopped_in job ch c)
      (λ done. (
        short_with job own (core_closed job.core c 0) ch None nothing,
        closed_short pack serial s job c 0 short.files (side_of ch c is) done,
      )) (stopped_short ch c is))
  call_short (Getsts ch) moment = on_channel_short _ (channel_at job ch) (λ c is. short)
  call_short Reset moment = by_job (resets job).1
      (λ ch o is. nothing o (sym (ap output_of (slot-empty 16 ch)) ∙ is))
  call_short (MakeDir e) moment =
      by_files (make_answer pack s job e (owner_at job e)) job (insert s.files (owner_at job e) (directory_made job e))
      (refused_at job e)
      (λ done. (
        own,
        λ q w is. short.files q w (found_with_directory s.files (owner_at job e) _ 0
            (make_needs pack s job e (owner_at job e) done).0 q w is),
      )) (refused_short e)
  call_short (DeleteDir e) moment =
      by_files (remove_answer s job e (owner_at job e)) job (remove s.files (owner_at job e)) (refused_at job e)
      (λ done. (own, λ q w is. short.files q w (found_without_directory s.files (owner_at job e) q w is)))
      (refused_short e)
  call_short (Quota e) moment =
      by_files (limit_answer pack s job e (owner_at job e)) job
      (files_limited s.files (owner_at job e) (quota_at job e)) (refused_at job e)
      (λ done. (
        own,
        λ q w is. short.files q w (sym (file_at-limited s.files (owner_at job e) (quota_at job e) q) ∙ is),
      )) (refused_short e)

-- Events and runs.

short_on_job : (s : State) → IsShort s → (row : SpecJob → Reply × State) (o : Option SpecJob)
    → ((job : SpecJob) → o ≡ Some job → IsShort (row job).1) → IsShort (on_job s o row).1
short_on_job s short row None h = short
short_on_job s short row (Some job) h = h job refl

short_in_time : (s : State) → IsShort s → (late : Bool) (r : Reply × State) → IsShort r.1
    → IsShort (if late then (DateRange, s) else r).1
short_in_time s short true r h = short
short_in_time s short false r h = h

pub short_step : (pack : Pack) (serial : ℕ) (s : State) (event : Event) → IsShort s
    → IsShort (step pack serial s event).1
short_step pack serial s (Login n ppn words) short =
    settled_by (λ r. IsShort r.1) (login_answer n words) (with_job s n (new_job ppn words)) (λ r. s)
    (λ is. short_state s short n (new_job ppn words) s.files short.files
    (λ ch o e. nothing o (sym (ap output_of (slot-empty 16 ch)) ∙ e))) (λ differs. short)
short_step pack serial s (Deposit n address word) short = short_on_job s short _ (job_at s n) (λ job there.
    settled_by (λ r. IsShort r.1) (deposit_answer job address) (with_job s n (deposit_done job address word)) (λ r. s)
    (λ is. short_state s short n (deposit_done job address word) s.files short.files
    (λ ch o e. short.pending n ch o (ap (output_for ch) there ∙ e))) (λ differs. short))
short_step pack serial s (Examine n address) short = short_on_job s short _ (job_at s n) (λ job there. short)
short_step pack serial s (Calls n call moment) short =
    short_in_time s short (nat_lt (last_date pack.layout) moment.date) _
    (short_on_job s short _ (job_at s n) (λ job there. call_short pack serial s short n job there call moment))

short_answers : (pack : Pack) (s t : State) (event : Event) (reply : Reply)
    → Answers pack (Serving s) event reply (Serving t) → IsShort s → IsShort t
short_answers pack s t event reply a short = ⊎_elim
    (λ steps. subst (λ (r : Reply × State). IsShort r.1) steps.2 (short_step pack steps.0 s event short))
    (λ none. subst IsShort (sym none.1) short) a

pub short_run : (pack : Pack) (s t : State) (events : List Event) (replies : List Reply)
    → AnswersAll pack (Serving s) events replies (Serving t) → IsShort s → IsShort t
short_run pack s t [] [] r short = subst IsShort (sym (serving_same r)) short
short_run pack s t [] (reply ∷ replies) r short = absurd r
short_run pack s t (event ∷ events) [] r short = absurd r
short_run pack s t (event ∷ events) (reply ∷ replies) (Serving mid, a, r) short = short_run pack mid t events replies r
    (short_answers pack s mid event reply a short)
short_run pack s t (event ∷ events) (reply ∷ replies) (Broken, a, r) short = absurd
    (not_broken (broken_stays pack events replies (Serving t) r))

-- A start, from the files of a disk.

abbrev HasShortFiles : Files File → Type 0
HasShortFiles files = (ppn : ℕ) (d : Directory File) (name : FileName) (f : File) → get files ppn ≡ Some d
    → get d.files name ≡ Some f → length f.body ≤ longest

standing_short : (size : ℕ) (contents : Contents) (files : Files File) → Stands size contents files
    → HasShortFiles files
standing_short size contents files (settled, is, (m, has, same)) ppn d name f at there =
    let found = image directory_of (get m.directories ppn) d
    (sym (get-map_values nat_cmp_total directory_of m.directories ppn) ∙ ap (λ fs. get fs ppn) same ∙ at) in
    let stored : StoredDirectory = found.0 in
    let file = image (λ (g : StoredFile). g.file) (get stored.files name) f
    (sym (get-map_values name_total (λ (g : StoredFile). g.file) stored.files name)
    ∙ ap (λ (x : Directory File). get x.files name) found.2 ∙ there) in
    let whole = has.mapped.directories ppn stored found.1 in
    let few = (whole.files name file.0 file.1).retrieved.fits.few in
    subst (λ (x : File). length x.body ≤ longest) file.2 few

with_files_short : (s : State) → HasShortFiles (without_serials s.files) → AreShort s.files
with_files_short s few place v is = at (get s.files place.ppn) refl is
  where
    at : (o : Option (Directory SpecVersion)) → get s.files place.ppn ≡ o → file_in o place.name ≡ Some v
        → length v.file.body ≤ longest
    at None e h = let wrong : None ≡ Some v = h in cc
    at (Some d) e h = few place.ppn (map_directory (λ (w : SpecVersion). w.file) d) place.name v.file
        (get-map_values nat_cmp_total (map_directory (λ (w : SpecVersion). w.file)) s.files place.ppn
        ∙ ap (option_map (map_directory (λ (w : SpecVersion). w.file))) e)
        (get-map_values name_total (λ (w : SpecVersion). w.file) d.files place.name
        ∙ ap (option_map (λ (w : SpecVersion). w.file)) h)

start_short : (found : Files File) (s : State) → HasShortFiles found → IsStart found s → IsShort s
start_short found s few start = record {
  files = with_files_short s (subst HasShortFiles (sym start.files) few);
  pending = λ n ch o h.
      let none : job_at s n ≡ None = ap (λ jobs. slot jobs n) start.jobs ∙ slot-empty 65 n in
      let wrong : None ≡ Some o = ap (output_for ch) (sym none) ∙ h in
      cc;
}

pub bodies_stay_short : (pack : Pack) (size : ℕ) (contents : Contents) (found : Files File) (s t : State)
    (events : List Event) (replies : List Reply) → Stands size contents found → IsStart found s
    → AnswersAll pack (Serving s) events replies (Serving t) → IsShort t
bodies_stay_short pack size contents found s t events replies stands start run =
    short_run pack s t events replies run (start_short found s (standing_short size contents found stands) start)
