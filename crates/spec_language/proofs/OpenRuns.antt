-- Channels that job 1 opens in dump mode, the file that it finds on channel 1, and the one that it enters on channel 2.
use Rattle.std.proofs.Common.{◌≡◌, ◌≢◌, ℕ, ◌+◌, ◌*◌, ◌^◌, ◌<◌, ◌≤◌, ◌||◌, Bool, true, false, if◌then◌else◌, List, []}
use Rattle.std.proofs.Common.{◌∷◌, ◌++◌, length, Some, None, refl, sym, ap, subst, ◌∙◌, arith}
use Rattle.std.specs.Prelude.{nat_le, slice_index, unwrap_or, ◌==◌}
use Rattle.std.proofs.Math.ListN.{length-set}
use Rattle.std.proofs.lemmas.List.{get_or-set_same}
use Rattle.words36.specs.Common.{left, join}
use Rattle.words36.specs.declared.moment.Moment.{Moment}
use Rattle.spec_image.specs.Common.{File, Place, SpecVersion, file_at, attributes, Pack}
use Rattle.spec_machine.specs.Common.{after_writes, placed, lies_outside, Channel, SpecJob, State, SpecOutput, job_at}
use Rattle.spec_machine.specs.Common.{channel_at, with_channel, Steps, refused_at, disk, dump_mode, open_answer}
use Rattle.spec_machine.specs.Common.{open_done, core_opened, channel_opened, place_at, own_if_zero, has_no_directory}
use Rattle.spec_machine.specs.Common.{is_absent, lookup_answer, lookup_done, looked_up, with_attributes, size_word}
use Rattle.spec_machine.specs.Common.{high_date, of_job}
use Rattle.spec_language.specs.Plans.{call_event, deposit_events, open_events, name_events, lookup_events, open_words}
use Rattle.spec_language.specs.Plans.{file_words}
use Rattle.spec_language.specs.Copies.{place_of, HasHalfwordExtension}
use Rattle.spec_language.specs.declared.command.Spec.{Spec}
use Rattle.spec_machine.specs.declared.call.Call.TheVariants.{Open, Lookup}
use Rattle.spec_machine.specs.declared.call.Reply.{Reply}
use Rattle.spec_machine.specs.declared.call.Reply.TheVariants.{Done, NoChannel, AddressCheck, Refused}
use Rattle.spec_machine.proofs.Common.{or_false, slot-set_other, writes_length, found, passed_test, is_there}
use Rattle.spec_language.proofs.PlanRuns.{AllDone, split_done}
use Rattle.spec_language.proofs.CallRuns.{at, IsJob, with_core, slot_set, call_done, on_open, row_done, deposits_done}

-- a channel that was just opened in dump mode
abbrev pub open_channel : Channel
open_channel = record {
  mode = dump_mode;
  input_header = 0;
  output_header = 0;
  status = dump_mode;
  input = None;
  output = None;
}

abbrev pub reading : Place → SpecVersion → ℕ → Channel
reading place v next = record open_channel { input = Some (record { place = place; version = v; next = next }) }

abbrev pub writing : SpecOutput → Channel
writing o = record open_channel { output = Some o }

-- the two other words of a channel's number
abbrev pub with_open : SpecJob → ℕ → Channel → SpecJob
with_open j ch c = with_channel j ch (Some c)

pub at_own : (j : SpecJob) (me ch : ℕ) (c : Channel) → IsJob me j → ch < 16 → channel_at (with_open j ch c) ch ≡ Some c
at_own j me ch c is few = slot_set j.channels ch (Some c) (let l = is.channels in omega arith)

pub at_other : (j : SpecJob) (ch k : ℕ) (c : Channel) → k ≢ ch → channel_at (with_open j ch c) k ≡ channel_at j k
at_other j ch k c differs = slot-set_other j.channels ch k (Some c) differs

pub job_core : (me : ℕ) (j : SpecJob) (core : List ℕ) → IsJob me j → length core ≡ length j.core
    → IsJob me (with_core j core)
job_core me j core is e = record { owner = is.owner; core = e ∙ is.core; channels = is.channels }

pub job_open : (me : ℕ) (j : SpecJob) (ch : ℕ) (c : Channel) → IsJob me j → IsJob me (with_open j ch c)
job_open me j ch c is = record {
  owner = is.owner;
  core = is.core;
  channels = length-set j.channels ch (Some c) ∙ is.channels;
}

-- An OPEN by three words that name dump mode and no header.
opened_core : (core : List ℕ) (a : ℕ) → slice_index core a ≡ dump_mode → core_opened core a ≡ core
opened_core core a e = rw e refl

opened_channel : (core : List ℕ) (a : ℕ) → slice_index core a ≡ dump_mode → slice_index core (a + 2) ≡ 0
    → channel_opened core a ≡ open_channel
opened_channel core a e f = rw (e, f) refl

pub open_test : (s : State) (b : Bool) (r : Reply × SpecJob) (t : State)
    → (if b then of_job s 1 r else (NoChannel, s)) ≡ (Done, t) → of_job s 1 r ≡ (Done, t)
open_test s true r t e = e
open_test s false r t e = let wrong = ap (λ x. x.0) e in cc

-- the words of an OPEN
abbrev pub opening : SpecJob → List ℕ
opening j = after_writes j.core (placed open_words (dump_mode ∷ disk ∷ 0 ∷ []))

module _ (pack : Pack) (s : State) (j0 : SpecJob) (there : job_at s 1 ≡ Some j0) (moment : Moment) where
  pub opens_done : (me : ℕ) (j : SpecJob) (ch : ℕ) (t : State) → IsJob me j
      → AllDone pack (at s j) (open_events moment ch) t
      → t ≡ at s (with_open (with_core j (opening j)) ch open_channel)
  opens_done me j ch t is all =
      let l = is.core in
      let parts = split_done pack (at s j) (deposit_events open_words (dump_mode ∷ disk ∷ 0 ∷ []))
      (call_event moment (Open ch open_words) ∷ []) t all in
      let j1 = with_core j (opening j) in
      let first = deposits_done pack s j0 there (dump_mode ∷ disk ∷ 0 ∷ []) j open_words parts.0 parts.1 in
      let call = call_done pack s j0 there j1 (Open ch open_words) moment parts.2.0
      (subst (λ u. Steps pack u (call_event moment (Open ch open_words)) Done parts.2.0) first parts.2.1) in
      let row = row_done pack s j0 there j1 (open_answer j1 ch open_words) (open_done j1 ch open_words) (λ reply. j1)
      parts.2.0 (open_test (at s j1) (nat_le ch 15) _ parts.2.0 call.1) in
      let mode : slice_index (opening j) open_words ≡ dump_mode = found j.core open_words (dump_mode ∷ disk ∷ 0 ∷ []) 0
      (omega arith) (omega arith) in
      let none : slice_index (opening j) (open_words + 2) ≡ 0 = found j.core open_words (dump_mode ∷ disk ∷ 0 ∷ []) 2
      (omega arith) (omega arith) in
      parts.2.2 ∙ row.1 ∙ ap (λ core. at s (with_channel (with_core j core) ch
      (Some (channel_opened (opening j) open_words)))) (opened_core (opening j) open_words mode)
      ∙ ap (λ c. at s (with_channel j1 ch (Some c))) (opened_channel (opening j) open_words mode none)

-- The four words that name a file, and the place that they name.

abbrev pub naming : SpecJob → ℕ → Spec → SpecJob
naming j e spec = with_core j (after_writes j.core (placed e (spec.name.name ∷ join spec.name.ext 0 ∷ 0 * 2 ^ 27
    ∷ unwrap_or spec.owner 0 ∷ [])))

left_join : (ext : ℕ) → ext < 2 ^ 18 → left (join ext 0) ≡ ext
left_join ext few = grind arith

named : (j : SpecJob) (e ppn name ext : ℕ) (me : ℕ) → j.ppn ≡ me → slice_index j.core e ≡ name
    → left (slice_index j.core (e + 1)) ≡ ext
    → slice_index j.core (e + 3) ≡ ppn
    → place_at j e ≡ record { ppn = own_if_zero ppn me; name = record { name = name; ext = ext } }
named j e ppn name ext me f g h i = rw (f, g, h, i) refl

pub place_named : (me : ℕ) (j : SpecJob) (e : ℕ) (spec : Spec) → IsJob me j → HasHalfwordExtension spec → e + 4 ≤ 4096
    → place_at (naming j e spec) e ≡ place_of me spec
place_named me j e spec is few fits =
    let l = is.core in
    let ws : List ℕ = spec.name.name ∷ join spec.name.ext 0 ∷ 0 * 2 ^ 27 ∷ unwrap_or spec.owner 0 ∷ [] in
    let at : e + 0 ≡ e = omega arith in
    let first = ap (slice_index (after_writes j.core (placed e ws))) (sym at) ∙ found j.core e ws 0 (omega arith)
    (omega arith) in
    named (naming j e spec) e (unwrap_or spec.owner 0) spec.name.name spec.name.ext me is.owner first
    (ap left (found j.core e ws 1 (omega arith) (omega arith)) ∙ left_join spec.name.ext few)
    (found j.core e ws 3 (omega arith) (omega arith))

-- A LOOKUP that is done finds a version, and reports how long it is.

looked : (s : State) (j : SpecJob) (c : Channel) (e : ℕ) (place : Place) → lookup_answer s j c e place ≡ Done
    → (v : SpecVersion) × (file_at s.files place ≡ Some v)
looked s j c e place is =
    let a = passed_test (lies_outside j.core e 4) AddressCheck _ (λ w. cc) is in
    let b = passed_test _ (Refused 5) _ (λ w. cc) a.1 in
    let d = passed_test (has_no_directory s place) (Refused 1) _ (λ w. cc) b.1 in
    let f = passed_test _ (Refused 2) _ (λ w. cc) d.1 in
    let g = passed_test ((place.name.name == 0) || is_absent s place) (Refused 0) _ (λ w. cc) f.1 in
    is_there (file_at s.files place) (or_false (place.name.name == 0) (is_absent s place) g.0).1

-- job 1 with a file that it has found
pub record Found (s : State) (me : ℕ) (spec : Spec) (j : SpecJob) (t : State) : Type 0 where
  pub job : SpecJob
  pub is : t ≡ at s job
  pub whole : IsJob me job
  pub version : SpecVersion
  pub there : file_at s.files (place_of me spec) ≡ Some version
  pub first : channel_at job 1 ≡ Some (reading (place_of me spec) version 1)
  pub second : channel_at job 2 ≡ channel_at j 2
  pub size : slice_index job.core (file_words + 3) ≡ size_word (length version.file.body)

abbrev pub attributing : Pack → List ℕ → ℕ → File → List (ℕ × ℕ)
attributing pack core e f = (e + 1, join (left (slice_index core (e + 1))) (high_date pack.layout f.date))
    ∷ (e + 2, attributes f) ∷ []

-- the core after a LOOKUP
abbrev sized : Pack → List ℕ → ℕ → File → List ℕ
sized pack core e f = after_writes (with_attributes pack.layout core e f) ((e + 3, size_word (length f.body)) ∷ [])

length-sized : (pack : Pack) (core : List ℕ) (e : ℕ) (f : File) → length (sized pack core e f) ≡ length core
length-sized pack core e f = writes_length (with_attributes pack.layout core e f)
    ((e + 3, size_word (length f.body)) ∷ []) ∙ writes_length core (attributing pack core e f)

sized_at : (pack : Pack) (core : List ℕ) (e : ℕ) (f : File) → e + 3 < length core
    → slice_index (sized pack core e f) (e + 3) ≡ size_word (length f.body)
sized_at pack core e f fits = get_or-set_same (with_attributes pack.layout core e f) (e + 3)
    (size_word (length f.body)) 0 (omega (arith, writes_length core (attributing pack core e f)))

module _ (pack : Pack) (s : State) (j0 : SpecJob) (there : job_at s 1 ≡ Some j0) (moment : Moment) where
  pub finds_done : (me : ℕ) (j : SpecJob) (spec : Spec) (t : State) → IsJob me j → HasHalfwordExtension spec
      → AllDone pack (at s j) (lookup_events moment spec) t → Found s me spec j t
  finds_done me j spec t is few all =
      let last = split_done pack (at s j) (open_events moment 1 ++ name_events file_words spec 0)
      (call_event moment (Lookup 1 file_words) ∷ []) t all in
      let both = split_done pack (at s j) (open_events moment 1) (name_events file_words spec 0) last.0 last.1 in
      let j1 = with_open (with_core j (opening j)) 1 open_channel in
      let is1 : IsJob me j1 = job_open me (with_core j (opening j)) 1 open_channel
      (job_core me j (opening j) is (writes_length j.core (placed open_words (dump_mode ∷ disk ∷ 0 ∷ [])))) in
      let first = opens_done pack s j0 there moment me j 1 both.0 is both.1 in
      let ws : List ℕ = spec.name.name ∷ join spec.name.ext 0 ∷ 0 * 2 ^ 27 ∷ unwrap_or spec.owner 0 ∷ [] in
      let j2 = naming j1 file_words spec in
      let is2 : IsJob me j2 = job_core me j1 (after_writes j1.core (placed file_words ws)) is1
      (writes_length j1.core (placed file_words ws)) in
      let second = deposits_done pack s j0 there ws j1 file_words last.0
      (subst (λ u. AllDone pack u (name_events file_words spec 0) last.0) first both.2) in
      let call = call_done pack s j0 there j2 (Lookup 1 file_words) moment last.2.0
      (subst (λ u. Steps pack u (call_event moment (Lookup 1 file_words)) Done last.2.0) second last.2.1) in
      let open1 : channel_at j2 1 ≡ Some open_channel = at_own (with_core j (opening j)) me 1 open_channel
      (job_core me j (opening j) is (writes_length j.core (placed open_words (dump_mode ∷ disk ∷ 0 ∷ []))))
      (omega arith) in
      let row = row_done pack s j0 there j2
      (lookup_answer (at s j2) j2 open_channel file_words (place_at j2 file_words))
      (lookup_done pack (at s j2) j2 1 open_channel file_words (place_at j2 file_words)) (refused_at j2 file_words)
      last.2.0 (on_open pack s j0 there j2 1 open_channel _ last.2.0 open1 call.1) in
      let place = place_named me j1 file_words spec is1 few (omega arith) in
      let v = looked (at s j2) j2 open_channel file_words (place_of me spec)
      (subst (λ p. lookup_answer (at s j2) j2 open_channel file_words p ≡ Done) place row.0) in
      let core = sized pack j2.core file_words v.0.file in
      let j3 = with_open (with_core j2 core) 1 (reading (place_of me spec) v.0 1) in
      let ends : last.2.0 ≡ at s j3 = row.1
      ∙ ap (λ p. at s (lookup_done pack (at s j2) j2 1 open_channel file_words p)) place
      ∙ ap (λ o. at s (looked_up pack j2 1 open_channel file_words (place_of me spec) o)) v.1 in
      let is3 : IsJob me (with_core j2 core) =
      job_core me j2 core is2 (length-sized pack j2.core file_words v.0.file) in
      record {
        job = j3;
        is = last.2.2 ∙ ends;
        whole = job_open me (with_core j2 core) 1 (reading (place_of me spec) v.0 1) is3;
        version = v.0;
        there = v.1;
        first = at_own (with_core j2 core) me 1 (reading (place_of me spec) v.0 1) is3 (omega arith);
        second = at_other (with_core j2 core) 1 2 (reading (place_of me spec) v.0 1) (λ e. cc)
            ∙ at_other (with_core j (opening j)) 1 2 open_channel (λ e. cc);
        size = sized_at pack j2.core file_words v.0.file (let l = is2.core in omega arith);
      }
