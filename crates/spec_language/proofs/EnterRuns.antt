-- The file that job 1 enters on channel 2, and the command list of its block.
use Rattle.std.proofs.Common.{◌≡◌, ◌⊎◌, inl, inr, ℕ, suc, ◌+◌, ◌-◌, ◌*◌, ◌%◌, ◌^◌, ◌<◌, ◌≤◌, Bool, true, false}
use Rattle.std.proofs.Common.{if◌then◌else◌, List, [], ◌∷◌, ◌++◌, length, Option, Some, None, option_map, refl, ap}
use Rattle.std.proofs.Common.{subst, ◌∙◌, arith, ⊎_elim, append_assoc}
use Rattle.std.specs.Prelude.{nat_lt, nat_le, is_none, slice_index, unwrap_or, ◌==◌}
use Rattle.std.proofs.lemmas.Bool.Decides.{nat_tests}
use Rattle.words36.specs.Common.{left, right, join}
use Rattle.words36.specs.declared.moment.Moment.{Moment}
use Rattle.spec_image.specs.Common.{get, Files, File, Place, SpecVersion, file_at, attributes, Pack}
use Rattle.spec_machine.specs.Common.{after_writes, placed, lies_outside, Channel, SpecJob, State, SpecOutput, Kind}
use Rattle.spec_machine.specs.Common.{Create}
use Rattle.spec_machine.specs.Common.{Supersede, job_at, channel_at, Steps, clean, refused_at, disk, dump_mode}
use Rattle.spec_machine.specs.Common.{place_at, has_no_directory, digit_at, high_date, enter_answer, enter_done}
use Rattle.spec_machine.specs.Common.{entered, output_opened, dump_list, areas_from, area_of, next_command, limited}
use Rattle.spec_machine.specs.Common.{word_count}
use Rattle.spec_machine.specs.declared.area.Area.{Area}
use Rattle.spec_language.specs.Plans.{call_event, open_events, name_events, enter_events, new_words, list_words}
use Rattle.spec_language.specs.Plans.{block_address}
use Rattle.spec_language.specs.Plans.{open_words}
use Rattle.spec_language.specs.Copies.{place_of, HasHalfwordExtension, made}
use Rattle.spec_language.specs.declared.command.Spec.{Spec}
use Rattle.spec_machine.specs.declared.call.Call.TheVariants.{Enter}
use Rattle.spec_machine.specs.declared.call.Reply.TheVariants.{Done, AddressCheck, Refused}
use Rattle.spec_language.proofs.PlanRuns.{AllDone, split_done}
use Rattle.spec_machine.proofs.Common.{writes_length, found, spared, passed_test}
use Rattle.spec_language.proofs.CallRuns.{at, IsJob, with_core, call_done, on_open, row_done, deposits_done}
use Rattle.spec_language.proofs.OpenRuns.{open_channel, with_open, at_own, at_other, job_core, job_open, opening}
use Rattle.spec_language.proofs.OpenRuns.{opens_done, naming, place_named, attributing}

-- The output side of a file that is new, or supersedes one.
abbrev pub side : Place → Kind → File → ℕ → SpecOutput
side place kind file next = record { place = place; kind = kind; pending = file; next = next }

output_is : (files : Files SpecVersion) (j : SpecJob) (c : Channel) (e : ℕ) (moment : Moment) (place : Place)
    (digit : ℕ)
    (o : Option SpecVersion) → file_at files place ≡ o → slice_index j.core (e + 2) ≡ 0
    → (kind : Kind)
    × (output_opened j c e moment place digit None o ≡ side place kind (made files place c.mode moment []) 1)
output_is files j c e moment place digit None is none = (Create, rw (none, is) refl)
output_is files j c e moment place digit (Some v) is none = (Supersede, rw is refl)

-- a channel with nothing on it, and with an output side
abbrev pub idle : Channel → Channel
idle c = record c { input = None; output = None }

abbrev pub outputs : Channel → SpecOutput → Channel
outputs c o = record (clean (idle c)) { output = Some o }

-- job 1 with a file that it has entered on a channel that was idle
pub record Entered (s : State) (me : ℕ) (moment : Moment) (spec : Spec) (c : Channel) (j : SpecJob) (t : State)
    : Type 0 where
  pub job : SpecJob
  pub is : t ≡ at s job
  pub whole : IsJob me job
  pub kind : Kind
  pub second : channel_at job 2
      ≡ Some (outputs c (side (place_of me spec) kind (made s.files (place_of me spec) c.mode moment []) 1))
  pub first : channel_at job 1 ≡ channel_at j 1
  pub kept : (k : ℕ) → (k < new_words) ⊎ (new_words + 4 ≤ k) → slice_index job.core k ≡ slice_index j.core k
  pub directory : is_none (get s.files (place_of me spec).ppn) ≡ false

has_directory : (pack : Pack) (s : State) (j : SpecJob) (c : Channel) (e : ℕ) (place : Place)
    → enter_answer pack s j c e place ≡ Done → is_none (get s.files place.ppn) ≡ false
has_directory pack s j c e place is =
    let a = passed_test (lies_outside j.core e 4) AddressCheck _ (λ w. cc) is in
    let b = passed_test _ (Refused 5) _ (λ w. cc) a.1 in
    (passed_test (has_no_directory s place) (Refused 1) _ (λ w. cc) b.1).0

module _ (pack : Pack) (s : State) (j0 : SpecJob) (there : job_at s 1 ≡ Some j0) (moment : Moment) where
  pub enter_done_by : (me : ℕ) (c : Channel) (j : SpecJob) (spec : Spec) (t : State) → IsJob me j
      → HasHalfwordExtension spec
      → channel_at j 2 ≡ Some (idle c)
      → AllDone pack (at s j) (name_events new_words spec 0 ++ call_event moment (Enter 2 new_words) ∷ []) t
      → Entered s me moment spec c j t
  enter_done_by me c j spec t is few idle2 all =
      let last = split_done pack (at s j) (name_events new_words spec 0) (call_event moment (Enter 2 new_words) ∷ []) t
      all in
      let ws : List ℕ = spec.name.name ∷ join spec.name.ext 0 ∷ 0 * 2 ^ 27 ∷ unwrap_or spec.owner 0 ∷ [] in
      let j2 = naming j new_words spec in
      let is2 : IsJob me j2 = job_core me j (after_writes j.core (placed new_words ws)) is
      (writes_length j.core (placed new_words ws)) in
      let second = deposits_done pack s j0 there ws j new_words last.0 last.1 in
      let call = call_done pack s j0 there j2 (Enter 2 new_words) moment last.2.0
      (subst (λ u. Steps pack u (call_event moment (Enter 2 new_words)) Done last.2.0) second last.2.1) in
      let row = row_done pack s j0 there j2
      (enter_answer pack (at s j2) j2 (idle c) new_words (place_at j2 new_words))
      (enter_done pack (at s j2) j2 2 (idle c) new_words moment (place_at j2 new_words))
      (refused_at j2 new_words) last.2.0 (on_open pack s j0 there j2 2 (idle c) _ last.2.0 idle2 call.1) in
      let place = place_named me j new_words spec is few (omega arith) in
      let here = place_of me spec in
      let none : slice_index j2.core (new_words + 2) ≡ 0 = found j.core new_words ws 2 (omega arith)
      (let l = is.core in omega arith) in
      let o = output_is s.files j2 (idle c) new_words moment here (digit_at (at s j2) j2 here)
      (file_at s.files here) refl
      none in
      let out = side here o.0 (made s.files here c.mode moment []) 1 in
      let core = after_writes j2.core (attributing pack j2.core new_words out.pending) in
      let is3 : IsJob me (with_core j2 core) = job_core me j2 core is2
      (writes_length j2.core (attributing pack j2.core new_words out.pending)) in
      let j3 = with_open (with_core j2 core) 2 (outputs c out) in
      let ends : last.2.0 ≡ at s j3 = row.1
      ∙ ap (λ p. at s (enter_done pack (at s j2) j2 2 (idle c) new_words moment p)) place
      ∙ ap (λ o. at s (entered pack j2 2 (idle c) new_words None o)) o.1 in
      let directory = has_directory pack (at s j2) j2 (idle c) new_words here
      (subst (λ p. enter_answer pack (at s j2) j2 (idle c) new_words p ≡ Done) place row.0) in
      record {
        job = j3;
        is = last.2.2 ∙ ends;
        whole = job_open me (with_core j2 core) 2 (outputs c out) is3;
        kind = o.0;
        second = at_own (with_core j2 core) me 2 (outputs c out) is3 (omega arith);
        first = at_other (with_core j2 core) 2 1 (outputs c out) (λ e. cc);
        kept = λ k apart.
            spared j2.core (new_words + 1) (join (left (slice_index j2.core (new_words + 1)))
            (high_date pack.layout out.pending.date) ∷ attributes out.pending ∷ []) k
            (⊎_elim (λ below. inl (omega (arith, below))) (λ past. inr (omega (arith, past))) apart)
            ∙ spared j.core new_words ws k
            (⊎_elim (λ below. inl below) (λ past. inr (omega (arith, past))) apart);
        directory = directory;
      }

  pub writes_done : (me : ℕ) (j : SpecJob) (spec : Spec) (t : State) → IsJob me j → HasHalfwordExtension spec
      → AllDone pack (at s j) (enter_events moment spec) t
      → Entered s me moment spec open_channel (with_open (with_core j (opening j)) 2 open_channel) t
  writes_done me j spec t is few all =
      let both = split_done pack (at s j) (open_events moment 2)
      (name_events new_words spec 0 ++ call_event moment (Enter 2 new_words)
      ∷ []) t (subst (λ es. AllDone pack (at s j) es t)
      (append_assoc (open_events moment 2) (name_events new_words spec 0)
      (call_event moment (Enter 2 new_words) ∷ [])) all) in
      let c0 = with_core j (opening j) in
      let is0 : IsJob me c0 = job_core me j (opening j) is
      (writes_length j.core (placed open_words (dump_mode ∷ disk ∷ 0 ∷ []))) in
      let j1 = with_open c0 2 open_channel in
      let is1 : IsJob me j1 = job_open me c0 2 open_channel is0 in
      let first = opens_done pack s j0 there moment me j 2 both.0 is both.1 in
      enter_done_by me open_channel j1 spec t is1 few (at_own c0 me 2 open_channel is0 (omega arith))
      (subst (λ u. AllDone pack u (name_events new_words spec 0 ++ call_event moment (Enter 2 new_words) ∷ []) t) first
      both.2)

-- A command list that names `count` words of the block.

abbrev pub part : ℕ → Area
part count = record { first = block_address; count = count }

abbrev pub list_pair : ℕ → List ℕ
list_pair count = join ((2 ^ 18 - count) % 2 ^ 18) (block_address - 1) ∷ 0 ∷ []

pub record Lists (count : ℕ) (core : List ℕ) : Type 0 where
  pub command : slice_index core list_words ≡ join ((2 ^ 18 - count) % 2 ^ 18) (block_address - 1)
  pub end : slice_index core (list_words + 1) ≡ 0

pub listing : (core : List ℕ) (count : ℕ) → length core ≡ 4096
    → Lists count (after_writes core (placed list_words (list_pair count)))
listing core count l = record {
  command = found core list_words (list_pair count) 0 (omega arith) (omega arith);
  end = found core list_words (list_pair count) 1 (omega arith) (omega arith);
}

chosen : (a b c d : Bool) (rest : Option (List Area)) (area : Area) → a ≡ false → b ≡ false → c ≡ false → d ≡ false
    → rest ≡ Some []
    → (if a then None else if b then Some [] else if c then rest else if d then None
    else option_map (λ areas. area ∷ areas) rest) ≡ Some (area ∷ [])
chosen a b c d rest area e f g h i = rw (e, f, g, h, i) refl

ended : (a b c d : Bool) (rest more : Option (List Area)) → a ≡ false → b ≡ true
    → (if a then None else if b then Some [] else if c then rest else if d then None else more) ≡ Some []
ended a b c d rest more e f = rw (e, f) refl

list_end : (core : List ℕ) (more address : ℕ) → slice_index core address ≡ 0 → address < length core
    → areas_from core (suc more) address ≡ Some []
unfolding areas_from
list_end core more address e there =
    let command = slice_index core address in
    let rest = areas_from core more (next_command address command) in
    let inside : nat_le (length core) address ≡ false = grind (arith, nat_tests) in
    ended (nat_le (length core) address) (command == 0) (left command == 0)
    (lies_outside core (area_of command).first (area_of command).count) rest
    (option_map (λ areas. area_of command ∷ areas) rest) inside (rw e refl)

one_area : (core : List ℕ) (more address count : ℕ) → 0 < count → count ≤ 2048 → length core ≡ 4096
    → slice_index core address ≡ join ((2 ^ 18 - count) % 2 ^ 18) (block_address - 1)
    → slice_index core (address + 1) ≡ 0 → address + 1 < 4096
    → areas_from core (suc (suc more)) address ≡ Some (part count ∷ [])
unfolding areas_from
one_area core more address count some few l e f there =
    let command = slice_index core address in
    let whole : (2 ^ 18 - count) % 2 ^ 18 ≡ 2 ^ 18 - count = grind arith in
    let high : left command ≡ 2 ^ 18 - count = ap left (e ∙ ap (λ h. join h (block_address - 1)) whole)
    ∙ half (2 ^ 18 - count) in
    let low : right command ≡ block_address - 1 = ap right (e ∙ ap (λ h. join h (block_address - 1)) whole)
    ∙ other_half (2 ^ 18 - count) in
    let area : area_of command ≡ part count = areas (left command) (right command) count high low (omega arith) in
    let inside : nat_le (length core) address ≡ false = grind (arith, nat_tests) in
    let more_words : (left command == 0) ≡ false = not_zero (left command) (omega arith) in
    let next : next_command address command ≡ address + 1 = rw more_words refl in
    let fits : lies_outside core block_address count ≡ false = grind (arith, nat_tests) in
    chosen (nat_le (length core) address) (command == 0) (left command == 0)
    (lies_outside core (area_of command).first (area_of command).count)
    (areas_from core (suc more) (next_command address command)) (area_of command) inside
    (not_zero command (omega (arith, e, whole))) more_words
    (ap (λ a. lies_outside core a.first a.count) area ∙ fits)
    (ap (areas_from core (suc more)) next ∙ list_end core more (address + 1) f (omega arith))
    ∙ ap (λ a. Some (a ∷ [])) area
  where
    not_zero : (n : ℕ) → 0 < n → (n == 0) ≡ false
    not_zero n some = grind (arith, nat_tests)

    half : (h : ℕ) → left (join h (block_address - 1)) ≡ h
    half h = grind arith

    other_half : (h : ℕ) → right (join h (block_address - 1)) ≡ block_address - 1
    other_half h = grind arith

    areas : (h l count : ℕ) → h ≡ 2 ^ 18 - count → l ≡ block_address - 1 → count ≤ 2 ^ 18
        → record { first = l + 1; count = 2 ^ 18 - h } ≡ part count
    areas h l count e f small = let g : 2 ^ 18 - h ≡ count = omega arith in rw (f, g) refl

-- the list names the words of the block
pub listed : (core : List ℕ) (count : ℕ) → 0 < count → count ≤ 2048 → length core ≡ 4096 → Lists count core
    → dump_list core list_words ≡ Some (part count ∷ [])
unfolding dump_list
listed core count some few l is =
    let area = one_area core 510 list_words count some few l is.command is.end (omega arith) in
    let small : nat_lt 131072 (word_count (part count ∷ [])) ≡ false = grind (arith, nat_tests) in
    ap limited area ∙ within small
  where
    within : {b : Bool} → b ≡ false → (if b then None else Some (part count ∷ [])) ≡ Some (part count ∷ [])
    within e = rw e refl
