-- How a file is put: its plan, step by step.
use Rattle.std.proofs.Common.{◌≡◌, ℕ, suc, ◌+◌, ◌-◌, ◌<◌, ◌≤◌, List, [], ◌∷◌, Result, refl, sym, ◌∙◌, ap, subst, take}
use Rattle.std.proofs.Common.{drop, length, get_or, min, arith, Bool, true, false, nat_le}
use Rattle.std.proofs.lemmas.Bool.Decides.{nat_tests}
use Rattle.std.proofs.lemmas.List.{drop_more, drop_all, take_all, length-drop}
use Rattle.words36.specs.declared.moment.Moment.{Moment}
use Rattle.spec_language.specs.Common.{create_events, fill_events, fill_parts_plan, fill_all_plan, size_events}
use Rattle.spec_language.specs.Common.{part_address}
use Rattle.spec_language.specs.Common.{part_words}
use Rattle.spec_language.specs.Common.{parts_of, Plan, each, fails, deposit_events, call_event}
use Rattle.spec_machine.specs.declared.call.Call.TheVariants.{Close}
use Rattle.spec_machine.specs.declared.call.Event.{Event}
use Rattle.spec_machine.specs.declared.call.Event.TheVariants.{Deposit}
use Rattle.spec_machine.specs.declared.call.Reply.{Reply}
use Rattle.spec_language.specs.declared.command.Spec.{Spec}
use Rattle.spec_language.specs.declared.encoding.Encoding.{Encoding}
use Rattle.spec_language.specs.declared.encoding.Encoding.TheVariants.{Characters, Words, Octets}
use Rattle.commands.specs.Common.{FollowsPlan, followed, Machine, AlwaysStands}
use Rattle.commands.proofs.LedLaws.{led_on, led_still}
use Rattle.commands.proofs.CopyFileLaws.{led_first}
use Rattle.spec_language.proofs.Common.{some_part}

-- Words that are deposited.

-- the i-th word, and those after it
deposits_at : (moment : Moment) (first : ℕ) (words : List ℕ) (i word : ℕ) (event : Event) (next : Plan)
    → i < length words → word ≡ get_or words i word → event ≡ Deposit 1 (first + i) word
    → each moment (deposit_events (first + i) (drop i words)) next
    ≡ each moment (event ∷ []) (each moment (deposit_events (first + (i + 1)) (drop (i + 1) words)) next)
unfolding each
deposits_at moment first words i word event next h at is =
    let place : first + i + 1 ≡ first + (i + 1) = omega arith in
    ap (λ (l : List ℕ). each moment (deposit_events (first + i) l) next) (drop_more words i word h
    ∙ ap (λ (w : ℕ). w ∷ drop (i + 1) words) (sym at))
    ∙ (λ j. each moment (sym is j ∷ []) (each moment (deposit_events (place j) (drop (i + 1) words)) next))

module _ {S : Type 0} (machine : S → Machine) (first : ℕ) (words : List ℕ) where
  -- the rest at the i-th word
  abbrev pub Deposits : S → S → ℕ → Type 0
  Deposits a b i = (moment : Moment) (next : Plan)
      → FollowsPlan machine a b (each moment (deposit_events first words) next)
      (each moment (deposit_events (first + i) (drop i words)) next)

  pub deposits_none : AlwaysStands machine → (a : S) → Deposits a a 0
  deposits_none stands a moment next =
      let place : first ≡ first + 0 = omega arith in
      subst (λ (n : ℕ). FollowsPlan machine a a (each moment (deposit_events first words) next)
      (each moment (deposit_events n words) next))
      place (led_still machine stands a (each moment (deposit_events first words) next))

  module _ (a b c : S) (i word : ℕ) (h : i < length words) (at : word ≡ get_or words i word) (p : Deposits a b i)
      (event : Event) (is : event ≡ Deposit 1 (first + i) word) where
    deposit_then : (moment : Moment) (next rest : Plan)
        → FollowsPlan machine b c (each moment (event ∷ []) (each moment
        (deposit_events (first + (i + 1)) (drop (i + 1) words)) next))
        rest → FollowsPlan machine a c (each moment (deposit_events first words) next) rest
    deposit_then moment next rest q =
        led_on machine a b c _ _ rest (p moment next)
        (subst (λ (l : Plan). FollowsPlan machine b c l rest)
        (sym (deposits_at moment first words i word event next h at is)) q)

    pub deposits_more : ((moment : Moment) (next : Plan) → FollowsPlan machine b c (each moment (event ∷ []) next) next)
        → Deposits a c (i + 1)
    deposits_more asked moment next = deposit_then moment next _
        (asked moment (each moment (deposit_events (first + (i + 1)) (drop (i + 1) words)) next))

    pub deposits_broken : (reply : Reply)
        → ((moment : Moment) (next : Plan) → FollowsPlan machine b c (each moment (event ∷ []) next)
        (fails moment reply))
        → (moment : Moment) (next : Plan)
        → FollowsPlan machine a c (each moment (deposit_events first words) next) (fails moment reply)
    deposits_broken reply asked moment next = deposit_then moment next (fails moment reply)
        (asked moment (each moment (deposit_events (first + (i + 1)) (drop (i + 1) words)) next))

  pub deposits_all : (a b : S) (i : ℕ) → length words ≤ i → Deposits a b i → (moment : Moment) (next : Plan)
      → FollowsPlan machine a b (each moment (deposit_events first words) next) next
  unfolding each
  deposits_all a b i h p moment next =
      subst (λ (l : List ℕ). FollowsPlan machine a b (each moment (deposit_events first words) next)
      (each moment (deposit_events (first + i) l) next)) (drop_all i words h) (p moment next)

-- Parts.

some_parts : (encoding : Encoding) (n : ℕ) → 0 < n
    → parts_of encoding n ≡ suc (parts_of encoding (n - part_words encoding))
some_parts Characters n h = omega arith
some_parts Words n h = omega arith
some_parts Octets n h = omega arith

no_parts : (encoding : Encoding) (n : ℕ) → n ≡ 0 → parts_of encoding n ≡ 0
no_parts Characters n e = omega arith
no_parts Words n e = omega arith
no_parts Octets n e = omega arith

part_filled : (moment : Moment) (encoding : Encoding) (more : ℕ) (words : List ℕ) (next : Plan)
    → fill_parts_plan moment encoding (suc more) words next
    ≡ each moment (fill_events moment encoding (take (part_words encoding) words))
    (fill_parts_plan moment encoding more (drop (part_words encoding) words) next)
unfolding fill_parts_plan
part_filled moment encoding more words next = refl

-- the first part, and those after it
pub first_part : (moment : Moment) (encoding : Encoding) (words part rest : List ℕ) (next : Plan) → 0 < length words
    → part ≡ take (part_words encoding) words → rest ≡ drop (part_words encoding) words
    → fill_all_plan moment encoding words next ≡ each moment (fill_events moment encoding part)
    (fill_all_plan moment encoding rest next)
first_part moment encoding words part rest next h is_part is_rest =
    let behind = drop (part_words encoding) words in
    let count : parts_of encoding (length words) ≡ suc (parts_of encoding (length behind)) =
    some_parts encoding (length words) h
    ∙ ap (λ (n : ℕ). suc (parts_of encoding n)) (sym (length-drop (part_words encoding) words)) in
    ap (λ (n : ℕ). fill_parts_plan moment encoding n words next) count
    ∙ part_filled moment encoding (parts_of encoding (length behind)) words next
    ∙ (λ i. each moment (fill_events moment encoding (sym is_part i))
    (fill_all_plan moment encoding (sym is_rest i) next))

pub no_part : (moment : Moment) (encoding : Encoding) (words : List ℕ) (next : Plan) → length words ≡ 0
    → fill_all_plan moment encoding words next ≡ next
unfolding fill_parts_plan
no_part moment encoding words next none = ap (λ (n : ℕ). fill_parts_plan moment encoding n words next)
    (no_parts encoding (length words) none)

-- the part that is cut off at the end of a part or of all
pub take_part : (encoding : Encoding) (words : List ℕ) (n most : ℕ) → most ≡ part_words encoding
    → n ≡ min (length words) most → take n words ≡ take (part_words encoding) words
take_part encoding words n most is e =
    by (nat_le (length words) most) refl ∙ ap (λ (k : ℕ). take k words) is
  where
    by : (b : Bool) → nat_le (length words) most ≡ b → take n words ≡ take most words
    by true t = take_all n words (grind (arith, nat_tests)) ∙ sym (take_all most words (grind (arith, nat_tests)))
    by false t = let at : n ≡ most = grind (arith, nat_tests) in ap (λ (k : ℕ). take k words) at

pub drop_part : (encoding : Encoding) (words : List ℕ) (n most : ℕ) → most ≡ part_words encoding
    → n ≡ min (length words) most → drop n words ≡ drop (part_words encoding) words
drop_part encoding words n most is e =
    by (nat_le (length words) most) refl ∙ ap (λ (k : ℕ). drop k words) is
  where
    by : (b : Bool) → nat_le (length words) most ≡ b → drop n words ≡ drop most words
    by true t = drop_all n words (grind (arith, nat_tests)) ∙ sym (drop_all most words (grind (arith, nat_tests)))
    by false t = let at : n ≡ most = grind (arith, nat_tests) in ap (λ (k : ℕ). drop k words) at

pub rest_shorter : (encoding : Encoding) (words after : List ℕ) → 0 < length words
    → after ≡ drop (part_words encoding) words → length after < length words
rest_shorter encoding words after h e =
    let long : length after ≡ length words - part_words encoding = ap length e ∙ length-drop (part_words encoding) words
    in omega (arith, some_part encoding)

module _ {S : Type 0} (machine : S → Machine) (moment : Moment) (encoding : Encoding) (words : List ℕ) where
  abbrev pub Filled : S → S → List ℕ → Type 0
  Filled a b rest = (next : Plan)
      → FollowsPlan machine a b (fill_all_plan moment encoding words next) (fill_all_plan moment encoding rest next)

  pub filled_none : AlwaysStands machine → (a : S) → Filled a a words
  filled_none stands a next = led_still machine stands a (fill_all_plan moment encoding words next)

  module _ (a b c : S) (rest part after : List ℕ) (h : 0 < length rest)
      (is_part : part ≡ take (part_words encoding) rest) (is_after : after ≡ drop (part_words encoding) rest)
      (p : Filled a b rest) where
    part_then : (next end : Plan)
        → FollowsPlan machine b c
        (each moment (fill_events moment encoding part) (fill_all_plan moment encoding after next)) end
        → FollowsPlan machine a c (fill_all_plan moment encoding words next) end
    part_then next end q = led_on machine a b c (fill_all_plan moment encoding words next)
        (fill_all_plan moment encoding rest next) end (p next)
        (subst (λ (l : Plan). FollowsPlan machine b c l end)
        (sym (first_part moment encoding rest part after next h is_part is_after)) q)

    pub filled_more : ((next : Plan) → FollowsPlan machine b c (each moment (fill_events moment encoding part) next)
        next)
        → Filled a c after
    filled_more filled next = part_then next (fill_all_plan moment encoding after next)
        (filled (fill_all_plan moment encoding after next))

    pub filled_broken : (reply : Reply)
        → ((next : Plan) → FollowsPlan machine b c (each moment (fill_events moment encoding part) next)
        (fails moment reply))
        → (next : Plan) → FollowsPlan machine a c (fill_all_plan moment encoding words next) (fails moment reply)
    filled_broken reply broken next = part_then next (fails moment reply)
        (broken (fill_all_plan moment encoding after next))

  pub filled_all : (a b : S) (rest : List ℕ) → length rest ≡ 0 → Filled a b rest → (next : Plan)
      → FollowsPlan machine a b (fill_all_plan moment encoding words next) next
  filled_all a b rest none p next =
      subst (λ (l : Plan). FollowsPlan machine a b (fill_all_plan moment encoding words next) l)
      (no_part moment encoding rest next none) (p next)

-- A file: the rest after the job has logged in, after the file is entered, after its words are put.

abbrev pub closed_then : Moment → Plan → Plan
closed_then moment next = each moment (call_event moment (Close 2 0) ∷ []) next

abbrev pub filled_then : Moment → Encoding → List ℕ → Plan → Plan
filled_then moment encoding words next = fill_all_plan moment encoding words (closed_then moment next)

abbrev pub created_then : Moment → Encoding → Spec → List ℕ → Plan → Plan
created_then moment encoding spec words next = each moment (create_events moment encoding spec)
    (filled_then moment encoding words next)

-- A part: its words, and the events that put them.
module _ {S : Type 0} (machine : S → Machine) (moment : Moment) (encoding : Encoding) (part : List ℕ) where
  pub part_deposited : (a b : S) (address : ℕ) → address ≡ part_address encoding → (reply : Reply)
      → ((moment : Moment) (next : Plan) → FollowsPlan machine a b (each moment (deposit_events address part) next)
      (fails moment reply))
      → (next : Plan) → FollowsPlan machine a b (each moment (fill_events moment encoding part) next)
      (fails moment reply)
  part_deposited a b address is reply failed next = led_first machine a b moment (deposit_events address part)
      (deposit_events (part_address encoding) part) (size_events moment encoding (length part)) next
      (fails moment reply)
      (ap (λ (n : ℕ). deposit_events n part) is)
      (failed moment (each moment (size_events moment encoding (length part)) next))

  pub part_announced : (a b c : S) (address : ℕ) → address ≡ part_address encoding
      → (result : Result (Unit {0}) Reply)
      → ((moment : Moment) (next : Plan) → FollowsPlan machine a b (each moment (deposit_events address part) next)
      next)
      → ((next : Plan) → FollowsPlan machine b c (each moment (size_events moment encoding (length part)) next)
      (followed moment result (λ unit. next)))
      → (next : Plan)
      → FollowsPlan machine a c (each moment (fill_events moment encoding part) next)
      (followed moment result (λ unit. next))
  part_announced a b c address is result deposited announced next =
      let behind = each moment (size_events moment encoding (length part)) next in
      led_on machine a b c (each moment (fill_events moment encoding part) next) behind _
      (led_first machine a b moment (deposit_events address part) (deposit_events (part_address encoding) part)
      (size_events moment encoding (length part)) next behind (ap (λ (n : ℕ). deposit_events n part) is)
      (deposited moment behind)) (announced next)
