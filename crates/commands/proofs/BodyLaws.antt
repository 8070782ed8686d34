-- Plans that are followed one after the other, and words of a body that are read by them.
use Rattle.std.proofs.Common.{◌≡◌, ℕ, zero, suc, ◌+◌, ◌-◌, ◌<◌, ◌≤◌, ◌%◌, ◌/◌, ◌*◌, ◌^◌, ◌==◌, if◌then◌else◌, Bool}
use Rattle.std.proofs.Common.{true, false, List, [], ◌∷◌, ◌++◌, length, take, get_or, replicate, Option, Some, None}
use Rattle.std.proofs.Common.{Result, Ok, Err, bit_and, refl, sym, ◌∙◌, ap, subst, append_assoc, append-nil, add-one}
use Rattle.std.proofs.Common.{zero-mul, arith, slice_index}
use Rattle.std.proofs.lemmas.List.{take_all, take-append-le}
use Rattle.std.proofs.lemmas.Nat.Bits.{and_pow}
use Rattle.words36.specs.Common.{left}
use Rattle.words36.specs.declared.moment.Moment.{Moment}
use Rattle.spec_language.specs.Common.{Asks, Plan, Ask, each, fails, deposit_events, fetches, examines, same_words}
use Rattle.spec_language.specs.Common.{in_event}
use Rattle.spec_language.specs.Common.{takes_over, counts, sizes, last_said, says_words, is_end, if_end, until_end}
use Rattle.spec_machine.specs.declared.call.Event.TheVariants.{Deposit, Examine}
use Rattle.spec_machine.specs.declared.call.Reply.{Reply}
use Rattle.spec_machine.specs.declared.call.Reply.TheVariants.{Done, Value, Refused, Stopped, NoChannel, AddressCheck}
use Rattle.spec_machine.specs.declared.call.Reply.TheVariants.{NoJob, NoMemory, Device, Failed, DateRange}
use Rattle.spec_machine.specs.declared.call.Event.{Event}
use Rattle.commands.specs.Common.{FollowsPlan, followed, Machine, AlwaysStands, AreShown, IsAnswered}
use Rattle.commands.proofs.ActLaws.{goes_answered}
use Rattle.commands.proofs.LedLaws.{led_on, led_still, led_told, each_append}

module _ {S : Type 0} (machine : S → Machine) where
  -- one event
  led_event : AlwaysStands machine → (a b : S) (event : Event) (asked : Event) (reply : Reply) (next : Reply → Plan)
      → event ≡ asked → IsAnswered (machine a) (machine b) event reply
      → FollowsPlan machine a b (Ask asked next) (next reply)
  led_event stands a b event asked reply next is answered = record {
    acts = Asks event reply ∷ [];
    goes = goes_answered machine stands a b event reply answered;
    leads = (is, refl);
  }

-- The block is filled, word by word.

-- one more word will be filled
fills_next : (moment : Moment) (address more word : ℕ) (next : Plan)
    → each moment (deposit_events address (replicate (suc more) word)) next
    ≡ each moment (Deposit 1 address word ∷ []) (each moment (deposit_events (address + 1) (replicate more word)) next)
unfolding each
fills_next moment address more word next = refl

fills_at : (moment : Moment) (first size i word : ℕ) (event : Event) (next : Plan) → i < size
    → event ≡ Deposit 1 (first + i) word
    → each moment (deposit_events (first + i) (replicate (size - i) word)) next
    ≡ each moment (event ∷ []) (each moment (deposit_events (first + (i + 1)) (replicate (size - (i + 1)) word)) next)
fills_at moment first size i word event next h is =
    let left : size - i ≡ suc (size - (i + 1)) = omega arith in
    let place : first + i + 1 ≡ first + (i + 1) = omega arith in
    ap (λ (n : ℕ). each moment (deposit_events (first + i) (replicate n word)) next) left
    ∙ fills_next moment (first + i) (size - (i + 1)) word next
    ∙ (λ j. each moment (sym is j ∷ []) (each moment (deposit_events (place j) (replicate (size - (i + 1)) word)) next))

module _ {S : Type 0} (machine : S → Machine) (first size word : ℕ) where
  -- the rest of the filling at the i-th word
  abbrev pub Fills : S → S → ℕ → Type 0
  Fills a b i = (moment : Moment) (next : Plan)
      → FollowsPlan machine a b (each moment (deposit_events first (replicate size word)) next)
      (each moment (deposit_events (first + i) (replicate (size - i) word)) next)

  pub fills_none : AlwaysStands machine → (a : S) → Fills a a 0
  fills_none stands a moment next =
      let place : first ≡ first + 0 = omega arith in
      let whole : size ≡ size - 0 = omega arith in
      subst (λ (p : Plan). FollowsPlan machine a a (each moment (deposit_events first (replicate size word)) next) p)
      (λ j. each moment (deposit_events (place j) (replicate (whole j) word)) next) (led_still machine stands a _)

  module _ (a b c : S) (i : ℕ) (h : i < size) (filled : Fills a b i) (event : Event) (is : event
      ≡ Deposit 1 (first + i) word) (result : Result (Unit {0}) Reply)
      (asked : (moment : Moment) (next : Plan)
      → FollowsPlan machine b c (each moment (event ∷ []) next) (followed moment result (λ unit. next))) where
    fills_then : (moment : Moment) (next : Plan)
        → FollowsPlan machine a c (each moment (deposit_events first (replicate size word)) next)
        (followed moment result
        (λ unit. each moment (deposit_events (first + (i + 1)) (replicate (size - (i + 1)) word)) next))
    fills_then moment next =
        let rest = each moment (deposit_events (first + (i + 1)) (replicate (size - (i + 1)) word)) next in
        led_on machine a b c _ _ _ (subst
        (λ (p : Plan). FollowsPlan machine a b (each moment (deposit_events first (replicate size word)) next) p)
        (fills_at moment first size i word event next h is) (filled moment next)) (asked moment rest)

    pub fills_more : (unit : Unit {0}) → result ≡ Ok unit → Fills a c (i + 1)
    fills_more unit ok moment next =
        subst (λ (r : Result (Unit {0}) Reply).
        FollowsPlan machine a c (each moment (deposit_events first (replicate size word)) next)
        (followed moment r (λ unit. each moment (deposit_events (first + (i + 1)) (replicate (size - (i + 1)) word))
        next)))
        ok (fills_then moment next)

    pub fills_broken : (reply : Reply) → result ≡ Err reply → (moment : Moment) (next : Plan)
        → FollowsPlan machine a c (each moment (deposit_events first (replicate size word)) next) (fails moment reply)
    fills_broken reply err moment next =
        subst (λ (r : Result (Unit {0}) Reply).
        FollowsPlan machine a c (each moment (deposit_events first (replicate size word)) next)
        (followed moment r (λ unit. each moment (deposit_events (first + (i + 1)) (replicate (size - (i + 1)) word))
        next)))
        err (fills_then moment next)

  pub fills_all : (a b : S) (i : ℕ) → size ≤ i → Fills a b i → (moment : Moment) (next : Plan)
      → FollowsPlan machine a b (each moment (deposit_events first (replicate size word)) next) next
  unfolding each
  fills_all a b i h filled moment next =
      let none : size - i ≡ 0 = omega arith in
      subst (λ (n : ℕ). FollowsPlan machine a b (each moment (deposit_events first (replicate size word)) next)
      (each moment (deposit_events (first + i) (replicate n word)) next)) none (filled moment next)

-- The block is fetched, word by word.

pub fetches_next : (moment : Moment) (address left more : ℕ) (next : List ℕ → Plan) → left ≡ suc more
    → fetches moment left address next
    ≡ examines moment address (λ word. fetches moment more (address + 1) (λ words. next (word ∷ words)))
unfolding fetches
fetches_next moment address left more next is = ap (λ (n : ℕ). fetches moment n address next) is

module _ {S : Type 0} (machine : S → Machine) (first count : ℕ) where
  -- the rest of the fetching at the i-th word, if these were fetched
  abbrev pub Fetches : S → S → ℕ → List ℕ → Type 0
  Fetches a b i seen = (moment : Moment) (next : List ℕ → Plan)
      → FollowsPlan machine a b (fetches moment count first next)
      (fetches moment (count - i) (first + i) (λ words. next (seen ++ words)))

  pub fetches_none : AlwaysStands machine → (a : S) → Fetches a a 0 []
  fetches_none stands a moment next =
      let place : first ≡ first + 0 = omega arith in
      let whole : count ≡ count - 0 = omega arith in
      subst (λ (p : Plan). FollowsPlan machine a a (fetches moment count first next) p)
      (λ j. fetches moment (whole j) (place j) next) (led_still machine stands a _)

  module _ (a b c : S) (i : ℕ) (seen : List ℕ) (h : i < count) (fetched : Fetches a b i seen) (result : Result ℕ Reply)
      (examined : (moment : Moment) (next : ℕ → Plan)
      → FollowsPlan machine b c (examines moment (first + i) next) (followed moment result next)) where
    fetches_then : (moment : Moment) (next : List ℕ → Plan)
        → FollowsPlan machine a c (fetches moment count first next)
        (followed moment result (λ word. fetches moment (count - (i + 1)) (first + i + 1)
        (λ words. next (seen ++ (word ∷ words)))))
    fetches_then moment next =
        let left : count - i ≡ suc (count - (i + 1)) = omega arith in
        led_on machine a b c _ _ _
        (subst (λ (p : Plan). FollowsPlan machine a b (fetches moment count first next) p)
        (fetches_next moment (first + i) (count - i) (count - (i + 1)) (λ words. next (seen ++ words)) left)
        (fetched moment next))
        (examined moment (λ word. fetches moment (count - (i + 1)) (first + i + 1)
        (λ words. next (seen ++ (word ∷ words)))))

    pub fetches_more : (word : ℕ) (now : List ℕ) → result ≡ Ok word → now ≡ seen ++ word ∷ [] → Fetches a c (i + 1) now
    fetches_more word now ok is moment next =
        let place : first + i + 1 ≡ first + (i + 1) = omega arith in
        let all : (words : List ℕ) → seen ++ (word ∷ words)
        ≡ now ++ words = λ words. sym (append_assoc seen (word ∷ []) words) ∙ ap (λ l. l ++ words) (sym is) in
        subst (λ (p : Plan). FollowsPlan machine a c (fetches moment count first next) p)
        (λ j. fetches moment (count - (i + 1)) (place j) (λ words. next (all words j)))
        (subst (λ (r : Result ℕ Reply). FollowsPlan machine a c (fetches moment count first next)
        (followed moment r (λ word. fetches moment (count - (i + 1)) (first + i + 1)
        (λ words. next (seen ++ (word ∷ words)))))) ok (fetches_then moment next))

    pub fetches_broken : (reply : Reply) → result ≡ Err reply → (moment : Moment) (next : List ℕ → Plan)
        → FollowsPlan machine a c (fetches moment count first next) (fails moment reply)
    fetches_broken reply err moment next =
        subst (λ (r : Result ℕ Reply). FollowsPlan machine a c (fetches moment count first next)
        (followed moment r (λ word. fetches moment (count - (i + 1)) (first + i + 1)
        (λ words. next (seen ++ (word ∷ words)))))) err (fetches_then moment next)

  fetches_end : (a b : S) (i : ℕ) (seen : List ℕ) → count ≤ i → Fetches a b i seen
      → (moment : Moment) (next : List ℕ → Plan) → FollowsPlan machine a b (fetches moment count first next) (next seen)
  unfolding fetches
  fetches_end a b i seen h fetched moment next =
      let none : count - i ≡ 0 = omega arith in
      subst (λ (l : List ℕ). FollowsPlan machine a b (fetches moment count first next) (next l)) (append-nil seen)
      (subst (λ (n : ℕ). FollowsPlan machine a b (fetches moment count first next)
      (fetches moment n (first + i) (λ words. next (seen ++ words)))) none (fetched moment next))

  pub fetches_all : (a b : S) (i : ℕ) (block : List ℕ) → count ≤ i → i ≤ count → Fetches a b i (take i block)
      → (moment : Moment) (next : List ℕ → Plan)
      → FollowsPlan machine a b (fetches moment count first next) (next (take count block))
  fetches_all a b i block h k fetched moment next =
      let same : i ≡ count = omega arith in
      subst (λ (n : ℕ). FollowsPlan machine a b (fetches moment count first next) (next (take n block))) same
      (fetches_end a b i (take i block) h fetched moment next)

-- Words in common.

abbrev one_if : Bool → ℕ
one_if here = if here then 1 else 0

same_next : (xs ys : List ℕ) (i x y : ℕ) → i < length xs → i < length ys
    → same_words (take (suc i) xs) (take (suc i) ys) ≡ same_words (take i xs) (take i ys)
    + one_if (get_or xs i x == get_or ys i y)
same_next [] ys i x y h k = absurd (omega arith)
same_next (a ∷ xs) [] i x y h k = absurd (omega arith)
same_next (a ∷ xs) (b ∷ ys) zero x y h k = omega arith
same_next (a ∷ xs) (b ∷ ys) (suc i) x y h k =
    let more = same_next xs ys i x y (omega arith) (omega arith) in
    omega (arith, more)

-- one place more, at which the words are the same, or aren't
pub same_more : (xs ys : List ℕ) (i x y count now : ℕ) → i < length xs → i < length ys
    → (get_or xs i x == get_or ys i y) ≡ true → count ≡ same_words (take i xs) (take i ys) → now ≡ count + 1
    → now ≡ same_words (take (i + 1) xs) (take (i + 1) ys)
same_more xs ys i x y count now h k same was is =
    let next : same_words (take (suc i) xs) (take (suc i) ys) ≡ same_words (take i xs) (take i ys)
    + one_if true = same_next xs ys i x y h k ∙ ap (λ t. same_words (take i xs) (take i ys) + one_if t) same in
    rw add-one (omega (arith, next))

pub same_still : (xs ys : List ℕ) (i x y count : ℕ) → i < length xs → i < length ys → (get_or xs i x == get_or ys i y)
    ≡ false → count ≡ same_words (take i xs) (take i ys) → count ≡ same_words (take (i + 1) xs) (take (i + 1) ys)
same_still xs ys i x y count h k other was =
    let next : same_words (take (suc i) xs) (take (suc i) ys) ≡ same_words (take i xs) (take i ys)
    + one_if false = same_next xs ys i x y h k ∙ ap (λ t. same_words (take i xs) (take i ys) + one_if t) other in
    rw add-one (omega (arith, next))

pub same_all : (xs ys : List ℕ) (i count : ℕ) → length xs ≤ i → length ys ≤ i
    → count ≡ same_words (take i xs) (take i ys) → count ≡ same_words xs ys
same_all xs ys i count h k is = is ∙ (λ j. same_words (take_all i xs h j) (take_all i ys k j))

-- A block is moved by an IN over words that are all the same.

module _ {S : Type 0} (machine : S → Machine) (moment : Moment) (first size n word : ℕ) (goes in_event : Event) where
  -- the events after the words
  abbrev then_taken : List Event
  then_taken = goes ∷ in_event ∷ []

  abbrev pub Over : (List ℕ → Plan) → Plan
  Over next = each moment (deposit_events first (replicate size word) ++ then_taken) (fetches moment size first next)

  module _ (a b : S) (filled : Result (Unit {0}) Reply) (fills : (at : Moment) (next : Plan)
      → FollowsPlan machine a b (each at (deposit_events first (replicate size word)) next)
      (followed at filled (λ unit. next))) where
    over_filled : (next : List ℕ → Plan)
        → FollowsPlan machine a b (Over next)
        (followed moment filled (λ unit. each moment then_taken (fetches moment size first next)))
    over_filled next =
        subst (λ (p : Plan). FollowsPlan machine a b p
        (followed moment filled (λ unit. each moment then_taken (fetches moment size first next))))
        (sym (each_append moment (deposit_events first (replicate size word)) then_taken
        (fetches moment size first next)))
        (fills moment (each moment then_taken (fetches moment size first next)))

    pub over_unfilled : (reply : Reply) → filled ≡ Err reply → (next : List ℕ → Plan)
        → FollowsPlan machine a b (Over next) (fails moment reply)
    over_unfilled reply err next = subst (λ (r : Result (Unit {0}) Reply). FollowsPlan machine a b (Over next)
        (followed moment r (λ unit. each moment then_taken (fetches moment size first next)))) err (over_filled next)

    module _ (unit : Unit {0}) (ok : filled ≡ Ok unit) (c : S) (events : List Event) (is : events
        ≡ then_taken) (asked : Result (Unit {0}) Reply)
        (asks : (at : Moment) (next : Plan)
        → FollowsPlan machine b c (each at events next) (followed at asked (λ unit. next))) where
      over_asked : (next : List ℕ → Plan)
          → FollowsPlan machine a c (Over next) (followed moment asked (λ unit. fetches moment size first next))
      over_asked next =
          led_on machine a b c _ _ _
          (subst (λ (r : Result (Unit {0}) Reply). FollowsPlan machine a b (Over next)
          (followed moment r (λ unit. each moment then_taken (fetches moment size first next)))) ok (over_filled next))
          (subst (λ (l : List Event). FollowsPlan machine b c (each moment l (fetches moment size first next))
          (followed moment asked (λ unit. fetches moment size first next))) is
          (asks moment (fetches moment size first next)))

      pub over_unasked : (reply : Reply) → asked ≡ Err reply → (next : List ℕ → Plan)
          → FollowsPlan machine a c (Over next) (fails moment reply)
      over_unasked reply err next = subst (λ (r : Result (Unit {0}) Reply). FollowsPlan machine a c (Over next)
          (followed moment r (λ unit. fetches moment size first next))) err (over_asked next)

      over_fetched : (one : Unit {0}) → asked ≡ Ok one → (d : S) (block : List ℕ) (next : List ℕ → Plan)
          → length block ≤ size → FollowsPlan machine c d (fetches moment size first next) (next (take size block))
          → FollowsPlan machine a d (Over next) (next block)
      over_fetched one done d block next h fetched =
          led_on machine a c d _ _ _ (subst (λ (r : Result (Unit {0}) Reply). FollowsPlan machine a c (Over next)
          (followed moment r (λ unit. fetches moment size first next))) done (over_asked next))
          (subst (λ (l : List ℕ). FollowsPlan machine c d (fetches moment size first next) (next l))
          (take_all size block h) fetched)

      over_unfetched : (one : Unit {0}) → asked ≡ Ok one → (d : S) (reply : Reply) (next : List ℕ → Plan)
          → FollowsPlan machine c d (fetches moment size first next) (fails moment reply)
          → FollowsPlan machine a d (Over next) (fails moment reply)
      over_unfetched one done d reply next fetched =
          led_on machine a c d _ _ _ (subst (λ (r : Result (Unit {0}) Reply). FollowsPlan machine a c (Over next)
          (followed moment r (λ unit. fetches moment size first next))) done (over_asked next)) fetched

      pub over_all : (one : Unit {0}) → asked ≡ Ok one → (d : S) (fetched : Result (List ℕ) Reply)
          → ((block : List ℕ) → fetched ≡ Ok block → length block ≡ size)
          → ((at : Moment) (next : List ℕ → Plan)
          → FollowsPlan machine c d (fetches at size first next)
          (followed at fetched (λ block. next (take size block))))
          → (next : List ℕ → Plan) → FollowsPlan machine a d (Over next) (followed moment fetched next)
      over_all one done d (Ok block) long led next = over_fetched one done d block next (omega (arith, long block refl))
          (led moment next)
      over_all one done d (Err reply) long led next = over_unfetched one done d reply next (led moment next)

-- How many words the last block has.

said_by : (test : Bool) (all said : ℕ) (next : ℕ → Plan) (other : Plan) → (if test then Some all else None) ≡ Some said
    → (if test then next ((all - 1) % 128 + 1) else other) ≡ next ((said - 1) % 128 + 1)
said_by true all said next other is = let same : all ≡ said = cc in ap (λ (w : ℕ). next ((w - 1) % 128 + 1)) same
said_by false all said next other is = cc

unsaid_by : (test : Bool) (all : ℕ) (one other : Plan) → (if test then Some all else None) ≡ None
    → (if test then one else other) ≡ other
unsaid_by true all one other is = cc
unsaid_by false all one other is = refl

module _ {S : Type 0} (machine : S → Machine) (moment : Moment) (n size : ℕ) (words : Option ℕ) (says : words
    ≡ (if says_words size then Some (2 ^ 18 - left size) else None)) where
  pub size_said : AlwaysStands machine → (a : S) (said : ℕ) → words ≡ Some said → (next : ℕ → Plan)
      → FollowsPlan machine a a (sizes moment n size next) (next ((said - 1) % 128 + 1))
  size_said stands a said is next =
      subst (λ (p : Plan). FollowsPlan machine a a p (next ((said - 1) % 128 + 1)))
      (sym (said_by (says_words size) (2 ^ 18 - left size) said next (counts moment n next) (sym says ∙ is)))
      (led_still machine stands a (next ((said - 1) % 128 + 1)))

  module _ (is : words ≡ None) where
    counted : (next : ℕ → Plan) → sizes moment n size next ≡ counts moment n next
    counted next = unsaid_by (says_words size) (2 ^ 18 - left size) (next (last_said size)) (counts moment n next)
        (sym says ∙ is)

    module _ (a b : S) (first : Result (List ℕ) Reply) (in_event : (next : List ℕ → Plan)
        → FollowsPlan machine a b (takes_over moment n 0 next) (followed moment first next)) where
      first_taken : (next : ℕ → Plan) → FollowsPlan machine a b (sizes moment n size next)
          (followed moment first (λ zeros. takes_over moment n 1 (λ ones. next (same_words zeros ones))))
      first_taken next =
          subst (λ (p : Plan). FollowsPlan machine a b p
          (followed moment first (λ zeros. takes_over moment n 1 (λ ones. next (same_words zeros ones)))))
          (sym (counted next))
          (in_event (λ zeros. takes_over moment n 1 (λ ones. next (same_words zeros ones))))

      pub first_failed : (reply : Reply) → first ≡ Err reply → (next : ℕ → Plan)
          → FollowsPlan machine a b (sizes moment n size next) (fails moment reply)
      first_failed reply err next =
          subst (λ (r : Result (List ℕ) Reply). FollowsPlan machine a b (sizes moment n size next)
          (followed moment r (λ zeros. takes_over moment n 1 (λ ones. next (same_words zeros ones))))) err
          (first_taken next)

      module _ (zeros : List ℕ) (ok : first ≡ Ok zeros) (c : S) (one : ℕ) (is_one : one
          ≡ 1) (second : Result (List ℕ) Reply) (again : (next : List ℕ → Plan)
          → FollowsPlan machine b c (takes_over moment n one next) (followed moment second next)) where
        second_taken : (next : ℕ → Plan)
            → FollowsPlan machine a c (sizes moment n size next)
            (followed moment second (λ ones. next (same_words zeros ones)))
        second_taken next =
            led_on machine a b c _ _ _
            (subst (λ (r : Result (List ℕ) Reply). FollowsPlan machine a b (sizes moment n size next)
            (followed moment r (λ zeros. takes_over moment n 1 (λ ones. next (same_words zeros ones))))) ok
            (first_taken next))
            (subst (λ (w : ℕ). FollowsPlan machine b c (takes_over moment n w (λ ones. next (same_words zeros ones)))
            (followed moment second (λ ones. next (same_words zeros ones)))) is_one
            (again (λ ones. next (same_words zeros ones))))

        pub second_failed : (reply : Reply) → second ≡ Err reply → (next : ℕ → Plan)
            → FollowsPlan machine a c (sizes moment n size next) (fails moment reply)
        second_failed reply err next =
            subst (λ (r : Result (List ℕ) Reply). FollowsPlan machine a c (sizes moment n size next)
            (followed moment r (λ ones. next (same_words zeros ones)))) err (second_taken next)

        pub size_counted : (ones : List ℕ) → second ≡ Ok ones → (count : ℕ) → count ≡ same_words zeros ones
            → (next : ℕ → Plan) → FollowsPlan machine a c (sizes moment n size next) (next count)
        size_counted ones done count same next =
            subst (λ (k : ℕ). FollowsPlan machine a c (sizes moment n size next) (next k)) (sym same)
            (subst (λ (r : Result (List ℕ) Reply). FollowsPlan machine a c (sizes moment n size next)
            (followed moment r (λ ones. next (same_words zeros ones)))) done (second_taken next))

-- The end of a file.

-- The bit that reports it, if the status is masked by it.

bit_tells : (bit place masked : ℕ) → masked ≡ bit * place → bit < 2 → (masked ≡ 0 → ⊥) → (bit == 1) ≡ true
bit_tells zero place masked is small h = absurd (h (is ∙ zero-mul place))
bit_tells (suc zero) place masked is small h = refl
bit_tells (suc (suc bit)) place masked is small h = absurd (omega arith)

bit_clear : (bit place masked : ℕ) → masked ≡ bit * place → bit < 2 → 0 < place → masked ≡ 0 → (bit == 1) ≡ false
bit_clear zero place masked is small big h = refl
bit_clear (suc zero) place masked is small big h = absurd (omega arith)
bit_clear (suc (suc bit)) place masked is small big h = absurd (omega arith)

is_end_by : (status : ℕ) → (bit_and status 8192 ≡ 0 → ⊥) → is_end status ≡ true
is_end_by status h = bit_tells (status / 2 ^ 13 % 2) 8192 (bit_and status 8192) (and_pow status 13) (omega arith) h

not_end_by : (status : ℕ) → bit_and status 8192 ≡ 0 → is_end status ≡ false
not_end_by status h = bit_clear (status / 2 ^ 13 % 2) 8192 (bit_and status 8192) (and_pow status 13) (omega arith)
    (omega arith) h

if_other : (moment : Moment) (next : Plan) (reply : Reply) → ((status : ℕ) → reply ≡ Stopped status → ⊥)
    → if_end moment next reply ≡ fails moment reply
if_other moment next Done h = refl
if_other moment next (Value word) h = refl
if_other moment next (Refused code) h = refl
if_other moment next (Stopped status) h = absurd (h status refl)
if_other moment next NoChannel h = refl
if_other moment next AddressCheck h = refl
if_other moment next NoJob h = refl
if_other moment next NoMemory h = refl
if_other moment next Device h = refl
if_other moment next Failed h = refl
if_other moment next DateRange h = refl

module _ {S : Type 0} (machine : S → Machine) (stands : AlwaysStands machine) (a b : S) (moment : Moment)
    (event : Event) (made : event ≡ in_event moment) (reply : Reply)
    (answered : IsAnswered (machine a) (machine b) event reply) where
  end_told : (next rest : Plan) → if_end moment next reply ≡ rest → FollowsPlan machine a b (until_end moment next) rest
  end_told next rest is = subst (λ (p : Plan). FollowsPlan machine a b (until_end moment next) p) is
      (led_event machine stands a b event (in_event moment) reply (if_end moment next) made answered)

  pub end_found : (status : ℕ) → reply ≡ Stopped status → (bit_and status 8192 ≡ 0 → ⊥) → (next : Plan)
      → FollowsPlan machine a b (until_end moment next) next
  end_found status is h next =
      end_told next next (ap (if_end moment next) is
      ∙ ap (λ (t : Bool). if t then next else fails moment (Stopped status)) (is_end_by status h))

  pub end_missing : (status : ℕ) → reply ≡ Stopped status → bit_and status 8192 ≡ 0 → (next : Plan)
      → FollowsPlan machine a b (until_end moment next) (fails moment (Stopped status))
  end_missing status is h next =
      end_told next (fails moment (Stopped status)) (ap (if_end moment next) is
      ∙ ap (λ (t : Bool). if t then next else fails moment (Stopped status)) (not_end_by status h))

  pub end_other : ((status : ℕ) → reply ≡ Stopped status → ⊥) → (next : Plan)
      → FollowsPlan machine a b (until_end moment next) (fails moment reply)
  end_other h next = end_told next (fails moment reply) (if_other moment next reply h)

-- Words that are shown at once are those that events would return, one by one.
module _ {S : Type 0} (machine : S → Machine) (stands : AlwaysStands machine) (a : S) (moment : Moment) where
  pub fetches_shown : (words : List ℕ) (first : ℕ) → AreShown (machine a) first words → (next : List ℕ → Plan)
      → FollowsPlan machine a a (fetches moment (length words) first next) (next words)
  unfolding fetches
  fetches_shown [] first shown next = led_still machine stands a (next [])
  fetches_shown (word ∷ words) first shown next =
      let here : first + 0 ≡ first = omega arith in
      led_on machine a a a _ _ _
      (led_told machine stands a a first (Value word) word moment
      (λ told. fetches moment (length words) (first + 1) (λ others. next (told ∷ others))) refl
      (subst (λ n. IsAnswered (machine a) (machine a) (Examine 1 n) (Value word)) here (shown 0 (omega arith))))
      (fetches_shown words (first + 1) (λ i less.
      let place : first + suc i ≡ first + 1 + i = omega arith in
      subst (λ n. IsAnswered (machine a) (machine a) (Examine 1 n) (Value (slice_index words i))) place
      (shown (suc i) (omega (arith, less)))) (λ others. next (word ∷ others)))

  -- copied to the front of a block
  pub fetches_at_once : (count first : ℕ) (words front rest : List ℕ) (next : List ℕ → Plan) → length words ≡ count
      → AreShown (machine a) first words → front ≡ words
      → FollowsPlan machine a a (fetches moment count first next) (next (take count (front ++ rest)))
  fetches_at_once count first words front rest next long shown is =
      let same : take count (front ++ rest) ≡ words = (λ j. take (sym long j) (is j ++ rest))
      ∙ take-append-le (length words) words rest (omega arith) ∙ take_all (length words) words (omega arith) in
      subst (λ n. FollowsPlan machine a a (fetches moment n first next) (next (take count (front ++ rest)))) long
      (subst (λ l. FollowsPlan machine a a (fetches moment (length words) first next) (next l)) (sym same)
      (fetches_shown words first shown next))
