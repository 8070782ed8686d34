-- Words that are put one after the other.
use Rattle.std.proofs.Common.{◌≡◌, ◌↔◌, ℕ, zero, suc, ◌+◌, ◌/◌, ◌^◌, ◌<◌, ◌≤◌, List, [], ◌∷◌, ◌++◌, length, take}
use Rattle.std.proofs.Common.{drop, get_or, All, refl, sym, ap, subst, ◌∙◌, append_assoc, length-take, inl, inr}
use Rattle.std.proofs.Common.{arith, Option, Some, None, IfSome, IsSome, unwrap_or}
use Rattle.std.proofs.lemmas.List.{take-append-drop, take_all}
use Rattle.words36.specs.Common.{IsWord, number_at, block_bytes}
use Rattle.spec_language.specs.Common.{Act, Asks}
use Rattle.spec_machine.specs.declared.call.Event.TheVariants.{Deposit as Deposits}
use Rattle.spec_machine.specs.declared.call.Reply.{Reply}
use Rattle.spec_machine.specs.declared.call.Reply.TheVariants.{Done}
use Rattle.commands.specs.Common.{Machine, AlwaysStands, IsAnswered, GoesBy}
use Rattle.commands.proofs.ActLaws.{goes_on, goes_answered}
use Rattle.wire.proofs.Words.{numbers_of}
use Rattle.exchange.specs.Turns.{puts}
use Rattle.exchange.specs.Exchanges.{HasPut, HasWritten}
use Rattle.exchange.proofs.ListLaws.{list_more}

puts_append : (job first : ℕ) (words more : List ℕ)
    → puts job first (words ++ more) ≡ puts job first words ++ puts job (first + length words) more
puts_append job first [] more = ap (λ n. puts job n more) (none first)
  where
    none : (first : ℕ) → first ≡ first + 0
    none first = omega arith
puts_append job first (word ∷ words) more = ap (λ l. Asks (Deposits job first word) Done ∷ l)
    (puts_append job (first + 1) words more
    ∙ ap (λ n. puts job (first + 1) words ++ puts job n more) (next first words word))
  where
    next : (first : ℕ) (words : List ℕ) (word : ℕ) → first + 1 + length words ≡ first + length (word ∷ words)
    next first words word = omega arith

-- the number of words in bytes
pub word_count : (body words : List ℕ) → All IsWord words → block_bytes words ≡ body
    → length body / 8 ≡ length words
word_count body words each is = let long = (numbers_of body words each is).long in omega arith

-- The word at a place of bytes is that of the words which they spell.
pub word_read : (body words : List ℕ) (place : ℕ) (found : Option ℕ) (word : ℕ)
    → IfSome found (λ w. w ≡ number_at body place) → (IsSome found ↔ (number_at body place < 2 ^ 36))
    → word ≡ unwrap_or found 0 → All IsWord words → block_bytes words ≡ body → place < length body / 8
    → word ≡ get_or words place 0
word_read body words place (Some w) word value fits is each spelled inside =
    let numbers = numbers_of body words each spelled in
    is ∙ value ∙ numbers.at place (omega (arith, inside, numbers.long))
word_read body words place None word value fits is each spelled inside =
    let numbers = numbers_of body words each spelled in
    let there = fits.1 (numbers.fits place (omega (arith, inside, numbers.long))) in cc

module _ {S : Type 0} (machine : S → Machine) where
  pub put_done : (a b : S) (job address word : ℕ) (answer : Option Reply) → answer ≡ None
      → HasPut machine a b job address word answer → GoesBy machine a b (Asks (Deposits job address word) Done ∷ [])
  put_done a b job address word answer is p = subst
      (λ (o : Option Reply). GoesBy machine a b (Asks (Deposits job address word) (unwrap_or o Done) ∷ [])) is p.goes

  put_other : (a b : S) (job address word : ℕ) (answer : Option Reply) (reply : Reply) → answer ≡ Some reply
      → HasPut machine a b job address word answer
      → GoesBy machine a b (Asks (Deposits job address word) reply ∷ []) × (reply ≡ Done → ⊥)
  put_other a b job address word answer reply is p = (
    subst (λ (o : Option Reply). GoesBy machine a b (Asks (Deposits job address word) (unwrap_or o Done) ∷ [])) is
        p.goes,
    subst (λ (o : Option Reply). IfSome o (λ r. r ≡ Done → ⊥)) is p.undone,
  )

  module _ (a b c : S) (job first : ℕ) (words : List ℕ) (i word place : ℕ) (answer : Option Reply)
      (inside : i < length words) (at : place ≡ first + i) (is_word : word ≡ get_or words i 0)
      (p : GoesBy machine a b (puts job first (take i words))) (q : HasPut machine b c job place word answer) where
    next_words : take (i + 1) words ≡ take i words ++ word ∷ []
    next_words = list_more words i word inside (is_word ∙ same words i word inside)
      where
        same : (words : List ℕ) (i word : ℕ) → i < length words → get_or words i 0 ≡ get_or words i word
        same [] i word h = absurd (omega (arith, h))
        same (x ∷ words) zero word h = refl
        same (x ∷ words) (suc i) word h = same words i word (omega (arith, h))

    next_place : place ≡ first + length (take i words)
    next_place = let long = length-take i words in omega arith

    pub written_more : answer ≡ None → GoesBy machine a c (puts job first (take (i + 1) words))
    written_more is = subst (λ (acts : List Act). GoesBy machine a c acts)
        (sym (ap (puts job first) next_words ∙ puts_append job first (take i words) (word ∷ [])
        ∙ ap (λ n. puts job first (take i words) ++ puts job n (word ∷ [])) (sym next_place)))
        (goes_on machine a b c (puts job first (take i words)) (Asks (Deposits job place word) Done ∷ []) p
        (put_done b c job place word answer is q))

    pub written_until : (reply : Reply) → answer ≡ Some reply → HasWritten machine a c job first words reply
    written_until reply is = let other = put_other b c job place word answer reply is q in record {
      acts = puts job first (take i words) ++ Asks (Deposits job place word) reply ∷ [];
      goes = goes_on machine a b c (puts job first (take i words)) (Asks (Deposits job place word) reply ∷ []) p
          other.0;
      written = inr (
        take i words,
        word,
        drop (i + 1) words,
        sym (take-append-drop (i + 1) words) ∙ ap (λ l. l ++ drop (i + 1) words) next_words
            ∙ append_assoc (take i words) (word ∷ []) (drop (i + 1) words),
        ap (λ n. puts job first (take i words) ++ Asks (Deposits job n word) reply ∷ []) next_place,
        other.1,
      );
    }

  pub written_all : (a b : S) (job first : ℕ) (words : List ℕ) (i : ℕ) → length words ≤ i
      → GoesBy machine a b (puts job first (take i words)) → HasWritten machine a b job first words Done
  written_all a b job first words i all p = record {
    acts = puts job first (take i words);
    goes = p;
    written = inl (ap (puts job first) (take_all i words all), refl);
  }

  module _ (stands : AlwaysStands machine) where
    pub has_put : (a b : S) (job address word : ℕ) (reply : Reply) → reply ≡ Done
        → IsAnswered (machine a) (machine b) (Deposits job address word) reply
        → HasPut machine a b job address word None
    has_put a b job address word reply is answered = record {
      goes = subst (λ (r : Reply). GoesBy machine a b (Asks (Deposits job address word) r ∷ [])) is
          (goes_answered machine stands a b (Deposits job address word) reply answered);
      undone = tt;
    }

    pub has_not_put : (a b : S) (job address word : ℕ) (reply : Reply) → (reply ≡ Done → ⊥)
        → IsAnswered (machine a) (machine b) (Deposits job address word) reply
        → HasPut machine a b job address word (Some reply)
    has_not_put a b job address word reply other answered = record {
      goes = goes_answered machine stands a b (Deposits job address word) reply answered;
      undone = other;
    }
