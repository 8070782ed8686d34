-- Words that are read one after the other, and reported.
use Rattle.std.proofs.Common.{◌≡◌, ℕ, ◌+◌, ◌<◌, ◌≤◌, List, [], ◌∷◌, ◌++◌, length, map, refl, sym, ap, subst, ◌∙◌}
use Rattle.std.proofs.Common.{append_assoc, append-nil, length-append, inl, inr, ⊎_elim, arith}
use Rattle.std.proofs.lemmas.List.{map-append, length-map}
use Rattle.spec_language.specs.Common.{Act, Asks}
use Rattle.spec_machine.specs.declared.call.Event.TheVariants.{Examine as Examines}
use Rattle.spec_machine.specs.declared.call.Reply.{Reply}
use Rattle.spec_machine.specs.declared.call.Reply.TheVariants.{Done, Value}
use Rattle.commands.specs.Common.{Machine, AlwaysStands, IsAnswered, GoesBy}
use Rattle.commands.proofs.ActLaws.{goes_nowhere, goes_on, goes_answered}
use Rattle.exchange.specs.Turns.{looks, group, IsNoWord, AreRead}
use Rattle.exchange.specs.Exchanges.{HasRead}

-- All of these words were read, and reported after those before.
pub record HasTold {S : Type 0} (machine : S → Machine) (old new : S) (job : ℕ) (places before after : List ℕ)
    : Type 0 where
  pub told : List (ℕ × ℕ)
  pub goes : GoesBy machine old new (looks job told)
  pub read : map (λ place. place.0) told ≡ places
  pub groups : after ≡ before ++ map group told

looks_append : (job : ℕ) (first more : List (ℕ × ℕ)) → looks job (first ++ more) ≡ looks job first ++ looks job more
looks_append job first more = map-append (λ place. Asks (Examines job place.0) (Value place.1)) first more

groups_on : (before between after : List ℕ) (first more : List (ℕ × ℕ)) → between ≡ before ++ map group first
    → after ≡ between ++ map group more → after ≡ before ++ map group (first ++ more)
groups_on before between after first more p q =
    q ∙ ap (λ l. l ++ map group more) p ∙ append_assoc before (map group first) (map group more)
    ∙ ap (λ l. before ++ l) (sym (map-append group first more))

addresses_on : (first more : List (ℕ × ℕ)) (address : ℕ) (behind rest : List ℕ)
    → (map (λ place. place.0) first ++ (map (λ place. place.0) more ++ address ∷ behind)) ++ rest
    ≡ map (λ place. place.0) (first ++ more) ++ address ∷ (behind ++ rest)
addresses_on first more address behind rest =
    let a = map (λ (place : ℕ × ℕ). place.0) first in
    let b = map (λ (place : ℕ × ℕ). place.0) more in
    append_assoc a (b ++ address ∷ behind) rest
    ∙ ap (λ l. a ++ l) (append_assoc b (address ∷ behind) rest)
    ∙ sym (append_assoc a b (address ∷ (behind ++ rest)))
    ∙ ap (λ l. l ++ address ∷ (behind ++ rest)) (sym (map-append (λ place. place.0) first more))

-- the number of groups after that
grown : (before after : List ℕ) (told : List (ℕ × ℕ)) → after ≡ before ++ map group told
    → length after ≡ length before + length told
grown before after told is = ap length is ∙ length-append before (map group told)
    ∙ ap (λ n. length before + n) (length-map told group)

named : (told : List (ℕ × ℕ)) (places : List ℕ) → map (λ place. place.0) told ≡ places
    → length told ≡ length places
named told places is = sym (length-map told (λ place. place.0)) ∙ ap length is

named_before : (told : List (ℕ × ℕ)) (places more : List ℕ) (address : ℕ)
    → places ≡ map (λ place. place.0) told ++ address ∷ more → length told < length places
named_before told places more address is =
    let long = ap length is ∙ length-append (map (λ place. place.0) told) (address ∷ more) in
    omega (arith, long, length-map told (λ place. place.0))

-- no more words were reported than were requested
pub read_few : (job : ℕ) (places : List ℕ) (told : List (ℕ × ℕ)) (acts : List Act) (reply : Reply)
    → AreRead job places told acts reply → length told ≤ length places
read_few job places told acts reply read = ⊎_elim (λ whole. omega (arith, named told places whole.0))
    (λ stop. omega (arith, named_before told places stop.1 stop.0 stop.2)) read

module _ {S : Type 0} (machine : S → Machine) where
  pub told_more : (a b c : S) (job : ℕ) (places more before between after : List ℕ)
      → HasTold machine a b job places before between → HasTold machine b c job more between after
      → HasTold machine a c job (places ++ more) before after
  told_more a b c job places more before between after p q = record {
    told = p.told ++ q.told;
    goes = subst (λ (acts : List Act). GoesBy machine a c acts) (sym (looks_append job p.told q.told))
        (goes_on machine a b c (looks job p.told) (looks job q.told) p.goes q.goes);
    read = map-append (λ place. place.0) p.told q.told ∙ (λ i. p.read i ++ q.read i);
    groups = groups_on before between after p.told q.told p.groups q.groups;
  }

  pub told_read : (a b : S) (job : ℕ) (places before after : List ℕ) → HasTold machine a b job places before after
      → HasRead machine a b job places before after Done
  told_read a b job places before after p = record {
    told = p.told;
    acts = looks job p.told;
    goes = p.goes;
    read = inl (p.read, refl, refl);
    groups = p.groups;
  }

  -- if as many words were reported as were requested, all were
  pub read_told : (a b : S) (job : ℕ) (places before after : List ℕ) (reply : Reply)
      → HasRead machine a b job places before after reply → length after ≡ length before + length places
      → HasTold machine a b job places before after
  read_told a b job places before after reply p all = ⊎_elim
      (λ whole. record {
        told = p.told;
        goes = subst (λ (acts : List Act). GoesBy machine a b acts) whole.1 p.goes;
        read = whole.0;
        groups = p.groups;
      })
      (λ stop. absurd (omega (
        arith,
        all,
        grown before after p.told p.groups,
        named_before p.told places stop.1 stop.0 stop.2,
      ))) p.read

  -- if fewer were, one reply was no word, and no more were read
  module _ (a b c : S) (job : ℕ) (places more before between after : List ℕ) (reply : Reply)
      (p : HasTold machine a b job places before between) (q : HasRead machine b c job more between after reply)
      (short : length after < length between + length more) where
    pub read_until : (rest all : List ℕ) → all ≡ places ++ more ++ rest
        → HasRead machine a c job all before after reply
    read_until rest all is = ⊎_elim
        (λ whole. absurd (omega (
          arith,
          short,
          grown between after q.told q.groups,
          named q.told more whole.0,
        )))
        (λ stop. record {
          told = p.told ++ q.told;
          acts = looks job p.told ++ q.acts;
          goes = goes_on machine a b c (looks job p.told) q.acts p.goes q.goes;
          read = inr (
            stop.0,
            stop.1 ++ rest,
            is ∙ (λ i. (sym p.read i ++ stop.2 i) ++ rest) ∙ addresses_on p.told q.told stop.0 stop.1 rest,
            ap (λ l. looks job p.told ++ l) stop.3
                ∙ sym (append_assoc (looks job p.told) (looks job q.told) (Asks (Examines job stop.0) reply ∷ []))
                ∙ ap (λ l. l ++ Asks (Examines job stop.0) reply ∷ []) (sym (looks_append job p.told q.told)),
            stop.4,
          );
          groups = groups_on before between after p.told q.told p.groups q.groups;
        }) q.read

  module _ (stands : AlwaysStands machine) where
    pub told_none : (a : S) (job : ℕ) (before : List ℕ) → HasTold machine a a job [] before before
    told_none a job before = record {
      told = [];
      goes = goes_nowhere machine stands a;
      read = refl;
      groups = sym (append-nil before);
    }

    -- one word
    pub told_one : (a b : S) (job address word : ℕ) (reply : Reply) (before after : List ℕ)
        → IsAnswered (machine a) (machine b) (Examines job address) reply → reply ≡ Value word
        → after ≡ before ++ group (address, word) ∷ [] → HasTold machine a b job (address ∷ []) before after
    told_one a b job address word reply before after answered is groups = record {
      told = (address, word) ∷ [];
      goes = subst (λ (r : Reply). GoesBy machine a b (Asks (Examines job address) r ∷ [])) is
          (goes_answered machine stands a b (Examines job address) reply answered);
      read = refl;
      groups = groups;
    }

    pub untold_one : (a b : S) (job address : ℕ) (reply : Reply) (before : List ℕ)
        → IsAnswered (machine a) (machine b) (Examines job address) reply → IsNoWord reply
        → HasRead machine a b job (address ∷ []) before before reply
    untold_one a b job address reply before answered other = record {
      told = [];
      acts = Asks (Examines job address) reply ∷ [];
      goes = goes_answered machine stands a b (Examines job address) reply answered;
      read = inr (address, [], refl, refl, other);
      groups = sym (append-nil before);
    }
