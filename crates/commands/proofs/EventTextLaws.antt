-- The event of a line of a call script.
use Rattle.std.proofs.Common.{◌≡◌, ℕ, ◌^◌, ◌<◌, ◌≤◌, nat_eq, Bool, true, ◌&&◌, List, [], ◌∷◌, length, Option, Some}
use Rattle.std.proofs.Common.{None, refl, sym, ◌∙◌, ap, subst, arith}
use Rattle.std.specs.Prelude.{◌==◌, codes}
use Rattle.std.specs.Cmp.Lexicographic.{pointwise}
use Rattle.std.proofs.lemmas.Bool.{eqb-true, and_parts}
use Rattle.std.proofs.Math.Nat.{pow-le-pow_right}
use Rattle.words36.specs.declared.moment.Moment.{Moment}
use Rattle.spec_language.specs.Common.{AreFields, IsNumber, IsPair, same_text, calls_of_two, IsPlace, IsCallText}
use Rattle.spec_language.specs.Common.{IsEventText, IsEvent, SaysEvent}
use Rattle.spec_machine.specs.declared.call.Call.{Call}
use Rattle.spec_machine.specs.declared.call.Call.TheVariants.{Reset}
use Rattle.spec_machine.specs.declared.call.Event.{Event}
use Rattle.spec_machine.specs.declared.call.Event.TheVariants.{Login, Deposit, Examine, Call as Calls}
use Rattle.spec_language.proofs.Common.{same_fields, none_all, no_login as no_login_call}
use Rattle.spec_image.proofs.Common.{same_head, same_tail}
use Rattle.commands.specs.Common.{Begins, FieldsSay, with_two}
use Rattle.commands.proofs.FieldLaws.{no_text, no_bytes}
use Rattle.commands.proofs.NumberLaws.{below_power}

-- Words.

same_is_pointwise : (xs ys : List ℕ) → pointwise nat_eq xs ys ≡ same_text xs ys
same_is_pointwise [] [] = refl
same_is_pointwise [] (y ∷ ys) = refl
same_is_pointwise (x ∷ xs) [] = refl
same_is_pointwise (x ∷ xs) (y ∷ ys) = ap (λ b. nat_eq x y && b) (same_is_pointwise xs ys)

pub word_is : (t : Bool) (xs ys zs : List ℕ) → t ≡ pointwise nat_eq xs ys → ys ≡ zs → t ≡ same_text xs zs
word_is t xs ys zs e f = e ∙ same_is_pointwise xs ys ∙ ap (λ l. same_text xs l) f

same_words : (xs ys : List ℕ) → same_text xs ys ≡ true → xs ≡ ys
same_words [] [] e = refl
same_words [] (y ∷ ys) e = cc
same_words (x ∷ xs) [] e = cc
same_words (x ∷ xs) (y ∷ ys) e =
    let both = and_parts (nat_eq x y) (same_text xs ys) e in
    let h = eqb-true x y both.0 in
    let t = same_words xs ys both.1 in
    λ i. h i ∷ t i

pub is_it : (t : Bool) (xs ys : List ℕ) → t ≡ same_text xs ys → t ≡ true → xs ≡ ys
is_it t xs ys e right = same_words xs ys (sym e ∙ right)

-- A text and its fields.

pub says_of : (fields : List (List ℕ)) (text : List ℕ) (moment : Moment) (said : Option Event) → AreFields fields text
    → FieldsSay fields moment said → SaysEvent text moment said
says_of fields text moment None a f = λ event p.
    f event (subst (λ l. IsEventText l moment event) (same_fields p.0 fields text p.1 a) p.2)
says_of fields text moment (Some event) a f = (fields, a, f)

pub says_none : (text : List ℕ) (moment : Moment) (said : Option Event) → said ≡ None
    → ((event : Event) → IsEvent text moment event → ⊥) → SaysEvent text moment said
says_none text moment said e none = subst (SaysEvent text moment) (sym e) none

pub fields_none : (fields : List (List ℕ)) (moment : Moment) (said : Option Event) → said ≡ None
    → ((event : Event) → IsEventText fields moment event → ⊥) → FieldsSay fields moment said
fields_none fields moment said e none = subst (FieldsSay fields moment) (sym e) none

-- an event has two to four fields, the first of which is a job's number
pub record IsOrder (fields : List (List ℕ)) : Type 0 where
  pub job : List ℕ
  pub word : List ℕ
  pub more : List (List ℕ)
  pub n : ℕ
  pub is : fields ≡ job ∷ word ∷ more
  pub place : IsPlace job n
  pub few : length more ≤ 2

call_order : (fields : List (List ℕ)) (job : List ℕ) (rest : List (List ℕ)) (n : ℕ) (call : Call) → fields ≡ job ∷ rest
    → IsPlace job n → IsCallText rest call → IsOrder fields
call_order fields job [] n call e p a = absurd a
call_order fields job (w ∷ []) n call e p a = record {
  job = job;
  word = w;
  more = [];
  n = n;
  is = e;
  place = p;
  few = omega arith;
}
call_order fields job (w ∷ x ∷ []) n call e p a = record {
  job = job;
  word = w;
  more = x ∷ [];
  n = n;
  is = e;
  place = p;
  few = omega arith;
}
call_order fields job (w ∷ x ∷ y ∷ []) n call e p a = record {
  job = job;
  word = w;
  more = x ∷ y ∷ [];
  n = n;
  is = e;
  place = p;
  few = omega arith;
}
call_order fields job (w ∷ x ∷ y ∷ z ∷ more) n call e p a = absurd a

is_order : (fields : List (List ℕ)) (moment : Moment) (event : Event) → IsEventText fields moment event → IsOrder fields
is_order fields moment (Login n p k) a = record {
  job = a.0;
  word = codes "LOGIN";
  more = a.1 ∷ a.2 ∷ [];
  n = n;
  is = a.3;
  place = a.4;
  few = omega arith;
}
is_order fields moment (Deposit n p k) a = record {
  job = a.0;
  word = codes "DEP";
  more = a.1 ∷ a.2 ∷ [];
  n = n;
  is = a.3;
  place = a.4;
  few = omega arith;
}
is_order fields moment (Examine n p) a = record {
  job = a.0;
  word = codes "EXA";
  more = a.1 ∷ [];
  n = n;
  is = a.2;
  place = a.3;
  few = omega arith;
}
is_order fields moment (Calls n call at) a = call_order fields a.0 a.1 n call a.2 a.3 a.4

pub no_job : (text : List ℕ) (moment : Moment) (said : Option Event) → said ≡ None
    → ((one : List ℕ) (more : List (List ℕ)) → AreFields (one ∷ more) text → ⊥) → SaysEvent text moment said
no_job text moment said e none = says_none text moment said e (λ event p.
    let o = is_order p.0 moment event p.2 in
    none o.job (o.word ∷ o.more) (subst (λ l. AreFields l text) o.is p.1))

pub no_number : (text job behind : List ℕ) (moment : Moment) (said : Option Event) → said ≡ None
    → Begins text job behind → ((n : ℕ) → IsPlace job n → ⊥) → SaysEvent text moment said
no_number text job behind moment said e b none = says_none text moment said e (λ event p.
    let o = is_order p.0 moment event p.2 in
    let q = b.only o.job (o.word ∷ o.more) (subst (λ l. AreFields l text) o.is p.1) in
    none o.n (subst (λ l. IsPlace l o.n) q.0 o.place))

pub no_word : (text job behind : List ℕ) (moment : Moment) (said : Option Event) → said ≡ None → Begins text job behind
    → ((one : List ℕ) (more : List (List ℕ)) → AreFields (one ∷ more) behind → ⊥) → SaysEvent text moment said
no_word text job behind moment said e b none = says_none text moment said e (λ event p.
    let o = is_order p.0 moment event p.2 in
    none o.word o.more (b.only o.job (o.word ∷ o.more) (subst (λ l. AreFields l text) o.is p.1)).1)

-- the fields after the word
few_behind : (text job behind word rest : List ℕ) (moment : Moment) (event : Event) → Begins text job behind
    → Begins behind word rest → IsEvent text moment event → (more : List (List ℕ)) × AreFields more rest
    × (length more ≤ 2)
few_behind text job behind word rest moment event b d p =
    let o = is_order p.0 moment event p.2 in
    let q = b.only o.job (o.word ∷ o.more) (subst (λ l. AreFields l text) o.is p.1) in
    (o.more, (d.only o.word o.more q.1).1, o.few)

pub no_third : (text job behind word rest : List ℕ) (moment : Moment) (said : Option Event) → said ≡ None
    → Begins text job behind → Begins behind word rest → 0 < length rest
    → ((one : List ℕ) (more : List (List ℕ)) → AreFields (one ∷ more) rest → ⊥) → SaysEvent text moment said
no_third text job behind word rest moment said e b d some none = says_none text moment said e (λ event p.
    let f = few_behind text job behind word rest moment event b d p in
    refuse f.0 f.1)
  where
    refuse : (more : List (List ℕ)) → AreFields more rest → ⊥
    refuse [] a = no_text rest some a
    refuse (x ∷ xs) a = none x xs a

pub no_fourth : (text job behind word rest first others : List ℕ) (moment : Moment) (said : Option Event) → said ≡ None
    → Begins text job behind → Begins behind word rest → 0 < length rest → Begins rest first others → 0 < length others
    → ((one : List ℕ) (more : List (List ℕ)) → AreFields (one ∷ more) others → ⊥) → SaysEvent text moment said
no_fourth text job behind word rest first others moment said e b d some g more_behind none =
    says_none text moment said e (λ event p.
    let f = few_behind text job behind word rest moment event b d p in
    refuse f.0 f.1)
  where
    refuse : (more : List (List ℕ)) → AreFields more rest → ⊥
    refuse [] a = no_text rest some a
    refuse (x ∷ []) a = no_text others more_behind (g.only x [] a).1
    refuse (x ∷ y ∷ ys) a = none y ys (g.only x (y ∷ ys) a).1

pub too_many : (text job behind word rest first others second last : List ℕ) (moment : Moment) (said : Option Event)
    → said ≡ None → Begins text job behind → Begins behind word rest → 0 < length rest → Begins rest first others
    → 0 < length others
    → Begins others second last → 0 < length last → SaysEvent text moment said
too_many text job behind word rest first others second last moment said e b d some g more_behind h at_last =
    says_none text moment said e (λ event p.
    let f = few_behind text job behind word rest moment event b d p in
    refuse f.0 f.1 f.2)
  where
    refuse : (more : List (List ℕ)) → AreFields more rest → length more ≤ 2 → ⊥
    refuse [] a few = no_text rest some a
    refuse (x ∷ []) a few = no_text others more_behind (g.only x [] a).1
    refuse (x ∷ y ∷ []) a few = no_text last at_last (h.only y [] (g.only x (y ∷ []) a).1).1
    refuse (x ∷ y ∷ z ∷ zs) a few = absurd (omega (arith, few))

pub says_alone : (text job behind word rest : List ℕ) (moment : Moment) (n : ℕ) (said : Option Event)
    → Begins text job behind → Begins behind word rest → true ≡ (length rest == 0) → IsPlace job n
    → ((field : List ℕ) → IsPlace field n → FieldsSay (field ∷ word ∷ []) moment said) → SaysEvent text moment said
says_alone text job behind word rest moment n said b d e p says = says_of (job ∷ word ∷ []) text moment said
    (b.joined (word ∷ []) (d.joined [] (no_bytes rest e))) (says job p)

pub says_with_one : (text job behind word rest first others : List ℕ) (moment : Moment) (n : ℕ) (said : Option Event)
    → Begins text job behind → Begins behind word rest → Begins rest first others → true ≡ (length others == 0)
    → IsPlace job n
    → ((field : List ℕ) → IsPlace field n → FieldsSay (field ∷ word ∷ first ∷ []) moment said)
    → SaysEvent text moment said
says_with_one text job behind word rest first others moment n said b d g e p says = says_of
    (job ∷ word ∷ first ∷ []) text moment said
    (b.joined (word ∷ first ∷ []) (d.joined (first ∷ []) (g.joined [] (no_bytes others e)))) (says job p)

pub says_with_two : (text job behind word rest first others second last : List ℕ) (moment : Moment) (n : ℕ)
    (said : Option Event) → Begins text job behind → Begins behind word rest → Begins rest first others
    → Begins others second last
    → true ≡ (length last == 0) → IsPlace job n → ((field : List ℕ) → IsPlace field n
    → FieldsSay (field ∷ word ∷ first ∷ second ∷ []) moment said) → SaysEvent text moment said
says_with_two text job behind word rest first others second last moment n said b d g h e p says = says_of
    (job ∷ word ∷ first ∷ second ∷ []) text moment said (b.joined (word ∷ first ∷ second ∷ [])
    (d.joined (first ∷ second ∷ []) (g.joined (second ∷ []) (h.joined [] (no_bytes last e))))) (says job p)

-- A word alone.

pub reset_said : (f w : List ℕ) (moment : Moment) (n : ℕ) → IsPlace f n → w ≡ codes "RESET"
    → IsEventText (f ∷ w ∷ []) moment (Calls n Reset moment)
reset_said f w moment n p e = (f, w ∷ [], refl, p, (e, refl), refl)

-- A word with one field after it.

pub examine_said : (f w x : List ℕ) (moment : Moment) (n m : ℕ) → IsPlace f n → IsPlace x m → w ≡ codes "EXA"
    → IsEventText (f ∷ w ∷ x ∷ []) moment (Examine n m)
examine_said f w x moment n m p q e = (f, x, (λ i. f ∷ e i ∷ x ∷ []), p, q)

-- A word with two.

deposit-login : codes "DEP" ≡ codes "LOGIN" → ⊥
deposit-login e = let wrong = same_head e in cc

pub no_login : (f x y : List ℕ) (moment : Moment) → ((p k : ℕ) → IsPair 12 x p → IsPlace y k → ⊥) → (event : Event)
    → IsEventText (f ∷ codes "LOGIN" ∷ x ∷ y ∷ []) moment event → ⊥
no_login f x y moment none (Login n p k) a =
    let s = same_tail (same_tail a.3) in
    none p k (subst (λ l. IsPair 12 l p) (sym (same_head s)) a.5)
    (subst (λ l. IsPlace l k) (sym (same_head (same_tail s))) a.6)
no_login f x y moment none (Deposit n p k) a = deposit-login (sym (same_head (same_tail a.3)))
no_login f x y moment none (Examine n p) a = none_all (sym (same_tail (same_tail (same_tail a.2))))
no_login f x y moment none (Calls n call at) a = no_login_call x y call
    (subst (λ l. IsCallText l call) (sym (same_tail a.2)) a.4)

pub login_by_word : (f w x y : List ℕ) (moment : Moment) (said : Option Event) → w ≡ codes "LOGIN"
    → FieldsSay (f ∷ codes "LOGIN" ∷ x ∷ y ∷ []) moment said → FieldsSay (f ∷ w ∷ x ∷ y ∷ []) moment said
login_by_word f w x y moment said e s = subst (λ l. FieldsSay (f ∷ l ∷ x ∷ y ∷ []) moment said) (sym e) s

pub deposit_said : (f w x y : List ℕ) (moment : Moment) (n p k v : ℕ) → IsPlace f n → IsPlace x p → IsNumber 12 y k
    → w ≡ codes "DEP" → v ≡ k → IsEventText (f ∷ w ∷ x ∷ y ∷ []) moment (Deposit n p v)
deposit_said f w x y moment n p k v a b c e same = (
  f,
  x,
  y,
  (λ i. f ∷ e i ∷ x ∷ y ∷ []),
  a,
  b,
  subst (λ m. IsNumber 12 y m) (sym same) c,
)

found_two : (o : Option (ℕ → ℕ → Call)) (n m : ℕ) (call : Call) → Some call ≡ with_two o n m
    → (k : ℕ → ℕ → Call) × (o ≡ Some k) × (call ≡ k n m)
found_two None n m call e = cc
found_two (Some k) n m call e = (k, refl, same_some e)
  where
    same_some : {x y : Call} → Some x ≡ Some y → x ≡ y
    same_some {x} e = ap (λ o. elim o as (λ p. Call) [ None ↦ x | Some z ↦ z ]) e

pub call_with_two_said : (f w x y : List ℕ) (moment : Moment) (n p k : ℕ) (call : Call) → IsPlace f n
    → IsPlace x p → IsPlace y k → Some call ≡ with_two (calls_of_two w) p k
    → IsEventText (f ∷ w ∷ x ∷ y ∷ []) moment (Calls n call moment)
call_with_two_said f w x y moment n p k call a b c e =
    let o = found_two (calls_of_two w) p k call e in
    (f, w ∷ x ∷ y ∷ [], refl, a, (o.0, o.1, p, b, k, c, o.2), refl)

-- a number of twelve digits is a word
pub number_word : (text : List ℕ) (n : ℕ) → IsNumber 12 text n → n < 2 ^ 36
number_word text n s =
    let p : 8 ^ length text ≤ 8 ^ 12 = pow-le-pow_right (omega arith) s.few in
    omega (arith, below_power 0 text s.digits, p, s.value)
