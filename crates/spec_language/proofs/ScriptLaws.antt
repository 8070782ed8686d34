-- A line has at most one reading in the grammar of call scripts.
use Rattle.std.proofs.Common.{◌≡◌, ℕ, List, [], ◌∷◌, Option, Some, None, refl, sym, ap, subst, ◌∙◌}
use Rattle.std.specs.Prelude.{codes}
use Rattle.words36.specs.declared.moment.Moment.{Moment}
use Rattle.spec_language.specs.Scripts.{IsCallText, IsEventText, IsEvent}
use Rattle.spec_machine.specs.declared.call.Call.{Call}
use Rattle.spec_machine.specs.declared.call.Event.{Event}
use Rattle.spec_machine.specs.declared.call.Event.TheVariants.{Login, Deposit, Examine, Call as Calls}
use Rattle.spec_image.proofs.Common.{same_head, same_tail}
use Rattle.spec_language.proofs.SpellingLaws.{same_fields, same_number, same_small, same_pair}

found_same : {A : Type 0} {o : Option A} {f g : A} → o ≡ Some f → o ≡ Some g → f ≡ g
found_same {A} {o} {f} {g} a b = ap (found f) (sym a ∙ b)
  where
    found : A → Option A → A
    found d None = d
    found d (Some x) = x

same_call_text : (rest : List (List ℕ)) (c d : Call) → IsCallText rest c → IsCallText rest d → c ≡ d
same_call_text [] c d a b = absurd a
same_call_text (w ∷ []) c d a b = a.1 ∙ sym b.1
same_call_text (w ∷ x ∷ []) c d a b =
    let f = found_same a.1 b.1 in
    let n = same_small 12 x x a.2 b.2 refl a.3 b.3 in
    a.4 ∙ (λ i. f i (n i)) ∙ sym b.4
same_call_text (w ∷ x ∷ y ∷ []) c d a b =
    let f = found_same a.1 b.1 in
    let n = same_small 12 x x a.2 b.2 refl a.3 b.3 in
    let m = same_small 12 y y a.4 b.4 refl a.5 b.5 in
    a.6 ∙ (λ i. f i (n i) (m i)) ∙ sym b.6
same_call_text (w ∷ x ∷ y ∷ z ∷ more) c d a b = absurd a

-- the words of events that are no calls
pub no_login : (pair count : List ℕ) (call : Call) → IsCallText (codes "LOGIN" ∷ pair ∷ count ∷ []) call → ⊥
no_login pair count call a = let wrong = a.1 in cc

no_deposit : (place value : List ℕ) (call : Call) → IsCallText (codes "DEP" ∷ place ∷ value ∷ []) call → ⊥
no_deposit place value call a = let wrong = a.1 in cc

no_examine : (place : List ℕ) (call : Call) → IsCallText (codes "EXA" ∷ place ∷ []) call → ⊥
no_examine place call a = let wrong = a.1 in cc

same_event_text : (fields : List (List ℕ)) (moment : Moment) (e f : Event) → IsEventText fields moment e
    → IsEventText fields moment f → e ≡ f
same_event_text fields moment (Login n p w) (Login m q v) a b =
    let s = sym a.3 ∙ b.3 in
    let t = same_tail (same_tail s) in
    let x = same_small 12 a.0 b.0 n m (same_head s) a.4 b.4 in
    let y = same_pair 12 a.1 b.1 p q (same_head t) a.5 b.5 in
    let z = same_small 12 a.2 b.2 w v (same_head (same_tail t)) a.6 b.6 in
    λ i. Login (x i) (y i) (z i)
same_event_text fields moment (Deposit n p w) (Deposit m q v) a b =
    let s = sym a.3 ∙ b.3 in
    let t = same_tail (same_tail s) in
    let x = same_small 12 a.0 b.0 n m (same_head s) a.4 b.4 in
    let y = same_small 12 a.1 b.1 p q (same_head t) a.5 b.5 in
    let z = same_number 12 12 a.2 b.2 w v (same_head (same_tail t)) a.6 b.6 in
    λ i. Deposit (x i) (y i) (z i)
same_event_text fields moment (Examine n p) (Examine m q) a b =
    let s = sym a.2 ∙ b.2 in
    let x = same_small 12 a.0 b.0 n m (same_head s) a.3 b.3 in
    let y = same_small 12 a.1 b.1 p q (same_head (same_tail (same_tail s))) a.4 b.4 in
    λ i. Examine (x i) (y i)
same_event_text fields moment (Calls n c at) (Calls m d before) a b =
    let s = sym a.2 ∙ b.2 in
    let x = same_small 12 a.0 b.0 n m (same_head s) a.3 b.3 in
    let y = same_call_text a.1 c d a.4 (subst (λ r. IsCallText r d) (sym (same_tail s)) b.4) in
    let z = a.5 ∙ sym b.5 in
    λ i. Calls (x i) (y i) (z i)
same_event_text fields moment (Login n p w) (Deposit m q v) a b = let wrong = same_head (same_tail (sym a.3 ∙ b.3)) in
    cc
same_event_text fields moment (Deposit n p w) (Login m q v) a b = let wrong = same_head (same_tail (sym a.3 ∙ b.3)) in
    cc
same_event_text fields moment (Login n p w) (Examine m q) a b = let wrong = same_head (same_tail (sym a.3 ∙ b.2)) in cc
same_event_text fields moment (Examine n p) (Login m q v) a b = let wrong = same_head (same_tail (sym a.2 ∙ b.3)) in cc
same_event_text fields moment (Deposit n p w) (Examine m q) a b = let wrong = same_head (same_tail (sym a.3 ∙ b.2)) in
    cc
same_event_text fields moment (Examine n p) (Deposit m q v) a b = let wrong = same_head (same_tail (sym a.2 ∙ b.3)) in
    cc
same_event_text fields moment (Login n p w) (Calls m d before) a b = absurd
    (no_login a.1 a.2 d (subst (λ r. IsCallText r d) (sym (same_tail (sym a.3 ∙ b.2))) b.4))
same_event_text fields moment (Calls n c at) (Login m q v) a b = absurd
    (no_login b.1 b.2 c (subst (λ r. IsCallText r c) (sym (same_tail (sym b.3 ∙ a.2))) a.4))
same_event_text fields moment (Deposit n p w) (Calls m d before) a b = absurd
    (no_deposit a.1 a.2 d (subst (λ r. IsCallText r d) (sym (same_tail (sym a.3 ∙ b.2))) b.4))
same_event_text fields moment (Calls n c at) (Deposit m q v) a b = absurd
    (no_deposit b.1 b.2 c (subst (λ r. IsCallText r c) (sym (same_tail (sym b.3 ∙ a.2))) a.4))
same_event_text fields moment (Examine n p) (Calls m d before) a b = absurd
    (no_examine a.1 d (subst (λ r. IsCallText r d) (sym (same_tail (sym a.2 ∙ b.2))) b.4))
same_event_text fields moment (Calls n c at) (Examine m q) a b = absurd
    (no_examine b.1 c (subst (λ r. IsCallText r c) (sym (same_tail (sym b.2 ∙ a.2))) a.4))

pub same_event : (text : List ℕ) (moment : Moment) (e f : Event) → IsEvent text moment e → IsEvent text moment f → e ≡ f
same_event text moment e f a b =
    let s = same_fields a.0 b.0 text a.1 b.1 in
    same_event_text a.0 moment e f a.2 (subst (λ fields. IsEventText fields moment f) (sym s) b.2)
