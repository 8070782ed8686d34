-- Texts that wait, and are written.
use Rattle.std.proofs.Common.{◌≡◌, ◌<◌, ℕ, List, [], ◌++◌, length, sym, ap, ◌∙◌, subst, append-nil, append_assoc}
use Rattle.std.proofs.Common.{arith, Option, Result, Ok, Err, IfErr, OnOk}
use Rattle.std.proofs.lemmas.List.{length-append}
use Rattle.std.specs.Io.KnownBytes.{Appends}
use Rattle.std.proofs.KnownBytes.{Appends-trans}
use Rattle.commands.specs.Common.{IsFlushed, IsGivenUp, AddsText}
use Rattle.commands.specs.declared.error.SessionError.{SessionError}
use Rattle.commands.specs.declared.error.SessionError.TheVariants.{Read, Write, NoMemory}

pub longer : (xs ys : List ℕ) → 0 < length xs → 0 < length (xs ++ ys)
longer xs ys some = omega (arith, some, length-append xs ys)

-- the unwritten text grows by a text
left_more : (waiting written unwritten text : List ℕ) → waiting ≡ written ++ unwritten
    → waiting ++ text ≡ written ++ (unwritten ++ text)
left_more waiting written unwritten text is = ap (λ (l : List ℕ). l ++ text) is ∙ append_assoc written unwritten text

-- the writer refused the waiting text, before a text that couldn't wait
pub adds_nothing : (sink full : Option (List ℕ)) (error : SessionError) (waiting mid after text : List ℕ)
    → mid ≡ waiting → IsFlushed sink full mid after (Err error) → AddsText sink full waiting after text (Err error)
adds_nothing sink full error waiting mid after text same p =
    subst (λ (e : SessionError). AddsText sink full waiting after text (Err e)) (sym p.0)
    (p.1, p.2 ++ text, p.3, left_more waiting p.1 p.2 text (sym same ∙ p.4), longer p.2 text p.5)

-- a text that can't wait is written after the waiting one
pub adds_at_once : (sink full over : Option (List ℕ)) (result : Result (Unit {0}) SessionError)
    (waiting mid after text : List ℕ) → mid ≡ waiting → IsFlushed sink full mid after (Ok tt) → after ≡ []
    → OnOk result (Appends full over text)
    → IfErr result (λ error. (error ≡ Write) × ((written : List ℕ) × (unwritten : List ℕ)
    × Appends full over written × (text ≡ written ++ unwritten) × (0 < length unwritten)))
    → AddsText sink over waiting after text result
adds_at_once sink full over (Ok unit) waiting mid after text same p none whole cut = (
  p.0 ++ text,
  Appends-trans sink full over p.0 text p.1 whole,
  ap (λ (l : List ℕ). l ++ text) (all_of waiting mid p.0 after same p.2 none) ∙ sym (append-nil (p.0 ++ text))
      ∙ ap (λ (l : List ℕ). (p.0 ++ text) ++ l) (sym none),
)
  where
    all_of : (waiting mid written after : List ℕ) → mid ≡ waiting → mid ≡ written ++ after → after ≡ []
        → waiting ≡ written
    all_of waiting mid written after same is none = sym same ∙ is ∙ ap (λ (l : List ℕ). written ++ l) none
        ∙ append-nil written
adds_at_once sink full over (Err error) waiting mid after text same p none whole cut =
    subst (λ (e : SessionError). AddsText sink over waiting after text (Err e)) (sym cut.0) (
      p.0 ++ cut.1.0,
      cut.1.1,
      Appends-trans sink full over p.0 cut.1.0 p.1 cut.1.2,
      ap (λ (l : List ℕ). l ++ text) (sym same ∙ p.2 ∙ ap (λ (l : List ℕ). p.0 ++ l) none ∙ append-nil p.0)
          ∙ ap (λ (l : List ℕ). p.0 ++ l) cut.1.3 ∙ sym (append_assoc p.0 cut.1.0 cut.1.1),
      cut.1.4,
    )

-- there was no memory for a text
pub adds_unmade : (sink full : Option (List ℕ)) (error : SessionError) (waiting after text : List ℕ)
    → IsGivenUp sink full waiting error → AddsText sink full waiting after text (Err error)
adds_unmade sink full Read waiting after text p = absurd p
adds_unmade sink full Write waiting after text p =
    (p.0, p.1 ++ text, p.2, left_more waiting p.0 p.1 text p.3, longer p.1 text p.4)
adds_unmade sink full NoMemory waiting after text p = p

-- The waiting text is written after a line.

-- what was written, with the waiting text, is what is written now, with the text that still waits
pub waits_on : (past one waiting two waits : List ℕ) → waiting ≡ two ++ waits
    → (past ++ one) ++ waiting ≡ (past ++ (one ++ two)) ++ waits
waits_on past one waiting two waits is = ap (λ (l : List ℕ). (past ++ one) ++ l) is
    ∙ sym (append_assoc (past ++ one) two waits) ∙ ap (λ (l : List ℕ). l ++ waits) (append_assoc past one two)

-- the text so far, with a line's text
pub said_on : (past waiting text written waits : List ℕ) → waiting ++ text ≡ written ++ waits
    → (past ++ waiting) ++ text ≡ (past ++ written) ++ waits
said_on past waiting text written waits is = append_assoc past waiting text ∙ ap (λ (l : List ℕ). past ++ l) is
    ∙ sym (append_assoc past written waits)

pub adds_flushed : (sink full over : Option (List ℕ)) (waiting mid after text : List ℕ)
    → AddsText sink full waiting mid text (Ok tt) → IsFlushed full over mid after (Ok tt)
    → AddsText sink over waiting after text (Ok tt)
adds_flushed sink full over waiting mid after text p q = (
  p.0 ++ q.0,
  Appends-trans sink full over p.0 q.0 p.1 q.1,
  p.2 ∙ ap (λ (l : List ℕ). p.0 ++ l) q.2 ∙ sym (append_assoc p.0 q.0 after),
)

pub adds_unwritten : (sink full over : Option (List ℕ)) (error : SessionError) (waiting mid after text : List ℕ)
    → AddsText sink full waiting mid text (Ok tt) → IsFlushed full over mid after (Err error)
    → AddsText sink over waiting after text (Err error)
adds_unwritten sink full over error waiting mid after text p q =
    subst (λ (e : SessionError). AddsText sink over waiting after text (Err e)) (sym q.0) (
      p.0 ++ q.1,
      q.2,
      Appends-trans sink full over p.0 q.1 p.1 q.3,
      p.2 ∙ ap (λ (l : List ℕ). p.0 ++ l) q.4 ∙ sym (append_assoc p.0 q.1 q.2),
      q.5,
    )
