-- Lines with their numbers, which of them are refused, and their tally.
use Rattle.std.proofs.Common.{◌≡◌, ℕ, ◌+◌, ◌-◌, ◌^◌, ◌==◌, min, Bool, true, false, cond, List, [], ◌∷◌, ◌++◌, length}
use Rattle.std.proofs.Common.{map, refl, sym, ◌∙◌, ap, subst, arith, append_assoc, append-nil, inl, inr, Option, Some}
use Rattle.words36.specs.declared.moment.Moment.{Moment}
use Rattle.spec_language.specs.Common.{Line, without_return, fitting, Act, Spoken, both_said, silent}
use Rattle.commands.specs.Common.{LineSays, capped, feeds, numbered_after, numbered, mark, reason_of, counts}
use Rattle.commands.specs.Common.{IsParsedLine}
use Rattle.commands.specs.Common.{LineActs, HasNoFeed, AreWholeLines, IsNumberedTranscript}
use Rattle.commands.specs.declared.language.Language.{Language}
use Rattle.commands.specs.declared.reason.Reason.{Reason}
use Rattle.commands.specs.declared.reason.Reason.TheVariants.{Lines}
use Rattle.commands.specs.declared.run.ParsedLine.{ParsedLine}
use Rattle.commands.specs.declared.run.ParsedLine.TheVariants.{NoLine, CommandLine, EventLine}
use Rattle.commands.proofs.SplitLaws.{unless}
use Rattle.commands.proofs.TranscriptLaws.{parsed_line, joined-silent, joined_assoc, joined-end}

-- The numbers of lines.

abbrev pub with_number : ℕ → List Line → List (ℕ × Line)
with_number n lines = map (λ (line : Line). (n, line)) lines

after_unended : (n : ℕ) (raw seen : List ℕ) → HasNoFeed seen
    → numbered_after n raw seen ≡ with_number n (fitting (raw ++ seen) (raw ++ seen))
after_unended n raw [] h = ap (λ (l : List ℕ). with_number n (fitting l l)) (sym (append-nil raw))
after_unended n raw (b ∷ bs) h = unless (b == 10) _ _ h.0 ∙ after_unended n (raw ++ b ∷ []) bs h.1
    ∙ ap (λ (l : List ℕ). with_number n (fitting l l)) (append_assoc raw (b ∷ []) bs)

after_fed : (n : ℕ) (raw seen : List ℕ) → HasNoFeed seen → numbered_after n raw (seen ++ 10 ∷ [])
    ≡ with_number n (fitting (raw ++ seen) (without_return (raw ++ seen)))
after_fed n raw [] h = append-nil (with_number n (fitting raw (without_return raw)))
    ∙ ap (λ (l : List ℕ). with_number n (fitting l (without_return l))) (sym (append-nil raw))
after_fed n raw (b ∷ bs) h = unless (b == 10) _ _ h.0 ∙ after_fed n (raw ++ b ∷ []) bs h.1
    ∙ ap (λ (l : List ℕ). with_number n (fitting l (without_return l))) (append_assoc raw (b ∷ []) bs)

after_joined : (n : ℕ) (raw before rest : List ℕ) → numbered_after n raw ((before ++ 10 ∷ []) ++ rest)
    ≡ numbered_after n raw (before ++ 10 ∷ []) ++ numbered_after (n + feeds (before ++ 10 ∷ [])) [] rest
after_joined n raw [] rest = ap (λ (l : List (ℕ × Line)). l ++ numbered_after (n + 1) [] rest)
    (sym (append-nil (with_number n (fitting raw (without_return raw)))))
after_joined n raw (b ∷ bs) rest =
    let here : List (ℕ × Line) = with_number n (fitting raw (without_return raw)) in
    let more : ℕ = feeds (bs ++ 10 ∷ []) in
    let next : List (ℕ × Line) = numbered_after (n + 1) [] (bs ++ 10 ∷ []) in
    let one : (n + 1) + more ≡ n + (1 + more) = omega arith in
    let none : n + more ≡ n + (0 + more) = omega arith in
    elim (b == 10) as (λ t. cond t (here ++ numbered_after (n + 1) [] ((bs ++ 10 ∷ []) ++ rest))
    (numbered_after n (raw ++ b ∷ []) ((bs ++ 10 ∷ []) ++ rest))
    ≡ cond t (here ++ numbered_after (n + 1) [] (bs ++ 10 ∷ [])) (numbered_after n (raw ++ b ∷ []) (bs ++ 10 ∷ []))
    ++ numbered_after (n + (cond t 1 0 + more)) [] rest) [
      | true ↦ ap (λ (l : List (ℕ × Line)). here ++ l) (after_joined (n + 1) [] bs rest)
          ∙ sym (append_assoc here next (numbered_after ((n + 1) + more) [] rest))
          ∙ ap (λ (k : ℕ). (here ++ next) ++ numbered_after k [] rest) one
      | false ↦ after_joined n (raw ++ b ∷ []) bs rest
          ∙ ap (λ (k : ℕ). numbered_after n (raw ++ b ∷ []) (bs ++ 10 ∷ []) ++ numbered_after k [] rest) none
    ]

numbered_joined : (front rest : List ℕ) → AreWholeLines front
    → numbered (front ++ rest) ≡ numbered front ++ numbered_after (feeds front + 1) [] rest
numbered_joined front rest (inl e) = subst (λ (l : List ℕ). numbered (l ++ rest)
    ≡ numbered l ++ numbered_after (feeds l + 1) [] rest) (sym e) refl
numbered_joined front rest (inr p) =
    let same : 1 + feeds (p.0 ++ 10 ∷ []) ≡ feeds (p.0 ++ 10 ∷ []) + 1 = omega arith in
    subst (λ (l : List ℕ). numbered (l ++ rest) ≡ numbered l ++ numbered_after (feeds l + 1) [] rest) (sym p.1)
    (after_joined 1 [] p.0 rest
    ∙ ap (λ (k : ℕ). numbered (p.0 ++ 10 ∷ []) ++ numbered_after k [] rest) same)

-- up to a line feed, and up to the end
pub numbered_fed : (read front seen : List ℕ) (b : ℕ) → b ≡ 10 → read ≡ front ++ seen → AreWholeLines front
    → HasNoFeed seen → numbered (read ++ b ∷ [])
    ≡ numbered front ++ with_number (feeds front + 1) (fitting seen (without_return seen))
numbered_fed read front seen b feed parted whole unended =
    (λ i. numbered (parted i ++ feed i ∷ [])) ∙ ap numbered (append_assoc front seen (10 ∷ []))
    ∙ numbered_joined front (seen ++ 10 ∷ []) whole
    ∙ ap (λ (l : List (ℕ × Line)). numbered front ++ l) (after_fed (feeds front + 1) [] seen unended)

pub numbered_ended : (read front seen : List ℕ) → read ≡ front ++ seen → AreWholeLines front → HasNoFeed seen
    → numbered read ≡ numbered front ++ with_number (feeds front + 1) (fitting seen seen)
numbered_ended read front seen parted whole unended = ap numbered parted ∙ numbered_joined front seen whole
    ∙ ap (λ (l : List (ℕ × Line)). numbered front ++ l) (after_unended (feeds front + 1) [] seen unended)

feeds-append : (xs ys : List ℕ) → feeds (xs ++ ys) ≡ feeds xs + feeds ys
feeds-append [] ys = omega arith
feeds-append (x ∷ xs) ys = omega (arith, feeds-append xs ys)

no_feeds : (seen : List ℕ) → HasNoFeed seen → feeds seen ≡ 0
no_feeds [] h = refl
no_feeds (b ∷ bs) h =
    let one : ℕ = 1 in
    let zero : ℕ = 0 in
    let none : cond (b == 10) one zero ≡ zero = unless (b == 10) one zero h.0 in
    omega (arith, none, no_feeds bs h.1)

-- one more line feed
pub feeds_fed : (read front seen : List ℕ) (b : ℕ) → b ≡ 10 → read ≡ front ++ seen → HasNoFeed seen
    → feeds (read ++ b ∷ []) ≡ feeds front + 1
feeds_fed read front seen b feed parted unended =
    let all : feeds (read ++ b ∷ []) ≡ feeds ((front ++ seen) ++ 10 ∷ []) = λ i. feeds (parted i ++ feed i ∷ []) in
    let last : feeds ((front ++ seen) ++ 10 ∷ []) ≡ feeds (front ++ seen) + 1
    = feeds-append (front ++ seen) (10 ∷ []) in
    omega (arith, all, last, feeds-append front seen, no_feeds seen unended)

-- Transcripts.

module _ (language : Language) (moment : Moment) where
  pub refusals_on : (user : Option ℕ) (lines more : List (ℕ × Line)) (acts next : List Act) (said here : Spoken)
      (mid after : Option ℕ) (refused later : List ℕ)
      → IsNumberedTranscript language moment user lines acts said mid refused
      → IsNumberedTranscript language moment mid more next here after later
      → IsNumberedTranscript language moment user (lines ++ more) (acts ++ next) (both_said said here) after
      (refused ++ later)
  refusals_on user [] more acts next said here mid after refused later p q =
      let w : mid ≡ user = p.2 in
      let a : next ≡ acts ++ next = ap (λ (l : List Act). l ++ next) (sym p.0) in
      let s : here ≡ both_said said here = joined-silent said here p.1 in
      let r : later ≡ refused ++ later = ap (λ (l : List ℕ). l ++ later) (sym p.3) in
      subst (λ (v : List ℕ). IsNumberedTranscript language moment user more (acts ++ next) (both_said said here) after
      v)
      r
      (subst (λ (v : Option ℕ). IsNumberedTranscript language moment v more (acts ++ next) (both_said said here) after
      later) w
      (subst (λ (v : Spoken). IsNumberedTranscript language moment mid more (acts ++ next) v after later) s
      (subst (λ (l : List Act). IsNumberedTranscript language moment mid more l here after later) a q)))
  refusals_on user (line ∷ lines) more acts next said here mid after refused later p q = (
    p.0,
    p.1 ++ next,
    p.2,
    both_said p.3 here,
    p.4,
    p.5 ++ later,
    p.6,
    refusals_on p.4 lines more p.1 next p.3 here mid after p.5 later p.7 q,
    ap (λ (l : List Act). l ++ next) p.8 ∙ append_assoc p.0 p.1 next,
    ap (λ (v : Spoken). both_said v here) p.9 ∙ joined_assoc p.2 p.3 here,
    ap (λ (l : List ℕ). l ++ later) p.10 ∙ append_assoc (mark p.2.refused line.0) p.5 later,
  )

  refusal_one : (user : Option ℕ) (n : ℕ) (line : Line) (acts : List Act) (said : Spoken) (after : Option ℕ)
      → LineSays language moment user line acts said after
      → IsNumberedTranscript language moment user ((n, line) ∷ []) acts said after (mark said.refused n)
  refusal_one user n line acts said after p = (
    acts,
    [],
    said,
    silent,
    after,
    [],
    p,
    (refl, refl, refl, refl),
    sym (append-nil acts),
    joined-end said,
    sym (append-nil (mark said.refused n)),
  )

  no_line : (user : Option ℕ) (n : ℕ) (acts : List Act) (said : Spoken) (after : Option ℕ)
      → LineActs moment user NoLine acts said after
      → IsNumberedTranscript language moment user [] acts said after (mark said.refused n)
  no_line user n acts said after p = (p.0, p.1, p.2, ap (λ (v : Spoken). mark v.refused n) p.1)

  -- the parsed line is the one that has the number
  pub refusals_parsed : (user : Option ℕ) (n : ℕ) (lines : List Line) (parsed : ParsedLine) (acts : List Act)
      (said : Spoken)
      (after : Option ℕ) → IsParsedLine language moment lines parsed → LineActs moment user parsed acts said after
      → IsNumberedTranscript language moment user (with_number n lines) acts said after (mark said.refused n)
  refusals_parsed user n [] parsed acts said after h p =
      no_line user n acts said after (subst (λ (x : ParsedLine). LineActs moment user x acts said after) h p)
  refusals_parsed user n (line ∷ lines) NoLine acts said after h p = absurd h
  refusals_parsed user n (line ∷ lines) (CommandLine meant) acts said after h p =
      let l = parsed_line language moment user (line ∷ lines) (CommandLine meant) acts said after (λ e. cc) h p in
      subst (λ (m : List Line). IsNumberedTranscript language moment user (with_number n m) acts said after
      (mark said.refused n)) (sym l.2) (refusal_one user n l.0 acts said after l.1)
  refusals_parsed user n (line ∷ lines) (EventLine order) acts said after h p =
      let l = parsed_line language moment user (line ∷ lines) (EventLine order) acts said after (λ e. cc) h p in
      subst (λ (m : List Line). IsNumberedTranscript language moment user (with_number n m) acts said after
      (mark said.refused n)) (sym l.2) (refusal_one user n l.0 acts said after l.1)

-- Counting.

pub capped_more : (n : ℕ) → min (capped n + 1) (2 ^ 64 - 1) ≡ capped (n + 1)
capped_more n = grind arith

length-more : (xs : List ℕ) (n : ℕ) → length (xs ++ n ∷ []) ≡ length xs + 1
length-more [] n = refl
length-more (x ∷ xs) n = omega (arith, length-more xs n)

-- one more line is counted
pub reason_more : (refused : List ℕ) (n : ℕ) (more : Bool) (reason : Option Reason) → reason ≡ reason_of refused
    → counts reason (capped n) more ≡ reason_of (refused ++ mark more n)
reason_more refused n false reason e = e ∙ ap reason_of (sym (append-nil refused))
reason_more [] n true reason e = ap (λ (r : Option Reason). counts r (capped n) true) e
reason_more (k ∷ ks) n true reason e =
    let many : capped (capped (length ks + 1) + 1) ≡ capped (length (ks ++ n ∷ []) + 1) = capped_more (length ks + 1)
    ∙ ap (λ (m : ℕ). capped (m + 1)) (sym (length-more ks n)) in
    ap (λ (r : Option Reason). counts r (capped n) true) e
    ∙ (λ i. Some (Lines (record { count = many i; first = capped k })))
