-- Bytes of orders that follow one another, and the answers that wait.
use Rattle.std.proofs.Common.{◌≡◌, ◌+◌, ◌*◌, ◌<◌, ◌≤◌, ℕ, List, [], ◌∷◌, ◌++◌, length, take, drop, refl, sym, ap, ◌∙◌}
use Rattle.std.proofs.Common.{◌⊎◌, ◌/◌, ◌%◌, ◌^◌, subst, append-nil, append_assoc, inl, inr, arith, Option, Result, Ok}
use Rattle.std.proofs.Common.{Err, IfErr, Bor}
use Rattle.std.specs.Io.KnownBytes.{Appends}
use Rattle.std.proofs.KnownBytes.{Appends-nil, Appends-trans}
use Rattle.std.proofs.lemmas.Grind.{flat_map-append}
use Rattle.std.proofs.Math.Seq.{take-add, take-append_seam}
use Rattle.std.proofs.lemmas.List.{take-append-drop, length-append, length-drop}
use Rattle.commands.specs.Common.{Machine, AlwaysStands}
use Rattle.commands.specs.declared.answer.Tally.{Tally}
use Rattle.commands.specs.declared.error.SessionError.{SessionError}
use Rattle.commands.specs.declared.error.SessionError.TheVariants.{Read, Write, NoMemory}
use Rattle.wire.specs.Frames.{Framed, IsFrame, IsPart, IsTooLong, BeginsWith, frame_bytes}
use Rattle.wire.specs.declared.front.Front.{Front}
use Rattle.wire.specs.declared.front.Front.TheVariants.{Whole, Part, TooLong}
use Rattle.wire.specs.declared.header.Header.{Header}
use Rattle.wire.specs.Records.{FitsRecord, record_bytes}
use Rattle.exchange.specs.Exchanges.{HasTurned, StepsOn, BreaksOff, IsBreak, IsFlushed, IsGivenUp, IsNotWhole}
use Rattle.exchange.specs.Turns.{Turn, answer_of, answers_of, orders_of}
use Rattle.exchange.proofs.TurnSteps.{takes_on, takes_none, counts_on, counts_none}
use Rattle.commands.proofs.OutputLaws.{longer}

-- Lists.

pub answers_on : (turns more : List Turn) → answers_of (turns ++ more) ≡ answers_of turns ++ answers_of more
answers_on turns more = flat_map-append (λ (t : Turn). answer_of t.answer t.groups) turns more

pub orders_on : (turns more : List Turn) → orders_of (turns ++ more) ≡ orders_of turns ++ orders_of more
orders_on turns more = flat_map-append (λ (t : Turn). frame_bytes t.frame) turns more

-- the waiting answers are written first
chain : (before one two w mid v after : List ℕ) → before ++ one ≡ w ++ mid → mid ++ two ≡ v ++ after
    → before ++ (one ++ two) ≡ (w ++ v) ++ after
chain before one two w mid v after p q = sym (append_assoc before one two) ∙ ap (λ l. l ++ two) p
    ∙ append_assoc w mid two ∙ ap (λ l. w ++ l) q ∙ sym (append_assoc w v after)

-- the front grows by the beginning of the rest
pub front_grows : (place n : ℕ) (xs front more : List ℕ) → drop place xs ≡ front ++ more → length front ≡ n
    → take (place + n) xs ≡ take place xs ++ front
front_grows place n xs front more is size = take-add place n xs ∙ ap (λ l. take place xs ++ l) (ap (take n) is
    ∙ ap (λ k. take k (front ++ more)) (sym size) ∙ take-append_seam front more)

module _ {S : Type 0} (machine : S → Machine) where
  pub steps_on : (a b c : S) (sink full over : Option (List ℕ)) (before mid after : List ℕ)
      (first then last : Tally) (bytes more : List ℕ) → StepsOn machine a b sink full before mid first then bytes
      → StepsOn machine b c full over mid after then last more
      → StepsOn machine a c sink over before after first last (bytes ++ more)
  steps_on a b c sink full over before mid after first then last bytes more p q = record {
    turns = p.turns ++ q.turns;
    takes = takes_on machine a b c p.turns q.turns p.takes q.takes;
    orders = ap (λ l. l ++ more) p.orders ∙ ap (λ l. orders_of p.turns ++ l) q.orders
        ∙ sym (orders_on p.turns q.turns);
    written = p.written ++ q.written;
    appended = Appends-trans sink full over p.written q.written p.appended q.appended;
    answers = ap (λ l. before ++ l) (answers_on p.turns q.turns)
        ∙ chain before (answers_of p.turns) (answers_of q.turns) p.written mid q.written after p.answers q.answers;
    counts = counts_on first then last p.turns q.turns p.counts q.counts;
  }

  cause_on : (error : SessionError) (unwritten rest more : List ℕ) → IsBreak error unwritten rest
      → IsBreak error unwritten (rest ++ more)
  cause_on Read unwritten rest more is = absurd is
  cause_on Write unwritten rest more is = is
  cause_on NoMemory unwritten rest more is = (is.0, longer rest more is.1)

  pub steps_break : (a b c : S) (sink full over : Option (List ℕ)) (before mid : List ℕ) (first then : Tally)
      (error : SessionError) (bytes more rest : List ℕ) → StepsOn machine a b sink full before mid first then bytes
      → BreaksOff machine b c full over mid error more
      → BreaksOff machine a c sink over before error (bytes ++ (more ++ rest))
  steps_break a b c sink full over before mid first then error bytes more rest p q = record {
    turns = p.turns ++ q.turns;
    takes = takes_on machine a b c p.turns q.turns p.takes q.takes;
    rest = q.rest ++ rest;
    orders = ap (λ l. l ++ (more ++ rest)) p.orders ∙ ap (λ l. orders_of p.turns ++ (l ++ rest)) q.orders
        ∙ ap (λ l. orders_of p.turns ++ l) (append_assoc (orders_of q.turns) q.rest rest)
        ∙ sym (append_assoc (orders_of p.turns) (orders_of q.turns) (q.rest ++ rest))
        ∙ ap (λ l. l ++ (q.rest ++ rest)) (sym (orders_on p.turns q.turns));
    written = p.written ++ q.written;
    unwritten = q.unwritten;
    appended = Appends-trans sink full over p.written q.written p.appended q.appended;
    answers = ap (λ l. before ++ l) (answers_on p.turns q.turns)
        ∙ chain before (answers_of p.turns) (answers_of q.turns) p.written mid q.written q.unwritten p.answers
        q.answers;
    cause = cause_on error q.unwritten q.rest rest q.cause;
  }

  -- the writer failed in it
  pub steps_unwritten : (a b : S) (sink full over : Option (List ℕ)) (before mid : List ℕ) (first then : Tally)
      (error : SessionError) (bytes rest : List ℕ) → StepsOn machine a b sink full before mid first then bytes
      → error ≡ Write → (written unwritten : List ℕ) → Appends full over written → mid ≡ written ++ unwritten
      → 0 < length unwritten → BreaksOff machine a b sink over before error (bytes ++ rest)
  steps_unwritten a b sink full over before mid first then error bytes rest p is written unwritten more parts some =
      record {
        turns = p.turns;
        takes = p.takes;
        rest = rest;
        orders = ap (λ l. l ++ rest) p.orders;
        written = p.written ++ written;
        unwritten = unwritten;
        appended = Appends-trans sink full over p.written written p.appended more;
        answers = p.answers ∙ ap (λ l. p.written ++ l) parts ∙ sym (append_assoc p.written written unwritten);
        cause = subst (λ e. IsBreak e unwritten rest) (sym is) some;
      }

  module _ (stands : AlwaysStands machine) where
    pub steps_none : (a : S) (sink : Option (List ℕ)) (waiting : List ℕ) (tally : Tally)
        → StepsOn machine a a sink sink waiting waiting tally tally []
    steps_none a sink waiting tally = record {
      turns = [];
      takes = takes_none machine stands a;
      orders = refl;
      written = [];
      appended = Appends-nil sink;
      answers = append-nil waiting;
      counts = counts_none tally;
    }

    -- nothing was done, and the waiting answers were written or not
    pub breaks_here : (a : S) (sink full : Option (List ℕ)) (before : List ℕ) (error : SessionError) (bytes : List ℕ)
        → 0 < length bytes → IsGivenUp sink full before error → BreaksOff machine a a sink full before error bytes
    breaks_here a sink full before error bytes some up = record {
      turns = [];
      takes = takes_none machine stands a;
      rest = bytes;
      orders = refl;
      written = up.0;
      unwritten = up.1;
      appended = up.2;
      answers = append-nil before ∙ up.3;
      cause = given_up error up.1 up.4;
    }
      where
        given_up : (error : SessionError) (unwritten : List ℕ)
            → ((error ≡ NoMemory) × (unwritten ≡ [])) ⊎ ((error ≡ Write) × (0 < length unwritten))
            → IsBreak error unwritten bytes
        given_up error unwritten (inl none) = subst (λ e. IsBreak e unwritten bytes) (sym none.0) (none.1, some)
        given_up error unwritten (inr failed) = subst (λ e. IsBreak e unwritten bytes) (sym failed.0) failed.1

  -- one record
  pub steps_one : (a b : S) (sink : Option (List ℕ)) (frame : Framed) (before after : List ℕ) (tally counted : Tally)
      → HasTurned machine a b frame before after tally counted
      → StepsOn machine a b sink sink before after tally counted (frame_bytes frame)
  steps_one a b sink frame before after tally counted p = record {
    turns = p.turn ∷ [];
    takes = p.takes;
    orders = ap frame_bytes (sym p.frame_is) ∙ sym (append-nil (frame_bytes p.turn.frame));
    written = [];
    appended = Appends-nil sink;
    answers = ap (λ l. before ++ l) (append-nil (answer_of p.turn.answer p.turn.groups)) ∙ sym p.answered;
    counts = p.counts;
  }

  pub record_breaks : (a b : S) (sink full : Option (List ℕ)) (frame : Framed) (before mid after : List ℕ)
      (tally counted : Tally) (result : Result (Unit {0}) SessionError)
      → HasTurned machine a b frame before mid tally counted → IsFlushed sink full mid after result
      → IfErr result (λ error. BreaksOff machine a b sink full before error (frame_bytes frame))
  record_breaks a b sink full frame before mid after tally counted (Ok unit) p q = tt
  record_breaks a b sink full frame before mid after tally counted (Err error) p q =
      subst (λ bytes. BreaksOff machine a b sink full before error bytes) (append-nil (frame_bytes frame))
      (steps_unwritten a b sink sink full before mid tally counted error (frame_bytes frame) []
      (steps_one a b sink frame before mid tally counted p) q.0 q.1 q.2 q.3 q.4 q.5)

pub frame_some : (frame : Framed) → 0 < length (frame_bytes frame)
frame_some frame = omega arith

pub frame_size : (frame : Framed) → length (frame_bytes frame) ≡ 16 + length frame.body
frame_size frame = omega arith

-- a whole record at the beginning of the rest
pub within_grows : (place : ℕ) (xs more : List ℕ) (frame : Framed) → place ≤ length xs
    → drop place xs ≡ frame_bytes frame ++ more → place + (16 + length frame.body) ≤ length xs
within_grows place xs more frame within is =
    omega (
      arith,
      within,
      length-drop place xs,
      ap (λ (l : List ℕ). length l) is,
      length-append (frame_bytes frame) more,
      frame_size frame,
    )

pub whole_again : (place : ℕ) (xs front more : List ℕ) → drop place xs ≡ front ++ more
    → take place xs ++ (front ++ more) ≡ xs
whole_again place xs front more is = ap (λ l. take place xs ++ l) (sym is) ∙ take-append-drop place xs

pub not_whole : (bytes : List ℕ) (front : Front) → BeginsWith bytes front
    → ((header : Header) (body : Bor (List ℕ)) → front ≡ Whole header body → ⊥) → IsNotWhole bytes
not_whole bytes (Whole header body) begins none = absurd (none header body refl)
not_whole bytes Part begins none = inl begins
not_whole bytes TooLong begins none = inr begins

module _ {S : Type 0} (machine : S → Machine) where
  -- the answers to the whole records that bytes begin with were not all written
  pub whole_unwritten : (a b : S) (sink full over : Option (List ℕ)) (before mid after : List ℕ) (first then : Tally)
      (error : SessionError) (place : ℕ) (held : List ℕ)
      → StepsOn machine a b sink full before mid first then (take place held)
      → IsFlushed full over mid after (Err error) → BreaksOff machine a b sink over before error held
  whole_unwritten a b sink full over before mid after first then error place held p q =
      subst (λ bytes. BreaksOff machine a b sink over before error bytes) (take-append-drop place held)
      (steps_unwritten machine a b sink full over before mid first then error (take place held) (drop place held) p
      q.0 q.1 q.2 q.3 q.4 q.5)

-- Bytes that begin with a whole record don't announce too much.

twelve : List ℕ → List ℕ
twelve (a ∷ b ∷ c ∷ d ∷ e ∷ f ∷ g ∷ h ∷ i ∷ j ∷ k ∷ l ∷ rest) = rest
twelve bytes = []

four : List ℕ → ℕ
four (a ∷ b ∷ c ∷ d ∷ rest) = ((a * 256 + b) * 256 + c) * 256 + d
four bytes = 0

number_again : (n : ℕ) → n < 2 ^ 32
    → ((n / 16777216 % 256 * 256 + n / 65536 % 256) * 256 + n / 256 % 256) * 256 + n % 256 ≡ n
number_again n fits = omega (arith, fits)

count_is : (h k : Header) (body more rest : List ℕ) → FitsRecord h → FitsRecord k
    → (record_bytes h ++ body) ++ more ≡ record_bytes k ++ rest → h.count ≡ k.count
unfolding four twelve
count_is h k body more rest fits fits' is = sym (number_again h.count fits.count_fits)
    ∙ ap (λ bytes. four (twelve bytes)) is ∙ number_again k.count fits'.count_fits

pub whole_fits : (bytes more : List ℕ) (frame : Framed) → IsFrame frame → bytes ≡ frame_bytes frame ++ more
    → IsTooLong bytes → ⊥
whole_fits bytes more frame is begins (header, fits, rest, also, many) =
    omega (arith, is.few, many, count_is frame.header header frame.body more rest is.fits fits (sym begins ∙ also))

pub part_or_long : (bytes : List ℕ) (front : Front) → BeginsWith bytes front → (front ≡ TooLong → ⊥)
    → IsNotWhole bytes → IsPart bytes
part_or_long bytes (Whole header body) begins other (inl part) = part
part_or_long bytes (Whole header body) begins other (inr long) =
    absurd (whole_fits bytes begins.1.0 (record { header = header; body = body.now }) begins.0 begins.1.1 long)
part_or_long bytes Part begins other rest = begins
part_or_long bytes TooLong begins other rest = absurd (other refl)
