-- A turn, from its acts and its tally.
use Rattle.std.proofs.Common.{◌≡◌, ◌||◌, ℕ, List, [], ◌∷◌, ◌++◌, length, true, refl, sym, ap, subst, ◌∙◌}
use Rattle.std.proofs.Common.{append_assoc, append-nil, Some, None}
use Rattle.spec_machine.specs.Common.{State, Service, Serving, Broken}
use Rattle.spec_language.specs.Common.{Act}
use Rattle.spec_machine.specs.declared.area.Area.{Area}
use Rattle.commands.specs.Common.{Machine, AlwaysStands, GoesBy}
use Rattle.commands.specs.declared.answer.Tally.{Tally}
use Rattle.commands.proofs.ActLaws.{acts_went, goes_nowhere}
use Rattle.wire.specs.Frames.{Framed, IsFrame}
use Rattle.words36.specs.Common.{block_bytes}
use Rattle.wire.specs.Records.{IsOrder, record_bytes, answer_record}
use Rattle.wire.specs.declared.answer.Answer.{Answer}
use Rattle.wire.specs.declared.answer.Answer.TheVariants.{Wrong}
use Rattle.wire.specs.declared.order.Order.{Order}
use Rattle.exchange.specs.Turns.{Turn, IsTurn, Tells, TellsOf, answer_of, is_wrong, is_fault}
use Rattle.exchange.specs.Exchanges.{Takes, Counts, ServesOrder, HasTurned}
use Rattle.commands.proofs.AnswerLaws.{or-true}
use Rattle.commands.proofs.TranscriptLaws.{or-false}

-- the tally of one turn
pub counts_one : (tally counted : Tally) (t : Turn) → counted.refused ≡ tally.refused || is_wrong t.answer
    → counted.broke ≡ tally.broke || is_fault t.answer → counted.reason ≡ tally.reason
    → Counts tally counted (t ∷ [])
counts_one tally counted t refused broke reason = record {
  refused = refused ∙ ap (λ b. tally.refused || b) (or-false (is_wrong t.answer));
  broke = broke ∙ ap (λ b. tally.broke || b) (or-false (is_fault t.answer));
  reason = reason;
}

module _ {S : Type 0} (machine : S → Machine) where
  module _ (a b : S) (t : Turn) (goes : GoesBy machine a b t.acts)
      (tells : (machine a).honest → (first : Service) → (machine a).serves first → Tells (machine a).pack first t) where
    -- one turn was taken
    pub takes_one : IsTurn t → Takes machine a b (t ∷ [])
    takes_one is = record {
      goes = subst (λ (acts : List Act). GoesBy machine a b acts) (sym (append-nil t.acts)) goes;
      are = (is, tt);
      reported = λ honest first serves.
          let went = goes.went honest first serves in (
            went.0,
            went.1,
            (
              tells (goes.was_honest honest) first serves,
              went.0,
              acts_went machine (machine a).pack a first t.acts b went.0 went.2,
              refl,
            ),
            went.3,
          );
    }

  tells_served : (a : S) (t : Turn)
      → ((machine a).honest → (s : State) → (machine a).serves (Serving s) → TellsOf (machine a).pack s t.order t)
      → (machine a).honest → (first : Service) → (machine a).serves first → Tells (machine a).pack first t
  tells_served a t told honest (Serving s) serves = told honest s serves
  tells_served a t told honest Broken serves = tt

  -- an order that was served
  pub turned : (a b : S) (frame : Framed) (order : Order) (words : List ℕ) (areas : List Area) (answer : Answer)
      (groups before after : List ℕ) (tally counted : Tally) → IsFrame frame
      → IsOrder frame.header frame.body order words → ServesOrder machine a b frame order words areas answer groups
      → after ≡ before ++ answer_of answer groups → counted.refused ≡ tally.refused || is_wrong answer
      → counted.broke ≡ tally.broke || is_fault answer → counted.reason ≡ tally.reason
      → HasTurned machine a b frame before after tally counted
  turned a b frame order words areas answer groups before after tally counted framed is p after_is refused
      broke reason =
      let t : Turn
      = record { frame = frame; order = Some order; areas = areas; acts = p.acts; answer = answer; groups = groups } in
      record {
        turn = t;
        frame_is = refl;
        takes = takes_one a b t p.goes (tells_served a t p.tells)
            (record { frame = framed; answer = (words, is, p.obeyed) });
        answered = after_is;
        counts = counts_one tally counted t refused broke reason;
      }

  -- a record that spells no order
  pub turned_down : AlwaysStands machine → (a : S) (frame : Framed) (before after : List ℕ) (tally counted : Tally)
      → IsFrame frame → ((order : Order) (words : List ℕ) → IsOrder frame.header frame.body order words → ⊥)
      → after ≡ before ++ answer_of Wrong [] → counted.refused ≡ true → counted.broke ≡ tally.broke
      → counted.reason ≡ tally.reason → HasTurned machine a a frame before after tally counted
  turned_down stands a frame before after tally counted framed none after_is refused broke reason =
      let t : Turn
      = record { frame = frame; order = None; areas = []; acts = []; answer = Wrong; groups = [] } in
      record {
        turn = t;
        frame_is = refl;
        takes = takes_one a a t (goes_nowhere machine stands a) (tells_served a t (λ honest s serves. tt))
            (record { frame = framed; answer = (none, refl, refl, refl) });
        answered = after_is;
        counts = counts_one tally counted t (refused ∙ or-true tally.refused) (broke ∙ or-false tally.broke) reason;
      }

-- what is appended for an answer
pub appended_answer : (before mid after : List ℕ) (answer : Answer) (groups given : List ℕ)
    → after ≡ mid ++ record_bytes (answer_record answer (length given)) ++ block_bytes given → mid ≡ before
    → given ≡ groups → after ≡ before ++ answer_of answer groups
appended_answer before mid after answer groups given is kept same =
    is ∙ append_assoc mid (record_bytes (answer_record answer (length given))) (block_bytes given)
    ∙ (λ i. kept i ++ answer_of answer (same i))
