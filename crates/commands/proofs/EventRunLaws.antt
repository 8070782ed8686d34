-- The answer to a line of a call script.
use Rattle.std.proofs.Common.{◌≡◌, ℕ, ◌||◌, true, [], ◌∷◌, List, refl, sym, ◌∙◌, subst, Option, Some, None, Result}
use Rattle.std.proofs.Common.{IfOk}
use Rattle.words36.specs.declared.moment.Moment.{Moment}
use Rattle.spec_language.specs.Common.{words_given, wrong, is_success, refused_unless, reports_reply, complains}
use Rattle.spec_language.specs.Common.{is_broken, line, Asks}
use Rattle.spec_machine.specs.declared.call.Reply.{Reply}
use Rattle.spec_machine.specs.declared.call.Event.{Event}
use Rattle.commands.specs.Common.{Machine, AlwaysStands, IsAnswered, LineDone}
use Rattle.commands.specs.declared.answer.Tally.{Tally}
use Rattle.commands.specs.declared.run.ParsedLine.TheVariants.{EventLine}
use Rattle.commands.proofs.ActLaws.{goes_nowhere, goes_answered}
use Rattle.commands.proofs.TranscriptLaws.{or-false}
use Rattle.commands.proofs.AnswerLaws.{or-true}

module _ {V E S : Type 0} (machine : S → Machine) (stands : AlwaysStands machine) (bytes : V
    → List ℕ) (result : Result V E) (moment : Moment) (user : Option ℕ) (tally counted : Tally)
    (order : Option Event) where
  -- a line without an event
  pub replied_wrong : (m : S) → order ≡ None → counted.refused ≡ true → counted.broke ≡ tally.broke
      → IfOk result (λ v. bytes v ≡ line wrong)
      → LineDone bytes result machine m m moment user user tally counted (EventLine order)
  replied_wrong m e refused broke text = subst (λ (o : Option Event).
      LineDone bytes result machine m m moment user user tally counted (EventLine o)) (sym e) (record {
        acts = [];
        said = complains wrong;
        line_acts = ((refl, refl), refl);
        goes = goes_nowhere machine stands m;
        refused = refused ∙ or-true tally.refused;
        broke = broke ∙ or-false tally.broke;
        text = text;
      })

  -- and one with an event
  pub replied_to : (a b : S) (event : Event) (reply : Reply) → order ≡ Some event
      → IsAnswered (machine a) (machine b) event reply → counted.refused ≡ tally.refused
      || refused_unless (is_success reply) → counted.broke ≡ tally.broke || is_broken reply
      → IfOk result (λ v. bytes v ≡ line (words_given reply))
      → LineDone bytes result machine a b moment user user tally counted (EventLine order)
  replied_to a b event reply e answered refused broke text = subst (λ (o : Option Event).
      LineDone bytes result machine a b moment user user tally counted (EventLine o)) (sym e) (record {
        acts = Asks event reply ∷ [];
        said = reports_reply reply;
        line_acts = ((reply, refl, refl), refl);
        goes = goes_answered machine stands a b event reply answered;
        refused = refused;
        broke = broke;
        text = text;
      })
