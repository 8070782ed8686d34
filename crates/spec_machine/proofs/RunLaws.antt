-- A run continues by one event.
use Rattle.std.proofs.Common.{List, [], ◌∷◌, ◌++◌, refl, subst}
use Rattle.spec_image.specs.Common.{Pack}
use Rattle.spec_machine.specs.Runs.{Service, Answers, AnswersAll}
use Rattle.spec_machine.specs.declared.call.Event.{Event}
use Rattle.spec_machine.specs.declared.call.Reply.{Reply}

pub run-push : (pack : Pack) (old mid new : Service) (events : List Event) (replies : List Reply) (event : Event)
    (reply : Reply)
    → AnswersAll pack old events replies mid → Answers pack mid event reply new
    → AnswersAll pack old (events ++ event ∷ []) (replies ++ reply ∷ []) new
run-push pack old mid new [] [] event reply r a = (new, subst (λ s. Answers pack s event reply new) r a, refl)
run-push pack old mid new [] (q ∷ replies) event reply r a = absurd r
run-push pack old mid new (e ∷ events) [] event reply r a = absurd r
run-push pack old mid new (e ∷ events) (q ∷ replies) event reply r a =
    (r.0, r.1, run-push pack r.0 mid new events replies event reply r.2 a)
