-- Turns that follow one another.
use Rattle.std.proofs.Common.{◌≡◌, List, [], ◌∷◌, ◌++◌, refl, sym, ap, ◌∙◌, subst, Bool, ◌||◌}
use Rattle.std.proofs.Math.Bool.{or_assoc, or-false}
use Rattle.std.proofs.lemmas.List.Folds.{list_any-append}
use Rattle.std.proofs.lemmas.Grind.{flat_map-append}
use Rattle.std.specs.List.{list_any}
use Rattle.spec_machine.specs.Common.{Service, Serving, Broken}
use Rattle.spec_language.specs.Common.{Act, Asks, Looks, Went}
use Rattle.spec_image.specs.Common.{Pack}
use Rattle.spec_image.proofs.Common.{all_append}
use Rattle.commands.specs.Common.{Machine, AlwaysStands, KeepsPack, GoesBy}
use Rattle.commands.specs.declared.answer.Tally.{Tally}
use Rattle.commands.proofs.ActLaws.{goes_nowhere, goes_on, served_apart}
use Rattle.exchange.specs.Exchanges.{Takes, Counts}
use Rattle.exchange.specs.Turns.{Turn, IsTurn, TellBy, acts_of, is_wrong, is_fault}
use Rattle.spec_language.proofs.Common.{went_broken}

-- After a fault each act reports it, and so do turns, whatever the pack is.

broken_went : (p q : Pack) (acts : List Act) (last : Service) → Went p Broken acts last → Went q Broken acts last
broken_went p q [] last w = w
broken_went p q (Asks event reply ∷ acts) last (Broken, answers, rest) =
    (Broken, answers, broken_went p q acts last rest)
broken_went p q (Asks event reply ∷ acts) last (Serving s, answers, rest) = absurd answers
broken_went p q (Looks owner answer ∷ acts) last (Broken, lists, rest) = (Broken, lists, broken_went p q acts last rest)
broken_went p q (Looks owner answer ∷ acts) last (Serving s, lists, rest) = absurd (served_apart s lists.1)

broken_turns : (p q : Pack) (turns : List Turn) (last : Service) → TellBy p Broken turns last
    → TellBy q Broken turns last × (last ≡ Broken)
broken_turns p q [] last told = (told, told)
broken_turns p q (t ∷ turns) last told =
    let none = went_broken p t.acts told.1 told.2 in
    let more = broken_turns p q turns last (subst (λ (s : Service). TellBy p s turns last) none told.3) in (
      (tt, Broken, broken_went p q t.acts Broken (subst (λ (s : Service). Went p Broken t.acts s) none told.2), more.0),
      more.1,
    )

tell_on : (pack : Pack) (first mid last : Service) (turns more : List Turn) → TellBy pack first turns mid
    → TellBy pack mid more last → TellBy pack first (turns ++ more) last
tell_on pack first mid last [] more p q = subst (λ (s : Service). TellBy pack s more last) p q
tell_on pack first mid last (t ∷ turns) more p q = (p.0, p.1, p.2, tell_on pack p.1 mid last turns more p.3 q)

-- what stays while it serves keeps the pack that it then has
tell_in : (a b : Machine) (mid last : Service) (turns : List Turn) → KeepsPack a b mid → TellBy b.pack mid turns last
    → TellBy a.pack mid turns last
tell_in a b (Serving s) last turns kept told = subst (λ (k : Pack). TellBy k (Serving s) turns last) kept told
tell_in a b Broken last turns kept told = (broken_turns b.pack a.pack turns last told).0

kept_on : (a b c : Machine) (mid last : Service) (turns : List Turn) → KeepsPack a b mid
    → TellBy b.pack mid turns last → KeepsPack b c last → KeepsPack a c last
kept_on a b c mid Broken turns first told next = tt
kept_on a b c (Serving s) (Serving t) turns first told next = next ∙ first
kept_on a b c Broken (Serving t) turns first told next =
    absurd (served_apart t (broken_turns b.pack b.pack turns (Serving t) told).1)

pub takes_on : {S : Type 0} (machine : S → Machine) (a b c : S) (turns more : List Turn) → Takes machine a b turns
    → Takes machine b c more → Takes machine a c (turns ++ more)
takes_on machine a b c turns more p q = record {
  goes = subst (λ acts. GoesBy machine a c acts) (sym (flat_map-append (λ (t : Turn). t.acts) turns more))
      (goes_on machine a b c (acts_of turns) (acts_of more) p.goes q.goes);
  are = all_append IsTurn turns more p.are q.are;
  reported = λ h first serves.
      let one = p.reported (q.goes.was_honest h) first serves in
      let next = q.reported h one.0 one.1 in (
        next.0,
        next.1,
        tell_on (machine a).pack first one.0 next.0 turns more one.2
            (tell_in (machine a) (machine b) one.0 next.0 more one.3 next.2),
        kept_on (machine a) (machine b) (machine c) one.0 next.0 more one.3 next.2 next.3,
      );
}

kept_here : (m : Machine) (first : Service) → KeepsPack m m first
kept_here m Broken = tt
kept_here m (Serving s) = refl

pub takes_none : {S : Type 0} (machine : S → Machine) → AlwaysStands machine → (a : S) → Takes machine a a []
takes_none machine stands a = record {
  goes = goes_nowhere machine stands a;
  are = tt;
  reported = λ h first serves. (first, serves, refl, kept_here (machine a) first);
}

pub counts_on : (a b c : Tally) (turns more : List Turn) → Counts a b turns → Counts b c more
    → Counts a c (turns ++ more)
counts_on a b c turns more p q = record {
  refused = both a.refused b.refused c.refused (λ t. is_wrong t.answer) p.refused q.refused;
  broke = both a.broke b.broke c.broke (λ t. is_fault t.answer) p.broke q.broke;
  reason = q.reason ∙ p.reason;
}
  where
    both : (x y z : Bool) (test : Turn → Bool) → y ≡ x || list_any test turns → z ≡ y || list_any test more
        → z ≡ x || list_any test (turns ++ more)
    both x y z test one two = two ∙ ap (λ k. k || list_any test more) one
        ∙ or_assoc x (list_any test turns) (list_any test more)
        ∙ ap (λ k. x || k) (sym (list_any-append test turns more))

pub counts_none : (a : Tally) → Counts a a []
counts_none a = record { refused = sym (or-false a.refused); broke = sym (or-false a.broke); reason = refl }
