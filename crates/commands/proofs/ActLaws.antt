-- Acts that follow one another.
use Rattle.std.proofs.Common.{◌≡◌, ℕ, List, [], ◌∷◌, ◌++◌, refl, subst, ◌∙◌, Result}
use Rattle.blockdisk.specs.Common.{still_start, still_on}
use Rattle.spec_machine.specs.Common.{State, Service, Serving, Broken, Answers, Lists}
use Rattle.spec_image.specs.Common.{Pack}
use Rattle.spec_language.specs.Common.{Act, Asks, Looks, Went}
use Rattle.spec_image.specs.declared.entry.Entry.{Entry}
use Rattle.spec_machine.specs.declared.call.Reply.{Reply}
use Rattle.spec_machine.specs.declared.call.Event.{Event}
use Rattle.commands.specs.Common.{Machine, IsAnswered, IsListed, AlwaysStands, ActsBy, GoesBy, KeepsPack}
use Rattle.commands.specs.Common.{CountsFailures}
use Rattle.spec_language.proofs.Common.{went_broken}

went-append : (pack : Pack) (first : Service) (acts more : List Act) (mid last : Service) → Went pack first acts mid
    → Went pack mid more last → Went pack first (acts ++ more) last
went-append pack first [] more mid last p q = subst (λ (s : Service). Went pack s more last) p q
went-append pack first (act ∷ acts) more mid last p q = (p.0, p.1, went-append pack p.0 acts more mid last p.2 q)

pub went_apart : (pack : Pack) (first : Service) (acts more : List Act) (last : Service)
    → Went pack first (acts ++ more) last → (mid : Service) × Went pack first acts mid × Went pack mid more last
went_apart pack first [] more last p = (first, refl, p)
went_apart pack first (act ∷ acts) more last p = let rest = went_apart pack p.0 acts more last p.2 in
    (rest.0, (p.0, p.1, rest.1), rest.2)

pub served_apart : (s : State) → Serving s ≡ Broken → ⊥
served_apart s e = cc

-- The failures of acts are those of the first ones, and those of the ones after these.
counts_on : (acts more : List Act) (first mid last : ℕ) → CountsFailures acts first mid → CountsFailures more mid last
    → CountsFailures (acts ++ more) first last
counts_on [] more first mid last p q = subst (λ n. CountsFailures more n last) p q
counts_on (Asks event reply ∷ acts) more first mid last p q =
    (p.0, p.1, counts_on acts more p.0 mid last p.2 q)
counts_on (Looks owner answer ∷ acts) more first mid last p q = counts_on acts more first mid last p q

module _ {S : Type 0} (machine : S → Machine) where
  -- what the service went through, without its moments
  pub acts_went : (pack : Pack) (old : S) (first : Service) (acts : List Act) (new : S) (last : Service)
      → ActsBy machine pack old first acts new last → Went pack first acts last
  acts_went pack old Broken acts new last p = p.1
  acts_went pack old (Serving s) [] new last p = p.1
  acts_went pack old (Serving s) (Asks event reply ∷ acts) new last p =
      (p.2, p.3, acts_went pack p.1 p.2 acts new last p.5)
  acts_went pack old (Serving s) (Looks owner answer ∷ acts) new last p =
      (p.2, p.3, acts_went pack p.1 p.2 acts new last p.5)

  acts_on : (pack : Pack) (old mid new : S) (first then last : Service) (acts more : List Act)
      → ActsBy machine pack old first acts mid then → ActsBy machine pack mid then more new last
      → ActsBy machine pack old first (acts ++ more) new last
  acts_on pack old mid new Broken then last acts more p q =
      let rest = subst (λ (s : Service). ActsBy machine pack mid s more new last) (went_broken pack acts then p.1) q
      in (
        still_on (machine old).disk (machine mid).disk (machine new).disk p.0 rest.0,
        went-append pack Broken acts more Broken last
            (subst (λ (s : Service). Went pack Broken acts s) (went_broken pack acts then p.1) p.1) rest.1,
      )
  acts_on pack old mid new (Serving s) then last [] more p q =
      subst (λ (v : S). ActsBy machine pack v (Serving s) more new last) p.0
      (subst (λ (x : Service). ActsBy machine pack mid x more new last) p.1 q)
  acts_on pack old mid new (Serving s)
      then last (Asks event reply ∷ acts) more p q = (
        p.0,
        p.1,
        p.2,
        p.3,
        p.4,
        acts_on pack p.1 mid new p.2 then last acts more p.5 q,
      )
  acts_on pack old mid new (Serving s)
      then last (Looks owner answer ∷ acts) more p q = (
        p.0,
        p.1,
        p.2,
        p.3,
        p.4,
        acts_on pack p.1 mid new p.2 then last acts more p.5 q,
      )

  -- acts after a fault are the same in every pack
  broken_acts : (p q : Pack) (acts : List Act) (last : Service) → Went p Broken acts last → Went q Broken acts last
  broken_acts p q [] last w = w
  broken_acts p q (Asks event reply ∷ acts) last (Broken, answers, rest) =
      (Broken, answers, broken_acts p q acts last rest)
  broken_acts p q (Asks event reply ∷ acts) last (Serving s, answers, rest) = absurd answers
  broken_acts p q (Looks owner answer ∷ acts) last (Broken, lists, rest) =
      (Broken, lists, broken_acts p q acts last rest)
  broken_acts p q (Looks owner answer ∷ acts) last (Serving s, lists, rest) =
      absurd (served_apart s lists.1)

  -- what stays while it serves keeps the pack that it then has
  acts_in : (a b c : S) (mid last : Service) (acts : List Act) → KeepsPack (machine a) (machine b) mid
      → ActsBy machine (machine b).pack b mid acts c last → ActsBy machine (machine a).pack b mid acts c last
  acts_in a b c Broken last acts kept by = (by.0, broken_acts (machine b).pack (machine a).pack acts last by.1)
  acts_in a b c (Serving s) last acts kept by = subst (λ (k : Pack). ActsBy machine k b (Serving s) acts c last) kept by

  kept_on : (a b c : S) (mid last : Service) (acts : List Act) → KeepsPack (machine a) (machine b) mid
      → ActsBy machine (machine b).pack b mid acts c last → KeepsPack (machine b) (machine c) last
      → KeepsPack (machine a) (machine c) last
  kept_on a b c mid Broken acts first by next = tt
  kept_on a b c (Serving s) (Serving t) acts first by next = next ∙ first
  kept_on a b c Broken (Serving t) acts first by next =
      absurd (served_apart t (went_broken (machine b).pack acts (Serving t) by.1))

  pub goes_on : (a b c : S) (acts more : List Act) → GoesBy machine a b acts → GoesBy machine b c more
      → GoesBy machine a c (acts ++ more)
  goes_on a b c acts more p q = record {
    size = q.size ∙ p.size;
    was_honest = λ h. p.was_honest (q.was_honest h);
    went = λ h first s.
        let one = p.went (q.was_honest h) first s in
        let next = q.went h one.0 one.1 in (
          next.0,
          next.1,
          acts_on (machine a).pack a b c first one.0 next.0 acts more one.2
              (acts_in a b c one.0 next.0 more one.3 next.2),
          kept_on a b c one.0 next.0 more one.3 next.2 next.3,
        );
    counted = counts_on acts more (machine a).disk.failures (machine b).disk.failures (machine c).disk.failures
        p.counted q.counted;
  }

  module _ (stands : AlwaysStands machine) where
    acts_none : (a : S) (first : Service) → (machine a).honest → (machine a).serves first
        → ActsBy machine (machine a).pack a first [] a first
    acts_none a Broken h serves = (still_start (machine a).disk, refl)
    acts_none a (Serving s) h serves = (refl, refl, stands a h s serves)

    kept_here : (a : S) (first : Service) → KeepsPack (machine a) (machine a) first
    kept_here a Broken = tt
    kept_here a (Serving s) = refl

    pub goes_nowhere : (a : S) → GoesBy machine a a []
    goes_nowhere a = record {
      size = refl;
      was_honest = λ h. h;
      went = λ h first serves. (first, serves, acts_none a first h serves, kept_here a first);
      counted = refl;
    }

    -- Nothing more was done after an act.
    acts_end : (a b : S) (last : Service) → KeepsPack (machine a) (machine b) last → (machine b).honest
        → (machine b).serves last → ActsBy machine (machine a).pack b last [] b last
    acts_end a b last kept h serves = acts_in a b b last last [] kept (acts_none b last h serves)

    module _ (a b : S) (event : Event) (reply : Reply) (p : IsAnswered (machine a) (machine b) event reply)
        (h : (machine b).honest) where
      answered_acts : (first last : Service) → (machine a).serves first → (machine b).serves last
          → Answers (machine a).pack first event reply last → KeepsPack (machine a) (machine b) last
          → ActsBy machine (machine a).pack a first (Asks event reply ∷ []) b last
      answered_acts Broken last serves then answers kept = (p.broken h serves, (last, answers, refl))
      answered_acts (Serving s) last serves
          then answers kept = (
            stands a (p.was_honest h) s serves,
            b,
            last,
            answers,
            p.crash h s serves,
            acts_end a b last kept h then,
          )

    pub goes_answered : (a b : S) (event : Event) (reply : Reply)
        → IsAnswered (machine a) (machine b) event reply → GoesBy machine a b (Asks event reply ∷ [])
    goes_answered a b event reply p = record {
      size = p.size;
      was_honest = p.was_honest;
      went = λ h first serves.
          let one = p.answers h first serves in
          (one.0, one.1, answered_acts a b event reply p h first one.0 serves one.1 one.2 one.3, one.3);
      counted = ((machine b).disk.failures, p.counted, refl);
    }

    module _ (a b : S) (owner : ℕ) (answer : Result (List Entry) Reply)
        (p : IsListed (machine a) (machine b) 1 owner answer) (h : (machine b).honest) where
      listed_acts : (first last : Service) → (machine a).serves first → (machine b).serves last
          → Lists first 1 owner answer last → KeepsPack (machine a) (machine b) last
          → ActsBy machine (machine a).pack a first (Looks owner answer ∷ []) b last
      listed_acts Broken last serves then lists kept = (p.still, (last, lists, refl))
      listed_acts (Serving s) last serves
          then lists kept = (
            stands a (p.was_honest h) s serves,
            b,
            last,
            lists,
            p.still,
            acts_end a b last kept h then,
          )

    pub goes_listed : (a b : S) (owner : ℕ) (answer : Result (List Entry) Reply)
        → IsListed (machine a) (machine b) 1 owner answer → GoesBy machine a b (Looks owner answer ∷ [])
    goes_listed a b owner answer p = record {
      size = p.size;
      was_honest = p.was_honest;
      went = λ h first serves.
          let one = p.lists h first serves in
          (one.0, one.1, listed_acts a b owner answer p h first one.0 serves one.1 one.2 one.3, one.3);
      counted = p.served;
    }
