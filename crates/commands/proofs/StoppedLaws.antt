-- What a crash leaves during acts.
use Rattle.std.proofs.Common.{◌≡◌, inl, inr, ⊎_elim, ℕ, List, [], ◌∷◌, refl, sym, subst, arith, Result, ◌∙◌}
use Rattle.blockdisk.specs.Common.{Contents, DiskState, MayLeave, Still, Passes, passes_start, passes_on}
use Rattle.blockdisk.specs.Common.{passes_weaker}
use Rattle.spec_language.specs.Common.{Act, Asks, Looks}
use Rattle.spec_machine.specs.Common.{StandsForState, StandsForEither, State, Service, Serving, Broken, Answers}
use Rattle.spec_machine.specs.Common.{Lists, step}
use Rattle.spec_image.specs.Common.{Pack, without_serials, pack_in, pack_of, StandsOn}
use Rattle.spec_machine.specs.declared.call.Event.{Event}
use Rattle.spec_machine.specs.declared.call.Reply.{Reply}
use Rattle.spec_image.specs.declared.entry.Entry.{Entry}
use Rattle.monitor.specs.Common.{StandsNow, AreStopped, MonitorState}
use Rattle.monitor.proofs.Events.Along.{stopped_like}
use Rattle.commands.specs.Common.{machine_of, Machine, ActsBy, IsAlongActs}

-- the contents stand for the files after some of the acts, or after one more
abbrev pub Found : Pack → State → List Act → Contents → Type 0
Found pack s acts c = (found : State) × IsAlongActs pack (Serving s) acts found × StandsForState pack found c

none_yet : (pack : Pack) (s : State) (acts : List Act) → IsAlongActs pack (Serving s) acts s
none_yet pack s [] = refl
none_yet pack s (Asks event reply ∷ acts) = inl refl
none_yet pack s (Looks owner answer ∷ acts) = inl refl

pub found_first : (pack : Pack) (s : State) (acts : List Act) (c : Contents) → StandsForState pack s c
    → Found pack s acts c
found_first pack s acts c stands = (s, none_yet pack s acts, stands)

module _ (pack : Pack) (s : State) (event : Event) (reply : Reply) (acts : List Act) where
  during : (c : Contents) → StandsForEither pack s event reply c → Found pack s (Asks event reply ∷ acts) c
  during c either = ⊎_elim (λ before. (s, inl refl, before))
      (λ after. ((step pack 0 s event).1, inr (inl (after.0, refl)), after.1)) either

  later : (mid : State) → Answers pack (Serving s) event reply (Serving mid) → (c : Contents) → Found pack mid acts c
      → Found pack s (Asks event reply ∷ acts) c
  later mid answers c found = (found.0, inr (inr (Serving mid, answers, found.1)), found.2)

later_listed : (pack : Pack) (s mid : State) (owner : ℕ) (answer : Result (List Entry) Reply) (acts : List Act)
    → Lists (Serving s) 1 owner answer (Serving mid) → (c : Contents)
    → Found pack mid acts c → Found pack s (Looks owner answer ∷ acts) c
later_listed pack s mid owner answer acts lists c found = (found.0, inr (Serving mid, lists, found.1), found.2)

-- From s to s' a crash left only what has P, at the end too.
pub record Leaves (s s' : DiskState) (P : Contents → Type 0) : Type 0 where
  pub now : (c : Contents) → MayLeave s' c → P c
  pub time : Passes s s' P

module _ (a b c : DiskState) (P Q : Contents → Type 0) where
  leaves_then : ((x : Contents) → MayLeave a x → P x) → Passes a b P → Leaves b c Q → ((x : Contents) → Q x → P x)
      → Leaves a c P
  leaves_then here first second weaker = record {
    now = λ x left. weaker x (second.now x left);
    time = passes_on a b c P Q first second.time weaker;
  }

  leaves_quiet : ((x : Contents) → MayLeave b x → P x) → Passes a b P → Still b c → Leaves a c P
  leaves_quiet there first still = record {
    now = λ x left. there x (still.crash x left);
    time = passes_on a b c P (MayLeave b) first still.time there;
  }

module _ {S : Type 0} (machine : S → Machine) (pack : Pack) where
  pub acts_leave : (old : S) (s : State) (acts : List Act) (end : S) (new : Service)
      → ActsBy machine pack old (Serving s) acts end new
      → Leaves (machine old).disk (machine end).disk (Found pack s acts)
  acts_leave old s [] end new r = subst (λ e. Leaves (machine old).disk (machine e).disk (Found pack s [])) (sym r.0)
      (record {
        now = λ c left. found_first pack s [] c (r.2 c left);
        time = passes_start (machine old).disk (Found pack s []);
      })
  acts_leave old s (Asks event reply ∷ acts) end new (stands, mid, Serving u, answers, leaves, rest) =
      leaves_then (machine old).disk (machine mid).disk (machine end).disk (Found pack s (Asks event reply ∷ acts))
      (Found pack u acts)
      (λ c left. found_first pack s (Asks event reply ∷ acts) c (stands c left))
      (passes_weaker (machine old).disk (machine mid).disk (StandsForEither pack s event reply)
      (Found pack s (Asks event reply ∷ acts)) leaves.time (during pack s event reply acts))
      (acts_leave mid u acts end new rest)
      (later pack s event reply acts u answers)
  acts_leave old s (Asks event reply ∷ acts) end new (stands, mid, Broken, answers, leaves, rest) =
      leaves_quiet (machine old).disk (machine mid).disk (machine end).disk (Found pack s (Asks event reply ∷ acts))
      (Found pack s (Asks event reply ∷ acts))
      (λ c left. during pack s event reply acts c (leaves.now c left))
      (passes_weaker (machine old).disk (machine mid).disk (StandsForEither pack s event reply)
      (Found pack s (Asks event reply ∷ acts)) leaves.time (during pack s event reply acts))
      rest.0
  acts_leave old s (Looks owner answer ∷ acts) end new (stands, mid, Serving u, lists, still, rest) =
      leaves_then (machine old).disk (machine mid).disk (machine end).disk (Found pack s (Looks owner answer ∷ acts))
      (Found pack u acts)
      (λ c left. found_first pack s (Looks owner answer ∷ acts) c (stands c left))
      (passes_weaker (machine old).disk (machine mid).disk (MayLeave (machine old).disk)
      (Found pack s (Looks owner answer ∷ acts)) still.time
      (λ c left. found_first pack s (Looks owner answer ∷ acts) c (stands c left)))
      (acts_leave mid u acts end new rest)
      (later_listed pack s u owner answer acts lists)
  acts_leave old s (Looks owner answer ∷ acts) end new (stands, mid, Broken, lists, still, rest) =
      leaves_quiet (machine old).disk (machine mid).disk (machine end).disk (Found pack s (Looks owner answer ∷ acts))
      (Found pack s (Looks owner answer ∷ acts))
      (λ c left. found_first pack s (Looks owner answer ∷ acts) c (stands c (still.crash c left)))
      (passes_weaker (machine old).disk (machine mid).disk (MayLeave (machine old).disk)
      (Found pack s (Looks owner answer ∷ acts)) still.time
      (λ c left. found_first pack s (Looks owner answer ∷ acts) c (stands c left)))
      rest.0

  -- at the first moment too
  begins_with : (old : S) (s : State) (acts : List Act) (end : S) (new : Service)
      → ActsBy machine pack old (Serving s) acts end new → StandsNow pack (machine old).disk s
  begins_with old s [] end new r = r.2
  begins_with old s (Asks event reply ∷ acts) end new r = r.0
  begins_with old s (Looks owner answer ∷ acts) end new r = r.0

  pub acts_found : (old : S) (s : State) (acts : List Act) (end : S) (new : Service)
      → ((c : Contents) → (machine old).disk.left_since (machine old).disk.clock c → MayLeave (machine old).disk c)
      → ActsBy machine pack old (Serving s) acts end new → (c : Contents)
      → (machine end).disk.left_since (machine old).disk.clock c → Found pack s acts c
  acts_found old s acts end new only_now r c left =
      ⊎_elim (λ was. found_first pack s acts c (begins_with old s acts end new r c (only_now c was))) (λ found. found)
      ((acts_leave old s acts end new r).time.nothing_else (machine old).disk.clock c (omega arith) left)

-- What the last of the stopped starts left, after the acts, stands for the files after some of them.
module _ {D E : Type 0} (state : D → DiskState) (other : E → DiskState) (begun stopped : MonitorState D)
    (s : State) (acts : List Act) (last : Service) where
  abbrev pack : Pack
  pack = pack_of (state begun.disk)

  pub found_left : ((c : Contents) → (state begun.disk).left_since (state begun.disk).clock c
      → MayLeave (state begun.disk) c) → (state stopped.disk).size ≡ (state begun.disk).size
      → ActsBy (λ (m : MonitorState D). machine_of (state m.disk) m.map m.failed m.jobs) pack begun
      (Serving s) acts stopped last
      → (starts : List (E × E)) (left : Contents) (size : ℕ) → size ≡ (state begun.disk).size
      → AreStopped other (state stopped.disk) (state begun.disk).clock starts left
      → (found : State) × IsAlongActs pack (Serving s) acts found × StandsOn (pack_in pack.layout size) left
      (without_serials found.files)
  found_left only_now same by starts left size is were =
      let first = stopped_like other (state stopped.disk) (state begun.disk).clock starts left were in
      let found = acts_found (λ (m : MonitorState D). machine_of (state m.disk) m.map m.failed m.jobs)
      pack begun s acts stopped last only_now by first.0 first.1 in
      let files = without_serials found.0.files in (
        found.0,
        found.1,
        subst (λ n. StandsOn (pack_in pack.layout n) left files) (same ∙ sym is)
            (first.2 pack.layout files (subst (λ n. StandsOn (pack_in pack.layout n) first.0 files) (sym same)
            found.2)),
      )
