-- A salvage that refused nothing told of no fault.
use Rattle.std.proofs.Common.{◌≡◌, ◌||◌, ◌-◌, ⊎_elim, ℕ, ◌<◌, Bool, true, false, List, [], ◌∷◌, Option, None, Result}
use Rattle.std.proofs.Common.{Ok, Err, ap, sym, subst, ◌∙◌, refl, arith, length, take, nat_eq}
use Rattle.std.proofs.lemmas.Bool.Decides.{nat_tests}
use Rattle.std.specs.List.{AllByRecursion}
use Rattle.blockdisk.specs.Common.{DiskState}
use Rattle.commands.specs.declared.answer.Tally.{Tally}
use Rattle.commands.specs.declared.error.SessionError.{SessionError}
use Rattle.salvage.specs.declared.finding.Finding.{Finding}
use Rattle.salvage.specs.declared.saved.SavedFile.{SavedFile}
use Rattle.salvage.specs.declared.finding.Cost.{Cost}
use Rattle.salvage.specs.declared.finding.Defect.{Defect}
use Rattle.salvage.specs.declared.finding.Defect.TheVariants.{Start, FreeBlock, TwoOwners, Crowded, Missing, Surplus}
use Rattle.salvage.specs.declared.finding.Defect.TheVariants.{Tail}
use Rattle.salvage.proofs.CarriedFacts.{element_has}
use Rattle.volume.specs.declared.error.VolumeError.TheVariants.{NotVolume, BadHome, BadLog, BadDirectory}
use Rattle.volume.specs.declared.error.VolumeError.TheVariants.{BadRetrieval, BlockTwice, TableWrong, Device}
use Rattle.volume.specs.declared.error.VolumeError.TheVariants.{NoMemory, Failed, BadData}
use Rattle.directory.proofs.GatheredEntries.{all_of}
use Rattle.collection.specs.Common.{Acted, AreApartSaved, AreFilesSaved, AreFindingsDone, EachDone, IsKindDone}
use Rattle.collection.specs.Common.{IsLineDone, IsRestDone, IsSalvageRun, Then, added, is_of_kind, is_wanted_cost}
use Rattle.collection.specs.Common.{doubtful_folder, kind_of, kind_texts, kinds, none_counted, of_kind, unnamed_folder}
use Rattle.collection.specs.declared.task.ExportTask.{ExportTask}
use Rattle.collection.proofs.FaultLaws.{kind_at, kind_below}
use Rattle.salvage.specs.declared.finding.Cost.TheVariants as cost

-- neither of two
neither : (a b : Bool) → (a || b) ≡ false → (a ≡ false) × (b ≡ false)
neither false b none = (refl, none)
neither true b none = absurd cc

abbrev counted : Tally → Result Tally SessionError
counted tally = Ok tally

counted_same : (one two : Tally) → counted one ≡ counted two → one ≡ two
counted_same one two same = cc same

-- Steps that refused nothing.
module _ {X S : Type 0} (step : X → Option (List ℕ) → Option (List ℕ) → S → S → Result Tally SessionError → Type 0)
  where
    -- a step that refused nothing was done
    pub record IsQuiet (x : X) : Type 0 where
      pub sink : Option (List ℕ)
      pub full : Option (List ℕ)
      pub old : S
      pub new : S
      pub one : Tally
      pub done : step x sink full old new (Ok one)
      pub quiet : one.refused ≡ false

    pub quiet_each : (xs : List X) (tally : Tally) (sink full : Option (List ℕ)) (old new : S) (total : Tally)
        → EachDone step xs tally sink full old new (Ok total) → total.refused ≡ false
        → (tally.refused ≡ false) × AllByRecursion IsQuiet xs
    quiet_each [] tally sink full old new total done quiet =
        (ap (λ (t : Tally). t.refused) (sym (counted_same total tally done.2)) ∙ quiet, tt)
    quiet_each (x ∷ xs) tally sink full old new total (Ok one, middle, mid, did, rest) quiet =
        let others = quiet_each xs (added tally one) middle full mid new total rest quiet in
        let both = neither tally.refused one.refused others.0 in (
          both.0,
          (
            record { sink = sink; full = middle; old = old; new = mid; one = one; done = did; quiet = both.1 },
            others.1,
          ),
        )
    quiet_each (x ∷ xs) tally sink full old new total (Err error, middle, mid, did, rest) quiet = absurd (cc rest.2)

-- Faults.

no_line : (task : ExportTask) (finding : Finding) → IsQuiet (IsLineDone task) finding → ⊥
no_line task finding is = ⊎_elim
    (λ refused. absurd (cc (ap (λ (t : Tally). t.refused) refused.1, is.quiet)))
    (λ unnamed. absurd (cc unnamed.memory)) is.done

none_first : (task : ExportTask) (findings : List Finding)
    → AllByRecursion (IsQuiet (IsLineDone task)) (take 1000 findings) → findings ≡ []
none_first task [] all = refl
none_first task (x ∷ xs) all = absurd (no_line task x all.0)

-- Two steps refused nothing if both together didn't.
pub record AreQuiet {S : Type 0} (first next : Option (List ℕ) → Option (List ℕ) → S → S → Result Tally SessionError
    → Type 0) (sink full : Option (List ℕ)) (old new : S) : Type 0 where
  pub middle : Option (List ℕ)
  pub mid : S
  pub one : Tally
  pub two : Tally
  pub done : first sink middle old mid (Ok one)
  pub then_done : next middle full mid new (Ok two)
  pub quiet : one.refused ≡ false
  pub quiet_too : two.refused ≡ false

both_quiet : {S : Type 0} (first next : Option (List ℕ) → Option (List ℕ) → S → S → Result Tally SessionError → Type 0)
    (sink full : Option (List ℕ)) (old new : S) (total : Tally) → Then first next sink full old new (Ok total)
    → total.refused ≡ false → AreQuiet first next sink full old new
both_quiet first next sink full old new total (Ok one, middle, mid, done, (Ok two, others, sum)) quiet =
    let both = neither one.refused two.refused
    (ap (λ (t : Tally). t.refused) (sym (counted_same total (added one two) sum)) ∙ quiet) in
    record {
      middle = middle;
      mid = mid;
      one = one;
      two = two;
      done = done;
      then_done = others;
      quiet = both.0;
      quiet_too = both.1;
    }
both_quiet first next sink full old new total (Ok one, middle, mid, done, (Err error, others, sum)) quiet =
    absurd (cc sum)
both_quiet first next sink full old new total (Err error, middle, mid, done, rest) quiet = absurd (cc rest.2)

none_of_kind : (task : ExportTask) (findings : List Finding) (kind : ℕ)
    → IsQuiet (IsKindDone task findings) kind → of_kind task.owner kind findings ≡ []
none_of_kind task findings kind is =
    let list = of_kind task.owner kind findings in
    let parts = both_quiet (EachDone (IsLineDone task) (take 1000 list) none_counted)
    (IsRestDone task kind (length list - 1000)) is.sink is.full is.old is.new is.one is.done is.quiet in
    none_first task list (quiet_each (IsLineDone task) (take 1000 list) none_counted is.sink parts.middle is.old
    parts.mid parts.one parts.done parts.quiet).1

-- each fault is of a kind
kind_small : (fault : Defect) → kind_of fault < length kind_texts
kind_small (Start NotVolume) = omega arith
kind_small (Start BadHome) = omega arith
kind_small (Start BadLog) = omega arith
kind_small (Start (BadDirectory n)) = omega arith
kind_small (Start (TableWrong n)) = omega arith
kind_small (Start (BadRetrieval n)) = omega arith
kind_small (Start (BlockTwice n)) = omega arith
kind_small (Start (BadData n)) = omega arith
kind_small (Start NoMemory) = omega arith
kind_small (Start Device) = omega arith
kind_small (Start Failed) = omega arith
kind_small (FreeBlock n) = omega arith
kind_small (TwoOwners n) = omega arith
kind_small (Crowded n) = omega arith
kind_small (Missing n) = omega arith
kind_small (Surplus n) = omega arith
kind_small (Tail n) = omega arith

all_wanted : (costs : Cost) → is_wanted_cost None costs ≡ true
all_wanted (cost.File ppn name) = refl
all_wanted (cost.Unnamed ppn name prime) = refl
all_wanted (cost.Directory ppn) = refl
all_wanted cost.Directories = refl
all_wanted cost.Nothing = refl

of_its_kind : (finding : Finding) → is_of_kind None (kind_of finding.fault) finding ≡ true
of_its_kind finding =
    let same : nat_eq (kind_of finding.fault) (kind_of finding.fault) ≡ true = grind (arith, nat_tests) in
    rw (same, all_wanted finding.costs) refl

none_told : (owner : Option ℕ) (findings : List Finding) → owner ≡ None
    → AllByRecursion (λ kind. of_kind owner kind findings ≡ []) kinds → findings ≡ []
none_told owner [] all each = refl
none_told owner (x ∷ xs) all each =
    let kind = kind_of x.fault in
    let small = kind_small x.fault in
    let none : of_kind owner kind (x ∷ xs) ≡ [] = element_has (λ k. of_kind owner k (x ∷ xs) ≡ []) kinds kind each
    (kind, kind_below kind small, sym (kind_at kind small)) in
    let some : of_kind None kind (x ∷ xs) ≡ x ∷ of_kind None kind xs = rw (of_its_kind x) refl in
    absurd (cc (sym some, subst (λ (o : Option ℕ). of_kind o kind (x ∷ xs) ≡ []) all none))

pub no_findings : {D : Type 0} (task : ExportTask) (findings : List Finding) (sink full : Option (List ℕ)) (old new : D)
    (tally : Tally) → task.owner ≡ None → AreFindingsDone task findings sink full old new (Ok tally)
    → tally.refused ≡ false → findings ≡ []
no_findings task findings sink full old new tally all done quiet = none_told task.owner findings all
    (all_of (IsQuiet (IsKindDone task findings)) (λ kind. of_kind task.owner kind findings ≡ []) kinds
    (none_of_kind task findings)
    (quiet_each (IsKindDone task findings) kinds none_counted sink full tt tt tally done.1 quiet).1)

-- A whole run.
pub nothing_told : {D : Type 0} (state : D → DiskState) (task : ExportTask) (head : List Finding)
    (files doubtful unnamed : List SavedFile) (findings : List Finding) (sink full : Option (List ℕ))
    (old new : Acted D)
    (tally : Tally) → task.owner ≡ None
    → IsSalvageRun state task head files doubtful unnamed findings sink full old new (Ok tally)
    → tally.refused ≡ false → (head ≡ []) × (findings ≡ [])
nothing_told {D = D} state task head files doubtful unnamed findings sink full old new tally all run quiet =
    let Step : Type 1 = Option (List ℕ) → Option (List ℕ) → Acted D → Acted D → Result Tally SessionError → Type 0 in
    let told : Step = AreFindingsDone task findings in
    let others : Step = Then (AreApartSaved state task (unnamed_folder task.folder.now) true unnamed) told in
    let more : Step = Then (AreApartSaved state task (doubtful_folder task.folder.now) false doubtful) others in
    let rest : Step = Then (AreFilesSaved state task task.folder.now false files) more in
    let first = both_quiet (AreFindingsDone task head) rest sink full old new tally run quiet in
    let second = both_quiet (AreFilesSaved state task task.folder.now false files) more first.middle full
    first.mid new first.two first.then_done first.quiet_too in
    let third = both_quiet (AreApartSaved state task (doubtful_folder task.folder.now) false doubtful) others
    second.middle full second.mid new second.two second.then_done second.quiet_too in
    let last = both_quiet (AreApartSaved state task (unnamed_folder task.folder.now) true unnamed) told
    third.middle full third.mid new third.two third.then_done third.quiet_too in (
      no_findings task head sink first.middle old first.mid first.one all first.done first.quiet,
      no_findings task findings last.middle full last.mid new last.two all last.then_done last.quiet_too,
    )
