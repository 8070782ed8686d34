-- MakeDir by the job of a number is answered as the machine answers it.
use Rattle.std.proofs.Common.{◌≡◌, ◌<◌, ◌+◌, ◌-◌, ◌*◌, ℕ, Bool, true, false, if◌then◌else◌, List, length, Option}
use Rattle.std.proofs.Common.{refl, sym, ap, ◌∙◌, ◌⊎◌, inl, inr, arith}
use Rattle.std.specs.Prelude.{◌==◌, ◌||◌, not, nat_lt, is_some}
use Rattle.std.proofs.lemmas.Bool.{eqb-true}
use Rattle.std.proofs.lemmas.Bool.Decides.{nat_tests}
use Rattle.words36.specs.Common.{left, right}
use Rattle.blockdisk.specs.Common.{DiskState}
use Rattle.spec_machine.specs.Common.{lies_outside, State, make_answer, system, booked, exceeds_room, is_plain}
use Rattle.spec_image.specs.Common.{directory_cost, Files, get, size, SpecVersion, without_serials, growth, pack_of}
use Rattle.spec_machine.specs.declared.call.Reply.{Reply}
use Rattle.spec_machine.specs.declared.call.Reply.TheVariants.{Done, Refused, AddressCheck}
use Rattle.alloctab.specs.Common.{space}
use Rattle.volume.specs.Common.{MemoryMap, IsWholeMemory}
use Rattle.volume.proofs.common.Answers.{Holds}
use Rattle.monitor.specs.Common.{asked_owner, early_answer, IsAbsent, IsCrowded, IsRefusedBy, UnderKeys, job_of}
use Rattle.monitor.specs.Common.{state_of}
use Rattle.monitor.specs.declared.job.Job.{Job}
use Rattle.monitor.proofs.common.Growths.{count_is}
use Rattle.monitor.proofs.common.Changes.{none_there, one_there}
use Rattle.monitor.proofs.common.Numbers.{less as after, not_less}

-- By how much the master directory grows.
pub growth_is : (n b : ℕ) → b ≡ directory_cost n
    → (if n == 42 * b then 1 else 0) ≡ directory_cost (n + 1) - directory_cost n
growth_is n b is = by (n == 42 * b) refl
  where
    not_full : (a c : ℕ) → (a == c) ≡ false → (a < c) ⊎ (c < a)
    not_full a c e = grind (arith, nat_tests)

    by : (full : Bool) → (n == 42 * b) ≡ full → (if full then 1 else 0) ≡ directory_cost (n + 1) - directory_cost n
    by true e = let same = eqb-true n (42 * b) e in omega arith
    by false e = more (not_full n (42 * b) e)
      where
        more : (n < 42 * b) ⊎ (42 * b < n) → 0 ≡ directory_cost (n + 1) - directory_cost n
        more (inl less) = omega arith
        more (inr past) = omega arith

-- the answer, by its tests
abbrev pick : Bool → Bool → Bool → Reply → Reply
pick outside nobody stranger rest = if outside then AddressCheck else if nobody then Refused 1 else if stranger
    then Refused 2 else rest

pick_done : (a b c : Bool) (rest : Reply) → pick a b c Done ≡ Done → pick a b c rest ≡ rest
pick_done true b c rest is = cc is
pick_done false true c rest is = cc is
pick_done false false true rest is = cc is
pick_done false false false rest is = refl

pick_other : (a b c : Bool) (rest reply : Reply) → pick a b c Done ≡ reply → (reply ≡ Done → ⊥)
    → pick a b c rest ≡ reply
pick_other true b c rest reply is other = is
pick_other false true c rest reply is other = is
pick_other false false true rest reply is other = is
pick_other false false false rest reply is other = absurd (other (sym is))

module _ (d : DiskState) (c : MemoryMap) (files : Files SpecVersion) (w : UnderKeys) (jobs : List (Option Job))
    (whole : IsWholeMemory d.size c) (holds : Holds d c.known (without_serials files))
    (books : booked (state_of files w jobs) ≡ c.known.table.booked) (job : Job) (e : ℕ) where
  abbrev owner : ℕ
  owner = asked_owner job.core e

  abbrev t : State
  t = state_of files w jobs

  abbrev rest : Bool → Bool → Reply
  rest there full = if there then Refused 4 else if full then Refused 0o14 else Done

  abbrev crowded : Bool
  crowded = exceeds_room (pack_of d) t (1 + growth (size files))

  pub decided : (reply : Reply) → early_answer job.ppn job.core e ≡ reply → (reply ≡ Done → ⊥)
      → make_answer (pack_of d) t (job_of w job) e owner ≡ reply
  decided reply is other = pick_other (lies_outside job.core e 2) ((left owner == 0) || (right owner == 0))
      (not ((job.ppn == system) || (job.ppn == owner))) (rest (is_some (get files owner)) crowded) reply is other

  undecided : early_answer job.ppn job.core e ≡ Done → make_answer (pack_of d) t (job_of w job) e owner
      ≡ rest (is_some (get files owner)) crowded
  undecided is = pick_done (lies_outside job.core e 2) ((left owner == 0) || (right owner == 0))
      (not ((job.ppn == system) || (job.ppn == owner))) (rest (is_some (get files owner)) crowded) is

  test_is : crowded ≡ nat_lt (space d.size) (c.known.table.booked
      + (1 + (if length c.known.master.entries == 42 * length c.known.master.blocks then 1 else 0)))
  test_is =
      let count = count_is d c.known files holds whole.map in
      let grows = growth_is (length c.known.master.entries) (length c.known.master.blocks) whole.map.chain.counted in
      (λ i. nat_lt (space d.size) (books i + (1 + growth (count i))))
      ∙ ap (λ n. nat_lt (space d.size) (c.known.table.booked + (1 + n))) (sym grows)

  pub refused_by : (code : ℕ) → early_answer job.ppn job.core e ≡ Done → IsRefusedBy d.size c owner code
      → make_answer (pack_of d) t (job_of w job) e owner ≡ Refused code
  refused_by code is (inl (four, present)) = undecided is
      ∙ ap (λ b. rest b crowded) (one_there d c files holds owner present) ∙ ap Refused (sym four)
  refused_by code is (inr (full, absent, past)) =
      undecided is ∙ ap (λ o. rest (is_some o) crowded) (none_there d c files holds owner absent)
      ∙ ap (rest false) (test_is ∙ after (space d.size) _ (omega (arith, past))) ∙ ap Refused (sym full)

  pub may_make : early_answer job.ppn job.core e ≡ Done → IsAbsent c owner → (IsCrowded d.size c → ⊥)
      → make_answer (pack_of d) t (job_of w job) e owner ≡ Done
  may_make is absent fits =
      undecided is ∙ ap (λ o. rest (is_some o) crowded) (none_there d c files holds owner absent)
      ∙ ap (rest false) (test_is ∙ not_less (space d.size) _ (λ past. fits (omega (arith, past))))

  -- if directories are checked, the answer isn't one that is found before memory and the disk are needed
  pub not_plain : early_answer job.ppn job.core e ≡ Done → is_plain (make_answer (pack_of d) t (job_of w job) e owner)
      ≡ false
  not_plain is = ap is_plain (undecided is) ∙ by (is_some (get files owner)) crowded
    where
      by : (there full : Bool) → is_plain (rest there full) ≡ false
      by true full = refl
      by false true = refl
      by false false = refl
