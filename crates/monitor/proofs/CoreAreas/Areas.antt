-- Which words a call leaves: those outside its areas.
use Rattle.std.proofs.Common.{◌≡◌, ◌⊎◌, inl, inr, ⊎_elim, ℕ, suc, ◌+◌, ◌-◌, ◌<◌, ◌≤◌, Bool, true, false, List, []}
use Rattle.std.proofs.Common.{◌∷◌, length, min, cond, refl, sym, ◌∙◌, arith, ◌==◌}
use Rattle.std.specs.Prelude.{not}
use Rattle.std.specs.List.{AllByRecursion}
use Rattle.std.proofs.Math.Nat.{le-min}
use Rattle.std.proofs.lemmas.Bool.{cases_lt}
use Rattle.std.proofs.lemmas.Bool.Decides.{nat_tests}
use Rattle.std.proofs.lemmas.List.{get_or_past}
use Rattle.spec_machine.specs.declared.area.Area.{Area}
use Rattle.usercore.specs.Common.{IsOutside, ChangesWithin, words_at}
use Rattle.monitor.specs.Common.{in_core}

-- Areas that are cut to the core leave out no word of it.

no_words : (n : ℕ) → not (n == 0) ≡ false → n ≡ 0
no_words n none = grind (arith, nat_tests)

module _ (core : List ℕ) (address : ℕ) (inside : address < length core) where
  -- one area, by how many of its words lie in core
  whole : (area : Area) (n : ℕ) → n ≡ min area.count (length core - area.first)
      → (address < area.first) ⊎ (area.first + n ≤ address) → IsOutside address area
  whole area n is (inl below) = inl below
  whole area n is (inr past) = by (cases_lt address area.first) (cases_lt address (area.first + area.count))
    where
      by : (address < area.first) ⊎ (area.first ≤ address)
          → (address < area.first + area.count) ⊎ (area.first + area.count ≤ address) → IsOutside address area
      by (inl below) b = inl below
      by (inr from) (inr past_all) = inr past_all
      by (inr from) (inl within) =
          let one : suc (address - area.first) ≤ min area.count (length core - area.first) =
          le-min (omega arith) (omega arith) in
          absurd (omega (arith, one, is))

  -- an area that has no words in core is left out
  part : (first n : ℕ) (rest : List Area) (b : Bool) → not (n == 0) ≡ b
      → AllByRecursion (IsOutside address) (cond b (words_at first n ∷ rest) rest)
      → ((address < first) ⊎ (first + n ≤ address)) × AllByRecursion (IsOutside address) rest
  part first n rest true some out = out
  part first n rest false none out = (
    ⊎_elim (λ below. inl below) (λ from. inr (omega (arith, from, no_words n none))) (cases_lt address first),
    out,
  )

  uncut : (areas : List Area) → AllByRecursion (IsOutside address) (in_core core areas)
      → AllByRecursion (IsOutside address) areas
  uncut [] out = tt
  uncut (area ∷ areas) out =
      let n = min area.count (length core - area.first) in
      let parts = part area.first n (in_core core areas) (not (n == 0)) refl out in
      (whole area n refl parts.0, uncut areas parts.1)

pub cut_within : (core core' : List ℕ) (areas : List Area) → ChangesWithin areas core core'
    → ChangesWithin (in_core core areas) core core'
cut_within core core' areas is = record {
  length = is.length;
  others = λ address out.
      ⊎_elim (λ inside. is.others address (uncut core address inside areas out))
      (λ past. get_or_past core' address 0 (omega (arith, past, is.length)) ∙ sym (get_or_past core address 0 past))
      (cases_lt address (length core));
}
