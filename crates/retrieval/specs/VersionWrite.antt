-- What writing a version does, to the disk and to the table.
use Rattle.std.specs.Prelude.{◌≡◌, ℕ, ◌+◌, ◌-◌, ◌/◌, ◌<◌, List, [], ◌∷◌, ◌++◌, length, take, drop}
use Rattle.spec_image.specs.Common.{times, SpecRun, Extension, space_start}
use Rattle.alloctab.specs.Common.{TableState, IsFree, bit, holds, with_held}

-- how many extensions n pointers need
abbrev pub rib_count : ℕ → ℕ
rib_count n = (n - 112 + 125) / 126

-- These blocks were taken one after the other, each free when it was.
abbrev pub Takes : TableState → List ℕ → TableState → Type 0
Takes t [] t' = t' ≡ t
Takes t (n ∷ ns) t' = (n < t.size) × IsFree t n × Takes (with_held t n (holds t n + 1)) ns t'

-- A list has `more` further blocks after its own, taken one after the other.
pub record GrowsBy (t t' : TableState) (old new : List ℕ) (more : ℕ) : Type 0 where
  pub taken : List ℕ
  pub takes : Takes t taken t'
  pub is : new ≡ old ++ taken
  pub many : length taken ≡ more

-- No number is in the list twice.
abbrev pub AreApart : List ℕ → Type 0
AreApart [] = Unit {0}
AreApart (n ∷ ns) = (times n ns ≡ 0) × AreApart ns

-- the extensions with these numbers, for these runs, 126 to each
abbrev pub extensions_of : List ℕ → List SpecRun → List Extension
extensions_of [] runs = []
extensions_of (rib ∷ ribs) runs = (rib, take 126 runs) ∷ extensions_of ribs (drop 126 runs)

-- The bits of the fixed regions are set.
abbrev pub IsFixed : TableState → Type 0
IsFixed t = (n : ℕ) → n < space_start t.size → bit t n ≡ 1
