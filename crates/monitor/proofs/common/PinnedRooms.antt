-- What readers have pinned is booked once: besides what files have, each version that is read and no longer current
-- costs what is booked for it in memory, however many readers there are.
use Rattle.std.proofs.Common.{◌≡◌, ◌≢◌, ℕ, zero, suc, ◌+◌, ◌<◌, Bool, true, false, not, List, [], ◌∷◌, ◌++◌, length}
use Rattle.std.proofs.Common.{map, append-nil, Option, Some, None, refl, sym, ap, subst, ◌∙◌, arith}
use Rattle.std.specs.Prelude.{◌==◌, ◌||◌, if◌then◌else◌, slice_index_or, slice_set}
use Rattle.std.proofs.lemmas.Bool.{eqb-true, eq-eqb, ne_eqb}
use Rattle.std.specs.List.{AllByRecursion, AllZip}
use Rattle.spec_image.specs.Common.{version_cost, cost_of_blocks, total, times, SpecVersion}
use Rattle.spec_machine.specs.Common.{has_serial, distinct_cost}
use Rattle.spec_image.proofs.Common.{times_other, times_here}
use Rattle.volume.specs.Common.{slot, pinned_cost}
use Rattle.volume.specs.declared.live.LiveVersion.{LiveVersion}
use Rattle.volume.proofs.common.LiveTotals.{total_updated}
use Rattle.monitor.specs.Common.{readers_of, ArePinned, AreBooked, IsPinnedAs}
use Rattle.monitor.proofs.common.Dropped.{same_or_not}
use Rattle.monitor.proofs.common.SideSums.{emptied_at, emptied_other}

-- One version more among others.

abbrev cost_of : SpecVersion → ℕ
cost_of v = version_cost (length v.file.body)

abbrev unless : Bool → ℕ → ℕ
unless b n = if b then 0 else n

pub positive : (n : ℕ) → 0 < n → (n == 0) ≡ false
positive n some = ne_eqb n 0 (λ none. absurd (omega arith))

-- what a version adds to others
abbrev adds : SpecVersion → List SpecVersion → ℕ
adds v vs = unless (has_serial v.serial vs) (cost_of v)

or_swapped : (a b c : Bool) → (a || (b || c)) ≡ (b || (a || c))
or_swapped true true c = refl
or_swapped true false c = refl
or_swapped false b c = refl

or_joined : (a b c : Bool) → (a || (b || c)) ≡ ((a || b) || c)
or_joined true b c = refl
or_joined false b c = refl

has_either : (n : ℕ) (vs ws : List SpecVersion) → has_serial n (vs ++ ws) ≡ (has_serial n vs || has_serial n ws)
has_either n [] ws = refl
has_either n (v ∷ vs) ws = ap (λ b. (v.serial == n) || b) (has_either n vs ws)
    ∙ or_joined (v.serial == n) (has_serial n vs) (has_serial n ws)

has_between : (n : ℕ) (y : SpecVersion) (xs ys : List SpecVersion)
    → has_serial n (xs ++ y ∷ ys) ≡ ((y.serial == n) || has_serial n (xs ++ ys))
has_between n y [] ys = refl
has_between n y (x ∷ xs) ys = ap (λ b. (x.serial == n) || b) (has_between n y xs ys)
    ∙ or_swapped (x.serial == n) (y.serial == n) (has_serial n (xs ++ ys))

turned : (a b d : ℕ) → a + (b + d) ≡ b + (a + d)
turned a b d = omega arith

-- two versions in either order, of one serial or of two
either_first : (e f : Bool) → e ≡ f → (hx hy : Bool) (cx cy d : ℕ) → (e ≡ true → (hx ≡ hy) × (cx ≡ cy))
    → unless (f || hx) cx + (unless hy cy + d) ≡ unless (e || hy) cy + (unless hx cx + d)
either_first true true same hx hy cx cy d alike = let s = alike refl in sym (λ i. 0 + (unless (s.0 i) (s.1 i) + d))
either_first true false same hx hy cx cy d alike = cc
either_first false true same hx hy cx cy d alike = cc
either_first false false same hx hy cx cy d alike = turned (unless hx cx) (unless hy cy) d

test_turned : (a b : ℕ) → (a == b) ≡ (b == a)
test_turned a b = same_or_not a b (λ e. eq-eqb a b e ∙ sym (eq-eqb b a (sym e))) (λ ne. ne_eqb a b ne
    ∙ sym (ne_eqb b a (λ e. ne (sym e))))

-- A version costs once, wherever it is: those before it that have its serial have as many words.
add_one : (xs : List SpecVersion) (y : SpecVersion) (ys : List SpecVersion)
    → AllByRecursion (λ x. x.serial ≡ y.serial → length x.file.body ≡ length y.file.body) xs
    → distinct_cost (xs ++ y ∷ ys) ≡ adds y (xs ++ ys) + distinct_cost (xs ++ ys)
add_one [] y ys alike = refl
add_one (x ∷ xs) y ys alike =
    let others = xs ++ ys in
    let one : Bool = x.serial == y.serial in
    let same : one ≡ true → (has_serial x.serial others ≡ has_serial y.serial others) × (cost_of x ≡ cost_of y) =
    λ e. let s = eqb-true x.serial y.serial e in (ap (λ n. has_serial n others) s, ap version_cost (alike.0 s)) in
    (λ i. unless (has_between x.serial y xs ys i) (cost_of x) + add_one xs y ys alike.1 i)
    ∙ either_first one (y.serial == x.serial) (test_turned x.serial y.serial) (has_serial x.serial others)
    (has_serial y.serial others) (cost_of x) (cost_of y) (distinct_cost others) same

-- The versions under the keys of pins, each key once.

-- a sum over the numbers of a list, each once
abbrev once : (ℕ → ℕ) → List ℕ → ℕ
once f [] = 0
once f (k ∷ ks) = unless (not (times k ks == 0)) (f k) + once f ks

module _ (read : ℕ → SpecVersion) where
  -- two keys have different serials
  abbrev AreApart : List ℕ → Type 0
  AreApart pins = (key other : ℕ) → 0 < times key pins → 0 < times other pins → (read key).serial ≡ (read other).serial
      → key ≡ other

  has_read : (k : ℕ) (ks : List ℕ) → ((j : ℕ) → 0 < times j ks → (read j).serial ≡ (read k).serial → j ≡ k)
      → has_serial (read k).serial (map read ks) ≡ not (times k ks == 0)
  has_read k [] only = refl
  has_read k (j ∷ js) only = same_or_not k j
      (λ same. let first = eq-eqb (read j).serial (read k).serial (ap (λ n. (read n).serial) (sym same)) in
      let here = subst (λ n. 0 < times k (n ∷ js)) same (times_here k js) in
      rw first (sym (ap not (positive (times k (j ∷ js)) here))))
      (λ apart. let first = ne_eqb (read j).serial (read k).serial (λ e. apart (sym (only j (times_here j js) e))) in
      let rest = has_read k js (λ i some e. only i (omega arith) e) in
      rw first (rest ∙ ap (λ n. not (n == 0)) (sym (times_other k j js apart))))

  module _ (now : List SpecVersion) where
    -- those of files that have the serial of one that is read have as many words
    abbrev AreAlike : List ℕ → Type 0
    AreAlike pins = (key : ℕ) → 0 < times key pins
        → AllByRecursion (λ x. x.serial ≡ (read key).serial → length x.file.body ≡ length (read key).file.body) now

    -- what the version under a key adds to those of files
    abbrev adds_at : ℕ → ℕ
    adds_at k = adds (read k) now

    counted : (pins : List ℕ) → AreApart pins → AreAlike pins → distinct_cost (now ++ map read pins)
        ≡ once adds_at pins + distinct_cost now
    counted [] apart alike = ap distinct_cost (append-nil now) ∙ plain (distinct_cost now)
      where
        plain : (n : ℕ) → n ≡ 0 + n
        plain n = omega arith
    counted (k ∷ ks) apart alike =
        let first = times_here k ks in
        let only : (j : ℕ) → 0 < times j ks → (read j).serial ≡ (read k).serial
        → j ≡ k = λ j some e. apart j k (grows j some) first e in
        let has = has_either (read k).serial now (map read ks)
        ∙ ap (λ b. has_serial (read k).serial now || b) (has_read k ks only) in
        let new = ap (λ b. unless b (cost_of (read k))) has
        ∙ unless_either (has_serial (read k).serial now) (times k ks == 0) (cost_of (read k)) in
        let others = counted ks (λ i j is js. apart i j (grows i is) (grows j js)) (λ i is. alike i (grows i is)) in
        let all = add_one now (read k) (map read ks) (alike k first) in
        all ∙ (λ i. new i + others i)
        ∙ joined (unless (not (times k ks == 0)) (adds_at k)) (once adds_at ks) (distinct_cost now)
      where
        grows : (j : ℕ) → 0 < times j ks → 0 < times j (k ∷ ks)
        grows j some = omega arith

        joined : (a b c : ℕ) → a + (b + c) ≡ (a + b) + c
        joined a b c = omega arith

        unless_either : (a b : Bool) (c : ℕ) → unless (a || not b) c ≡ unless (not b) (unless a c)
        unless_either true true c = refl
        unless_either true false c = refl
        unless_either false true c = refl
        unless_either false false c = refl

-- A sum over slots is one over the keys of pins, where every slot with no pin counts nothing.

module _ {X : Type 0} (g : Option X → ℕ) (none : g None ≡ 0) (f : ℕ → ℕ) where
  nothing : (slots : List (Option X)) → ((key : ℕ) → g (slice_index_or slots key None) ≡ 0) → total g slots ≡ 0
  nothing [] all = refl
  nothing (o ∷ os) all = let here = all 0 in let rest = nothing os (λ k. all (suc k)) in omega arith

  abbrev Counts : List (Option X) → List ℕ → Type 0
  Counts slots pins = (key : ℕ) → g (slice_index_or slots key None) ≡ unless (times key pins == 0) (f key)

  summed : (pins : List ℕ) (slots : List (Option X)) → Counts slots pins → once f pins ≡ total g slots
  summed [] slots counts = sym (nothing slots counts)
  summed (k ∷ ks) slots counts = by (times k ks) refl (summed ks)
    where
      at_first : g (slice_index_or slots k None) ≡ f k
      at_first = counts k ∙ ap (λ b. unless b (f k)) (positive (times k (k ∷ ks)) (times_here k ks))

      at_other : (j : ℕ) → j ≢ k → g (slice_index_or slots j None) ≡ unless (times j ks == 0) (f j)
      at_other j apart = counts j ∙ ap (λ n. unless (n == 0) (f j)) (times_other j k ks apart)

      by : (n : ℕ) → times k ks ≡ n → ((less : List (Option X)) → Counts less ks → once f ks ≡ total g less)
          → once f (k ∷ ks) ≡ total g slots
      -- the last pin of the key: its slot is emptied
      by zero e others =
          let less = slice_set slots k None in
          let gone : slice_index_or less k None ≡ None = emptied_at slots k in
          let at : g (slice_index_or less k None) ≡ unless (times k ks == 0) (f k) = ap g gone ∙ none
          ∙ sym (ap (λ n. unless (n == 0) (f k)) e) in
          let rest = others less (λ j. same_or_not j k
          (λ same. subst (λ i. g (slice_index_or less i None) ≡ unless (times i ks == 0) (f i)) (sym same) at)
          (λ apart. ap g (emptied_other slots k j apart) ∙ at_other j apart)) in
          let here = ap (λ n. unless (not (n == 0)) (f k)) e in
          let updated = total_updated g none slots less k None gone (λ j apart. emptied_other slots k j apart) in
          omega (arith, at_first, rest, here, updated, none)
      by (suc n) e others =
          let some = positive (times k ks) (omega arith) in
          let at : g (slice_index_or slots k None) ≡ unless (times k ks == 0) (f k) = at_first
          ∙ sym (ap (λ b. unless b (f k)) some) in
          let rest = others slots (λ j. same_or_not j k
          (λ same. subst (λ i. g (slice_index_or slots i None) ≡ unless (times i ks == 0) (f i)) (sym same) at)
          (λ apart. at_other j apart)) in
          let here = ap (λ b. unless (not b) (f k)) some in
          omega (arith, rest, here)

-- What readers have pinned.

pub held_once : (live : List (Option LiveVersion)) (now : List SpecVersion) (read : ℕ → SpecVersion) (pins : List ℕ)
    → ArePinned live pins → AreBooked live now read
    → distinct_cost (now ++ map read pins) ≡ distinct_cost now + total pinned_cost live
held_once live now read pins pinned booked =
    let keys = counted read now pins
    (λ key other here there. let v = read_at key here in let w = read_at other there in
    booked.apart key other v.0 w.0 v.1 w.1 v.2 w.2)
    (λ key here. let v = read_at key here in booked.alike key v.0 v.1 v.2) in
    let sums = summed pinned_cost refl (adds_at read now) pins live (λ key. costs key (slot live key) refl) in
    omega (arith, keys, sums)
  where
    read_at : (key : ℕ) → 0 < times key pins → (v : LiveVersion) × (slot live key ≡ Some v) × (0 < v.readers)
    read_at key some = by (slot live key) refl
      where
        by : (was : Option LiveVersion) → slot live key ≡ was → (v : LiveVersion) × (slot live key ≡ Some v)
            × (0 < v.readers)
        by None is = let none = pinned key ∙ ap readers_of is in absurd (omega arith)
        by (Some v) is = let some' = pinned key ∙ ap readers_of is in (v, is, omega arith)

    costs : (key : ℕ) (was : Option LiveVersion) → slot live key ≡ was
        → pinned_cost (slot live key) ≡ unless (times key pins == 0) (adds_at read now key)
    costs key None is = ap pinned_cost is
        ∙ sym (ap (λ n. unless (n == 0) (adds_at read now key)) (pinned key ∙ ap readers_of is))
    costs key (Some v) is = ap pinned_cost is ∙ by v.readers refl
        ∙ sym (ap (λ n. unless (n == 0) (adds_at read now key)) (pinned key ∙ ap readers_of is))
      where
        unread : v.readers ≡ 0 → (b : Bool) → v.is_current ≡ b → pinned_cost (Some v) ≡ 0
        unread e true current = ap (λ b. unless b (cost_of_blocks (length v.version.blocks))) current
        unread e false current = let some = booked.unread key v is current in absurd (omega arith)

        by : (n : ℕ) → v.readers ≡ n → pinned_cost (Some v) ≡ unless (v.readers == 0) (adds_at read now key)
        by zero e = unread e v.is_current refl ∙ sym (ap (λ n. unless (n == 0) (adds_at read now key)) e)
        by (suc n) e =
            let some : 0 < v.readers = omega arith in
            sym (ap (λ b. unless b (adds_at read now key)) (positive v.readers some)
            ∙ (λ i. unless (booked.current key v is some i) (booked.cost key v is some i)))

-- Versions with the same serials and as many words cost the same.

same_serials : (n : ℕ) (vs ws : List SpecVersion) → AllZip IsPinnedAs vs ws → has_serial n vs ≡ has_serial n ws
same_serials n [] [] same = refl
same_serials n [] (w ∷ ws) same = absurd same
same_serials n (v ∷ vs) [] same = absurd same
same_serials n (v ∷ vs) (w ∷ ws) same = λ i. (same.0.serial i == n) || same_serials n vs ws same.1 i

same_costs : (vs ws : List SpecVersion) → AllZip IsPinnedAs vs ws → distinct_cost vs ≡ distinct_cost ws
same_costs [] [] same = refl
same_costs [] (w ∷ ws) same = absurd same
same_costs (v ∷ vs) [] same = absurd same
same_costs (v ∷ vs) (w ∷ ws) same =
    let here = ap (λ n. has_serial n vs) same.0.serial ∙ same_serials w.serial vs ws same.1 in
    λ i. unless (here i) (version_cost (same.0.words i)) + same_costs vs ws same.1 i

behind : (now vs ws : List SpecVersion) → AllZip IsPinnedAs vs ws → AllZip IsPinnedAs (now ++ vs) (now ++ ws)
behind [] vs ws same = same
behind (x ∷ xs) vs ws same = (record { serial = refl; words = refl }, behind xs vs ws same)

-- This also holds for versions that are not quite those under the keys.
pub held_as_once : (live : List (Option LiveVersion)) (now : List SpecVersion) (read : ℕ
    → SpecVersion) (pins : List ℕ) (held : List SpecVersion) → AllZip IsPinnedAs held (map read pins)
    → ArePinned live pins → AreBooked live now read
    → distinct_cost (now ++ held) ≡ distinct_cost now + total pinned_cost live
held_as_once live now read pins held same pinned booked = same_costs (now ++ held) (now ++ map read pins)
    (behind now held (map read pins) same) ∙ held_once live now read pins pinned booked
