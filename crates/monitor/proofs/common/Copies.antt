-- How many versions have a serial.
use Rattle.std.proofs.Common.{◌≡◌, ◌≤◌, ◌+◌, ℕ, Bool, true, false, List, [], ◌∷◌, flat_map, refl, sym, ap, ◌∙◌, arith}
use Rattle.std.proofs.lemmas.Bool.{eqb-true, eq-eqb}
use Rattle.std.specs.Prelude.{◌==◌, ◌||◌}
use Rattle.spec_image.specs.Common.{Files, Directory, values, total, sum_over, SpecVersion}
use Rattle.spec_machine.specs.Common.{has_serial, HaveDistinctSerials}
use Rattle.spec_image.proofs.Common.{total-append, sum-values}

abbrev pub one_if : Bool → ℕ
one_if true = 1
one_if false = 0

abbrev pub with_serial : ℕ → SpecVersion → ℕ
with_serial k v = one_if (v.serial == k)

abbrev pub versions_in : Files SpecVersion → List SpecVersion
versions_in files = flat_map (λ d. values d.files) (values files)

abbrev pub copies : ℕ → List SpecVersion → ℕ
copies k vs = total (with_serial k) vs

pub none_copies : (vs : List SpecVersion) (k : ℕ) → has_serial k vs ≡ false → copies k vs ≡ 0
none_copies [] k none = refl
none_copies (v ∷ vs) k none = by (v.serial == k) (none_copies vs k) none
  where
    by : (b : Bool) → (has_serial k vs ≡ false → copies k vs ≡ 0) → (b || has_serial k vs) ≡ false
        → one_if b + copies k vs ≡ 0
    by true rest e = let wrong = e in cc
    by false rest e = omega (arith, rest e)

pub copies_none : (vs : List SpecVersion) (k : ℕ) → copies k vs ≡ 0 → has_serial k vs ≡ false
copies_none [] k none = refl
copies_none (v ∷ vs) k none = by (v.serial == k) (copies_none vs k) none
  where
    by : (b : Bool) → (copies k vs ≡ 0 → has_serial k vs ≡ false) → one_if b + copies k vs ≡ 0
        → (b || has_serial k vs) ≡ false
    by true rest e = absurd (omega (arith, e))
    by false rest e = rest (omega (arith, e))

pub distinct_few : (vs : List SpecVersion) → HaveDistinctSerials vs → (k : ℕ) → copies k vs ≤ 1
distinct_few [] distinct k = omega arith
distinct_few (v ∷ vs) distinct k = by (v.serial == k) refl (distinct_few vs distinct.1 k)
  where
    by : (b : Bool) → (v.serial == k) ≡ b → copies k vs ≤ 1 → one_if b + copies k vs ≤ 1
    by true e rest = let none = none_copies vs v.serial distinct.0 in
        let same = ap (λ n. copies n vs) (eqb-true v.serial k e) in omega arith
    by false e rest = omega (arith, rest)

pub few_distinct : (vs : List SpecVersion) → ((k : ℕ) → copies k vs ≤ 1) → HaveDistinctSerials vs
few_distinct [] few = tt
few_distinct (v ∷ vs) few =
    let here : with_serial v.serial v ≡ 1 = ap one_if (eq-eqb v.serial v.serial refl) in
    let all = few v.serial in
    (copies_none vs v.serial (omega arith), few_distinct vs (λ k. let more = few k in omega arith))

pub copies-joined : (k : ℕ) (ds : List (Directory SpecVersion)) → copies k (flat_map (λ d. values d.files) ds)
    ≡ total (λ d. copies k (values d.files)) ds
copies-joined k [] = refl
copies-joined k (d ∷ ds) = total-append (with_serial k) (values d.files)
    (flat_map (λ (x : Directory SpecVersion). values x.files) ds)
    ∙ ap (λ n. copies k (values d.files) + n) (copies-joined k ds)

pub copies-files : (k : ℕ) (files : Files SpecVersion)
    → copies k (versions_in files) ≡ sum_over (λ (d : Directory SpecVersion). copies k (values d.files)) files
copies-files k files = copies-joined k (values files)
    ∙ sym (sum-values (λ (d : Directory SpecVersion). copies k (values d.files)) files)
