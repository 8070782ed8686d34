-- What distinct versions cost: a list whose versions are all of another one costs no more.
use Rattle.std.proofs.Common.{◌≡◌, ℕ, ◌+◌, ◌≤◌, Bool, true, false, if◌then◌else◌, List, [], ◌∷◌, length, refl, sym}
use Rattle.std.proofs.Common.{ap, ◌∙◌, arith}
use Rattle.std.specs.List.{AllByRecursion}
use Rattle.std.specs.Prelude.{◌==◌}
use Rattle.std.proofs.lemmas.Bool.{eqb-true, eq-eqb}
use Rattle.spec_image.specs.Common.{version_cost, SpecVersion}
use Rattle.spec_machine.specs.Room.{has_serial, distinct_cost}

abbrev pub cost : SpecVersion → ℕ
cost v = version_cost (length v.file.body)

-- those with another serial
abbrev without : ℕ → List SpecVersion → List SpecVersion
without k [] = []
without k (v ∷ vs) = if v.serial == k then without k vs else v ∷ without k vs

without_absent : (k : ℕ) (vs : List SpecVersion) → has_serial k vs ≡ false → without k vs ≡ vs
without_absent k [] e = refl
without_absent k (v ∷ vs) e = step (v.serial == k) refl e (without_absent k vs)
  where
    step : (b : Bool) → (v.serial == k) ≡ b → has_serial k (v ∷ vs) ≡ false
        → (has_serial k vs ≡ false → without k vs ≡ vs) → without k (v ∷ vs) ≡ v ∷ vs
    step true h f rest = let wrong : true ≡ false = sym (rw h refl) ∙ f in cc
    step false h f rest = let g : has_serial k vs ≡ false = sym (rw h refl) ∙ f in rw h (ap (λ ws. v ∷ ws) (rest g))

without_other : (k m : ℕ) (vs : List SpecVersion) → (m == k) ≡ false → has_serial m (without k vs) ≡ has_serial m vs
without_other k m [] e = refl
without_other k m (v ∷ vs) e = step (v.serial == k) refl (without_other k m vs e)
  where
    step : (b : Bool) → (v.serial == k) ≡ b → has_serial m (without k vs) ≡ has_serial m vs
        → has_serial m (without k (v ∷ vs)) ≡ has_serial m (v ∷ vs)
    step true h rest =
        let same : v.serial ≡ k = eqb-true v.serial k h in
        let not_m : (v.serial == m) ≡ false = apart m v.serial k e same in
        rw h (rw not_m rest)
      where
        apart : (m x k : ℕ) → (m == k) ≡ false → x ≡ k → (x == m) ≡ false
        apart m x k e same = decide (x == m) refl
          where
            decide : (b : Bool) → (x == m) ≡ b → b ≡ false
            decide true f = let wrong = sym e ∙ eq-eqb m k (sym (eqb-true x m f) ∙ same) in cc
            decide false f = refl
    step false h rest = rw h (rw rest refl)

none_more : (d w : ℕ) → d ≡ w → 0 + d ≡ w
none_more d w e = omega (arith, e)

none_less : (d w : ℕ) → d ≤ w → 0 + d ≤ w
none_less d w e = omega (arith, e)

-- one serial's cost apart
apart : (k c : ℕ) (vs : List SpecVersion) → AllByRecursion (λ v. v.serial ≡ k → cost v ≡ c) vs → has_serial k vs ≡ true
    → distinct_cost vs ≡ c + distinct_cost (without k vs)
apart k c [] a e = let wrong = e in cc
apart k c (v ∷ vs) a e = step (v.serial == k) refl (has_serial k vs) refl (apart k c vs a.1)
  where
    step : (b : Bool) → (v.serial == k) ≡ b → (later : Bool) → has_serial k vs ≡ later
        → (has_serial k vs ≡ true → distinct_cost vs ≡ c + distinct_cost (without k vs))
        → distinct_cost (v ∷ vs) ≡ c + distinct_cost (without k (v ∷ vs))
    step true h true f rest =
        let here : has_serial v.serial vs ≡ true = ap (λ m. has_serial m vs) (eqb-true v.serial k h) ∙ f in
        let r = rest f in
        rw h (rw here (none_more (distinct_cost vs) (c + distinct_cost (without k vs)) r))
    step true h false f rest =
        let same = eqb-true v.serial k h in
        let here : has_serial v.serial vs ≡ false = ap (λ m. has_serial m vs) same ∙ f in
        let w = without_absent k vs f in
        let x = a.0 same in
        rw h (rw here (rw w (rw x refl)))
    step false h later f rest =
        let there : has_serial k vs ≡ true = sym (rw h refl) ∙ e in
        let o = without_other k v.serial vs h in
        let r = rest there in
        rw h (rw o (moved (if has_serial v.serial vs then 0 else cost v) (distinct_cost vs)
        (distinct_cost (without k vs)) r))
      where
        moved : (x d w : ℕ) → d ≡ c + w → x + d ≡ c + (x + w)
        moved x d w r = omega (arith, r)

-- x has its serial in ys, and what has it there costs as much
abbrev pub Fits : List SpecVersion → SpecVersion → Type 0
Fits ys x = (has_serial x.serial ys ≡ true) × AllByRecursion (λ y. y.serial ≡ x.serial → cost y ≡ cost x) ys

all_without : (P : SpecVersion → Type 0) (k : ℕ) (vs : List SpecVersion) → AllByRecursion P vs
    → AllByRecursion P (without k vs)
all_without P k [] a = tt
all_without P k (v ∷ vs) a = step (v.serial == k) refl (all_without P k vs a.1)
  where
    step : (b : Bool) → (v.serial == k) ≡ b → AllByRecursion P (without k vs) → AllByRecursion P (without k (v ∷ vs))
    step true h rest = rw h rest
    step false h rest = rw h (a.0, rest)

-- those that have another serial fit without it
fit_without : (k : ℕ) (ys xs : List SpecVersion) → has_serial k xs ≡ false → AllByRecursion (Fits ys) xs
    → AllByRecursion (Fits (without k ys)) xs
fit_without k ys [] e a = tt
fit_without k ys (x ∷ xs) e a = step (x.serial == k) refl (has_serial k xs) refl (fit_without k ys xs)
  where
    step : (b : Bool) → (x.serial == k) ≡ b → (later : Bool) → has_serial k xs ≡ later
        → (has_serial k xs ≡ false → AllByRecursion (Fits ys) xs → AllByRecursion (Fits (without k ys)) xs)
        → AllByRecursion (Fits (without k ys)) (x ∷ xs)
    step true h later f rest = let wrong : true ≡ false = sym (rw h refl) ∙ e in cc
    step false h true f rest = let wrong : true ≡ false = sym (rw h f) ∙ e in cc
    step false h false f rest = (
      (without_other k x.serial ys h ∙ a.0.0, all_without (λ y. y.serial ≡ x.serial → cost y ≡ cost x) k ys a.0.1),
      rest f a.1,
    )

pub distinct_le : (xs ys : List SpecVersion) → AllByRecursion (Fits ys) xs → distinct_cost xs ≤ distinct_cost ys
distinct_le [] ys a = omega arith
distinct_le (x ∷ xs) ys a = step (has_serial x.serial xs) refl (λ zs. distinct_le xs zs)
  where
    step : (b : Bool) → has_serial x.serial xs ≡ b → ((zs : List SpecVersion) → AllByRecursion (Fits zs) xs
        → distinct_cost xs ≤ distinct_cost zs) → distinct_cost (x ∷ xs) ≤ distinct_cost ys
    step true h rest = rw h (none_less (distinct_cost xs) (distinct_cost ys) (rest ys a.1))
    step false h rest =
        let r = rest (without x.serial ys) (fit_without x.serial ys xs h a.1) in
        let p = apart x.serial (cost x) ys a.0.1 a.0.0 in
        rw h (rw p (more (cost x) (distinct_cost xs) (distinct_cost (without x.serial ys)) r))
      where
        more : (c d w : ℕ) → d ≤ w → c + d ≤ c + w
        more c d w l = omega (arith, l)

-- one more version
pub distinct_more : (v : SpecVersion) (vs : List SpecVersion) → distinct_cost (v ∷ vs) ≤ cost v + distinct_cost vs
distinct_more v vs = step (has_serial v.serial vs) refl
  where
    least : (c d : ℕ) → 0 + d ≤ c + d
    least c d = omega arith

    step : (b : Bool) → has_serial v.serial vs ≡ b → distinct_cost (v ∷ vs) ≤ cost v + distinct_cost vs
    step true h = rw h (least (cost v) (distinct_cost vs))
    step false h = rw h (all_of (cost v) (distinct_cost vs))
      where
        all_of : (c d : ℕ) → c + d ≤ c + d
        all_of c d = omega arith
