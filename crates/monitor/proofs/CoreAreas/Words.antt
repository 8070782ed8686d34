-- Which words the areas of a call have: what they name if all of it lies in core.
use Rattle.std.proofs.Common.{◌≡◌, ◌≢◌, ℕ, ◌+◌, ◌-◌, ◌<◌, ◌≤◌, Bool, true, false, List, [], ◌∷◌, length, min, refl}
use Rattle.std.proofs.Common.{ap, sym, ◌∙◌, arith, Some, None, ◌==◌, ◌&&◌, if◌then◌else◌, cond}
use Rattle.std.specs.Prelude.{not, is_none}
use Rattle.std.specs.List.{AllByRecursion}
use Rattle.std.proofs.Math.Nat.{min-eq_left, min-le_right}
use Rattle.std.proofs.lemmas.Bool.Decides.{nat_tests}
use Rattle.spec_machine.specs.Common.{lies_outside, first_free, areas_at, ring_in, SpecInput, Channel, SpecJob}
use Rattle.spec_machine.specs.Common.{channel_at}
use Rattle.spec_machine.specs.Common.{is_buffered, byte_size, base, current, target, is_good, in_is_good, in_ready}
use Rattle.spec_machine.specs.Common.{with_ring, setup}
use Rattle.spec_machine.specs.declared.area.Area.{Area}
use Rattle.spec_machine.specs.declared.call.Call.TheVariants.{Lookup, In}
use Rattle.usercore.specs.Common.{words_at, in_areas, setup_areas}
use Rattle.monitor.specs.Common.{IsPart, in_core, on_open, areas_filled, areas_of}
use Rattle.usercore.proofs.AreaLaws.{passed_test, ringed_from}
use Rattle.spec_machine.proofs.Common.{inside}

some_words : (n : ℕ) → not (n == 0) ≡ true → 0 < n
some_words n some = grind (arith, nat_tests)

-- each area has a word, and lies in core

pub parts : (core : List ℕ) (areas : List Area) → AllByRecursion (IsPart core) (in_core core areas)
parts core [] = tt
parts core (area ∷ areas) =
    by (not (min area.count (length core - area.first) == 0)) (min area.count (length core - area.first)) refl
    (min-le_right area.count (length core - area.first)) (parts core areas)
  where
    by : (b : Bool) (n : ℕ) → not (n == 0) ≡ b → n ≤ length core - area.first
        → AllByRecursion (IsPart core) (in_core core areas)
        → AllByRecursion (IsPart core) (cond b (words_at area.first n ∷ in_core core areas) (in_core core areas))
    by true n some few rest = let more = some_words n some in ((more, omega (arith, few, more)), rest)
    by false n none few rest = rest

-- areas of such a kind are the parts of them that lie in core

has_words : (n : ℕ) → 0 < n → not (n == 0) ≡ true
has_words n some = grind (arith, nat_tests)

all_of : (core : List ℕ) (areas : List Area) → AllByRecursion (IsPart core) areas → in_core core areas ≡ areas
all_of core [] all = refl
all_of core (area ∷ areas) all =
    let whole : min area.count (length core - area.first) ≡ area.count = min-eq_left (omega (arith, all.0.1)) in
    ap (λ n. cond (not (n == 0)) (words_at area.first n ∷ in_core core areas) (in_core core areas)) whole
    ∙ ap (λ b. cond b (area ∷ in_core core areas) (in_core core areas)) (has_words area.count all.0.0)
    ∙ ap (λ rest. area ∷ rest) (all_of core areas all.1)

module _ (job : SpecJob) (ch : ℕ) (c : Channel) (there : channel_at job ch ≡ Some c) where
  pub lookup_words : (e : ℕ) → e + 4 ≤ length job.core → areas_of job (Lookup ch e) ≡ words_at (e + 1) 3 ∷ []
  lookup_words e fits = ap (λ o. in_core job.core (on_open o (λ c. words_at (e + 1) 3 ∷ []))) there
      ∙ all_of job.core (words_at (e + 1) 3 ∷ []) ((omega arith, omega arith), tt)

  module _ (a : ℕ) (i : SpecInput) (reads : c.input ≡ Some i) (buffered : is_buffered c.mode ≡ true)
      (ready : List ℕ) (is : ring_in job c ≡ Some ready) (some : c.input_header ≢ 0) where
    abbrev h : ℕ
    h = c.input_header

    chosen : (none buffered zero : Bool) (xs ys : List Area) → none ≡ false → buffered ≡ true → zero ≡ false
        → (if none then [] else if not buffered then xs else if zero then [] else ys) ≡ ys
    chosen true b z xs ys p q r = cc p
    chosen false false z xs ys p q r = cc q
    chosen false true true xs ys p q r = cc r
    chosen false true false xs ys p q r = refl

    not_zero : (n : ℕ) → n ≢ 0 → (n == 0) ≡ false
    not_zero n apart = grind (arith, nat_tests)

    filled : areas_of job (In ch a) ≡ in_core job.core (in_areas job.core h)
    filled = ap (λ o. in_core job.core (on_open o (λ c. areas_filled job.core c a))) there
        ∙ ap (in_core job.core) (chosen (is_none c.input) (is_buffered c.mode) (h == 0) (areas_at job a)
        (in_areas job.core h) (ap is_none reads) buffered (not_zero h some))

    both_good : in_is_good h ready ≡ true
    unfolding in_ready
    both_good = (passed_test (in_is_good h) (with_ring job.core h (byte_size c.mode)) ready is).1

    with : with_ring job.core h (byte_size c.mode) ≡ Some ready
    unfolding in_ready
    with = (passed_test (in_is_good h) (with_ring job.core h (byte_size c.mode)) ready is).0

    -- a ring of two that is set up first
    pub ring_words_set_up : current job.core h ≡ 0
        → areas_of job (In ch a) ≡ words_at first_free 1 ∷ words_at (base job.core) 0o406 ∷ words_at h 3 ∷ []
    ring_words_set_up none =
        let zero : (current job.core h == 0) ≡ true = ap (λ n. n == 0) none in
        let ring = ringed_from job.core ready h (byte_size c.mode) (sym (ap (λ b. if b
        then setup job.core h (byte_size c.mode) 2 else if lies_outside job.core h 3 then None else Some job.core) zero)
        ∙ with) in
        filled ∙ ap (λ b. in_core job.core (if b then setup_areas job.core h 2 else words_at h 3
        ∷ words_at (current job.core h) 1 ∷ words_at (target job.core h - 1) 0o203 ∷ [])) zero
        ∙ all_of job.core (setup_areas job.core h 2) (
          (omega arith, omega (arith, ring.1)),
          ((omega arith, ring.1), ((omega arith, ring.2), tt)),
        )

    pub ring_words_there : current job.core h ≢ 0
        → areas_of job (In ch a) ≡ words_at h 3 ∷ words_at (current job.core h) 1
        ∷ words_at (target job.core h - 1) 0o203 ∷ []
    ring_words_there some_buffer =
        let zero : (current job.core h == 0) ≡ false = not_zero (current job.core h) some_buffer in
        let found = header (lies_outside job.core h 3) refl (sym (ap (λ b. if b
        then setup job.core h (byte_size c.mode) 2 else if lies_outside job.core h 3 then None else Some job.core) zero)
        ∙ with) in
        let good = two (is_good job.core (current job.core h)) (is_good job.core (target job.core h))
        (ap (in_is_good h) found.0 ∙ both_good) in
        let first = fits job.core (current job.core h) good.0 in
        let second = fits job.core (target job.core h) good.1 in
        filled ∙ ap (λ b. in_core job.core (if b then setup_areas job.core h 2 else words_at h 3
        ∷ words_at (current job.core h) 1 ∷ words_at (target job.core h - 1) 0o203 ∷ [])) zero
        ∙ all_of job.core
        (words_at h 3 ∷ words_at (current job.core h) 1 ∷ words_at (target job.core h - 1) 0o203 ∷ []) (
          (omega arith, found.1),
          ((omega arith, omega (arith, first)), ((omega arith, omega (arith, second)), tt)),
        )
      where
        two : (a b : Bool) → (a && b) ≡ true → (a ≡ true) × (b ≡ true)
        two true b e = (refl, e)
        two false b e = cc e

        fits : (core : List ℕ) (a : ℕ) → is_good core a ≡ true → (1 ≤ a) × (a + 0o201 < length core)
        fits core a good = grind (arith, nat_tests)

        header : (b : Bool) → lies_outside job.core h 3 ≡ b → (if b then None else Some job.core) ≡ Some ready
            → (job.core ≡ ready) × (h + 3 ≤ length job.core)
        header true p e = cc e
        header false p e = (cc e, inside job.core h 3 p)
