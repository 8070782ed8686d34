-- What is written lies in the areas that are named.
use Rattle.std.proofs.Common.{◌≡◌, ◌≢◌, ◌⊎◌, inl, inr, ⊎_elim, ℕ, zero, suc, ◌+◌, ◌-◌, ◌*◌, ◌^◌, ◌<◌, ◌≤◌, Bool, true}
use Rattle.std.proofs.Common.{false, List, [], ◌∷◌, ◌++◌, length, refl, ap, sym, subst, ◌∙◌, arith, slice_index}
use Rattle.std.proofs.Common.{slice_set, Option, Some, None, ◌==◌, ◌||◌, ◌&&◌, if◌then◌else◌, replicate, take, drop}
use Rattle.std.specs.Prelude.{option_map}
use Rattle.std.specs.List.{AllByRecursion}
use Rattle.std.proofs.lemmas.Bool.{cases_lt}
use Rattle.std.proofs.lemmas.Bool.Decides.{nat_tests}
use Rattle.std.proofs.lemmas.List.{get_or-set_other, length-take, length-replicate}
use Rattle.words36.specs.Common.{left, right, join}
use Rattle.spec_machine.specs.declared.area.Area.{Area}
use Rattle.spec_machine.specs.Common.{after_writes, placed, dealt, lies_outside, base, buffer_at, buffer_words}
use Rattle.spec_machine.specs.Common.{data_words, buffer_writes, ring_writes, setup_writes, setup, follower, pointer}
use Rattle.spec_machine.specs.Common.{bytes_in_word, with_ring, kept_if, current, target, next, is_unused, is_good}
use Rattle.spec_machine.specs.Common.{in_is_good, out_is_good, last_is_good, in_ready, out_ready, buffer_left}
use Rattle.spec_machine.specs.Common.{in_writes, put_behind, out_writes}
use Rattle.spec_machine.proofs.Common.{writes_length, inside}
use Rattle.spec_image.proofs.Common.{all_append}
use Rattle.usercore.specs.Common.{IsOutside, ChangesWithin, words_at, setup_areas, step_areas, after_in, after_out}
use Rattle.usercore.proofs.FirstRings.{ringed, at_header, join_right, is_fresh}

-- Writes of which none names an address leave its word.

abbrev pub Misses : ℕ → ℕ × ℕ → Type 0
Misses address w = address ≢ w.0

abbrev pub AllMiss : ℕ → List (ℕ × ℕ) → Type 0
AllMiss address ws = AllByRecursion (Misses address) ws

pub missed : (core : List ℕ) (ws : List (ℕ × ℕ)) (address : ℕ) → AllMiss address ws
    → slice_index (after_writes core ws) address ≡ slice_index core address
missed core [] address miss = refl
missed core (w ∷ ws) address miss = missed (slice_set core w.0 w.1) ws address miss.1
    ∙ get_or-set_other core w.0 address w.1 0 miss.0

pub writes_within : (areas : List Area) (core : List ℕ) (ws : List (ℕ × ℕ))
    → ((address : ℕ) → AllByRecursion (IsOutside address) areas → AllMiss address ws)
    → ChangesWithin areas core (after_writes core ws)
writes_within areas core ws miss = record {
  length = writes_length core ws;
  others = λ address out. missed core ws address (miss address out);
}

pub same_within : (areas : List Area) (core : List ℕ) → ChangesWithin areas core core
same_within areas core = record { length = refl; others = λ address out. refl }

pub then_within : (areas : List Area) (a b c : List ℕ) → ChangesWithin areas a b → ChangesWithin areas b c
    → ChangesWithin areas a c
then_within areas a b c one two = record {
  length = two.length ∙ one.length;
  others = λ address out. two.others address out ∙ one.others address out;
}

-- Consecutive words.

pub placed_miss : (a : ℕ) (ws : List ℕ) (address : ℕ) → (address < a) ⊎ (a + length ws ≤ address)
    → AllMiss address (placed a ws)
placed_miss a [] address out = tt
placed_miss a (w ∷ ws) address (inl below) = (λ e. omega (arith, e), placed_miss (a + 1) ws address (inl (omega arith)))
placed_miss a (w ∷ ws) address (inr past) = (λ e. omega (arith, e), placed_miss (a + 1) ws address (inr (omega arith)))

-- words that are dealt to areas
pub dealt_miss : (areas : List Area) (words : List ℕ) (address : ℕ) → AllByRecursion (IsOutside address) areas
    → AllMiss address (dealt areas words)
dealt_miss [] words address out = tt
dealt_miss (area ∷ areas) words address out =
    all_append (Misses address) (placed area.first (take area.count words)) (dealt areas (drop area.count words))
    (placed_miss area.first (take area.count words) address (shorter out.0))
    (dealt_miss areas (drop area.count words) address out.1)
  where
    shorter : IsOutside address area
        → (address < area.first) ⊎ (area.first + length (take area.count words) ≤ address)
    shorter (inl below) = inl below
    shorter (inr past) = inr (omega (arith, length-take area.count words))

-- A setup.

-- the first k of n buffers
ring_miss : (b n k address : ℕ) → (address < b) ⊎ (b + k * 0o203 ≤ address) → AllMiss address (ring_writes b n k)
ring_miss b n zero address out = tt
ring_miss b n (suc k) address out =
    all_append (Misses address) (ring_writes b n k) (buffer_writes b n k)
    (ring_miss b n k address (⊎_elim (λ below. inl below) (λ past. inr (omega arith)) out))
    (placed_miss (b + k * 0o203) (0 ∷ join 0o201 (buffer_at b (follower n k)) ∷ 0 ∷ []) address
    (⊎_elim (λ below. inl (omega arith)) (λ past. inr (omega arith)) out))

setup_miss : (core : List ℕ) (h size n address : ℕ) → AllByRecursion (IsOutside address) (setup_areas core h n)
    → AllMiss address (setup_writes core h size n)
setup_miss core h size n address out =
    all_append (Misses address) (ring_writes (base core) n n) _
    (ring_miss (base core) n n address out.1.0) (
      ⊎_elim (λ below e. omega (arith, e)) (λ past e. omega (arith, e)) out.0,
      placed_miss h (join 0o400000 (buffer_at (base core) 0) ∷ pointer size 0 ∷ 0 ∷ []) address out.1.1.0,
    )

pub setup_within : (core : List ℕ) (h size n : ℕ) (ready : List ℕ) → setup core h size n ≡ Some ready
    → ChangesWithin (setup_areas core h n) core ready
unfolding setup
setup_within core h size n ready is = by (lies_outside core (base core) (n * buffer_words) || lies_outside core h 3) is
  where
    by : (b : Bool) → (if b then None else Some (after_writes core (setup_writes core h size n))) ≡ Some ready
        → ChangesWithin (setup_areas core h n) core ready
    by true e = cc e
    by false e =
        let same : after_writes core (setup_writes core h size n) ≡ ready = cc e in
        subst (ChangesWithin (setup_areas core h n) core) same
        (writes_within (setup_areas core h n) core (setup_writes core h size n) (setup_miss core h size n))

-- A step, in the core that it finds.

-- what a step may change if its ring exists
abbrev found_areas : List ℕ → ℕ → ℕ → List Area
found_areas core h left = words_at h 3 ∷ words_at (current core h) left ∷ words_at (target core h - 1) buffer_words ∷ []

abbrev StaysIn : List Area → List (ℕ × ℕ) → Type 0
StaysIn areas ws = (address : ℕ) → AllByRecursion (IsOutside address) areas → AllMiss address ws

left_miss : (unused : Bool) (a w address : ℕ) → (address < a) ⊎ (a + 1 ≤ address)
    → AllMiss address (if unused then [] else (a, w) ∷ [])
left_miss true a w address out = tt
left_miss false a w address out = (⊎_elim (λ below e. omega (arith, e)) (λ past e. omega (arith, e)) out, tt)

filled_miss : (h size status a address : ℕ) (words : List ℕ) (in_use name point held : ℕ) → length words ≤ 0o200
    → (address < h) ⊎ (h + 3 ≤ address) → (address < a - 1) ⊎ (a - 1 + 0o203 ≤ address)
    → AllMiss address ((a - 1, status) ∷ placed (a + 2) words ++ (a + 1, length words) ∷ (a, in_use)
    ∷ placed h (name ∷ point ∷ held ∷ []))
filled_miss h size status a address words in_use name point held few header buffer = (
  ⊎_elim (λ below e. omega (arith, e)) (λ past e. omega (arith, e)) buffer,
  all_append (Misses address) (placed (a + 2) words) _
      (placed_miss (a + 2) words address
      (⊎_elim (λ below. inl (omega arith)) (λ past. inr (omega arith)) buffer)) (
        ⊎_elim (λ below e. omega (arith, e)) (λ past e. omega (arith, e)) buffer,
        (
          ⊎_elim (λ below e. omega (arith, e)) (λ past e. omega (arith, e)) buffer,
          placed_miss h (name ∷ point ∷ held ∷ []) address header,
        ),
      ),
)

in_stays : (core : List ℕ) (h size status : ℕ) (words : List ℕ) → length words ≤ 0o200
    → StaysIn (found_areas core h 1) (in_writes core h size status words)
unfolding in_writes
in_stays core h size status words few address out =
    all_append (Misses address) (buffer_left core h) _
    (left_miss (is_unused core h) (current core h) _ address out.1.0)
    (filled_miss h size status (target core h) address words _ _ _ _ few out.0 out.1.1.0)

behind_miss : (unused : Bool) (a v w address : ℕ) → (address < a) ⊎ (a + 2 ≤ address)
    → AllMiss address (if unused then [] else (a + 1, v) ∷ (a, w) ∷ [])
behind_miss true a v w address out = tt
behind_miss false a v w address out = (
  ⊎_elim (λ below e. omega (arith, e)) (λ past e. omega (arith, e)) out,
  (⊎_elim (λ below e. omega (arith, e)) (λ past e. omega (arith, e)) out, tt),
)

emptied_miss : (h a address name point held : ℕ) (zeros : List ℕ) → length zeros ≡ 0o200
    → (address < h) ⊎ (h + 3 ≤ address) → (address < a - 1) ⊎ (a - 1 + 0o203 ≤ address)
    → AllMiss address (placed (a + 2) zeros ++ (a + 1, 0) ∷ placed h (name ∷ point ∷ held ∷ []))
emptied_miss h a address name point held zeros long header buffer =
    all_append (Misses address) (placed (a + 2) zeros) _
    (placed_miss (a + 2) zeros address
    (⊎_elim (λ below. inl (omega arith)) (λ past. inr (omega arith)) buffer)) (
      ⊎_elim (λ below e. omega (arith, e)) (λ past e. omega (arith, e)) buffer,
      placed_miss h (name ∷ point ∷ held ∷ []) address header,
    )

out_stays : (core : List ℕ) (h size : ℕ) → StaysIn (found_areas core h 2) (out_writes core h size)
unfolding out_writes
out_stays core h size address out =
    all_append (Misses address) (put_behind core h) _
    (behind_miss (is_unused core h) (current core h) _ _ address out.1.0)
    (emptied_miss h (target core h) address (target core h) (pointer size (target core h + 1))
    (data_words * bytes_in_word size) (replicate data_words 0) (length-replicate {A = ℕ} data_words 0) out.0 out.1.1.0)

-- The core that it finds: the old one, or one in which a ring of two was set up first.

pub ringed_from : (core ready : List ℕ) (h size : ℕ) → setup core h size 2 ≡ Some ready
    → (ready ≡ ringed core h size) × (base core + 0o406 ≤ length core) × (h + 3 ≤ length core)
unfolding setup
ringed_from core ready h size is =
    by (lies_outside core (base core) 0o406) (lies_outside core h 3) refl refl is
  where
    by : (b c : Bool) → lies_outside core (base core) 0o406 ≡ b → lies_outside core h 3 ≡ c
        → (if b || c then None else Some (ringed core h size)) ≡ Some ready
        → (ready ≡ ringed core h size) × (base core + 0o406 ≤ length core) × (h + 3 ≤ length core)
    by true c p q e = cc e
    by false true p q e = cc e
    by false false p q e = (cc e, inside core (base core) 0o406 p, inside core h 3 q)

-- its header names the first buffer, if that has an address
first_current : (b : ℕ) → b < 2 ^ 18 → 1 ≤ right (join 0o400000 (buffer_at b 0))
    → right (join 0o400000 (buffer_at b 0)) ≡ b + 1
first_current b low some = ⊎_elim
    (λ fits. join_right 0o400000 (buffer_at b 0) (omega arith) ∙ omega arith)
    (λ over.
    let last : buffer_at b 0 ≡ 2 ^ 18 = omega arith in
    let none : right (join 0o400000 (buffer_at b 0)) ≡ 0 = ap (λ a. right (join 0o400000 a)) last in
    absurd (omega (arith, none, some)))
    (cases_lt (b + 1) (2 ^ 18))

step_within : (core ready : List ℕ) (h size count : ℕ) (ws : List (ℕ × ℕ)) → count ≤ 2
    → with_ring core h size ≡ Some ready → 1 ≤ current ready h → StaysIn (found_areas ready h count) ws
    → ChangesWithin (step_areas core h count) core (after_writes ready ws)
step_within core ready h size count ws few is some stays = by (current core h == 0) is
  where
    by : (b : Bool)
        → (if b then setup core h size 2 else if lies_outside core h 3 then None else Some core) ≡ Some ready
        → ChangesWithin (if b then setup_areas core h 2 else found_areas core h count) core (after_writes ready ws)
    by true e =
        let ring = ringed_from core ready h size e in
        let name : slice_index ready h ≡ join 0o400000 (buffer_at (base core) 0) =
        ap (λ c. slice_index c h) ring.0 ∙ at_header core h size ring.2 (omega (arith, ring.1)) in
        let first : current ready h ≡ base core + 1 =
        ap right name ∙ first_current (base core) (omega arith) (subst (λ w. 1 ≤ right w) name some) in
        let unused : is_unused ready h ≡ true =
        ap (λ c. is_unused c h) ring.0 ∙ is_fresh core h size ring.2 (omega (arith, ring.1)) in
        let goes : target ready h ≡ base core + 1 =
        ap (λ b. if b then current ready h else next ready h) unused ∙ first in
        then_within (setup_areas core h 2) core ready (after_writes ready ws) (setup_within core h size 2 ready e)
        (writes_within (setup_areas core h 2) ready ws (λ address out. stays address (
          out.1.1.0,
          (
            ⊎_elim (λ below. inl (omega (arith, first))) (λ past. inr (omega (arith, first))) out.1.0,
            (⊎_elim (λ below. inl (omega (arith, goes))) (λ past. inr (omega (arith, goes))) out.1.0, tt),
          ),
        )))
    by false e = there (lies_outside core h 3) e
      where
        there : (b : Bool) → (if b then None else Some core) ≡ Some ready
            → ChangesWithin (found_areas core h count) core (after_writes ready ws)
        there true e = cc e
        there false e =
            let same : ready ≡ core = cc e in
            subst (λ c. ChangesWithin (found_areas c h count) c (after_writes ready ws)) same
            (writes_within (found_areas ready h count) ready ws stays)

-- A step that can be done.

pub passed_test : (test : List ℕ → Bool) (o : Option (List ℕ)) (ready : List ℕ) → kept_if test o ≡ Some ready
    → (o ≡ Some ready) × (test ready ≡ true)
passed_test test None ready e = cc e
passed_test test (Some core) ready e = by (test core) refl e
  where
    by : (b : Bool) → test core ≡ b → (if b then Some core else None) ≡ Some ready
        → (Some core ≡ Some ready) × (test ready ≡ true)
    by true p e = let same : core ≡ ready = cc e in (e, ap test (sym same) ∙ p)
    by false p e = cc e

pub good_some : (core : List ℕ) (a : ℕ) → is_good core a ≡ true → 1 ≤ a
good_some core a good = grind (arith, nat_tests)

both : (b c : Bool) → (b && c) ≡ true → b ≡ true
both true c e = refl
both false c e = cc e

first_of : (a b c d : Bool) → (a && b && c && d) ≡ true → a ≡ true
first_of true b c d e = refl
first_of false b c d e = cc e

current_good : (core : List ℕ) (h : ℕ) → out_is_good h core ≡ true → is_good core (current core h) ≡ true
current_good core h good = by (is_unused core h) good
  where
    by : (b : Bool) → (if b then is_good core (current core h)
        else last_is_good core h && is_good core (next core h)) ≡ true → is_good core (current core h) ≡ true
    by true e = e
    by false e = first_of (is_good core (current core h)) _ _ _ e

pub in_within : (core ready : List ℕ) (h size status : ℕ) (words : List ℕ) → in_ready core h size ≡ Some ready
    → length words ≤ 0o200
    → ChangesWithin (step_areas core h 1) core (after_writes ready (in_writes ready h size status words))
unfolding in_ready
in_within core ready h size status words is few =
    let found = passed_test (in_is_good h) (with_ring core h size) ready is in
    step_within core ready h size 1 (in_writes ready h size status words) (omega arith) found.0
    (good_some ready (current ready h) (both _ _ found.1)) (in_stays ready h size status words few)

pub out_within : (core ready : List ℕ) (h size : ℕ) → out_ready core h size ≡ Some ready
    → ChangesWithin (step_areas core h 2) core (after_writes ready (out_writes ready h size))
unfolding out_ready
out_within core ready h size is =
    let found = passed_test (out_is_good h) (with_ring core h size) ready is in
    step_within core ready h size 2 (out_writes ready h size) (omega arith) found.0
    (good_some ready (current ready h) (current_good ready h found.1)) (out_stays ready h size)

-- as calls of a core have them

pub after_in_within : (core core' : List ℕ) (h size status : ℕ) (words : List ℕ) → length words ≤ 0o200
    → after_in core h size status words ≡ Some core' → ChangesWithin (step_areas core h 1) core core'
after_in_within core core' h size status words few is = by (in_ready core h size) refl is
  where
    by : (o : Option (List ℕ)) → in_ready core h size ≡ o
        → option_map (λ ready. after_writes ready (in_writes ready h size status words)) o ≡ Some core'
        → ChangesWithin (step_areas core h 1) core core'
    by None p e = cc e
    by (Some ready) p e =
        let same : after_writes ready (in_writes ready h size status words) ≡ core' = cc e in
        subst (ChangesWithin (step_areas core h 1) core) same (in_within core ready h size status words p few)

pub after_out_within : (core core' : List ℕ) (h size : ℕ) → after_out core h size ≡ Some core'
    → ChangesWithin (step_areas core h 2) core core'
after_out_within core core' h size is = by (out_ready core h size) refl is
  where
    by : (o : Option (List ℕ)) → out_ready core h size ≡ o
        → option_map (λ ready. after_writes ready (out_writes ready h size)) o ≡ Some core'
        → ChangesWithin (step_areas core h 2) core core'
    by None p e = cc e
    by (Some ready) p e =
        let same : after_writes ready (out_writes ready h size) ≡ core' = cc e in
        subst (ChangesWithin (step_areas core h 2) core) same (out_within core ready h size p)

pub dealt_within : (core : List ℕ) (areas : List Area) (words : List ℕ)
    → ChangesWithin areas core (after_writes core (dealt areas words))
dealt_within core areas words = writes_within areas core (dealt areas words) (dealt_miss areas words)
