-- Command lists, read one command word after another.
use Rattle.std.proofs.Common.{◌≡◌, ◌≢◌, ℕ, zero, suc, ◌+◌, ◌-◌, ◌^◌, ◌<◌, ◌≤◌, List, [], ◌∷◌, ◌++◌, length, Option}
use Rattle.std.proofs.Common.{Some, None, refl, ap, sym, ◌∙◌, arith, append_assoc, append-nil, add-one, slice_index}
use Rattle.std.specs.Prelude.{option_map}
use Rattle.std.proofs.lemmas.Bool.Decides.{nat_tests}
use Rattle.words36.specs.Common.{left, right}
use Rattle.spec_machine.specs.declared.area.Area.{Area}
use Rattle.spec_machine.specs.Common.{areas_from, dump_list, word_count}
use Rattle.spec_image.proofs.Common.{total-append}

-- areas that were found already, and then those that are still to find
abbrev pub prepend : List Area → Option (List Area) → Option (List Area)
prepend areas None = None
prepend areas (Some more) = Some (areas ++ more)

prepend-one : (areas : List Area) (area : Area) (more : Option (List Area))
    → prepend areas (option_map (λ rest. area ∷ rest) more) ≡ prepend (areas ++ area ∷ []) more
prepend-one areas area None = refl
prepend-one areas area (Some more) = ap Some (sym (append_assoc areas (area ∷ []) more))

pub areas-out : (core : List ℕ) (m a : ℕ) → m ≡ 0 → areas_from core m a ≡ None
unfolding areas_from
areas-out core m a e = rw e refl

pub areas-past : (core : List ℕ) (m a : ℕ) → 0 < m → length core ≤ a → areas_from core m a ≡ None
unfolding areas_from
areas-past core zero a some h = absurd (omega arith)
areas-past core (suc m) a some h = grind (arith, nat_tests)

pub areas-end : (core : List ℕ) (m a : ℕ) → 0 < m → a < length core → slice_index core a ≡ 0
    → areas_from core m a ≡ Some []
unfolding areas_from
areas-end core zero a some h z = absurd (omega arith)
areas-end core (suc m) a some h z = grind (arith, nat_tests)

goes_on : (core : List ℕ) (n a : ℕ) → a < length core → slice_index core a ≢ 0 → left (slice_index core a) ≡ 0
    → areas_from core (suc n) a ≡ areas_from core n (right (slice_index core a))
unfolding areas_from
goes_on core n a h nz l = grind (arith, nat_tests)

pub areas-go : (core : List ℕ) (m n a to : ℕ) → m ≡ n + 1 → a < length core → slice_index core a ≢ 0
    → left (slice_index core a) ≡ 0
    → to ≡ right (slice_index core a) → areas_from core m a ≡ areas_from core n to
areas-go core m n a to e h nz l r = rw (e, add-one, r) (goes_on core n a h nz l)

pub areas-beyond : (core : List ℕ) (m a : ℕ) → 0 < m → a < length core → slice_index core a ≢ 0
    → left (slice_index core a) ≢ 0
    → length core < right (slice_index core a) + 1 + (2 ^ 18 - left (slice_index core a)) → areas_from core m a ≡ None
unfolding areas_from
areas-beyond core zero a some h nz l b = absurd (omega arith)
areas-beyond core (suc m) a some h nz l b = grind (arith, nat_tests)

one_more : (core : List ℕ) (n a : ℕ) → a < length core → slice_index core a ≢ 0 → left (slice_index core a) ≢ 0
    → right (slice_index core a) + 1 + (2 ^ 18 - left (slice_index core a)) ≤ length core
    → areas_from core (suc n) a ≡ option_map
    (λ rest. record { first = right (slice_index core a) + 1; count = 2 ^ 18 - left (slice_index core a) } ∷ rest)
    (areas_from core n (a + 1))
unfolding areas_from
one_more core n a h nz l b = grind (arith, nat_tests)

pub areas-more : (core : List ℕ) (m n a first count : ℕ) (areas : List Area) → m ≡ n + 1 → a < length core
    → slice_index core a ≢ 0 → left (slice_index core a) ≢ 0
    → first ≡ right (slice_index core a) + 1 → count ≡ 2 ^ 18 - left (slice_index core a) → first + count ≤ length core
    → prepend areas (areas_from core m a)
    ≡ prepend (areas ++ record { first = first; count = count } ∷ []) (areas_from core n (a + 1))
areas-more core m n a first count areas e h nz l f k b =
    rw (e, add-one, f, k, one_more core n a h nz l (omega arith)) (prepend-one areas _ (areas_from core n (a + 1)))

-- what a list comes to, by what was found up to a command word
pub none_found : (core : List ℕ) (a : ℕ) (areas : List Area) (more : Option (List Area))
    → areas_from core 512 a ≡ prepend areas more → more ≡ None → dump_list core a ≡ None
unfolding dump_list
none_found core a areas more e n = rw (e, n) refl

pub all_found : (core : List ℕ) (a : ℕ) (areas : List Area) (more : Option (List Area))
    → areas_from core 512 a ≡ prepend areas more → more ≡ Some [] → word_count areas ≤ 131072
    → dump_list core a ≡ Some areas
unfolding dump_list
all_found core a areas more e n small = rw (e, n, append-nil) (grind (arith, nat_tests))

nothing_before : (more : Option (List Area)) → prepend [] more ≡ more
nothing_before None = refl
nothing_before (Some areas) = refl

-- a command word that names an area, and a word after it that ends the list
pub lone_found : (core : List ℕ) (a first count : ℕ) → a + 1 < length core → length core ≤ 131072
    → left (slice_index core a) ≢ 0 → slice_index core (a + 1) ≡ 0 → first ≡ right (slice_index core a) + 1
    → count ≡ 2 ^ 18 - left (slice_index core a) → first + count ≤ length core
    → dump_list core a ≡ Some (record { first = first; count = count } ∷ [])
lone_found core a first count h small l z f k b =
    all_found core a (record { first = first; count = count } ∷ []) (areas_from core 511 (a + 1))
    (sym (nothing_before (areas_from core 512 a))
    ∙ areas-more core 512 511 a first count [] refl (omega (arith, h)) (λ none. l (ap left none)) l f k b)
    (areas-end core 511 (a + 1) (omega arith) h z) (omega (arith, small, b))

pub too_many : (core : List ℕ) (a : ℕ) (areas : List Area) (more : Option (List Area))
    → areas_from core 512 a ≡ prepend areas more → more ≡ Some [] → 131072 < word_count areas
    → dump_list core a ≡ None
unfolding dump_list
too_many core a areas more e n large = rw (e, n, append-nil) (grind (arith, nat_tests))

pub count_more : (old new : List Area) (first count so_far : ℕ)
    → new ≡ old ++ record { first = first; count = count } ∷ [] → so_far ≡ word_count old
    → so_far + count ≡ word_count new
count_more old new first count so_far e t =
    rw (e, t) (omega (arith, total-append (λ area. area.count) old (record { first = first; count = count } ∷ [])))
