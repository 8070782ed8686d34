-- Lists of slots, of which one is set.
use Rattle.std.proofs.Common.{◌≡◌, ℕ, zero, suc, List, [], ◌∷◌, ◌++◌, map, replicate, Option, Some, None, refl, sym}
use Rattle.std.proofs.Common.{ap, subst, ◌∙◌, ◌≢◌, ◌⊎◌, inl, inr, ⊎_elim}
use Rattle.std.specs.List.{AllByRecursion, cons_option}
use Rattle.std.specs.Prelude.{slice_set, flat_map, filter_map}
use Rattle.spec_machine.specs.Jobs.{slot}
use Rattle.spec_image.proofs.Common.{all_append, all_left, all_right, some_same}

pub none_some : {X : Type 0} {x : X} → None ≡ Some x → ⊥
none_some e = cc

-- What is in a slot afterwards.

pub slot-set_same : {X : Type 0} (xs : List (Option X)) (n : ℕ) (x y : X) → slot xs n ≡ Some y
    → slot (slice_set xs n (Some x)) n ≡ Some x
slot-set_same [] n x y e = absurd (none_some e)
slot-set_same (z ∷ xs) zero x y e = refl
slot-set_same (z ∷ xs) (suc n) x y e = slot-set_same xs n x y e

pub slot-set_other : {X : Type 0} (xs : List (Option X)) (n m : ℕ) (x : Option X) → m ≢ n
    → slot (slice_set xs n x) m ≡ slot xs m
slot-set_other [] n m x h = refl
slot-set_other (z ∷ xs) zero zero x h = absurd (h refl)
slot-set_other (z ∷ xs) zero (suc m) x h = refl
slot-set_other (z ∷ xs) (suc n) zero x h = refl
slot-set_other (z ∷ xs) (suc n) (suc m) x h = slot-set_other xs n m x (λ e. h (ap suc e))

-- a slot that is set to what is in it
pub set-slot : {X : Type 0} (xs : List (Option X)) (n : ℕ) (x : X) → slot xs n ≡ Some x → slice_set xs n (Some x) ≡ xs
set-slot [] n x e = refl
set-slot (z ∷ xs) zero x e = ap (λ w. w ∷ xs) (sym e)
set-slot (z ∷ xs) (suc n) x e = ap (λ ws. z ∷ ws) (set-slot xs n x e)

-- a slot whose new value shows the same leaves what each slot shows
pub slot-set_shown : {X Y : Type 0} (f : Option X → Y) (xs : List (Option X)) (n m : ℕ) (x y : X) → slot xs n ≡ Some y
    → f (Some x) ≡ f (Some y)
    → f (slot (slice_set xs n (Some x)) m) ≡ f (slot xs m)
slot-set_shown f [] n m x y e h = refl
slot-set_shown f (z ∷ xs) zero zero x y e h = h ∙ ap f (sym e)
slot-set_shown f (z ∷ xs) zero (suc m) x y e h = refl
slot-set_shown f (z ∷ xs) (suc n) zero x y e h = refl
slot-set_shown f (z ∷ xs) (suc n) (suc m) x y e h = slot-set_shown f xs n m x y e h

-- a slot that was empty is another one than a slot that wasn't
pub slot-set_new : {X : Type 0} (xs : List (Option X)) (n m : ℕ) (x : Option X) (y : X) → slot xs n ≡ None
    → slot xs m ≡ Some y → slot (slice_set xs n x) m ≡ slot xs m
slot-set_new [] n m x y e f = refl
slot-set_new (z ∷ xs) zero zero x y e f = let wrong = sym e ∙ f in cc
slot-set_new (z ∷ xs) zero (suc m) x y e f = refl
slot-set_new (z ∷ xs) (suc n) zero x y e f = refl
slot-set_new (z ∷ xs) (suc n) (suc m) x y e f = slot-set_new xs n m x y e f

-- Lists joined from the slots.

-- a slot's new value that gives the same list leaves the lists joined
pub flat_map-set : {X Y : Type 0} (f : Option X → List Y) (xs : List (Option X)) (n : ℕ) (x y : X) → slot xs n ≡ Some y
    → f (Some x) ≡ f (Some y)
    → flat_map f (slice_set xs n (Some x)) ≡ flat_map f xs
flat_map-set f [] n x y e h = refl
flat_map-set f (None ∷ xs) zero x y e h = absurd (none_some e)
flat_map-set f (Some z ∷ xs) zero x y e h = ap (λ l. l ++ flat_map f xs) (h ∙ ap (λ w. f (Some w)) (sym (some_same e)))
flat_map-set f (z ∷ xs) (suc n) x y e h = ap (λ l. f z ++ l) (flat_map-set f xs n x y e h)

pub filter_map-set : {X Y : Type 0} (f : Option X → Option Y) (xs : List (Option X)) (n : ℕ) (x y : X)
    → slot xs n ≡ Some y → f (Some x) ≡ f (Some y)
    → filter_map f (slice_set xs n (Some x)) ≡ filter_map f xs
filter_map-set f [] n x y e h = refl
filter_map-set f (None ∷ xs) zero x y e h = absurd (none_some e)
filter_map-set f (Some z ∷ xs) zero x y e h = let k : f (Some x) ≡ f (Some z) = h
    ∙ ap (λ w. f (Some w)) (sym (some_same e)) in rw k refl
filter_map-set f (z ∷ xs) (suc n) x y e h = let k = filter_map-set f xs n x y e h in rw k refl

-- By cases, and each of a list.

pub slot-set_cases : {X : Type 0} (xs : List (Option X)) (n m : ℕ) (x : Option X)
    → ((slot (slice_set xs n x) m ≡ x) × (m ≡ n)) ⊎ (slot (slice_set xs n x) m ≡ slot xs m)
slot-set_cases [] n m x = inr refl
slot-set_cases (z ∷ xs) zero zero x = inl (refl, refl)
slot-set_cases (z ∷ xs) zero (suc m) x = inr refl
slot-set_cases (z ∷ xs) (suc n) zero x = inr refl
slot-set_cases (z ∷ xs) (suc n) (suc m) x = ⊎_elim (λ here. inl (here.0, ap suc here.1)) (λ other. inr other)
    (slot-set_cases xs n m x)

pub slot-empty : {X : Type 0} (k n : ℕ) → slot (replicate {A = Option X} k None) n ≡ None
slot-empty zero n = refl
slot-empty (suc k) zero = refl
slot-empty (suc k) (suc n) = slot-empty k n

-- what holds for each slot that is full holds for each of the list
pub all_slots : {X : Type 0} (P : Option X → Type 0) (xs : List (Option X)) → P None
    → ((n : ℕ) (x : X) → slot xs n ≡ Some x → P (Some x)) → AllByRecursion P xs
all_slots P [] none h = tt
all_slots P (None ∷ xs) none h = (none, all_slots P xs none (λ n x e. h (suc n) x e))
all_slots P (Some x ∷ xs) none h = (h zero x refl, all_slots P xs none (λ n y e. h (suc n) y e))

pub slot_of_all : {X : Type 0} (P : Option X → Type 0) (xs : List (Option X)) (n : ℕ) (x : X) → AllByRecursion P xs
    → slot xs n ≡ Some x → P (Some x)
slot_of_all P [] n x a e = absurd (none_some e)
slot_of_all P (z ∷ xs) zero x a e = subst P e a.0
slot_of_all P (z ∷ xs) (suc n) x a e = slot_of_all P xs n x a.1 e

-- each of lists that are joined, and of what a list gives
pub all_flat_map : {X Y : Type 0} (P : Y → Type 0) (f : X → List Y) (xs : List X)
    → AllByRecursion (λ x. AllByRecursion P (f x)) xs → AllByRecursion P (flat_map f xs)
all_flat_map P f [] a = tt
all_flat_map P f (x ∷ xs) a = all_append P (f x) (flat_map f xs) a.0 (all_flat_map P f xs a.1)

pub all_of_flat_map : {X Y : Type 0} (P : Y → Type 0) (f : X → List Y) (xs : List X) → AllByRecursion P (flat_map f xs)
    → AllByRecursion (λ x. AllByRecursion P (f x)) xs
all_of_flat_map P f [] a = tt
all_of_flat_map P f (x ∷ xs) a = (
  all_left P (f x) (flat_map f xs) a,
  all_of_flat_map P f xs (all_right P (f x) (flat_map f xs) a),
)

pub all_map : {X Y : Type 0} (P : Y → Type 0) (f : X → Y) (xs : List X) → AllByRecursion (λ x. P (f x)) xs
    → AllByRecursion P (map f xs)
all_map P f [] a = tt
all_map P f (x ∷ xs) a = (a.0, all_map P f xs a.1)

pub all_of_map : {X Y : Type 0} (P : Y → Type 0) (f : X → Y) (xs : List X) → AllByRecursion P (map f xs)
    → AllByRecursion (λ x. P (f x)) xs
all_of_map P f [] a = tt
all_of_map P f (x ∷ xs) a = (a.0, all_of_map P f xs a.1)

-- of an item that a channel may have
abbrev pub OfItem : {Y : Type 0} → (Y → Type 0) → Option Y → Type 0
OfItem P None = Unit {0}
OfItem P (Some y) = P y

all_cons : {Y : Type 0} (P : Y → Type 0) (o : Option Y) (ys : List Y) → OfItem P o → AllByRecursion P ys
    → AllByRecursion P (cons_option o ys)
all_cons P None ys h a = a
all_cons P (Some y) ys h a = (h, a)

all_of_cons : {Y : Type 0} (P : Y → Type 0) (o : Option Y) (ys : List Y) → AllByRecursion P (cons_option o ys)
    → OfItem P o × AllByRecursion P ys
all_of_cons P None ys a = (tt, a)
all_of_cons P (Some y) ys a = (a.0, a.1)

pub all_filter_map : {X Y : Type 0} (P : Y → Type 0) (f : X → Option Y) (xs : List X)
    → AllByRecursion (λ x. OfItem P (f x)) xs → AllByRecursion P (filter_map f xs)
all_filter_map P f [] a = tt
all_filter_map P f (x ∷ xs) a = all_cons P (f x) (filter_map f xs) a.0 (all_filter_map P f xs a.1)

pub all_of_filter_map : {X Y : Type 0} (P : Y → Type 0) (f : X → Option Y) (xs : List X)
    → AllByRecursion P (filter_map f xs) → AllByRecursion (λ x. OfItem P (f x)) xs
all_of_filter_map P f [] a = tt
all_of_filter_map P f (x ∷ xs) a = let b = all_of_cons P (f x) (filter_map f xs) a in
    (b.0, all_of_filter_map P f xs b.1)
