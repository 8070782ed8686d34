-- What holds of the entries of a list, each key once.
use Rattle.std.proofs.Common.{◌≡◌, ℕ, suc, ◌+◌, ◌<◌, List, [], ◌∷◌, ◌++◌, map, length, get_or, take, drop, Some, refl}
use Rattle.std.proofs.Common.{Bool, true, false, cond, sym, ap, subst, ◌∙◌, Ordering, arith, append_assoc}
use Rattle.std.proofs.lemmas.List.{take_more, take-append-drop, map-append}
use Rattle.std.specs.Cmp.{IsTotalOrder}
use Rattle.std.specs.Ordering.{eq_by_cmp}
use Rattle.std.specs.FinMap.{IsAntisymmetric}
use Rattle.std.specs.FinMap.Entries.{find}
use Rattle.std.specs.List.{AllByRecursion, AllZip}
use Rattle.spec_image.specs.Common.{EachOnce, total}
use Rattle.spec_image.proofs.Common.{some_same, some_none, tied, each_entry, all_left, all_right}
use Rattle.directory.specs.Common.{StandsAt}

module _ {A B : Type 0} where
  pub all_of_map : (P : B → Type 0) (f : A → B) (xs : List A) → AllByRecursion P (map f xs)
      → AllByRecursion (λ x. P (f x)) xs
  all_of_map P f [] all = tt
  all_of_map P f (x ∷ xs) all = (all.0, all_of_map P f xs all.1)

  pub all_to_map : (P : B → Type 0) (f : A → B) (xs : List A) → AllByRecursion (λ x. P (f x)) xs
      → AllByRecursion P (map f xs)
  all_to_map P f [] all = tt
  all_to_map P f (x ∷ xs) all = (all.0, all_to_map P f xs all.1)

  pub zip_behind : (P : A → B → Type 0) (xs : List A) (ys : List B) (x : A) (y : B) → AllZip P xs ys → P x y
      → AllZip P (xs ++ x ∷ []) (ys ++ y ∷ [])
  zip_behind P [] [] x y zip is = (is, tt)
  zip_behind P [] (b ∷ ys) x y zip is = absurd zip
  zip_behind P (a ∷ xs) [] x y zip is = absurd zip
  zip_behind P (a ∷ xs) (b ∷ ys) x y zip is = (zip.0, zip_behind P xs ys x y zip.1 is)

module _ {A : Type 0} where
  pub all_both : (P Q R : A → Type 0) (xs : List A) → ((x : A) → P x → Q x → R x) → AllByRecursion P xs
      → AllByRecursion Q xs → AllByRecursion R xs
  all_both P Q R [] join p q = tt
  all_both P Q R (x ∷ xs) join p q = (join x p.0 q.0, all_both P Q R xs join p.1 q.1)

  pub all_each : (P Q : A → Type 0) (xs : List A) → ((x : A) → P x → Q x) → AllByRecursion P xs → AllByRecursion Q xs
  all_each P Q [] on p = tt
  all_each P Q (x ∷ xs) on p = (on x p.0, all_each P Q xs on p.1)

  pub all_push : (P : A → Type 0) (xs : List A) (x : A) → AllByRecursion P xs → P x → AllByRecursion P (xs ++ x ∷ [])
  all_push P [] x all is = (is, tt)
  all_push P (y ∷ xs) x all is = (all.0, all_push P xs x all.1 is)

  pub total-append : (f : A → ℕ) (xs ys : List A) → total f (xs ++ ys) ≡ total f xs + total f ys
  total-append f [] ys = omega arith
  total-append f (x ∷ xs) ys = let e = total-append f xs ys in omega arith

  pub total-push : (f : A → ℕ) (xs : List A) (x : A) → total f (xs ++ x ∷ []) ≡ total f xs + f x
  total-push f xs x = let e = total-append f xs (x ∷ []) in omega arith

  pub total-map : {B : Type 0} (f : B → ℕ) (g : A → B) (xs : List A) → total f (map g xs) ≡ total (λ x. f (g x)) xs
  total-map f g [] = refl
  total-map f g (x ∷ xs) = ap (λ n. f (g x) + n) (total-map f g xs)

-- the entries of the beginning of a list are what is found at their keys in the whole
pub found_in_front : {K V : Type 0} {R : K → K → Ordering} (o : IsTotalOrder R) (all front rest : List (K × V))
    → all ≡ front ++ rest → EachOnce R all → AllByRecursion (λ e. find R e.0 all ≡ Some e.1) front
found_in_front {R = R} o all front rest is once =
    all_left (λ e. find R e.0 all ≡ Some e.1) front rest (subst (AllByRecursion (λ e. find R e.0 all ≡ Some e.1)) is
    (each_entry o (λ k y. find R k all ≡ Some y) all once (λ k y e. e)))

-- a key that is found is at some place
pub first_place : {K V : Type 0} {R : K → K → Ordering} (o : IsTotalOrder R) (exact : IsAntisymmetric R)
    (es : List (K × V)) (k : K) (v : V) → find R k es ≡ Some v → (i : ℕ) × StandsAt R es k v i
first_place o exact [] k v is = absurd (some_none (sym is))
first_place {R = R} o exact (e ∷ es) k v is = by (eq_by_cmp R k e.0) refl is (first_place o exact es k v)
  where
    by : (b : Bool) → eq_by_cmp R k e.0 ≡ b → cond b (Some e.1) (find R k es) ≡ Some v
        → (find R k es ≡ Some v → (i : ℕ) × StandsAt R es k v i) → (i : ℕ) × StandsAt R (e ∷ es) k v i
    by true t found rest = (
      0,
      record {
        within = omega arith;
        is = let same = sym (tied o exact k e.0 t) in let value = some_same found in λ i. Some (same i, value i);
        found = ap (λ b. cond b (Some e.1) (find R k es)) t ∙ found;
        before = refl;
      },
    )
    by false t found rest =
        let r = rest found in (
          suc r.0,
          record {
            within = let w = r.1.within in omega arith;
            is = r.1.is;
            found = ap (λ b. cond b (Some e.1) (find R k es)) t ∙ found;
            before = ap (λ b. cond b (Some e.1) (find R k (take r.0 es))) t ∙ r.1.before;
          },
        )

-- the elements that a loop has gone over, and the one that it is at
module _ {A B : Type 0} (view : A → B) (xs : List A) (i : ℕ) (x : A) (below : i < length xs) (is : x
    ≡ get_or xs i x) where
  pub viewed_more : map view (take (i + 1) xs) ≡ map view (take i xs) ++ view x ∷ []
  viewed_more = ap (map view) (take_more xs i x below ∙ ap (λ (y : A). take i xs ++ y ∷ []) (sym is))
      ∙ map-append view (take i xs) (x ∷ [])

  pub viewed_split : map view xs ≡ map view (take i xs) ++ view x ∷ map view (drop (i + 1) xs)
  viewed_split =
      ap (map view) (sym (take-append-drop (i + 1) xs)) ∙ map-append view (take (i + 1) xs) (drop (i + 1) xs)
      ∙ ap (λ (l : List B). l ++ map view (drop (i + 1) xs)) viewed_more
      ∙ append_assoc (map view (take i xs)) (view x ∷ []) (map view (drop (i + 1) xs))

  pub viewed_at : (P : B → Type 0) → AllByRecursion P (map view xs) → P (view x)
  viewed_at P all = (all_right P (map view (take i xs)) (view x ∷ map view (drop (i + 1) xs))
      (subst (AllByRecursion P) viewed_split all)).0
