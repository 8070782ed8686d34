-- More of lists without the element at one place: where the others are now, and what holds for them.
use Rattle.std.proofs.Common.{◌≡◌, ℕ, zero, suc, ◌+◌, ◌<◌, ◌⊎◌, inl, inr, cond, Bool, true, false, List, [], ◌∷◌}
use Rattle.std.proofs.Common.{◌++◌, length, take, slice_get, Option, Some, None, refl, sym, ap, subst, ◌∙◌, arith}
use Rattle.std.proofs.Common.{length-append, Ordering}
use Rattle.std.proofs.lemmas.Option.{slice_get_within}
use Rattle.std.specs.Cmp.{IsTotalOrder}
use Rattle.std.specs.List.{AllByRecursion, AllZip}
use Rattle.std.specs.Ordering.{eq_by_cmp}
use Rattle.std.specs.FinMap.Entries.{find}
use Rattle.spec_image.specs.Common.{SpecMasterEntry}
use Rattle.spec_image.proofs.Common.{HasLast, has_last, some_same, some_none, at_itself, all_left, all_right}
use Rattle.directory.specs.Common.{StandsAt, removed, last_first}
use Rattle.volume.specs.declared.pending.PendingVersion.{PendingVersion}
use Rattle.volume.specs.Common.{CurrentDirectory, growths}
use Rattle.volume.proofs.VolumeStart.FoundDirectories.{zip_at}
use Rattle.volume.proofs.common.Growths.{share}
use Rattle.volume.proofs.MakeDir.MadeDirectories.{growths_push}
use Rattle.volume.proofs.MakeDir.Law.{pushed_at}
use Rattle.volume.proofs.DeleteFile.Entries.{zip_places, zip_length}
use Rattle.volume.proofs.common.HoleLists.{hole, hole_length, hole_at, IsFrom, one_from, moved_is}

-- The place now of an element that was at place k: there, or in the hole, if it was the last one.

abbrev pub IsAt : ℕ → ℕ → ℕ → ℕ → Type 0
IsAt n i k j = ((k + 1 ≡ n) × (j ≡ i)) ⊎ ((k + 1 ≡ n → ⊥) × (j ≡ k))

pub one_at : (n i k j l : ℕ) → IsAt n i k j → IsAt n i k l → j ≡ l
one_at n i k j l (inl a) (inl b) = a.1 ∙ sym b.1
one_at n i k j l (inl a) (inr b) = absurd (b.0 a.0)
one_at n i k j l (inr a) (inl b) = absurd (a.0 b.0)
one_at n i k j l (inr a) (inr b) = a.1 ∙ sym b.1

abbrev Moved : {X : Type 0} → List X → ℕ → X → Type 0
Moved xs k y = ((k + 1 ≡ length xs) × (slice_get (last_first xs) 0 ≡ Some y))
    ⊎ ((k + 1 ≡ length xs → ⊥) × (slice_get (last_first xs) (suc k) ≡ Some y))

moved_stands : {X : Type 0} (xs : List X) (k : ℕ) (y : X) → slice_get xs k ≡ Some y → Moved xs k y
moved_stands [] k y is = absurd (some_none (sym is))
moved_stands (x ∷ xs) k y is = by (has_last x xs) (moved_is x xs)
  where
    by : (e : HasLast (x ∷ xs)) → last_first (x ∷ xs) ≡ e.last ∷ e.front → Moved (x ∷ xs) k y
    by e moved =
        let many = ap (λ zs. length zs) e.is ∙ length-append e.front (e.last ∷ []) in
        split (pushed_at e.front e.last y k (ap (λ zs. slice_get zs k) (sym e.is) ∙ is)) many
      where
        split : (slice_get e.front k ≡ Some y) ⊎ ((k ≡ length e.front) × (y ≡ e.last))
            → length (x ∷ xs) ≡ length e.front + 1 → Moved (x ∷ xs) k y
        split (inl at) many = inr (
          λ last. let within = slice_get_within e.front k y at in absurd (omega arith),
          ap (λ zs. slice_get zs (suc k)) moved ∙ at,
        )
        split (inr a) many = inl (let end = a.0 in omega arith, ap (λ zs. slice_get zs 0) moved ∙ ap Some (sym a.1))

pub hole_stands : {X : Type 0} (xs : List X) (i k : ℕ) (y : X) → slice_get xs k ≡ Some y → (k ≡ i → ⊥)
    → i < length xs → (j : ℕ) × IsAt (length xs) i k j × (slice_get (hole i xs) j ≡ Some y)
hole_stands [] i k y is other below = absurd (some_none (sym is))
hole_stands (x ∷ xs) zero zero y is other below = absurd (other refl)
hole_stands (x ∷ xs) zero (suc k) y is other below = by (moved_stands xs k y is)
  where
    by : Moved xs k y → (j : ℕ) × IsAt (suc (length xs)) 0 (suc k) j × (slice_get (last_first xs) j ≡ Some y)
    by (inl a) = (0, inl (let last = a.0 in omega arith, refl), a.1)
    by (inr a) = (suc k, inr (λ last. a.0 (omega arith), refl), a.1)
hole_stands (x ∷ xs) (suc i) zero y is other below = (0, inr (λ last. absurd (omega arith), refl), is)
hole_stands (x ∷ xs) (suc i) (suc k) y is other below =
    let r = hole_stands xs i k y is (λ same. other (ap suc same)) (omega arith) in (suc r.0, by r.0 r.1, r.2)
  where
    by : (j : ℕ) → IsAt (length xs) i k j → IsAt (suc (length xs)) (suc i) (suc k) (suc j)
    by j (inl a) = inl (let last = a.0 in omega arith, ap suc a.1)
    by j (inr a) = inr (λ last. a.0 (omega arith), ap suc a.1)

-- What holds of the elements of a list, or of two lists place by place.

moved_all : {X : Type 0} (P : X → Type 0) (xs : List X) → AllByRecursion P xs → AllByRecursion P (last_first xs)
moved_all P [] all = tt
moved_all P (x ∷ xs) all =
    let e = has_last x xs in
    let both : AllByRecursion P (e.front ++ e.last ∷ []) = subst (AllByRecursion P) e.is all in
    subst (AllByRecursion P) (sym (moved_is x xs))
    ((all_right P e.front (e.last ∷ []) both).0, all_left P e.front (e.last ∷ []) both)

pub hole_all : {X : Type 0} (P : X → Type 0) (xs : List X) (i : ℕ) → AllByRecursion P xs → AllByRecursion P (hole i xs)
hole_all P [] i all = tt
hole_all P (x ∷ xs) zero all = moved_all P xs all.1
hole_all P (x ∷ xs) (suc i) all = (all.0, hole_all P xs i all.1)

pub hole_zip : {A B : Type 0} (P : A → B → Type 0) (xs : List A) (ys : List B) (i : ℕ) → AllZip P xs ys
    → i < length xs → AllZip P (hole i xs) (hole i ys)
hole_zip P xs ys i zip below =
    let many = zip_length P xs ys zip in
    zip_places P (hole i xs) (hole i ys)
    (let a = hole_length xs i below in let b = hole_length ys i (omega arith) in omega arith)
    (λ j x y here there.
    let p = hole_at xs i j x here in
    let q = hole_at ys i j y there in
    let from : IsFrom (length ys) i j p.0 = subst (λ (n : ℕ). IsFrom n i j p.0) many p.1 in
    let same : p.0 ≡ q.0 = one_from (length ys) i j p.0 q.0 from q.1 in
    let pair = zip_at P xs ys q.0 y zip q.2 in
    subst (λ z. P z y) (some_same (sym pair.1 ∙ ap (slice_get xs) (sym same) ∙ p.2)) pair.2)

-- What directories cost more with the entries that are being created in them.

moved_growths : (pending : List (Option PendingVersion)) (es : List SpecMasterEntry) (ds : List CurrentDirectory)
    → length ds ≡ length es → growths pending (last_first es) (last_first ds) ≡ growths pending es ds
moved_growths pending [] [] same = refl
moved_growths pending [] (d ∷ ds) same = absurd (omega arith)
moved_growths pending (e ∷ es) [] same = absurd (omega arith)
moved_growths pending (e ∷ es) (d ∷ ds) same =
    let l = has_last e es in
    let k = has_last d ds in
    let many = ap (λ zs. length zs) l.is ∙ length-append l.front (l.last ∷ []) in
    let many' = ap (λ zs. length zs) k.is ∙ length-append k.front (k.last ∷ []) in
    let aligned : length k.front ≡ length l.front = omega arith in
    let now : growths pending (last_first (e ∷ es)) (last_first (d ∷ ds))
    ≡ growths pending (l.last ∷ l.front) (k.last ∷ k.front) = λ j.
    growths pending (moved_is e es j) (moved_is d ds j) in
    let was : growths pending (e ∷ es) (d ∷ ds)
    ≡ growths pending (l.front ++ l.last ∷ []) (k.front ++ k.last ∷ []) = λ j. growths pending (l.is j) (k.is j) in
    let push = growths_push pending l.front k.front l.last k.last aligned in
    omega arith

pub hole_growths : (pending : List (Option PendingVersion)) (es : List SpecMasterEntry) (ds : List CurrentDirectory)
    (i : ℕ)
    (e : SpecMasterEntry) (d : CurrentDirectory) → length ds ≡ length es → slice_get es i ≡ Some e
    → slice_get ds i ≡ Some d
    → growths pending (hole i es) (hole i ds) + share pending e.0 d ≡ growths pending es ds
hole_growths pending [] ds i e d same here there = absurd (some_none (sym here))
hole_growths pending (x ∷ es) [] i e d same here there = absurd (some_none (sym there))
hole_growths pending (x ∷ es) (y ∷ ds) zero e d same here there =
    let is : share pending x.0 y ≡ share pending e.0 d = λ k.
    share pending (some_same here k).0 (some_same there k) in
    let rest = moved_growths pending es ds (omega arith) in
    omega arith
hole_growths pending (x ∷ es) (y ∷ ds) (suc i) e d same here there =
    let rest = hole_growths pending es ds i e d (omega arith) here there in
    omega arith

-- What removes an entry makes a hole at its place.

pub other_key : {V : Type 0} (b : Bool) (w : V) (x : Option V) → cond b (Some w) x ≡ None → (b ≡ false) × (x ≡ None)
other_key true w x none = absurd (some_none none)
other_key false w x none = (refl, none)

module _ {K V : Type 0} {R : K → K → Ordering} (o : IsTotalOrder R) where
  entry_out : (es : List (K × V)) (i : ℕ) (k : K) (w : V) → slice_get es i ≡ Some (k, w)
      → find R k (take i es) ≡ None → removed R es k ≡ hole i es
  entry_out [] i k w is none = refl
  entry_out (x ∷ es) zero k w is none =
      let same : x ≡ (k, w) = some_same is in
      ap (λ b. cond b (last_first es) (x ∷ removed R es k))
      (ap (λ (y : K × V). eq_by_cmp R k y.0) same ∙ at_itself o k)
  entry_out (x ∷ es) (suc i) k w is none =
      let first = other_key (eq_by_cmp R k x.0) x.1 (find R k (take i es)) none in
      ap (λ b. cond b (last_first es) (x ∷ removed R es k)) first.0
      ∙ ap (λ ys. x ∷ ys) (entry_out es i k w is first.1)

  pub entry_hole : (es : List (K × V)) (i : ℕ) (k : K) (w : V) → StandsAt R es k w i → removed R es k ≡ hole i es
  entry_hole es i k w at = entry_out es i k w at.is at.before
