-- An entry of the master directory in the place of the one with its key: what depends on the keys alone stays.
use Rattle.std.proofs.Common.{◌≡◌, ℕ, zero, suc, cond, Bool, true, false, List, [], ◌∷◌, length, take, slice_get}
use Rattle.std.proofs.Common.{slice_set, Option, Some, None, refl, sym, ap, ◌∙◌, arith}
use Rattle.std.specs.Cmp.{nat_cmp_total}
use Rattle.std.specs.List.{AllZip}
use Rattle.std.specs.Ordering.{nat_cmp, eq_by_cmp}
use Rattle.std.specs.FinMap.{nat_cmp-IsAntisymmetric}
use Rattle.std.specs.FinMap.Entries.{find}
use Rattle.words36.specs.declared.names.FileName.{FileName}
use Rattle.spec_image.specs.Common.{SpecMasterEntry, name_cmp, EachOnce, insert, from_entries}
use Rattle.spec_image.proofs.Common.{some_same, some_none, at_itself, tied, get-insert, same_map, get-from_entries}
use Rattle.directory.specs.Common.{StandsAt, inserted}
use Rattle.volume.specs.Common.{CurrentDirectory, prime_in, growths}
use Rattle.volume.specs.declared.pending.PendingVersion.{PendingVersion}
use Rattle.volume.proofs.common.Growths.{share}
use Rattle.volume.proofs.common.Holes.{other_key}

-- Lists of entries with the same keys.

abbrev pub SameKeys : List SpecMasterEntry → List SpecMasterEntry → Type 0
SameKeys xs ys = AllZip (λ x y. x.0 ≡ y.0) xs ys

keys_itself : (xs : List SpecMasterEntry) → SameKeys xs xs
keys_itself [] = tt
keys_itself (x ∷ xs) = (refl, keys_itself xs)

pub keys_back : (xs ys : List SpecMasterEntry) → SameKeys xs ys → SameKeys ys xs
keys_back [] [] same = tt
keys_back [] (y ∷ ys) same = absurd same
keys_back (x ∷ xs) [] same = absurd same
keys_back (x ∷ xs) (y ∷ ys) same = (sym same.0, keys_back xs ys same.1)

pub keys_length : (xs ys : List SpecMasterEntry) → SameKeys xs ys → length ys ≡ length xs
keys_length [] [] same = refl
keys_length [] (y ∷ ys) same = absurd same
keys_length (x ∷ xs) [] same = absurd same
keys_length (x ∷ xs) (y ∷ ys) same = ap suc (keys_length xs ys same.1)

pub keys_absent : (xs ys : List SpecMasterEntry) → SameKeys xs ys → (q : ℕ) → find nat_cmp q xs ≡ None
    → find nat_cmp q ys ≡ None
keys_absent [] [] same q none = refl
keys_absent [] (y ∷ ys) same q none = absurd same
keys_absent (x ∷ xs) [] same q none = absurd same
keys_absent (x ∷ xs) (y ∷ ys) same q none =
    let first = other_key (eq_by_cmp nat_cmp q x.0) x.1 (find nat_cmp q xs) none in
    ap (λ b. cond b (Some y.1) (find nat_cmp q ys)) (ap (eq_by_cmp nat_cmp q) (sym same.0) ∙ first.0)
    ∙ keys_absent xs ys same.1 q first.1

pub keys_once : (xs ys : List SpecMasterEntry) → SameKeys xs ys → EachOnce nat_cmp xs → EachOnce nat_cmp ys
keys_once [] [] same once = tt
keys_once [] (y ∷ ys) same once = absurd same
keys_once (x ∷ xs) [] same once = absurd same
keys_once (x ∷ xs) (y ∷ ys) same once = (
  ap (λ (q : ℕ). find nat_cmp q ys) (sym same.0) ∙ keys_absent xs ys same.1 x.0 once.0,
  keys_once xs ys same.1 once.1,
)

-- a key at a place of one list is at the same place of the other, too
pub keys_stand : (xs ys : List SpecMasterEntry) (k i : ℕ) (v : ℕ × ℕ) → SameKeys xs ys → StandsAt nat_cmp xs k v i
    → (w : ℕ × ℕ) × StandsAt nat_cmp ys k w i
keys_stand [] ys k i v same at = absurd (some_none (sym at.is))
keys_stand (x ∷ xs) [] k i v same at = absurd same
keys_stand (x ∷ xs) (y ∷ ys) k zero v same at =
    let key : y.0 ≡ k = sym same.0 ∙ ap (λ (e : SpecMasterEntry). e.0) (some_same at.is) in (
      y.1,
      record {
        within = omega arith;
        is = λ j. Some (key j, y.1);
        found = ap (λ b. cond b (Some y.1) (find nat_cmp k ys)) (ap (eq_by_cmp nat_cmp k) key
            ∙ at_itself nat_cmp_total k);
        before = refl;
      },
    )
keys_stand (x ∷ xs) (y ∷ ys) k (suc i) v same at =
    let first = other_key (eq_by_cmp nat_cmp k x.0) x.1 (find nat_cmp k (take i xs)) at.before in
    let fails : eq_by_cmp nat_cmp k y.0 ≡ false = ap (eq_by_cmp nat_cmp k) (sym same.0) ∙ first.0 in
    let rest = keys_stand xs ys k i v same.1 (record {
      within = let below = at.within in omega arith;
      is = at.is;
      found = sym (ap (λ b. cond b (Some x.1) (find nat_cmp k xs)) first.0) ∙ at.found;
      before = first.1;
    }) in (
      rest.0,
      record {
        within = let below = rest.1.within in omega arith;
        is = rest.1.is;
        found = ap (λ b. cond b (Some y.1) (find nat_cmp k ys)) fails ∙ rest.1.found;
        before = ap (λ b. cond b (Some y.1) (find nat_cmp k (take i ys))) fails ∙ rest.1.before;
      },
    )

-- each name has the prime block that it had
pub keys_prime : (xs ys : List SpecMasterEntry) → SameKeys xs ys
    → (ds : List CurrentDirectory) (q : ℕ) (name : FileName)
    → prime_in ys ds q name ≡ prime_in xs ds q name
keys_prime [] [] same ds q name = refl
keys_prime [] (y ∷ ys) same ds q name = absurd same
keys_prime (x ∷ xs) [] same ds q name = absurd same
keys_prime (x ∷ xs) (y ∷ ys) same [] q name = refl
keys_prime (x ∷ xs) (y ∷ ys) same (d ∷ ds) q name =
    ap (λ (k : ℕ). cond (eq_by_cmp nat_cmp q k) (find name_cmp name d.chain.entries) (prime_in ys ds q name))
    (sym same.0)
    ∙ ap (cond (eq_by_cmp nat_cmp q x.0) (find name_cmp name d.chain.entries)) (keys_prime xs ys same.1 ds q name)

-- and each directory costs as much more with what is being created in it
pub keys_growths : (pending : List (Option PendingVersion)) (xs ys : List SpecMasterEntry) → SameKeys xs ys
    → (ds : List CurrentDirectory) → growths pending ys ds ≡ growths pending xs ds
keys_growths pending [] [] same ds = refl
keys_growths pending [] (y ∷ ys) same ds = absurd same
keys_growths pending (x ∷ xs) [] same ds = absurd same
keys_growths pending (x ∷ xs) (y ∷ ys) same [] = refl
keys_growths pending (x ∷ xs) (y ∷ ys) same (d ∷ ds) =
    let here : share pending y.0 d ≡ share pending x.0 d = ap (λ (k : ℕ). share pending k d) (sym same.0) in
    let rest = keys_growths pending xs ys same.1 ds in
    omega arith

-- One entry in the place of another.

pub keys_set : (xs : List SpecMasterEntry) (i k : ℕ) (v w : ℕ × ℕ) → slice_get xs i ≡ Some (k, v)
    → SameKeys xs (slice_set xs i (k, w))
keys_set [] i k v w is = absurd (some_none (sym is))
keys_set (x ∷ xs) zero k v w is = (ap (λ (e : SpecMasterEntry). e.0) (some_same is), keys_itself xs)
keys_set (x ∷ xs) (suc i) k v w is = (refl, keys_set xs i k v w is)

inserted_set : (xs : List SpecMasterEntry) (i k : ℕ) (v w : ℕ × ℕ) → slice_get xs i ≡ Some (k, v)
    → find nat_cmp k (take i xs) ≡ None → inserted nat_cmp xs (k, w) ≡ slice_set xs i (k, w)
inserted_set [] i k v w is none = absurd (some_none (sym is))
inserted_set (x ∷ xs) zero k v w is none =
    ap (λ b. cond b ((k, w) ∷ xs) (x ∷ inserted nat_cmp xs (k, w)))
    (ap (λ (e : SpecMasterEntry). eq_by_cmp nat_cmp k e.0) (some_same is) ∙ at_itself nat_cmp_total k)
inserted_set (x ∷ xs) (suc i) k v w is none =
    let first = other_key (eq_by_cmp nat_cmp k x.0) x.1 (find nat_cmp k (take i xs)) none in
    ap (λ b. cond b ((k, w) ∷ xs) (x ∷ inserted nat_cmp xs (k, w))) first.0
    ∙ ap (λ ys. x ∷ ys) (inserted_set xs i k v w is first.1)

pub inserted_place : (xs : List SpecMasterEntry) (i k : ℕ) (v w : ℕ × ℕ) → StandsAt nat_cmp xs k v i
    → inserted nat_cmp xs (k, w) ≡ slice_set xs i (k, w)
inserted_place xs i k v w at = inserted_set xs i k v w at.is at.before

-- its key is found with it, and each other key as before
find_inserted : (xs : List SpecMasterEntry) (k q : ℕ) (w : ℕ × ℕ) → find nat_cmp q (inserted nat_cmp xs (k, w))
    ≡ cond (eq_by_cmp nat_cmp q k) (Some w) (find nat_cmp q xs)
find_inserted [] k q w = refl
find_inserted (x ∷ xs) k q w = by (eq_by_cmp nat_cmp k x.0) refl (find_inserted xs k q w)
  where
    -- the entry of this key comes first
    here : (b : Bool) → eq_by_cmp nat_cmp q k ≡ b → k ≡ x.0
        → cond b (Some w) (find nat_cmp q xs)
        ≡ cond b (Some w) (cond (eq_by_cmp nat_cmp q x.0) (Some x.1) (find nat_cmp q xs))
    here true t same = refl
    here false t same =
        sym (ap (λ b. cond b (Some x.1) (find nat_cmp q xs)) (ap (eq_by_cmp nat_cmp q) (sym same) ∙ t))

    -- another one does
    later : (a b : Bool) → eq_by_cmp nat_cmp q x.0 ≡ a → eq_by_cmp nat_cmp q k ≡ b → eq_by_cmp nat_cmp k x.0 ≡ false
        → cond a (Some x.1) (cond b (Some w) (find nat_cmp q xs))
        ≡ cond b (Some w) (cond a (Some x.1) (find nat_cmp q xs))
    later true true first second differ =
        let is_first = tied nat_cmp_total nat_cmp-IsAntisymmetric q x.0 first in
        let is_key = tied nat_cmp_total nat_cmp-IsAntisymmetric q k second in
        let same : eq_by_cmp nat_cmp k x.0 ≡ true = ap (λ (n : ℕ). eq_by_cmp nat_cmp n x.0) (sym is_key) ∙ first in
        cc
    later true false first second differ = refl
    later false true first second differ = refl
    later false false first second differ = refl

    by : (b : Bool) → eq_by_cmp nat_cmp k x.0 ≡ b
        → find nat_cmp q (inserted nat_cmp xs (k, w)) ≡ cond (eq_by_cmp nat_cmp q k) (Some w) (find nat_cmp q xs)
        → find nat_cmp q (cond b ((k, w) ∷ xs) (x ∷ inserted nat_cmp xs (k, w)))
        ≡ cond (eq_by_cmp nat_cmp q k) (Some w) (cond (eq_by_cmp nat_cmp q x.0) (Some x.1) (find nat_cmp q xs))
    by true t rest =
        here (eq_by_cmp nat_cmp q k) refl (tied nat_cmp_total nat_cmp-IsAntisymmetric k x.0 t)
    by false t rest = ap (cond (eq_by_cmp nat_cmp q x.0) (Some x.1)) rest
        ∙ later (eq_by_cmp nat_cmp q x.0) (eq_by_cmp nat_cmp q k) refl refl t

pub names_inserted : (xs : List SpecMasterEntry) (k : ℕ) (w : ℕ × ℕ)
    → from_entries {R = nat_cmp} (inserted nat_cmp xs (k, w)) ≡ insert (from_entries xs) k w
names_inserted xs k w = same_map nat_cmp_total nat_cmp-IsAntisymmetric
    (from_entries (inserted nat_cmp xs (k, w))) (insert (from_entries xs) k w)
    (λ q. get-from_entries nat_cmp_total (inserted nat_cmp xs (k, w)) q ∙ find_inserted xs k q w
    ∙ sym (get-insert nat_cmp_total (from_entries xs) k w q
    ∙ ap (cond (eq_by_cmp nat_cmp q k) (Some w)) (get-from_entries nat_cmp_total xs q)))
