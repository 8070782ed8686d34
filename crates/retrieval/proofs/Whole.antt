-- A version that was written is valid, and a prime block has one reading.
use Rattle.std.proofs.Common.{◌≡◌, ◌⊎◌, ⊎_elim, inl, inr, ℕ, zero, suc, ◌+◌, ◌^◌, ◌<◌, List, [], ◌∷◌, sym, ◌∙◌, subst}
use Rattle.std.proofs.Common.{arith}
use Rattle.std.specs.List.{AllByRecursion}
use Rattle.std.proofs.lemmas.Bool.{cases_eq}
use Rattle.words36.specs.Common.{IsPpn}
use Rattle.blockdisk.specs.Common.{Contents}
use Rattle.spec_image.specs.Common.{times, InSpace, SpecPrime, first_extension, prime_block, IsRetrieved}
use Rattle.spec_image.proofs.Common.{some_same, times-append, prime_ext_same, retrieved_same}
use Rattle.changeset.specs.Common.{times_tail}
use Rattle.retrieval.specs.Common.{with_length, VersionState, IsVersionAt, IsReadAs, IsStandingVersion}
use Rattle.retrieval.specs.declared.prime.Prime.{Prime as PrimeValue}

-- what all have, each that is in the list has
each_of : (P : ℕ → Type 0) (ns : List ℕ) → AllByRecursion P ns → (n : ℕ) → 0 < times n ns → P n
each_of P [] all n there = absurd (omega arith)
each_of P (m ∷ ns) all n there = ⊎_elim (λ is. subst P (sym is) all.0)
    (λ other. each_of P ns all.1 n (let e = times_tail n m ns other in omega arith)) (cases_eq n m)

one_of : (a b : ℕ) → 0 < a + b → (0 < a) ⊎ (0 < b)
one_of zero b some = inr (omega arith)
one_of (suc a) b some = inl (omega arith)

pub whole_version : (size : ℕ) (c : Contents) (layout : ℕ) (p : SpecPrime) (at : ℕ) (ribs blocks : List ℕ)
    → IsRetrieved layout c p at ribs blocks → ((n : ℕ) → 0 < times n (at ∷ ribs) → InSpace size n)
    → AllByRecursion (InSpace size) blocks
    → IsPpn p.place.ppn → p.place.name.ext < 2 ^ 18 → IsStandingVersion size c layout at p ribs blocks
whole_version size c layout p at ribs blocks is own inside ppn ext = record {
  retrieved = is;
  inside = λ n there. ⊎_elim (own n) (each_of (InSpace size) blocks inside n)
      (one_of (times n (at ∷ ribs)) (times n blocks) (let e = times-append n (at ∷ ribs) blocks in omega arith));
  ppn_fits = ppn;
  ext_fits = ext;
}

-- Whatever is at the prime block is what was read there.
pub read_as : (size : ℕ) (c : Contents) (layout at : ℕ) (prime : PrimeValue) (v : VersionState) (p : SpecPrime)
    (ribs blocks : List ℕ) → IsVersionAt size c layout at prime v → IsRetrieved layout c p at ribs blocks
    → p.place.name.ext < 2 ^ 18 → IsReadAs p ribs blocks prime v
read_as size c layout at prime v p ribs blocks read is ext =
    let words : prime_block (with_length prime v.words) read.retrieved.runs (first_extension read.retrieved.further)
    ≡ prime_block p is.runs (first_extension is.further) = some_same (sym read.retrieved.prime_is ∙ is.prime_is) in
    let exts = prime_ext_same layout (with_length prime v.words) p read.retrieved.runs is.runs
    (first_extension read.retrieved.further) (first_extension is.further) read.retrieved.fits is.fits read.ext_fits
    ext words in
    let same = retrieved_same layout c (with_length prime v.words) p at v.ribs ribs v.blocks blocks read.retrieved is
    exts in
    record { prime_is = same.0; ribs_are = same.1; blocks_are = same.2 }
