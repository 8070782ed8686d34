-- A version that was read at a prime block shows that no other place's prime block is there.
use Rattle.std.proofs.Common.{◌≡◌, ◌⊎◌, inl, inr, ℕ, ◌*◌, ◌/◌, ◌<◌, ◌^◌, ◌+◌, ◌&&◌, Bool, true, false, cond, not, eqb}
use Rattle.std.proofs.Common.{eq-eqb, sym, ap, ◌∙◌, arith}
use Rattle.words36.specs.declared.names.FileName.{FileName}
use Rattle.blockdisk.specs.Common.{Contents}
use Rattle.spec_image.specs.Common.{date_limit, prime_block, first_extension, place_of}
use Rattle.spec_image.proofs.Common.{some_same}
use Rattle.retrieval.specs.Common.{with_length, IsVersionAt, VersionState}
use Rattle.retrieval.specs.declared.prime.Prime.{Prime as PrimeValue}
use Rattle.volume.specs.Common.{IsOtherPlace}

-- numbers, or names, that were found to differ
pub differ : (a b : ℕ) → true ≡ not (eqb a b) → a ≡ b → ⊥
differ a b unequal same = let equal = eq-eqb a b same in cc

pub names_differ : (a b : FileName) → true ≡ not (eqb a.name b.name && eqb a.ext b.ext) → a ≡ b → ⊥
names_differ a b unequal same =
    let names = eq-eqb a.name b.name (ap (λ x. x.name) same) in
    let exts = eq-eqb a.ext b.ext (ap (λ x. x.ext) same) in cc

late_bits : (layout d : ℕ) → d < date_limit layout → d / 4096 < 8
late_bits layout d h = bound (eqb layout 1) h
  where
    bound : (b : Bool) → d < cond b 4096 32768 → d / 4096 < 8
    bound true h = omega arith
    bound false h = omega arith

pub other_place : (size layout : ℕ) (contents : Contents) (prime : ℕ) (facts : PrimeValue) (v : VersionState)
    (ppn : ℕ) (name : FileName) → IsVersionAt size contents layout prime facts v
    → (facts.ppn ≡ ppn → ⊥) ⊎ (facts.file ≡ name → ⊥) → IsOtherPlace layout contents (place_of ppn name) prime
other_place size layout contents prime facts v ppn name read other p runs next is place fits few are =
    let own = read.retrieved in
    let q = with_length facts v.words in
    let words : prime_block q own.runs (first_extension own.further) ≡ prime_block p runs next =
    some_same (sym own.prime_is ∙ is) in
    let names : facts.file.name ≡ p.place.name.name = cc in
    let ppns : facts.ppn ≡ p.place.ppn = cc in
    let highs : facts.file.ext * 2 ^ 18 + q.date / 4096 * 2 ^ 15
    ≡ p.place.name.ext * 2 ^ 18 + p.date / 4096 * 2 ^ 15 = cc in
    let late = late_bits layout q.date own.fits.date in
    let late' = late_bits layout p.date fits.date in
    let exts : facts.file.ext ≡ p.place.name.ext = omega arith in
    elim other [
      | inl not ↦ not (ppns ∙ ap (λ x. x.ppn) place)
      | inr not ↦ not ((λ j. record { name = names j; ext = exts j }) ∙ ap (λ x. x.name) place)
    ]
