-- Blocks none of which is damaged hold a body.
use Rattle.std.proofs.Common.{◌≡◌, ℕ, ◌*◌, ◌<◌, List, [], ◌∷◌, length, take, flat_map, Some, None, refl, sym, ap}
use Rattle.std.proofs.Common.{subst, ◌∙◌, arith, length-append, length-take}
use Rattle.std.specs.List.{AllByRecursion, AllZip}
use Rattle.std.proofs.lemmas.List.{take_all}
use Rattle.blockdisk.specs.Common.{Contents, IsWholeBlock}
use Rattle.spec_image.specs.Common.{blocks_of, times, HasBody, words_from}
use Rattle.spec_image.proofs.Common.{each_times}

-- the words of each block
record WordsOf (contents : Contents) (blocks : List ℕ) : Type 0 where
  each : List (List ℕ)
  undamaged : AllZip (λ n words. contents n ≡ Some words) blocks each
  whole : AllByRecursion (λ words. length words ≡ 128) each
  long : length (flat_map (λ words. words) each) ≡ 128 * length blocks

words_of : (contents : Contents) (blocks : List ℕ) → AllByRecursion (IsWholeBlock contents) blocks
    → WordsOf contents blocks
words_of contents [] all = record { each = []; undamaged = tt; whole = tt; long = refl }
words_of contents (n ∷ ns) all =
    let rest = words_of contents ns all.1 in
    let here = all.0 in
    record {
      each = here.words ∷ rest.each;
      undamaged = (here.holds, rest.undamaged);
      whole = (here.all, rest.whole);
      long = let sum = length-append here.words (flat_map (λ words. words) rest.each) in
          let a = here.all in let b = rest.long in omega arith;
    }

-- What is read of a body in such blocks is a body.
pub read_whole : (contents : Contents) (blocks items : List ℕ) (words : ℕ)
    → AllByRecursion (IsWholeBlock contents) blocks → length blocks ≡ blocks_of words
    → ((body : List ℕ) → length body ≡ words → HasBody contents blocks body → items ≡ take words (words_from body 1))
    → HasBody contents blocks items × (length items ≡ words)
read_whole contents blocks items words all counted reads =
    let of = words_of contents blocks all in
    let flat = flat_map (λ (ws : List ℕ). ws) of.each in
    let body : List ℕ = take words flat in
    let long : length body ≡ words = let cut = length-take words flat in let flat_long = of.long in omega arith in
    let has : HasBody contents blocks body = record {
      each = of.each;
      undamaged = of.undamaged;
      whole = of.whole;
      body_is = ap (λ (k : ℕ). take k flat) (sym long);
    } in
    let same : items ≡ body = reads body long has ∙ take_all words body (omega arith) in (
      subst (HasBody contents blocks) (sym same) has,
      ap length same ∙ long,
    )

-- None of them is damaged.
pub never_damaged : (contents : Contents) (blocks : List ℕ) (n : ℕ) → AllByRecursion (IsWholeBlock contents) blocks
    → 0 < times n blocks → contents n ≡ None → ⊥
never_damaged contents blocks n all among damaged =
    let whole = each_times (IsWholeBlock contents) blocks n all among in
    let holds = whole.holds in
    cc
