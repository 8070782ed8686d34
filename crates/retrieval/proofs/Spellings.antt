-- What the first words and the pointers of a block say together.
use Rattle.std.proofs.Common.{◌≡◌, ℕ, ◌+◌, ◌-◌, ◌/◌, ◌%◌, ◌^◌, ◌<◌, ◌≤◌, Option, None, List, [], ◌∷◌, ◌++◌, map}
use Rattle.std.proofs.Common.{length, get_or, take, drop, replicate, refl, sym, ◌∙◌, ap, subst, arith, length-append}
use Rattle.std.proofs.Common.{length-drop}
use Rattle.std.specs.Prelude.{IfNone}
use Rattle.std.specs.List.{AllByRecursion}
use Rattle.std.proofs.lemmas.List.{take-append-drop, take_all, length-map, length-take-le, length-replicate}
use Rattle.std.proofs.Math.Seq.{take-append_seam, drop-append_seam}
use Rattle.words36.specs.Common.{join}
use Rattle.spec_image.specs.Common.{SpecPrime, SpecRun, IsRun, pointer, extension_word, extension_half}
use Rattle.spec_image.specs.Retrieval.{attributes}
use Rattle.retrieval.specs.Common.{run_of, runs_of, ArePointers, IsPrimeHead, IsExtensionHead, SpellsPrime}
use Rattle.retrieval.specs.Common.{SpellsExtension}

pointer_back : (word : ℕ) → pointer (run_of word) ≡ word
pointer_back word = omega arith

run_back : (count first : ℕ) → first < 2 ^ 18 → (join count first / 2 ^ 18 ≡ count)
    × (join count first % 2 ^ 18 ≡ first)
run_back count first fits = (omega arith, omega arith)

pub pointers_back : (words : List ℕ) → map pointer (runs_of words) ≡ words
pointers_back [] = refl
pointers_back (word ∷ words) = λ i. pointer_back word i ∷ pointers_back words i

pub runs_back : (runs : List SpecRun) → AllByRecursion IsRun runs → runs_of (map pointer runs) ≡ runs
runs_back [] all = refl
runs_back (run ∷ runs) all = let e = run_back run.0 run.1 all.0.2 in λ i. (e.0 i, e.1 i) ∷ runs_back runs all.1 i

length-runs_of : (words : List ℕ) → length (runs_of words) ≡ length words
length-runs_of words = length-map words run_of

module _ (words : List ℕ) (count : ℕ) (few : count ≤ length words) where
  pub count_is : length (runs_of (take count words)) ≡ count
  count_is = length-runs_of (take count words) ∙ length-take-le count words few

  -- pointers and zeros, put together again
  pub tail_spelled : ArePointers words count → words ≡ map pointer (runs_of (take count words))
      ++ replicate (length words - length (runs_of (take count words))) 0
  tail_spelled are =
      sym (take-append-drop count words)
      ∙ (λ i. sym (pointers_back (take count words)) i ++ are.zeros i)
      ∙ ap (λ (n : ℕ). map pointer (runs_of (take count words)) ++ replicate (length words - n) 0) (sym count_is)

-- the same, taken apart
pub pointers_in : (runs : List SpecRun) (n : ℕ) → AllByRecursion IsRun runs
    → ArePointers (map pointer runs ++ replicate n 0) (length runs)
pointers_in runs n all =
    let long : length (map pointer runs) ≡ length runs = length-map runs pointer in
    let front : take (length runs) (map pointer runs ++ replicate n 0)
    ≡ map pointer runs = ap (λ (k : ℕ). take k (map pointer runs ++ replicate n 0)) (sym long)
    ∙ take-append_seam (map pointer runs) (replicate n 0) in
    let back : drop (length runs) (map pointer runs ++ replicate n 0)
    ≡ replicate n 0 = ap (λ (k : ℕ). drop k (map pointer runs ++ replicate n 0)) (sym long)
    ∙ drop-append_seam (map pointer runs) (replicate n 0) in
    let whole : length (map pointer runs ++ replicate n 0) ≡ length runs
    + n = length-append (map pointer runs) (replicate n 0) ∙ (λ i. long i + length-replicate {A = ℕ} n 0 i) in
    let rest : n ≡ length (map pointer runs ++ replicate n 0) - length runs = omega arith in
    record {
      runs = subst (λ (l : List SpecRun). AllByRecursion IsRun l) (sym (ap runs_of front ∙ runs_back runs all)) all;
      zeros = back ∙ ap (λ (k : ℕ). replicate k 0) rest;
    }

-- The first eight words, the eight after them and the rest.
front_of_prime : (words : List ℕ) → 16 ≤ length words
    → words ≡ get_or words 0 0 ∷ get_or words 1 0 ∷ get_or words 2 0 ∷ get_or words 3 0 ∷ get_or words 4 0
    ∷ get_or words 5 0 ∷ get_or words 6 0 ∷ get_or words 7 0 ∷ (take 8 (drop 8 words) ++ drop 16 words)
front_of_prime (a ∷ b ∷ c ∷ d ∷ e ∷ f ∷ g ∷ h ∷ rest) long = ap (λ (l : List ℕ). a ∷ b ∷ c ∷ d ∷ e ∷ f ∷ g ∷ h ∷ l)
    (sym (take-append-drop 8 rest))
front_of_prime _ long = absurd (omega arith)

front_of_extension : (words : List ℕ) → 2 ≤ length words → words ≡ get_or words 0 0 ∷ get_or words 1 0 ∷ drop 2 words
front_of_extension (a ∷ b ∷ rest) long = refl
front_of_extension _ long = absurd (omega arith)

pub prime_spelled : (layout : ℕ) (words : List ℕ) (p : SpecPrime) (count next : ℕ) → length words ≡ 128
    → IsPrimeHead layout words p count next → ArePointers (drop 16 words) count
    → SpellsPrime layout words p (runs_of (take count (drop 16 words))) next
prime_spelled layout words p count next long h are =
    let behind : length (drop 16 words) ≡ 112 = length-drop 16 words ∙ omega arith in
    let room : count ≤ length (drop 16 words) = let r = h.room in omega arith in
    let runs = runs_of (take count (drop 16 words)) in
    let counted : length runs ≡ count = count_is (drop 16 words) count room in
    let tail : drop 16 words ≡ map pointer runs ++ replicate (112 - length runs) 0 =
    tail_spelled (drop 16 words) count room are
    ∙ ap (λ (n : ℕ). map pointer runs ++ replicate (n - length runs) 0) behind in
    let ext : get_or words 2 0 ≡ extension_word p = h.ext in
    let attr : get_or words 3 0 ≡ attributes p = h.attributes_are.spelled in
    let few : get_or words 6 0 ≡ length runs = h.count_is ∙ sym counted in
    record {
      words_are = front_of_prime words (omega arith)
          ∙ (λ i. h.marked i ∷ h.name i ∷ ext i ∷ attr i ∷ h.ppn i ∷ h.length_is i ∷ few i ∷ h.next_is i
          ∷ (h.zeros i ++ tail i));
      ppn_fits = h.is_ppn;
      ext_fits = h.ext_fits;
      fits = record {
        protection = h.attributes_are.protection_fits;
        mode = h.attributes_are.mode_is;
        time = h.attributes_are.time_fits;
        date = h.date;
        few = h.few;
      };
      few = let r = h.room in omega arith;
      are_runs = are.runs;
    }

low_small : (date : ℕ) → date % 2 ^ 12 < 4096
low_small date = omega arith

pub prime_parts : (layout : ℕ) (words : List ℕ) (p : SpecPrime) (runs : List SpecRun) (next : ℕ)
    → SpellsPrime layout words p runs next
    → IsPrimeHead layout words p (length runs) next × ArePointers (drop 16 words) (length runs)
prime_parts layout words p runs next s = (
  record {
    marked = ap (λ (l : List ℕ). get_or l 0 0) s.words_are;
    name = ap (λ (l : List ℕ). get_or l 1 0) s.words_are;
    ext = ap (λ (l : List ℕ). get_or l 2 0) s.words_are;
    attributes_are = record {
      spelled = ap (λ (l : List ℕ). get_or l 3 0) s.words_are;
      protection_fits = s.fits.protection;
      mode_is = s.fits.mode;
      time_fits = s.fits.time;
      low_fits = low_small p.date;
    };
    date = s.fits.date;
    ppn = ap (λ (l : List ℕ). get_or l 4 0) s.words_are;
    length_is = ap (λ (l : List ℕ). get_or l 5 0) s.words_are;
    count_is = ap (λ (l : List ℕ). get_or l 6 0) s.words_are;
    next_is = ap (λ (l : List ℕ). get_or l 7 0) s.words_are;
    zeros = ap (λ (l : List ℕ). take 8 (drop 8 l)) s.words_are;
    is_ppn = s.ppn_fits;
    ext_fits = s.ext_fits;
    few = s.fits.few;
    room = s.few;
  },
  subst (λ (l : List ℕ). ArePointers (drop 16 l) (length runs)) (sym s.words_are)
      (pointers_in runs (112 - length runs) s.are_runs),
)

pub extension_spelled : (words : List ℕ) (count next : ℕ) → length words ≡ 128 → IsExtensionHead words count next
    → ArePointers (drop 2 words) count
    → SpellsExtension words (runs_of (take count (drop 2 words))) next
extension_spelled words count next long h are =
    let behind : length (drop 2 words) ≡ 126 = length-drop 2 words ∙ omega arith in
    let room : count ≤ length (drop 2 words) = let r = h.room in omega arith in
    let runs = runs_of (take count (drop 2 words)) in
    let counted : length runs ≡ count = count_is (drop 2 words) count room in
    let tail : drop 2 words ≡ map pointer runs ++ replicate (126 - length runs) 0 =
    tail_spelled (drop 2 words) count room are
    ∙ ap (λ (n : ℕ). map pointer runs ++ replicate (n - length runs) 0) behind in
    let marked : get_or words 0 0 ≡ join extension_half (length runs) = h.marked
    ∙ ap (λ (n : ℕ). join extension_half n) (sym counted) in
    record {
      words_are = front_of_extension words (omega arith) ∙ (λ i. marked i ∷ h.next_is i ∷ tail i);
      some = let r = h.some in omega arith;
      few = let r = h.room in omega arith;
      are_runs = are.runs;
    }

pub extension_parts : (words : List ℕ) (runs : List SpecRun) (next : ℕ) → SpellsExtension words runs next
    → IsExtensionHead words (length runs) next × ArePointers (drop 2 words) (length runs)
extension_parts words runs next s = (
  record {
    marked = ap (λ (l : List ℕ). get_or l 0 0) s.words_are;
    next_is = ap (λ (l : List ℕ). get_or l 1 0) s.words_are;
    some = s.some;
    room = s.few;
  },
  subst (λ (l : List ℕ). ArePointers (drop 2 l) (length runs)) (sym s.words_are)
      (pointers_in runs (126 - length runs) s.are_runs),
)

-- there is one number of pointers
pub prime_count : (layout : ℕ) (words : List ℕ) (p q : SpecPrime) (count count' next next' : ℕ)
    → IsPrimeHead layout words p count next → IsPrimeHead layout words q count' next' → count' ≡ count
prime_count layout words p q count count' next next' h k = sym k.count_is ∙ h.count_is

pub extension_count : (words : List ℕ) (count count' next next' : ℕ) → IsExtensionHead words count next
    → IsExtensionHead words count' next' → count' ≡ count
extension_count words count count' next next' h k = let e : join extension_half count'
    ≡ join extension_half count = sym k.marked ∙ h.marked in omega arith

-- what replaces a value that a question mark passes on
pub none_when : {A : Type 0} (o : Option A) (P : Type 0) → o ≡ None → P → IfNone o P
none_when o P is p = subst (λ (x : Option _). IfNone x P) (sym is) p

-- all words from one, as a part of a slice gives them
pub words_from : (n : ℕ) (words : List ℕ) → take (length words - n) (drop n words) ≡ drop n words
words_from n words = take_all (length words - n) (drop n words) (let e = length-drop n words in omega arith)

-- there is room for the pointers after the first words
pub words_counted : (n room : ℕ) (words : List ℕ) (count : ℕ) → length words ≡ n + room → count ≤ room
    → count ≤ length (drop n words)
words_counted n room words count long few = let e = length-drop n words in omega arith
