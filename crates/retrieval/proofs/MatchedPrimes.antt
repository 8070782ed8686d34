-- A prime block compared with its version in memory.
use Rattle.std.proofs.Common.{◌≡◌, ℕ, ◌+◌, ◌*◌, ◌/◌, ◌%◌, ◌^◌, ◌<◌, ◌≤◌, List, sym, ◌∙◌, subst, arith}
use Rattle.words36.specs.Common.{IsPpn}
use Rattle.spec_image.specs.Common.{head_or_zero, SpecRun, IsMode, prime_block, date_limit}
use Rattle.spec_image.specs.Retrieval.{attributes}
use Rattle.retrieval.specs.Common.{mode_number, IsPrimeOf, with_length, IsRewritten, SpellsPrime, VersionState}
use Rattle.retrieval.specs.declared.prime.Prime.{Prime as PrimeValue}

-- and one date,
one_date : (a b c d a' b' c' d' x y : ℕ) → x ≤ 32767 → y ≤ 32767
    → d * 2 ^ 18 + x / 4096 * 2 ^ 15 ≡ d' * 2 ^ 18 + y / 4096 * 2 ^ 15
    → a * 2 ^ 27 + b * 2 ^ 23 + c * 2 ^ 12 + x % 4096 ≡ a' * 2 ^ 27 + b' * 2 ^ 23 + c' * 2 ^ 12 + y % 4096
    → (d ≡ d') × (x ≡ y)
one_date a b c d a' b' c' d' x y few few' highs lows =
    let exts : d ≡ d' = omega arith in
    let high : x / 4096 ≡ y / 4096 = omega arith in
    let low : x % 4096 ≡ y % 4096 = omega arith in (exts, omega arith)

-- and if it says what another prime does, that one fits.
pub says_same : (layout : ℕ) (words : List ℕ) (p q : PrimeValue) (n : ℕ) (runs : List SpecRun) (next : ℕ)
    → IsMode (mode_number q.mode) → SpellsPrime layout words (with_length p n) runs next
    → words ≡ prime_block (with_length q n) runs next → SpellsPrime layout words (with_length q n) runs next
says_same layout words p q n runs next mode a is =
    let same : prime_block (with_length p n) runs next ≡ prime_block (with_length q n) runs next = sym a.words_are
    ∙ is in
    let ppns : p.ppn ≡ q.ppn = cc in
    let highs : p.file.ext * 2 ^ 18 + p.moment.date / 4096 * 2 ^ 15
    ≡ q.file.ext * 2 ^ 18 + q.moment.date / 4096 * 2 ^ 15 = cc in
    let lows : attributes (with_length p n) ≡ attributes (with_length q n) = cc in
    let same_date = one_date p.protection (mode_number p.mode) p.moment.minute p.file.ext
    q.protection (mode_number q.mode) q.moment.minute q.file.ext p.moment.date q.moment.date
    p.moment.date_in_range q.moment.date_in_range highs lows in
    record {
      words_are = is;
      ppn_fits = subst IsPpn ppns a.ppn_fits;
      ext_fits = subst (λ (m : ℕ). m < 2 ^ 18) same_date.0 a.ext_fits;
      fits = record {
        protection = q.protection_fits;
        mode = mode;
        time = q.moment.minute_in_range;
        date = subst (λ (m : ℕ). m < date_limit layout) same_date.1 a.fits.date;
        few = a.fits.few;
      };
      few = a.few;
      are_runs = a.are_runs;
    }

-- So it is the prime block of a version if writing it anew for the prime changes nothing,
pub is_prime : (layout : ℕ) (words anew : List ℕ) (p q : PrimeValue) (n : ℕ) (runs : List SpecRun) (next : ℕ)
    (v : VersionState) → IsMode (mode_number q.mode) → SpellsPrime layout words (with_length p n) runs next
    → IsRewritten words anew q
    → anew ≡ words → n ≡ v.words → next ≡ head_or_zero v.ribs → IsPrimeOf layout words q v
is_prime layout words anew p q n runs next v mode a rewritten same long first =
    let b = says_same layout words p q n runs next mode a
    (sym same ∙ rewritten (with_length p n) runs next a.words_are) in
    record {
      runs = runs;
      spells = subst (λ (m : ℕ). SpellsPrime layout words (with_length q m) runs (head_or_zero v.ribs)) long
          (subst (SpellsPrime layout words (with_length q n) runs) first b);
    }

-- and only then.
pub prime_anew : (layout : ℕ) (words anew : List ℕ) (q : PrimeValue) (v : VersionState)
    → IsPrimeOf layout words q v → IsRewritten words anew q → anew ≡ words
prime_anew layout words anew q v is rewritten =
    rewritten (with_length q v.words) is.runs (head_or_zero v.ribs) is.spells.words_are ∙ sym is.spells.words_are
