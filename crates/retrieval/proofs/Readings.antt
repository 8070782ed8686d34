-- A version as it is read, block by block: what was read so far, and what a stop there says of the disk.
use Rattle.std.proofs.Common.{◌≡◌, ℕ, zero, suc, ◌-◌, ◌<◌, ◌≤◌, List, [], ◌∷◌, ◌++◌, length, flat_map, Some, None}
use Rattle.std.proofs.Common.{refl, sym, ◌∙◌, ap, subst, arith, append_assoc, append-nil, length-append}
use Rattle.std.specs.List.{AllByRecursion}
use Rattle.std.proofs.lemmas.Bool.Decides.{nat_tests}
use Rattle.std.proofs.lemmas.List.{map-append}
use Rattle.blockdisk.specs.Common.{Contents}
use Rattle.spec_image.specs.Common.{times, blocks_of, SpecPrime, SpecRun, IsRun, run_blocks, Extension, all_runs}
use Rattle.spec_image.specs.Common.{extension_numbers, first_extension, extension_block, prime_block, AreExtensions}
use Rattle.spec_image.specs.Common.{LeadsOn, IsPrimeRead, InSpace, RunsInSpace, IsBadVersion}
use Rattle.spec_image.proofs.Common.{no_bad_version, some_same, some_none, flat-append, all_runs-append, all_append}
use Rattle.retrieval.specs.Common.{with_length, SpellsPrime, SpellsExtension, VersionState, IsBadPrime}
use Rattle.retrieval.specs.Common.{IsBadExtension, Overfills, IsStarted, Extends, Follows, IsReadTo, IsVersionAt}
use Rattle.retrieval.specs.Common.{IsStandingVersion}
use Rattle.retrieval.specs.declared.prime.Prime.{Prime as PrimeValue}
use Rattle.alloctab.proofs.SpaceLaws.{in_space_some}

-- Walks.

follows_more : (size : ℕ) (c : Contents) (first : ℕ) (es : List Extension) (n : ℕ) (words : List ℕ)
    (runs : List SpecRun)
    (next : ℕ) → Follows size c first es n → InSpace size n → c n ≡ Some words
    → SpellsExtension words runs next → RunsInSpace size runs → (0 < next → length runs ≡ 126)
    → Follows size c first (es ++ (n, runs) ∷ []) next
follows_more size c first [] n words runs next walk here is s inside full = (
  sym walk,
  subst (InSpace size) (sym walk) here,
  s.some,
  s.few,
  s.are_runs,
  inside,
  next,
  ap c walk ∙ is ∙ ap Some s.words_are,
  full,
  refl,
)
follows_more size c first (e ∷ es) n words runs next walk here is s inside full = (
  walk.0,
  walk.1,
  walk.2,
  walk.3,
  walk.4,
  walk.5,
  walk.6,
  walk.7,
  walk.8,
  follows_more size c walk.6 es n words runs next walk.9 here is s inside full,
)

leads : (size : ℕ) (c : Contents) (first : ℕ) (es : List Extension) (last : ℕ) → Follows size c first es last
    → LeadsOn c first es last
leads size c first [] last walk = walk
leads size c first (e ∷ es) last walk = (
  walk.0,
  in_space_some size first walk.1,
  walk.4,
  walk.6,
  walk.7,
  leads size c walk.6 es last walk.9,
)

leads_more : (c : Contents) (first : ℕ) (es : List Extension) (n : ℕ) (runs : List SpecRun) (next : ℕ)
    → LeadsOn c first es n → 0 < n → AllByRecursion IsRun runs → c n ≡ Some (extension_block runs next)
    → LeadsOn c first (es ++ (n, runs) ∷ []) next
leads_more c first [] n runs next walk some are is = (
  sym walk,
  let e = walk in omega arith,
  are,
  next,
  ap c walk ∙ is,
  refl,
)
leads_more c first (e ∷ es) n runs next walk some are is = (
  walk.0,
  walk.1,
  walk.2,
  walk.3,
  walk.4,
  leads_more c walk.3 es n runs next walk.5 some are is,
)

-- a walk to the end
module _ (size : ℕ) (c : Contents) where
  first_is : (first : ℕ) (es : List Extension) → Follows size c first es 0 → first_extension es ≡ first
  first_is first [] walk = sym walk
  first_is first (e ∷ es) walk = walk.0

  some_first : (first : ℕ) (es : List Extension) → Follows size c first es 0 → 0 < length es → 0 < first
  some_first first [] walk some = absurd (omega arith)
  some_first first (e ∷ es) walk some = in_space_some size first walk.1

  are_extensions : (first : ℕ) (es : List Extension) → Follows size c first es 0 → AreExtensions c es
  are_extensions first [] walk = tt
  are_extensions first (e ∷ es) walk = (
    ap c walk.0 ∙ walk.7 ∙ ap (λ (n : ℕ). Some (extension_block e.1 n)) (sym (first_is walk.6 es walk.9)),
    walk.2,
    walk.3,
    λ some. walk.8 (some_first walk.6 es walk.9 some),
    walk.4,
    are_extensions walk.6 es walk.9,
  )

  ribs_in : (first : ℕ) (es : List Extension) → Follows size c first es 0
      → AllByRecursion (InSpace size) (extension_numbers es)
  ribs_in first [] walk = tt
  ribs_in first (e ∷ es) walk = (subst (InSpace size) (sym walk.0) walk.1, ribs_in walk.6 es walk.9)

  blocks_in : (first : ℕ) (es : List Extension) → Follows size c first es 0 → RunsInSpace size (all_runs es)
  blocks_in first [] walk = tt
  blocks_in first (e ∷ es) walk =
      subst (AllByRecursion (InSpace size)) (sym (flat-append run_blocks e.1 (all_runs es)))
      (all_append (InSpace size) (flat_map run_blocks e.1) (flat_map run_blocks (all_runs es)) walk.5
      (blocks_in walk.6 es walk.9))

zero_behind : (n : ℕ) (ns : List ℕ) → times 0 (suc n ∷ ns) ≡ times 0 ns
zero_behind n ns = grind (arith, nat_tests)

pub none_zero : (size : ℕ) (ns : List ℕ) → AllByRecursion (InSpace size) ns → times 0 ns ≡ 0
none_zero size [] all = refl
none_zero size (zero ∷ ns) all = absurd (let f = in_space_some size zero all.0 in omega arith)
none_zero size (suc n ∷ ns) all = zero_behind n ns ∙ none_zero size ns all.1

-- What was read so far.

read_of : (c : Contents) (layout at : ℕ) (words : List ℕ) (p : SpecPrime) (runs : List SpecRun) (next : ℕ)
    → c at ≡ Some words
    → SpellsPrime layout words p runs next → IsPrimeRead c layout at p runs next
read_of c layout at words p runs next is s = record {
  words = is ∙ ap Some s.words_are;
  ppn_fits = s.ppn_fits;
  ext_fits = s.ext_fits;
  fits = s.fits;
  are_runs = s.are_runs;
}

pub read_started : (size : ℕ) (c : Contents) (layout at : ℕ) (words : List ℕ) (prime : PrimeValue) (v : VersionState)
    (next : ℕ) → c at ≡ Some words → IsStarted size layout words prime v next → IsReadTo size c layout at prime v next
read_started size c layout at words prime v next is s = record {
  runs = s.runs;
  first = next;
  extensions = [];
  read = read_of c layout at words (with_length prime v.words) s.runs next is s.spells;
  few = s.spells.few;
  inside = s.inside;
  full = s.full;
  walk = refl;
  next_inside = s.next_inside;
  blocks_are = s.blocks_are ∙ ap (flat_map run_blocks) (sym (append-nil s.runs));
  ribs_are = s.ribs_are;
}

blocks_more : (runs : List SpecRun) (es : List Extension) (n : ℕ) (more : List SpecRun)
    → flat_map run_blocks (runs ++ all_runs (es ++ (n, more) ∷ [])) ≡ flat_map run_blocks (runs ++ all_runs es)
    ++ flat_map run_blocks more
blocks_more runs es n more =
    ap (λ (l : List SpecRun). flat_map run_blocks (runs ++ l)) (all_runs-append es ((n, more) ∷ [])
    ∙ ap (λ (l : List SpecRun). all_runs es ++ l) (append-nil more))
    ∙ ap (flat_map run_blocks) (sym (append_assoc runs (all_runs es) more))
    ∙ flat-append run_blocks (runs ++ all_runs es) more

module _ (size : ℕ) (c : Contents) (layout at : ℕ) (prime : PrimeValue) (v : VersionState) (n : ℕ)
    (r : IsReadTo size c layout at prime v n) where
  pub read_more : (words : List ℕ) (next : ℕ) (new : VersionState) → 0 < n → c n ≡ Some words
      → Extends size words n next v new → IsReadTo size c layout at prime new next
  read_more words next new some is x = subst (λ (w : VersionState). IsReadTo size c layout at prime w next)
      (sym x.version_is)
      (record {
        runs = r.runs;
        first = r.first;
        extensions = r.extensions ++ (n, x.runs) ∷ [];
        read = r.read;
        few = r.few;
        inside = r.inside;
        full = r.full;
        walk = follows_more size c r.first r.extensions n words x.runs next r.walk
            (r.next_inside some) is x.spells x.inside x.full;
        next_inside = x.next_inside;
        blocks_are = ap (λ (l : List ℕ). l ++ flat_map run_blocks x.runs) r.blocks_are
            ∙ sym (blocks_more r.runs r.extensions n x.runs);
        ribs_are = ap (λ (l : List ℕ). l ++ n ∷ []) r.ribs_are
            ∙ sym (map-append (λ (e : Extension). e.0) r.extensions ((n, x.runs) ∷ []));
      })

  walked : LeadsOn c r.first r.extensions n
  walked = leads size c r.first r.extensions n r.walk

  walked_on : (words : List ℕ) (runs : List SpecRun) (next : ℕ) → 0 < n → c n ≡ Some words
      → SpellsExtension words runs next
      → LeadsOn c r.first (r.extensions ++ (n, runs) ∷ []) next
  walked_on words runs next some is s = leads_more c r.first r.extensions n runs next walked some s.are_runs (is
      ∙ ap Some s.words_are)

  -- an extension that is damaged
  pub damaged_extension : 0 < n → c n ≡ None → IsBadVersion size c layout at n
  damaged_extension some none = IsBadVersion.malformed_extension (with_length prime v.words) r.runs r.first
      r.extensions n r.read walked (r.next_inside some) (λ others after is some' few are. some_none (sym is ∙ none))

  -- or is invalid
  pub bad_extension : (words : List ℕ) → 0 < n → c n ≡ Some words → IsBadExtension size words
      → IsBadVersion size c layout at n
  bad_extension words some is (IsBadExtension.malformed wrong) =
      IsBadVersion.malformed_extension (with_length prime v.words) r.runs r.first r.extensions n r.read walked
      (r.next_inside some)
      (λ others after has some' few are. wrong others after
      (record { words_are = some_same (sym is ∙ has); some = some'; few = few; are_runs = are }))
  bad_extension words some is (IsBadExtension.run_outside runs next s outside) =
      IsBadVersion.extension_run_outside (with_length prime v.words) r.runs r.first r.extensions n runs next r.read
      (walked_on words runs next some is s) outside
  bad_extension words some is (IsBadExtension.next_outside runs next s more outside) =
      IsBadVersion.extension_next_outside (with_length prime v.words) r.runs r.first r.extensions n runs next r.read
      (walked_on words runs next some is s) more outside
  bad_extension words some is (IsBadExtension.short runs next s more less) =
      IsBadVersion.extension_short (with_length prime v.words) r.runs r.first r.extensions n runs next r.read
      (walked_on words runs next some is s) more less

  -- or has more blocks than the length requires
  pub bad_overfilled : (words : List ℕ) → 0 < n → c n ≡ Some words → Overfills words v
      → IsBadVersion size c layout at at
  bad_overfilled words some is o =
      IsBadVersion.too_many (with_length prime v.words) r.runs r.first o.next (r.extensions ++ (n, o.runs) ∷ []) r.read
      (walked_on words o.runs o.next some is o.spells)
      (let e = ap length (blocks_more r.runs r.extensions n o.runs) in
      let f = length-append (flat_map run_blocks (r.runs ++ all_runs r.extensions)) (flat_map run_blocks o.runs) in
      let g = ap length r.blocks_are in
      let more = o.more in
      omega arith)

module _ (size : ℕ) (c : Contents) (layout at : ℕ) (prime : PrimeValue) (v : VersionState)
    (r : IsReadTo size c layout at prime v 0) where
  -- read to the end
  pub read_whole : length v.blocks ≡ blocks_of v.words → IsVersionAt size c layout at prime v
  read_whole enough = record {
    retrieved = record {
      runs = r.runs;
      further = r.extensions;
      fits = r.read.fits;
      prime_is = r.read.words ∙ ap (λ (n : ℕ). Some (prime_block (with_length prime v.words) r.runs n))
          (sym (first_is size c r.first r.extensions r.walk));
      few = r.few;
      full = λ some. r.full (some_first size c r.first r.extensions r.walk some);
      extended = are_extensions size c r.first r.extensions r.walk;
      extensions_are = sym r.ribs_are;
      nonzero = none_zero size v.ribs ribs;
      are_runs = r.read.are_runs;
      blocks_are = sym r.blocks_are;
      enough = enough;
    };
    ribs_inside = ribs;
    blocks_inside = subst (AllByRecursion (InSpace size))
        (sym (r.blocks_are ∙ flat-append run_blocks r.runs (all_runs r.extensions)))
        (all_append (InSpace size) (flat_map run_blocks r.runs) (flat_map run_blocks (all_runs r.extensions)) r.inside
        (blocks_in size c r.first r.extensions r.walk));
    ppn_fits = r.read.ppn_fits;
    ext_fits = r.read.ext_fits;
  }
    where
      ribs : AllByRecursion (InSpace size) v.ribs
      ribs = subst (AllByRecursion (InSpace size)) (sym r.ribs_are) (ribs_in size c r.first r.extensions r.walk)

  -- with too few blocks
  pub bad_count : (length v.blocks ≡ blocks_of v.words → ⊥) → IsBadVersion size c layout at at
  bad_count wrong = IsBadVersion.miscounted (with_length prime v.words) r.runs r.first r.extensions r.read
      (leads size c r.first r.extensions 0 r.walk) (λ same. wrong (ap length r.blocks_are ∙ same))

-- The prime block is damaged.
pub damaged_prime : (size : ℕ) (c : Contents) (layout at : ℕ) → c at ≡ None → IsBadVersion size c layout at at
damaged_prime size c layout at none =
    IsBadVersion.malformed_prime (λ p runs next read few. some_none (sym read.words ∙ none))

-- Or it is invalid.
pub bad_prime : (size : ℕ) (c : Contents) (layout at : ℕ) (words : List ℕ) → c at ≡ Some words
    → IsBadPrime size layout words → IsBadVersion size c layout at at
bad_prime size c layout at words is (IsBadPrime.malformed wrong) = IsBadVersion.malformed_prime
    (λ p runs next read few. wrong p runs next
    (record {
      words_are = some_same (sym is ∙ read.words);
      ppn_fits = read.ppn_fits;
      ext_fits = read.ext_fits;
      fits = read.fits;
      few = few;
      are_runs = read.are_runs;
    }))
bad_prime size c layout at words is (IsBadPrime.run_outside p runs next s outside) =
    IsBadVersion.prime_run_outside p runs next
    (read_of c layout at words p runs next is s) outside
bad_prime size c layout at words is (IsBadPrime.next_outside p runs next s some outside) =
    IsBadVersion.prime_next_outside
    p runs next (read_of c layout at words p runs next is s) some outside
bad_prime size c layout at words is (IsBadPrime.short p runs next s some less) = IsBadVersion.prime_short p runs next
    (read_of c layout at words p runs next is s) some less
bad_prime size c layout at words is (IsBadPrime.too_many p runs next s more) = IsBadVersion.too_many p runs next next []
    (read_of c layout at words p runs next is s) refl
    (let e = ap (λ (l : List SpecRun). length (flat_map run_blocks l)) (append-nil runs) in omega arith)

-- An extension adds at least one block.
pub blocks_grow : (runs : List SpecRun) → 0 < length runs → AllByRecursion IsRun runs
    → 0 < length (flat_map run_blocks runs)
blocks_grow [] some are = absurd (omega arith)
blocks_grow ((zero, first) ∷ runs) some are = absurd (let e = are.0.0 in omega arith)
blocks_grow ((suc count, first) ∷ runs) some are = omega arith

pub extended_longer : (size : ℕ) (words : List ℕ) (n next : ℕ) (old new : VersionState)
    → Extends size words n next old new → length old.blocks < length new.blocks
extended_longer size words n next old new x =
    let e = ap (λ (v : VersionState). length v.blocks) x.version_is in
    let f = length-append old.blocks (flat_map run_blocks x.runs) in
    let g = blocks_grow x.runs x.spells.some x.spells.are_runs in
    omega arith

pub falls : (a a' b b' : ℕ) → a' ≡ a → b < b' → b' ≤ a' → a' - b' < a - b
falls a a' b b' same less few = omega arith

-- on a disk of this size
pub bad_of : (size size' : ℕ) (c : Contents) (layout at k n : ℕ) → size ≡ size' → k ≡ n
    → IsBadVersion size c layout at n → IsBadVersion size' c layout at k
bad_of size size' c layout at k n same is bad = subst (λ (s : ℕ). IsBadVersion s c layout at k) same
    (subst (λ (m : ℕ). IsBadVersion size c layout at m) (sym is) bad)

pub extended_blocks : (size : ℕ) (words : List ℕ) (n next : ℕ) (old new : VersionState)
    → Extends size words n next old new → AllByRecursion (InSpace size) old.blocks
    → AllByRecursion (InSpace size) new.blocks
extended_blocks size words n next old new x all =
    subst (λ (v : VersionState). AllByRecursion (InSpace size) v.blocks) (sym x.version_is)
    (all_append (InSpace size) old.blocks (flat_map run_blocks x.runs) all x.inside)

pub extended_ribs : (size : ℕ) (words : List ℕ) (n next : ℕ) (old new : VersionState)
    → Extends size words n next old new → InSpace size n → AllByRecursion (InSpace size) old.ribs
    → AllByRecursion (InSpace size) new.ribs
extended_ribs size words n next old new x here all =
    subst (λ (v : VersionState). AllByRecursion (InSpace size) v.ribs) (sym x.version_is)
    (all_append (InSpace size) old.ribs (n ∷ []) all (here, tt))

-- what is wrong with none of the blocks of a valid version
pub none_wrong : (size : ℕ) (c : Contents) (layout at : ℕ) (p : SpecPrime) (ribs blocks : List ℕ)
    → IsStandingVersion size c layout at p ribs blocks → (k : ℕ) → IsBadVersion size c layout at k → ⊥
none_wrong size c layout at p ribs blocks w k bad = no_bad_version layout size c p at ribs blocks w.retrieved w.inside
    w.ppn_fits w.ext_fits k bad
