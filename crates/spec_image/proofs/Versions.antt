-- Versions: what keeps one unchanged, and that a prime block has at most one.
use Rattle.std.proofs.Common.{◌≡◌, ℕ, ◌+◌, ◌*◌, ◌-◌, ◌/◌, ◌%◌, ◌^◌, ◌<◌, ◌≤◌, Bool, true, false, cond, eqb, List, []}
use Rattle.std.proofs.Common.{◌∷◌, ◌++◌, map, length, replicate, flat_map, take, Some, refl, sym, ap, subst, ◌∙◌}
use Rattle.std.proofs.Common.{arith}
use Rattle.std.specs.List.{AllByRecursion, AllZip}
use Rattle.blockdisk.specs.Common.{Contents}
use Rattle.spec_image.specs.Maps.{times}
use Rattle.spec_image.specs.Blocks.{AgreeOn}
use Rattle.spec_image.specs.Files.{Place}
use Rattle.spec_image.specs.Retrieval.{SpecPrime, prime_of, SpecRun, Extension, pointer, attributes, prime_block}
use Rattle.spec_image.specs.Retrieval.{extension_half, extension_block, extension_numbers, first_extension, all_runs}
use Rattle.spec_image.specs.Retrieval.{run_blocks, AreExtensions, IsRun, IsMode, date_limit, IsPrime, IsRetrieved}
use Rattle.spec_image.specs.Retrieval.{HasBody}
use Rattle.spec_image.specs.Stands.{StoredFile, blocks_of_file, IsVersion}
use Rattle.spec_image.proofs.Lists.{times_here, times_later, not_first}
use Rattle.spec_image.proofs.MapLaws.{some_same}
use Rattle.spec_image.proofs.MapSums.{times-append}

-- What keeps one unchanged.

pub extensions_kept : (old new : Contents) (es : List Extension) → AreExtensions old es
    → AgreeOn (extension_numbers es) old new → AreExtensions new es
extensions_kept old new [] s a = tt
extensions_kept old new (e ∷ es) s a = (
  a e.0 (times_here e.0 (extension_numbers es)) ∙ s.0,
  s.1,
  s.2,
  s.3,
  s.4,
  extensions_kept old new es s.5 (λ n h. a n (times_later n e.0 (extension_numbers es) h)),
)

data_kept : (old new : Contents) (ns : List ℕ) (each : List (List ℕ)) → AllZip (λ n words. old n ≡ Some words) ns each
    → AgreeOn ns old new → AllZip (λ n words. new n ≡ Some words) ns each
data_kept old new [] [] s a = tt
data_kept old new [] (w ∷ ws) s a = s
data_kept old new (n ∷ ns) [] s a = s
data_kept old new (n ∷ ns) (w ∷ ws) s a = (
  a n (times_here n ns) ∙ s.0,
  data_kept old new ns ws s.1 (λ m h. a m (times_later m n ns h)),
)

-- Other contents that agree on the retrieval blocks have the same retrieved.
pub retrieved_kept : (layout : ℕ) (old new : Contents) (p : SpecPrime) (prime : ℕ) (extensions blocks : List ℕ)
    → IsRetrieved layout old p prime extensions blocks → AgreeOn (prime ∷ extensions) old new
    → IsRetrieved layout new p prime extensions blocks
retrieved_kept layout old new p prime extensions blocks d a = record {
  runs = d.runs;
  further = d.further;
  fits = d.fits;
  prime_is = a prime (times_here prime extensions) ∙ d.prime_is;
  few = d.few;
  full = d.full;
  extended = extensions_kept old new d.further d.extended
      (λ n h. a n (times_later n prime extensions (let e = ap (times n) d.extensions_are in omega arith)));
  extensions_are = d.extensions_are;
  nonzero = d.nonzero;
  are_runs = d.are_runs;
  blocks_are = d.blocks_are;
  enough = d.enough;
}

-- Other contents that agree on the data blocks have the same body.
pub body_kept : (old new : Contents) (blocks body : List ℕ) → HasBody old blocks body → AgreeOn blocks old new
    → HasBody new blocks body
body_kept old new blocks body d a = record {
  each = d.each;
  undamaged = data_kept old new blocks d.each d.undamaged a;
  whole = d.whole;
  body_is = d.body_is;
}

pub version_kept : (layout : ℕ) (old new : Contents) (place : Place) (f : StoredFile) → IsVersion layout old place f
    → AgreeOn (blocks_of_file f) old new → IsVersion layout new place f
version_kept layout old new place f d a = record {
  retrieved = retrieved_kept layout old new (prime_of place f.file) f.prime f.extensions f.blocks d.retrieved
      (λ n h. a n (omega (arith, times-append n f.extensions f.blocks)));
  body = body_kept old new f.blocks f.file.body d.body
      (λ n h. a n (omega (arith, times-append n f.extensions f.blocks)));
}

-- At most one.

pub pointers_same : (rs ss : List SpecRun) (x y : List ℕ) → length rs ≡ length ss → AllByRecursion IsRun rs
    → AllByRecursion IsRun ss → map pointer rs ++ x ≡ map pointer ss ++ y → rs ≡ ss
pointers_same [] [] x y n f g e = refl
pointers_same [] (s ∷ ss) x y n f g e = absurd (omega arith)
pointers_same (r ∷ rs) [] x y n f g e = absurd (omega arith)
pointers_same (r ∷ rs) (s ∷ ss) x y n f g e =
    let words : r.0 * 2 ^ 18 + r.1 ≡ s.0 * 2 ^ 18 + s.1 = cc in
    let tails : map pointer rs ++ x ≡ map pointer ss ++ y = cc in
    let small : r.1 < 2 ^ 18 = f.0.2 in
    let small' : s.1 < 2 ^ 18 = g.0.2 in
    let counts : r.0 ≡ s.0 = omega arith in
    let firsts : r.1 ≡ s.1 = omega arith in
    let rest : rs ≡ ss = pointers_same rs ss x y (omega arith) f.1 g.1 tails in
    λ i. (counts i, firsts i) ∷ rest i

pub extensions_same : (contents : Contents) (c d : List Extension) → AreExtensions contents c → AreExtensions contents d
    → times 0 (extension_numbers c) ≡ 0 → times 0 (extension_numbers d) ≡ 0 → first_extension c ≡ first_extension d
    → c ≡ d
extensions_same contents [] [] s t y z e = refl
extensions_same contents [] (q ∷ d) s t y z e = absurd (not_first q.0 (extension_numbers d) e z)
extensions_same contents (p ∷ c) [] s t y z e = absurd (not_first p.0 (extension_numbers c) (sym e) y)
extensions_same contents (p ∷ c) (q ∷ d) s t y z e =
    let blocks : extension_block p.1 (first_extension c) ≡ extension_block q.1 (first_extension d) = some_same (sym s.0
    ∙ ap contents e ∙ t.0) in
    let heads : extension_half * 2 ^ 18 + length p.1 ≡ extension_half * 2 ^ 18 + length q.1 = cc in
    let next : first_extension c ≡ first_extension d = cc in
    let tails : map pointer p.1 ++ replicate (126 - length p.1) 0 ≡ map pointer q.1
    ++ replicate (126 - length q.1) 0 = cc in
    let runs : p.1 ≡ q.1 = pointers_same p.1 q.1 _ _ (omega arith) s.4 t.4 tails in
    let rest : c ≡ d = extensions_same contents c d s.5 t.5 (omega arith) (omega arith) next in
    λ i. (e i, runs i) ∷ rest i

data_same : (contents : Contents) (ns : List ℕ) (us vs : List (List ℕ))
    → AllZip (λ n words. contents n ≡ Some words) ns us → AllZip (λ n words. contents n ≡ Some words) ns vs → us ≡ vs
data_same contents [] [] [] s t = refl
data_same contents [] [] (v ∷ vs) s t = absurd t
data_same contents [] (u ∷ us) vs s t = absurd s
data_same contents (n ∷ ns) [] vs s t = absurd s
data_same contents (n ∷ ns) (u ∷ us) [] s t = absurd t
data_same contents (n ∷ ns) (u ∷ us) (v ∷ vs) s t =
    let head : u ≡ v = some_same (sym s.0 ∙ t.0) in
    let rest : us ≡ vs = data_same contents ns us vs s.1 t.1 in
    cc

-- Blocks have at most one body of a length.
pub body_same : (contents : Contents) (blocks body other : List ℕ) → HasBody contents blocks body
    → HasBody contents blocks other → length body ≡ length other → body ≡ other
body_same contents blocks body other d e lengths =
    let each : d.each ≡ e.each = data_same contents blocks d.each e.each d.undamaged e.undamaged in
    d.body_is ∙ (λ i. take (lengths i) (flat_map (λ words. words) (each i))) ∙ sym e.body_is

-- the parts of the word of attributes
parts_same : (p q m n t u d e : ℕ) → p < 512 → q < 512 → m < 16 → n < 16 → t ≤ 1439 → u ≤ 1439 → d < 4096 → e < 4096
    → p * 2 ^ 27 + m * 2 ^ 23 + t * 2 ^ 12 + d ≡ q * 2 ^ 27 + n * 2 ^ 23 + u * 2 ^ 12 + e
    → (p ≡ q) × (m ≡ n) × (t ≡ u) × (d ≡ e)
parts_same p q m n t u d e a b f g h i j k is = (omega arith, omega arith, omega arith, omega arith)

mode_small : (m : ℕ) → IsMode m → m < 16
mode_small m h = omega arith

date_bound : (layout d : ℕ) → d < date_limit layout → d < 32768
date_bound layout d h = bound (eqb layout 1) h
  where
    bound : (b : Bool) → d < cond b 4096 32768 → d < 32768
    bound true h = omega arith
    bound false h = omega arith

-- The extension of a name is determined by its prime block.
pub prime_ext_same : (layout : ℕ) (p q : SpecPrime) (runs others : List SpecRun) (next after : ℕ) → IsPrime layout p
    → IsPrime layout q → p.place.name.ext < 2 ^ 18 → q.place.name.ext < 2 ^ 18
    → prime_block p runs next ≡ prime_block q others after → p.place.name.ext ≡ q.place.name.ext
prime_ext_same layout p q runs others next after f g x y words =
    let highs : p.place.name.ext * 2 ^ 18 + p.date / 4096 * 2 ^ 15
    ≡ q.place.name.ext * 2 ^ 18 + q.date / 4096 * 2 ^ 15 = cc in
    let c = date_bound layout p.date f.date in
    let d = date_bound layout q.date g.date in
    omega arith

-- A prime block says one thing.
pub prime_same : (layout : ℕ) (p q : SpecPrime) (runs others : List SpecRun) (next after : ℕ) → IsPrime layout p
    → IsPrime layout q → p.place.name.ext ≡ q.place.name.ext
    → prime_block p runs next ≡ prime_block q others after → p ≡ q
prime_same layout p q runs others next after f g exts words =
    let attributes_same : attributes p ≡ attributes q = cc in
    let names : p.place.name.name ≡ q.place.name.name = cc in
    let ppns : p.place.ppn ≡ q.place.ppn = cc in
    let lengths : p.words ≡ q.words = cc in
    let parts = parts_same p.protection q.protection p.mode q.mode p.time q.time (p.date % 4096) (q.date % 4096)
    f.protection g.protection (mode_small p.mode f.mode) (mode_small q.mode g.mode) f.time g.time (omega arith)
    (omega arith) attributes_same in
    let highs : p.place.name.ext * 2 ^ 18 + p.date / 4096 * 2 ^ 15
    ≡ q.place.name.ext * 2 ^ 18 + q.date / 4096 * 2 ^ 15 = cc in
    let lows = parts.3 in
    let dates : p.date ≡ q.date = omega arith in
    λ i. record {
      place = record { ppn = ppns i; name = record { name = names i; ext = exts i } };
      protection = parts.0 i;
      mode = parts.1 i;
      time = parts.2 i;
      date = dates i;
      words = lengths i;
    }

-- What one prime block retrieves is one thing.
pub retrieved_same : (layout : ℕ) (contents : Contents) (p q : SpecPrime) (prime : ℕ) (xs ys bs cs : List ℕ)
    → IsRetrieved layout contents p prime xs bs → IsRetrieved layout contents q prime ys cs
    → p.place.name.ext ≡ q.place.name.ext → (p ≡ q) × (xs ≡ ys) × (bs ≡ cs)
retrieved_same layout contents p q prime xs ys bs cs d e exts =
    let words : prime_block p d.runs (first_extension d.further)
    ≡ prime_block q e.runs (first_extension e.further) = some_same (sym d.prime_is ∙ e.prime_is) in
    let counts : length d.runs ≡ length e.runs = cc in
    let nexts : first_extension d.further ≡ first_extension e.further = cc in
    let tails : map pointer d.runs ++ replicate (112 - length d.runs) 0 ≡ map pointer e.runs
    ++ replicate (112 - length e.runs) 0 = cc in
    let runs : d.runs ≡ e.runs = pointers_same d.runs e.runs _ _ counts d.are_runs e.are_runs tails in
    let further : d.further ≡ e.further = extensions_same contents d.further e.further d.extended e.extended
    (ap (times 0) d.extensions_are ∙ d.nonzero) (ap (times 0) e.extensions_are ∙ e.nonzero) nexts in
    let both : d.runs ++ all_runs d.further ≡ e.runs ++ all_runs e.further = cc in (
      prime_same layout p q d.runs e.runs _ _ d.fits e.fits exts words,
      sym d.extensions_are ∙ ap extension_numbers further ∙ e.extensions_are,
      sym d.blocks_are ∙ ap (flat_map run_blocks) both ∙ e.blocks_are,
    )

-- A prime block has at most one version.
pub version_same : (layout : ℕ) (contents : Contents) (place : Place) (v w : StoredFile)
    → IsVersion layout contents place v → IsVersion layout contents place w
    → v.prime ≡ w.prime → v ≡ w
version_same layout contents place v w d e same =
    let at_v = subst (λ n. IsRetrieved layout contents (prime_of place w.file) n w.extensions w.blocks)
    (sym same) e.retrieved in
    let parts = retrieved_same layout contents (prime_of place v.file)
    (prime_of place w.file) v.prime v.extensions w.extensions v.blocks w.blocks d.retrieved at_v refl in
    let lengths : length v.file.body ≡ length w.file.body = ap (λ p. p.words) parts.0 in
    let body : v.file.body ≡ w.file.body = body_same contents v.blocks v.file.body w.file.body d.body
    (subst (λ ns. HasBody contents ns w.file.body) (sym parts.2) e.body) lengths in
    λ i. record {
      file = record {
        protection = (parts.0 i).protection;
        mode = (parts.0 i).mode;
        time = (parts.0 i).time;
        date = (parts.0 i).date;
        body = body i;
      };
      prime = same i;
      extensions = parts.1 i;
      blocks = parts.2 i;
    }
