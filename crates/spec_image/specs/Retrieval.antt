-- A version of a file on the disk: its prime retrieval block says what it is and where its data is, by pointers to runs
-- of blocks; extensions have further pointers. What is retrieved and what body is in the blocks are two facts, since a
-- reader needs only the second.
use Rattle.std.specs.Prelude.{◌≡◌, ℕ, suc, zero, ◌+◌, ◌*◌, ◌-◌, ◌/◌, ◌%◌, ◌^◌, ◌<◌, ◌≤◌, ◌⊎◌, ◌==◌, if◌then◌else◌}
use Rattle.std.specs.Prelude.{List, [], ◌∷◌, ◌++◌, map, length, replicate, take, flat_map, Some}
use Rattle.std.specs.List.{AllByRecursion, AllZip}
use Rattle.words36.specs.Common.{join}
use Rattle.blockdisk.specs.Common.{Contents}
use Rattle.spec_image.specs.Maps.{times}
use Rattle.spec_image.specs.Costs.{blocks_of}
use Rattle.spec_image.specs.Files.{File, Place}

-- what a prime retrieval block says about its version
pub record SpecPrime : Type 0 where
  pub place : Place
  pub protection : ℕ
  pub mode : ℕ
  pub time : ℕ
  pub date : ℕ
  -- the length of the body in words
  pub words : ℕ

abbrev pub prime_of : Place → File → SpecPrime
prime_of place file = record {
  place = place;
  protection = file.protection;
  mode = file.mode;
  time = file.time;
  date = file.date;
  words = length file.body;
}

-- a run: a count of blocks, and the first of them
abbrev pub SpecRun : Type 0
SpecRun = ℕ × ℕ

abbrev pub count_up : ℕ → ℕ → List ℕ
count_up zero n = []
count_up (suc k) n = n ∷ count_up k (suc n)

abbrev pub run_blocks : SpecRun → List ℕ
run_blocks run = count_up run.0 run.1

-- a pointer: the count in the left half, the first block in the right one
abbrev pub pointer : SpecRun → ℕ
pointer run = join run.0 run.1

abbrev pub IsRun : SpecRun → Type 0
IsRun run = (0 < run.0) × (run.0 < 2 ^ 18) × (run.1 < 2 ^ 18)

-- protection in bits 0 to 8, mode in 9 to 12, time in 13 to 23, the low twelve bits of the date in 24 to 35
abbrev pub attributes : SpecPrime → ℕ
attributes p = p.protection * 2 ^ 27 + p.mode * 2 ^ 23 + p.time * 2 ^ 12 + p.date % 2 ^ 12

-- the extension in the left half; the date's three high bits, which layout 1 doesn't have, in bits 18 to 20
abbrev pub extension_word : SpecPrime → ℕ
extension_word p = join p.place.name.ext (p.date / 2 ^ 12 * 2 ^ 15)

-- RIB in SIXBIT
abbrev pub prime_word : ℕ
prime_word = 0o625142000000

-- word 6 is the number of pointers here, word 7 the first extension or 0
abbrev pub prime_block : SpecPrime → List SpecRun → ℕ → List ℕ
prime_block p runs next =
    prime_word ∷ p.place.name.name ∷ extension_word p ∷ attributes p ∷ p.place.ppn ∷ p.words ∷ length runs ∷ next
    ∷ 0 ∷ 0 ∷ 0 ∷ 0 ∷ 0 ∷ 0 ∷ 0 ∷ 0 ∷ (map pointer runs ++ replicate (112 - length runs) 0)

-- XRB in SIXBIT
abbrev pub extension_half : ℕ
extension_half = 0o706242

abbrev pub extension_block : List SpecRun → ℕ → List ℕ
extension_block runs next = join extension_half (length runs) ∷ next
    ∷ (map pointer runs ++ replicate (126 - length runs) 0)

-- an extension: its number and its runs
abbrev pub Extension : Type 0
Extension = ℕ × List SpecRun

abbrev pub extension_numbers : List Extension → List ℕ
extension_numbers extensions = map (λ extension. extension.0) extensions

abbrev pub first_extension : List Extension → ℕ
first_extension [] = 0
first_extension (extension ∷ extensions) = extension.0

abbrev pub all_runs : List Extension → List SpecRun
all_runs [] = []
all_runs (extension ∷ extensions) = extension.1 ++ all_runs extensions

-- Each extension is on the disk and names the next; another one follows only if all its pointers are used.
abbrev pub AreExtensions : Contents → List Extension → Type 0
AreExtensions contents [] = Unit {0}
AreExtensions contents (extension ∷ extensions) =
    (contents extension.0 ≡ Some (extension_block extension.1 (first_extension extensions)))
    × (0 < length extension.1) × (length extension.1 ≤ 126) × (0 < length extensions → length extension.1 ≡ 126)
    × AllByRecursion IsRun extension.1 × AreExtensions contents extensions

-- dates are below this number: layout 1 has twelve bits for them, and layout 2 fifteen
abbrev pub date_limit : ℕ → ℕ
date_limit layout = if layout == 1 then 2 ^ 12 else 2 ^ 15

-- the data modes: 0, 1, 10, 13, 14 and 17 in octal
abbrev pub IsMode : ℕ → Type 0
IsMode m = (m ≡ 0) ⊎ (m ≡ 1) ⊎ (m ≡ 0o10) ⊎ (m ≡ 0o13) ⊎ (m ≡ 0o14) ⊎ (m ≡ 0o17)

-- a file has at most this many blocks
abbrev pub most_blocks : ℕ
most_blocks = 16384

-- What a prime block says fits its bits.
pub record IsPrime (layout : ℕ) (p : SpecPrime) : Type 0 where
  pub protection : p.protection < 512
  pub mode : IsMode p.mode
  pub time : p.time ≤ 1439
  pub date : p.date < date_limit layout
  pub few : p.words ≤ most_blocks * 128

-- The prime block and the extensions are on the disk, and their pointers, joined, name these blocks.
pub record IsRetrieved (layout : ℕ) (contents : Contents) (p : SpecPrime) (prime : ℕ)
    (extensions blocks : List ℕ) : Type 0 where
  pub runs : List SpecRun
  pub further : List Extension
  pub fits : IsPrime layout p
  pub prime_is : contents prime ≡ Some (prime_block p runs (first_extension further))
  pub few : length runs ≤ 112
  pub full : 0 < length further → length runs ≡ 112
  pub extended : AreExtensions contents further
  pub extensions_are : extension_numbers further ≡ extensions
  -- a next extension of 0 means that there is none
  pub nonzero : times 0 extensions ≡ 0
  pub are_runs : AllByRecursion IsRun runs
  pub blocks_are : flat_map run_blocks (runs ++ all_runs further) ≡ blocks
  pub enough : length blocks ≡ blocks_of p.words

-- None of the blocks is damaged, each has 128 words, and their words, joined, begin with the body.
pub record HasBody (contents : Contents) (blocks body : List ℕ) : Type 0 where
  pub each : List (List ℕ)
  pub undamaged : AllZip (λ n words. contents n ≡ Some words) blocks each
  pub whole : AllByRecursion (λ words. length words ≡ 128) each
  pub body_is : body ≡ take (length body) (flat_map (λ words. words) each)
