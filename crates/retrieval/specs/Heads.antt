-- The first words of retrieval blocks, those before the pointers.
use Rattle.std.specs.Prelude.{◌≡◌, ℕ, ◌+◌, ◌*◌, ◌%◌, ◌^◌, ◌<◌, ◌≤◌, List, [], ◌∷◌, take, drop, replicate, slice_index}
use Rattle.words36.specs.Common.{IsPpn, join}
use Rattle.spec_image.specs.Common.{SpecPrime, IsMode, prime_word, extension_word, extension_half, date_limit}
use Rattle.spec_image.specs.Retrieval.{attributes}

-- The word has these attributes, each in its range, and the low twelve bits of a date.
pub record IsAttributes (word protection mode time low : ℕ) : Type 0 where
  pub spelled : word ≡ protection * 2 ^ 27 + mode * 2 ^ 23 + time * 2 ^ 12 + low
  pub protection_fits : protection < 512
  pub mode_is : IsMode mode
  pub time_fits : time ≤ 1439
  pub low_fits : low < 4096

-- Words begin as those of a prime block of this layout with `count` pointers.
pub record IsPrimeHead (layout : ℕ) (words : List ℕ) (p : SpecPrime) (count next : ℕ) : Type 0 where
  pub marked : slice_index words 0 ≡ prime_word
  pub name : slice_index words 1 ≡ p.place.name.name
  pub ext : slice_index words 2 ≡ extension_word p
  pub attributes_are : IsAttributes (slice_index words 3) p.protection p.mode p.time (p.date % 2 ^ 12)
  pub date : p.date < date_limit layout
  pub ppn : slice_index words 4 ≡ p.place.ppn
  pub length_is : slice_index words 5 ≡ p.words
  pub count_is : slice_index words 6 ≡ count
  pub next_is : slice_index words 7 ≡ next
  pub zeros : take 8 (drop 8 words) ≡ replicate 8 0
  pub is_ppn : IsPpn p.place.ppn
  pub ext_fits : p.place.name.ext < 2 ^ 18
  pub few : p.words ≤ 2097152
  pub room : count ≤ 112

-- Words begin as those of an extension with `count` pointers.
pub record IsExtensionHead (words : List ℕ) (count next : ℕ) : Type 0 where
  pub marked : slice_index words 0 ≡ join extension_half count
  pub next_is : slice_index words 1 ≡ next
  pub some : 0 < count
  pub room : count ≤ 126

-- the first words of a prime block with `count` pointers
abbrev pub prime_front : SpecPrime → ℕ → ℕ → List ℕ
prime_front p count next = prime_word ∷ p.place.name.name ∷ extension_word p ∷ attributes p ∷ p.place.ppn
    ∷ p.words ∷ count ∷ next ∷ 0 ∷ 0 ∷ 0 ∷ 0 ∷ 0 ∷ 0 ∷ 0 ∷ 0 ∷ []
