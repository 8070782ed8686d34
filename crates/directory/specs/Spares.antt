-- Lists that grow in memory allocated before.
-- A list has places for more elements than it has: twice as many as each power of two below its length. So it may be
-- full only if its length is such a power, or 0, and a caller sees from the length alone when a growth takes memory.
use Rattle.std.specs.Prelude.{◌≡◌, ◌⊎◌, ℕ, ◌*◌, ◌<◌, ◌≤◌, ◌^◌, List}

-- A list of n elements may have no place left.
abbrev pub IsFull : ℕ → Type 0
IsFull n = (n ≡ 0) ⊎ ((k : ℕ) × (n ≡ 2 ^ k))

-- A list of n elements has c places, as many as it must.
pub record HasPlaces (n c : ℕ) : Type 0 where
  pub within : n ≤ c
  pub doubled : (k : ℕ) → 2 ^ k < n → 2 * 2 ^ k ≤ c

-- Memory of c places is enough for a list of n elements to grow by one.
abbrev pub IsSpareFor : ℕ → ℕ → Type 0
IsSpareFor n c = IsFull n → (n < c) × (2 * n ≤ c)

-- What contracts see of the keys that are stored for the entries of a chain: a list.
pub record KeyList : Type 0 where
  pub items : List ℕ
