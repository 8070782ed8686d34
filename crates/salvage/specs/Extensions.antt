-- The extensions of versions, as far as these can be walked.
use Rattle.std.specs.Prelude.{◌≡◌, ◌⊎◌, ℕ, ◌<◌, Bool, true, List, Some}
use Rattle.blockdisk.specs.Common.{Contents}
use Rattle.spec_image.specs.Common.{InSpace, SpecPrime, SpecRun}
use Rattle.retrieval.specs.Common.{SpellsExtension, SpellsPrime}
use Rattle.alloctab.specs.Common.{flag_at}

-- Block n is a prime block of this layout, which names this extension.
pub record IsPrimeLink (layout : ℕ) (contents : Contents) (n next : ℕ) : Type 0 where
  pub words : List ℕ
  pub words_are : contents n ≡ Some words
  pub p : SpecPrime
  pub runs : List SpecRun
  pub spells : SpellsPrime layout words p runs next

-- Block n is an extension, which names this one next.
pub record IsExtensionLink (contents : Contents) (n next : ℕ) : Type 0 where
  pub words : List ℕ
  pub words_are : contents n ≡ Some words
  pub runs : List SpecRun
  pub spells : SpellsExtension words runs next

-- Block n is an extension of the version at this prime block: it lies in the free space, and the prime block names it,
-- or another extension of this version does.
pub data IsExtension (size layout : ℕ) (contents : Contents) (prime : ℕ) : ℕ → Type 0 where
  of_prime : (n : ℕ) → IsPrimeLink layout contents prime n → InSpace size n
      → IsExtension size layout contents prime n
  of_extension : (m n : ℕ) → IsExtension size layout contents prime m → IsExtensionLink contents m n
      → InSpace size n → IsExtension size layout contents prime n

-- Extension n comes after this one.
pub data IsAfter (size : ℕ) (contents : Contents) (first : ℕ) : ℕ → Type 0 where
  named : (n : ℕ) → IsExtensionLink contents first n → InSpace size n → IsAfter size contents first n
  later : (m n : ℕ) → IsAfter size contents first m → IsExtensionLink contents m n → InSpace size n
      → IsAfter size contents first n

-- Block n is an extension of another version too, or it comes after itself.
abbrev pub HasOwners : ℕ → ℕ → Contents → ℕ → ℕ → Type 0
HasOwners size layout contents prime n = IsAfter size contents n n
    ⊎ ((other : ℕ) × (other ≡ prime → ⊥) × IsExtension size layout contents other n)

-- Block n is an extension of the version at this prime block, and was marked before, or comes after itself.
pub record IsOwnedAgain (size layout : ℕ) (contents : Contents) (marks : List Bool) (prime n : ℕ) : Type 0 where
  pub extension : IsExtension size layout contents prime n
  pub again : (flag_at marks n ≡ true) ⊎ IsAfter size contents n n

-- The marked blocks are extensions of versions whose prime blocks come before this block.
abbrev pub AreOwned : ℕ → ℕ → Contents → List Bool → ℕ → Type 0
AreOwned size layout contents marks before = (n : ℕ) → flag_at marks n ≡ true
    → (prime : ℕ) × (prime < before) × IsExtension size layout contents prime n
