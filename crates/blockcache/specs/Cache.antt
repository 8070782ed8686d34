-- Blocks that are cached in memory, each by its number, the one used last first.
use Rattle.std.specs.Prelude.{◌≡◌, ◌⊎◌, ◌+◌, ℕ, zero, suc, List, [], Some, Contains, nat_eq}
use Rattle.std.specs.Map.{remove_entry}
use Rattle.lru.specs.LruCache.{LruCache, lru_cache, promoted, put_entries}
use Rattle.blockdisk.specs.Common.{Contents}

-- the blocks that are cached, and for how many there is room
abbrev pub CachedBlocks : Type 0
CachedBlocks = LruCache ℕ (List ℕ)

-- each block that is cached is what these contents hold
abbrev pub AreCached : List (ℕ × List ℕ) → Contents → Type 0
AreCached entries contents = (e : ℕ × List ℕ) → Contains entries e → contents e.0 ≡ Some e.1

-- block n was used
abbrev pub used : ℕ → CachedBlocks → CachedBlocks
used n kept = lru_cache (promoted (nat_eq n) kept.entries) kept.cap

-- block n isn't cached
abbrev pub without : ℕ → CachedBlocks → CachedBlocks
without n kept = lru_cache (remove_entry (nat_eq n) kept.entries) kept.cap

-- none of the `count` blocks from `first` is cached
abbrev pub without_run : ℕ → ℕ → CachedBlocks → CachedBlocks
without_run first zero kept = kept
without_run first (suc more) kept = without (first + more) (without_run first more kept)

-- no block is cached
abbrev pub emptied : CachedBlocks → CachedBlocks
emptied kept = lru_cache [] kept.cap

-- these words were put for block n, in the place of the block used longest ago if there was no room; or there was no
-- memory for them, and nothing changed
abbrev pub IsCached : ℕ → List ℕ → CachedBlocks → CachedBlocks → Type 0
IsCached n words kept new = (new ≡ lru_cache (put_entries nat_eq kept n words) kept.cap) ⊎ (new ≡ kept)
