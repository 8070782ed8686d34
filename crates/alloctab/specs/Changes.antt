-- The puts of the table blocks that changed.
use Rattle.std.specs.Prelude.{◌≡◌, ◌⊎◌, ℕ, zero, suc, ◌+◌, ◌/◌, ◌<◌, Bool, if◌then◌else◌, List, IsSome}
use Rattle.blockdisk.specs.Common.{Contents}
use Rattle.spec_image.specs.declared.put.Put.{Put}
use Rattle.spec_image.specs.Common.{table_blocks, table_start, table_bit}
use Rattle.changeset.specs.Common.{replaced}
use Rattle.alloctab.specs.TableBlocks.{table_words}
use Rattle.alloctab.specs.TableState.{TableState, bit, IsChanged}

-- the put of table block i, if the table begins at block `start`
abbrev pub table_put : ℕ → (ℕ → ℕ) → ℕ → Put
table_put start bits i = record { block = start + i; words = table_words bits i }

-- the puts, together with those of the changed blocks among the first k table blocks
abbrev pub with_changed : ℕ → (ℕ → ℕ) → (ℕ → Bool) → ℕ → List Put → List Put
with_changed start bits changed zero puts = puts
with_changed start bits changed (suc k) puts =
    if changed k then replaced (table_put start bits k) (with_changed start bits changed k puts)
    else with_changed start bits changed k puts

-- Block n of the disk is a changed table block.
pub record IsChangedBlock (t : TableState) (n : ℕ) : Type 0 where
  pub i : ℕ
  pub changed : IsChanged t i
  pub block : n ≡ table_start t.size + i

-- If the contents before are the table except for its changed blocks, those after are the table.
pub record SpellsTable (t : TableState) (before after : Contents) : Type 0 where
  pub bits : ((n : ℕ) → (IsChanged t (n / 4608) → ⊥) → table_bit t.size before n ≡ bit t n) → (n : ℕ)
      → table_bit t.size after n ≡ bit t n
  pub undamaged : (i : ℕ) → i < table_blocks t.size → IsSome (before (table_start t.size + i)) ⊎ IsChanged t i
      → IsSome (after (table_start t.size + i))
