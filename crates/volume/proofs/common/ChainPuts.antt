-- The puts of a change that writes one chain and the table: what they leave, and what the disk has with them.
use Rattle.std.proofs.Common.{◌≡◌, ℕ, ◌+◌, ◌<◌, ◌≤◌, ◌⊎◌, inl, inr, ⊎_elim, List, [], length, ◌∙◌, refl, subst}
use Rattle.std.proofs.Common.{sym, arith}
use Rattle.std.specs.List.{AllByRecursion}
use Rattle.std.specs.Option.{IsSome}
use Rattle.blockdisk.specs.Common.{Contents}
use Rattle.changeset.specs.Common.{IsGateOrLog, IsPutIn, some_or_none}
use Rattle.spec_image.specs.declared.put.Put.{Put}
use Rattle.spec_image.specs.Common.{times, table_blocks, table_start, space_start, log_images, IsTarget, targets}
use Rattle.spec_image.specs.Common.{with_puts, table_bit, InSpace}
use Rattle.spec_image.specs.Changes.{HomeStays}
use Rattle.spec_image.proofs.Common.{each_times}
use Rattle.alloctab.specs.Common.{TableState, bit}
use Rattle.directory.specs.Common.{ChainState, PutsChain, IsOn, on_kept}
use Rattle.volume.specs.Common.{PutsTable}
use Rattle.volume.proofs.common.Puts.{not_put}
use Rattle.volume.proofs.common.TableBits.{bits_same}

-- no block outside the free space is in a chain
pub out_of_space : (size : ℕ) (blocks : List ℕ) → AllByRecursion (InSpace size) blocks → (n : ℕ)
    → (n < space_start size) ⊎ (size ≤ n) → times n blocks ≡ 0
out_of_space size blocks inside n out = ⊎_elim
    (λ there. absurd (let in_space = each_times (InSpace size) blocks n inside there in
    let from = in_space.from in let below = in_space.below in
    ⊎_elim (λ low. omega arith) (λ high. omega arith) out))
    (λ none. none) (some_or_none (times n blocks))

-- the table, if it isn't put
pub table_itself : (size : ℕ) (t : TableState) (puts : List Put) → PutsTable size t t puts puts
table_itself size t puts = record {
  spells = λ c same. same;
  undamaged = λ c some. some;
  others = λ c n away. refl;
  in_range = λ inside. inside;
  few = omega arith;
}

-- The puts make the chain `new` of `old`, and the table `t'` of `t`.
pub record PutsBoth {K V : Type 0} (words : K × V → List ℕ) (size : ℕ) (t t' : TableState)
    (old new : ChainState (K × V))
    (puts : List Put) : Type 0 where
  pub chain_puts : List Put
  pub chain : PutsChain words old new [] chain_puts
  pub few : length chain_puts ≤ 2
  pub table : PutsTable size t t' chain_puts puts
  pub inside : AllByRecursion (InSpace size) new.blocks

module _ {K V : Type 0} {words : K × V → List ℕ} {size : ℕ} {t t' : TableState} {old new : ChainState (K × V)}
    {puts : List Put} (both : PutsBoth words size t t' old new puts) where
  pub out_of_chain : (n : ℕ) → (n < space_start size) ⊎ (size ≤ n) → times n new.blocks ≡ 0
  out_of_chain = out_of_space size new.blocks both.inside

  -- What is put lies where it may, and there is room for it.

  pub both_in_range : AllByRecursion (IsTarget size) (targets puts)
  both_in_range = both.table.in_range (both.chain.in_range size both.inside tt)

  pub both_few : length puts ≤ log_images size
  both_few = let a = both.table.few in let b = both.few in omega arith

  -- What stays.

  -- no other block changes than those of the table and of the chain
  pub both_stay : (c : Contents) (n : ℕ) → (n < table_start size) ⊎ (space_start size ≤ n) → times n new.blocks ≡ 0
      → with_puts puts c n ≡ c n
  both_stay c n away none = both.table.others c n away ∙ both.chain.others c n none

  -- none before the table
  pub low_stays : (c : Contents) (n : ℕ) → n < table_start size → with_puts puts c n ≡ c n
  low_stays c n low = both_stay c n (inl low) (out_of_chain n (inl (omega arith)))

  pub homes_stay : (c : Contents) → HomeStays c (with_puts puts c)
  homes_stay c = record { first = low_stays c 1 (omega arith); second = low_stays c 2 (omega arith) }

  pub low_not_put : (n : ℕ) → n < table_start size → IsPutIn puts n → ⊥
  low_not_put n low = not_put puts n (λ c. low_stays c n low)

  -- and none of the free space, except those of the chain
  pub space_not_put : (n : ℕ) → space_start size ≤ n → times n new.blocks ≡ 0 → IsPutIn puts n → ⊥
  space_not_put n from none = not_put puts n (λ c. both_stay c n (inr from) none)

  -- nor written
  pub space_not_written : (n : ℕ) → space_start size ≤ n → times n new.blocks ≡ 0
      → IsGateOrLog size n ⊎ IsPutIn puts n → ⊥
  space_not_written n from none = ⊎_elim (λ log. let below = log.1 in omega arith) (space_not_put n from none)

  -- the blocks of the table stay until it is put
  table_stays : (c : Contents) (i : ℕ) → i < table_blocks size
      → with_puts both.chain_puts c (table_start size + i) ≡ c (table_start size + i)
  table_stays c i below = both.chain.others c (table_start size + i)
      (out_of_chain (table_start size + i) (inl (omega arith)))

  -- What the disk has.

  -- the chain
  pub both_on : (c : Contents) → IsOn words c old → IsOn words (with_puts puts c) new
  both_on c on = on_kept words (with_puts both.chain_puts c) (with_puts puts c) new (both.chain.spells c on)
      (λ n there. both.table.others c n (inr (each_times (InSpace size) new.blocks n both.inside there).from))

  -- and the table
  pub both_bits : (c : Contents) → ((n : ℕ) → table_bit size c n ≡ bit t n) → (n : ℕ)
      → table_bit size (with_puts puts c) n ≡ bit t' n
  both_bits c bits = both.table.spells c
      (λ n. bits_same size c (with_puts both.chain_puts c) (table_stays c) n ∙ bits n)

  pub both_undamaged : (c : Contents)
      → ((i : ℕ) → i < table_blocks size → IsSome (c (table_start size + i))) → (i : ℕ)
      → i < table_blocks size → IsSome (with_puts puts c (table_start size + i))
  both_undamaged c some = both.table.undamaged c
      (λ i below. subst IsSome (sym (table_stays c i below)) (some i below))
