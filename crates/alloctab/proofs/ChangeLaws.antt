-- What `changes` puts.
use Rattle.std.proofs.Common.{◌≡◌, ◌⊎◌, ⊎_elim, inl, inr, ℕ, suc, ◌+◌, ◌/◌, ◌<◌, ◌≤◌, Bool, true, false, List, length}
use Rattle.std.proofs.Common.{Option, Some, IsSome, refl, sym, ◌∙◌, ap, subst, arith, rules}
use Rattle.std.specs.List.{AllByRecursion}
use Rattle.std.proofs.lemmas.Bool.{cases_Bool}
use Rattle.std.proofs.lemmas.List.{get_or_past}
use Rattle.blockdisk.specs.Common.{Contents}
use Rattle.spec_image.specs.declared.put.Put.{Put}
use Rattle.spec_image.specs.Common.{sum_below, targets, with_puts, IsTarget, table_blocks, table_start, bit_in}
use Rattle.changeset.specs.Common.{IsPutIn}
use Rattle.alloctab.specs.Common.{digit, digit_at, flag_at, TableState, IsTable, bit, IsChanged, changed_blocks}
use Rattle.alloctab.specs.Common.{table_words, with_changed, IsChangedBlock, SpellsTable}
use Rattle.alloctab.proofs.WordLaws.{digit_few, table_words_spell}
use Rattle.alloctab.proofs.TableBlocks.{table_bit_in, table_bit_past, table_bit_at, past_the_end}
use Rattle.alloctab.proofs.ChangedPuts.{length-after, sum_below-le, put_after, others_after, all_after, in_after}
use Rattle.alloctab.proofs.ChangedPuts.{after_in}
use Rattle.spec_image.proofs.Common.{below_or_not}

-- the puts with those of a table's changed blocks
abbrev pub table_changes : TableState → List Put → List Put
table_changes t puts = with_changed (table_start t.size) (bit t) (flag_at t.changed) (length t.changed) puts

pub table_changes_are : (t : TableState) (puts new : List Put) (start : ℕ) (bits : ℕ → ℕ) (changed : List Bool)
    → start ≡ table_start t.size → bits ≡ bit t → changed ≡ t.changed
    → new ≡ with_changed start bits (flag_at changed) (length changed) puts → new ≡ table_changes t puts
table_changes_are t puts new start bits changed start_is bits_are changed_are is =
    is ∙ ap (λ (n : ℕ). with_changed n bits (flag_at changed) (length changed) puts) start_is
    ∙ ap (λ (f : ℕ → ℕ). with_changed (table_start t.size) f (flag_at changed) (length changed) puts) bits_are
    ∙ ap (λ (l : List Bool). with_changed (table_start t.size) (bit t) (flag_at l) (length l) puts) changed_are

pub flag_inside : (flags : List Bool) (i : ℕ) → flag_at flags i ≡ true → i < length flags
flag_inside flags i is = ⊎_elim (λ inside. inside) (λ past. absurd (let e = get_or_past flags i false past in cc))
    (below_or_not i (length flags))

-- there is room as long as a changed block has yet to be put
pub room_left : (start : ℕ) (bits : ℕ → ℕ) (flags : List Bool) (i most : ℕ) (puts : List Put) → i < length flags
    → flag_at flags i ≡ true → length puts + sum_below (digit_at flags) (length flags) ≤ most
    → length (with_changed start bits (flag_at flags) i puts) < most
room_left start bits flags i most puts inside is room =
    let so_far = length-after start bits (flag_at flags) puts i in
    let one : digit_at flags i ≡ 1 = ap digit is in
    let rest : sum_below (digit_at flags) (suc i) ≤ sum_below (digit_at flags) (length flags) = sum_below-le
    (digit_at flags) (suc i) (length flags) (omega arith) in
    omega arith

some_is : (o : Option (List ℕ)) (words : List ℕ) → o ≡ Some words → IsSome o
some_is o words e = search rules

module _ (t : TableState) (puts : List Put) where
  pub put_changes : (c : Contents) (i : ℕ) → IsChanged t i → with_puts (table_changes t puts) c (table_start t.size + i)
      ≡ Some (table_words (bit t) i)
  put_changes c i is = put_after (table_start t.size) (bit t) (flag_at t.changed) puts c (length t.changed) i
      (flag_inside t.changed i is) is

  pub others_changes : (c : Contents) (n : ℕ) → (IsChangedBlock t n → ⊥)
      → with_puts (table_changes t puts) c n ≡ with_puts puts c n
  others_changes c n none = others_after (table_start t.size) (bit t) (flag_at t.changed) puts c n (length t.changed)
      (λ is. none (record { i = is.0; changed = is.2; block = is.3 }))

  pub targets_changes : (n : ℕ) → (IsPutIn (table_changes t puts) n → IsPutIn puts n ⊎ IsChangedBlock t n)
      × (IsPutIn puts n ⊎ IsChangedBlock t n → IsPutIn (table_changes t puts) n)
  targets_changes n = (
    λ is. ⊎_elim (λ was. inl was) (λ at. inr (record { i = at.0; changed = at.2; block = at.3 }))
        (after_in (table_start t.size) (bit t) (flag_at t.changed) puts n (length t.changed) is),
    λ is. in_after (table_start t.size) (bit t) (flag_at t.changed) puts n (length t.changed)
        (⊎_elim (λ was. inl was) (λ at. inr (at.i, flag_inside t.changed at.i at.changed, at.changed, at.block)) is),
  )

  pub few_changes : length (table_changes t puts) ≤ length puts + changed_blocks t
  few_changes = length-after (table_start t.size) (bit t) (flag_at t.changed) puts (length t.changed)

  pub in_range_changes : IsTable t → AllByRecursion (IsTarget t.size) (targets puts)
      → AllByRecursion (IsTarget t.size) (targets (table_changes t puts))
  in_range_changes sound all = all_after (table_start t.size) (bit t) (flag_at t.changed) puts (IsTarget t.size)
      (length t.changed) (λ i below. inr (inr (block_in_range i (omega (arith, sound.changed_are))))) all
    where
      block_in_range : (i : ℕ) → i < table_blocks t.size → (table_start t.size ≤ table_start t.size + i)
          × (table_start t.size + i < t.size)
      block_in_range i below = let small = sound.volume.small in (omega arith, omega arith)

  not_there : (i : ℕ) → flag_at t.changed i ≡ false → IsChangedBlock t (table_start t.size + i) → ⊥
  not_there i not is = let same : i ≡ is.i = let e = is.block in omega arith in let e = ap (flag_at t.changed) same in
      let f = is.changed in cc

  pub spells_changes : IsTable t → (c : Contents)
      → SpellsTable t (with_puts puts c) (with_puts (table_changes t puts) c)
  spells_changes sound c = record {
    bits = λ before n. ⊎_elim
        (λ below. ⊎_elim
        (λ is. table_bit_at t.size (with_puts (table_changes t puts) c) (table_words (bit t) (n / 4608))
        (n / 4608) n below (put_changes c (n / 4608) is) refl
        ∙ table_words_spell (bit t) (λ m. digit_few (flag_at t.bits m)) (n / 4608) n refl)
        (λ not. table_bit_in t.size (with_puts (table_changes t puts) c) n below
        ∙ ap (λ (block : Option (List ℕ)). bit_in block n)
        (others_changes c (table_start t.size + n / 4608) (not_there (n / 4608) not))
        ∙ sym (table_bit_in t.size (with_puts puts c) n below) ∙ before n (λ is. let e = is in cc))
        (cases_Bool (flag_at t.changed (n / 4608))))
        (λ past. table_bit_past t.size (with_puts (table_changes t puts) c) n past
        ∙ sym (past_the_end t.bits t.size n sound.bits_are past))
        (below_or_not (n / 4608) (table_blocks t.size));
    undamaged = λ i below or. ⊎_elim
        (λ is. some_is (with_puts (table_changes t puts) c (table_start t.size + i)) (table_words (bit t) i)
        (put_changes c i is))
        (λ not. ⊎_elim (λ was. subst IsSome (sym (others_changes c (table_start t.size + i) (not_there i not))) was)
        (λ is. absurd (let e = is in cc)) or)
        (cases_Bool (flag_at t.changed i));
  }
