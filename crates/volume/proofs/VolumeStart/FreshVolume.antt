-- What a disk stands for on which a volume was just made.
use Rattle.std.proofs.Common.{◌≡◌, inl, inr, ⊎_elim, ℕ, ◌+◌, ◌/◌, ◌<◌, ◌≤◌, [], ◌∷◌, Some, IsSome, refl, sym, ◌∙◌, ap}
use Rattle.std.proofs.Common.{subst, arith, lit≤}
use Rattle.std.proofs.lemmas.Bool.{cases_eq}
use Rattle.std.proofs.lemmas.Bool.Decides.{nat_tests}
use Rattle.blockdisk.specs.Common.{Contents, DiskState, NoneOpen, Modifies, none_open_leaves, modifies_on}
use Rattle.blockdisk.specs.Common.{modifies_wider}
use Rattle.changeset.specs.Common.{AtRest}
use Rattle.spec_image.specs.Common.{empty, entries, head_or_zero, IsVolumeSize, table_blocks, table_start}
use Rattle.spec_image.specs.Common.{space_start, open_gate, IsGateOpen, table_bit, layout_number, pack_in, StandsOn}
use Rattle.spec_image.specs.Common.{HasMap, files_of}
use Rattle.spec_image.specs.declared.layout.Layout.{Layout}
use Rattle.spec_image.proofs.Common.{some_same, map_stands, below_or_not}
use Rattle.alloctab.specs.Common.{table_words}
use Rattle.alloctab.proofs.WordLaws.{table_words_spell}
use Rattle.alloctab.proofs.TableBlocks.{table_bit_at, table_bit_past}
use Rattle.volume.specs.Common.{IsInitBlock, IsBare, bare_map, fresh_bit, fresh_words, zero_words}
use Rattle.volume.proofs.VolumeStart.HomeCopies.{is_allowed}
use Rattle.volume.proofs.VolumeStart.FreshTable.{bit_below_few, fresh_bit_past, fresh_bit_is}

-- Writing it.

pub written_more : (layout size from n : ℕ) (c d : Contents)
    → ((m : ℕ) → from ≤ m → m < n → c m ≡ Some (fresh_words layout size m))
    → ((m : ℕ) → (m ≡ n → ⊥) → d m ≡ c m)
    → d n ≡ Some (fresh_words layout size n) → (m : ℕ) → from ≤ m → m < n + 1 → d m ≡ Some (fresh_words layout size m)
written_more layout size from n c d before others here m low high = ⊎_elim
    (λ is. ap d is ∙ here ∙ ap (λ (k : ℕ). Some (fresh_words layout size k)) (sym is))
    (λ other. others m other ∙ before m low (omega arith)) (cases_eq m n)

pub first_modified : (s s' : DiskState) → Modifies (λ n. (0 ≤ n) × (n < 5)) s s' → Modifies (IsInitBlock s.size) s s'
first_modified s s' = modifies_wider (λ n. (0 ≤ n) × (n < 5)) (IsInitBlock s.size) s s'
    (λ n is. inl (let high = is.1 in omega arith))

pub volume_modified : (s s' s'' : DiskState) (start end : ℕ) → start ≡ table_start s.size → end ≡ space_start s.size + 1
    → Modifies (λ n. (0 ≤ n) × (n < 5)) s s'
    → Modifies (λ n. (start ≤ n) × (n < end)) s' s'' → Modifies (IsInitBlock s.size) s s''
volume_modified s s' s'' start end at until first second =
    modifies_on (IsInitBlock s.size) s s' s'' (first_modified s s' first)
    (modifies_wider (λ n. (start ≤ n) × (n < end)) (IsInitBlock s.size) s' s'' (λ n is. let low = is.0 in
    let high = is.1 in inr (omega arith, omega arith)) second)

-- What it has.

module _ (layout : Layout) (size : ℕ) (c : Contents) (volume : IsVolumeSize size)
    (bare : IsBare (layout_number layout) size c) where
  table_is_some : (i : ℕ) → i < table_blocks size → IsSome (c (table_start size + i))
  table_is_some i below = let e = bare.table i below in cc

  bit_is : (n : ℕ) → table_bit size c n ≡ fresh_bit size n
  bit_is n = ⊎_elim
      (λ below. table_bit_at size c (table_words (fresh_bit size) (n / 4608)) (n / 4608) n below
      (bare.table (n / 4608) below) refl
      ∙ table_words_spell (fresh_bit size) (bit_below_few (space_start size + 1)) (n / 4608) n refl)
      (λ past. table_bit_past size c n past ∙ sym (fresh_bit_past size n volume past))
      (below_or_not (n / 4608) (table_blocks size))

  pub fresh_has_map : HasMap size c (bare_map (layout_number layout) size)
  fresh_has_map = map_stands size (layout_number layout) c ((space_start size, []) ∷ []) [] volume
      (inl (record {
        words = bare.home;
        layout = is_allowed layout;
        master_from = omega arith;
        master_below = let small = volume.small in omega arith;
      }))
      (record { spelled = (bare.master, tt); filled = lit≤ tt; are_entries = tt; each_once = tt })
      refl tt table_is_some
      (λ n past. let small = volume.small in grind (arith, nat_tests))
      (λ n. bit_is n ∙ fresh_bit_is size n)

  pub fresh_shut : IsGateOpen size c → ⊥
  fresh_shut is =
      let words : zero_words ≡ open_gate = some_same (sym bare.gate ∙ is.gate) in
      let first : head_or_zero zero_words ≡ head_or_zero open_gate = ap head_or_zero words in
      absurd (omega arith)

  pub no_files : files_of (bare_map (layout_number layout) size) ≡ empty
  unfolding empty entries
  no_files = refl

  pub fresh_stands : StandsOn (pack_in (layout_number layout) size) c empty
  fresh_stands = (c, inl (fresh_shut, λ n. refl), (bare_map (layout_number layout) size, fresh_has_map, no_files, refl))

pub fresh_rest : (layout : Layout) (size : ℕ) (s : DiskState) → s.size ≡ size → IsVolumeSize size
    → IsBare (layout_number layout) size s.contents → NoneOpen s
    → AtRest s (λ c. StandsOn (pack_in (layout_number layout) size) c empty)
fresh_rest layout size s same volume bare none = record {
  shut = λ c left is. fresh_shut layout size s.contents volume bare
      (subst (λ (n : ℕ). IsGateOpen n s.contents) same (subst (IsGateOpen s.size) (none_open_leaves s none c left) is));
  all = λ c left. subst (λ (d : Contents). StandsOn (pack_in (layout_number layout) size) d empty)
      (sym (none_open_leaves s none c left)) (fresh_stands layout size s.contents volume bare);
}
