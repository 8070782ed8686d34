-- One directory of a map changes, and all others stay: what is known and which map memory has then.
use Rattle.std.proofs.Common.{◌≡◌, ℕ, ◌+◌, ◌<◌, ◌≤◌, ◌⊎◌, inl, inr, ⊎_elim, false, List, length, replicate, Some}
use Rattle.std.proofs.Common.{option_map, slice_get, slice_set, sym, ◌∙◌, ap, subst, arith}
use Rattle.std.proofs.lemmas.List.{length-set}
use Rattle.std.proofs.lemmas.Option.{slice_get_within}
use Rattle.std.specs.List.{AllByRecursion}
use Rattle.std.specs.Ordering.{nat_cmp}
use Rattle.std.specs.Cmp.{nat_cmp_total}
use Rattle.std.specs.FinMap.{nat_cmp-IsAntisymmetric}
use Rattle.blockdisk.specs.Common.{Contents}
use Rattle.spec_image.specs.declared.put.Put.{Put}
use Rattle.spec_image.specs.Common.{times, get, insert, map_values, from_entries, with_puts, table_bit, fixed}
use Rattle.spec_image.specs.Common.{SpecMasterEntry, master_words, file_words, InSpace, IsMasterEntryOf, table_blocks}
use Rattle.spec_image.specs.Common.{StoredDirectory, DiskMap, HasMap, entry_of, reaches_in_directory, reaches}
use Rattle.spec_image.specs.Common.{entries_of, with_directory}
use Rattle.spec_image.proofs.Common.{some_same, get-insert_same, get-insert_other, insert_same, get-map_values}
use Rattle.spec_image.proofs.Common.{map_values-insert, at-le-sum, two-le-sum, once}
use Rattle.alloctab.specs.Common.{bit}
use Rattle.directory.specs.Common.{ChainState, IsChain, IsOn, on_kept, StandsAt}
use Rattle.volume.specs.Common.{CurrentDirectory, CurrentMap, AgreesOnDirectory, MatchesMap, IsWholeDirectory}
use Rattle.volume.specs.Common.{IsWholeMap}
use Rattle.volume.specs.Common.{known_reaches}
use Rattle.volume.proofs.common.UsedBlocks.{element_at}
use Rattle.volume.proofs.common.Lists.{set_each, set_cases, other_key}

-- What is known in memory stays whole.
pub one_directory_whole : (size : ℕ) (k k' : CurrentMap) (place : ℕ) (directory' : CurrentDirectory) → IsWholeMap size k
    → k'.master ≡ k.master → k'.directories ≡ slice_set k.directories place directory'
    → IsWholeDirectory size directory' → k'.table.size ≡ k.table.size
    → ((n : ℕ) → bit k'.table n ≡ fixed size n + known_reaches n k'.master k'.directories)
    → k'.table.changed ≡ replicate (table_blocks size) false → IsWholeMap size k'
one_directory_whole size k k' place directory' whole master directories now same bits unchanged = record {
  volume = whole.volume;
  size_is = same ∙ whole.size_is;
  chain = subst (IsChain nat_cmp (IsMasterEntryOf 2)) (sym master) whole.chain;
  inside = subst (λ (m : ChainState SpecMasterEntry). AllByRecursion (InSpace size) m.blocks) (sym master) whole.inside;
  aligned =
      let many = ap (λ (ds : List CurrentDirectory). length ds) directories
      ∙ length-set k.directories place directory' in
      let entries = ap (λ (m : ChainState SpecMasterEntry). length m.entries) master in
      let aligned = whole.aligned in
      omega arith;
  each = subst (AllByRecursion (IsWholeDirectory size)) (sym directories)
      (set_each (IsWholeDirectory size) k.directories place directory' whole.each now);
  bits = bits;
  unchanged = unchanged;
}

-- Memory has the new map of the disk.

module _ (size : ℕ) (k k' : CurrentMap) (m : DiskMap) (ppn place : ℕ) (word : ℕ × ℕ)
    (directory directory' : CurrentDirectory)
    (whole : IsWholeMap size k) (there : StandsAt nat_cmp k.master.entries ppn word place)
    (directory_at : slice_get k.directories place ≡ Some directory) (master : k'.master ≡ k.master)
    (directories : k'.directories ≡ slice_set k.directories place directory') (stored after : StoredDirectory)
    (stored_at : get m.directories ppn ≡ Some stored) (c : Contents) (held : MatchesMap size k m c) where
  changed : (i : ℕ) (x : CurrentDirectory) → slice_get k'.directories i ≡ Some x → ((i ≡ place) × (x ≡ directory'))
      ⊎ ((i ≡ place → ⊥) × (slice_get k.directories i ≡ Some x))
  changed i x also = set_cases k.directories place i directory' x (ap (λ ds. slice_get ds i) (sym directories) ∙ also)

  -- an entry in another place has another key
  apart : (i : ℕ) (e : SpecMasterEntry) → slice_get k.master.entries i ≡ Some e → (i ≡ place → ⊥) → e.0 ≡ ppn → ⊥
  apart i e here other = other_key k.master.entries i place ppn e word whole.chain.each_once here there.is other

  each_known : AgreesOnDirectory directory' after → (i : ℕ) (e : SpecMasterEntry) (x : CurrentDirectory)
      → slice_get k'.master.entries i ≡ Some e → slice_get k'.directories i ≡ Some x
      → (s : StoredDirectory) × (get (insert m.directories ppn after) e.0 ≡ Some s) × AgreesOnDirectory x s
  each_known known i e x here also = by_place (changed i x also)
    where
      was : slice_get k.master.entries i ≡ Some e
      was = ap (λ (z : ChainState SpecMasterEntry). slice_get z.entries i) (sym master) ∙ here

      by_place : ((i ≡ place) × (x ≡ directory')) ⊎ ((i ≡ place → ⊥) × (slice_get k.directories i ≡ Some x))
          → (s : StoredDirectory) × (get (insert m.directories ppn after) e.0 ≡ Some s) × AgreesOnDirectory x s
      by_place (inl new) =
          let entry : e ≡ (ppn, word) = some_same (sym was ∙ ap (slice_get k.master.entries) new.0 ∙ there.is) in (
            after,
            ap (λ (z : SpecMasterEntry). get (insert m.directories ppn after) z.0) entry
                ∙ get-insert_same nat_cmp_total m.directories ppn after,
            subst (λ (z : CurrentDirectory). AgreesOnDirectory z after) (sym new.1) known,
          )
      by_place (inr kept) =
          let found = held.known.each i e x was kept.1 in (
            found.0,
            get-insert_other nat_cmp_total nat_cmp-IsAntisymmetric m.directories ppn after e.0 (apart i e was kept.0)
                ∙ found.1,
            found.2,
          )

  names : entry_of after ≡ entry_of stored
      → map_values entry_of (insert m.directories ppn after) ≡ from_entries k'.master.entries
  names entry =
      map_values-insert nat_cmp_total nat_cmp-IsAntisymmetric entry_of m.directories ppn after
      ∙ ap (λ (x : ℕ × ℕ). insert (entries_of m) ppn x) entry
      ∙ insert_same nat_cmp_total nat_cmp-IsAntisymmetric (entries_of m) ppn (entry_of stored)
      (get-map_values nat_cmp_total entry_of m.directories ppn ∙ ap (option_map entry_of) stored_at)
      ∙ held.known.names ∙ ap (λ (z : ChainState SpecMasterEntry). from_entries z.entries) (sym master)

  -- What the directory doesn't reach stays.
  module _ (puts : List Put) (spared : (n : ℕ) → 0 < reaches n m → reaches_in_directory n stored ≡ 0
      → with_puts puts c n ≡ c n) where
    new_master : IsOn master_words (with_puts puts c) k'.master
    new_master = subst (IsOn master_words (with_puts puts c)) (sym master)
        (on_kept master_words c (with_puts puts c) k.master held.master (λ n there.
        let most = at-le-sum nat_cmp_total nat_cmp-IsAntisymmetric (reaches_in_directory n) m.directories ppn stored
        stored_at in
        let few = once size c m held.stands.marked n in
        let e = ap (times n) held.known.chain in
        spared n (omega arith) (omega arith)))

    -- another directory has no block in common with it
    two_chains : (i : ℕ) (x : CurrentDirectory) → (i ≡ place → ⊥) → slice_get k.directories i ≡ Some x → (n : ℕ)
        → times n x.chain.blocks + reaches_in_directory n stored ≤ reaches n m
    two_chains i x other also n =
        let within = slice_get_within k.directories i x also in
        let e = element_at k.master.entries i (omega (arith, within, whole.aligned)) in
        let found = held.known.each i e.0 x e.1 also in
        let both = two-le-sum nat_cmp_total nat_cmp-IsAntisymmetric (reaches_in_directory n) m.directories
        e.0.0 ppn found.0 stored found.1 stored_at (λ same. apart i e.0 e.1 other (sym same)) in
        let same = ap (times n) found.2.chain in
        omega arith

    new_chains : IsOn file_words (with_puts puts c) directory'.chain → (i : ℕ) (x : CurrentDirectory)
        → slice_get k'.directories i ≡ Some x → IsOn file_words (with_puts puts c) x.chain
    new_chains new_on i x also = ⊎_elim
        (λ new. subst (λ (z : CurrentDirectory). IsOn file_words (with_puts puts c) z.chain) (sym new.1) new_on)
        (λ kept. on_kept file_words c (with_puts puts c) x.chain (held.chains i x kept.1) (λ n there.
        let most = two_chains i x kept.0 kept.1 n in
        let few = once size c m held.stands.marked n in
        spared n (omega arith) (omega arith)))
        (changed i x also)

    pub directory_leads : AgreesOnDirectory directory' after → entry_of after ≡ entry_of stored
        → IsOn file_words (with_puts puts c) directory'.chain
        → HasMap size (with_puts puts c) (with_directory m m.chain ppn after)
        → ((n : ℕ) → table_bit size (with_puts puts c) n ≡ bit k'.table n)
        → MatchesMap size k' (with_directory m m.chain ppn after) (with_puts puts c)
    directory_leads new_known entry new_on new_map new_bits = record {
      known = record {
        chain = held.known.chain ∙ ap (λ (z : ChainState SpecMasterEntry). z.blocks) (sym master);
        names = names entry;
        each = each_known new_known;
      };
      stands = new_map;
      master = new_master;
      chains = new_chains new_on;
      bits = new_bits;
    }
