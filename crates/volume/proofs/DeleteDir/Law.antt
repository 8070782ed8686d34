-- The puts of a directory that is deleted lead from the map of the disk to the one without it.
use Rattle.std.proofs.Common.{◌≡◌, inr, ℕ, ◌+◌, ◌<◌, List, slice_get, Some, refl, sym}
use Rattle.std.proofs.Common.{ap, ◌∙◌, arith}
use Rattle.std.specs.Cmp.{nat_cmp_total}
use Rattle.std.specs.FinMap.{nat_cmp-IsAntisymmetric}
use Rattle.blockdisk.specs.Common.{Contents}
use Rattle.spec_image.specs.declared.put.Put.{Put}
use Rattle.spec_image.specs.Common.{head_or_zero, TableFollows, IsMasterChain, entries_of, without_directory}
use Rattle.spec_image.specs.Common.{SpecMasterEntry, master_words, file_words, name_cmp, with_puts, FinMap}
use Rattle.spec_image.specs.Common.{get}
use Rattle.spec_image.specs.Common.{empty, remove, times, map_values, from_entries}
use Rattle.spec_image.specs.Common.{StoredFile, StoredDirectory, DiskMap, HasMap, entry_of, reaches}
use Rattle.spec_image.specs.Common.{table_bit}
use Rattle.spec_image.proofs.Common.{directory_removed, once, same_map, get-empty, get-remove_other, get-map_values}
use Rattle.spec_image.proofs.Common.{map_values-remove, name_total, name_exact}
use Rattle.alloctab.specs.Common.{bit}
use Rattle.directory.specs.Common.{IsOn, on_kept}
use Rattle.volume.specs.Common.{CurrentDirectory, CurrentMap, AgreesOnDirectory, MatchesMap, IsWholeMap}
use Rattle.volume.specs.Common.{IsDirectoryRemoved}
use Rattle.volume.proofs.common.UsedBlocks.{reached_in_space, chain_reached}
use Rattle.volume.proofs.common.Lists.{head_front, none_mapped}
use Rattle.volume.proofs.common.ChainPuts.{PutsBoth, out_of_chain, both_stay, homes_stay, both_on, both_bits}
use Rattle.volume.proofs.common.ChainPuts.{both_undamaged}
use Rattle.volume.proofs.MakeDir.Law.{master_stands}
use Rattle.volume.proofs.DeleteDir.Memory.{puts_both, chain_times, freed_times}
use Rattle.volume.proofs.DeleteDir.Places.{stood_at, was_directory}

-- a map without values is empty
none_mapped_to : {X Y : Type 0} (f : X → Y) (m : FinMap name_cmp X) → map_values f m ≡ empty → m ≡ empty
none_mapped_to {X} {Y} f m none = same_map name_total name_exact m empty
    (λ q. none_mapped f (get m q) (sym (get-map_values name_total f m q) ∙ ap (λ n. get n q) none
    ∙ get-empty name_cmp Y q) ∙ sym (get-empty name_cmp X q))

module _ (size : ℕ) (k k' : CurrentMap) (m : DiskMap) (ppn : ℕ) (puts : List Put) (whole : IsWholeMap size k)
    (removed : IsDirectoryRemoved size k k' ppn puts) (c : Contents) (held : MatchesMap size k m c) where
  abbrev d : CurrentDirectory
  d = removed.directory

  -- the directory in the map
  in_map : (s : StoredDirectory) × (get m.directories ppn ≡ Some s) × AgreesOnDirectory d s
  in_map = held.known.each removed.place (ppn, removed.word) d removed.there.is removed.directory_at

  no_files : in_map.0.files ≡ empty
  no_files = none_mapped_to (λ (f : StoredFile). f.prime) in_map.0.files (in_map.2.names
      ∙ ap from_entries removed.no_entries)

  own_times : (n : ℕ) → times n in_map.0.chain ≡ times n d.chain.blocks
  own_times n = ap (times n) in_map.2.chain

  master_times : (n : ℕ) → times n m.chain ≡ times n k'.master.blocks + times n removed.left
  master_times n = ap (times n) held.known.chain ∙ chain_times size k k' ppn puts whole removed n

  abbrev both : PutsBoth master_words size k.table k'.table k.master k'.master puts
  both = puts_both size k k' ppn puts whole removed

  -- what stays
  reached_stays : (n : ℕ) → 0 < reaches n m → times n m.chain ≡ 0 → with_puts puts c n ≡ c n
  reached_stays n there none = both_stay both c n (inr (reached_in_space size c m held.stands n there).from)
      (let parts = master_times n in omega arith)

  -- the chain of the master directory

  new_on : IsOn master_words (with_puts puts c) k'.master
  new_on = both_on both c held.master

  names : from_entries k'.master.entries ≡ remove (map_values entry_of m.directories) ppn
  names = removed.names ∙ ap (λ f. remove f ppn) (sym held.known.names)

  new_master : IsMasterChain (with_puts puts c) k'.master.blocks (remove (entries_of m) ppn)
  new_master = master_stands (with_puts puts c) k'.master _ removed.chain new_on names

  first_block : head_or_zero k'.master.blocks ≡ head_or_zero m.chain
  first_block = sym (ap head_or_zero (held.known.chain ∙ removed.blocks)
      ∙ head_front k'.master.blocks removed.left (let e = removed.chain.counted in omega arith))

  -- the table

  new_bits : (n : ℕ) → table_bit size (with_puts puts c) n ≡ bit k'.table n
  new_bits = both_bits both c held.bits

  follows : TableFollows size c (with_puts puts c) (λ n. times n m.chain + times n in_map.0.chain)
      (λ n. times n k'.master.blocks)
  follows = record {
    undamaged = both_undamaged both c held.stands.marked.undamaged;
    inside = λ n past. out_of_chain both n (inr past);
    bits = λ n.
        let new = new_bits n in
        let less = removed.bits n in
        let freed = freed_times size k k' ppn puts whole removed n in
        let old = held.bits n in
        let master = master_times n in
        let own = own_times n in
        omega arith;
  }

  new_map : HasMap size (with_puts puts c) (without_directory m k'.master.blocks ppn)
  new_map = directory_removed size c (with_puts puts c) m k'.master.blocks ppn in_map.0 held.stands in_map.1 no_files
      new_master first_block
      (record { home = homes_stay both c; others = λ n there none. reached_stays n there (omega arith) })
      follows

  -- memory

  each_known : (i : ℕ) (e : SpecMasterEntry) (x : CurrentDirectory) → slice_get k'.master.entries i ≡ Some e
      → slice_get k'.directories i ≡ Some x
      → (s : StoredDirectory) × (get (remove m.directories ppn) e.0 ≡ Some s) × AgreesOnDirectory x s
  each_known i e x is also =
      let was = stood_at size k k' ppn puts whole removed i e x is also in
      let old = held.known.each was.0 e x was.1 was.2 in (
        old.0,
        get-remove_other nat_cmp_total nat_cmp-IsAntisymmetric m.directories ppn e.0 was.3 ∙ old.1,
        old.2,
      )

  new_chains : (i : ℕ) (x : CurrentDirectory) → slice_get k'.directories i ≡ Some x
      → IsOn file_words (with_puts puts c) x.chain
  new_chains i x is =
      let was = was_directory size k k' ppn puts whole removed i x is in
      on_kept file_words c (with_puts puts c) x.chain (held.chains was.0 x was.1) (λ n there.
      let most = chain_reached k m held.known whole.aligned was.0 x was.1 n in
      let one = once size c m held.stands.marked n in
      reached_stays n (omega arith) (omega arith))

  pub removing_leads : MatchesMap size k' (without_directory m k'.master.blocks ppn) (with_puts puts c)
  removing_leads = record {
    known = record {
      chain = refl;
      names = map_values-remove nat_cmp_total nat_cmp-IsAntisymmetric entry_of m.directories ppn ∙ sym names;
      each = each_known;
    };
    stands = new_map;
    master = new_on;
    chains = new_chains;
    bits = new_bits;
  }
