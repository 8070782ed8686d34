-- The puts of a directory's quota lead from the map of the disk to the one with the quota.
use Rattle.std.proofs.Common.{◌≡◌, inr, ⊎_elim, ℕ, ◌+◌, ◌*◌, ◌/◌, ◌^◌, ◌<◌, List, slice_get}
use Rattle.std.proofs.Common.{option_map, Some, refl, sym, ap, subst, ◌∙◌, arith}
use Rattle.std.specs.Cmp.{nat_cmp_total}
use Rattle.std.specs.FinMap.{nat_cmp-IsAntisymmetric}
use Rattle.blockdisk.specs.Common.{Contents}
use Rattle.spec_image.specs.declared.put.Put.{Put}
use Rattle.spec_image.specs.Common.{head_or_zero, TableFollows, IsMasterChain, entries_of, with_directory}
use Rattle.spec_image.specs.Common.{SpecMasterEntry, master_word, master_words, file_words, with_puts}
use Rattle.spec_image.specs.Common.{with_quota, files_limited, get, insert, times, map_values, from_entries}
use Rattle.spec_image.specs.Common.{StoredDirectory, DiskMap, HasMap, IsWhole}
use Rattle.spec_image.specs.Common.{directory_of, entry_of, files_of, quota_limit, reaches, table_bit}
use Rattle.spec_image.specs.Changes.{with_protection}
use Rattle.spec_image.proofs.Common.{files_protected, directory_protected, once, some_same, get-insert_same}
use Rattle.spec_image.proofs.Common.{get-insert_other, get-from_entries, get-map_values, map_values-insert}
use Rattle.spec_image.proofs.Common.{quota_bound}
use Rattle.alloctab.specs.Common.{bit}
use Rattle.directory.specs.Common.{IsOn, on_kept}
use Rattle.volume.specs.Common.{word_limited, LimitsDirectory, CurrentDirectory, AgreesOnDirectory, MatchesMap}
use Rattle.volume.specs.Common.{MemoryMap}
use Rattle.volume.specs.Common.{IsWholeMemory}
use Rattle.volume.proofs.common.UsedBlocks.{element_at, reached_in_space, chain_reached}
use Rattle.volume.proofs.common.ChainPuts.{PutsBoth, out_of_chain, both_stay, homes_stay, both_on, both_bits}
use Rattle.volume.proofs.common.ChainPuts.{both_undamaged}
use Rattle.volume.proofs.MakeDir.Law.{master_stands}
use Rattle.volume.proofs.common.Lists.{set_cases, other_key}
use Rattle.volume.proofs.SetQuota.Memory.{next, word_with, limited_chain, puts_both}
use Rattle.volume.proofs.common.SameKeys.{inserted_place, names_inserted}

-- the entry of a directory with another quota
limited_entry : (s : StoredDirectory) (quota : ℕ) → s.quota < 262144
    → word_limited (entry_of s) quota ≡ entry_of (with_protection s s.protection quota)
limited_entry s quota few =
    let word : (master_word s.protection s.quota / 2 ^ 18) * 2 ^ 18 + quota ≡ master_word s.protection quota =
    word_with (master_word s.protection s.quota) s.protection s.quota quota few refl in
    λ i. (word i, head_or_zero s.chain)

-- what is known of a directory says nothing of its quota
known_limited : (x : CurrentDirectory) (s : StoredDirectory) (quota : ℕ) → AgreesOnDirectory x s
    → AgreesOnDirectory x (with_protection s s.protection quota)
known_limited x s quota is = record { chain = is.chain; names = is.names; each = is.each }

module _ (size : ℕ) (c c' : MemoryMap) (m : DiskMap) (ppn quota : ℕ) (puts : List Put) (memory : IsWholeMemory size c)
    (limits : LimitsDirectory c c' ppn quota puts) (fits : quota < quota_limit m.layout) (d : Contents)
    (held : MatchesMap size c.known m d) where
  abbrev after : MemoryMap
  after = next size c c' ppn quota memory limits.limited

  abbrev pub word : ℕ × ℕ
  word = limits.limited.word

  -- the directory in memory and in the map

  pub in_memory : (x : CurrentDirectory) × (slice_get c.known.directories limits.limited.place ≡ Some x)
  in_memory = element_at c.known.directories limits.limited.place
      (let below = limits.limited.there.within in let aligned = memory.map.aligned in omega arith)

  pub in_map : (s : StoredDirectory) × (get m.directories ppn ≡ Some s) × AgreesOnDirectory in_memory.0 s
  in_map = held.known.each limits.limited.place (ppn, word) in_memory.0 limits.limited.there.is in_memory.1

  abbrev pub changed : StoredDirectory
  changed = with_protection in_map.0 in_map.0.protection quota

  abbrev pub map_limited : DiskMap
  map_limited = with_directory m c.known.master.blocks ppn changed

  whole_here : IsWhole m.layout d ppn in_map.0
  whole_here = held.stands.mapped.directories ppn in_map.0 in_map.1

  word_is : word ≡ entry_of in_map.0
  word_is = some_same (sym limits.limited.there.found
      ∙ sym (get-from_entries nat_cmp_total c.known.master.entries ppn)
      ∙ ap (λ f. get f ppn) (sym held.known.names)
      ∙ get-map_values nat_cmp_total entry_of m.directories ppn
      ∙ ap (option_map entry_of) in_map.1)

  entry_is : word_limited word quota ≡ entry_of changed
  entry_is = ap (λ (w : ℕ × ℕ). word_limited w quota) word_is
      ∙ limited_entry in_map.0 quota (quota_bound m.layout in_map.0.quota whole_here.quota)

  names : from_entries after.known.master.entries ≡ insert (map_values entry_of m.directories) ppn (entry_of changed)
  names = names_inserted c.known.master.entries ppn (word_limited word quota)
      ∙ (λ i. insert (sym held.known.names i) ppn (entry_is i))

  abbrev both : PutsBoth master_words size c.known.table c.known.table c.known.master after.known.master puts
  both = puts_both size c c' ppn quota puts memory limits

  -- what stays

  master_times : (n : ℕ) → times n m.chain ≡ times n c.known.master.blocks
  master_times n = ap (times n) held.known.chain

  reached_stays : (n : ℕ) → 0 < reaches n m → times n m.chain ≡ 0 → with_puts puts d n ≡ d n
  reached_stays n there none = both_stay both d n (inr (reached_in_space size d m held.stands n there).from)
      (sym (master_times n) ∙ none)

  -- the chain of the master directory

  new_on : IsOn master_words (with_puts puts d) after.known.master
  new_on = both_on both d held.master

  new_master : IsMasterChain (with_puts puts d) c.known.master.blocks
      (insert (entries_of m) ppn (entry_of changed))
  new_master = master_stands (with_puts puts d) after.known.master _
      (limited_chain size c c' ppn quota memory limits.limited (quota_bound m.layout quota fits)) new_on names

  -- the table

  new_bits : (n : ℕ) → table_bit size (with_puts puts d) n ≡ bit c.known.table n
  new_bits = both_bits both d held.bits

  follows : TableFollows size d (with_puts puts d) (λ n. times n m.chain) (λ n. times n c.known.master.blocks)
  follows = record {
    undamaged = both_undamaged both d held.stands.marked.undamaged;
    inside = λ n past. out_of_chain both n (inr past);
    bits = λ n. let new = new_bits n in let old = held.bits n in let chain = master_times n in omega arith;
  }

  new_map : HasMap size (with_puts puts d) map_limited
  new_map = directory_protected size d (with_puts puts d) m c.known.master.blocks ppn in_map.0 in_map.0.protection quota
      held.stands in_map.1 whole_here.protection fits new_master (ap head_or_zero (sym held.known.chain))
      (record { home = homes_stay both d; others = reached_stays })
      follows

  -- memory

  each_known : (i : ℕ) (e : SpecMasterEntry) (x : CurrentDirectory) → slice_get after.known.master.entries i ≡ Some e
      → slice_get c.known.directories i ≡ Some x
      → (s : StoredDirectory) × (get map_limited.directories e.0 ≡ Some s) × AgreesOnDirectory x s
  each_known i e x is also = ⊎_elim
      (λ here.
      let key : e.0 ≡ ppn = ap (λ (y : SpecMasterEntry). y.0) here.1 in
      let same : in_memory.0 ≡ x =
      some_same (sym in_memory.1 ∙ ap (slice_get c.known.directories) (sym here.0) ∙ also) in (
        changed,
        ap (get map_limited.directories) key ∙ get-insert_same nat_cmp_total m.directories ppn changed,
        subst (λ (y : CurrentDirectory). AgreesOnDirectory y changed) same
            (known_limited in_memory.0 in_map.0 quota in_map.2),
      ))
      (λ other.
      let old = held.known.each i e x other.1 also in
      let apart = other_key c.known.master.entries i limits.limited.place ppn e word memory.map.chain.each_once other.1
      limits.limited.there.is other.0 in (
        old.0,
        get-insert_other nat_cmp_total nat_cmp-IsAntisymmetric m.directories ppn changed e.0 apart ∙ old.1,
        old.2,
      ))
      (set_cases c.known.master.entries limits.limited.place i (ppn, word_limited word quota) e
      (ap (λ l. slice_get l i) (sym (inserted_place c.known.master.entries limits.limited.place ppn word
      (word_limited word quota) limits.limited.there)) ∙ is))

  new_chains : (i : ℕ) (x : CurrentDirectory) → slice_get c.known.directories i ≡ Some x
      → IsOn file_words (with_puts puts d) x.chain
  new_chains i x is =
      on_kept file_words d (with_puts puts d) x.chain (held.chains i x is) (λ n there.
      let most = chain_reached c.known m held.known memory.map.aligned i x is n in
      let one = once size d m held.stands.marked n in
      reached_stays n (omega arith) (omega arith))

  next_held : MatchesMap size after.known map_limited (with_puts puts d)
  next_held = record {
    known = record {
      chain = refl;
      names = map_values-insert nat_cmp_total nat_cmp-IsAntisymmetric entry_of m.directories ppn changed ∙ sym names;
      each = each_known;
    };
    stands = new_map;
    master = new_on;
    chains = new_chains;
    bits = new_bits;
  }

  pub limiting_leads : MatchesMap size c'.known map_limited (with_puts puts d)
  limiting_leads = subst (λ (x : MemoryMap). MatchesMap size x.known map_limited (with_puts puts d))
      (sym limits.limited.map) next_held

  -- the files of the new map

  pub files_next : files_of map_limited ≡ files_limited (files_of m) ppn quota
  files_next = files_protected m c.known.master.blocks ppn in_map.0 in_map.0.protection quota
      ∙ sym (ap (with_quota (files_of m) ppn quota) (get-map_values nat_cmp_total directory_of m.directories ppn
      ∙ ap (option_map directory_of) in_map.1))
