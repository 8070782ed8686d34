-- A file is deleted: what the puts make of the disk's map.
use Rattle.std.proofs.Common.{◌≡◌, ℕ, ◌+◌, ◌<◌, inr, List, ◌++◌, Some, option_map}
use Rattle.std.proofs.Common.{sym, ◌∙◌, ap, subst, arith}
use Rattle.std.specs.List.{AllByRecursion}
use Rattle.std.specs.Cmp.{nat_cmp_total}
use Rattle.words36.specs.declared.names.FileName.{FileName}
use Rattle.blockdisk.specs.Common.{Contents}
use Rattle.spec_image.specs.declared.put.Put.{Put}
use Rattle.spec_image.specs.Common.{times, get, remove, from_entries, head_or_zero}
use Rattle.spec_image.specs.Common.{with_puts, table_bit, master_word}
use Rattle.spec_image.specs.Common.{file_words, StoredFile, StoredDirectory, DiskMap}
use Rattle.spec_image.specs.Common.{HasMap}
use Rattle.spec_image.specs.Common.{directory_of, files_of, reaches_in_file, reaches, TableFollows, IsFileChain}
use Rattle.spec_image.specs.Common.{primes_of, with_directory, InSpace}
use Rattle.spec_image.specs.Changes.{without_file}
use Rattle.spec_image.proofs.Common.{get-map_values}
use Rattle.spec_image.proofs.Common.{times-append, removed, all_left}
use Rattle.spec_image.proofs.ChangedFiles.{files_removed as files_of_removed}
use Rattle.alloctab.specs.Common.{bit}
use Rattle.directory.specs.Common.{IsOn}
use Rattle.volume.specs.Common.{CurrentVersion, CurrentMap, AgreesOnFile, AgreesOnDirectory, MatchesMap}
use Rattle.volume.specs.Common.{IsWholeDirectory}
use Rattle.volume.specs.Common.{IsWholeMap, blocks_reached, files_without, files_removed, IsRemoved}
use Rattle.volume.proofs.VolumeStart.FoundDirectories.{all_at}
use Rattle.volume.proofs.common.ChainPuts.{PutsBoth, out_of_chain, both_stay, homes_stay, both_on, both_bits}
use Rattle.volume.proofs.common.ChainPuts.{both_undamaged}
use Rattle.volume.proofs.common.UsedBlocks.{reached_in_space}
use Rattle.volume.proofs.common.Lists.{head_front}
use Rattle.volume.proofs.common.OneDirectory.{directory_leads}
use Rattle.volume.proofs.common.StoredDirectories.{stored_agrees, files_stand, known_without}
use Rattle.volume.proofs.common.ReachedBlocks.{file_times}

-- The map without the file.

abbrev pub map_removed : DiskMap → ℕ → StoredDirectory → List ℕ → FileName → DiskMap
map_removed m ppn stored chain name = with_directory m m.chain ppn (without_file stored chain name)

-- its files
pub removed_files : (m : DiskMap) (ppn : ℕ) (stored : StoredDirectory) (chain : List ℕ) (name : FileName)
    → get m.directories ppn ≡ Some stored
    → files_of (map_removed m ppn stored chain name) ≡ files_removed (files_of m) ppn name
removed_files m ppn stored chain name at =
    files_of_removed m ppn stored name chain
    ∙ ap (λ o. files_without o (files_of m) ppn name)
    (sym (get-map_values nat_cmp_total directory_of m.directories ppn ∙ ap (option_map directory_of) at))

-- The puts.

module _ (size : ℕ) (k k' : CurrentMap) (ppn : ℕ) (name : FileName) (old : ℕ × CurrentVersion) (puts : List Put)
    (whole : IsWholeMap size k) (is : IsRemoved size k k' ppn name old puts) where
  was_whole : IsWholeDirectory size is.directory
  was_whole = all_at (IsWholeDirectory size) k.directories is.place is.directory whole.each is.directory_at

  pub chain_times : (n : ℕ) → times n is.directory.chain.blocks
      ≡ times n is.directory'.chain.blocks + times n is.left
  chain_times n = ap (times n) is.blocks ∙ times-append n is.directory'.chain.blocks is.left

  pub new_inside : AllByRecursion (InSpace size) is.directory'.chain.blocks
  new_inside = all_left (InSpace size) is.directory'.chain.blocks is.left
      (subst (AllByRecursion (InSpace size)) is.blocks was_whole.inside)

  abbrev pub puts_both : PutsBoth file_words size k.table k'.table is.directory.chain is.directory'.chain puts
  puts_both = record {
    chain_puts = is.chain_puts;
    chain = is.put_chain;
    few = is.few;
    table = is.put;
    inside = new_inside;
  }

  -- In the directory that the map has there.

  module _ (m : DiskMap) (stored : StoredDirectory) (stored_at : get m.directories ppn ≡ Some stored) (c : Contents)
      (held : MatchesMap size k m c) where
    -- which blocks are meant

    stored_is : AgreesOnDirectory is.directory stored
    stored_is = stored_agrees held.known is.place ppn is.word is.directory stored is.there.is is.directory_at stored_at

    stored_times : (n : ℕ) → times n stored.chain ≡ times n is.directory.chain.blocks
    stored_times n = ap (times n) stored_is.chain

    -- the file
    file : AgreesOnFile stored (name, old.0) old.1
    file = let named = is.entry.was in stored_is.each named.0 (name, old.0) old.1 named.1.is named.2

    abbrev f : StoredFile
    f = file.0

    file_is : (n : ℕ) → reaches_in_file n f ≡ times n (blocks_reached old.0 old.1.version)
    file_is = file_times f old.0 old.1 file.2

    gone_times : (n : ℕ) → times n (is.left ++ blocks_reached old.0 old.1.version)
        ≡ times n is.left + reaches_in_file n f
    gone_times n = times-append n is.left (blocks_reached old.0 old.1.version)
        ∙ ap (λ (r : ℕ). times n is.left + r) (sym (file_is n))

    -- what stays

    reached_stays : (n : ℕ) → 0 < reaches n m → times n is.directory.chain.blocks ≡ 0 → with_puts puts c n ≡ c n
    reached_stays n there none = both_stay puts_both c n (inr (reached_in_space size c m held.stands n there).from)
        (let e = chain_times n in omega arith)

    -- the chain of the directory

    new_on : IsOn file_words (with_puts puts c) is.directory'.chain
    new_on = both_on puts_both c (held.chains is.place is.directory is.directory_at)

    primes : from_entries is.directory'.chain.entries ≡ remove (primes_of stored) name
    primes = is.entry.names ∙ (λ i. remove (sym stored_is.names i) name)

    new_chain : IsFileChain (with_puts puts c) is.directory'.chain.blocks (remove (primes_of stored) name)
    new_chain = files_stand (with_puts puts c) is.directory'.chain _ is.entry.chain new_on primes

    first_block : head_or_zero is.directory'.chain.blocks ≡ head_or_zero stored.chain
    first_block =
        sym (head_front is.directory'.chain.blocks is.left (let e = is.entry.chain.counted in omega arith))
        ∙ ap head_or_zero (sym is.blocks) ∙ ap head_or_zero (sym stored_is.chain)

    -- the table

    new_bits : (n : ℕ) → table_bit size (with_puts puts c) n ≡ bit k'.table n
    new_bits = both_bits puts_both c held.bits

    follows : TableFollows size c (with_puts puts c) (λ n. times n stored.chain + reaches_in_file n f)
        (λ n. times n is.directory'.chain.blocks)
    follows = record {
      undamaged = both_undamaged puts_both c held.stands.marked.undamaged;
      inside = λ n past. out_of_chain puts_both n (inr past);
      bits = λ n. let a = new_bits n in let b = is.bits n in let e = held.bits n in let g = gone_times n in
          let h = chain_times n in let s = stored_times n in omega arith;
    }

    new_map : HasMap size (with_puts puts c) (map_removed m ppn stored is.directory'.chain.blocks name)
    new_map = removed size c (with_puts puts c) m ppn stored name f is.directory'.chain.blocks held.stands stored_at
        file.1 new_chain first_block
        (record {
          home = homes_stay puts_both c;
          others = λ n there none. reached_stays n there (let s = stored_times n in omega arith);
        })
        follows

    -- memory

    pub removing_leads_in : MatchesMap size k' (map_removed m ppn stored is.directory'.chain.blocks name)
        (with_puts puts c)
    removing_leads_in = directory_leads size k k' m ppn is.place is.word is.directory is.directory' whole is.there
        is.directory_at is.master is.directories stored (without_file stored is.directory'.chain.blocks name) stored_at
        c held puts (λ n there none. reached_stays n there (let s = stored_times n in omega arith))
        (known_without is.directory is.directory' name old stored is.entry stored_is)
        (λ i. (master_word stored.protection stored.quota, first_block i)) new_on new_map new_bits
