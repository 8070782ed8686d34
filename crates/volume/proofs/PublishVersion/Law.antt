-- A version becomes the file of its name: what the puts make of the disk's map.
use Rattle.std.proofs.Common.{◌≡◌, ℕ, ◌+◌, ◌<◌, ◌≤◌, inr, ⊎_elim, List, ◌∷◌, ◌++◌, Some, option_map}
use Rattle.std.proofs.Common.{refl, sym, ◌∙◌, ap, arith}
use Rattle.std.specs.Cmp.{nat_cmp_total}
use Rattle.std.specs.FinMap.{nat_cmp-IsAntisymmetric}
use Rattle.words36.specs.declared.names.FileName.{FileName}
use Rattle.blockdisk.specs.Common.{Contents}
use Rattle.spec_image.specs.declared.put.Put.{Put}
use Rattle.spec_image.specs.Common.{times, get, insert, from_entries, sum_over, head_or_zero}
use Rattle.spec_image.specs.Common.{with_puts, table_bit, master_word}
use Rattle.spec_image.specs.Common.{file_words, StoredFile, StoredDirectory, DiskMap, HasMap, IsVersion}
use Rattle.spec_image.specs.Common.{directory_of, files_of, place_of, reaches_in_file, reaches_in_directory, reaches}
use Rattle.spec_image.specs.Common.{TableFollows, IsFileChain, primes_of, reaches_in_found, with_directory, InSpace}
use Rattle.spec_image.specs.Changes.{with_file}
use Rattle.spec_image.proofs.Common.{name_total, name_exact}
use Rattle.spec_image.proofs.Common.{get-map_values, times-append, at-le-sum, found-le-sum}
use Rattle.spec_image.proofs.Common.{each_times, version_kept, published}
use Rattle.spec_image.proofs.ChangedFiles.{files_published as files_of_published}
use Rattle.alloctab.specs.Common.{bit}
use Rattle.directory.specs.Common.{IsOn}
use Rattle.volume.specs.Common.{facts_of, known_facts, CurrentVersion, CurrentMap, AgreesOnDirectory}
use Rattle.volume.specs.Common.{AgreesOnMap}
use Rattle.volume.specs.Common.{MatchesMap, IsWholeMap, blocks_reached, Before, given_up, files_put_in, files_published}
use Rattle.volume.specs.Common.{IsPublished}
use Rattle.volume.proofs.common.UsedBlocks.{reached_in_space}
use Rattle.volume.proofs.common.OneDirectory.{directory_leads}
use Rattle.volume.proofs.common.StoredDirectories.{stored_agrees, files_stand, known_with}
use Rattle.volume.proofs.common.ReachedBlocks.{file_times}
use Rattle.volume.proofs.PublishVersion.Puts.{given_up_is, was_whole, published_times, puts_both}
use Rattle.volume.proofs.common.Lists.{head_front}
use Rattle.volume.proofs.common.ChainPuts.{PutsBoth, out_of_chain, both_stay, homes_stay, both_on, both_bits}
use Rattle.volume.proofs.common.ChainPuts.{both_undamaged}
use Rattle.changeset.specs.Common.{some_or_none}

-- The map with the file.

abbrev pub map_published : DiskMap → ℕ → StoredDirectory → List ℕ → FileName → StoredFile → DiskMap
map_published m ppn stored chain name f = with_directory m m.chain ppn (with_file stored chain name f)

-- its files
pub published_files : (m : DiskMap) (ppn : ℕ) (stored : StoredDirectory) (chain : List ℕ) (name : FileName)
    (f : StoredFile) → get m.directories ppn ≡ Some stored
    → files_of (map_published m ppn stored chain name f) ≡ files_published (files_of m) ppn name f.file
published_files m ppn stored chain name f at =
    files_of_published m ppn stored name f chain
    ∙ ap (λ o. files_put_in o (files_of m) ppn name f.file)
    (sym (get-map_values nat_cmp_total directory_of m.directories ppn ∙ ap (option_map directory_of) at))

-- In the directory that the map has there.

module _ (size : ℕ) (k k' : CurrentMap) (m : DiskMap) (ppn : ℕ) (name : FileName) (at : ℕ) (v : CurrentVersion)
    (old : Before) (puts : List Put) (whole : IsWholeMap size k) (is : IsPublished size k k' ppn name at v old puts)
    (stored : StoredDirectory) (stored_at : get m.directories ppn ≡ Some stored) (c : Contents)
    (held : MatchesMap size k m c) (f : StoredFile) (facts : facts_of f ≡ known_facts at v.prime v.version)
    (version : IsVersion m.layout c (place_of ppn name) f) where
  -- which blocks are meant

  stored_is : AgreesOnDirectory is.directory stored
  stored_is = stored_agrees held.known is.place ppn is.word is.directory stored is.there.is is.directory_at stored_at

  stored_times : (n : ℕ) → times n stored.chain ≡ times n is.directory.chain.blocks
  stored_times n = ap (times n) stored_is.chain

  new_times : (n : ℕ) → times n is.directory'.chain.blocks ≡ times n is.directory.chain.blocks + times n is.grown
  new_times = published_times size k k' ppn name at v old puts whole is

  fresh_times : (n : ℕ) → times n (is.grown ++ blocks_reached at v.version) ≡ times n is.grown + reaches_in_file n f
  fresh_times n = times-append n is.grown (blocks_reached at v.version)
      ∙ ap (λ (r : ℕ). times n is.grown + r) (sym (file_times f at v facts n))

  given_times : (n : ℕ) → reaches_in_found n (get stored.files name) ≡ given_up n old
  given_times = given_up_is is.directory stored name old stored_is is.entry.was

  taken_times : (n : ℕ) → times n (is.grown ++ at ∷ v.version.ribs) ≡ times n is.grown + times n (at ∷ v.version.ribs)
  taken_times n = times-append n is.grown (at ∷ v.version.ribs)

  grown_unreached : (n : ℕ) → 0 < times n is.grown → reaches n m ≡ 0
  grown_unreached n there =
      let few = is.fresh n in
      let t = taken_times n in
      let e = held.bits n in
      let b = held.stands.marked.bits n in
      omega arith

  -- the chain with that of the master directory, and the version of before
  in_map : (n : ℕ) → times n m.chain + times n is.directory.chain.blocks + given_up n old ≤ reaches n m
  in_map n =
      let all = at-le-sum nat_cmp_total nat_cmp-IsAntisymmetric (reaches_in_directory n) m.directories ppn stored
      stored_at in
      let found : reaches_in_found n (get stored.files name) ≤ sum_over (reaches_in_file n) stored.files = found-le-sum
      name_total name_exact (reaches_in_file n) stored.files name (get stored.files name) refl in
      let s = stored_times n in
      let was = given_times n in
      omega arith

  -- A block of the file is not in its directory's chain: one that the chain takes is nowhere else, and one that the map
  -- reaches occurs in the version before.
  new_apart : (n : ℕ) → 0 < reaches_in_file n f → times n is.directory'.chain.blocks ≡ 0
  new_apart n there =
      let e = new_times n in
      let few = is.fresh n in
      let t = taken_times n in
      let all = is.once n in
      let g = fresh_times n in
      let most = in_map n in
      let bits = held.bits n in
      let b = held.stands.marked.bits n in
      omega arith

  abbrev both : PutsBoth file_words size k.table k'.table is.directory.chain is.directory'.chain puts
  both = puts_both size k k' ppn name at v old puts whole is

  -- what stays

  reached_stays : (n : ℕ) → 0 < reaches n m → times n is.directory.chain.blocks ≡ 0 → with_puts puts c n ≡ c n
  reached_stays n there none =
      both_stay both c n (inr (reached_in_space size c m held.stands n there).from)
      (let e = new_times n in
      ⊎_elim (λ grown. absurd (let z = grown_unreached n grown in omega arith)) (λ no. omega arith)
      (some_or_none (times n is.grown)))

  new_version : IsVersion m.layout (with_puts puts c) (place_of ppn name) f
  new_version = version_kept m.layout c (with_puts puts c) (place_of ppn name) f version (λ n there.
      let g = fresh_times n in
      both_stay both c n (inr (each_times (InSpace size) (is.grown ++ blocks_reached at v.version) n is.inside
      (omega arith)).from) (new_apart n there))

  -- the chain of the directory

  new_on : IsOn file_words (with_puts puts c) is.directory'.chain
  new_on = both_on both c (held.chains is.place is.directory is.directory_at)

  primes : from_entries is.directory'.chain.entries ≡ insert (primes_of stored) name f.prime
  primes = is.entry.names ∙ (λ i. insert (sym stored_is.names i) name (sym facts i).prime)

  new_chain : IsFileChain (with_puts puts c) is.directory'.chain.blocks (insert (primes_of stored) name f.prime)
  new_chain = files_stand (with_puts puts c) is.directory'.chain _ is.entry.chain new_on primes

  first_block : head_or_zero is.directory'.chain.blocks ≡ head_or_zero stored.chain
  first_block =
      ap head_or_zero is.blocks
      ∙ head_front is.directory.chain.blocks is.grown
      (let e = (was_whole size k k' ppn name at v old puts whole is).chain.counted in omega arith)
      ∙ ap head_or_zero (sym stored_is.chain)

  -- the table

  new_bits : (n : ℕ) → table_bit size (with_puts puts c) n ≡ bit k'.table n
  new_bits = both_bits both c held.bits

  follows : TableFollows size c (with_puts puts c) (λ n. times n stored.chain
      + reaches_in_found n (get stored.files name)) (λ n. times n is.directory'.chain.blocks + reaches_in_file n f)
  follows = record {
    undamaged = both_undamaged both c held.stands.marked.undamaged;
    inside = λ n past. let none = out_of_chain both n (inr past) in let g = fresh_times n in
        ⊎_elim (λ there. absurd (let below = (each_times (InSpace size) (is.grown
        ++ blocks_reached at v.version) n is.inside there).below in omega arith)) (λ no. omega arith)
        (some_or_none (times n (is.grown ++ blocks_reached at v.version)));
    bits = λ n. let a = new_bits n in let b = is.bits n in let e = held.bits n in let g = fresh_times n in
        let h = new_times n in let s = stored_times n in let was = given_times n in omega arith;
  }

  new_map : HasMap size (with_puts puts c) (map_published m ppn stored is.directory'.chain.blocks name f)
  new_map = published size c (with_puts puts c) m ppn stored name (get stored.files name) f is.directory'.chain.blocks
      held.stands stored_at refl new_chain first_block
      new_version
      (record {
        home = homes_stay both c;
        others = λ n there none. reached_stays n there (let s = stored_times n in omega arith);
      })
      follows

  pub publishing_leads_in : MatchesMap size k' (map_published m ppn stored is.directory'.chain.blocks name f)
      (with_puts puts c)
  publishing_leads_in = directory_leads size k k' m ppn is.place is.word is.directory is.directory' whole is.there
      is.directory_at is.master is.directories stored (with_file stored is.directory'.chain.blocks name f) stored_at c
      held puts (λ n there none. reached_stays n there (let s = stored_times n in omega arith))
      (known_with is.directory is.directory' name at v old stored f is.entry stored_is facts)
      (λ i. (master_word stored.protection stored.quota, first_block i)) new_on new_map new_bits

-- In the directory that the map has for the place in memory.

module _ (size : ℕ) (k k' : CurrentMap) (m : DiskMap) (ppn : ℕ) (name : FileName) (at : ℕ) (v : CurrentVersion)
    (old : Before) (puts : List Put) (is : IsPublished size k k' ppn name at v old puts) (known : AgreesOnMap k m) where
  abbrev pub stored : StoredDirectory
  stored = (known.each is.place (ppn, is.word) is.directory is.there.is is.directory_at).0

  pub stored_at : get m.directories ppn ≡ Some stored
  stored_at = (known.each is.place (ppn, is.word) is.directory is.there.is is.directory_at).1
