-- A file gets another name in its directory: what the puts make of the disk's map.
use Rattle.std.proofs.Common.{◌≡◌, ℕ, ◌+◌, ◌<◌, ◌≤◌, ◌⊎◌, inl, inr, ⊎_elim, List, Some, None}
use Rattle.std.proofs.Common.{option_map, length, slice_get, refl, sym, ◌∙◌, ap, subst, arith}
use Rattle.std.specs.List.{AllByRecursion}
use Rattle.std.specs.Option.{IsSome}
use Rattle.std.specs.Cmp.{nat_cmp_total}
use Rattle.std.specs.FinMap.{nat_cmp-IsAntisymmetric}
use Rattle.words36.specs.declared.names.FileName.{FileName}
use Rattle.blockdisk.specs.Common.{Contents}
use Rattle.changeset.specs.Common.{IsPutIn, with_puts-replaced, with_puts_here}
use Rattle.changeset.specs.Common.{with_puts_later, all_replaced, length-replaced}
use Rattle.spec_image.specs.declared.put.Put.{Put}
use Rattle.spec_image.specs.Common.{times, get, insert, remove, from_entries, sum_over, head_or_zero, table_blocks}
use Rattle.spec_image.specs.Common.{table_start, space_start, log_images, IsTarget, targets, with_puts, table_bit}
use Rattle.spec_image.specs.Common.{master_word, SpecFileEntry, file_words, File, Files, Directory}
use Rattle.spec_image.specs.Common.{StoredFile, StoredDirectory}
use Rattle.spec_image.specs.Common.{DiskMap, HasMap, IsVersion, directory_of, files_of, place_of, reaches_in_file}
use Rattle.spec_image.specs.Common.{reaches_in_directory, reaches, TableFollows, IsFileChain, primes_of}
use Rattle.spec_image.specs.Common.{with_directory, in_place_of, file_put, file_removed, InSpace}
use Rattle.spec_image.specs.Changes.{with_file, without_file}
use Rattle.spec_image.proofs.Common.{name_total, name_exact, some_same, get-insert_same, get-insert_other}
use Rattle.spec_image.proofs.Common.{get-remove_other, insert-insert_same, get-from_entries, get-map_values}
use Rattle.spec_image.proofs.Common.{map_values-insert, map_values-remove, at-le-sum, once}
use Rattle.spec_image.proofs.Common.{renamed_within, files_renamed_within}
use Rattle.alloctab.specs.Common.{bit}
use Rattle.directory.specs.Common.{IsOn, on_kept}
use Rattle.volume.specs.Common.{facts_of, known_facts, CurrentVersion, CurrentMap, AgreesOnFile}
use Rattle.volume.specs.Common.{AgreesOnDirectory}
use Rattle.volume.specs.Common.{MatchesMap, IsWholeMap, IsWholeDirectory, file_protected, file_in, files_moved_as}
use Rattle.volume.specs.Common.{files_moved, IsFreeFor, IsPrimeMoved, IsMovedWithin, files_put_in, files_published}
use Rattle.volume.specs.Common.{files_without, files_removed}
use Rattle.volume.proofs.VolumeStart.FoundDirectories.{all_at}
use Rattle.volume.proofs.common.Puts.{not_put}
use Rattle.volume.proofs.common.UsedBlocks.{reached_in_space}
use Rattle.volume.proofs.common.ChainPuts.{out_of_space}
use Rattle.volume.proofs.common.TableBits.{bits_same}
use Rattle.volume.proofs.common.Lists.{none_mapped}
use Rattle.volume.proofs.common.OneDirectory.{directory_leads}
use Rattle.volume.proofs.common.StoredDirectories.{stored_agrees, files_stand}
use Rattle.volume.proofs.common.MovedPrimes.{prime_at, prime_reached, file_parts, not_prime, moved_facts, moved_version}

-- The directory with the file so, and the map.

abbrev pub directory_moved : StoredDirectory → List ℕ → FileName → FileName → StoredFile → ℕ → StoredDirectory
directory_moved stored chain name to f protection =
    with_file (without_file stored chain name) chain to (in_place_of f (file_protected f.file protection))

abbrev pub map_moved : DiskMap → ℕ → StoredDirectory → List ℕ → FileName → FileName → StoredFile → ℕ → DiskMap
map_moved m ppn stored chain name to f protection =
    with_directory m m.chain ppn (directory_moved stored chain name to f protection)

-- its files
pub moved_files : (m : DiskMap) (ppn : ℕ) (stored : StoredDirectory) (chain : List ℕ) (name to : FileName)
    (f : StoredFile) (protection : ℕ) → get m.directories ppn ≡ Some stored → get stored.files name ≡ Some f
    → files_of (map_moved m ppn stored chain name to f protection)
    ≡ files_moved (files_of m) ppn name ppn to protection
moved_files m ppn stored chain name to f protection at f_at =
    files_renamed_within m ppn stored name to f file chain
    ∙ sym (ap (λ o. files_moved_as o fs ppn name ppn to protection) found ∙ published)
  where
    fs : Files File
    fs = files_of m

    d : Directory File
    d = directory_of stored

    file : File
    file = file_protected f.file protection

    there : get fs ppn ≡ Some d
    there = get-map_values nat_cmp_total directory_of m.directories ppn ∙ ap (option_map directory_of) at

    found : file_in (get fs ppn) name ≡ Some f.file
    found = ap (λ o. file_in o name) there ∙ get-map_values name_total (λ (x : StoredFile). x.file) stored.files name
        ∙ ap (option_map (λ (x : StoredFile). x.file)) f_at

    removed : files_removed fs ppn name ≡ insert fs ppn (file_removed d name)
    removed = ap (λ o. files_without o fs ppn name) there

    published : files_published (files_removed fs ppn name) ppn to file
        ≡ insert fs ppn (file_put (file_removed d name) to file)
    published = ap (λ (x : Files File). files_published x ppn to file) removed
        ∙ ap (λ o. files_put_in o (insert fs ppn (file_removed d name)) ppn to file)
        (get-insert_same nat_cmp_total fs ppn (file_removed d name))
        ∙ insert-insert_same nat_cmp_total nat_cmp-IsAntisymmetric fs ppn (file_removed d name)
        (file_put (file_removed d name) to file)

-- The puts.

module _ (size : ℕ) (k k' : CurrentMap) (ppn : ℕ) (name to : FileName) (old : ℕ × CurrentVersion) (v : CurrentVersion)
    (words : List ℕ) (puts : List Put) (whole : IsWholeMap size k)
    (is : IsMovedWithin size k k' ppn name to old v words puts) where
  pub was_whole : IsWholeDirectory size is.directory
  was_whole = all_at (IsWholeDirectory size) k.directories is.place is.directory whole.each is.directory_at

  pub new_times : (n : ℕ) → times n is.directory'.chain.blocks ≡ times n is.directory.chain.blocks
  new_times n = ap (times n) is.entry.blocks

  new_inside : AllByRecursion (InSpace size) is.directory'.chain.blocks
  new_inside = subst (AllByRecursion (InSpace size)) (sym is.entry.blocks) was_whole.inside

  pub out_of_chain : (n : ℕ) → (n < space_start size) ⊎ (size ≤ n) → times n is.directory'.chain.blocks ≡ 0
  out_of_chain = out_of_space size is.directory'.chain.blocks new_inside

  -- the prime block has its new words, and no other block changes than those of the chain

  pub prime_put : (c : Contents) → with_puts puts c old.0 ≡ Some is.anew
  prime_put c =
      ap (λ (l : List Put). with_puts l c old.0) is.puts_are
      ∙ with_puts-replaced (record { block = old.0; words = is.anew }) is.chain_puts c old.0
      ∙ with_puts_here (record { block = old.0; words = is.anew }) is.chain_puts c old.0 refl

  pub chain_put : (c : Contents) (n : ℕ) → (n ≡ old.0 → ⊥) → with_puts puts c n ≡ with_puts is.chain_puts c n
  chain_put c n other =
      ap (λ (l : List Put). with_puts l c n) is.puts_are
      ∙ with_puts-replaced (record { block = old.0; words = is.anew }) is.chain_puts c n
      ∙ with_puts_later (record { block = old.0; words = is.anew }) is.chain_puts c n other

  pub others_put : (c : Contents) (n : ℕ) → (n ≡ old.0 → ⊥) → times n is.directory'.chain.blocks ≡ 0
      → with_puts puts c n ≡ c n
  others_put c n other none = chain_put c n other ∙ is.put_chain.others c n none

  pub moved_elsewhere : (n : ℕ) → (n ≡ old.0 → ⊥) → times n is.directory'.chain.blocks ≡ 0 → IsPutIn puts n → ⊥
  moved_elsewhere n other none = not_put puts n (λ c. others_put c n other none)

  pub moved_in_range : InSpace size old.0 → AllByRecursion (IsTarget size) (targets puts)
  moved_in_range inside = subst (λ (l : List Put). AllByRecursion (IsTarget size) (targets l)) (sym is.puts_are)
      (all_replaced (IsTarget size) (record { block = old.0; words = is.anew }) is.chain_puts
      (is.put_chain.in_range size new_inside tt)
      (inr (inr (let from = inside.from in omega arith, inside.below))))

  pub moved_few : length puts ≤ log_images size
  moved_few =
      let same = ap (λ (l : List Put). length l) is.puts_are in
      let most = length-replaced (record { block = old.0; words = is.anew }) is.chain_puts in
      let few = is.few in
      omega arith

-- In the directory that the map has there, of the file that it has of the name.

module _ (size : ℕ) (k k' : CurrentMap) (m : DiskMap) (ppn : ℕ) (name to : FileName) (protection : ℕ)
    (old : ℕ × CurrentVersion) (v : CurrentVersion) (words : List ℕ) (puts : List Put) (whole : IsWholeMap size k)
    (is : IsMovedWithin size k k' ppn name to old v words puts)
    (prime_is : IsPrimeMoved old.1.prime v.prime ppn to protection) (fits : protection < 512)
    (stored : StoredDirectory) (stored_at : get m.directories ppn ≡ Some stored) (f : StoredFile)
    (f_at : get stored.files name ≡ Some f) (c : Contents) (held : MatchesMap size k m c)
    (read : c old.0 ≡ Some words) where
  abbrev chain : List ℕ
  chain = is.directory'.chain.blocks

  abbrev file : File
  file = file_protected f.file protection

  abbrev after : StoredDirectory
  after = directory_moved stored chain name to f protection

  stored_is : AgreesOnDirectory is.directory stored
  stored_is = stored_agrees held.known is.place ppn is.word is.directory stored is.there.is is.directory_at stored_at

  facts : facts_of f ≡ known_facts old.0 old.1.prime old.1.version
  facts =
      let was = is.entry.was in
      let found = stored_is.each was.0 (name, old.0) old.1 was.1.is was.2 in
      ap facts_of (some_same (sym f_at ∙ found.1)) ∙ found.2

  version : IsVersion m.layout c (place_of ppn name) f
  version = (held.stands.mapped.directories ppn stored stored_at).files name f f_at

  -- which blocks are meant

  stored_times : (n : ℕ) → times n stored.chain ≡ times n is.directory.chain.blocks
  stored_times n = ap (times n) stored_is.chain

  chain_times : (n : ℕ) → times n chain ≡ times n is.directory.chain.blocks
  chain_times = new_times size k k' ppn name to old v words puts whole is

  -- the chain with that of the master directory, and the file's blocks
  in_map : (n : ℕ) → times n m.chain + times n is.directory.chain.blocks + reaches_in_file n f ≤ reaches n m
  in_map n =
      let all = at-le-sum nat_cmp_total nat_cmp-IsAntisymmetric (reaches_in_directory n) m.directories ppn stored
      stored_at in
      let found : reaches_in_file n f ≤ sum_over (reaches_in_file n) stored.files = at-le-sum
      name_total name_exact (reaches_in_file n) stored.files name f f_at in
      let s = stored_times n in
      omega arith

  few : (n : ℕ) → times n m.chain + times n is.directory.chain.blocks + reaches_in_file n f ≤ 1
  few n = let most = in_map n in let one = once size c m held.stands.marked n in omega arith

  prime_alone : times old.0 chain ≡ 0
  prime_alone =
      let some = prime_reached old f facts old.0 refl in
      let parts = file_parts old f facts old.0 in
      let one = few old.0 in
      let same = chain_times old.0 in
      omega arith

  pub prime_inside : InSpace size old.0
  prime_inside = reached_in_space size c m held.stands old.0
      (let some = prime_reached old f facts old.0 refl in
      let parts = file_parts old f facts old.0 in
      let most = in_map old.0 in
      omega arith)

  -- what stays

  not_inside : (n : ℕ) → (n < space_start size) ⊎ (size ≤ n) → n ≡ old.0 → ⊥
  not_inside n out same =
      let from = prime_inside.from in
      let below = prime_inside.below in
      ⊎_elim (λ low. omega arith) (λ high. omega arith) out

  out : (n : ℕ) → (n < space_start size) ⊎ (size ≤ n) → times n chain ≡ 0
  out = out_of_chain size k k' ppn name to old v words puts whole is

  stays_out : (n : ℕ) → (n < space_start size) ⊎ (size ≤ n) → with_puts puts c n ≡ c n
  stays_out n away = others_put size k k' ppn name to old v words puts whole is c n (not_inside n away) (out n away)

  reached_stays : (n : ℕ) → times n is.directory.chain.blocks + reaches_in_file n f ≡ 0 → with_puts puts c n ≡ c n
  reached_stays n none = others_put size k k' ppn name to old v words puts whole is c n
      (not_prime old f facts n (omega arith)) (let same = chain_times n in omega arith)

  mid_table : (i : ℕ) → i < table_blocks size → with_puts puts c (table_start size + i) ≡ c (table_start size + i)
  mid_table i below = stays_out (table_start size + i) (inl (omega arith))

  -- the prime block

  new_version : IsVersion m.layout (with_puts puts c) (place_of ppn to) (in_place_of f file)
  new_version = moved_version old v f ppn to protection facts prime_is m.layout ppn name c version words is.anew
      is.rewritten read fits (with_puts puts c) (prime_put size k k' ppn name to old v words puts whole is c)
      (λ n there.
      others_put size k k' ppn name to old v words puts whole is c n
      (λ same. let some = prime_reached old f facts n same in let parts = file_parts old f facts n in
      let one = few n in absurd (omega arith))
      (let parts = file_parts old f facts n in let one = few n in let same = chain_times n in omega arith))

  -- the chain of the directory

  new_on : IsOn file_words (with_puts puts c) is.directory'.chain
  new_on = on_kept file_words (with_puts is.chain_puts c) (with_puts puts c) is.directory'.chain
      (is.put_chain.spells c (held.chains is.place is.directory is.directory_at))
      (λ n there. chain_put size k k' ppn name to old v words puts whole is c n
      (λ same. let none = prime_alone in let here = ap (λ (j : ℕ). times j chain) same in absurd (omega arith)))

  primes : from_entries is.directory'.chain.entries ≡ insert (remove (primes_of stored) name) to f.prime
  primes = is.entry.names ∙ (λ i. insert (remove (sym stored_is.names i) name) to (sym (prime_at old f facts) i))

  new_chain : IsFileChain (with_puts puts c) chain (insert (remove (primes_of stored) name) to f.prime)
  new_chain = files_stand (with_puts puts c) is.directory'.chain _ is.entry.chain new_on primes

  first_block : head_or_zero chain ≡ head_or_zero stored.chain
  first_block = ap head_or_zero (is.entry.blocks ∙ sym stored_is.chain)

  free : (to ≡ name) ⊎ (get stored.files to ≡ None)
  free = by is.entry.free
    where
      by : IsFreeFor is.directory name to → (to ≡ name) ⊎ (get stored.files to ≡ None)
      by (inl same) = inl same
      by (inr none) = inr (none_mapped (λ (x : StoredFile). x.prime) (get stored.files to)
          (sym (get-map_values name_total (λ x. x.prime) stored.files to) ∙ ap (λ x. get x to) stored_is.names
          ∙ get-from_entries name_total is.directory.chain.entries to ∙ none))

  -- the table

  new_bits : (n : ℕ) → table_bit size (with_puts puts c) n ≡ bit k'.table n
  new_bits n = bits_same size c (with_puts puts c) mid_table n ∙ held.bits n ∙ ap (λ t. bit t n) (sym is.table)

  follows : TableFollows size c (with_puts puts c) (λ n. times n stored.chain) (λ n. times n chain)
  follows = record {
    undamaged = λ i below. subst IsSome (sym (mid_table i below)) (held.stands.marked.undamaged i below);
    inside = λ n past. out n (inr past);
    bits = λ n. let a = bits_same size c (with_puts puts c) mid_table n in let s = stored_times n in
        let t = chain_times n in omega arith;
  }

  new_map : HasMap size (with_puts puts c) (map_moved m ppn stored chain name to f protection)
  new_map = renamed_within size c (with_puts puts c) m ppn stored name to f file chain
      held.stands stored_at f_at free new_chain first_block
      new_version
      (record {
        home = record { first = stays_out 1 (inl (omega arith)); second = stays_out 2 (inl (omega arith)) };
        others = λ n there none. reached_stays n (let s = stored_times n in omega arith);
      })
      follows

  -- memory

  each_file : (i : ℕ) (e : SpecFileEntry) (u : CurrentVersion) → slice_get is.directory'.chain.entries i ≡ Some e
      → slice_get is.directory'.versions i ≡ Some u → AgreesOnFile after e u
  each_file i e u here also = ⊎_elim
      (λ new.
      let entry : e ≡ (to, old.0) = new.0 in
      let known : u ≡ v = new.1 in (
        in_place_of f file,
        ap (λ (z : SpecFileEntry). get (insert (remove stored.files name) to (in_place_of f file)) z.0) entry
            ∙ get-insert_same name_total (remove stored.files name) to (in_place_of f file),
        moved_facts old v f ppn to protection facts prime_is is.entry.lies
            ∙ sym (λ j. known_facts (entry j).1 (known j).prime (known j).version),
      ))
      (λ kept.
      let found = stored_is.each kept.2 e u kept.3 kept.4 in (
        found.0,
        get-insert_other name_total name_exact (remove stored.files name) to (in_place_of f file) e.0 kept.0
            ∙ get-remove_other name_total name_exact stored.files name e.0 kept.1 ∙ found.1,
        found.2,
      ))
      (is.entry.each i e u here also)

  new_known : AgreesOnDirectory is.directory' after
  new_known = record {
    chain = refl;
    names = map_values-insert name_total name_exact (λ x. x.prime) (remove stored.files name) to (in_place_of f file)
        ∙ ap (λ z. insert z to f.prime) (map_values-remove name_total name_exact (λ x. x.prime) stored.files name)
        ∙ sym primes;
    each = each_file;
  }

  pub moving_leads : MatchesMap size k' (map_moved m ppn stored chain name to f protection) (with_puts puts c)
  moving_leads = directory_leads size k k' m ppn is.place is.word is.directory is.directory' whole is.there
      is.directory_at is.master is.directories stored after stored_at c held puts
      (λ n there none. reached_stays n
      (let s = stored_times n in
      let part : reaches_in_file n f ≤ sum_over (reaches_in_file n) stored.files = at-le-sum
      name_total name_exact (reaches_in_file n) stored.files name f f_at in
      omega arith)) new_known
      (λ i. (master_word stored.protection stored.quota, first_block i)) new_on new_map new_bits
