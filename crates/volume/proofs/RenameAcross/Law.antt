-- A file is moved to another directory: what the puts make of the disk's map.
use Rattle.std.proofs.Common.{◌≡◌, ℕ, ◌+◌, ◌<◌, ◌≤◌, ◌⊎◌, inl, inr, ⊎_elim, List, Some, None}
use Rattle.std.proofs.Common.{option_map, length, slice_get, slice_set, refl, sym, ◌∙◌, ap, subst, arith}
use Rattle.std.proofs.lemmas.Option.{slice_get_within}
use Rattle.std.specs.List.{AllByRecursion}
use Rattle.std.specs.Option.{IsSome}
use Rattle.std.specs.Ordering.{nat_cmp}
use Rattle.std.specs.Cmp.{nat_cmp_total}
use Rattle.std.specs.FinMap.{nat_cmp-IsAntisymmetric}
use Rattle.words36.specs.declared.names.FileName.{FileName}
use Rattle.blockdisk.specs.Common.{Contents}
use Rattle.changeset.specs.Common.{IsPutIn, replaced, with_puts-replaced, with_puts_here}
use Rattle.changeset.specs.Common.{with_puts_later, all_replaced, length-replaced}
use Rattle.spec_image.specs.declared.put.Put.{Put}
use Rattle.spec_image.specs.Common.{FinMap, times, get, insert, remove, map_values, from_entries, sum_over}
use Rattle.spec_image.specs.Common.{head_or_zero, table_blocks, table_start, space_start, log_images, IsTarget}
use Rattle.spec_image.specs.Common.{targets, with_puts, table_bit, SpecMasterEntry, master_words, master_word}
use Rattle.spec_image.specs.Common.{file_words, File, Files, Directory}
use Rattle.spec_image.specs.Common.{StoredFile, StoredDirectory, DiskMap, HasMap}
use Rattle.spec_image.specs.Common.{IsVersion, directory_of, files_of, entry_of, place_of, reaches_in_file}
use Rattle.spec_image.specs.Common.{reaches_in_directory, reaches, TableFollows, IsFileChain, primes_of}
use Rattle.spec_image.specs.Common.{with_directory, in_place_of, file_put, file_removed, InSpace}
use Rattle.spec_image.specs.Changes.{with_file, without_file}
use Rattle.spec_image.proofs.Common.{name_total, name_exact, some_same, get-insert_same, get-insert_other}
use Rattle.spec_image.proofs.Common.{insert_same, get-from_entries, get-map_values}
use Rattle.spec_image.proofs.Common.{map_values-insert, times-append, at-le-sum, two-le-sum, once}
use Rattle.spec_image.proofs.Common.{each_times, all_append, renamed_across, files_renamed_across}
use Rattle.spec_image.proofs.Common.{all_left}
use Rattle.alloctab.specs.Common.{bit}
use Rattle.directory.specs.Common.{ChainState, IsOn, on_kept}
use Rattle.volume.specs.Common.{facts_of, known_facts, CurrentVersion, CurrentDirectory, CurrentMap}
use Rattle.volume.specs.Common.{AgreesOnDirectory, MatchesMap, IsWholeMap, IsWholeDirectory, file_protected, file_in}
use Rattle.volume.specs.Common.{files_moved_as, files_moved, IsPrimeMoved, IsMovedAcross, files_put_in}
use Rattle.volume.specs.Common.{files_published, files_without, files_removed}
use Rattle.volume.proofs.VolumeStart.FoundDirectories.{all_at}
use Rattle.volume.proofs.common.Puts.{not_put}
use Rattle.volume.proofs.common.UsedBlocks.{reached_in_space, element_at}
use Rattle.volume.proofs.common.TableBits.{bits_same}
use Rattle.volume.proofs.common.ChainPuts.{out_of_space}
use Rattle.volume.proofs.common.StoredDirectories.{stored_agrees, files_stand, known_without, known_with}
use Rattle.volume.proofs.common.MovedPrimes.{prime_at, prime_reached, file_parts, not_prime, moved_facts, moved_version}
use Rattle.volume.proofs.common.Lists.{head_front, none_mapped, set_cases, other_key}

-- The map with the file in the other directory.

abbrev pub target_with : StoredDirectory → List ℕ → FileName → StoredFile → ℕ → StoredDirectory
target_with stored chain to f protection =
    with_file stored chain to (in_place_of f (file_protected f.file protection))

abbrev pub map_moved_across : DiskMap → ℕ → StoredDirectory → List ℕ → FileName → StoredFile → ℕ → StoredDirectory
    → List ℕ → FileName → ℕ → DiskMap
map_moved_across m ppn stored chain name f to_ppn to_stored to_chain to protection =
    with_directory (with_directory m m.chain ppn (without_file stored chain name)) m.chain to_ppn
    (target_with to_stored to_chain to f protection)

-- its files
pub moved_across_files : (m : DiskMap) (ppn : ℕ) (stored : StoredDirectory) (chain : List ℕ) (name : FileName)
    (f : StoredFile) (to_ppn : ℕ) (to_stored : StoredDirectory) (to_chain : List ℕ) (to : FileName) (protection : ℕ)
    → get m.directories ppn ≡ Some stored → get stored.files name ≡ Some f → get m.directories to_ppn ≡ Some to_stored
    → (to_ppn ≡ ppn → ⊥)
    → files_of (map_moved_across m ppn stored chain name f to_ppn to_stored to_chain to protection)
    ≡ files_moved (files_of m) ppn name to_ppn to protection
moved_across_files m ppn stored chain name f to_ppn to_stored to_chain to protection at f_at to_at apart =
    files_renamed_across m ppn stored name f chain to_ppn to_stored to file to_chain
    ∙ sym (ap (λ o. files_moved_as o fs ppn name to_ppn to protection) found ∙ published)
  where
    fs : Files File
    fs = files_of m

    d : Directory File
    d = directory_of stored

    target : Directory File
    target = directory_of to_stored

    file : File
    file = file_protected f.file protection

    there : get fs ppn ≡ Some d
    there = get-map_values nat_cmp_total directory_of m.directories ppn ∙ ap (option_map directory_of) at

    target_there : get fs to_ppn ≡ Some target
    target_there = get-map_values nat_cmp_total directory_of m.directories to_ppn ∙ ap (option_map directory_of) to_at

    found : file_in (get fs ppn) name ≡ Some f.file
    found = ap (λ o. file_in o name) there ∙ get-map_values name_total (λ (x : StoredFile). x.file) stored.files name
        ∙ ap (option_map (λ (x : StoredFile). x.file)) f_at

    removed : files_removed fs ppn name ≡ insert fs ppn (file_removed d name)
    removed = ap (λ o. files_without o fs ppn name) there

    published : files_published (files_removed fs ppn name) to_ppn to file
        ≡ insert (insert fs ppn (file_removed d name)) to_ppn (file_put target to file)
    published = ap (λ (x : Files File). files_published x to_ppn to file) removed
        ∙ ap (λ o. files_put_in o (insert fs ppn (file_removed d name)) to_ppn to file)
        (get-insert_other nat_cmp_total nat_cmp-IsAntisymmetric fs ppn (file_removed d name) to_ppn apart
        ∙ target_there)

-- a directory with other files, in a chain with the same first block, has the entry of before
same_entry : (ds : FinMap nat_cmp StoredDirectory) (ppn : ℕ) (stored after : StoredDirectory)
    → get ds ppn ≡ Some stored → entry_of after ≡ entry_of stored
    → map_values entry_of (insert ds ppn after) ≡ map_values entry_of ds
same_entry ds ppn stored after at same =
    map_values-insert nat_cmp_total nat_cmp-IsAntisymmetric entry_of ds ppn after
    ∙ ap (insert (map_values entry_of ds) ppn) same
    ∙ insert_same nat_cmp_total nat_cmp-IsAntisymmetric (map_values entry_of ds) ppn (entry_of stored)
    (get-map_values nat_cmp_total entry_of ds ppn ∙ ap (option_map entry_of) at)

-- The puts.

module _ (size : ℕ) (k k' : CurrentMap) (ppn : ℕ) (name : FileName) (to_ppn : ℕ) (to : FileName)
    (old : ℕ × CurrentVersion)
    (v : CurrentVersion) (words : List ℕ) (puts : List Put) (whole : IsWholeMap size k)
    (is : IsMovedAcross size k k' ppn name to_ppn to old v words puts) where
  source_whole : IsWholeDirectory size is.directory
  source_whole = all_at (IsWholeDirectory size) k.directories is.place is.directory whole.each is.directory_at

  target_whole : IsWholeDirectory size is.target
  target_whole = all_at (IsWholeDirectory size) k.directories is.to_place is.target whole.each is.target_at

  pub source_times : (n : ℕ) → times n is.directory.chain.blocks
      ≡ times n is.directory'.chain.blocks + times n is.left
  source_times n = ap (times n) is.blocks ∙ times-append n is.directory'.chain.blocks is.left

  pub target_times : (n : ℕ) → times n is.target'.chain.blocks ≡ times n is.target.chain.blocks + times n is.grown
  target_times n = ap (times n) is.to_blocks ∙ times-append n is.target.chain.blocks is.grown

  source_inside : AllByRecursion (InSpace size) is.directory'.chain.blocks
  source_inside = all_left (InSpace size) is.directory'.chain.blocks is.left
      (subst (AllByRecursion (InSpace size)) is.blocks source_whole.inside)

  target_inside : AllByRecursion (InSpace size) is.target'.chain.blocks
  target_inside = subst (AllByRecursion (InSpace size)) (sym is.to_blocks)
      (all_append (InSpace size) is.target.chain.blocks is.grown target_whole.inside is.inside)

  out_of_chains : (n : ℕ) → (n < space_start size) ⊎ (size ≤ n)
      → times n is.directory'.chain.blocks + times n is.target'.chain.blocks ≡ 0
  out_of_chains n out =
      let source = out_of_space size is.directory'.chain.blocks source_inside n out in
      let target = out_of_space size is.target'.chain.blocks target_inside n out in
      omega arith

  abbrev prime_put : Put
  prime_put = record { block = old.0; words = is.anew }

  abbrev before_table : List Put
  before_table = replaced prime_put is.chain_puts

  -- the prime block has its new words, and no other block changes than those of the table and of the chains

  beside_table : (c : Contents) (n : ℕ) → (n < table_start size) ⊎ (space_start size ≤ n)
      → with_puts puts c n ≡ with_puts before_table c n
  beside_table c n away = is.put_table.others c n away

  prime_before : (c : Contents) → with_puts before_table c old.0 ≡ Some is.anew
  prime_before c = with_puts-replaced prime_put is.chain_puts c old.0
      ∙ with_puts_here prime_put is.chain_puts c old.0 refl

  beside_prime : (c : Contents) (n : ℕ) → (n ≡ old.0 → ⊥) → with_puts before_table c n ≡ with_puts is.chain_puts c n
  beside_prime c n other = with_puts-replaced prime_put is.chain_puts c n
      ∙ with_puts_later prime_put is.chain_puts c n other

  beside_chains : (c : Contents) (n : ℕ) → (n ≡ old.0 → ⊥)
      → times n is.directory'.chain.blocks + times n is.target'.chain.blocks ≡ 0
      → with_puts before_table c n ≡ c n
  beside_chains c n other none =
      beside_prime c n other ∙ is.put_chain.others c n (omega arith) ∙ is.put_target.others c n (omega arith)

  stays : (c : Contents) (n : ℕ) → (n < table_start size) ⊎ (space_start size ≤ n) → (n ≡ old.0 → ⊥)
      → times n is.directory'.chain.blocks + times n is.target'.chain.blocks ≡ 0 → with_puts puts c n ≡ c n
  stays c n away other none = beside_table c n away ∙ beside_chains c n other none

  -- a block of the free space isn't put, except the prime block and those of the chains
  pub moved_across_elsewhere : (n : ℕ) → space_start size ≤ n → (n ≡ old.0 → ⊥)
      → times n is.directory'.chain.blocks + times n is.target'.chain.blocks ≡ 0 → IsPutIn puts n → ⊥
  moved_across_elsewhere n from other none = not_put puts n (λ c. stays c n (inr from) other none)

  pub moved_across_in_range : InSpace size old.0 → AllByRecursion (IsTarget size) (targets puts)
  moved_across_in_range inside = is.put_table.in_range
      (all_replaced (IsTarget size) prime_put is.chain_puts
      (is.put_chain.in_range size source_inside (is.put_target.in_range size target_inside tt))
      (inr (inr (let from = inside.from in omega arith, inside.below))))

  -- nothing before the table is put
  pub moved_across_low : InSpace size old.0 → (n : ℕ) → n < table_start size → IsPutIn puts n → ⊥
  moved_across_low inside n low = not_put puts n (λ c. stays c n (inl low)
      (λ same. let from = inside.from in omega arith) (out_of_chains n (inl (omega arith))))

  pub moved_across_few : length puts ≤ log_images size
  moved_across_few =
      let all = is.put_table.few in
      let most = length-replaced prime_put is.chain_puts in
      let few = is.few in
      omega arith

  -- In the directories that the map has there, of the file that it has of the name.

  module _ (m : DiskMap) (protection : ℕ) (prime_is : IsPrimeMoved old.1.prime v.prime to_ppn to protection)
      (fits : protection < 512) (stored : StoredDirectory) (stored_at : get m.directories ppn ≡ Some stored)
      (f : StoredFile) (f_at : get stored.files name ≡ Some f) (to_stored : StoredDirectory)
      (to_stored_at : get m.directories to_ppn ≡ Some to_stored) (c : Contents) (held : MatchesMap size k m c)
      (read : c old.0 ≡ Some words) where
    abbrev chain : List ℕ
    chain = is.directory'.chain.blocks

    abbrev to_chain : List ℕ
    to_chain = is.target'.chain.blocks

    abbrev file : File
    file = file_protected f.file protection

    abbrev after : StoredDirectory
    after = without_file stored chain name

    abbrev to_after : StoredDirectory
    to_after = target_with to_stored to_chain to f protection

    abbrev new_directories : FinMap nat_cmp StoredDirectory
    new_directories = insert (insert m.directories ppn after) to_ppn to_after

    stored_is : AgreesOnDirectory is.directory stored
    stored_is = stored_agrees held.known is.place ppn is.word is.directory stored is.there.is is.directory_at stored_at

    to_stored_is : AgreesOnDirectory is.target to_stored
    to_stored_is = stored_agrees held.known is.to_place to_ppn is.to_word is.target to_stored is.to_there.is
        is.target_at
        to_stored_at

    facts : facts_of f ≡ known_facts old.0 old.1.prime old.1.version
    facts =
        let was = is.removed.was in
        let found = stored_is.each was.0 (name, old.0) old.1 was.1.is was.2 in
        ap facts_of (some_same (sym f_at ∙ found.1)) ∙ found.2

    version : IsVersion m.layout c (place_of ppn name) f
    version = (held.stands.mapped.directories ppn stored stored_at).files name f f_at

    -- which blocks are meant

    stored_times : (n : ℕ) → times n stored.chain ≡ times n is.directory.chain.blocks
    stored_times n = ap (times n) stored_is.chain

    to_stored_times : (n : ℕ) → times n to_stored.chain ≡ times n is.target.chain.blocks
    to_stored_times n = ap (times n) to_stored_is.chain

    -- the two chains with that of the master directory, and the file's blocks
    in_map : (n : ℕ) → times n m.chain + times n is.directory.chain.blocks + times n is.target.chain.blocks
        + reaches_in_file n f ≤ reaches n m
    in_map n =
        let both = two-le-sum nat_cmp_total nat_cmp-IsAntisymmetric (reaches_in_directory n) m.directories ppn to_ppn
        stored to_stored stored_at to_stored_at is.apart in
        let found : reaches_in_file n f ≤ sum_over (reaches_in_file n) stored.files = at-le-sum
        name_total name_exact (reaches_in_file n) stored.files name f f_at in
        let s = stored_times n in
        let t = to_stored_times n in
        omega arith

    -- all of them are apart, and so is the block that the target takes
    few : (n : ℕ) → times n m.chain + times n is.directory.chain.blocks + times n is.target.chain.blocks
        + reaches_in_file n f + times n is.grown ≤ 1
    few n =
        let most = in_map n in
        let bits = held.bits n in
        let marked = held.stands.marked.bits n in
        let fresh = is.fresh n in
        omega arith

    grown_unreached : (n : ℕ) → 0 < reaches n m → times n is.grown ≡ 0
    grown_unreached n there =
        let bits = held.bits n in
        let marked = held.stands.marked.bits n in
        let fresh = is.fresh n in
        omega arith

    pub moved_across_prime_inside : InSpace size old.0
    moved_across_prime_inside = reached_in_space size c m held.stands old.0
        (let some = prime_reached old f facts old.0 refl in
        let parts = file_parts old f facts old.0 in
        let most = in_map old.0 in
        omega arith)

    prime_apart : times old.0 is.directory'.chain.blocks + times old.0 is.target'.chain.blocks ≡ 0
    prime_apart =
        let some = prime_reached old f facts old.0 refl in
        let parts = file_parts old f facts old.0 in
        let one = few old.0 in
        let s = source_times old.0 in
        let t = target_times old.0 in
        omega arith

    -- what stays

    not_inside : (n : ℕ) → (n < space_start size) ⊎ (size ≤ n) → n ≡ old.0 → ⊥
    not_inside n out same =
        let from = moved_across_prime_inside.from in
        let below = moved_across_prime_inside.below in
        ⊎_elim (λ low. omega arith) (λ high. omega arith) out

    mid_table : (i : ℕ) → i < table_blocks size → with_puts before_table c (table_start size + i)
        ≡ c (table_start size + i)
    mid_table i below = beside_chains c (table_start size + i) (not_inside (table_start size + i) (inl (omega arith)))
        (out_of_chains (table_start size + i) (inl (omega arith)))

    home_stays : (n : ℕ) → n < table_start size → with_puts puts c n ≡ c n
    home_stays n below = stays c n (inl below) (not_inside n (inl (omega arith))) (out_of_chains n (inl (omega arith)))

    reached_stays : (n : ℕ) → 0 < reaches n m
        → times n is.directory.chain.blocks + times n is.target.chain.blocks + reaches_in_file n f ≡ 0
        → with_puts puts c n ≡ c n
    reached_stays n there none =
        stays c n (inr (reached_in_space size c m held.stands n there).from) (not_prime old f facts n (omega arith))
        (let s = source_times n in let t = target_times n in let g = grown_unreached n there in omega arith)

    -- the prime block

    -- the other blocks of the file stay
    new_version : IsVersion m.layout (with_puts puts c) (place_of to_ppn to) (in_place_of f file)
    new_version = moved_version old v f to_ppn to protection facts prime_is m.layout ppn name c version words is.anew
        is.rewritten read fits (with_puts puts c)
        (beside_table c old.0 (inr moved_across_prime_inside.from) ∙ prime_before c)
        (λ n there.
        let parts = file_parts old f facts n in
        let one = few n in
        let s = source_times n in
        let t = target_times n in
        stays c n (inr (reached_in_space size c m held.stands n (let most = in_map n in omega arith)).from)
        (λ same. let some = prime_reached old f facts n same in absurd (omega arith)) (omega arith))

    -- the chains of the two directories

    target_on : IsOn file_words (with_puts puts c) is.target'.chain
    target_on = on_kept file_words (with_puts is.target_puts c) (with_puts puts c) is.target'.chain
        (is.put_target.spells c (held.chains is.to_place is.target is.target_at))
        (λ n there.
        let one = few n in
        let s = source_times n in
        let t = target_times n in
        beside_table c n (inr (each_times (InSpace size) to_chain n target_inside there).from)
        ∙ beside_prime c n (λ same. let none = prime_apart in let here = ap (λ (j : ℕ). times j to_chain) same in
        absurd (omega arith))
        ∙ is.put_chain.others c n (omega arith))

    source_on : IsOn file_words (with_puts puts c) is.directory'.chain
    source_on = on_kept file_words (with_puts is.chain_puts c) (with_puts puts c) is.directory'.chain
        (is.put_chain.spells c (on_kept file_words c (with_puts is.target_puts c) is.directory.chain
        (held.chains is.place is.directory is.directory_at)
        (λ n there. let one = few n in let t = target_times n in is.put_target.others c n (omega arith))))
        (λ n there.
        beside_table c n (inr (each_times (InSpace size) chain n source_inside there).from)
        ∙ beside_prime c n (λ same. let none = prime_apart in let here = ap (λ (j : ℕ). times j chain) same in
        absurd (omega arith)))

    primes : from_entries is.directory'.chain.entries ≡ remove (primes_of stored) name
    primes = is.removed.names ∙ (λ i. remove (sym stored_is.names i) name)

    to_primes : from_entries is.target'.chain.entries ≡ insert (primes_of to_stored) to f.prime
    to_primes = is.entered.names ∙ (λ i. insert (sym to_stored_is.names i) to (sym (prime_at old f facts) i))

    new_chain : IsFileChain (with_puts puts c) chain (remove (primes_of stored) name)
    new_chain = files_stand (with_puts puts c) is.directory'.chain _ is.removed.chain source_on primes

    new_to_chain : IsFileChain (with_puts puts c) to_chain (insert (primes_of to_stored) to f.prime)
    new_to_chain = files_stand (with_puts puts c) is.target'.chain _ is.entered.chain target_on to_primes

    first_block : head_or_zero chain ≡ head_or_zero stored.chain
    first_block =
        sym (head_front chain is.left (let e = is.removed.chain.counted in omega arith))
        ∙ ap head_or_zero (sym is.blocks) ∙ ap head_or_zero (sym stored_is.chain)

    to_first_block : head_or_zero to_chain ≡ head_or_zero to_stored.chain
    to_first_block =
        ap head_or_zero is.to_blocks
        ∙ head_front is.target.chain.blocks is.grown (let e = target_whole.chain.counted in omega arith)
        ∙ ap head_or_zero (sym to_stored_is.chain)

    absent : get to_stored.files to ≡ None
    absent = none_mapped (λ (x : StoredFile). x.prime) (get to_stored.files to)
        (sym (get-map_values name_total (λ x. x.prime) to_stored.files to) ∙ ap (λ x. get x to) to_stored_is.names
        ∙ get-from_entries name_total is.target.chain.entries to ∙ is.entered.was)

    -- the table

    new_bits : (n : ℕ) → table_bit size (with_puts puts c) n ≡ bit k'.table n
    new_bits = is.put_table.spells c (λ n. bits_same size c (with_puts before_table c) mid_table n ∙ held.bits n)

    follows : TableFollows size c (with_puts puts c) (λ n. times n stored.chain + times n to_stored.chain)
        (λ n. times n chain + times n to_chain)
    follows = record {
      undamaged = is.put_table.undamaged c
          (λ i below. subst IsSome (sym (mid_table i below)) (held.stands.marked.undamaged i below));
      inside = λ n past. out_of_chains n (inr past);
      bits = λ n. let a = new_bits n in let b = is.bits n in let e = held.bits n in let s = stored_times n in
          let t = to_stored_times n in let g = source_times n in let h = target_times n in omega arith;
    }

    new_map : HasMap size (with_puts puts c)
        (map_moved_across m ppn stored chain name f to_ppn to_stored to_chain to protection)
    new_map = renamed_across size c (with_puts puts c) m ppn stored name f chain to_ppn to_stored to file to_chain
        held.stands stored_at f_at to_stored_at absent is.apart new_chain first_block new_to_chain to_first_block
        new_version
        (record {
          home = record { first = home_stays 1 (omega arith); second = home_stays 2 (omega arith) };
          others = λ n there none. reached_stays n there
              (let s = stored_times n in let t = to_stored_times n in omega arith);
        })
        follows

    -- memory

    new_known : AgreesOnDirectory is.directory' after
    new_known = known_without is.directory is.directory' name old stored is.removed stored_is

    new_to_known : AgreesOnDirectory is.target' to_after
    new_to_known = known_with is.target is.target' to old.0 v None to_stored (in_place_of f file) is.entered
        to_stored_is
        (moved_facts old v f to_ppn to protection facts prime_is is.lies)

    -- an entry in another place has another key
    other_source : (i : ℕ) (e : SpecMasterEntry) → slice_get k.master.entries i ≡ Some e → (i ≡ is.place → ⊥)
        → e.0 ≡ ppn → ⊥
    other_source i e here other = other_key k.master.entries i is.place ppn e is.word whole.chain.each_once here
        is.there.is other

    other_target : (i : ℕ) (e : SpecMasterEntry) → slice_get k.master.entries i ≡ Some e → (i ≡ is.to_place → ⊥)
        → e.0 ≡ to_ppn → ⊥
    other_target i e here other = other_key k.master.entries i is.to_place to_ppn e is.to_word whole.chain.each_once
        here is.to_there.is other

    -- each directory is one of the two, or as it was
    abbrev Changed : ℕ → CurrentDirectory → Type 0
    Changed i x = ((i ≡ is.place) × (x ≡ is.directory')) ⊎ ((i ≡ is.to_place) × (x ≡ is.target'))
        ⊎ ((i ≡ is.place → ⊥) × (i ≡ is.to_place → ⊥) × (slice_get k.directories i ≡ Some x))

    changed : (i : ℕ) (x : CurrentDirectory) → slice_get k'.directories i ≡ Some x → Changed i x
    changed i x also = ⊎_elim
        (λ (new : (i ≡ is.place) × (x ≡ is.directory')). inl new)
        (λ (kept : (i ≡ is.place → ⊥)
        × (slice_get (slice_set k.directories is.to_place is.target') i ≡ Some x)). inr (⊎_elim
        (λ (new : (i ≡ is.to_place) × (x ≡ is.target')). inl new)
        (λ (still : (i ≡ is.to_place → ⊥) × (slice_get k.directories i ≡ Some x)). inr (kept.0, still.0, still.1))
        (set_cases k.directories is.to_place i is.target' x kept.1)))
        (set_cases (slice_set k.directories is.to_place is.target') is.place i is.directory' x
        (ap (λ ds. slice_get ds i) (sym is.directories) ∙ also))

    each_known : (i : ℕ) (e : SpecMasterEntry) (x : CurrentDirectory) → slice_get k'.master.entries i ≡ Some e
        → slice_get k'.directories i ≡ Some x
        → (s : StoredDirectory) × (get new_directories e.0 ≡ Some s) × AgreesOnDirectory x s
    each_known i e x here also = by_place (changed i x also)
      where
        was : slice_get k.master.entries i ≡ Some e
        was = ap (λ (z : ChainState SpecMasterEntry). slice_get z.entries i) (sym is.master) ∙ here

        by_place : Changed i x → (s : StoredDirectory) × (get new_directories e.0 ≡ Some s) × AgreesOnDirectory x s
        by_place (inl new) =
            let entry : e ≡ (ppn, is.word) = some_same (sym was ∙ ap (slice_get k.master.entries) new.0 ∙ is.there.is)
            in (
              after,
              ap (λ (z : SpecMasterEntry). get new_directories z.0) entry
                  ∙ get-insert_other nat_cmp_total nat_cmp-IsAntisymmetric (insert m.directories ppn after) to_ppn
                  to_after ppn (λ same. is.apart (sym same))
                  ∙ get-insert_same nat_cmp_total m.directories ppn after,
              subst (λ (z : CurrentDirectory). AgreesOnDirectory z after) (sym new.1) new_known,
            )
        by_place (inr (inl new)) =
            let entry : e ≡ (to_ppn, is.to_word) = some_same (sym was ∙ ap (slice_get k.master.entries) new.0
            ∙ is.to_there.is) in (
              to_after,
              ap (λ (z : SpecMasterEntry). get new_directories z.0) entry
                  ∙ get-insert_same nat_cmp_total (insert m.directories ppn after) to_ppn to_after,
              subst (λ (z : CurrentDirectory). AgreesOnDirectory z to_after) (sym new.1) new_to_known,
            )
        by_place (inr (inr kept)) =
            let found = held.known.each i e x was kept.2 in (
              found.0,
              get-insert_other nat_cmp_total nat_cmp-IsAntisymmetric (insert m.directories ppn after) to_ppn to_after
                  e.0 (other_target i e was kept.1)
                  ∙ get-insert_other nat_cmp_total nat_cmp-IsAntisymmetric m.directories ppn after e.0
                  (other_source i e was kept.0) ∙ found.1,
              found.2,
            )

    names : map_values entry_of new_directories ≡ from_entries k'.master.entries
    names =
        same_entry (insert m.directories ppn after) to_ppn to_stored to_after
        (get-insert_other nat_cmp_total nat_cmp-IsAntisymmetric m.directories ppn after to_ppn is.apart ∙ to_stored_at)
        (ap (λ (n : ℕ). (master_word to_stored.protection to_stored.quota, n)) to_first_block)
        ∙ same_entry m.directories ppn stored after stored_at
        (ap (λ (n : ℕ). (master_word stored.protection stored.quota, n)) first_block)
        ∙ held.known.names ∙ ap (λ (z : ChainState SpecMasterEntry). from_entries z.entries) (sym is.master)

    master_times : (n : ℕ) → times n m.chain ≡ times n k.master.blocks
    master_times n = ap (times n) held.known.chain

    new_master : IsOn master_words (with_puts puts c) k'.master
    new_master = subst (IsOn master_words (with_puts puts c)) (sym is.master)
        (on_kept master_words c (with_puts puts c) k.master held.master (λ n there.
        let most = in_map n in
        let one = few n in
        let e = master_times n in
        reached_stays n (omega arith) (omega arith)))

    -- the chain of a third directory has none of these blocks

    beside_source : (i : ℕ) (x : CurrentDirectory) → (i ≡ is.place → ⊥) → slice_get k.directories i ≡ Some x → (n : ℕ)
        → times n x.chain.blocks + (times n is.directory.chain.blocks + reaches_in_file n f) ≤ reaches n m
    beside_source i x other also n =
        let within = slice_get_within k.directories i x also in
        let e = element_at k.master.entries i (omega (arith, within, whole.aligned)) in
        let found = held.known.each i e.0 x e.1 also in
        let both = two-le-sum nat_cmp_total nat_cmp-IsAntisymmetric (reaches_in_directory n) m.directories
        e.0.0 ppn found.0 stored found.1 stored_at (λ same. other_source i e.0 e.1 other (sym same)) in
        let same = ap (times n) found.2.chain in
        let s = stored_times n in
        let part : reaches_in_file n f ≤ sum_over (reaches_in_file n) stored.files = at-le-sum
        name_total name_exact (reaches_in_file n) stored.files name f f_at in
        omega arith

    beside_target : (i : ℕ) (x : CurrentDirectory) → (i ≡ is.to_place → ⊥) → slice_get k.directories i ≡ Some x
        → (n : ℕ) → times n x.chain.blocks + times n is.target.chain.blocks ≤ reaches n m
    beside_target i x other also n =
        let within = slice_get_within k.directories i x also in
        let e = element_at k.master.entries i (omega (arith, within, whole.aligned)) in
        let found = held.known.each i e.0 x e.1 also in
        let both = two-le-sum nat_cmp_total nat_cmp-IsAntisymmetric (reaches_in_directory n) m.directories
        e.0.0 to_ppn found.0 to_stored found.1 to_stored_at (λ same. other_target i e.0 e.1 other (sym same)) in
        let same = ap (times n) found.2.chain in
        let t = to_stored_times n in
        omega arith

    new_chains : (i : ℕ) (x : CurrentDirectory) → slice_get k'.directories i ≡ Some x
        → IsOn file_words (with_puts puts c) x.chain
    new_chains i x also = by_place (changed i x also)
      where
        by_place : Changed i x → IsOn file_words (with_puts puts c) x.chain
        by_place (inl new) = subst (λ (z : CurrentDirectory). IsOn file_words (with_puts puts c) z.chain) (sym new.1)
            source_on
        by_place (inr (inl new)) = subst (λ (z : CurrentDirectory). IsOn file_words (with_puts puts c) z.chain)
            (sym new.1) target_on
        by_place (inr (inr kept)) = on_kept file_words c (with_puts puts c) x.chain (held.chains i x kept.2)
            (λ n there.
            let source = beside_source i x kept.0 kept.2 n in
            let target = beside_target i x kept.1 kept.2 n in
            let one = once size c m held.stands.marked n in
            reached_stays n (omega arith) (omega arith))

    pub moving_across_leads : MatchesMap size k'
        (map_moved_across m ppn stored chain name f to_ppn to_stored to_chain to protection) (with_puts puts c)
    moving_across_leads = record {
      known = record {
        chain = held.known.chain ∙ ap (λ (z : ChainState SpecMasterEntry). z.blocks) (sym is.master);
        names = names;
        each = each_known;
      };
      stands = new_map;
      master = new_master;
      chains = new_chains;
      bits = new_bits;
    }
