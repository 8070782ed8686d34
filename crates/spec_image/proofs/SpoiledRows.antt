-- V1 with one change: the faults that it has.
use Rattle.std.proofs.Common.{◌≡◌, ℕ, ◌+◌, ◌/◌, ◌^◌, ◌<◌, ◌≤◌, inl, inr, ⊎_elim, cond, List, [], ◌∷◌, length}
use Rattle.std.proofs.Common.{replicate, get_or, Option, Some, refl, sym, ap, ◌∙◌, arith, lit<, lit≤}
use Rattle.std.proofs.lemmas.Bool.{ne_eqb}
use Rattle.blockdisk.specs.Common.{Contents}
use Rattle.spec_image.specs.declared.put.Put.{Put}
use Rattle.spec_image.specs.Maps.{insert, entries, empty}
use Rattle.spec_image.specs.Blocks.{head_or_zero}
use Rattle.spec_image.specs.Files.{File, Files, Place}
use Rattle.spec_image.specs.Home.{filser_word, SpecHome, home_block, IsHomeCopy, IsHome}
use Rattle.spec_image.specs.Log.{IsGateOpen, open_gate, log_header, IsLog}
use Rattle.spec_image.specs.Table.{table_bit, fixed}
use Rattle.spec_image.specs.Directories.{Node, directory_block, SpecMasterEntry, master_words, SpecFileEntry}
use Rattle.spec_image.specs.Retrieval.{SpecPrime, prime_of, SpecRun, attributes, prime_block, IsPrime, IsRetrieved}
use Rattle.spec_image.specs.Stands.{reaches, place_of, IsMapped, Stands}
use Rattle.spec_image.specs.Walks.{IsMasterWalk, IsDirectoryNamed, IsDirectoryWalk, IsFileNamed, IsPrimeRead}
use Rattle.spec_image.specs.Faults.{InSpace, HasName, malformed, short, of_version, malformed_prime, miscounted}
use Rattle.spec_image.specs.Faults.{ReadFile, ReadDirectory, ReadMap, IsFileRead, IsDirectoryRead, StartFault}
use Rattle.spec_image.specs.Faults.{NotVolume, BadHome, BadLog, BadDirectory, BadRetrieval, BlockTwice, TableWrong}
use Rattle.spec_image.specs.Faults.{BadData, IsSettledFault, HasFault}
use Rattle.spec_image.specs.Vector.{v1, home_words, master_block, file_block, foo_txt, hello, owner, v1_map}
use Rattle.spec_image.specs.Spoiled.{update, nameless_home, v1_not_volume, third_home, v1_bad_home, v1_bad_log}
use Rattle.spec_image.specs.Spoiled.{crowded_master, v1_too_many_entries, v1_looping_directory, late_rib}
use Rattle.spec_image.specs.Spoiled.{v1_late_minute, v1_too_long, v1_damaged_data, v1_shared_block, longer_table}
use Rattle.spec_image.specs.Spoiled.{v1_bit_past_the_end, extra_table, v1_extra_bit}
use Rattle.spec_image.proofs.MapLaws.{some_same}
use Rattle.spec_image.proofs.DiskMaps.{once, mapped_kept}
use Rattle.spec_image.proofs.Excluded.{reached_inside}
use Rattle.spec_image.proofs.ExcludedFiles.{fault_excludes}
use Rattle.spec_image.proofs.Vectors.{v1_has_map}

-- the free space of these disks
free : (n : ℕ) → 15 ≤ n → n < 64 → InSpace 64 n
free n from below = record { from = from; below = below }

-- The gate.

abbrev pub zero_block : List ℕ
zero_block = replicate 128 0

pub gate_closed : (c : Contents) (words : List ℕ) → c 3 ≡ Some words → (words ≡ open_gate → ⊥) → IsGateOpen 64 c → ⊥
gate_closed c words is other gate = other (some_same (sym is ∙ gate.gate))

pub zero_gate : zero_block ≡ open_gate → ⊥
zero_gate is = let first : head_or_zero zero_block ≡ head_or_zero open_gate = ap head_or_zero is in absurd (omega arith)

-- a fault of contents whose gate is zeros, as V1's is
settled_fault : (c : Contents) (fault : StartFault) → c 3 ≡ Some zero_block → IsSettledFault 64 c fault
    → HasFault 64 c fault
settled_fault c fault is bad = inr (c, inl (gate_closed c zero_block is zero_gate, λ n. refl), bad)

-- What a change leaves.

pub elsewhere : (n : ℕ) (content : Option (List ℕ)) (c : Contents) (k : ℕ) → (k ≡ n → ⊥) → update n content c k ≡ c k
elsewhere n content c k h = ap (λ b. cond b content (c k)) (ne_eqb k n h)

-- what V1's map reaches
pub in_space : (n : ℕ) → 0 < reaches n v1_map → InSpace 64 n
in_space n h = reached_inside 64 v1 v1_map v1_has_map n h

-- What a reader of contents finds, if they agree with V1.

abbrev pub master_nodes : List (Node SpecMasterEntry)
master_nodes = (15, (owner, (0o775000000000, 16)) ∷ []) ∷ []

abbrev pub file_nodes : List (Node SpecFileEntry)
file_nodes = (16, (foo_txt, 17) ∷ []) ∷ []

abbrev pub foo_place : Place
foo_place = place_of owner foo_txt

pub home_stands : (c : Contents) → c 1 ≡ Some home_words → IsHome 64 c (record { layout = 1; master = 15 })
home_stands c home = inl (record { words = home; layout = inl refl; master_from = lit≤ tt; master_below = lit< tt })

at_master : (c : Contents) → c 1 ≡ Some home_words → IsMasterWalk 64 c 1 [] 15
at_master c home = record { volume = v1_has_map.volume; master = 15; home = home_stands c home; walk = refl }

module _ (c : Contents) (home : c 1 ≡ Some home_words) (master : c 15 ≡ Some master_block) where
  past_master : IsMasterWalk 64 c 1 master_nodes 0
  past_master = record {
    volume = v1_has_map.volume;
    master = 15;
    home = home_stands c home;
    walk = (refl, lit< tt, 0, master, refl);
  }

  directory_named : IsDirectoryNamed 64 c 1 owner 0o775000000000 16
  directory_named = record { nodes = master_nodes; last = 0; walk = past_master; entry = refl }

  at_directory : IsDirectoryWalk 64 c 1 owner [] 16
  at_directory = record { word = 0o775000000000; first = 16; named = directory_named; walk = refl }

module _ (c : Contents) (home : c 1 ≡ Some home_words) (master : c 15 ≡ Some master_block) (directory : c 16
    ≡ Some file_block) where
  past_directory : IsDirectoryWalk 64 c 1 owner file_nodes 0
  past_directory = record {
    word = 0o775000000000;
    first = 16;
    named = directory_named c home master;
    walk = (refl, lit< tt, 0, directory, refl);
  }

  file_named : IsFileNamed 64 c 1 foo_place 17
  file_named = record { nodes = file_nodes; last = 0; walk = past_directory; entry = refl }

-- a prime block that names one block, for two words
pub retrieved : (c : Contents) (p : SpecPrime) (n : ℕ) → c 17 ≡ Some (prime_block p ((1, n) ∷ []) 0) → IsPrime 1 p
    → p.words ≡ 2 → n < 2 ^ 18 → IsRetrieved 1 c p 17 [] (n ∷ [])
retrieved c p n is fits two small = record {
  runs = (1, n) ∷ [];
  further = [];
  fits = fits;
  prime_is = is;
  few = lit≤ tt;
  full = λ h. absurd (omega arith);
  extended = tt;
  extensions_are = refl;
  nonzero = refl;
  are_runs = ((lit< tt, lit< tt, small), tt);
  blocks_are = refl;
  enough = rw two refl;
}

abbrev hello_prime : SpecPrime
hello_prime = prime_of foo_place hello

hello_fits : IsPrime 1 hello_prime
hello_fits = record { protection = lit< tt; mode = inl refl; time = lit≤ tt; date = lit< tt; few = lit≤ tt }

-- Home blocks and the log.

nameless : (c : Contents) (n : ℕ) → c n ≡ Some nameless_home → HasName c n → ⊥
nameless c n is has =
    let same : nameless_home ≡ filser_word ∷ has.0 = some_same (sym is ∙ has.1) in
    let first : 0 ≡ filser_word = ap head_or_zero same in
    absurd (omega arith)

pub not_volume : HasFault 64 v1_not_volume NotVolume
not_volume = settled_fault v1_not_volume NotVolume refl
    (inr (nameless v1_not_volume 1 refl, nameless v1_not_volume 2 refl))

no_third : (c : Contents) (n : ℕ) → c n ≡ Some third_home → (home : SpecHome) → IsHomeCopy 64 c n home → ⊥
no_third c n is home copy =
    let same : third_home ≡ home_block 64 home = some_same (sym is ∙ copy.words) in
    let third : 3 ≡ home.layout = ap (λ words. get_or words 1 0) same in
    absurd (⊎_elim (λ (one : home.layout ≡ 1). omega arith) (λ (two : home.layout ≡ 2). omega arith) copy.layout)

pub bad_home : HasFault 64 v1_bad_home BadHome
bad_home = settled_fault v1_bad_home BadHome refl (record {
  volume = v1_has_map.volume;
  named = inl (_, refl);
  first = no_third v1_bad_home 1 refl;
  second = no_third v1_bad_home 2 refl;
})

no_log : (c : Contents) → c 4 ≡ Some zero_block → (puts : List Put) → IsLog 64 c puts → ⊥
no_log c is puts log =
    let same : zero_block ≡ log_header puts = some_same (sym is ∙ log.header) in
    let first : head_or_zero zero_block ≡ head_or_zero (log_header puts) = ap head_or_zero same in
    absurd (omega arith)

pub bad_log : HasFault 64 v1_bad_log BadLog
bad_log = inl
    (record { open_gate = record { volume = v1_has_map.volume; gate = refl }; no_log = no_log v1_bad_log refl }, refl)

-- Directories.

crowded : (next : ℕ) (es : List SpecMasterEntry) → Some crowded_master ≡ Some (directory_block master_words next es)
    → length es ≤ 42 → ⊥
crowded next es is few =
    let same : crowded_master ≡ directory_block master_words next es = some_same is in
    let count : 43 ≡ length es = ap (λ words. get_or words 1 0) same in
    absurd (omega arith)

pub too_many_entries : HasFault 64 v1_too_many_entries (BadDirectory 15)
too_many_entries = settled_fault v1_too_many_entries (BadDirectory 15) refl (
  free 15 (lit≤ tt) (lit< tt),
  inl (record {
    layout = 1;
    before = [];
    walk = at_master v1_too_many_entries refl;
    inside = free 15 (lit≤ tt) (lit< tt);
    bad = malformed (λ next es is few are. crowded next es is few);
  }),
)

pub looping_directory : HasFault 64 v1_looping_directory (BadDirectory 16)
looping_directory = settled_fault v1_looping_directory (BadDirectory 16) refl (
  free 16 (lit≤ tt) (lit< tt),
  inr (record {
    layout = 1;
    ppn = owner;
    before = [];
    walk = at_directory v1_looping_directory refl refl;
    inside = free 16 (lit≤ tt) (lit< tt);
    bad = short 16 ((foo_txt, 17) ∷ []) refl (lit< tt) (λ full. absurd (omega arith));
  }),
)

-- The file.

no_late : (p : SpecPrime) (runs : List SpecRun) (next : ℕ) → Some late_rib ≡ Some (prime_block p runs next)
    → IsPrime 1 p → ⊥
no_late p runs next is fits =
    let same : late_rib ≡ prime_block p runs next = some_same is in
    let word : 0o057026407777 ≡ attributes p = ap (λ words. get_or words 3 0) same in
    let mode = fits.mode in
    let time = fits.time in
    let protection = fits.protection in
    absurd (omega arith)

pub late_minute : HasFault 64 v1_late_minute (BadRetrieval 17)
late_minute = settled_fault v1_late_minute (BadRetrieval 17) refl (
  free 17 (lit≤ tt) (lit< tt),
  of_version 1 foo_place 17 (file_named v1_late_minute refl refl refl)
      (malformed_prime (λ p runs next read few. no_late p runs next read.words read.fits)),
)

abbrev long_prime : SpecPrime
long_prime = record { place = foo_place; protection = 0o057; mode = 0; time = 0; date = 4095; words = 129 }

long_read : IsPrimeRead v1_too_long 1 17 long_prime ((1, 18) ∷ []) 0
long_read = record {
  words = refl;
  ppn_fits = record { word = lit< tt; project = lit< tt; programmer = lit< tt };
  ext_fits = lit< tt;
  fits = record { protection = lit< tt; mode = inl refl; time = lit≤ tt; date = lit< tt; few = lit≤ tt };
  are_runs = ((lit< tt, lit< tt, lit< tt), tt);
}

pub too_long : HasFault 64 v1_too_long (BadRetrieval 17)
too_long = settled_fault v1_too_long (BadRetrieval 17) refl (
  free 17 (lit≤ tt) (lit< tt),
  of_version 1 foo_place 17 (file_named v1_too_long refl refl refl)
      (miscounted long_prime ((1, 18) ∷ []) 0 [] long_read refl (λ same. absurd (omega arith))),
)

pub damaged_data : HasFault 64 v1_damaged_data (BadData 18)
damaged_data = settled_fault v1_damaged_data (BadData 18) refl (
  free 18 (lit≤ tt) (lit< tt),
  record {
    layout = 1;
    place = foo_place;
    p = hello_prime;
    prime = 17;
    extensions = [];
    blocks = 18 ∷ [];
    named = file_named v1_damaged_data refl refl refl;
    place_is = refl;
    retrieved = retrieved v1_damaged_data hello_prime 18 refl hello_fits refl (lit< tt);
    inside = lit< tt;
    damaged = refl;
  },
)

abbrev shared_file : ReadFile
shared_file = record { p = hello_prime; prime = 17; extensions = []; blocks = 16 ∷ [] }

abbrev shared_directory : ReadDirectory
shared_directory = record { nodes = file_nodes; last = 0; files = (foo_txt, shared_file) ∷ [] }

abbrev shared_map : ReadMap
shared_map = record { nodes = master_nodes; last = 0; directories = (owner, shared_directory) ∷ [] }

shared_read : IsFileRead 1 v1_shared_block owner ((foo_txt, 17) ∷ []) (foo_txt, shared_file)
shared_read = record {
  entry = refl;
  place_is = refl;
  retrieved = retrieved v1_shared_block hello_prime 16 refl hello_fits refl (lit< tt);
}

shared_directory_read : IsDirectoryRead 1 v1_shared_block ((owner, (0o775000000000, 16)) ∷ []) (owner, shared_directory)
shared_directory_read = record {
  word = 0o775000000000;
  first = 16;
  entry = refl;
  walk = (refl, lit< tt, 0, refl, refl);
  once = (refl, tt);
  files = (shared_read, tt);
}

pub shared_block : HasFault 64 v1_shared_block (BlockTwice 16)
shared_block = settled_fault v1_shared_block (BlockTwice 16) refl (
  free 16 (lit≤ tt) (lit< tt),
  record {
    m = shared_map;
    read = record {
      layout = 1;
      walk = past_master v1_shared_block refl refl;
      once = (refl, tt);
      directories = (shared_directory_read, tt);
    };
    twice = lit≤ tt;
  },
)

-- The table.

module _ (words : List ℕ) where
  table_kept : (n : ℕ) → 0 < reaches n v1_map → update 14 (Some words) v1 n ≡ v1 n
  table_kept n h = elsewhere 14 (Some words) v1 n (λ e. let k = (in_space n h).from in absurd (omega arith))

  table_mapped : IsMapped 64 (update 14 (Some words) v1) v1_map
  table_mapped = mapped_kept 64 v1 (update 14 (Some words) v1) v1_map v1_has_map.mapped refl refl table_kept

  wrong_table : (k : ℕ) → k / 4608 ≡ 0 → (table_bit 64 (update 14 (Some words) v1) k ≡ fixed 64 k + reaches k v1_map
      → ⊥) → HasFault 64 (update 14 (Some words) v1) (TableWrong 14)
  wrong_table k first wrong = settled_fault (update 14 (Some words) v1) (TableWrong 14) refl (record {
    m = v1_map;
    volume = v1_has_map.volume;
    mapped = table_mapped;
    once = once 64 v1 v1_map v1_has_map.marked;
    inside = in_space;
    i = 0;
    in_table = lit< tt;
    block = refl;
    wrong = inr (k, first, wrong);
  })

pub bit_past_the_end : HasFault 64 v1_bit_past_the_end (TableWrong 14)
unfolding empty insert entries
bit_past_the_end = wrong_table longer_table 107 refl (λ same. let e : 1 ≡ 0 = same in absurd (omega arith))

pub extra_bit : HasFault 64 v1_extra_bit (TableWrong 14)
unfolding empty insert entries
extra_bit = wrong_table extra_table 19 refl (λ same. let e : 1 ≡ 0 = same in absurd (omega arith))

-- No files.

pub no_shared : (files : Files File) → Stands 64 v1_shared_block files → ⊥
no_shared files = fault_excludes 64 v1_shared_block files (BlockTwice 16) shared_block

pub no_damaged : (files : Files File) → Stands 64 v1_damaged_data files → ⊥
no_damaged files = fault_excludes 64 v1_damaged_data files (BadData 18) damaged_data
