-- If the contents have a fault, they stand for no files.
use Rattle.std.proofs.Common.{◌≡◌, ℕ, ◌^◌, ◌<◌, ⊎_elim, List, [], ◌∷◌, ◌++◌, length, option_map, Option, Some, None}
use Rattle.std.proofs.Common.{refl, sym, ap, subst, ◌∙◌, arith, nat_cmp, Ordering, append_assoc}
use Rattle.std.specs.FinMap.{nat_cmp-IsAntisymmetric}
use Rattle.std.proofs.lemmas.Bool.{cases_lt}
use Rattle.words36.specs.Common.{IsPpn}
use Rattle.std.proofs.lemmas.List.{map-append}
use Rattle.std.specs.List.{AllByRecursion}
use Rattle.std.specs.FinMap.Entries.{find}
use Rattle.std.specs.Cmp.{nat_cmp_total}
use Rattle.words36.specs.declared.names.FileName.{FileName}
use Rattle.blockdisk.specs.Common.{Contents}
use Rattle.spec_image.specs.Maps.{FinMap, get, map_values, EachOnce, times}
use Rattle.spec_image.specs.Blocks.{head_or_zero}
use Rattle.spec_image.specs.Files.{Place, name_cmp}
use Rattle.spec_image.specs.Regions.{space_start}
use Rattle.spec_image.specs.Directories.{Node, numbers, first_of, items, directory_block, IsSpelled, IsFilled}
use Rattle.spec_image.specs.Directories.{IsDirectory, SpecMasterEntry, master_words, IsMasterEntry, file_words}
use Rattle.spec_image.specs.Directories.{IsFileEntry}
use Rattle.spec_image.specs.Stands.{StoredFile, StoredDirectory, DiskMap, blocks_of_file, reaches_in_directory}
use Rattle.spec_image.specs.Stands.{reaches, entry_of, IsVersion, HasMap}
use Rattle.spec_image.specs.Walks.{LeadsAlong, IsMasterWalk, IsDirectoryNamed, IsFileNamed}
use Rattle.spec_image.specs.Faults.{InSpace, IsBadBlock, malformed, next_outside, entry_outside, short, empty_later}
use Rattle.spec_image.specs.Faults.{key_again, IsMasterEntryOf, IsBadMasterBlock, IsBadFileBlock}
use Rattle.spec_image.proofs.MapLaws.{some_same}
use Rattle.spec_image.proofs.MapSums.{times-append}
use Rattle.spec_image.proofs.MapLists.{get-map_values, get-from_entries, each_entry, each_in_map}
use Rattle.spec_image.proofs.Names.{name_total, name_exact}
use Rattle.spec_image.proofs.Lists.{TellsApart, times_here, times_later, all_left, all_right}
use Rattle.spec_image.proofs.Chains.{block_same}
use Rattle.spec_image.proofs.DiskMaps.{master_apart, file_apart, none_below, directory_part, file_part, home_same}
use Rattle.spec_image.proofs.ChainEdits.{items-append, spelled_back}
use Rattle.spec_image.proofs.WalkLaws.{once_front, IsFilledAt, filled_at, walk_of_directory, entry_there}

-- A block of a directory that the disk has is good.
module _ {K V : Type 0} {R : K → K → Ordering} (words : K × V → List ℕ) (apart : TellsApart words)
    (IsMapEntry IsEntry : K × V → Type 0) (target : K × V → ℕ) (size : ℕ) (contents : Contents) (blocks : List ℕ)
    (m : FinMap R V) (d : IsDirectory R words IsMapEntry contents blocks m) (nonzero : times 0 blocks
    ≡ 0) (inside : (n : ℕ) → 0 < times n blocks → InSpace size n)
    (are_entries : AllByRecursion IsEntry (items d.nodes))
    (targets : AllByRecursion (λ e. InSpace size (target e)) (items d.nodes)) where
  good_at : (before : List (Node (K × V))) (n : ℕ) (es : List (K × V)) (post : List (Node (K × V)))
      → d.nodes ≡ before ++ (n, es) ∷ post → IsBadBlock R words IsEntry target size contents before n → ⊥
  good_at before n es post is bad = refute bad
    where
      spelled : contents n ≡ Some (directory_block words (first_of post) es)
      spelled = (spelled_back words contents before ((n, es) ∷ post)
          (subst (λ ns. IsSpelled words contents ns) is d.spelled)).0

      filled : IsFilledAt before es post
      filled = filled_at before n es post (subst (λ ns. IsFilled ns) is d.filled)

      entries : items d.nodes ≡ items before ++ (es ++ items post)
      entries = ap items is ∙ items-append before ((n, es) ∷ post)

      same : (next : ℕ) (others : List (K × V)) → contents n ≡ Some (directory_block words next others)
          → (next ≡ first_of post) × (others ≡ es)
      same next others h = block_same words apart next (first_of post) others es (some_same (sym h ∙ spelled))

      numbers_are : blocks ≡ numbers before ++ n ∷ numbers post
      numbers_are = sym d.blocks_are ∙ ap numbers is ∙ map-append (λ node. node.0) before ((n, es) ∷ post)

      next_inside : (rest : List (Node (K × V))) → ((k : ℕ) → 0 < times k (numbers rest) → InSpace size k)
          → 0 < first_of rest → InSpace size (first_of rest)
      next_inside [] h p = absurd (omega arith)
      next_inside (q ∷ rest) h p = h q.0 (times_here q.0 (numbers rest))

      behind : (k : ℕ) → 0 < times k (numbers post) → InSpace size k
      behind k h = inside k (let e = ap (times k) numbers_are ∙ times-append k (numbers before) (n ∷ numbers post) in
          let l = times_later k n (numbers post) h in omega arith)

      some_post : (rest : List (Node (K × V))) → 0 < first_of rest → 0 < length rest
      some_post [] p = absurd (omega arith)
      some_post (q ∷ rest) p = omega arith

      refute : IsBadBlock R words IsEntry target size contents before n → ⊥
      refute (malformed none) = none (first_of post) es spelled filled.few
          (all_left IsEntry es (items post)
          (all_right IsEntry (items before) (es ++ items post) (subst (AllByRecursion IsEntry) entries are_entries)))
      refute (next_outside next others h p out) = let s = same next others h in
          out (subst (InSpace size) (sym s.0) (next_inside post behind (let e = s.0 in omega arith)))
      refute (entry_outside next others h out) =
          let s = same next others h in
          out (subst (AllByRecursion (λ e. InSpace size (target e))) (sym s.1)
          (all_left (λ e. InSpace size (target e)) es (items post)
          (all_right (λ e. InSpace size (target e)) (items before) (es ++ items post)
          (subst (AllByRecursion (λ e. InSpace size (target e))) entries targets))))
      refute (short next others h p some) = let s = same next others h in
          some (ap length s.1 ∙ filled.full (some_post post (let e = s.0 in omega arith)))
      refute (empty_later next h p) = let s = same next [] h in let e = ap length s.1 in let f = filled.some p in
          omega arith
      refute (key_again next others h before_once twice) =
          let s = same next others h in
          twice (subst (λ xs. EachOnce R (items before ++ xs)) (sym s.1)
          (once_front R (items before ++ es) (items post)
          (subst (EachOnce R) (entries ∙ sym (append_assoc (items before) es (items post))) d.each_once)))

  pub no_bad_block : (first : ℕ) (before : List (Node (K × V))) (n : ℕ) → first ≡ head_or_zero blocks
      → LeadsAlong words contents first before n → 0 < n → IsBadBlock R words IsEntry target size contents before n → ⊥
  no_bad_block first before n e l p bad = there
      (walk_of_directory words apart IsMapEntry contents blocks m d nonzero first n before e l)
    where
      there : (rest : List (Node (K × V))) × (d.nodes ≡ before ++ rest) × (first_of rest ≡ n) → ⊥
      there w = at w.0 w.1 w.2
        where
          at : (rest : List (Node (K × V))) → d.nodes ≡ before ++ rest → first_of rest ≡ n → ⊥
          at [] is e = omega arith
          at (node ∷ rest) is e = good_at before node.0 node.1 rest is
              (subst (λ k. IsBadBlock R words IsEntry target size contents before k) (sym e) bad)

-- what a map has if its image has a value
pub image : {X Y : Type 0} (f : X → Y) (o : Option X) (y : Y) → option_map f o ≡ Some y
    → (x : X) × (o ≡ Some x) × (f x ≡ y)
image f None y h = cc
image f (Some x) y h = (x, refl, some_same h)

-- A file that a walk names, as the map of the disk has it.
pub record IsMappedFile (size : ℕ) (contents : Contents) (m : DiskMap) (layout : ℕ) (place : Place)
    (prime : ℕ) : Type 0 where
  pub directory : StoredDirectory
  pub directory_is : get m.directories place.ppn ≡ Some directory
  pub file : StoredFile
  pub file_is : get directory.files place.name ≡ Some file
  pub prime_is : file.prime ≡ prime
  pub version : IsVersion m.layout contents place file
  pub inside : (n : ℕ) → 0 < times n (blocks_of_file file) → InSpace size n
  pub layout_is : layout ≡ m.layout
  pub ppn_fits : IsPpn place.ppn
  pub ext_fits : place.name.ext < 2 ^ 18

-- What a disk with a map has.
module _ (size : ℕ) (contents : Contents) (m : DiskMap) (s : HasMap size contents m) where
  pub zero_free : reaches 0 m ≡ 0
  zero_free = none_below size contents m s.marked 0 (omega arith)

  pub reached_inside : (n : ℕ) → 0 < reaches n m → InSpace size n
  reached_inside n h = record {
    from = ⊎_elim (λ low. absurd (omega (arith, none_below size contents m s.marked n low))) (λ e. e)
        (cases_lt n (space_start size));
    below = ⊎_elim (λ e. e) (λ high. absurd (omega (arith, s.marked.inside n high))) (cases_lt n size);
  }

  -- the home copy that a walk begins with is the map's
  pub walk_home : (layout : ℕ) (nodes : List (Node SpecMasterEntry)) (last : ℕ)
      (w : IsMasterWalk size contents layout nodes last) → (layout ≡ m.layout) × (w.master ≡ head_or_zero m.chain)
  walk_home layout nodes last w = let h = home_same size contents _ _ w.home s.mapped.home in
      (ap (λ x. x.layout) h, ap (λ x. x.master) h)

  chain_free : times 0 m.chain ≡ 0
  chain_free = omega (arith, zero_free)

  -- a directory that the walked part names is the map's
  pub directory_named : (layout ppn word first : ℕ) → IsDirectoryNamed size contents layout ppn word first
      → (d : StoredDirectory) × (get m.directories ppn ≡ Some d) × (entry_of d ≡ (word, first))
  directory_named layout ppn word first is =
      let home = walk_home layout is.nodes is.last is.walk in
      image entry_of (get m.directories ppn) (word, first)
      (sym (get-map_values nat_cmp_total entry_of m.directories ppn)
      ∙ entry_there master_words master_apart IsMasterEntry contents m.chain _ s.mapped.master chain_free
      nat_cmp_total is.walk.master is.last is.nodes home.1 is.walk.walk ppn (word, first) is.entry)

  directory_free : (ppn : ℕ) (d : StoredDirectory) → get m.directories ppn ≡ Some d → reaches_in_directory 0 d ≡ 0
  directory_free ppn d is = omega (arith, directory_part m ppn d is 0, zero_free)

  pub file_inside : (ppn : ℕ) (d : StoredDirectory) (name : FileName) (f : StoredFile) → get m.directories ppn ≡ Some d
      → get d.files name ≡ Some f → (n : ℕ) → 0 < times n (blocks_of_file f) → InSpace size n
  file_inside ppn d name f at has n h = reached_inside n
      (omega (arith, directory_part m ppn d at n, file_part d name f has n))

  -- a file that the walked part names is the map's
  pub file_named : (layout : ℕ) (place : Place) (prime : ℕ) → IsFileNamed size contents layout place prime
      → IsMappedFile size contents m layout place prime
  file_named layout place prime is =
      let named = directory_named layout place.ppn is.walk.word is.walk.first is.walk.named in
      let whole = s.mapped.directories place.ppn named.0 named.1 in
      let first : is.walk.first ≡ head_or_zero named.0.chain = sym (ap (λ e. e.1) named.2) in
      let free : times 0 named.0.chain ≡ 0 = omega (arith, directory_free place.ppn named.0 named.1) in
      let there = entry_there file_words file_apart IsFileEntry contents named.0.chain _ whole.chain free
      name_total is.walk.first is.last is.nodes first is.walk.walk place.name prime is.entry in
      let found = image (λ (f : StoredFile). f.prime) (get named.0.files place.name) prime
      (sym (get-map_values name_total (λ (f : StoredFile). f.prime) named.0.files place.name) ∙ there) in
      record {
        directory = named.0;
        directory_is = named.1;
        file = found.0;
        file_is = found.1;
        prime_is = found.2;
        version = whole.files place.name found.0 found.1;
        inside = file_inside place.ppn named.0 place.name found.0 named.1 found.1;
        layout_is = (walk_home layout is.walk.named.nodes is.walk.named.last is.walk.named.walk).0;
        ppn_fits = each_in_map nat_cmp_total nat_cmp-IsAntisymmetric (λ ppn e. IsMasterEntry (ppn, e))
            (items s.mapped.master.nodes) s.mapped.master.are_entries place.ppn (entry_of named.0)
            (ap (λ z. get z place.ppn) s.mapped.master.map_is
            ∙ get-map_values nat_cmp_total entry_of m.directories place.ppn ∙ ap (option_map entry_of) named.1);
        ext_fits = (each_in_map name_total name_exact (λ name k. IsFileEntry (name, k)) (items whole.chain.nodes)
            whole.chain.are_entries place.name prime (ap (λ z. get z place.name) whole.chain.map_is ∙ there)).ext_fits;
      }

  -- Directory blocks.

  master_entry_good : (ppn : ℕ) (e : ℕ × ℕ) → get (map_values entry_of m.directories) ppn ≡ Some e
      → IsMasterEntry (ppn, e) → IsMasterEntryOf m.layout (ppn, e) × InSpace size e.1
  master_entry_good ppn e is ppn_fits =
      let found = image entry_of (get m.directories ppn) e
      (sym (get-map_values nat_cmp_total entry_of m.directories ppn) ∙ is) in
      let whole = s.mapped.directories ppn found.0 found.1 in
      let word : (e.0 ≡ _)
      × (head_or_zero found.0.chain ≡ e.1) = (sym (ap (λ x. x.0) found.2), ap (λ x. x.1) found.2) in (
        record {
          ppn = ppn_fits;
          protection = found.0.protection;
          quota = found.0.quota;
          protection_fits = whole.protection;
          quota_fits = whole.quota;
          word = word.0;
        },
        subst (InSpace size) word.1 (head_inside found.0.chain _ whole.chain
            (λ n h. reached_inside n (omega (arith, directory_part m ppn found.0 found.1 n)))),
      )
    where
      head_inside : (chain : List ℕ) (files : FinMap name_cmp ℕ)
          → IsDirectory name_cmp file_words IsFileEntry contents chain files
          → ((n : ℕ) → 0 < times n chain → InSpace size n) → InSpace size (head_or_zero chain)
      head_inside [] files d h = absurd (never d.nodes d.filled d.blocks_are)
        where
          never : (nodes : List (Node (FileName × ℕ))) → IsFilled nodes → numbers nodes ≡ [] → ⊥
          never [] f e = f
          never (node ∷ nodes) f e = cc
      head_inside (n ∷ chain) files d h = h n (times_here n chain)

  pub no_bad_master : (n : ℕ) → IsBadMasterBlock size contents n → ⊥
  no_bad_master n bad =
      let home = walk_home bad.layout bad.before n bad.walk in
      let d = s.mapped.master in
      let good : AllByRecursion (λ (e : SpecMasterEntry). IsMasterEntryOf m.layout e
      × InSpace size e.1.1) (items d.nodes) = zip (items d.nodes)
      (each_entry nat_cmp_total (λ ppn e. get (map_values entry_of m.directories) ppn ≡ Some e)
      (items d.nodes) d.each_once entry_is) d.are_entries in
      no_bad_block master_words master_apart IsMasterEntry (IsMasterEntryOf bad.layout)
      (λ e. e.1.1) size contents m.chain _ d chain_free (λ k h. reached_inside k (omega arith))
      (subst (λ l. AllByRecursion (IsMasterEntryOf l) (items d.nodes)) (sym home.0) (firsts (items d.nodes) good))
      (seconds (items d.nodes) good)
      bad.walk.master bad.before n home.1 bad.walk.walk (let f = bad.inside.from in omega arith) bad.bad
    where
      entry_is : (ppn : ℕ) (e : ℕ × ℕ) → find nat_cmp ppn (items s.mapped.master.nodes) ≡ Some e
          → get (map_values entry_of m.directories) ppn ≡ Some e
      entry_is ppn e h = ap (λ z. get z ppn) (sym s.mapped.master.map_is)
          ∙ get-from_entries nat_cmp_total (items s.mapped.master.nodes) ppn ∙ h

      zip : (es : List SpecMasterEntry)
          → AllByRecursion (λ (e : SpecMasterEntry). get (map_values entry_of m.directories) e.0
          ≡ Some e.1) es → AllByRecursion IsMasterEntry es
          → AllByRecursion (λ (e : SpecMasterEntry). IsMasterEntryOf m.layout e × InSpace size e.1.1) es
      zip [] a b = tt
      zip (e ∷ es) a b = (master_entry_good e.0 e.1 a.0 b.0, zip es a.1 b.1)

      firsts : (es : List SpecMasterEntry) → AllByRecursion (λ (e : SpecMasterEntry). IsMasterEntryOf m.layout e
          × InSpace size e.1.1) es → AllByRecursion (IsMasterEntryOf m.layout) es
      firsts [] a = tt
      firsts (e ∷ es) a = (a.0.0, firsts es a.1)

      seconds : (es : List SpecMasterEntry) → AllByRecursion (λ (e : SpecMasterEntry). IsMasterEntryOf m.layout e
          × InSpace size e.1.1) es → AllByRecursion (λ e. InSpace size e.1.1) es
      seconds [] a = tt
      seconds (e ∷ es) a = (a.0.1, seconds es a.1)

  pub no_bad_file_block : (n : ℕ) → IsBadFileBlock size contents n → ⊥
  no_bad_file_block n bad =
      let named = directory_named bad.layout bad.ppn bad.walk.word bad.walk.first bad.walk.named in
      let whole = s.mapped.directories bad.ppn named.0 named.1 in
      let d = whole.chain in
      let free : times 0 named.0.chain ≡ 0 = omega (arith, directory_free bad.ppn named.0 named.1) in
      no_bad_block file_words file_apart IsFileEntry IsFileEntry (λ e. e.1) size contents named.0.chain _ d free
      (λ k h. reached_inside k (omega (arith, directory_part m bad.ppn named.0 named.1 k)))
      d.are_entries (each_entry name_total (λ name prime. InSpace size prime) (items d.nodes) d.each_once
      (λ name prime h. prime_inside bad.ppn named.0 named.1 name prime
      (ap (λ z. get z name) (sym d.map_is) ∙ get-from_entries name_total (items d.nodes) name ∙ h)))
      bad.walk.first bad.before n (sym (ap (λ e. e.1) named.2)) bad.walk.walk (let f = bad.inside.from in
      omega arith) bad.bad
    where
      prime_inside : (ppn : ℕ) (d : StoredDirectory) → get m.directories ppn ≡ Some d → (name : FileName) (prime : ℕ)
          → get (map_values (λ (f : StoredFile). f.prime) d.files) name ≡ Some prime → InSpace size prime
      prime_inside ppn d at name prime is =
          let found = image (λ (f : StoredFile). f.prime) (get d.files name) prime
          (sym (get-map_values name_total (λ (f : StoredFile). f.prime) d.files name) ∙ is) in
          subst (InSpace size) found.2 (file_inside ppn d name found.0 at found.1 found.0.prime
          (times_here found.0.prime (found.0.extensions ++ found.0.blocks)))
