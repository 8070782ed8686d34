-- If the contents have a fault of a file, or reach a block twice, they stand for no files.
use Rattle.std.proofs.Common.{◌≡◌, ℕ, zero, suc, ◌+◌, ◌-◌, ◌^◌, ◌<◌, ◌≤◌, ◌⊎◌, inl, inr, ⊎_elim, List, [], ◌∷◌, ◌++◌}
use Rattle.std.proofs.Common.{map, length, replicate, flat_map, Option, Some, None, refl, sym, ap, subst, ◌∙◌, arith}
use Rattle.std.proofs.Common.{nat_cmp, append_assoc, append-nil, length-append}
use Rattle.std.specs.List.{AllByRecursion}
use Rattle.std.specs.FinMap.{nat_cmp-IsAntisymmetric}
use Rattle.std.specs.FinMap.Entries.{find}
use Rattle.std.specs.Cmp.{nat_cmp_total}
use Rattle.std.proofs.lemmas.List.{map-append}
use Rattle.words36.specs.Common.{IsPpn}
use Rattle.words36.specs.declared.names.FileName.{FileName}
use Rattle.blockdisk.specs.Common.{Contents}
use Rattle.spec_image.specs.Maps.{get, map_values, EachOnce, times}
use Rattle.spec_image.specs.Blocks.{head_or_zero}
use Rattle.spec_image.specs.Files.{File, Files, Place, name_cmp}
use Rattle.spec_image.specs.Log.{IsSettled}
use Rattle.spec_image.specs.Table.{fixed}
use Rattle.std.specs.Option.{IsSome}
use Rattle.spec_image.specs.Costs.{blocks_of}
use Rattle.spec_image.specs.Directories.{items, SpecMasterEntry, master_words, IsMasterEntry, SpecFileEntry, file_words}
use Rattle.spec_image.specs.Directories.{IsFileEntry}
use Rattle.spec_image.specs.Retrieval.{SpecPrime, prime_of, SpecRun, run_blocks, IsRun, Extension, extension_numbers}
use Rattle.spec_image.specs.Retrieval.{first_extension, all_runs, pointer, prime_block, extension_block}
use Rattle.spec_image.specs.Retrieval.{AreExtensions, IsRetrieved}
use Rattle.spec_image.specs.Stands.{StoredFile, StoredDirectory, DiskMap, reaches_in_file, reaches_in_directory}
use Rattle.spec_image.specs.Stands.{reaches, place_of, entry_of, HasMap, Stands}
use Rattle.spec_image.specs.Walks.{LeadsAlong, LeadsOn, IsPrimeRead}
use Rattle.spec_image.specs.Faults.{InSpace, RunsInSpace, IsBadVersion, malformed_prime, prime_run_outside}
use Rattle.spec_image.specs.Faults.{prime_next_outside, prime_short, miscounted, too_many, malformed_extension}
use Rattle.spec_image.specs.Faults.{extension_run_outside, extension_next_outside, extension_short, IsBadRetrieval}
use Rattle.spec_image.specs.Faults.{of_version, of_another_place, IsBadData, ReadFile, ReadDirectory, ReadMap}
use Rattle.spec_image.specs.Faults.{times_in_file, times_in_directory, times_in_map, IsFileRead, IsDirectoryRead}
use Rattle.spec_image.specs.Faults.{IsMapRead, IsTwice, IsWrongTable, StartFault, NotVolume, BadHome, BadLog}
use Rattle.spec_image.specs.Faults.{BadDirectory, BadRetrieval, BlockTwice, TableWrong, BadData, IsSettledFault}
use Rattle.spec_image.specs.Faults.{HasFault}
use Rattle.spec_image.proofs.MapLaws.{some_same, some_none}
use Rattle.spec_image.proofs.MapSums.{times-append, IsPartOf, total-le-sum}
use Rattle.spec_image.proofs.MapLists.{get-map_values}
use Rattle.spec_image.proofs.Names.{name_total, name_exact}
use Rattle.spec_image.proofs.Lists.{times_here, times_later, all_left, all_right}
use Rattle.spec_image.proofs.Versions.{pointers_same, prime_ext_same, prime_same, retrieved_same}
use Rattle.spec_image.proofs.DiskMaps.{master_apart, file_apart, once, directory_part, mapped_same}
use Rattle.spec_image.proofs.Settled.{settled_same}
use Rattle.spec_image.proofs.WalkLaws.{all_times, flat-append, undamaged_at, walk_le, entry_there, walk_of_extensions}
use Rattle.spec_image.proofs.WalkLaws.{extensions_back, all_runs-append}
use Rattle.spec_image.proofs.Excluded.{image, zero_free, walk_home, IsMappedFile, file_named, no_bad_master}
use Rattle.spec_image.proofs.Excluded.{no_bad_file_block}

-- What is read of the retrieval blocks of a version that the disk has is good.
module _ (layout size : ℕ) (contents : Contents) (own : SpecPrime) (prime : ℕ) (extensions blocks : List ℕ)
    (v : IsRetrieved layout contents own prime extensions blocks)
    (inside : (n : ℕ) → 0 < times n (prime ∷ (extensions ++ blocks)) → InSpace size n) where
  -- a prime block that was read is what the disk has
  pub prime_read : (p : SpecPrime) (runs : List SpecRun) (next : ℕ) → IsPrimeRead contents layout prime p runs next
      → own.place.name.ext < 2 ^ 18 → (p ≡ own) × (runs ≡ v.runs) × (next ≡ first_extension v.further)
  prime_read p runs next read own_small =
      let words : prime_block p runs next
      ≡ prime_block own v.runs (first_extension v.further) = some_same (sym read.words ∙ v.prime_is) in
      let counts : length runs ≡ length v.runs = cc in
      let nexts : next ≡ first_extension v.further = cc in
      let tails : map pointer runs ++ replicate (112 - length runs) 0 ≡ map pointer v.runs
      ++ replicate (112 - length v.runs) 0 = cc in
      let exts = prime_ext_same layout p own runs v.runs next (first_extension v.further) read.fits v.fits
      read.ext_fits own_small words in (
        prime_same layout p own runs v.runs next (first_extension v.further) read.fits v.fits exts words,
        pointers_same runs v.runs _ _ counts read.are_runs v.are_runs tails,
        nexts,
      )

  all_blocks : flat_map run_blocks v.runs ++ flat_map run_blocks (all_runs v.further) ≡ blocks
  all_blocks = sym (flat-append run_blocks v.runs (all_runs v.further)) ∙ v.blocks_are

  block_inside : (n : ℕ) → 0 < times n blocks → InSpace size n
  block_inside n h = inside n
      (times_later n prime (extensions ++ blocks) (omega (arith, times-append n extensions blocks)))

  pub own_runs_inside : RunsInSpace size v.runs
  own_runs_inside = all_left (InSpace size) (flat_map run_blocks v.runs) (flat_map run_blocks (all_runs v.further))
      (subst (AllByRecursion (InSpace size)) (sym all_blocks) (all_times (InSpace size) blocks block_inside))

  further_runs_inside : RunsInSpace size (all_runs v.further)
  further_runs_inside = all_right (InSpace size) (flat_map run_blocks v.runs) (flat_map run_blocks (all_runs v.further))
      (subst (AllByRecursion (InSpace size)) (sym all_blocks) (all_times (InSpace size) blocks block_inside))

  extension_inside : (n : ℕ) → 0 < times n (extension_numbers v.further) → InSpace size n
  extension_inside n h = inside n (times_later n prime (extensions ++ blocks) (let e = ap (times n) v.extensions_are in
      omega (arith, times-append n extensions blocks)))

  -- a next extension of part of the list lies in the free space
  next_inside : (es : List Extension) → ((n : ℕ) → 0 < times n (extension_numbers es) → InSpace size n)
      → 0 < first_extension es → InSpace size (first_extension es)
  next_inside [] h p = absurd (omega arith)
  next_inside (e ∷ es) h p = h e.0 (times_here e.0 (extension_numbers es))

  pub own_next_inside : (next : ℕ) → next ≡ first_extension v.further → 0 < next → InSpace size next
  own_next_inside next e p = subst (InSpace size) (sym e) (next_inside v.further extension_inside (let f = e in
      omega arith))

  some_further : (es : List Extension) → 0 < first_extension es → 0 < length es
  some_further [] p = absurd (omega arith)
  some_further (e ∷ es) p = omega arith

  pub own_full : (next : ℕ) → next ≡ first_extension v.further → 0 < next → length v.runs ≡ 112
  own_full next e p = v.full (some_further v.further (let f = e in omega arith))

  -- a walk of the extensions
  walked_on : (next last : ℕ) (es : List Extension) → next ≡ first_extension v.further → LeadsOn contents next es last
      → (rest : List Extension) × (v.further ≡ es ++ rest) × (first_extension rest ≡ last)
  walked_on next last es e l = walk_of_extensions contents next es v.further last v.extended (sym e)
      (ap (times 0) v.extensions_are ∙ v.nonzero) l

  -- the extensions after one of them
  from_one : (es rest : List Extension) → v.further ≡ es ++ rest → AreExtensions contents rest
      × ((n : ℕ) → 0 < times n (extension_numbers rest) → InSpace size n) × RunsInSpace size (all_runs rest)
  from_one es rest is = (
    extensions_back contents es rest (subst (AreExtensions contents) is v.extended),
    λ n h. extension_inside n (let e = ap (λ z. times n (extension_numbers z)) is
        ∙ ap (times n) (map-append (λ x. x.0) es rest)
        ∙ times-append n (extension_numbers es) (extension_numbers rest) in omega arith),
    all_right (InSpace size) (flat_map run_blocks (all_runs es)) (flat_map run_blocks (all_runs rest))
        (subst (AllByRecursion (InSpace size)) (ap (λ z. flat_map run_blocks (all_runs z)) is
        ∙ ap (flat_map run_blocks) (all_runs-append es rest)
        ∙ flat-append run_blocks (all_runs es) (all_runs rest)) further_runs_inside),
  )

  -- an extension that was walked to is good
  pub extension_good : (next n : ℕ) (es : List Extension) → next ≡ first_extension v.further
      → LeadsOn contents next es n → 0 < n
      → ((others : List SpecRun) (after : ℕ) → contents n ≡ Some (extension_block others after) → 0 < length others
      → length others ≤ 126 → AllByRecursion IsRun others → ⊥) → ⊥
  extension_good next n es e l p bad = let w = walked_on next n es e l in at w.0 w.1 w.2
    where
      at : (rest : List Extension) → v.further ≡ es ++ rest → first_extension rest ≡ n → ⊥
      at [] is f = omega arith
      at (x ∷ rest) is f =
          let a = (from_one es (x ∷ rest) is).0 in
          bad x.1 (first_extension rest) (ap contents (sym f) ∙ a.0) a.1 a.2 a.4

  -- and what was walked last is what is there
  pub extension_last : (next after n : ℕ) (es : List Extension) (others : List SpecRun)
      → next ≡ first_extension v.further
      → LeadsOn contents next (es ++ (n, others) ∷ []) after
      → RunsInSpace size others × (0 < after → InSpace size after) × (0 < after → length others ≡ 126)
  extension_last next after n es others e l =
      let w = walked_on next after (es ++ (n, others) ∷ []) e l in
      let is : v.further ≡ es ++ ((n, others) ∷ w.0) = w.1 ∙ append_assoc es ((n, others) ∷ []) w.0 in
      let a = from_one es ((n, others) ∷ w.0) is in
      let b = from_one (es ++ (n, others) ∷ []) w.0 w.1 in (
        all_left (InSpace size) (flat_map run_blocks others) (flat_map run_blocks (all_runs w.0))
            (subst (AllByRecursion (InSpace size)) (flat-append run_blocks others (all_runs w.0)) a.2),
        λ p. subst (InSpace size) w.2 (next_inside w.0 b.1 (let f = w.2 in omega arith)),
        λ p. a.0.3 (some_further w.0 (let f = w.2 in omega arith)),
      )

  -- the whole walk counts what the length requires
  pub walk_counts : (next : ℕ) (es : List Extension) (runs : List SpecRun) → next ≡ first_extension v.further
      → runs ≡ v.runs → LeadsOn contents next es 0 → length (flat_map run_blocks (runs ++ all_runs es))
      ≡ blocks_of own.words
  walk_counts next es runs e same l = let w = walked_on next 0 es e l in at w.0 w.1 w.2
    where
      whole : es ≡ v.further → length (flat_map run_blocks (runs ++ all_runs es)) ≡ blocks_of own.words
      whole is = ap length (λ i. flat_map run_blocks (same i ++ all_runs (is i))) ∙ ap length v.blocks_are ∙ v.enough

      at : (rest : List Extension) → v.further ≡ es ++ rest → first_extension rest ≡ 0
          → length (flat_map run_blocks (runs ++ all_runs es)) ≡ blocks_of own.words
      at [] is f = whole (sym (append-nil es) ∙ sym is)
      at (x ∷ rest) is f =
          let zero_there : times 0 (extension_numbers v.further) ≡ 0 = ap (times 0) v.extensions_are ∙ v.nonzero in
          let split = ap (λ z. times 0 (extension_numbers z)) is ∙ ap (times 0) (map-append (λ y. y.0) es (x ∷ rest))
          ∙ times-append 0 (extension_numbers es) (extension_numbers (x ∷ rest)) in
          let here : 0 < times 0 (x.0 ∷ extension_numbers rest) = subst (λ k. 0
          < times k (x.0 ∷ extension_numbers rest)) f (times_here x.0 (extension_numbers rest)) in
          absurd (omega arith)

  -- at most this number of blocks were walked over
  pub walk_few : (next last : ℕ) (es : List Extension) (runs : List SpecRun) → next ≡ first_extension v.further
      → runs ≡ v.runs → LeadsOn contents next es last → length (flat_map run_blocks (runs ++ all_runs es))
      ≤ blocks_of own.words
  walk_few next last es runs e same l =
      let w = walked_on next last es e l in
      let whole : flat_map run_blocks (v.runs ++ all_runs v.further) ≡ flat_map run_blocks (runs ++ all_runs es)
      ++ flat_map run_blocks (all_runs w.0) =
      ap (λ z. flat_map run_blocks (v.runs ++ z)) (ap all_runs w.1 ∙ all_runs-append es w.0)
      ∙ ap (λ z. flat_map run_blocks (z ++ (all_runs es ++ all_runs w.0))) (sym same)
      ∙ ap (flat_map run_blocks) (sym (append_assoc runs (all_runs es) (all_runs w.0)))
      ∙ flat-append run_blocks (runs ++ all_runs es) (all_runs w.0) in
      let lengths = ap length whole
      ∙ length-append (flat_map run_blocks (runs ++ all_runs es)) (flat_map run_blocks (all_runs w.0)) in
      let all = ap length v.blocks_are ∙ v.enough in
      omega arith

  -- so all of it is valid
  pub no_bad_version : IsPpn own.place.ppn → own.place.name.ext < 2 ^ 18 → (n : ℕ)
      → IsBadVersion size contents layout prime n → ⊥
  no_bad_version ppn_fits ext_fits n (malformed_prime none) =
      none own v.runs (first_extension v.further)
      (record { words = v.prime_is; ppn_fits = ppn_fits; ext_fits = ext_fits; fits = v.fits; are_runs = v.are_runs })
      v.few
  no_bad_version ppn_fits ext_fits n (prime_run_outside p runs next read out) =
      let same = prime_read p runs next read ext_fits in
      out (subst (RunsInSpace size) (sym same.1) own_runs_inside)
  no_bad_version ppn_fits ext_fits n (prime_next_outside p runs next read q out) = out
      (own_next_inside next (prime_read p runs next read ext_fits).2 q)
  no_bad_version ppn_fits ext_fits n (prime_short p runs next read q some) =
      let same = prime_read p runs next read ext_fits in
      some (ap length same.1 ∙ own_full next same.2 q)
  no_bad_version ppn_fits ext_fits n (miscounted p runs next es read l wrong) =
      let same = prime_read p runs next read ext_fits in
      wrong (walk_counts next es runs same.2 same.1 l ∙ ap (λ q. blocks_of q.words) (sym same.0))
  no_bad_version ppn_fits ext_fits n (too_many p runs next last es read l many) =
      let same = prime_read p runs next read ext_fits in
      let few = walk_few next last es runs same.2 same.1 l in
      let words = ap (λ q. blocks_of q.words) same.0 in
      absurd (omega arith)
  no_bad_version ppn_fits ext_fits n (malformed_extension p runs next es k read l inside none) =
      extension_good next k es (prime_read p runs next read ext_fits).2 l (let f = inside.from in omega arith) none
  no_bad_version ppn_fits ext_fits n (extension_run_outside p runs next es k others after read l out) = out
      (extension_last next after k es others (prime_read p runs next read ext_fits).2 l).0
  no_bad_version ppn_fits ext_fits n (extension_next_outside p runs next es k others after read l q out) = out
      ((extension_last next after k es others (prime_read p runs next read ext_fits).2 l).1 q)
  no_bad_version ppn_fits ext_fits n (extension_short p runs next es k others after read l q some) = some
      ((extension_last next after k es others (prime_read p runs next read ext_fits).2 l).2 q)

module _ (size : ℕ) (contents : Contents) (m : DiskMap) (s : HasMap size contents m) where
  -- the version of a file that was named, at the layout and the block by which it was named
  retrieved_named : (layout : ℕ) (place : Place) (prime : ℕ) (named : IsMappedFile size contents m layout place prime)
      → IsRetrieved layout contents (prime_of place named.file.file) prime named.file.extensions named.file.blocks
  retrieved_named layout place prime named =
      subst (λ l. IsRetrieved l contents (prime_of place named.file.file) prime named.file.extensions named.file.blocks)
      (sym named.layout_is)
      (subst (λ n. IsRetrieved m.layout contents (prime_of place named.file.file) n named.file.extensions
      named.file.blocks) named.prime_is named.version.retrieved)

  inside_named : (layout : ℕ) (place : Place) (prime : ℕ) (named : IsMappedFile size contents m layout place prime)
      (n : ℕ) → 0 < times n (prime ∷ (named.file.extensions ++ named.file.blocks)) → InSpace size n
  inside_named layout place prime named n h = named.inside n
      (subst (λ k. 0 < times n (k ∷ (named.file.extensions ++ named.file.blocks))) (sym named.prime_is) h)

  pub no_bad_retrieval : (n : ℕ) → IsBadRetrieval size contents n → ⊥
  no_bad_retrieval n (of_version layout place prime is bad) =
      let named = file_named size contents m s layout place prime is in
      no_bad_version layout size contents (prime_of place named.file.file) prime named.file.extensions named.file.blocks
      (retrieved_named layout place prime named)
      (inside_named layout place prime named) named.ppn_fits named.ext_fits n bad
  no_bad_retrieval n (of_another_place layout place is none) =
      let named = file_named size contents m s layout place n is in
      let own = retrieved_named layout place n named in
      none (prime_of place named.file.file) own.runs (first_extension own.further) own.prime_is refl own.fits
      own.few own.are_runs

  pub no_bad_data : (n : ℕ) → IsBadData size contents n → ⊥
  no_bad_data n bad =
      let named = file_named size contents m s bad.layout bad.place bad.prime bad.named in
      let own = retrieved_named bad.layout bad.place bad.prime named in
      let same = retrieved_same bad.layout contents bad.p (prime_of bad.place named.file.file) bad.prime
      bad.extensions named.file.extensions bad.blocks named.file.blocks bad.retrieved own
      (ap (λ (x : Place). x.name.ext) bad.place_is) in
      let body = named.version.body in
      undamaged_at contents named.file.blocks body.each n body.undamaged
      (subst (λ ns. 0 < times n ns) same.2 bad.inside) bad.damaged

  -- What was read is a part of what the disk has.

  files_part : (layout ppn : ℕ) (d : StoredDirectory) → layout ≡ m.layout → get m.directories ppn ≡ Some d
      → (es : List SpecFileEntry)
      → ((name : FileName) (n : ℕ) → find name_cmp name es ≡ Some n
      → get (map_values (λ (f : StoredFile). f.prime) d.files) name ≡ Some n)
      → (n : ℕ) (fs : List (FileName × ReadFile))
      → AllByRecursion (IsFileRead layout contents ppn es) fs
      → AllByRecursion (IsPartOf (times_in_file n) (reaches_in_file n) d.files) fs
  files_part layout ppn d same at es there n [] a = tt
  files_part layout ppn d same at es there n (e ∷ fs) a =
      let has = image (λ (f : StoredFile). f.prime) (get d.files e.0) e.1.prime
      (sym (get-map_values name_total (λ (f : StoredFile). f.prime) d.files e.0) ∙ there e.0 e.1.prime a.0.entry) in
      let version = (s.mapped.directories ppn d at).files e.0 has.0 has.1 in
      let own = subst (λ k. IsRetrieved layout contents (prime_of (place_of ppn e.0) has.0.file) k has.0.extensions
      has.0.blocks) has.2
      (subst (λ l. IsRetrieved l contents (prime_of (place_of ppn e.0) has.0.file) has.0.prime has.0.extensions
      has.0.blocks) (sym same) version.retrieved) in
      let r = retrieved_same layout contents e.1.p (prime_of (place_of ppn e.0) has.0.file) e.1.prime e.1.extensions
      has.0.extensions e.1.blocks has.0.blocks a.0.retrieved own (ap (λ (x : Place). x.name.ext) a.0.place_is) in
      let equal : times_in_file n e.1 ≡ reaches_in_file n has.0 = λ i. times n (sym has.2 i ∷ (r.1 i ++ r.2 i)) in
      ((has.0, has.1, (let e = equal in omega arith)), files_part layout ppn d same at es there n fs a.1)

  directory_le : (layout ppn first : ℕ) (d : StoredDirectory) → layout ≡ m.layout → get m.directories ppn ≡ Some d
      → first ≡ head_or_zero d.chain → (e : ReadDirectory) → LeadsAlong file_words contents first e.nodes e.last
      → EachOnce name_cmp e.files → AllByRecursion (IsFileRead layout contents ppn (items e.nodes)) e.files
      → (n : ℕ) → times_in_directory n e ≤ reaches_in_directory n d
  directory_le layout ppn first d same at is e walk unique files n =
      let chain = (s.mapped.directories ppn d at).chain in
      let free : times 0 d.chain ≡ 0 = omega (arith, directory_part m ppn d at 0, zero_free size contents m s) in
      let w = walk_le file_words file_apart IsFileEntry contents d.chain _ chain free first e.last e.nodes is walk n in
      let rest = total-le-sum name_total name_exact (times_in_file n) (reaches_in_file n) d.files e.files unique
      (files_part layout ppn d same at (items e.nodes)
      (λ name k h. entry_there file_words file_apart IsFileEntry contents d.chain _ chain free name_total
      first e.last e.nodes is walk name k h) n e.files files) in
      omega arith

  directories_part : (layout : ℕ) → layout ≡ m.layout → (es : List SpecMasterEntry)
      → ((ppn : ℕ) (x : ℕ × ℕ) → find nat_cmp ppn es ≡ Some x → get (map_values entry_of m.directories) ppn ≡ Some x)
      → (n : ℕ) (ds : List (ℕ × ReadDirectory)) → AllByRecursion (IsDirectoryRead layout contents es) ds
      → AllByRecursion (IsPartOf (times_in_directory n) (reaches_in_directory n) m.directories) ds
  directories_part layout same es there n [] a = tt
  directories_part layout same es there n (e ∷ ds) a =
      let has = image entry_of (get m.directories e.0) (a.0.word, a.0.first)
      (sym (get-map_values nat_cmp_total entry_of m.directories e.0) ∙ there e.0 (a.0.word, a.0.first) a.0.entry) in
      let le = directory_le layout e.0 a.0.first has.0 same has.1 (sym (ap (λ x. x.1) has.2)) e.1 a.0.walk
      a.0.once a.0.files n in
      ((has.0, has.1, le), directories_part layout same es there n ds a.1)

  -- what was read reaches no block more often than the map does
  pub read_le : (r : ReadMap) → IsMapRead size contents r → (n : ℕ) → times_in_map n r ≤ reaches n m
  read_le r is n =
      let home = walk_home size contents m s is.layout r.nodes r.last is.walk in
      let free : times 0 m.chain ≡ 0 = omega (arith, zero_free size contents m s) in
      let walk = walk_le master_words master_apart IsMasterEntry contents m.chain _ s.mapped.master free
      is.walk.master r.last r.nodes home.1 is.walk.walk n in
      let rest = total-le-sum nat_cmp_total nat_cmp-IsAntisymmetric (times_in_directory n)
      (reaches_in_directory n) m.directories r.directories is.once
      (directories_part is.layout home.0 (items r.nodes)
      (λ ppn x h. entry_there master_words master_apart IsMasterEntry contents m.chain _ s.mapped.master free
      nat_cmp_total is.walk.master r.last r.nodes home.1 is.walk.walk ppn x h) n r.directories is.directories) in
      omega arith

  pub not_twice : (n : ℕ) → IsTwice size contents n → ⊥
  not_twice n is = let a = read_le is.m is.read n in let b = once size contents m s.marked n in let c = is.twice in
      omega arith

  pub no_wrong_table : (n : ℕ) → IsWrongTable size contents n → ⊥
  no_wrong_table n bad =
      let free : reaches 0 bad.m ≡ 0 = ⊎_elim (λ none. none) (λ some. absurd (let i = (bad.inside 0 some).from in
      omega arith)) (zero_or_more (reaches 0 bad.m)) in
      let same : m ≡ bad.m = mapped_same size contents m bad.m s.mapped bad.mapped (zero_free size contents m s) free in
      ⊎_elim
      (λ none. is_none (contents n) none
      (subst (λ k. IsSome (contents k)) (sym bad.block) (s.marked.undamaged bad.i bad.in_table)))
      (λ bit. bit.2 (s.marked.bits bit.0 ∙ ap (λ k. fixed size bit.0 + reaches bit.0 k) same))
      bad.wrong
    where
      zero_or_more : (k : ℕ) → (k ≡ 0) ⊎ (0 < k)
      zero_or_more zero = inl refl
      zero_or_more (suc k) = inr (omega arith)

      is_none : (o : Option (List ℕ)) → o ≡ None → IsSome o → ⊥
      is_none None e h = cc
      is_none (Some x) e h = some_none e

  -- If the contents have a map, they have no fault except one of the log.
  pub no_fault : (fault : StartFault) → IsSettledFault size contents fault → ⊥
  no_fault NotVolume (inl out) = out s.volume
  no_fault NotVolume (inr unnamed) = ⊎_elim (λ copy. unnamed.0 (_, copy.words))
      (λ copy. unnamed.1 (_, (copy.1).words)) s.mapped.home
  no_fault BadHome bad = ⊎_elim (λ copy. bad.first _ copy) (λ copy. bad.second _ copy.1) s.mapped.home
  no_fault BadLog bad = bad
  no_fault (BadDirectory n) (inside, inl bad) = no_bad_master size contents m s n bad
  no_fault (BadDirectory n) (inside, inr bad) = no_bad_file_block size contents m s n bad
  no_fault (BadRetrieval n) bad = no_bad_retrieval n bad.1
  no_fault (BlockTwice n) bad = not_twice n bad.1
  no_fault (TableWrong n) bad = no_wrong_table n bad
  no_fault (BadData n) bad = no_bad_data n bad.1

-- Contents with a fault stand for no files.
pub fault_excludes : (size : ℕ) (contents : Contents) (files : Files File) (fault : StartFault)
    → HasFault size contents fault → Stands size contents files → ⊥
fault_excludes size contents files fault (inl bad) stands = settles stands.1
  where
    settles : IsSettled size contents stands.0 → ⊥
    settles (inl closed) = closed.0 bad.0.open_gate
    settles (inr log) = bad.0.no_log log.1 log.2
fault_excludes size contents files fault (inr bad) stands =
    let same : bad.0 ≡ stands.0 = settled_same size contents bad.0 stands.0 bad.1 stands.1 in
    no_fault size stands.0 stands.2.0 stands.2.1 fault (subst (λ c. IsSettledFault size c fault) same bad.2)
