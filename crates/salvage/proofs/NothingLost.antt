-- If contents stand for files, no finding costs one of these, and what was saved is the file.
use Rattle.std.proofs.Common.{◌≡◌, ◌⊎◌, inl, inr, ⊎_elim, ℕ, zero, suc, ◌+◌, ◌<◌, ◌≤◌, List, [], ◌∷◌, ◌++◌, Some, refl}
use Rattle.std.proofs.Common.{sym, ap, subst, ◌∙◌, arith, nat_cmp, option_map, Result, Ok, Err, IfOk, Contains}
use Rattle.std.proofs.lemmas.Bool.{cases_eq}
use Rattle.std.specs.Cmp.{nat_cmp_total}
use Rattle.std.specs.FinMap.{nat_cmp-IsAntisymmetric}
use Rattle.std.specs.List.{AllByRecursion}
use Rattle.words36.specs.declared.names.FileName.{FileName}
use Rattle.blockdisk.specs.Common.{Contents}
use Rattle.spec_image.specs.Common.{head_or_zero, Node, numbers, first_of, items, IsSpelled, master_words, file_words}
use Rattle.spec_image.specs.Common.{IsBadRetrieval, File, Files, Directory, Place, name_cmp, SpecHome, IsHome}
use Rattle.spec_image.specs.Common.{layout_number, FinMap, get, times, prime_of, IsRetrieved, HasBody, StoredFile}
use Rattle.spec_image.specs.Common.{StoredDirectory, DiskMap, HasMap, SettledStands, directory_of, files_of}
use Rattle.spec_image.specs.Common.{place_of, entry_of}
use Rattle.spec_image.specs.Common.{home_of, reaches, reaches_in_directory, reaches_in_file, LeadsAlong}
use Rattle.spec_image.specs.Common.{IsDirectoryNamed, IsFileNamed}
use Rattle.spec_image.proofs.Common.{head-numbers, once, directory_part, file_part, image, zero_free, IsMappedFile}
use Rattle.spec_image.proofs.Common.{file_named, no_fault, not_first, times_here, times-cons, some_same}
use Rattle.spec_image.proofs.Common.{get-map_values, get-from_entries, two-le-sum_entries, name_total, name_exact}
use Rattle.spec_image.proofs.Common.{retrieved_same}
use Rattle.retrieval.specs.Common.{with_length}
use Rattle.volume.specs.Common.{IsOtherPlace}
use Rattle.volume.specs.declared.error.VolumeError.{VolumeError}
use Rattle.volume.specs.declared.error.VolumeError.TheVariants.{NotVolume, BadHome, BadLog, BadDirectory}
use Rattle.volume.specs.declared.error.VolumeError.TheVariants.{BadRetrieval, BlockTwice, TableWrong, Device}
use Rattle.volume.specs.declared.error.VolumeError.TheVariants.{NoMemory, Failed, BadData}
use Rattle.directory.proofs.GatheredEntries.{all_of}
use Rattle.salvage.specs.Common.{Concerns, IsFaultAt, IsFaultOf, IsFaultOfChain, IsFaultOfDirectory, IsFaultOfMaster}
use Rattle.salvage.specs.Common.{AreApart, AreTheFiles, IsAmong, IsDamaged, IsDirectoryLoss, IsFileSaved, IsFinding}
use Rattle.salvage.specs.Common.{IsFull}
use Rattle.salvage.specs.Common.{IsInPlace, IsLostBy, IsNamedRead, IsSavedAs, IsStartFault, IsSurveyed, IsTold}
use Rattle.salvage.specs.Common.{IsWholeFile, blocks_of, claims, place_in}
use Rattle.salvage.specs.Findings.{HasBlock}
use Rattle.salvage.specs.declared.saved.SavedFile.{SavedFile}
use Rattle.salvage.specs.declared.search.Search.{Search}
use Rattle.salvage.specs.declared.survey.Survey.{Survey}
use Rattle.salvage.specs.declared.finding.Cost.{Cost}
use Rattle.salvage.specs.declared.finding.Defect.{Defect}
use Rattle.salvage.specs.declared.finding.Defect.TheVariants.{Start, FreeBlock, TwoOwners, Crowded, Missing, Surplus}
use Rattle.salvage.specs.declared.finding.Defect.TheVariants.{Tail}
use Rattle.salvage.specs.declared.finding.Finding.{Finding}
use Rattle.salvage.proofs.CarriedFacts.{element_has}
use Rattle.salvage.proofs.SavedFiles.{blocks_at}
use Rattle.salvage.proofs.StandingChains.{no_chain_block, no_free_block, no_shared_chain}
use Rattle.spec_image.specs.Faults as faults
use Rattle.salvage.specs.declared.finding.Cost.TheVariants as cost

-- What a walk names.

leads_whole : {E : Type 0} (words : E → List ℕ) (contents : Contents) (nodes : List (Node E))
    → IsSpelled words contents nodes → times 0 (numbers nodes) ≡ 0 → LeadsAlong words contents (first_of nodes) nodes 0
leads_whole words contents [] s z = refl
leads_whole words contents (node ∷ nodes) s z =
    (refl, some node.0 z, first_of nodes, s.0, leads_whole words contents nodes s.1 (omega arith))
  where
    some : (n : ℕ) → times 0 (n ∷ numbers nodes) ≡ 0 → 0 < n
    some zero none = absurd (not_first 0 (numbers nodes) refl none)
    some (suc n) none = omega arith

module _ (size : ℕ) (contents : Contents) (m : DiskMap) (s : HasMap size contents m) where
  -- the directories of the map are named
  directory_there : (ppn : ℕ) (d : StoredDirectory) → get m.directories ppn ≡ Some d
      → IsDirectoryNamed size contents m.layout ppn (entry_of d).0 (head_or_zero d.chain)
  directory_there ppn d at =
      let master = s.mapped.master in
      let zero_is : times 0 m.chain ≡ 0 = let free = zero_free size contents m s in omega arith in
      let first_is : first_of master.nodes ≡ head_or_zero m.chain = sym (head-numbers master.nodes)
      ∙ ap head_or_zero master.blocks_are in
      record {
        nodes = master.nodes;
        last = 0;
        walk = record {
          volume = s.volume;
          master = head_or_zero m.chain;
          home = s.mapped.home;
          walk = subst (λ (n : ℕ). LeadsAlong master_words contents n master.nodes 0) first_is
              (leads_whole master_words contents master.nodes master.spelled
              (ap (times 0) master.blocks_are ∙ zero_is));
        };
        entry = sym (get-from_entries nat_cmp_total (items master.nodes) ppn)
            ∙ ap (λ (z : FinMap nat_cmp (ℕ × ℕ)). get z ppn) master.map_is
            ∙ get-map_values nat_cmp_total entry_of m.directories ppn ∙ ap (option_map entry_of) at;
      }

  -- and so are the files
  pub file_there : (ppn : ℕ) (d : StoredDirectory) (name : FileName) (f : StoredFile) → get m.directories ppn ≡ Some d
      → get d.files name ≡ Some f → IsFileNamed size contents m.layout (place_of ppn name) f.prime
  file_there ppn d name f at has =
      let chain = (s.mapped.directories ppn d at).chain in
      let zero_is : times 0 d.chain ≡ 0 = let free = zero_free size contents m s in
      let part = directory_part m ppn d at 0 in omega arith in
      let first_is : first_of chain.nodes ≡ head_or_zero d.chain = sym (head-numbers chain.nodes)
      ∙ ap head_or_zero chain.blocks_are in
      record {
        nodes = chain.nodes;
        last = 0;
        walk = record {
          word = (entry_of d).0;
          first = head_or_zero d.chain;
          named = directory_there ppn d at;
          walk = subst (λ (n : ℕ). LeadsAlong file_words contents n chain.nodes 0) first_is
              (leads_whole file_words contents chain.nodes chain.spelled (ap (times 0) chain.blocks_are ∙ zero_is));
        };
        entry = sym (get-from_entries name_total (items chain.nodes) name)
            ∙ ap (λ (z : FinMap name_cmp ℕ). get z name) chain.map_is
            ∙ get-map_values name_total (λ (x : StoredFile). x.prime) d.files name
            ∙ ap (option_map (λ (x : StoredFile). x.prime)) has;
      }

  -- A file that was read is the map's.
  pub record IsMapped (layout : ℕ) (saved : SavedFile) : Type 0 where
    pub mapped : IsMappedFile size contents m layout (place_in saved) saved.at
    pub facts : with_length saved.stored.prime saved.stored.version.words ≡ prime_of (place_in saved) mapped.file.file
    pub ribs : saved.stored.version.ribs ≡ mapped.file.extensions
    pub blocks : saved.stored.version.blocks ≡ mapped.file.blocks

  pub read_is_mapped : (layout : ℕ) (saved : SavedFile) → IsNamedRead size layout contents saved → IsMapped layout saved
  read_is_mapped layout saved read =
      let place = place_in saved in
      let there = file_named size contents m s layout place saved.at read.named in
      let file = there.file in
      let own : IsRetrieved layout contents (prime_of place file.file) saved.at file.extensions file.blocks =
      subst (λ (l : ℕ). IsRetrieved l contents (prime_of place file.file) saved.at file.extensions file.blocks)
      (sym there.layout_is)
      (subst (λ (n : ℕ). IsRetrieved m.layout contents (prime_of place file.file) n file.extensions file.blocks)
      there.prime_is there.version.retrieved) in
      let same = retrieved_same layout contents (with_length saved.stored.prime saved.stored.version.words)
      (prime_of place file.file) saved.at saved.stored.version.ribs file.extensions saved.stored.version.blocks
      file.blocks read.read.retrieved own refl in
      record { mapped = there; facts = same.0; ribs = same.1; blocks = same.2 }

  -- Two files with different prime blocks share no block.
  two_files : (p q : Place) (d e : StoredDirectory) (f g : StoredFile) → get m.directories p.ppn ≡ Some d
      → get d.files p.name ≡ Some f → get m.directories q.ppn ≡ Some e → get e.files q.name ≡ Some g
      → (f.prime ≡ g.prime → ⊥) → (n : ℕ) → reaches_in_file n f + reaches_in_file n g ≤ reaches n m
  two_files p q d e f g at has at' has' differ n = ⊎_elim
      (λ (same : q.ppn ≡ p.ppn).
      let directory : d ≡ e = some_same (sym at ∙ ap (λ (k : ℕ). get m.directories k) (sym same) ∙ at') in
      let there : get d.files q.name ≡ Some g = subst (λ (x : StoredDirectory). get x.files q.name ≡ Some g)
      (sym directory) has' in
      let two = two-le-sum_entries name_total name_exact (λ (k : FileName). reaches_in_file n) d.files p.name q.name f g
      has there (λ same_name. differ (ap (λ (x : StoredFile). x.prime) (some_same (sym has
      ∙ ap (λ (k : FileName). get d.files k) (sym same_name) ∙ there)))) in
      let part = directory_part m p.ppn d at n in
      omega arith)
      (λ other.
      let two = two-le-sum_entries nat_cmp_total nat_cmp-IsAntisymmetric (λ (k : ℕ). reaches_in_directory n)
      m.directories p.ppn q.ppn d e at at' other in
      let first = file_part d p.name f has n in
      let second = file_part e q.name g has' n in
      omega arith)
      (cases_eq q.ppn p.ppn)

  pub mapped_blocks : (layout : ℕ) (saved : SavedFile) (is : IsMapped layout saved) (n : ℕ)
      → times n (blocks_of saved) ≡ reaches_in_file n is.mapped.file
  mapped_blocks layout saved is n = λ i. times n (sym is.mapped.prime_is i ∷ (is.ribs i ++ is.blocks i))

  -- one more file shares no block with those that claim it
  unshared : (layout : ℕ) (f : SavedFile) (files : List SavedFile) (n : ℕ) → IsMapped layout f
      → AllByRecursion (IsNamedRead size layout contents) files → times f.at (blocks_at files) ≡ 0
      → 0 < claims files n → times n (blocks_of f) ≡ 0
  unshared layout f [] n is all others some = absurd (omega arith)
  unshared layout f (g ∷ files) n is all others some =
      by (times n (blocks_of g)) refl (λ more. unshared layout f files n is all.1 (omega arith) more)
    where
      apart : f.at ≡ g.at → ⊥
      apart same = let here = times_here f.at (blocks_at files) in
          let there : 0 < times f.at (blocks_at (g ∷ files)) = subst
          (λ (k : ℕ). 0 < times f.at (k ∷ blocks_at files)) same here in omega arith

      by : (k : ℕ) → times n (blocks_of g) ≡ k → (0 < claims files n → times n (blocks_of f) ≡ 0)
          → times n (blocks_of f) ≡ 0
      by zero none rest = rest (omega arith)
      by (suc k) here rest =
          let other = read_is_mapped layout g all.0 in
          let mine = is.mapped in
          let yours = other.mapped in
          let two = two_files (place_in f) (place_in g) mine.directory yours.directory mine.file yours.file
          mine.directory_is mine.file_is yours.directory_is yours.file_is
          (λ same. apart (sym mine.prime_is ∙ same ∙ yours.prime_is)) n in
          let a = mapped_blocks layout f is n in
          let b = mapped_blocks layout g other n in
          let one = once size contents m s.marked n in
          omega arith

  -- So no block is twice in files that were read.
  claimed_once : (layout : ℕ) (files : List SavedFile) → AllByRecursion (IsNamedRead size layout contents) files
      → AreApart files → (n : ℕ) → claims files n ≤ 1
  claimed_once layout [] all apart n = omega arith
  claimed_once layout (f ∷ files) all apart n = by (claims files n) refl
      (claimed_once layout files all.1 (λ k. let few = apart k in omega arith) n)
    where
      is : IsMapped layout f
      is = read_is_mapped layout f all.0

      others : times f.at (blocks_at files) ≡ 0
      others = let few = apart f.at in let head = times-cons f.at (blocks_at files) in omega arith

      by : (k : ℕ) → claims files n ≡ k → claims files n ≤ 1 → claims (f ∷ files) n ≤ 1
      by zero none rest =
          let a = mapped_blocks layout f is n in
          let part = file_part is.mapped.directory f.stored.prime.file is.mapped.file is.mapped.file_is n in
          let whole = directory_part m f.stored.prime.ppn is.mapped.directory is.mapped.directory_is n in
          let one = once size contents m s.marked n in
          omega arith
      by (suc k) some rest = let none = unshared layout f files n is all.1 others (omega arith) in omega arith

  -- There is no finding that costs a named file.

  -- what is at the prime block of a named file is the map's file, with this block
  block_reached : (layout : ℕ) (place : Place) (prime n : ℕ)
      (is : IsMappedFile size contents m layout place prime) → HasBlock layout contents place prime n
      → 0 < reaches_in_file n is.file
  block_reached layout place prime n is has =
      let own : IsRetrieved layout contents (prime_of place is.file.file) prime is.file.extensions is.file.blocks =
      subst (λ (l : ℕ). IsRetrieved l contents (prime_of place is.file.file) prime is.file.extensions is.file.blocks)
      (sym is.layout_is)
      (subst (λ (k : ℕ).
      IsRetrieved m.layout contents (prime_of place is.file.file) k is.file.extensions is.file.blocks)
      is.prime_is is.version.retrieved) in
      let same = retrieved_same layout contents has.p (prime_of place is.file.file) prime has.extensions
      is.file.extensions has.blocks is.file.blocks has.retrieved own (ap (λ (p : Place). p.name.ext) has.place_is) in
      subst (λ (k : ℕ). 0 < times n (k ∷ (is.file.extensions ++ is.file.blocks))) (sym is.prime_is)
      (subst (λ (l : List ℕ). 0 < times n (prime ∷ (is.file.extensions ++ l))) same.2
      (subst (λ (l : List ℕ). 0 < times n (prime ∷ (l ++ has.blocks))) same.1 has.among))

  no_file_fault : (layout : ℕ) (place : Place) (fault : Defect) → IsFaultOf size layout contents place fault → ⊥
  no_file_fault layout place fault met = by fault met.concerns
    where
      there : IsMappedFile size contents m layout place met.prime
      there = file_named size contents m s layout place met.prime met.named

      by : (e : Defect) → Concerns size layout contents place met.prime e → ⊥
      by (Start NotVolume) is = is
      by (Start BadHome) is = is
      by (Start BadLog) is = is
      by (Start (BadDirectory n)) is = is
      by (Start (BadRetrieval n)) is = no_fault size contents m s (faults.StartFault.BadRetrieval n) (
        is.0,
        ⊎_elim (λ bad. IsBadRetrieval.of_version layout place met.prime met.named bad)
            (λ other. IsBadRetrieval.of_another_place layout place
            (subst (λ (p : ℕ). IsFileNamed size contents layout place p) (sym other.0) met.named)
            (subst (λ (p : ℕ). IsOtherPlace layout contents place p) (sym other.0) other.1)) is.1,
      )
      by (Start (BlockTwice n)) is = ⊎_elim
          (λ files. let two = files.twice in
          let few = claimed_once layout files.files files.named files.apart n in omega arith)
          (λ chain. no_chain_block size contents m s layout place.ppn there.directory place.name there.file n
          there.directory_is there.file_is (block_reached layout place met.prime n there is.0) chain) is.1
      by (Start (TableWrong n)) is = is
      by (Start Device) is = is
      by (Start NoMemory) is = is
      by (Start Failed) is = is
      by (Start (BadData n)) is = no_fault size contents m s (faults.StartFault.BadData n) (
        is.0,
        record {
          layout = layout;
          place = place;
          p = is.1.p;
          prime = met.prime;
          extensions = is.1.extensions;
          blocks = is.1.blocks;
          named = met.named;
          place_is = is.1.place_is;
          retrieved = is.1.retrieved;
          inside = is.1.inside;
          damaged = is.1.damaged;
        },
      )
      by (FreeBlock n) is =
          let some = block_reached layout place met.prime n there is.0 in
          no_free_block size contents m s place.ppn there.directory place.name there.file n there.directory_is
          there.file_is some (there.inside n some).below is.1
      by (TwoOwners n) is = is
      by (Crowded n) is = let many = is.1.many in
          let few = claimed_once layout is.1.files is.1.each is.1.apart n in omega arith
      by (Missing n) is = is
      by (Surplus n) is = is
      by (Tail n) is = is

  no_directory_fault : (layout ppn : ℕ) (fault : VolumeError) → IsFaultOfDirectory size layout contents ppn fault → ⊥
  no_directory_fault layout ppn fault met = by fault met.concerns
    where
      by : (e : VolumeError) → IsFaultOfChain size layout contents ppn met.first e → ⊥
      by NotVolume is = is
      by BadHome is = is
      by BadLog is = is
      by (BadDirectory n) is = no_fault size contents m s (faults.StartFault.BadDirectory n) (
        is.inside,
        inr (record {
          layout = layout;
          ppn = ppn;
          before = is.before;
          walk = record { word = met.word; first = met.first; named = met.named; walk = is.walk };
          inside = is.inside;
          bad = is.bad;
        }),
      )
      by (BadRetrieval n) is = is
      by (BlockTwice n) is = ⊎_elim
          (λ twice. no_fault size contents m s (faults.StartFault.BlockTwice n) (
            is.0,
            record {
              m = record {
                nodes = met.named.nodes;
                last = met.named.last;
                directories = (ppn, record { nodes = twice.before; last = n; files = [] }) ∷ [];
              };
              read = record {
                layout = layout;
                walk = met.named.walk;
                once = (refl, tt);
                directories = (
                  record {
                    word = met.word;
                    first = met.first;
                    entry = met.named.entry;
                    walk = twice.walk;
                    once = tt;
                    files = tt;
                  },
                  tt,
                );
              };
              twice = let t = twice.twice in omega arith;
            },
          ))
          (λ shared. no_shared_chain size contents m s layout ppn met.word met.first n met.named shared) is.1
      by (TableWrong n) is = is
      by Device is = is
      by NoMemory is = is
      by Failed is = is
      by (BadData n) is = is

  no_master_fault : (layout : ℕ) (fault : VolumeError) → IsFaultOfMaster size layout contents fault → ⊥
  no_master_fault layout NotVolume is = no_fault size contents m s faults.StartFault.NotVolume is
  no_master_fault layout BadHome is = no_fault size contents m s faults.StartFault.BadHome is
  no_master_fault layout BadLog is = is
  no_master_fault layout (BadDirectory n) is = no_fault size contents m s (faults.StartFault.BadDirectory n)
      (is.0, inl is.1)
  no_master_fault layout (BadRetrieval n) is = is
  no_master_fault layout (BlockTwice n) is = no_fault size contents m s (faults.StartFault.BlockTwice n) (
    is.inside,
    record {
      m = record { nodes = is.twice.before; last = n; directories = [] };
      read = record {
        layout = layout;
        walk = record { volume = s.volume; master = is.first; home = is.home; walk = is.twice.walk };
        once = tt;
        directories = tt;
      };
      twice = let t = is.twice.twice in omega arith;
    },
  )
  no_master_fault layout (TableWrong n) is = is
  no_master_fault layout Device is = is
  no_master_fault layout NoMemory is = is
  no_master_fault layout Failed is = is
  no_master_fault layout (BadData n) is = is

  no_start_fault : (P : VolumeError → Type 0) → ((e : VolumeError) → P e → ⊥) → (fault : Defect)
      → IsStartFault P fault → ⊥
  no_start_fault P none (Start e) is = none e is
  no_start_fault P none (FreeBlock n) is = is
  no_start_fault P none (TwoOwners n) is = is
  no_start_fault P none (Crowded n) is = is
  no_start_fault P none (Missing n) is = is
  no_start_fault P none (Surplus n) is = is
  no_start_fault P none (Tail n) is = is

  finding_at : (layout : ℕ) (findings : List Finding) (costs : Cost)
      → AllByRecursion (IsFinding size layout contents) findings → (lost : IsLostBy findings costs)
      → IsFaultAt size layout contents lost.fault costs
  finding_at layout findings costs stand lost = element_has (IsFinding size layout contents) findings
      (record { fault = lost.fault; costs = costs }) stand lost.among

  pub no_told : (layout : ℕ) (findings : List Finding) (ppn : ℕ) (name : FileName)
      → AllByRecursion (IsFinding size layout contents) findings → IsLostBy findings (cost.File ppn name) → ⊥
  no_told layout findings ppn name stand lost = no_file_fault layout (place_of ppn name) lost.fault
      (finding_at layout findings (cost.File ppn name) stand lost)

  pub no_directory_loss : (layout : ℕ) (findings : List Finding) (ppn : ℕ)
      → AllByRecursion (IsFinding size layout contents) findings → IsDirectoryLoss findings ppn → ⊥
  no_directory_loss layout findings ppn stand loss = ⊎_elim
      (λ lost. no_start_fault (IsFaultOfDirectory size layout contents ppn) (no_directory_fault layout ppn) lost.fault
      (finding_at layout findings (cost.Directory ppn) stand lost))
      (λ lost. no_start_fault (IsFaultOfMaster size layout contents) (no_master_fault layout) lost.fault
      (finding_at layout findings cost.Directories stand lost)) loss

  -- A survey of these contents.
  module _ (layout : ℕ) (search : Search) (saved doubtful unnamed : List SavedFile) (findings : List Finding)
      (survey : IsSurveyed size layout contents search saved doubtful unnamed findings) where
    -- each named file is in its place
    placed : (ppn : ℕ) (name : FileName) (prime : ℕ) → IsFileNamed size contents layout (place_of ppn name) prime
        → IsAmong saved (place_of ppn name) prime
    placed ppn name prime named = ⊎_elim found
        (λ lost. absurd (⊎_elim
        (λ unread. no_told layout findings ppn name survey.stand (record {
          fault = unread.fault;
          among = unread.among;
        }))
        (no_directory_loss layout findings ppn survey.stand) lost))
        (survey.read_all ppn name prime named)
      where
        found : IsAmong survey.read (place_of ppn name) prime → IsAmong saved (place_of ppn name) prime
        found is = ⊎_elim
            (λ there. record { file = is.file; among = there; at_is = is.at_is; place_is = is.place_is })
            (λ other. absurd (no_told layout findings is.file.stored.prime.ppn is.file.stored.prime.file survey.stand
            other.1))
            (element_has
            (λ file. Contains saved file ⊎ ((Contains doubtful file
            ⊎ (IsDamaged contents file ⊎ IsFull survey.read file)) × IsTold findings file))
            survey.read is.file survey.judged is.among)

    -- The files of the map are saved.
    file_saved : m.layout ≡ layout
        → (ppn : ℕ) (d : StoredDirectory) (name : FileName) (f : StoredFile) → get m.directories ppn ≡ Some d
        → get d.files name ≡ Some f → IsSavedAs contents saved (place_of ppn name) f.file
    file_saved same ppn d name f at has = found (placed ppn name f.prime named)
      where
        place : Place
        place = place_of ppn name

        named : IsFileNamed size contents layout place f.prime
        named = subst (λ (l : ℕ). IsFileNamed size contents l place f.prime) same (file_there ppn d name f at has)

        version : IsRetrieved layout contents (prime_of place f.file) f.prime f.extensions f.blocks
        version = subst (λ (l : ℕ). IsRetrieved l contents (prime_of place f.file) f.prime f.extensions f.blocks) same
            ((s.mapped.directories ppn d at).files name f has).retrieved

        found : IsAmong saved place f.prime → IsSavedAs contents saved place f.file
        found is =
            let read = (element_has (IsInPlace size layout contents survey.read) saved is.file survey.placed
            is.among).named.read in
            let stored = is.file.stored in
            let own : IsRetrieved layout contents (with_length stored.prime stored.version.words) f.prime
            stored.version.ribs stored.version.blocks = subst (λ (n : ℕ). IsRetrieved layout contents
            (with_length stored.prime stored.version.words) n stored.version.ribs stored.version.blocks) is.at_is
            read.retrieved in
            let equal = retrieved_same layout contents (prime_of place f.file)
            (with_length stored.prime stored.version.words) f.prime f.extensions stored.version.ribs f.blocks
            stored.version.blocks version own (ap (λ (p : Place). p.name.ext) (sym is.place_is)) in
            record {
              saved = is.file;
              among = is.among;
              facts = equal.0;
              body = subst (λ (ns : List ℕ). HasBody contents ns f.file.body) equal.2
                  ((s.mapped.directories ppn d at).files name f has).body;
            }

    -- What is in its place is a file of the map.
    saved_stored : (files : Files File) → files_of m ≡ files → (file : SavedFile)
        → IsInPlace size layout contents survey.read file → IsFileSaved contents files file
    saved_stored files are file is =
        let read = read_is_mapped layout file is.named in
        let d = read.mapped.directory in
        let f = read.mapped.file in
        record {
          directory = directory_of d;
          directory_is = ap (λ (z : Files File). get z file.stored.prime.ppn) (sym are)
              ∙ get-map_values nat_cmp_total directory_of m.directories file.stored.prime.ppn
              ∙ ap (option_map directory_of) read.mapped.directory_is;
          file = f.file;
          file_is = get-map_values name_total (λ (x : StoredFile). x.file) d.files file.stored.prime.file
              ∙ ap (option_map (λ (x : StoredFile). x.file)) read.mapped.file_is;
          facts = sym read.facts;
          body = subst (λ (ns : List ℕ). HasBody contents ns f.file.body) (sym read.blocks) read.mapped.version.body;
        }

    -- Nothing is doubtful.
    none_doubtful : doubtful ≡ []
    none_doubtful = by doubtful survey.doubted
      where
        by : (l : List SavedFile) → AllByRecursion (λ file. Contains survey.read file
            × IsWholeFile size layout contents file × IsTold findings file) l → l ≡ []
        by [] all = refl
        by (x ∷ xs) all = absurd (no_told layout findings x.stored.prime.ppn x.stored.prime.file survey.stand all.0.2)

-- The files of contents that stand are saved, each in its place, and no others.
pub all_saved : (size layout : ℕ) (contents : Contents) (files : Files File) (search : Search)
    (saved doubtful unnamed : List SavedFile)
    (findings : List Finding) → IsSurveyed size layout contents search saved doubtful unnamed findings
    → ((home : SpecHome) → IsHome size contents home → layout ≡ home.layout)
    → SettledStands size contents files → AreTheFiles contents saved files × (doubtful ≡ [])
all_saved size layout contents files search saved doubtful unnamed findings survey layout_is stands = (
  record {
    all = λ ppn directory name file at has.
        let d = image directory_of (get m.directories ppn) directory
        (sym (get-map_values nat_cmp_total directory_of m.directories ppn)
        ∙ ap (λ (z : Files File). get z ppn) stands.2 ∙ at) in
        let f = image (λ (x : StoredFile). x.file) (get d.0.files name) file
        (sym (get-map_values name_total (λ (x : StoredFile). x.file) d.0.files name)
        ∙ ap (λ (z : Directory File). get z.files name) d.2 ∙ has) in
        subst (λ (x : File). IsSavedAs contents saved (place_of ppn name) x) f.2
        (file_saved size contents m s layout search saved doubtful unnamed findings survey
        (sym (layout_is (home_of m) s.mapped.home)) ppn d.0 name f.0 d.1 f.1);
    only = all_of (IsInPlace size layout contents survey.read) (IsFileSaved contents files) saved
        (saved_stored size contents m s layout search saved doubtful unnamed findings survey files stands.2)
        survey.placed;
  },
  none_doubtful size contents m s layout search saved doubtful unnamed findings survey,
)
  where
    m : DiskMap
    m = stands.0

    s : HasMap size contents m
    s = stands.1

pub all_saved_on : {E : Type 0} (size : ℕ) (contents : Contents) (files : Files File) (search : Search)
    (result : Result Survey E)
    → IfOk result (λ (survey : Survey). IsSurveyed size (layout_number survey.layout) contents search
    survey.files.items survey.doubtful.items survey.unnamed.items survey.findings.items)
    → ((home : SpecHome) → IsHome size contents home
    → IfOk result (λ (survey : Survey). layout_number survey.layout ≡ home.layout))
    → SettledStands size contents files
    → IfOk result (λ (survey : Survey). AreTheFiles contents survey.files.items files × (survey.doubtful.items ≡ []))
all_saved_on size contents files search (Ok survey) surveyed layout stands = all_saved size
    (layout_number survey.layout) contents files search survey.files.items survey.doubtful.items survey.unnamed.items
    survey.findings.items surveyed layout stands
all_saved_on size contents files search (Err e) surveyed layout stands = tt
