-- If contents stand for files, the prime blocks in blocks that are in use are those of the files.
use Rattle.std.proofs.Common.{◌≡◌, ◌⊎◌, inl, inr, ⊎_elim, ℕ, zero, suc, ◌+◌, ◌*◌, ◌/◌, ◌<◌, ◌≤◌, Bool, true, false}
use Rattle.std.proofs.Common.{List, [], ◌∷◌, Option, Some, None, IsSome, cond, refl, sym, ap, subst, ◌∙◌, arith, ltb}
use Rattle.std.proofs.Common.{Ordering, get_or, Result, Ok, Err, IfOk}
use Rattle.std.proofs.lemmas.Bool.{cases_eq}
use Rattle.std.proofs.lemmas.Bool.Decides.{nat_tests}
use Rattle.std.specs.Cmp.{IsTotalOrder, nat_cmp_total}
use Rattle.std.specs.List.{AllByRecursion}
use Rattle.words36.specs.declared.names.FileName.{FileName}
use Rattle.blockdisk.specs.Common.{Contents}
use Rattle.spec_image.specs.Common.{DiskMap, File, Files, FinMap, HasMap, InSpace, IsHome, IsSpelled, Node}
use Rattle.spec_image.specs.Common.{SettledStands, SpecHome, SpecPrime, SpecRun, StoredDirectory, StoredFile}
use Rattle.spec_image.specs.Common.{bit_in, bit_of, first_of}
use Rattle.spec_image.specs.Common.{fixed, get, numbers, place_of, prime_block, prime_word, reaches, home_of}
use Rattle.spec_image.specs.Common.{reaches_in_directory, reaches_in_file, space_start, sum_over, table_blocks}
use Rattle.spec_image.specs.Common.{IsFileNamed, layout_number, table_start, times, total, values}
use Rattle.spec_image.specs.Directories.{IsDirectory, directory_block}
use Rattle.spec_image.proofs.Common.{directory_part, fixed_below, name_total, some_same, sum-values, times_here}
use Rattle.spec_image.proofs.Common.{times_later, times_other}
use Rattle.spec_image.proofs.Excluded.{reached_inside}
use Rattle.spec_image.proofs.MapSums.{sum_le}
use Rattle.salvage.specs.Common.{IsAmong, IsNamedRead, IsSearched, IsSurveyed, IsWholeFile, MayBeUsed, blocks_of}
use Rattle.salvage.specs.Common.{claims}
use Rattle.salvage.specs.declared.saved.SavedFile.{SavedFile}
use Rattle.salvage.specs.declared.search.Search.{Search}
use Rattle.salvage.specs.declared.search.Search.TheVariants.{Named, Used, Every}
use Rattle.salvage.specs.declared.finding.Finding.{Finding}
use Rattle.salvage.specs.declared.survey.Survey.{Survey}
use Rattle.salvage.proofs.CarriedFacts.{element_has}
use Rattle.salvage.proofs.Faulty.{claims_each}
use Rattle.salvage.proofs.NothingLost.{file_there, mapped_blocks, no_directory_loss, no_told, read_is_mapped}

-- Sums.

zero_if : (k : ℕ) → (0 < k → ⊥) → k ≡ 0
zero_if zero none = refl
zero_if (suc k) none = absurd (none (omega arith))

total_none : {X : Type 0} (xs : List X) → total (λ (x : X). 0) xs ≡ 0
total_none [] = refl
total_none (x ∷ xs) = let rest = total_none xs in omega arith

sum_none : {K X : Type 0} {R : K → K → Ordering} → IsTotalOrder R → (f : X → ℕ) (m : FinMap R X)
    → ((k : K) (x : X) → get m k ≡ Some x → f x ≡ 0) → sum_over f m ≡ 0
sum_none {X = X} order f m none =
    let few = sum_le order f (λ (x : X). 0) m (λ k x at. let z = none k x at in omega arith) in
    let zeros = sum-values (λ (x : X). 0) m ∙ total_none (values m) in
    omega arith

-- A block of a chain is a directory block, whose first word is 0 or the number of a block of the chain.
record IsInChain {E : Type 0} (words : E → List ℕ) (contents : Contents) (nodes : List (Node E)) (n : ℕ)
    : Type 0 where
  next : ℕ
  entries : List E
  words_are : contents n ≡ Some (directory_block words next entries)
  next_is : (next ≡ 0) ⊎ (0 < times next (numbers nodes))

in_chain : {E : Type 0} (words : E → List ℕ) (contents : Contents) (nodes : List (Node E)) (n : ℕ)
    → IsSpelled words contents nodes → 0 < times n (numbers nodes) → IsInChain words contents nodes n
in_chain words contents [] n spelled there = absurd (omega arith)
in_chain {E = E} words contents (node ∷ nodes) n spelled there = ⊎_elim
    (λ (same : n ≡ node.0). record {
      next = first_of nodes;
      entries = node.1;
      words_are = ap contents same ∙ spelled.0;
      next_is = first nodes;
    })
    (λ other.
    let rest = in_chain words contents nodes n spelled.1
    (let none = times_other n node.0 (numbers nodes) other in omega arith) in
    record {
      next = rest.next;
      entries = rest.entries;
      words_are = rest.words_are;
      next_is = ⊎_elim (λ none. inl none) (λ some. inr (times_later rest.next node.0 (numbers nodes) some))
          rest.next_is;
    })
    (cases_eq n node.0)
  where
    first : (rest : List (Node E)) → (first_of rest ≡ 0) ⊎ (0 < times (first_of rest) (node.0 ∷ numbers rest))
    first [] = inl refl
    first (r ∷ rest) = inr (times_later r.0 node.0 (r.0 ∷ numbers rest) (times_here r.0 (numbers rest)))

module _ (size : ℕ) (contents : Contents) (m : DiskMap) (s : HasMap size contents m) where
  not_fixed : (n : ℕ) → space_start size ≤ n → fixed size n ≡ 0
  not_fixed n from =
      let no : ltb n (space_start size) ≡ false = grind (arith, nat_tests) in
      ap (λ c. cond c 1 0) no

  -- the bit of a block, in the words of its block of the table
  bit_is : (i n : ℕ) (words : List ℕ) → contents (table_start size + i) ≡ Some words → i < table_blocks size
      → n / 4608 ≡ i → bit_of words n ≡ fixed size n + reaches n m
  bit_is i n words is in_table here = sym (by (ltb n (4608 * table_blocks size)) refl) ∙ s.marked.bits n
    where
      by : (b : Bool) → ltb n (4608 * table_blocks size) ≡ b
          → cond b (bit_in (contents (table_start size + n / 4608)) n) 0 ≡ bit_of words n
      by true e = ap (λ k. bit_in (contents (table_start size + k)) n) here ∙ ap (λ o. bit_in o n) is
      by false e =
          let past : 4608 * table_blocks size ≤ n = grind (arith, nat_tests) in
          absurd (omega arith)

  -- A block of the free space that is in use is reached.
  used_reached : (n : ℕ) → InSpace size n → MayBeUsed size contents n → 0 < reaches n m
  used_reached n inside used = by (contents (table_start size + n / 4608)) refl (s.marked.undamaged (n / 4608) in_table)
    where
      in_table : n / 4608 < table_blocks size
      in_table = let below = inside.below in omega arith

      by : (o : Option (List ℕ)) → contents (table_start size + n / 4608) ≡ o → IsSome o → 0 < reaches n m
      by None e some = absurd cc
      by (Some words) e some = ⊎_elim
          (λ (none : reaches n m ≡ 0). absurd (used (record {
            words = words;
            words_are = e;
            tells = record {
              past = λ k here over.
                  let bit = bit_is (n / 4608) k words e in_table here in
                  let out = s.marked.inside k over in
                  let small = s.volume.small in
                  let free = not_fixed k (omega arith) in
                  omega arith;
              fixed = λ k here below.
                  let bit = bit_is (n / 4608) k words e in_table here in
                  let one = fixed_below size k below in
                  omega arith;
            };
            clear =
                let bit = bit_is (n / 4608) n words e in_table refl in
                let free = not_fixed n inside.from in
                omega arith;
          })))
          (λ (some : reaches n m ≡ 0 → ⊥). let one : reaches n m ≡ 0 → ⊥ = some in omega arith)
          (cases_eq (reaches n m) 0)

  -- What reaches a block is a chain or a file.
  reached_by : (n : ℕ) → 0 < reaches n m → (0 < times n m.chain → ⊥)
      → ((ppn : ℕ) (d : StoredDirectory) → get m.directories ppn ≡ Some d → 0 < times n d.chain → ⊥)
      → ((ppn : ℕ) (d : StoredDirectory) (name : FileName) (f : StoredFile) → get m.directories ppn ≡ Some d
      → get d.files name ≡ Some f → 0 < reaches_in_file n f → ⊥)
      → ⊥
  reached_by n some no_master no_chain no_file =
      let none : (ppn : ℕ) (d : StoredDirectory) → get m.directories ppn ≡ Some d → reaches_in_directory n d ≡ 0 =
      λ ppn d at.
      let files = sum_none name_total (reaches_in_file n) d.files (λ name f has. zero_if (reaches_in_file n f)
      (no_file ppn d name f at has)) in
      let chain = zero_if (times n d.chain) (no_chain ppn d at) in
      omega arith in
      let directories = sum_none nat_cmp_total (reaches_in_directory n) m.directories none in
      let master = zero_if (times n m.chain) no_master in
      omega arith

  -- A block of a chain is no prime block.
  no_prime : {K V : Type 0} {R : K → K → Ordering} (words : K × V → List ℕ) (IsEntry : K × V → Type 0)
      (blocks : List ℕ) (there : FinMap R V) → IsDirectory R words IsEntry contents blocks there
      → ((k : ℕ) → 0 < times k blocks → k < size) → (n : ℕ) → 0 < times n blocks
      → (p : SpecPrime) (runs : List SpecRun) (next : ℕ) → contents n ≡ Some (prime_block p runs next) → ⊥
  no_prime words IsEntry blocks there d inside n in_it p runs next is =
      let at = in_chain words contents d.nodes n d.spelled
      (subst (λ (l : List ℕ). 0 < times n l) (sym d.blocks_are) in_it) in
      let first : at.next ≡ prime_word = ap (λ (l : List ℕ). get_or l 0 0) (some_same (sym at.words_are ∙ is)) in
      let large = s.volume.large in
      ⊎_elim (λ none. omega arith)
      (λ more. let below = inside at.next (subst (λ (l : List ℕ). 0 < times at.next l) d.blocks_are more) in
      omega arith) at.next_is

  -- A whole file at a block in use is one of those that directories name.
  module _ (layout : ℕ) (search : Search) (saved doubtful unnamed : List SavedFile) (findings : List Finding)
      (survey : IsSurveyed size layout contents search saved doubtful unnamed findings) (layout_is : m.layout ≡ layout)
    where
      -- its block would be in a file that was read
      file_claims : (ppn : ℕ) (d : StoredDirectory) (name : FileName) (f : StoredFile)
          → get m.directories ppn ≡ Some d → get d.files name ≡ Some f → (n : ℕ) → 0 < reaches_in_file n f
          → 0 < claims survey.read n
      file_claims ppn d name f at has n some = ⊎_elim found
          (λ lost. absurd (⊎_elim
          (λ unread. no_told size contents m s layout findings ppn name survey.stand (record {
            fault = unread.fault;
            among = unread.among;
          }))
          (no_directory_loss size contents m s layout findings ppn survey.stand) lost))
          (survey.read_all ppn name f.prime
          (subst (λ l. IsFileNamed size contents l (place_of ppn name) f.prime) layout_is
          (file_there size contents m s ppn d name f at has)))
        where
          found : IsAmong survey.read (place_of ppn name) f.prime → 0 < claims survey.read n
          found is =
              let named = element_has (IsNamedRead size layout contents) survey.read is.file survey.read_named
              is.among in
              let mapped = read_is_mapped size contents m s layout is.file named in
              let blocks = mapped_blocks size contents m s layout is.file mapped n in
              let few = element_has (λ file. (k : ℕ) → times k (blocks_of file) ≤ claims survey.read k) survey.read
              is.file (claims_each survey.read) is.among n in
              let same_ppn : is.file.stored.prime.ppn ≡ ppn = ap (λ p. p.ppn) is.place_is in
              let same_name : is.file.stored.prime.file ≡ name = ap (λ p. p.name) is.place_is in
              let same_directory : mapped.mapped.directory ≡ d = some_same (sym mapped.mapped.directory_is
              ∙ ap (λ k. get m.directories k) same_ppn ∙ at) in
              let same_file : mapped.mapped.file ≡ f = some_same (sym mapped.mapped.file_is
              ∙ ap (λ (x : StoredDirectory). get x.files is.file.stored.prime.file) same_directory
              ∙ ap (λ k. get d.files k) same_name ∙ has) in
              let reached : reaches_in_file n mapped.mapped.file ≡ reaches_in_file n f = ap (reaches_in_file n)
              same_file in
              omega arith

      no_unnamed : (file : SavedFile) → IsWholeFile size layout contents file → InSpace size file.at
          → MayBeUsed size contents file.at → claims survey.read file.at ≡ 0 → ⊥
      no_unnamed file whole inside used unclaimed =
          let r = whole.read.retrieved in
          reached_by file.at (used_reached file.at inside used)
          (λ some. no_prime _ _ m.chain _ s.mapped.master
          (λ k more. (reached_inside size contents m s k (omega arith)).below) file.at some _ _ _ r.prime_is)
          (λ ppn d at some. no_prime _ _ d.chain _ (s.mapped.directories ppn d at).chain
          (λ k more. let part = directory_part m ppn d at k in (reached_inside size contents m s k (omega arith)).below)
          file.at some _ _ _ r.prime_is)
          (λ ppn d name f at has some. let claimed = file_claims ppn d name f at has file.at some in omega arith)

      none_unnamed : (search ≡ Every → ⊥) → unnamed ≡ []
      none_unnamed restricted = by unnamed survey.unnamed_whole survey.unnamed_at
        where
          used : (n : ℕ) (kind : Search) → search ≡ kind → IsSearched kind size contents n → MayBeUsed size contents n
          used n Named is wanted = absurd wanted
          used n Used is wanted = wanted
          used n Every is wanted = absurd (restricted is)

          by : (l : List SavedFile) → AllByRecursion (IsWholeFile size layout contents) l
              → AllByRecursion (λ file. InSpace size file.at × IsSearched search size contents file.at
              × (claims survey.read file.at ≡ 0)) l
              → l ≡ []
          by [] whole at = refl
          by (x ∷ xs) whole at = absurd (no_unnamed x whole.0 at.0.0 (used x.at search refl at.0.1) at.0.2)

-- Of contents that stand no file is found that no directory names, unless free blocks are searched too.
pub nothing_unnamed : (size layout : ℕ) (contents : Contents) (files : Files File) (search : Search)
    (saved doubtful unnamed : List SavedFile) (findings : List Finding)
    → IsSurveyed size layout contents search saved doubtful unnamed findings
    → ((home : SpecHome) → IsHome size contents home → layout ≡ home.layout)
    → SettledStands size contents files → (search ≡ Every → ⊥) → unnamed ≡ []
nothing_unnamed size layout contents files search saved doubtful unnamed findings survey layout_is stands restricted =
    let m = stands.0 in
    let s = stands.1 in
    none_unnamed size contents m s layout search saved doubtful unnamed findings survey
    (sym (layout_is (home_of m) s.mapped.home)) restricted

pub nothing_unnamed_on : {E : Type 0} (size : ℕ) (contents : Contents) (files : Files File) (search : Search)
    (result : Result Survey E)
    → IfOk result (λ (survey : Survey). IsSurveyed size (layout_number survey.layout) contents search
    survey.files.items survey.doubtful.items survey.unnamed.items survey.findings.items)
    → ((home : SpecHome) → IsHome size contents home
    → IfOk result (λ (survey : Survey). layout_number survey.layout ≡ home.layout))
    → SettledStands size contents files → (search ≡ Every → ⊥)
    → IfOk result (λ (survey : Survey). survey.unnamed.items ≡ [])
nothing_unnamed_on size contents files search (Ok survey) surveyed layout stands restricted = nothing_unnamed size
    (layout_number survey.layout) contents files search survey.files.items survey.doubtful.items survey.unnamed.items
    survey.findings.items surveyed layout stands restricted
nothing_unnamed_on size contents files search (Err e) surveyed layout stands restricted = tt
