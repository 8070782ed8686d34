-- If contents stand for files, a block of a chain is in no file, and the table says of no block in use that it is free.
use Rattle.std.proofs.Common.{◌≡◌, ◌⊎◌, inl, inr, ⊎_elim, ℕ, ◌+◌, ◌*◌, ◌/◌, ◌<◌, Bool, true, false, List, [], ◌∷◌}
use Rattle.std.proofs.Common.{Some, cond, refl, sym, ap, subst, ◌∙◌, arith, ltb, Ordering}
use Rattle.std.proofs.lemmas.Bool.{cases_eq}
use Rattle.std.specs.Cmp.{nat_cmp_total}
use Rattle.std.specs.FinMap.{nat_cmp-IsAntisymmetric}
use Rattle.words36.specs.declared.names.FileName.{FileName}
use Rattle.blockdisk.specs.Common.{Contents}
use Rattle.spec_image.specs.Common.{DiskMap, FinMap, HasMap, IsDirectoryNamed, IsFileEntry, IsMasterEntry}
use Rattle.spec_image.specs.Common.{IsMasterEntryOf, IsSpelled}
use Rattle.spec_image.specs.Common.{Node, StoredDirectory, StoredFile, bit_in, file_words, first_of, get, head_or_zero}
use Rattle.spec_image.specs.Common.{home_of, master_words, numbers, reaches_in_directory, reaches_in_file, table_bit}
use Rattle.spec_image.specs.Common.{table_blocks, table_start, times}
use Rattle.spec_image.specs.Directories.{IsDirectory, IsFilled, directory_block}
use Rattle.spec_image.proofs.Common.{TellsApart, at-le-sum, block_same, directory_part, file_apart, file_part}
use Rattle.spec_image.proofs.Common.{head-numbers, home_same, master_apart, name_exact, name_total, once, some_same}
use Rattle.spec_image.proofs.Common.{times_here, times_later, times_other, two-le-sum_entries}
use Rattle.spec_image.proofs.Excluded.{directory_named}
use Rattle.volume.specs.Common.{home_in}
use Rattle.salvage.specs.Common.{IsChainBlock, IsChainShared, IsFileWalked, IsFreeBlock, IsWalked, of_directory}
use Rattle.salvage.specs.Common.{of_master}
use Rattle.salvage.specs.Chains.{at_first, onward}

-- The next block of one of a chain is in the chain too.
next_there : {E : Type 0} (words : E → List ℕ) → TellsApart words → (contents : Contents) (nodes : List (Node E))
    (n next : ℕ) (es : List E) → IsSpelled words contents nodes → 0 < times n (numbers nodes)
    → contents n ≡ Some (directory_block words next es) → 0 < next → 0 < times next (numbers nodes)
next_there words apart contents [] n next es spelled there is some = absurd (omega arith)
next_there {E = E} words apart contents (node ∷ nodes) n next es spelled there is some = ⊎_elim
    (λ (same : n ≡ node.0).
    let equal = block_same words apart next (first_of nodes) es node.1
    (some_same (sym is ∙ ap contents same ∙ spelled.0)) in
    times_later next node.0 (numbers nodes) (after nodes (omega (arith, equal.0)) equal.0))
    (λ other. times_later next node.0 (numbers nodes) (next_there words apart contents nodes n next es spelled.1
    (let none = times_other n node.0 (numbers nodes) other in omega arith) is some))
    (cases_eq n node.0)
  where
    after : (rest : List (Node E)) → 0 < first_of rest → next ≡ first_of rest → 0 < times next (numbers rest)
    after [] positive same = absurd (omega arith)
    after (r ∷ rest) positive same = subst (λ (k : ℕ). 0 < times k (r.0 ∷ numbers rest)) (sym same)
        (times_here r.0 (numbers rest))

-- So is each block to which a walk from its first block comes.
walked_there : {K V : Type 0} {R : K → K → Ordering} (words : K × V → List ℕ) → TellsApart words
    → (IsEntry IsOther : K × V → Type 0) (size : ℕ) (contents : Contents) (blocks : List ℕ) (m : FinMap R V)
    (d : IsDirectory R words IsOther contents blocks m) (first : ℕ) → first ≡ head_or_zero blocks
    → (n : ℕ) → IsWalked words IsEntry size contents first n → 0 < times n blocks
walked_there {K = K} {V = V} words apart IsEntry IsOther size contents blocks m d first begins n at_first =
    let head : first_of d.nodes ≡ first = sym (head-numbers d.nodes) ∙ ap head_or_zero d.blocks_are ∙ sym begins in
    subst (λ (l : List ℕ). 0 < times first l) d.blocks_are (at_head d.nodes d.filled head)
  where
    at_head : (nodes : List (Node (K × V))) → IsFilled nodes → first_of nodes ≡ first → 0 < times first (numbers nodes)
    at_head [] filled same = absurd filled
    at_head (node ∷ nodes) filled same = subst (λ (k : ℕ). 0 < times k (node.0 ∷ numbers nodes)) same
        (times_here node.0 (numbers nodes))
walked_there words apart IsEntry IsOther size contents blocks m d first begins n (onward k next walked link in_space) =
    let before = walked_there words apart IsEntry IsOther size contents blocks m d first begins k walked in
    subst (λ (l : List ℕ). 0 < times n l) d.blocks_are
    (next_there words apart contents d.nodes k n link.entries d.spelled
    (subst (λ (l : List ℕ). 0 < times k l) (sym d.blocks_are) before) link.words_are
    (let from = in_space.from in omega arith))

-- A block that the table says is free has a clear bit.
table_clear : (size : ℕ) (contents : Contents) (n : ℕ) → n < size → IsFreeBlock size contents n
    → table_bit size contents n ≡ 0
table_clear size contents n below free = by (ltb n (4608 * table_blocks size)) refl
  where
    by : (b : Bool) → ltb n (4608 * table_blocks size) ≡ b
        → cond b (bit_in (contents (table_start size + n / 4608)) n) 0 ≡ 0
    by true e = ap (λ o. bit_in o n) free.words_are ∙ free.clear
    by false e = refl

module _ (size : ℕ) (contents : Contents) (m : DiskMap) (s : HasMap size contents m) where
  -- A block of a directory's chain is in that of the map's directory.
  directory_there : (layout ppn word first n : ℕ) → IsDirectoryNamed size contents layout ppn word first
      → IsFileWalked size contents first n
      → (d : StoredDirectory) × (get m.directories ppn ≡ Some d) × (0 < times n d.chain)
  directory_there layout ppn word first n named walked =
      let d = directory_named size contents m s layout ppn word first named in (
        d.0,
        d.1,
        walked_there file_words file_apart IsFileEntry IsFileEntry size contents d.0.chain _
            (s.mapped.directories ppn d.0 d.1).chain first (sym (ap (λ e. e.1) d.2)) n walked,
      )

  -- No two of them have a block in common.
  pub no_shared_chain : (layout ppn word first n : ℕ) → IsDirectoryNamed size contents layout ppn word first
      → IsChainShared size layout contents ppn first n → ⊥
  no_shared_chain layout ppn word first n named shared =
      let d = directory_there layout ppn word first n named shared.walked in
      let e = directory_there layout shared.other shared.word shared.start n shared.named shared.reached in
      let in_first : 0 < times n d.0.chain = d.2 in
      let in_second : 0 < times n e.0.chain = e.2 in
      let two = two-le-sum_entries nat_cmp_total nat_cmp-IsAntisymmetric (λ (k : ℕ). reaches_in_directory n)
      m.directories ppn shared.other d.0 e.0 d.1 e.1 shared.differs in
      let few = once size contents m s.marked n in
      omega arith

  -- A block of a chain is in the master directory's of the map, or in that of one of its directories.
  chain_there : (layout n : ℕ) → IsChainBlock size layout contents n → (0 < times n m.chain)
      ⊎ ((ppn : ℕ) × (d : StoredDirectory) × (get m.directories ppn ≡ Some d) × (0 < times n d.chain))
  chain_there layout n (of_master first home walked) =
      let same = home_same size contents (home_in layout first) (home_of m) home s.mapped.home in
      inl (walked_there master_words master_apart (IsMasterEntryOf 2) IsMasterEntry size contents m.chain _
      s.mapped.master first (ap (λ h. h.master) same) n walked)
  chain_there layout n (of_directory ppn word first named walked) =
      let d = directory_there layout ppn word first n named walked in inr (ppn, d.0, d.1, d.2)

  -- A file of the map has no block of a chain.
  pub no_chain_block : (layout ppn : ℕ) (d : StoredDirectory) (name : FileName) (f : StoredFile) (n : ℕ)
      → get m.directories ppn ≡ Some d → get d.files name ≡ Some f → 0 < reaches_in_file n f
      → IsChainBlock size layout contents n → ⊥
  no_chain_block layout ppn d name f n at has some chain = ⊎_elim
      (λ (in_master : 0 < times n m.chain).
      let a = at-le-sum nat_cmp_total nat_cmp-IsAntisymmetric (reaches_in_directory n) m.directories ppn d at in
      let b = file_part d name f has n in
      let few = once size contents m s.marked n in
      omega arith)
      (λ other. in_directory other.0 other.1 other.2 other.3)
      (chain_there layout n chain)
    where
      in_directory : (q : ℕ) (e : StoredDirectory) → get m.directories q ≡ Some e → 0 < times n e.chain → ⊥
      in_directory q e there in_chain = ⊎_elim
          (λ (same : q ≡ ppn).
          let equal : d ≡ e = some_same (sym at ∙ ap (λ (k : ℕ). get m.directories k) (sym same) ∙ there) in
          let mine : 0 < times n d.chain = subst (λ (x : StoredDirectory). 0 < times n x.chain) (sym equal) in_chain in
          let a = at-le-sum name_total name_exact (reaches_in_file n) d.files name f has in
          let b = directory_part m ppn d at n in
          let few = once size contents m s.marked n in
          omega arith)
          (λ other.
          let two = two-le-sum_entries nat_cmp_total nat_cmp-IsAntisymmetric (λ (k : ℕ). reaches_in_directory n)
          m.directories ppn q d e at there other in
          let b = file_part d name f has n in
          let few = once size contents m s.marked n in
          omega arith)
          (cases_eq q ppn)

  -- The table doesn't say that a block of a file is free.
  pub no_free_block : (ppn : ℕ) (d : StoredDirectory) (name : FileName) (f : StoredFile) (n : ℕ)
      → get m.directories ppn ≡ Some d → get d.files name ≡ Some f → 0 < reaches_in_file n f
      → n < size → IsFreeBlock size contents n → ⊥
  no_free_block ppn d name f n at has some below free =
      let a = directory_part m ppn d at n in
      let b = file_part d name f has n in
      let bits = s.marked.bits n in
      let clear = table_clear size contents n below free in
      omega arith
