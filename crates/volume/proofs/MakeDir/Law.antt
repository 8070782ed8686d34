-- A directory is made: what the puts make of the disk's map.
use Rattle.std.proofs.Common.{◌≡◌, ℕ, zero, suc, ◌+◌, ◌<◌, ◌≤◌, ◌⊎◌, inl, inr, ⊎_elim, List, [], ◌∷◌, ◌++◌}
use Rattle.std.proofs.Common.{map, length, replicate, Some, None, slice_get, refl, sym, ◌∙◌, ap, subst, arith}
use Rattle.std.proofs.lemmas.Bool.{cases_eq}
use Rattle.std.proofs.lemmas.Option.{slice_get_within}
use Rattle.std.specs.List.{AllByRecursion}
use Rattle.std.specs.Ordering.{nat_cmp}
use Rattle.std.specs.Cmp.{nat_cmp_total}
use Rattle.std.specs.FinMap.{nat_cmp-IsAntisymmetric}
use Rattle.blockdisk.specs.Common.{Contents}
use Rattle.spec_image.specs.declared.put.Put.{Put}
use Rattle.spec_image.specs.Common.{FinMap, times, get, insert, map_values, from_entries, head_or_zero, name_cmp}
use Rattle.spec_image.specs.Common.{with_puts, table_bit, SpecMasterEntry}
use Rattle.spec_image.specs.Common.{master_words, IsMasterEntry, master_word, file_words, IsFileEntry, items}
use Rattle.spec_image.specs.Common.{StoredFile, StoredDirectory, DiskMap, HasMap, entry_of, reaches, TableFollows}
use Rattle.spec_image.specs.Common.{IsMasterChain, entries_of, bare_directory, InSpace, IsMasterEntryOf}
use Rattle.spec_image.proofs.Common.{some_same, some_none, entries-empty, get-insert_same, get-insert_other}
use Rattle.spec_image.proofs.Common.{get-from_entries, get-map_values, from_entries_push, map_values-insert}
use Rattle.spec_image.proofs.Common.{all_append, times-append, once, each_times, directory_made}
use Rattle.changeset.specs.Common.{times_head, times_tail, some_or_none}
use Rattle.alloctab.specs.Common.{flag_at, bit}
use Rattle.directory.specs.Common.{ChainState, IsChain, IsOn, chain_stands, on_kept, bare_on}
use Rattle.volume.specs.Common.{CurrentDirectory, CurrentMap, AgreesOnDirectory, MatchesMap, IsWholeMap, bare_known}
use Rattle.volume.specs.Common.{entry_made}
use Rattle.volume.specs.Common.{map_made, IsMade}
use Rattle.volume.proofs.common.LayoutLimits.{some_quota}
use Rattle.volume.proofs.common.Lookups.{all_each}
use Rattle.volume.proofs.common.UsedBlocks.{reached_in_space, chain_reached, master_reached}
use Rattle.alloctab.proofs.WordLaws.{digit_few}
use Rattle.volume.proofs.common.Lists.{head_front, none_mapped}
use Rattle.volume.proofs.common.ChainPuts.{PutsBoth, out_of_chain, both_stay, homes_stay, both_on, both_bits}
use Rattle.volume.proofs.common.ChainPuts.{both_undamaged}

-- Lists.

pub pushed_at : {A : Type 0} (xs : List A) (x y : A) (i : ℕ) → slice_get (xs ++ x ∷ []) i ≡ Some y
    → (slice_get xs i ≡ Some y) ⊎ ((i ≡ length xs) × (y ≡ x))
pushed_at [] x y zero is = inr (refl, sym (some_same is))
pushed_at [] x y (suc i) is = absurd (some_none (sym is))
pushed_at (z ∷ xs) x y zero is = inl is
pushed_at (z ∷ xs) x y (suc i) is = ⊎_elim (λ old. inl old) (λ new. inr (ap suc new.0, new.1)) (pushed_at xs x y i is)

-- the chain of the master directory, at its place
pub master_stands : (contents : Contents) (chain : ChainState SpecMasterEntry) (entries : FinMap nat_cmp (ℕ × ℕ))
    → IsChain nat_cmp (IsMasterEntryOf 2) chain → IsOn master_words contents chain
    → from_entries chain.entries ≡ entries → IsMasterChain contents chain.blocks entries
master_stands contents chain entries is on names =
    let dir = chain_stands {R = nat_cmp} master_words (IsMasterEntryOf 2) contents chain is on in
    record {
      nodes = dir.nodes;
      spelled = dir.spelled;
      filled = dir.filled;
      blocks_are = dir.blocks_are;
      are_entries = all_each (IsMasterEntryOf 2) IsMasterEntry (items dir.nodes) (λ e good. good.ppn) dir.are_entries;
      each_once = dir.each_once;
      map_is = dir.map_is ∙ names;
    }

-- An empty directory.

pub bare_chain : (first : ℕ) → IsChain name_cmp IsFileEntry (record { blocks = first ∷ []; entries = [] })
bare_chain first = record { counted = refl; are_entries = tt; each_once = tt; blocks_once = once_at }
  where
    once_at : (n : ℕ) → times n (first ∷ []) ≤ 1
    once_at n = ⊎_elim (λ is. let e = times_head n first [] is in
        omega arith) (λ other. let e = times_tail n first [] other in omega arith) (cases_eq n first)

bare_is_known : (protection first : ℕ) → AgreesOnDirectory (bare_known first) (bare_directory protection 0 (first ∷ []))
bare_is_known protection first = record {
  chain = refl;
  names = ap (λ es. from_entries (map (λ e. (e.0, e.1.prime)) es)) (entries-empty name_cmp StoredFile);
  each = λ i e v is also. absurd (some_none (sym is));
}

-- What is put.

module _ (size : ℕ) (k k' : CurrentMap) (ppn protection first : ℕ) (puts : List Put) (whole : IsWholeMap size k)
    (made : IsMade size k k' ppn protection first puts) where
  pub made_inside : AllByRecursion (InSpace size) k'.master.blocks
  made_inside = subst (AllByRecursion (InSpace size)) (sym made.entered.blocks)
      (all_append (InSpace size) k.master.blocks made.grown whole.inside made.inside.1)

  abbrev pub puts_both : PutsBoth master_words size k.table k'.table k.master k'.master puts
  puts_both = record {
    chain_puts = made.chain_puts;
    chain = made.entered.put;
    few = made.entered.few;
    table = made.put;
    inside = made_inside;
  }

-- The law.

module _ (size : ℕ) (k k' : CurrentMap) (m : DiskMap) (ppn protection first : ℕ) (puts : List Put)
    (whole : IsWholeMap size k) (made : IsMade size k k' ppn protection first puts) (fits : protection < 512)
    (c : Contents) (held : MatchesMap size k m c) (zeros : c first ≡ Some (replicate 128 0)) where
  -- which blocks are meant

  chain_times : (n : ℕ) → times n k'.master.blocks ≡ times n k.master.blocks + times n made.grown
  chain_times n = ap (times n) made.entered.blocks ∙ times-append n k.master.blocks made.grown

  fresh_times : (n : ℕ) → times n (first ∷ made.grown) ≡ times n (first ∷ []) + times n made.grown
  fresh_times n = times-append n (first ∷ []) made.grown

  fresh_once : (n : ℕ) → bit k.table n + times n (first ∷ made.grown) ≤ 1
  fresh_once n = let e = made.taken.bits n in let few = digit_few (flag_at k'.table.bits n) in omega arith

  fresh_unreached : (n : ℕ) → 0 < times n (first ∷ made.grown) → reaches n m ≡ 0
  fresh_unreached n there = let few = fresh_once n in let e = held.bits n in let f = held.stands.marked.bits n in
      omega arith

  fresh_in_space : (n : ℕ) → 0 < times n (first ∷ made.grown) → InSpace size n
  fresh_in_space n there = each_times (InSpace size) (first ∷ made.grown) n made.inside there

  first_here : times first (first ∷ made.grown) ≡ suc (times first made.grown)
  first_here = times_head first first made.grown refl

  first_in_space : InSpace size first
  first_in_space = made.inside.0

  first_no_chain : times first k'.master.blocks ≡ 0
  first_no_chain =
      let unreached = fresh_unreached first (omega (arith, first_here)) in
      let most = master_reached k m held.known first in
      let few = fresh_once first in
      omega (arith, chain_times first, first_here)

  -- what stays

  abbrev both : PutsBoth master_words size k.table k'.table k.master k'.master puts
  both = puts_both size k k' ppn protection first puts whole made

  reached_stays : (n : ℕ) → 0 < reaches n m → times n m.chain ≡ 0 → with_puts puts c n ≡ c n
  reached_stays n there none =
      both_stay both c n (inr (reached_in_space size c m held.stands n there).from)
      (let e = chain_times n in let f = fresh_times n in let g = ap (times n) held.known.chain in
      ⊎_elim (λ fresh. absurd (let z = fresh_unreached n fresh in omega arith)) (λ no. omega arith)
      (some_or_none (times n (first ∷ made.grown))))

  new_first : with_puts puts c first ≡ Some (replicate 128 0)
  new_first = both_stay both c first (inr first_in_space.from) first_no_chain ∙ zeros

  -- the chain of the master directory

  new_on : IsOn master_words (with_puts puts c) k'.master
  new_on = both_on both c held.master

  absent_entry : get (map_values entry_of m.directories) ppn ≡ None
  absent_entry = ap (λ f. get f ppn) held.known.names ∙ get-from_entries nat_cmp_total k.master.entries ppn
      ∙ made.absent

  absent : get m.directories ppn ≡ None
  absent = none_mapped entry_of (get m.directories ppn) (sym (get-map_values nat_cmp_total entry_of m.directories ppn)
      ∙ absent_entry)

  names : from_entries k'.master.entries
      ≡ insert (map_values entry_of m.directories) ppn (master_word protection 0, first)
  names =
      ap from_entries made.entered.entries
      ∙ from_entries_push nat_cmp_total nat_cmp-IsAntisymmetric k.master.entries ppn
      (master_word protection 0, first) made.absent
      ∙ ap (λ f. insert f ppn (master_word protection 0, first)) (sym held.known.names)

  new_master : IsMasterChain (with_puts puts c) k'.master.blocks
      (insert (entries_of m) ppn (entry_of (bare_directory protection 0 (first ∷ []))))
  new_master = master_stands (with_puts puts c) k'.master _ made.entered.chain new_on names

  first_block : head_or_zero k'.master.blocks ≡ head_or_zero m.chain
  first_block = ap head_or_zero made.entered.blocks
      ∙ head_front k.master.blocks made.grown (let e = whole.chain.counted in omega arith)
      ∙ ap head_or_zero (sym held.known.chain)

  -- the table

  new_bits : (n : ℕ) → table_bit size (with_puts puts c) n ≡ bit k'.table n
  new_bits = both_bits both c held.bits

  follows : TableFollows size c (with_puts puts c) (λ n. times n m.chain) (λ n. times n k'.master.blocks
      + times n (first ∷ []))
  follows = record {
    undamaged = both_undamaged both c held.stands.marked.undamaged;
    inside = λ n past. let none = out_of_chain both n (inr past) in let f = fresh_times n in
        ⊎_elim (λ there. absurd (let below = (fresh_in_space n there).below in omega arith)) (λ no. omega arith)
        (some_or_none (times n (first ∷ made.grown)));
    bits = λ n. let a = new_bits n in let b = made.taken.bits n in let e = held.bits n in let f = fresh_times n in
        let g = chain_times n in let h = ap (times n) held.known.chain in omega arith;
  }

  new_map : HasMap size (with_puts puts c) (map_made m k'.master.blocks ppn protection first)
  new_map = directory_made size c (with_puts puts c) m k'.master.blocks ppn protection 0
      (first ∷ []) held.stands absent fits
      (some_quota m.layout)
      (chain_stands {R = name_cmp} file_words IsFileEntry (with_puts puts c)
      (record { blocks = first ∷ []; entries = [] }) (bare_chain first)
      (bare_on file_words (with_puts puts c) first new_first))
      new_master first_block
      (record { home = homes_stay both c; others = reached_stays })
      follows

  -- memory

  each_known : (i : ℕ) (e : SpecMasterEntry) (x : CurrentDirectory) → slice_get k'.master.entries i ≡ Some e
      → slice_get k'.directories i ≡ Some x
      → (s : StoredDirectory) × (get (insert m.directories ppn (bare_directory protection 0 (first ∷ []))) e.0 ≡ Some s)
      × AgreesOnDirectory x s
  each_known i e x is also =
      by_place (pushed_at k.master.entries (entry_made ppn protection first) e i
      (ap (λ es. slice_get es i) (sym made.entered.entries) ∙ is))
      (pushed_at k.directories (bare_known first) x i (ap (λ ds. slice_get ds i) (sym made.entered.directories) ∙ also))
    where
      by_place : (slice_get k.master.entries i ≡ Some e)
          ⊎ ((i ≡ length k.master.entries) × (e ≡ entry_made ppn protection first))
          → (slice_get k.directories i ≡ Some x) ⊎ ((i ≡ length k.directories) × (x ≡ bare_known first))
          → (s : StoredDirectory) × (get (insert m.directories ppn (bare_directory protection 0 (first ∷ []))) e.0
          ≡ Some s) × AgreesOnDirectory x s
      by_place (inl a) (inl b) =
          let old = held.known.each i e x a b in (
            old.0,
            get-insert_other nat_cmp_total nat_cmp-IsAntisymmetric m.directories ppn
                (bare_directory protection 0 (first ∷ [])) e.0 (λ same. some_none (sym old.1
                ∙ ap (get m.directories) same ∙ absent)) ∙ old.1,
            old.2,
          )
      by_place (inr a) (inr b) = (
        bare_directory protection 0 (first ∷ []),
        ap (λ (z : SpecMasterEntry). get (insert m.directories ppn (bare_directory protection 0 (first ∷ []))) z.0) a.1
            ∙ get-insert_same nat_cmp_total m.directories ppn (bare_directory protection 0 (first ∷ [])),
        subst (λ (z : CurrentDirectory). AgreesOnDirectory z (bare_directory protection 0 (first ∷ []))) (sym b.1)
            (bare_is_known protection first),
      )
      by_place (inl a) (inr b) = absurd (let l = slice_get_within k.master.entries i e a in let r = b.0 in
          let w = whole.aligned in omega arith)
      by_place (inr a) (inl b) = absurd (let l = slice_get_within k.directories i x b in let r = a.0 in
          let w = whole.aligned in omega arith)

  new_chains : (i : ℕ) (x : CurrentDirectory) → slice_get k'.directories i ≡ Some x
      → IsOn file_words (with_puts puts c) x.chain
  new_chains i x is = ⊎_elim
      (λ old. on_kept file_words c (with_puts puts c) x.chain (held.chains i x old) (λ n there.
      let most = chain_reached k m held.known whole.aligned i x old n in
      let one = once size c m held.stands.marked n in
      reached_stays n (omega arith) (omega arith)))
      (λ new. subst (λ (z : CurrentDirectory). IsOn file_words (with_puts puts c) z.chain) (sym new.1)
      (bare_on file_words (with_puts puts c) first new_first))
      (pushed_at k.directories (bare_known first) x i (ap (λ ds. slice_get ds i) (sym made.entered.directories) ∙ is))

  pub making_leads : MatchesMap size k' (map_made m k'.master.blocks ppn protection first) (with_puts puts c)
  making_leads = record {
    known = record {
      chain = refl;
      names = map_values-insert nat_cmp_total nat_cmp-IsAntisymmetric entry_of m.directories ppn
          (bare_directory protection 0 (first ∷ [])) ∙ sym names;
      each = each_known;
    };
    stands = new_map;
    master = new_on;
    chains = new_chains;
    bits = new_bits;
  }
