-- A disk that was read whole.
use Rattle.std.proofs.Common.{◌≡◌, inl, inr, ⊎_elim, ℕ, ◌+◌, ◌<◌, ◌≤◌, Bool, true, false, List, [], map, slice_get}
use Rattle.std.proofs.Common.{Some, refl, sym, ap, subst, ◌∙◌, arith, append-nil, nat_cmp}
use Rattle.std.proofs.lemmas.Bool.{cases_eq}
use Rattle.std.specs.Cmp.{nat_cmp_total}
use Rattle.std.specs.FinMap.{nat_cmp-IsAntisymmetric}
use Rattle.std.specs.FinMap.Entries.{find}
use Rattle.blockdisk.specs.Common.{Contents}
use Rattle.spec_image.specs.Common.{EachOnce, times, total, from_entries, head_or_zero, IsHome, fixed, SpecMasterEntry}
use Rattle.spec_image.specs.Common.{master_words, IsMasterEntry, numbers, items, first_of, file_words, StoredDirectory}
use Rattle.spec_image.specs.Common.{DiskMap, entry_of, reaches, reaches_in_directory, IsMapped, found_map, IsWrongTable}
use Rattle.spec_image.proofs.Common.{head-numbers, some_same, EachOnce-from_map, mapped-from_entries}
use Rattle.spec_image.proofs.Common.{get-from_entries, map_mapped, map_reaches, map_stands}
use Rattle.alloctab.specs.Common.{digit_at, digit, flag_at, TableState}
use Rattle.directory.specs.Common.{ChainState, nodes_of, IsChain, IsOn, chain_read, chain_items, numbers_of}
use Rattle.directory.specs.Common.{master_chain}
use Rattle.volume.specs.Common.{home_in, CurrentDirectory, AgreesOnDirectory, AgreesOnMap, MatchesMap, IsOnlySpace}
use Rattle.volume.specs.Common.{IsMapFound, IsWrongFor, IsRightFor}
use Rattle.volume.proofs.common.Lookups.{found_in_front}
use Rattle.volume.proofs.VolumeStart.FoundDirectories.{zip_at, mapped_at, all_at}

module _ (size : ℕ) (contents : Contents) (layout first : ℕ) (master : ChainState SpecMasterEntry)
    (directories : List CurrentDirectory) (marks : ℕ
    → ℕ) (r : IsMapFound size contents layout first master directories marks) where
  abbrev pub map_found : DiskMap
  map_found = found_map layout (nodes_of master.blocks master.entries) r.read.found

  is_chain : IsChain nat_cmp IsMasterEntry master
  is_chain = master_chain layout master r.chain

  home : IsHome size contents (record { layout = layout; master = first_of (nodes_of master.blocks master.entries) })
  home = subst (λ (n : ℕ). IsHome size contents (home_in layout n)) (sym r.begins
      ∙ ap head_or_zero (sym (numbers_of master.blocks master.entries))
      ∙ head-numbers (nodes_of master.blocks master.entries)) r.home

  named : map (λ (e : ℕ × StoredDirectory). (e.0, entry_of e.1)) r.read.found
      ≡ items (nodes_of master.blocks master.entries)
  named = r.read.named ∙ sym (chain_items master_words IsMasterEntry master is_chain)

  once : EachOnce nat_cmp r.read.found
  once = EachOnce-from_map nat_cmp entry_of r.read.found (subst (EachOnce nat_cmp) (sym r.read.named) r.chain.each_once)

  reached : (n : ℕ) → reaches n map_found ≡ marks n
  reached n =
      let a = map_reaches n layout (nodes_of master.blocks master.entries) r.read.found once in
      let b = r.read.marked n in
      let c = ap (times n) (numbers_of master.blocks master.entries) in
      omega arith

  pub map_is_mapped : IsMapped size contents map_found
  map_is_mapped = map_mapped size layout contents (nodes_of master.blocks master.entries) r.read.found home
      (chain_read master_words IsMasterEntry contents master is_chain r.on) named r.read.whole

  known : (table : TableState)
      → AgreesOnMap (record { master = master; directories = directories; table = table }) map_found
  known table = record {
    chain = numbers_of master.blocks master.entries;
    names = mapped-from_entries nat_cmp_total nat_cmp-IsAntisymmetric entry_of r.read.found
        ∙ ap from_entries r.read.named;
    each = λ i e d at directory.
        let z = zip_at (λ (x : ℕ × StoredDirectory) (k : CurrentDirectory). AgreesOnDirectory k x.1) r.read.found
        directories i d r.read.known directory in
        let named_at : (z.0.0, entry_of z.0.1)
        ≡ e = some_same (sym (mapped_at (λ (x : ℕ × StoredDirectory). (x.0, entry_of x.1)) r.read.found i z.0 z.1)
        ∙ ap (λ (l : List SpecMasterEntry). slice_get l i) r.read.named ∙ at) in
        let there : find nat_cmp z.0.0 r.read.found
        ≡ Some z.0.1 = all_at (λ (x : ℕ × StoredDirectory). find nat_cmp x.0 r.read.found ≡ Some x.1) r.read.found i z.0
        (found_in_front nat_cmp_total r.read.found r.read.found [] (sym (append-nil r.read.found)) once) z.1 in (
          z.0.1,
          get-from_entries nat_cmp_total r.read.found e.0
              ∙ ap (λ (q : SpecMasterEntry). find nat_cmp q.0 r.read.found) (sym named_at) ∙ there,
          z.2,
        );
  }

  -- With a table that agrees the contents have the map.
  pub map_held : (reached_marks : List Bool) (table : TableState) → ((n : ℕ) → digit_at reached_marks n ≡ marks n)
      → IsOnlySpace size reached_marks → IsRightFor size contents reached_marks table
      → MatchesMap size (record { master = master; directories = directories; table = table }) map_found contents
  map_held reached_marks table same only right = record {
    known = known table;
    stands = map_stands size layout contents (nodes_of master.blocks master.entries) r.read.found r.volume home
        (chain_read master_words IsMasterEntry contents master is_chain r.on) named r.read.whole
        right.read.undamaged
        (λ n past. outside n past)
        (λ n. sym (right.read.bits_are n) ∙ right.right n ∙ ap (λ (k : ℕ). fixed size n + k) (same n ∙ counted n));
    master = r.on;
    chains = λ i d at. all_at (λ (k : CurrentDirectory). IsOn file_words contents k.chain) directories i d r.read.on at;
    bits = λ n. sym (right.read.bits_are n);
  }
    where
      counted : (n : ℕ) → marks n ≡ times n (numbers (nodes_of master.blocks master.entries))
          + total (λ e. reaches_in_directory n e.1) r.read.found
      counted n = let b = r.read.marked n in let c = ap (times n) (numbers_of master.blocks master.entries) in
          omega arith

      outside : (n : ℕ) → size ≤ n → times n (numbers (nodes_of master.blocks master.entries))
          + total (λ e. reaches_in_directory n e.1) r.read.found ≡ 0
      outside n past = none (digit_at reached_marks n) refl
        where
          none : (k : ℕ) → digit_at reached_marks n ≡ k → times n (numbers (nodes_of master.blocks master.entries))
              + total (λ e. reaches_in_directory n e.1) r.read.found ≡ 0
          none k is = ⊎_elim
              (λ (z : k ≡ 0). let a = counted n in let b = same n in omega arith)
              (λ other. absurd (let x = only n (let y = some k other in omega arith) in let below = x.below in
              omega arith)) (cases_eq k 0)
            where
              some : (j : ℕ) → (j ≡ 0 → ⊥) → 0 < j
              some j other = grind arith

  -- A table that doesn't is wrong.
  pub table_fault : (reached_marks : List Bool) (n : ℕ) → ((k : ℕ) → digit_at reached_marks k ≡ marks k)
      → IsOnlySpace size reached_marks → IsWrongFor size contents reached_marks n → IsWrongTable size contents n
  table_fault reached_marks n same only wrong = record {
    m = map_found;
    volume = r.volume;
    mapped = map_is_mapped;
    once = λ k. let a = reached k in let b = same k in let c = digit_few (flag_at reached_marks k) in omega arith;
    inside = λ k some. only k (let a = reached k in let b = same k in omega arith);
    i = wrong.i;
    in_table = wrong.in_table;
    block = wrong.block;
    wrong = ⊎_elim (λ d. inl d) (λ w.
        inr (w.0, w.1, λ is. w.2 (is ∙ ap (λ (k : ℕ). fixed size w.0 + k) (reached w.0 ∙ sym (same w.0))))) wrong.wrong;
  }
    where
      digit_few : (b : Bool) → digit b ≤ 1
      digit_few true = omega arith
      digit_few false = omega arith
