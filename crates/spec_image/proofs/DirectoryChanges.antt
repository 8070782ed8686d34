-- What a change makes of the directories: one is made, gets another protection and quota, or is removed.
use Rattle.std.proofs.Common.{◌≡◌, ℕ, ◌+◌, ◌<◌, ◌≤◌, List, map, Some, None, sym, ap, subst, ◌∙◌, arith}
use Rattle.std.specs.Cmp.{nat_cmp_total}
use Rattle.std.specs.FinMap.{nat_cmp-IsAntisymmetric}
use Rattle.blockdisk.specs.Common.{Contents}
use Rattle.spec_image.specs.Maps.{empty, get, insert, remove, map_values, from_entries, sum_over, times}
use Rattle.spec_image.specs.Blocks.{head_or_zero}
use Rattle.spec_image.specs.Files.{name_cmp}
use Rattle.spec_image.specs.Stands.{StoredFile, StoredDirectory, DiskMap, reaches_in_file, reaches_in_directory}
use Rattle.spec_image.specs.Stands.{quota_limit, entry_of, IsWhole, HasMap}
use Rattle.spec_image.specs.Changes.{TableFollows, ChangesOnly, IsFileChain, IsMasterChain, entries_of}
use Rattle.spec_image.specs.Changes.{with_directory, without_directory, bare_directory, with_protection}
use Rattle.spec_image.proofs.MapLaws.{some_none, entries-empty, get-empty}
use Rattle.spec_image.proofs.MapLists.{map_values-remove}
use Rattle.spec_image.proofs.MapSums.{sum-empty, sum-remove, at-le-sum}
use Rattle.spec_image.proofs.MapParts.{each_removed}
use Rattle.spec_image.proofs.DiskMaps.{once, whole_kept}
use Rattle.spec_image.proofs.MapChanges.{directories_changed, directory_put}

-- a directory with no files has no prime blocks
no_primes : map_values (λ (f : StoredFile). f.prime) (empty {R = name_cmp}) ≡ empty
no_primes = ap (λ es. from_entries (map (λ e. (e.0, e.1.prime)) es)) (entries-empty name_cmp StoredFile)

reaches-bare : (n protection quota : ℕ) (chain : List ℕ)
    → reaches_in_directory n (bare_directory protection quota chain) ≡ times n chain
reaches-bare n protection quota chain = omega (arith, sum-empty name_cmp (reaches_in_file n))

bare_is_whole : (layout : ℕ) (contents : Contents) (ppn protection quota : ℕ) (chain : List ℕ) → protection < 512
    → quota < quota_limit layout → IsFileChain contents chain empty
    → IsWhole layout contents ppn (bare_directory protection quota chain)
bare_is_whole layout contents ppn protection quota chain p q c = record {
  protection = p;
  quota = q;
  chain = subst (IsFileChain contents chain) (sym no_primes) c;
  files = λ name f is. absurd (some_none (sym is ∙ get-empty name_cmp StoredFile name));
}

-- A directory with no files is made.
pub directory_made : (size : ℕ) (old new : Contents) (m : DiskMap) (chain : List ℕ) (ppn protection quota : ℕ)
    (blocks : List ℕ)
    → HasMap size old m → get m.directories ppn ≡ None → protection < 512 → quota < quota_limit m.layout
    → IsFileChain new blocks empty
    → IsMasterChain new chain (insert (entries_of m) ppn (entry_of (bare_directory protection quota blocks)))
    → head_or_zero chain ≡ head_or_zero m.chain
    → ChangesOnly old new m (λ n. times n m.chain)
    → TableFollows size old new (λ n. times n m.chain) (λ n. times n chain + times n blocks)
    → HasMap size new (with_directory m chain ppn (bare_directory protection quota blocks))
directory_made size old new m chain ppn protection quota blocks s none p q c master first only table =
    directory_put size old new m chain ppn None (bare_directory protection quota blocks) (λ n. times n m.chain)
    (λ n. times n m.chain) (λ n. times n chain + times n blocks) s none
    (bare_is_whole m.layout new ppn protection quota blocks p q c) master first only (λ n. omega arith) table
    (λ n. omega (arith, reaches-bare n protection quota blocks))

-- A directory gets another protection and another quota: its own chain and its files stay.
pub directory_protected : (size : ℕ) (old new : Contents) (m : DiskMap) (chain : List ℕ) (ppn : ℕ) (d : StoredDirectory)
    (protection quota : ℕ)
    → HasMap size old m → get m.directories ppn ≡ Some d → protection < 512 → quota < quota_limit m.layout
    → IsMasterChain new chain (insert (entries_of m) ppn (entry_of (with_protection d protection quota)))
    → head_or_zero chain ≡ head_or_zero m.chain
    → ChangesOnly old new m (λ n. times n m.chain)
    → TableFollows size old new (λ n. times n m.chain) (λ n. times n chain)
    → HasMap size new (with_directory m chain ppn (with_protection d protection quota))
directory_protected size old new m chain ppn d protection quota s at p q master first only table =
    let part : (n : ℕ) → reaches_in_directory n d ≤ sum_over (reaches_in_directory n) m.directories = λ n.
    at-le-sum nat_cmp_total nat_cmp-IsAntisymmetric (reaches_in_directory n) m.directories ppn d at in
    let w = whole_kept m.layout old new ppn d (s.mapped.directories ppn d at)
    (λ n h. only.others n (omega (arith, part n)) (omega (arith, part n, once size old m s.marked n))) in
    directory_put size old new m chain ppn (Some d) (with_protection d protection quota) (λ n. times n m.chain)
    (λ n. times n m.chain) (λ n. times n chain) s at
    (record { protection = p; quota = q; chain = w.chain; files = w.files }) master first only (λ n. omega arith) table
    (λ n. omega arith)

-- A directory with no files is removed, and its chain is freed.
pub directory_removed : (size : ℕ) (old new : Contents) (m : DiskMap) (chain : List ℕ) (ppn : ℕ) (d : StoredDirectory)
    → HasMap size old m → get m.directories ppn ≡ Some d → d.files ≡ empty
    → IsMasterChain new chain (remove (entries_of m) ppn) → head_or_zero chain ≡ head_or_zero m.chain
    → ChangesOnly old new m (λ n. times n m.chain + times n d.chain)
    → TableFollows size old new (λ n. times n m.chain + times n d.chain) (λ n. times n chain)
    → HasMap size new (without_directory m chain ppn)
directory_removed size old new m chain ppn d s at bare master first only table =
    let own : (n : ℕ) → reaches_in_directory n d ≡ times n d.chain = λ n. let e = ap (sum_over (reaches_in_file n)) bare
    ∙ sum-empty name_cmp (reaches_in_file n) in omega arith in
    directories_changed size old new m chain (remove m.directories ppn) (λ n. reaches_in_directory n d)
    (λ n. times n m.chain + times n d.chain) (λ n. times n chain) s
    (subst (IsMasterChain new chain)
    (sym (map_values-remove nat_cmp_total nat_cmp-IsAntisymmetric entry_of m.directories ppn)) master) first
    (each_removed nat_cmp_total nat_cmp-IsAntisymmetric (IsWhole m.layout new) reaches_in_directory m.directories
    ppn d at)
    (record { home = only.home; others = λ n h none. only.others n h (omega (arith, own n)) }) table
    (λ n. let e = sum-remove nat_cmp_total nat_cmp-IsAntisymmetric (reaches_in_directory n) m.directories ppn d at in
    omega (arith, own n))
