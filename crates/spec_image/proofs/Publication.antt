-- One publication, from the contents before it to those after its change set.
use Rattle.std.proofs.Common.{◌≡◌, ℕ, suc, zero, ◌+◌, ◌<◌, ◌≤◌, ◌⊎◌, inl, inr, ⊎_elim, List, Option, Some, refl, ◌∙◌}
use Rattle.std.proofs.Common.{arith}
use Rattle.std.proofs.lemmas.Bool.{cases_lt}
use Rattle.words36.specs.declared.names.FileName.{FileName}
use Rattle.blockdisk.specs.Common.{Contents}
use Rattle.spec_image.specs.Maps.{get, insert, times}
use Rattle.spec_image.specs.Regions.{space_start}
use Rattle.spec_image.specs.Table.{table_bit}
use Rattle.spec_image.specs.Stands.{StoredFile, StoredDirectory, DiskMap, blocks_of_file, reaches_in_file}
use Rattle.spec_image.specs.Stands.{reaches_in_directory, reaches, place_of, IsVersion, IsMarked, HasMap}
use Rattle.spec_image.specs.Changes.{IsFileChain, primes_of, reaches_in_found, with_directory, with_file, WritesFree}
use Rattle.spec_image.specs.Changes.{PutsOnly}
use Rattle.spec_image.proofs.Versions.{version_kept}
use Rattle.spec_image.proofs.DiskMaps.{none_below, directory_part, quiet}
use Rattle.spec_image.proofs.FileChanges.{published}

pub none_or_some : (k : ℕ) → (k ≡ 0) ⊎ (0 < k)
none_or_some zero = inl refl
none_or_some (suc k) = inr (omega arith)

-- what a map reaches is in the space
reached_in_space : (size : ℕ) (contents : Contents) (m : DiskMap) → IsMarked size contents m → (n : ℕ)
    → 0 < reaches n m → space_start size ≤ n
reached_in_space size contents m is n h = ⊎_elim (λ low. absurd (omega (arith, none_below size contents m is n low)))
    (λ e. e) (cases_lt n (space_start size))

-- Blocks that are written while they are free belong to nothing.
pub written_free : (size : ℕ) (old new : Contents) (m : DiskMap) (blocks : List ℕ) → HasMap size old m
    → WritesFree size old new blocks → HasMap size new m
written_free size old new m blocks s w = quiet size old new
    (λ n. ⊎_elim (λ none. inl (w.others n none)) (λ some. inr (w.free n some)) (none_or_some (times n blocks))) m s

-- A version is written into free blocks, and a change set then puts a block of the directory's chain, which
-- names it, and the blocks of the table.
pub superseded : (size : ℕ) (old written new : Contents) (m : DiskMap) (ppn : ℕ) (d : StoredDirectory)
    (name : FileName) (was : Option StoredFile) (f : StoredFile) (puts : List ℕ)
    → HasMap size old m → get m.directories ppn ≡ Some d → get d.files name ≡ was
    → WritesFree size old written (blocks_of_file f) → IsVersion m.layout written (place_of ppn name) f
    → PutsOnly size written new puts → ((n : ℕ) → 0 < times n puts → 0 < times n d.chain)
    → IsFileChain new d.chain (insert (primes_of d) name f.prime)
    → ((n : ℕ) → table_bit size new n + reaches_in_found n was ≡ table_bit size old n + reaches_in_file n f)
    → HasMap size new (with_directory m m.chain ppn (with_file d d.chain name f))
superseded size old written new m ppn d name was f puts s at has w version p in_chain c bits =
    let in_map : (n : ℕ) → reaches_in_directory n d ≤ reaches n m = directory_part m ppn d at in
    published size old new m ppn d name was f d.chain s at has c refl
    (version_kept m.layout written new (place_of ppn name) f version
    (λ n h. p.others n (w.free n h).in_space (new_not_put n h)))
    (record {
      home = record {
        first = p.home.first ∙ w.others 1 (low_not_new 1 (omega arith));
        second = p.home.second ∙ w.others 2 (low_not_new 2 (omega arith));
      };
      others = λ n h none. p.others n (reached_in_space size old m s.marked n h) (not_put n (omega arith))
          ∙ w.others n (reached_not_new n h);
    })
    (record {
      undamaged = p.undamaged;
      inside = λ n h. omega (arith, s.marked.inside n h, in_map n, w.inside n h);
      bits = λ n. omega (arith, bits n);
    })
  where
    not_put : (n : ℕ) → times n d.chain ≡ 0 → times n puts ≡ 0
    not_put n none = ⊎_elim (λ e. e) (λ some. absurd (let i = in_chain n some in omega arith))
        (none_or_some (times n puts))

    reached_not_new : (n : ℕ) → 0 < reaches n m → times n (blocks_of_file f) ≡ 0
    reached_not_new n h = ⊎_elim (λ e. e) (λ some. absurd (let clear = (w.free n some).clear in
        omega (arith, s.marked.bits n))) (none_or_some (times n (blocks_of_file f)))

    low_not_new : (n : ℕ) → n < space_start size → times n (blocks_of_file f) ≡ 0
    low_not_new n h = ⊎_elim (λ e. e) (λ some. absurd (let i = (w.free n some).in_space in omega arith))
        (none_or_some (times n (blocks_of_file f)))

    new_not_put : (n : ℕ) → 0 < times n (blocks_of_file f) → times n puts ≡ 0
    new_not_put n h = ⊎_elim (λ e. e) (λ some. absurd (let i = in_chain n some in
        let z = reached_not_new n (let q = directory_part m ppn d at n in omega arith) in omega arith))
        (none_or_some (times n puts))
