-- A version becomes the file of its name: what is put, and which blocks that are.
use Rattle.std.proofs.Common.{◌≡◌, ℕ, ◌+◌, List, Some, None, sym, ◌∙◌, ap, subst}
use Rattle.std.specs.List.{AllByRecursion}
use Rattle.words36.specs.declared.names.FileName.{FileName}
use Rattle.spec_image.specs.declared.put.Put.{Put}
use Rattle.spec_image.specs.Common.{times, get, file_words, StoredFile, StoredDirectory, reaches_in_found, InSpace}
use Rattle.spec_image.proofs.Common.{name_total, get-from_entries, get-map_values, times-append}
use Rattle.spec_image.proofs.Common.{all_append, all_left}
use Rattle.volume.specs.Common.{CurrentVersion, CurrentDirectory, CurrentMap, AgreesOnDirectory, IsWholeDirectory}
use Rattle.volume.specs.Common.{IsWholeMap}
use Rattle.volume.specs.Common.{blocks_reached, Before, given_up, IsNamed, IsPublished}
use Rattle.volume.proofs.VolumeStart.FoundDirectories.{all_at}
use Rattle.volume.proofs.common.ChainPuts.{PutsBoth}
use Rattle.volume.proofs.common.Lists.{none_mapped}
use Rattle.volume.proofs.common.ReachedBlocks.{file_times}

-- Lists.

-- One version.

-- an existing file reaches what memory knew of it
pub given_up_is : (d : CurrentDirectory) (s : StoredDirectory) (name : FileName) (old : Before) → AgreesOnDirectory d s
    → IsNamed d name old → (n : ℕ) → reaches_in_found n (get s.files name) ≡ given_up n old
given_up_is d s name None known none n =
    ap (reaches_in_found n) (none_mapped (λ (f : StoredFile). f.prime) (get s.files name)
    (sym (get-map_values name_total (λ f. f.prime) s.files name) ∙ ap (λ x. get x name) known.names
    ∙ get-from_entries name_total d.chain.entries name ∙ none))
given_up_is d s name (Some v) known named n =
    let found = known.each named.0 (name, v.0) v.1 named.1.is named.2 in
    ap (reaches_in_found n) found.1 ∙ file_times found.0 v.0 v.1 found.2 n

-- The puts.

module _ (size : ℕ) (k k' : CurrentMap) (ppn : ℕ) (name : FileName) (at : ℕ) (v : CurrentVersion) (old : Before)
    (puts : List Put) (whole : IsWholeMap size k) (is : IsPublished size k k' ppn name at v old puts) where
  pub was_whole : IsWholeDirectory size is.directory
  was_whole = all_at (IsWholeDirectory size) k.directories is.place is.directory whole.each is.directory_at

  pub published_times : (n : ℕ) → times n is.directory'.chain.blocks
      ≡ times n is.directory.chain.blocks + times n is.grown
  published_times n = ap (times n) is.blocks ∙ times-append n is.directory.chain.blocks is.grown

  pub published_inside : AllByRecursion (InSpace size) is.directory'.chain.blocks
  published_inside = subst (AllByRecursion (InSpace size)) (sym is.blocks)
      (all_append (InSpace size) is.directory.chain.blocks is.grown was_whole.inside
      (all_left (InSpace size) is.grown (blocks_reached at v.version) is.inside))

  abbrev pub puts_both : PutsBoth file_words size k.table k'.table is.directory.chain is.directory'.chain puts
  puts_both = record {
    chain_puts = is.chain_puts;
    chain = is.put_chain;
    few = is.few;
    table = is.put;
    inside = published_inside;
  }
