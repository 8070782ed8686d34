-- A chain was read, and then what its entries name.
use Rattle.std.proofs.Common.{◌≡◌, ℕ, List, [], ◌∷◌, ◌++◌, Result, OnOk, None, sym, subst, nat_cmp}
use Rattle.std.specs.FinMap.Entries.{find}
use Rattle.std.specs.List.{AllByRecursion}
use Rattle.blockdisk.specs.Common.{Contents}
use Rattle.spec_image.specs.Common.{head_or_zero, SpecMasterEntry, master_words, SpecFileEntry, file_words, IsFileEntry}
use Rattle.spec_image.specs.Common.{InSpace, IsMasterEntryOf, name_cmp, IsHome, EachOnce, IsVolumeSize}
use Rattle.spec_image.specs.Common.{IsDirectoryNamed, LeadsAlong}
use Rattle.spec_image.proofs.Common.{file_apart}
use Rattle.directory.specs.Common.{ChainState, nodes_of, IsChain, IsOn}
use Rattle.volume.specs.Common.{home_in}
use Rattle.salvage.specs.Common.{AreApartFrom, IsNamedIn, IsReadTo, IsTree}
use Rattle.salvage.specs.declared.saved.SavedFile.{SavedFile}
use Rattle.salvage.specs.declared.finding.Finding.{Finding}
use Rattle.salvage.proofs.CarriedFacts.{moved, on_ok}
use Rattle.salvage.proofs.ChainsRead.{walked_entries, files_named, directories_named}
use Rattle.salvage.proofs.ReadSteps.{directory_begun, directory_read}
use Rattle.salvage.proofs.TreesRead.{nothing_read, tree_read}

-- The files of a directory, whose chain was read on the disk as it was before.
pub directory_on : {T E : Type 0} (size size' layout : ℕ) (contents contents' : Contents)
    (directories : List SpecMasterEntry) (e : SpecMasterEntry) (word : ℕ) (chain : ChainState SpecFileEntry)
    (files files' : List SavedFile) (findings findings' : List Finding) (result : Result T E) → size' ≡ size
    → contents' ≡ contents
    → IsDirectoryNamed size contents layout e.0 word e.1.1 → find nat_cmp e.0 directories ≡ None
    → IsChain name_cmp IsFileEntry chain → IsOn file_words contents chain
    → LeadsAlong file_words contents e.1.1 (nodes_of chain.blocks chain.entries) 0
    → head_or_zero chain.blocks ≡ e.1.1 → AllByRecursion (InSpace size) chain.blocks
    → AreApartFrom size contents directories e.1.1 → IsReadTo size layout contents directories 0 [] files findings
    → ((ds : List SpecMasterEntry) → AllByRecursion (IsNamedIn size' layout contents' e.0) chain.entries
    → EachOnce name_cmp chain.entries → find nat_cmp e.0 ds ≡ None
    → IsReadTo size' layout contents' ds e.0 [] files findings
    → OnOk result (IsReadTo size' layout contents' ds e.0 chain.entries files' findings'))
    → OnOk result (IsReadTo size layout contents (directories ++ e ∷ []) 0 [] files' findings')
directory_on size size' layout contents contents' directories e word chain files files' findings findings' result sizes
    same named new is on walk begins inside apart before added =
    let names = files_named size layout contents e.0 word e.1.1 chain named is walk in
    let here = moved (λ n c. (ds : List SpecMasterEntry) → AllByRecursion (IsNamedIn n layout c e.0) chain.entries
    → EachOnce name_cmp chain.entries → find nat_cmp e.0 ds ≡ None → IsReadTo n layout c ds e.0 [] files findings
    → OnOk result (IsReadTo n layout c ds e.0 chain.entries files' findings')) size size' contents contents' sizes same
    added in
    on_ok result
    (λ r. directory_read size layout contents directories files' findings' e chain.entries apart r
    (walked_entries file_words file_apart IsFileEntry size contents e.1.1 chain is on begins inside))
    (here directories names is.each_once new
    (directory_begun size layout contents directories files findings e.0 0 before))

-- The directories of the master directory, whose chain was read on the disk as it was before.
pub master_on : {T E : Type 0} (size size' layout : ℕ) (contents contents' : Contents) (first : ℕ)
    (chain : ChainState SpecMasterEntry) (files files' : List SavedFile) (findings findings' : List Finding)
    (result : Result T E) → size' ≡ size → contents' ≡ contents → files ≡ [] → findings ≡ [] → IsVolumeSize size
    → IsHome size contents (home_in layout first) → IsChain nat_cmp (IsMasterEntryOf 2) chain
    → IsOn master_words contents chain
    → LeadsAlong master_words contents first (nodes_of chain.blocks chain.entries) 0
    → head_or_zero chain.blocks ≡ first → AllByRecursion (InSpace size) chain.blocks
    → (AllByRecursion (λ (x : SpecMasterEntry). IsDirectoryNamed size' contents' layout x.0 x.1.0 x.1.1) chain.entries
    → EachOnce nat_cmp chain.entries
    → IsReadTo size' layout contents' [] 0 [] files findings
    → OnOk result (IsReadTo size' layout contents' chain.entries 0 [] files' findings'))
    → OnOk result (IsTree size layout contents files' findings')
master_on size size' layout contents contents' first chain files files' findings findings' result sizes same no_files
    no_findings volume home is on walk begins inside added =
    let named = directories_named size layout contents first chain volume home is walk in
    let none : IsReadTo size layout contents [] 0 [] files findings =
    subst (λ (fs : List SavedFile). IsReadTo size layout contents [] 0 [] fs findings) (sym no_files)
    (subst (λ (fs : List Finding). IsReadTo size layout contents [] 0 [] [] fs) (sym no_findings)
    (nothing_read size layout contents)) in
    let here = moved (λ n c.
    AllByRecursion (λ (x : SpecMasterEntry). IsDirectoryNamed n c layout x.0 x.1.0 x.1.1) chain.entries
    → EachOnce nat_cmp chain.entries → IsReadTo n layout c [] 0 [] files findings
    → OnOk result (IsReadTo n layout c chain.entries 0 [] files' findings')) size size' contents contents' sizes same
    added in
    on_ok result
    (λ r. tree_read size layout contents first chain files' findings' home is on begins inside r)
    (here named is.each_once none)
