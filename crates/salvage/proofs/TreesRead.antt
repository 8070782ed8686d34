-- What directories name, after all were read.
use Rattle.std.proofs.Common.{◌≡◌, ◌⊎◌, inl, inr, ⊎_elim, ℕ, Bool, true, List, [], ◌∷◌, ◌++◌, Some, sym, ap, subst}
use Rattle.std.proofs.Common.{◌∙◌, arith, nat_cmp, Result, Ok, Err, IfOk, OnOk}
use Rattle.std.specs.Prelude.{◌↔◌}
use Rattle.std.specs.Cmp.{nat_cmp_total}
use Rattle.std.specs.FinMap.{nat_cmp-IsAntisymmetric}
use Rattle.std.specs.FinMap.Entries.{find}
use Rattle.std.specs.List.{AllByRecursion, Contains}
use Rattle.words36.specs.declared.names.FileName.{FileName}
use Rattle.blockdisk.specs.Common.{Contents}
use Rattle.spec_image.specs.Common.{head_or_zero, SpecMasterEntry, master_words, InSpace, IsMasterEntryOf, IsHome}
use Rattle.spec_image.specs.Common.{layout_number, place_of, IsDirectoryNamed, IsVolumeSize, LeadsAlong, IsFileNamed}
use Rattle.spec_image.proofs.Common.{contains-found, master_apart, home_same, found_holds}
use Rattle.alloctab.specs.Common.{flag_at}
use Rattle.directory.specs.Common.{ChainState, IsChain, IsOn, nodes_of}
use Rattle.volume.specs.Common.{home_in}
use Rattle.volume.specs.declared.error.VolumeError.{VolumeError}
use Rattle.salvage.specs.Common.{IsFaultAt, IsNoFault, IsReadTo, IsToldDirectory, IsToldFile, MayRefuse, IsAmong}
use Rattle.salvage.specs.Common.{AreChains, AreChainsTold, AreWalked, IsChainBlock, IsDirectoryLoss, IsMasterWalked}
use Rattle.salvage.specs.Common.{IsTree, IsUnread, of_directory, of_master}
use Rattle.salvage.specs.declared.finding.Defect.TheVariants.{Start}
use Rattle.salvage.specs.declared.saved.SavedFile.{SavedFile}
use Rattle.salvage.specs.declared.tree.Tree.{Tree}
use Rattle.salvage.specs.declared.finding.Finding.{Finding}
use Rattle.salvage.proofs.CarriedFacts.{element_has, on_ok_both}
use Rattle.salvage.proofs.ChainsRead.{directories_named, walked_entries}
use Rattle.salvage.proofs.Refusals.{fault_stands}
use Rattle.salvage.proofs.SavedFiles.{lost_here}
use Rattle.salvage.specs.declared.finding.Cost.TheVariants as cost

-- nothing was read yet
pub nothing_read : (size layout : ℕ) (contents : Contents) → IsReadTo size layout contents [] 0 [] [] []
nothing_read size layout contents = record {
  read = tt;
  places = tt;
  apart = λ n. omega arith;
  stand = tt;
  told = tt;
  told_names = tt;
  chains = λ d e n in_d in_e differ walk other. absurd (let below = in_d.1 in omega arith);
}

-- Nothing was read, and this is why.
pub none_read : (size layout : ℕ) (contents : Contents) (fault : VolumeError)
    → IsFaultAt size layout contents (Start fault) cost.Directories
    → IsTree size layout contents [] (record { fault = Start fault; costs = cost.Directories } ∷ [])
none_read size layout contents fault stands = record {
  read = tt;
  apart = λ n. omega arith;
  stand = (stands, tt);
  named = λ ppn name prime named. inr (inr (inr (lost_here [] (Start fault) cost.Directories)));
  chains_told = λ ppn word first n named shared. inl (inr (lost_here [] (Start fault) cost.Directories));
}

-- The directories of the whole chain of the master directory were read.
module _ (size layout : ℕ) (contents : Contents) (first : ℕ) (chain : ChainState SpecMasterEntry)
    (files : List SavedFile) (findings : List Finding) (home : IsHome size contents (home_in layout first))
    (is : IsChain nat_cmp (IsMasterEntryOf 2) chain) (on : IsOn master_words contents chain)
    (begins : head_or_zero chain.blocks ≡ first) (inside : AllByRecursion (InSpace size) chain.blocks)
    (r : IsReadTo size layout contents chain.entries 0 [] files findings) where
  entry_there : (ppn word start : ℕ) → IsDirectoryNamed size contents layout ppn word start
      → find nat_cmp ppn chain.entries ≡ Some (word, start)
  entry_there ppn word start directory =
      let same = home_same size contents (home_in layout directory.walk.master) (home_in layout first)
      directory.walk.home home in
      let walk : LeadsAlong master_words contents first directory.nodes directory.last = subst
      (λ (n : ℕ). LeadsAlong master_words contents n directory.nodes directory.last) (ap (λ h. h.master) same)
      directory.walk.walk in
      walked_entries master_words master_apart (IsMasterEntryOf 2) size contents first chain is on begins inside
      directory.nodes directory.last walk ppn (word, start) directory.entry

  directory_there : (ppn word start : ℕ) → IsDirectoryNamed size contents layout ppn word start
      → Contains chain.entries (ppn, (word, start))
  directory_there ppn word start directory = contains-found nat_cmp_total nat_cmp-IsAntisymmetric chain.entries ppn
      (word, start) (entry_there ppn word start directory)

  named_told : (ppn : ℕ) (name : FileName) (prime : ℕ) → IsFileNamed size contents layout (place_of ppn name) prime
      → IsAmong files (place_of ppn name) prime ⊎ (IsUnread findings ppn name ⊎ IsDirectoryLoss findings ppn)
  named_told ppn name prime named =
      let entry = entry_there ppn named.walk.word named.walk.first named.walk.named in
      let told : IsToldDirectory contents files findings (ppn, (named.walk.word, named.walk.first)) =
      found_holds nat_cmp_total nat_cmp-IsAntisymmetric
      (λ (p : ℕ) (x : ℕ × ℕ). IsToldDirectory contents files findings (p, x)) chain.entries ppn
      (named.walk.word, named.walk.first) r.told entry in
      ⊎_elim
      (λ (file : IsToldFile files findings ppn (name, prime)).
      ⊎_elim (λ among. inl among) (λ lost. inr (inl lost)) file)
      (λ lost. inr (inr (inl lost)))
      (told named.nodes named.last named.walk.walk name prime named.entry)

  shared_told : AreChainsTold size layout contents findings
  shared_told ppn word start n named shared = ⊎_elim (λ lost. inl (inl lost)) (λ lost. inr (inl lost))
      (r.chains (ppn, (word, start)) (shared.other, (shared.word, shared.start)) n
      (directory_there ppn word start named)
      (directory_there shared.other shared.word shared.start shared.named) (λ same. shared.differs (sym same))
      shared.walked shared.reached)

  pub tree_read : IsTree size layout contents files findings
  tree_read = record { read = r.read; apart = r.apart; stand = r.stand; named = named_told; chains_told = shared_told }

pub none_read_on : {T E : Type 0} (size layout : ℕ) (contents : Contents) (files : List SavedFile)
    (findings findings' : List Finding) (fault : VolumeError) (result : Result T E) → files ≡ [] → findings ≡ []
    → MayRefuse size layout contents cost.Directories fault
    → OnOk result (findings' ≡ findings ++ record { fault = Start fault; costs = cost.Directories } ∷ [])
    → OnOk result (IsNoFault fault → ⊥) → OnOk result (IsTree size layout contents files findings')
none_read_on size layout contents files findings findings' fault result no_files no_findings refused told stands =
    on_ok_both result
    (λ pushed is. subst (λ (fs : List SavedFile). IsTree size layout contents fs findings') (sym no_files)
    (subst (λ (fs : List Finding). IsTree size layout contents [] fs)
    (sym (pushed
    ∙ ap (λ (fs : List Finding). fs ++ record { fault = Start fault; costs = cost.Directories } ∷ []) no_findings))
    (none_read size layout contents fault (fault_stands size layout contents cost.Directories fault refused is))))
    told stands

-- Without a valid home copy nothing was read.
pub no_home_on : {E : Type 0} (size : ℕ) (contents : Contents) (fault : VolumeError) (result : Result Tree E)
    → ((layout : ℕ) → MayRefuse size layout contents cost.Directories fault)
    → IfOk result (λ (tree : Tree). tree.files.items ≡ [])
    → IfOk result (λ (tree : Tree). tree.findings.items
    ≡ record { fault = Start fault; costs = cost.Directories } ∷ [])
    → IfOk result (λ (tree : Tree). IsNoFault fault → ⊥)
    → IfOk result (λ (tree : Tree). IsTree size (layout_number tree.layout) contents tree.files.items
    tree.findings.items)
no_home_on size contents fault (Ok tree) refused no_files told stands =
    let layout = layout_number tree.layout in
    subst (λ (fs : List SavedFile). IsTree size layout contents fs tree.findings.items) (sym no_files)
    (subst (λ (fs : List Finding). IsTree size layout contents [] fs) (sym told)
    (none_read size layout contents fault
    (fault_stands size layout contents cost.Directories fault (refused layout) stands)))
no_home_on size contents fault (Err e) refused no_files told stands = tt

-- The chains of the master directory and of the directories that its whole chain names were marked.
pub tree_marked : (size layout : ℕ) (contents : Contents) (first : ℕ) (chain : ChainState SpecMasterEntry)
    (master directories : List Bool) → IsVolumeSize size → IsHome size contents (home_in layout first)
    → IsChain nat_cmp (IsMasterEntryOf 2) chain → IsOn master_words contents chain
    → LeadsAlong master_words contents first (nodes_of chain.blocks chain.entries) 0
    → head_or_zero chain.blocks ≡ first → AllByRecursion (InSpace size) chain.blocks
    → ((n : ℕ) → (flag_at master n ≡ true) ↔ IsMasterWalked size contents first n)
    → AreWalked size contents chain.entries directories → AreChains size layout contents master directories
tree_marked size layout contents first chain master directories volume home is on walk begins inside own others n =
    (there n, ⊎_elim (λ set. of_master first home ((own n).0 set)) here)
  where
    named : AllByRecursion (λ (e : SpecMasterEntry). IsDirectoryNamed size contents layout e.0 e.1.0 e.1.1)
        chain.entries
    named = directories_named size layout contents first chain volume home is walk

    here : flag_at directories n ≡ true → IsChainBlock size layout contents n
    here set =
        let by = (others n).0 set in
        of_directory by.0.0 by.0.1.0 by.0.1.1
        (element_has (λ (e : SpecMasterEntry). IsDirectoryNamed size contents layout e.0 e.1.0 e.1.1) chain.entries by.0
        named by.1) by.2

    there : (m : ℕ) → IsChainBlock size layout contents m
        → (flag_at master m ≡ true) ⊎ (flag_at directories m ≡ true)
    there m (of_master other its walked) =
        let same = home_same size contents (home_in layout other) (home_in layout first) its home in
        inl ((own m).1 (subst (λ (k : ℕ). IsMasterWalked size contents k m) (ap (λ h. h.master) same) walked))
    there m (of_directory ppn word other directory walked) =
        let same = home_same size contents (home_in layout directory.walk.master) (home_in layout first)
        directory.walk.home home in
        let moved : LeadsAlong master_words contents first directory.nodes directory.last = subst
        (λ (k : ℕ). LeadsAlong master_words contents k directory.nodes directory.last) (ap (λ h. h.master) same)
        directory.walk.walk in
        let entry : find nat_cmp ppn chain.entries ≡ Some (word, other) =
        walked_entries master_words master_apart (IsMasterEntryOf 2) size contents first chain is on begins inside
        directory.nodes directory.last moved ppn (word, other) directory.entry in
        inr ((others m).1 (
          (ppn, (word, other)),
          contains-found nat_cmp_total nat_cmp-IsAntisymmetric chain.entries ppn (word, other) entry,
          walked,
        ))
