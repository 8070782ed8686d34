-- The steps of a survey together.
use Rattle.std.proofs.Common.{◌≡◌, ◌⊎◌, inl, inr, ⊎_elim, ℕ, zero, suc, ◌+◌, ◌≤◌, List, [], ◌∷◌, ◌++◌, refl, sym}
use Rattle.std.proofs.Common.{Contains, arith, subst}
use Rattle.std.specs.List.{AllByRecursion}
use Rattle.words36.specs.declared.names.FileName.{FileName}
use Rattle.blockdisk.specs.Common.{Contents}
use Rattle.spec_image.specs.Common.{InSpace, Place, place_of, times}
use Rattle.spec_image.proofs.Common.{all_append, each_times}
use Rattle.volume.proofs.common.MarkedBlocks.{times_parts}
use Rattle.directory.proofs.GatheredEntries.{all_of}
use Rattle.salvage.specs.Common.{AreAdded, AreApart, AreChainsTold, AreJudgedAs, ArePlaced, AreTaken, IsAmong}
use Rattle.salvage.specs.Common.{IsDamaged, IsDirectoryLoss, IsFinding, IsFull, IsLostBy, IsScanned, IsSearched}
use Rattle.salvage.specs.Common.{IsSurveyed, IsTold, IsTree, IsUnread, IsWholeFile, claims}
use Rattle.salvage.specs.declared.saved.SavedFile.{SavedFile}
use Rattle.salvage.specs.declared.search.Search.{Search}
use Rattle.salvage.specs.declared.finding.Cost.{Cost}
use Rattle.salvage.specs.declared.finding.Finding.{Finding}
use Rattle.salvage.proofs.CarriedFacts.{element_has}
use Rattle.salvage.proofs.KeptFiles.{at_append}
use Rattle.salvage.proofs.SavedFiles.{added_then, blocks_at, lost_more, unread_more}
use Rattle.salvage.specs.declared.finding.Cost.TheVariants as cost

-- A prime block is a block of its file.
at_claims : (n : ℕ) (files : List SavedFile) → times n (blocks_at files) ≤ claims files n
at_claims n [] = omega arith
at_claims n (x ∷ xs) =
    let rest = at_claims n xs in
    let parts = times_parts n x.at x.stored.version.ribs x.stored.version.blocks in
    omega arith

module _ (size layout : ℕ) (contents : Contents) where
  -- Files at blocks that are in no file of these are at other prime blocks.
  pub apart_both : (search : Search) (named found : List SavedFile) → AreApart named → AreApart found
      → AllByRecursion (λ file. InSpace size file.at × IsSearched search size contents file.at
      × (claims named file.at ≡ 0)) found
      → AreApart (named ++ found)
  apart_both search named found first second at n = by (times n (blocks_at found)) refl
    where
      none : (files : List SavedFile)
          → AllByRecursion (λ file. InSpace size file.at × IsSearched search size contents file.at
          × (claims named file.at ≡ 0)) files
          → AllByRecursion (λ m. claims named m ≡ 0) (blocks_at files)
      none [] all = tt
      none (x ∷ xs) all = (all.0.2, none xs all.1)

      by : (k : ℕ) → times n (blocks_at found) ≡ k → times n (blocks_at (named ++ found)) ≤ 1
      by zero here = let both = at_append n named found in let one = first n in omega arith
      by (suc k) here =
          let both = at_append n named found in
          let one = second n in
          let some = at_claims n named in
          let other = each_times (λ m. claims named m ≡ 0) (blocks_at found) n (none found at) (omega arith) in
          omega arith

  module _ (old new : List Finding) (more : AreAdded size layout contents old new) where
    pub lost_added : (costs : Cost) → IsLostBy old costs → IsLostBy new costs
    lost_added costs is = subst (λ (l : List Finding). IsLostBy l costs) (sym more.new_is)
        (lost_more old more.added costs is)

    pub unread_added : (ppn : ℕ) (name : FileName) → IsUnread old ppn name → IsUnread new ppn name
    unread_added ppn name is = subst (λ (l : List Finding). IsUnread l ppn name) (sym more.new_is)
        (unread_more old more.added ppn name is)

    pub loss_added : (ppn : ℕ) → IsDirectoryLoss old ppn → IsDirectoryLoss new ppn
    loss_added ppn loss = ⊎_elim (λ own. inl (lost_added (cost.Directory ppn) own))
        (λ all. inr (lost_added cost.Directories all)) loss

    pub unnamed_added : (files : List SavedFile) (ppn : ℕ) (name : FileName) (prime : ℕ)
        → IsAmong files (place_of ppn name) prime ⊎ (IsUnread old ppn name ⊎ IsDirectoryLoss old ppn)
        → IsAmong files (place_of ppn name) prime ⊎ (IsUnread new ppn name ⊎ IsDirectoryLoss new ppn)
    unnamed_added files ppn name prime is = ⊎_elim (λ there. inl there)
        (λ lost. inr (⊎_elim (λ bad. inl (unread_added ppn name bad)) (λ loss. inr (loss_added ppn loss)) lost)) is

    pub chains_added : AreChainsTold size layout contents old → AreChainsTold size layout contents new
    chains_added told ppn word first n named shared = ⊎_elim (λ loss. inl (loss_added ppn loss))
        (λ loss. inr (loss_added shared.other loss)) (told ppn word first n named shared)

    pub told_added : (file : SavedFile) → IsTold old file → IsTold new file
    told_added file is = lost_added (cost.File file.stored.prime.ppn file.stored.prime.file) is

    pub judged_added : (files doubtful read : List SavedFile) → AreJudgedAs contents files doubtful old read
        → AreJudgedAs contents files doubtful new read
    judged_added files doubtful read judged = all_of
        (λ file. Contains files file
        ⊎ ((Contains doubtful file ⊎ (IsDamaged contents file ⊎ IsFull read file)) × IsTold old file))
        (λ file. Contains files file
        ⊎ ((Contains doubtful file ⊎ (IsDamaged contents file ⊎ IsFull read file)) × IsTold new file)) read
        (λ file is. ⊎_elim (λ there. inl there) (λ other. inr (other.0, told_added file other.1)) is) judged

    pub stand_added : AllByRecursion (IsFinding size layout contents) old
        → AllByRecursion (IsFinding size layout contents) new
    stand_added stand = subst (AllByRecursion (IsFinding size layout contents)) (sym more.new_is)
        (all_append (IsFinding size layout contents) old more.added stand more.stand)

  -- More may be reported.
  pub survey_more : (search : Search) (files doubtful unnamed : List SavedFile) (old new : List Finding)
      → IsSurveyed size layout contents search files doubtful unnamed old → AreAdded size layout contents old new
      → IsSurveyed size layout contents search files doubtful unnamed new
  survey_more search files doubtful unnamed old new is more = record {
    read = is.read;
    read_named = is.read_named;
    read_all = λ ppn name prime named. unnamed_added old new more is.read ppn name prime
        (is.read_all ppn name prime named);
    chains_told = chains_added old new more is.chains_told;
    judged = judged_added old new more files doubtful is.read is.judged;
    placed = is.placed;
    once = is.once;
    doubted = all_of
        (λ file. Contains is.read file × IsWholeFile size layout contents file × IsTold old file)
        (λ file. Contains is.read file × IsWholeFile size layout contents file × IsTold new file) doubtful
        (λ file here. (here.0, here.1, told_added old new more file here.2)) is.doubted;
    unnamed_whole = is.unnamed_whole;
    unnamed_apart = is.unnamed_apart;
    unnamed_alone = is.unnamed_alone;
    unnamed_at = is.unnamed_at;
    few = is.few;
    stand = stand_added old new more is.stand;
    unnamed_all = λ prime ppn name inside searched free says. ⊎_elim (λ there. inl there)
        (λ lost. inr (lost_added old new more (cost.Unnamed ppn name prime) lost))
        (is.unnamed_all prime ppn name inside searched free says);
  }

  module _ (search : Search) (named found files doubtful unnamed : List SavedFile)
      (first second third fourth fifth : List Finding) (tree : IsTree size layout contents named first)
      (one : AreAdded size layout contents first second)
      (scanned : IsScanned size layout contents search named found third)
      (two : AreAdded size layout contents second third)
      (placed : ArePlaced size layout contents named files doubtful fourth)
      (three : AreAdded size layout contents third fourth)
      (taken : AreTaken size layout contents found unnamed fifth)
      (four : AreAdded size layout contents fourth fifth)
      (few : (n : ℕ) → claims files n + claims doubtful n + claims unnamed n ≤ 4) where
    from_first : AreAdded size layout contents first fifth
    from_first = added_then size layout contents first fourth fifth
        (added_then size layout contents first third fourth
        (added_then size layout contents first second third one two) three) four

    from_third : AreAdded size layout contents third fifth
    from_third = added_then size layout contents third fourth fifth three four

    unnamed_there : (ppn : ℕ) (name : FileName) (prime : ℕ) → IsAmong found (place_of ppn name) prime
        → IsAmong unnamed (place_of ppn name) prime ⊎ IsLostBy fifth (cost.Unnamed ppn name prime)
    unnamed_there ppn name prime is = ⊎_elim
        (λ there. inl (record { file = is.file; among = there; at_is = is.at_is; place_is = is.place_is }))
        (λ lost. inr (subst (λ (n : ℕ). IsLostBy fifth (cost.Unnamed ppn name n)) is.at_is
        (subst (λ (p : Place). IsLostBy fifth (cost.Unnamed p.ppn p.name is.file.at)) is.place_is lost)))
        (taken.each is.file is.among)

    abbrev IsAt : SavedFile → Type 0
    IsAt file = InSpace size file.at × IsSearched search size contents file.at × (claims named file.at ≡ 0)

    pub surveyed : IsSurveyed size layout contents search files doubtful unnamed fifth
    surveyed = record {
      read = named;
      read_named = tree.read;
      read_all = λ ppn name prime is. unnamed_added first fifth from_first named ppn name prime
          (tree.named ppn name prime is);
      chains_told = chains_added first fifth from_first tree.chains_told;
      judged = judged_added fourth fifth four files doubtful named placed.judged;
      placed = placed.placed;
      once = placed.once;
      doubted = all_of
          (λ file. Contains named file × IsWholeFile size layout contents file × IsTold fourth file)
          (λ file. Contains named file × IsWholeFile size layout contents file × IsTold fifth file) doubtful
          (λ file here. (here.0, here.1, told_added fourth fifth four file here.2)) placed.doubted;
      unnamed_whole = taken.whole;
      unnamed_apart = taken.apart;
      unnamed_alone = λ f g n in_f in_g. scanned.alone f g n (element_has (Contains found) unnamed f taken.only in_f)
          (element_has (Contains found) unnamed g taken.only in_g);
      unnamed_at = all_of (Contains found) IsAt unnamed (λ file there. element_has IsAt found file scanned.at there)
          taken.only;
      few = few;
      stand = stand_added first fifth from_first tree.stand;
      unnamed_all = λ prime ppn name inside searched free says. ⊎_elim (unnamed_there ppn name prime)
          (λ lost. inr (lost_added third fifth from_third (cost.Unnamed ppn name prime) lost))
          (scanned.all prime ppn name inside searched free says);
    }
