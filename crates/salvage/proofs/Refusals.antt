-- A reader that is refused has met a fault that is there, if the disk and memory served it.
use Rattle.std.proofs.Common.{◌≡◌, ◌⊎◌, inl, inr, ⊎_elim, ℕ, Bool, List, [], Result, Err, IfErr, IsErrOf, refl, sym}
use Rattle.std.proofs.Common.{ap, subst, ◌∙◌, arith, nat_cmp, zero, suc, false, replicate}
use Rattle.blockdisk.specs.Common.{Contents}
use Rattle.spec_image.specs.Common.{master_words, file_words, IsFileEntry, InSpace, IsBadVersion, IsMasterEntryOf}
use Rattle.spec_image.specs.Common.{name_cmp, IsHome, layout_number, IsVolumeSize, place_of, IsDirectoryNamed}
use Rattle.spec_image.specs.Common.{IsBadHome, IsFileNamed, IsNotVolume}
use Rattle.spec_image.specs.declared.layout.Layout.{Layout}
use Rattle.words36.specs.declared.names.FileName.{FileName}
use Rattle.alloctab.specs.Common.{digit_at}
use Rattle.directory.specs.Common.{IsBadChain, IsTwiceInChain}
use Rattle.directory.specs.declared.error.DirectoryError.{DirectoryError}
use Rattle.volume.specs.Common.{error_of_chain, IsOtherPlace, IsVersionRefusal, home_in}
use Rattle.volume.specs.declared.error.VolumeError.{VolumeError}
use Rattle.volume.specs.declared.error.VolumeError.TheVariants.{NotVolume, BadHome, BadLog, BadDirectory}
use Rattle.volume.specs.declared.error.VolumeError.TheVariants.{BadRetrieval, BlockTwice, TableWrong, Device}
use Rattle.volume.specs.declared.error.VolumeError.TheVariants.{NoMemory, Failed, BadData}
use Rattle.volume.proofs.VolumeStart.FileFaults.{refusal}
use Rattle.volume.proofs.VolumeStart.Quotas.{chain_carries}
use Rattle.salvage.specs.Common.{IsFaultAt, IsChainRefusal, IsNoFault, MayRefuse}
use Rattle.salvage.specs.declared.finding.Cost.{Cost}
use Rattle.salvage.specs.declared.finding.Defect.TheVariants.{Start}
use Rattle.directory.specs.declared.error.DirectoryError.TheVariants as directory
use Rattle.salvage.specs.declared.finding.Cost.TheVariants as cost

-- A fault that isn't want of memory or of the device is there.
pub fault_stands : (size layout : ℕ) (contents : Contents) (costs : Cost) (error : VolumeError)
    → MayRefuse size layout contents costs error → (IsNoFault error → ⊥)
    → IsFaultAt size layout contents (Start error) costs
fault_stands size layout contents costs error refused fault = ⊎_elim (λ none. absurd (fault none)) (λ stands. stands)
    refused

-- Files.

pub file_refused : {T : Type 0} (size layout : ℕ) (contents : Contents) (ppn : ℕ) (name : FileName) (prime : ℕ)
    (result : Result T VolumeError) (error : VolumeError) → result ≡ Err error → InSpace size prime
    → IsFileNamed size contents layout (place_of ppn name) prime → IfErr result IsVersionRefusal
    → ((k : ℕ) → result ≡ Err (BadRetrieval k) → IsBadVersion size contents layout prime k
    ⊎ ((k ≡ prime) × IsOtherPlace layout contents (place_of ppn name) prime))
    → ((k : ℕ) → result ≡ Err (BadRetrieval k) → (k ≡ prime) ⊎ InSpace size k)
    → MayRefuse size layout contents (cost.File ppn name) error
file_refused size layout contents ppn name prime result error is inside named only bad where_bad = by error is
  where
    by : (e : VolumeError) → result ≡ Err e → MayRefuse size layout contents (cost.File ppn name) e
    by NotVolume met = absurd (refusal IsVersionRefusal result NotVolume met only)
    by BadHome met = absurd (refusal IsVersionRefusal result BadHome met only)
    by BadLog met = absurd (refusal IsVersionRefusal result BadLog met only)
    by (BadDirectory n) met = absurd (refusal IsVersionRefusal result (BadDirectory n) met only)
    by (BadRetrieval n) met = inr (record {
      prime = prime;
      named = named;
      concerns = (
        ⊎_elim (λ same. subst (InSpace size) (sym same) inside) (λ there. there) (where_bad n met),
        bad n met,
      );
    })
    by (BlockTwice n) met = absurd (refusal IsVersionRefusal result (BlockTwice n) met only)
    by (TableWrong n) met = absurd (refusal IsVersionRefusal result (TableWrong n) met only)
    by Device met = inl (inl refl)
    by NoMemory met = inl (inr refl)
    by Failed met = absurd (refusal IsVersionRefusal result Failed met only)
    by (BadData n) met = absurd (refusal IsVersionRefusal result (BadData n) met only)

-- a retrieval block is bad, unless the device or memory failed
pub file_unread : {T : Type 0} (result : Result T VolumeError) (error : VolumeError) → result ≡ Err error
    → IfErr result IsVersionRefusal → IsNoFault error ⊎ ((n : ℕ) × (error ≡ BadRetrieval n))
file_unread result error is only = by error is
  where
    by : (e : VolumeError) → result ≡ Err e → IsNoFault e ⊎ ((n : ℕ) × (e ≡ BadRetrieval n))
    by NotVolume met = absurd (refusal IsVersionRefusal result NotVolume met only)
    by BadHome met = absurd (refusal IsVersionRefusal result BadHome met only)
    by BadLog met = absurd (refusal IsVersionRefusal result BadLog met only)
    by (BadDirectory n) met = absurd (refusal IsVersionRefusal result (BadDirectory n) met only)
    by (BadRetrieval n) met = inr (n, refl)
    by (BlockTwice n) met = absurd (refusal IsVersionRefusal result (BlockTwice n) met only)
    by (TableWrong n) met = absurd (refusal IsVersionRefusal result (TableWrong n) met only)
    by Device met = inl (inl refl)
    by NoMemory met = inl (inr refl)
    by Failed met = absurd (refusal IsVersionRefusal result Failed met only)
    by (BadData n) met = absurd (refusal IsVersionRefusal result (BadData n) met only)

-- Chains.

pub directory_refused : {T : Type 0} (size layout : ℕ) (contents : Contents) (ppn word first : ℕ)
    (result : Result T VolumeError) (error : VolumeError) → result ≡ Err error
    → IsDirectoryNamed size contents layout ppn word first → IfErr result IsChainRefusal
    → ((n : ℕ) → result ≡ Err (BadDirectory n)
    → IsBadChain name_cmp file_words IsFileEntry (λ e. e.1) size contents first n)
    → ((n : ℕ) → result ≡ Err (BlockTwice n) → IsTwiceInChain file_words contents [] first n)
    → ((n : ℕ) → (result ≡ Err (BadDirectory n)) ⊎ (result ≡ Err (BlockTwice n)) → InSpace size n)
    → MayRefuse size layout contents (cost.Directory ppn) error
directory_refused size layout contents ppn word first result error is named only bad twice where_bad =
    ⊎_elim (λ none. inl none)
    (λ some. inr (⊎_elim
    (λ (met : (n : ℕ) × (error ≡ BadDirectory n)).
    subst (λ (e : VolumeError). IsFaultAt size layout contents (Start e) (cost.Directory ppn)) (sym met.1) (record {
      word = word;
      first = first;
      named = named;
      concerns = bad met.0 (is ∙ ap Err met.1);
    }))
    (λ (met : (n : ℕ) × (error ≡ BlockTwice n)).
    subst (λ (e : VolumeError). IsFaultAt size layout contents (Start e) (cost.Directory ppn)) (sym met.1) (record {
      word = word;
      first = first;
      named = named;
      concerns = (where_bad met.0 (inr (is ∙ ap Err met.1)), inl (twice met.0 (is ∙ ap Err met.1)));
    })) some))
    (refusal IsChainRefusal result error is only)

pub master_refused : {T : Type 0} (size : ℕ) (layout : Layout) (contents : Contents) (first : ℕ)
    (result : Result T VolumeError) (error : VolumeError) → result ≡ Err error → IsVolumeSize size
    → IsHome size contents (home_in (layout_number layout) first) → IfErr result IsChainRefusal
    → ((n : ℕ) → result ≡ Err (BadDirectory n)
    → IsBadChain nat_cmp master_words (IsMasterEntryOf 2) (λ e. e.1.1) size contents first n)
    → ((n : ℕ) → result ≡ Err (BlockTwice n) → IsTwiceInChain master_words contents [] first n)
    → ((n : ℕ) → (result ≡ Err (BadDirectory n)) ⊎ (result ≡ Err (BlockTwice n)) → InSpace size n)
    → MayRefuse size (layout_number layout) contents cost.Directories error
master_refused size layout contents first result error is volume home only bad twice where_bad =
    ⊎_elim (λ none. inl none)
    (λ some. inr (⊎_elim
    (λ (met : (n : ℕ) × (error ≡ BadDirectory n)).
    let chain = chain_carries layout size contents first met.0 (bad met.0 (is ∙ ap Err met.1)) in
    subst (λ (e : VolumeError). IsFaultAt size (layout_number layout) contents (Start e) cost.Directories) (sym met.1) (
      where_bad met.0 (inl (is ∙ ap Err met.1)),
      record {
        layout = layout_number layout;
        before = chain.before;
        walk = record { volume = volume; master = first; home = home; walk = chain.walk };
        inside = chain.inside;
        bad = chain.bad;
      },
    ))
    (λ (met : (n : ℕ) × (error ≡ BlockTwice n)).
    subst (λ (e : VolumeError). IsFaultAt size (layout_number layout) contents (Start e) cost.Directories)
    (sym met.1) (record {
      first = first;
      home = home;
      inside = where_bad met.0 (inr (is ∙ ap Err met.1));
      twice = twice met.0 (is ∙ ap Err met.1);
    })) some))
    (refusal IsChainRefusal result error is only)

-- Neither home copy is valid, unless the device failed.
pub home_refused : {T : Type 0} (size : ℕ) (contents : Contents) (result : Result T VolumeError) (error : VolumeError)
    → result ≡ Err error → (IsErrOf result NotVolume → IsNotVolume size contents)
    → (IsErrOf result BadHome → IsBadHome size contents)
    → ((e : VolumeError) → IsErrOf result e → (e ≡ NotVolume) ⊎ (e ≡ BadHome) ⊎ (e ≡ Device))
    → (layout : ℕ) → MayRefuse size layout contents cost.Directories error
home_refused size contents result error is not_volume bad only layout = ⊎_elim
    (λ (same : error ≡ NotVolume).
    subst (λ (e : VolumeError). MayRefuse size layout contents cost.Directories e) (sym same)
    (inr (not_volume (is ∙ ap Err same))))
    (λ rest. ⊎_elim
    (λ (same : error ≡ BadHome).
    subst (λ (e : VolumeError). MayRefuse size layout contents cost.Directories e) (sym same)
    (inr (bad (is ∙ ap Err same))))
    (λ same. inl (inl same)) rest)
    (only error is)

-- What a chain is refused with, as a start would name it.

err_same : {T E : Type 0} (x y : E) → IsErrOf {T = T} {E = E} (Err x) y → x ≡ y
err_same x y is = cc

fresh_marks : (size n : ℕ) → digit_at (replicate size false) n ≡ 0
fresh_marks zero n = refl
fresh_marks (suc size) zero = refl
fresh_marks (suc size) (suc n) = fresh_marks size n

pub twice_named : {T K V : Type 0} (words : K × V → List ℕ) (contents : Contents) (reached : List Bool) (size first : ℕ)
    (error : DirectoryError) (refused : VolumeError) → refused ≡ error_of_chain error → reached ≡ replicate size false
    → ((k : ℕ) → error ≡ directory.BlockTwice k → IsTwiceInChain words contents reached first k)
    → (n : ℕ) → IsErrOf {T = T} (Err refused) (BlockTwice n) → IsTwiceInChain words contents [] first n
twice_named {T = T} words contents reached size first error refused is fresh twice n named = by error refl
  where
    same : error_of_chain error ≡ BlockTwice n
    same = sym is ∙ err_same {T = T} refused (BlockTwice n) named

    anew : (k : ℕ) → IsTwiceInChain words contents reached first k → IsTwiceInChain words contents [] first k
    anew k met = record {
      before = met.before;
      walk = met.walk;
      somewhere = met.somewhere;
      twice = let t = met.twice in
          let z : digit_at reached k ≡ 0 = ap (λ (marks : List Bool). digit_at marks k) fresh ∙ fresh_marks size k in
          omega arith;
    }

    by : (e : DirectoryError) → error ≡ e → IsTwiceInChain words contents [] first n
    by (directory.BadDirectory k) e = let other : BadDirectory k ≡ BlockTwice n = sym (ap error_of_chain e) ∙ same in cc
    by (directory.BlockTwice k) e =
        let block : BlockTwice k ≡ BlockTwice n = sym (ap error_of_chain e) ∙ same in
        let number : k ≡ n = cc in
        subst (λ (j : ℕ). IsTwiceInChain words contents [] first j) number (anew k (twice k e))
    by directory.Device e = let other : Device ≡ BlockTwice n = sym (ap error_of_chain e) ∙ same in cc
    by directory.NoMemory e = let other : NoMemory ≡ BlockTwice n = sym (ap error_of_chain e) ∙ same in cc

pub inside_named : {T : Type 0} (size : ℕ) (error : DirectoryError) (refused : VolumeError)
    → refused ≡ error_of_chain error
    → ((k : ℕ) → error ≡ directory.BadDirectory k → InSpace size k)
    → ((k : ℕ) → error ≡ directory.BlockTwice k → InSpace size k)
    → (n : ℕ) → IsErrOf {T = T} (Err refused) (BadDirectory n) ⊎ IsErrOf {T = T} (Err refused) (BlockTwice n)
    → InSpace size n
inside_named {T = T} size error refused is bad twice n named = by error refl
  where
    same : (error_of_chain error ≡ BadDirectory n) ⊎ (error_of_chain error ≡ BlockTwice n)
    same = ⊎_elim (λ met. inl (sym is ∙ err_same {T = T} refused (BadDirectory n) met))
        (λ met. inr (sym is ∙ err_same {T = T} refused (BlockTwice n) met)) named

    by : (e : DirectoryError) → error ≡ e → InSpace size n
    by (directory.BadDirectory k) e = ⊎_elim
        (λ met. let block : BadDirectory k ≡ BadDirectory n = sym (ap error_of_chain e) ∙ met in
        let number : k ≡ n = cc in subst (InSpace size) number (bad k e))
        (λ met. let other : BadDirectory k ≡ BlockTwice n = sym (ap error_of_chain e) ∙ met in cc) same
    by (directory.BlockTwice k) e = ⊎_elim
        (λ met. let other : BlockTwice k ≡ BadDirectory n = sym (ap error_of_chain e) ∙ met in cc)
        (λ met. let block : BlockTwice k ≡ BlockTwice n = sym (ap error_of_chain e) ∙ met in
        let number : k ≡ n = cc in subst (InSpace size) number (twice k e)) same
    by directory.Device e = ⊎_elim (λ met. let other : Device ≡ BadDirectory n = sym (ap error_of_chain e) ∙ met in cc)
        (λ met. let other : Device ≡ BlockTwice n = sym (ap error_of_chain e) ∙ met in cc) same
    by directory.NoMemory e = ⊎_elim
        (λ met. let other : NoMemory ≡ BadDirectory n = sym (ap error_of_chain e) ∙ met in cc)
        (λ met. let other : NoMemory ≡ BlockTwice n = sym (ap error_of_chain e) ∙ met in cc) same
