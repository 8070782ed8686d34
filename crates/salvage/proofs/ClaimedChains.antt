-- The chain of a directory was marked: it is that directory's alone, or it comes to a block that was marked before.
use Rattle.std.proofs.Common.{◌≡◌, inl, inr, ⊎_elim, ℕ, Bool, true, List, [], ◌∷◌, ◌++◌, Option, Some, None, Result}
use Rattle.std.proofs.Common.{OnOk, IfSome, IfNone, refl, sym, ap, subst, ◌∙◌, nat_cmp}
use Rattle.std.specs.Cmp.{nat_cmp_total}
use Rattle.std.specs.FinMap.Entries.{find}
use Rattle.std.specs.List.{AllByRecursion}
use Rattle.blockdisk.specs.Common.{Contents}
use Rattle.spec_image.specs.Common.{IsDirectoryNamed, IsFileEntry, SpecMasterEntry, file_words}
use Rattle.spec_image.proofs.Common.{find_first, some_none}
use Rattle.alloctab.specs.Common.{flag_at}
use Rattle.volume.specs.declared.error.VolumeError.TheVariants.{BlockTwice}
use Rattle.salvage.specs.Common.{AreApartFrom, AreWalked, IsChainShared, IsFaultAt, IsFileWalked, IsLostBy}
use Rattle.salvage.specs.Common.{IsMetAgain, IsReadTo, IsUnmet}
use Rattle.salvage.specs.declared.saved.SavedFile.{SavedFile}
use Rattle.salvage.specs.declared.finding.Defect.TheVariants.{Start}
use Rattle.salvage.specs.declared.finding.Finding.{Finding}
use Rattle.salvage.proofs.CarriedFacts.{element_has, moved, on_ok}
use Rattle.salvage.proofs.ReadSteps.{directory_told, none_back}
use Rattle.salvage.proofs.SavedFiles.{lost_here}
use Rattle.salvage.specs.declared.finding.Cost.TheVariants as cost

-- none of the entries has a key that isn't found
none_has : (k : ℕ) (es : List SpecMasterEntry) → find nat_cmp k es ≡ None
    → AllByRecursion (λ (e : SpecMasterEntry). e.0 ≡ k → ⊥) es
none_has k [] none = tt
none_has k (e ∷ es) none = (
  λ same. some_none (sym (find_first nat_cmp_total e es) ∙ ap (λ (j : ℕ). find nat_cmp j (e ∷ es)) same ∙ none),
  none_has k es (none_back nat_cmp (e ∷ []) es k none),
)

pub if_none : (met : Option ℕ) (P : Type 0) → met ≡ None → IfNone met P → P
if_none met P is holds = subst (λ (o : Option ℕ). IfNone o P) is holds

pub if_some : (met : Option ℕ) (n : ℕ) (P : ℕ → Type 0) → met ≡ Some n → IfSome met P → P n
if_some met n P is holds = subst (λ (o : Option ℕ). IfSome o P) is holds

module _ (size : ℕ) (contents : Contents) (old : List Bool) (first : ℕ) (met : Option ℕ) (is : met ≡ None)
    (unmet : IfNone met (IsUnmet file_words IsFileEntry size contents old first)) where
  -- The chain comes to no block that was marked.
  pub none_met : (n : ℕ) → flag_at old n ≡ true → IsFileWalked size contents first n → ⊥
  none_met n set walk = if_none met (IsUnmet file_words IsFileEntry size contents old first) is unmet n walk set

  pub apart_from : (directories : List SpecMasterEntry) → AreWalked size contents directories old
      → AreApartFrom size contents directories first
  apart_from directories walked e n there walk own = none_met n ((walked n).1 (e, there, walk)) own

-- So it was read, on the disk as it is then.
pub claimed_on : {T E : Type 0} (size size' layout : ℕ) (contents contents' : Contents)
    (directories : List SpecMasterEntry) (e : SpecMasterEntry) (word : ℕ) (files files' : List SavedFile)
    (findings findings' : List Finding) (result : Result T E) → size' ≡ size → contents' ≡ contents
    → AreApartFrom size contents directories e.1.1 → IsDirectoryNamed size contents layout e.0 word e.1.1
    → find nat_cmp e.0 directories ≡ None → IsReadTo size layout contents directories 0 [] files findings
    → ((ds : List SpecMasterEntry) (w : ℕ) → IsDirectoryNamed size' contents' layout e.0 w e.1.1
    → find nat_cmp e.0 ds ≡ None → AreApartFrom size' contents' ds e.1.1
    → IsReadTo size' layout contents' ds 0 [] files findings
    → OnOk result (IsReadTo size' layout contents' (ds ++ e ∷ []) 0 [] files' findings'))
    → OnOk result (IsReadTo size layout contents (directories ++ e ∷ []) 0 [] files' findings')
claimed_on size size' layout contents contents' directories e word files files' findings findings' result sizes same
    apart named new r added =
    moved (λ n c. (ds : List SpecMasterEntry) (w : ℕ) → IsDirectoryNamed n c layout e.0 w e.1.1
    → find nat_cmp e.0 ds ≡ None → AreApartFrom n c ds e.1.1 → IsReadTo n layout c ds 0 [] files findings
    → OnOk result (IsReadTo n layout c (ds ++ e ∷ []) 0 [] files' findings')) size size' contents contents' sizes same
    added directories word named new apart r

-- Or this was reported, and nothing was read.
module _ {T E : Type 0} (findings findings' : List Finding) (ppn n : ℕ) (result : Result T E)
    (told : OnOk result (findings' ≡ findings ++ record { fault = Start (BlockTwice n); costs = cost.Directory ppn }
    ∷ [])) where
  pub shared_lost : (files : List SavedFile)
      → OnOk result ((files ≡ files) × IsLostBy findings' (cost.Directory ppn))
  shared_lost files = on_ok result
      (λ pushed. (
        refl,
        subst (λ (fs : List Finding). IsLostBy fs (cost.Directory ppn)) (sym pushed)
            (lost_here findings (Start (BlockTwice n)) (cost.Directory ppn)),
      )) told

  pub shared_told : (size layout : ℕ) (contents : Contents) (directories : List SpecMasterEntry) (word first : ℕ)
      (old : List Bool) (files : List SavedFile)
      → AllByRecursion (λ (e : SpecMasterEntry). IsDirectoryNamed size contents layout e.0 e.1.0 e.1.1) directories
      → AreWalked size contents directories old → IsDirectoryNamed size contents layout ppn word first
      → find nat_cmp ppn directories ≡ None → IsReadTo size layout contents directories 0 [] files findings
      → IsMetAgain file_words IsFileEntry size contents old first n → (w : ℕ)
      → OnOk result (IsReadTo size layout contents (directories ++ (ppn, (w, first)) ∷ []) 0 [] files findings')
  shared_told size layout contents directories word first old files all walked named new r met w = on_ok result
      (λ pushed. subst
      (λ (fs : List Finding). IsReadTo size layout contents (directories ++ (ppn, (w, first)) ∷ []) 0 [] files fs)
      (sym pushed)
      (directory_told size layout contents directories files findings (ppn, (w, first)) (BlockTwice n) r there)) told
    where
      of_another : flag_at old n ≡ true → IsChainShared size layout contents ppn first n
      of_another set =
          let by = (walked n).0 set in
          record {
            walked = met.walked;
            other = by.0.0;
            differs = element_has (λ (e : SpecMasterEntry). e.0 ≡ ppn → ⊥) directories by.0
                (none_has ppn directories new) by.1;
            word = by.0.1.0;
            start = by.0.1.1;
            named = element_has
                (λ (e : SpecMasterEntry). IsDirectoryNamed size contents layout e.0 e.1.0 e.1.1) directories by.0 all
                by.1;
            reached = by.2;
          }

      there : IsFaultAt size layout contents (Start (BlockTwice n)) (cost.Directory ppn)
      there = record {
        word = word;
        first = first;
        named = named;
        concerns = (met.inside, ⊎_elim (λ set. inr (of_another set)) (λ twice. inl twice) met.again);
      }
