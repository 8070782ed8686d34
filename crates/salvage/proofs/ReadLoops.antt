-- A loop over the entries of a directory continues by one entry.
use Rattle.std.proofs.Common.{◌≡◌, ℕ, ◌+◌, ◌<◌, Bool, true, false, cond, List, [], ◌∷◌, ◌++◌, map, length, get_or}
use Rattle.std.proofs.Common.{take, drop, Some, None, refl, sym, ap, subst, ◌∙◌, nat_cmp, Ordering}
use Rattle.std.specs.Cmp.{IsTotalOrder, nat_cmp_total}
use Rattle.std.specs.FinMap.{IsAntisymmetric, nat_cmp-IsAntisymmetric}
use Rattle.std.specs.FinMap.Entries.{find}
use Rattle.std.specs.List.{AllByRecursion}
use Rattle.std.specs.Ordering.{eq_by_cmp}
use Rattle.blockdisk.specs.Common.{Contents}
use Rattle.spec_image.specs.Common.{SpecMasterEntry, SpecFileEntry, name_cmp, EachOnce, IsDirectoryNamed}
use Rattle.spec_image.proofs.Common.{all_left, some_none, tied, find_first, name_total, name_exact}
use Rattle.volume.proofs.common.Lookups.{viewed_more, viewed_split, viewed_at}
use Rattle.salvage.specs.Common.{AreWalked, IsNamedIn, IsReadTo}
use Rattle.salvage.specs.declared.saved.SavedFile.{SavedFile}
use Rattle.salvage.specs.declared.finding.Finding.{Finding}
use Rattle.salvage.proofs.CarriedFacts.{moved}
use Rattle.salvage.proofs.ReadSteps.{none_back}

-- a key isn't among those before it, if each occurs once
new_key : {K V : Type 0} {R : K → K → Ordering} (o : IsTotalOrder R) (exact : IsAntisymmetric R) (front : List (K × V))
    (e : K × V) (rest : List (K × V)) → EachOnce R (front ++ e ∷ rest) → find R e.0 front ≡ None
new_key o exact [] e rest once = refl
new_key {V = V} {R = R} o exact (f ∷ front) e rest once = by (eq_by_cmp R e.0 f.0) refl
    (new_key o exact front e rest once.1)
  where
    by : (b : Bool) → eq_by_cmp R e.0 f.0 ≡ b → find R e.0 front ≡ None → cond b (Some f.1) (find R e.0 front) ≡ None
    by true same none =
        let key = tied o exact e.0 f.0 same in
        let behind = none_back R front (e ∷ rest) f.0 once.0 in
        absurd (some_none (sym (find_first o e rest) ∙ ap (λ k. find R k (e ∷ rest)) key ∙ behind))
    by false other none = none

-- One more file.
pub files_go_on : {E : Type 0} (view : E → SpecFileEntry) (size size' layout : ℕ) (contents contents' : Contents)
    (directories : List SpecMasterEntry) (ppn : ℕ) (es : List E) (i : ℕ) (e : E) (files files' : List SavedFile)
    (findings findings' : List Finding) → i < length es → e ≡ get_or es i e → size' ≡ size → contents' ≡ contents
    → AllByRecursion (IsNamedIn size layout contents ppn) (map view es) → EachOnce name_cmp (map view es)
    → IsReadTo size layout contents directories ppn (map view (take i es)) files findings
    → ((names : List SpecFileEntry) → IsNamedIn size' layout contents' ppn (view e)
    → find name_cmp (view e).0 names ≡ None
    → IsReadTo size' layout contents' directories ppn names files findings
    → IsReadTo size' layout contents' directories ppn (names ++ view e ∷ []) files' findings')
    → IsReadTo size layout contents directories ppn (map view (take (i + 1) es)) files' findings'
files_go_on view size size' layout contents contents' directories ppn es i e files files' findings findings' below is
    sizes same named once before added =
    let here : IsNamedIn size layout contents ppn (view e) = viewed_at view es i e below is
    (IsNamedIn size layout contents ppn) named in
    let new : find name_cmp (view e).0 (map view (take i es)) ≡ None = new_key name_total name_exact
    (map view (take i es)) (view e) (map view (drop (i + 1) es))
    (subst (EachOnce name_cmp) (viewed_split view es i e below is) once) in
    let on = moved (λ n c. (names : List SpecFileEntry) → IsNamedIn n layout c ppn (view e)
    → find name_cmp (view e).0 names ≡ None → IsReadTo n layout c directories ppn names files findings
    → IsReadTo n layout c directories ppn (names ++ view e ∷ []) files' findings') size size' contents contents' sizes
    same added in
    subst (λ (l : List SpecFileEntry). IsReadTo size layout contents directories ppn l files' findings')
    (sym (viewed_more view es i e below is)) (on (map view (take i es)) here new before)

-- One more directory.
pub directories_go_on : {E : Type 0} (view : E → SpecMasterEntry) (size size' layout : ℕ)
    (contents contents' : Contents)
    (es : List E) (i : ℕ) (e : E) (marks : List Bool) (files files' : List SavedFile)
    (findings findings' : List Finding)
    → i < length es → e ≡ get_or es i e → size' ≡ size → contents' ≡ contents
    → AllByRecursion (λ (x : SpecMasterEntry). IsDirectoryNamed size contents layout x.0 x.1.0 x.1.1) (map view es)
    → EachOnce nat_cmp (map view es) → AreWalked size contents (map view (take i es)) marks
    → IsReadTo size layout contents (map view (take i es)) 0 [] files findings
    → ((directories : List SpecMasterEntry) (word : ℕ)
    → AllByRecursion (λ (x : SpecMasterEntry). IsDirectoryNamed size' contents' layout x.0 x.1.0 x.1.1) directories
    → AreWalked size' contents' directories marks
    → IsDirectoryNamed size' contents' layout (view e).0 word (view e).1.1
    → find nat_cmp (view e).0 directories ≡ None
    → IsReadTo size' layout contents' directories 0 [] files findings
    → IsReadTo size' layout contents' (directories ++ view e ∷ []) 0 [] files' findings')
    → IsReadTo size layout contents (map view (take (i + 1) es)) 0 [] files' findings'
directories_go_on view size size' layout contents contents' es i e marks files files' findings findings' below is sizes
    same named once walked before added =
    let front = all_left (λ (x : SpecMasterEntry). IsDirectoryNamed size contents layout x.0 x.1.0 x.1.1)
    (map view (take i es)) (view e ∷ map view (drop (i + 1) es))
    (subst (AllByRecursion (λ (x : SpecMasterEntry). IsDirectoryNamed size contents layout x.0 x.1.0 x.1.1))
    (viewed_split view es i e below is) named) in
    let here = viewed_at view es i e below is
    (λ (x : SpecMasterEntry). IsDirectoryNamed size contents layout x.0 x.1.0 x.1.1) named in
    let new : find nat_cmp (view e).0 (map view (take i es)) ≡ None = new_key nat_cmp_total nat_cmp-IsAntisymmetric
    (map view (take i es)) (view e) (map view (drop (i + 1) es))
    (subst (EachOnce nat_cmp) (viewed_split view es i e below is) once) in
    let on = moved (λ n c. (directories : List SpecMasterEntry) (word : ℕ)
    → AllByRecursion (λ (x : SpecMasterEntry). IsDirectoryNamed n c layout x.0 x.1.0 x.1.1) directories
    → AreWalked n c directories marks → IsDirectoryNamed n c layout (view e).0 word (view e).1.1
    → find nat_cmp (view e).0 directories ≡ None
    → IsReadTo n layout c directories 0 [] files findings
    → IsReadTo n layout c (directories ++ view e ∷ []) 0 [] files' findings') size size' contents contents' sizes same
    added in
    subst (λ (l : List SpecMasterEntry). IsReadTo size layout contents l 0 [] files' findings')
    (sym (viewed_more view es i e below is)) (on (map view (take i es)) (view e).1.0 front walked here new before)
