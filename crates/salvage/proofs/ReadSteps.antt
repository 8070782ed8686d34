-- One more file or directory was read, or reported.
use Rattle.std.proofs.Common.{◌≡◌, ◌⊎◌, inl, inr, ⊎_elim, ℕ, true, false, cond, List, [], ◌∷◌, ◌++◌, Some, None}
use Rattle.std.proofs.Common.{refl, sym, ap, subst, ◌∙◌, nat_cmp, Ordering, Result, OnOk}
use Rattle.std.proofs.lemmas.List.Elements.{Contains-push, Contains-push_cases}
use Rattle.std.specs.Cmp.{IsTotalOrder, nat_cmp_total}
use Rattle.std.specs.FinMap.Entries.{find}
use Rattle.std.specs.List.{AllByRecursion, Contains}
use Rattle.std.specs.Ordering.{eq_by_cmp}
use Rattle.words36.specs.declared.names.FileName.{FileName}
use Rattle.blockdisk.specs.Common.{Contents}
use Rattle.spec_image.specs.Common.{Node, items, SpecMasterEntry, SpecFileEntry, file_words, InSpace, Place, name_cmp}
use Rattle.spec_image.specs.Common.{place_of, LeadsAlong}
use Rattle.spec_image.proofs.Common.{some_none, find_first, found_holds, name_total, name_exact, none_front}
use Rattle.volume.specs.Common.{IsOtherPlace}
use Rattle.volume.specs.declared.error.VolumeError.{VolumeError}
use Rattle.volume.specs.declared.error.VolumeError.TheVariants.{BadRetrieval}
use Rattle.volume.proofs.common.Lookups.{all_both, all_each, all_push}
use Rattle.salvage.specs.Common.{AreApartChains, AreApartFrom, IsFaultAt, IsFileWalked, IsFinding, IsIn, IsLostBy}
use Rattle.salvage.specs.Common.{IsNamedIn, IsNoFault, IsReadTo, IsToldDirectory}
use Rattle.salvage.specs.Common.{IsToldFile, IsUnreadable, MayRefuse, IsNamedRead, place_in}
use Rattle.salvage.specs.declared.saved.SavedFile.{SavedFile}
use Rattle.salvage.specs.declared.finding.Defect.{Defect}
use Rattle.salvage.specs.declared.finding.Defect.TheVariants.{Start}
use Rattle.salvage.specs.declared.finding.Finding.{Finding}
use Rattle.salvage.proofs.CarriedFacts.{moved, on_ok, on_ok_both}
use Rattle.salvage.proofs.Refusals.{fault_stands}
use Rattle.salvage.proofs.SavedFiles.{Grows, same_place, apart_push, one_file_more, one_finding_more, lost_here}
use Rattle.salvage.proofs.SavedFiles.{unread_here}
use Rattle.salvage.specs.declared.finding.Cost.TheVariants as cost

-- Keys.

pub none_back : {K V : Type 0} (R : K → K → Ordering) (es fs : List (K × V)) (k : K) → find R k (es ++ fs) ≡ None
    → find R k fs ≡ None
none_back R [] fs k h = h
none_back {V = V} R (e ∷ es) fs k h =
    elim (eq_by_cmp R k e.0) as (λ b. cond b (Some e.1) (find R k (es ++ fs)) ≡ None → find R k fs ≡ None)
    [ true ↦ λ n. absurd (some_none n) | false ↦ λ n. none_back R es fs k n ] h

-- the last key of a list is found
last_found : {K V : Type 0} {R : K → K → Ordering} (o : IsTotalOrder R) (es : List (K × V)) (e : K × V)
    → find R e.0 (es ++ e ∷ []) ≡ None → ⊥
last_found {R = R} o es e none = some_none (sym (find_first o e []) ∙ none_back R es (e ∷ []) e.0 none)

module _ (files : List SavedFile) (findings : List Finding) (files' : List SavedFile) (findings' : List Finding)
    (more : Grows files findings files' findings') where
  told_carried : (ppn : ℕ) (e : SpecFileEntry) → IsToldFile files findings ppn e → IsToldFile files' findings' ppn e
  told_carried ppn e told = ⊎_elim (λ is. inl (more.among (place_of ppn e.0) e.1 is))
      (λ lost. inr (more.unread ppn e.0 lost)) told

  directory_carried : (contents : Contents) (e : SpecMasterEntry) → IsToldDirectory contents files findings e
      → IsToldDirectory contents files' findings' e
  directory_carried contents e told nodes last walk name prime found = ⊎_elim
      (λ is. inl (told_carried e.0 (name, prime) is)) (λ lost. inr (more.lost (cost.Directory e.0) lost))
      (told nodes last walk name prime found)

  chains_carried : (size : ℕ) (contents : Contents) (directories : List SpecMasterEntry)
      → AreApartChains size contents findings directories → AreApartChains size contents findings' directories
  chains_carried size contents directories apart d e n in_d in_e differ walk other = ⊎_elim
      (λ lost. inl (more.lost (cost.Directory d.0) lost)) (λ lost. inr (more.lost (cost.Directory e.0) lost))
      (apart d e n in_d in_e differ walk other)

-- One more chain.
module _ (size : ℕ) (contents : Contents) (findings : List Finding) (directories : List SpecMasterEntry)
    (e : SpecMasterEntry) (before : AreApartChains size contents findings directories) where
  -- what two of the directories have in common, if the new one is settled
  with_another : ((d : SpecMasterEntry) (n : ℕ) → Contains directories d → IsFileWalked size contents d.1.1 n
      → IsFileWalked size contents e.1.1 n → IsLostBy findings (cost.Directory e.0))
      → AreApartChains size contents findings (directories ++ e ∷ [])
  with_another settled d f n in_d in_f differ walk other = ⊎_elim
      (λ d_there. ⊎_elim
      (λ f_there. before d f n d_there f_there differ walk other)
      (λ (same : e ≡ f). inr (subst (λ (x : SpecMasterEntry). IsLostBy findings (cost.Directory x.0)) same
      (settled d n d_there walk
      (subst (λ (x : SpecMasterEntry). IsFileWalked size contents x.1.1 n) (sym same) other))))
      (Contains-push_cases directories e f in_f))
      (λ (same : e ≡ d). ⊎_elim
      (λ f_there. inl (subst (λ (x : SpecMasterEntry). IsLostBy findings (cost.Directory x.0)) same
      (settled f n f_there other
      (subst (λ (x : SpecMasterEntry). IsFileWalked size contents x.1.1 n) (sym same) walk))))
      (λ (own : e ≡ f). absurd (differ (ap (λ (x : SpecMasterEntry). x.0) (sym same ∙ own))))
      (Contains-push_cases directories e f in_f))
      (Contains-push_cases directories e d in_d)

  chains_apart : AreApartFrom size contents directories e.1.1
      → AreApartChains size contents findings (directories ++ e ∷ [])
  chains_apart apart = with_another (λ d n there walk own. absurd (apart d n there walk own))

  chains_lost : IsLostBy findings (cost.Directory e.0)
      → AreApartChains size contents findings (directories ++ e ∷ [])
  chains_lost lost = with_another (λ d n there walk own. lost)

-- A file.

module _ (size layout : ℕ) (contents : Contents) (directories : List SpecMasterEntry) (ppn : ℕ)
    (names : List SpecFileEntry)
    (files : List SavedFile) (findings : List Finding)
    (r : IsReadTo size layout contents directories ppn names files findings) (e : SpecFileEntry) where
  in_more : (g : SavedFile) → IsIn directories ppn names g → IsIn directories ppn (names ++ e ∷ []) g
  in_more g is = ⊎_elim (λ has. inl has) (λ here. inr (
    here.0,
    λ none. here.1 (none_front name_cmp names (e ∷ []) g.stored.prime.file none),
  )) is

  in_wider : AllByRecursion (IsIn directories ppn (names ++ e ∷ [])) files
  in_wider = all_each (IsIn directories ppn names) (IsIn directories ppn (names ++ e ∷ [])) files in_more r.places

  -- it was read
  pub file_added : (f : SavedFile) → find nat_cmp ppn directories ≡ None → find name_cmp e.0 names ≡ None
      → IsNamedRead size layout contents f → f.at ≡ e.1 → f.stored.prime.ppn ≡ ppn → f.stored.prime.file ≡ e.0
      → IsReadTo size layout contents directories ppn (names ++ e ∷ []) (files ++ f ∷ []) findings
  file_added f new_directory new_name read at own_ppn own_name = record {
    read = all_push (IsNamedRead size layout contents) files f r.read read;
    places = all_push (IsIn directories ppn (names ++ e ∷ [])) files f in_wider (inr (
      own_ppn,
      λ none. last_found name_total names e (ap (λ (k : FileName). find name_cmp k (names ++ e ∷ [])) (sym own_name)
          ∙ none),
    ));
    apart = apart_push files f r.apart (all_both (IsNamedRead size layout contents) (IsIn directories ppn names)
        (λ g. g.at ≡ f.at → ⊥) files differ r.read r.places);
    stand = r.stand;
    told = all_each (IsToldDirectory contents files findings) (IsToldDirectory contents (files ++ f ∷ []) findings)
        directories (directory_carried files findings (files ++ f ∷ []) findings (one_file_more files findings f)
        contents) r.told;
    told_names = all_push (IsToldFile (files ++ f ∷ []) findings ppn) names e
        (all_each (IsToldFile files findings ppn) (IsToldFile (files ++ f ∷ []) findings ppn) names
        (told_carried files findings (files ++ f ∷ []) findings (one_file_more files findings f) ppn) r.told_names)
        (inl (record {
          file = f;
          among = Contains-push files f;
          at_is = at;
          place_is = λ i. place_of (own_ppn i) (own_name i);
        }));
    chains = r.chains;
  }
    where
      differ : (g : SavedFile) → IsNamedRead size layout contents g → IsIn directories ppn names g → g.at ≡ f.at → ⊥
      differ g other is same =
          let place : place_in g ≡ place_in f = same_place size layout contents g f other.read read.read same in
          let ppns : g.stored.prime.ppn ≡ ppn = ap (λ (p : Place). p.ppn) place ∙ own_ppn in
          let names_are : g.stored.prime.file ≡ e.0 = ap (λ (p : Place). p.name) place ∙ own_name in
          ⊎_elim (λ has. has (ap (λ (k : ℕ). find nat_cmp k directories) ppns ∙ new_directory))
          (λ here. here.1 (ap (λ (k : FileName). find name_cmp k names) names_are ∙ new_name)) is

  -- or what is wrong with it was reported
  pub file_told : (fault : Defect) → IsUnreadable fault → IsFaultAt size layout contents fault (cost.File ppn e.0)
      → IsReadTo size layout contents directories ppn (names ++ e ∷ []) files
      (findings ++ record { fault = fault; costs = cost.File ppn e.0 } ∷ [])
  file_told fault bad stands =
      let finding : Finding = record { fault = fault; costs = cost.File ppn e.0 } in
      let more = one_finding_more files findings finding in
      record {
        read = r.read;
        places = in_wider;
        apart = r.apart;
        stand = all_push (IsFinding size layout contents) findings finding r.stand stands;
        told = all_each (IsToldDirectory contents files findings)
            (IsToldDirectory contents files (findings ++ finding ∷ [])) directories
            (directory_carried files findings files (findings ++ finding ∷ []) more contents) r.told;
        told_names = all_push (IsToldFile files (findings ++ finding ∷ []) ppn) names e
            (all_each (IsToldFile files findings ppn) (IsToldFile files (findings ++ finding ∷ []) ppn) names
            (told_carried files findings files (findings ++ finding ∷ []) more ppn) r.told_names)
            (inr (unread_here findings fault ppn e.0 bad));
        chains = chains_carried files findings files (findings ++ finding ∷ []) more size contents directories r.chains;
      }

-- What is wrong with a file, with what pushing it returns.

pub file_told_on : {T E : Type 0} (size layout : ℕ) (contents : Contents) (directories : List SpecMasterEntry) (ppn : ℕ)
    (names : List SpecFileEntry) (files : List SavedFile) (findings findings' : List Finding) (e : SpecFileEntry)
    (fault : VolumeError) (result : Result T E) → IsReadTo size layout contents directories ppn names files findings
    → MayRefuse size layout contents (cost.File ppn e.0) fault
    → IsNoFault fault ⊎ ((n : ℕ) × (fault ≡ BadRetrieval n))
    → OnOk result (findings' ≡ findings ++ record { fault = Start fault; costs = cost.File ppn e.0 } ∷ [])
    → OnOk result (IsNoFault fault → ⊥)
    → OnOk result (IsReadTo size layout contents directories ppn (names ++ e ∷ []) files findings')
file_told_on size layout contents directories ppn names files findings findings' e fault result r refused unread told
    stands = on_ok_both result
    (λ pushed is. subst
    (λ (fs : List Finding). IsReadTo size layout contents directories ppn (names ++ e ∷ []) files fs) (sym pushed)
    (⊎_elim (λ none. absurd (is none))
    (λ met. subst (λ (x : VolumeError). IsReadTo size layout contents directories ppn (names ++ e ∷ []) files
    (findings ++ record { fault = Start x; costs = cost.File ppn e.0 } ∷ [])) (sym met.1)
    (file_told size layout contents directories ppn names files findings r e (Start (BadRetrieval met.0)) tt
    (subst (λ (x : VolumeError). IsFaultAt size layout contents (Start x) (cost.File ppn e.0)) met.1
    (fault_stands size layout contents (cost.File ppn e.0) fault refused is)))) unread)) told stands

-- At the prime block is no file of this place.
pub elsewhere_told_on : {T E : Type 0} (size layout : ℕ) (contents : Contents) (directories : List SpecMasterEntry)
    (ppn : ℕ) (names : List SpecFileEntry) (files : List SavedFile) (findings findings' : List Finding)
    (e : SpecFileEntry) (result : Result T E) → IsReadTo size layout contents directories ppn names files findings
    → IsNamedIn size layout contents ppn e → InSpace size e.1 → IsOtherPlace layout contents (place_of ppn e.0) e.1
    → OnOk result (findings' ≡ findings ++ record { fault = Start (BadRetrieval e.1); costs = cost.File ppn e.0 } ∷ [])
    → OnOk result (IsReadTo size layout contents directories ppn (names ++ e ∷ []) files findings')
elsewhere_told_on size layout contents directories ppn names files findings findings' e result r named inside other
    told = on_ok result
    (λ pushed. subst
    (λ (fs : List Finding). IsReadTo size layout contents directories ppn (names ++ e ∷ []) files fs) (sym pushed)
    (file_told size layout contents directories ppn names files findings r e (Start (BadRetrieval e.1)) tt
    (record { prime = e.1; named = named; concerns = (inside, inr (refl, other)) }))) told

-- And the file was read on the disk as it is later.
pub file_later : {T E : Type 0} (size size' layout : ℕ) (contents contents' : Contents)
    (directories : List SpecMasterEntry) (ppn : ℕ) (names : List SpecFileEntry) (files files' : List SavedFile)
    (findings findings' : List Finding) (e : SpecFileEntry) (result : Result T E) → size' ≡ size
    → contents' ≡ contents → find nat_cmp ppn directories ≡ None → find name_cmp e.0 names ≡ None
    → IsNamedIn size layout contents ppn e → IsReadTo size layout contents directories ppn names files findings
    → ((ds : List SpecMasterEntry) (ns : List SpecFileEntry) → IsNamedIn size' layout contents' ppn e
    → find nat_cmp ppn ds ≡ None → find name_cmp e.0 ns ≡ None
    → IsReadTo size' layout contents' ds ppn ns files findings
    → OnOk result (IsReadTo size' layout contents' ds ppn (ns ++ e ∷ []) files' findings'))
    → OnOk result (IsReadTo size layout contents directories ppn (names ++ e ∷ []) files' findings')
file_later size size' layout contents contents' directories ppn names files files' findings findings' e result sizes
    same new_directory new_name named r added =
    moved (λ n c. (ds : List SpecMasterEntry) (ns : List SpecFileEntry) → IsNamedIn n layout c ppn e
    → find nat_cmp ppn ds ≡ None → find name_cmp e.0 ns ≡ None → IsReadTo n layout c ds ppn ns files findings
    → OnOk result (IsReadTo n layout c ds ppn (ns ++ e ∷ []) files' findings')) size size' contents contents' sizes same
    added directories names named new_directory new_name r

-- A directory.

module _ (size layout : ℕ) (contents : Contents) (directories : List SpecMasterEntry) (files : List SavedFile)
    (findings : List Finding) where
  -- before its first file
  pub directory_begun : (ppn other : ℕ) → IsReadTo size layout contents directories other [] files findings
      → IsReadTo size layout contents directories ppn [] files findings
  directory_begun ppn other r = record {
    read = r.read;
    places = all_each (IsIn directories other []) (IsIn directories ppn []) files
        (λ g is. ⊎_elim (λ has. inl has) (λ here. absurd (here.1 refl)) is) r.places;
    apart = r.apart;
    stand = r.stand;
    told = r.told;
    told_names = tt;
    chains = r.chains;
  }

  module _ (e : SpecMasterEntry) where
    in_one_more : (names : List SpecFileEntry) (g : SavedFile) → IsIn directories e.0 names g
        → IsIn (directories ++ e ∷ []) 0 [] g
    in_one_more names g is = ⊎_elim
        (λ has. inl (λ none. has (none_front nat_cmp directories (e ∷ []) g.stored.prime.ppn none)))
        (λ here. inl (λ none. last_found nat_cmp_total directories e
        (ap (λ (k : ℕ). find nat_cmp k (directories ++ e ∷ [])) (sym here.0) ∙ none))) is

    -- after its last file
    pub directory_read : (names : List SpecFileEntry)
        → AreApartFrom size contents directories e.1.1
        → IsReadTo size layout contents directories e.0 names files findings
        → ((nodes : List (Node SpecFileEntry)) (last : ℕ) → LeadsAlong file_words contents e.1.1 nodes last
        → (name : FileName) (prime : ℕ) → find name_cmp name (items nodes) ≡ Some prime
        → find name_cmp name names ≡ Some prime)
        → IsReadTo size layout contents (directories ++ e ∷ []) 0 [] files findings
    directory_read names apart r all = record {
      read = r.read;
      places = all_each (IsIn directories e.0 names) (IsIn (directories ++ e ∷ []) 0 []) files (in_one_more names)
          r.places;
      apart = r.apart;
      stand = r.stand;
      told = all_push (IsToldDirectory contents files findings) directories e r.told
          (λ nodes last walk name prime found. inl (found_holds name_total name_exact
          (λ (k : FileName) (n : ℕ). IsToldFile files findings e.0 (k, n)) names name prime r.told_names
          (all nodes last walk name prime found)));
      told_names = tt;
      chains = chains_apart size contents findings directories e r.chains apart;
    }

    -- or its chain can't be read
    pub directory_told : (fault : VolumeError) → IsReadTo size layout contents directories 0 [] files findings
        → IsFaultAt size layout contents (Start fault) (cost.Directory e.0)
        → IsReadTo size layout contents (directories ++ e ∷ []) 0 [] files
        (findings ++ record { fault = Start fault; costs = cost.Directory e.0 } ∷ [])
    directory_told fault r stands =
        let finding : Finding = record { fault = Start fault; costs = cost.Directory e.0 } in
        let more = one_finding_more files findings finding in
        let begun = directory_begun e.0 0 r in
        record {
          read = r.read;
          places = all_each (IsIn directories e.0 []) (IsIn (directories ++ e ∷ []) 0 []) files (in_one_more [])
              begun.places;
          apart = r.apart;
          stand = all_push (IsFinding size layout contents) findings finding r.stand stands;
          told = all_push (IsToldDirectory contents files (findings ++ finding ∷ [])) directories e
              (all_each (IsToldDirectory contents files findings)
              (IsToldDirectory contents files (findings ++ finding ∷ [])) directories
              (directory_carried files findings files (findings ++ finding ∷ []) more contents) r.told)
              (λ nodes last walk name prime found. inr (lost_here findings (Start fault) (cost.Directory e.0)));
          told_names = tt;
          chains = chains_lost size contents (findings ++ finding ∷ []) directories e
              (chains_carried files findings files (findings ++ finding ∷ []) more size contents directories r.chains)
              (lost_here findings (Start fault) (cost.Directory e.0));
        }

pub directory_told_on : {T E : Type 0} (size layout : ℕ) (contents : Contents) (directories : List SpecMasterEntry)
    (files : List SavedFile) (findings findings' : List Finding) (e : SpecMasterEntry) (fault : VolumeError)
    (result : Result T E) → IsReadTo size layout contents directories 0 [] files findings
    → MayRefuse size layout contents (cost.Directory e.0) fault
    → OnOk result (findings' ≡ findings ++ record { fault = Start fault; costs = cost.Directory e.0 } ∷ [])
    → OnOk result (IsNoFault fault → ⊥)
    → OnOk result (IsReadTo size layout contents (directories ++ e ∷ []) 0 [] files findings')
directory_told_on size layout contents directories files findings findings' e fault result r refused told stands =
    on_ok_both result
    (λ pushed is. subst (λ (fs : List Finding). IsReadTo size layout contents (directories ++ e ∷ []) 0 [] files fs)
    (sym pushed) (directory_told size layout contents directories files findings e fault r
    (fault_stands size layout contents (cost.Directory e.0) fault refused is))) told stands
