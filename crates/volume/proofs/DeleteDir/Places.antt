-- Where the other directories are, and their files, after one with no entry is deleted.
use Rattle.std.proofs.Common.{◌≡◌, ⊎_elim, ℕ, ◌<◌, List, length, slice_get, Option, Some, None, refl, sym, ap, subst}
use Rattle.std.proofs.Common.{◌∙◌, arith}
use Rattle.std.proofs.lemmas.Bool.{cases_eq}
use Rattle.std.proofs.lemmas.Option.{slice_get_within}
use Rattle.std.specs.Cmp.{nat_cmp_total}
use Rattle.std.specs.Ordering.{nat_cmp}
use Rattle.std.specs.FinMap.{nat_cmp-IsAntisymmetric}
use Rattle.std.specs.FinMap.Entries.{find}
use Rattle.words36.specs.declared.names.FileName.{FileName}
use Rattle.spec_image.specs.declared.put.Put.{Put}
use Rattle.spec_image.specs.Common.{SpecMasterEntry, name_cmp, get, from_entries}
use Rattle.spec_image.proofs.Common.{some_same, get-remove_other, get-removed, get-from_entries}
use Rattle.directory.specs.Common.{StandsAt}
use Rattle.volume.specs.Common.{IsDirectoryOf, CurrentDirectory, CurrentMap, IsWholeMap, prime_in, MemoryMap}
use Rattle.volume.specs.Common.{IsWholeMemory}
use Rattle.volume.specs.Common.{prime_at, IsDirectoryRemoved}
use Rattle.volume.proofs.common.Growths.{one_place}
use Rattle.volume.proofs.common.Holes.{IsAt, one_at, hole_stands, entry_hole}
use Rattle.volume.proofs.common.Lookups.{first_place}
use Rattle.volume.proofs.common.UsedBlocks.{element_at}
use Rattle.volume.proofs.common.PrimeBlocks.{prime_of_place, prime_nowhere}
use Rattle.volume.proofs.common.HoleLists.{hole, hole_is, hole_at, hole_other, IsFrom, one_from}

module _ (size : ℕ) (k k' : CurrentMap) (ppn : ℕ) (puts : List Put) (whole : IsWholeMap size k)
    (removed : IsDirectoryRemoved size k k' ppn puts) where
  pub within : removed.place < length k.directories
  within = slice_get_within k.directories removed.place removed.directory removed.directory_at

  -- the lists have a hole at its place
  pub entries_out : k'.master.entries ≡ hole removed.place k.master.entries
  entries_out = removed.entries ∙ entry_hole nat_cmp_total k.master.entries removed.place ppn removed.word removed.there

  pub directories_out : k'.directories ≡ hole removed.place k.directories
  directories_out = removed.directories ∙ sym (hole_is k.directories removed.place within)

  pub gone : find nat_cmp ppn k'.master.entries ≡ None
  gone = sym (get-from_entries nat_cmp_total k'.master.entries ppn) ∙ ap (λ m. get m ppn) removed.names
      ∙ get-removed nat_cmp_total (from_entries k.master.entries) ppn

  -- each other number is found as before
  pub found_other : (q : ℕ) → (q ≡ ppn → ⊥) → find nat_cmp q k'.master.entries ≡ find nat_cmp q k.master.entries
  found_other q other = sym (get-from_entries nat_cmp_total k'.master.entries q) ∙ ap (λ m. get m q) removed.names
      ∙ get-remove_other nat_cmp_total nat_cmp-IsAntisymmetric (from_entries k.master.entries) ppn q other
      ∙ get-from_entries nat_cmp_total k.master.entries q

  -- its directory is at some place
  pub stands_on : (q i : ℕ) (v : ℕ × ℕ) (d : CurrentDirectory) → (q ≡ ppn → ⊥)
      → StandsAt nat_cmp k.master.entries q v i → slice_get k.directories i ≡ Some d
      → (j : ℕ) × StandsAt nat_cmp k'.master.entries q v j × (slice_get k'.directories j ≡ Some d)
  stands_on q i v d other there is =
      let apart : i ≡ removed.place → ⊥ = λ same. other (ap (λ (e : SpecMasterEntry). e.0) (some_same (sym there.is
      ∙ ap (slice_get k.master.entries) same ∙ removed.there.is))) in
      let p = hole_stands k.master.entries removed.place i (q, v) there.is apart removed.there.within in
      let r = hole_stands k.directories removed.place i d is apart within in
      let spot : IsAt (length k.master.entries) removed.place i r.0 = subst
      (λ (n : ℕ). IsAt n removed.place i r.0) whole.aligned r.1 in
      let same : r.0 ≡ p.0 = one_at (length k.master.entries) removed.place i r.0 p.0 spot p.1 in
      let first = first_place nat_cmp_total nat_cmp-IsAntisymmetric k'.master.entries q v
      (found_other q other ∙ there.found) in
      let here : slice_get k'.master.entries p.0 ≡ Some (q, v) = ap (λ l. slice_get l p.0) entries_out ∙ p.2 in
      let place : first.0 ≡ p.0 = one_place k'.master.entries first.0 p.0 q v v removed.chain.each_once first.1.is here
      in (
        first.0,
        first.1,
        ap (slice_get k'.directories) (place ∙ sym same) ∙ ap (λ l. slice_get l r.0) directories_out ∙ r.2,
      )

  -- what is at a place now was at a place before, under another number
  pub stood_at : (j : ℕ) (e : SpecMasterEntry) (d : CurrentDirectory) → slice_get k'.master.entries j ≡ Some e
      → slice_get k'.directories j ≡ Some d
      → (i : ℕ) × (slice_get k.master.entries i ≡ Some e) × (slice_get k.directories i ≡ Some d) × (e.0 ≡ ppn → ⊥)
  stood_at j e d is at =
      let here : slice_get (hole removed.place k.master.entries) j
      ≡ Some e = ap (λ l. slice_get l j) (sym entries_out) ∙ is in
      let p = hole_at k.master.entries removed.place j e here in
      let q = hole_at k.directories removed.place j d (ap (λ l. slice_get l j) (sym directories_out) ∙ at) in
      let from : IsFrom (length k.master.entries) removed.place j q.0 = subst
      (λ (n : ℕ). IsFrom n removed.place j q.0) whole.aligned q.1 in
      let same : q.0 ≡ p.0 = one_from (length k.master.entries) removed.place j q.0 p.0 from p.1 in (
        p.0,
        p.2,
        ap (slice_get k.directories) (sym same) ∙ q.2,
        λ is_it. hole_other k.master.entries removed.place j p.0 e removed.there.within here p.1
            (one_place k.master.entries p.0 removed.place ppn e.1 removed.word whole.chain.each_once (p.2
            ∙ ap (λ (n : ℕ). Some (n, e.1)) is_it) removed.there.is),
      )

  pub was_directory : (j : ℕ) (d : CurrentDirectory) → slice_get k'.directories j ≡ Some d
      → (i : ℕ) × (slice_get k.directories i ≡ Some d)
  was_directory j d at =
      let q = hole_at k.directories removed.place j d (ap (λ l. slice_get l j) (sym directories_out) ∙ at) in
      (q.0, q.2)

  -- It had no file, and the others have theirs.
  pub primes_same : (q : ℕ) (name : FileName)
      → prime_in k'.master.entries k'.directories q name ≡ prime_in k.master.entries k.directories q name
  primes_same q name = ⊎_elim here (elsewhere (find nat_cmp q k.master.entries) refl) (cases_eq q ppn)
    where
      here : q ≡ ppn → prime_in k'.master.entries k'.directories q name
          ≡ prime_in k.master.entries k.directories q name
      here is =
          prime_nowhere k'.master.entries k'.directories q name (ap (λ n. find nat_cmp n k'.master.entries) is ∙ gone)
          ∙ sym (ap (λ n. prime_in k.master.entries k.directories n name) is
          ∙ prime_of_place k.master.entries k.directories removed.place ppn name removed.word removed.directory
          removed.there removed.directory_at ∙ ap (find name_cmp name) removed.no_entries)

      elsewhere : (o : Option (ℕ × ℕ)) → find nat_cmp q k.master.entries ≡ o → (q ≡ ppn → ⊥)
          → prime_in k'.master.entries k'.directories q name ≡ prime_in k.master.entries k.directories q name
      elsewhere None none other =
          prime_nowhere k'.master.entries k'.directories q name (found_other q other ∙ none)
          ∙ sym (prime_nowhere k.master.entries k.directories q name none)
      elsewhere (Some v) is other =
          let was = first_place nat_cmp_total nat_cmp-IsAntisymmetric k.master.entries q v is in
          let d = element_at k.directories was.0 (let below = was.1.within in let aligned = whole.aligned in
          omega arith) in
          let now = stands_on q was.0 v d.0 other was.1 d.1 in
          prime_of_place k'.master.entries k'.directories now.0 q name v d.0 now.1 now.2
          ∙ sym (prime_of_place k.master.entries k.directories was.0 q name v d.0 was.1 d.1)

-- The same of memory.

pub directory_stays : (size : ℕ) (c c' : MemoryMap) (ppn : ℕ) (puts : List Put) → IsWholeMemory size c
    → IsDirectoryRemoved size c.known c'.known ppn puts → (owner : ℕ) (d : CurrentDirectory) → IsDirectoryOf c owner d
    → (owner ≡ ppn → ⊥) → IsDirectoryOf c' owner d
directory_stays size c c' ppn puts whole removed owner d there other =
    let now = stands_on size c.known c'.known ppn puts whole.map removed owner there.0 there.1 d other there.2 there.3
    in
    (now.0, there.1, now.1, now.2)

pub primes_stay : (size : ℕ) (c c' : MemoryMap) (ppn : ℕ) (puts : List Put) → IsWholeMemory size c
    → IsDirectoryRemoved size c.known c'.known ppn puts → (owner : ℕ) (name : FileName)
    → prime_at c' owner name ≡ prime_at c owner name
primes_stay size c c' ppn puts whole removed = primes_same size c.known c'.known ppn puts whole.map removed
