-- A directory stays where it is, with its files, when another one is made.
use Rattle.std.proofs.Common.{◌≡◌, ℕ, List, [], ◌∷◌, ◌++◌, length-append, slice_get, Some, sym, ap, subst, ◌∙◌, arith}
use Rattle.std.proofs.lemmas.List.{take-append-le}
use Rattle.std.specs.Option.{option_or}
use Rattle.std.specs.Ordering.{nat_cmp}
use Rattle.std.specs.FinMap.Entries.{find}
use Rattle.words36.specs.declared.names.FileName.{FileName}
use Rattle.spec_image.specs.declared.put.Put.{Put}
use Rattle.spec_image.specs.Common.{SpecMasterEntry}
use Rattle.spec_image.proofs.Common.{find-append_both}
use Rattle.directory.specs.Common.{StandsAt}
use Rattle.volume.specs.Common.{IsDirectoryOf, CurrentDirectory, prime_in, MemoryMap, entry_made, bare_known, IsMade}
use Rattle.volume.specs.Common.{prime_at}
use Rattle.volume.proofs.common.PrimeBlocks.{prime_stays}
use Rattle.volume.proofs.common.HoleLists.{front_at}

stands_still : (es fs : List SpecMasterEntry) (k : ℕ) (v : ℕ × ℕ) (i : ℕ) → StandsAt nat_cmp es k v i
    → StandsAt nat_cmp (es ++ fs) k v i
stands_still es fs k v i at = record {
  within = let few = at.within in let more = length-append es fs in omega arith;
  is = front_at es fs i (k, v) at.is;
  found = find-append_both nat_cmp es fs k ∙ ap (λ o. option_or o (find nat_cmp k fs)) at.found;
  before = ap (find nat_cmp k) (take-append-le i es fs (let few = at.within in omega arith)) ∙ at.before;
}

pub directory_stays : (size : ℕ) (c c' : MemoryMap) (ppn protection first : ℕ) (puts : List Put)
    → IsMade size c.known c'.known ppn protection first puts → (owner : ℕ) (d : CurrentDirectory)
    → IsDirectoryOf c owner d → IsDirectoryOf c' owner d
directory_stays size c c' ppn protection first puts made owner d there = (
  there.0,
  there.1,
  subst (λ (es : List SpecMasterEntry). StandsAt nat_cmp es owner there.1 there.0) (sym made.entered.entries)
      (stands_still c.known.master.entries (entry_made ppn protection first ∷ []) owner there.1 there.0 there.2),
  ap (λ ds. slice_get ds there.0) made.entered.directories
      ∙ front_at c.known.directories (bare_known first ∷ []) there.0 d there.3,
)

-- So does each file in its place.
pub primes_stay : (size : ℕ) (c c' : MemoryMap) (ppn protection first : ℕ) (puts : List Put)
    → IsMade size c.known c'.known ppn protection first puts → (owner : ℕ) (name : FileName) (n : ℕ)
    → prime_at c owner name ≡ Some n → prime_at c' owner name ≡ Some n
primes_stay size c c' ppn protection first puts made owner name n is =
    (λ i. prime_in (made.entered.entries i) (made.entered.directories i) owner name)
    ∙ prime_stays c.known.master.entries (entry_made ppn protection first ∷ []) c.known.directories
    (bare_known first ∷ []) owner name n is
