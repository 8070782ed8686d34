-- A version whose prime block is rewritten: for another place, or with other attributes.
use Rattle.std.proofs.Common.{◌≡◌, ℕ, ◌++◌, length, Some, sym, ap, subst, ◌∙◌, arith}
use Rattle.blockdisk.specs.Common.{Contents}
use Rattle.spec_image.specs.Maps.{times}
use Rattle.spec_image.specs.Blocks.{AgreeOn}
use Rattle.spec_image.specs.Costs.{blocks_of}
use Rattle.spec_image.specs.Files.{File, Place}
use Rattle.spec_image.specs.Retrieval.{prime_of, prime_block, first_extension, IsPrime, HasBody}
use Rattle.spec_image.specs.Stands.{StoredFile, IsVersion}
use Rattle.spec_image.specs.Changes.{in_place_of}
use Rattle.spec_image.proofs.MapSums.{times-append}
use Rattle.spec_image.proofs.Versions.{extensions_kept, body_kept}

-- The pointers and the body are the same; the extensions and the data blocks stay.
pub version_rewritten : (layout : ℕ) (old new : Contents) (place to : Place) (f : StoredFile) (file : File)
    (is : IsVersion layout old place f) → file.body ≡ f.file.body → IsPrime layout (prime_of to file)
    → new f.prime ≡ Some (prime_block (prime_of to file) is.retrieved.runs (first_extension is.retrieved.further))
    → AgreeOn (f.extensions ++ f.blocks) old new
    → IsVersion layout new to (in_place_of f file)
version_rewritten layout old new place to f file is same fits words a = record {
  retrieved = record {
    runs = is.retrieved.runs;
    further = is.retrieved.further;
    fits = fits;
    prime_is = words;
    few = is.retrieved.few;
    full = is.retrieved.full;
    extended = extensions_kept old new is.retrieved.further is.retrieved.extended
        (λ n h. a n (let e = ap (times n) is.retrieved.extensions_are in
        omega (arith, times-append n f.extensions f.blocks)));
    extensions_are = is.retrieved.extensions_are;
    nonzero = is.retrieved.nonzero;
    are_runs = is.retrieved.are_runs;
    blocks_are = is.retrieved.blocks_are;
    enough = is.retrieved.enough ∙ ap (λ body. blocks_of (length body)) (sym same);
  };
  body = subst (HasBody new f.blocks) (sym same) (body_kept old new f.blocks f.file.body is.body
      (λ n h. a n (omega (arith, times-append n f.extensions f.blocks))));
}
