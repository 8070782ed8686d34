-- Memory allocated before, for one more entry and the block that it takes.
use Rattle.std.proofs.Common.{◌≡◌, ℕ, ◌*◌, map, length, Option, Some, None, IfSome, MatchOption, sym, subst, ◌∙◌}
use Rattle.std.proofs.Common.{Ordering}
use Rattle.std.proofs.lemmas.List.{length-map}
use Rattle.std.specs.FinMap.Entries.{find}
use Rattle.spec_image.specs.Common.{times}
use Rattle.directory.specs.Common.{ChainState, viewed, Places, IsReserve, IsSpareFor}

module _ {E K V : Type 0} {R : K → K → Ordering} (view : E → K × V) (old : ChainState E) (k : K) where
  -- what is allocated is enough
  pub found_reserve : (spare : Places) → IsSpareFor (length old.entries) spare.entries
      → IsSpareFor (length old.entries) spare.order → (length old.entries ≡ 42 * length old.blocks
      → IsSpareFor (length old.blocks) spare.blocks)
      → IsReserve R (viewed view old) k spare
  found_reserve spare entries order blocks =
      let many = length-map old.entries view in
      record {
        entries = λ none. subst (λ n. IsSpareFor n spare.entries) (sym many) entries;
        order = λ none. subst (λ n. IsSpareFor n spare.order) (sym many) order;
        blocks = λ takes. blocks (sym many ∙ takes.1);
      }

  module _ (spare : Places) (is_reserve : IsReserve R (viewed view old) k spare)
      (none : find R k (map view old.entries) ≡ None) where
    -- for the block, if it is taken
    pub room_block : (block : Option ℕ) → MatchOption block (length old.entries ≡ 42 * length old.blocks
        → ⊥) (λ n. (length old.entries ≡ 42 * length old.blocks) × (times n old.blocks ≡ 0))
        → IfSome block (λ n. IsSpareFor (length old.blocks) spare.blocks)
    room_block None fits = tt
    room_block (Some n) fits = is_reserve.blocks (none, length-map old.entries view ∙ fits.0)
