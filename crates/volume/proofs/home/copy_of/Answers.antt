use Rattle.std.proofs.Common.{◌∙◌, sym}
use Rattle.spec_image.specs.Common.{home_block, layout_number}
use Rattle.volume.specs.Common.{home_in}
use Rattle.volume.proofs.VolumeStart.HomeCopies.{has_name, no_copy, valid_copy, same_words}
use Rattle.volume.proofs.home.copy_of.Goals as goal

pub returns-in-Some-clause-found : goal.returns-in-Some-clause-found
returns-in-Some-clause-found c n =
    let home = c.in-Some.home in
    valid_copy c.args.size n (layout_number home.layout) home.master c.args.words.now c.in-Some.ensures.allowed
    c.in-Some.ensures.inside
    ((same_words c.args.words.now c.home_block.result c.eq.result c.eq.ensures).0 c.if-eq.true ∙ c.home_block.ensures)

pub returns-in_default-clause-found : goal.returns-in_default-clause-found
returns-in_default-clause-found c n =
    let said = c.in-Some.ensures in (
      has_name c.args.words.now n c.index-words-0.result c.bits.result c.type_inv.words c.bits.ensures.value
          c.if-bits-ne-HOME_WORD.false,
      no_copy c.args.size n c.args.words.now (λ allowed inside whole.
          let yes = (same_words c.args.words.now c.home_block.result c.eq.result c.eq.ensures).1 (whole
          ∙ (λ i. home_block c.args.size (home_in (sym said.layout i) (sym said.master i)))
          ∙ sym c.home_block.ensures) in
          let no = c.if-eq.false in
          cc),
    )

pub returns-in_default-2-clause-found : goal.returns-in_default-2-clause-found
returns-in_default-2-clause-found c n = (
  has_name c.args.words.now n c.index-words-0.result c.bits.result c.type_inv.words c.bits.ensures.value
      c.if-bits-ne-HOME_WORD.false,
  no_copy c.args.size n c.args.words.now (λ allowed inside whole. c.in_default.ensures.none allowed inside),
)
