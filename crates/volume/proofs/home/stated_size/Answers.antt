use Rattle.std.proofs.Common.{◌∙◌, Some, ap, rules, subst, sym}
use Rattle.spec_image.specs.Common.{IsVolumeSize, layout_number}
use Rattle.spec_image.proofs.Common.{some_same}
use Rattle.volume.specs.Common.{SaysSize, holds_words, home_in}
use Rattle.volume.proofs.VolumeStart.HomeCopies.{no_size, stated, third}
use Rattle.volume.proofs.home.stated_size.Goals as goal

pub returns-in-Valid : goal.returns-in-Valid
returns-in-Valid c size n =
    let home = c.in-Valid.field-0 in
    let number = third c.args.words.now c.index-words-2.result c.bits-blocks.result c.type_inv.words
    c.bits-blocks.ensures.value in
    let volume : IsVolumeSize c.bits-blocks.result = search rules in (
      λ e. subst (λ k. SaysSize k (holds_words c.args.words.now) n) (some_same e) (record {
        volume = volume;
        home = home_in (layout_number home.layout) home.master;
        copy = c.in-Valid.ensures.found n;
      }),
      λ said. ap Some (number ∙ sym (stated size n c.args.words.now said)),
    )

pub returns-in_default : goal.returns-in_default
returns-in_default c size n =
    let number = third c.args.words.now c.index-words-2.result c.bits-blocks.result c.type_inv.words
    c.bits-blocks.ensures.value in (
      λ e. absurd (cc),
      λ said. absurd (no_size c.bits-blocks.result n c.args.words.now c.copy_of.result (c.copy_of.ensures.found n)
          c.in_default.not-Valid
          (subst (λ k. SaysSize k (holds_words c.args.words.now) n)
          (stated size n c.args.words.now said ∙ sym number) said)),
    )
