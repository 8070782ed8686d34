use Rattle.std.proofs.Common.{All, ℕ, arith, subst}
use Rattle.std.proofs.lemmas.List.{take_all}
use Rattle.std.proofs.lemmas.List.Elements.{All-more}
use Rattle.words36.specs.Common.{IsWord}
use Rattle.commands.proofs.export_file.see_words.Goals as goal

pub loop-word-preserved : goal.loop-word-preserved
loop-word-preserved c =
    let fits : IsWord c.word-item.result = omega (arith, c.bits-fits.ensures.value, c.bits-fits.ensures.fits) in
    let P : ℕ → Type 0 = IsWord in
    All-more IsWord c.args.words.now c.loop-word.word-index c.word-item.result c.loop-word-test.true
    c.loop-word.invariant (subst P c.word-item.is fits)

pub returns : goal.returns
returns c = subst (All IsWord) (take_all c.loop-word.word-index c.args.words.now c.loop-word-test.false)
    c.loop-word.invariant
