use Rattle.std.proofs.Common.{◌+◌, ℕ, List, take, slice_set, ap, ◌∙◌, arith}
use Rattle.std.proofs.lemmas.List.{length-take-le}
use Rattle.spec_image.specs.Common.{pointer}
use Rattle.retrieval.specs.Common.{pair_of}
use Rattle.retrieval.proofs.BuiltPointers.{put_in_prime, fits_at}
use Rattle.retrieval.proofs.build.put_pointers.Goals as goal

pub pointer_to-requires : goal.pointer_to-requires
pointer_to-requires c = fits_at c.args.runs.now c.loop-i.i c.index-runs-i.result c.loop-i-test.true c.index-runs-i.is
    c.requires.fit

pub loop-i-preserved : goal.loop-i-preserved
loop-i-preserved c =
    let i = c.loop-i.i in
    let run = c.index-runs-i.result in
    let long = c.told-words in
    ap (λ (w : ℕ). slice_set c.loop-i.words (16 + i) w) c.pointer_to.ensures
    ∙ ap (λ (l : List ℕ). slice_set l (16 + i) (pointer (pair_of run))) c.loop-i.invariant
    ∙ put_in_prime (take 16 c.args.words.now) c.args.runs.now i run (length-take-le 16 c.args.words.now (omega arith))
    c.requires.few c.loop-i-test.true c.index-runs-i.is
