use Rattle.std.proofs.Common.{◌+◌, ℕ, List, slice_set, length, ap, ◌∙◌}
use Rattle.words36.specs.Common.{join}
use Rattle.spec_image.specs.Common.{extension_half, pointer}
use Rattle.retrieval.specs.Common.{pair_of}
use Rattle.retrieval.proofs.BuiltPointers.{put_in_extension, fits_at}
use Rattle.retrieval.proofs.write.extension_of.Goals as goal

pub pointer_to-requires : goal.pointer_to-requires
pointer_to-requires c = fits_at c.args.runs.now c.loop-i.i c.index-runs-i.result c.loop-i-test.true c.index-runs-i.is
    c.requires.fit

pub loop-i-preserved : goal.loop-i-preserved
loop-i-preserved c =
    let i = c.loop-i.i in
    let run = c.index-runs-i.result in
    ap (λ (w : ℕ). slice_set c.loop-i.words (2 + i) w) c.pointer_to.ensures
    ∙ ap (λ (l : List ℕ). slice_set l (2 + i) (pointer (pair_of run))) c.loop-i.invariant
    ∙ put_in_extension (join extension_half (length c.args.runs.now)) c.args.next c.args.runs.now i run c.requires.few
    c.loop-i-test.true c.index-runs-i.is
