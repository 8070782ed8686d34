use Rattle.std.proofs.Common.{◌≡◌, ◌∙◌, ◌+◌, ◌*◌, ◌-◌, ◌≤◌, Some, [], ⊎_elim, length, get_or, ap, sym, arith}
use Rattle.std.proofs.lemmas.Bool.{cases_eq}
use Rattle.std.proofs.lemmas.Grind.{common_steps}
use borrow.Rule.Slice.PartMut.{put_mid}
use Rattle.imagefile.specs.Common.{block_content, block_length, spelled_blocks}
use Rattle.imagefile.proofs.BlockWrites.{part_long, ends_before, block_before, block_here}
use Rattle.imagefile.proofs.codec.put_blocks.Goals as goal

pub loop-place-preserved : goal.loop-place-preserved
loop-place-preserved c =
    let form = c.args.form in
    let size = c.block_bytes-size.result in
    let is : size ≡ block_length form = c.block_bytes-size.ensures.value in
    let place = c.loop-place.place in
    let below = c.loop-place-test.true in
    let blocks = c.args.blocks.now in
    let bytes = c.loop-place.bytes in
    let part = c.put_block.new.bytes in
    let k = size * place + size - size * place in
    let step : k ≡ size = omega arith in
    let room : size * place + size ≤ length bytes = ends_before size place (length blocks) (length bytes) below
    (c.loop-place.auto.bytes ∙ c.requires ∙ ap (λ n. n * length blocks) (sym is)) in
    let long : length part ≡ k = part_long (size * place) size k bytes part room step c.put_block.ensures.long in
    let words : block_content form part ≡ Some (get_or blocks place []) = grind (arith, common_steps) in
    λ i less. ⊎_elim
    (λ here. ap (spelled_blocks form (put_mid (size * place) k bytes part)) here
    ∙ block_here form size place k bytes part is step room long ∙ words
    ∙ ap (λ j. Some (get_or blocks j [])) (sym here))
    (λ other. block_before form size place k bytes part is step room long i (omega (arith, less, other))
    ∙ c.loop-place.invariant i (omega (arith, less, other)))
    (cases_eq i place)
