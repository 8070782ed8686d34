use Rattle.std.proofs.Common.{◌<◌, ◌∙◌, ap, sym, length, flat_map, slice_set, refl, rules}
use Rattle.spec_image.specs.Common.{run_blocks}
use Rattle.retrieval.specs.Common.{blocks_of_runs, longest_runs, part_blocks}
use Rattle.retrieval.proofs.LongestRuns.{blocks_of_longest}
use Rattle.retrieval.proofs.RunListLaws.{parts_put, put_in, offset_at}
use Rattle.retrieval.proofs.block_list.put_at.Goals as goal

pub returns-clause-are_longest : goal.returns-clause-are_longest
returns-clause-are_longest c =
    let all = c.join_all.ensures.are_longest in
    let same = ap (flat_map run_blocks) all ∙ blocks_of_longest (blocks_of_runs c.insert_part-2.new.runs.items) in
    all ∙ ap longest_runs (sym same)

pub returns-clause-blocks : goal.returns-clause-blocks
returns-clause-blocks c =
    let old = c.args.runs.now.items in
    let at = c.args.place.run in
    let run = c.index-run.result.now in
    let below : at < length old = search rules in
    let head = part_blocks c.before-2.result in
    let tail = part_blocks c.behind.result in
    let last = c.insert_part-2.new.runs.items in
    let one = c.of.result in
    let with_one = slice_set old at one in
    let whole = parts_put old with_one c.insert_part.new.runs.items last at c.args.n one run head tail below refl
    c.of.ensures c.insert_part.ensures.front c.insert_part.ensures.rest c.insert_part-2.ensures.front
    c.insert_part-2.ensures.rest in
    let few = offset_at old at c.args.place.offset run below c.index-run.ensures c.requires.inside in
    ap (flat_map run_blocks) c.join_all.ensures.are_longest ∙ blocks_of_longest (blocks_of_runs last)
    ∙ put_in old with_one c.insert_part.new.runs.items last at c.args.n one run head tail c.args.place.offset below
    c.index-run.ensures few c.before-2.ensures c.behind.ensures whole
