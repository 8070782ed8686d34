use Rattle.std.proofs.Common.{◌∷◌, ◌<◌, ℕ, subst, rules}
use Rattle.std.specs.List.{AllByRecursion}
use Rattle.retrieval.proofs.TakenBlocks.{takes_apart, takes_inside, takes_nonzero, later}
use Rattle.test_retrieval.proofs.write_tests.write_found.Goals as goal

pub write_retrieval_blocks-answer-requires-clause-inside : goal.write_retrieval_blocks-answer-requires-clause-inside
write_retrieval_blocks-answer-requires-clause-inside g c =
    let at = c.take_retrieval_blocks-at.result in
    let ribs = c.take_retrieval_blocks-at.new.version.ribs in
    let all = c.take_retrieval_blocks-at.ensures.taken in
    let within = takes_inside c.args.table.now (at ∷ ribs) c.take_retrieval_blocks-at.new.table all in
    subst (λ (s : ℕ). AllByRecursion (λ n. n < s) (at ∷ ribs)) (search rules) within

pub write_retrieval_blocks-answer-requires-clause-apart : goal.write_retrieval_blocks-answer-requires-clause-apart
write_retrieval_blocks-answer-requires-clause-apart g c =
    let at = c.take_retrieval_blocks-at.result in
    let ribs = c.take_retrieval_blocks-at.new.version.ribs in
    let all = c.take_retrieval_blocks-at.ensures.taken in
    takes_apart c.args.table.now (at ∷ ribs) c.take_retrieval_blocks-at.new.table c.booked-booked.ensures.sound
    c.requires.fixed all

pub write_retrieval_blocks-answer-requires-clause-nonzero : goal.write_retrieval_blocks-answer-requires-clause-nonzero
write_retrieval_blocks-answer-requires-clause-nonzero g c =
    let at = c.take_retrieval_blocks-at.result in
    let ribs = c.take_retrieval_blocks-at.new.version.ribs in
    let all = c.take_retrieval_blocks-at.ensures.taken in
    later 0 at ribs (takes_nonzero c.args.table.now (at ∷ ribs) c.take_retrieval_blocks-at.new.table
    c.booked-booked.ensures.sound c.requires.fixed all)
