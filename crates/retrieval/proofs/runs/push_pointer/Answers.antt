use Rattle.std.proofs.Common.{◌≡◌, length, ap, ◌∙◌, arith, length-append}
use Rattle.words36.specs.Common.{left, right}
use Rattle.spec_image.specs.Common.{count_up}
use Rattle.retrieval.specs.Common.{VersionState}
use Rattle.retrieval.proofs.RunLists.{length-count_up, run_inside, run_ends}
use Rattle.retrieval.proofs.runs.push_pointer.Goals as goal

pub returns-then-not-is_run_in_space-clause-outside : goal.returns-then-not-is_run_in_space-clause-outside
returns-then-not-is_run_in_space-clause-outside c is all =
    let count : c.bits-count.result ≡ left c.args.word = c.bits-count.ensures.value ∙ c.left.ensures.value in
    let first : c.bits-first.result ≡ right c.args.word = c.bits-first.ensures.value ∙ c.right.ensures.value in
    let ends = run_ends c.args.size (left c.args.word) (right c.args.word) c.requires.run.0 all in
    let from = ends.0 in
    let below = ends.1 in
    let yes = c.is_run_in_space.ensures.1 (omega arith, omega arith) in
    let no = c.if-not-is_run_in_space.true in
    cc

pub returns-then-count-limit-clause-many : goal.returns-then-count-limit-clause-many
returns-then-count-limit-clause-many c is =
    let count : c.bits-count.result ≡ left c.args.word = c.bits-count.ensures.value ∙ c.left.ensures.value in
    let long = length-count_up (left c.args.word) (right c.args.word) in
    let seen = c.count.ensures in
    let past = c.if-count-limit.true in
    omega arith

pub returns-clause-room : goal.returns-clause-room
returns-clause-room c =
    let long = length-count_up c.bits-count.result c.bits-first.result in
    let seen = c.count.ensures in
    let fits = c.if-count-limit.false in
    let all = ap (λ (v : VersionState). length v.blocks) c.in_ok-push_run.ensures in
    let e = length-append c.args.version.now.blocks (count_up c.bits-count.result c.bits-first.result) in
    omega (arith, c.requires.room)

pub returns-clause-inside : goal.returns-clause-inside
returns-clause-inside c =
    let count : c.bits-count.result ≡ left c.args.word = c.bits-count.ensures.value ∙ c.left.ensures.value in
    let first : c.bits-first.result ≡ right c.args.word = c.bits-first.ensures.value ∙ c.right.ensures.value in
    let both = c.is_run_in_space.ensures.0 c.if-not-is_run_in_space.false in
    let from = both.0 in
    let below = both.1 in
    run_inside c.args.size (left c.args.word) (right c.args.word) (omega arith) (omega arith)
