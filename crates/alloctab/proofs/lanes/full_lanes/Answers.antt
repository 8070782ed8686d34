use Rattle.std.proofs.Common.{not, eqb, sym, ◌∙◌, arith, w64}
use Rattle.std.proofs.lemmas.Simd.{bitmask_splat}
use Rattle.alloctab.proofs.LaneLaws.{all_before, some_before, few_before, none_before, one_there}
use Rattle.alloctab.proofs.lanes.full_lanes.Goals as goal

pub returns-then-marks-eq0-clause-full : goal.returns-then-marks-eq0-clause-full
returns-then-marks-eq0-clause-full c k below =
    let xs = c.clear_lanes.result in
    let long = c.clear_lanes.ensures.eight in
    let marks = bitmask_splat w64 (λ a b. not (eqb a b)) xs 8 0 long (omega arith) in
    sym (c.clear_lanes.ensures.each k below) ∙ none_before xs 8 long
    (all_before xs _ long marks c.if-marks-eq0.true) k below

pub returns-else-marks-eq0-clause-few : goal.returns-else-marks-eq0-clause-few
returns-else-marks-eq0-clause-few c =
    let xs = c.clear_lanes.result in
    let long = c.clear_lanes.ensures.eight in
    let marks = bitmask_splat w64 (λ a b. not (eqb a b)) xs 8 0 long (omega arith) in
    few_before xs _ long (some_before xs _ long marks c.if-marks-eq0.false)

pub returns-else-marks-eq0-clause-full : goal.returns-else-marks-eq0-clause-full
returns-else-marks-eq0-clause-full c k below =
    let xs = c.clear_lanes.result in
    let long = c.clear_lanes.ensures.eight in
    let marks = bitmask_splat w64 (λ a b. not (eqb a b)) xs 8 0 long (omega arith) in
    let is = some_before xs _ long marks c.if-marks-eq0.false in
    let few = few_before xs _ long is in
    sym (c.clear_lanes.ensures.each k (omega arith)) ∙ none_before xs _ long is k below

pub returns-else-marks-eq0-clause-stop : goal.returns-else-marks-eq0-clause-stop
returns-else-marks-eq0-clause-stop c below none =
    let xs = c.clear_lanes.result in
    let long = c.clear_lanes.ensures.eight in
    let marks = bitmask_splat w64 (λ a b. not (eqb a b)) xs 8 0 long (omega arith) in
    one_there xs _ long (some_before xs _ long marks c.if-marks-eq0.false) below
    (c.clear_lanes.ensures.each _ below ∙ none)
