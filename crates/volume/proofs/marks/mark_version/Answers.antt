use Rattle.std.proofs.Common.{◌≡◌, ◌+◌, ◌<◌, ℕ, [], ◌∷◌, ◌++◌, length, true, refl, sym, ap, subst, ◌∙◌, arith}
use Rattle.std.proofs.lemmas.Result.{err_from_is_err_and}
use Rattle.std.specs.List.{AllByRecursion}
use Rattle.std.proofs.Math.ListN.{length-set}
use Rattle.spec_image.specs.Common.{times}
use Rattle.spec_image.proofs.Common.{times_here}
use Rattle.alloctab.specs.Common.{digit_at}
use Rattle.volume.proofs.common.MarkedBlocks.{digit-marked, times_parts, on_ok}
use Rattle.changeset.proofs.LogRead.{passed_on}
use Rattle.volume.proofs.marks.mark_version.Goals as goal

pub returns-in_err-mark_all-clause-twice : goal.returns-in_err-mark_all-clause-twice
returns-in_err-mark_all-clause-twice c n is =
    let old = c.args.reached.now in
    let prime = c.args.prime in
    let v = c.args.version.now in
    let p = err_from_is_err_and c.from_residual.result c.from_residual.ensures.1 in
    let twice = c.mark_all.ensures.twice n
    (passed_on c.from_residual.result c.mark_all.result p.0 c.in_err-mark_all.field-0.0 n is p.1 p.2
    c.in_err-mark_all.was) in
    let ribs : times n c.ribs.result.now ≡ times n v.ribs = ap (times n) c.ribs.ensures in
    let first : digit_at c.mark.new.self n
    ≡ digit_at old n + times n (prime ∷ []) = ap (λ flags. digit_at flags n) c.mark.ensures.marked
    ∙ digit-marked old prime c.requires.prime (c.if-not-mark.ensures.first.0 refl) n in
    omega (arith, times_parts n prime v.ribs v.blocks)

pub mark_blocks-requires : goal.mark_blocks-requires
mark_blocks-requires c =
    let long : length c.mark_all.new.reached ≡ length c.args.reached.now = c.mark_all.ensures.length
    ∙ ap length c.mark.ensures.marked ∙ length-set c.args.reached.now c.args.prime true in
    subst (λ (m : ℕ). AllByRecursion (λ n. n < m) c.args.version.now.blocks) (sym long) c.requires.blocks

pub returns-clause-ok : goal.returns-clause-ok
returns-clause-ok c =
    let old = c.args.reached.now in
    let prime = c.args.prime in
    let v = c.args.version.now in
    on_ok c.mark_blocks.result ((n : ℕ) → digit_at c.mark_blocks.new.reached n
    ≡ digit_at c.mark_all.new.reached n + times n c.args.version.now.blocks)
    ((n : ℕ) → digit_at c.mark_blocks.new.reached n ≡ digit_at old n + times n (prime ∷ (v.ribs ++ v.blocks)))
    (λ third n.
    let ribs : times n c.ribs.result.now ≡ times n v.ribs = ap (times n) c.ribs.ensures in
    let second = c.in_ok-mark_all.ensures.ok n in
    let first : digit_at c.mark.new.self n
    ≡ digit_at old n + times n (prime ∷ []) = ap (λ flags. digit_at flags n) c.mark.ensures.marked
    ∙ digit-marked old prime c.requires.prime (c.if-not-mark.ensures.first.0 refl) n in
    omega (arith, third n, times_parts n prime v.ribs v.blocks)) c.mark_blocks.ensures.ok

pub returns-clause-twice : goal.returns-clause-twice
returns-clause-twice c n is =
    let old = c.args.reached.now in
    let prime = c.args.prime in
    let v = c.args.version.now in
    let twice = c.mark_blocks.ensures.twice n is in
    let ribs : times n c.ribs.result.now ≡ times n v.ribs = ap (times n) c.ribs.ensures in
    let second = c.in_ok-mark_all.ensures.ok n in
    let first : digit_at c.mark.new.self n
    ≡ digit_at old n + times n (prime ∷ []) = ap (λ flags. digit_at flags n) c.mark.ensures.marked
    ∙ digit-marked old prime c.requires.prime (c.if-not-mark.ensures.first.0 refl) n in
    omega (arith, times_parts n prime v.ribs v.blocks)

pub returns-then-not-mark-clause-among : goal.returns-then-not-mark-clause-among
returns-then-not-mark-clause-among c n is =
    let v = c.args.version.now in
    subst (λ (m : ℕ). 0 < times m (c.args.prime ∷ (v.ribs ++ v.blocks))) (cc)
    (times_here c.args.prime (v.ribs ++ v.blocks))

pub returns-in_err-mark_all-clause-among : goal.returns-in_err-mark_all-clause-among
returns-in_err-mark_all-clause-among c n is =
    let v = c.args.version.now in
    let p = err_from_is_err_and c.from_residual.result c.from_residual.ensures.1 in
    let among = c.mark_all.ensures.among n
    (passed_on c.from_residual.result c.mark_all.result p.0 c.in_err-mark_all.field-0.0 n is p.1 p.2
    c.in_err-mark_all.was) in
    let ribs : times n c.ribs.result.now ≡ times n v.ribs = ap (times n) c.ribs.ensures in
    omega (arith, times_parts n c.args.prime v.ribs v.blocks)

pub returns-clause-among : goal.returns-clause-among
returns-clause-among c n is =
    let v = c.args.version.now in
    let among = c.mark_blocks.ensures.among n is in
    omega (arith, times_parts n c.args.prime v.ribs v.blocks)
