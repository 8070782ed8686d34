use Rattle.std.proofs.Common.{◌≡◌, ◌-◌, ℕ, suc, sym, ◌∙◌, subst, arith}
use Rattle.std.proofs.lemmas.Result.{err_from_is_err_and}
use Rattle.spec_language.specs.Common.{type_body_plan}
use Rattle.commands.specs.Common.{HasTyped}
use Rattle.commands.proofs.TypeLaws.{handed_on, read_nothing, no_body, read_body}
use Rattle.commands.proofs.type_line.type_body.Goals as goal

pub returns-then-blocks-eq0 : goal.returns-then-blocks-eq0
returns-then-blocks-eq0 g c = read_nothing g.S.FileService.machine g.met.S.FileService.stands _ c.args.moment
    _ c.args.size _ tt (sym c.blocks_said-blocks.ensures.value ∙ c.if-blocks-eq0.true)

pub returns-in_err-type_blocks : goal.returns-in_err-type_blocks
returns-in_err-type_blocks g c =
    let p = err_from_is_err_and c.from_residual.result c.from_residual.ensures.1 in
    let more : c.blocks_said-blocks.result ≡ suc (c.blocks_said-blocks.result - 1) = omega arith in
    subst (λ (n : ℕ). HasTyped g.S.FileService.machine c.args.service.now c.type_blocks.new.service c.args.moment
    (type_body_plan c.args.moment n c.args.size) c.from_residual.result c.args.typed.now c.type_blocks.new.typed)
    c.blocks_said-blocks.ensures.value
    (no_body g.S.FileService.machine _ _ c.args.moment c.blocks_said-blocks.result
    (c.blocks_said-blocks.result - 1) c.args.size _ _ c.type_blocks.result _ c.in_err-type_blocks.field-0.0
    more c.in_err-type_blocks.was (handed_on p.1 p.2) c.type_blocks.ensures)

pub returns : goal.returns
returns g c =
    let more : c.blocks_said-blocks.result ≡ suc (c.blocks_said-blocks.result - 1) = omega arith in
    subst (λ (n : ℕ). HasTyped g.S.FileService.machine c.args.service.now c.type_last.new.service c.args.moment
    (type_body_plan c.args.moment n c.args.size) c.type_last.result c.args.typed.now c.type_last.new.typed)
    c.blocks_said-blocks.ensures.value
    (read_body g.S.FileService.machine _ _ _ c.args.moment c.blocks_said-blocks.result
    (c.blocks_said-blocks.result - 1) c.args.size _ _ _ _ _ more c.in_ok-type_blocks.ensures c.type_last.ensures)
