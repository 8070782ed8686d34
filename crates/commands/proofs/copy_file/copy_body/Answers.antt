use Rattle.std.proofs.Common.{◌-◌, ◌∙◌, sym}
use Rattle.std.proofs.lemmas.Result.{err_from_is_err_and}
use Rattle.spec_language.specs.Common.{copy_last_plan, copy_blocks_plan}
use Rattle.commands.proofs.LedLaws.{led_on}
use Rattle.commands.proofs.CopyFileLaws.{body_none, body_led, not_none}
use Rattle.commands.proofs.copy_file.copy_body.Goals as goal

pub returns-then-blocks-eq0 : goal.returns-then-blocks-eq0
returns-then-blocks-eq0 g c next = body_none g.S.FileService.machine g.met.S.FileService.stands _ c.args.moment
    _ c.args.size next (sym c.blocks_said-blocks.ensures.value ∙ c.if-blocks-eq0.true)

pub returns-in_err-copy_blocks : goal.returns-in_err-copy_blocks
returns-in_err-copy_blocks g c =
    let p = err_from_is_err_and c.from_residual.result c.from_residual.ensures.1 in
    rw (p.1, p.2) (λ next. rw (sym c.blocks_said-blocks.ensures.value)
    (body_led g.S.FileService.machine _ _ c.args.moment c.blocks_said-blocks.result c.args.size next _
    (not_none c.blocks_said-blocks.result c.if-blocks-eq0.false)
    (c.in_err-copy_blocks.ensures (copy_last_plan c.args.moment c.blocks_said-blocks.result c.args.size next))))

pub returns : goal.returns
returns g c next = rw (sym c.blocks_said-blocks.ensures.value)
    (body_led g.S.FileService.machine _ _ c.args.moment c.blocks_said-blocks.result c.args.size next _
    (not_none c.blocks_said-blocks.result c.if-blocks-eq0.false)
    (led_on g.S.FileService.machine _ _ _ (copy_blocks_plan c.args.moment (c.blocks_said-blocks.result - 1)
    (copy_last_plan c.args.moment c.blocks_said-blocks.result c.args.size next))
    (copy_last_plan c.args.moment c.blocks_said-blocks.result c.args.size next) _
    (c.in_ok-copy_blocks.ensures (copy_last_plan c.args.moment c.blocks_said-blocks.result c.args.size next))
    (c.copy_last.ensures next)))
