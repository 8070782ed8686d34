use Rattle.std.proofs.Common.{◌∷◌, []}
use Rattle.std.proofs.lemmas.Result.{err_from_is_err_and}
use Rattle.spec_language.specs.Common.{until_end, call_event}
use Rattle.spec_machine.specs.declared.call.Call.TheVariants.{Close}
use Rattle.commands.proofs.LedLaws.{led_on}
use Rattle.commands.proofs.CopyFileLaws.{led_each, copied_all, closed_then, copied_then}
use Rattle.commands.proofs.copy_file.copy_file.Goals as goal

pub returns-in_err-size : goal.returns-in_err-size
returns-in_err-size g c =
    let p = err_from_is_err_and c.from_residual.result c.from_residual.ensures.1 in
    rw (p.1, p.2) (λ next. c.in_err-size.ensures (copied_then c.args.moment next))

pub returns-in_err-copy_body : goal.returns-in_err-copy_body
returns-in_err-copy_body g c =
    let p = err_from_is_err_and c.from_residual-in_err-copy_body.result c.from_residual-in_err-copy_body.ensures.1 in
    rw (p.1, p.2) (λ next. led_on g.S.FileService.machine _ _ _ (copied_all c.args.moment c.args.to c.args.from next)
    (copied_then c.args.moment next c.in_ok-size.size) _
    (c.in_ok-size.ensures (copied_then c.args.moment next))
    (c.in_err-copy_body.ensures (until_end c.args.moment (closed_then c.args.moment next))))

pub returns-in_err-find_end : goal.returns-in_err-find_end
returns-in_err-find_end g c =
    let p = err_from_is_err_and c.from_residual-in_err-find_end.result c.from_residual-in_err-find_end.ensures.1 in
    rw (p.1, p.2) (λ next. led_on g.S.FileService.machine _ _ _ (copied_all c.args.moment c.args.to c.args.from next)
    (copied_then c.args.moment next c.in_ok-size.size) _
    (c.in_ok-size.ensures (copied_then c.args.moment next))
    (led_on g.S.FileService.machine _ _ _ (copied_then c.args.moment next c.in_ok-size.size)
    (until_end c.args.moment (closed_then c.args.moment next)) _
    (c.in_ok-copy_body.ensures (until_end c.args.moment (closed_then c.args.moment next)))
    (c.in_err-find_end.ensures (closed_then c.args.moment next))))

pub returns : goal.returns
returns g c next =
    led_on g.S.FileService.machine _ _ _ (copied_all c.args.moment c.args.to c.args.from next)
    (copied_then c.args.moment next c.in_ok-size.size) _
    (c.in_ok-size.ensures (copied_then c.args.moment next))
    (led_on g.S.FileService.machine _ _ _ (copied_then c.args.moment next c.in_ok-size.size)
    (until_end c.args.moment (closed_then c.args.moment next)) _
    (c.in_ok-copy_body.ensures (until_end c.args.moment (closed_then c.args.moment next)))
    (led_on g.S.FileService.machine _ _ _ (until_end c.args.moment (closed_then c.args.moment next))
    (closed_then c.args.moment next) _ (c.in_ok-find_end.ensures (closed_then c.args.moment next))
    (led_each g.S.FileService.machine _ _ c.args.moment (c.close_event.result ∷ [])
    (call_event c.args.moment (Close 2 0)
    ∷ []) next _ (λ i. c.close_event.ensures i ∷ []) (c.ask_all.ensures c.args.moment next))))
