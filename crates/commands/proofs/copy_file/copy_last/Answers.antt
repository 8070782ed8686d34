use Rattle.std.proofs.Common.{◌∷◌, [], ◌++◌}
use Rattle.std.proofs.lemmas.Result.{err_from_is_err_and}
use Rattle.spec_language.specs.Common.{each, sizes, list_events, useti_event, in_event, out_event}
use Rattle.commands.proofs.LedLaws.{led_on}
use Rattle.commands.proofs.CopyFileLaws.{led_each, led_first}
use Rattle.commands.proofs.copy_file.copy_last.Goals as goal

pub returns-in_err-ask_all : goal.returns-in_err-ask_all
returns-in_err-ask_all g c =
    let p = err_from_is_err_and c.from_residual-in_err-ask_all.result c.from_residual-in_err-ask_all.ensures.1 in
    let behind = useti_event c.args.moment c.args.n ∷ in_event c.args.moment ∷ out_event c.args.moment ∷ [] in
    rw (p.1, p.2) (λ next. led_on g.S.FileService.machine _ _ _
    (sizes c.args.moment c.args.n c.args.size (λ count. each c.args.moment (list_events count ++ behind) next))
    (each c.args.moment (list_events c.in_ok-count.count ++ behind) next) _
    (c.in_ok-count.ensures.led (λ count. each c.args.moment (list_events count ++ behind) next))
    (led_first g.S.FileService.machine _ _ c.args.moment c.list_events.result (list_events c.in_ok-count.count) behind
    next _ c.list_events.ensures (c.in_err-ask_all.ensures c.args.moment (each c.args.moment behind next))))

pub returns : goal.returns
returns g c next =
    let behind = useti_event c.args.moment c.args.n ∷ in_event c.args.moment ∷ out_event c.args.moment ∷ [] in
    led_on g.S.FileService.machine _ _ _
    (sizes c.args.moment c.args.n c.args.size (λ count. each c.args.moment (list_events count ++ behind) next))
    (each c.args.moment (list_events c.in_ok-count.count ++ behind) next) _
    (c.in_ok-count.ensures.led (λ count. each c.args.moment (list_events count ++ behind) next))
    (led_on g.S.FileService.machine _ _ _ (each c.args.moment (list_events c.in_ok-count.count ++ behind) next)
    (each c.args.moment behind next) _
    (led_first g.S.FileService.machine _ _ c.args.moment c.list_events.result (list_events c.in_ok-count.count) behind
    next _ c.list_events.ensures (c.in_ok-ask_all.ensures c.args.moment (each c.args.moment behind next)))
    (led_each g.S.FileService.machine _ _ c.args.moment (c.useti_event.result ∷ c.in_event.result ∷ c.out_event.result
    ∷ []) behind next _ (λ i. c.useti_event.ensures i ∷ c.in_event.ensures i ∷ c.out_event.ensures i ∷ [])
    (c.ask_all-2.ensures c.args.moment next)))
