use Rattle.std.proofs.Common.{◌∷◌, []}
use Rattle.std.proofs.lemmas.Result.{err_from_is_err_and}
use Rattle.spec_language.specs.Common.{own_file, call_event}
use Rattle.spec_machine.specs.declared.call.Call.TheVariants.{Close}
use Rattle.commands.specs.Common.{makes_way}
use Rattle.commands.proofs.LedLaws.{led_on}
use Rattle.commands.proofs.CopyFileLaws.{led_each}
use Rattle.commands.proofs.PutLaws.{closed_then, filled_then, created_then}
use Rattle.commands.proofs.put_file.write_file.Goals as goal

pub returns-in_err-enter : goal.returns-in_err-enter
returns-in_err-enter g c =
    let p = err_from_is_err_and c.from_residual.result c.from_residual.ensures.1 in
    let file = c.args.file.now in
    let spec = own_file file.name in
    rw (p.1, p.2) (λ next. c.in_err-enter.ensures c.args.moment (makes_way file.existing c.args.moment spec
    (created_then c.args.moment file.encoding spec c.args.words.now next)))

pub returns-in_err-make_way : goal.returns-in_err-make_way
returns-in_err-make_way g c =
    let p = err_from_is_err_and c.from_residual-in_err-make_way.result c.from_residual-in_err-make_way.ensures.1 in
    let file = c.args.file.now in
    let spec = own_file file.name in
    rw (p.1, p.2) (λ next.
    let created = created_then c.args.moment file.encoding spec c.args.words.now next in
    let way = makes_way file.existing c.args.moment spec created in
    led_on g.S.FileService.machine _ _ _ _ way _ (c.in_ok-enter.ensures c.args.moment way)
    (c.in_err-make_way.ensures created))

pub returns-in_err-create : goal.returns-in_err-create
returns-in_err-create g c =
    let p = err_from_is_err_and c.from_residual-in_err-create.result c.from_residual-in_err-create.ensures.1 in
    let file = c.args.file.now in
    let spec = own_file file.name in
    rw (p.1, p.2) (λ next.
    let filled = filled_then c.args.moment file.encoding c.args.words.now next in
    let created = created_then c.args.moment file.encoding spec c.args.words.now next in
    let way = makes_way file.existing c.args.moment spec created in
    led_on g.S.FileService.machine _ _ _ _ way _ (c.in_ok-enter.ensures c.args.moment way)
    (led_on g.S.FileService.machine _ _ _ way created _ (c.in_ok-make_way.ensures created)
    (c.in_err-create.ensures filled)))

pub returns-in_err-fill_all : goal.returns-in_err-fill_all
returns-in_err-fill_all g c =
    let p = err_from_is_err_and c.from_residual-in_err-fill_all.result c.from_residual-in_err-fill_all.ensures.1 in
    let file = c.args.file.now in
    let spec = own_file file.name in
    rw (p.1, p.2) (λ next.
    let closed = closed_then c.args.moment next in
    let filled = filled_then c.args.moment file.encoding c.args.words.now next in
    let created = created_then c.args.moment file.encoding spec c.args.words.now next in
    let way = makes_way file.existing c.args.moment spec created in
    led_on g.S.FileService.machine _ _ _ _ way _ (c.in_ok-enter.ensures c.args.moment way)
    (led_on g.S.FileService.machine _ _ _ way created _ (c.in_ok-make_way.ensures created)
    (led_on g.S.FileService.machine _ _ _ created filled _ (c.in_ok-create.ensures filled)
    (c.in_err-fill_all.ensures closed))))

pub returns : goal.returns
returns g c next =
    let file = c.args.file.now in
    let spec = own_file file.name in
    let closed = closed_then c.args.moment next in
    let filled = filled_then c.args.moment file.encoding c.args.words.now next in
    let created = created_then c.args.moment file.encoding spec c.args.words.now next in
    let way = makes_way file.existing c.args.moment spec created in
    led_on g.S.FileService.machine _ _ _ _ way _ (c.in_ok-enter.ensures c.args.moment way)
    (led_on g.S.FileService.machine _ _ _ way created _ (c.in_ok-make_way.ensures created)
    (led_on g.S.FileService.machine _ _ _ created filled _ (c.in_ok-create.ensures filled)
    (led_on g.S.FileService.machine _ _ _ filled closed _ (c.in_ok-fill_all.ensures closed)
    (led_each g.S.FileService.machine _ _ c.args.moment (c.close_event.result ∷ [])
    (call_event c.args.moment (Close 2 0)
    ∷ []) next _ (λ i. c.close_event.ensures i ∷ []) (c.ask_all.ensures c.args.moment next)))))
