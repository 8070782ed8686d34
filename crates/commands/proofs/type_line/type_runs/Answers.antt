use Rattle.std.proofs.Common.{◌≡◌, ◌-◌, ◌+◌, ℕ, suc, zero, arith, subst}
use Rattle.std.proofs.lemmas.Result.{err_from_is_err_and}
use Rattle.spec_language.specs.Common.{type_runs_plan}
use Rattle.commands.proofs.TypeLaws.{Ran, handed_on, one_made, asked_done, asked_failed, read_none, no_run}
use Rattle.commands.proofs.TypeLaws.{no_words, read_run, read_runs}
use Rattle.commands.proofs.type_line.type_runs.Goals as goal

pub loop-init : goal.loop-init
loop-init g c =
    let same : c.args.runs ≡ c.args.runs - 0 = omega arith in
    subst (λ (n : ℕ). Ran g.S.FileService.machine c.args.moment c.args.runs c.args.count c.args.service.now
    c.args.service.now n c.args.typed.now c.args.typed.now) same
    (read_none g.S.FileService.machine g.met.S.FileService.stands c.args.service.now
    (type_runs_plan c.args.moment c.args.runs c.args.count) c.args.typed.now)

pub returns-in_err-ask_all : goal.returns-in_err-ask_all
returns-in_err-ask_all g c =
    let p = err_from_is_err_and c.from_residual.result c.from_residual.ensures.1 in
    let more : c.args.runs - c.loop.counter ≡ suc (c.args.runs - (c.loop.counter + 1)) = omega arith in
    no_run g.S.FileService.machine c.args.moment c.args.runs c.args.count _ _ c.ask_all.new.service _
    (c.args.runs - (c.loop.counter + 1)) _ c.loop.typed more c.loop.invariant _ _ (handed_on p.1 p.2)
    (asked_failed g.S.FileService.machine c.args.moment c.in_err-ask_all.field-0.0
    (one_made c.in_event.ensures) c.in_err-ask_all.ensures)

pub returns-in_err-type_words : goal.returns-in_err-type_words
returns-in_err-type_words g c =
    let p = err_from_is_err_and c.from_residual-in_err-type_words.result
    c.from_residual-in_err-type_words.ensures.1 in
    let more : c.args.runs - c.loop.counter ≡ suc (c.args.runs - (c.loop.counter + 1)) = omega arith in
    no_words g.S.FileService.machine c.args.moment c.args.runs c.args.count _ _ c.ask_all.new.service _
    (c.args.runs - (c.loop.counter + 1)) _ c.loop.typed more c.loop.invariant
    (asked_done g.S.FileService.machine c.args.moment (one_made c.in_event.ensures) c.in_ok-ask_all.ensures) _ _
    c.type_words.result _ c.in_err-type_words.field-0.0 c.in_err-type_words.was (handed_on p.1 p.2)
    (c.type_words.ensures c.args.moment)

pub loop-preserved : goal.loop-preserved
loop-preserved g c =
    let more : c.args.runs - c.loop.counter ≡ suc (c.args.runs - (c.loop.counter + 1)) = omega arith in
    read_run g.S.FileService.machine c.args.moment c.args.runs c.args.count _ _ c.ask_all.new.service _
    (c.args.runs - (c.loop.counter + 1)) _ c.loop.typed more c.loop.invariant
    (asked_done g.S.FileService.machine c.args.moment (one_made c.in_event.ensures) c.in_ok-ask_all.ensures) _ _
    c.in_ok-type_words.field-0 (c.in_ok-type_words.ensures c.args.moment)

pub returns : goal.returns
returns g c =
    let none : c.args.runs - c.loop.counter ≡ zero = omega arith in
    read_runs g.S.FileService.machine c.args.moment c.args.runs c.args.count _ _ _ _ _ tt none c.loop.invariant
