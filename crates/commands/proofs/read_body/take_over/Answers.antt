use Rattle.std.proofs.Common.{◌≡◌, ℕ, List, length, Ok, [], ◌∷◌}
use Rattle.std.proofs.lemmas.Result.{err_from_is_err_and}
use Rattle.spec_language.specs.Common.{block_address, useti_event, in_event}
use Rattle.commands.proofs.BodyLaws.{over_unfilled, over_unasked, over_all}
use Rattle.commands.proofs.read_body.take_over.Goals as goal

pub returns-in_err-fill : goal.returns-in_err-fill
returns-in_err-fill g c =
    let p = err_from_is_err_and c.from_residual.result c.from_residual.ensures.1 in
    rw (p.1, p.2)
    (over_unfilled g.S.FileService.machine c.args.moment block_address 128 c.args.n c.args.word
    (useti_event c.args.moment c.args.n) (in_event c.args.moment) c.args.service.now c.fill.new.service c.fill.result
    c.fill.ensures
    c.in_err-fill.field-0.0 c.in_err-fill.was)

pub returns-in_err-ask_all : goal.returns-in_err-ask_all
returns-in_err-ask_all g c =
    let p = err_from_is_err_and c.from_residual-in_err-ask_all.result c.from_residual-in_err-ask_all.ensures.1 in
    let is : c.useti_event.result ∷ c.in_event.result ∷ [] ≡ useti_event c.args.moment c.args.n ∷ in_event c.args.moment
    ∷ [] = λ i. c.useti_event.ensures i ∷ c.in_event.ensures i ∷ [] in
    rw (p.1, p.2)
    (over_unasked g.S.FileService.machine c.args.moment block_address 128 c.args.n c.args.word
    (useti_event c.args.moment c.args.n) (in_event c.args.moment) c.args.service.now c.fill.new.service c.fill.result
    c.fill.ensures
    c.in_ok-fill.field-0 c.in_ok-fill.was c.ask_all.new.service (c.useti_event.result ∷ c.in_event.result
    ∷ []) is c.ask_all.result c.ask_all.ensures c.in_err-ask_all.field-0.0 c.in_err-ask_all.was)

pub returns : goal.returns
returns g c =
    let is : c.useti_event.result ∷ c.in_event.result ∷ [] ≡ useti_event c.args.moment c.args.n ∷ in_event c.args.moment
    ∷ [] = λ i. c.useti_event.ensures i ∷ c.in_event.ensures i ∷ [] in
    let long : (block : List ℕ) → c.fetch.result ≡ Ok block
    → length block ≡ 128 = λ block e. (let known = rw e at c.fetch.type_inv in assumption known) in
    over_all g.S.FileService.machine c.args.moment block_address 128 c.args.n c.args.word
    (useti_event c.args.moment c.args.n) (in_event c.args.moment) c.args.service.now c.fill.new.service c.fill.result
    c.fill.ensures
    c.in_ok-fill.field-0 c.in_ok-fill.was c.ask_all.new.service (c.useti_event.result ∷ c.in_event.result
    ∷ []) is c.ask_all.result c.ask_all.ensures c.in_ok-ask_all.field-0 c.in_ok-ask_all.was
    c.fetch.new.service c.fetch.result long c.fetch.ensures
