use Rattle.std.proofs.Common.{List, ℕ, refl, sym, subst, ◌∙◌, rules}
use Rattle.std.proofs.lemmas.Result.{err_from_is_err_and}
use Rattle.commands.proofs.SurveyLaws.{Shows, shows_none, shows_more, shows_cut, shows_done}
use Rattle.commands.proofs.list_directories.show_all.Goals as goal

pub loop-owner-init : goal.loop-owner-init
loop-owner-init g c = (
  subst (λ (l : List ℕ). Shows g.S.FileService.machine c.args.style c.args.owners.now c.args.tally.now
      c.args.service.now
      c.args.service.now 0 l c.args.tally.now) (sym c.new-bytes.ensures.items)
      (shows_none g.S.FileService.machine c.args.style c.args.owners.now c.args.tally.now g.met.S.FileService.stands
      c.args.service.now),
  refl,
)

pub loop-owner-preserved : goal.loop-owner-preserved
loop-owner-preserved g c = (
  shows_more g.S.FileService.machine c.args.style c.args.owners.now c.args.tally.now (λ bytes. bytes.items) _ _ _
      c.loop-owner.owner-index c.owner-item.result c.loop-owner.bytes.items c.loop-owner.tally _ c.loop-owner-test.true
      c.owner-item.is c.loop-owner.invariant.0 c.show.result c.show.ensures c.in_ok-list.list _ c.in_ok-list.was
      (search rules),
  c.show.ensures.reason ∙ c.loop-owner.invariant.1,
)

pub returns-in_err-list-clause-err : goal.returns-in_err-list-clause-err
returns-in_err-list-clause-err g c =
    let p = err_from_is_err_and c.from_residual.result c.from_residual.ensures.1 in
    rw p.1 (shows_cut g.S.FileService.machine c.args.style c.args.owners.now c.args.tally.now
    (λ bytes. bytes.items) _ _ _
    c.loop-owner.owner-index c.owner-item.result c.loop-owner.bytes.items c.loop-owner.tally _ c.loop-owner-test.true
    c.owner-item.is c.loop-owner.invariant.0 c.show.result c.show.ensures)

pub returns-in_err-extend_from_slice-clause-err : goal.returns-in_err-extend_from_slice-clause-err
returns-in_err-extend_from_slice-clause-err g c =
    let p = err_from_is_err_and c.from_residual-in_err-extend_from_slice.result
    c.from_residual-in_err-extend_from_slice.ensures.1 in
    rw p.1 (shows_cut g.S.FileService.machine c.args.style c.args.owners.now c.args.tally.now
    (λ bytes. bytes.items) _ _ _
    c.loop-owner.owner-index c.owner-item.result c.loop-owner.bytes.items c.loop-owner.tally _ c.loop-owner-test.true
    c.owner-item.is c.loop-owner.invariant.0 c.show.result c.show.ensures)

pub returns-clause-ok : goal.returns-clause-ok
returns-clause-ok g c = shows_done g.S.FileService.machine c.args.style c.args.owners.now c.args.tally.now _ _
    c.loop-owner.owner-index c.loop-owner.bytes.items c.loop-owner.tally c.loop-owner-test.false
    c.loop-owner.invariant.0
