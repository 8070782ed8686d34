use Rattle.std.proofs.Common.{◌∙◌, ap, subst, sym}
use Rattle.std.proofs.lemmas.Result.{err_from_is_err_and}
use Rattle.spec_image.specs.Common.{layout_number, pack_of, Stands}
use Rattle.spec_image.proofs.Common.{stands_in_any}
use Rattle.monitor.proofs.Events.Started.{started, start_keyed, start_reading}
use Rattle.monitor.proofs.common.PlacedVersions.{placed_none}
use Rattle.monitor.proofs.monitor.Monitor.start.Goals as goal

pub invariant_of-result : goal.invariant_of-result
invariant_of-result g c serves = (
  start_keyed c.in_ok-volume.volume.map.pending c.in-Ok.jobs c.in_ok-volume.ensures.unwritten c.in-Ok.ensures,
  placed_none c.in_ok-volume.volume.map c.in_ok-volume.ensures.unwritten,
  start_reading c.in_ok-volume.volume.map.live c.in-Ok.jobs c.in_ok-volume.ensures.unread c.in-Ok.ensures,
)

pub returns-in-Ok-clause-started : goal.returns-in-Ok-clause-started
returns-in-Ok-clause-started g c files stands s start h = (
  c.in_ok-volume.ensures.serves,
  started (g.D.Disk.state c.in_ok-volume.volume.disk) c.in_ok-volume.volume.map c.in-Ok.jobs s files
      (c.in_ok-volume.ensures.files files stands h) c.in_ok-volume.ensures.unread c.in_ok-volume.ensures.unwritten
      c.in-Ok.ensures start,
)

pub returns-in-Ok-clause-layout : goal.returns-in-Ok-clause-layout
returns-in-Ok-clause-layout g c h =
    ap layout_number (sym c.layout-layout.ensures.value) ∙ c.layout-layout.ensures.disk h c.in_ok-volume.ensures.serves

pub returns-in-Ok-clause-stood : goal.returns-in-Ok-clause-stood
returns-in-Ok-clause-stood g c h =
    let stood = c.in_ok-volume.ensures.stood h in
    let d = g.D.Disk.state c.args.disk in
    let opened = g.D.Disk.state c.in_ok-volume.volume.disk in
    let before : Stands d.size d.contents stood.0 = subst (λ n. Stands n d.contents stood.0)
    c.in_ok-volume.ensures.disk.same.size (stands_in_any (pack_of opened) d.contents stood.0 stood.1) in
    (stood.0, stood.1, λ s start. returns-in-Ok-clause-started g c stood.0 before s start h)

pub returns-in_err-volume-clause-kept : goal.returns-in_err-volume-clause-kept
returns-in_err-volume-clause-kept g c =
    let p = err_from_is_err_and c.from_residual.result c.from_residual.ensures.1 in
    rw (p.1, p.2) c.in_err-volume.ensures.kept
