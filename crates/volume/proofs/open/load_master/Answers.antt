use Rattle.std.proofs.Common.{inl, inr, Err, ap, ◌∙◌}
use Rattle.spec_image.specs.Common.{InSpace, layout_number}
use Rattle.volume.specs.Common.{NamesInSpace, SettledRefuses}
use Rattle.volume.proofs.common.PassedErrors.{by_chain}
use Rattle.volume.proofs.VolumeStart.FaultyMaps.{master_fault, master_twice}
use Rattle.volume.proofs.VolumeStart.Quotas.{chain_carries, quota_refused}
use Rattle.spec_image.proofs.Common.{each_times}
use Rattle.volume.proofs.open.load_master.Goals as goal

pub returns-in-Err-clause-fault : goal.returns-in-Err-clause-fault
returns-in-Err-clause-fault g c h home =
    let s = g.D.Disk.state c.args.disk.now in
    let layout = layout_number c.args.layout in
    by_chain (SettledRefuses s.size s.contents) c.in-Err.error c.from.result c.from.ensures
    (λ n is. master_fault s.size s.contents layout c.args.first n c.requires.volume home
    (chain_carries c.args.layout s.size s.contents c.args.first n (c.load.ensures.bad h n (c.in-Err.is ∙ ap Err is))))
    (λ n is. master_twice s.size s.contents c.args.reached.now layout c.args.first n c.requires.volume home
    c.requires.fresh (c.load.ensures.named n (inr (c.in-Err.is ∙ ap Err is)))
    (c.load.ensures.twice h n (c.in-Err.is ∙ ap Err is))) tt tt

pub returns-in-Err-clause-named : goal.returns-in-Err-clause-named
returns-in-Err-clause-named g c =
    let s = g.D.Disk.state c.args.disk.now in
    by_chain (NamesInSpace s.size) c.in-Err.error c.from.result c.from.ensures
    (λ n is. c.load.ensures.named n (inl (c.in-Err.is ∙ ap Err is)))
    (λ n is. c.load.ensures.named n (inr (c.in-Err.is ∙ ap Err is))) tt tt

pub returns-in-Err-refuse_quotas-clause-fault : goal.returns-in-Err-refuse_quotas-clause-fault
returns-in-Err-refuse_quotas-clause-fault g c h home =
    let s = g.D.Disk.state c.args.disk.now in
    quota_refused (SettledRefuses s.size s.contents) c.in-Err-refuse_quotas.error c.in-Err-refuse_quotas.ensures.only
    (λ n is. let refused = c.in-Err-refuse_quotas.is ∙ ap Err is in
    master_fault s.size s.contents (layout_number c.args.layout) c.args.first n c.requires.volume home
    (c.refuse_quotas.ensures.bad n refused s.size s.contents c.args.first (c.in-Ok.ensures.walk h)
    (each_times (InSpace s.size) c.in-Ok.chain.blocks n c.in-Ok.ensures.inside
    (c.refuse_quotas.ensures.named n refused))))

pub returns-in-Err-refuse_quotas-clause-named : goal.returns-in-Err-refuse_quotas-clause-named
returns-in-Err-refuse_quotas-clause-named g c =
    let s = g.D.Disk.state c.args.disk.now in
    quota_refused (NamesInSpace s.size) c.in-Err-refuse_quotas.error c.in-Err-refuse_quotas.ensures.only
    (λ n is. each_times (InSpace s.size) c.in-Ok.chain.blocks n c.in-Ok.ensures.inside
    (c.refuse_quotas.ensures.named n (c.in-Err-refuse_quotas.is ∙ ap Err is)))
