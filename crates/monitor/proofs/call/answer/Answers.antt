use Rattle.std.proofs.Common.{refl}
use Rattle.spec_machine.specs.declared.call.Call.TheVariants.{Open, Inbuf, Outbuf, Useti, Useto, Getsts}
use Rattle.monitor.proofs.common.CallRows.{keeps_same, reads_same}
use Rattle.monitor.proofs.common.Promised.{alone_serves, as_called}
use Rattle.monitor.proofs.call.answer.Goals as goal

pub returns-in-Open-clause-serving : goal.returns-in-Open-clause-serving
returns-in-Open-clause-serving g c =
    let volume = c.args.volume.now in
    let said = c.open.ensures in
    as_called c.in-Open.is (alone_serves g.D.Disk.state g.met.D.Disk.only_now volume.disk volume.map volume.failed
    c.args.job.now c.open.new.job (Open c.in-Open.channel c.in-Open.address) c.args.moment c.open.result
    c.requires.ready.alive c.requires.ready.placed c.requires.timely said.row said.keeps said.reads said.only
    said.refused said.decided)

pub returns-in-Rename-clause-serving : goal.returns-in-Rename-clause-serving
returns-in-Rename-clause-serving g c =
    as_called c.in-Rename.is (c.serve_rename.ensures.serving c.args.moment c.requires.timely)

pub returns-in-Useti-clause-serving : goal.returns-in-Useti-clause-serving
returns-in-Useti-clause-serving g c =
    let volume = c.args.volume.now in
    let said = c.useti.ensures in
    as_called c.in-Useti.is (alone_serves g.D.Disk.state g.met.D.Disk.only_now volume.disk volume.map volume.failed
    c.args.job.now c.useti.new.job (Useti c.in-Useti.channel c.in-Useti.block) c.args.moment c.useti.result
    c.requires.ready.alive c.requires.ready.placed c.requires.timely said.row said.keeps said.reads said.only
    said.refused said.decided)

pub returns-in-Useto-clause-serving : goal.returns-in-Useto-clause-serving
returns-in-Useto-clause-serving g c =
    let volume = c.args.volume.now in
    let said = c.useto.ensures in
    as_called c.in-Useto.is (alone_serves g.D.Disk.state g.met.D.Disk.only_now volume.disk volume.map volume.failed
    c.args.job.now c.useto.new.job (Useto c.in-Useto.channel c.in-Useto.block) c.args.moment c.useto.result
    c.requires.ready.alive c.requires.ready.placed c.requires.timely said.row said.keeps said.reads said.only
    said.refused said.decided)

pub returns-in-DeleteDir-clause-serving : goal.returns-in-DeleteDir-clause-serving
returns-in-DeleteDir-clause-serving g c =
    as_called c.in-DeleteDir.is (c.serve_delete_dir.ensures.serving c.args.moment c.requires.timely)

pub returns-in-Quota-clause-serving : goal.returns-in-Quota-clause-serving
returns-in-Quota-clause-serving g c =
    as_called c.in-Quota.is (c.serve_quota.ensures.serving c.args.moment c.requires.timely)

pub returns-in-Inbuf-clause-serving : goal.returns-in-Inbuf-clause-serving
returns-in-Inbuf-clause-serving g c =
    let volume = c.args.volume.now in
    let said = c.inbuf.ensures in
    as_called c.in-Inbuf.is (alone_serves g.D.Disk.state g.met.D.Disk.only_now volume.disk volume.map volume.failed
    c.args.job.now c.inbuf.new.job (Inbuf c.in-Inbuf.channel c.in-Inbuf.count) c.args.moment c.inbuf.result
    c.requires.ready.alive c.requires.ready.placed c.requires.timely said.row said.keeps said.reads said.only
    said.refused said.decided)

pub returns-in-Outbuf-clause-serving : goal.returns-in-Outbuf-clause-serving
returns-in-Outbuf-clause-serving g c =
    let volume = c.args.volume.now in
    let said = c.outbuf.ensures in
    as_called c.in-Outbuf.is (alone_serves g.D.Disk.state g.met.D.Disk.only_now volume.disk volume.map volume.failed
    c.args.job.now c.outbuf.new.job (Outbuf c.in-Outbuf.channel c.in-Outbuf.count) c.args.moment c.outbuf.result
    c.requires.ready.alive c.requires.ready.placed c.requires.timely said.row said.keeps said.reads said.only
    said.refused said.decided)

pub returns-in-Getsts-clause-serving : goal.returns-in-Getsts-clause-serving
returns-in-Getsts-clause-serving g c =
    let volume = c.args.volume.now in
    let job = c.args.job.now in
    as_called c.in-Getsts.is (alone_serves g.D.Disk.state g.met.D.Disk.only_now volume.disk volume.map volume.failed
    job job (Getsts c.in-Getsts.channel) c.args.moment c.getsts.result c.requires.ready.alive c.requires.ready.placed
    c.requires.timely c.getsts.ensures.row (λ pending. keeps_same pending job) (λ live. reads_same live job)
    c.getsts.ensures.only (λ code is. refl) (λ is. refl))

pub returns-in-Lookup-clause-serving : goal.returns-in-Lookup-clause-serving
returns-in-Lookup-clause-serving g c =
    as_called c.in-Lookup.is (c.serve_lookup.ensures.serving c.args.moment c.requires.timely)

pub returns-in-Enter-clause-serving : goal.returns-in-Enter-clause-serving
returns-in-Enter-clause-serving g c = as_called c.in-Enter.is c.serve_enter.ensures.serving

pub returns-in-In-clause-serving : goal.returns-in-In-clause-serving
returns-in-In-clause-serving g c = as_called c.in-In.is (c.serve_in.ensures.serving c.args.moment c.requires.timely)

pub returns-in-Out-clause-serving : goal.returns-in-Out-clause-serving
returns-in-Out-clause-serving g c = as_called c.in-Out.is (c.serve_out.ensures.serving c.args.moment c.requires.timely)

pub returns-in-Close-clause-serving : goal.returns-in-Close-clause-serving
returns-in-Close-clause-serving g c =
    as_called c.in-Close.is (c.serve_close.ensures.serving c.args.moment c.requires.timely)

pub returns-in-Releas-clause-serving : goal.returns-in-Releas-clause-serving
returns-in-Releas-clause-serving g c =
    as_called c.in-Releas.is (c.serve_release.ensures.serving c.args.moment c.requires.timely)

pub returns-in-Reset-clause-serving : goal.returns-in-Reset-clause-serving
returns-in-Reset-clause-serving g c =
    as_called c.in-Reset.is (c.serve_reset.ensures.serving c.args.moment c.requires.timely)

pub returns-in-MakeDir-clause-serving : goal.returns-in-MakeDir-clause-serving
returns-in-MakeDir-clause-serving g c =
    as_called c.in-MakeDir.is (c.serve_make_dir.ensures.serving c.args.moment c.requires.timely)
