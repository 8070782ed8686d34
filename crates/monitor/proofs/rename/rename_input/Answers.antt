use Rattle.std.proofs.Common.{refl, sym, ap, ◌∙◌}
use Rattle.spec_machine.specs.declared.call.Call.TheVariants.{Rename}
use Rattle.spec_machine.specs.declared.call.Reply.TheVariants.{AddressCheck}
use Rattle.spec_image.proofs.Common.{some_is}
use Rattle.monitor.proofs.common.CallRows.{keeps_same}
use Rattle.monitor.proofs.EnterFile.Readers.{reading_core}
use Rattle.monitor.proofs.RenameFile.OutOfOrder.{rename_outside}
use Rattle.monitor.proofs.common.Promised.{alone_serves}
use Rattle.monitor.proofs.RenameFile.Refusals.{out_of_order}
use Rattle.monitor.proofs.RenameFile.Rows.{rename_writing}
use Rattle.monitor.proofs.rename.rename_input.Goals as goal

pub returns-then-lies_outside-clause-serving : goal.returns-then-lies_outside-clause-serving
returns-then-lies_outside-clause-serving g c = λ moment timely.
    let volume = c.args.volume.now in
    let job = c.args.job.now in
    let ready = c.requires.ready in
    alone_serves g.D.Disk.state g.met.D.Disk.only_now volume.disk volume.map volume.failed job job
    (Rename c.args.number c.args.address) moment AddressCheck ready.alive ready.placed timely
    (rename_outside job c.args.number c.args.address c.args.channel c.requires.there
    (sym c.lies_outside.ensures.value ∙ c.if-lies_outside.true))
    (λ pending. keeps_same pending job) (λ live. reading_core live job job.core) (λ x. cc x, λ x. cc x, λ x. cc x)
    (λ code x. cc x) (λ is. refl)

pub returns-then-is_some-clause-serving : goal.returns-then-is_some-clause-serving
returns-then-is_some-clause-serving g c = λ moment timely.
    let volume = c.args.volume.now in
    let job = c.args.job.now in
    let ready = c.requires.ready in
    let writes = some_is c.args.channel.output (sym c.is_some.ensures ∙ c.if-is_some.true) in
    out_of_order g.D.Disk.state g.met.D.Disk.only_now volume.disk volume.map volume.failed job
    (record job { core = c.refuse.new.core }) c.args.number c.args.address moment c.refuse.result ready.alive
    ready.placed timely
    (rename_writing job c.args.number c.args.address c.args.channel c.requires.there writes.0 writes.1
    (sym c.lies_outside.ensures.value ∙ c.if-lies_outside.false))
    (ap (λ core. record job { core = core }) c.refuse.ensures.kept) c.refuse.ensures.answered
