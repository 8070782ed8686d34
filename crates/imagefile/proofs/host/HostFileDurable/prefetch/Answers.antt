use Rattle.imagefile.proofs.Buffers.{none_read}
use Rattle.imagefile.proofs.host.HostFileDurable.prefetch.Goals as goal

pub returns-in-Err-clause-read : goal.returns-in-Err-clause-read
returns-in-Err-clause-read g c h =
    none_read (g.C.FileCalls.state c.args.self.now.calls).bytes c.args.at c.read_some.new.bytes
