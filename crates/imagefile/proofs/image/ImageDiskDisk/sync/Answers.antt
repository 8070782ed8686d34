use Rattle.imagefile.proofs.ImageCalls.{synced, sync_failed}
use Rattle.imagefile.proofs.image.ImageDiskDisk.sync.Goals as goal

pub returns-clause-syncs : goal.returns-clause-syncs
returns-clause-syncs g c h = synced c.sync.result c.args.self.now.form c.args.self.now.blocks
    (g.F.Durable.state c.args.self.now.file.file) (g.F.Durable.state c.sync.new.self.file) (c.sync.ensures.syncs h)

pub returns-clause-fails : goal.returns-clause-fails
returns-clause-fails g c h = sync_failed c.sync.result c.args.self.now.form c.args.self.now.blocks
    (g.F.Durable.state c.args.self.now.file.file) (g.F.Durable.state c.sync.new.self.file) (c.sync.ensures.fails h)
