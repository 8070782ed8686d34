use Rattle.blockdisk.specs.Common.{modifies_start}
use Rattle.retrieval.specs.Common.{IsOwn}
use Rattle.retrieval.proofs.put.put_words.Goals as goal

pub returns-then-is_empty-clause-modified : goal.returns-then-is_empty-clause-modified
returns-then-is_empty-clause-modified g c h =
    modifies_start (IsOwn c.args.table.now c.args.version.now.blocks) (g.D.Disk.state c.args.disk.now)
