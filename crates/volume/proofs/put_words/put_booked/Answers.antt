use Rattle.std.proofs.Common.{sym, ap, ◌∙◌}
use Rattle.blockdisk.specs.Common.{modifies_wider}
use Rattle.alloctab.specs.Common.{TableState, bit, holds}
use Rattle.retrieval.specs.Common.{IsOwn}
use Rattle.volume.proofs.put_words.put_booked.Goals as goal

pub returns-in-Ok-clause-modified : goal.returns-in-Ok-clause-modified
returns-in-Ok-clause-modified g c h =
    modifies_wider (IsOwn c.book.new.self c.args.version.now.blocks) (IsOwn c.args.table.now c.args.version.now.blocks)
    (g.D.Disk.state c.args.disk.now) (g.D.Disk.state c.put_words.new.disk)
    (λ n own. record {
      clear = sym (ap (λ (t : TableState). bit t n) c.book.ensures) ∙ own.clear;
      alone = sym (ap (λ (t : TableState). holds t n) c.book.ensures) ∙ own.alone;
    }) (c.in-Ok.ensures.modified h)
