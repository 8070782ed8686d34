use Rattle.std.proofs.Common.{◌∙◌, rules}
use Rattle.std.proofs.lemmas.Result.{err_from_is_err_and}
use Rattle.blockdisk.specs.Common.{same_contents, same_disk_on}
use Rattle.alloctab.proofs.TableBlocks.{read_more, bad_moved, reads_moved, past_moved}
use Rattle.changeset.proofs.LogRead.{only_reads_on}
use Rattle.alloctab.proofs.load.read_table.Goals as goal

pub returns-in_err-read_bits-clause-wrong : goal.returns-in_err-read_bits-clause-wrong
returns-in_err-read_bits-clause-wrong g c h n is =
    let old = g.D.Disk.state c.args.disk.now in
    let now = g.D.Disk.state c.loop-i.disk in
    let contents = same_contents old.contents now.contents
    (c.loop-i.invariant.reads (c.in_err-read_bits.ensures.same.was_honest h)).still.contents in
    let p = err_from_is_err_and c.from_residual.result c.from_residual.ensures.1 in
    bad_moved now.size old.size now.contents old.contents n c.loop-i.invariant.same.size contents
    (c.in_err-read_bits.ensures.wrong h n (rw (p.1, p.2) at is))

pub returns-in_err-read_bits-clause-reads : goal.returns-in_err-read_bits-clause-reads
returns-in_err-read_bits-clause-reads g c h =
    only_reads_on (g.D.Disk.state c.args.disk.now) (g.D.Disk.state c.loop-i.disk) (g.D.Disk.state c.read_bits.new.disk)
    (c.loop-i.invariant.reads (c.read_bits.ensures.same.was_honest h)) (c.read_bits.ensures.reads h)

pub loop-i-preserved : goal.loop-i-preserved
loop-i-preserved g c =
    let old = g.D.Disk.state c.args.disk.now in
    let now = g.D.Disk.state c.loop-i.disk in
    let new = g.D.Disk.state c.read_bits.new.disk in
    record {
      same = same_disk_on old now new c.loop-i.invariant.same c.read_bits.ensures.same;
      served = c.in_ok-read_bits.ensures.served (λ is. search rules) ∙ c.loop-i.invariant.served;
      reads = λ h. only_reads_on old now new (c.loop-i.invariant.reads (c.read_bits.ensures.same.was_honest h))
          (c.read_bits.ensures.reads h);
      long = c.read_bits.ensures.long ∙ c.loop-i.invariant.long;
      past = λ clear. past_moved now.size old.size c.loop-i.set c.read_bits.new.set c.loop-i.invariant.same.size
          c.read_bits.ensures.past (c.loop-i.invariant.past clear);
      read = λ h. read_more old.size old.contents c.loop-i.i c.loop-i.set c.read_bits.new.set
          (reads_moved now.size old.size now.contents old.contents c.loop-i.i c.loop-i.set c.read_bits.new.set
          c.loop-i.invariant.same.size (same_contents old.contents now.contents
          (c.loop-i.invariant.reads (c.read_bits.ensures.same.was_honest h)).still.contents)
          (c.in_ok-read_bits.ensures.read h))
          (c.loop-i.invariant.read (c.read_bits.ensures.same.was_honest h));
    }
