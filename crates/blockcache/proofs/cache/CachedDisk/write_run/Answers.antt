use Rattle.std.proofs.Common.{◌<◌, [], length, subst, arith}
use Rattle.std.proofs.lemmas.List.{get_or_read}
use Rattle.blockdisk.specs.Common.{IsWrite, IsInRun, write_of_one}
use Rattle.blockcache.proofs.CachedContents.{held_outside}
use Rattle.blockcache.proofs.cache.CachedDisk.write_run.Goals as goal

pub returns-then-blocks-eq1-clause-writes : goal.returns-then-blocks-eq1-clause-writes
returns-then-blocks-eq1-clause-writes g c =
    let s = g.D.Disk.state c.args.self.now.inner in
    let s' = g.D.Disk.state c.write.new.self.inner in
    let blocks = c.args.blocks.now in
    let one = c.if-blocks-eq1.true in
    let some : 0 < length blocks = omega (arith, one) in
    write_of_one c.args.first blocks s s' c.write.result one
    (subst (λ words. IsWrite c.args.first words s s' c.write.result)
    (get_or_read blocks 0 c.index-blocks-0.result some c.index-blocks-0.is []) c.write.ensures.writes)

pub invariant_of-self : goal.invariant_of-self
invariant_of-self g c = record {
  coherent = λ h. held_outside (IsInRun c.args.first (length c.args.blocks.now)) c.forget_run.new.self.cache.entries
      (g.D.Disk.state c.forget_run.new.self.inner).contents (g.D.Disk.state c.write_run.new.self).contents
      (c.forget_run.new.self.coherent (c.write_run.ensures.same.was_honest h)) c.forget_run.ensures.none
      (c.write_run.ensures.writes h).contents;
}
