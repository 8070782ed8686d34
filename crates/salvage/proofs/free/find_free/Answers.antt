use Rattle.std.proofs.Common.{◌≡◌, ◌⊎◌, ◌↔◌, ◌/◌, ◌<◌, ℕ, true, ◌∙◌}
use Rattle.blockdisk.specs.Common.{same_contents, same_disk_on}
use Rattle.changeset.proofs.LogRead.{only_reads_on}
use Rattle.alloctab.specs.Common.{flag_at}
use Rattle.salvage.specs.Common.{AreAdded, IsFreeBlock}
use Rattle.salvage.proofs.CarriedFacts.{moved}
use Rattle.salvage.proofs.FreeTables.{free_more}
use Rattle.salvage.proofs.SavedFiles.{added_then}
use Rattle.salvage.proofs.free.find_free.Goals as goal

pub loop-i-preserved : goal.loop-i-preserved
loop-i-preserved g c =
    let s = g.D.Disk.state c.args.disk.now in
    let now = g.D.Disk.state c.loop-i.disk in
    let new = g.D.Disk.state c.read_free.new.disk in
    let before = c.loop-i.invariant in
    let ensures = c.in_ok-read_free.ensures in
    record {
      same = same_disk_on s now new before.same ensures.same;
      served = ensures.served (λ is. cc) ∙ before.served;
      reads = λ h. only_reads_on s now new (before.reads (ensures.same.was_honest h)) (ensures.reads h);
      long = ensures.long ∙ before.long;
      marked = λ h.
          let was = ensures.same.was_honest h in
          free_more s.size c.loop-i.i s.contents c.loop-i.free c.read_free.new.free (before.marked was)
          (moved (λ size contents. (n : ℕ) → n < size → (flag_at c.read_free.new.free n ≡ true)
          ↔ ((flag_at c.loop-i.free n ≡ true) ⊎ ((n / 4608 ≡ c.loop-i.i) × IsFreeBlock size contents n))) s.size
          now.size s.contents now.contents before.same.size
          (same_contents s.contents now.contents (before.reads was).still.contents) (ensures.marked h));
      added = λ h layout.
          let was = ensures.same.was_honest h in
          added_then s.size layout s.contents c.args.findings.now.items c.loop-i.findings.items
          c.read_free.new.findings.items (before.added was layout)
          (moved (λ size contents. AreAdded size layout contents c.loop-i.findings.items
          c.read_free.new.findings.items) s.size now.size s.contents now.contents before.same.size
          (same_contents s.contents now.contents (before.reads was).still.contents) (ensures.added h layout));
    }

pub returns-in_err-read_free-clause-reads : goal.returns-in_err-read_free-clause-reads
returns-in_err-read_free-clause-reads g c h =
    only_reads_on (g.D.Disk.state c.args.disk.now) (g.D.Disk.state c.loop-i.disk)
    (g.D.Disk.state c.read_free.new.disk) (c.loop-i.invariant.reads (c.read_free.ensures.same.was_honest h))
    (c.read_free.ensures.reads h)
