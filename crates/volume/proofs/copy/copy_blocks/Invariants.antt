use Rattle.std.proofs.Common.{◌≡◌, ◌<◌, ◌≤◌}
use Rattle.blockdisk.specs.Common.{Modifies, SameDisk, SameOutside}
use Rattle.changeset.specs.Common.{OnlyReads}
use Rattle.volume.specs.Common.{ArePartlyCopied}
use Rattle.volume.proofs.copy.copy_blocks.Given as goal

abbrev pub invariant-loop-n : goal.invariant-loop-n
invariant-loop-n g l = record {
  reads : (g.D.Disk.state l.from).honest → OnlyReads (g.D.Disk.state l.initial.from) (g.D.Disk.state l.from);
  same_source : SameDisk (g.D.Disk.state l.initial.from) (g.D.Disk.state l.from);
  same_target : SameDisk (g.E.Disk.state l.initial.to) (g.E.Disk.state l.to);
  served_source : (g.D.Disk.state l.from).failures ≡ (g.D.Disk.state l.initial.from).failures;
  served_target : (g.E.Disk.state l.to).failures ≡ (g.E.Disk.state l.initial.to).failures;
  copied : (g.D.Disk.state l.from).honest → (g.E.Disk.state l.to).honest
      → ArePartlyCopied l.first l.n (g.D.Disk.state l.initial.from).contents (g.E.Disk.state l.to).contents;
  before : (g.E.Disk.state l.to).honest
      → SameOutside (λ n. l.first ≤ n) (g.E.Disk.state l.initial.to).contents (g.E.Disk.state l.to).contents;
  behind : (g.E.Disk.state l.to).honest
      → SameOutside (λ n. n < l.end) (g.E.Disk.state l.initial.to).contents (g.E.Disk.state l.to).contents;
  modified : (g.E.Disk.state l.to).honest
      → Modifies (λ n. (l.first ≤ n) × (n < l.end)) (g.E.Disk.state l.initial.to) (g.E.Disk.state l.to);
}
