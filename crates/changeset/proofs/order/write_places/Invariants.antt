use Rattle.std.proofs.Common.{◌≡◌, ℕ, take}
use Rattle.blockdisk.specs.Common.{Modifies, SameDisk}
use Rattle.spec_image.specs.Common.{with_puts}
use Rattle.changeset.specs.Common.{IsPutIn}
use Rattle.changeset.proofs.order.write_places.Given as goal

abbrev pub invariant-loop-put : goal.invariant-loop-put
invariant-loop-put g l = record {
  same : SameDisk (g.D.Disk.state l.initial.disk) (g.D.Disk.state l.disk);
  served : (g.D.Disk.state l.disk).failures ≡ (g.D.Disk.state l.initial.disk).failures;
  modified : (g.D.Disk.state l.disk).honest
      → Modifies (IsPutIn l.puts) (g.D.Disk.state l.initial.disk) (g.D.Disk.state l.disk);
  placed : (g.D.Disk.state l.disk).honest → (n : ℕ) → (g.D.Disk.state l.disk).contents n
      ≡ with_puts (take l.put-index l.puts) (g.D.Disk.state l.initial.disk).contents n;
}
