use Rattle.std.proofs.Common.{◌≡◌, ◌+◌, ◌<◌, ℕ, Some, [], length, get_or}
use Rattle.blockdisk.specs.Common.{IsInRun, Modifies, SameDisk}
use Rattle.blockdisk.proofs.disk.Disk.write_run.Given as goal

abbrev pub invariant-loop-place : goal.invariant-loop-place
invariant-loop-place g l = record {
  put : (g.Self.Disk.state l.self).honest → (i : ℕ) → i < l.place
      → (g.Self.Disk.state l.self).contents (l.first + i) ≡ Some (get_or l.blocks i []);
  moves : (g.Self.Disk.state l.self).honest → 0 < l.place
      → (g.Self.Disk.state l.fn.self).clock < (g.Self.Disk.state l.self).clock;
  writes : (g.Self.Disk.state l.self).honest
      → Modifies (IsInRun l.first (length l.blocks)) (g.Self.Disk.state l.fn.self) (g.Self.Disk.state l.self);
  same : SameDisk (g.Self.Disk.state l.fn.self) (g.Self.Disk.state l.self);
  served : (g.Self.Disk.state l.self).failures ≡ (g.Self.Disk.state l.fn.self).failures;
}
