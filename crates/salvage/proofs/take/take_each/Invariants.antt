use Rattle.std.proofs.Common.{◌≡◌, ◌+◌, ◌≤◌, ℕ, length, take}
use Rattle.std.specs.List.{AllByRecursion}
use Rattle.blockdisk.specs.Common.{SameDisk}
use Rattle.changeset.specs.Common.{OnlyReads}
use Rattle.salvage.specs.Common.{FitsDisk, Judges, claims}
use Rattle.salvage.proofs.take.take_each.Given as goal

abbrev pub invariant-loop-file : goal.invariant-loop-file
invariant-loop-file g l = record {
  same : SameDisk (g.D.Disk.state l.fn.disk) (g.D.Disk.state l.disk);
  served : (g.D.Disk.state l.disk).failures ≡ (g.D.Disk.state l.fn.disk).failures;
  reads : (g.D.Disk.state l.disk).honest → OnlyReads (g.D.Disk.state l.fn.disk) (g.D.Disk.state l.disk);
  few : (n : ℕ) → claims l.taken.files.items n
      ≤ claims l.fn.taken.files.items n + claims (take (length l.yielded) l.fn.candidates.items) n;
  fits : AllByRecursion (FitsDisk (g.D.Disk.state l.fn.disk).size) l.fn.taken.files.items
      → AllByRecursion (FitsDisk (g.D.Disk.state l.fn.disk).size) l.taken.files.items;
  fits_too : AllByRecursion (FitsDisk (g.D.Disk.state l.fn.disk).size) l.fn.taken.doubtful.items
      → AllByRecursion (FitsDisk (g.D.Disk.state l.fn.disk).size) l.taken.doubtful.items;
  judged : (g.D.Disk.state l.disk).honest
      → Judges (g.D.Disk.state l.fn.disk).contents l.counts l.free l.are_named
      (take (length l.yielded) l.fn.candidates.items) l.fn.taken.files.items l.taken.files.items
      l.fn.taken.doubtful.items l.taken.doubtful.items l.fn.findings.items l.findings.items;
}
