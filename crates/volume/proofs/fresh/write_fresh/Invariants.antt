use Rattle.std.proofs.Common.{◌≡◌, ◌<◌, ◌≤◌, ℕ, Some}
use Rattle.blockdisk.specs.Common.{Modifies, SameDisk}
use Rattle.spec_image.specs.Common.{layout_number}
use Rattle.volume.specs.Common.{fresh_words}
use Rattle.volume.proofs.fresh.write_fresh.Given as goal

abbrev pub invariant-loop-n : goal.invariant-loop-n
invariant-loop-n g l = record {
  same : SameDisk (g.D.Disk.state l.initial.disk) (g.D.Disk.state l.disk);
  served : (g.D.Disk.state l.disk).failures ≡ (g.D.Disk.state l.initial.disk).failures;
  modified : (g.D.Disk.state l.disk).honest
      → Modifies (λ n. (l.from ≤ n) × (n < l.end)) (g.D.Disk.state l.initial.disk) (g.D.Disk.state l.disk);
  written : (g.D.Disk.state l.disk).honest → (n : ℕ) → l.from ≤ n → n < l.n
      → (g.D.Disk.state l.disk).contents n ≡ Some
      (fresh_words (layout_number l.layout) (g.D.Disk.state l.initial.disk).size n);
}
