use Rattle.std.proofs.Common.{◌≡◌, ℕ, ◌+◌, ◌-◌, ◌<◌, ◌≤◌, length, get_or}
use Rattle.imagefile.specs.Common.{SameFile, FileKeeps}
use Rattle.imagefile.proofs.host.HostFileDurable.read_at.Given as goal

abbrev pub invariant-loop-done : goal.invariant-loop-done
invariant-loop-done g l = record {
  few : l.done ≤ length l.bytes;
  count : l.self.failures ≡ l.fn.self.failures;
  quiet : l.self.failure ≡ l.fn.self.failure;
  known : l.self.size ≡ l.fn.self.size;
  same : SameFile (g.C.FileCalls.state l.fn.self.calls) (g.C.FileCalls.state l.self.calls);
  keeps : (g.C.FileCalls.state l.self.calls).honest
      → FileKeeps (g.C.FileCalls.state l.fn.self.calls) (g.C.FileCalls.state l.self.calls);
  read : (g.C.FileCalls.state l.self.calls).honest → (i : ℕ) → i < l.done
      → get_or l.bytes i 0 ≡ (g.C.FileCalls.state l.fn.self.calls).bytes (l.at + i);
}

abbrev pub decreases-loop-done : goal.decreases-loop-done
decreases-loop-done g l = length l.initial.bytes - l.done
