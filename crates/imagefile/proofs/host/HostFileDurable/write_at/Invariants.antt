use Rattle.std.proofs.Common.{◌≡◌, ◌-◌, ◌<◌, ◌≤◌, length, take}
use Rattle.imagefile.specs.Common.{SameFile, FileWrites, window}
use Rattle.imagefile.proofs.host.HostFileDurable.write_at.Given as goal

abbrev pub invariant-loop-done : goal.invariant-loop-done
invariant-loop-done g l = record {
  few : l.done ≤ length l.bytes;
  count : l.self.failures ≡ l.fn.self.failures;
  quiet : l.self.failure ≡ l.fn.self.failure;
  known : l.self.size ≡ l.fn.self.size;
  same : SameFile (g.C.FileCalls.state l.fn.self.calls) (g.C.FileCalls.state l.self.calls);
  moves : (g.C.FileCalls.state l.self.calls).honest → (g.C.FileCalls.state l.fn.self.calls).clock
      < (g.C.FileCalls.state l.self.calls).clock;
  writes : (g.C.FileCalls.state l.self.calls).honest
      → FileWrites l.at (length l.bytes) (g.C.FileCalls.state l.fn.self.calls) (g.C.FileCalls.state l.self.calls);
  put : (g.C.FileCalls.state l.self.calls).honest → window (g.C.FileCalls.state l.self.calls).bytes l.at l.done
      ≡ take l.done l.bytes;
}

abbrev pub decreases-loop-done : goal.decreases-loop-done
decreases-loop-done g l = length l.bytes - l.done
