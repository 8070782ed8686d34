use Rattle.std.proofs.Common.{◌≡◌, ◌++◌, drop}
use Rattle.collection.specs.HostNames.{shown, shown_after}
use Rattle.collection.proofs.lines.push_shown.Given as goal

abbrev pub invariant-loop-place : goal.invariant-loop-place
invariant-loop-place l =
    l.text.items ++ shown_after l.skipped (drop l.place l.path) ≡ l.fn.text.items ++ shown l.fn.path
