use Rattle.std.proofs.Common.{◌≡◌, ◌≤◌, take}
use Rattle.spec_language.specs.Plans as plans
use Rattle.commands.proofs.read_body.same_words.Given as goal

abbrev pub invariant-loop-place : goal.invariant-loop-place
invariant-loop-place l = (l.count ≤ l.place) × (l.count ≡ plans.same_words (take l.place l.zeros) (take l.place l.ones))
