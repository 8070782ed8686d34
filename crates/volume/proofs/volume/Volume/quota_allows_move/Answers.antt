use Rattle.std.proofs.Common.{◌+◌, sym, ◌∙◌}
use Rattle.spec_image.specs.Common.{growth}
use Rattle.volume.specs.Common.{entries_with, IsOver, cost_before, memory_of}
use Rattle.volume.proofs.Charges.Charges.{apart_over, told_apart}
use Rattle.volume.proofs.volume.Volume.quota_allows_move.Goals as goal

pub returns : goal.returns
returns g c = record {
  value = rw (← c.self.view_is) (λ d t there there_t old named.
      let memory = memory_of c.self.inside.map in
      apart_over c.args.ppn c.args.to c.move_is_over.result
      (IsOver memory c.args.to (cost_before old + growth (entries_with memory t c.args.to)))
      (sym c.eq.ensures ∙ c.if-eq.false) (c.move_is_over.ensures d t there there_t old named));
  within = λ same. absurd (told_apart c.args.ppn c.args.to (sym c.eq.ensures ∙ c.if-eq.false) same);
}
