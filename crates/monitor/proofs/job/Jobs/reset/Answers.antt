use Rattle.std.proofs.Common.{◌≡◌, ◌∙◌, None, Bool, true, false, ap, subst, arith}
use Rattle.spec_machine.specs.Common.{slot}
use Rattle.monitor.proofs.common.Slots.{slot_there, set_same}
use Rattle.monitor.proofs.job.Jobs.reset.Goals.{in-Some, in-None}
use Rattle.monitor.proofs.job.Jobs.reset.Goals as goal

not_both : (b : Bool) → b ≡ true → b ≡ false → ⊥
not_both b is isnt = cc

pub returns-clause-none : goal.returns-clause-none
returns-clause-none c none =
    elim c.match-index_mut.branch [
      | in-Some w ↦ absurd (not_both c.match-index_mut.result w.result-is none)
      | in-None w ↦ (
        subst (λ js. slot js c.args.number ≡ None) c.self.view_is
            (slot_there c.self.inside.slots.items c.args.number c.index_mut.result.now None (omega arith)
            c.index_mut.ensures.value w.in-None.is),
        ap (λ inside. inside.slots.items) w.self-inside-is
            ∙ set_same c.self.inside.slots.items c.args.number c.index_mut.result.now c.index_mut.ensures.value
            ∙ c.self.view_is,
      )
    ]
