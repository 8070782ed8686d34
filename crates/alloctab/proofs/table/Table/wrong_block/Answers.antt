use Rattle.std.proofs.Common.{⊎_elim, subst, rules}
use Rattle.std.proofs.lemmas.Bool.{cases_lt}
use Rattle.alloctab.specs.Common.{IsTable}
use Rattle.alloctab.proofs.MemoryLaws.{sound, right_past}
use Rattle.alloctab.proofs.table.Table.wrong_block.Goals as goal

pub returns-clause-right : goal.returns-clause-right
returns-clause-right c n = ⊎_elim (λ below. c.loop-k.invariant n (search rules))
    (λ past. right_past c.args.self.now c.args.reached.now n
    (subst IsTable c.self.view_is (sound _ _ _ _ _ _ c.self.invariant c.self.inside.booked)) c.requires past)
    (cases_lt n c.args.self.now.size)
