use Rattle.std.proofs.Common.{List, inr, sym, subst}
use Rattle.std.specs.List.{AllByRecursion}
use Rattle.spec_image.specs.declared.put.Put.{Put}
use Rattle.spec_image.specs.Common.{IsTarget, targets}
use Rattle.changeset.specs.Common.{all_replaced}
use Rattle.test_base.proofs.change_tests.add.Goals as goal

pub returns : goal.returns
returns g c =
    let new : Put = record { block = c.args.block; words = c.filled.result } in
    let target : IsTarget 64 c.args.block = inr (inr (c.requires.target.0, c.requires.target.1)) in
    subst (λ (puts : List Put). AllByRecursion (IsTarget 64) (targets puts)) (sym c.in-Ok.ensures.ok)
    (all_replaced (IsTarget 64) new c.args.set.now c.requires.targets target)
