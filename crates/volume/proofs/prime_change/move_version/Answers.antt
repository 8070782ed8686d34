use Rattle.std.proofs.Common.{ap, subst, ◌∙◌}
use Rattle.changeset.specs.Common.{replaced}
use Rattle.spec_image.proofs.Common.{some_same}
use Rattle.volume.specs.declared.live.LiveVersion.{LiveVersion}
use Rattle.volume.specs.Common.{IsPrimeMoved}
use Rattle.volume.proofs.RenameWithin.Renamings.{slot_moved}
use Rattle.volume.proofs.prime_change.move_version.Goals as goal

pub returns-clause-moved : goal.returns-clause-moved
returns-clause-moved c v is =
    let same = some_same (c.in-Some.ensures.value ∙ is) in
    let prime = c.prime_moved-prime.result in
    let put = c.put_prime.ensures in (
      prime,
      subst (λ (x : LiveVersion). IsPrimeMoved x.prime prime c.args.ppn c.args.to.now c.args.protection) same
          c.prime_moved-prime.ensures,
      slot_moved c.args.versions.now.slots c.args.key c.in-Some.version.now v prime c.in-Some.ensures.value same,
      put.0,
      put.1,
      put.2 ∙ ap (λ (x : LiveVersion). replaced (record { block = x.at; words = put.0 }) c.args.set.now) same,
    )
