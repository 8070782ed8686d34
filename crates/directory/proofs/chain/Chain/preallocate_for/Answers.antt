use Rattle.std.proofs.Common.{length, ap, subst}
use Rattle.directory.specs.Common.{IsSpareFor}
use Rattle.directory.proofs.Reserves.{found_reserve}
use Rattle.directory.proofs.chain.Chain.preallocate_for.Goals as goal

pub returns-clause-reserve : goal.returns-clause-reserve
returns-clause-reserve g c =
    let many = ap (λ s. length s.entries) c.self.view_is in
    found_reserve g.E.ChainEntry.view c.args.self.now (g.E.ChainEntry.view c.args.entry.now).0
    (record { blocks = c.in_ok-blocks.blocks; entries = c.in_ok-entries.entries; order = c.in_ok-order.order })
    (subst (λ n. IsSpareFor n c.in_ok-entries.entries) many c.in_ok-entries.ensures)
    (subst (λ n. IsSpareFor n c.in_ok-order.order) many c.in_ok-order.ensures) c.in_ok-blocks.ensures.spare
