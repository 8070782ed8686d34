use Rattle.std.proofs.Common.{◌≡◌, ◌↔◌, ◌||◌, true, not, subst}
use Rattle.monitor.specs.Common.{IsBarred}
use Rattle.monitor.proofs.WriteOut.Outs.{barred_by}
use Rattle.monitor.proofs.out.is_barred.Goals as goal

pub returns-else-is_kept : goal.returns-else-is_kept
returns-else-is_kept g c p at =
    let map = c.args.volume.now.map in
    let allows = c.quota_allows_put.result in
    subst (λ kept. ((kept || not allows) ≡ true) ↔ IsBarred map p c.args.output c.args.count) c.if-is_kept.false
    (barred_by map p c.args.output c.args.count c.is_kept.result allows c.is_kept.ensures
    (c.quota_allows_put.ensures.value p at))
