use Rattle.std.proofs.Common.{◌∙◌, arith}
use Rattle.usercore.proofs.WriteLaws.{deal_more}
use Rattle.usercore.proofs.user_core.Core.deal.Goals as goal

pub loop-area-preserved : goal.loop-area-preserved
loop-area-preserved c =
    record {
      so_far = c.loop-area.invariant.so_far
          ∙ deal_more _ _ c.args.areas.now c.loop-area.area-index _ _ _ c.loop-area.rest.now _ _ _
          (omega arith) c.area-item.is c.area.view_is c.min.ensures c.split_at.ensures.front c.split_at.ensures.back
          c.place.ensures.placed;
      long = omega arith;
    }
