use Rattle.std.proofs.Common.{refl, subst}
use Rattle.monitor.proofs.hold.renew.Goals as goal

pub returns-clause-renews : goal.returns-clause-renews
returns-clause-renews g c = (
  record {
    held = c.hold-held.result;
    at = (c.hold-held.ensures.side.0, c.hold-held.ensures.side.1);
    between = c.hold-held.new.volume.map;
    holds = c.hold-held.ensures.holds;
    closed = c.release_input.ensures.closed;
    pending = c.release_input.ensures.pending;
    renewed_is = refl;
  },
  λ h. c.hold-held.ensures.value (subst (λ disk. (g.D.Disk.state disk).honest) c.release_input.ensures.untouched.0 h),
)
