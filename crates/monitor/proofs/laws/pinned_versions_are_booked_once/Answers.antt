use Rattle.monitor.proofs.common.PinnedRooms.{held_once}
use Rattle.monitor.proofs.laws.pinned_versions_are_booked_once.Goals as goal

pub returns : goal.returns
returns c = held_once
