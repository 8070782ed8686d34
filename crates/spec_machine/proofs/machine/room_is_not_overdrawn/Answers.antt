use Rattle.spec_machine.proofs.RoomEvents.{room_stays}
use Rattle.spec_machine.proofs.machine.room_is_not_overdrawn.Goals as goal

pub returns : goal.returns
returns c = room_stays
