use Rattle.spec_machine.proofs.ReaderLaws.{in_room}
use Rattle.spec_machine.proofs.machine.reading_takes_no_room.Goals as goal

pub returns : goal.returns
returns c = in_room
