use Rattle.spec_image.proofs.MapChanges.{map_changed, directory_changed, two_directories_changed}
use Rattle.spec_image.proofs.changes.maps_change_by_parts.Goals as goal

pub returns-clause-any : goal.returns-clause-any
returns-clause-any c = map_changed

pub returns-clause-one : goal.returns-clause-one
returns-clause-one c = directory_changed

pub returns-clause-two : goal.returns-clause-two
returns-clause-two c = two_directories_changed
