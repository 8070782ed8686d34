use Rattle.spec_image.proofs.DiskMaps.{log_ignored}
use Rattle.spec_image.proofs.laws.log_is_no_part.Goals as goal

pub returns : goal.returns
returns c = log_ignored
