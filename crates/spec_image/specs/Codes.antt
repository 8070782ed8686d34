-- The numbers of the reasons for which a call is refused. (TOPS-10 Monitor Calls Manual.)
use Rattle.std.specs.Prelude.{ℕ}
use Rattle.spec_image.specs.declared.code.ErrorCode.{ErrorCode}
use Rattle.spec_image.specs.declared.code.ErrorCode.TheVariants.{NotFound, NoDirectory, Protection, BeingModified}
use Rattle.spec_image.specs.declared.code.ErrorCode.TheVariants.{NameExists, Sequence, NoRoom, NotEmpty}

abbrev pub number_of : ErrorCode → ℕ
number_of NotFound = 0
number_of NoDirectory = 1
number_of Protection = 2
number_of BeingModified = 3
number_of NameExists = 4
number_of Sequence = 5
number_of NoRoom = 0o14
number_of NotEmpty = 0o22
