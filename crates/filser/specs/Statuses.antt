-- The exit statuses of the program.
use Rattle.std.specs.Prelude.{ℕ}
use Rattle.filser.specs.declared.status.Status.{Status}
use Rattle.filser.specs.declared.status.Status.TheVariants.{Done, Refused, BadArguments, BadImage, Fault}

abbrev pub status_code : Status → ℕ
status_code Done = 0
status_code Refused = 1
status_code BadArguments = 2
status_code BadImage = 3
status_code Fault = 4
