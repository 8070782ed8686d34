-- What a `HostFile` is made of.
use Rattle.std.specs.Prelude.{ℕ, Option}
use Rattle.std.specs.declared.io.Error.{Error}
use Rattle.imagefile.specs.declared.host.HostFile.{HostFile}
use Rattle.imagefile.specs.declared.calls.FileCalls as file_calls

module _ {C : Type 0} {g : file_calls.Ghosts C} where
  abbrev pub calls_of : HostFile C g → C
  calls_of file = file.calls

  abbrev pub failures_of : HostFile C g → ℕ
  failures_of file = file.failures

  abbrev pub failure_of : HostFile C g → Option Error
  failure_of file = file.failure

  -- the length that the file had when it was last read
  abbrev pub known_size_of : HostFile C g → Option ℕ
  known_size_of file = file.size
