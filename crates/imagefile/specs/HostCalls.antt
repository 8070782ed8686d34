-- What a `HostCalls` is made of.
use Rattle.std.specs.Prelude.{List}
use Rattle.imagefile.specs.Calls.{Call}
use Rattle.imagefile.specs.declared.system.HostCalls.{HostCalls}

module _ {F : Type 0} where
  abbrev pub file_of : HostCalls F → F
  file_of calls = calls.file

  abbrev pub history_of : HostCalls F → List Call
  history_of calls = calls.history.calls
