-- The standard streams, by the numbers that the system gives to open files.
use Rattle.std.specs.Prelude.{pos, ◌<ℤ◌}
use Rattle.std.specs.Fd.{file_raw_fd}
use Rattle.std.specs.declared.fs.File.{File}

-- a file has none of their numbers, 0 to 2
abbrev pub IsNoStream : File → Type 0
IsNoStream file = pos 2 <ℤ file_raw_fd file
