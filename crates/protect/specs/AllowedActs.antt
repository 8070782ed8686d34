-- What a digit of a protection allows.
use Rattle.std.specs.Prelude.{ℕ, Bool, ◌==◌, bit_and}
use Rattle.spec_machine.specs.Common.{acts_of, may_look, may_create}
use Rattle.protect.specs.declared.rights.DirectoryAct.{DirectoryAct}
use Rattle.protect.specs.declared.rights.DirectoryAct.TheVariants.{Look, Create}

-- The digit of a file allows all the acts of a set.
abbrev pub allows : ℕ → ℕ → Bool
allows d acts = bit_and (acts_of d) acts == acts

-- The digit of a directory allows the act.
abbrev pub allows_in : ℕ → DirectoryAct → Bool
allows_in d Look = may_look d
allows_in d Create = may_create d
