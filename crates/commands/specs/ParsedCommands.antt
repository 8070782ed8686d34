-- Limits of the numbers in commands.
use Rattle.std.specs.Prelude.{◌<◌, ◌^◌, Option, Some, None}
use Rattle.spec_language.specs.declared.command.Command.{Command}
use Rattle.spec_language.specs.declared.command.Command.TheVariants.{Login, Directory, Copy, Rename, Delete, TypeOut}
use Rattle.spec_language.specs.declared.command.Command.TheVariants.{Protect, MakeDir, Quota}

-- A protection in a command has at most nine bits, and a quota at most eighteen.
abbrev pub Fits : Option Command → Type 0
Fits None = Unit {0}
Fits (Some (Login owner)) = Unit {0}
Fits (Some (Directory owner)) = Unit {0}
Fits (Some (Copy to from)) = Unit {0}
Fits (Some (Rename to from)) = Unit {0}
Fits (Some (Delete spec)) = Unit {0}
Fits (Some (TypeOut spec)) = Unit {0}
Fits (Some (Protect spec protection)) = protection < 512
Fits (Some (MakeDir owner protection)) = protection < 512
Fits (Some (Quota owner blocks)) = blocks < 2 ^ 18
