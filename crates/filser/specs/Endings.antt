-- How a run ends whose words make no request.
use Rattle.std.specs.Prelude.{◌≡◌, ◌⊎◌, []}
use Rattle.clap.specs.Words.{Kinds, IsAmong, kind_of}
use Rattle.clap.specs.declared.error.kind.ErrorKind.{ErrorKind}
use Rattle.clap.specs.declared.error.kind.ErrorKind.TheVariants.{DisplayHelp, DisplayVersion}
use Rattle.filser.specs.declared.error.RequestError.{RequestError}
use Rattle.filser.specs.declared.error.RequestError.TheVariants.{Usage, BadArgument, NoMemory}
use Rattle.filser.specs.declared.status.Status.{Status}
use Rattle.filser.specs.declared.status.Status.TheVariants.{Done, BadArguments, Fault}

-- help or the version was requested
abbrev pub AsksForHelp : ErrorKind → Type 0
AsksForHelp kind = (kind ≡ DisplayHelp) ⊎ (kind ≡ DisplayVersion)

abbrev pub EndsUnasked : RequestError → Status → Type 0
EndsUnasked (Usage e) s = (AsksForHelp (kind_of e) → (s ≡ Done) ⊎ (s ≡ Fault))
    × ((AsksForHelp (kind_of e) → ⊥) → s ≡ BadArguments)
EndsUnasked (BadArgument wrong) s = s ≡ BadArguments
EndsUnasked NoMemory s = s ≡ Fault

-- the words are refused, and not because they ask for help or the version
abbrev pub AreMistaken : Kinds → Type 0
AreMistaken kinds = (kinds ≡ [] → ⊥) × ((kind : ErrorKind) → IsAmong kind kinds → AsksForHelp kind → ⊥)

-- they ask for help or the version
abbrev pub AskToSee : Kinds → Type 0
AskToSee kinds = (kinds ≡ [] → ⊥) × ((kind : ErrorKind) → IsAmong kind kinds → AsksForHelp kind)
