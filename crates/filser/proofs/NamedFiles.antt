-- The images and files that a request names are words of the command line.
use Rattle.std.proofs.Common.{◌≡◌, inl, inr, refl, List, Option, Some, None, All, codes, map}
use Rattle.std.proofs.lemmas.List.Elements.{All-nil}
use Rattle.std.specs.Prelude.{drop}
use Rattle.clap.specs.Words.{Row, Text, subcommand_of}
use Rattle.arguments.specs.CommandLine.{command_line}
use Rattle.arguments.proofs.NamedWords.{files_are_words, text_is_a_word}
use Rattle.filser.specs.Common.{Asks, HoldsOfNamed}
use Rattle.filser.specs.declared.request.Request.{Request}
use Rattle.filser.specs.declared.request.Request.TheVariants.{Fresh, Init, Work, Convert, Migrate, Import, Export}
use Rattle.filser.specs.declared.request.Request.TheVariants.{Salvage}

-- what holds of all words holds of the paths of the images, and of the files to import
pub holds_of_named : (Holds : Text → Type 0) (words : List Text) (found : Option (Text × List Row))
    (request : Request) → subcommand_of command_line words ≡ found → Asks found request → All Holds (drop 1 words)
    → HoldsOfNamed request Holds
holds_of_named Holds words None Fresh is asks all = ((tt, tt), All-nil Holds)
holds_of_named Holds words None (Init image blocks form layout) is asks all = absurd asks
holds_of_named Holds words None (Work image form task) is asks all = absurd asks
holds_of_named Holds words None (Convert image new form) is asks all = absurd asks
holds_of_named Holds words None (Migrate image form) is asks all = absurd asks
holds_of_named Holds words None (Import image form task) is asks all = absurd asks
holds_of_named Holds words None (Export image form task) is asks all = absurd asks
holds_of_named Holds words None (Salvage image form task) is asks all = absurd asks
holds_of_named Holds words (Some found) Fresh is asks all = absurd asks
holds_of_named Holds words (Some found) (Init image blocks form layout) is asks all =
    ((text_is_a_word Holds words found (codes "IMAGE") image.now is (inl refl) asks.1 all, tt), All-nil Holds)
holds_of_named Holds words (Some found) (Work image form task) is asks all =
    ((text_is_a_word Holds words found (codes "IMAGE") image.now is (inl refl) asks.0 all, tt), All-nil Holds)
holds_of_named Holds words (Some found) (Convert image new form) is asks all = (
  (
    text_is_a_word Holds words found (codes "IMAGE") image.now is (inl refl) asks.1 all,
    text_is_a_word Holds words found (codes "NEW") new.now is (inr (inl refl)) asks.2 all,
  ),
  All-nil Holds,
)
holds_of_named Holds words (Some found) (Migrate image form) is asks all =
    ((text_is_a_word Holds words found (codes "IMAGE") image.now is (inl refl) asks.1 all, tt), All-nil Holds)
holds_of_named Holds words (Some found) (Import image form task) is asks all = (
  (text_is_a_word Holds words found (codes "IMAGE") image.now is (inl refl) asks.1 all, tt),
  files_are_words Holds words found (map (λ p. p.now) task.paths.items) is asks.3.paths all,
)
holds_of_named Holds words (Some found) (Export image form task) is asks all =
    ((text_is_a_word Holds words found (codes "IMAGE") image.now is (inl refl) asks.1 all, tt), All-nil Holds)
holds_of_named Holds words (Some found) (Salvage image form task) is asks all =
    ((text_is_a_word Holds words found (codes "IMAGE") image.now is (inl refl) asks.1 all, tt), All-nil Holds)
