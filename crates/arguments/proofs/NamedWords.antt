-- The images, files and folders that a command line names are words of it.
use Rattle.std.proofs.Common.{◌≡◌, ◌⊎◌, true, inl, inr, refl, sym, subst, List, Some, codes}
use Rattle.std.specs.Prelude.{⊤, All, drop}
use Rattle.std.specs.List.{list_all}
use Rattle.clap.specs.Simple.{argument_words, built}
use Rattle.clap.specs.Words.{Row, Text, all_of, first_of, subcommand_of}
use Rattle.arguments.specs.CommandLine.{adapted, calls_app, check_app, command_line, convert_app, converting, dated}
use Rattle.arguments.specs.CommandLine.{delete_app, encoded, export_app, filed, filing, formed, gathered, get_app}
use Rattle.arguments.specs.CommandLine.{import_app, init_app, laid_out, list_app, located, looking, making, migrate_app}
use Rattle.arguments.specs.CommandLine.{moving, put_app, run_app, salvage_app, scattered, searched, serving, sized}
use Rattle.arguments.specs.CommandLine.{unloaded, wire_app}
use Rattle.arguments.proofs.WalkedWords.{all_are_words, first_is_a_word, is_placed}

-- each subcommand that has this argument finds it by its place
abbrev ArePlaced : Text → Type 0
ArePlaced id = list_all (λ s. list_all (is_placed id) s.rules) (built command_line).subs ≡ true

-- what the command line is made of
unfoldable line_on_literals : ⊤
unfolding command_line making serving filing moving looking init_app dated located filed run_app
    calls_app wire_app put_app get_app delete_app import_app export_app salvage_app list_app check_app convert_app
    migrate_app converting formed sized laid_out encoded gathered adapted scattered unloaded searched
line_on_literals = tt

images_placed : ArePlaced (codes "IMAGE")
unfolding line_on_literals
images_placed = refl

new_placed : ArePlaced (codes "NEW")
unfolding line_on_literals
new_placed = refl

folders_placed : ArePlaced (codes "FOLDER")
unfolding line_on_literals
folders_placed = refl

files_placed : ArePlaced (codes "FILE")
unfolding line_on_literals
files_placed = refl

-- the words that are read come after the program's name
words_after : (words : List Text) → argument_words command_line words ≡ drop 1 words
unfolding line_on_literals
words_after words = refl

each_placed : (id : Text) → (id ≡ codes "IMAGE") ⊎ (id ≡ codes "NEW") ⊎ (id ≡ codes "FOLDER") → ArePlaced id
each_placed id (inl is) = subst ArePlaced (sym is) images_placed
each_placed id (inr (inl is)) = subst ArePlaced (sym is) new_placed
each_placed id (inr (inr is)) = subst ArePlaced (sym is) folders_placed

module _ (Holds : Text → Type 0) (words : List Text) (found : Text × List Row) where
  given_words : All Holds (drop 1 words) → All Holds (argument_words command_line words)
  given_words all = subst (λ (given : List Text). All Holds given) (sym (words_after words)) all

  -- What holds of all words holds of the text of such an argument.
  pub text_is_a_word : (id text : Text) → subcommand_of command_line words ≡ Some found
      → (id ≡ codes "IMAGE") ⊎ (id ≡ codes "NEW") ⊎ (id ≡ codes "FOLDER") → first_of id found.1 ≡ Some text
      → All Holds (drop 1 words) → Holds text
  text_is_a_word id text is named first all =
      first_is_a_word Holds command_line words found id (each_placed id named) is (given_words all) text first

  -- And of all files.
  pub files_are_words : (texts : List Text) → subcommand_of command_line words ≡ Some found
      → all_of (codes "FILE") found.1 ≡ Some texts → All Holds (drop 1 words) → All Holds texts
  files_are_words texts is given all =
      all_are_words Holds command_line words found (codes "FILE") files_placed is (given_words all) texts given
