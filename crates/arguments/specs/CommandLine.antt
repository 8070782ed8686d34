-- The command line of the program, as `clap` reads it.
use Rattle.std.specs.Prelude.{ℕ, [], ◌∷◌, Some, true, pos, codes}
use Rattle.clap.specs.Words.{App, Rule, Text, new_app, new_rule, with_rule, with_subcommand}
use Rattle.clap.specs.declared.builder.action.ArgAction.TheVariants.{SetTrue}
use Rattle.clap.specs.Lexer.{usize_max}
use Rattle.clap.specs.declared.builder.value_parser.ValueParser.TheVariants as vp

-- a required text
abbrev pub wanted : Text → Rule
wanted id = record (new_rule id) { required = true }

-- one required text or more
abbrev pub several : Text → Rule
several id = record (wanted id) {
  range = Some (record { start_inclusive = 1; end_inclusive = usize_max });
}

-- a required number, in a range
abbrev pub numbered : Text → ℕ → ℕ → Rule
numbered id least most = record (wanted id) { parser = Some (vp.Signed (pos least) (pos most)) }

-- a number from 0 that may be left out, and is then 0
abbrev pub optional : Text → ℕ → Rule
optional id most = record (new_rule id) {
  long = Some id;
  value_names = 1;
  defaults = codes "0" ∷ [];
  parser = Some (vp.Signed (pos 0) (pos most));
}

-- a date, which is a text here, since it may be the text of a day; it may be left out, and is then 0
abbrev pub date_rule : Rule
date_rule = record (new_rule (codes "date")) {
  long = Some (codes "date");
  value_names = 1;
  defaults = codes "0" ∷ [];
}

-- an image's form, 1 or 2, which may be left out, and is then 1
abbrev pub form_rule : Rule
form_rule = record (new_rule (codes "form")) {
  long = Some (codes "form");
  value_names = 1;
  defaults = codes "1" ∷ [];
  parser = Some (vp.Signed (pos 1) (pos 2));
}

-- the layout of a new volume, 1 or 2, which may be left out, and is then 1
abbrev pub layout_rule : Rule
layout_rule = record (new_rule (codes "layout")) {
  long = Some (codes "layout");
  value_names = 1;
  defaults = codes "1" ∷ [];
  parser = Some (vp.Signed (pos 1) (pos 2));
}

-- with the form of an image
unfoldable pub formed : App → App
formed app = with_rule app form_rule

-- with the number of blocks of a new image
unfoldable pub sized : App → App
sized app = with_rule app (numbered (codes "BLOCKS") 64 131072)

-- with the layout of a new volume
unfoldable pub laid_out : App → App
laid_out app = with_rule app layout_rule

unfoldable pub init_app : App
init_app = formed (laid_out (sized (with_rule (new_app (codes "init")) (wanted (codes "IMAGE")))))

-- with the date and the minute of what is written
unfoldable pub dated : App → App
dated app = with_rule (with_rule app date_rule) (optional (codes "minute") 1439)

unfoldable pub run_app : App
run_app = formed (dated (with_rule (new_app (codes "run")) (wanted (codes "IMAGE"))))

unfoldable pub calls_app : App
calls_app = formed (dated (with_rule (new_app (codes "calls")) (wanted (codes "IMAGE"))))

unfoldable pub wire_app : App
wire_app = formed (with_rule (new_app (codes "wire")) (wanted (codes "IMAGE")))

-- an option without a value
abbrev pub flag : Text → Rule
flag id = record (new_rule id) { long = Some id; action = Some SetTrue }

-- a file of a directory
unfoldable pub located : App → App
located app =
    with_rule (with_rule (with_rule app (wanted (codes "IMAGE"))) (wanted (codes "PPN"))) (wanted (codes "NAME"))

-- the same, with flags for what its bytes are
unfoldable pub filed : App → App
filed app = with_rule (with_rule (located app) (flag (codes "words"))) (flag (codes "bytes"))

unfoldable pub put_app : App
put_app = formed (dated (with_rule (filed (new_app (codes "put"))) (flag (codes "new"))))

unfoldable pub get_app : App
get_app = formed (dated (filed (new_app (codes "get"))))

unfoldable pub delete_app : App
delete_app = formed (located (new_app (codes "delete")))

-- with flags for what the bytes of files are
unfoldable pub encoded : App → App
encoded app =
    with_rule (with_rule (with_rule app (flag (codes "text"))) (flag (codes "bytes"))) (flag (codes "words"))

-- files of the host that go to a directory
unfoldable pub gathered : App → App
gathered app =
    with_rule (with_rule (with_rule app (wanted (codes "IMAGE"))) (wanted (codes "PPN"))) (several (codes "FILE"))

-- with flags for the source of their names and their dates
unfoldable pub adapted : App → App
adapted app = with_rule (with_rule app (flag (codes "shorten"))) (flag (codes "dates"))

unfoldable pub import_app : App
import_app = formed (dated (adapted (encoded (gathered (new_app (codes "import"))))))

-- a folder of the host that files of an image go to
unfoldable pub scattered : App → App
scattered app = with_rule (with_rule app (wanted (codes "IMAGE"))) (wanted (codes "FOLDER"))

-- the same for one directory or all, with what the bytes of files are, and whether files are only listed
unfoldable pub unloaded : App → App
unloaded app = with_rule (encoded (with_rule (scattered app) (new_rule (codes "PPN")))) (flag (codes "list"))

unfoldable pub export_app : App
export_app = formed (unloaded (new_app (codes "export")))

-- with flags for the blocks that are searched for files that no directory names
unfoldable pub searched : App → App
searched app = with_rule (with_rule app (flag (codes "named"))) (flag (codes "all"))

unfoldable pub salvage_app : App
salvage_app = formed (searched (unloaded (new_app (codes "salvage"))))

unfoldable pub list_app : App
list_app = formed (with_rule (with_rule (with_rule (new_app (codes "list")) (wanted (codes "IMAGE")))
    (new_rule (codes "PPN"))) (flag (codes "tsv")))

unfoldable pub check_app : App
check_app = formed (with_rule (new_app (codes "check")) (wanted (codes "IMAGE")))

unfoldable pub convert_app : App
convert_app = formed (with_rule (with_rule (new_app (codes "convert")) (wanted (codes "IMAGE"))) (wanted (codes "NEW")))

unfoldable pub migrate_app : App
migrate_app = formed (with_rule (new_app (codes "migrate")) (wanted (codes "IMAGE")))

-- the subcommands: the one that makes an image, those that serve an input on it, those for one file, those that take
-- files from the host and to it, those that change no file, and those that convert and migrate
unfoldable pub making : App → App
making app = with_subcommand app init_app.top

unfoldable pub serving : App → App
serving app = with_subcommand (with_subcommand (with_subcommand app run_app.top) calls_app.top) wire_app.top

unfoldable pub filing : App → App
filing app = with_subcommand (with_subcommand (with_subcommand app put_app.top) get_app.top) delete_app.top

unfoldable pub moving : App → App
moving app = with_subcommand (with_subcommand (with_subcommand app import_app.top) export_app.top) salvage_app.top

unfoldable pub looking : App → App
looking app = with_subcommand (with_subcommand app list_app.top) check_app.top

unfoldable pub converting : App → App
converting app = with_subcommand (with_subcommand app convert_app.top) migrate_app.top

-- a command of this name that prints its version on request
abbrev pub versioned : Text → App
versioned name = record (new_app name) { top = record (new_app name).top { has_version = true } }

-- the whole command line
unfoldable pub command_line : App
command_line = converting (looking (moving (filing (serving (making (versioned (codes "filser")))))))
