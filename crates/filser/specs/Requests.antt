-- What is requested, by the subcommand that `clap` matched and what it found there.
use Rattle.std.specs.Prelude.{◌≡◌, ◌≢◌, ◌≤◌, ◌↔◌, ◌⊎◌, [], ℕ, List, map, Option, Some, None, Bool, IsTrue, codes}
use Rattle.std.specs.Str.Parse.{IsNumeral, digits_value, without_leading_plus}
use Rattle.clap.specs.Words.{IsAmong, Kinds, Row, Text, all_of, first_of, kind_of, one_of}
use Rattle.clap.specs.declared.error.Error.{Error}
use Rattle.clap.specs.declared.error.kind.ErrorKind.TheVariants.{ValueValidation}
use Rattle.words36.specs.declared.moment.Moment.{Moment}
use Rattle.words36.specs.declared.names.FileName.{FileName}
use Rattle.spec_language.specs.Common.{upper}
use Rattle.imagefile.specs.declared.form.Form.{Form}
use Rattle.imagefile.specs.declared.form.Form.TheVariants.{Wide, Packed}
use Rattle.spec_image.specs.Common.{layout_number}
use Rattle.spec_image.specs.declared.layout.Layout.{Layout}
use Rattle.spec_language.specs.declared.encoding.Encoding.{Encoding}
use Rattle.spec_language.specs.declared.encoding.Encoding.TheVariants.{Characters, Words, Octets}
use Rattle.spec_language.specs.declared.style.Style.{Style}
use Rattle.spec_language.specs.declared.style.Style.TheVariants.{Table}
use Rattle.commands.specs.Common.{IsDayText, IsFileName, IsOwnerName}
use Rattle.commands.specs.declared.existing.Existing.{Existing}
use Rattle.commands.specs.declared.existing.Existing.TheVariants.{Refuse}
use Rattle.filser.specs.declared.request.Request.{Request}
use Rattle.filser.specs.declared.request.Request.TheVariants.{Fresh, Init, Work, Convert, Migrate, Import, Export}
use Rattle.filser.specs.declared.request.Request.TheVariants.{Salvage}
use Rattle.filser.specs.declared.error.WrongArgument.{WrongArgument}
use Rattle.filser.specs.declared.error.WrongArgument.TheVariants.{Owner, Name, Encodings, Searches, Date}
use Rattle.collection.specs.declared.task.ExportTask.{ExportTask}
use Rattle.collection.specs.declared.task.ImportTask.{ImportTask}
use Rattle.salvage.specs.declared.search.Search.{Search}
use Rattle.salvage.specs.declared.search.Search.TheVariants.{Named, Every}
use Rattle.filser.specs.declared.task.NamedFile.{NamedFile}
use Rattle.filser.specs.declared.task.SalvageTask.{SalvageTask}
use Rattle.filser.specs.declared.task.Task.{Task}
use Rattle.filser.specs.declared.task.Task.TheVariants.{Run, Calls, Wire, Put, Get, Delete, List as ListAll, Check}

-- the text of an argument
abbrev pub HasText : List Row → Text → Text → Type 0
HasText rows id text = first_of id rows ≡ Some text

-- a text is this decimal number
abbrev pub Spells : Text → ℕ → Type 0
Spells text n = IsNumeral 10 (without_leading_plus text) × (digits_value 10 (without_leading_plus text) ≡ n)

-- the number of an argument, in the range from `least` to `most`
abbrev pub HasNumber : List Row → Text → ℕ → ℕ → ℕ → Type 0
HasNumber rows id least most n = ((text : Text) × (one_of id rows ≡ Some text) × Spells text n) × (least ≤ n)
    × (n ≤ most)

-- the owner that an argument spells, and the file
abbrev pub HasOwner : List Row → ℕ → Type 0
HasOwner rows owner = (text : Text) × HasText rows (codes "PPN") text × IsOwnerName text owner

abbrev pub HasFileName : List Row → ℕ → ℕ → Type 0
HasFileName rows name ext = (text : Text) × HasText rows (codes "NAME") text × IsFileName (map upper text) name ext

-- both of a file
abbrev pub HasOwned : List Row → ℕ → FileName → Type 0
HasOwned rows owner file = HasOwner rows owner × HasFileName rows file.name file.ext

abbrev pub LacksOwned : List Row → Type 0
LacksOwned rows = (owner : ℕ) (file : FileName) → HasOwned rows owner file → ⊥

-- The bytes are words, or bytes of eight bits, if that is requested.
abbrev pub IsEncoding : List Row → Encoding → Type 0
IsEncoding rows encoding =
    ((encoding ≡ Words) ↔ HasText rows (codes "words") (codes "true"))
    × ((encoding ≡ Octets) ↔ HasText rows (codes "bytes") (codes "true"))

pub record IsNamedFile (rows : List Row) (file : NamedFile) : Type 0 where
  pub owner : HasOwner rows file.owner
  pub name : HasFileName rows file.name.name file.name.ext
  pub encoding : IsEncoding rows file.encoding

-- a file that has the name of one that is put stays, if that is requested
abbrev pub IsExisting : List Row → Existing → Type 0
IsExisting rows existing = (existing ≡ Refuse) ↔ HasText rows (codes "new") (codes "true")

-- the flag that asks for an encoding, and whether it is given
abbrev pub encoding_flag : Encoding → Text
encoding_flag Characters = codes "text"
encoding_flag Words = codes "words"
encoding_flag Octets = codes "bytes"

abbrev pub AsksFor : List Row → Encoding → Type 0
AsksFor rows encoding = HasText rows (encoding_flag encoding) (codes "true")

-- the encoding whose flag is given, and no other's; or none, if no such flag is given
abbrev pub IsOneEncoding : List Row → Option Encoding → Type 0
IsOneEncoding rows asked = (encoding : Encoding) → ((asked ≡ Some encoding) ↔ AsksFor rows encoding)

-- whether a flag is given
abbrev pub IsFlag : List Row → Text → Bool → Type 0
IsFlag rows id value = IsTrue value ↔ HasText rows id (codes "true")

-- the directory to list, or all
abbrev pub IsListedPlace : List Row → Option ℕ → Type 0
IsListedPlace rows None = first_of (codes "PPN") rows ≡ None
IsListedPlace rows (Some owner) = HasOwner rows owner

-- lists are a table, if that is requested
abbrev pub IsStyle : List Row → Style → Type 0
IsStyle rows style = (style ≡ Table) ↔ HasText rows (codes "tsv") (codes "true")

-- the subcommand of a task
abbrev pub task_name : Task → Text
task_name (Run at) = codes "run"
task_name (Calls at) = codes "calls"
task_name Wire = codes "wire"
task_name (Put file existing at) = codes "put"
task_name (Get file at) = codes "get"
task_name (Delete owner name) = codes "delete"
task_name (ListAll place style) = codes "list"
task_name Check = codes "check"

-- a text states a date: by its number, or as the text of a day
abbrev pub IsDateNumber : Text → ℕ → Type 0
IsDateNumber text n = Spells text n × (n ≤ 32767)

abbrev pub SaysDate : Text → ℕ → Type 0
SaysDate text n = IsDateNumber text n ⊎ IsDayText text n

abbrev pub HasDate : List Row → ℕ → Type 0
HasDate rows n = (text : Text) × HasText rows (codes "date") text × SaysDate text n

-- the date and the minute that are given
abbrev pub IsAt : List Row → Moment → Type 0
IsAt rows at = HasDate rows at.date × HasNumber rows (codes "minute") 0 1439 at.minute

-- what is found with the subcommand
abbrev pub HasTask : List Row → Task → Type 0
HasTask rows (Run at) = IsAt rows at
HasTask rows (Calls at) = IsAt rows at
HasTask rows Wire = Unit
HasTask rows (Put file existing at) = IsNamedFile rows file × IsExisting rows existing × IsAt rows at
HasTask rows (Get file at) = IsNamedFile rows file × IsAt rows at
HasTask rows (Delete owner name) = HasOwned rows owner name
HasTask rows (ListAll place style) = IsListedPlace rows place × IsStyle rows style
HasTask rows Check = Unit

abbrev pub IsTask : Text → List Row → Task → Type 0
IsTask name rows task = (name ≡ task_name task) × HasTask rows task

-- the number of a form
abbrev pub form_number : Form → ℕ
form_number Wide = 1
form_number Packed = 2

abbrev pub HasForm : List Row → Form → Type 0
HasForm rows form = HasNumber rows (codes "form") 1 2 (form_number form)

-- the layout of a new volume
abbrev pub HasLayout : List Row → Layout → Type 0
HasLayout rows layout = HasNumber rows (codes "layout") 1 2 (layout_number layout)

-- files of the host, all that are named, in their order, and what becomes of them
pub record IsImportTask (rows : List Row) (task : ImportTask) : Type 0 where
  pub owner : HasOwner rows task.owner
  pub paths : all_of (codes "FILE") rows ≡ Some (map (λ p. p.now) task.paths.items)
  pub encoding : IsOneEncoding rows task.encoding
  pub moment : IsAt rows task.moment
  pub dated : IsFlag rows (codes "dates") task.dated
  pub shortens : IsFlag rows (codes "shorten") task.shortens

-- a folder of the host, and what is written there
pub record IsExportTask (rows : List Row) (task : ExportTask) : Type 0 where
  pub folder : HasText rows (codes "FOLDER") task.folder.now
  pub owner : IsListedPlace rows task.owner
  pub encoding : IsOneEncoding rows task.encoding
  pub lists : IsFlag rows (codes "list") task.lists

-- which blocks are searched for files that no directory names, by the flags that are given
abbrev pub IsAskedSearch : List Row → Search → Type 0
IsAskedSearch rows search =
    ((search ≡ Named) ↔ HasText rows (codes "named") (codes "true"))
    × ((search ≡ Every) ↔ HasText rows (codes "all") (codes "true"))

-- a folder of the host, what is written there, and where it is looked for
pub record IsSalvageTask (rows : List Row) (task : SalvageTask) : Type 0 where
  pub export : IsExportTask rows task.export
  pub search : IsAskedSearch rows task.search

abbrev pub IsAsked : Text → List Row → Request → Type 0
IsAsked name rows Fresh = ⊥
IsAsked name rows (Init image blocks form layout) =
    (name ≡ codes "init") × HasText rows (codes "IMAGE") image.now × HasNumber rows (codes "BLOCKS") 64 131072 blocks
    × HasForm rows form × HasLayout rows layout
IsAsked name rows (Work image form task) = HasText rows (codes "IMAGE") image.now × HasForm rows form
    × IsTask name rows task
IsAsked name rows (Convert image new form) =
    (name ≡ codes "convert") × HasText rows (codes "IMAGE") image.now × HasText rows (codes "NEW") new.now
    × HasForm rows form
IsAsked name rows (Migrate image form) =
    (name ≡ codes "migrate") × HasText rows (codes "IMAGE") image.now × HasForm rows form
IsAsked name rows (Import image form task) =
    (name ≡ codes "import") × HasText rows (codes "IMAGE") image.now × HasForm rows form × IsImportTask rows task
IsAsked name rows (Export image form task) =
    (name ≡ codes "export") × HasText rows (codes "IMAGE") image.now × HasForm rows form × IsExportTask rows task
IsAsked name rows (Salvage image form task) =
    (name ≡ codes "salvage") × HasText rows (codes "IMAGE") image.now × HasForm rows form × IsSalvageTask rows task

-- without a subcommand a fresh volume is requested
abbrev pub Asks : Option (Text × List Row) → Request → Type 0
Asks None Fresh = Unit
Asks None (Init image blocks form layout) = ⊥
Asks None (Work image form task) = ⊥
Asks None (Convert image new form) = ⊥
Asks None (Migrate image form) = ⊥
Asks None (Import image form task) = ⊥
Asks None (Export image form task) = ⊥
Asks None (Salvage image form task) = ⊥
Asks (Some found) request = IsAsked found.0 found.1 request

-- Why there is no request.

-- an argument that isn't valid, with its text
abbrev pub IsWrong : List Row → WrongArgument → Type 0
IsWrong rows (Owner text) = HasText rows (codes "PPN") text.now × ((owner : ℕ) → IsOwnerName text.now owner → ⊥)
IsWrong rows (Name text) =
    HasText rows (codes "NAME") text.now × ((name ext : ℕ) → IsFileName (map upper text.now) name ext → ⊥)
IsWrong rows (Encodings one other) = (one ≢ other) × AsksFor rows one × AsksFor rows other
IsWrong rows Searches = HasText rows (codes "named") (codes "true") × HasText rows (codes "all") (codes "true")
IsWrong rows (Date text) = HasText rows (codes "date") text.now × ((n : ℕ) → SaysDate text.now n → ⊥)

-- these arguments are valid, if they are given
abbrev pub NamesOwner : List Row → Type 0
NamesOwner rows = (text : Text) → HasText rows (codes "PPN") text → (owner : ℕ) × IsOwnerName text owner

abbrev pub NamesFile : List Row → Type 0
NamesFile rows =
    (text : Text) → HasText rows (codes "NAME") text → (name : ℕ) × (ext : ℕ) × IsFileName (map upper text) name ext

abbrev pub NamesEncoding : List Row → Type 0
NamesEncoding rows = (one other : Encoding) → AsksFor rows one → AsksFor rows other → one ≡ other

abbrev pub NamesSearch : List Row → Type 0
NamesSearch rows = HasText rows (codes "named") (codes "true") → HasText rows (codes "all") (codes "true") → ⊥

abbrev pub NamesDate : List Row → Type 0
NamesDate rows = (text : Text) → HasText rows (codes "date") text → (n : ℕ) × SaysDate text n

-- the argument at fault; or it is another one, and these are valid
abbrev pub IsFaultIn : List Row → Option WrongArgument → Type 0
IsFaultIn rows None =
    NamesOwner rows × NamesFile rows × NamesEncoding rows × NamesSearch rows × NamesDate rows
IsFaultIn rows (Some wrong) = IsWrong rows wrong

abbrev pub IsMistaken : Option (Text × List Row) → Option WrongArgument → Type 0
IsMistaken None None = Unit
IsMistaken None (Some wrong) = ⊥
IsMistaken (Some found) wrong = IsFaultIn found.1 wrong

-- a text is given for a date, and states none
abbrev pub LacksDate : List Row → Type 0
LacksDate rows = (text : Text) × HasText rows (codes "date") text × ((n : ℕ) → SaysDate text n → ⊥)

abbrev pub NamesNoDate : Option (Text × List Row) → Type 0
NamesNoDate None = ⊥
NamesNoDate (Some found) = LacksDate found.1

-- `clap` refuses the words, or shows what they ask for; or they make no request, since the date is a number past all
-- dates
abbrev pub IsUsage : Kinds → Option (Text × List Row) → Error → Type 0
IsUsage kinds found e = IsAmong (kind_of e) kinds
    ⊎ ((kinds ≡ []) × (kind_of e ≡ ValueValidation) × NamesNoDate found
    × ((request : Request) → Asks found request → ⊥))

-- the numbers are in their ranges
abbrev pub InRange : Request → Type 0
InRange Fresh = Unit
InRange (Init image blocks form layout) = (64 ≤ blocks) × (blocks ≤ 131072)
InRange (Work image form task) = Unit
InRange (Convert image new form) = Unit
InRange (Migrate image form) = Unit
InRange (Import image form task) = Unit
InRange (Export image form task) = Unit
InRange (Salvage image form task) = Unit

-- the path of the image that is named: of two, that of the existing one
abbrev pub image_named : Request → Option Text
image_named Fresh = None
image_named (Init image blocks form layout) = Some image.now
image_named (Work image form task) = Some image.now
image_named (Convert image new form) = Some image.now
image_named (Migrate image form) = Some image.now
image_named (Import image form task) = Some image.now
image_named (Export image form task) = Some image.now
image_named (Salvage image form task) = Some image.now

-- the path of a new image beside an existing one
abbrev pub new_named : Request → Option Text
new_named Fresh = None
new_named (Init image blocks form layout) = None
new_named (Work image form task) = None
new_named (Convert image new form) = Some new.now
new_named (Migrate image form) = None
new_named (Import image form task) = None
new_named (Export image form task) = None
new_named (Salvage image form task) = None

-- the files to import that the request names
abbrev pub sources_named : Request → List Text
sources_named Fresh = []
sources_named (Init image blocks form layout) = []
sources_named (Work image form task) = []
sources_named (Convert image new form) = []
sources_named (Migrate image form) = []
sources_named (Import image form task) = map (λ path. path.now) task.paths.items
sources_named (Export image form task) = []
sources_named (Salvage image form task) = []
