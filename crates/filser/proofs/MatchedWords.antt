-- From what `clap` matched to what is requested.
use Rattle.std.proofs.Common.{◌≡◌, ◌+◌, ◌*◌, ◌≤◌, ◌<◌, ◌^◌, ◌∙◌, sym, ap, subst, refl, List, ℕ, map, codes, Option}
use Rattle.std.proofs.Common.{Some, None, Err, arith, true, false, true≢false, Bool, ◌||◌, inl, inr}
use Rattle.std.specs.Prelude.{[], ◌==◌, slice_index, option_map, IfSome, IfNone, MatchOption, IsErrOf}
use Rattle.std.specs.Str.Parse.{IsNumeral, digits_value, without_leading_plus}
use Rattle.clap.specs.Words.{Text, Row, App, all_of, one_of, first_value, matched_of, one_text, raw_values, rows_of}
use Rattle.clap.specs.Words.{is_simple, kind_of, fault_of, is_simple_and_free, HasKind, IsAmong, HasMatchesOf}
use Rattle.clap.specs.Words.{subcommand_of, subcommand_rows_of}
use Rattle.clap.specs.declared.parser.matches.ArgMatches.{ArgMatches}
use Rattle.clap.specs.declared.parser.matches.Found.{Found}
use Rattle.clap.specs.declared.error.Error.{Error}
use Rattle.clap.specs.declared.error.kind.ErrorKind.TheVariants.{OutOfMemory, ValueValidation}
use Rattle.clap.proofs.OnLiterals.{clap_on_literals}
use Rattle.clap.proofs.WalkLemmas.{first_value-rows, one_text-rows, raw_values-rows}
use Rattle.words36.specs.declared.moment.Moment.{Moment}
use Rattle.spec_language.specs.Common.{upper}
use Rattle.spec_language.specs.declared.encoding.Encoding.{Encoding}
use Rattle.spec_image.specs.declared.layout.Layout.{Layout}
use Rattle.commands.specs.Common.{IsDayText, IsFileName, IsOwnerName}
use Rattle.arguments.specs.CommandLine.{command_line, making, serving, filing, looking, init_app, run_app, calls_app}
use Rattle.arguments.specs.CommandLine.{put_app, get_app, delete_app, list_app, check_app, convert_app, converting}
use Rattle.arguments.specs.CommandLine.{dated, filed, formed, laid_out, located, migrate_app, sized, wire_app}
use Rattle.arguments.specs.CommandLine.{adapted, encoded, export_app, gathered, import_app, moving, salvage_app}
use Rattle.arguments.specs.CommandLine.{scattered, searched, unloaded}
use Rattle.filser.specs.Common.{Asks, IsAsked, IsTask, IsAt, IsNamedFile, IsListedPlace, HasText, HasNumber, AsksFor}
use Rattle.filser.specs.Common.{HasLayout, HasOwner, IsEncoding, IsImportTask, IsOneEncoding, LacksOwned, NamesEncoding}
use Rattle.filser.specs.Common.{HasDate, IsAskedSearch, IsDateNumber, IsMistaken, IsSalvageTask, IsUsage, NamesNoDate}
use Rattle.filser.specs.Common.{SaysDate, Spells, task_name}
use Rattle.collection.specs.declared.task.ImportTask.{ImportTask}
use Rattle.salvage.specs.declared.search.Search.{Search}
use Rattle.filser.specs.declared.task.NamedFile.{NamedFile}
use Rattle.filser.specs.declared.task.SalvageTask.{SalvageTask}
use Rattle.filser.specs.declared.task.Task.{Task}
use Rattle.filser.specs.declared.task.Task.TheVariants.{Run, Calls, Wire, Put, Get, Delete, List as ListAll, Check}
use Rattle.filser.specs.declared.error.RequestError.{RequestError}
use Rattle.filser.specs.declared.error.WrongArgument.{WrongArgument}
use Rattle.filser.specs.declared.error.RequestError.TheVariants.{Usage}
use Rattle.filser.specs.declared.request.Request.{Request}
use Rattle.filser.specs.declared.request.Request.TheVariants.{Fresh, Init, Work, Convert, Migrate, Import, Export}
use Rattle.filser.specs.declared.request.Request.TheVariants.{Salvage}
use Rattle.blockcache.proofs.CachedContents.{none_some, some_same}

-- The command line is one of those whose matches `clap` computes.

pub line-simple : is_simple command_line ≡ true
unfolding clap_on_literals command_line making serving filing moving looking init_app dated located filed run_app
    calls_app wire_app put_app get_app delete_app import_app export_app salvage_app list_app check_app convert_app
    migrate_app converting formed sized laid_out encoded gathered adapted scattered unloaded searched
line-simple = refl

pub line-free : is_simple_and_free command_line ≡ true
unfolding clap_on_literals command_line making serving filing moving looking init_app dated located filed run_app
    calls_app wire_app put_app get_app delete_app import_app export_app salvage_app list_app check_app convert_app
    migrate_app converting formed sized laid_out encoded gathered adapted scattered unloaded searched
line-free = refl

-- Texts and numbers.

pub text_matched : {X : Type 0} (f : Found) (id : Text) (now : X → Text) (result : Option X)
    → option_map now result ≡ first_value f id
    → MatchOption result ((t : Text) → HasText (rows_of f) id t → ⊥) (λ t. HasText (rows_of f) id (now t))
text_matched f id now None e = λ t has. none_some t (sym has ∙ sym (first_value-rows f id) ∙ sym e)
text_matched f id now (Some t) e = sym (e ∙ first_value-rows f id)

pub texts_matched : {X : Type 0} (f : Found) (id : Text) (now : X → List Text) (result : Option X)
    → option_map now result ≡ option_map raw_values (matched_of f id)
    → MatchOption result (all_of id (rows_of f) ≡ None) (λ s. all_of id (rows_of f) ≡ Some (now s))
texts_matched f id now None e = sym (e ∙ raw_values-rows f id)
texts_matched f id now (Some s) e = sym (e ∙ raw_values-rows f id)

-- what `get_one` reads, if the type's own reading is that of numbers below 2 ^ 32
abbrev pub Parsed : Option Text → Option ℕ → Type 0
Parsed text None = (t : Text) (n : ℕ) → text ≡ Some t → n < 2 ^ 32 → Spells t n → ⊥
Parsed text (Some n) = (t : Text) × (text ≡ Some t) × Spells t n

parsed_some : (text : Option Text) (n : ℕ) → (text ≡ None → Some n ≡ None)
    → ((t : Text) → text ≡ Some t → (IsNumeral 10 (without_leading_plus t)
    × (digits_value 10 (without_leading_plus t) < 2 ^ 32)) × (n ≡ digits_value 10 (without_leading_plus t)))
    → Parsed text (Some n)
parsed_some None n gone read = absurd (none_some n (gone refl))
parsed_some (Some t) n gone read = (t, refl, ((read t refl).0.0, sym (read t refl).1))

parsed_none : (text : Option Text) → ((t : Text) → text ≡ Some t → IsNumeral 10 (without_leading_plus t)
    × (digits_value 10 (without_leading_plus t) < 2 ^ 32) → ⊥) → Parsed text None
parsed_none text refused t n is small spells = refused t is
    (spells.0, (let P : ℕ → Type 0 = λ k. k < 2 ^ 32 in subst P (sym spells.1) small))

-- the text that `get_one` reads is that of the row
pub read_some : (f : Found) (id : Text) (n : ℕ) → (one_text f id ≡ None → Some n ≡ None)
    → ((t : Text) → one_text f id ≡ Some t
    → (IsNumeral 10 (without_leading_plus t) × (digits_value 10 (without_leading_plus t) < 2 ^ 32))
    × (n ≡ digits_value 10 (without_leading_plus t))) → Parsed (one_of id (rows_of f)) (Some n)
read_some f id n gone read =
    let P : Option Text → Type 0 = λ text. Parsed text (Some n) in
    subst P (one_text-rows f id) (parsed_some (one_text f id) n gone read)

pub read_none : (f : Found) (id : Text) → ((t : Text) → one_text f id ≡ Some t → IsNumeral 10 (without_leading_plus t)
    × (digits_value 10 (without_leading_plus t) < 2 ^ 32) → ⊥) → Parsed (one_of id (rows_of f)) None
read_none f id refused =
    let P : Option Text → Type 0 = λ text. Parsed text None in
    subst P (one_text-rows f id) (parsed_none (one_text f id) refused)

pub number_in_range : (rows : List Row) (id : Text) (least most n : ℕ) → Parsed (one_of id rows) (Some n)
    → least ≤ n → n ≤ most → HasNumber rows id least most n
number_in_range rows id least most n parsed above below = (parsed, above, below)

pub no_number : (rows : List Row) (id : Text) (least most : ℕ) → most < 2 ^ 32 → Parsed (one_of id rows) None
    → (n : ℕ) → HasNumber rows id least most n → ⊥
no_number rows id least most fits parsed n has = parsed has.0.0 n has.0.1 (omega (arith, fits, has.2)) has.0.2

one_spelled : (text : Option Text) (m n : ℕ) → Parsed text (Some m) → ((t : Text) × (text ≡ Some t) × Spells t n)
    → m ≡ n
one_spelled text m n parsed has =
    sym parsed.2.1
    ∙ ap (λ t. digits_value 10 (without_leading_plus t)) (some_same parsed.0 has.0 (sym parsed.1 ∙ has.1)) ∙ has.2.1

pub out_of_range : (rows : List Row) (id : Text) (least most m : ℕ) → Parsed (one_of id rows) (Some m)
    → (least ≤ m → m ≤ most → ⊥) → (n : ℕ) → HasNumber rows id least most n → ⊥
out_of_range rows id least most m parsed outside n has =
    let same = sym (one_spelled (one_of id rows) m n parsed has.0) in
    let above : least ≤ m = (let P : ℕ → Type 0 = λ k. least ≤ k in subst P same has.1) in
    let below : m ≤ most = (let P : ℕ → Type 0 = λ k. k ≤ most in subst P same has.2) in
    outside above below

-- Arguments that name a file, a directory or a moment, and those that don't.

pub has_owner : (rows : List Row) (text : Text) (found : Option ℕ) → HasText rows (codes "PPN") text
    → IfSome found (IsOwnerName text) → IfNone found ((owner : ℕ) → IsOwnerName text owner → ⊥)
    → MatchOption found ((owner : ℕ) → HasOwner rows owner → ⊥) (HasOwner rows)
has_owner rows text (Some owner) has some none = (text, has, some)
has_owner rows text None has some none = λ owner owned.
    none owner (subst (λ (t : Text). IsOwnerName t owner) (some_same owned.0 text (sym owned.1 ∙ has)) owned.2)

pub no_owned : (rows : List Row) → ((owner : ℕ) → HasOwner rows owner → ⊥) → LacksOwned rows
no_owned rows none owner file owned = none owner owned.0

pub no_name : (rows : List Row) (text : Text) → HasText rows (codes "NAME") text
    → ((name ext : ℕ) → IsFileName (map upper text) name ext → ⊥) → LacksOwned rows
no_name rows text has none owner file owned =
    let same = some_same owned.1.0 text (sym owned.1.1 ∙ has) in
    none file.name file.ext (subst (λ (t : Text). IsFileName (map upper t) file.name file.ext) same owned.1.2)

pub no_named : (rows : List Row) → LacksOwned rows → (f : NamedFile) → IsNamedFile rows f → ⊥
no_named rows none f named = none f.owner f.name (named.owner, named.name)

pub no_encoding : (rows : List Row) → ((e : Encoding) → IsEncoding rows e → ⊥) → (f : NamedFile) → IsNamedFile rows f
    → ⊥
no_encoding rows none f named = none f.encoding named.encoding

-- the first encoding whose flag is given is the only one, if no two are
pub one_asked : (rows : List Row) (found : Option Encoding) → IfSome found (AsksFor rows)
    → IfNone found ((e : Encoding) → AsksFor rows e → ⊥) → NamesEncoding rows → IsOneEncoding rows found
one_asked rows (Some e) some none names other = (
  λ same. subst (AsksFor rows) (some_same e other same) some,
  λ asks. ap Some (names e other some asks),
)
one_asked rows None some none names other =
    (λ same. absurd (none_some other (sym same)), λ asks. absurd (none other asks))

-- the task of `import` wants files, and what else names them
pub no_files : (rows : List Row) → all_of (codes "FILE") rows ≡ None → (t : ImportTask) → IsImportTask rows t → ⊥
no_files rows none t is = none_some (map (λ p. p.now) t.paths.items) (sym is.paths ∙ none)

pub no_directory : (rows : List Row) → ((owner : ℕ) → HasOwner rows owner → ⊥) → (t : ImportTask)
    → IsImportTask rows t → ⊥
no_directory rows none t is = none t.owner is.owner

pub no_one_encoding : (rows : List Row) → ((e : Option Encoding) → IsOneEncoding rows e → ⊥) → (t : ImportTask)
    → IsImportTask rows t → ⊥
no_one_encoding rows none t is = none t.encoding is.encoding

pub no_moment : (rows : List Row) → ((at : Moment) → IsAt rows at → ⊥) → (t : ImportTask) → IsImportTask rows t → ⊥
no_moment rows none t is = none t.moment is.moment

-- the task of `salvage` wants a search
pub no_search : (rows : List Row) → ((s : Search) → IsAskedSearch rows s → ⊥) → (t : SalvageTask)
    → IsSalvageTask rows t → ⊥
no_search rows none t is = none t.search is.search

pub no_place : (rows : List Row) (text : Text) → HasText rows (codes "PPN") text
    → ((owner : ℕ) → IsOwnerName text owner → ⊥) → (place : Option ℕ) → IsListedPlace rows place → ⊥
no_place rows text has none None gone = none_some text (sym has ∙ gone)
no_place rows text has none (Some owner) named =
    let same = some_same named.0 text (sym named.1 ∙ has) in
    none owner (subst (λ (t : Text). IsOwnerName t owner) same named.2)

pub no_date : (rows : List Row) → ((n : ℕ) → HasDate rows n → ⊥) → (at : Moment) → IsAt rows at → ⊥
no_date rows none at is = none at.date is.0

pub no_minute : (rows : List Row) → ((n : ℕ) → HasNumber rows (codes "minute") 0 1439 n → ⊥) → (at : Moment)
    → IsAt rows at → ⊥
no_minute rows none at is = none at.minute is.1

-- Subcommands.

-- what distinguishes the words of subcommands
abbrev mark : Text → ℕ
mark text = slice_index text 0 + 2 * slice_index text 1

differ : (name x y : Text) (m n : ℕ) → mark x ≡ m → mark y ≡ n → (m ≡ n → ⊥) → name ≡ x → name ≡ y → ⊥
differ name x y m n p q other e f = other (sym p ∙ ap mark (sym e ∙ f) ∙ q)

-- the mark of a task's word
abbrev task_mark : Task → ℕ
task_mark (Run at) = 348
task_mark (Calls at) = 293
task_mark Wire = 329
task_mark (Put file existing at) = 346
task_mark (Get file at) = 305
task_mark (Delete owner file) = 302
task_mark (ListAll place style) = 318
task_mark Check = 307

marked : (task : Task) → mark (task_name task) ≡ task_mark task
marked (Run at) = refl
marked (Calls at) = refl
marked Wire = refl
marked (Put file existing at) = refl
marked (Get file at) = refl
marked (Delete owner file) = refl
marked (ListAll place style) = refl
marked Check = refl

other_task : (name x : Text) (task : Task) (m : ℕ) → mark x ≡ m → (m ≡ task_mark task → ⊥) → name ≡ x
    → name ≡ task_name task → ⊥
other_task name x task m p other is asked = differ name x (task_name task) m (task_mark task) p (marked task) other is
    asked

-- whether a mark is that of a task's word
abbrev is_task_mark : ℕ → Bool
is_task_mark m = m == 348 || m == 293 || m == 329 || m == 346 || m == 305 || m == 302 || m == 318 || m == 307

is_task : (task : Task) → is_task_mark (task_mark task) ≡ true
is_task (Run at) = refl
is_task (Calls at) = refl
is_task Wire = refl
is_task (Put file existing at) = refl
is_task (Get file at) = refl
is_task (Delete owner file) = refl
is_task (ListAll place style) = refl
is_task Check = refl

-- another word is no task's
no_task : (name x : Text) (m : ℕ) (task : Task) → mark x ≡ m → is_task_mark m ≡ false → name ≡ x
    → name ≡ task_name task → ⊥
no_task name x m task p other is asked =
    true≢false (sym (is_task task) ∙ ap is_task_mark (sym (marked task) ∙ ap mark (sym asked ∙ is) ∙ p) ∙ other)

pub no_init : (name : Text) (rows : List Row) → name ≡ codes "init"
    → ((n : ℕ) → HasNumber rows (codes "BLOCKS") 64 131072 n → ⊥) → (r : Request) → IsAsked name rows r → ⊥
no_init name rows is none Fresh asked = asked
no_init name rows is none (Init image blocks form layout) asked = none blocks asked.2
no_init name rows is none (Work image form task) asked = no_task name (codes "init") 325 task refl refl is
    asked.2.0
no_init name rows is none (Convert image new form) asked =
    differ name (codes "init") (codes "convert") 325 321 refl refl (λ e. omega arith) is asked.0
no_init name rows is none (Migrate image form) asked =
    differ name (codes "init") (codes "migrate") 325 319 refl refl (λ e. omega arith) is asked.0
no_init name rows is none (Import image form task) asked =
    differ name (codes "init") (codes "import") 325 323 refl refl (λ e. omega arith) is asked.0
no_init name rows is none (Export image form task) asked =
    differ name (codes "init") (codes "export") 325 341 refl refl (λ e. omega arith) is asked.0
no_init name rows is none (Salvage image form task) asked =
    differ name (codes "init") (codes "salvage") 325 309 refl refl (λ e. omega arith) is asked.0

pub no_layout : (name : Text) (rows : List Row) → name ≡ codes "init"
    → ((l : Layout) → HasLayout rows l → ⊥) → (r : Request) → IsAsked name rows r → ⊥
no_layout name rows is none Fresh asked = asked
no_layout name rows is none (Init image blocks form layout) asked = none layout asked.4
no_layout name rows is none (Work image form task) asked = no_task name (codes "init") 325 task refl refl is
    asked.2.0
no_layout name rows is none (Convert image new form) asked =
    differ name (codes "init") (codes "convert") 325 321 refl refl (λ e. omega arith) is asked.0
no_layout name rows is none (Migrate image form) asked =
    differ name (codes "init") (codes "migrate") 325 319 refl refl (λ e. omega arith) is asked.0
no_layout name rows is none (Import image form task) asked =
    differ name (codes "init") (codes "import") 325 323 refl refl (λ e. omega arith) is asked.0
no_layout name rows is none (Export image form task) asked =
    differ name (codes "init") (codes "export") 325 341 refl refl (λ e. omega arith) is asked.0
no_layout name rows is none (Salvage image form task) asked =
    differ name (codes "init") (codes "salvage") 325 309 refl refl (λ e. omega arith) is asked.0

pub no_import : (name : Text) (rows : List Row) → name ≡ codes "import"
    → ((t : ImportTask) → IsImportTask rows t → ⊥) → (r : Request) → IsAsked name rows r → ⊥
no_import name rows is none Fresh asked = asked
no_import name rows is none (Init image blocks form layout) asked =
    differ name (codes "import") (codes "init") 323 325 refl refl (λ e. omega arith) is asked.0
no_import name rows is none (Work image form task) asked = no_task name (codes "import") 323 task refl refl is
    asked.2.0
no_import name rows is none (Convert image new form) asked =
    differ name (codes "import") (codes "convert") 323 321 refl refl (λ e. omega arith) is asked.0
no_import name rows is none (Migrate image form) asked =
    differ name (codes "import") (codes "migrate") 323 319 refl refl (λ e. omega arith) is asked.0
no_import name rows is none (Import image form task) asked = none task asked.3
no_import name rows is none (Export image form task) asked =
    differ name (codes "import") (codes "export") 323 341 refl refl (λ e. omega arith) is asked.0
no_import name rows is none (Salvage image form task) asked =
    differ name (codes "import") (codes "salvage") 323 309 refl refl (λ e. omega arith) is asked.0

-- A task of a word has what belongs to that word.

pub no_run : (name : Text) (rows : List Row) → name ≡ codes "run" → ((at : Moment) → IsAt rows at → ⊥)
    → (t : Task) → IsTask name rows t → ⊥
no_run name rows is none (Run at) asked = none at asked.1
no_run name rows is none (Calls at) asked = other_task name (codes "run") (Calls at) 348 refl (λ e. omega arith) is
    asked.0
no_run name rows is none Wire asked = other_task name (codes "run") Wire 348 refl (λ e. omega arith) is asked.0
no_run name rows is none (Delete owner file) asked = other_task name (codes "run") (Delete owner file) 348 refl
    (λ e. omega arith) is asked.0
no_run name rows is none (Put file existing at) asked = other_task name (codes "run") (Put file existing at) 348 refl
    (λ e. omega arith) is
    asked.0
no_run name rows is none (Get file at) asked = other_task name (codes "run") (Get file at) 348 refl
    (λ e. omega arith) is
    asked.0
no_run name rows is none (ListAll place style) asked = other_task name (codes "run") (ListAll place style) 348 refl
    (λ e. omega arith) is asked.0
no_run name rows is none Check asked = other_task name (codes "run") Check 348 refl (λ e. omega arith) is asked.0

pub no_calls : (name : Text) (rows : List Row) → name ≡ codes "calls" → ((at : Moment) → IsAt rows at → ⊥)
    → (t : Task) → IsTask name rows t → ⊥
no_calls name rows is none (Run at) asked = other_task name (codes "calls") (Run at) 293 refl (λ e. omega arith) is
    asked.0
no_calls name rows is none (Calls at) asked = none at asked.1
no_calls name rows is none Wire asked = other_task name (codes "calls") Wire 293 refl (λ e. omega arith) is asked.0
no_calls name rows is none (Delete owner file) asked = other_task name (codes "calls") (Delete owner file) 293 refl
    (λ e. omega arith) is asked.0
no_calls name rows is none (Put file existing at) asked =
    other_task name (codes "calls") (Put file existing at) 293 refl
    (λ e. omega arith) is asked.0
no_calls name rows is none (Get file at) asked = other_task name (codes "calls") (Get file at) 293 refl
    (λ e. omega arith) is asked.0
no_calls name rows is none (ListAll place style) asked = other_task name (codes "calls") (ListAll place style) 293 refl
    (λ e. omega arith) is asked.0
no_calls name rows is none Check asked = other_task name (codes "calls") Check 293 refl (λ e. omega arith) is asked.0

pub no_put : (name : Text) (rows : List Row) → name ≡ codes "put"
    → ((f : NamedFile) (at : Moment) → IsNamedFile rows f → IsAt rows at → ⊥) → (t : Task) → IsTask name rows t → ⊥
no_put name rows is none (Run at) asked = other_task name (codes "put") (Run at) 346 refl (λ e. omega arith) is asked.0
no_put name rows is none (Calls at) asked = other_task name (codes "put") (Calls at) 346 refl (λ e. omega arith) is
    asked.0
no_put name rows is none Wire asked = other_task name (codes "put") Wire 346 refl (λ e. omega arith) is asked.0
no_put name rows is none (Delete owner file) asked = other_task name (codes "put") (Delete owner file) 346 refl
    (λ e. omega arith) is asked.0
no_put name rows is none (Put file existing at) asked = none file at asked.1.0 asked.1.2
no_put name rows is none (Get file at) asked = other_task name (codes "put") (Get file at) 346 refl
    (λ e. omega arith) is
    asked.0
no_put name rows is none (ListAll place style) asked = other_task name (codes "put") (ListAll place style) 346 refl
    (λ e. omega arith) is asked.0
no_put name rows is none Check asked = other_task name (codes "put") Check 346 refl (λ e. omega arith) is asked.0

pub no_get : (name : Text) (rows : List Row) → name ≡ codes "get"
    → ((f : NamedFile) (at : Moment) → IsNamedFile rows f → IsAt rows at → ⊥) → (t : Task) → IsTask name rows t → ⊥
no_get name rows is none (Run at) asked = other_task name (codes "get") (Run at) 305 refl (λ e. omega arith) is asked.0
no_get name rows is none (Calls at) asked = other_task name (codes "get") (Calls at) 305 refl (λ e. omega arith) is
    asked.0
no_get name rows is none Wire asked = other_task name (codes "get") Wire 305 refl (λ e. omega arith) is asked.0
no_get name rows is none (Delete owner file) asked = other_task name (codes "get") (Delete owner file) 305 refl
    (λ e. omega arith) is asked.0
no_get name rows is none (Put file existing at) asked = other_task name (codes "get") (Put file existing at) 305 refl
    (λ e. omega arith) is
    asked.0
no_get name rows is none (Get file at) asked = none file at asked.1.0 asked.1.1
no_get name rows is none (ListAll place style) asked = other_task name (codes "get") (ListAll place style) 305 refl
    (λ e. omega arith) is asked.0
no_get name rows is none Check asked = other_task name (codes "get") Check 305 refl (λ e. omega arith) is asked.0

pub no_delete : (name : Text) (rows : List Row) → name ≡ codes "delete" → LacksOwned rows → (t : Task)
    → IsTask name rows t → ⊥
no_delete name rows is none (Run at) asked = other_task name (codes "delete") (Run at) 302 refl (λ e. omega arith) is
    asked.0
no_delete name rows is none (Calls at) asked = other_task name (codes "delete") (Calls at) 302 refl (λ e. omega arith)
    is asked.0
no_delete name rows is none Wire asked = other_task name (codes "delete") Wire 302 refl (λ e. omega arith) is asked.0
no_delete name rows is none (Put file existing at) asked =
    other_task name (codes "delete") (Put file existing at) 302 refl
    (λ e. omega arith) is asked.0
no_delete name rows is none (Get file at) asked = other_task name (codes "delete") (Get file at) 302 refl
    (λ e. omega arith) is asked.0
no_delete name rows is none (Delete owner file) asked = none owner file asked.1
no_delete name rows is none (ListAll place style) asked = other_task name (codes "delete") (ListAll place style) 302
    refl (λ e. omega arith) is asked.0
no_delete name rows is none Check asked = other_task name (codes "delete") Check 302 refl (λ e. omega arith) is asked.0

-- If `clap` answers, for any app that is the command line.

pub same_error : (x y : RequestError) → IsErrOf {T = Request} {E = RequestError} (Err x) y → x ≡ y
same_error x y e = cc

pub of_usage : (app : App) (words : List Text) (error e : Error) (refused : RequestError) → app ≡ command_line
    → (is_simple_and_free app ≡ true → HasKind (fault_of app words) error)
    → ((u : Error) → refused ≡ Usage u → (error ≡ u) × (kind_of error ≡ OutOfMemory → ⊥))
    → IsErrOf {T = Request} {E = RequestError} (Err refused) (Usage e)
    → IsUsage (fault_of command_line words) (subcommand_of command_line words) e
of_usage app words error e refused is fails shows same =
    let free : is_simple_and_free app ≡ true = ap is_simple_and_free is ∙ line-free in
    let kept = shows e (same_error refused (Usage e) same) in
    let P : App → Type 0 = λ a. IsAmong (kind_of error) (fault_of a words) in
    let Q : Error → Type 0 = λ x. IsAmong (kind_of x) (fault_of command_line words) in
    let among : IsAmong (kind_of error) (fault_of app words) = elim (fails free) as (λ h.
    IsAmong (kind_of error) (fault_of app words)) [
      | inl memory ↦ absurd (kept.1 memory)
      | inr found ↦ found
    ] in
    inl (subst Q kept.0 (subst P is among))

pub of_taken : (app : App) (words : List Text) → app ≡ command_line
    → (is_simple_and_free app ≡ true → fault_of app words ≡ []) → fault_of command_line words ≡ []
of_taken app words is taken =
    sym (ap (λ a. fault_of a words) is) ∙ taken (ap is_simple_and_free is ∙ line-free)

pub of_matches : (app : App) (words : List Text) (m : ArgMatches) → app ≡ command_line → HasMatchesOf app words m
    → subcommand_rows_of m ≡ subcommand_of command_line words
of_matches app words m is has =
    (has (ap is_simple is ∙ line-simple)).1 ∙ ap (λ a. subcommand_of a words) is

pub of_found : (app : App) (words : List Text) (m : ArgMatches) (r : Request) → app ≡ command_line
    → HasMatchesOf app words m → Asks (subcommand_rows_of m) r → Asks (subcommand_of command_line words) r
of_found app words m r is has asks =
    let P : Option (Text × List Row) → Type 0 = λ found. Asks found r in
    subst P (of_matches app words m is has) asks

pub of_none : (app : App) (words : List Text) (m : ArgMatches) → app ≡ command_line → HasMatchesOf app words m
    → ((r : Request) → Asks (subcommand_rows_of m) r → ⊥) → (r : Request) → Asks (subcommand_of command_line words) r
    → ⊥
of_none app words m is has none r asks =
    let P : Option (Text × List Row) → Type 0 = λ found. Asks found r in
    none r (subst P (sym (of_matches app words m is has)) asks)

-- what was found is requested, or nothing is
pub found_asked : (found : Option (Text × List Row)) (o : Option Request) (r : Request)
    → MatchOption o ((x : Request) → Asks found x → ⊥) (Asks found) → o ≡ Some r → Asks found r
found_asked found o r matched is =
    let P : Option Request → Type 0 = λ x. MatchOption x ((y : Request) → Asks found y → ⊥) (Asks found) in
    subst P is matched

pub found_nothing : (found : Option (Text × List Row)) (o : Option Request)
    → MatchOption o ((x : Request) → Asks found x → ⊥) (Asks found) → o ≡ None → (r : Request) → Asks found r → ⊥
found_nothing found o matched is =
    let P : Option Request → Type 0 = λ x. MatchOption x ((y : Request) → Asks found y → ⊥) (Asks found) in
    subst P is matched

-- Why they make no request.

pub of_bad : (app : App) (words : List Text) (m : ArgMatches) (wrong : Option WrongArgument) → app ≡ command_line
    → HasMatchesOf app words m → IsMistaken (subcommand_rows_of m) wrong
    → IsMistaken (subcommand_of command_line words) wrong
of_bad app words m wrong is has mistaken =
    let P : Option (Text × List Row) → Type 0 = λ found. IsMistaken found wrong in
    subst P (of_matches app words m is has) mistaken

pub of_past : (app : App) (words : List Text) (m : ArgMatches) (refused : RequestError) (e : Error)
    → app ≡ command_line → HasMatchesOf app words m → fault_of command_line words ≡ []
    → ((u : Error) → refused ≡ Usage u → (kind_of u ≡ ValueValidation) × NamesNoDate (subcommand_rows_of m))
    → ((r : Request) → Asks (subcommand_rows_of m) r → ⊥)
    → IsErrOf {T = Request} {E = RequestError} (Err refused) (Usage e)
    → IsUsage (fault_of command_line words) (subcommand_of command_line words) e
of_past app words m refused e is has taken shows none same =
    let past = shows e (same_error refused (Usage e) same) in
    let P : Option (Text × List Row) → Type 0 = NamesNoDate in
    inr (taken, past.0, subst P (of_matches app words m is has) past.1, of_none app words m is has none)

-- Dates.

pub says_day : (found : Option ℕ) (text bytes : Text) → bytes ≡ text → IfSome found (IsDayText bytes)
    → IfNone found ((n : ℕ) → IsDayText bytes n → ⊥) → ((n : ℕ) → IsDateNumber text n → ⊥)
    → MatchOption found ((n : ℕ) → SaysDate text n → ⊥) (SaysDate text)
says_day (Some n) text bytes same some none other = inr (subst (λ (t : Text). IsDayText t n) same some)
says_day None text bytes same some none other = λ n says. elim says [
  | inl number ↦ other n number
  | inr day ↦ none n (subst (λ (t : Text). IsDayText t n) (sym same) day)
]

pub has_date : (rows : List Row) (text : Text) (found : Option ℕ) → HasText rows (codes "date") text
    → MatchOption found ((n : ℕ) → SaysDate text n → ⊥) (SaysDate text)
    → MatchOption found ((n : ℕ) → HasDate rows n → ⊥) (HasDate rows)
has_date rows text (Some n) has says = (text, has, says)
has_date rows text None has none = λ n h.
    let same : h.0 ≡ text = some_same h.0 text (sym h.1 ∙ has) in
    none n (subst (λ (t : Text). SaysDate t n) same h.2)
