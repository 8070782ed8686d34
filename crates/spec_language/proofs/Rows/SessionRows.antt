-- Worked rows of sessions, computed: what lines ask, played on the machine, and what they print.
use Rattle.std.proofs.Common.{◌≡◌, true, false, [], ◌∷◌, ◌++◌, Some, None, refl}
use Rattle.std.specs.Prelude.{codes}
use Rattle.std.specs.Fmt.{digits}
use Rattle.words36.specs.Common.{join}
use Rattle.spec_image.specs.Common.{get, insert, remove, empty, entries, size}
use Rattle.spec_machine.specs.Common.{dump_list, areas_from}
use Rattle.spec_language.specs.Texts.{entry_text, listing}
use Rattle.spec_language.specs.Plans.{each, fetches, copy_runs_plan, type_runs_plan}
use Rattle.spec_language.specs.declared.command.Command.TheVariants.{Login as LoginLine, Directory as DirectoryLine}
use Rattle.spec_language.specs.declared.command.Command.TheVariants.{Copy as CopyLine, Rename as RenameLine}
use Rattle.spec_language.specs.declared.command.Command.TheVariants.{Delete as DeleteLine, TypeOut as TypeLine}
use Rattle.spec_language.specs.declared.command.Command.TheVariants.{Protect as ProtectLine, MakeDir as MakeLine}
use Rattle.spec_machine.proofs.Common.{small, ten_twenty, fresh}
use Rattle.spec_language.proofs.Rows.PlayedLines.{conduct, talk, text_of, two_lines, hello, foo_spec, bar_spec}

-- A session: a copy, a list, and a file deleted twice.
session : (talk small hello (LoginLine ten_twenty ∷ CopyLine bar_spec foo_spec ∷ DirectoryLine None
    ∷ DeleteLine foo_spec ∷ DeleteLine foo_spec ∷ [])).0
    ≡ record {
      text = text_of (codes "Job 1 [10,20]" ∷ codes "OK" ∷ codes "BAR    TXT     1  <057>   1-Jan-1964"
          ∷ codes "FOO    TXT     1  <057>   4-Jan-1975" ∷ codes "Total 2 blocks in 2 files [10,20]"
          ∷ codes "OK" ∷ codes "?File not found" ∷ []);
      refused = true;
      broke = false;
    }
unfolding empty insert get remove entries size dump_list areas_from each fetches copy_runs_plan type_runs_plan
    entry_text listing digits conduct
session = refl

-- Only a file's characters are typed.
types : (talk small hello (LoginLine ten_twenty ∷ TypeLine foo_spec ∷ TypeLine bar_spec ∷ [])).0
    ≡ record {
      text = text_of (codes "Job 1 [10,20]" ∷ (codes "HELLO" ++ 13 ∷ []) ∷ codes "?File not found" ∷ []);
      refused = true;
      broke = false;
    }
unfolding empty insert get remove entries size dump_list areas_from each fetches copy_runs_plan type_runs_plan
    entry_text listing digits conduct
types = refl

-- A directory is made and listed; a file gets another protection and another name, and doesn't prevent its own rename.
names_change : (talk small hello (LoginLine ten_twenty ∷ MakeLine ten_twenty 0 ∷ MakeLine (join 0o10 0o30) 0
    ∷ DirectoryLine (Some (join 0o10 0o30)) ∷ ProtectLine foo_spec 0o155 ∷ RenameLine bar_spec foo_spec
    ∷ RenameLine bar_spec foo_spec
    ∷ ProtectLine bar_spec 0o57 ∷ DirectoryLine None ∷ [])).0
    ≡ two_lines (codes "Job 1 [10,20]" ∷ codes "?File name already exists" ∷ codes "?Protection failure"
    ∷ codes "?No such directory" ∷ codes "OK" ∷ codes "OK" ∷ codes "?File not found"
    ∷ codes "?Protection failure" ∷ codes "BAR    TXT     1  <155>   4-Jan-1975"
    ∷ codes "Total 1 blocks in 1 files [10,20]" ∷ []) true
unfolding empty insert get remove entries size dump_list areas_from each fetches copy_runs_plan type_runs_plan
    entry_text listing digits conduct
names_change = refl

-- An empty directory.
no_files : (talk small fresh (LoginLine ten_twenty ∷ DirectoryLine None ∷ [])).0
    ≡ two_lines (codes "Job 1 [10,20]" ∷ codes "No files [10,20]" ∷ []) false
unfolding empty insert get remove entries size dump_list areas_from each fetches copy_runs_plan type_runs_plan
    entry_text listing digits conduct
no_files = refl
