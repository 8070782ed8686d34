-- Worked rows of copies, computed: all words are copied, or there is no room and nothing is left.
use Rattle.std.proofs.Common.{◌≡◌, true, false, [], ◌∷◌, None, ℕ, ℤ, pos, refl}
use Rattle.std.specs.Prelude.{codes}
use Rattle.std.specs.Fmt.{digits}
use Rattle.spec_image.specs.Common.{get, insert, remove, empty, entries, size}
use Rattle.spec_machine.specs.Common.{dump_list, areas_from, room}
use Rattle.spec_language.specs.Texts.{Spoken, entry_text, listing}
use Rattle.spec_language.specs.Plans.{each, fetches, copy_runs_plan, type_runs_plan}
use Rattle.spec_language.specs.declared.command.Command.TheVariants.{Login as LoginLine, Directory as DirectoryLine}
use Rattle.spec_language.specs.declared.command.Command.TheVariants.{Copy as CopyLine}
use Rattle.spec_machine.proofs.Common.{small, ten_twenty, foo_of}
use Rattle.spec_language.proofs.Rows.PlayedLines.{conduct, talk, two_lines, foo_spec, bar_spec}

-- What is printed with a disk of one file of `words` words, for a copy and a list; and the room after that.
abbrev copied : ℕ → Spoken × ℤ
copied words =
    let lines = LoginLine ten_twenty ∷ CopyLine bar_spec foo_spec ∷ DirectoryLine None ∷ [] in
    let a = talk small (foo_of 0o057 words) lines in (a.0, room small a.1)

-- A copy of three blocks has all words of the file, and the blocks of a copy that finds no room are freed.
copies_all : copied 300 ≡ (
  two_lines (codes "Job 1 [10,20]" ∷ codes "OK"
      ∷ codes "BAR    TXT     3  <057>   1-Jan-1964" ∷ codes "FOO    TXT     3  <057>   1-Jan-1964"
      ∷ codes "Total 6 blocks in 2 files [10,20]" ∷ []) false,
  pos 39,
)
unfolding empty insert get remove entries size dump_list areas_from each fetches copy_runs_plan type_runs_plan
    entry_text listing digits conduct
copies_all = refl

no_room : copied 3072 ≡ (
  two_lines (codes "Job 1 [10,20]" ∷ codes "?No room"
      ∷ codes "FOO    TXT    24  <057>   1-Jan-1964" ∷ codes "Total 24 blocks in 1 files [10,20]" ∷ []) true,
  pos 22,
)
unfolding empty insert get remove entries size dump_list areas_from each fetches copy_runs_plan type_runs_plan
    entry_text listing digits conduct
no_room = refl

-- So has one of eighteen blocks, sixteen of which are moved at once; if there is no room for sixteen, the line is
-- refused.
copies_by_runs : copied 2300 ≡ (
  two_lines (codes "Job 1 [10,20]" ∷ codes "OK"
      ∷ codes "BAR    TXT    18  <057>   1-Jan-1964" ∷ codes "FOO    TXT    18  <057>   1-Jan-1964"
      ∷ codes "Total 36 blocks in 2 files [10,20]" ∷ []) false,
  pos 9,
)
unfolding empty insert get remove entries size dump_list areas_from each fetches copy_runs_plan type_runs_plan
    entry_text listing digits conduct
copies_by_runs = refl

no_room_for_run : copied 3840 ≡ (
  two_lines (codes "Job 1 [10,20]" ∷ codes "?No room"
      ∷ codes "FOO    TXT    30  <057>   1-Jan-1964" ∷ codes "Total 30 blocks in 1 files [10,20]" ∷ []) true,
  pos 16,
)
unfolding empty insert get remove entries size dump_list areas_from each fetches copy_runs_plan type_runs_plan
    entry_text listing digits conduct
no_room_for_run = refl
