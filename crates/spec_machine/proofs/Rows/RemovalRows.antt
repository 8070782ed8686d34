-- Worked rows, computed: files renamed and deleted, directories removed, and who may do it.
use Rattle.std.proofs.Common.{◌≡◌, ℕ, zero, suc, ◌+◌, List, [], ◌∷◌, ◌++◌, replicate, length, refl, pos, Ok}
use Rattle.std.specs.Prelude.{Result, Err}
use Rattle.words36.specs.Common.{join}
use Rattle.spec_image.specs.Common.{get, insert, remove, empty, entries, size}
use Rattle.spec_machine.specs.CommandLists.{dump_list, areas_from}
use Rattle.spec_machine.specs.Jobs.{State}
use Rattle.spec_machine.specs.Sessions.{list}
use Rattle.spec_image.specs.declared.entry.Entry.{Entry}
use Rattle.spec_machine.specs.declared.call.Call.TheVariants.{Open, Lookup, Enter, Rename, MakeDir, DeleteDir}
use Rattle.spec_machine.specs.declared.call.Event.{Event}
use Rattle.spec_machine.specs.declared.call.Event.TheVariants.{Examine}
use Rattle.spec_machine.specs.declared.call.Reply.{Reply}
use Rattle.spec_machine.specs.declared.call.Reply.TheVariants.{Done, Value, Refused}
use Rattle.spec_machine.proofs.EventRuns.{run_events, small, ten_twenty, fresh, foo, bar, foo_of, parts, by, deposits}
use Rattle.spec_machine.proofs.EventRuns.{ready}
use Rattle.spec_machine.proofs.EventRuns.{ready_with, named, names_words, words_at_500, enters, looks_up, takes}
use Rattle.spec_machine.proofs.EventRuns.{close}

-- job n names a file of [10,20] at 300, with a protection in bits 0 to 8, and renames what channel 1 looked up
abbrev protected : ℕ → ℕ → ℕ → List Event
protected n name word = deposits n 0o300 (name ∷ 0o647064000000 ∷ word ∷ ten_twenty ∷ [])

abbrev renames : ℕ → ℕ → List Event
renames n name = protected n name 0o057000000000 ++ by n (Rename 1 0o300) ∷ []

-- A RENAME needs a LOOKUP; it takes no name that is there, and no file that is being written. A zero name deletes, and
-- a reader of the file continues to read it.
orders : parts small 1000 (foo_of 0o057 300) (
    (ready 1 ++ renames 1 foo ++ Examine 1 0o301 ∷ enters 1 bar ++ close 1 0 ∷ [])
    ∷ (looks_up 1 foo ++ renames 1 bar ++ Examine 1 0o301 ∷ [])
    ∷ (ready 2 ++ enters 2 foo ++ renames 1 1 ++ close 2 0o40 ∷ [])
    ∷ (looks_up 2 foo)
    ∷ (renames 1 0 ++ Examine 1 0o301 ∷ [])
    ∷ (words_at_500 2 1 ++ takes 2 ∷ Examine 2 0o500 ∷ [])
    ∷ (looks_up 1 foo ++ close 2 0 ∷ [])
    ∷ [])
    ≡ (Done ∷ Refused 5 ∷ Value 0o647064000005 ∷ Done ∷ Done ∷ [], pos 42)
    ∷ (Done ∷ Refused 4 ∷ Value 0o647064000004 ∷ [], pos 42)
    ∷ (Done ∷ Done ∷ Refused 3 ∷ Done ∷ [], pos 42)
    ∷ (Done ∷ [], pos 42)
    ∷ (Done ∷ Value 0o647064000000 ∷ [], pos 42)
    ∷ (Done ∷ Value 7 ∷ [], pos 42)
    ∷ (Refused 0 ∷ Done ∷ [], pos 46)
    ∷ []
unfolding empty insert get remove entries size dump_list areas_from
orders = refl

-- The version keeps its serial, so that it is booked once if one job reads it by its old name. Mode, date and words
-- stay, and the protection is the one given, 0 included.
kept : parts small 1000 (foo_of 0o057 300) (
    (ready 1 ++ ready 2 ++ looks_up 1 foo ++ looks_up 2 foo)
    ∷ (protected 1 bar 0 ++ by 1 (Rename 1 0o300) ∷ [])
    ∷ (looks_up 2 bar ++ Examine 2 0o302 ∷ Examine 2 0o303 ∷ [])
    ∷ (looks_up 1 foo)
    ∷ [])
    ≡ (Done ∷ Done ∷ Done ∷ Done ∷ [], pos 43)
    ∷ (Done ∷ [], pos 43)
    ∷ (Done ∷ Value 0o000740000000 ∷ Value (names_words 300 1) ∷ [], pos 43)
    ∷ (Refused 0 ∷ [], pos 43)
    ∷ []
unfolding empty insert get remove entries size dump_list areas_from
kept = refl

-- Digit 1 allows to rename and to delete, and not to change the protection.
owner_of_1 : parts small 1000 (foo_of 0o157 300) (
    (ready 1 ++ looks_up 1 foo ++ renames 1 bar ++ protected 1 bar 0o157000000000 ++ by 1 (Rename 1 0o300) ∷ [])
    ∷ (looks_up 1 bar ++ protected 1 0 0 ++ by 1 (Rename 1 0o300) ∷ [])
    ∷ [])
    ≡ (Done ∷ Done ∷ Refused 2 ∷ Done ∷ [], pos 43)
    ∷ (Done ∷ Done ∷ [], pos 47)
    ∷ []
unfolding empty insert get remove entries size dump_list areas_from
owner_of_1 = refl

-- Another directory: it has to exist and to allow creation.
abbrev ten_thirty : ℕ
ten_thirty = join 0o10 0o30

abbrev renames_to : ℕ → List Event
renames_to ppn = deposits 1 0o300 (foo ∷ 0o647064000000 ∷ 0o057000000000 ∷ ppn ∷ []) ++ by 1 (Rename 1 0o300) ∷ []

abbrev makes : ℕ → ℕ → ℕ → List Event
makes n ppn word = deposits n 0o300 (ppn ∷ word ∷ []) ++ by n (MakeDir 0o300) ∷ []

across : parts small 1000 (foo_of 0o057 300) (
    (ready 1 ++ looks_up 1 foo ++ renames_to ten_thirty)
    ∷ (ready_with 2 ten_thirty 0o1000 ++ makes 2 ten_thirty 0o755000000000 ++ renames_to ten_thirty)
    ∷ (ready_with 3 (join 1 2) 0o1000 ++ makes 3 (join 0o11 5) 0 ++ renames_to (join 0o11 5))
    ∷ (looks_up 1 foo ++ deposits 3 0o300 (foo ∷ 0o647064000000 ∷ 0 ∷ join 0o11 5 ∷ []) ++ by 3 (Lookup 1 0o300) ∷ [])
    ∷ [])
    ≡ (Done ∷ Done ∷ Refused 1 ∷ [], pos 43)
    ∷ (Done ∷ Done ∷ Refused 2 ∷ [], pos 42)
    ∷ (Done ∷ Done ∷ Refused 2 ∷ [], pos 41)
    ∷ (Done ∷ Refused 0 ∷ [], pos 41)
    ∷ []
unfolding empty insert get remove entries size dump_list areas_from
across = refl

welcome : parts small 1000 (foo_of 0o057 300) (
    (ready_with 2 ten_thirty 0o1000 ++ makes 2 ten_thirty 0 ++ ready 1 ++ looks_up 1 foo ++ renames_to ten_thirty)
    ∷ (looks_up 1 foo ++ deposits 2 0o300 (foo ∷ 0o647064000000 ∷ 0 ∷ 0 ∷ []) ++ by 2 (Lookup 1 0o300) ∷ [])
    ∷ [])
    ≡ (Done ∷ Done ∷ Done ∷ Done ∷ Done ∷ [], pos 42) ∷ (Refused 0 ∷ Done ∷ [], pos 42) ∷ []
unfolding empty insert get remove entries size dump_list areas_from
welcome = refl

-- A directory with a name in it stays, and so does one in which a name is being made.
abbrev removes : ℕ → ℕ → List Event
removes n ppn = deposits n 0o300 (ppn ∷ 0 ∷ []) ++ by n (DeleteDir 0o300) ∷ []

removed : parts small 1000 (foo_of 0o057 2) (
    (ready 1 ++ removes 1 ten_thirty ++ ready_with 2 ten_thirty 0o1000 ++ removes 2 ten_twenty ++ removes 1 ten_twenty
    ++ Examine 1 0o301 ∷ [])
    ∷ (looks_up 1 foo ++ renames 1 0 ++ enters 1 bar ++ removes 1 ten_twenty ++ close 1 0o40 ∷ [])
    ∷ (removes 1 ten_twenty ++ looks_up 1 foo)
    ∷ [])
    ≡ (Done ∷ Refused 1 ∷ Done ∷ Refused 2 ∷ Refused 0o22 ∷ Value 0o22 ∷ [], pos 45)
    ∷ (Done ∷ Done ∷ Done ∷ Refused 0o22 ∷ Done ∷ [], pos 47)
    ∷ (Done ∷ Refused 1 ∷ [], pos 48)
    ∷ []
unfolding empty insert get remove entries size dump_list areas_from
removed = refl

-- 42 empty files, a 43rd, which takes another block of the directory, and the first one deleted.
abbrev enter_names : ℕ → List Event
enter_names zero = []
enter_names (suc k) = enters 1 (k + 1) ++ close 1 0 ∷ enter_names k

abbrev count_names : Result (List Entry) Reply → ℕ
count_names (Ok names) = length names
count_names (Err reply) = 0

abbrev names_after : State → List Event → ℕ
names_after s events = count_names (list (run_events small 1000 s events).1 1 ten_twenty)

full_directory : parts small 1000 fresh (
    (ready 1 ++ enter_names 42)
    ∷ (enters 1 0o100 ++ close 1 0 ∷ [])
    ∷ (looks_up 1 1 ++ renames 1 0)
    ∷ [])
    ≡ (replicate 85 Done, pos 5) ∷ (Done ∷ Done ∷ [], pos 3) ∷ (Done ∷ Done ∷ [], pos 5) ∷ []
unfolding empty insert get remove entries size dump_list areas_from
full_directory = refl

names_left : names_after fresh (ready 1 ++ enter_names 42 ++ enters 1 0o100 ++ close 1 0 ∷ looks_up 1 1 ++ renames 1 0)
    ≡ 42
unfolding empty insert get remove entries size dump_list areas_from
names_left = refl

-- Rights: another of the project may read, a stranger may not, and neither may write; [1,2] may do everything.
rights : parts small 1000 (foo_of 0o057 300) (
    (ready_with 2 ten_thirty 0o1000 ++ deposits 2 0o200 (0o17 ∷ 0o446353000000 ∷ 0 ∷ [])
    ++ by 2 (Open 2 0o200) ∷ looks_up 2 foo ++ named 2 foo ++ by 2 (Enter 2 0o300) ∷ close 2 0 ∷ [])
    ∷ (ready_with 3 (join 0o11 5) 0o1000 ++ looks_up 3 foo ++ enters 3 bar)
    ∷ (ready_with 4 (join 1 2) 0o1000 ++ by 4 (Open 2 0o200) ∷ looks_up 4 foo ++ named 4 foo
    ++ by 4 (Enter 2 0o300) ∷ [])
    ∷ [])
    ≡ (Done ∷ Done ∷ Done ∷ Refused 2 ∷ Done ∷ [], pos 43)
    ∷ (Done ∷ Refused 2 ∷ Refused 2 ∷ [], pos 43)
    ∷ (Done ∷ Done ∷ Done ∷ Done ∷ [], pos 42)
    ∷ []
unfolding empty insert get remove entries size dump_list areas_from
rights = refl
