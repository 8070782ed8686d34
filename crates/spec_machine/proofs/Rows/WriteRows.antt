-- Worked rows, computed: files made, superseded and read, and the room at each stop.
use Rattle.std.proofs.Common.{◌≡◌, List, [], ◌∷◌, ◌++◌, replicate, refl, pos, ℕ, Ok}
use Rattle.spec_image.specs.Common.{get, insert, remove, empty, entries, size}
use Rattle.spec_machine.specs.CommandLists.{dump_list, areas_from}
use Rattle.spec_machine.specs.Room.{room}
use Rattle.spec_machine.specs.Sessions.{list}
use Rattle.spec_machine.specs.declared.call.Call.TheVariants.{Open, Enter}
use Rattle.spec_machine.specs.declared.call.Event.{Event}
use Rattle.spec_machine.specs.declared.call.Event.TheVariants.{Deposit, Examine}
use Rattle.spec_machine.specs.declared.call.Reply.TheVariants.{Done, Value, Refused, Stopped}
use Rattle.spec_machine.proofs.EventRuns.{run_events, small, ten_twenty, no_files, fresh, foo, bar, foo_of, parts, by}
use Rattle.spec_machine.proofs.EventRuns.{repeated, ready, named, names_words, words_at_500, enters, looks_up, out}
use Rattle.spec_machine.proofs.EventRuns.{takes, close}

-- The smallest disk: room 48, 47 with one directory, and no files in that.
bare : room small no_files ≡ pos 48
unfolding empty insert get entries size
bare = refl

smallest : room small fresh ≡ pos 47
unfolding empty insert get entries size
smallest = refl

no_names : list (run_events small 1000 fresh (ready 1)).1 1 ten_twenty ≡ Ok []
unfolding empty insert get entries
no_names = refl

-- An empty file is made, looked up and read.
empty_file : parts small 1000 fresh (
    (ready 1 ++ enters 1 foo ++ close 1 0 ∷ [])
    ∷ (looks_up 1 foo ++ Examine 1 0o302 ∷ Examine 1 0o303 ∷ words_at_500 1 1 ++ takes 1 ∷ [])
    ∷ [])
    ≡ (Done ∷ Done ∷ Done ∷ [], pos 46)
    ∷ (Done ∷ Value 0o057740000000 ∷ Value 0 ∷ Stopped 0o020017 ∷ [], pos 46)
    ∷ []
unfolding empty insert get remove entries size dump_list areas_from
empty_file = refl

-- Files of 1, 128 and 129 words, and the last one read by lists of 128 words.
abbrev makes : ℕ → ℕ → List Event
makes name count = enters 1 name ++ words_at_500 1 count ++ out 1 ∷ close 1 0 ∷ []

abbrev sees_size : ℕ → List Event
sees_size name = looks_up 1 name ++ Examine 1 0o303 ∷ []

sizes : parts small 1000 fresh (
    (ready 1 ++ makes foo 1 ++ makes bar 128 ++ makes 1 129)
    ∷ (sees_size foo ++ sees_size bar ++ sees_size 1)
    ∷ (words_at_500 1 128 ++ Deposit 1 0o501 9 ∷ takes 1 ∷ Examine 1 0o501 ∷ [])
    ∷ (Deposit 1 0o500 8 ∷ Deposit 1 0o501 9 ∷ Deposit 1 0o677 9 ∷ takes 1 ∷ Examine 1 0o500 ∷ Examine 1 0o501
    ∷ Examine 1 0o677 ∷ takes 1 ∷ [])
    ∷ [])
    ≡ (replicate 10 Done, pos 40)
    ∷ (Done ∷ Value 0o777777000000 ∷ Done ∷ Value 0o777600000000 ∷ Done ∷ Value 0o777577000000 ∷ [], pos 40)
    ∷ (Done ∷ Value 0 ∷ [], pos 40)
    ∷ (Done ∷ Value 0 ∷ Value 9 ∷ Value 9 ∷ Stopped 0o020017 ∷ [], pos 40)
    ∷ []
unfolding empty insert get remove entries size dump_list areas_from
sizes = refl

-- A file of 46 blocks fills the disk; nothing else can be entered then.
filled : parts small 1000 fresh (
    (ready 1 ++ enters 1 foo ++ words_at_500 1 128)
    ∷ repeated 46 (out 1)
    ∷ (out 1 ∷ close 1 0 ∷ [])
    ∷ sees_size foo
    ∷ (by 1 (Open 2 0o200) ∷ named 1 bar ++ by 1 (Enter 2 0o300) ∷ Examine 1 0o301 ∷ [])
    ∷ [])
    ≡ (Done ∷ Done ∷ [], pos 46)
    ∷ (replicate 46 Done, pos 0)
    ∷ (Stopped 0o040017 ∷ Done ∷ [], pos 0)
    ∷ (Done ∷ Value 0o764400000000 ∷ [], pos 0)
    ∷ (Done ∷ Refused 0o14 ∷ Value 0o647064000014 ∷ [], pos 0)
    ∷ []
unfolding empty insert get remove entries size dump_list areas_from
filled = refl

-- A file of 24 blocks is superseded when there is room for 21 blocks: what was written is dropped, or kept.
discarded : parts small 1000 (foo_of 0o057 3072) (
    ready 1
    ∷ (enters 1 foo ++ words_at_500 1 128 ++ repeated 21 (out 1))
    ∷ (out 1 ∷ close 1 0o40 ∷ sees_size foo)
    ∷ [])
    ≡ (Done ∷ [], pos 22)
    ∷ (replicate 22 Done, pos 0)
    ∷ (Stopped 0o040017 ∷ Done ∷ Done ∷ Value 0o772000000000 ∷ [], pos 22)
    ∷ []
unfolding empty insert get remove entries size dump_list areas_from
discarded = refl

superseded : parts small 1000 (foo_of 0o057 3072) (
    (ready 1 ++ enters 1 foo ++ words_at_500 1 128 ++ repeated 21 (out 1))
    ∷ (out 1 ∷ close 1 0 ∷ sees_size foo)
    ∷ [])
    ≡ (replicate 23 Done, pos 0)
    ∷ (Stopped 0o040017 ∷ Done ∷ Done ∷ Value (names_words 2688 1) ∷ [], pos 25)
    ∷ []
unfolding empty insert get remove entries size dump_list areas_from
superseded = refl

-- A reader keeps the version that another job supersedes; a LOOKUP of the name after that finds the new one.
held_version : parts small 1000 fresh (
    (ready 1 ++ enters 1 foo ++ words_at_500 1 128 ++ Deposit 1 0o500 7 ∷ out 1 ∷ Deposit 1 0o500 8 ∷ out 1
    ∷ close 1 0 ∷ [])
    ∷ (ready 2 ++ looks_up 2 foo ++ words_at_500 2 128 ++ takes 2 ∷ Examine 2 0o500 ∷ [])
    ∷ enters 1 foo
    ∷ (Deposit 1 0o500 9 ∷ out 1 ∷ [])
    ∷ (close 1 0 ∷ [])
    ∷ (takes 2 ∷ Examine 2 0o500 ∷ takes 2 ∷ [])
    ∷ (ready 3 ++ looks_up 3 foo ++ Examine 3 0o303 ∷ [])
    ∷ (close 2 0 ∷ [])
    ∷ [])
    ≡ (Done ∷ Done ∷ Done ∷ Done ∷ Done ∷ [], pos 44)
    ∷ (Done ∷ Done ∷ Done ∷ Value 7 ∷ [], pos 44)
    ∷ (Done ∷ [], pos 43)
    ∷ (Done ∷ [], pos 42)
    ∷ (Done ∷ [], pos 42)
    ∷ (Done ∷ Value 8 ∷ Stopped 0o020017 ∷ [], pos 42)
    ∷ (Done ∷ Done ∷ Value 0o777600000000 ∷ [], pos 42)
    ∷ (Done ∷ [], pos 45)
    ∷ []
unfolding empty insert get remove entries size dump_list areas_from
held_version = refl
