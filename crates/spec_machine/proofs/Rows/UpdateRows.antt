-- Worked rows of updates, computed.
use Rattle.std.proofs.Common.{◌≡◌, ℕ, List, [], ◌∷◌, ◌++◌, refl, pos}
use Rattle.words36.specs.Common.{join}
use Rattle.spec_image.specs.Common.{get, insert, remove, empty, entries, size}
use Rattle.spec_machine.specs.CommandLists.{dump_list, areas_from}
use Rattle.spec_machine.specs.declared.call.Call.TheVariants.{Useti, Useto}
use Rattle.spec_machine.specs.declared.call.Event.{Event}
use Rattle.spec_machine.specs.declared.call.Event.TheVariants.{Deposit, Examine}
use Rattle.spec_machine.specs.declared.call.Reply.TheVariants.{Done, Value, Refused, Stopped}
use Rattle.spec_machine.proofs.EventRuns.{small, ten_twenty, foo, bar, foo_of, parts, by, ready_with, names_words}
use Rattle.spec_machine.proofs.EventRuns.{words_at_500, looks_up, enters, out, takes, close}

-- job n looks the file up on its channel 1, and enters it there
abbrev updates : ℕ → ℕ → List Event
updates n ppn = ready_with n ppn 0o2000 ++ looks_up n foo ++ enters n foo

-- Ten words of a file of 300 are updated; others see the old words until CLOSE.
ten_words : parts small 1000 (foo_of 0o057 300) (
    updates 1 ten_twenty
    ∷ (by 1 (Useto 1 2) ∷ words_at_500 1 10 ++ Deposit 1 0o500 5 ∷ Deposit 1 0o511 6 ∷ out 1 ∷ [])
    ∷ (ready_with 2 ten_twenty 0o1000 ++ looks_up 2 foo ++ by 2 (Useti 1 2) ∷ words_at_500 2 11
    ++ takes 2 ∷ Examine 2 0o500 ∷ close 2 0 ∷ [])
    ∷ (close 1 0 ∷ [])
    ∷ (looks_up 2 foo ++ Examine 2 0o303 ∷ by 2 (Useti 1 2) ∷ takes 2 ∷ Examine 2 0o500 ∷ Examine 2 0o511
    ∷ Examine 2 0o512 ∷ [])
    ∷ [])
    ≡ (Done ∷ Done ∷ Done ∷ [], pos 39)
    ∷ (Done ∷ Done ∷ [], pos 39)
    ∷ (Done ∷ Done ∷ Done ∷ Done ∷ Value 7 ∷ Done ∷ [], pos 39)
    ∷ (Done ∷ [], pos 43)
    ∷ (Done ∷ Value (names_words 300 1) ∷ Done ∷ Done ∷ Value 5 ∷ Value 6 ∷ Value 7 ∷ [], pos 43)
    ∷ []
unfolding empty insert get remove entries size dump_list areas_from
ten_words = refl

-- A file of 128 words is updated beyond its end.
lengthened : parts small 1000 (foo_of 0o057 128) (
    updates 1 ten_twenty
    ∷ (by 1 (Useto 1 4) ∷ words_at_500 1 1 ++ out 1 ∷ [])
    ∷ (close 1 0 ∷ looks_up 1 foo ++ Examine 1 0o303 ∷ [])
    ∷ [])
    ≡ (Done ∷ Done ∷ Done ∷ [], pos 43) ∷ (Done ∷ Done ∷ [], pos 40) ∷ (Done ∷ Done ∷ Value 0o777177000000 ∷ [], pos 42)
    ∷ []
unfolding empty insert get remove entries size dump_list areas_from
lengthened = refl

-- An append leaves what was there, even if its input side was closed before.
appended : parts small 1000 (foo_of 0o047 300) (
    updates 2 (join 0o10 0o30)
    ∷ (by 2 (Useto 1 2) ∷ words_at_500 2 1 ++ out 2 ∷ by 2 (Useto 1 4) ∷ out 2 ∷ close 2 0 ∷ [])
    ∷ (looks_up 2 foo ++ Examine 2 0o303 ∷ by 2 (Useti 1 3) ∷ words_at_500 2 128 ++ takes 2 ∷ Examine 2 0o553
    ∷ Examine 2 0o554 ∷ Examine 2 0o677 ∷ [])
    ∷ [])
    ≡ (Done ∷ Done ∷ Done ∷ [], pos 39)
    ∷ (Done ∷ Stopped 0o040017 ∷ Done ∷ Done ∷ Done ∷ [], pos 42)
    ∷ (Done ∷ Value 0o777177000000 ∷ Done ∷ Done ∷ Value 7 ∷ Value 0 ∷ Value 0 ∷ [], pos 42)
    ∷ []
unfolding empty insert get remove entries size dump_list areas_from
appended = refl

appended_again : parts small 1000 (foo_of 0o047 300)
    ((updates 2 (join 0o10 0o30) ++ close 2 1 ∷ by 2 (Useto 1 2) ∷ words_at_500 2 1 ++ out 2 ∷ []) ∷ [])
    ≡ (Done ∷ Done ∷ Done ∷ Done ∷ Done ∷ Stopped 0o040017 ∷ [], pos 39) ∷ []
unfolding empty insert get remove entries size dump_list areas_from
appended_again = refl

-- What was written is read back on the channel itself, and dropped by CLOSE 40.
taken_back : parts small 1000 (foo_of 0o057 300) (
    (updates 1 ten_twenty ++ words_at_500 1 1 ++ Deposit 1 0o500 9 ∷ out 1 ∷ words_at_500 1 128
    ++ takes 1 ∷ Examine 1 0o500 ∷ Examine 1 0o501 ∷ [])
    ∷ (ready_with 2 ten_twenty 0o1000 ++ looks_up 2 foo ++ words_at_500 2 1 ++ takes 2 ∷ Examine 2 0o500
    ∷ close 2 0 ∷ [])
    ∷ (close 1 0o42 ∷ by 1 (Useti 1 1) ∷ takes 1 ∷ Examine 1 0o500 ∷ [])
    ∷ [])
    ≡ (Done ∷ Done ∷ Done ∷ Done ∷ Done ∷ Value 9 ∷ Value 7 ∷ [], pos 39)
    ∷ (Done ∷ Done ∷ Done ∷ Value 7 ∷ Done ∷ [], pos 39)
    ∷ (Done ∷ Done ∷ Done ∷ Value 7 ∷ [], pos 43)
    ∷ []
unfolding empty insert get remove entries size dump_list areas_from
taken_back = refl

-- An ENTER updates the version that another job has put in the place of the one that was looked up.
overtaken : parts small 1000 (foo_of 0o057 300) (
    (ready_with 1 ten_twenty 0o1000 ++ looks_up 1 foo)
    ∷ (ready_with 2 ten_twenty 0o1000 ++ enters 2 foo ++ words_at_500 2 1 ++ Deposit 2 0o500 3 ∷ out 2 ∷ close 2 0 ∷ [])
    ∷ (enters 1 foo ++ words_at_500 1 1 ++ takes 1 ∷ Examine 1 0o500 ∷ [])
    ∷ [])
    ≡ (Done ∷ Done ∷ [], pos 43)
    ∷ (Done ∷ Done ∷ Done ∷ Done ∷ [], pos 41)
    ∷ (Done ∷ Done ∷ Value 3 ∷ [], pos 43)
    ∷ []
unfolding empty insert get remove entries size dump_list areas_from
overtaken = refl

-- An ENTER of another name on a channel with an input side is out of order, also of no name at all.
elsewhere : parts small 1000 (foo_of 0o057 300)
    ((ready_with 1 ten_twenty 0o1000 ++ looks_up 1 foo ++ enters 1 bar ++ enters 1 0) ∷ [])
    ≡ (Done ∷ Done ∷ Refused 5 ∷ Refused 5 ∷ [], pos 43) ∷ []
unfolding empty insert get remove entries size dump_list areas_from
elsewhere = refl
