-- Worked rows of quotas, computed: what directories are charged for, and what is refused then.
use Rattle.std.proofs.Common.{◌≡◌, ℕ, ◌+◌, List, [], ◌∷◌, ◌++◌, ℤ, pos, refl}
use Rattle.words36.specs.Common.{join}
use Rattle.spec_machine.specs.Charges.{charge}
use Rattle.spec_machine.specs.CommandLists.{dump_list, areas_from}
use Rattle.spec_machine.specs.Jobs.{State}
use Rattle.spec_image.specs.Common.{get, insert, remove, empty, entries, size, Pack}
use Rattle.spec_machine.specs.Room.{room}
use Rattle.spec_machine.specs.declared.call.Call.TheVariants.{Rename, MakeDir, DeleteDir, Quota}
use Rattle.spec_machine.specs.declared.call.Event.{Event}
use Rattle.spec_machine.specs.declared.call.Event.TheVariants.{Examine}
use Rattle.spec_machine.specs.declared.call.Reply.{Reply}
use Rattle.spec_machine.specs.declared.call.Reply.TheVariants.{Done, Value, Refused, Stopped, AddressCheck}
use Rattle.spec_machine.proofs.EventRuns.{run_events, shown_replies, small, ten_twenty, fresh, foo, bar, by, repeated}
use Rattle.spec_machine.proofs.EventRuns.{deposits}
use Rattle.spec_machine.proofs.EventRuns.{ready}
use Rattle.spec_machine.proofs.EventRuns.{ready_with, words_at_500, enters, looks_up, out, close}
use Rattle.spec_machine.proofs.Rows.ChargeRows.{limited, many}

-- a disk of 64 blocks in layout 2
abbrev wide : Pack
wide = record { layout = 2; blocks = 64 }

abbrev ten_thirty : ℕ
ten_thirty = join 0o10 0o30

abbrev operator : ℕ
operator = join 1 2

-- for each part of a run the replies in it, the room after it, and what a directory is charged for then
abbrev charged : Pack → ℕ → ℕ → State → List (List Event) → List (List Reply × (ℤ × ℕ))
charged pack ppn serial s [] = []
charged pack ppn serial s (events ∷ more) =
    let p = run_events pack serial s events in
    (shown_replies events p.0, (room pack p.1, charge p.1 ppn)) ∷ charged pack ppn (serial + 100) p.1 more

-- job n gives a directory a quota
abbrev limits : ℕ → ℕ → ℕ → List Event
limits n ppn quota = deposits n 0o300 (ppn ∷ join quota 0 ∷ []) ++ by n (Quota 0o300) ∷ []

abbrev makes : ℕ → ℕ → List Event
makes n ppn = deposits n 0o300 (ppn ∷ 0 ∷ []) ++ by n (MakeDir 0o300) ∷ []

abbrev removes : ℕ → ℕ → List Event
removes n ppn = deposits n 0o300 (ppn ∷ 0 ∷ []) ++ by n (DeleteDir 0o300) ∷ []

abbrev deletes : ℕ → List Event
deletes n = looks_up n foo ++ deposits n 0o300 (0 ∷ []) ++ by n (Rename 1 0o300) ∷ []

-- job 1 of [10,20] and job 2 of [1,2], with a quota for [10,20]
abbrev begins : ℕ → List Event
begins quota = ready 1 ++ ready_with 2 operator 0o1000 ++ limits 2 ten_twenty quota

-- A directory with a quota of 10 takes a file of 8 blocks and nothing else; with one of 20 the file is superseded by
-- one of 9 blocks; with one of 5, which is below its charge, the file is read and deleted.
fills_up : charged wide ten_twenty 1000 fresh (
    begins 10
    ∷ enters 1 foo
    ∷ (words_at_500 1 128 ++ repeated 8 (out 1))
    ∷ (out 1 ∷ [])
    ∷ (close 1 0 ∷ [])
    ∷ (enters 1 bar ++ enters 1 foo)
    ∷ (limits 2 ten_twenty 20 ++ enters 1 foo)
    ∷ (words_at_500 1 128 ++ repeated 9 (out 1))
    ∷ (out 1 ∷ [])
    ∷ (close 1 0 ∷ [])
    ∷ (limits 2 ten_twenty 5)
    ∷ deletes 1
    ∷ [])
    ≡ (Done ∷ Done ∷ Done ∷ [], (pos 47, 1))
    ∷ (Done ∷ [], (pos 46, 2))
    ∷ (Done ∷ Done ∷ Done ∷ Done ∷ Done ∷ Done ∷ Done ∷ Done ∷ [], (pos 38, 10))
    ∷ (Stopped 0o040017 ∷ [], (pos 38, 10))
    ∷ (Done ∷ [], (pos 38, 10))
    ∷ (Refused 0o14 ∷ Refused 0o14 ∷ [], (pos 38, 10))
    ∷ (Done ∷ Done ∷ [], (pos 37, 11))
    ∷ (Done ∷ Done ∷ Done ∷ Done ∷ Done ∷ Done ∷ Done ∷ Done ∷ Done ∷ [], (pos 28, 20))
    ∷ (Stopped 0o040017 ∷ [], (pos 28, 20))
    ∷ (Done ∷ [], (pos 37, 11))
    ∷ (Done ∷ [], (pos 37, 11))
    ∷ (Done ∷ Done ∷ [], (pos 47, 1))
    ∷ []
unfolding empty insert get remove entries size dump_list areas_from
fills_up = refl

-- Only [1,2] gives a quota. It needs two words, then layout 2, then the directory, whose number has no half of 0. Only
-- the left half of the second word counts; it stays at Done, and takes a refusal's code in its right half.
rights : charged wide ten_twenty 1000 fresh (
    begins 10
    ∷ (limits 1 ten_twenty 5 ++ limits 1 ten_thirty 5 ++ limits 2 0 5 ++ Examine 2 0o301 ∷ [])
    ∷ (deposits 2 0o776 (ten_twenty ∷ 1 ∷ []) ++ by 2 (Quota 0o776) ∷ by 2 (Quota 0o777) ∷ [])
    ∷ (deposits 2 0o300 (ten_twenty ∷ join 1 7 ∷ []) ++ by 2 (Quota 0o300) ∷ Examine 2 0o301 ∷ enters 1 foo)
    ∷ [])
    ≡ (Done ∷ Done ∷ Done ∷ [], (pos 47, 1))
    ∷ (Refused 2 ∷ Refused 1 ∷ Refused 1 ∷ Value 0o000005000001 ∷ [], (pos 47, 1))
    ∷ (Done ∷ AddressCheck ∷ [], (pos 47, 1))
    ∷ (Done ∷ Value 0o000001000007 ∷ Refused 0o14 ∷ [], (pos 47, 1))
    ∷ []
unfolding empty insert get remove entries size dump_list areas_from
rights = refl

-- Layout 1 has no quotas, for nobody.
in_layout_one : charged small ten_twenty 1000 fresh (
    (ready 1 ++ limits 1 ten_twenty 5 ++ ready_with 2 operator 0o1000 ++ limits 2 ten_thirty 5)
    ∷ (deposits 1 0o777 (0 ∷ []) ++ by 1 (Quota 0o777) ∷ enters 1 foo)
    ∷ [])
    ≡ (Done ∷ Refused 5 ∷ Done ∷ Refused 5 ∷ [], (pos 47, 1)) ∷ (AddressCheck ∷ Done ∷ [], (pos 46, 2)) ∷ []
unfolding empty insert get remove entries size dump_list areas_from
in_layout_one = refl

-- job 1 gives the file of [10,20] that it looks up another directory
abbrev moves : ℕ → List Event
moves ppn = looks_up 1 foo ++ deposits 1 0o300 (foo ∷ 0o647064000000 ∷ 0o057000000000 ∷ ppn ∷ [])
    ++ by 1 (Rename 1 0o300) ∷ []

-- Into another directory a file takes what it costs, 3 here: if as much is left, it comes. It leaves a directory that
-- is
-- over its quota, and changes its name within one.
moved : charged wide ten_thirty 1000 fresh (
    (ready 1 ++ ready_with 2 operator 0o1000 ++ makes 2 ten_thirty)
    ∷ (enters 1 foo ++ words_at_500 1 128 ++ out 1 ∷ out 1 ∷ close 1 0 ∷ limits 2 ten_thirty 3)
    ∷ moves ten_thirty
    ∷ (limits 2 ten_thirty 4 ++ limits 2 ten_twenty 1)
    ∷ moves ten_twenty
    ∷ moves ten_thirty
    ∷ [])
    ≡ (Done ∷ Done ∷ Done ∷ [], (pos 46, 1))
    ∷ (Done ∷ Done ∷ Done ∷ Done ∷ Done ∷ [], (pos 43, 1))
    ∷ (Done ∷ Refused 0o14 ∷ [], (pos 43, 1))
    ∷ (Done ∷ Done ∷ [], (pos 43, 1))
    ∷ (Done ∷ Done ∷ [], (pos 43, 1))
    ∷ (Done ∷ Done ∷ [], (pos 43, 4))
    ∷ []
unfolding empty insert get remove entries size dump_list areas_from
moved = refl

-- A reader pins the version that job 1 supersedes: the directory isn't charged for it any more, and the room is less.
held : charged wide ten_twenty 1000 fresh (
    (begins 6 ++ enters 1 foo ++ words_at_500 1 128 ++ out 1 ∷ out 1 ∷ close 1 0 ∷ looks_up 2 foo)
    ∷ enters 1 foo
    ∷ (close 1 0 ∷ [])
    ∷ (enters 1 bar ++ out 1 ∷ out 1 ∷ close 1 0 ∷ [])
    ∷ (close 2 0 ∷ [])
    ∷ [])
    ≡ (Done ∷ Done ∷ Done ∷ Done ∷ Done ∷ Done ∷ Done ∷ Done ∷ [], (pos 44, 4))
    ∷ (Done ∷ [], (pos 43, 5))
    ∷ (Done ∷ [], (pos 43, 2))
    ∷ (Done ∷ Done ∷ Done ∷ Done ∷ [], (pos 40, 5))
    ∷ (Done ∷ [], (pos 43, 5))
    ∷ []
unfolding empty insert get remove entries size dump_list areas_from
held = refl

-- An update needs as much as the whole file costs. Words over those that are there cost nothing more, whatever the
-- quota has become; words after them do.
updated : charged wide ten_twenty 1000 fresh (
    (begins 6 ++ enters 1 foo ++ words_at_500 1 128 ++ out 1 ∷ out 1 ∷ close 1 0 ∷ looks_up 1 foo)
    ∷ enters 1 foo
    ∷ (limits 2 ten_twenty 7 ++ enters 1 foo)
    ∷ (limits 2 ten_twenty 1 ++ out 1 ∷ out 1 ∷ [])
    ∷ (out 1 ∷ [])
    ∷ (close 1 0 ∷ [])
    ∷ [])
    ≡ (Done ∷ Done ∷ Done ∷ Done ∷ Done ∷ Done ∷ Done ∷ Done ∷ [], (pos 44, 4))
    ∷ (Refused 0o14 ∷ [], (pos 44, 4))
    ∷ (Done ∷ Done ∷ [], (pos 41, 7))
    ∷ (Done ∷ Done ∷ Done ∷ [], (pos 41, 7))
    ∷ (Stopped 0o040017 ∷ [], (pos 41, 7))
    ∷ (Done ∷ [], (pos 44, 4))
    ∷ []
unfolding empty insert get remove entries size dump_list areas_from
updated = refl

-- Only [1,2] removes a directory with a quota: that is reported before the files in it.
removed : charged wide ten_twenty 1000 fresh (
    (begins 9 ++ enters 1 foo ++ close 1 0 ∷ removes 1 ten_twenty ++ removes 2 ten_twenty)
    ∷ (deletes 1 ++ removes 1 ten_twenty ++ limits 2 ten_twenty 0 ++ removes 1 ten_twenty)
    ∷ (makes 1 ten_twenty ++ limits 2 ten_twenty 9 ++ removes 2 ten_twenty)
    ∷ [])
    ≡ (Done ∷ Done ∷ Done ∷ Done ∷ Done ∷ Refused 2 ∷ Refused 0o22 ∷ [], (pos 46, 2))
    ∷ (Done ∷ Done ∷ Refused 2 ∷ Done ∷ Done ∷ [], (pos 48, 0))
    ∷ (Done ∷ Done ∷ Done ∷ [], (pos 48, 0))
    ∷ []
unfolding empty insert get remove entries size dump_list areas_from
removed = refl

-- A creation is an entry: the 43rd needs one more block for the directory, which is 2 then.
grown : charged wide ten_twenty 1000 (limited 43 (many 41)) (
    (ready 1 ++ ready_with 2 operator 0o1000 ++ enters 1 foo)
    ∷ (limits 2 ten_twenty 44 ++ enters 2 bar)
    ∷ (limits 2 ten_twenty 45 ++ enters 2 bar)
    ∷ (close 1 0 ∷ close 2 0 ∷ [])
    ∷ [])
    ≡ (Done ∷ Done ∷ Done ∷ [], (pos 5, 43))
    ∷ (Done ∷ Refused 0o14 ∷ [], (pos 5, 43))
    ∷ (Done ∷ Done ∷ [], (pos 3, 45))
    ∷ (Done ∷ Done ∷ [], (pos 3, 45))
    ∷ []
unfolding empty insert get remove entries size dump_list areas_from
grown = refl
