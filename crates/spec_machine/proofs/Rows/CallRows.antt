-- Worked rows, computed: dates, command lists, places in a file, and rivals.
use Rattle.std.proofs.Common.{◌≡◌, ℕ, zero, suc, ◌+◌, List, Some, None, [], ◌∷◌, ◌++◌, refl, pos, Ok, arith}
use Rattle.words36.specs.Common.{join, date_number}
use Rattle.spec_image.specs.Common.{name_cmp, SpecVersion, FinMap, get, insert, remove, empty, entries, size, Pack}
use Rattle.spec_machine.specs.Jobs.{State, no_jobs}
use Rattle.spec_machine.specs.CommandLists.{dump_list, areas_from}
use Rattle.spec_machine.specs.Sessions.{list}
use Rattle.spec_machine.specs.declared.call.Call.TheVariants.{Open, Enter, In, Useti, Useto, Releas, Getsts, Reset}
use Rattle.spec_machine.specs.declared.call.Call.TheVariants.{MakeDir}
use Rattle.spec_machine.specs.declared.call.Event.TheVariants.{Deposit, Examine, Call as Calls}
use Rattle.spec_machine.specs.declared.call.Reply.TheVariants.{Done, Value, Refused, Stopped, NoChannel, AddressCheck}
use Rattle.spec_machine.specs.declared.call.Reply.TheVariants.{NoJob, DateRange}
use Rattle.spec_machine.proofs.EventRuns.{run_events, small, ten_twenty, fresh, no_files, foo, bar, foo_of, parts, at}
use Rattle.spec_machine.proofs.EventRuns.{by}
use Rattle.spec_machine.proofs.EventRuns.{deposits, ready, ready_with, named, words_at_500, enters, looks_up, out}
use Rattle.spec_machine.proofs.EventRuns.{takes, close}

-- The last date of twelve bits, and the one after it.
last_day : date_number 1975 1 4 ≡ 4095
last_day = refl

dates : parts small 1000 fresh (
    (ready 1 ++ named 1 foo)
    ∷ (Calls 1 (Enter 1 0o300) (at 4096 605 (omega arith) (omega arith)) ∷ Examine 1 0o301 ∷ Examine 1 0o302 ∷ [])
    ∷ (Calls 1 (Enter 1 0o300) (at 4095 605 (omega arith) (omega arith)) ∷ Examine 1 0o302 ∷ [])
    ∷ [])
    ≡ (Done ∷ [], pos 47)
    ∷ (DateRange ∷ Value 0o647064000000 ∷ Value 0 ∷ [], pos 47)
    ∷ (Done ∷ Value 0o057751357777 ∷ [], pos 46)
    ∷ []
unfolding empty insert get remove entries size dump_list areas_from
dates = refl

-- In layout 2 the date's high bits are beside the extension.
abbrev second : Pack
second = record { layout = 2; blocks = 64 }

late : parts second 1000 fresh (
    (ready 1 ++ named 1 foo ++ Calls 1 (Enter 1 0o300) (at 4096 605 (omega arith) (omega arith)) ∷ Examine 1 0o301
    ∷ Examine 1 0o302 ∷ close 1 0 ∷ [])
    ∷ (looks_up 1 foo ++ Examine 1 0o301 ∷ named 1 bar ++ by 1 (Open 2 0o200)
    ∷ Calls 1 (Enter 2 0o300) (at 32767 0 (omega arith) (omega arith)) ∷ Examine 1 0o301 ∷ [])
    ∷ [])
    ≡ (Done ∷ Done ∷ Value 0o647064100000 ∷ Value 0o057751350000 ∷ Done ∷ [], pos 46)
    ∷ (Done ∷ Value 0o647064100000 ∷ Done ∷ Done ∷ Value 0o647064700000 ∷ [], pos 45)
    ∷ []
unfolding empty insert get remove entries size dump_list areas_from
late = refl

-- A file of the words 1 to 5, and command lists: one that continues elsewhere, one that doesn't end, and one that names
-- its own words while they are moved.
lists : parts small 1000 fresh (
    (ready 1 ++ enters 1 foo ++ words_at_500 1 5 ++ deposits 1 0o500 (1 ∷ 2 ∷ 3 ∷ 4 ∷ 5 ∷ [])
    ++ out 1 ∷ close 1 0 ∷ looks_up 1 foo)
    ∷ (deposits 1 0o400 (0o777775000577 ∷ 0o000000000410 ∷ []) ++ deposits 1 0o410 (0o777776000677 ∷ 0 ∷ [])
    ++ takes 1 ∷ Examine 1 0o600 ∷ Examine 1 0o601 ∷ Examine 1 0o602 ∷ Examine 1 0o700 ∷ Examine 1 0o701 ∷ [])
    ∷ (Deposit 1 0o420 0o000000000420 ∷ by 1 (In 1 0o420) ∷ [])
    ∷ (by 1 (Useti 1 1) ∷ deposits 1 0o430 (0o777776000427 ∷ 0o777777000577 ∷ 0 ∷ []) ++ by 1 (In 1 0o430)
    ∷ Examine 1 0o430 ∷ Examine 1 0o431 ∷ Examine 1 0o600 ∷ [])
    ∷ [])
    ≡ (Done ∷ Done ∷ Done ∷ Done ∷ Done ∷ [], pos 45)
    ∷ (Done ∷ Value 1 ∷ Value 2 ∷ Value 3 ∷ Value 4 ∷ Value 5 ∷ [], pos 45)
    ∷ (AddressCheck ∷ [], pos 45)
    ∷ (Done ∷ Done ∷ Value 1 ∷ Value 2 ∷ Value 3 ∷ [], pos 45)
    ∷ []
unfolding empty insert get remove entries size dump_list areas_from
lists = refl

-- Places of blocks: words put beyond the end, block 0, and a block far beyond the end.
places : parts small 1000 fresh (
    (ready 1 ++ enters 1 foo ++ by 1 (Useto 1 4) ∷ words_at_500 1 1 ++ Deposit 1 0o500 9 ∷ out 1 ∷ [])
    ∷ (close 1 0 ∷ looks_up 1 foo ++ Examine 1 0o303 ∷ by 1 (Useti 1 0) ∷ by 1 (Getsts 1) ∷ by 1 (Useti 1 0o777777)
    ∷ takes 1 ∷ [])
    ∷ (by 1 (Useti 1 3) ∷ words_at_500 1 128 ++ takes 1 ∷ Examine 1 0o500 ∷ Examine 1 0o677 ∷ takes 1 ∷ Examine 1 0o500
    ∷ [])
    ∷ [])
    ≡ (Done ∷ Done ∷ Done ∷ Done ∷ [], pos 42)
    ∷ (
      Done ∷ Done ∷ Value 0o777177000000 ∷ Stopped 0o040017 ∷ Value 0o000000040017 ∷ Done ∷ Stopped 0o020017 ∷ [],
      pos 42,
    )
    ∷ (Done ∷ Done ∷ Value 0 ∷ Value 0 ∷ Done ∷ Value 9 ∷ [], pos 42)
    ∷ []
unfolding empty insert get remove entries size dump_list areas_from
places = refl

-- Two jobs that enter one name.
rivals : parts small 1000 fresh (
    (ready 1 ++ enters 1 foo ++ ready 2 ++ enters 2 foo)
    ∷ (by 1 Reset ∷ by 2 (Enter 1 0o300) ∷ [])
    ∷ [])
    ≡ (Done ∷ Done ∷ Done ∷ Refused 3 ∷ [], pos 46)
    ∷ (Done ∷ Done ∷ [], pos 46)
    ∷ []
unfolding empty insert get remove entries size dump_list areas_from
rivals = refl

-- A file with protection 057 of [10,20], for [10,30], for [11,5] and for [1,2].
rights : parts small 1000 (foo_of 0o057 300) (
    (ready_with 2 (join 0o10 0o30) 0o1000 ++ looks_up 2 foo ++ by 2 (Open 2 0o200) ∷ named 2 foo
    ++ by 2 (Enter 2 0o300) ∷ [])
    ∷ (ready_with 3 (join 0o11 5) 0o1000 ++ looks_up 3 foo ++ enters 3 bar)
    ∷ (ready_with 4 (join 1 2) 0o1000 ++ looks_up 4 foo ++ by 4 (Open 2 0o200) ∷ named 4 foo
    ++ by 4 (Enter 2 0o300) ∷ [])
    ∷ [])
    ≡ (Done ∷ Done ∷ Done ∷ Refused 2 ∷ [], pos 43)
    ∷ (Done ∷ Refused 2 ∷ Refused 2 ∷ [], pos 43)
    ∷ (Done ∷ Done ∷ Done ∷ Done ∷ [], pos 42)
    ∷ []
unfolding empty insert get remove entries size dump_list areas_from
rights = refl

-- A directory is made once, by its owner, and then listed.
directories : parts small 1000 no_files (
    (ready 1 ++ Deposit 1 0o600 ten_twenty ∷ by 1 (MakeDir 0o600) ∷ [])
    ∷ (by 1 (MakeDir 0o600) ∷ Examine 1 0o601 ∷ Deposit 1 0o600 (join 0o10 0o30) ∷ by 1 (MakeDir 0o600)
    ∷ Deposit 1 0o600 0o10 ∷ by 1 (MakeDir 0o600) ∷ by 1 (MakeDir 0o777) ∷ [])
    ∷ [])
    ≡ (Done ∷ Done ∷ [], pos 47)
    ∷ (Refused 4 ∷ Value 4 ∷ Refused 2 ∷ Refused 1 ∷ AddressCheck ∷ [], pos 47)
    ∷ []
unfolding empty insert get remove entries size dump_list areas_from
directories = refl

listed : list (run_events small 1000 (foo_of 0o057 300) (ready 1)).1 1 ten_twenty
    ≡ Ok (record {
      name = record { name = foo; ext = 0o647064 };
      protection = 0o057;
      mode = 0o17;
      date = 0;
      time = 0;
      length = 300;
      blocks = 3;
    } ∷ [])
unfolding empty insert get entries
listed = refl

-- What comes before a row: a job that isn't logged in, a channel that isn't open, a mode that isn't served.
refusals : parts small 1000 fresh (
    (Examine 1 0 ∷ ready_with 0 ten_twenty 0o1000 ++ ready_with 0o101 ten_twenty 0o1000
    ++ ready_with 1 ten_twenty 0o777)
    ∷ (ready 1 ++ by 1 (Open 1 0o200) ∷ by 1 (Open 0o20 0o200) ∷ by 1 (Getsts 2) ∷ Deposit 1 0o200 0o15
    ∷ by 1 (Open 2 0o200) ∷ by 1 (Getsts 2) ∷ by 1 (Releas 1) ∷ by 1 (Getsts 1) ∷ Examine 1 0o1000 ∷ [])
    ∷ [])
    ≡ (NoJob ∷ NoJob ∷ NoJob ∷ NoJob ∷ [], pos 47)
    ∷ (
      Done ∷ Refused 5 ∷ NoChannel ∷ NoChannel ∷ Stopped 0o400015 ∷ NoChannel ∷ Done ∷ NoChannel ∷ AddressCheck ∷ [],
      pos 47,
    )
    ∷ []
unfolding empty insert get remove entries size dump_list areas_from
refusals = refl

-- 42 empty files fill one block of their directory.
abbrev numbered : ℕ → FinMap name_cmp SpecVersion
numbered zero = empty
numbered (suc n) = insert (numbered n) (record { name = suc n; ext = 0o647064 })
    (record { file = record { protection = 0o057; mode = 0o17; time = 0; date = 0; body = [] }; serial = suc n })

abbrev forty_two : State
forty_two = record {
  files = insert empty ten_twenty (record { protection = 0o775; quota = 0; files = numbered 42 });
  jobs = no_jobs;
}

crowded : parts small 1000 forty_two (ready 1 ∷ enters 1 foo ∷ (close 1 0 ∷ []) ∷ [])
    ≡ (Done ∷ [], pos 5) ∷ (Done ∷ [], pos 3) ∷ (Done ∷ [], pos 3) ∷ []
unfolding empty insert get remove entries size dump_list areas_from
crowded = refl

-- Lists of 511 command words that continue and then an end, and of 512.
abbrev chain : ℕ → ℕ → List ℕ
chain zero address = 0 ∷ []
chain (suc n) address = (address + 1) ∷ chain n (address + 1)

long_list : dump_list (chain 511 0) 0 ≡ Some []
unfolding dump_list areas_from
long_list = refl

too_long : dump_list (chain 512 0) 0 ≡ None
unfolding dump_list areas_from
too_long = refl
