-- Lists of events run from a state, for worked rows.
use Rattle.std.proofs.Common.{ℕ, zero, suc, ◌+◌, ◌-◌, ◌^◌, ◌≤◌, List, [], ◌∷◌, ◌++◌, ℤ, replicate, arith}
use Rattle.words36.specs.Common.{join}
use Rattle.words36.specs.declared.moment.Moment.{Moment}
use Rattle.spec_image.specs.Common.{insert, empty, Pack}
use Rattle.spec_machine.specs.Jobs.{State, no_jobs}
use Rattle.spec_machine.specs.Room.{room}
use Rattle.spec_machine.specs.Step.{step}
use Rattle.spec_machine.specs.declared.call.Call.{Call}
use Rattle.spec_machine.specs.declared.call.Call.TheVariants.{Open, Lookup, Enter, In, Out, Close}
use Rattle.spec_machine.specs.declared.call.Event.{Event}
use Rattle.spec_machine.specs.declared.call.Event.TheVariants.{Login, Deposit, Examine, Call as Calls}
use Rattle.spec_machine.specs.declared.call.Reply.{Reply}

-- the replies and the state after them, with a new serial for each event
abbrev pub run_events : Pack → ℕ → State → List Event → List Reply × State
run_events pack serial s [] = ([], s)
run_events pack serial s (event ∷ events) =
    let r = step pack serial s event in
    let rest = run_events pack (suc serial) r.1 events in (r.0 ∷ rest.0, rest.1)

-- the replies to calls and to words examined
abbrev pub shown_replies : List Event → List Reply → List Reply
shown_replies [] replies = []
shown_replies (event ∷ events) [] = []
shown_replies (Login n ppn words ∷ events) (reply ∷ replies) = shown_replies events replies
shown_replies (Deposit n address word ∷ events) (reply ∷ replies) = shown_replies events replies
shown_replies (Examine n address ∷ events) (reply ∷ replies) = reply ∷ shown_replies events replies
shown_replies (Calls n c moment ∷ events) (reply ∷ replies) = reply ∷ shown_replies events replies

-- for each part of a run the replies in it, and the room after it
abbrev pub parts : Pack → ℕ → State → List (List Event) → List (List Reply × ℤ)
parts pack serial s [] = []
parts pack serial s (events ∷ more) =
    let p = run_events pack serial s events in
    let rest = parts pack (serial + 100) p.1 more in
    (shown_replies events p.0, room pack p.1) ∷ rest

-- A disk of 64 blocks in layout 1, [10,20] and its directory.

abbrev pub small : Pack
small = record { layout = 1; blocks = 64 }

abbrev pub ten_twenty : ℕ
ten_twenty = join 0o10 0o20

abbrev pub no_files : State
no_files = record { files = empty; jobs = no_jobs }

abbrev pub fresh : State
fresh = record {
  files = insert empty ten_twenty (record { protection = 0o775; quota = 0; files = empty });
  jobs = no_jobs;
}

abbrev pub foo : ℕ
foo = 0o465757000000

abbrev pub bar : ℕ
bar = 0o424162000000

-- one file FOO.TXT of `words` words, each of them 7, with a protection
abbrev pub foo_of : ℕ → ℕ → State
foo_of protection words = record {
  files = insert empty ten_twenty (record {
    protection = 0o775;
    quota = 0;
    files = insert empty (record { name = foo; ext = 0o647064 })
        (record {
          file = record { protection = protection; mode = 0o17; time = 0; date = 0; body = replicate words 7 };
          serial = 1;
        });
  });
  jobs = no_jobs;
}

-- Events.

abbrev pub at : (date minute : ℕ) → date ≤ 32767 → minute ≤ 1439 → Moment
at date minute d m = record { date = date; minute = minute; date_in_range = d; minute_in_range = m }

abbrev pub at_start : Moment
at_start = at 0 0 (omega arith) (omega arith)

abbrev pub by : ℕ → Call → Event
by n c = Calls n c at_start

abbrev pub repeated : ℕ → Event → List Event
repeated zero e = []
repeated (suc n) e = e ∷ repeated n e

-- words deposited at consecutive addresses
abbrev pub deposits : ℕ → ℕ → List ℕ → List Event
deposits n address [] = []
deposits n address (w ∷ ws) = Deposit n address w ∷ deposits n (address + 1) ws

-- a command word that names `count` words from an address
abbrev pub names_words : ℕ → ℕ → ℕ
names_words count address = join (2 ^ 18 - count) (address - 1)

-- a job of [10,20] logs in with a core of `words` words and opens channel 1 in mode 17, by words at 200
abbrev pub ready_with : ℕ → ℕ → ℕ → List Event
ready_with n ppn words = Login n ppn words ∷ deposits n 0o200 (0o17 ∷ 0o446353000000 ∷ 0 ∷ [])
    ++ by n (Open 1 0o200) ∷ []

abbrev pub ready : ℕ → List Event
ready n = ready_with n ten_twenty 0o1000

-- the four words of a name at 300, in the directory [10,20]
abbrev pub named : ℕ → ℕ → List Event
named n name = deposits n 0o300 (name ∷ 0o647064000000 ∷ 0 ∷ ten_twenty ∷ [])

-- a command list at 400 for `count` words from 500
abbrev pub words_at_500 : ℕ → ℕ → List Event
words_at_500 n count = deposits n 0o400 (names_words count 0o500 ∷ 0 ∷ [])

abbrev pub enters : ℕ → ℕ → List Event
enters n name = named n name ++ by n (Enter 1 0o300) ∷ []

abbrev pub looks_up : ℕ → ℕ → List Event
looks_up n name = named n name ++ by n (Lookup 1 0o300) ∷ []

abbrev pub out : ℕ → Event
out n = by n (Out 1 0o400)

abbrev pub takes : ℕ → Event
takes n = by n (In 1 0o400)

abbrev pub close : ℕ → ℕ → Event
close n bits = by n (Close 1 bits)
