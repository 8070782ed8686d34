-- Worked rows of call scripts, computed: the replies as they are written, and words that are counted.
use Rattle.std.proofs.Common.{◌≡◌, ℕ, List, [], ◌∷◌, ◌++◌, map, refl}
use Rattle.std.specs.Prelude.{codes}
use Rattle.std.specs.Fmt.{digits}
use Rattle.spec_image.specs.Common.{get, insert, remove, empty, entries, size}
use Rattle.spec_machine.specs.Common.{dump_list, areas_from, State, step}
use Rattle.spec_language.specs.Texts.{Spoken, prints}
use Rattle.spec_language.specs.Plans.{Say, each, fetches, lookup_events, list_events, counts}
use Rattle.spec_language.specs.Transcripts.{core_words}
use Rattle.spec_language.specs.Scripts.{words_given}
use Rattle.spec_machine.specs.declared.call.Event.{Event}
use Rattle.spec_machine.specs.declared.call.Call.{Call}
use Rattle.spec_machine.specs.declared.call.Call.TheVariants.{Open, Lookup, In, Reset}
use Rattle.spec_machine.specs.declared.call.Event.TheVariants.{Login, Deposit, Examine, Call as Calls}
use Rattle.spec_machine.proofs.Common.{run_events, small, ten_twenty, foo, foo_of, at_start}
use Rattle.spec_language.proofs.Rows.PlayedLines.{conduct, hello, foo_spec}

-- The words of a last block are counted if no reply gives their number: 44 of 300, and all of 256.
abbrev logged_in : State → State
logged_in s = (step small 0 s (Login 1 ten_twenty core_words)).1

abbrev count_of : State → ℕ → Spoken
count_of s n = (conduct small 1000 s
    (each at_start (lookup_events at_start foo_spec ++ list_events 128)
    (counts at_start n (λ count. Say (prints (count ∷ [])))))).0

counted : (count_of (logged_in (foo_of 0o057 300)) 3 ≡ prints (44 ∷ []))
    × (count_of (logged_in (foo_of 0o057 256)) 2 ≡ prints (128 ∷ []))
unfolding empty insert get remove entries size dump_list areas_from each fetches conduct
counted = (refl, refl)

-- A call script, its replies as they are written.
abbrev own : Call → Event
own call = Calls 1 call at_start

abbrev script : List Event
script =
    Login 1 ten_twenty 0o1000 ∷ Deposit 1 0o200 0o17 ∷ Deposit 1 0o201 0o446353000000 ∷ own (Open 1 0o200)
    ∷ Deposit 1 0o300 foo ∷ Deposit 1 0o301 0o647064000000
    ∷ own (Lookup 1 0o300) ∷ Examine 1 0o302 ∷ Examine 1 0o303 ∷ Deposit 1 0o400 0o777776000477 ∷ own (In 1 0o400)
    ∷ Examine 1 0o500 ∷ own (In 1 0o400)
    ∷ Deposit 1 0o1000 1 ∷ own (In 3 0o400) ∷ Calls 2 Reset at_start ∷ []

scripted : map words_given (run_events small 1000 hello script).0
    ≡ codes "DONE" ∷ codes "DONE" ∷ codes "DONE" ∷ codes "DONE" ∷ codes "DONE" ∷ codes "DONE" ∷ codes "DONE"
    ∷ codes "VALUE 057000007777" ∷ codes "VALUE 777776000000" ∷ codes "DONE" ∷ codes "DONE"
    ∷ codes "VALUE 442131446236" ∷ codes "STOPPED 020017" ∷ codes "ADDRESS" ∷ codes "NOCHANNEL" ∷ codes "NOJOB" ∷ []
unfolding empty insert get remove entries size dump_list areas_from digits
scripted = refl
