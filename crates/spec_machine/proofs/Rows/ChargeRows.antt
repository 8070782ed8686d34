-- Worked rows of charges, computed.
use Rattle.std.proofs.Common.{◌≡◌, ℕ, zero, suc, ◌+◌, ◌++◌, List, [], ◌∷◌, Bool, true, false, refl}
use Rattle.spec_machine.specs.Charges.{charge, exceeds_left}
use Rattle.spec_machine.specs.CommandLists.{dump_list, areas_from}
use Rattle.spec_image.specs.Common.{name_cmp, FinMap, get, insert, remove, empty, entries, size, SpecVersion}
use Rattle.spec_machine.specs.Jobs.{State, no_jobs}
use Rattle.spec_machine.specs.declared.call.Event.{Event}
use Rattle.spec_machine.proofs.EventRuns.{run_events, small, ten_twenty, foo, bar, ready, enters, looks_up}
use Rattle.spec_machine.proofs.EventRuns.{words_at_500}
use Rattle.spec_machine.proofs.EventRuns.{out}
use Rattle.spec_machine.proofs.EventRuns.{close}

-- [10,20] with a quota
abbrev pub limited : ℕ → FinMap name_cmp SpecVersion → State
limited quota files = record {
  files = insert empty ten_twenty (record { protection = 0o775; quota = quota; files = files });
  jobs = no_jobs;
}

-- what [10,20] is charged for after each part of a run
abbrev charges : ℕ → State → List (List Event) → List ℕ
charges serial s [] = []
charges serial s (events ∷ more) =
    let after = (run_events small serial s events).1 in charge after ten_twenty ∷ charges (serial + 100) after more

-- A file of two blocks is created; job 2 reads it, and job 1 supersedes it by an empty one. The version that job 2 pins
-- isn't charged then, and one that is being written is charged besides the current one.
one_file : charges 1000 (limited 10 empty) (
    []
    ∷ (ready 1 ++ enters 1 foo)
    ∷ (words_at_500 1 128 ++ out 1 ∷ [])
    ∷ (out 1 ∷ [])
    ∷ (close 1 0 ∷ [])
    ∷ (ready 2 ++ looks_up 2 foo)
    ∷ (enters 1 foo)
    ∷ (close 1 0 ∷ [])
    ∷ (close 2 0 ∷ [])
    ∷ [])
    ≡ 1 ∷ 2 ∷ 3 ∷ 4 ∷ 4 ∷ 4 ∷ 5 ∷ 2 ∷ 2 ∷ []
unfolding empty insert get remove entries size dump_list areas_from
one_file = refl

-- a number of empty files
abbrev pub many : ℕ → FinMap name_cmp SpecVersion
many zero = empty
many (suc n) = insert (many n) (record { name = suc n; ext = 0 })
    (record { file = record { protection = 0o057; mode = 0o17; time = 0; date = 0; body = [] }; serial = suc n })

-- A creation is an entry of its directory, so with 42 names it costs one more block.
creations : charges 1000 (limited 100 (many 41)) ([] ∷ (ready 1 ++ enters 1 foo) ∷ (close 1 0 ∷ []) ∷ enters 1 bar
    ∷ (close 1 0 ∷ []) ∷ []) ≡ 42 ∷ 43 ∷ 43 ∷ 45 ∷ 45 ∷ []
unfolding empty insert get remove entries size dump_list areas_from
creations = refl

-- what [10,20] has left, with a quota, for n more blocks
abbrev over : ℕ → ℕ → Bool
over quota more = exceeds_left (limited quota (many 4)) ten_twenty more

-- A charge of 5: a quota of 0 is no limit; one that was lowered below the charge leaves room for nothing, not even for
-- 0 more blocks.
limits : over 0 1000 ∷ over 10 5 ∷ over 10 6 ∷ over 5 0 ∷ over 5 1 ∷ over 4 0 ∷ []
    ≡ false ∷ false ∷ true ∷ false ∷ true ∷ true ∷ []
unfolding empty insert get remove entries size
limits = refl
