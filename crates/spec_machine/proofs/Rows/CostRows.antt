-- A worked row, by costs: a disk of 512 blocks, a file of 112 blocks and one of 113.
use Rattle.std.proofs.Common.{◌≡◌, ℕ, ◌*◌, List, length, refl, pos}
use Rattle.spec_image.specs.Common.{FinMap, get, insert, empty, entries, size, name_cmp, SpecVersion, Pack}
use Rattle.spec_machine.specs.Jobs.{State, no_jobs}
use Rattle.spec_machine.specs.Room.{room}
use Rattle.spec_machine.proofs.EventRuns.{ten_twenty, fresh, foo, bar}

abbrev large : Pack
large = record { layout = 1; blocks = 512 }

abbrev version : ℕ → List ℕ → SpecVersion
version serial body = record {
  file = record { protection = 0o057; mode = 0o17; time = 0; date = 0; body = body };
  serial = serial;
}

abbrev with_names : FinMap name_cmp SpecVersion → State
with_names files = record {
  files = insert empty ten_twenty (record { protection = 0o775; quota = 0; files = files });
  jobs = no_jobs;
}

abbrev with_foo : List ℕ → FinMap name_cmp SpecVersion
with_foo body = insert empty (record { name = foo; ext = 0o647064 }) (version 1 body)

none : room large fresh ≡ pos 495
unfolding empty insert get entries size
none = refl

one : (body : List ℕ) → length body ≡ 112 * 128 → room large (with_names (with_foo body)) ≡ pos 382
unfolding empty insert get entries size
one body e = rw e refl

two : (body other : List ℕ) → length body ≡ 112 * 128 → length other ≡ 113 * 128
    → room large (with_names (insert (with_foo body) (record { name = bar; ext = 0o647064 }) (version 2 other)))
    ≡ pos 267
unfolding empty insert get entries size
two body other e f = rw e (rw f refl)
