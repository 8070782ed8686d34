-- The rights of each digit, computed: the sets of acts agree with what each digit allows.
use Rattle.std.proofs.Common.{◌≡◌, ℕ, Bool, true, false, List, [], ◌∷◌, map, ◌==◌, bit_and, refl}
use Rattle.words36.specs.Common.{join}
use Rattle.spec_machine.specs.Rights.{acts_of, file_digit, directory_digit, may_execute, may_read, may_append}
use Rattle.spec_machine.specs.Rights.{may_update, may_supersede, may_rename, may_protect, may_look, may_create}

abbrev digits : List ℕ
digits = 0 ∷ 1 ∷ 2 ∷ 3 ∷ 4 ∷ 5 ∷ 6 ∷ 7 ∷ []

abbrev has : ℕ → ℕ → Bool
has act d = bit_and (acts_of d) act == act

executes : map (has 1) digits ≡ map may_execute digits
executes = refl

reads : map (has 2) digits ≡ map may_read digits
reads = refl

appends : map (has 4) digits ≡ map may_append digits
appends = refl

updates : map (has 8) digits ≡ map may_update digits
updates = refl

supersedes : map (has 16) digits ≡ map may_supersede digits
supersedes = refl

renames : map (has 32) digits ≡ map may_rename digits
renames = refl

protects : map (has 64) digits ≡ map may_protect digits
protects = refl

looks : map may_look digits ≡ false ∷ false ∷ false ∷ false ∷ true ∷ true ∷ true ∷ true ∷ []
looks = refl

creates : map may_create digits ≡ false ∷ false ∷ true ∷ true ∷ false ∷ false ∷ true ∷ true ∷ []
creates = refl

-- The owner, his project, another one, and [1,2], of a file 057 and of a directory 775.
file_digits : map (λ who. file_digit 0o057 who (join 0o10 0o20)) (join 0o10 0o20 ∷ join 0o10 0o30 ∷ join 0o11 0o20
    ∷ join 1 2 ∷ []) ≡ 0 ∷ 5 ∷ 7 ∷ 0 ∷ []
file_digits = refl

directory_digits : map (λ who. directory_digit 0o775 who (join 0o10 0o20)) (join 0o10 0o20 ∷ join 0o10 0o30
    ∷ join 0o11 0o20 ∷ join 1 2 ∷ []) ≡ 7 ∷ 7 ∷ 5 ∷ 7 ∷ []
directory_digits = refl
