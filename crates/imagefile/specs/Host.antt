-- A file of the host.
use Rattle.std.specs.Prelude.{ℕ, Option, Some, None, true}
use Rattle.imagefile.specs.File.{FileState}

-- a file with this number of failed calls
abbrev pub with_failures : FileState → ℕ → FileState
with_failures s failures = record {
  size = s.size;
  honest = s.honest;
  failures = failures;
  bytes = s.bytes;
  is_open = s.is_open;
  clock = s.clock;
  left_since = s.left_since;
}

-- A file of which nothing is known. Nobody can prove that it has kept to the model.
abbrev pub unknown_file : FileState
unknown_file = record {
  size = 0;
  honest = ⊥;
  failures = 0;
  bytes = λ p. 0;
  is_open = λ p. true;
  clock = 0;
  left_since = λ t r. ⊥;
}

-- what is stored of two values, one after the other: the first
abbrev pub the_first_of : {X : Type 0} → Option X → X → Option X
the_first_of (Some x) y = Some x
the_first_of None y = Some y
