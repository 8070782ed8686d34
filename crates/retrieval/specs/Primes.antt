-- What a prime block says of its file, as code has it and as the disk does.
use Rattle.std.specs.Prelude.{◌≡◌, ℕ, List}
use Rattle.spec_image.specs.Common.{SpecPrime, SpecRun, prime_block}
use Rattle.retrieval.specs.Modes.{mode_number}
use Rattle.retrieval.specs.declared.prime.Prime.{Prime as PrimeValue}

-- what is in the prime block, with the length in words
abbrev pub with_length : PrimeValue → ℕ → SpecPrime
with_length prime words = record {
  place = record { ppn = prime.ppn; name = prime.file };
  protection = prime.protection;
  mode = mode_number prime.mode;
  time = prime.moment.minute;
  date = prime.moment.date;
  words = words;
}

-- If the old words are those of a prime block, the new ones are those of one with the same length, the same runs and
-- the same first extension that says of its file what this prime does.
abbrev pub IsRewritten : List ℕ → List ℕ → PrimeValue → Type 0
IsRewritten old new prime = (p : SpecPrime) (runs : List SpecRun) (next : ℕ) → old ≡ prime_block p runs next
    → new ≡ prime_block (with_length prime p.words) runs next
