-- What is in memory of a file: everything except its words.
use Rattle.std.specs.Prelude.{ℕ, List, length}
use Rattle.spec_image.specs.Common.{StoredFile}
use Rattle.retrieval.specs.Common.{mode_number, VersionState}
use Rattle.retrieval.specs.declared.prime.Prime.{Prime as PrimeValue}

pub record Facts : Type 0 where
  pub protection : ℕ
  pub mode : ℕ
  pub time : ℕ
  pub date : ℕ
  -- the length in words
  pub words : ℕ
  -- the prime retrieval block
  pub prime : ℕ
  -- the other retrieval blocks
  pub ribs : List ℕ
  -- the data blocks
  pub blocks : List ℕ

-- those of a file on the disk
abbrev pub facts_of : StoredFile → Facts
facts_of f = record {
  protection = f.file.protection;
  mode = f.file.mode;
  time = f.file.time;
  date = f.file.date;
  words = length f.file.body;
  prime = f.prime;
  ribs = f.extensions;
  blocks = f.blocks;
}

-- those that a prime block and its version say
abbrev pub known_facts : ℕ → PrimeValue → VersionState → Facts
known_facts at prime v = record {
  protection = prime.protection;
  mode = mode_number prime.mode;
  time = prime.moment.minute;
  date = prime.moment.date;
  words = v.words;
  prime = at;
  ribs = v.ribs;
  blocks = v.blocks;
}
