-- What was found of a file is what the file is, except its words.
use Rattle.std.specs.Prelude.{◌≡◌, ℕ}
use Rattle.blockdisk.specs.Common.{Contents}
use Rattle.spec_image.specs.Common.{Place}
use Rattle.retrieval.specs.Common.{VersionState}
use Rattle.retrieval.specs.declared.prime.Prime.{Prime as PrimeValue}
use Rattle.volume.specs.Facts.{facts_of, known_facts}
use Rattle.volume.specs.FileRead.{IsFileFound}

pub facts_found : (layout : ℕ) (contents : Contents) (place : Place) (at : ℕ) (prime : PrimeValue) (v : VersionState)
    → (found : IsFileFound layout contents place at prime v)
    → facts_of found.file ≡ known_facts at prime v
facts_found layout contents place at prime v found = λ i. record {
  protection = (found.facts_are i).protection;
  mode = (found.facts_are i).mode;
  time = (found.facts_are i).time;
  date = (found.facts_are i).date;
  words = (found.facts_are i).words;
  prime = found.prime_is i;
  ribs = found.ribs_are i;
  blocks = found.blocks_are i;
}
