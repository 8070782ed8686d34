use Rattle.std.proofs.Common.{rules}
use Rattle.volume.proofs.read.add_directory.Goals as goal

pub returns-clause-read : goal.returns-clause-read
returns-clause-read g c h = record {
  added = c.in_ok-directory.directory;
  pushed = search rules;
  is = c.in_ok-directory.ensures.read h;
}

pub returns-clause-whole : goal.returns-clause-whole
returns-clause-whole g c = record {
  added = c.in_ok-directory.directory;
  pushed = search rules;
  is = c.in_ok-directory.ensures.whole;
}

pub returns-clause-marked : goal.returns-clause-marked
returns-clause-marked g c = record {
  added = c.in_ok-directory.directory;
  pushed = search rules;
  is = c.in_ok-directory.ensures.marked;
}
