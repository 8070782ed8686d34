use Rattle.std.proofs.Common.{rules}
use Rattle.volume.proofs.list.push_line.Goals as goal

pub returns-clause-ok : goal.returns-clause-ok
returns-clause-ok c =
    let facts = c.in_ok-facts.facts in
    record {
      added = record {
        name = c.args.entry.now.name;
        protection = c.from.result;
        mode = c.number.result;
        date = facts.moment.date;
        time = facts.moment.minute;
        length = facts.words;
        blocks = facts.blocks;
      };
      pushed = search rules;
      is = (
        facts,
        c.in_ok-facts.ensures.found,
        λ i. record {
          name = c.args.entry.now.name;
          protection = c.from.ensures i;
          mode = c.number.ensures.value i;
          date = facts.moment.date;
          time = facts.moment.minute;
          length = facts.words;
          blocks = facts.blocks;
        },
      );
    }
