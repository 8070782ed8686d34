use Rattle.std.specs.Prelude.{IsTrue, false}
use Rattle.exchange.proofs.StreamLaws.{part_or_long}
use Rattle.exchange.proofs.wire_session.announces_too_much.Goals as goal

never : IsTrue false → ⊥
never is = cc

pub returns-in_default : goal.returns-in_default
returns-in_default c = record {
  yes = λ is. absurd (never is);
  no = λ is rest. part_or_long c.args.bytes.now c.split_record.result c.split_record.ensures
      c.in_default.not-TooLong rest;
}
