use Rattle.std.proofs.Common.{refl, rules, arith}
use Rattle.std.proofs.lemmas.Bool.Decides.{nat_tests}
use Rattle.std.proofs.lemmas.Option.{slice_get_read}
use Rattle.volume.proofs.quota.first_quota.Goals as goal

pub returns-then-entries-i-ne0-clause-some : goal.returns-then-entries-i-ne0-clause-some
returns-then-entries-i-ne0-clause-some c =
    record {
      entry = c.index-entries-i.result;
      is = slice_get_read c.args.entries.now _ c.loop-i.i c.index-entries-i.result refl
          (search rules) (search rules);
      some = grind (arith, nat_tests, c.if-entries-i-ne0.true);
      before = c.loop-i.invariant;
    }
