use Rattle.std.proofs.Common.{arith, refl}
use Rattle.std.proofs.KnownBytes.{Appends-kept}
use Rattle.commands.proofs.WriterLaws.{wrote_more, wrote_part}
use Rattle.commands.proofs.stream.write_text.Goals as goal

pub loop-place-preserved : goal.loop-place-preserved
loop-place-preserved g c = record {
  within = omega (arith, c.in-Ok.ensures.bound);
  appended = wrote_more _ _ _ c.args.text.now c.loop-place.place c.in-Ok.count c.loop-place.invariant.within
      c.loop-place.invariant.appended c.in-Ok.ensures.bytes;
}

pub returns-in-Err-clause-err : goal.returns-in-Err-clause-err
returns-in-Err-clause-err g c = (
  refl,
  wrote_part _ _ c.args.text.now c.loop-place.place c.loop-place-test.true
      (Appends-kept _ _ _ _ c.loop-place.invariant.appended c.in-Err.ensures.bytes),
)
