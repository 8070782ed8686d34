use Rattle.std.proofs.Common.{refl, sym, ap, arith}
use Rattle.imagefile.specs.Common.{window, after_calls}
use Rattle.imagefile.proofs.CallLaws.{length-window}
use Rattle.imagefile.proofs.seeking_file.answers_by_the_model_are_honest.Goals as goal

pub returns-clause-read : goal.returns-clause-read
returns-clause-read c u calls at asked count fits honest =
    let b = (after_calls u calls).bytes in
    let long = length-window b at count in
    ((honest, refl), (omega (arith, long), sym (ap (window b at) long)))
