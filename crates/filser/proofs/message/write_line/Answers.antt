use Rattle.std.proofs.Common.{refl}
use Rattle.std.proofs.lemmas.Result.{err_from_is_err_and}
use Rattle.filser.proofs.PrintedTexts.{cut_on}
use Rattle.filser.proofs.message.write_line.Goals as goal

pub returns-in_err-write_message : goal.returns-in_err-write_message
returns-in_err-write_message g c =
    let p = err_from_is_err_and c.from_residual.result c.from_residual.ensures.1 in
    rw (p.1, p.2) (c.in_err-write_message.ensures.0, cut_on _ _ _ _ _ refl c.in_err-write_message.ensures.1)
