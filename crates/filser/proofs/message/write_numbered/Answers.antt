use Rattle.std.proofs.Common.{◌++◌, refl, subst}
use Rattle.std.specs.Fmt.{decimal}
use Rattle.std.proofs.KnownBytes.{Appends-trans}
use Rattle.std.proofs.lemmas.Result.{err_from_is_err_and}
use Rattle.std.specs.Io.KnownBytes.{Appends}
use Rattle.filser.proofs.PrintedTexts.{cut_on, cut_behind, put_on, wrote}
use Rattle.filser.proofs.message.write_numbered.Goals as goal

pub returns-in_err-write_text : goal.returns-in_err-write_text
returns-in_err-write_text g c =
    let p = err_from_is_err_and c.from_residual.result c.from_residual.ensures.1 in
    let digits = decimal c.args.number in
    rw (p.1, p.2) (
      c.in_err-write_text.ensures.err.0,
      cut_on _ _ _ (c.args.before.now ++ digits) c.args.after.now refl
          (cut_on _ _ _ c.args.before.now digits c.as_bytes.ensures.value c.in_err-write_text.ensures.err.1),
    )

pub returns-in_err-write_number : goal.returns-in_err-write_number
returns-in_err-write_number g c =
    let p = err_from_is_err_and c.from_residual-in_err-write_number.result
    c.from_residual-in_err-write_number.ensures.1 in
    let digits = decimal c.args.number in
    rw (p.1, p.2) (
      c.in_err-write_number.ensures.0,
      cut_on _ _ _ (c.args.before.now ++ digits) c.args.after.now refl
          (cut_behind _ _ _ _ c.args.before.now digits c.as_bytes.ensures.value c.in_ok-write_text.ensures.ok
          c.in_err-write_number.ensures.1),
    )

pub returns : goal.returns
returns g c =
    let old = g.W.Write.contents c.args.writer.now in
    let first = g.W.Write.contents c.write_text.new.writer in
    let second = g.W.Write.contents c.write_number.new.writer in
    let digits = decimal c.args.number in
    put_on c.write_text-2.result old second _ (c.args.before.now ++ digits) c.args.after.now
    (Appends-trans old first second c.args.before.now digits
    (subst (λ t. Appends old first t) c.as_bytes.ensures.value c.in_ok-write_text.ensures.ok)
    c.in_ok-write_number.ensures)
    (wrote second _ _ c.args.after.now c.write_text-2.result c.as_bytes-2.ensures.value c.write_text-2.ensures.ok
    c.write_text-2.ensures.err)
