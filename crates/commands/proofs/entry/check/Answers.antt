use Rattle.std.proofs.Common.{◌≡◌, ◌∙◌, ◌<◌, ◌^◌, ℕ, ℤ, IfOk, subst, w64, to_z, of_z, FitsSigned, arith}
use Rattle.std.proofs.lemmas.Int.{to_z-of_z, ints}
use Rattle.std.proofs.lemmas.Result.{err_from_is_err_and}
use Rattle.std.specs.Int.Signed.{mag}
use Rattle.spec_language.specs.Common.{volume_line}
use Rattle.commands.proofs.ErrandLaws.{checked_cut}
use Rattle.commands.proofs.entry.check.Goals as goal

fits : (z : ℤ) → mag z < 2 ^ 63 → FitsSigned w64 z
fits z few = search (arith, ints)

pub returns-in_err-print : goal.returns-in_err-print
returns-in_err-print g c =
    let p = err_from_is_err_and c.from_residual.result c.from_residual.ensures.1 in
    let room = to_z w64 (of_z w64 c.room.result) in
    rw (p.1, p.2) (checked_cut _ (λ bytes. bytes.items) c.volume_line-text.result _ _ room
    c.in_err-print.field-0.0
    (λ h s serves. to_z-of_z w64 c.room.result (fits c.room.result c.room.type_inv) ∙ c.room.ensures h s serves)
    (subst (λ (n : ℕ). IfOk c.volume_line-text.result (λ v. v.items ≡ volume_line n room)) c.blocks-2.ensures
    c.volume_line-text.ensures) c.in_err-print.ensures)
