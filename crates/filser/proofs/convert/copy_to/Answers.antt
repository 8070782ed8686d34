use Rattle.std.proofs.Common.{◌∙◌, refl, subst, inl, inr}
use Rattle.filser.specs.Common.{IsLine, converted_text}
use Rattle.filser.proofs.ImageOutcomes.{copy_fault, on_ok}
use Rattle.filser.proofs.convert.copy_to.Goals as goal

pub returns-in-Ok-clause-ran : goal.returns-in-Ok-clause-ran
returns-in-Ok-clause-ran g c = (
  c.copy-copied.new.source,
  c.copy-copied.result.1,
  refl,
  c.copy-copied.ensures.same_source,
  c.copy-copied.ensures.alone,
  c.copy-copied.ensures.same_target,
  inl (
    c.args.right,
    refl,
    λ h k. on_ok c.copy-copied.result.0 c.in-Ok.field-0 _ c.in-Ok.is (c.copy-copied.ensures.copied h k),
    subst (λ n. IsLine (g.W.Write.contents c.args.writer.now) (g.W.Write.contents c.report_converted.new.writer)
        c.report_converted.result 0 (converted_text n))
        (c.blocks-in-Ok.ensures ∙ c.copy-copied.ensures.same_source.size) c.report_converted.ensures.told,
  ),
)

pub returns-in-Err-clause-ran : goal.returns-in-Err-clause-ran
returns-in-Err-clause-ran g c =
    let told = c.uncopied.ensures.explained in (
      c.copy-copied.new.source,
      c.copy-copied.result.1,
      c.uncopied.ensures.image,
      c.copy-copied.ensures.same_source,
      c.copy-copied.ensures.alone,
      c.copy-copied.ensures.same_target,
      inr (
        c.uncopied.ensures.new,
        (
          told.0,
          copy_fault c.copy-copied.result.0 _ _ _ _ c.in-Err.error told.0 c.in-Err.is told.1
              c.copy-copied.ensures.refused c.copy-copied.ensures.failed,
          told.2,
        ),
      ),
    )
