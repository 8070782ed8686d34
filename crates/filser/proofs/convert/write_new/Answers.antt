use Rattle.std.proofs.Common.{inr, refl, sym}
use Rattle.imagefile.specs.Common.{other_form, assumed_in}
use Rattle.filser.proofs.ImageOutcomes.{alone_on, on_copy}
use Rattle.filser.proofs.convert.write_new.Goals as goal

pub returns-in-Ok-clause-ran : goal.returns-in-Ok-clause-ran
returns-in-Ok-clause-ran g c =
    let p = c.copy_to.ensures.ran in (
      p.0,
      p.2,
      p.3,
      λ was same alone. alone_on _ _ _ same.size p.3.was_honest alone p.4,
      on_copy (g.H.Host.facts c.args.host.now) _ _ _ _ c.args.conversion.now.new.now
          (other_form c.args.conversion.now.form) (other_form c.args.conversion.now.form) c.blocks-2.result
          (assumed_in c.args.leave.supposed) _ _
          c.in-Ok.target p.1 c.copy_to.result.new refl c.blocks-2.ensures c.in-Ok.ensures.made
          c.in-Ok.ensures.began c.in-Ok.ensures.counted p.5 p.6,
    )

pub returns-in-Err-clause-ran : goal.returns-in-Err-clause-ran
returns-in-Err-clause-ran g c = (
  c.args.source,
  refl,
  record { size = refl; was_honest = λ h. h },
  λ was same alone. alone,
  inr (inr (
    c.in-Err.fault,
    rw (sym c.blocks-2.ensures) c.in-Err.ensures.denied,
    c.refuse_image.ensures.explained,
  )),
)
