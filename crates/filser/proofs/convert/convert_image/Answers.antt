use Rattle.std.proofs.Common.{inl, inr}
use Rattle.imagefile.specs.Common.{assumed_in}
use Rattle.filser.proofs.ImageOutcomes.{converted}
use Rattle.filser.proofs.convert.convert_image.Goals as goal

pub returns-in-Some-clause-ran : goal.returns-in-Some-clause-ran
returns-in-Some-clause-ran g c = inr (
  c.unconverted.ensures.new,
  (_, inl (c.unconverted.ensures.image, c.in-Some.ensures.taken), c.unconverted.ensures.explained),
)

pub returns-in-Ok-clause-ran : goal.returns-in-Ok-clause-ran
returns-in-Ok-clause-ran g c =
    let p = c.convert_disk.ensures.ran in
    converted (g.H.Host.facts c.args.host.now) _ _ _ _ c.args.conversion.now.path.now
    c.args.conversion.now.new.now c.args.conversion.now.form (assumed_in c.args.opening.supposed)
    (assumed_in c.args.making.supposed) c.args.opening c.args.making c.in-Ok.disk p.0
    c.convert_disk.result.image c.convert_disk.result.new p.1
    c.in-Ok.ensures.opened c.in-Ok.ensures.began c.in-Ok.ensures.counted p.2 p.3 p.4
