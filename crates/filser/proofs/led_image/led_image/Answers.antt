use Rattle.std.proofs.Common.{◌≡◌, false, true, refl}
use Rattle.filser.specs.Common.{forbids_errors, forbids_output, image_named, new_named}
use Rattle.filser.specs.declared.refusal.Refusal.TheVariants.{Exists, Start}
use Rattle.volume.specs.declared.error.VolumeError.TheVariants.{Device}
use Rattle.filser.proofs.LedImages.{alone_errors, alone_output, apart_errors, apart_output, covers_back, led_errors}
use Rattle.filser.proofs.LedImages.{led_output, unset}
use Rattle.filser.proofs.led_image.led_image.Goals as goal

pub returns-in_default-clause-output : goal.returns-in_default-clause-output
returns-in_default-clause-output g c = alone_output (g.H.Host.facts c.args.host.now) (image_named c.args.asked.now)
    (new_named c.args.asked.now) (Start Device) c.led_existing.result c.in_default.ensures c.led_existing.ensures

pub returns-in_default-clause-errors : goal.returns-in_default-clause-errors
returns-in_default-clause-errors g c = alone_errors (g.H.Host.facts c.args.host.now) (image_named c.args.asked.now)
    (new_named c.args.asked.now) (Start Device) c.led_existing.result c.in_default.ensures c.led_existing.ensures

pub returns-in_default-led_existing-clause-output : goal.returns-in_default-led_existing-clause-output
returns-in_default-led_existing-clause-output g c free =
    let facts = g.H.Host.facts c.args.host.now in (
      apart_output facts (image_named c.args.asked.now) c.in_default-led_existing.ensures,
      led_output facts (new_named c.args.asked.now) Exists _ _ c.in-Some.new.stream c.in-Some.ensures refl free,
    )

pub returns-in_default-led_existing-clause-errors : goal.returns-in_default-led_existing-clause-errors
returns-in_default-led_existing-clause-errors g c free =
    let facts = g.H.Host.facts c.args.host.now in (
      apart_errors facts (image_named c.args.asked.now) c.in_default-led_existing.ensures,
      led_errors facts (new_named c.args.asked.now) Exists _ _ c.in-Some.new.stream c.in-Some.ensures refl free,
    )

pub returns-then-covers-clause-output : goal.returns-then-covers-clause-output
returns-then-covers-clause-output g c free =
    let facts = g.H.Host.facts c.args.host.now in
    let existing = c.in-Some-led_existing.existing in (
      led_output facts (image_named c.args.asked.now) (Start Device) _ _ existing.stream
          c.in-Some-led_existing.ensures refl free,
      led_output facts (new_named c.args.asked.now) Exists _ _ c.in-Some.new.stream c.in-Some.ensures refl
          (unset (forbids_output c.in-Some.new.stream) (forbids_output existing.stream)
          (c.if-covers.ensures.0 refl).0 free),
    )

pub returns-then-covers-clause-errors : goal.returns-then-covers-clause-errors
returns-then-covers-clause-errors g c free =
    let facts = g.H.Host.facts c.args.host.now in
    let existing = c.in-Some-led_existing.existing in (
      led_errors facts (image_named c.args.asked.now) (Start Device) _ _ existing.stream
          c.in-Some-led_existing.ensures refl free,
      led_errors facts (new_named c.args.asked.now) Exists _ _ c.in-Some.new.stream c.in-Some.ensures refl
          (unset (forbids_errors c.in-Some.new.stream) (forbids_errors existing.stream)
          (c.if-covers.ensures.0 refl).1 free),
    )

pub returns-else-covers-clause-output : goal.returns-else-covers-clause-output
returns-else-covers-clause-output g c free =
    let facts = g.H.Host.facts c.args.host.now in
    let existing = c.in-Some-led_existing.existing in
    let back = covers_back existing.stream c.in-Some.new.stream
    (λ covers. let wrong : false ≡ true = c.if-covers.ensures.1 covers in cc) in (
      led_output facts (image_named c.args.asked.now) (Start Device) _ _ existing.stream
          c.in-Some-led_existing.ensures refl
          (unset (forbids_output existing.stream) (forbids_output c.in-Some.new.stream) back.0 free),
      led_output facts (new_named c.args.asked.now) Exists _ _ c.in-Some.new.stream c.in-Some.ensures refl free,
    )

pub returns-else-covers-clause-errors : goal.returns-else-covers-clause-errors
returns-else-covers-clause-errors g c free =
    let facts = g.H.Host.facts c.args.host.now in
    let existing = c.in-Some-led_existing.existing in
    let back = covers_back existing.stream c.in-Some.new.stream
    (λ covers. let wrong : false ≡ true = c.if-covers.ensures.1 covers in cc) in (
      led_errors facts (image_named c.args.asked.now) (Start Device) _ _ existing.stream
          c.in-Some-led_existing.ensures refl
          (unset (forbids_errors existing.stream) (forbids_errors c.in-Some.new.stream) back.1 free),
      led_errors facts (new_named c.args.asked.now) Exists _ _ c.in-Some.new.stream c.in-Some.ensures refl free,
    )
