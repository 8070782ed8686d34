use Rattle.std.proofs.Common.{[], refl}
use Rattle.imagefile.proofs.Buffers.{none_held}
use Rattle.imagefile.proofs.buffer.Buffer.fill.Goals as goal

pub returns-then-not-has_places-clause-held : goal.returns-then-not-has_places-clause-held
returns-then-not-has_places-clause-held g c h = none_held (g.F.Durable.state c.args.file.now).bytes
    (record { at = c.self.inside.at; bytes = [] }) refl
