use Rattle.std.proofs.Common.{◌∙◌, ap, sym, Some}
use Rattle.std.specs.Prelude.{option_map}
use Rattle.spec_machine.specs.Common.{after_writes, out_writes}
use Rattle.usercore.specs.Common.{bits_of}
use Rattle.usercore.proofs.FirstRings.{out_has_ring, out_is}
use Rattle.usercore.proofs.user_core.Core.ring_out.Goals as goal

pub make_ready-requires-clause-fits : goal.make_ready-requires-clause-fits
make_ready-requires-clause-fits c = out_has_ring _ _ _ _ c.in_ok-ring_check.ensures.words

pub returns-clause-done : goal.returns-clause-done
returns-clause-done c =
    let h = c.args.header in
    let size = bits_of c.args.bytes in
    ap (option_map (λ ready. after_writes ready (out_writes ready h size)))
    (out_is _ _ h size _ c.in_ok-ring_check.ensures.words c.make_ready.ensures.ready)
    ∙ ap Some (sym c.empty.ensures.emptied)
