use Rattle.std.proofs.Common.{◌∙◌, ap, sym, take, Some}
use Rattle.std.specs.Prelude.{option_map}
use Rattle.spec_machine.specs.Common.{after_writes, in_writes, data_words}
use Rattle.usercore.specs.Common.{bits_of}
use Rattle.usercore.proofs.WriteLaws.{take_fewer}
use Rattle.usercore.proofs.FirstRings.{in_has_ring, in_is}
use Rattle.usercore.proofs.user_core.Core.ring_in.Goals as goal

pub make_ready-requires-clause-fits : goal.make_ready-requires-clause-fits
make_ready-requires-clause-fits c = in_has_ring _ _ _ _ c.in_ok-ring_check.ensures.words

pub returns-clause-done : goal.returns-clause-done
returns-clause-done c =
    let h = c.args.header in
    let size = bits_of c.args.bytes in
    let ready = c.make_ready.new.self in
    ap (option_map (λ old. after_writes old (in_writes old h size c.args.status.0 (take data_words c.args.words.now))))
    (in_is _ _ h size _ c.in_ok-ring_check.ensures.words c.make_ready.ensures.ready)
    ∙ ap Some (sym (c.fill.ensures.filled ∙ ap (λ ws. after_writes ready (in_writes ready h size c.args.status.0 ws))
    (take_fewer data_words c.min.result c.args.words.now c.min.ensures)))
