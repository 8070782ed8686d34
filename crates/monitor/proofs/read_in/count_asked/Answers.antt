use Rattle.std.proofs.Common.{◌≡◌, ◌<◌, [], ◌∷◌, sym, ap, subst, ◌∙◌, arith}
use Rattle.std.specs.Prelude.{is_err}
use Rattle.std.proofs.lemmas.List.Elements.{All-cons, All-nil}
use Rattle.spec_machine.specs.Common.{word_count, byte_size}
use Rattle.spec_machine.specs.declared.area.Area.{Area}
use Rattle.retrieval.specs.Common.{mode_number}
use Rattle.usercore.specs.Common.{bits_of}
use Rattle.monitor.proofs.ReadIn.AskedWords.{IsAsked, list_asked, ready_found, ring_asked}
use Rattle.monitor.proofs.read_in.count_asked.Goals as goal

pub returns-then-is_buffered-clause-count : goal.returns-then-is_buffered-clause-count
returns-then-is_buffered-clause-count c =
    let channel = c.args.channel.now in
    let found = ready_found c.ring_check.result _ c.args.core.now channel.input_header (bits_of c.bytes.result)
    (byte_size (mode_number channel.mode)) (ap is_err c.in_ok-ring_check.was) c.bytes.ensures
    c.ring_check.ensures.words in
    ring_asked c.args.core.now channel c.args.address (sym c.is_buffered.ensures ∙ c.if-is_buffered.true) found.0
    found.1

pub returns-in-Some-clause-count : goal.returns-in-Some-clause-count
returns-in-Some-clause-count c =
    let count = ap (λ (x : Area). x.count) c.area.view_is in
    let one : word_count (c.in-Some.area ∷ []) ≡ c.area.inside.count = omega (arith, count) in
    subst (IsAsked c.args.core.now c.args.channel.now c.args.address) one
    (list_asked c.args.core.now c.args.channel.now c.args.address (sym c.is_buffered.ensures ∙ c.if-is_buffered.false)
    (c.in-Some.area ∷ []) c.in-Some.ensures.area
    (All-cons (λ (x : Area). 0 < x.count) c.in-Some.area [] c.in-Some.ensures.some
    (All-nil (λ (x : Area). 0 < x.count))))

pub returns-clause-count : goal.returns-clause-count
returns-clause-count c =
    subst (IsAsked c.args.core.now c.args.channel.now c.args.address)
    (ap word_count (sym c.as_slice.ensures.value) ∙ sym c.word_count.ensures)
    (list_asked c.args.core.now c.args.channel.now c.args.address (sym c.is_buffered.ensures ∙ c.if-is_buffered.false)
    c.in_ok-areas.areas.items c.in_ok-areas.ensures.areas c.in_ok-areas.ensures.some)
