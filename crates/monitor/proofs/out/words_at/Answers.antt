use Rattle.std.proofs.Common.{sym, ◌∙◌, ◌≡◌, [], ◌∷◌, IfOk, subst, arith}
use Rattle.spec_machine.specs.Common.{joined}
use Rattle.monitor.proofs.WriteOut.Outgoings.{gathers, area_found, list_found}
use Rattle.monitor.proofs.out.words_at.Goals as goal

pub returns-then-is_buffered-clause-words : goal.returns-then-is_buffered-clause-words
returns-then-is_buffered-clause-words c =
    gathers c.args.core.now c.args.channel.now c.args.address (λ v. v.items) c.gathered.result _
    (area_found c.args.core.now c.args.channel.now c.args.address
    (sym c.is_buffered.ensures ∙ c.if-is_buffered.true) _ c.bytes.ensures c.in_ok-area.area c.in_ok-area.ensures.words)
    c.gathered.ensures.words

pub gathered-requires-in-Some-clause-few : goal.gathered-requires-in-Some-clause-few
gathered-requires-in-Some-clause-few c = omega (arith, c.in-Some.ensures.few)

pub returns-in-Some-clause-words : goal.returns-in-Some-clause-words
returns-in-Some-clause-words c =
    gathers c.args.core.now c.args.channel.now c.args.address (λ v. v.items) c.gathered-in-Some.result _
    (list_found c.args.core.now c.args.channel.now c.args.address
    (sym c.is_buffered.ensures ∙ c.if-is_buffered.false) (c.in-Some.area ∷ []) c.in-Some.ensures.area)
    c.gathered-in-Some.ensures.words

pub returns-clause-words : goal.returns-clause-words
returns-clause-words c =
    gathers c.args.core.now c.args.channel.now c.args.address (λ v. v.items) c.gathered-2.result _
    (list_found c.args.core.now c.args.channel.now c.args.address
    (sym c.is_buffered.ensures ∙ c.if-is_buffered.false) c.in_ok-areas.areas.items c.in_ok-areas.ensures.areas)
    (subst (λ areas. IfOk c.gathered-2.result (λ words. words.items ≡ joined c.args.core.now areas))
    c.as_slice.ensures.value c.gathered-2.ensures.words)
