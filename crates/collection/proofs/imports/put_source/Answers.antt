use Rattle.std.proofs.Common.{inl, inr, refl, sym, ap, ◌∙◌}
use Rattle.collection.specs.Common.{label_of}
use Rattle.collection.proofs.MovedParts.{imported_as, put_into_as}
use Rattle.collection.proofs.imports.put_source.Goals as goal

pub returns-in_default : goal.returns-in_default
returns-in_default g c =
    let p = c.in_default.ensures.none in
    inr (inl (p.0, p.1, (refl {a = c.args.monitor.now}, c.turn_down.ensures)))

pub returns : goal.returns
returns g c = inl (put_into_as _ _ _ _ _ _ _ _ _ _ (λ mid done. record {
  at = c.in-Some.moment;
  moment = c.in-Some.ensures.some;
  encoding = c.encoding_for.result;
  says = rw (sym c.deref-2.ensures.value) c.encoding_for.ensures;
  imported = imported_as _ _ _ _ _ _ _ _ _ _ _ _
      (c.deref-3.ensures.value ∙ c.in-Ok.ensures ∙ ap (label_of c.args.named.now.path.now) c.deref.ensures.value)
      c.deref-4.ensures.value done;
}) c.put_into.ensures)
