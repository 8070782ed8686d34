use Rattle.std.proofs.Common.{◌≡◌, List, [], ◌∷◌, ◌++◌, length, drop, slice_set, sym, ◌∙◌, ap}
use Rattle.std.proofs.lemmas.List.{take_at}
use Rattle.std.proofs.Math.ListN.{length-set}
use Rattle.spec_image.specs.declared.put.Put.{Put}
use Rattle.changeset.specs.Common.{replaced, replaced-new}
use Rattle.changeset.proofs.PutLists.{set_there}
use Rattle.changeset.proofs.change_set.put_in.Goals as goal

pub returns-in-Some-clause-ok : goal.returns-in-Some-clause-ok
returns-in-Some-clause-ok c =
    let puts = c.args.puts.now.items in
    let new = slice_set c.as_mut_slice.result.now c.in-Some.i c.args.put in
    let long : length new ≡ length puts = length-set c.as_mut_slice.result.now c.in-Some.i c.args.put
    ∙ ap (λ (l : List Put). length l) c.as_mut_slice.ensures.value in
    take_at new (drop (length new) puts) (length puts) long
    ∙ ap (λ (l : List Put). slice_set l c.in-Some.i c.args.put) (c.as_mut_slice.ensures.value
    ∙ sym c.as_slice.ensures.value)
    ∙ set_there c.as_slice.result.now c.in-Some.i c.args.put c.in-Some.ensures.found.1 c.in-Some.ensures.first
    ∙ ap (replaced c.args.put) c.as_slice.ensures.value

pub returns-in-Ok-clause-ok : goal.returns-in-Ok-clause-ok
returns-in-Ok-clause-ok c =
    c.in-Ok.ensures.ok ∙ ap (λ (l : List Put). l ++ c.args.put ∷ []) (sym c.as_slice.ensures.value)
    ∙ sym (replaced-new c.args.put c.as_slice.result.now c.in-None.ensures.none)
    ∙ ap (replaced c.args.put) c.as_slice.ensures.value
