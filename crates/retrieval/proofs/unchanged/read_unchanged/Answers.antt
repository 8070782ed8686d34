use Rattle.std.proofs.Common.{length, refl, sym, ap, ◌∙◌}
use Rattle.std.proofs.lemmas.Result.{err_from_is_err_and}
use Rattle.retrieval.specs.declared.error.BodyError.TheVariants.{BadData}
use Rattle.retrieval.proofs.Parts.{damaged_at}
use Rattle.retrieval.proofs.UnchangedWords.{stays_none, stays_some, edge_below, no_edge, edge_whole}
use Rattle.changeset.proofs.LogRead.{passed_on}
use Rattle.retrieval.proofs.unchanged.read_unchanged.Goals as goal

pub returns-in_default-clause-kept : goal.returns-in_default-clause-kept
returns-in_default-clause-kept g c h body is whole has = stays_none body c.args.total c.args.at c.args.count
    0 is c.in_default.ensures.put_behind c.in_default.ensures.put_inside

pub returns-in_err-block-clause-damaged : goal.returns-in_err-block-clause-damaged
returns-in_err-block-clause-damaged g c h k is =
    let s = g.D.Disk.state c.args.disk.now in
    let p = err_from_is_err_and c.from_residual.result c.from_residual.ensures.1 in
    let e = c.read_data.ensures.bad h k
    (passed_on c.from_residual.result c.read_data.result p.0 c.in_err-block.field-0.0
    (BadData k) is p.1 p.2 c.in_err-block.was) in
    damaged_at s.contents s.contents c.args.blocks.now.blocks c.args.blocks.now.blocks k c.in-Some.place refl
    (edge_below c.args.total c.args.at c.args.count c.in-Some.place
    (length c.args.blocks.now.blocks) c.in-Some.ensures.some
    c.requires.counted) (e.0 ∙ c.at.ensures) (ap s.contents (sym c.at.ensures) ∙ e.1) (λ n. refl)

pub returns-clause-kept : goal.returns-clause-kept
returns-clause-kept g c h body is whole has =
    stays_some (g.D.Disk.state c.args.disk.now).contents c.args.blocks.now.blocks body whole has c.args.total
    c.args.at c.args.count c.in-Some.place c.in_ok-block.block c.front_of-words.result is
    (edge_below c.args.total c.args.at c.args.count c.in-Some.place
    (length c.args.blocks.now.blocks) c.in-Some.ensures.some
    c.requires.counted)
    (ap (g.D.Disk.state c.args.disk.now).contents (sym c.at.ensures) ∙ c.in_ok-block.ensures.words h)
    c.in-Some.ensures.some c.front_of-words.ensures.front c.front_of-words.ensures.zeros

pub returns-in_default-clause-whole : goal.returns-in_default-clause-whole
returns-in_default-clause-whole g c h n is none = no_edge c.args.blocks.now.blocks c.args.total c.args.at c.args.count
    c.in_default.ensures.put_behind c.in_default.ensures.put_inside n is

pub returns-clause-whole : goal.returns-clause-whole
returns-clause-whole g c h = edge_whole (g.D.Disk.state c.args.disk.now).contents c.args.blocks.now.blocks
    c.in_ok-block.block c.args.total c.args.at c.args.count c.in-Some.place c.in-Some.ensures.some
    (ap (g.D.Disk.state c.args.disk.now).contents (sym c.at.ensures) ∙ c.in_ok-block.ensures.words h)

pub returns-in_err-block-clause-edge : goal.returns-in_err-block-clause-edge
returns-in_err-block-clause-edge g c h k is =
    let p = err_from_is_err_and c.from_residual.result c.from_residual.ensures.1 in
    let e = c.read_data.ensures.bad h k
    (passed_on c.from_residual.result c.read_data.result p.0 c.in_err-block.field-0.0
    (BadData k) is p.1 p.2 c.in_err-block.was) in
    record { place = c.in-Some.place; edge = c.in-Some.ensures.some; is = sym c.at.ensures ∙ sym e.0 }
