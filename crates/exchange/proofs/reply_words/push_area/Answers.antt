use Rattle.std.proofs.Common.{ℕ, ◌<◌, ◌+◌, [], ◌∷◌, List, length, ap, sym, subst, arith, rules}
use Rattle.std.specs.List.{range_with_len}
use Rattle.spec_machine.specs.declared.area.Area.{Area}
use Rattle.exchange.proofs.ListLaws.{range_around, range_more}
use Rattle.exchange.proofs.ReplyLaws.{HasTold, told_none, told_more, read_told, read_until}
use Rattle.exchange.proofs.reply_words.push_area.Goals as goal

pub loop-place-init : goal.loop-place-init
loop-place-init g c = record {
  told = told_none g.S.FileService.machine g.met.S.FileService.stands _ _ _;
  len = omega arith;
  capacity = search rules;
}

pub returns-in-Some-clause-untold : goal.returns-in-Some-clause-untold
returns-in-Some-clause-untold g c =
    let stopped = ap length c.in-Some.ensures.stopped in
    let short : length c.push_word.new.groups.items < length c.loop-place.groups.items + 1 = omega arith in
    let first = ap (λ (a : Area). a.first) c.area.view_is in
    let count = ap (λ (a : Area). a.count) c.area.view_is in
    read_until g.S.FileService.machine c.args.service.now c.loop-place.service c.push_word.new.service c.args.job
    (range_with_len c.args.area.now.first c.loop-place.place)
    ((c.area.inside.first + c.loop-place.place) ∷ []) c.args.groups.now.items c.loop-place.groups.items
    c.push_word.new.groups.items c.in-Some.reply
    c.loop-place.invariant.told c.in-Some.ensures.untold short _ _
    (range_around c.args.area.now.first c.loop-place.place c.args.area.now.count
    (c.area.inside.first + c.loop-place.place) (omega arith) (omega arith))

pub loop-place-preserved : goal.loop-place-preserved
loop-place-preserved g c =
    let first = ap (λ (a : Area). a.first) c.area.view_is in
    record {
      told = subst
          (λ (l : List ℕ). HasTold g.S.FileService.machine c.args.service.now c.push_word.new.service c.args.job l
          c.args.groups.now.items c.push_word.new.groups.items)
          (sym (range_more c.args.area.now.first c.loop-place.place (c.area.inside.first + c.loop-place.place)
          (omega arith)))
          (told_more g.S.FileService.machine _ _ _ _ _ _ _ _ _ c.loop-place.invariant.told
          (read_told g.S.FileService.machine _ _ _ _ _ _ _ c.in_default.ensures.told
          (omega (arith, c.in_default.ensures.all))));
      len = omega (arith, c.in_default.ensures.all);
      capacity = omega arith;
    }
