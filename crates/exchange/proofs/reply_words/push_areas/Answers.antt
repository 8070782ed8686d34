use Rattle.std.proofs.Common.{ℕ, ◌<◌, ◌+◌, List, length, take, sym, subst, arith, rules}
use Rattle.std.proofs.lemmas.List.{take_all}
use Rattle.std.proofs.lemmas.List.FromFn.{length-range_with_len}
use Rattle.std.specs.List.{range_with_len}
use Rattle.spec_machine.specs.declared.area.Area.{Area}
use Rattle.spec_machine.specs.declared.call.Reply.TheVariants.{Done}
use Rattle.exchange.specs.Turns.{addresses}
use Rattle.exchange.specs.Exchanges.{HasRead}
use Rattle.exchange.proofs.ListLaws.{addresses_more, addresses_around, count_more, count_within}
use Rattle.exchange.proofs.ReplyLaws.{HasTold, told_none, told_more, told_read, read_told, read_until}
use Rattle.exchange.proofs.reply_words.push_areas.Goals as goal

pub loop-area-init : goal.loop-area-init
loop-area-init g c = record {
  told = told_none g.S.FileService.machine g.met.S.FileService.stands _ _ _;
  len = omega arith;
  capacity = search rules;
}

pub push_area-requires-clause-room : goal.push_area-requires-clause-room
push_area-requires-clause-room g c =
    let inside = count_within c.args.areas.now c.loop-area.area-index c.area-item.result c.loop-area-test.true
    c.area-item.is in
    omega arith

pub returns-in-Some : goal.returns-in-Some
returns-in-Some g c =
    let count = length-range_with_len c.area-item.result.first c.area-item.result.count in
    let short : length c.push_area.new.groups.items < length c.loop-area.groups.items
    + length (range_with_len c.area-item.result.first c.area-item.result.count)
    = omega (arith, c.in-Some.ensures.stopped) in
    read_until g.S.FileService.machine c.args.service.now c.loop-area.service c.push_area.new.service c.args.job
    (addresses (take c.loop-area.area-index c.args.areas.now))
    (range_with_len c.area-item.result.first c.area-item.result.count) c.args.groups.now.items
    c.loop-area.groups.items c.push_area.new.groups.items c.in-Some.reply c.loop-area.invariant.told
    c.in-Some.ensures.untold short _ _
    (addresses_around c.args.areas.now c.loop-area.area-index c.area-item.result c.loop-area-test.true
    c.area-item.is)

pub loop-area-preserved : goal.loop-area-preserved
loop-area-preserved g c =
    let count = length-range_with_len c.area-item.result.first c.area-item.result.count in
    let more = count_more c.args.areas.now c.loop-area.area-index c.area-item.result c.loop-area-test.true
    c.area-item.is in
    record {
      told = subst
          (λ (l : List ℕ). HasTold g.S.FileService.machine c.args.service.now c.push_area.new.service c.args.job l
          c.args.groups.now.items c.push_area.new.groups.items)
          (sym (addresses_more c.args.areas.now c.loop-area.area-index c.area-item.result c.loop-area-test.true
          c.area-item.is))
          (told_more g.S.FileService.machine _ _ _ _ _ _ _ _ _ c.loop-area.invariant.told
          (read_told g.S.FileService.machine _ _ _ _ _ _ _ c.in_default.ensures.told
          (omega (arith, c.in_default.ensures.all))));
      len = omega (arith, c.in_default.ensures.all);
      capacity = omega arith;
    }

pub returns : goal.returns
returns g c = subst
    (λ (l : List Area). HasRead g.S.FileService.machine c.args.service.now c.loop-area.service c.args.job (addresses l)
    c.args.groups.now.items c.loop-area.groups.items Done)
    (take_all c.loop-area.area-index c.args.areas.now (omega arith))
    (told_read g.S.FileService.machine _ _ _ _ _ _ c.loop-area.invariant.told)
