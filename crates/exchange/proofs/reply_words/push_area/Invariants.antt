use Rattle.std.proofs.Common.{◌≡◌, ◌+◌, ◌≤◌, vec_len, vec_capacity}
use Rattle.std.specs.List.{range_with_len}
use Rattle.exchange.proofs.ReplyLaws.{HasTold}
use Rattle.exchange.proofs.reply_words.push_area.Given as goal

abbrev pub invariant-loop-place : goal.invariant-loop-place
invariant-loop-place g l = record {
  told : HasTold g.S.FileService.machine l.fn.service l.service l.job (range_with_len l.area.first l.place)
      l.fn.groups.items l.groups.items;
  len : vec_len l.groups ≡ vec_len l.fn.groups + l.place;
  capacity : vec_capacity l.fn.groups ≤ vec_capacity l.groups;
}
