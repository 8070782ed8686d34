use Rattle.std.proofs.Common.{◌≡◌, ◌+◌, ◌≤◌, length, take, vec_len, vec_capacity}
use Rattle.exchange.specs.Turns.{addresses}
use Rattle.exchange.proofs.ReplyLaws.{HasTold}
use Rattle.exchange.proofs.reply_words.push_areas.Given as goal

abbrev pub invariant-loop-area : goal.invariant-loop-area
invariant-loop-area g l = record {
  told : HasTold g.S.FileService.machine l.fn.service l.service l.job (addresses (take l.area-index l.areas))
      l.fn.groups.items l.groups.items;
  len : vec_len l.groups ≡ vec_len l.fn.groups + length (addresses (take l.area-index l.areas));
  capacity : vec_capacity l.fn.groups ≤ vec_capacity l.groups;
}
