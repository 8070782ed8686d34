use Rattle.std.proofs.Common.{◌≡◌, ◌+◌, ◌*◌, ◌≤◌, ◌++◌, length, take, vec_len, vec_capacity}
use Rattle.words36.specs.Common.{block_bytes}
use Rattle.wire.specs.Records.{answer_record, record_bytes}
use Rattle.wire.proofs.answer.push_answer.Given as goal

abbrev pub invariant-loop-group : goal.invariant-loop-group
invariant-loop-group l = record {
  items : l.bytes.items ≡ l.fn.bytes.items ++ record_bytes (answer_record l.answer (length l.groups))
      ++ block_bytes (take l.group-index l.groups);
  len : vec_len l.bytes ≡ vec_len l.fn.bytes + (16 + 8 * l.group-index);
  capacity : vec_capacity l.fn.bytes ≤ vec_capacity l.bytes;
}
