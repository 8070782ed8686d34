use Rattle.std.proofs.Common.{arith, ap, sym, ◌∙◌, ◌++◌}
use Rattle.std.proofs.lemmas.List.{append-nil}
use Rattle.wire.specs.Records.{answer_record, record_bytes}
use Rattle.wire.proofs.answer.push_answer.Goals as goal

pub loop-group-init : goal.loop-group-init
loop-group-init c = record {
  items = c.in_ok-extend_from_slice.ensures.items
      ∙ ap (λ bytes. c.args.bytes.now.items ++ bytes)
      (c.to_bytes.ensures ∙ ap record_bytes (c.answer_header.ensures
      ∙ ap (answer_record c.args.answer.now) c.in-Ok.ensures.1))
      ∙ sym (append-nil _);
  len = omega (arith, c.in_ok-extend_from_slice.ensures.len);
  capacity = c.extend_from_slice.ensures.capacity;
}
