use Rattle.std.proofs.Common.{arith, ◌*◌}
use Rattle.wire.proofs.Fronts.{front_is, whole_is, is_frame}
use Rattle.wire.proofs.front.split_record.Goals as goal

pub returns-then-header-gt-MOST_WORDS : goal.returns-then-header-gt-MOST_WORDS
returns-then-header-gt-MOST_WORDS c = (
  c.from_bytes-header.result,
  c.from_bytes-header.ensures.fits,
  c.split_at.result.1.now,
  front_is c.args.bytes.now c.split_at.result.0.now c.split_at.result.1.now c.copy_from_slice.new.self
      c.from_bytes-header.result c.split_at.ensures.front c.split_at.ensures.back c.copy_from_slice.ensures.after
      c.from_bytes-header.ensures.spelled,
  omega arith,
)

pub returns : goal.returns
returns c =
    let front = front_is c.args.bytes.now c.split_at.result.0.now c.split_at.result.1.now c.copy_from_slice.new.self
    c.from_bytes-header.result c.split_at.ensures.front c.split_at.ensures.back c.copy_from_slice.ensures.after
    c.from_bytes-header.ensures.spelled in (
      is_frame c.from_bytes-header.result c.split_at.result.1.now c.from_bytes-header.ensures.fits (omega arith)
          (omega arith),
      (
        _,
        whole_is c.args.bytes.now c.split_at.result.1.now c.from_bytes-header.result
            (8 * c.from_bytes-header.result.count) front,
      ),
    )
