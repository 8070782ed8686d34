use Rattle.std.proofs.Common.{◌≡◌, ◌+◌, ◌*◌, arith}
use Rattle.spec_machine.specs.Common.{buffer_words}
use Rattle.usercore.specs.Common.{bits_of}
use Rattle.usercore.proofs.WriteLaws.{setup_parts}
use Rattle.usercore.proofs.user_core.Core.set_up.Goals as goal

pub returns-clause-done : goal.returns-clause-done
returns-clause-done c =
    let base = c.base-base.result in
    let n = c.args.count in
    let whole : c.loop-k.k ≡ n = omega arith in
    let done = setup_parts c.args.self.now c.args.header (bits_of c.args.bytes) n (base + 1) (base + n * buffer_words)
    (omega arith) (omega arith) (omega arith) (omega arith) in
    cc
