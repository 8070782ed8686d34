use Rattle.std.proofs.Common.{◌≡◌, ◌+◌, ◌-◌, suc, arith}
use Rattle.spec_image.specs.Common.{count_up}
use Rattle.retrieval.proofs.run.Run.behind.Goals as goal

pub returns : goal.returns
returns c =
    let more = c.if-offset-self.false in
    let few = c.requires in
    let e : suc (c.args.self.last - (c.args.self.first + c.args.offset + 1))
    ≡ c.args.self.last - c.args.self.first - c.args.offset = omega arith in
    λ i. count_up (e i) (c.args.self.first + c.args.offset + 1)
