use Rattle.std.proofs.Common.{◌+◌, ◌∷◌, [], ℕ, sym, ap, ◌∙◌, arith}
use Rattle.spec_image.specs.Common.{times}
use Rattle.volume.proofs.common.MarkedBlocks.{times_parts}
use Rattle.salvage.specs.Common.{blocks_of}
use Rattle.salvage.proofs.CountLaws.{adds_on}
use Rattle.salvage.proofs.counts.Counts.count_file.Goals as goal

pub returns-clause-counted : goal.returns-clause-counted
returns-clause-counted c =
    let file = c.args.file.now in
    let at : ℕ → ℕ = λ m. times m (file.at ∷ []) in
    let ribs : ℕ → ℕ = λ m. times m c.ribs.result.now in
    let blocks : ℕ → ℕ = λ m. times m file.stored.version.blocks in
    adds_on c.args.self.now c.count_all.new.self c.count_data.new.self (λ m. at m + ribs m) blocks
    (λ m. times m (blocks_of file))
    (adds_on c.args.self.now c.count.new.self c.count_all.new.self at ribs (λ m. at m + ribs m) c.count.ensures.counted
    c.count_all.ensures.counted (λ m. omega arith)) c.count_data.ensures.counted
    (λ m. times_parts m file.at file.stored.version.ribs file.stored.version.blocks
    ∙ ap (λ ns. at m + times m ns + blocks m) (sym c.ribs.ensures))
