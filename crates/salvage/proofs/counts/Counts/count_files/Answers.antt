use Rattle.std.proofs.Common.{◌+◌, ℕ, length, take, refl, sym, subst, ◌∙◌}
use Rattle.spec_image.specs.Common.{times}
use Rattle.salvage.specs.Common.{FitsDisk, blocks_of, claims}
use Rattle.salvage.proofs.CountLaws.{adds_none, adds_on, adds_same, claims_more, claims_all, fits_at}
use Rattle.salvage.proofs.counts.Counts.count_files.Goals as goal

pub count_file-requires : goal.count_file-requires
count_file-requires c = subst (λ (n : ℕ). FitsDisk n c.file-item.result) (sym c.loop-file.invariant.long)
    (fits_at (length c.args.self.now) c.args.files.now c.loop-file.file-index c.file-item.result c.loop-file-test.true
    c.file-item.is c.requires)

pub loop-file-init : goal.loop-file-init
loop-file-init c = record { long = refl; counted = adds_none c.args.self.now _ (λ m. refl) }

pub loop-file-preserved : goal.loop-file-preserved
loop-file-preserved c =
    let files = c.args.files.now in
    let i = c.loop-file.file-index in
    let file = c.file-item.result in
    record {
      long = c.count_file.ensures.length ∙ c.loop-file.invariant.long;
      counted = adds_on c.args.self.now c.loop-file.self c.count_file.new.self (λ m. claims (take i files) m)
          (λ m. times m (blocks_of file)) (λ m. claims (take (i + 1) files) m) c.loop-file.invariant.counted
          c.count_file.ensures.counted (claims_more files i file c.loop-file-test.true c.file-item.is);
    }

pub returns-clause-counted : goal.returns-clause-counted
returns-clause-counted c =
    let files = c.args.files.now in
    let i = c.loop-file.file-index in
    adds_same c.args.self.now c.loop-file.self (λ m. claims (take i files) m) (λ m. claims files m)
    c.loop-file.invariant.counted (claims_all files i c.loop-file-test.false)
