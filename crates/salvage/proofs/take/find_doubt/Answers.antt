use Rattle.std.proofs.Common.{ℕ, ◌<◌, length, sym, subst}
use Rattle.salvage.proofs.CountLaws.{fits_inside}
use Rattle.salvage.proofs.take.find_doubt.Goals as goal

pub is_marked-requires : goal.is_marked-requires
is_marked-requires c = subst (λ (k : ℕ). c.in_ok-block.block < k) (sym c.requires.long)
    (fits_inside (length c.args.counts.now) c.args.file.now c.in_ok-block.block c.requires.fits
    c.in_ok-block.ensures.among).below
