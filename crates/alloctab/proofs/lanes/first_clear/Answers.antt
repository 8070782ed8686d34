use Rattle.std.proofs.Common.{◌*◌, length, sym, arith}
use Rattle.alloctab.specs.Common.{clear_bit}
use Rattle.alloctab.proofs.LowestLaws.{lowest_none, none_in_words, first_in_words}
use Rattle.alloctab.proofs.lanes.first_clear.Goals as goal

pub returns-then-place-set : goal.returns-then-place-set
returns-then-place-set c = sym (lowest_none (clear_bit c.args.set.now c.args.held.now) (36 * length c.args.set.now)
    (none_in_words c.args.set.now c.args.held.now (length c.args.set.now)
    (λ w below. c.full_words-place.ensures.full w (omega arith))))

pub returns : goal.returns
returns c = first_in_words c.args.set.now c.args.held.now c.full_words-place.result c.first_in_word.result
    c.index-set-place.result c.index-held-place.result c.requires.same (omega arith) c.index-set-place.is
    c.index-held-place.is c.full_words-place.ensures.full c.first_in_word.ensures
