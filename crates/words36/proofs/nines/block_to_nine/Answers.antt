use Rattle.std.proofs.Common.{◌≡◌, ◌∙◌, ◌*◌, ◌+◌, ap, arith, subst, All}
use Rattle.std.proofs.lemmas.List.{take_all}
use Rattle.std.proofs.lemmas.List.Elements.{All-more}
use Rattle.words36.specs.Common.{IsWord, pairs_in}
use Rattle.words36.proofs.NineLaws.{pair_put, all_put, pairs_of_bytes}
use Rattle.words36.proofs.nines.block_to_nine.Goals as goal

pub loop-pair-preserved : goal.loop-pair-preserved
loop-pair-preserved c =
    let pair = c.loop-pair.pair in
    let words = c.args.block.now in
    let further : 2 * (pair + 1) ≡ 2 * pair + 1 + 1 = omega arith in
    let one = All-more IsWord words (2 * pair) _ (omega arith) c.loop-pair.invariant.words c.put_pair.ensures.fit.0 in
    let two = All-more IsWord words (2 * pair + 1) _ (omega arith) one c.put_pair.ensures.fit.1 in
    record {
      so_far = pair_put c.loop-pair.bytes c.put_pair.new.bytes words pair _ _ (omega arith)
          (omega arith) c.put_pair.ensures.put c.loop-pair.invariant.so_far;
      long = omega arith;
      words = rw further two;
    }

pub returns-clause-words : goal.returns-clause-words
returns-clause-words c = record {
  long = omega arith;
  each = subst (All IsWord) (take_all (2 * c.loop-pair.pair) c.args.block.now (omega arith))
      c.loop-pair.invariant.words;
}

pub returns-clause-bytes : goal.returns-clause-bytes
returns-clause-bytes c = all_put c.loop-pair.bytes c.args.block.now c.loop-pair.pair (omega arith) (omega arith)
    c.loop-pair.invariant.so_far

pub returns-clause-reads_back : goal.returns-clause-reads_back
returns-clause-reads_back c = ap (pairs_in 64) (returns-clause-bytes c)
    ∙ pairs_of_bytes 64 c.args.block.now (omega arith) (returns-clause-words c).each
