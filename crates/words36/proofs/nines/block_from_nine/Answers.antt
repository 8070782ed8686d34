use Rattle.std.proofs.Common.{◌∙◌, ◌+◌, ◌*◌, ap, arith, refl}
use Rattle.std.proofs.lemmas.List.{length-set}
use Rattle.words36.specs.Common.{nine_bytes}
use Rattle.words36.proofs.NineLaws.{pair_read, all_read, bytes_of_pairs, block_read}
use Rattle.words36.proofs.nines.block_from_nine.Goals as goal

pub loop-pair-preserved : goal.loop-pair-preserved
loop-pair-preserved c = record {
  so_far = pair_read c.args.bytes.now c.loop-pair.block _ c.loop-pair.pair c.pair_at-first.result.0
      c.pair_at-first.result.1 (omega arith) (omega arith) refl c.pair_at-first.ensures.first
      c.pair_at-first.ensures.second c.loop-pair.invariant.so_far;
  long = length-set _ (2 * c.loop-pair.pair + 1) _ ∙ length-set c.loop-pair.block (2 * c.loop-pair.pair) _
      ∙ c.loop-pair.invariant.long;
}

pub returns-clause-value : goal.returns-clause-value
returns-clause-value c = all_read c.args.bytes.now c.loop-pair.block c.loop-pair.pair (omega arith) (omega arith)
    c.loop-pair.invariant.so_far

pub returns-clause-words : goal.returns-clause-words
returns-clause-words c = rw (returns-clause-value c) (block_read c.args.bytes.now c.fits-bytes)

pub returns-clause-packs_back : goal.returns-clause-packs_back
returns-clause-packs_back c = ap nine_bytes (returns-clause-value c)
    ∙ bytes_of_pairs 64 c.args.bytes.now (omega arith) c.fits-bytes
