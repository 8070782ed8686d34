use Rattle.std.proofs.Common.{arith, subst, All}
use Rattle.std.proofs.lemmas.List.{take_all}
use Rattle.std.proofs.lemmas.List.Elements.{All-more}
use Rattle.words36.specs.Common.{IsWord}
use Rattle.words36.proofs.BlockLaws.{put-more, put-all}
use Rattle.words36.proofs.block.block_to_bytes.Goals as goal

pub loop-place-preserved : goal.loop-place-preserved
loop-place-preserved c =
    let place = c.loop-place.place in
    record {
      so_far = put-more c.loop-place.bytes c.put_word.new.bytes c.args.block.now place _ (omega arith)
          (omega arith) c.put_word.ensures.put c.loop-place.invariant.so_far;
      long = omega arith;
      words = All-more IsWord c.args.block.now place _ (omega arith) c.loop-place.invariant.words
          c.put_word.ensures.fits;
    }

pub returns-clause-words : goal.returns-clause-words
returns-clause-words c = record {
  long = omega arith;
  each = subst (All IsWord) (take_all c.loop-place.place c.args.block.now (omega arith)) c.loop-place.invariant.words;
}

pub returns-clause-bytes : goal.returns-clause-bytes
returns-clause-bytes c = put-all c.loop-place.bytes c.args.block.now c.loop-place.place (omega arith)
    (omega arith) c.loop-place.invariant.so_far
