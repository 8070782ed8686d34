use Rattle.std.proofs.Common.{ℕ, ◌*◌, List, [], ◌∷◌, ◌++◌, refl, sym, ◌∙◌, ap, arith}
use Rattle.std.proofs.lemmas.List.{take_more_set, take_all}
use Rattle.std.proofs.Math.ListN.{length-set}
use Rattle.alloctab.specs.Common.{number_of, words_of}
use Rattle.alloctab.proofs.WordLaws.{words_none, words_more, table_words_are}
use Rattle.volume.specs.Common.{bit_below}
use Rattle.volume.proofs.fresh.table_block.Goals as goal

pub loop-place-init : goal.loop-place-init
loop-place-init c = record { long = refl; front = words_none (bit_below c.args.limit) (4608 * c.args.i) }

pub loop-place-preserved : goal.loop-place-preserved
loop-place-preserved c =
    let bits = bit_below c.args.limit in
    let words = words_of bits (4608 * c.args.i) c.loop-place.place in
    record {
      long = length-set c.loop-place.words c.loop-place.place c.table_word.result ∙ c.loop-place.invariant.long;
      front = take_more_set c.loop-place.words c.loop-place.place c.table_word.result (omega arith)
          ∙ ap (λ (l : List ℕ). l ++ c.table_word.result ∷ []) c.loop-place.invariant.front
          ∙ ap (λ (w : ℕ). words ++ w ∷ []) (c.table_word.ensures
          ∙ ap (λ (from : ℕ). number_of bits from 36) (omega arith))
          ∙ sym (words_more bits (4608 * c.args.i) c.loop-place.place);
    }

pub returns : goal.returns
returns c =
    sym (take_all c.loop-place.place c.loop-place.words (omega arith)) ∙ c.loop-place.invariant.front
    ∙ table_words_are (bit_below c.args.limit) c.args.i c.loop-place.place (omega arith)
