use Rattle.std.proofs.Common.{◌≡◌, ℕ, ◌+◌, ◌*◌, ◌<◌, ◌^◌, List, [], ◌∷◌, ◌++◌, get_or, refl, sym, ◌∙◌, ap, subst}
use Rattle.std.proofs.Common.{arith}
use Rattle.std.proofs.lemmas.List.{take_more_set, take_all, get_or_read}
use Rattle.std.proofs.Math.ListN.{length-set}
use Rattle.alloctab.specs.Common.{word_bit, words_of}
use Rattle.alloctab.proofs.WordLaws.{words_none, words_more, table_words_are, number_of_word}
use Rattle.alloctab.proofs.blocks.table_block.Goals as goal

pub loop-place-init : goal.loop-place-init
loop-place-init c = record { long = refl; front = words_none (word_bit c.args.words.now) (4608 * c.args.i) }

pub loop-place-preserved : goal.loop-place-preserved
loop-place-preserved c =
    let all = c.args.words.now in
    let bits = word_bit all in
    let w = c.args.i * 128 + c.loop-place.place in
    let read : c.from_bits.result ≡ get_or all w 0 = c.from_bits.ensures ∙ c.bits.ensures.value
    ∙ get_or_read all w c.index-words-i.result (omega arith) c.index-words-i.is 0 in
    let few : get_or all w 0 < 2 ^ 36 = subst (λ (n : ℕ). n < 2 ^ 36)
    (sym c.from_bits.ensures ∙ read) c.bits.ensures.fits in
    let spelled = number_of_word all (4608 * c.args.i + 36 * c.loop-place.place) w 36 refl (omega arith) few in
    record {
      long = length-set c.loop-place.block c.loop-place.place c.from_bits.result ∙ c.loop-place.invariant.long;
      front = take_more_set c.loop-place.block c.loop-place.place c.from_bits.result (omega arith)
          ∙ ap (λ (l : List ℕ). l ++ c.from_bits.result ∷ []) c.loop-place.invariant.front
          ∙ ap (λ (n : ℕ). words_of bits (4608 * c.args.i) c.loop-place.place ++ n ∷ []) (read ∙ sym spelled)
          ∙ sym (words_more bits (4608 * c.args.i) c.loop-place.place);
    }

pub returns : goal.returns
returns c =
    sym (take_all c.loop-place.place c.loop-place.block (omega arith)) ∙ c.loop-place.invariant.front
    ∙ table_words_are (word_bit c.args.words.now) c.args.i c.loop-place.place (omega arith)
