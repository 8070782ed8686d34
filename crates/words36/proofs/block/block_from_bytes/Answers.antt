use Rattle.std.proofs.Common.{ℕ, ◌≡◌, ◌/◌, ◌<◌, List, slice_index, is_some, ap, subst, Ok, rules, arith}
use Rattle.words36.specs.Common.{IsBlock, IsWord, IsFirstBadWord, number_at}
use Rattle.words36.proofs.BlockLaws.{AreRead, block_bytes-read, read_alone, not_block}
use Rattle.words36.proofs.LaneLaws.{none_bad, first_alone}
use Rattle.words36.proofs.block.block_from_bytes.Goals as goal

eights : (long : ℕ) → long ≡ 1024 → long / 8 ≡ 128
eights long is = omega arith

bad : (c : goal.In-Some) → IsFirstBadWord 128 c.args.bytes.now c.in-Some.place
bad c = subst (λ (n : ℕ). IsFirstBadWord n c.args.bytes.now c.in-Some.place) (eights _ c.told-bytes)
    ((c.first_bad_word.ensures c.in-Some.place).0 c.in-Some.is)

are_read : (bytes block : List ℕ) → IsBlock block
    → ((k : ℕ) → k < 128 → slice_index block k ≡ number_at bytes k) → AreRead bytes block 128
are_read bytes block is same = record {
  value = same;
  fits = λ k below. subst IsWord (same k below) (is.each k 0 (omega (arith, is.long)));
}

pub block_of_words-requires : goal.block_of_words-requires
block_of_words-requires c place below =
    (none_bad c.args.bytes.now _ c.first_bad_word.result c.first_bad_word.ensures).0 (ap is_some c.in-None.is) place
    (omega arith)

pub returns-in-Some-clause-of_block : goal.returns-in-Some-clause-of_block
returns-in-Some-clause-of_block c words block same =
    let first = bad c in
    absurd (not_block c.args.bytes.now words c.in-Some.place first.inside first.bad block same)

pub returns-in-Some-clause-bad : goal.returns-in-Some-clause-bad
returns-in-Some-clause-bad c q = (
  λ is. (let e : c.in-Some.place ≡ q = grind arith in subst (IsFirstBadWord 128 c.args.bytes.now) e (bad c)),
  λ other. (let e = first_alone c.args.bytes.now 128 c.in-Some.place q (bad c) other in search rules),
)

pub returns-in-None-clause-read : goal.returns-in-None-clause-read
returns-in-None-clause-read c =
    let block = c.block_of_words.ensures.words in
    block_bytes-read c.args.bytes.now c.block_of_words.result 128 c.fits-bytes c.told-bytes block.long
    (are_read c.args.bytes.now c.block_of_words.result block c.block_of_words.ensures.each)

pub returns-in-None-clause-of_block : goal.returns-in-None-clause-of_block
returns-in-None-clause-of_block c words block same =
    let own = c.block_of_words.ensures.words in
    ap Ok (read_alone c.args.bytes.now c.block_of_words.result words own.long
    (are_read c.args.bytes.now c.block_of_words.result own c.block_of_words.ensures.each) block same)
