use Rattle.std.proofs.Common.{refl}
use Rattle.retrieval.specs.Common.{with_length}
use Rattle.retrieval.proofs.BuiltPointers.{front_rewritten}
use Rattle.retrieval.proofs.build.prime_block_for.Goals as goal

pub returns : goal.returns
returns c p runs next is =
    front_rewritten p (with_length c.args.prime.now p.words) runs next c.extension_word.result
    c.attributes_word.result c.word.result c.args.words.now (c.extension_word.ensures p.words)
    (c.attributes_word.ensures p.words) c.word.ensures.value refl is
