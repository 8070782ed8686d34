use Rattle.std.proofs.Common.{ℕ, List, ◌∙◌, ap}
use Rattle.spec_image.specs.Common.{head_or_zero}
use Rattle.retrieval.specs.Common.{with_length}
use Rattle.retrieval.proofs.BuiltPointers.{front_written}
use Rattle.retrieval.proofs.build.without_pointers.Goals as goal

pub returns : goal.returns
returns c =
    let words = c.args.version.now.words in
    front_written (with_length c.args.prime.now words) c.args.count (head_or_zero c.args.version.now.ribs)
    c.from_bits-3.result c.from_bits-4.result c.from_bits-2.result c.from_bits.result c.extension_word.result
    c.attributes_word.result c.word.result c.from_bits.ensures (c.extension_word.ensures words)
    (c.attributes_word.ensures words) c.word.ensures.value (c.from_bits-2.ensures ∙ c.from.ensures
    ∙ c.length.ensures) c.from_bits-3.ensures
    (c.from_bits-4.ensures ∙ c.from-2.ensures ∙ c.first_of.ensures ∙ ap (λ (l : List ℕ). head_or_zero l) c.ribs.ensures)
