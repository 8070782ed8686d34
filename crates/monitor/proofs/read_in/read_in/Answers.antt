use Rattle.std.proofs.Common.{◌≡◌, ◌-◌, length, min, take, sym, ap, ◌∙◌, arith}
use Rattle.spec_image.proofs.Common.{some_same}
use Rattle.spec_image.specs.Common.{block_start, words_from}
use Rattle.monitor.specs.Common.{Asked}
use Rattle.monitor.proofs.ReadIn.AskedWords.{enough_asked}
use Rattle.monitor.proofs.ReadIn.Inputs.{version_there}
use Rattle.monitor.proofs.read_in.read_in.Goals as goal

pub returns-in-Ok-2-clause-moved : goal.returns-in-Ok-2-clause-moved
returns-in-Ok-2-clause-moved g c honest v there body long has k asks n is =
    let words = words_from body c.args.block in
    let asked = c.in-Ok.ensures.count in
    let count : c.in-Ok.count ≡ k.count = sym asked.2 ∙ ap (λ (x : Asked). x.count) (some_same (sym asked.1 ∙ asks)) in
    c.fill.ensures.filled k asks
    ∙ ap k.filled (c.as_slice.ensures.value ∙ c.in-Ok-get_words.ensures.words honest v there body long has
    ∙ ap (λ m. take m words) count)
    ∙ enough_asked c.args.core.now c.args.channel.now c.args.address k asks words

pub returns-in-Ok-2-clause-few : goal.returns-in-Ok-2-clause-few
returns-in-Ok-2-clause-few g c k asks n is =
    let asked = c.in-Ok.ensures.count in
    let count : c.in-Ok.count ≡ k.count = sym asked.2 ∙ ap (λ (x : Asked). x.count) (some_same (sym asked.1 ∙ asks)) in
    let found = version_there c.args.volume.now.map c.args.handle c.requires.live in
    let many : length c.in-Ok-get_words.words.items ≡ min c.in-Ok.count (found.0.words - block_start c.args.block) =
    c.in-Ok-get_words.ensures.few found.0 found.1 in
    let same : n ≡ length c.in-Ok-get_words.words.items =
    sym (cc is) ∙ c.len.ensures ∙ sym c.as_slice.ensures.len ∙ ap length c.as_slice.ensures.value in
    omega (arith, count, many, same)
