use Rattle.std.proofs.Common.{◌≡◌, ℕ, length, take, ap, sym, ◌∙◌, subst}
use Rattle.std.specs.Prelude.{IfOk}
use Rattle.spec_image.specs.Common.{splice, length_after, words_from}
use Rattle.spec_image.proofs.Common.{length-splice}
use Rattle.test_retrieval.proofs.body_tests.put_and_get.Goals as goal

pub returns : goal.returns
returns g c = record {
  read = λ h body is has.
      let after = splice body c.args.block c.args.words.now in
      let long : length after ≡ c.put_words.new.version.words =
      length-splice body c.args.block c.args.words.now
      ∙ ap (λ (n : ℕ). length_after n c.args.block (length c.args.words.now)) is
      ∙ sym c.in_ok-put_words.ensures.length in
      let count : c.length.result ≡ length_after c.args.version.now.words c.args.block
      (length c.args.words.now) = c.length.ensures ∙ c.in_ok-put_words.ensures.length in
      subst (λ (n : ℕ). IfOk c.get_words.result (λ got. got.items ≡ take n (words_from after 1))) count
      (c.get_words.ensures.words h after long
      (c.in_ok-put_words.ensures.body (c.get_words.ensures.same.was_honest h) body is has));
}
