use Rattle.std.proofs.Common.{◌≡◌, ◌+◌, ◌-◌, ◌*◌, ◌++◌, ℕ, List, length, min, take, ap, ◌∙◌, arith, rules}
use Rattle.std.specs.Prelude.{slice_index}
use Rattle.retrieval.proofs.RunReads.{push_long, push_kept, push_put, whole_more}
use Rattle.retrieval.proofs.body.push_blocks.Goals as goal

pub loop-place-preserved : goal.loop-place-preserved
loop-place-preserved c =
    let before = c.args.words.now.items in
    let done = c.loop-place.words.items in
    let got = c.index-blocks-place.result in
    let here = c.min-here.result in
    let blocks = c.args.blocks.now in
    let place = c.loop-place.place in
    let wanted = c.args.wanted in
    let is : c.extend_from_slice.new.self.items ≡ done ++ take here got = c.in-Ok.ensures.items
    ∙ ap (λ (l : List ℕ). done ++ l) c.first_words.ensures.words in
    let here_is : here ≡ min (wanted - length done) 128 = omega (arith, c.min-here.ensures, c.len.ensures) in
    let all : length got ≡ 128 = c.first_words.ensures.whole in
    let long = c.loop-place.invariant.long in
    let few = c.requires.few in
    record {
      room = search rules;
      long = ap length is ∙ push_long before done got blocks place here wanted long few here_is all;
      kept = λ p low. ap (λ (l : List ℕ). slice_index l p) is
          ∙ push_kept before done got blocks place here wanted long few here_is all c.loop-place.invariant.kept p low;
      whole = λ i less. whole_more blocks got place c.loop-place-test.true c.index-blocks-place.is all
          c.loop-place.invariant.whole i less;
      put = λ i k less short within. ap (λ (l : List ℕ). slice_index l (length before + i * 128 + k)) is
          ∙ push_put before done got blocks place here wanted long few here_is all c.loop-place-test.true
          c.index-blocks-place.is c.loop-place.invariant.put i k less short within;
    }
