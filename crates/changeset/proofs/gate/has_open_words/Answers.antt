use Rattle.std.proofs.Common.{◌≡◌, ℕ, Some, ◌==◌, replicate, sym, ◌∙◌, ap}
use Rattle.std.specs.Bool.{Decides}
use Rattle.std.proofs.lemmas.Bool.Decides.{Decides-eqb}
use Rattle.std.proofs.lemmas.Slice.Eq.{slice_eq-Decides}
use Rattle.spec_image.specs.Common.{open_gate}
use Rattle.spec_image.proofs.Common.{some_same}
use Rattle.changeset.proofs.gate.has_open_words.Goals as goal

pub returns-in-Ok-clause-answer : goal.returns-in-Ok-clause-answer
returns-in-Ok-clause-answer g c = λ h.
    let read = c.in-Ok.ensures.words h in
    let words : replicate 128 c.word_of-open.result
    ≡ open_gate = ap (λ (n : ℕ). replicate 128 n) c.word_of-open.ensures in
    let test : Decides c.eq.result (c.in-Ok.words ≡ replicate 128 c.word_of-open.result) = slice_eq-Decides
    {E = λ a b. a == b} (λ a b. Decides-eqb a b) c.in-Ok.words (replicate 128 c.word_of-open.result) c.eq.result
    c.eq.ensures in
    (λ equal. read ∙ ap Some (test.0 equal ∙ words), λ is. test.1 (some_same (sym read ∙ is) ∙ sym words))
