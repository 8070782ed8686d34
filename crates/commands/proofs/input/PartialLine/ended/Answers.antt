use Rattle.std.proofs.Common.{subst, ◌≡◌, ◌∷◌, [], List, ℕ, cond}
use Rattle.spec_language.specs.Common.{TooLong, without_return}
use Rattle.commands.specs.Common.{text_line, line_list}
use Rattle.commands.proofs.LineLaws.{line_ended}
use Rattle.commands.proofs.input.PartialLine.ended.Goals as goal

pub returns : goal.returns
returns c = λ seen h.
    let kept : c.without_return.result.now ≡ without_return c.args.self.now.bytes.items = cc in
    line_ended _ _ seen _ h (subst (λ (l : List ℕ). line_list c.input_line.result
    ≡ cond c.args.self.now.is_too_long (TooLong ∷ []) (text_line l)) kept c.input_line.ensures)
