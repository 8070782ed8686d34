use Rattle.std.proofs.Common.{◌≡◌, ◌<◌, ◌+◌, ◌-◌, ◌++◌, ℕ, List, ap, drop, rules, sym, ◌∙◌}
use Rattle.collection.specs.HostNames.{hidden, shown_after, shown_byte}
use Rattle.collection.proofs.ShownLaws.{hidden_at, one_shown, skips_one}
use Rattle.collection.proofs.lines.push_shown_byte.Goals as goal

pub returns-then-skipped-gt0 : goal.returns-then-skipped-gt0
returns-then-skipped-gt0 c =
    let some : 0 < c.args.skipped = search rules in
    ap (λ (l : List ℕ). c.args.text.now.items ++ l)
    (skips_one c.args.skipped c.args.path.now c.args.place some c.requires)

pub returns : goal.returns
returns c =
    let none : c.args.skipped ≡ 0 = search rules in
    let path = c.args.path.now in
    let place = c.args.place in
    let text = c.args.text.now.items in
    let more = c.push.new.self.items in
    let hides : c.hidden-hidden.result ≡ hidden_at path place = c.hidden-hidden.ensures
    ∙ (λ i. hidden (c.byte_at-first.ensures i) (c.byte_at-second.ensures i) (c.byte_at-third.ensures i)) in
    let rest : c.saturating_sub.result ≡ hidden_at path place - 1 = c.saturating_sub.ensures
    ∙ ap (λ (n : ℕ). n - 1) hides in
    ap (λ (n : ℕ). more ++ shown_after n (drop (place + 1) path)) rest
    ∙ one_shown text more path place c.shown_byte.result c.requires
    (c.shown_byte.ensures ∙ (λ i. shown_byte (hides i) (c.byte_at-first.ensures i))) c.in_ok-push.ensures.items
    ∙ ap (λ (n : ℕ). text ++ shown_after n (drop place path)) (sym none)
