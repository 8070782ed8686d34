use Rattle.std.proofs.Common.{◌≡◌, ◌∙◌, ℕ, false, true, length, min, ap, sym, arith}
use Rattle.words36.specs.Common.{packed}
use Rattle.changeset.proofs.LogRead.{different, not_different}
use Rattle.commands.proofs.WordBytes.{left_after, not_left}
use Rattle.commands.proofs.export_file.are_packed.Goals as goal

pub returns-then-ne : goal.returns-then-ne
returns-then-ne c =
    let piece = c.split_at.result.0.now in
    let long : c.len.result ≡ length (packed piece) =
    omega (arith, c.in-Ok.packed.ok, c.len.ensures, ap length c.in-Ok.ensures.value) in
    let left = c.loop-text.words.now in (
      (λ is. let wrong : false ≡ true = is in cc),
      λ e. absurd (not_left c.args.text.now c.args.words.now c.loop-text.text.now left piece
          c.split_at.result.1.now 2048 c.min.result c.loop-text.invariant c.min.ensures c.split_at.ensures.front
          c.split_at.ensures.back c.split_at-in-loop-text.result.0.now c.split_at-in-loop-text.result.1.now
          c.min-in-loop-text.result (c.min-in-loop-text.ensures ∙ ap (λ (n : ℕ). min (length left) n) long)
          c.split_at-in-loop-text.ensures.front c.split_at-in-loop-text.ensures.back
          (λ same. different c.split_at-in-loop-text.result.0.now c.as_slice.result.now c.ne.result c.ne.ensures
          c.if-ne.true (same ∙ sym (c.as_slice.ensures.value ∙ c.in-Ok.ensures.value))) e),
    )

pub loop-text-preserved : goal.loop-text-preserved
loop-text-preserved c =
    let piece = c.split_at.result.0.now in
    let long : c.len.result ≡ length (packed piece) =
    omega (arith, c.in-Ok.packed.ok, c.len.ensures, ap length c.in-Ok.ensures.value) in
    let left = c.loop-text.words.now in
    left_after c.args.text.now c.args.words.now c.loop-text.text.now left piece c.split_at.result.1.now 2048
    c.min.result c.loop-text.invariant c.min.ensures c.split_at.ensures.front c.split_at.ensures.back
    c.split_at-in-loop-text.result.0.now c.split_at-in-loop-text.result.1.now
    c.min-in-loop-text.result (c.min-in-loop-text.ensures ∙ ap (λ (n : ℕ). min (length left) n) long)
    c.split_at-in-loop-text.ensures.front c.split_at-in-loop-text.ensures.back
    (not_different c.split_at-in-loop-text.result.0.now c.as_slice.result.now c.ne.result c.ne.ensures c.if-ne.false
    ∙ c.as_slice.ensures.value ∙ c.in-Ok.ensures.value)
