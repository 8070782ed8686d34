use Rattle.std.proofs.Common.{◌≡◌, ◌∙◌, ◌*◌, ◌/◌, length, drop, not, Bool, true, false, true≢false, sym, ap}
use Rattle.std.proofs.Common.{refl, arith}
use Rattle.std.proofs.lemmas.List.{take_rest}
use Rattle.words36.proofs.LaneLaws.{none_bad, words_by_groups}
use Rattle.words36.proofs.block.are_words.Goals as goal

pub returns-then-is_some : goal.returns-then-is_some
returns-then-is_some c =
    let joined = c.joined_words-joined.result in
    let groups = words_by_groups c.args.bytes.now joined c.joined_words-joined.ensures in
    let first = none_bad joined _ c.search_bad_word.result c.search_bad_word.ensures in (
      λ is. absurd (true≢false (sym is)),
      λ words.
          let none = first.1 (λ k below. (groups.1 words).0 k (omega arith)) in
          absurd (true≢false (sym c.if-is_some.true ∙ c.is_some.ensures ∙ none)),
    )

pub returns : goal.returns
returns c =
    let bytes = c.args.bytes.now in
    let joined = c.joined_words-joined.result in
    let groups = words_by_groups bytes joined c.joined_words-joined.ensures in
    let first = none_bad joined _ c.search_bad_word.result c.search_bad_word.ensures in
    let rest = none_bad (drop (length bytes / 64 * 64) bytes) _ c.search_bad_word-2.result
    (rw take_rest at c.search_bad_word-2.ensures) in
    let ended = first.0 (sym c.is_some.ensures ∙ c.if-is_some.false) in (
      λ is. groups.0 (λ k below. ended k (omega arith), rest.0 (c.is_none.ensures ∙ ap not is)),
      λ words. none_true c.is_none.result (sym c.is_none.ensures ∙ rest.1 (groups.1 words).1),
    )
  where
    none_true : (b : Bool) → not b ≡ false → b ≡ true
    none_true true is = refl
    none_true false is = absurd (true≢false is)
