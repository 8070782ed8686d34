use Rattle.std.proofs.Common.{◌≡◌, ◌∙◌, sym, ap, arith, map, length, eq-eqb, Err}
use Rattle.directory.specs.Common.{IsBadWords}
use Rattle.directory.proofs.BlockEntries.{head_of, count_of}
use Rattle.directory.proofs.AddedEntries.{stuck, empty_behind, adds, none_then, some_then, same_number}
use Rattle.directory.proofs.load.add_block.Goals.{else-count-eq0-via-then-count-eq0+else-not-is_first}
use Rattle.directory.proofs.load.add_block.Goals.{else-count-eq0-via-else-count-eq0}
use Rattle.directory.proofs.load.add_block.Goals as goal

pub returns-in_default-clause-bad : goal.returns-in_default-clause-bad
returns-in_default-clause-bad g c k is =
    let block = c.args.block.now in
    let (next, es, s) = c.is_directory_block.ensures.yes c.if-not-is_directory_block.false in
    let count : c.bits-count.result ≡ length es = c.bits-count.ensures.value
    ∙ count_of g.E.ChainEntry.words_of g.met.E.ChainEntry.apart g.E.ChainEntry.IsEntry block next es
    c.index-block-1.result s in (
      cc,
      stuck g.E.ChainEntry.order g.E.ChainEntry.words_of g.E.ChainEntry.IsEntry g.E.ChainEntry.target c.args.size block
          (map g.E.ChainEntry.view c.args.entries.now) next es s c.bits.result
          (c.bits.ensures.value ∙ head_of g.E.ChainEntry.words_of g.met.E.ChainEntry.apart g.E.ChainEntry.IsEntry block
          next es c.index-block-0.result s) c.in_default.ensures.named
          (λ full inside. c.in_default.ensures.none (eq-eqb c.bits-count.result 42 (count ∙ full)) inside),
    )

pub returns-then-not-is_first-clause-bad : goal.returns-then-not-is_first-clause-bad
returns-then-not-is_first-clause-bad g c k is =
    let block = c.args.block.now in
    let (next, es, s) = c.is_directory_block.ensures.yes c.if-not-is_directory_block.false in
    let count : c.bits-count.result ≡ length es = c.bits-count.ensures.value
    ∙ count_of g.E.ChainEntry.words_of g.met.E.ChainEntry.apart g.E.ChainEntry.IsEntry block next es
    c.index-block-1.result s in (
      cc,
      empty_behind g.E.ChainEntry.order g.E.ChainEntry.words_of g.E.ChainEntry.IsEntry g.E.ChainEntry.target c.args.size
          block
          (map g.E.ChainEntry.view c.args.entries.now) next es s
          (sym count ∙ c.if-count-eq0.true)
          (some_then g.E.ChainEntry.view c.as_slice.result.now c.args.entries.now c.is_empty-is_first.result
          c.as_slice.ensures c.is_empty-is_first.ensures c.if-not-is_first.true),
    )

pub returns-in-Ok-clause-ok : goal.returns-in-Ok-clause-ok
returns-in-Ok-clause-ok g c =
    let block = c.args.block.now in
    let old = map g.E.ChainEntry.view c.args.entries.now in
    let (next, es, s) = c.is_directory_block.ensures.yes c.if-not-is_directory_block.false in
    let count : c.bits-count.result ≡ length es = c.bits-count.ensures.value
    ∙ count_of g.E.ChainEntry.words_of g.met.E.ChainEntry.apart g.E.ChainEntry.IsEntry block next es
    c.index-block-1.result s in
    adds g.E.ChainEntry.order g.E.ChainEntry.words_of g.E.ChainEntry.IsEntry g.E.ChainEntry.target c.args.size block old
    next
    es s c.in-Some.next (map g.E.ChainEntry.view c.push_entries.new.entries)
    (c.in-Some.ensures.some ∙ c.bits.ensures.value
    ∙ head_of g.E.ChainEntry.words_of g.met.E.ChainEntry.apart g.E.ChainEntry.IsEntry block next es
    c.index-block-0.result s)
    (λ some. sym count ∙ same_number c.bits-count.result 42 (c.in-Some.ensures.full some)) c.in-Some.ensures.inside
    (λ some. elim c.else-count-eq0.branch [
      | else-count-eq0-via-then-count-eq0+else-not-is_first w ↦ absurd
          (none_then g.E.ChainEntry.view c.as_slice.result.now c.args.entries.now c.is_empty-is_first.result
          c.as_slice.ensures c.is_empty-is_first.ensures w.if-not-is_first.false some)
      | else-count-eq0-via-else-count-eq0 w ↦ let e = w.if-count-eq0.false in omega arith
    ])
    (c.in-Ok.ensures.ok next es s (sym count)) c.in-Ok.ensures.good

pub returns-in-Err-Outside-clause-bad : goal.returns-in-Err-Outside-clause-bad
returns-in-Err-Outside-clause-bad g c k is =
    let block = c.args.block.now in
    let (next, es, s) = c.is_directory_block.ensures.yes c.if-not-is_directory_block.false in
    let count : c.bits-count.result ≡ length es = c.bits-count.ensures.value
    ∙ count_of g.E.ChainEntry.words_of g.met.E.ChainEntry.apart g.E.ChainEntry.IsEntry block next es
    c.index-block-1.result s in (
      cc,
      IsBadWords.entry_outside next es s
          (c.in-Err-Outside.ensures.outside (ap Err c.in-Err-Outside.field-0-is) next es s (sym count)),
    )

pub returns-in-Err-Again-clause-bad : goal.returns-in-Err-Again-clause-bad
returns-in-Err-Again-clause-bad g c k is =
    let block = c.args.block.now in
    let (next, es, s) = c.is_directory_block.ensures.yes c.if-not-is_directory_block.false in
    let count : c.bits-count.result ≡ length es = c.bits-count.ensures.value
    ∙ count_of g.E.ChainEntry.words_of g.met.E.ChainEntry.apart g.E.ChainEntry.IsEntry block next es
    c.index-block-1.result s in (
      cc,
      IsBadWords.key_again next es s c.requires.good.each_once
          (c.in-Err-Again.ensures.again (ap Err c.in-Err-Again.field-0-is) next es s (sym count)),
    )
