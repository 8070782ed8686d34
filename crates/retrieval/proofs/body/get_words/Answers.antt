use Rattle.std.proofs.Common.{◌≡◌, ◌+◌, ◌-◌, ◌*◌, ◌<◌, ◌≤◌, ℕ, length, sym, ap, subst, ◌∙◌, refl, arith, min}
use Rattle.std.specs.Prelude.{slice_index}
use Rattle.std.proofs.lemmas.Result.{err_from_is_err_and}
use Rattle.blockdisk.specs.Common.{Contents, same_contents, same_disk_on, keeps_on}
use Rattle.spec_image.specs.Common.{InSpace, block_start}
use Rattle.retrieval.specs.Common.{StandsAt}
use Rattle.retrieval.specs.declared.error.BodyError.TheVariants.{BadData}
use Rattle.retrieval.proofs.Parts.{all_at, whole_from, damaged_at, read_all}
use Rattle.retrieval.proofs.RunReads.{read_run_more, none_damaged, damaged_place}
use Rattle.changeset.proofs.LogRead.{passed_on}
use Rattle.retrieval.proofs.body.get_words.Goals as goal

pub get_run-requires-clause-inside : goal.get_run-requires-clause-inside
get_run-requires-clause-inside g c =
    let blocks = c.args.version.now.blocks in
    let at : ℕ = c.args.block - 1 + c.loop-done.done in
    let count = c.min-count.result in
    let run = c.run_at-run.result in
    let few : count ≤ run.last - run.first + 1 =
    omega (arith, c.min-count.ensures, c.min.ensures, c.count.ensures.value) in
    let some : 0 < count = let t = c.loop-done-test.true in
    omega (arith, c.min-count.ensures, c.min.ensures, c.count.ensures.value) in
    let within = c.run_at-run.ensures.within in
    let below : at + (count - 1) < length blocks = omega (arith, within, few) in
    let last : slice_index blocks (at + (count - 1)) ≡ run.first + (count - 1) =
    c.run_at-run.ensures.side_by_side (count - 1) (omega (arith, few, some)) in
    let inside = all_at (InSpace (g.D.Disk.state c.args.disk.now).size) blocks (at + (count - 1)) c.requires.inside
    below in
    omega (arith, last, inside.below, c.loop-done.invariant.same.size, some)

pub returns-in_err-get_run-clause-damaged : goal.returns-in_err-get_run-clause-damaged
returns-in_err-get_run-clause-damaged g c h k is =
    let s = g.D.Disk.state c.args.disk.now in
    let now = g.D.Disk.state c.loop-done.disk in
    let blocks = c.args.version.now.blocks in
    let at : ℕ = c.args.block - 1 + c.loop-done.done in
    let run = c.run_at-run.result in
    let few : c.min-count.result ≤ run.last - run.first + 1 =
    omega (arith, c.min-count.ensures, c.min.ensures, c.count.ensures.value) in
    let within = c.run_at-run.ensures.within in
    let p = err_from_is_err_and c.from_residual-in_err-get_run.result c.from_residual-in_err-get_run.ensures.1 in
    let bad = c.get_run.ensures.bad h k (passed_on c.from_residual-in_err-get_run.result c.get_run.result p.0
    c.in_err-get_run.field-0.0 (BadData k) is p.1 p.2 c.in_err-get_run.was) in
    let place = damaged_place blocks at run.first c.min-count.result k
    (λ j less. c.run_at-run.ensures.side_by_side j (omega (arith, less, few))) bad.0 bad.1 in
    damaged_at s.contents now.contents blocks blocks k (at + (k - run.first)) refl
    (omega (arith, within, few, place.1)) place.0 (ap now.contents (sym place.0) ∙ bad.2)
    (c.loop-done.invariant.keeps (c.get_run.ensures.same.was_honest h)).contents

pub loop-done-preserved : goal.loop-done-preserved
loop-done-preserved g c =
    let s = g.D.Disk.state c.args.disk.now in
    let now = g.D.Disk.state c.loop-done.disk in
    let new = g.D.Disk.state c.get_run.new.disk in
    let blocks = c.args.version.now.blocks in
    let items = c.loop-done.words.items in
    let words' = c.get_run.new.words.items in
    let wanted = c.words_there-wanted.result in
    let done = c.loop-done.done in
    let count = c.min-count.result in
    let run = c.run_at-run.result in
    let at : ℕ = c.args.block - 1 + done in
    let test = c.loop-done-test.true in
    let few : count ≤ run.last - run.first + 1 =
    omega (arith, c.min-count.ensures, c.min.ensures, c.count.ensures.value) in
    let some : 0 < count = omega (arith, c.min-count.ensures, c.min.ensures, c.count.ensures.value, test) in
    let within = c.run_at-run.ensures.within in
    let side = λ (j : ℕ) (less : j < count). c.run_at-run.ensures.side_by_side j (omega (arith, less, few)) in
    let whole_now : length items ≡ done * 128 =
    omega (arith, c.loop-done.invariant.long, test, c.div_ceil-blocks.ensures) in
    let was : new.honest → now.honest = c.get_run.ensures.same.was_honest in
    let kept : new.honest → now.contents ≡ s.contents =
    λ h. same_contents s.contents now.contents (c.loop-done.invariant.keeps (was h)).contents in
    let stands = λ (h : new.honest) (i : ℕ) (less : i < count).
    subst (λ (c' : Contents). StandsAt c' (run.first + i) (length items + i * 128) wanted words') (kept h)
    (c.in_ok-get_run.ensures.words h i less) in
    let long : length words' ≡ min (length items + count * 128) wanted = c.in_ok-get_run.ensures.long in
    record {
      same = same_disk_on s now new c.loop-done.invariant.same c.get_run.ensures.same;
      served = c.in_ok-get_run.ensures.served (λ is. cc) ∙ c.loop-done.invariant.served;
      keeps = λ h. keeps_on s now new (c.loop-done.invariant.keeps (was h)) (c.get_run.ensures.keeps h);
      long = omega (arith, long, whole_now);
      untouched = λ none. absurd (omega (arith, none, test, c.div_ceil-blocks.ensures));
      room = c.get_run.ensures.room;
      whole = λ h. none_damaged s.contents blocks (c.args.block - 1) done run.first count wanted (length items) words'
          side (stands h) (c.loop-done.invariant.whole (was h));
      read = λ h body is all has.
          let from : block_start c.args.block + length items ≡ at * 128 = omega (arith, whole_now, c.requires.first) in
          let fits : block_start c.args.block + wanted ≤ length body =
          omega (arith, c.words_there-wanted.ensures, c.length.ensures, is, test, c.div_ceil-blocks.ensures) in
          read_run_more s.contents blocks body all has (block_start c.args.block) at run.first count wanted items words'
          from (omega (arith, within, few)) fits side long c.in_ok-get_run.ensures.kept (stands h)
          (c.loop-done.invariant.read (was h) body is all has);
    }

pub returns-clause-words : goal.returns-clause-words
returns-clause-words g c h body is has =
    read_all body c.loop-done.words.items (block_start c.args.block) c.args.count (let a = c.loop-done.invariant.long in
    let b = c.loop-done-test.false in let e = c.words_there-wanted.ensures in let d = c.div_ceil-blocks.ensures in
    omega arith) (c.loop-done.invariant.read h body is
    (whole_from (g.D.Disk.state c.args.disk.now).contents c.args.version.now.blocks body has) has)
