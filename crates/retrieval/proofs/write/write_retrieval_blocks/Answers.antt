use Rattle.std.proofs.Common.{ℕ, List, subst, sym, ap, ◌∷◌, ◌-◌, ◌<◌, ◌≤◌, ◌^◌, length, take, drop, refl, ◌∙◌, arith}
use Rattle.std.proofs.Common.{◌≡◌, OnOk, Some}
use Rattle.std.specs.List.{AllByRecursion}
use Rattle.std.proofs.lemmas.List.{drop-map}
use Rattle.blockdisk.specs.Common.{modifies_wider, modifies_write, Modifies}
use Rattle.spec_image.specs.Common.{AreExtensions, IsPrime, IsRun, times}
use Rattle.retrieval.specs.Common.{pair_of, pairs_of, longest_runs, extensions_of, with_length}
use Rattle.retrieval.proofs.BuiltPointers.{runs_fit, all_later}
use Rattle.retrieval.proofs.LongestRuns.{blocks_of_longest}
use Rattle.retrieval.proofs.WrittenRibs.{retrieved_on, extended_on, behind, drop_min, is_in, in_later, is_mode}
use Rattle.retrieval.proofs.write.write_retrieval_blocks.Goals as goal

pub write_ribs-requires-clause-fit : goal.write_ribs-requires-clause-fit
write_ribs-requires-clause-fit g c =
    let runs = c.runs-runs.result.now in
    let count = c.min-here.result in
    let whole = c.runs-runs.ensures.blocks in
    subst (AllByRecursion IsRun) (drop-map pair_of count runs ∙ ap pairs_of (sym (behind runs count)))
    (all_later IsRun count (pairs_of runs)
    (runs_fit runs (subst (AllByRecursion (λ n. n < 2 ^ 18)) (sym whole) c.requires.fit)
    (subst (λ (l : List ℕ). length l ≤ 16384) (sym whole) (let a = c.requires.enough in let b = c.requires.words in
    omega arith))))

pub returns-clause-written : goal.returns-clause-written
returns-clause-written g c h layout date =
    let now = g.D.Disk.state c.write_ribs.new.disk in
    let new = g.D.Disk.state c.write.new.self in
    let v = c.args.version.now in
    let p = c.args.prime.now in
    let runs = c.runs-runs.result.now in
    let are = c.runs-runs.ensures.are_longest in
    let whole = c.runs-runs.ensures.blocks in
    let count = c.min-here.result in
    let part = pairs_of (take (length runs - count) (drop count runs)) in
    let fit : AllByRecursion IsRun (longest_runs v.blocks) = subst (AllByRecursion IsRun) are
    (runs_fit runs (subst (AllByRecursion (λ n. n < 2 ^ 18)) (sym whole) c.requires.fit)
    (subst (λ (l : List ℕ). length l ≤ 16384) (sym whole) (let a = c.requires.enough in let b = c.requires.words in
    omega arith))) in
    let fits : IsPrime layout (with_length p v.words) = record {
      protection = p.protection_fits;
      mode = is_mode p.mode;
      time = p.moment.minute_in_range;
      date = date;
      few = c.requires.words;
    } in
    retrieved_on now.contents new.contents (with_length p v.words) c.args.at v.ribs v.blocks (longest_runs v.blocks)
    part layout
    c.write.result c.prime_block-words.result
    (subst (λ (l : List ℕ). AreExtensions now.contents (extensions_of l part)) c.ribs.ensures
    (c.in_ok-write_ribs.ensures.written (c.write.ensures.same.was_honest h)))
    (ap pairs_of (behind runs count ∙ drop_min runs 112 count c.min-here.ensures) ∙ sym (drop-map pair_of 112 runs)
    ∙ ap (drop 112) are)
    c.requires.apart (c.write.ensures.writes h).contents c.prime_block-words.ensures
    (c.write.ensures.put h) fits c.requires.nonzero fit
    (blocks_of_longest v.blocks) c.requires.count c.requires.enough

pub returns-clause-prime_is : goal.returns-clause-prime_is
returns-clause-prime_is g c h =
    subst (λ (l : List ℕ). OnOk c.write.result ((g.D.Disk.state c.write.new.self).contents c.args.at ≡ Some l))
    c.prime_block-words.ensures (c.write.ensures.put h)

pub returns-clause-ribs_are : goal.returns-clause-ribs_are
returns-clause-ribs_are g c h =
    let now = g.D.Disk.state c.write_ribs.new.disk in
    let new = g.D.Disk.state c.write.new.self in
    let v = c.args.version.now in
    let runs = c.runs-runs.result.now in
    let count = c.min-here.result in
    let part = pairs_of (take (length runs - count) (drop count runs)) in
    extended_on now.contents new.contents (with_length c.args.prime.now v.words) c.args.at v.ribs v.blocks
    (longest_runs v.blocks) part c.write.result
    (subst (λ (l : List ℕ). AreExtensions now.contents (extensions_of l part)) c.ribs.ensures
    (c.in_ok-write_ribs.ensures.written (c.write.ensures.same.was_honest h)))
    (ap pairs_of (behind runs count ∙ drop_min runs 112 count c.min-here.ensures) ∙ sym (drop-map pair_of 112 runs)
    ∙ ap (drop 112) c.runs-runs.ensures.are_longest)
    c.requires.apart (c.write.ensures.writes h).contents

pub returns-clause-modified : goal.returns-clause-modified
returns-clause-modified g c h =
    let s = g.D.Disk.state c.args.disk.now in
    let now = g.D.Disk.state c.write_ribs.new.disk in
    let new = g.D.Disk.state c.write.new.self in
    let ribs = c.args.version.now.ribs in
    modifies_write (λ n. 0 < times n (c.args.at ∷ ribs)) c.args.at s now new
    (is_in (c.args.at ∷ ribs) c.args.at ribs refl)
    (modifies_wider (λ n. 0 < times n ribs) (λ n. 0 < times n (c.args.at ∷ ribs)) s now
    (in_later (c.args.at ∷ ribs) c.args.at ribs refl)
    (subst (λ (l : List ℕ). Modifies (λ n. 0 < times n l) s now) c.ribs.ensures
    (c.write_ribs.ensures.modified (c.write.ensures.same.was_honest h))))
    (c.write.ensures.writes h)
