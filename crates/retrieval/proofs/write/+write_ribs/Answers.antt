use Rattle.std.proofs.Common.{◌≡◌, ◌+◌, ◌-◌, ◌/◌, ◌<◌, ℕ, length, min, take, drop, sym, ap, subst, ◌∙◌, rules}
use Rattle.std.specs.List.{AllByRecursion}
use Rattle.std.proofs.lemmas.List.{length-map, take-map, drop-map}
use Rattle.spec_image.specs.Common.{IsRun, times}
use Rattle.retrieval.specs.Common.{pair_of, pairs_of}
use Rattle.retrieval.proofs.BuiltPointers.{all_first, all_later}
use Rattle.blockdisk.specs.Common.{modifies_start, modifies_wider, modifies_write}
use Rattle.retrieval.proofs.WrittenRibs.{written_on, behind, is_in, in_later}
use Rattle.retrieval.proofs.write.+write_ribs.Goals as goal

pub returns-in_default-clause-modified : goal.returns-in_default-clause-modified
returns-in_default-clause-modified g t c h = modifies_start (λ n. 0 < times n c.args.ribs.now)
    (g.D.Disk.state c.args.disk.now)

pub write_ribs-requires : goal.write_ribs-requires
write_ribs-requires g t c =
    let runs = c.args.runs.now in
    let count = c.min-here.result in
    let fit = subst (AllByRecursion IsRun) (drop-map pair_of count runs ∙ ap pairs_of (sym (behind runs count)))
    (all_later IsRun count (pairs_of runs) c.requires.fit) in
    search rules

pub extension_of-words-requires-clause-fit : goal.extension_of-words-requires-clause-fit
extension_of-words-requires-clause-fit g t c =
    let runs = c.args.runs.now in
    let count = c.min-here.result in
    subst (AllByRecursion IsRun) (take-map pair_of count runs) (all_first IsRun count (pairs_of runs) c.requires.fit)

pub returns-clause-written : goal.returns-clause-written
returns-clause-written g t c h =
    let now = g.D.Disk.state c.write_ribs.new.disk in
    let new = g.D.Disk.state c.write.new.self in
    let runs = c.args.runs.now in
    let all = pairs_of runs in
    let count = c.min-here.result in
    let long : length all ≡ length runs = length-map runs pair_of in
    written_on c.write.result now.contents new.contents c.args.ribs.now c.in-Some.rib.now c.in-Some.further.now
    all count c.first_of.result c.extension_of-words.result
    (pairs_of (take (length runs - count) (drop count runs))) (pairs_of (take count runs))
    c.in-Some.ensures.cases.0 (c.min-here.ensures ∙ ap (λ (n : ℕ). min n 126) (sym long))
    (c.requires.count ∙ ap (λ (n : ℕ). (n + 125) / 126) (sym long)) c.requires.fit c.requires.apart
    (ap pairs_of (behind runs count) ∙ sym (drop-map pair_of count runs))
    (c.in_ok-write_ribs.ensures.written (c.write.ensures.same.was_honest h)) c.first_of.ensures
    (c.write.ensures.writes h).contents (sym (take-map pair_of count runs)) c.extension_of-words.ensures
    (c.write.ensures.put h)

pub returns-clause-modified : goal.returns-clause-modified
returns-clause-modified g t c h =
    let s = g.D.Disk.state c.args.disk.now in
    let now = g.D.Disk.state c.write_ribs.new.disk in
    let new = g.D.Disk.state c.write.new.self in
    let is = c.in-Some.ensures.cases.0 in
    modifies_write (λ n. 0 < times n c.args.ribs.now) c.in-Some.rib.now s now new
    (is_in c.args.ribs.now c.in-Some.rib.now c.in-Some.further.now is)
    (modifies_wider (λ n. 0 < times n c.in-Some.further.now) (λ n. 0 < times n c.args.ribs.now) s now
    (in_later c.args.ribs.now c.in-Some.rib.now c.in-Some.further.now is)
    (c.write_ribs.ensures.modified (c.write.ensures.same.was_honest h)))
    (c.write.ensures.writes h)
