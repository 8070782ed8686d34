use Rattle.std.proofs.Common.{◌≡◌, ◌-◌, ◌++◌, ◌∷◌, [], ◌∙◌, ap, sym, subst, length, take, List, slice_set, arith}
use Rattle.std.proofs.Common.{rules}
use Rattle.std.proofs.lemmas.List.{take_all, length-set}
use Rattle.retrieval.specs.Common.{pairs_of, pair_of, behind}
use Rattle.retrieval.specs.declared.run.Run.{Run as RunValue}
use Rattle.retrieval.proofs.RunListLaws.{set_before}
use Rattle.retrieval.proofs.RunEnds.{count_ends, ends_joined, ends_pushed}
use Rattle.retrieval.proofs.block_list.push_run.Goals as goal

pub returns-in-Some-clause-ok : goal.returns-in-Some-clause-ok
returns-in-Some-clause-ok c =
    let runs = c.args.runs.now.items in
    let count = c.len-count.result in
    let joined = c.in-Some.joined in
    let all : count ≡ length runs = search rules in
    let set = slice_set runs (count - 1) joined in
    ap pairs_of (sym (take_all count set (let e = length-set runs (count - 1) joined in omega arith)))
    ∙ set_before runs count joined c.in-Some.ensures.some (omega arith)
    ∙ subst (λ (l : List RunValue). pairs_of (take (count - 1) l) ++ pair_of joined ∷ []
    ≡ behind (pairs_of (take count l)) (pair_of c.args.run)) c.deref.ensures.value c.in-Some.ensures.joins
    ∙ ap (λ (l : List RunValue). behind (pairs_of l) (pair_of c.args.run)) (take_all count runs (omega arith))

pub index_mut-requires-in-Some : goal.index_mut-requires-in-Some
index_mut-requires-in-Some c =
    let many = count_ends c.args.runs.now.items c.args.ends.now.items c.requires.ends in
    let some = c.in-Some.ensures.some in
    let all : c.len-count.result ≡ length c.args.runs.now.items = search rules in
    omega (arith, c.args.ends.now.ok)

pub returns-in-Some-clause-ends : goal.returns-in-Some-clause-ends
returns-in-Some-clause-ends c =
    let runs = c.args.runs.now.items in
    let count = c.len-count.result in
    let joined = c.in-Some.joined in
    let all : count ≡ length runs = search rules in
    ends_joined runs c.args.ends.now.items c.requires.ends c.args.end c.args.run c.requires.end count joined
    c.in-Some.ensures.some all
    (subst (λ (l : List RunValue). pairs_of (take (count - 1) l) ++ pair_of joined ∷ []
    ≡ behind (pairs_of (take count l)) (pair_of c.args.run)) c.deref.ensures.value c.in-Some.ensures.joins
    ∙ ap (λ (l : List RunValue). behind (pairs_of l) (pair_of c.args.run)) (take_all count runs (omega arith)))

pub returns-clause-ends : goal.returns-clause-ends
returns-clause-ends c =
    let runs = c.args.runs.now.items in
    let all : c.len-count.result ≡ length runs = search rules in
    let apart = subst (λ (l : List RunValue). pairs_of (take c.len-count.result l) ++ pair_of c.args.run ∷ []
    ≡ behind (pairs_of (take c.len-count.result l)) (pair_of c.args.run)) c.deref.ensures.value
    c.in_default.ensures.none in
    ends_pushed runs c.args.ends.now.items c.requires.ends c.args.end c.args.run c.requires.end c.add_run.result
    c.add_run.new.runs.items c.add_run.new.ends.items
    (subst (λ (l : List RunValue). pairs_of l ++ pair_of c.args.run ∷ [] ≡ behind (pairs_of l) (pair_of c.args.run))
    (take_all c.len-count.result runs (omega arith)) apart)
    c.add_run.ensures.runs c.add_run.ensures.ends
