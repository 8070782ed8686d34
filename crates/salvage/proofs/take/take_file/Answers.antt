use Rattle.std.proofs.Common.{◌≡◌, ◌+◌, ◌≤◌, ◌++◌, ◌∷◌, [], ℕ, List, ap, subst, ◌∙◌, arith}
use Rattle.volume.proofs.common.MarkedBlocks.{on_ok}
use Rattle.spec_image.specs.Common.{times}
use Rattle.spec_image.proofs.Common.{total-append}
use Rattle.salvage.specs.Common.{IsVerdict, Judges, blocks_of, claims, told_of}
use Rattle.salvage.specs.declared.saved.SavedFile.{SavedFile}
use Rattle.salvage.specs.declared.take.Verdict.{Verdict}
use Rattle.salvage.proofs.CarriedFacts.{always}
use Rattle.salvage.proofs.JudgedFiles.{judged_doubtful, judged_good, judged_spoiled}
use Rattle.salvage.proofs.Members.{nothing_behind}
use Rattle.salvage.proofs.take.take_file.Goals as goal

pub returns-in-Good-clause-judged : goal.returns-in-Good-clause-judged
returns-in-Good-clause-judged g c h =
    let s = g.D.Disk.state c.args.disk.now in
    let file = c.args.file in
    let old = c.args.taken.now.files.items in
    let new = c.push_file.new.files.items in
    let doubtful = c.args.taken.now.doubtful.items in
    let findings = c.args.findings.now.items in
    let counts = c.args.counts.now in
    let free = c.args.free.now in
    on_ok c.push_file.result (new ≡ old ++ file ∷ [])
    (Judges s.contents counts free c.args.is_named (file ∷ []) old new doubtful doubtful findings findings)
    (λ pushed. record {
      taken = file ∷ [];
      left = [];
      told = [];
      files_are = pushed;
      left_are = nothing_behind doubtful;
      findings_are = nothing_behind findings;
      judged = judged_good s.contents counts free c.args.is_named file
          (subst (λ (v : Verdict). IsVerdict s.contents counts free c.args.is_named file v) c.in-Good.is
          (c.in_ok-judge.ensures.verdict h));
    }) c.push_file.ensures.pushed

pub returns-in_ok-push_finding-in-Doubtful-clause-judged :
    goal.returns-in_ok-push_finding-in-Doubtful-clause-judged
returns-in_ok-push_finding-in-Doubtful-clause-judged g c h =
    let s = g.D.Disk.state c.args.disk.now in
    let file = c.args.file in
    let files = c.args.taken.now.files.items in
    let old = c.args.taken.now.doubtful.items in
    let new = c.push_file-in-Doubtful.new.files.items in
    let findings = c.args.findings.now.items in
    let told = c.push_finding.new.findings.items in
    let counts = c.args.counts.now in
    let free = c.args.free.now in
    let fault = c.in-Doubtful.fault in
    on_ok c.push_file-in-Doubtful.result (new ≡ old ++ file ∷ [])
    (Judges s.contents counts free c.args.is_named (file ∷ []) files files old new findings told)
    (λ pushed. record {
      taken = [];
      left = file ∷ [];
      told = told_of c.args.is_named file fault ∷ [];
      files_are = nothing_behind files;
      left_are = pushed;
      findings_are = c.in_ok-push_finding-in-Doubtful.ensures.told
          ∙ ap (λ costs. findings ++ record { fault = fault; costs = costs } ∷ []) c.loss_of-costs.ensures;
      judged = judged_doubtful s.contents counts free c.args.is_named file fault
          (subst (λ (v : Verdict). IsVerdict s.contents counts free c.args.is_named file v) c.in-Doubtful.is
          (c.in_ok-judge.ensures.verdict h));
    }) c.push_file-in-Doubtful.ensures.pushed

pub returns-in-Spoiled-clause-judged : goal.returns-in-Spoiled-clause-judged
returns-in-Spoiled-clause-judged g c h =
    let s = g.D.Disk.state c.args.disk.now in
    let file = c.args.file in
    let files = c.args.taken.now.files.items in
    let doubtful = c.args.taken.now.doubtful.items in
    let findings = c.args.findings.now.items in
    let told = c.push_finding-in-Spoiled.new.findings.items in
    let counts = c.args.counts.now in
    let free = c.args.free.now in
    let fault = c.in-Spoiled.fault in
    on_ok c.push_finding-in-Spoiled.result
    (told ≡ findings ++ record { fault = fault; costs = c.loss_of-costs.result } ∷ [])
    (Judges s.contents counts free c.args.is_named (file ∷ []) files files doubtful doubtful findings told)
    (λ pushed. record {
      taken = [];
      left = [];
      told = told_of c.args.is_named file fault ∷ [];
      files_are = nothing_behind files;
      left_are = nothing_behind doubtful;
      findings_are = pushed
          ∙ ap (λ costs. findings ++ record { fault = fault; costs = costs } ∷ []) c.loss_of-costs.ensures;
      judged = judged_spoiled s.contents counts free c.args.is_named file fault
          (subst (λ (v : Verdict). IsVerdict s.contents counts free c.args.is_named file v) c.in-Spoiled.is
          (c.in_ok-judge.ensures.verdict h));
    }) c.push_finding-in-Spoiled.ensures.told

pub returns-in-Good-clause-few : goal.returns-in-Good-clause-few
returns-in-Good-clause-few g c =
    let file = c.args.file in
    let old = c.args.taken.now.files.items in
    let new = c.push_file.new.files.items in
    on_ok c.push_file.result (new ≡ old ++ file ∷ []) ((n : ℕ) → claims new n ≤ claims old n + claims (file ∷ []) n)
    (λ pushed n. let all = ap (λ (l : List SavedFile). claims l n) pushed in
    let both = total-append (λ other. times n (blocks_of other)) old (file ∷ []) in omega (arith, all, both))
    c.push_file.ensures.pushed

pub returns-in_ok-push_finding-in-Doubtful-clause-few : goal.returns-in_ok-push_finding-in-Doubtful-clause-few
returns-in_ok-push_finding-in-Doubtful-clause-few g c = always c.push_file-in-Doubtful.result (λ n. omega arith)

pub returns-in-Spoiled-clause-few : goal.returns-in-Spoiled-clause-few
returns-in-Spoiled-clause-few g c = always c.push_finding-in-Spoiled.result (λ n. omega arith)
