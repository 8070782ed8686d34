use Rattle.std.proofs.Common.{◌++◌, ◌∷◌, [], ℕ, List, length, refl, sym, ap, subst, ◌∙◌, arith, take}
use Rattle.std.proofs.lemmas.Iterator.Adapters.{YieldsList-from_vec}
use Rattle.std.proofs.lemmas.Iterator.Consumers.{YieldsList-turn, YieldsList-end}
use Rattle.std.proofs.lemmas.List.{length_push, take_all}
use Rattle.std.specs.List.{AllByRecursion}
use Rattle.spec_image.proofs.Common.{all_append}
use Rattle.salvage.specs.Common.{AreKept, FitsDisk}
use Rattle.salvage.specs.declared.saved.SavedFile.{SavedFile}
use Rattle.salvage.specs.declared.finding.Defect.TheVariants.{Crowded}
use Rattle.salvage.proofs.CountLaws.{fits_at}
use Rattle.salvage.proofs.KeptFiles.{kept_one, kept_start, one_more_of, told_one}
use Rattle.salvage.proofs.take.keep_few.Goals as goal

pub claim_file-requires : goal.claim_file-requires
claim_file-requires c =
    let items = c.args.candidates.items in
    let turn = YieldsList-turn (YieldsList-from_vec items (cc) (cc)) c.loop-file.yielded _ c.loop-file.yielded_by _
    c.next.new.self c.in-Some.file c.in-Some.is c.next.ensures.steps in
    subst (λ (z : ℕ). FitsDisk z c.in-Some.file) (sym c.loop-file.invariant.long)
    (fits_at (length c.args.claimed.now) items (length c.loop-file.yielded) c.in-Some.file turn.0 turn.1
    c.requires.fit)

pub loop-file-init : goal.loop-file-init
loop-file-init c = record {
  long = refl;
  few = λ few. few;
  fits = subst (AllByRecursion (FitsDisk (length c.args.claimed.now))) (sym c.new-kept.ensures.items) tt;
  kept = subst (λ (l : List SavedFile). AreKept c.args.are_named c.args.claimed.now c.args.claimed.now [] l
      c.args.findings.now.items c.args.findings.now.items) (sym c.new-kept.ensures.items)
      (kept_start c.args.are_named c.args.claimed.now c.args.findings.now.items);
}

pub loop-file-preserved-in-Continue-1 : goal.loop-file-preserved-in-Continue-1
loop-file-preserved-in-Continue-1 c =
    let items = c.args.candidates.items in
    let old = c.args.claimed.now in
    let now = c.loop-file.claimed in
    let new = c.claim_file.new.self in
    let file = c.in-Some.file in
    let kept = c.loop-file.kept.items in
    let kept' = c.push_file.new.files.items in
    let inv = c.loop-file.invariant in
    let pushed = c.in_ok-push_file-in-None-claim_file.ensures.pushed in
    let turn = YieldsList-turn (YieldsList-from_vec items (cc) (cc)) c.loop-file.yielded _ c.loop-file.yielded_by _
    c.next.new.self file c.in-Some.is c.next.ensures.steps in
    let fits = fits_at (length old) items (length c.loop-file.yielded) file turn.0 turn.1 c.requires.fit in
    record {
      long = c.claim_file.ensures.length ∙ inv.long;
      few = λ few. c.claim_file.ensures.few;
      fits = subst (AllByRecursion (FitsDisk (length old))) (sym pushed)
          (all_append (FitsDisk (length old)) kept (file ∷ []) inv.fits (fits, tt));
      kept = subst (λ (l : List SavedFile). AreKept c.args.are_named old new l kept' c.args.findings.now.items
          c.loop-file.findings.items)
          (one_more_of items (length c.loop-file.yielded) (length (c.loop-file.yielded ++ file ∷ [])) file
          (length_push c.loop-file.yielded file) turn.0 turn.1)
          (kept_one c.args.are_named old now new (take (length c.loop-file.yielded) items) kept
          c.args.findings.now.items c.loop-file.findings.items file inv.kept kept' pushed
          c.in-None-claim_file.ensures.claimed);
    }

pub loop-file-preserved : goal.loop-file-preserved
loop-file-preserved c =
    let items = c.args.candidates.items in
    let old = c.args.claimed.now in
    let now = c.loop-file.claimed in
    let new = c.claim_file.new.self in
    let file = c.in-Some.file in
    let kept = c.loop-file.kept.items in
    let block = c.in-Some-claim_file.block in
    let found = c.loop-file.findings.items in
    let told = c.push_finding.new.findings.items in
    let inv = c.loop-file.invariant in
    let turn = YieldsList-turn (YieldsList-from_vec items (cc) (cc)) c.loop-file.yielded _ c.loop-file.yielded_by _
    c.next.new.self file c.in-Some.is c.next.ensures.steps in
    record {
      long = c.claim_file.ensures.length ∙ inv.long;
      few = λ few. c.claim_file.ensures.few;
      fits = inv.fits;
      kept = subst (λ (l : List SavedFile). AreKept c.args.are_named old new l kept c.args.findings.now.items told)
          (one_more_of items (length c.loop-file.yielded) (length (c.loop-file.yielded ++ file ∷ [])) file
          (length_push c.loop-file.yielded file) turn.0 turn.1)
          (told_one c.args.are_named old now new (take (length c.loop-file.yielded) items) kept
          c.args.findings.now.items found file inv.kept block told
          (c.in_ok-push_finding-in-Some-claim_file.ensures.told
          ∙ ap (λ costs. found ++ record { fault = Crowded block; costs = costs } ∷ []) c.loss_of-costs.ensures)
          c.in-Some-claim_file.ensures.claimed);
    }

pub returns-clause-kept : goal.returns-clause-kept
returns-clause-kept c =
    let items = c.args.candidates.items in
    let end = YieldsList-end (YieldsList-from_vec items (cc) (cc)) c.loop-file.yielded _ c.loop-file.yielded_by _
    c.next.new.self c.in-None.is c.next.ensures.steps in
    subst (λ (xs : List SavedFile). AreKept c.args.are_named c.args.claimed.now c.loop-file.claimed xs
    c.loop-file.kept.items c.args.findings.now.items c.loop-file.findings.items)
    (take_all (length c.loop-file.yielded) items (omega (arith, end.1))) c.loop-file.invariant.kept
