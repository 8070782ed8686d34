use Rattle.std.proofs.Common.{refl}
use Rattle.commands.proofs.SpokenLaws.{agree, differ, says_no_login, says_no_directory, says_no_makdir, says_no_copy}
use Rattle.commands.proofs.SpokenLaws.{says_no_type, says_no_rename, says_no_delete, says_no_protect, says_no_word}
use Rattle.commands.proofs.grammar.command_with.Goals as goal

pub returns-in_err-bracketed : goal.returns-in_err-bracketed
returns-in_err-bracketed c text f = says_no_login text _ _ _ c.from_residual.ensures f
    (agree _ _ _ _ c.eq.ensures c.as_slice.ensures c.if-eq.true) c.in_err-bracketed.ensures.none

pub returns-in_err-bracketed-2 : goal.returns-in_err-bracketed-2
returns-in_err-bracketed-2 c text f = says_no_directory text _ _ _ c.from_residual-in_err-bracketed-2.ensures f
    (agree _ _ _ _ c.eq-2.ensures c.as_slice-2.ensures c.if-eq-2.true) c.in_err-bracketed-2.ensures.none

pub returns-in_err-owner : goal.returns-in_err-owner
returns-in_err-owner c text f = says_no_makdir text _ _ _ c.from_residual-in_err-owner.ensures f
    (agree _ _ _ _ c.eq-3.ensures c.as_slice-3.ensures c.if-eq-3.true) c.in_err-owner.ensures.none

pub returns-in_err-to : goal.returns-in_err-to
returns-in_err-to c text f = says_no_copy text _ _ _ c.from_residual-in_err-to.ensures f
    (agree _ _ _ _ c.eq-4.ensures c.as_slice-4.ensures c.if-eq-4.true) c.in_err-to.ensures.none

pub returns-in_err-spec : goal.returns-in_err-spec
returns-in_err-spec c text f = says_no_type text _ _ _ c.from_residual-in_err-spec.ensures f
    (agree _ _ _ _ c.eq-5.ensures c.as_slice-5.ensures c.if-eq-5.true) c.in_err-spec.ensures.none

pub returns-in_err-to-2 : goal.returns-in_err-to-2
returns-in_err-to-2 c text f = says_no_rename text _ _ _ c.from_residual-in_err-to-2.ensures f
    (agree _ _ _ _ c.eq-6.ensures c.as_slice-6.ensures c.if-eq-6.true) c.in_err-to-2.ensures.none

pub returns-in_err-spec-2 : goal.returns-in_err-spec-2
returns-in_err-spec-2 c text f = says_no_delete text _ _ _ c.from_residual-in_err-spec-2.ensures f
    (agree _ _ _ _ c.eq-7.ensures c.as_slice-7.ensures c.if-eq-7.true) c.in_err-spec-2.ensures.none

pub returns-in_err-spec-3 : goal.returns-in_err-spec-3
returns-in_err-spec-3 c text f = says_no_protect text _ _ _ c.from_residual-in_err-spec-3.ensures f
    (agree _ _ _ _ c.eq-8.ensures c.as_slice-8.ensures c.if-eq-8.true) c.in_err-spec-3.ensures.none

pub returns : goal.returns
returns c text f = says_no_word text _ _ _ refl f
    (differ _ _ _ _ c.eq.ensures c.as_slice.ensures c.if-eq.false)
    (differ _ _ _ _ c.eq-2.ensures c.as_slice-2.ensures c.if-eq-2.false)
    (differ _ _ _ _ c.eq-3.ensures c.as_slice-3.ensures c.if-eq-3.false)
    (differ _ _ _ _ c.eq-4.ensures c.as_slice-4.ensures c.if-eq-4.false)
    (differ _ _ _ _ c.eq-5.ensures c.as_slice-5.ensures c.if-eq-5.false)
    (differ _ _ _ _ c.eq-6.ensures c.as_slice-6.ensures c.if-eq-6.false)
    (differ _ _ _ _ c.eq-7.ensures c.as_slice-7.ensures c.if-eq-7.false)
    (differ _ _ _ _ c.eq-8.ensures c.as_slice-8.ensures c.if-eq-8.false)
