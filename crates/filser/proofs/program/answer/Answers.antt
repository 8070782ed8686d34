use Rattle.std.proofs.Common.{inl, inr, map, refl, ⊎_elim}
use Rattle.clap.specs.Words.{fault_of, subcommand_of}
use Rattle.arguments.specs.CommandLine.{command_line}
use Rattle.filser.proofs.ExitCodes.{bad_error, prints_only}
use Rattle.filser.proofs.LedImages.{free_spared}
use Rattle.filser.proofs.NamedStreams.{spares_named}
use Rattle.filser.proofs.Unasked.{ends_asked, ends_mistaken, ends_shown}
use Rattle.filser.proofs.program.answer.Goals as goal

pub returns-in-Err-clause-mistaken : goal.returns-in-Err-clause-mistaken
returns-in-Err-clause-mistaken g c = rw c.without_disks.ensures
    (ends_mistaken (fault_of command_line (map (λ w. w.now) c.args.words.now))
    (subcommand_of command_line (map (λ w. w.now) c.args.words.now)) c.in-Err.error c.refuse-status.result
    c.refuse-status.ensures.ends c.in-Err.ensures.usage)

pub returns-in-Err-clause-shown : goal.returns-in-Err-clause-shown
returns-in-Err-clause-shown g c = rw c.without_disks.ensures
    (ends_shown (fault_of command_line (map (λ w. w.now) c.args.words.now))
    (subcommand_of command_line (map (λ w. w.now) c.args.words.now)) c.in-Err.error c.refuse-status.result
    c.refuse-status.ensures.ends c.in-Err.ensures.usage (λ wrong bad. (c.in-Err.ensures.bad wrong bad).0))

pub returns-in-Err-clause-asked : goal.returns-in-Err-clause-asked
returns-in-Err-clause-asked g c = rw c.without_disks.ensures
    (ends_asked (fault_of command_line (map (λ w. w.now) c.args.words.now))
    (subcommand_of command_line (map (λ w. w.now) c.args.words.now)) c.in-Err.error c.refuse-status.result
    c.refuse-status.ensures.ends c.in-Err.ensures.usage (λ wrong bad. (c.in-Err.ensures.bad wrong bad).2))

pub returns-in-Ok-clause-ran : goal.returns-in-Ok-clause-ran
returns-in-Ok-clause-ran g c = record { is = inl (c.in-Ok.asked, c.in-Ok.ensures.asked, c.start.ensures.ran) }

pub returns-in-Err-clause-ran : goal.returns-in-Err-clause-ran
returns-in-Err-clause-ran g c = rw c.without_disks.ensures (record {
  is = inr (
    c.in-Err.error,
    refl,
    record { image = refl; new = refl; memory = refl; files = refl },
    c.refuse-status.ensures.ends,
    prints_only (fault_of command_line (map (λ w. w.now) c.args.words.now))
        (subcommand_of command_line (map (λ w. w.now) c.args.words.now)) c.in-Err.error _ _ c.in-Err.ensures.usage
        (λ wrong bad. (c.in-Err.ensures.bad wrong bad).1) c.refuse-status.ensures.unprinted
        c.refuse-status.ensures.mistake,
    spares_named _ _ _ _ c.of_words-free.result.output c.refuse-status.ensures.spared c.of_words-free.ensures.output,
    λ wrong is r asks. (c.in-Err.ensures.bad wrong (bad_error c.in-Err.error wrong is)).2 r asks,
  );
})

pub returns-in-Ok-clause-spared : goal.returns-in-Ok-clause-spared
returns-in-Ok-clause-spared g c = ⊎_elim (λ same. inl same)
    (λ spared. inr (inr (c.in-Ok.asked, c.in-Ok.ensures.asked, spared))) c.start.ensures.spared

pub returns-in-Err-clause-spared : goal.returns-in-Err-clause-spared
returns-in-Err-clause-spared g c = free_spared _ (map (λ w. w.now) c.args.words.now) _ _
    c.of_words-free.result.errors c.refuse-status.ensures.untold c.of_words-free.ensures.errors
