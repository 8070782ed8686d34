use Rattle.std.proofs.Common.{map}
use Rattle.clap.specs.Words.{app_of, subcommand_rows_of}
use Rattle.filser.specs.declared.error.RequestError.TheVariants.{BadArgument}
use Rattle.filser.proofs.MatchedWords.{found_asked, found_nothing, of_bad, of_found, of_none, of_past, of_taken}
use Rattle.filser.proofs.MatchedWords.{of_usage}
use Rattle.filser.proofs.MatchedWords.{same_error}
use Rattle.filser.proofs.parse_request.request.Goals as goal

-- src/reading.rt:34:23
pub returns-in-Err-clause-usage : goal.returns-in-Err-clause-usage
returns-in-Err-clause-usage c e same =
    of_usage (app_of c.in-Ok.command) (map (λ w. w.now) c.args.words.now) c.in-Err.error e c.refusal.result
    c.in-Ok.ensures c.in-Err.ensures.kinds c.refusal.ensures.usage same

-- src/reading.rt:27:1
pub returns-in-Ok-Some-clause-asked : goal.returns-in-Ok-Some-clause-asked
returns-in-Ok-Some-clause-asked c =
    of_found (app_of c.in-Ok.command) (map (λ w. w.now) c.args.words.now) c.in-Ok-try_get_matches_from.matches
    c.in-Ok-Some.request c.in-Ok.ensures c.in-Ok-try_get_matches_from.ensures.matches
    (found_asked (subcommand_rows_of c.in-Ok-try_get_matches_from.matches) c.in-Ok-Some.field-0 c.in-Ok-Some.request
    c.in-Ok-Some.ensures c.in-Ok-Some.field-0-is)

-- src/reading.rt:27:1
pub returns-in-Ok-Some-clause-taken : goal.returns-in-Ok-Some-clause-taken
returns-in-Ok-Some-clause-taken c =
    of_taken (app_of c.in-Ok.command) (map (λ w. w.now) c.args.words.now) c.in-Ok.ensures
    c.in-Ok-try_get_matches_from.ensures.kinds

-- src/reading.rt:21:1
pub returns-in-Ok-None-clause-bad : goal.returns-in-Ok-None-clause-bad
returns-in-Ok-None-clause-bad c wrong is = (
  of_taken (app_of c.in-Ok.command) (map (λ w. w.now) c.args.words.now) c.in-Ok.ensures
      c.in-Ok-try_get_matches_from.ensures.kinds,
  of_bad (app_of c.in-Ok.command) (map (λ w. w.now) c.args.words.now) c.in-Ok-try_get_matches_from.matches wrong
      c.in-Ok.ensures c.in-Ok-try_get_matches_from.ensures.matches
      (c.unmatched.ensures.bad wrong (same_error c.unmatched.result (BadArgument wrong) is)),
  of_none (app_of c.in-Ok.command) (map (λ w. w.now) c.args.words.now) c.in-Ok-try_get_matches_from.matches
      c.in-Ok.ensures c.in-Ok-try_get_matches_from.ensures.matches
      (found_nothing (subcommand_rows_of c.in-Ok-try_get_matches_from.matches) c.in-Ok-None.field-0
      c.in-Ok-None.ensures c.in-Ok-None.field-0-is),
)

pub returns-in-Ok-None-clause-usage : goal.returns-in-Ok-None-clause-usage
returns-in-Ok-None-clause-usage c e is =
    of_past (app_of c.in-Ok.command) (map (λ w. w.now) c.args.words.now) c.in-Ok-try_get_matches_from.matches
    c.unmatched.result e c.in-Ok.ensures c.in-Ok-try_get_matches_from.ensures.matches
    (of_taken (app_of c.in-Ok.command) (map (λ w. w.now) c.args.words.now) c.in-Ok.ensures
    c.in-Ok-try_get_matches_from.ensures.kinds) c.unmatched.ensures.usage
    (found_nothing (subcommand_rows_of c.in-Ok-try_get_matches_from.matches) c.in-Ok-None.field-0
    c.in-Ok-None.ensures c.in-Ok-None.field-0-is) is
