-- The lemmas that other crates cite, passed on from one place. Declares nothing.
pub use Rattle.spec_language.proofs.ToldLaws.{no_reply}
pub use Rattle.spec_language.proofs.SpellingLaws.{Stops, are_append, are_other, bracketed_other, differs, none_all}
pub use Rattle.spec_language.proofs.SpellingLaws.{other_than, same_but_last, same_fields, spec_other, stretch}
pub use Rattle.spec_language.proofs.CommandLaws.{limit_fields, same_command}
pub use Rattle.spec_language.proofs.ScriptLaws.{no_login, same_event}
pub use Rattle.spec_language.proofs.TranscriptLaws.{one_script, one_text, same_means, same_says, same_says_event}
pub use Rattle.spec_language.proofs.PlanRuns.{AllDone, answered_files, asked, each_done, failed, one_done, split_done}
pub use Rattle.spec_language.proofs.PlanRuns.{went_broken}
pub use Rattle.spec_language.proofs.CallRuns.{IsJob, at, at_again, deposits_done, job_there, settled_done, slot_set}
pub use Rattle.spec_language.proofs.CallRuns.{with_core}
pub use Rattle.spec_language.proofs.OpenRuns.{at_own, job_core, job_open, naming, open_channel, opening, opens_done}
pub use Rattle.spec_language.proofs.OpenRuns.{place_named, with_open}
pub use Rattle.spec_language.proofs.EnterRuns.{side}
pub use Rattle.spec_language.proofs.CopyRuns.{with_body}
pub use Rattle.spec_language.proofs.SizeRuns.{quiet_deposits}
pub use Rattle.spec_language.proofs.CopyLaws.{at_home, closes_done, quiet_writes}
pub use Rattle.spec_language.proofs.FillLaws.{PutsWords, parts_done, some_part, words_done}
pub use Rattle.spec_language.proofs.PutRuns.{PutsCharacters, characters_begun, characters_done, opening_words}
pub use Rattle.spec_language.proofs.PutRuns.{ring_channel, words_begun}
pub use Rattle.spec_language.proofs.ErrandRuns.{gets_are_exact, is_job, login_done, puts_are_exact, quiet_creates}
pub use Rattle.spec_language.proofs.ErrandRuns.{ring_base}
pub use Rattle.spec_language.proofs.CauseLaws.{get_refusals, put_refusals}
