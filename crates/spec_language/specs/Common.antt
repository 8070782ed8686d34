-- The definitions that other crates cite, passed on from one place. Declares nothing.
pub use Rattle.spec_language.specs.Lines.{Bytes, Line, TooLong, feed, fitting, line_of, lines, lines_after, upper}
pub use Rattle.spec_language.specs.Lines.{without_return}
pub use Rattle.spec_language.specs.Spellings.{Are, AreFields, IsBlockCount, IsBracketed, IsExtension, IsField, IsName}
pub use Rattle.spec_language.specs.Spellings.{IsNumber, IsOwner, IsPair, IsSmall, IsSpec, decimal_after, is_digit}
pub use Rattle.spec_language.specs.Spellings.{is_letter, is_octal, is_space, is_visible, octal, octal_after}
pub use Rattle.spec_language.specs.Commands.{AreSpecs, IsAngled, IsCommand, IsLimit, IsNewDirectory, IsProtected}
pub use Rattle.spec_language.specs.Commands.{IsProtection, Means, Says}
pub use Rattle.spec_language.specs.Scripts.{IsCallText, IsEvent, IsEventText, IsPlace, MeansEvent, SaysEvent}
pub use Rattle.spec_language.specs.Scripts.{calls_of_one, calls_of_two, octal_in, same_text, words_given, wrong}
pub use Rattle.spec_language.specs.Texts.{Spoken, blocks_in, both_said, code_text, complains, day_field, day_text}
pub use Rattle.spec_language.specs.Texts.{extension_text, file_said, greeting, is_broken, line, list_said, list_text}
pub use Rattle.spec_language.specs.Texts.{minute_field, month_text, not_null, octets_said, owner_text, place_fields}
pub use Rattle.spec_language.specs.Texts.{prints, refusal, refuses, right_fields, right_in, silent, size_fields}
pub use Rattle.spec_language.specs.Texts.{three_digits, total_text, trimmed, two_digits, two_octal, typed}
unfoldable pub use Rattle.spec_language.specs.Texts.{entry_text, listing, row_text, table}
pub use Rattle.spec_language.specs.Plans.{Act, Ask, Asks, RunsPlan, Leads, Looks, Plan, Say, Show, make_dir_events}
pub use Rattle.spec_language.specs.Plans.{open_events, out_event, line_plan, block_address, blocks_at_once, blocks_said}
pub use Rattle.spec_language.specs.Plans.{call_event, copy_blocks_plan, copy_body_plan, copy_last_plan, counts}
pub use Rattle.spec_language.specs.Plans.{delete_events}
pub use Rattle.spec_language.specs.Plans.{deposit_events}
pub use Rattle.spec_language.specs.Plans.{ends, examines, fails, file_words, lookup_events, useti_event, if_done}
pub use Rattle.spec_language.specs.Plans.{if_end, if_told}
pub use Rattle.spec_language.specs.Plans.{is_end, last_said, list_events, name_events, new_words, ok, open_words}
pub use Rattle.spec_language.specs.Plans.{read_plan}
pub use Rattle.spec_language.specs.Plans.{same_words, says_words, sizes, in_event, takes_over, type_plan}
pub use Rattle.spec_language.specs.Plans.{type_blocks_plan}
pub use Rattle.spec_language.specs.Plans.{type_body_plan, type_last_plan, until_end, enter_events}
unfoldable pub use Rattle.spec_language.specs.Plans.{copy_runs_plan, each, fetches, type_runs_plan}
pub use Rattle.spec_language.specs.Transcripts.{IsTranscript, Orders, Scripts, Served, Speaks, Went, core_words}
pub use Rattle.spec_language.specs.Transcripts.{is_success, refused_unless, reports_reply}
pub use Rattle.spec_language.specs.Errands.{AreWords, size_events, create_events, login_events, fill_events}
pub use Rattle.spec_language.specs.Errands.{fill_all_plan}
pub use Rattle.spec_language.specs.Errands.{get_plan}
pub use Rattle.spec_language.specs.Errands.{is_character, put_plan, operator, own_file, part_address, part_words}
pub use Rattle.spec_language.specs.Errands.{parts_of, list_plan, list_plan_of, unfit, volume_line}
unfoldable pub use Rattle.spec_language.specs.Errands.{fill_parts_plan, directories_plan}
pub use Rattle.spec_language.specs.Copies.{AreShort, Comes, HasFiles, HasHalfwordExtension, IsLineRefused, IsPrinted}
pub use Rattle.spec_language.specs.Copies.{IsPut, made, place_of, put_mode}
pub use Rattle.spec_language.specs.Causes.{IsRefusedAt}
