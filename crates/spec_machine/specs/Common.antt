-- The definitions that other crates cite, passed on from one place. Declares nothing.
pub use Rattle.spec_machine.specs.Rights.{acts_of, digit, directory_digit, file_digit, may_append, may_create}
pub use Rattle.spec_machine.specs.Rights.{may_execute, may_look, may_protect, may_read, may_rename, may_supersede}
pub use Rattle.spec_machine.specs.Rights.{may_update, system}
pub use Rattle.spec_machine.specs.Cores.{after_writes, dealt, first_free, joined, lies_outside, placed, rings_begin}
pub use Rattle.spec_machine.specs.Cores.{with_right}
pub use Rattle.spec_machine.specs.CommandLists.{area_of, limited, next_command, word_count}
unfoldable pub use Rattle.spec_machine.specs.CommandLists.{areas_from, dump_list}
pub use Rattle.spec_machine.specs.Rings.{base, buffer_at, buffer_data, buffer_left, buffer_words, buffer_writes}
pub use Rattle.spec_machine.specs.Rings.{buffers_of, byte_size, bytes_in_word, closed_header, current, data_words}
pub use Rattle.spec_machine.specs.Rings.{filled, follower, in_is_good, is_buffered, is_good, is_marked, is_unused}
pub use Rattle.spec_machine.specs.Rings.{kept_if, last_is_good, marked, next, out_is_good, pointer, put_behind}
pub use Rattle.spec_machine.specs.Rings.{put_count, ring_words, ring_writes, setup_writes, target, unmarked}
pub use Rattle.spec_machine.specs.Rings.{unused_header, with_ring}
unfoldable pub use Rattle.spec_machine.specs.Rings.{in_ready, in_writes, last_words, out_ready, out_writes, setup}
pub use Rattle.spec_machine.specs.Jobs.{Append, Channel, Create, SpecInput, SpecJob, Kind, SpecOutput, State, Supersede}
pub use Rattle.spec_machine.specs.Jobs.{Update}
pub use Rattle.spec_machine.specs.Jobs.{block_too_large, channel_at, cleared, end_of_file, improper_mode, is_create}
pub use Rattle.spec_machine.specs.Jobs.{job_at, no_jobs, slot, with_channel, with_job}
pub use Rattle.spec_machine.specs.Room.{booked, current_versions, distinct_cost, entry_count, exceeds_room}
pub use Rattle.spec_machine.specs.Room.{has_no_room, has_serial, pinned_by, pinned_versions, is_claimed, names_in}
pub use Rattle.spec_machine.specs.Room.{output_of, outputs, outputs_of, pending_cost, pending_creations, room}
pub use Rattle.spec_machine.specs.Room.{version_of}
pub use Rattle.spec_machine.specs.Charges.{charge, charge_in, exceeds_left, exceeds_limits, pending_cost_in, quota_in}
pub use Rattle.spec_machine.specs.Charges.{quota_of}
pub use Rattle.spec_machine.specs.Outcomes.{clean, refused_at, reports, settled, stopped_in}
pub use Rattle.spec_machine.specs.Open.{channel_opened, core_opened, core_or, device_at, disk, dump_mode}
pub use Rattle.spec_machine.specs.Open.{found_or_not, has_no_ring, header_opened, input_header_at, is_mode}
pub use Rattle.spec_machine.specs.Open.{misses_header, misses_headers, mode_at, open_answer, open_done, opens}
pub use Rattle.spec_machine.specs.Open.{output_header_at, ring_answer, ring_made, sets_up}
pub use Rattle.spec_machine.specs.Lookup.{digit_at, digit_for_directory, digit_for_version, directory_digit_at}
pub use Rattle.spec_machine.specs.Lookup.{has_no_directory, high_date, is_absent, looked_up, lookup, lookup_answer}
pub use Rattle.spec_machine.specs.Lookup.{lookup_done, own_if_zero, place_at, size_word, with_attributes}
pub use Rattle.spec_machine.specs.Update.{input_updating, is_elsewhere, output_updating, present_cost}
pub use Rattle.spec_machine.specs.Update.{update_answer}
pub use Rattle.spec_machine.specs.Enter.{begin_answer, enter, enter_answer, enter_done, entered, new_file}
pub use Rattle.spec_machine.specs.Enter.{output_opened, protection_or}
pub use Rattle.spec_machine.specs.Rename.{changes_protection, crowds, deletes_at, files_from, files_moved}
pub use Rattle.spec_machine.specs.Rename.{files_renamed, is_forbidden, move_answer, overfills, protection_at}
pub use Rattle.spec_machine.specs.Rename.{rename_answer, rename_done, rename_from, rename_sides, renames}
pub use Rattle.spec_machine.specs.Inputs.{areas_at, areas_or_none, body_read, buffer_filled, core_filled}
pub use Rattle.spec_machine.specs.Inputs.{dump_in_answer, in_answer, in_done, input_at, is_empty, lacks_header}
pub use Rattle.spec_machine.specs.Inputs.{moved_on, reads, ring_in, ring_in_answer, useti, useti_answer, useti_done}
pub use Rattle.spec_machine.specs.Inputs.{words_ahead, words_moved}
pub use Rattle.spec_machine.specs.Outputs.{Outgoing, finds_no_place, found_answer, is_before_end, longest, out_answer}
pub use Rattle.spec_machine.specs.Outputs.{out_done, outgoing, outgrows, output_at, place_answer, put_answer}
pub use Rattle.spec_machine.specs.Outputs.{put_done, put_on, puts, ring_out, useto, useto_answer, useto_done}
pub use Rattle.spec_machine.specs.Close.{channel_closed, close_answer, close_done, closes, core_closed, discards}
pub use Rattle.spec_machine.specs.Close.{files_closed, files_with, header_closed, holding, input_closed}
pub use Rattle.spec_machine.specs.Close.{keeps_input, keeps_output, last_answer, last_buffer, output_put, published}
pub use Rattle.spec_machine.specs.Close.{publishes, releases, words_or_none}
pub use Rattle.spec_machine.specs.MakeDir.{directory_made, is_stranger, limit_answer, make_answer, may_not_remove}
pub use Rattle.spec_machine.specs.MakeDir.{owner_at, quota_at, remove_answer}
pub use Rattle.spec_machine.specs.Sessions.{deposit_answer, deposit_done, entry, examine_answer, list, list_for}
pub use Rattle.spec_machine.specs.Sessions.{listed, login_answer, new_job, resets}
pub use Rattle.spec_machine.specs.Step.{call_of, deposit, job_of, last_date, of_files, of_job, on_channel, on_job}
pub use Rattle.spec_machine.specs.Step.{step}
pub use Rattle.spec_machine.specs.Runs.{Answers, AnswersAll, Broken, HaveDistinctSerials, IsFresh, IsNoJob, IsStart}
pub use Rattle.spec_machine.specs.Runs.{Lists, Service, Serving, Steps, is_light, is_plain, publishes_on}
pub use Rattle.spec_machine.specs.Runs.{takes_memory}
pub use Rattle.spec_machine.specs.Crashes.{RunsOn, StandsForEither, StandsForState, may_change}
pub use Rattle.spec_machine.specs.PinnedVersions.{FoundBy, MovesWordsOf, SpareAll}
pub use Rattle.spec_machine.specs.Sound.{IsSound, output_for, writes_at}
