-- The lemmas that other crates cite, passed on from one place. Declares nothing.
pub use Rattle.spec_machine.proofs.EventRuns.{at_start, bar, foo, foo_of, fresh, run_events, small, ten_twenty}
pub use Rattle.spec_machine.proofs.SlotLaws.{filter_map-set, none_some, set-slot, slot-empty, slot-set_cases}
pub use Rattle.spec_machine.proofs.SlotLaws.{slot-set_other, slot-set_same}
pub use Rattle.spec_machine.proofs.SideLaws.{none_passes, or_false, version_of_all}
pub use Rattle.spec_machine.proofs.SoundLaws.{same_place-equal}
pub use Rattle.spec_machine.proofs.SoundSteps.{make_needs}
pub use Rattle.spec_machine.proofs.SoundEvents.{sound_step}
pub use Rattle.spec_machine.proofs.CrashLaws.{runs_failed, runs_served, runs_start, runs_stay}
pub use Rattle.spec_machine.proofs.QuietEvents.{IsQuiet, quiet_files}
pub use Rattle.spec_machine.proofs.SoundRuns.{start_sound}
pub use Rattle.spec_machine.proofs.OutcomeLaws.{refused_by, settled_by, stopped_by}
pub use Rattle.spec_machine.proofs.StepLaws.{keeps_step, spares_step}
pub use Rattle.spec_machine.proofs.LookupLaws.{broken_stays, is_none_of, is_there, not_broken, passed_test}
pub use Rattle.spec_machine.proofs.LookupLaws.{reading_holds}
pub use Rattle.spec_machine.proofs.LookupLaws.{serving_same}
pub use Rattle.spec_machine.proofs.MoveLaws.{at_there, put_here}
pub use Rattle.spec_machine.proofs.SerialRuns.{Related, itself_related, related_shown, related_step}
pub use Rattle.spec_machine.proofs.CoreWrites.{found, overlaid, passed, range_window, spared, window, window-cons}
pub use Rattle.spec_machine.proofs.CoreWrites.{writes_append, writes_length, written}
pub use Rattle.spec_machine.proofs.RingRuns.{Ring, fresh_after, fresh_ready, fresh_words, header, made_fresh, no_last}
pub use Rattle.spec_machine.proofs.RingRuns.{ring_made, setup_is, used_after, used_ready, used_words}
pub use Rattle.spec_machine.proofs.RoomSteps.{placed_needs}
pub use Rattle.spec_machine.proofs.PutLaws.{inside}
pub use Rattle.spec_machine.proofs.SerialMaps.{is_some-map, slot-map}
pub use Rattle.spec_machine.proofs.RemovalRoom.{grows_by_one, not_false}
pub use Rattle.spec_machine.proofs.BookingLaws.{total-flat_map}
