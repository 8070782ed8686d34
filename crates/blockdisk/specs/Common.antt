-- The definitions that proofs and other crates cite, passed on from one place. Declares nothing.
pub use Rattle.blockdisk.specs.Calls.{IsRead, IsRunRead, IsRunWrite, IsSync, IsVerify, IsWrite}
pub use Rattle.blockdisk.specs.Copies.{BothAreNew, OneIsWhole}
pub use Rattle.blockdisk.specs.CrashedDisk.{at_sync, left_in, left_of, picked}
pub use Rattle.blockdisk.specs.Disk.{AreFilled, AreVerified, Between, Contents, DiskState, Fails, HoldRun, IsInRun}
pub use Rattle.blockdisk.specs.Disk.{IsWholeBlock, IsWithin, Keeps, LeavesOnly, MayLeave, Modifies, Near, NoneOpen}
pub use Rattle.blockdisk.specs.Disk.{Passes, SameDisk, SameOutside, Still, Syncs, Writes, one_more}
pub use Rattle.blockdisk.specs.Fuse.{Lets, blocks_read, burnt, fused, is_blown, left_after, left_behind}
pub use Rattle.blockdisk.specs.Fused.{HasBlown, HasFailedRead, HasFailedWrite, HavePassed, IsCountedOnce}
pub use Rattle.blockdisk.specs.Fused.{IsMadeAnyway, fuse_state, own_failures, passed, refused}
pub use Rattle.blockdisk.specs.Laws.{between_on, fails_leaves, keeps_on, keeps_still, leaves_between, leaves_on}
pub use Rattle.blockdisk.specs.Laws.{leaves_start, leaves_still, leaves_weaker, leaves_wider, modifies_leaves}
pub use Rattle.blockdisk.specs.Laws.{modifies_near, modifies_on, modifies_start, modifies_still, modifies_wider}
pub use Rattle.blockdisk.specs.Laws.{modifies_write, near_self, near_sync, near_then, none_open_leaves, passes_on}
pub use Rattle.blockdisk.specs.Laws.{passes_start, passes_weaker, same_contents, same_disk_on, same_disk_start}
pub use Rattle.blockdisk.specs.Laws.{still_modifies, still_on, still_start, sync_leaves, syncs_still, writes_modifies}
pub use Rattle.blockdisk.specs.Memory.{DiskMoment, HasNoRoomFor, IsReplayed, Leaves, Memory, after_call, after_calls}
pub use Rattle.blockdisk.specs.Memory.{begun_anew, held, loaded, memory_state, moment_at, moment_now, run_written}
pub use Rattle.blockdisk.specs.Memory.{sync_refused, synced, write_refused, written, zeroed}
pub use Rattle.blockdisk.specs.MemoryLaws.{only_now, reaches_back}
pub use Rattle.blockdisk.specs.RunLaws.{IsPartRead, IsPartWrite, length_part, no_part_write, part_all, part_at}
pub use Rattle.blockdisk.specs.RunLaws.{part_damaged, part_failed, part_on, part_run, part_write_ends}
pub use Rattle.blockdisk.specs.RunLaws.{part_write_failed, part_write_next, part_write_on, part_written, run_modifies}
pub use Rattle.blockdisk.specs.RunLaws.{write_of_one}
pub use Rattle.blockdisk.specs.VerifyLaws.{read_whole, verify_damaged, verify_failed, verify_fewer, verify_on}
