-- What a CLOSE or RELEAS that publishes promises, by what is done to its channel.
use Rattle.std.proofs.Common.{◌≡◌, ◌<◌, ℕ, Bool, true, List, Option, Some, None, refl, subst}
use Rattle.std.specs.List.{AllByRecursion}
use Rattle.std.specs.Prelude.{if◌then◌else◌, is_some, IsSome}
use Rattle.blockdisk.specs.Common.{Contents, DiskState, MayLeave, LeavesOnly}
use Rattle.spec_machine.specs.Common.{keeps_input, State, slot}
use Rattle.spec_image.specs.Common.{File, Files, pack_of, StandsOn}
use Rattle.spec_machine.specs.declared.call.Call.TheVariants.{Close, Releas}
use Rattle.spec_machine.specs.declared.call.Reply.{Reply}
use Rattle.spec_machine.specs.declared.call.Reply.TheVariants.{Done}
use Rattle.volume.specs.Common.{MemoryMap, pending_at, RestsAt}
use Rattle.monitor.specs.Common.{both_closed, rings_closed, closed_in, left_open, IsIdle, IsCallReady, ServesAlways}
use Rattle.monitor.specs.Common.{last_at, PublishesBy, StillStands, LetsGo, HoldsPublished, ClosesSide, IsSide}
use Rattle.monitor.specs.Common.{IsState, sides_in, side_of, reader_of}
use Rattle.monitor.specs.declared.channel.OpenChannel.{OpenChannel}
use Rattle.monitor.specs.declared.input.Input.{Input}
use Rattle.monitor.specs.declared.job.Job.{Job}
use Rattle.monitor.specs.declared.output.Output.{Output}
use Rattle.monitor.proofs.CloseChannel.Sides.{has_published, close_crashes, release_crashes, sides_stand, closed_row}
use Rattle.monitor.proofs.CloseChannel.Sides.{released_row, renewed_row, holds_behind}
use Rattle.monitor.proofs.common.Dropped.{job_live}
use Rattle.monitor.proofs.WriteOut.Outs.{version_live, its_side}
use Rattle.monitor.proofs.common.Promised.{publishing_serves, publishes_here}
use Rattle.monitor.proofs.CloseChannel.Publications.{IsBehind, released_behind}
use Rattle.monitor.proofs.CloseChannel.PublishedAnswers.{same_state}
use Rattle.monitor.proofs.common.SideLists.{each-slot}
use Rattle.monitor.proofs.common.Untouched.{untouched_quiet}

-- The version of an output side of a job that may call: it is there, and its side starts at a block with a number.

module _ {d : DiskState} {c : MemoryMap} {failed : Bool} {job : Job} (ready : IsCallReady d c failed job) (number : ℕ)
    (channel : OpenChannel) (there : slot job.channels number ≡ Some channel) (o : Output)
    (side : channel.output ≡ Some o) where
  pub side_live : IsSome (pending_at c.pending o.pending.key)
  side_live = version_live c.pending job number channel there o side
      (job_live c ready.jobs ready.number job ready.among.keyed ready.among.there)

  pub side_starts : 0 < o.next
  side_starts = (its_side c.pending job number channel there o side
      (subst (λ j. AllByRecursion (IsSide c.pending) (sides_in j)) ready.among.there
      (each-slot (IsSide c.pending) ready.jobs ready.number ready.among.keyed.each))).starts

-- The calls.

module _ {D : Type 0} (state : D → DiskState) (only_now : (disk : D) (contents : Contents) → (state disk).honest
    → (state disk).left_since (state disk).clock contents → MayLeave (state disk) contents) (disk disk' : D)
    {c b c' : MemoryMap} {failed failed' : Bool} {job job' : Job} {number bits : ℕ} {channel : OpenChannel} {o : Output}
    {reply : Reply} (ready : IsCallReady (state disk) c failed job) (closes : ClosesSide job number bits channel o)
    (by : PublishesBy (state disk) (state disk') c b failed failed' channel o (last_at job.core channel) reply)
    (idle : IsIdle reply → (disk' ≡ disk) × (c' ≡ c) × (failed' ≡ failed))
    (kept : (reply ≡ Done → ⊥) → job' ≡ left_open job number channel reply) where
  live : IsSome (pending_at c.pending o.pending.key)
  live = side_live ready number channel closes.there o closes.side

  unchanged : IsIdle reply → (jobs : List (Option Job)) (s : State) → IsState (state disk) c jobs s
      → IsState (state disk') c' jobs s
  unchanged idles jobs s = let same = idle idles in same_state state disk disk' c c' jobs s (same.0, same.1)

  quiet : IsIdle reply → (state disk').honest → (f : Files File) → RestsAt (state disk) f
      → LeavesOnly (state disk) (state disk') (λ contents. StandsOn (pack_of (state disk)) contents f)
  quiet idles honest f rests = untouched_quiet state only_now disk disk' (idle idles).0 honest f rests

  stands : (reply ≡ Done → IsBehind c b c' job job') → StillStands c c' failed' job job'
  stands behind = sides_stand c' o job job' number channel closes.there closes.side by live kept behind
      (λ idles. (idle idles).1)

  -- Both sides are closed.
  module _ (released : reply ≡ Done → LetsGo b c' channel.input) where
    behind : (left : Option OpenChannel) → side_of left ≡ None → reader_of left ≡ None
        → (reply ≡ Done → job' ≡ closed_in job number channel true (is_some channel.input) left)
        → reply ≡ Done → IsBehind c b c' job job'
    behind left none bare closed is =
        let has = has_published by is in
        released_behind o {last = has.0} (by.whatever has.0 has.1) has.2 live c' job job' number channel closes.there
        closes.side (released is).pending left (rings_closed job.core channel true (is_some channel.input)) none bare
        (closed is) (released is).closed

    pub close_serves : (if keeps_input bits then channel.input else None) ≡ None
        → (reply ≡ Done
        → job' ≡ closed_in job number channel true (is_some channel.input) (Some (both_closed channel)))
        → ServesAlways state disk disk' c c' failed' job job' (Close number bits) reply
    close_serves none closed moment timely =
        let goes = behind (Some (both_closed channel)) refl refl closed in
        publishing_serves state only_now disk disk' c b c' failed failed' channel o (last_at job.core channel) job job'
        number (Close number bits) moment reply ready.alive ready.placed timely by idle kept (stands goes)
        (closed_row c' o job job' number channel closes.there closes.side by live kept goes unchanged ready.sound
        ready.alive (λ is. (released is).closed.leaves) bits closes.closes closes.keeps none closed)
        (close_crashes c' o job job' number channel closes.there closes.side by live ready.sound ready.alive quiet bits
        closes.closes closes.keeps)
        (publishes_here job number bits channel o closes) (λ kept. kept)

    pub release_serves : (reply ≡ Done → job' ≡ closed_in job number channel true (is_some channel.input) None)
        → bits ≡ 0 → ServesAlways state disk disk' c c' failed' job job' (Releas number) reply
    release_serves closed none moment timely =
        let goes = behind None refl refl closed in
        publishing_serves state only_now disk disk' c b c' failed failed' channel o (last_at job.core channel) job job'
        number (Releas number) moment reply ready.alive ready.placed timely by idle kept (stands goes)
        (released_row c' o job job' number channel closes.there closes.side by live kept goes unchanged ready.sound
        ready.alive (λ is. (released is).closed.leaves) closed)
        (release_crashes c' o job job' number channel closes.there closes.side by live ready.sound ready.alive quiet)
        (publishes_here job number 0 channel o (subst (λ n. ClosesSide job number n channel o) none closes))
        (λ kept. kept)

  -- The output side is closed, and the input side pins what is published.
  pub hold_serves : (input : Input) → channel.input ≡ Some input
      → (reply ≡ Done → HoldsPublished (state disk') c b c' o.pending.key job job' number channel input)
      → keeps_input bits ≡ true → ServesAlways state disk disk' c c' failed' job job' (Close number bits) reply
  hold_serves input reads holds keeps moment timely =
      let goes = λ (is : reply ≡ Done).
      holds_behind c' o job job' number channel closes.there closes.side by live input reads (holds is) is in
      publishing_serves state only_now disk disk' c b c' failed failed' channel o (last_at job.core channel) job job'
      number (Close number bits) moment reply ready.alive ready.placed timely by idle kept (stands goes)
      (renewed_row c' o job job' number channel closes.there closes.side by live kept goes unchanged ready.sound
      ready.alive input reads holds bits closes.closes closes.keeps keeps)
      (close_crashes c' o job job' number channel closes.there closes.side by live ready.sound ready.alive quiet bits
      closes.closes closes.keeps)
      (publishes_here job number bits channel o closes) (λ kept. kept)
