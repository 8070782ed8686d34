-- IN: the input side of a channel, and what the call leaves of its job.
use Rattle.std.proofs.Common.{◌≡◌, ◌<◌, ◌≤◌, ◌+◌, ◌-◌, ◌*◌, ◌^◌, ℕ, zero, suc, Bool, true, false, nat_lt}
use Rattle.std.proofs.Common.{if◌then◌else◌, List, length, replicate, Option, None, Some, refl, sym, ap, subst, ◌∙◌}
use Rattle.std.proofs.Common.{arith, slice_set}
use Rattle.std.proofs.lemmas.Bool.Decides.{nat_tests}
use Rattle.std.specs.List.{AllByRecursion}
use Rattle.std.specs.Prelude.{◌↔◌, option_to_list, option_map}
use Rattle.std.proofs.lemmas.List.{length-drop, length-replicate}
use Rattle.blockdisk.specs.Common.{DiskState}
use Rattle.spec_machine.specs.Common.{word_count, dump_list, areas_from, limited, slot}
use Rattle.spec_image.specs.Common.{blocks_of, times, most_blocks, block_start, words_from}
use Rattle.spec_machine.specs.declared.area.Area.{Area}
use Rattle.spec_machine.specs.declared.call.Reply.{Reply}
use Rattle.spec_machine.specs.declared.call.Reply.TheVariants.{Done, Value, Refused, Stopped, NoChannel, AddressCheck}
use Rattle.spec_machine.specs.declared.call.Reply.TheVariants.{NoJob, NoMemory, Device, Failed, DateRange}
use Rattle.spec_image.proofs.Common.{some_same, some_none, times_head}
use Rattle.retrieval.specs.Common.{VersionState}
use Rattle.volume.specs.Common.{IsWholeVersion, MemoryMap, as_known, pending_at, IsWholePending, IsWholeMemory}
use Rattle.volume.specs.Common.{slot as version_at, version_under, IsReadable}
use Rattle.volume.specs.declared.handles.VersionHandle.{VersionHandle}
use Rattle.volume.specs.declared.handles.VersionHandle.TheVariants.{Pinned, Pending}
use Rattle.volume.specs.declared.live.LiveVersion.{LiveVersion}
use Rattle.volume.specs.declared.pending.PendingVersion.{PendingVersion}
use Rattle.monitor.specs.Common.{Asked, handle_read, read_on, IsIn, readers_of, KeepsSides, KeepsReading, present}
use Rattle.monitor.specs.Common.{IsReader, IsSide, side_of, sides_in, keys_of, reader_of, readers_in, pins_of}
use Rattle.monitor.specs.declared.channel.OpenChannel.{OpenChannel}
use Rattle.monitor.specs.declared.input.Input.{Input}
use Rattle.monitor.specs.declared.output.Output.{Output}
use Rattle.monitor.specs.declared.job.Job.{Job}
use Rattle.monitor.specs.declared.read_in.ReadIn.{ReadIn}
use Rattle.monitor.proofs.common.CallRows.{keeps_same, keeps_channel, reads_same}
use Rattle.monitor.proofs.common.Dropped.{same_or_not}
use Rattle.monitor.proofs.WriteOut.Outs.{version_there}
use Rattle.monitor.proofs.common.ReaderLists.{held, held-channel}
use Rattle.monitor.proofs.common.JobReaders.{slot_set, length-slice_set}
use Rattle.monitor.proofs.common.SideLists.{count, each-side}
use Rattle.monitor.proofs.common.SideSums.{all_at}
use Rattle.monitor.specs.declared.read_in.ReadIn.TheVariants as read_in

-- A channel with an input side.
module _ (live : List (Option LiveVersion)) (job : Job) (number : ℕ) (c : OpenChannel) (there : slot job.channels number
    ≡ Some c) (i : Input) (side : c.input ≡ Some i) where
  side_is : reader_of (slot job.channels number) ≡ Some i
  side_is = ap reader_of there ∙ side

  -- its version is there, and has a reader
  pub version_held : ((key : ℕ) → times key (pins_of (readers_in (Some job))) ≤ readers_of (version_at live key))
      → (v : LiveVersion) × (version_at live i.pin.key ≡ Some v) × (0 < v.readers)
  version_held all =
      let key = i.pin.key in
      let most = all key in
      let gone = held-channel key job.channels number None (λ e. refl) in
      let here = ap (λ x. held key (option_to_list x)) side_is in
      let one = times_head key (pins_of (option_to_list None)) in
      by (version_at live key) refl (omega arith)
    where
      by : (was : Option LiveVersion) → version_at live i.pin.key ≡ was → 1 ≤ readers_of was
          → (v : LiveVersion) × (version_at live i.pin.key ≡ Some v) × (0 < v.readers)
      by None is none = absurd (omega arith)
      by (Some v) is one = (v, is, one)

-- The version that it reads: what its output side writes while that is open, else the one that is pinned.
module _ (map : MemoryMap) (job : Job) (number : ℕ) (c : OpenChannel) (there : slot job.channels number ≡ Some c)
    (i : Input) (side : c.input ≡ Some i)
    (held : (key : ℕ) → times key (pins_of (readers_in (Some job))) ≤ readers_of (version_at map.live key))
    (live : (key : ℕ) → times key (keys_of (sides_in (Some job))) ≤ present (pending_at map.pending key)) where
  pub is_readable : IsReadable map (handle_read c.output i)
  is_readable = by c.output refl
    where
      by : (o : Option Output) → c.output ≡ o → IsReadable map (handle_read o i)
      by None none = version_held map.live job number c there i side held
      by (Some o) writes = version_there map.pending job number c there o writes live

-- a version has no more words than a file
pub few_words : (size : ℕ) (map : MemoryMap) (handle : VersionHandle) → IsWholeMemory size map → (v : VersionState)
    → version_under map handle ≡ Some v → v.words ≤ most_blocks * 128
few_words size map (Pinned pin) whole v there = by (version_at map.live pin.key) refl there
  where
    by : (was : Option LiveVersion) → version_at map.live pin.key ≡ was → option_map (λ x. x.version) was ≡ Some v
        → v.words ≤ most_blocks * 128
    by None at is = absurd (some_none (sym is))
    by (Some x) at is = subst (λ (y : VersionState). y.words ≤ most_blocks * 128) (some_same is)
        (all_at (λ y. IsWholeVersion (as_known y)) map.live pin.key x whole.standing at).few
few_words size map (Pending pending) whole v there = by (pending_at map.pending pending.key) refl there
  where
    by : (was : Option PendingVersion) → pending_at map.pending pending.key ≡ was
        → option_map (λ x. x.version) was ≡ Some v → v.words ≤ most_blocks * 128
    by None at is = absurd (some_none (sym is))
    by (Some x) at is = subst (λ (y : VersionState). y.words ≤ most_blocks * 128) (some_same is)
        (all_at (IsWholePending size) map.pending pending.key x whole.waiting at).whole.few

-- what is read of a body ends at a block with a number
pub read_fits : (words next n : ℕ) → 0 < next → next < 2 ^ 32 → words ≤ most_blocks * 128 → n ≤ words - block_start next
    → next + blocks_of n < 2 ^ 32
read_fits words next zero first small few fits = omega arith
read_fits words next (suc n) first small few fits = grind arith

-- the words from a block, by how many the body has
pub words_left : (words next : ℕ) → length (words_from (replicate words 0) next) ≡ words - block_start next
words_left words next = length-drop (block_start next) (replicate words 0)
    ∙ ap (λ m. m - block_start next) (length-replicate words 0)

-- a command list names no more words than a core has
pub few_named : (core : List ℕ) (a : ℕ) (areas : List Area) → dump_list core a ≡ Some areas
    → word_count areas ≤ 0o400000
unfolding dump_list
few_named core a areas listed = by (areas_from core 512 a) listed
  where
    below : (found areas : List Area) → (b : Bool) → nat_lt 131072 (word_count found) ≡ b
        → (if b then None else Some found) ≡ Some areas → word_count areas ≤ 0o400000
    below found areas true is listed = absurd (some_none (sym listed))
    below found areas false is listed = let same = ap word_count (some_same listed) in grind (arith, nat_tests)

    by : (was : Option (List Area)) → limited was ≡ Some areas → word_count areas ≤ 0o400000
    by None listed = absurd (some_none (sym listed))
    by (Some found) listed = below found areas (nat_lt 131072 (word_count found)) refl listed

-- core has what is asked for, unless AddressCheck is the answer
pub is_asked : (result other : ReadIn) (asked : Option Asked) → result ≡ other
    → (other ≡ read_in.AddressCheck → ⊥) → (result ≡ read_in.AddressCheck) ↔ (asked ≡ None)
    → (k : Asked) × (asked ≡ Some k)
is_asked result other None is differs exact = absurd (differs (sym is ∙ exact.1 refl))
is_asked result other (Some k) is differs exact = (k, refl)

-- What the call leaves of its job.

-- a channel is another one, which writes the same version or none
keeps_sides : (pending : List (Option PendingVersion)) (job : Job) (number : ℕ) (c : OpenChannel)
    → slot job.channels number ≡ Some c → (x : OpenChannel) (core : List ℕ) → c.output ≡ x.output
    → KeepsSides pending pending job (record job { core = core; channels = slice_set job.channels number (Some x) })
keeps_sides pending job number c there x core same =
    let keeps = keeps_channel pending job number (Some x)
    (λ key. ap (λ o. count key (option_to_list o)) (sym same)
    ∙ ap (λ o. count key (option_to_list (side_of o))) (sym there))
    (λ all. subst (λ o. AllByRecursion (IsSide pending) (option_to_list o)) (ap side_of there
    ∙ same) (each-side (IsSide pending) job.channels number all)) in
    record { once = keeps.once; known = keeps.known; each = keeps.each }

-- a channel is another one, which reads the same version
reads_channel : (live : List (Option LiveVersion)) (job : Job) (number : ℕ) (c : OpenChannel)
    → slot job.channels number ≡ Some c → (x : OpenChannel) (core : List ℕ)
    → ((key : ℕ) → held key (option_to_list x.input) ≡ held key (option_to_list c.input)) → (IsReader c → IsReader x)
    → KeepsReading live live job (record job { core = core; channels = slice_set job.channels number (Some x) })
reads_channel live job number c there x core same still = record {
  once = λ key.
      let set = held-channel key job.channels number (Some x) (λ e. absurd (some_none (sym there ∙ e))) in
      let alike = same key in
      let was = ap (λ o. held key (option_to_list (reader_of o))) there in
      omega arith;
  each = λ has. record {
    each = λ k y at. same_or_not k number
        (λ here. subst IsReader ((slot_set job.channels number k x y at).0 here) (still (has.each number c there)))
        (λ apart. has.each k y ((slot_set job.channels number k x y at).1 apart));
    sixteen = length-slice_set job.channels number (Some x) ∙ has.sixteen;
  };
}

-- after words are read
module _ (job : Job) (number : ℕ) (c : OpenChannel) (there : slot job.channels number ≡ Some c) (i : Input)
    (side : c.input
    ≡ Some i) (count : ℕ) where
  still_reads : IsReader c → IsReader (read_on c i count)
  still_reads was j is =
      further i.next j.next count (was i side) (ap (λ (y : Input). y.next) (some_same is))
    where
      further : (next to n : ℕ) → 0 < next → next + blocks_of n ≡ to → 0 < to
      further next to n first is = omega arith

  reads_read : (live : List (Option LiveVersion)) (core : List ℕ)
      → KeepsReading live live job
      (record job { core = core; channels = slice_set job.channels number (Some (read_on c i count)) })
  reads_read live core = reads_channel live job number c there (read_on c i count) core
      (λ key. ap (λ o. held key (option_to_list o)) (sym side)) still_reads

-- by its answer
module _ (d d' : DiskState) (map : MemoryMap) (job job' : Job) (number a : ℕ) where
  pub in_reads : (reply : Reply) → IsIn d d' map job job' number a reply → (live : List (Option LiveVersion))
      → KeepsReading live live job job'
  in_reads Done (read, moved, core, is, moves) live =
      subst (KeepsReading live live job) (sym is)
      (reads_read job number read.at.channel read.at.there read.at.input read.at.side moved live core)
  in_reads (Stopped status) (read, code, is, ends) live =
      subst (KeepsReading live live job) (sym is) (reads_channel live job number read.at.channel read.at.there
      (record read.at.channel { status = status }) job.core (λ key. refl) (λ was. was))
  in_reads (Refused code) is live = subst (KeepsReading live live job) (sym is.0) (reads_same live job)
  in_reads NoChannel is live = subst (KeepsReading live live job) (sym is.0) (reads_same live job)
  in_reads AddressCheck is live = subst (KeepsReading live live job) (sym is.0) (reads_same live job)
  in_reads NoMemory is live = subst (KeepsReading live live job) (sym is.0) (reads_same live job)
  in_reads Device is live = subst (KeepsReading live live job) (sym is.0) (reads_same live job)
  in_reads Failed is live = subst (KeepsReading live live job) (sym is.0) (reads_same live job)
  in_reads (Value word) wrong live = absurd wrong
  in_reads NoJob wrong live = absurd wrong
  in_reads DateRange wrong live = absurd wrong

  pub in_keeps : (reply : Reply) → IsIn d d' map job job' number a reply → (pending : List (Option PendingVersion))
      → KeepsSides pending pending job job'
  in_keeps Done (read, moved, core, is, moves) pending =
      subst (KeepsSides pending pending job) (sym is) (keeps_sides pending job number read.at.channel read.at.there
      (read_on read.at.channel read.at.input moved) core refl)
  in_keeps (Stopped status) (read, code, is, ends) pending =
      subst (KeepsSides pending pending job) (sym is) (keeps_sides pending job number read.at.channel read.at.there
      (record read.at.channel { status = status }) job.core refl)
  in_keeps (Refused code) is pending = subst (KeepsSides pending pending job) (sym is.0) (keeps_same pending job)
  in_keeps NoChannel is pending = subst (KeepsSides pending pending job) (sym is.0) (keeps_same pending job)
  in_keeps AddressCheck is pending = subst (KeepsSides pending pending job) (sym is.0) (keeps_same pending job)
  in_keeps NoMemory is pending = subst (KeepsSides pending pending job) (sym is.0) (keeps_same pending job)
  in_keeps Device is pending = subst (KeepsSides pending pending job) (sym is.0) (keeps_same pending job)
  in_keeps Failed is pending = subst (KeepsSides pending pending job) (sym is.0) (keeps_same pending job)
  in_keeps (Value word) wrong pending = absurd wrong
  in_keeps NoJob wrong pending = absurd wrong
  in_keeps DateRange wrong pending = absurd wrong
