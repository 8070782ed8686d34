-- The answer if an output side is published, and which output sides there are then.
use Rattle.std.proofs.Common.{◌≡◌, ℕ, ◌+◌, ◌<◌, ◌≤◌, ◌^◌, Bool, true, false, List, [], length, Option, Some, None}
use Rattle.std.proofs.Common.{Result, Ok, Err, refl, sym, ap, subst, ◌∙◌, ◌⊎◌, inr, arith, slice_set}
use Rattle.std.specs.Prelude.{IsErrOf, IsSome, option_to_list}
use Rattle.std.specs.List.{AllByRecursion}
use Rattle.words36.specs.declared.names.FileName.{FileName}
use Rattle.blockdisk.specs.Common.{DiskState, one_more}
use Rattle.spec_image.specs.Common.{times, length_after}
use Rattle.spec_machine.specs.declared.call.Reply.{Reply}
use Rattle.spec_machine.specs.declared.call.Reply.TheVariants.{Done}
use Rattle.spec_image.specs.declared.code.ErrorCode.{ErrorCode}
use Rattle.spec_image.specs.declared.code.ErrorCode.TheVariants.{NoRoom}
use Rattle.spec_image.proofs.Common.{some_none, some_is}
use Rattle.volume.specs.Common.{MemoryMap, slot, pending_at, prime_at}
use Rattle.volume.specs.declared.error.CallError.{CallError}
use Rattle.volume.specs.declared.error.CallError.TheVariants.{Refused, Device, Failed, NoMemory}
use Rattle.volume.specs.declared.live.LiveVersion.{LiveVersion}
use Rattle.volume.specs.declared.pending.PendingVersion.{PendingVersion}
use Rattle.volume.proofs.PublishVersion.Places.{published_named}
use Rattle.monitor.specs.Common.{Closes, unpublished_by, MayPublish, HasPublished, IsPublishing, FindsNone}
use Rattle.monitor.specs.Common.{readers_of, Renews, KeepsSides, KeepsReading, present, IsSide, side_of, reader_of}
use Rattle.monitor.specs.Common.{readers_in, pins_of}
use Rattle.monitor.specs.declared.channel.OpenChannel.{OpenChannel}
use Rattle.monitor.specs.declared.input.Input.{Input}
use Rattle.monitor.specs.declared.output.Output.{Output}
use Rattle.monitor.specs.declared.job.Job.{Job}
use Rattle.monitor.proofs.CloseChannel.Closes.{reads_closed, input_held}
use Rattle.monitor.proofs.common.Dropped.{drops_one, closes_none}
use Rattle.monitor.proofs.common.ReaderLists.{held}
use Rattle.monitor.proofs.common.ReadsPublished.{readers_stay}
use Rattle.monitor.proofs.common.Renewals.{renewed_known, renewed_reading}
use Rattle.monitor.proofs.common.SideLists.{count, count-channel, each-channel}
use Rattle.monitor.proofs.WriteOut.Outs.{ok_is_none}
use Rattle.spec_machine.specs.Jobs as machine

-- Answers.

module _ (d d' : DiskState) (c c' : MemoryMap) (failed failed' : Bool) (channel : OpenChannel) (o : Output)
    (last : Option (List ℕ)) (words : List ℕ) (found : last ≡ Some words) {T : Type 0} (r : Result T CallError)
    (alive : failed ≡ false) (still : (IsErrOf r Device → ⊥) → (IsErrOf r Failed → ⊥) → failed' ≡ failed)
    (served : (IsErrOf r Device → ⊥) → d'.failures ≡ d.failures) where
  abbrev Answered : Reply → Type 0
  Answered reply = IsPublishing d d' c c' failed failed' channel o last reply

  pub answered_done : (x : T) → r ≡ Ok x → HasPublished d d' c c' o words → Answered Done
  answered_done x is has = (
    words,
    found,
    has,
    alive,
    still (ok_is_none r x Device is) (ok_is_none r x Failed is) ∙ alive,
    served (ok_is_none r x Device is),
  )

  module _ (lacks : (p : PendingVersion) → pending_at c.pending o.pending.key ≡ Some p → IsErrOf r (Refused NoRoom)
      → FindsNone d.size c p o (length words)) (fits : (p : PendingVersion) → pending_at c.pending o.pending.key
      ≡ Some p → (IsErrOf r (Refused NoRoom) → ⊥) → FindsNone d.size c p o (length words) → ⊥)
      (codes : (code : ErrorCode) → IsErrOf r (Refused code) → code ≡ NoRoom)
      (given_up : IsErrOf r Failed → (failed ≡ true) ⊎ (d'.honest → ⊥)) (device : IsErrOf r Device → failed' ≡ true)
      (ended : IsErrOf r Failed → failed' ≡ true)
      (counted : IsErrOf r Device → d'.failures ≡ one_more d.failures) where
    by_error : (e : CallError) → r ≡ Err e → Answered (unpublished_by channel e)
    by_error (Refused code) is =
        let room : IsErrOf r (Refused NoRoom) = is ∙ ap (λ x. Err (Refused x)) (codes code is) in (
          words,
          found,
          refl,
          (λ p at. lacks p at room),
          alive,
          still (λ e. let wrong = sym is ∙ e in cc) (λ e. let wrong = sym is ∙ e in cc) ∙ alive,
        )
    by_error Device is =
        (words, found, (λ p at. fits p at (λ e. let wrong = sym is ∙ e in cc)), alive, device is, counted is)
    by_error NoMemory is =
        (words, found, alive, still (λ e. let wrong = sym is ∙ e in cc) (λ e. let wrong = sym is ∙ e in cc) ∙ alive)
    by_error Failed is = (given_up is, ended is, served (λ e. let wrong = sym is ∙ e in cc))

    pub answered_error : (e : CallError) (reply : Reply) → r ≡ Err e → reply ≡ unpublished_by channel e
        → Answered reply
    answered_error e reply is same = subst Answered (sym same) (by_error e is)

-- Output sides.

there_is : {X : Type 0} (o : Option X) (f : Option X → ℕ) → ((x : X) → f (Some x) ≡ 1) → IsSome o → f o ≡ 1
there_is None f one is = let wrong = is in cc
there_is (Some x) f one is = one x

-- A channel's output side is gone, with its version.
pub published_keeps : (c c' : MemoryMap) (job job' : Job) (number : ℕ) (o : Output) (x : Option OpenChannel)
    (core : List ℕ) → side_of (machine.slot job.channels number) ≡ Some o → side_of x ≡ None
    → job' ≡ record job { core = core; channels = slice_set job.channels number x }
    → IsSome (pending_at c.pending o.pending.key) → pending_at c'.pending o.pending.key ≡ None
    → ((k : ℕ) → (k ≡ o.pending.key → ⊥) → pending_at c'.pending k ≡ pending_at c.pending k)
    → KeepsSides c.pending c'.pending job job'
published_keeps c c' job job' number o x core side none set live gone others =
    let one = there_is (pending_at c.pending o.pending.key) present (λ p. refl) live in
    let drops = drops_one c (record c { pending = c'.pending }) o.pending.key (omega arith) gone others refl refl in
    subst (KeepsSides c.pending c'.pending job) (sym set) (record {
      once = λ key.
          let less = drops.gone key in
          let moved = count-channel key job.channels number x (λ e. ap (λ z. count key (option_to_list z)) none) in
          let was = ap (λ z. count key (option_to_list z)) side in
          let now = ap (λ z. count key (option_to_list z)) none in
          omega arith;
      known = λ key p at. inr (p, drops.leaves.stay key p at, refl);
      each = λ all. each-channel (IsSide c'.pending) job.channels number x all
          (subst (λ z. AllByRecursion (IsSide c'.pending) (option_to_list z)) (sym none) tt);
    })

-- What becomes of memory and of the caller after a publication: versions are unpinned, or pinned once more, and no
-- version comes that is written.

pub record IsBehind (c between c' : MemoryMap) (job job' : Job) : Type 0 where
  pub pending : c'.pending ≡ between.pending
  pub known : c'.known ≡ record between.known { table = c'.known.table }
  pub keeps : KeepsSides c.pending c'.pending job job'
  pub reads : KeepsReading c.live c'.live job job'

module _ {d d' : DiskState} {c b : MemoryMap} (o : Output) {last : List ℕ} (whatever : MayPublish d d' c b o last)
    (has : HasPublished d d' c b o last) (live : IsSome (pending_at c.pending o.pending.key)) where
  -- each version has as many readers as before
  pub readers_behind : (k : ℕ) → readers_of (slot b.live k) ≡ readers_of (slot c.live k)
  readers_behind = let p = some_is (pending_at c.pending o.pending.key) live in
      readers_stay d.size c b o.pending.key p.0 (length_after p.0.version.words o.next (length last)) (has.map p.0 p.1)

  -- What is required of memory if versions are unpinned, or a side pins what is published.

  pub few_behind : ((key : ℕ) (v : LiveVersion) → slot c.live key ≡ Some v → v.readers + 1 < 2 ^ 32)
      → (key : ℕ) (v : LiveVersion) → slot b.live key ≡ Some v → v.readers + 1 < 2 ^ 32
  few_behind few key v at = by (slot c.live key) (few key) (sym (readers_behind key) ∙ ap readers_of at)
    where
      by : (was : Option LiveVersion) → ((u : LiveVersion) → was ≡ Some u → u.readers + 1 < 2 ^ 32)
          → readers_of was ≡ v.readers → v.readers + 1 < 2 ^ 32
      by None few same = omega (arith, same)
      by (Some u) few same = omega (arith, same, few u refl)

  pub held_behind : (job : Job) (number : ℕ) (channel : OpenChannel) → machine.slot job.channels number ≡ Some channel
      → ((key : ℕ) → times key (pins_of (readers_in (Some job))) ≤ readers_of (slot c.live key)) → (i : Option Input)
      → i ≡ channel.input → (key : ℕ) → times key (pins_of (option_to_list i)) ≤ readers_of (slot b.live key)
  held_behind job number channel there all i is key =
      let was = input_held job number channel there c c [] (closes_none c) all i
      (λ k. subst (λ j. held k (option_to_list i) ≤ held k (option_to_list j)) is (omega arith)) key in
      let same = readers_behind key in
      omega arith

  pub named_behind : (ppn : ℕ) (file : FileName) → ((p : PendingVersion) → pending_at c.pending o.pending.key ≡ Some p
      → (ppn ≡ p.prime.ppn) × (file ≡ p.prime.file)) → prime_at b ppn file ≡ None → ⊥
  named_behind ppn file is none =
      let p = some_is (pending_at c.pending o.pending.key) live in
      let owner = sym (is p.0 p.1).0 in
      let name = sym (is p.0 p.1).1 in
      published_named d.size c b o.pending.key p.0 (length_after p.0.version.words o.next (length last))
      (has.map p.0 p.1)
      ((λ i. prime_at b (owner i) (name i)) ∙ none)

  -- What becomes of the caller's channel.

  module _ (c' : MemoryMap) (job job' : Job) (number : ℕ) (channel : OpenChannel)
      (there : machine.slot job.channels number ≡ Some channel) (side : channel.output ≡ Some o)
      (pending : c'.pending ≡ b.pending) where
    keeps_behind : (x : Option OpenChannel) (core : List ℕ) → side_of x ≡ None
        → job' ≡ record job { core = core; channels = slice_set job.channels number x }
        → KeepsSides c.pending c'.pending job job'
    keeps_behind x core none set = subst (λ ps. KeepsSides c.pending ps job job') (sym pending)
        (published_keeps c b job job' number o x core (ap side_of there ∙ side) none set live has.gone whatever.others)

    -- as many readers stay as there were
    reads_behind : KeepsReading b.live c'.live job job' → KeepsReading c.live c'.live job job'
    reads_behind behind = record {
      once = λ k. let same = readers_behind k in let moved = behind.once k in omega arith;
      each = behind.each;
    }

    -- what the channel reads is unpinned
    pub released_behind : (x : Option OpenChannel) (core : List ℕ) → side_of x ≡ None → reader_of x ≡ None
        → job' ≡ record job { core = core; channels = slice_set job.channels number x }
        → Closes b c' [] (pins_of (option_to_list channel.input)) → IsBehind c b c' job job'
    released_behind x core none bare set closed = record {
      pending = pending;
      known = closed.leaves.known;
      keeps = keeps_behind x core none set;
      reads = reads_behind (reads_closed b c' job job' number channel there x core set []
          (pins_of (option_to_list channel.input)) closed
          (λ key. let none = ap (λ i. held key (option_to_list i)) bare in omega arith)
          (λ reader y is i reads. absurd (some_none (sym reads ∙ ap reader_of (sym is) ∙ bare))));
    }

    -- or it pins another version
    pub renewed_behind : (input renewed : Input) (ppn : ℕ) (file : FileName) (protection : ℕ) (x : OpenChannel)
        (core : List ℕ) → channel.input ≡ Some input
        → x.input ≡ Some renewed → x.output ≡ None
        → job' ≡ record job { core = core; channels = slice_set job.channels number (Some x) }
        → Renews b c' input renewed ppn file protection → IsBehind c b c' job job'
    renewed_behind input renewed ppn file protection x core reads now none set is = record {
      pending = pending;
      known = renewed_known b c' input renewed ppn file protection is;
      keeps = keeps_behind (Some x) core none set;
      reads = reads_behind (subst (KeepsReading b.live c'.live job) (sym set)
          (renewed_reading b c' input renewed ppn file protection is job number x channel core there reads now));
    }
