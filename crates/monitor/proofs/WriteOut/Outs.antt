-- OUT: the output side of a channel, and what a call does to its version.
use Rattle.std.proofs.Common.{◌≡◌, ◌<◌, ◌≤◌, ◌+◌, ◌*◌, ◌^◌, ℕ, zero, suc, Bool, true, false, List, Option, None, Some}
use Rattle.std.proofs.Common.{Result, Ok, Err, refl, sym, ap, subst, ◌∙◌, ◌⊎◌, inl, inr, arith, slice_set}
use Rattle.std.proofs.lemmas.Bool.Decides.{nat_tests}
use Rattle.std.specs.List.{AllByRecursion}
use Rattle.std.specs.Prelude.{◌↔◌, ◌-◌, ◌==◌, ◌&&◌, ◌||◌, not, option_to_list, is_some}
use Rattle.spec_image.specs.Common.{blocks_of, version_cost, times, most_blocks, length_after}
use Rattle.spec_machine.specs.Common.{slot, is_before_end}
use Rattle.spec_image.proofs.Common.{some_same, times_head}
use Rattle.spec_machine.proofs.Common.{none_some}
use Rattle.retrieval.specs.Common.{VersionState}
use Rattle.alloctab.specs.Common.{space}
use Rattle.volume.specs.Common.{rise, IsTooLong, Outgrows, MemoryMap, pending_at, is_creation, slot as version_at}
use Rattle.volume.specs.declared.live.LiveVersion.{LiveVersion}
use Rattle.volume.specs.declared.pending.PendingVersion.{PendingVersion}
use Rattle.monitor.specs.Common.{FindsNone, IsBarred, moved, readers_of, KeepsSides, KeepsReading, present, IsSide}
use Rattle.monitor.specs.Common.{IsReader, side_of, sides_in, keys_of, kind_of, reader_of}
use Rattle.monitor.specs.declared.channel.OpenChannel.{OpenChannel}
use Rattle.monitor.specs.declared.output.Output.{Output}
use Rattle.monitor.specs.declared.job.Job.{Job}
use Rattle.monitor.proofs.common.CallRows.{reads_core as in_core}
use Rattle.monitor.proofs.common.Dropped.{same_or_not}
use Rattle.monitor.proofs.common.ReaderLists.{held, held-channel}
use Rattle.monitor.proofs.common.JobReaders.{slot_set, length-slice_set}
use Rattle.monitor.proofs.common.SideLists.{count, count-channel, each-channel, each-side}

-- A channel with an output side.
module _ (pending : List (Option PendingVersion)) (job : Job) (number : ℕ) (c : OpenChannel)
    (there : slot job.channels number ≡ Some c) (o : Output) (side : c.output ≡ Some o) where
  side_is : side_of (slot job.channels number) ≡ Some o
  side_is = ap side_of there ∙ side

  -- its version is there
  pub version_there : ((key : ℕ) → times key (keys_of (sides_in (Some job))) ≤ present (pending_at pending key))
      → (p : PendingVersion) × (pending_at pending o.pending.key ≡ Some p)
  version_there live =
      let key = o.pending.key in
      let all = live key in
      let gone = count-channel key job.channels number None (λ e. refl) in
      let here = ap (λ x. count key (option_to_list x)) side_is in
      let one = times_head key (keys_of (option_to_list None)) in
      by (pending_at pending key) refl (omega arith)
    where
      by : (was : Option PendingVersion) → pending_at pending o.pending.key ≡ was → 1 ≤ present was
          → (p : PendingVersion) × (pending_at pending o.pending.key ≡ Some p)
      by None is none = absurd (omega arith)
      by (Some p) is one = (p, is)

  pub version_live : ((key : ℕ) → times key (keys_of (sides_in (Some job))) ≤ present (pending_at pending key))
      → is_some (pending_at pending o.pending.key) ≡ true
  version_live live = ap is_some (version_there live).1

  pub its_side : AllByRecursion (IsSide pending) (sides_in (Some job)) → IsSide pending o
  its_side all = (subst (λ x. AllByRecursion (IsSide pending) (option_to_list x)) side_is
      (each-side (IsSide pending) job.channels number all)).0

-- what fits into a file ends at a block with a number
pub next_fits : (words next n : ℕ) → 0 < next → next < 2 ^ 32 → n ≤ 0o400000
    → (0 < n → most_blocks * 128 < length_after words next n → ⊥) → next + blocks_of n < 2 ^ 32
next_fits words next zero first small few fits = omega arith
next_fits words next (suc n) first small few fits = grind arith

-- an answer that is Ok is no error
pub not_refused : {X E P : Type 0} (result : Result X E) (x : X) (e : E) → result ≡ Ok x → (result ≡ Err e) ↔ P → P → ⊥
not_refused result x e is exact holds = let err : Ok x ≡ Err e = sym is ∙ exact.1 holds in cc err

pub ok_is_none : {X E : Type 0} (result : Result X E) (x : X) (e : E) → result ≡ Ok x → result ≡ Err e → ⊥
ok_is_none result x e is err = let wrong : Ok x ≡ Err e = sym is ∙ err in cc wrong

-- Whether this many words may be put, whatever room there is, as it was tested: over what an append began with, and by
-- the quota.
module _ (c : MemoryMap) (p : PendingVersion) (o : Output) (n : ℕ) (kept allows : Bool)
    (tested : kept ≡ (not (n == 0) && is_before_end (kind_of o.kind) o.next))
    (quota : (allows ≡ false) ↔ ((IsTooLong p o.next n → ⊥) × Outgrows c p o.next n)) where
  some_words : Outgrows c p o.next n → 0 < n
  some_words grown = by n grown.0
    where
      by : (m : ℕ) → 0 < rise p o.next m → 0 < m
      by zero more = let none : 0 < version_cost p.version.words - version_cost p.version.words = more in omega arith
      by (suc m) more = omega arith

  kept_over : kept ≡ true → IsBarred c p o n
  kept_over is = by (n == 0) (is_before_end (kind_of o.kind) o.next) refl refl (sym tested ∙ is)
    where
      by : (z b : Bool) → (n == 0) ≡ z → is_before_end (kind_of o.kind) o.next ≡ b → (not z && b) ≡ true
          → IsBarred c p o n
      by true b counts before none = cc none
      by false b counts before some = (grind (arith, nat_tests), inr (before ∙ some))

  pub barred_by : ((kept || not allows) ≡ true) ↔ IsBarred c p o n
  barred_by = (said kept allows refl refl, unsaid)
    where
      not_zero : (m : ℕ) → 0 < m → (m == 0) ≡ false
      not_zero m some = grind (arith, nat_tests)

      said : (k a : Bool) → kept ≡ k → allows ≡ a → (k || not a) ≡ true → IsBarred c p o n
      said true a is_kept is_allowed is = kept_over is_kept
      said false true is_kept is_allowed is = cc is
      said false false is_kept is_allowed is = let grown = quota.0 is_allowed in (some_words grown.1, inl grown)

      unsaid : IsBarred c p o n → (kept || not allows) ≡ true
      unsaid (some, inl grown) = by kept
        where
          by : (k : Bool) → (k || not allows) ≡ true
          by true = refl
          by false = ap not (quota.1 grown)
      unsaid (some, inr before) =
          let over : kept ≡ true = tested ∙ (λ i. not (not_zero n some i) && before i) in
          ap (λ k. k || not allows) over

-- Words that may not be put, whatever room there is, find no place; others do if they don't lack room.
module _ (size : ℕ) (c : MemoryMap) (p : PendingVersion) (o : Output) (n : ℕ) where
  pub barred_none : IsBarred c p o n → FindsNone size c p o n
  barred_none (some, inl grown) = (some, inr (inr (inl grown.1)))
  barred_none (some, inr before) = (some, inr (inr (inr before)))

  pub finds_place : ((0 < n) × (IsTooLong p o.next n ⊎ (space size < c.known.table.booked + rise p o.next n)) → ⊥)
      → (IsBarred c p o n → ⊥) → FindsNone size c p o n → ⊥
  finds_place room free (some, inl long) = room (some, inl long)
  finds_place room free (some, inr (inl many)) = room (some, inr many)
  finds_place room free (some, inr (inr (inl grown))) = free (some, inl ((λ long. room (some, inl long)), grown))
  finds_place room free (some, inr (inr (inr before))) = free (some, inr before)

  -- what lacks room finds no place
  pub lacks_room : (0 < n) × (IsTooLong p o.next n ⊎ (space size < c.known.table.booked + rise p o.next n))
      → FindsNone size c p o n
  lacks_room (some, inl long) = (some, inl long)
  lacks_room (some, inr many) = (some, inr (inl many))

-- The words are put into the version of an output side, and it moves on.
module _ (pending pending' : List (Option PendingVersion)) (job job' : Job) (number : ℕ) (c : OpenChannel)
    (there : slot job.channels number ≡ Some c) (o : Output) (side : c.output ≡ Some o) (count_is : ℕ) (core : List ℕ)
    (set : job' ≡ record job { core = core; channels = slice_set job.channels number (Some (moved c o count_is)) })
    (p : PendingVersion) (at : pending_at pending o.pending.key ≡ Some p) (v : VersionState)
    (here : pending_at pending' o.pending.key ≡ Some (record p { version = v }))
    (others : (k : ℕ) → (k ≡ o.pending.key → ⊥) → pending_at pending' k ≡ pending_at pending k) where
  -- each version was there, and was new as it is
  was_there : (k : ℕ) (q : PendingVersion) → pending_at pending' k ≡ Some q → (r : PendingVersion)
      × (pending_at pending k ≡ Some r) × (is_creation q ≡ is_creation r)
  was_there k q is = same_or_not k o.pending.key
      (λ same. (
        p,
        ap (pending_at pending) same ∙ at,
        ap is_creation (some_same (sym is ∙ ap (pending_at pending') same ∙ here)),
      ))
      (λ apart. (q, sym (others k apart) ∙ is, refl))

  still : (k : ℕ) → present (pending_at pending' k) ≡ present (pending_at pending k)
  still k = same_or_not k o.pending.key
      (λ same. ap (λ n. present (pending_at pending' n)) same ∙ ap present here ∙ ap present (sym at)
      ∙ ap (λ n. present (pending_at pending n)) (sym same))
      (λ apart. ap present (others k apart))

  pub keeps_put : KeepsSides pending pending' job job'
  keeps_put = subst (KeepsSides pending pending' job) (sym set) (record {
    once = λ key.
        let moved_on = count-channel key job.channels number (Some (moved c o count_is))
        (λ e. absurd (none_some (sym e ∙ there))) in
        let was = ap (λ x. count key (option_to_list x)) (ap side_of there ∙ side) in
        let same = still key in
        omega arith;
    known = λ key q is. let r = was_there key q is in inr r;
    each = λ all.
        let is = its_side pending' job number c there o side all in
        each-channel (IsSide pending') job.channels number (Some (moved c o count_is)) all
        (record { starts = further o.next count_is is.starts; kind = is.kind }, tt);
  })
    where
      further : (next n : ℕ) → 0 < next → 0 < next + blocks_of n
      further next n first = omega arith

-- If the versions in use stay, each job reads what it read.
module _ (live live' : List (Option LiveVersion)) (job : Job) (stays : live' ≡ live) where
  as_many : (key : ℕ) → readers_of (version_at live' key) ≡ readers_of (version_at live key)
  as_many key = ap (λ vs. readers_of (version_at vs key)) stays

  -- a job with the same channels
  pub reads_core : (core : List ℕ) → KeepsReading live live' job (record job { core = core })
  reads_core core = record {
    once = λ key. let same = as_many key in omega arith;
    each = λ is. record { each = is.each; sixteen = is.sixteen };
  }

  module _ (number : ℕ) (c : OpenChannel) (there : slot job.channels number ≡ Some c) where
    -- a channel is another one, with the same input side
    pub reads_channel : (x : OpenChannel) → x.input ≡ c.input → (IsReader c → IsReader x) → (job' : Job)
        → job' ≡ record job { channels = slice_set job.channels number (Some x) } → KeepsReading live live' job job'
    reads_channel x same fits job' set = subst (KeepsReading live live' job) (sym set) (record {
      once = λ key.
          let moved_on = held-channel key job.channels number (Some x) (λ e. absurd (none_some (sym e ∙ there))) in
          let was = ap (λ o. held key (option_to_list (reader_of o))) there in
          let alike = ap (λ o. held key (option_to_list o)) same in
          let many = as_many key in
          omega arith;
      each = λ is. record {
        each = λ k y at. same_or_not k number
            (λ here. subst IsReader ((slot_set job.channels number k x y at).0 here) (fits (is.each number c there)))
            (λ apart. is.each k y ((slot_set job.channels number k x y at).1 apart));
        sixteen = length-slice_set job.channels number (Some x) ∙ is.sixteen;
      };
    })

    pub reads_status : (status : ℕ) (job' : Job)
        → job' ≡ record job { channels = slice_set job.channels number (Some (record c { status = status })) }
        → KeepsReading live live' job job'
    reads_status status job' set = reads_channel (record c { status = status }) refl (λ is. is) job' set

    -- an output side that moves on leaves the input side alone
    pub reads_moved : (o : Output) (n : ℕ) (core : List ℕ) (job' : Job)
        → job' ≡ record job { core = core; channels = slice_set job.channels number (Some (moved c o n)) }
        → KeepsReading live live' job job'
    reads_moved o n core job' set =
        let on = record job { channels = slice_set job.channels number (Some (moved c o n)) } in
        subst (KeepsReading live live' job) (sym set)
        (in_core live live' job on core (reads_channel (moved c o n) refl (λ is. is) on refl))
