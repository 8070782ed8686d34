-- OUT: whether the machine finds a place for words, and the state in which it continues.
use Rattle.std.proofs.Common.{◌≡◌, ◌<◌, ◌≤◌, ◌+◌, ◌-◌, ℕ, Bool, true, false, List, [], ◌∷◌, length, map, Option, None}
use Rattle.std.proofs.Common.{Some, refl, sym, ap, ◌∙◌, ◌⊎◌, inl, inr, arith, slice_set}
use Rattle.std.specs.Prelude.{◌==◌, ◌&&◌, ◌||◌, not, nat_lt, option_map, option_to_list, filter_map}
use Rattle.std.proofs.lemmas.Bool.{both_ways}
use Rattle.blockdisk.specs.Common.{DiskState}
use Rattle.spec_machine.specs.Common.{exceeds_left, State, slot, with_channel, with_job, clean, longest}
use Rattle.spec_machine.specs.Common.{is_before_end, outgrows, finds_no_place, put_on, booked}
use Rattle.spec_image.specs.Common.{blocks_of, version_cost, Files, SpecVersion, splice, length_after, pack_of}
use Rattle.spec_image.proofs.Common.{times_head}
use Rattle.alloctab.specs.Common.{space}
use Rattle.volume.specs.Common.{rise, IsTooLong, Outgrows, MemoryMap, pending_at}
use Rattle.volume.specs.declared.pending.PendingVersion.{PendingVersion}
use Rattle.monitor.specs.Common.{FindsNone, moved, present, AreKeyed, IsWriting, Writing, UnderKeys, side_of}
use Rattle.monitor.specs.Common.{sides_in, sides, kind_of, output_of, channel_of, job_of, jobs_of, state_of}
use Rattle.monitor.specs.declared.channel.OpenChannel.{OpenChannel}
use Rattle.monitor.specs.declared.output.Output.{Output}
use Rattle.monitor.specs.declared.job.Job.{Job}
use Rattle.monitor.proofs.EnterFile.Serves.{with_writing, with_same, jobs_same}
use Rattle.monitor.proofs.common.Limits.{LimitsAre}
use Rattle.monitor.proofs.common.SideLists.{count, count-append, count-channel, count-set}
use Rattle.monitor.proofs.common.Slots.{set-twice}
use Rattle.volume.proofs.RenameWithin.Renamings.{map_set}
use Rattle.monitor.proofs.RenameFile.MoveReplies.{less_of}
use Rattle.directory.proofs.AddedEntries.{some_number}
use Rattle.monitor.proofs.common.PinnedRooms.{positive as not_none}
use Rattle.monitor.proofs.common.Numbers.{less}
use Rattle.spec_machine.specs.Jobs as machine

-- Whether this many words find a place.

-- none to put; too long; too many blocks; more than the quota leaves; before the end
abbrev chain : Bool → Bool → Bool → Bool → Bool → Bool
chain empty long many grown before = not empty && (long || many || grown || before)

-- by how many there are, how long the version is then, how many blocks there are, and how many it makes
abbrev crowds : ℕ → ℕ → ℕ → ℕ → Bool → Bool → Bool
crowds n long size blocks grown before = chain (n == 0) (nat_lt longest long) (nat_lt size blocks) grown before

-- what speaks against them
abbrev Reasons : ℕ → ℕ → ℕ → Bool → Bool → Type 0
Reasons long size blocks grown before =
    (longest < long) ⊎ (size < blocks) ⊎ (grown ≡ true) ⊎ (before ≡ true)

crowded : (n long size blocks : ℕ) (grown before : Bool) → (0 < n) × Reasons long size blocks grown before
    → crowds n long size blocks grown before ≡ true
crowded n long size blocks grown before (some, why) =
    ap (λ z. chain z (nat_lt longest long) (nat_lt size blocks) grown before) (not_none n some)
    ∙ by (nat_lt longest long) (nat_lt size blocks) grown before (each why)
  where
    each : Reasons long size blocks grown before
        → (nat_lt longest long ≡ true) ⊎ (nat_lt size blocks ≡ true) ⊎ (grown ≡ true) ⊎ (before ≡ true)
    each (inl past) = inl (less longest long past)
    each (inr (inl past)) = inr (inl (less size blocks past))
    each (inr (inr (inl is))) = inr (inr (inl is))
    each (inr (inr (inr is))) = inr (inr (inr is))

    by : (a b c e : Bool) → (a ≡ true) ⊎ (b ≡ true) ⊎ (c ≡ true) ⊎ (e ≡ true) → chain false a b c e ≡ true
    by true b c e is = refl
    by false true c e is = refl
    by false false true e is = refl
    by false false false true is = refl
    by false false false false (inl is) = is
    by false false false false (inr (inl is)) = is
    by false false false false (inr (inr (inl is))) = is
    by false false false false (inr (inr (inr is))) = is

free : (n long size blocks : ℕ) (grown before : Bool) → ((0 < n) × Reasons long size blocks grown before → ⊥)
    → crowds n long size blocks grown before ≡ false
free n long size blocks grown before not_so =
    by (n == 0) (nat_lt longest long) (nat_lt size blocks) grown before refl refl refl refl refl
  where
    by : (z a b c e : Bool) → (n == 0) ≡ z → nat_lt longest long ≡ a → nat_lt size blocks ≡ b → grown ≡ c → before ≡ e
        → chain z a b c e ≡ false
    by true a b c e is p q g r = refl
    by false true b c e is p q g r = absurd (not_so (some_number n is, inl (less_of longest long p)))
    by false false true c e is p q g r = absurd (not_so (some_number n is, inr (inl (less_of size blocks q))))
    by false false false true e is p q g r = absurd (not_so (some_number n is, inr (inr (inl g))))
    by false false false false true is p q g r = absurd (not_so (some_number n is, inr (inr (inr r))))
    by false false false false false is p q g r = refl

-- A version grows by more than the quota leaves.
module _ (map : MemoryMap) (s : State) (limits : LimitsAre map s) (p : PendingVersion) (next n : ℕ) where
  abbrev more : ℕ
  more = rise p next n

  abbrev grows : Bool
  grows = outgrows s p.prime.ppn more

  grows_so : Outgrows map p next n → grows ≡ true
  grows_so (some, over) = let past = (limits p.prime.ppn more).0 over in
      let positive = not_none more some in λ i. not (positive i) && past i

  grows_not : (Outgrows map p next n → ⊥) → grows ≡ false
  grows_not never = by (more == 0) refl
    where
      by : (z : Bool) → (more == 0) ≡ z → grows ≡ false
      by true none = ap (λ b. not b && exceeds_left s p.prime.ppn more) none
      by false some = let left = (limits p.prime.ppn more).1 (λ over. never (some_number more some, over)) in
          λ i. not (some i) && left i

module _ (d : DiskState) (map : MemoryMap) (s : State) (w : UnderKeys) (o : Output) (p : PendingVersion)
    (is : IsWriting d p (w.written o.pending.key)) (books : booked s ≡ map.known.table.booked)
    (limits : LimitsAre map s)
    (n : ℕ) where
  test_is : finds_no_place (pack_of d) s (output_of w o) n
      ≡ crowds n (length_after p.version.words o.next n) (space d.size) (map.known.table.booked + rise p o.next n)
      (grows map s limits p o.next n) (is_before_end (kind_of o.kind) o.next)
  test_is i = crowds n (length_after (is.words i) o.next n) (space d.size) (books i
      + (version_cost (length_after (is.words i) o.next n) - version_cost (is.words i)))
      (outgrows s (is.place i).ppn (version_cost (length_after (is.words i) o.next n) - version_cost (is.words i)))
      (is_before_end (kind_of o.kind) o.next)

  pub none_found : FindsNone d.size map p o n → finds_no_place (pack_of d) s (output_of w o) n ≡ true
  none_found (some, why) = test_is ∙ crowded n _ (space d.size) _ (grows map s limits p o.next n)
      (is_before_end (kind_of o.kind) o.next) (some, each why)
    where
      each : IsTooLong p o.next n ⊎ (space d.size < map.known.table.booked + rise p o.next n)
          ⊎ Outgrows map p o.next n ⊎ (is_before_end (kind_of o.kind) o.next ≡ true)
          → Reasons (length_after p.version.words o.next n) (space d.size) (map.known.table.booked + rise p o.next n)
          (grows map s limits p o.next n) (is_before_end (kind_of o.kind) o.next)
      each (inl past) = inl past
      each (inr (inl past)) = inr (inl past)
      each (inr (inr (inl grown))) = inr (inr (inl (grows_so map s limits p o.next n grown)))
      each (inr (inr (inr before))) = inr (inr (inr before))

  pub place_found : (FindsNone d.size map p o n → ⊥) → finds_no_place (pack_of d) s (output_of w o) n ≡ false
  place_found why_not = test_is ∙ free n _ (space d.size) _ (grows map s limits p o.next n)
      (is_before_end (kind_of o.kind) o.next) none
    where
      none : (0 < n) × Reasons (length_after p.version.words o.next n) (space d.size)
          (map.known.table.booked + rise p o.next n) (grows map s limits p o.next n)
          (is_before_end (kind_of o.kind) o.next) → ⊥
      none (some, inl past) = why_not (some, inl past)
      none (some, inr (inl past)) = why_not (some, inr (inl past))
      none (some, inr (inr (inl grown))) = both_ways (grows map s limits p o.next n)
          (grows_not map s limits p o.next n (λ out. why_not (some, inr (inr (inl out))))) grown
      none (some, inr (inr (inr before))) = why_not (some, inr (inr (inr before)))

-- The state in which the words are put.

-- a place that is set anew, if all other places are alike
set_alike : {A B : Type 0} (f g : A → B) (xs : List A) (n : ℕ) (y : A) (z : B)
    → map f (slice_set xs n y) ≡ map g (slice_set xs n y) → slice_set (map f xs) n z ≡ slice_set (map g xs) n z
set_alike f g xs n y z same =
    sym (set-twice (map f xs) n (f y) z) ∙ ap (λ ys. slice_set ys n z) (sym (map_set f xs n y) ∙ same
    ∙ map_set g xs n y) ∙ set-twice (map g xs) n (g y) z

module _ (pending : List (Option PendingVersion)) (jobs : List (Option Job)) (n : ℕ) (job : Job) (there : slot jobs n
    ≡ Some job) (ch : ℕ) (c : OpenChannel) (open_at : slot job.channels ch ≡ Some c) (o : Output)
    (side : c.output ≡ Some o)
    (keyed : AreKeyed pending jobs) (w : UnderKeys) (words left : List ℕ) where
  abbrev pub put_writing : Writing
  put_writing = record (w.written o.pending.key) {
    file =
        record (w.written o.pending.key).file { body = splice (w.written o.pending.key).file.body o.next words };
  }

  abbrev pub writing_put : UnderKeys
  writing_put = with_writing w o.pending.key put_writing

  abbrev job_put : Job
  job_put = record job { core = left; channels = slice_set job.channels ch (Some (moved c o (length words))) }

  -- the same as the machine has it
  abbrev machine_put : machine.SpecJob
  machine_put = with_channel (record (job_of w job) { core = left }) ch
      (Some (record (clean (channel_of w c)) { output = put_on (Some (output_of w o)) words }))

  -- nobody else writes this version
  few : count o.pending.key (sides jobs) ≤ 1
  few = by (pending_at pending o.pending.key) (keyed.once o.pending.key)
    where
      by : (p : Option PendingVersion) → count o.pending.key (sides jobs) ≡ present p
          → count o.pending.key (sides jobs) ≤ 1
      by None is = omega (arith, is)
      by (Some p) is = omega (arith, is)

  one_here : count o.pending.key (option_to_list (side_of (slot job.channels ch))) ≡ 1
  one_here = ap (λ x. count o.pending.key (option_to_list x)) (ap side_of open_at ∙ side) ∙ times_head o.pending.key []

  other_channels : count o.pending.key (filter_map side_of (slice_set job.channels ch None)) ≡ 0
  other_channels =
      let key = o.pending.key in
      let moved = count-channel key job.channels ch None (λ e. refl) in
      let set = count-set key jobs n None (λ e. refl) in
      let in_job = ap (λ x. count key (sides_in x)) there in
      let one = one_here in
      let most = few in
      omega arith

  other_jobs : count o.pending.key (sides (slice_set jobs n None)) ≡ 0
  other_jobs =
      let key = o.pending.key in
      let moved = count-channel key job.channels ch None (λ e. refl) in
      let set = count-set key jobs n None (λ e. refl) in
      let in_job = ap (λ x. count key (sides_in x)) there in
      let one = one_here in
      let most = few in
      omega arith

  channel_is : record (clean (channel_of w c)) { output = put_on (Some (output_of w o)) words }
      ≡ channel_of writing_put (moved c o (length words))
  channel_is =
      let x = sym (with_same w o.pending.key put_writing) in
      λ i. record (channel_of w (moved c o (length words))) {
        output = Some
            (record {
              place = (x i).place;
              kind = kind_of o.kind;
              pending = (x i).file;
              next = o.next + blocks_of (length words);
            });
      }

  job_is : machine_put ≡ job_of writing_put job_put
  job_is =
      let alike = jobs_same w o.pending.key put_writing (Some (record job { channels = slice_set job.channels ch None })
      ∷ []) (omega (
        arith,
        other_channels,
        count-append o.pending.key (filter_map side_of (slice_set job.channels ch None)) [],
      )) in
      let channels = set_alike (option_map (channel_of w)) (option_map (channel_of writing_put)) job.channels ch None
      (Some (record (clean (channel_of w c)) { output = put_on (Some (output_of w o)) words }))
      (sym (ap channels_of alike))
      ∙ ap (λ x. slice_set (map (option_map (channel_of writing_put)) job.channels) ch (Some x)) channel_is
      ∙ sym (map_set (option_map (channel_of writing_put)) job.channels ch (Some (moved c o (length words)))) in
      λ i. record { ppn = job.ppn; core = left; channels = channels i }
    where
      channels_of : List (Option machine.SpecJob) → List (Option machine.Channel)
      channels_of [] = []
      channels_of (None ∷ js) = []
      channels_of (Some j ∷ js) = j.channels

  pub state_put : (files : Files SpecVersion) (jobs' : List (Option Job)) → jobs' ≡ slice_set jobs n (Some job_put)
      → with_job (state_of files w jobs) n machine_put ≡ state_of files writing_put jobs'
  state_put files jobs' set =
      let alike = jobs_same w o.pending.key put_writing (slice_set jobs n None) other_jobs in
      let slots = set_alike (option_map (job_of w)) (option_map (job_of writing_put)) jobs n None
      (Some machine_put) (sym alike)
      ∙ ap (λ j. slice_set (jobs_of writing_put jobs) n (Some j)) job_is
      ∙ sym (map_set (option_map (job_of writing_put)) jobs n (Some job_put)) ∙ ap (jobs_of writing_put) (sym set) in
      λ i. record { files = files; jobs = slots i }
