-- CLOSE and RELEAS that publish nothing answer as the machine does.
use Rattle.std.proofs.Common.{◌≡◌, ℕ, zero, suc, ◌+◌, Bool, true, false, List, [], ◌∷◌, Option, None, Some, refl, sym}
use Rattle.std.proofs.Common.{ap, subst, ◌∙◌, inr, arith, slice_set}
use Rattle.std.specs.List.{AllByRecursion}
use Rattle.std.specs.Prelude.{◌&&◌, ◌≤◌, not, if◌then◌else◌, is_some, option_map, option_to_list}
use Rattle.spec_machine.specs.Common.{keeps_output, keeps_input, discards, publishes, close_answer, close_done}
use Rattle.spec_machine.specs.Common.{closes, releases, last_answer, last_buffer, files_closed, files_with}
use Rattle.spec_machine.specs.Common.{output_put, channel_closed, core_closed, holding, published, State, slot}
use Rattle.spec_machine.specs.Common.{with_channel, cleared, settled, stopped_in, on_channel, of_files}
use Rattle.spec_image.specs.Common.{times, Pack}
use Rattle.spec_image.proofs.Common.{some_none, some_same}
use Rattle.spec_machine.proofs.Common.{none_some, is_some-map}
use Rattle.spec_machine.specs.declared.call.Call.TheVariants.{Close, Releas}
use Rattle.spec_machine.specs.declared.call.Reply.TheVariants.{Done, NoChannel}
use Rattle.volume.specs.Common.{MemoryMap, pending_at, slot as version_at}
use Rattle.volume.specs.declared.pending.PendingVersion.{PendingVersion}
use Rattle.monitor.specs.Common.{rings_closed, closed_in, Closes, readers_of, IsRow, KeepsSides, KeepsReading}
use Rattle.monitor.specs.Common.{publishes_at, present, IsSide, IsReader, UnderKeys, side_of, sides_in, keys_of}
use Rattle.monitor.specs.Common.{reader_of, readers_in, pins_of, output_of, input_of, channel_of, job_of}
use Rattle.monitor.specs.declared.channel.OpenChannel.{OpenChannel}
use Rattle.monitor.specs.declared.input.Input.{Input}
use Rattle.monitor.specs.declared.output.Output.{Output}
use Rattle.monitor.specs.declared.job.Job.{Job}
use Rattle.monitor.proofs.common.Dropped.{closes_on, same_or_not}
use Rattle.monitor.proofs.common.ReaderLists.{held, held-channel}
use Rattle.monitor.proofs.common.JobReaders.{length-slice_set}
use Rattle.monitor.proofs.CloseChannel.Rings.{rings_unpublished}
use Rattle.monitor.proofs.common.SideLists.{count, count-channel, each-channel, each-side}
use Rattle.monitor.proofs.common.CallRows.{channel_is, channel_set, on_none}
use Rattle.spec_machine.specs.Jobs as machine

-- what stays of the two sides, and what goes

abbrev pub output_left : Option Output → ℕ → Option Output
output_left o bits = if keeps_output bits then o else None

abbrev pub output_dropped : Option Output → ℕ → Option Output
output_dropped o bits = if keeps_output bits then None else o

abbrev pub input_left : Option Input → ℕ → Option Input
input_left i bits = if keeps_input bits then i else None

abbrev pub input_released : Option Input → ℕ → Option Input
input_released i bits = if keeps_input bits then None else i

abbrev pub closed_as : OpenChannel → ℕ → OpenChannel
closed_as c bits = record c {
  status = cleared c.status;
  input = input_left c.input bits;
  output = output_left c.output bits;
}

module _ (w : UnderKeys) (c : OpenChannel) (bits : ℕ) (unpublished : publishes_at (Some c) bits ≡ false) where
  machine_unpublished : publishes (channel_of w c) bits ≡ false
  machine_unpublished = ap (λ b. b && not (keeps_output bits) && not (discards bits))
      (is_some-map (output_of w) c.output)
      ∙ unpublished

  input_is : (k p : Bool) (held : Option machine.SpecInput) → p ≡ false
      → (if not k then None else if p then held else option_map (input_of w) c.input)
      ≡ option_map (input_of w) (if k then c.input else None)
  input_is true true held e = cc e
  input_is true false held e = refl
  input_is false p held e = refl

  output_is : (k : Bool) → (if k then option_map (output_of w) c.output else None)
      ≡ option_map (output_of w) (if k then c.output else None)
  output_is true = refl
  output_is false = refl

  module _ (pack : Pack) (serial : ℕ) (s : State) (job : Job) (number : ℕ) where
    answer_done : close_answer pack s (job_of w job) (channel_of w c) bits ≡ Done
    answer_done = ap (λ b. if b then last_answer pack s (channel_of w c) (option_map (output_of w) c.output)
        (last_buffer (job_of w job) (channel_of w c)) else Done) machine_unpublished

    files_same : files_closed serial s.files (job_of w job) (channel_of w c) bits ≡ s.files
    files_same = ap (λ b. if b then files_with s.files serial (output_put (job_of w job) (channel_of w c))
        else s.files) machine_unpublished

    -- what the input side would have pinned, if something were published
    abbrev holds : Option machine.SpecInput
    holds = holding (option_map (input_of w) c.input)
        (option_map (published serial) (output_put (job_of w job) (channel_of w c)))

    channel_same : channel_closed serial (job_of w job) (channel_of w c) bits ≡ channel_of w (closed_as c bits)
    channel_same = λ i. record (channel_of w
        (closed_as c bits)) {
          input = input_is (keeps_input bits) (publishes (channel_of w c) bits) holds
              machine_unpublished i;
          output = output_is (keeps_output bits) i;
        }

    -- its rings are left alone, except that of an input side that closes
    pub closes_is : (ends : Bool) → ends ≡ (is_some c.input && not (keeps_input bits) && not (discards bits))
        → closes pack serial s (job_of w job) number (channel_of w c) bits
        ≡ (Done, (job_of w (closed_in job number c false ends (Some (closed_as c bits))), s.files))
    closes_is ends is =
        ap (λ r. settled r (
          close_done serial (job_of w job) number (channel_of w c) bits,
          files_closed serial s.files (job_of w job) (channel_of w c) bits,
        ) (λ reply. (stopped_in (job_of w job) number (channel_of w c) reply, s.files))) answer_done
        ∙ (λ i. (
          Done,
          (
            with_channel (record (job_of w job) { core = rings_unpublished job.core w c bits unpublished ends is i })
                number (Some (channel_same i)),
            files_same i,
          ),
        ))
        ∙ ap (λ j. (Done, (j, s.files)))
        (channel_set w (record job { core = rings_closed job.core c false ends }) number (Some (closed_as c bits)))

pub close_none : (job : Job) (number bits : ℕ) → slot job.channels number ≡ None
    → IsRow job job (Close number bits) NoChannel
close_none job number bits none pack serial s n w moment at = on_none s n w job number
    (λ c. of_files s n (closes pack serial s (job_of w job) number c bits)) none at

pub close_row : (job job' : Job) (number bits : ℕ) (c : OpenChannel) → slot job.channels number ≡ Some c
    → publishes_at (slot job.channels number) bits ≡ false → (ends : Bool)
    → ends ≡ (is_some c.input && not (keeps_input bits) && not (discards bits))
    → job' ≡ closed_in job number c false ends (Some (closed_as c bits)) → IsRow job job' (Close number bits) Done
close_row job job' number bits c there unpublished ends is set pack serial s n w moment at =
    ap (λ o. on_channel s o (λ x. of_files s n (closes pack serial s (job_of w job) number x bits)))
    (channel_is w job number (Some c) there)
    ∙ ap (of_files s n) (closes_is w c bits (sym (ap (λ o. publishes_at o bits) there)
    ∙ unpublished) pack serial s job number ends is ∙ ap (λ j. (Done, (job_of w j, s.files))) (sym set))

-- RELEAS

pub release_none : (job : Job) (number : ℕ) → slot job.channels number ≡ None → IsRow job job (Releas number) NoChannel
release_none job number none pack serial s n w moment at = on_none s n w job number
    (λ c. of_files s n (releases pack serial s (job_of w job) number c)) none at

pub release_row : (job job' : Job) (number : ℕ) (c : OpenChannel) → slot job.channels number ≡ Some c
    → publishes_at (slot job.channels number) 0 ≡ false
    → job' ≡ closed_in job number c false (is_some c.input) None → IsRow job job' (Releas number) Done
release_row job job' number c there unpublished set pack serial s n w moment at =
    let none = sym (ap (λ o. publishes_at o 0) there) ∙ unpublished in
    ap (λ o. on_channel s o (λ x. of_files s n (releases pack serial s (job_of w job) number x)))
    (channel_is w job number (Some c) there)
    ∙ ap (of_files s n)
    (ap (λ r. settled r (
      with_channel (record (job_of w job) { core = core_closed job.core (channel_of w c) 0 }) number None,
      files_closed serial s.files (job_of w job) (channel_of w c) 0,
    ) (λ reply. (stopped_in (job_of w job) number (channel_of w c) reply, s.files)))
    (answer_done w c 0 none pack serial s job number)
    ∙ (λ i. (
      Done,
      (
        with_channel (record (job_of w job) { core = rings_unpublished job.core w c 0 none (is_some c.input) ends i })
            number None,
        files_same w c 0 none pack serial s job number i,
      ),
    ))
    ∙ ap (λ j. (Done, (j, s.files)))
    (channel_set w (record job { core = rings_closed job.core c false (is_some c.input) }) number None
    ∙ ap (job_of w) (sym set)))
  where
    ends_by : (reads : Bool) → reads ≡ (reads && true && true)
    ends_by true = refl
    ends_by false = refl

    ends : is_some c.input ≡ (is_some c.input && true && true)
    ends = ends_by (is_some c.input)

-- What they keep.

-- a slot that is set, or emptied
slot_put : {X : Type 0} (xs : List (Option X)) (n k : ℕ) (x : Option X) (y : X) → slot (slice_set xs n x) k ≡ Some y
    → (k ≡ n → x ≡ Some y) × ((k ≡ n → ⊥) → slot xs k ≡ Some y)
slot_put [] n k x y at = ((λ same. absurd (some_none (sym at))), (λ apart. at))
slot_put (o ∷ xs) zero zero x y at = ((λ same. at), (λ apart. absurd (apart refl)))
slot_put (o ∷ xs) zero (suc k) x y at = ((λ same. cc same), (λ apart. at))
slot_put (o ∷ xs) (suc n) zero x y at = ((λ same. cc same), (λ apart. at))
slot_put (o ∷ xs) (suc n) (suc k) x y at = let rest = slot_put xs n k x y at in
    ((λ same. rest.0 (omega (arith, same))), (λ apart. rest.1 (λ same. apart (ap suc same))))

-- what is written is dropped first, and what is read is then unpinned
pub closed_both : (a b c : MemoryMap) (keys pins : List ℕ) → Closes a b keys [] → Closes b c [] pins
    → Closes a c keys pins
closed_both a b c keys pins first second = closes_on a b c keys [] keys [] pins pins first second (λ key. omega arith)
    (λ key. omega arith)

-- The channel of a number is another one, or none, and what its sides had is dropped and unpinned.
module _ (c c' : MemoryMap) (job job' : Job) (number : ℕ) (open_as : OpenChannel) (there : slot job.channels number
    ≡ Some open_as) (x : Option OpenChannel) (core : List ℕ)
    (set : job' ≡ record job { core = core; channels = slice_set job.channels number x }) (keys pins : List ℕ)
    (closed : Closes c c' keys pins) where
  pub keeps_closed : ((key : ℕ) → count key (option_to_list (side_of x)) + times key keys
      ≡ count key (option_to_list open_as.output))
      → (AllByRecursion (IsSide c'.pending) (option_to_list open_as.output)
      → AllByRecursion (IsSide c'.pending) (option_to_list (side_of x))) → KeepsSides c.pending c'.pending job job'
  keeps_closed parts side = subst (KeepsSides c.pending c'.pending job) (sym set) (record {
    once = λ key.
        let gone = closed.gone key in
        let moved = count-channel key job.channels number x (λ e. absurd (none_some (sym e ∙ there))) in
        let was = ap (λ o. count key (option_to_list (side_of o))) there in
        let part = parts key in
        omega arith;
    known = λ key p at. inr (p, closed.leaves.stay key p at, refl);
    each = λ all. each-channel (IsSide c'.pending) job.channels number x all
        (side (subst (λ o. AllByRecursion (IsSide c'.pending) (option_to_list (side_of o))) there
        (each-side (IsSide c'.pending) job.channels number all)));
  })

  pub reads_closed : ((key : ℕ) → held key (option_to_list (reader_of x)) + times key pins
      ≡ held key (option_to_list open_as.input)) → (IsReader open_as → (y : OpenChannel) → x ≡ Some y → IsReader y)
      → KeepsReading c.live c'.live job job'
  reads_closed parts reader = subst (KeepsReading c.live c'.live job) (sym set) (record {
    once = λ key.
        let gone = closed.released key in
        let moved = held-channel key job.channels number x (λ e. absurd (none_some (sym e ∙ there))) in
        let was = ap (λ o. held key (option_to_list (reader_of o))) there in
        let part = parts key in
        omega arith;
    each = λ readers. record {
      each = λ k y at. same_or_not k number
          (λ same. reader (readers.each number open_as there) y ((slot_put job.channels number k x y at).0 same))
          (λ apart. readers.each k y ((slot_put job.channels number k x y at).1 apart));
      sixteen = length-slice_set job.channels number x ∙ readers.sixteen;
    };
  })

-- the ring of an input side that closes
pub ends_is : (c : OpenChannel) (bits : ℕ) (released : Option Input) → released ≡ input_released c.input bits →
    (ends : Bool)
    → ends ≡ (is_some released && not (discards bits))
    → ends ≡ (is_some c.input && not (keeps_input bits) && not (discards bits))
ends_is c bits released is ends marks =
    marks ∙ ap (λ r. is_some r && not (discards bits)) is ∙ by c.input (keeps_input bits) (not (discards bits))
  where
    by : (i : Option Input) (k b : Bool) → (is_some (if k then None else i) && b) ≡ (is_some i && not k && b)
    by None true b = refl
    by None false b = refl
    by (Some i) true b = refl
    by (Some i) false b = refl

pub closed_back : (job job' : Job) (number bits : ℕ) (c : OpenChannel) (core : List ℕ) (status : ℕ)
    (input : Option Input)
    (output : Option Output) → status ≡ cleared c.status → input ≡ input_left c.input bits
    → output ≡ output_left c.output bits
    → job' ≡ record job {
      core = core;
      channels = slice_set job.channels number
          (Some (record c { status = status; input = input; output = output }));
    } → job' ≡ record job { core = core; channels = slice_set job.channels number (Some (closed_as c bits)) }
closed_back job job' number bits c core status input output p r q set = set
    ∙ (λ i. record job {
      core = core;
      channels = slice_set job.channels number
          (Some (record c { status = p i; input = r i; output = q i }));
    })

module _ (job : Job) (number : ℕ) (c : OpenChannel) (there : slot job.channels number ≡ Some c) where
  -- what a channel reads is pinned by its job
  pub input_held : (a b : MemoryMap) (keys : List ℕ) → Closes a b keys []
      → ((key : ℕ) → times key (pins_of (readers_in (Some job))) ≤ readers_of (version_at a.live key))
      → (i : Option Input) → ((key : ℕ) → held key (option_to_list i) ≤ held key (option_to_list c.input))
      → (key : ℕ) → times key (pins_of (option_to_list i)) ≤ readers_of (version_at b.live key)
  input_held a b keys dropped all i few key =
      let here = all key in
      let stays = dropped.released key in
      let moved = held-channel key job.channels number None (λ e. refl) in
      let was = ap (λ p. held key (option_to_list (reader_of p))) there in
      let part = few key in
      omega arith

  module _ (bits : ℕ) where
    pub dropped_live : (pending : List (Option PendingVersion)) (o : Option Output) → o ≡ output_dropped c.output bits
        → ((key : ℕ) → times key (keys_of (sides_in (Some job))) ≤ present (pending_at pending key))
        → (key : ℕ) → times key (keys_of (option_to_list o)) ≤ present (pending_at pending key)
    dropped_live pending o is live key =
        let all = live key in
        let moved = count-channel key job.channels number None (λ e. refl) in
        let was = ap (λ p. count key (option_to_list (side_of p))) there in
        let part = few (keeps_output bits) c.output in
        let same = ap (λ p. count key (option_to_list p)) is in
        omega arith
      where
        few : (k : Bool) (p : Option Output) → count key (option_to_list (if k then None else p))
            ≤ count key (option_to_list p)
        few true p = omega arith
        few false p = omega arith

    pub released_held : (a b : MemoryMap) (keys : List ℕ) → Closes a b keys []
        → ((key : ℕ) → times key (pins_of (readers_in (Some job))) ≤ readers_of (version_at a.live key))
        → (i : Option Input) → i ≡ input_released c.input bits → (key : ℕ)
        → times key (pins_of (option_to_list i)) ≤ readers_of (version_at b.live key)
    released_held a b keys dropped all i is =
        input_held a b keys dropped all i (λ key. subst (λ r. held key (option_to_list r)
        ≤ held key (option_to_list c.input)) (sym is) (few key (keeps_input bits) c.input))
      where
        few : (key : ℕ) (k : Bool) (r : Option Input) → held key (option_to_list (if k then None else r))
            ≤ held key (option_to_list r)
        few key true r = omega arith
        few key false r = omega arith

    module _ (a b : MemoryMap) (job' : Job) (core : List ℕ) (o : Option Output) (i : Option Input) (drops : o
        ≡ output_dropped c.output bits) (releases : i ≡ input_released c.input bits)
        (set : job' ≡ record job { core = core; channels = slice_set job.channels number (Some (closed_as c bits)) })
        (closed : Closes a b (keys_of (option_to_list o)) (pins_of (option_to_list i))) where
      pub close_keeps : KeepsSides a.pending b.pending job job'
      close_keeps =
          keeps_closed a b job job' number c there (Some (closed_as c bits)) core set (keys_of (option_to_list o))
          (pins_of (option_to_list i)) closed
          (λ key. ap (λ p. count key (option_to_list (output_left c.output bits)) + count key (option_to_list p)) drops
          ∙ parts key (keeps_output bits) c.output) (side (keeps_output bits) c.output)
        where
          parts : (key : ℕ) (k : Bool) (p : Option Output) → count key (option_to_list (if k then p else None))
              + count key (option_to_list (if k then None else p)) ≡ count key (option_to_list p)
          parts key true p = omega arith
          parts key false p = omega arith

          side : (k : Bool) (p : Option Output) → AllByRecursion (IsSide b.pending) (option_to_list p)
              → AllByRecursion (IsSide b.pending) (option_to_list (if k then p else None))
          side true p all = all
          side false p all = tt

      pub close_reads : KeepsReading a.live b.live job job'
      close_reads =
          reads_closed a b job job' number c there (Some (closed_as c bits)) core set (keys_of (option_to_list o))
          (pins_of (option_to_list i)) closed
          (λ key. ap (λ p. held key (option_to_list (input_left c.input bits)) + held key (option_to_list p)) releases
          ∙ parts key (keeps_input bits) c.input)
          (λ reader y same. subst (λ z. IsReader z) (some_same same)
          (closed_reader reader (keeps_input bits) (keeps_output bits)))
        where
          parts : (key : ℕ) (k : Bool) (p : Option Input) → held key (option_to_list (if k then p else None))
              + held key (option_to_list (if k then None else p)) ≡ held key (option_to_list p)
          parts key true p = omega arith
          parts key false p = omega arith

          -- an input side that stays is the one that was there
          closed_reader : IsReader c → (k l : Bool)
              → IsReader (record c {
                status = cleared c.status;
                input = if k then c.input else None;
                output = if l then c.output else None;
              })
          closed_reader reader true l i at = reader i at
          closed_reader reader false l i at = absurd (some_none (sym at))

-- a channel without an output side closes, and what it reads is unpinned
module _ (a b : MemoryMap) (job job' : Job) (number : ℕ) (c : OpenChannel) (there : slot job.channels number
    ≡ Some c) (unpublished : publishes_at (slot job.channels number) 0 ≡ false)
    (core : List ℕ) (set : job' ≡ record job { core = core; channels = slice_set job.channels number None })
    (closed : Closes a b [] (pins_of (option_to_list c.input))) where
  pub release_keeps : KeepsSides a.pending b.pending job job'
  release_keeps =
      keeps_closed a b job job' number c there None core set [] (pins_of (option_to_list c.input)) closed
      (λ key. by key c.output (sym (ap (λ o. publishes_at o 0) there) ∙ unpublished)) (λ all. tt)
    where
      by : (key : ℕ) (o : Option Output) → (is_some o && true && true) ≡ false → 0 ≡ count key (option_to_list o)
      by key None e = refl
      by key (Some x) e = cc e

  pub release_reads : KeepsReading a.live b.live job job'
  release_reads =
      reads_closed a b job job' number c there None core set [] (pins_of (option_to_list c.input)) closed
      (λ key. omega arith) (λ reader y wrong. absurd (some_none (sym wrong)))
