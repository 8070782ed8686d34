-- An ENTER on a channel that reads answers as the machine does, and writes over the file of the place that it reads.
use Rattle.std.proofs.Common.{◌≡◌, ◌<◌, ◌≤◌, ◌^◌, ℕ, ◌+◌, Bool, true, false, List, Option, None, Some, Ok, refl, sym}
use Rattle.std.proofs.Common.{ap, subst, ◌∙◌, inl, inr, arith}
use Rattle.std.specs.Prelude.{◌==◌, ◌||◌, not, if◌then◌else◌, is_some, option_map, option_to_list}
use Rattle.blockdisk.specs.Common.{Contents}
use Rattle.spec_image.specs.Common.{number_of, File, Directory, Files, get, times, same_place, Pack, place_of}
use Rattle.spec_machine.specs.Common.{lies_outside, with_right, begin_answer, enter_answer, State, slot, channel_at}
use Rattle.spec_machine.specs.Common.{place_at, has_no_directory, is_plain, is_elsewhere}
use Rattle.spec_image.specs.declared.code.ErrorCode.{ErrorCode}
use Rattle.spec_machine.specs.declared.call.Reply.{Reply}
use Rattle.spec_machine.specs.declared.call.Reply.TheVariants.{Done, Refused, AddressCheck, NoMemory}
use Rattle.spec_image.proofs.Common.{some_same}
use Rattle.retrieval.specs.declared.prime.Prime.{Prime}
use Rattle.volume.specs.Common.{kept_blocks, IsBegun, Before, IsNamed, IsWholeVersion, IsWholeDirectory, IsWholeMap}
use Rattle.volume.specs.Common.{MemoryMap, pending_at, as_written, slot as version_at, IsVersionOf, IsPinAnswer}
use Rattle.volume.specs.Common.{BeginsWithFile}
use Rattle.volume.specs.declared.live.LiveVersion.{LiveVersion}
use Rattle.volume.specs.declared.pending.PendingKind.{PendingKind}
use Rattle.volume.specs.declared.pending.PendingKind.TheVariants.{Create, Supersede, Update, Append}
use Rattle.volume.specs.declared.pending.PendingVersion.{PendingVersion}
use Rattle.volume.proofs.common.Answers.{all_at_place}
use Rattle.monitor.specs.Common.{IsEnterAnswer, named_in, digit_for, readers_of, Renews, UnderKeys, reader_of}
use Rattle.monitor.specs.Common.{readers_in, pins_of, input_of, output_of, channel_of, job_of, update_kind}
use Rattle.monitor.specs.Common.{update_answer_at, IsUpdateOf}
use Rattle.monitor.specs.declared.channel.OpenChannel.{OpenChannel}
use Rattle.monitor.specs.declared.input.Input.{Input}
use Rattle.monitor.specs.declared.job.Job.{Job}
use Rattle.monitor.specs.declared.output.Output.{Output}
use Rattle.monitor.proofs.common.CallRows.{channel_is}
use Rattle.monitor.proofs.common.ReaderLists.{held, held-channel}
use Rattle.spec_machine.specs.Jobs as machine

-- What is answered.

module _ (pack : Pack) (s : State) (w : UnderKeys) (job : Job) (number e : ℕ) (c : OpenChannel) (input : Input)
    (there : slot job.channels number ≡ Some c) (inside : lies_outside job.core e 4 ≡ false) (reads : c.input
    ≡ Some input) where
  -- the channel writes, or the words name another place than that of the file that it reads
  abbrev pub is_refused : Bool
  is_refused = is_some c.output || not (same_place (place_of input.ppn input.file) (place_at (job_of w job) e))

  mapped : (o : Option Output) → is_some (option_map (output_of w) o) ≡ is_some o
  mapped None = refl
  mapped (Some o) = refl

  asked : enter_answer pack s (job_of w job) (channel_of w c) e (place_at (job_of w job) e)
      ≡ (if is_refused then Refused 5 else update_answer_at pack s (job_of w job) (place_at (job_of w job) e))
  asked = λ i. if inside i then AddressCheck else if mapped c.output i
      || is_elsewhere (option_map (input_of w) (reads i)) (place_at (job_of w job) e) then Refused 5
      else if has_no_directory s (place_at (job_of w job) e) then Refused 1
      else if (place_at (job_of w job) e).name.name == 0 then Refused 0
      else begin_answer pack s (job_of w job) (option_map (input_of w) (reads i)) (place_at (job_of w job) e)

  answered : (job' : machine.SpecJob) (reply : Reply)
      → IsEnterAnswer pack s (job_of w job) job' (Some (channel_of w c)) e reply
      → IsEnterAnswer pack s (job_of w job) job' (channel_at (job_of w job) number) e reply
  answered job' reply is = subst (λ o. IsEnterAnswer pack s (job_of w job) job' o e reply)
      (sym (channel_is w job number (Some c) there)) is

  with_code : (core : List ℕ) (reply : Reply) (code : ℕ) → reply ≡ Refused code
      → core ≡ with_right job.core (e + 1) code
      → enter_answer pack s (job_of w job) (channel_of w c) e (place_at (job_of w job) e) ≡ Refused code
      → IsEnterAnswer pack s (job_of w job) (job_of w (record job { core = core }))
      (channel_at (job_of w job) number) e reply
  with_code core reply code answer put is =
      subst (λ r. IsEnterAnswer pack s (job_of w job) (job_of w (record job { core = core }))
      (channel_at (job_of w job) number) e r) (sym answer)
      (answered (job_of w (record job { core = core })) (Refused code)
      (inr (is, λ not. ap (λ words. job_of w (record job { core = words })) put)))

  pub out_of_order : (core : List ℕ) (reply : Reply) → is_refused ≡ true → reply ≡ Refused 5
      → core ≡ with_right job.core (e + 1) 5
      → IsEnterAnswer pack s (job_of w job) (job_of w (record job { core = core }))
      (channel_at (job_of w job) number) e reply
  out_of_order core reply is answer put = with_code core reply 5 answer put (asked
      ∙ ap (λ b. if b then Refused 5 else update_answer_at pack s (job_of w job) (place_at (job_of w job) e)) is)

  -- it may begin at the place that it reads
  module _ (goes_on : is_refused ≡ false) (named : place_of input.ppn input.file ≡ place_at (job_of w job) e) where
    abbrev answer : Reply
    answer = update_answer_at pack s (job_of w job) (place_of input.ppn input.file)

    answer_is : enter_answer pack s (job_of w job) (channel_of w c) e (place_at (job_of w job) e) ≡ answer
    answer_is =
        asked
        ∙ ap (λ b. if b then Refused 5 else update_answer_at pack s (job_of w job) (place_at (job_of w job) e)) goes_on
        ∙ ap (update_answer_at pack s (job_of w job)) (sym named)

    pub done : (job' : machine.SpecJob) → answer ≡ Done
        → IsEnterAnswer pack s (job_of w job) job' (channel_at (job_of w job) number) e Done
    done job' is = answered job' Done (inr (answer_is ∙ is, λ not. absurd (not refl)))

    pub refused : (core : List ℕ) (reply : Reply) (code : ErrorCode) → reply ≡ Refused (number_of code)
        → core ≡ with_right job.core (e + 1) (number_of code) → answer ≡ Refused (number_of code)
        → IsEnterAnswer pack s (job_of w job) (job_of w (record job { core = core }))
        (channel_at (job_of w job) number) e reply
    refused core reply code said put is = with_code core reply (number_of code) said put (answer_is ∙ is)

    pub wanting : is_plain answer ≡ false
        → IsEnterAnswer pack s (job_of w job) (job_of w job) (channel_at (job_of w job) number) e NoMemory
    wanting plain = answered (job_of w job) NoMemory (inl (refl, ap is_plain answer_is ∙ plain, refl))

-- What a channel reads is pinned.
pub reader_held : (live : List (Option LiveVersion)) (job : Job) (number : ℕ) (c : OpenChannel) (input : Input)
    → slot job.channels number ≡ Some c → c.input ≡ Some input
    → ((key : ℕ) → times key (pins_of (readers_in (Some job))) ≤ readers_of (version_at live key))
    → (key : ℕ) → times key (pins_of (option_to_list (Some input))) ≤ readers_of (version_at live key)
reader_held live job number c input there reads all key =
    let has = all key in
    let part = held-channel key job.channels number None (λ e. refl) in
    let here = ap (λ o. held key (option_to_list (reader_of o))) there ∙ ap (λ o. held key (option_to_list o)) reads in
    omega arith

-- A version has so few blocks that one more is counted in 32 bits.
pub few_kept : (size : ℕ) (c c' : MemoryMap) (key : ℕ) (kind : PendingKind) (prime : Prime) → IsWholeMap size c.known
    → IsBegun c c' key kind prime → (p : PendingVersion) → pending_at c'.pending key ≡ Some p
    → p.kept_blocks + 1 < 2 ^ 32
few_kept size c c' key kind prime whole begins p at =
    subst (λ (q : PendingVersion). q.kept_blocks + 1 < 2 ^ 32) (some_same (sym begins.here ∙ at))
    (by kind begins.old begins.named)
  where
    by : (k : PendingKind) (prior : Before) → IsNamed begins.directory prime.file prior
        → kept_blocks k prior + 1 < 2 ^ 32
    by Create prior named = omega arith
    by Supersede prior named = omega arith
    by Update prior named = omega arith
    by Append None named = omega arith
    by Append (Some v) named =
        let whole_d = all_at_place (IsWholeDirectory size) c.known.directories begins.there.0 begins.directory
        whole.each begins.there.3 in
        let whole_v = all_at_place IsWholeVersion begins.directory.versions named.0 v.1 whole_d.versions named.2 in
        let counted = whole_v.counted in
        let few = whole_v.few in
        omega arith

-- The file that it updates is that of its place, and so is the one that its input side then pins.
pub is_update_of : (contents : Contents) (job : Job) (input : Input) (kind : PendingKind) (version : PendingVersion)
    (pending : Option PendingVersion) (between c' : MemoryMap) (renewed : Input) (files : Files File)
    (renews : Renews between c' input renewed input.ppn input.file version.prime.protection)
    → pending ≡ Some version
    → BeginsWithFile contents pending input.file (get files input.ppn)
    → kind ≡ update_kind (digit_for job.ppn input.ppn (named_in (get files input.ppn) input.file))
    → IsPinAnswer contents renews.between.live input.file (Ok renews.held.pin) (get files input.ppn)
    → IsUpdateOf contents job input kind version renews.between renewed files
is_update_of contents job input kind version pending between c' renewed files renews here begins digit pinned =
    let there : named_in (get files input.ppn) input.file
    ≡ Some begins.4 = ap (λ (o : Option (Directory File)). named_in o input.file) begins.3 ∙ begins.5 in
    record {
      file = begins.4;
      there = there;
      begins = subst (λ (p : PendingVersion). IsVersionOf contents (as_written p) begins.4)
          (some_same (sym begins.1 ∙ here)) begins.6;
      pinned = subst (λ pin. IsPinAnswer contents renews.between.live input.file (Ok pin) (get files input.ppn))
          (sym (ap (λ (i : Input). i.pin) renews.renewed_is)) pinned;
      kind_is = digit ∙ ap (λ o. update_kind (digit_for job.ppn input.ppn o)) there;
    }
