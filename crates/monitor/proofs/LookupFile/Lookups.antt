-- What a LOOKUP pins and unpins, and what it answers.
use Rattle.std.proofs.Common.{◌≡◌, ◌<◌, ◌≤◌, ℕ, ◌+◌, List, [], ◌∷◌, Option, None, Some, refl, sym, ap, subst, ◌∙◌}
use Rattle.std.proofs.Common.{arith}
use Rattle.std.specs.Prelude.{length, option_map, option_to_list}
use Rattle.blockdisk.specs.Common.{Contents}
use Rattle.spec_image.specs.Common.{number_of, File, times, file_at, place_of}
use Rattle.spec_machine.specs.Common.{with_right, after_writes, State, slot, channel_at, lookup_answer, place_at}
use Rattle.spec_machine.specs.Common.{with_attributes, size_word}
use Rattle.spec_image.specs.declared.code.ErrorCode.{ErrorCode}
use Rattle.spec_machine.specs.declared.call.Reply.{Reply}
use Rattle.spec_machine.specs.declared.call.Reply.TheVariants.{Done, Refused}
use Rattle.spec_image.proofs.Common.{some_same, some_none, times_head, times_other}
use Rattle.volume.specs.Common.{MemoryMap, pending_at, slot as version_at, IsShown}
use Rattle.volume.specs.declared.file_facts.FileFacts.{FileFacts}
use Rattle.volume.specs.declared.live.LiveVersion.{LiveVersion}
use Rattle.volume.proofs.PublishVersion.Publications.{placed_on}
use Rattle.monitor.specs.Common.{HasShortFacts, IsInputOf, looking, IsHolding, IsLookingUp, IsLookedUp, IsLookupRow}
use Rattle.monitor.specs.Common.{readers_of, KeepsReading, IsReader, ArePlaced, UnderKeys, reader_of, readers_in}
use Rattle.monitor.specs.Common.{pins_of, output_of, channel_of, job_of}
use Rattle.monitor.specs.declared.channel.OpenChannel.{OpenChannel}
use Rattle.monitor.specs.declared.input.Input.{Input}
use Rattle.monitor.specs.declared.job.Job.{Job}
use Rattle.monitor.proofs.common.CallRows.{channel_is}
use Rattle.monitor.proofs.common.Dropped.{same_or_not}
use Rattle.monitor.proofs.common.ReaderLists.{held, held-channel}
use Rattle.monitor.proofs.common.JobReaders.{slot_set, length-slice_set}
use Rattle.spec_machine.specs.Jobs as machine

-- A version has one reader more.

module _ (c c' : MemoryMap) (input : Input) (holds : IsHolding c c' input) where
  pub one_more : (k : ℕ) → readers_of (version_at c'.live k) ≡ readers_of (version_at c.live k)
      + times k (input.pin.key ∷ [])
  one_more k = same_or_not k input.pin.key
      (λ same. subst (λ (n : ℕ). readers_of (version_at c'.live n) ≡ readers_of (version_at c.live n)
      + times n (input.pin.key ∷ [])) (sym same)
      (let was = ap readers_of holds.pinned.1 in let is = ap readers_of holds.pinned.2 in
      let one = times_head input.pin.key [] in omega arith))
      (λ apart. let same = ap readers_of (holds.others k apart) in let none = times_other k input.pin.key [] apart in
      omega arith)

  -- so that what the channel reads is still pinned
  pub old_held : (job : Job) (number : ℕ) (channel : OpenChannel) → slot job.channels number ≡ Some channel
      → ((key : ℕ) → times key (pins_of (readers_in (Some job))) ≤ readers_of (version_at c.live key))
      → (key : ℕ) → times key (pins_of (option_to_list channel.input)) ≤ readers_of (version_at c'.live key)
  old_held job number channel there all key =
      let has = all key in
      let more = one_more key in
      let part = held-channel key job.channels number None (λ e. refl) in
      let here = ap (λ o. held key (option_to_list (reader_of o))) there in
      omega arith

-- The channel reads another version, or its first.

reads_first : (channel : OpenChannel) (input : Input) → input.next ≡ 1 → IsReader (looking channel input)
reads_first channel input first i is =
    subst (λ (n : ℕ). 0 < n) (sym first ∙ ap (λ (x : Input). x.next) (some_same is)) (omega arith)

module _ (c between c' : MemoryMap) (job job' : Job) (number address : ℕ) (channel : OpenChannel) (input : Input)
    (looks : IsLookingUp c between c' job job' number address channel input) where
  pub looks_reading : KeepsReading c.live c'.live job job'
  looks_reading = subst (KeepsReading c.live c'.live job) (sym looks.job_is) (record {
    once = λ k.
        let gone = looks.closed.released k in
        let more = one_more c between input looks.holds k in
        let moved = held-channel k job.channels number (Some (looking channel input))
        (λ none. absurd (some_none (sym looks.there ∙ none))) in
        let was = ap (λ o. held k (option_to_list (reader_of o))) looks.there in
        omega arith;
    each = λ readers. record {
      each = λ n x at. same_or_not n number
          (λ same. subst IsReader ((slot_set job.channels number n (looking channel input) x at).0 same)
          (reads_first channel input looks.next))
          (λ apart. readers.each n x ((slot_set job.channels number n (looking channel input) x at).1 apart));
      sixteen = length-slice_set job.channels number (Some (looking channel input)) ∙ readers.sixteen;
    };
  })

-- Versions that are being written stay where they are.
pub placed_still : (c c' : MemoryMap) → c'.pending ≡ c.pending → c'.known ≡ record c.known { table = c'.known.table }
    → ArePlaced c → ArePlaced c'
placed_still c c' pending known placed = record {
  each = λ key p at. placed_on c c' known p p.version (placed.each key p (sym (ap (λ ps. pending_at ps key) pending)
      ∙ at));
  single = λ k key p q at here. placed.single k key p q (sym (ap (λ ps. pending_at ps k) pending)
      ∙ at) (sym (ap (λ ps. pending_at ps key) pending) ∙ here);
}

-- The version is the machine's, and the attributes and the size of its file are put into the words.
pub is_found : (contents : Contents) (live : List (Option LiveVersion)) (s : State) (w : UnderKeys) (job job' : Job)
    (e : ℕ) (input : Input) (facts : FileFacts) → place_of input.ppn input.file ≡ place_at (job_of w job) e
    → IsInputOf contents live s (job_of w job) e input facts
    → ((file : File) → IsShown file facts → HasShortFacts file
    → job'.core ≡ after_writes (with_attributes 2 job.core e file) ((e + 3, size_word (length file.body)) ∷ []))
    → IsLookedUp contents live s job job' e input
is_found contents live s w job job' e input facts place is put = record {
  version = is.version;
  there = ap (file_at s.files) place ∙ is.there;
  protection = is.protection;
  held = (is.held, is.pinned_at, is.body);
  core = put is.version.file is.shown is.short;
}

-- It answers as the machine does.

pub free_still : (w : UnderKeys) (c : OpenChannel) → c.output ≡ None → (channel_of w c).output ≡ None
free_still w c free = ap (option_map (output_of w)) free

module _ (s : State) (w : UnderKeys) (job : Job) (number e : ℕ) (c : OpenChannel) (there : slot job.channels number
    ≡ Some c) where
  answered : (job' : machine.SpecJob) (reply : Reply) → IsLookupRow s (job_of w job) job' (Some (channel_of w c)) e
      reply
      → IsLookupRow s (job_of w job) job' (channel_at (job_of w job) number) e reply
  answered job' reply is = subst (λ o. IsLookupRow s (job_of w job) job' o e reply)
      (sym (channel_is w job number (Some c) there)) is

  -- a refusal's code is put into the words
  pub refused : (core : List ℕ) (reply : Reply) (code : ErrorCode) → reply ≡ Refused (number_of code)
      → core ≡ with_right job.core (e + 1) (number_of code)
      → lookup_answer s (job_of w job) (channel_of w c) e (place_at (job_of w job) e) ≡ Refused (number_of code)
      → IsLookupRow s (job_of w job) (job_of w (record job { core = core })) (channel_at (job_of w job) number) e reply
  refused core reply code refusal put is =
      subst (IsLookupRow s (job_of w job) (job_of w (record job { core = core })) (channel_at (job_of w job) number) e)
      (sym refusal)
      (answered (job_of w (record job { core = core })) (Refused (number_of code))
      (is, λ not. ap (λ words. job_of w (record job { core = words })) put))

  pub done : (job' : machine.SpecJob) → lookup_answer s (job_of w job) (channel_of w c) e
      (place_at (job_of w job) e) ≡ Done
      → IsLookupRow s (job_of w job) job' (channel_at (job_of w job) number) e Done
  done job' is = answered job' Done (is, λ not. absurd (not refl))
