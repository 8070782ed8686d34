-- The machine's RENAME of a channel that reads a file, by what it answers there.
use Rattle.std.proofs.Common.{◌≡◌, ◌≤◌, ℕ, Bool, false, List, Option, None, Some, refl, ap, ◌∙◌, slice_set}
use Rattle.std.specs.Prelude.{if◌then◌else◌, option_map}
use Rattle.words36.specs.declared.moment.Moment.{Moment}
use Rattle.blockdisk.specs.Common.{DiskState}
use Rattle.spec_machine.specs.Common.{lies_outside, State, slot, settled, refused_at, rename_from, rename_sides}
use Rattle.spec_machine.specs.Common.{rename_done, files_from, files_renamed, renames, step, on_channel, of_files}
use Rattle.spec_machine.specs.Common.{last_date}
use Rattle.spec_image.specs.Common.{Files, Place, pack_of, SpecVersion, Pack, place_of}
use Rattle.spec_machine.specs.declared.call.Call.TheVariants.{Rename}
use Rattle.spec_machine.specs.declared.call.Event.TheVariants.{Call as Calls}
use Rattle.spec_machine.specs.declared.call.Reply.{Reply}
use Rattle.spec_machine.specs.declared.call.Reply.TheVariants.{Done, Refused, AddressCheck}
use Rattle.monitor.specs.Common.{input_closed, with_input_closed, with_code, IsRow, UnderKeys, input_of, output_of}
use Rattle.monitor.specs.Common.{channel_of, job_of, state_of}
use Rattle.monitor.specs.declared.channel.OpenChannel.{OpenChannel}
use Rattle.monitor.specs.declared.input.Input.{Input}
use Rattle.monitor.specs.declared.output.Output.{Output}
use Rattle.monitor.specs.declared.job.Job.{Job}
use Rattle.monitor.proofs.common.EventAnswers.{called, job_set, settled_reply}
use Rattle.monitor.proofs.common.CallRows.{channel_is, channel_set}
use Rattle.spec_machine.specs.Jobs as machine

module _ (d : DiskState) (files : Files SpecVersion) (w : UnderKeys) (jobs : List (Option Job)) (n : ℕ) (job : Job)
    (there : slot jobs n ≡ Some job) (number e : ℕ) (moment : Moment)
    (timely : moment.date ≤ last_date (pack_of d).layout)
    (channel : OpenChannel) (is_open : slot job.channels number ≡ Some channel) (input : Input)
    (side : channel.input ≡ Some input) (free : channel.output ≡ None)
    (inside : lies_outside job.core e 4 ≡ false) where
  abbrev t : State
  t = state_of files w jobs

  abbrev j : machine.SpecJob
  j = job_of w job

  -- the place that was looked up
  abbrev old : Place
  old = place_of input.ppn input.file

  -- the row, by its sides and by what it answers
  abbrev by_sides : Bool → Option Input → Option Output → Reply × (machine.SpecJob × Files SpecVersion)
  by_sides outside i o = settled
      (if outside then AddressCheck else rename_sides (pack_of d) t j e (option_map (input_of w) i)
      (option_map (output_of w) o))
      (rename_done j number (channel_of w channel), files_renamed files j e (option_map (input_of w) i))
      (λ reply. (refused_at j e reply, files))

  abbrev by_answer : Reply → Reply × (machine.SpecJob × Files SpecVersion)
  by_answer reply = settled reply (rename_done j number (channel_of w channel), files_from files j e old)
      (λ r. (refused_at j e r, files))

  asks : (serial : ℕ) → step (pack_of d) serial t (Calls n (Rename number e) moment)
      ≡ of_files t n (by_answer (rename_from (pack_of d) t j e old))
  asks serial =
      called (pack_of d) jobs n (Rename number e) moment serial files w timely job there
      ∙ ap (λ o. on_channel t o (λ c. of_files t n (renames (pack_of d) t j number c e)))
      (channel_is w job number (Some channel) is_open)
      ∙ (λ i. of_files t n (by_sides (inside i) (side i) (free i)))

  pub row_done : rename_from (pack_of d) t j e old ≡ Done → (serial : ℕ)
      → step (pack_of d) serial t (Calls n (Rename number e) moment)
      ≡ (Done, state_of (files_from files j e old) w (slice_set jobs n (Some (with_input_closed job number channel))))
  row_done done serial =
      asks serial ∙ ap (λ r. of_files t n (by_answer r)) done
      ∙ ap (λ x. of_files t n (Done, (x, files_from files j e old)))
      (channel_set w job number (Some (input_closed channel)))
      ∙ ap (λ x. (Done, x)) (job_set (files_from files j e old) w jobs n (with_input_closed job number channel))

  pub row_refused : (code : ℕ) → rename_from (pack_of d) t j e old ≡ Refused code → (serial : ℕ)
      → step (pack_of d) serial t (Calls n (Rename number e) moment)
      ≡ (Refused code, state_of files w (slice_set jobs n (Some (with_code job e code))))
  row_refused code refused serial =
      asks serial ∙ ap (λ r. of_files t n (by_answer r)) refused
      ∙ ap (λ x. (Refused code, x)) (job_set files w jobs n (with_code job e code))

  -- what is answered is what is answered of the place
  pub row_answers : (step (pack_of d) 0 t (Calls n (Rename number e) moment)).0 ≡ rename_from (pack_of d) t j e old
  row_answers =
      ap (λ (r : Reply × State). r.0) (asks 0)
      ∙ settled_reply (rename_from (pack_of d) t j e old)
      (rename_done j number (channel_of w channel), files_from files j e old) (λ r. (refused_at j e r, files))

-- A channel that writes, too, is out of order.

busy : (pack : Pack) (s : State) (j : machine.SpecJob) (e : ℕ) (i : Option machine.SpecInput) (o : machine.SpecOutput)
    → rename_sides pack s j e i (Some o) ≡ Refused 5
busy pack s j e None o = refl
busy pack s j e (Some i) o = refl

pub rename_writing : (job : Job) (number e : ℕ) (channel : OpenChannel) → slot job.channels number ≡ Some channel
    → (o : Output) → channel.output ≡ Some o → lies_outside job.core e 4 ≡ false
    → IsRow job (with_code job e 5) (Rename number e) (Refused 5)
rename_writing job number e channel is_open o writes inside pack serial s n w moment at =
    let j = job_of w job in
    let c = channel_of w channel in
    ap (λ x. on_channel s x (λ y. of_files s n (renames pack s j number y e)))
    (channel_is w job number (Some channel) is_open)
    ∙ ap (λ r. of_files s n (settled r (rename_done j number c, files_renamed s.files j e c.input)
    (λ reply. (refused_at j e reply, s.files))))
    ((λ i. if inside i then AddressCheck else rename_sides pack s j e c.input (option_map (output_of w) (writes i)))
    ∙ busy pack s j e c.input (output_of w o))
