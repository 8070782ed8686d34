-- RENAME on a channel that reads nothing is out of order, as it is for the machine.
use Rattle.std.proofs.Common.{◌≡◌, ℕ, Bool, true, false, Option, None, Some, ap, ◌∙◌}
use Rattle.std.specs.Prelude.{if◌then◌else◌, option_map}
use Rattle.spec_machine.specs.Common.{lies_outside, State, slot, channel_at, settled, refused_at, renames, rename_sides}
use Rattle.spec_machine.specs.Common.{rename_done, files_renamed, on_channel, of_files}
use Rattle.spec_image.specs.Common.{Files, SpecVersion, Pack}
use Rattle.spec_machine.specs.declared.call.Call.TheVariants.{Rename}
use Rattle.spec_machine.specs.declared.call.Reply.{Reply}
use Rattle.spec_machine.specs.declared.call.Reply.TheVariants.{Refused, NoChannel, AddressCheck}
use Rattle.monitor.specs.Common.{with_code, IsRow, UnderKeys, input_of, channel_of, job_of}
use Rattle.monitor.specs.declared.channel.OpenChannel.{OpenChannel}
use Rattle.monitor.specs.declared.job.Job.{Job}
use Rattle.monitor.proofs.common.CallRows.{channel_is, on_none}
use Rattle.spec_machine.specs.Jobs as machine

module _ (job : Job) (number e : ℕ) where
  pub rename_none : slot job.channels number ≡ None → IsRow job job (Rename number e) NoChannel
  rename_none none pack serial s n w moment at = on_none s n w job number
      (λ c. of_files s n (renames pack s (job_of w job) number c e)) none at

  module _ (c : OpenChannel) (there : slot job.channels number ≡ Some c) where
    -- by whether the words are not all there, and by the input side
    abbrev renamed : Pack → State → UnderKeys → Bool → Option machine.SpecInput → Reply
        × (machine.SpecJob × Files SpecVersion)
    renamed pack s w outside side =
        settled (if outside then AddressCheck else rename_sides pack s (job_of w job) e side (channel_of w c).output) (
          rename_done (job_of w job) number (channel_of w c),
          files_renamed s.files (job_of w job) e (channel_of w c).input,
        ) (λ reply. (refused_at (job_of w job) e reply, s.files))

    asked : (s : State) (n : ℕ) (w : UnderKeys) (row : machine.Channel → Reply × State)
        → on_channel s (channel_at (job_of w job) number) row ≡ row (channel_of w c)
    asked s n w row = ap (λ o. on_channel s o row) (channel_is w job number (Some c) there)

    pub rename_outside : lies_outside job.core e 4 ≡ true → IsRow job job (Rename number e) AddressCheck
    rename_outside outside pack serial s n w moment at =
        asked s n w (λ x. of_files s n (renames pack s (job_of w job) number x e))
        ∙ ap (λ b. of_files s n (renamed pack s w b (channel_of w c).input)) outside

    pub rename_refused : c.input ≡ None → lies_outside job.core e 4 ≡ false
        → IsRow job (with_code job e 5) (Rename number e) (Refused 5)
    rename_refused none inside pack serial s n w moment at =
        asked s n w (λ x. of_files s n (renames pack s (job_of w job) number x e))
        ∙ ap (λ b. of_files s n (renamed pack s w b (channel_of w c).input)) inside
        ∙ ap (λ i. of_files s n (renamed pack s w false (option_map (input_of w) i))) none
