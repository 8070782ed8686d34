-- CLOSE and RELEAS lead to sound states.
use Rattle.std.proofs.Common.{◌≡◌, ℕ, Bool, true, false, if◌then◌else◌, Option, Some, None, refl, sym, ap, ◌∙◌, ◌⊎◌}
use Rattle.std.proofs.Common.{inl, inr, ⊎_elim}
use Rattle.std.specs.Prelude.{slice_set, not, option_map, IsSome}
use Rattle.spec_image.specs.Common.{get, Place, SpecVersion, file_at}
use Rattle.spec_machine.specs.Jobs.{Channel, SpecJob, SpecInput, SpecOutput, State, channel_at, job_at, with_channel}
use Rattle.spec_machine.specs.Room.{output_of, version_of}
use Rattle.spec_machine.specs.Close.{published, files_with, files_closed, holding, output_put, channel_closed}
use Rattle.spec_machine.specs.Close.{core_closed, close_done, keeps_input, keeps_output, publishes}
use Rattle.spec_machine.specs.Sound.{output_for, version_for, Exists}
use Rattle.spec_image.proofs.Common.{some_same, found_with_file, stays_with_file, keeps_with_file}
use Rattle.spec_machine.proofs.SoundLaws.{Goes, good_channel, goes_with}
use Rattle.spec_machine.proofs.SoundSteps.{would_be}

pub if_kept : {X : Type 0} (b : Bool) (o : Option X) (x : X) → (if b then o else None) ≡ Some x → o ≡ Some x
if_kept true o x h = h
if_kept false o x h = let wrong = h in cc

pub held_closed : (serial : ℕ) (keeps is_published : Bool) (i : Option SpecInput) (o : Option SpecOutput)
    (w : SpecVersion)
    → option_map (λ i. i.version) (if not keeps then None else if is_published
    then holding i (option_map (published serial) o) else i) ≡ Some w
    → (option_map (λ i. i.version) i ≡ Some w) ⊎ (w ≡ would_be serial o)
held_closed serial false b i o w h = let wrong = h in cc
held_closed serial true true None o w h = let wrong = h in cc
held_closed serial true true (Some i) None w h = inl h
held_closed serial true true (Some i) (Some o) w h = inr (sym (some_same h))
held_closed serial true false i o w h = inl h

pub would_be_serial : (serial : ℕ) (o : Option SpecOutput) → (would_be serial o).serial ≡ serial
would_be_serial serial None = refl
would_be_serial serial (Some o) = refl

module _ (s : State) (serial : ℕ) where
  found_closed : (b : Bool) (o : Option SpecOutput) (place : Place) (w : SpecVersion)
      → file_at (if b then files_with s.files serial o else s.files) place ≡ Some w
      → Exists s w ⊎ (w ≡ would_be serial o)
  found_closed true None place w is = inl (inl (place, is))
  found_closed true (Some o) place w is = ⊎_elim (λ was. inl (inl (place, was))) (λ new. inr new)
      (found_with_file s.files o.place (published serial o) place w is)
  found_closed false o place w is = inl (inl (place, is))

  stays_closed : (b : Bool) (o : Option SpecOutput) (place : Place) → IsSome (file_at s.files place)
      → IsSome (file_at (if b then files_with s.files serial o else s.files) place)
  stays_closed true None place is = is
  stays_closed true (Some o) place is = stays_with_file s.files o.place (published serial o) place is
  stays_closed false o place is = is

  keeps_closed : (b : Bool) (o : Option SpecOutput) (ppn : ℕ) → IsSome (get s.files ppn)
      → IsSome (get (if b then files_with s.files serial o else s.files) ppn)
  keeps_closed true None ppn is = is
  keeps_closed true (Some o) ppn is = keeps_with_file s.files o.place (published serial o) ppn is
  keeps_closed false o ppn is = is

  module _ (n : ℕ) (job : SpecJob) (there : job_at s n ≡ Some job) (ch : ℕ) (c : Channel) (is_open : channel_at job ch
      ≡ Some c) where
    pub closes_goes : (bits : ℕ) → Goes s
        (record s {
          files = files_closed serial s.files job c bits;
          jobs = slice_set s.jobs n (Some (close_done serial job ch c bits));
        }) (would_be serial (output_put job c)) n ch
    closes_goes bits =
        goes_with s (would_be serial (output_put job c)) n ch (files_closed serial s.files job c bits)
        (close_done serial job ch c bits)
        (good_channel s (would_be serial (output_put job c)) n ch job there _ (Some (channel_closed serial job c bits))
        (λ o h. inl (
          o,
          ap (output_for ch) there ∙ ap output_of is_open ∙ if_kept (keeps_output bits) c.output o h,
          refl,
          refl,
        ))
        (λ w h. ⊎_elim (λ was. inl (inr (n, ch, ap (version_for ch) there ∙ ap version_of is_open ∙ was)))
        (λ new. inr new)
        (held_closed serial (keeps_input bits) (publishes c bits) c.input (output_put job c) w h)))
        (λ place w is. found_closed (publishes c bits) (output_put job c) place w is)
        (λ place is. stays_closed (publishes c bits) (output_put job c) place is)
        (λ ppn is. keeps_closed (publishes c bits) (output_put job c) ppn is)

    pub releases_goes : Goes s (record s {
      files = files_closed serial s.files job c 0;
      jobs = slice_set s.jobs n (Some (with_channel (record job { core = core_closed job.core c 0 }) ch None));
    })
        (would_be serial (output_put job c)) n ch
    releases_goes =
        goes_with s (would_be serial (output_put job c)) n ch (files_closed serial s.files job c 0)
        (with_channel (record job { core = core_closed job.core c 0 }) ch None)
        (good_channel s (would_be serial (output_put job c)) n ch job there _ None (λ o h. let wrong = h in
        cc) (λ w h. let wrong = h in cc))
        (λ place w is. found_closed (publishes c 0) (output_put job c) place w is)
        (λ place is. stays_closed (publishes c 0) (output_put job c) place is)
        (λ ppn is. keeps_closed (publishes c 0) (output_put job c) ppn is)
