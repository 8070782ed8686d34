-- If nobody is logged in, nothing is being written, and nothing is read.
use Rattle.std.proofs.Common.{◌≡◌, ℕ, zero, suc, List, [], Option, Some, None, refl, sym, ap, subst, ◌∙◌}
use Rattle.std.specs.Prelude.{IfSome, replicate}
use Rattle.std.specs.List.{AllByRecursion}
use Rattle.blockdisk.specs.Common.{DiskState}
use Rattle.spec_image.specs.Common.{File, Files}
use Rattle.spec_machine.specs.Common.{State, slot, IsStart}
use Rattle.spec_image.proofs.Common.{some_none}
use Rattle.spec_machine.proofs.Common.{start_sound}
use Rattle.volume.specs.Common.{MemoryMap, pending_at, IsFirstRead, slot as version_at, RestsAt}
use Rattle.volume.specs.declared.live.LiveVersion.{LiveVersion}
use Rattle.volume.specs.declared.pending.PendingVersion.{PendingVersion}
use Rattle.monitor.specs.Common.{readers_of, IsState, AreKeyed, AreReading, jobs_of, no_jobs}
use Rattle.monitor.specs.declared.job.Job.{Job}
use Rattle.monitor.proofs.common.EventAnswers.{nothing}
use Rattle.monitor.proofs.common.ReadStays.{reads_start}
use Rattle.monitor.proofs.common.SideSums.{all_at}

none_keyed : AreKeyed [] no_jobs
none_keyed = record { once = λ key. refl; each = tt }

pub start_keyed : (pending : List (Option PendingVersion)) (jobs : List (Option Job)) → pending ≡ [] → jobs ≡ no_jobs
    → AreKeyed pending jobs
start_keyed pending jobs none nobody = subst (λ p. AreKeyed p jobs) (sym none)
    (subst (AreKeyed []) (sym nobody) none_keyed)

abbrev nobody_in : ℕ → List (Option Job)
nobody_in slots = replicate slots None

none_at : (slots n : ℕ) → slot (nobody_in slots) n ≡ None
none_at zero n = refl
none_at (suc slots) zero = refl
none_at (suc slots) (suc n) = none_at slots n

pub start_reading : (live : List (Option LiveVersion)) (jobs : List (Option Job))
    → AllByRecursion (λ o. IfSome o IsFirstRead) live → jobs ≡ no_jobs → AreReading live jobs
start_reading live jobs read nobody = subst (AreReading live) (sym nobody) (record {
  pinned = λ key. by key (version_at live key) refl;
  each = λ n job at. absurd (some_none (sym at ∙ none_at 65 n));
  slots = refl;
})
  where
    by : (key : ℕ) (o : Option LiveVersion) → version_at live key ≡ o → 0 ≡ readers_of (version_at live key)
    by key None is = sym (ap readers_of is)
    by key (Some v) is = sym (ap readers_of is ∙ (all_at IsFirstRead live key v read is).unread)

pub started : (d : DiskState) (map : MemoryMap) (jobs : List (Option Job)) (s : State) (found : Files File)
    → RestsAt d found → AllByRecursion (λ o. IfSome o IsFirstRead) map.live → map.pending ≡ [] → jobs ≡ no_jobs
    → IsStart found s → IsState d map jobs s
started d map jobs s found rests read none nobody start = record {
  files = subst (RestsAt d) (sym start.files) rests;
  serials = start.serials;
  under = nothing;
  versions = λ key p at. absurd (wrong key p at);
  absent = λ key p at new. absurd (wrong key p at);
  keyed = start_keyed map.pending jobs none nobody;
  read = reads_start d map s.files nothing.read read;
  reading = start_reading map.live jobs read nobody;
  jobs_are = start.jobs ∙ ap (jobs_of nothing) (sym nobody);
  sound = start_sound found s start;
}
  where
    wrong : (key : ℕ) (p : PendingVersion) → pending_at map.pending key ≡ Some p → ⊥
    wrong key p at = some_none (sym (subst (λ ps. pending_at ps key ≡ Some p) none at))
