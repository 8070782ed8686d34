-- Every run from a start comes only to sound states.
use Rattle.std.proofs.Common.{◌≡◌, ℕ, false, List, [], ◌∷◌, ◌++◌, None, refl, sym, ap, subst, ◌∙◌, ⊎_elim}
use Rattle.std.specs.List.{AllByRecursion}
use Rattle.std.specs.Prelude.{◌==◌, flat_map}
use Rattle.std.proofs.lemmas.Bool.{eq-eqb}
use Rattle.spec_image.specs.Common.{File, Files, SpecVersion, Pack}
use Rattle.spec_machine.specs.Jobs.{State, job_at, slot, no_jobs}
use Rattle.spec_machine.specs.Room.{current_versions, pinned_versions, pinned_by}
use Rattle.spec_machine.specs.Runs.{Serving, Broken, Answers, AnswersAll, HaveDistinctSerials, IsStart}
use Rattle.spec_machine.specs.Sound.{output_for, IsSound}
use Rattle.spec_machine.specs.declared.call.Event.{Event}
use Rattle.spec_machine.specs.declared.call.Reply.{Reply}
use Rattle.spec_machine.proofs.LookupLaws.{serving_same, not_broken, broken_stays}
use Rattle.spec_machine.proofs.SlotLaws.{slot-empty}
use Rattle.spec_machine.proofs.SideLaws.{none_passes, version_of_all}
use Rattle.spec_machine.proofs.SoundLaws.{alike_same}
use Rattle.spec_machine.proofs.SoundEvents.{sound_step}

-- Versions that all have serials of their own.

all_with : {X : Type 0} (P Q R : X → Type 0) → ((x : X) → P x → Q x → R x) → (xs : List X) → AllByRecursion P xs
    → AllByRecursion Q xs → AllByRecursion R xs
all_with P Q R h [] a b = tt
all_with P Q R h (x ∷ xs) a b = (h x a.0 b.0, all_with P Q R h xs a.1 b.1)

all_same : {X : Type 0} (P Q : X → Type 0) → ((x : X) → P x → Q x) → (xs : List X) → AllByRecursion P xs
    → AllByRecursion Q xs
all_same P Q h [] a = tt
all_same P Q h (x ∷ xs) a = (h x a.0, all_same P Q h xs a.1)

-- each other one with the serial of v is v
abbrev Only : List SpecVersion → SpecVersion → Type 0
Only ws v = AllByRecursion (λ w. v.serial ≡ w.serial → v ≡ w) ws

differ : (v w : SpecVersion) → (w.serial == v.serial) ≡ false → v.serial ≡ w.serial → v ≡ w
differ v w e same = let wrong = sym e ∙ eq-eqb w.serial v.serial (sym same) in cc

differ_back : (v w : SpecVersion) → (w.serial == v.serial) ≡ false → w.serial ≡ v.serial → w ≡ v
differ_back v w e same = let wrong = sym e ∙ eq-eqb w.serial v.serial same in cc

each_only : (vs : List SpecVersion) → HaveDistinctSerials vs → AllByRecursion (Only vs) vs
each_only [] d = tt
each_only (v ∷ vs) d =
    let other = none_passes (λ w. w.serial == v.serial) vs d.0 in (
      (
        λ e. refl,
        all_same (λ w. (w.serial == v.serial) ≡ false) (λ w. v.serial ≡ w.serial
            → v ≡ w) (differ v) vs other,
      ),
      all_with (λ w. (w.serial == v.serial) ≡ false) (Only vs) (Only (v ∷ vs))
          (λ w a b. (differ_back v w a, b)) vs other (each_only vs d.1),
    )

-- A start.

no_job : (s : State) → s.jobs ≡ no_jobs → (n : ℕ) → job_at s n ≡ None
no_job s e n = ap (λ jobs. slot jobs n) e ∙ slot-empty 65 n

pub start_sound : (found : Files File) (s : State) → IsStart found s → IsSound s
start_sound found s start =
    let all : current_versions s ++ pinned_versions s ≡ current_versions s ++ []
    = ap (λ jobs. current_versions s ++ flat_map pinned_by jobs) start.jobs in
    let distinct : HaveDistinctSerials (current_versions s ++ pinned_versions s) = subst HaveDistinctSerials
    (sym (all ∙ append_none (current_versions s))) start.serials in
    record {
      single = λ n m ch k o p h g e. let wrong = ap (output_for ch) (sym (no_job s start.jobs n)) ∙ h in cc;
      housed = λ n ch o h. let wrong = ap (output_for ch) (sym (no_job s start.jobs n)) ∙ h in cc;
      present = λ n ch o h e. let wrong = ap (output_for ch) (sym (no_job s start.jobs n)) ∙ h in cc;
      serials = λ v w a b e. alike_same (version_of_all s (λ w. v.serial ≡ w.serial
          → v ≡ w) (version_of_all s (Only (current_versions s ++ pinned_versions s))
          (each_only (current_versions s ++ pinned_versions s) distinct) v a)
          w b e);
    }
  where
    append_none : (vs : List SpecVersion) → vs ++ [] ≡ vs
    append_none [] = refl
    append_none (v ∷ vs) = ap (λ ws. v ∷ ws) (append_none vs)

-- A run.

answers_sound : (pack : Pack) (s t : State) (event : Event) (reply : Reply)
    → Answers pack (Serving s) event reply (Serving t) → IsSound s → IsSound t
answers_sound pack s t event reply a sound = ⊎_elim
    (λ steps. subst (λ r. IsSound r.1) steps.2 (sound_step pack steps.0 s event steps.1 sound))
    (λ none. subst IsSound (sym none.1) sound) a

pub run_sound : (pack : Pack) (s t : State) (events : List Event) (replies : List Reply)
    → AnswersAll pack (Serving s) events replies (Serving t) → IsSound s → IsSound t
run_sound pack s t [] [] r sound = subst IsSound (sym (serving_same r)) sound
run_sound pack s t [] (reply ∷ replies) r sound = absurd r
run_sound pack s t (event ∷ events) [] r sound = absurd r
run_sound pack s t (event ∷ events) (reply ∷ replies) (Serving mid, a, r) sound = run_sound pack mid t events replies r
    (answers_sound pack s mid event reply a sound)
run_sound pack s t (event ∷ events) (reply ∷ replies) (Broken, a, r) sound = absurd
    (not_broken (broken_stays pack events replies (Serving t) r))

pub started_run_sound : (pack : Pack) (found : Files File) (s t : State) (events : List Event) (replies : List Reply)
    → IsStart found s → AnswersAll pack (Serving s) events replies (Serving t) → IsSound t
started_run_sound pack found s t events replies start run = run_sound pack s t events replies run
    (start_sound found s start)
