-- What a directory is charged for, and whether its quota leaves enough, is the same to volume and machine.
use Rattle.std.proofs.Common.{◌≡◌, ◌<◌, ℕ, ◌+◌, Bool, true, false, length, Option, None, Some, refl, sym, ap, ◌∙◌}
use Rattle.std.proofs.Common.{arith, nat_lt}
use Rattle.std.specs.Prelude.{◌==◌, ◌&&◌, ◌↔◌, not, is_some, option_map}
use Rattle.std.proofs.lemmas.Bool.Decides.{nat_tests}
use Rattle.words36.specs.declared.names.FileName.{FileName}
use Rattle.blockdisk.specs.Common.{DiskState}
use Rattle.spec_machine.specs.Common.{charge, charge_in, quota_in, quota_of, exceeds_left, pending_cost_in, State}
use Rattle.spec_machine.specs.Common.{pending_creations}
use Rattle.spec_image.specs.Common.{version_cost, directory_cost, Directory, map_directory, get, total, SpecVersion}
use Rattle.spec_image.specs.Common.{without_serials, growth}
use Rattle.spec_image.proofs.Common.{some_same, size-map_values, sum-map_values, name_total}
use Rattle.volume.specs.Common.{begin_cost, entries_with, IsDirectoryOf, charge_answer, writes_in, IsCharged, IsOver}
use Rattle.volume.specs.Common.{CurrentDirectory, Before, IsNamed, cost_before, MemoryMap, creates, IsSoundMemory}
use Rattle.volume.specs.declared.charge.Charge.{Charge}
use Rattle.volume.specs.declared.pending.PendingKind.{PendingKind}
use Rattle.volume.proofs.Charges.Charges.{charged_is, charged_there}
use Rattle.monitor.specs.Common.{IsKnown, charge_told}
use Rattle.monitor.proofs.common.Growths.{shown_at}

-- The volume's tests of quotas are the machine's.
abbrev pub LimitsAre : MemoryMap → State → Type 0
LimitsAre c s = (ppn more : ℕ) → (IsOver c ppn more → exceeds_left s ppn more ≡ true)
    × ((IsOver c ppn more → ⊥) → exceeds_left s ppn more ≡ false)

-- Whether a quota leaves what a version that is begun in a directory costs, and what a file that comes to one costs, as
-- the volume answers.
abbrev pub AllowsBegin : MemoryMap → ℕ → FileName → PendingKind → Bool → Type 0
AllowsBegin c ppn name kind allows = (x : CurrentDirectory) → IsDirectoryOf c ppn x → (old : Before)
    → IsNamed x name old
    → (allows ≡ false) ↔ IsOver c ppn (begin_cost kind (entries_with c x ppn) old)

abbrev pub AllowsMove : MemoryMap → ℕ → FileName → ℕ → Bool → Type 0
AllowsMove c ppn name to allows = (x y : CurrentDirectory) → IsDirectoryOf c ppn x → IsDirectoryOf c to y
    → (old : Before)
    → IsNamed x name old
    → (allows ≡ false) ↔ ((ppn ≡ to → ⊥) × IsOver c to (cost_before old + growth (entries_with c y to)))

-- the charge of a directory that is there
abbrev told_of : Directory SpecVersion → ℕ → ℕ → Charge
told_of d creations writing = record { quota = d.quota; used = charge_in (Some d) creations + writing }

shown_by : (o : Option (Directory SpecVersion)) (creations writing : ℕ)
    → charge_answer (option_map (map_directory (λ (v : SpecVersion). v.file)) o) creations writing
    ≡ option_map (λ d. told_of d creations writing) o
shown_by None creations writing = refl
shown_by (Some d) creations writing = λ i. Some (record {
  quota = d.quota;
  used =
      directory_cost (size-map_values name_total (λ (v : SpecVersion). v.file) d.files i + creations)
      + sum-map_values name_total (λ f. version_cost (length f.body)) (λ (v : SpecVersion). v.file) d.files i
      + writing;
})

told_by : (s : State) (ppn : ℕ) (o : Option (Directory SpecVersion)) → get s.files ppn ≡ o
    → option_map (λ d. told_of d (pending_creations s ppn) (pending_cost_in s ppn)) o
    ≡ option_map (λ d. record { quota = d.quota; used = charge s ppn }) o
told_by s ppn None is = refl
told_by s ppn (Some d) is = λ i. Some (record {
  quota = d.quota;
  used = charge_in (sym is i) (pending_creations s ppn) + pending_cost_in s ppn;
})

exceeds : (quota used more : ℕ) → 0 < quota → quota < used + more
    → (not (quota == 0) && nat_lt quota (used + more)) ≡ true
exceeds quota used more some past = grind (arith, nat_tests)

passes : (quota used more : ℕ) → (not (quota == 0) && nat_lt quota (used + more)) ≡ true
    → (0 < quota) × (quota < used + more)
passes quota used more is = (grind (arith, nat_tests), grind (arith, nat_tests))

module _ (d : DiskState) (c : MemoryMap) (s : State) (known : IsKnown d c s) where
  pub charge_is : (ppn : ℕ) → charge_answer (get (without_serials s.files) ppn) (total (creates ppn) c.pending)
      (total (writes_in ppn) c.pending) ≡ charge_told s ppn
  charge_is ppn =
      (λ i. charge_answer (shown_at s.files ppn i) (sym (known.creations ppn) i) (sym (known.written ppn) i))
      ∙ shown_by (get s.files ppn) (pending_creations s ppn) (pending_cost_in s ppn)
      ∙ told_by s ppn (get s.files ppn) refl

  module _ (sound : IsSoundMemory d c false) (honest : d.honest) (ppn more : ℕ) where
    told : (charge : Charge) → IsCharged c ppn charge → charge_told s ppn ≡ Some charge
    told charge is = sym (charge_is ppn) ∙ charged_is d c sound honest (without_serials s.files) known.files ppn charge
        is

    over : IsOver c ppn more → exceeds_left s ppn more ≡ true
    over (charged, is, some, past) = by (get s.files ppn) refl (told charged is)
      where
        by : (o : Option (Directory SpecVersion)) → get s.files ppn ≡ o
            → option_map (λ d. record { quota = d.quota; used = charge s ppn }) o ≡ Some charged
            → exceeds_left s ppn more ≡ true
        by None at same = let wrong = same in cc
        by (Some x) at same =
            let quota : quota_of s ppn ≡ charged.quota = ap quota_in at
            ∙ ap (λ (k : Charge). k.quota) (some_same same) in
            let used : charge s ppn ≡ charged.used = ap (λ (k : Charge). k.used) (some_same same) in
            (λ i. not (quota i == 0) && nat_lt (quota i) (used i + more))
            ∙ exceeds charged.quota charged.used more some past

    within : (IsOver c ppn more → ⊥) → exceeds_left s ppn more ≡ false
    within never = decide (exceeds_left s ppn more) refl
      where
        by : (o : Option (Directory SpecVersion)) → get s.files ppn ≡ o → exceeds_left s ppn more ≡ true
            → IsOver c ppn more
        by None at is = let wrong = ap (λ o. not (quota_in o == 0) && nat_lt (quota_in o) (charge s ppn + more))
            (sym at)
            ∙ is in cc
        by (Some x) at is =
            let there = charged_there d c sound honest (without_serials s.files) known.files ppn
            (ap is_some (shown_at s.files ppn ∙ ap (option_map (map_directory (λ (v : SpecVersion). v.file))) at)) in
            let same = ap (λ o. option_map (λ d. record { quota = d.quota; used = charge s ppn }) o) (sym at)
            ∙ told there.0 there.1 in
            let quota : quota_of s ppn ≡ there.0.quota = ap quota_in at
            ∙ ap (λ (k : Charge). k.quota) (some_same same) in
            let used : charge s ppn ≡ there.0.used = ap (λ (k : Charge). k.used) (some_same same) in
            let both = passes there.0.quota there.0.used more
            (sym (λ i. not (quota i == 0) && nat_lt (quota i) (used i + more)) ∙ is) in
            (there.0, there.1, both.0, both.1)

        decide : (b : Bool) → exceeds_left s ppn more ≡ b → exceeds_left s ppn more ≡ false
        decide true is = absurd (never (by (get s.files ppn) refl is))
        decide false is = is

  pub limits_are : IsSoundMemory d c false → d.honest → LimitsAre c s
  limits_are sound honest ppn more = (over sound honest ppn more, within sound honest ppn more)
