-- Quota is answered as the machine answers it.
use Rattle.std.proofs.Common.{◌≡◌, ℕ, Bool, true, false, if◌then◌else◌, not, List, Option, None, Some, refl, sym, ap}
use Rattle.std.proofs.Common.{◌∙◌, inl, inr}
use Rattle.std.specs.Prelude.{◌==◌, is_none, option_map}
use Rattle.blockdisk.specs.Common.{DiskState}
use Rattle.spec_machine.specs.Common.{lies_outside, State, limit_answer, system}
use Rattle.spec_image.specs.Common.{Files, Directory, map_directory, pack_of, get, SpecVersion, without_serials}
use Rattle.spec_machine.specs.declared.call.Reply.{Reply}
use Rattle.spec_machine.specs.declared.call.Reply.TheVariants.{Done, Refused, AddressCheck}
use Rattle.volume.specs.Common.{RestsAt}
use Rattle.monitor.specs.Common.{IsNowhere, IsThere, IsDenied, IsLimitable, UnderKeys, job_of, state_of}
use Rattle.monitor.specs.declared.job.Job.{Job}
use Rattle.monitor.proofs.common.Growths.{shown_at}

-- the answer, by its tests
abbrev pick : Bool → Bool → Bool → Bool → Reply
pick outside first gone system = if outside then AddressCheck else if first then Refused 5 else if gone then Refused 1
    else if not system then Refused 2 else Done

module _ (d : DiskState) (files : Files SpecVersion) (w : UnderKeys) (jobs : List (Option Job)) (owner : ℕ)
    (honest : d.honest) (rests : RestsAt d (without_serials files)) (layout : ℕ) (same : layout ≡ (pack_of d).layout)
  where
    abbrev t : State
    t = state_of files w jobs

    none_of : IsNowhere d owner → is_none (get files owner) ≡ true
    none_of nowhere = by (get files owner) (sym (shown_at files owner) ∙ nowhere honest (without_serials files) rests)
      where
        by : (was : Option (Directory SpecVersion)) → option_map (map_directory (λ (v : SpecVersion). v.file))
            was ≡ None
            → is_none was ≡ true
        by None is = refl
        by (Some x) is = cc is

    one_of : IsThere d owner → is_none (get files owner) ≡ false
    one_of there = by (get files owner) refl
      where
        by : (was : Option (Directory SpecVersion)) → get files owner ≡ was → is_none was ≡ false
        by None is = absurd (there honest (without_serials files) rests (shown_at files owner
            ∙ ap (option_map (map_directory (λ (v : SpecVersion). v.file))) is))
        by (Some x) is = refl

    layout_is : (b : Bool) → (layout == 1) ≡ b → ((pack_of d).layout == 1) ≡ b
    layout_is b is = ap (λ n. n == 1) (sym same) ∙ is

    module _ (job : Job) (e : ℕ) where
      abbrev answer : Reply
      answer = limit_answer (pack_of d) t (job_of w job) e owner

      abbrev outside : Bool
      outside = lies_outside job.core e 2

      abbrev first : Bool
      first = (pack_of d).layout == 1

      abbrev gone : Bool
      gone = is_none (get files owner)

      pub answer_checked : outside ≡ true → answer ≡ AddressCheck
      answer_checked is i = pick (is i) first gone (job.ppn == system)

      pub denied_by : (code : ℕ) → outside ≡ false → IsDenied d layout job.ppn owner code → answer ≡ Refused code
      denied_by code inside (inl (five, one)) =
          let is = layout_is true one in
          (λ i. pick (inside i) (is i) gone (job.ppn == system)) ∙ ap Refused (sym five)
      denied_by code inside (inr (inl (one, two, nowhere))) =
          let is = layout_is false two in
          let none = none_of nowhere in
          (λ i. pick (inside i) (is i) (none i) (job.ppn == system)) ∙ ap Refused (sym one)
      denied_by code inside (inr (inr (code_is, two, there, other))) =
          let is = layout_is false two in
          let found = one_of there in
          (λ i. pick (inside i) (is i) (found i) (other i)) ∙ ap Refused (sym code_is)

      pub may_limit : outside ≡ false → IsLimitable d layout job.ppn owner → answer ≡ Done
      may_limit inside (two, there, own) =
          let is = layout_is false two in
          let found = one_of there in
          (λ i. pick (inside i) (is i) (found i) (own i))
