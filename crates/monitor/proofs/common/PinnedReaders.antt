-- What the machine holds, as a list: the version under the pin of each input side, with the protection that it had when
-- it was found.
use Rattle.std.proofs.Common.{◌≡◌, ◌<◌, ℕ, Bool, true, false, List, [], ◌∷◌, ◌++◌, map, flat_map, Option, Some, None}
use Rattle.std.proofs.Common.{refl, sym, ap, subst, ◌∙◌, arith}
use Rattle.std.specs.Prelude.{◌==◌, ◌||◌, option_map, filter_map}
use Rattle.std.specs.List.{cons_option, AllZip}
use Rattle.std.proofs.lemmas.Bool.{eq-eqb, both_ways}
use Rattle.std.proofs.lemmas.List.{map-append}
use Rattle.spec_machine.specs.Common.{State, pinned_by, pinned_versions, version_of, current_versions, has_serial}
use Rattle.spec_machine.specs.Common.{IsFresh}
use Rattle.spec_image.specs.Common.{times, SpecVersion, with_protection}
use Rattle.spec_image.proofs.Common.{times_other}
use Rattle.monitor.specs.Common.{IsPinnedAs, UnderKeys, reader_of, readers_in, readers, pins_of, input_of, channel_of}
use Rattle.monitor.specs.Common.{job_of, jobs_of}
use Rattle.monitor.specs.declared.channel.OpenChannel.{OpenChannel}
use Rattle.monitor.specs.declared.input.Input.{Input}
use Rattle.monitor.specs.declared.job.Job.{Job}
use Rattle.monitor.proofs.common.Dropped.{same_or_not}

module _ (under : UnderKeys) where
  abbrev found_by : Input → SpecVersion
  found_by i = with_protection (under.read i.pin.key) i.protection

  abbrev pub shown : List Input → List SpecVersion
  shown is = map found_by is

  cons_shown : (o : Option Input) (is : List Input)
      → cons_option (option_map (λ i. i.version) (option_map (input_of under) o)) (shown is) ≡ shown (cons_option o is)
  cons_shown None is = refl
  cons_shown (Some i) is = refl

  channels_hold : (cs : List (Option OpenChannel)) → filter_map version_of (map (option_map (channel_of under)) cs)
      ≡ shown (filter_map reader_of cs)
  channels_hold [] = refl
  channels_hold (None ∷ cs) = channels_hold cs
  channels_hold (Some c ∷ cs) = ap (cons_option (option_map (λ i. i.version) (option_map (input_of under) c.input)))
      (channels_hold cs) ∙ cons_shown c.input (filter_map reader_of cs)

  job_holds : (o : Option Job) → pinned_by (option_map (job_of under) o) ≡ shown (readers_in o)
  job_holds None = refl
  job_holds (Some job) = channels_hold job.channels

  joined : (xs ys : List Input) → shown (xs ++ ys) ≡ shown xs ++ shown ys
  joined xs ys = map-append found_by xs ys

  pub held_are : (jobs : List (Option Job)) → flat_map pinned_by (jobs_of under jobs) ≡ shown (readers jobs)
  held_are [] = refl
  held_are (j ∷ jobs) = (λ i. job_holds j i ++ held_are jobs i) ∙ sym (joined (readers_in j) (readers jobs))

  -- except for their protection they are the versions under the keys
  pub shown_as : (is : List Input) → AllZip IsPinnedAs (shown is) (map under.read (pins_of is))
  shown_as [] = tt
  shown_as (i ∷ is) = (record { serial = refl; words = refl }, shown_as is)

  shown_serials : (n : ℕ) (is : List Input) → has_serial n (shown is) ≡ has_serial n (map under.read (pins_of is))
  shown_serials n [] = refl
  shown_serials n (i ∷ is) = ap (λ b. ((under.read i.pin.key).serial == n) || b) (shown_serials n is)

-- A serial that no version has isn't that of a version that is read.

has_last : (k : ℕ) (vs ws : List SpecVersion) → has_serial k (vs ++ ws) ≡ false → has_serial k ws ≡ false
has_last k [] ws none = none
has_last k (v ∷ vs) ws none = by (v.serial == k) (has_last k vs ws) none
  where
    by : (b : Bool) → (has_serial k (vs ++ ws) ≡ false → has_serial k ws ≡ false)
        → (b || has_serial k (vs ++ ws)) ≡ false → has_serial k ws ≡ false
    by true rest e = let wrong = e in cc
    by false rest e = rest e

has_pinned : (read : ℕ → SpecVersion) (key : ℕ) (pins : List ℕ) → 0 < times key pins
    → has_serial (read key).serial (map read pins) ≡ true
has_pinned read key [] some = absurd (omega arith)
has_pinned read key (p ∷ pins) some = by ((read p).serial == (read key).serial) refl (has_pinned read key pins)
  where
    by : (has : Bool) → ((read p).serial == (read key).serial) ≡ has
        → (0 < times key pins → has_serial (read key).serial (map read pins) ≡ true)
        → (has || has_serial (read key).serial (map read pins)) ≡ true
    by true e rest = refl
    by false e rest = same_or_not key p
        (λ same. absurd (both_ways ((read p).serial == (read key).serial) e
        (eq-eqb (read p).serial (read key).serial (ap (λ k. (read k).serial) (sym same)))))
        (λ apart. let other = times_other key p pins apart in rest (omega arith))

pub fresh_read : (s : State) (under : UnderKeys) (jobs : List (Option Job)) → s.jobs ≡ jobs_of under jobs → (serial : ℕ)
    → IsFresh s serial → (key : ℕ) → 0 < times key (pins_of (readers jobs)) → serial ≡ (under.read key).serial → ⊥
fresh_read s under jobs are serial fresh key some same =
    let held_is : pinned_versions s ≡ shown under (readers jobs) = ap (flat_map pinned_by) are ∙ held_are under jobs in
    let has = has_pinned under.read key (pins_of (readers jobs)) some in
    let none : has_serial serial (map under.read (pins_of (readers jobs)))
    ≡ false = sym (shown_serials under serial (readers jobs))
    ∙ subst (λ vs. has_serial serial vs ≡ false) held_is
    (has_last serial (current_versions s) (pinned_versions s) fresh) in
    both_ways (has_serial serial (map under.read (pins_of (readers jobs)))) none
    (subst (λ k. has_serial k (map under.read (pins_of (readers jobs))) ≡ true) (sym same) has)
