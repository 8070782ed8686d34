-- A state after an ENTER: what is written under a new key.
use Rattle.std.proofs.Common.{◌≡◌, ◌≢◌, ℕ, Bool, true, false, List, [], ◌∷◌, map, Option, None, Some, refl, ap, subst}
use Rattle.std.proofs.Common.{arith}
use Rattle.std.specs.Prelude.{◌==◌, if◌then◌else◌, option_map, option_to_list, filter_map}
use Rattle.std.proofs.lemmas.Bool.{eqb-true, eq-eqb}
use Rattle.spec_image.specs.Common.{times}
use Rattle.spec_image.proofs.Common.{times_head}
use Rattle.monitor.specs.Common.{Writing, UnderKeys, side_of, sides_in, sides, keys_of, output_of, channel_of, job_of}
use Rattle.monitor.specs.Common.{jobs_of}
use Rattle.monitor.specs.declared.channel.OpenChannel.{OpenChannel}
use Rattle.monitor.specs.declared.output.Output.{Output}
use Rattle.monitor.specs.declared.job.Job.{Job}
use Rattle.monitor.proofs.common.SideLists.{count, count-append, count-cons_option}
use Rattle.spec_machine.specs.Jobs as machine

-- other things are written under one key
abbrev pub with_writing : UnderKeys → ℕ → Writing → UnderKeys
with_writing w key x = record w { written = λ k. if k == key then x else w.written k }

pub with_same : (w : UnderKeys) (key : ℕ) (x : Writing) → (with_writing w key x).written key ≡ x
with_same w key x = ap (λ b. if b then x else w.written key) (eq-eqb key key refl)

apart_test : (k key : ℕ) → k ≢ key → (k == key) ≡ false
apart_test k key apart = by (k == key) refl
  where
    by : (b : Bool) → (k == key) ≡ b → b ≡ false
    by true e = absurd (apart (eqb-true k key e))
    by false e = refl

pub with_other : (w : UnderKeys) (key : ℕ) (x : Writing) (k : ℕ) → k ≢ key
    → (with_writing w key x).written k ≡ w.written k
with_other w key x k apart = ap (λ b. if b then x else w.written k) (apart_test k key apart)

-- Jobs that don't write under it are the same.
module _ (w : UnderKeys) (key : ℕ) (x : Writing) where
  output_same : (o : Output) (os : List Output) → count key (o ∷ os) ≡ 0
      → output_of (with_writing w key x) o ≡ output_of w o
  output_same o os none =
      let other = with_other w key x o.pending.key (λ same. let head = times_head key (keys_of os) in
      let at = subst (λ (k : ℕ). times key (k ∷ keys_of os) ≡ 0) same none in absurd (omega arith)) in
      ap (λ (v : Writing). output_at o v) other
    where
      output_at : Output → Writing → machine.SpecOutput
      output_at o v = record { place = v.place; kind = (output_of w o).kind; pending = v.file; next = o.next }

  side_same : (o : Option Output) → count key (option_to_list o) ≡ 0
      → option_map (output_of (with_writing w key x)) o ≡ option_map (output_of w) o
  side_same None none = refl
  side_same (Some o) none = ap Some (output_same o [] none)

  channels_same : (cs : List (Option OpenChannel)) → count key (filter_map side_of cs) ≡ 0
      → map (option_map (channel_of (with_writing w key x))) cs ≡ map (option_map (channel_of w)) cs
  channels_same [] none = refl
  channels_same (None ∷ cs) none = ap (λ ds. None ∷ ds) (channels_same cs none)
  channels_same (Some c ∷ cs) none =
      let parts = count-cons_option key c.output (filter_map side_of cs) in
      let here = side_same c.output (omega arith) in
      let rest = channels_same cs (omega arith) in
      λ i. Some (record (channel_of w c) { output = here i }) ∷ rest i

  job_same : (o : Option Job) → count key (sides_in o) ≡ 0 → option_map (job_of (with_writing w key x)) o
      ≡ option_map (job_of w) o
  job_same None none = refl
  job_same (Some job) none = let cs = channels_same job.channels none in
      λ i. Some (record (job_of w job) { channels = cs i })

  pub jobs_same : (jobs : List (Option Job)) → count key (sides jobs) ≡ 0
      → jobs_of (with_writing w key x) jobs ≡ jobs_of w jobs
  jobs_same [] none = refl
  jobs_same (j ∷ jobs) none =
      let parts = count-append key (sides_in j) (sides jobs) in
      let here = job_same j (omega arith) in
      let rest = jobs_same jobs (omega arith) in
      λ i. here i ∷ rest i
