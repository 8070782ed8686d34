-- Each row leads to a sound state.
use Rattle.std.proofs.Common.{◌≡◌, ℕ, Bool, true, false, if◌then◌else◌, List, Option, Some, None, refl, sym, ap}
use Rattle.std.proofs.Common.{subst, ◌∙◌, ◌⊎◌, inl, inr, ⊎_elim}
use Rattle.std.specs.Prelude.{◌+◌, ◌==◌, ◌||◌, not, is_some, is_none, option_map, [], IsSome}
use Rattle.words36.specs.Common.{left, right}
use Rattle.words36.specs.declared.moment.Moment.{Moment}
use Rattle.spec_image.specs.Common.{get, size, Place, SpecVersion, file_at, Pack, growth}
use Rattle.spec_machine.specs.Rights.{may_create, may_look, may_append, may_update, may_supersede}
use Rattle.spec_machine.specs.Cores.{lies_outside}
use Rattle.spec_machine.specs.Jobs.{Channel, SpecJob, SpecInput, SpecOutput, State, is_create, channel_at, job_at}
use Rattle.spec_machine.specs.Jobs.{with_channel}
use Rattle.spec_machine.specs.Room.{output_of, version_of, is_claimed, entry_count, exceeds_room, has_no_room}
use Rattle.spec_machine.specs.Charges.{exceeds_left, exceeds_limits}
use Rattle.spec_machine.specs.Outcomes.{settled, clean, stopped_in, refused_at}
use Rattle.spec_machine.specs.Open.{opens, open_answer, open_done, ring_answer, sets_up}
use Rattle.spec_machine.specs.Lookup.{lookup, lookup_answer, lookup_done, looked_up, place_at, has_no_directory}
use Rattle.spec_machine.specs.Lookup.{is_absent, directory_digit_at, digit_at}
use Rattle.spec_machine.specs.Update.{is_elsewhere, present_cost, update_answer, output_updating, input_updating}
use Rattle.spec_machine.specs.Enter.{enter, enter_answer, enter_done, begin_answer, create_answer}
use Rattle.spec_machine.specs.Enter.{supersede_answer, output_opened}
use Rattle.spec_machine.specs.Inputs.{moved_on, input_at}
use Rattle.spec_machine.specs.Outputs.{Outgoing, outgoing, put_on, put_done, output_at, out_answer, out_done, puts}
use Rattle.spec_machine.specs.Close.{published}
use Rattle.spec_machine.specs.MakeDir.{make_answer, is_stranger}
use Rattle.spec_machine.specs.Sound.{output_for, version_for, Exists}
use Rattle.spec_machine.specs.declared.call.Reply.{Reply}
use Rattle.spec_machine.specs.declared.call.Reply.TheVariants.{Done, Refused, AddressCheck}
use Rattle.spec_image.proofs.Common.{some_same}
use Rattle.spec_machine.proofs.OutcomeLaws.{settled_by, stopped_by, refused_by}
use Rattle.spec_machine.proofs.LookupLaws.{passed_test, is_none_of}
use Rattle.spec_machine.proofs.SideLaws.{or_false}
use Rattle.spec_machine.proofs.SoundLaws.{GoodJob, good_self, good_channel}

-- What ENTER and MakeDir have seen if they are done.

pub enter_needs : (pack : Pack) (s : State) (job : SpecJob) (c : Channel) (e : ℕ) (place : Place)
    → enter_answer pack s job c e place ≡ Done
    → (has_no_directory s place ≡ false) × (begin_answer pack s job c.input place ≡ Done)
enter_needs pack s job c e place done =
    let a = passed_test (lies_outside job.core e 4) AddressCheck _ (λ x. cc) done in
    let b = passed_test (is_some c.output || is_elsewhere c.input place) (Refused 5) _ (λ x. cc) a.1 in
    let d = passed_test (has_no_directory s place) (Refused 1) _ (λ x. cc) b.1 in
    let f = passed_test (place.name.name == 0) (Refused 0) _ (λ x. cc) d.1 in
    (d.0, f.1)

pub create_needs : (pack : Pack) (s : State) (job : SpecJob) (place : Place) → create_answer pack s job place ≡ Done
    → (is_claimed s place ≡ false) × (exceeds_room pack s (1 + growth (entry_count s place.ppn)) ≡ false)
    × (exceeds_left s place.ppn (1 + growth (entry_count s place.ppn)) ≡ false)
create_needs pack s job place h =
    let a = passed_test (not (may_create (directory_digit_at s job place))) (Refused 2) _ (λ x. cc) h in
    let b = passed_test (is_claimed s place) (Refused 3) _ (λ x. cc) a.1 in
    let d = passed_test (exceeds_limits pack s place.ppn (1 + growth (entry_count s place.ppn))) (Refused 0o14) _
    (λ x. cc)
    b.1 in
    let both = or_false (exceeds_room pack s (1 + growth (entry_count s place.ppn))) _ d.0 in
    (b.0, both.0, both.1)

pub supersede_needs : (pack : Pack) (s : State) (job : SpecJob) (place : Place)
    → supersede_answer pack s job place ≡ Done
    → (is_claimed s place ≡ false) × (has_no_room pack s ≡ false) × (exceeds_left s place.ppn 1 ≡ false)
supersede_needs pack s job place h =
    let a = passed_test (not (may_look (directory_digit_at s job place)) || not (may_supersede (digit_at s job place)))
    (Refused 2) _ (λ x. cc) h in
    let b = passed_test (is_claimed s place) (Refused 3) _ (λ x. cc) a.1 in
    let d = passed_test (exceeds_limits pack s place.ppn 1) (Refused 0o14) _ (λ x. cc) b.1 in
    let both = or_false (has_no_room pack s) _ d.0 in
    (b.0, both.0, both.1)

pub update_needs : (pack : Pack) (s : State) (job : SpecJob) (place : Place) → update_answer pack s job place ≡ Done
    → (is_absent s place ≡ false) × (is_claimed s place ≡ false)
    × (exceeds_room pack s (present_cost (file_at s.files place)) ≡ false)
    × (exceeds_left s place.ppn (present_cost (file_at s.files place)) ≡ false)
update_needs pack s job place h =
    let n = passed_test (is_absent s place) (Refused 0) _ (λ x. cc) h in
    let a = passed_test (not (may_look (directory_digit_at s job place)) || not (may_append (digit_at s job place)))
    (Refused 2) _ (λ x. cc) n.1 in
    let b = passed_test (is_claimed s place) (Refused 3) _ (λ x. cc) a.1 in
    let d = passed_test (exceeds_limits pack s place.ppn (present_cost (file_at s.files place))) (Refused 0o14) _
    (λ x. cc)
    b.1 in
    let both = or_false (exceeds_room pack s (present_cost (file_at s.files place))) _ d.0 in
    (n.0, b.0, both.0, both.1)

pub by_presence : (absent : Bool) (new old : Reply) → (if absent then new else old) ≡ Done
    → ((absent ≡ true) × (new ≡ Done)) ⊎ ((absent ≡ false) × (old ≡ Done))
by_presence true new old h = inl (refl, h)
by_presence false new old h = inr (refl, h)

pub begin_free : (pack : Pack) (s : State) (job : SpecJob) (input : Option SpecInput) (place : Place)
    → begin_answer pack s job input place ≡ Done → is_claimed s place ≡ false
begin_free pack s job None place h = ⊎_elim
    (λ new. (create_needs pack s job place new.1).0)
    (λ old. (supersede_needs pack s job place old.1).0)
    (by_presence (is_absent s place) (create_answer pack s job place) (supersede_answer pack s job place) h)
begin_free pack s job (Some i) place h = (update_needs pack s job place h).1

pub make_needs : (pack : Pack) (s : State) (job : SpecJob) (e owner : ℕ) → make_answer pack s job e owner ≡ Done
    → (get s.files owner ≡ None) × (exceeds_room pack s (1 + growth (size s.files)) ≡ false)
make_needs pack s job e owner done =
    let a = passed_test (lies_outside job.core e 2) AddressCheck _ (λ x. cc) done in
    let b = passed_test ((left owner == 0) || (right owner == 0)) (Refused 1) _ (λ x. cc) a.1 in
    let d = passed_test (is_stranger job owner) (Refused 2) _ (λ x. cc) b.1 in
    let f = passed_test (is_some (get s.files owner)) (Refused 4) _ (λ x. cc) d.1 in
    let g = passed_test (exceeds_room pack s (1 + growth (size s.files))) (Refused 0o14) _ (λ x. cc) f.1 in
    (is_none_of (get s.files owner) f.0, g.0)

-- A version of a serial, of which nothing else is known.

abbrev pub blank : ℕ → SpecVersion
blank serial = record { file = record { protection = 0; mode = 0; time = 0; date = 0; body = [] }; serial = serial }

-- the version that an output side would publish
abbrev pub would_be : ℕ → Option SpecOutput → SpecVersion
would_be serial None = blank serial
would_be serial (Some o) = published serial o

pub is_some_there : {X : Type 0} (o : Option X) → is_none o ≡ false → IsSome o
is_some_there None e = let wrong = e in cc
is_some_there (Some x) e = refl

-- Rows of a channel that is open.

abbrev pub Like : Option SpecOutput → Option SpecOutput → Type 0
Like was is = (p : SpecOutput) → is ≡ Some p → (o : SpecOutput) × (was ≡ Some o) × (p.place ≡ o.place)
    × (p.kind ≡ o.kind)

pub like_itself : (o : Option SpecOutput) → Like o o
like_itself o p h = (p, h, refl, refl)

pub like_put : (o : Option SpecOutput) (words : List ℕ) → Like o (put_on o words)
like_put None words p h = let wrong = h in cc
like_put (Some o) words p h = (
  o,
  refl,
  ap (λ (x : SpecOutput). x.place) (sym (some_same h)),
  ap (λ (x : SpecOutput). x.kind) (sym (some_same h)),
)

pub like_at : (o : Option SpecOutput) (n : ℕ) → Like o (output_at o n)
like_at None n p h = let wrong = h in cc
like_at (Some o) n p h = (
  o,
  refl,
  ap (λ (x : SpecOutput). x.place) (sym (some_same h)),
  ap (λ (x : SpecOutput). x.kind) (sym (some_same h)),
)

pub same_moved : (i : Option SpecInput) (k : ℕ) → option_map (λ i. i.version) (moved_on i k) ≡ option_map
    (λ i. i.version) i
same_moved None k = refl
same_moved (Some i) k = refl

pub same_input_at : (i : Option SpecInput) (k : ℕ) → option_map (λ i. i.version) (input_at i k)
    ≡ option_map (λ i. i.version) i
same_input_at None k = refl
same_input_at (Some i) k = refl

module _ (s : State) (v : SpecVersion) (n : ℕ) (job : SpecJob) (there : job_at s n ≡ Some job) where
  -- a channel that was open, with the sides that it had
  pub good_like : (ch : ℕ) (c d : Channel) (core : List ℕ) → channel_at job ch ≡ Some c → Like c.output d.output
      → version_of (Some d) ≡ version_of (Some c)
      → GoodJob s v n ch (with_channel (record job { core = core }) ch (Some d))
  good_like ch c d core e like same =
      good_channel s v n ch job there core (Some d)
      (λ p h. let o = like p h in inl (o.0, ap (output_for ch) there ∙ ap output_of e ∙ o.1, o.2, o.3))
      (λ w h. inl (inr (n, ch, ap (version_for ch) there ∙ ap version_of e ∙ sym same ∙ h)))

  pub good_stopped : (ch : ℕ) (c : Channel) (r : Reply) → channel_at job ch ≡ Some c
      → GoodJob s v n ch (stopped_in job ch c r)
  good_stopped ch c r e =
      stopped_by (GoodJob s v n ch) job ch c r (good_self s v n ch job there job.core)
      (λ status. good_like ch c (record c { status = status }) job.core e (like_itself c.output) refl)

  pub good_refused : (ch e : ℕ) (r : Reply) → GoodJob s v n ch (refused_at job e r)
  good_refused ch e r = refused_by (GoodJob s v n ch) job e r (λ core. good_self s v n ch job there core)

  -- a row that ends with the same sides, or stops
  pub good_row : (ch : ℕ) (c d : Channel) (core : List ℕ) (r : Reply) → channel_at job ch ≡ Some c
      → Like c.output d.output → version_of (Some d) ≡ version_of (Some c)
      → GoodJob s v n ch (settled r (with_channel (record job { core = core }) ch (Some d)) (stopped_in job ch c)).1
  good_row ch c d core r e like same =
      settled_by (λ x. GoodJob s v n ch x.1) r (with_channel (record job { core = core }) ch (Some d))
      (stopped_in job ch c)
      (λ is. good_like ch c d core e like same) (λ differs. good_stopped ch c r e)

  pub good_open : (ch a : ℕ) → GoodJob s v n ch (opens job ch a).1
  good_open ch a =
      settled_by (λ x. GoodJob s v n ch x.1) (open_answer job ch a) (open_done job ch a) (λ r. job)
      (λ is. good_channel s v n ch job there _ _ (λ o h. let wrong = h in cc) (λ w h. let wrong = h in cc))
      (λ differs. good_self s v n ch job there job.core)

  pub good_ring : (ch : ℕ) (c : Channel) (header k : ℕ) → channel_at job ch ≡ Some c
      → GoodJob s v n ch (sets_up job ch c header k).1
  good_ring ch c header k is =
      settled_by (λ x. GoodJob s v n ch x.1) (ring_answer job c header k) _ (λ r. job)
      (λ done. good_like ch c (clean c) _ is (like_itself c.output) refl)
      (λ differs. good_self s v n ch job there job.core)

  pub good_put : (ch : ℕ) (c : Channel) (found : Option Outgoing) → channel_at job ch ≡ Some c
      → GoodJob s v n ch (put_done job ch c found)
  good_put ch c None is = good_self s v n ch job there job.core
  good_put ch c (Some found) is = good_like ch c _ found.core is (like_put c.output found.words) refl

  pub good_out : (pack : Pack) (ch : ℕ) (c : Channel) (a : ℕ) → channel_at job ch ≡ Some c
      → GoodJob s v n ch (puts pack s job ch c a).1
  good_out pack ch c a is =
      settled_by (λ x. GoodJob s v n ch x.1) (out_answer pack s job c a) (out_done job ch c a) (stopped_in job ch c)
      (λ done. good_put ch c (outgoing job c a) is) (λ differs. good_stopped ch c _ is)

  pub good_looked_up : (pack : Pack) (ch : ℕ) (c : Channel) (e : ℕ) (place : Place) (found : Option SpecVersion)
      → channel_at job ch ≡ Some c → file_at s.files place ≡ found
      → GoodJob s v n ch (looked_up pack job ch c e place found)
  good_looked_up pack ch c e place None is at = good_self s v n ch job there job.core
  good_looked_up pack ch c e place (Some w) is at =
      good_channel s v n ch job there _ _
      (λ o h. inl (o, ap (output_for ch) there ∙ ap output_of is ∙ h, refl, refl))
      (λ u h. inl (inl (place, at ∙ h)))

  pub good_lookup : (pack : Pack) (ch : ℕ) (c : Channel) (e : ℕ) → channel_at job ch ≡ Some c
      → GoodJob s v n ch (lookup pack s job ch c e).1
  good_lookup pack ch c e is =
      settled_by (λ x. GoodJob s v n ch x.1) (lookup_answer s job c e (place_at job e))
      (lookup_done pack s job ch c e (place_at job e)) (refused_at job e)
      (λ done. good_looked_up pack ch c e (place_at job e) (file_at s.files (place_at job e)) is refl)
      (λ differs. good_refused ch e _)

  -- the side that an ENTER opens
  updating_side : (place : Place) (digit : ℕ) (w : SpecVersion) (b : Bool) → may_update digit ≡ b
      → (output_updating digit place w).place ≡ place
  updating_side place digit w true e = rw e refl
  updating_side place digit w false e = rw e refl

  opened_side : (c : Channel) (e : ℕ) (moment : Moment) (place : Place) (digit : ℕ) (input : Option SpecInput)
      (found : Option SpecVersion) → file_at s.files place ≡ found
      → ((output_opened job c e moment place digit input found).place ≡ place)
      × (is_create (output_opened job c e moment place digit input found).kind ≡ false → IsSome (file_at s.files place))
  opened_side c e moment place digit input None at = (refl, λ h. let wrong = h in cc)
  opened_side c e moment place digit None (Some w) at = (refl, λ h. ap is_some at)
  opened_side c e moment place digit (Some i) (Some w) at = (
    updating_side place digit w (may_update digit) refl,
    λ h. ap is_some at,
  )

  -- the version that its input side pins
  held_updated : (place : Place) (input : Option SpecInput) (found : Option SpecVersion) → file_at s.files place ≡ found
      → ((w : SpecVersion) → option_map (λ i. i.version) input ≡ Some w → Exists s w)
      → (w : SpecVersion) → option_map (λ i. i.version) (input_updating input found) ≡ Some w → Exists s w
  held_updated place None found at was w h = let wrong = h in cc
  held_updated place (Some i) None at was w h = was w h
  held_updated place (Some i) (Some x) at was w h = inl (place, at ∙ h)

  pub good_entered : (pack : Pack) (ch : ℕ) (c : Channel) (e : ℕ) (moment : Moment) (place : Place)
      → channel_at job ch ≡ Some c → is_claimed s place ≡ false → has_no_directory s place ≡ false
      → GoodJob s v n ch (enter_done pack s job ch c e moment place)
  good_entered pack ch c e moment place is free housed =
      let side = opened_side c e moment place (digit_at s job place) c.input (file_at s.files place) refl in
      let new = output_opened job c e moment place (digit_at s job place) c.input (file_at s.files place) in
      good_channel s v n ch job there _ _
      (λ o h. let same : new ≡ o = some_same h in
      let at : o.place ≡ place = ap (λ (x : SpecOutput). x.place) (sym same) ∙ side.0 in
      inr (
        refl,
        refl,
        ap (is_claimed s) at ∙ free,
        λ f. subst (λ q. IsSome (file_at s.files q)) (sym at)
            (side.1 (ap (λ (x : SpecOutput). is_create x.kind) same ∙ f)),
        subst (λ (q : Place). IsSome (get s.files q.ppn)) (sym at) (is_some_there (get s.files place.ppn) housed),
      ))
      (λ w h. inl (held_updated place c.input (file_at s.files place) refl
      (λ w h. inr (n, ch, ap (version_for ch) there ∙ ap version_of is ∙ h)) w h))

  pub good_enter : (pack : Pack) (ch : ℕ) (c : Channel) (e : ℕ) (moment : Moment) → channel_at job ch ≡ Some c
      → GoodJob s v n ch (enter pack s job ch c e moment).1
  good_enter pack ch c e moment is =
      settled_by (λ x. GoodJob s v n ch x.1) (enter_answer pack s job c e (place_at job e))
      (enter_done pack s job ch c e moment (place_at job e)) (refused_at job e)
      (λ done. let needs = enter_needs pack s job c e (place_at job e) done in
      good_entered pack ch c e moment (place_at job e) is (begin_free pack s job c.input (place_at job e) needs.1)
      needs.0)
      (λ differs. good_refused ch e _)
