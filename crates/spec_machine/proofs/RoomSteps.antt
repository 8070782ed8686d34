-- Each row that is done costs no more than before, or no more than there is room for.
use Rattle.std.proofs.Common.{◌≡◌, ◌≢◌, ℕ, ◌+◌, ◌-◌, ◌≤◌, Bool, true, false, if◌then◌else◌, List, length, Option}
use Rattle.std.proofs.Common.{Some, None, refl, sym, ap, subst, ◌∙◌, ◌⊎◌, inl, inr, ⊎_elim, arith}
use Rattle.std.specs.Prelude.{◌==◌, ◌&&◌, ◌||◌, not, nat_lt, is_some, is_none, IsSome}
use Rattle.std.specs.Cmp.{nat_cmp_total}
use Rattle.std.specs.FinMap.{nat_cmp-IsAntisymmetric}
use Rattle.std.proofs.lemmas.Bool.{eqb-true}
use Rattle.std.proofs.lemmas.Bool.Decides.{nat_tests}
use Rattle.words36.specs.declared.moment.Moment.{Moment}
use Rattle.spec_image.specs.Common.{size, get, insert, empty, Directory, Place, name_cmp, version_cost}
use Rattle.spec_image.specs.Common.{directory_cost, length_after, SpecVersion, file_at, Pack, growth}
use Rattle.spec_machine.specs.Rights.{may_update}
use Rattle.spec_machine.specs.Jobs.{Channel, SpecJob, SpecInput, SpecOutput, State, is_create, all_closed, channel_at}
use Rattle.spec_machine.specs.Jobs.{job_at}
use Rattle.spec_machine.specs.Jobs.{with_job, with_channel, block_too_large}
use Rattle.spec_machine.specs.Room.{output_of, outputs, names_in, entry_count, pending_creations, booked, space}
use Rattle.spec_machine.specs.Room.{exceeds_room, room}
use Rattle.spec_machine.specs.Sound.{Exists, IsSound}
use Rattle.spec_machine.specs.Outcomes.{settled, clean, reports, stopped_in, refused_at}
use Rattle.spec_machine.specs.Open.{opens, open_answer, open_done, core_opened, channel_opened, ring_answer}
use Rattle.spec_machine.specs.Open.{sets_up}
use Rattle.spec_machine.specs.Lookup.{lookup, lookup_answer, lookup_done, looked_up, place_at, has_no_directory}
use Rattle.spec_machine.specs.Lookup.{is_absent, digit_at, with_attributes}
use Rattle.spec_machine.specs.Update.{present_cost, output_updating, input_updating}
use Rattle.spec_machine.specs.Enter.{enter_answer, enter_done, entered, begin_answer, create_answer}
use Rattle.spec_machine.specs.Enter.{supersede_answer, output_opened}
use Rattle.spec_machine.specs.Inputs.{lacks_header, reads, in_answer, in_done, useti, useti_answer, useti_done}
use Rattle.spec_machine.specs.Outputs.{Outgoing, outgoing, put_on, put_done, output_at, out_answer, out_done}
use Rattle.spec_machine.specs.Outputs.{put_answer, place_answer, finds_no_place, rise, is_before_end, longest, useto}
use Rattle.spec_machine.specs.Outputs.{useto_answer, useto_done, outgrows}
use Rattle.spec_machine.specs.declared.call.Reply.{Reply}
use Rattle.spec_machine.specs.declared.call.Reply.TheVariants.{Done, Refused, AddressCheck}
use Rattle.spec_image.proofs.Common.{size-empty, size-insert_new, sum_entries-insert_new, total_zero, some_is}
use Rattle.spec_image.proofs.Common.{found_with_directory, length-splice}
use Rattle.spec_machine.proofs.OutcomeLaws.{settled_by}
use Rattle.spec_machine.proofs.LookupLaws.{passed_test}
use Rattle.spec_machine.proofs.UndoneLaws.{put_back}
use Rattle.spec_machine.proofs.SideLaws.{all_outputs}
use Rattle.spec_machine.proofs.SoundLaws.{Goes, Known, known, GoodJob, good_channel, good_closed, goes_job}
use Rattle.spec_machine.proofs.SoundSteps.{blank, like_itself, like_put, like_at, same_moved, same_input_at}
use Rattle.spec_machine.proofs.SoundSteps.{good_like, good_looked_up, good_entered, enter_needs, create_needs}
use Rattle.spec_machine.proofs.SoundSteps.{supersede_needs, update_needs, begin_free, is_some_there}
use Rattle.spec_machine.proofs.BookingLaws.{item, sum_of, sum_channel, sum_opened, sum_closed, costs_kept}
use Rattle.spec_machine.proofs.RoomLaws.{pending, creation, directories_le, directories_grow}
use Rattle.words36.proofs.OctetReaderLaws.{is_zero}

-- no more is booked than before, or no more than there are blocks
abbrev pub Fine : Pack → State → State → Type 0
Fine pack s s' = (booked s' ≤ booked s) ⊎ (booked s' ≤ space pack)

-- what is there after an event that continues with any version was there before
pub was_there : (s s' : State) (n ch : ℕ) → ((v : SpecVersion) → Goes s s' v n ch) → (w : SpecVersion) → Exists s' w
    → Known s w
was_there s s' n ch goes w there = ⊎_elim (λ was. was)
    (λ is_zero. ⊎_elim (λ was. was) (λ one_is. let wrong : 0 ≡ 1 = ap (λ (u : SpecVersion). u.serial) (sym is_zero
    ∙ one_is) in cc) ((goes (blank 1)).versions w there))
    ((goes (blank 0)).versions w there)

-- the same files, no more pending and no more created, and no version that wasn't there
pub lighter : (s s' : State) → IsSound s → s'.files ≡ s.files → sum_of pending s' ≤ sum_of pending s
    → ((ppn : ℕ) → sum_of (creation ppn) s' ≤ sum_of (creation ppn) s)
    → ((w : SpecVersion) → Exists s' w → Known s w) → booked s' ≤ booked s
lighter s s' sound same few less was =
    let a = directories_le s s' same less in
    let b = costs_kept s s' sound was in
    omega (arith, few, a, b)

-- a job's new record, with no more pending and no more created
lighter_job : (s : State) (n ch : ℕ) (new : SpecJob) → IsSound s → ((v : SpecVersion) → GoodJob s v n ch new)
    → sum_of pending (with_job s n new) ≤ sum_of pending s
    → ((ppn : ℕ) → sum_of (creation ppn) (with_job s n new) ≤ sum_of (creation ppn) s)
    → booked (with_job s n new) ≤ booked s
lighter_job s n ch new sound good few less = lighter s (with_job s n new) sound refl few less
    (was_there s (with_job s n new) n ch (λ v. goes_job s v n ch new (good v)))

pub fits : (pack : Pack) (s : State) (more : ℕ) → exceeds_room pack s more ≡ false → booked s + more ≤ space pack
fits pack s more e = at_most (space pack) (booked s + more) e
  where
    at_most : (a b : ℕ) → nat_lt a b ≡ false → b ≤ a
    at_most a b e = grind (arith, nat_tests)

-- the same, with `more` more pending
heavier : (s s' : State) (more : ℕ) → IsSound s → s'.files ≡ s.files → sum_of pending s' ≤ sum_of pending s + more
    → ((ppn : ℕ) → sum_of (creation ppn) s' ≤ sum_of (creation ppn) s)
    → ((w : SpecVersion) → Exists s' w → Known s w) → booked s' ≤ booked s + more
heavier s s' more sound same few less was =
    let a = directories_le s s' same less in
    let b = costs_kept s s' sound was in
    omega (arith, few, a, b)

pub less_item : (a b i j : ℕ) → a + i ≡ b + j → j ≤ i → a ≤ b
less_item a b i j e h = omega (arith, e, h)

more_item : (a b i j more : ℕ) → a + i ≡ b + j → j ≤ i + more → a ≤ b + more
more_item a b i j more e h = omega (arith, e, h)

pub itself : (n : ℕ) → n ≤ n
itself n = omega arith

pub same_le : {a b : ℕ} → a ≡ b → a ≤ b
same_le {a} {b} e = omega (arith, e)

pub at_output : (f : SpecOutput → ℕ) (o : Option SpecOutput) (k : ℕ)
    → ((o : SpecOutput) → f (record o { next = k }) ≡ f o)
    → item f (output_at o k) ≡ item f o
at_output f None k h = refl
at_output f (Some o) k h = h o

abbrev pub one_if : Bool → ℕ
one_if t = if t then 1 else 0

-- Rows of a job that exists.

module _ (pack : Pack) (s : State) (sound : IsSound s) (n : ℕ) (job : SpecJob) (there : job_at s n ≡ Some job) where
  -- a channel becomes another one, with no more on its output side
  pub channel_fine : (ch : ℕ) (c : Channel) (x : Option Channel) (core : List ℕ) → channel_at job ch ≡ Some c
      → item pending (output_of x) ≤ item pending c.output
      → ((ppn : ℕ) → item (creation ppn) (output_of x) ≤ item (creation ppn) c.output)
      → ((v : SpecVersion) → GoodJob s v n ch (with_channel (record job { core = core }) ch x))
      → booked (with_job s n (with_channel (record job { core = core }) ch x)) ≤ booked s
  channel_fine ch c x core is few less good =
      lighter_job s n ch (with_channel (record job { core = core }) ch x) sound good
      (less_item _ _ _ _ (sum_channel pending s s.files n job core ch c x there is) few)
      (λ ppn. less_item _ _ _ _ (sum_channel (creation ppn) s s.files n job core ch c x there is) (less ppn))

  abbrev pub FineRow : Reply × SpecJob → Type 0
  FineRow r = r.0 ≡ Done → Fine pack s (with_job s n r.1)

  pub fine_row : (reply : Reply) (done : SpecJob) (other : Reply → SpecJob)
      → (reply ≡ Done → Fine pack s (with_job s n done))
      → FineRow (settled reply done other)
  fine_row reply done other h = settled_by (λ r. r.0 ≡ Done → Fine pack s (with_job s n r.1)) reply done other
      (λ is done. h is) (λ differs done. absurd (differs done))

  pub fine_open : (ch a : ℕ) → FineRow (opens job ch a)
  fine_open ch a = fine_row (open_answer job ch a) (open_done job ch a) (λ r. job) (λ is.
      inl (lighter_job s n ch (open_done job ch a) sound
      (λ v. good_channel s v n ch job there (core_opened job.core a) (Some (channel_opened job.core a))
      (λ o h. let wrong = h in cc) (λ w h. let wrong = h in cc))
      (sum_opened pending s n job (core_opened job.core a) ch (channel_opened job.core a) there refl)
      (λ ppn. sum_opened (creation ppn) s n job (core_opened job.core a) ch (channel_opened job.core a) there refl)))

  pub fine_ring : (ch : ℕ) (c : Channel) (header k : ℕ) → channel_at job ch ≡ Some c
      → FineRow (sets_up job ch c header k)
  fine_ring ch c header k is = fine_row (ring_answer job c header k) _ (λ r. job)
      (λ done. inl (channel_fine ch c (Some (clean c)) _ is (itself _) (λ ppn. itself _)
      (λ v. good_like s v n job there ch c (clean c) _ is (like_itself c.output) refl)))

  fine_looked : (ch : ℕ) (c : Channel) (e : ℕ) (place : Place) (found : Option SpecVersion) → channel_at job ch ≡ Some c
      → file_at s.files place ≡ found
      → booked (with_job s n (looked_up pack job ch c e place found)) ≤ booked s
  fine_looked ch c e place None is at = subst (λ t. booked t ≤ booked s) (put_back s n job there) (itself (booked s))
  fine_looked ch c e place (Some w) is at = channel_fine ch c _ _ is (itself _) (λ ppn. itself _)
      (λ v. good_looked_up s v n job there pack ch c e place (Some w) is at)

  pub fine_lookup : (ch : ℕ) (c : Channel) (e : ℕ) → channel_at job ch ≡ Some c → FineRow (lookup pack s job ch c e)
  fine_lookup ch c e is = fine_row (lookup_answer s job c e (place_at job e))
      (lookup_done pack s job ch c e (place_at job e)) (refused_at job e)
      (λ done. inl (fine_looked ch c e (place_at job e) (file_at s.files (place_at job e)) is refl))

  pub fine_in : (ch : ℕ) (c : Channel) (a : ℕ) → channel_at job ch ≡ Some c → FineRow (reads job ch c a)
  fine_in ch c a is = fine_row (in_answer job c a) (in_done job ch c a) (stopped_in job ch c)
      (λ done. inl (channel_fine ch c _ _ is (itself _) (λ ppn. itself _)
      (λ v. good_like s v n job there ch c _ _ is (like_itself c.output) (same_moved c.input _))))

  pub fine_useti : (ch : ℕ) (c : Channel) (k : ℕ) → channel_at job ch ≡ Some c → FineRow (useti job ch c k)
  fine_useti ch c k is = fine_row (useti_answer c k) (with_channel job ch (Some (useti_done c k))) (stopped_in job ch c)
      (λ done. inl (channel_fine ch c (Some (useti_done c k)) job.core is (itself _) (λ ppn. itself _)
      (λ v. good_like s v n job there ch c _ job.core is (like_itself c.output) (same_input_at c.input k))))

  pub fine_useto : (ch : ℕ) (c : Channel) (k : ℕ) → channel_at job ch ≡ Some c → FineRow (useto job ch c k)
  fine_useto ch c k is = fine_row (useto_answer c k) (with_channel job ch (Some (useto_done c k))) (stopped_in job ch c)
      (λ done. inl (channel_fine ch c (Some (useto_done c k)) job.core is
      (same_le (at_output pending c.output k (λ o. refl)))
      (λ ppn. same_le (at_output (creation ppn) c.output k (λ o. refl)))
      (λ v. good_like s v n job there ch c _ job.core is (like_at c.output k) refl)))

-- OUT.

-- what an OUT has seen if it is done
pub placed_needs : (pack : Pack) (s : State) (c : Channel) (o : SpecOutput) (words : List ℕ)
    → place_answer pack s c o words ≡ Done → finds_no_place pack s o (length words) ≡ false
placed_needs pack s c o words e = (passed_test (finds_no_place pack s o (length words)) (reports c block_too_large) Done
    (λ x. cc) e).0

pub out_needs : (pack : Pack) (s : State) (c : Channel) (output : Option SpecOutput) (found : Option Outgoing)
    → put_answer pack s c output found ≡ Done
    → (o : SpecOutput) × (output ≡ Some o) × (t : Outgoing) × (found ≡ Some t)
    × (finds_no_place pack s o (length t.words) ≡ false)
out_needs pack s c None found e = let wrong = e in cc
out_needs pack s c (Some o) None e = let a = passed_test (lacks_header c.mode c.output_header) (Refused 5) AddressCheck
    (λ x. cc) e in let wrong = a.1 in cc
out_needs pack s c (Some o) (Some t) e =
    let a = passed_test (lacks_header c.mode c.output_header) (Refused 5) (place_answer pack s c o t.words) (λ x. cc)
    e in
    (o, refl, t, refl, placed_needs pack s c o t.words a.1)

split_test : (none long full over before : Bool) → (not none && (long || full || over || before)) ≡ false
    → (none ≡ true) ⊎ (full ≡ false)
split_test true long full over before e = inl refl
split_test false true full over before e = let wrong = e in cc
split_test false false true over before e = let wrong = e in cc
split_test false false false over before e = inr refl

pub up_to : (a b : ℕ) → b ≤ a + (b - a)
up_to a b = omega arith

-- words that find a place cost no more than before, or no more than there is room for
pub put_fits : (pack : Pack) (s : State) (o : SpecOutput) (count now : ℕ) → finds_no_place pack s o count ≡ false
    → now ≤ booked s + (version_cost (length_after (length o.pending.body) o.next count) - pending o)
    → (now ≤ booked s) ⊎ (now ≤ space pack)
put_fits pack s o count now place h =
    ⊎_elim
    (λ none. inl (let same : version_cost (length_after (length o.pending.body) o.next count)
    ≡ pending o = ap (λ k. version_cost (length_after (length o.pending.body) o.next k)) (is_zero count none) in
    omega (arith, h, same)))
    (λ room. inr (let f = fits pack s (rise o count) room in omega (arith, h, f)))
    (split_test (count == 0) (nat_lt longest (length_after (length o.pending.body) o.next count))
    (exceeds_room pack s (rise o count)) (outgrows s o.place.ppn (rise o count)) (is_before_end o.kind o.next) place)

module _ (pack : Pack) (s : State) (sound : IsSound s) (n : ℕ) (job : SpecJob) (there : job_at s n
    ≡ Some job) (ch : ℕ) (c : Channel) (is : channel_at job ch ≡ Some c) where
  -- with words put on its output side
  put_heavier : (o : SpecOutput) (core words : List ℕ) → c.output ≡ Some o
      → booked (with_job s n (with_channel (record job { core = core }) ch
      (Some (record (clean c) { output = put_on c.output words }))))
      ≤ booked s + (version_cost (length_after (length o.pending.body) o.next (length words)) - pending o)
  put_heavier o core words e =
      let d : Channel = record (clean c) { output = put_on c.output words } in
      let was : item pending c.output ≡ pending o = ap (item pending) e in
      let now : item pending (put_on c.output words)
      ≡ version_cost (length_after (length o.pending.body) o.next (length words)) =
      ap (λ x. item pending (put_on x words)) e ∙ ap version_cost (length-splice o.pending.body o.next words) in
      let up = up_to (pending o) (version_cost (length_after (length o.pending.body) o.next (length words))) in
      heavier s (with_job s n (with_channel (record job { core = core }) ch (Some d))) _ sound refl
      (more_item _ _ _ _ _ (sum_channel pending s s.files n job core ch c (Some d) there is)
      (omega (arith, was, now, up)))
      (λ ppn. less_item _ _ _ _ (sum_channel (creation ppn) s s.files n job core ch c (Some d) there is)
      (same_le (ap (λ x. item (creation ppn) (put_on x words)) e ∙ sym (ap (item (creation ppn)) e))))
      (was_there s (with_job s n (with_channel (record job { core = core }) ch (Some d))) n ch
      (λ v. goes_job s v n ch (with_channel (record job { core = core }) ch (Some d))
      (good_like s v n job there ch c d core is (like_put c.output words) refl)))

  pub fine_out : (a : ℕ) → out_answer pack s job c a ≡ Done → Fine pack s (with_job s n (out_done job ch c a))
  fine_out a done =
      let needs = out_needs pack s c c.output (outgoing job c a) done in
      let o = needs.0 in
      let t = needs.2 in
      subst (λ x. Fine pack s (with_job s n (put_done job ch c x))) (sym needs.3)
      (put_fits pack s o (length t.words) (booked (with_job s n (put_done job ch c (Some t)))) needs.4
      (put_heavier o t.core t.words needs.1))

  -- ENTER.

  new_side : (e : ℕ) (moment : Moment) (place : Place) (digit : ℕ) (found : Option SpecVersion)
      → pending (output_opened job c e moment place digit None found) ≡ 1
  new_side e moment place digit None = refl
  new_side e moment place digit (Some v) = refl

  -- an update begins with the whole of its version, and creates no name
  updating_cost : (place : Place) (digit : ℕ) (w : SpecVersion) → pending (output_updating digit place w)
      ≡ version_cost (length w.file.body)
  updating_cost place digit w = decide (may_update digit) refl
    where
      decide : (b : Bool) → may_update digit ≡ b → pending (output_updating digit place w)
          ≡ version_cost (length w.file.body)
      decide true e = rw e refl
      decide false e = rw e refl

  updating_creates : (place : Place) (digit : ℕ) (w : SpecVersion) (ppn : ℕ)
      → creation ppn (output_updating digit place w) ≡ 0
  updating_creates place digit w ppn = decide (may_update digit) refl
    where
      decide : (b : Bool) → may_update digit ≡ b → creation ppn (output_updating digit place w) ≡ 0
      decide true e = rw e refl
      decide false e = rw e refl

  pub entered_sum : (f : SpecOutput → ℕ) (core : List ℕ) (input : Option SpecInput) (o : SpecOutput)
      → sum_of f (with_job s n (with_channel (record job { core = core }) ch
      (Some (record (clean c) { input = input; output = Some o })))) ≤ sum_of f s + f o
  entered_sum f core input o =
      let h = sum_channel f s s.files n job core ch c (Some (record (clean c) { input = input; output = Some o }))
      there is in
      omega (arith, h)

  other_place : (a b : ℕ) → b ≢ a → one_if (a == b) ≡ 0
  other_place a b differs = decide (a == b) refl
    where
      decide : (t : Bool) → (a == b) ≡ t → one_if t ≡ 0
      decide true e = absurd (differs (sym (eqb-true a b e)))
      decide false e = refl

  at_most_one : (t : Bool) → one_if t ≤ 1
  at_most_one true = omega arith
  at_most_one false = omega arith

  -- a channel with the side that its ENTER opens
  abbrev with_side : ℕ → Moment → Place → Option SpecInput → Option SpecVersion → SpecJob
  with_side e moment place input found =
      entered pack job ch c e (input_updating input found)
      (output_opened job c e moment place (digit_at s job place) input found)

  fine_entered : (e : ℕ) (moment : Moment) (place : Place) (input : Option SpecInput) (found : Option SpecVersion)
      → file_at s.files place ≡ found → has_no_directory s place ≡ false
      → begin_answer pack s job input place ≡ Done
      → ((v : SpecVersion) → GoodJob s v n ch (with_side e moment place input found))
      → Fine pack s (with_job s n (with_side e moment place input found))
  fine_entered e moment place None None at housed done good =
      let o = output_opened job c e moment place (digit_at s job place) None None in
      let new = with_side e moment place None None in
      let core = with_attributes pack.layout job.core e o.pending in
      let d = some_is (get s.files place.ppn) (is_some_there (get s.files place.ppn) housed) in
      let dirs = directories_grow s (with_job s n new) refl place.ppn d.0 d.1
      (let h = entered_sum (creation place.ppn) core None o in let m = at_most_one (place.ppn == place.ppn) in
      omega (arith, h, m))
      (λ ppn differs. let h = entered_sum (creation ppn) core None o in let z = other_place place.ppn ppn differs in
      omega (arith, h, z)) in
      let costs = costs_kept s (with_job s n new) sound
      (was_there s (with_job s n new) n ch (λ v. goes_job s v n ch new (good v))) in
      let pend = entered_sum pending core None o in
      let one = new_side e moment place (digit_at s job place) None in
      let created = created_only (is_absent s place) (ap is_none at) done in
      let room = fits pack s _ (create_needs pack s job place created).1 in
      let count : entry_count s place.ppn
      ≡ size d.0.files + pending_creations s place.ppn = ap (λ q. names_in q + pending_creations s place.ppn) d.1 in
      let grow : growth (entry_count s place.ppn)
      ≡ growth (size d.0.files + pending_creations s place.ppn) = ap growth count in
      inr (omega (arith, dirs, costs, pend, one, room, grow))
    where
      created_only : (absent : Bool) → absent ≡ true
          → (if absent then create_answer pack s job place else supersede_answer pack s job place) ≡ Done
          → create_answer pack s job place ≡ Done
      created_only true e h = h
      created_only false e h = let wrong = e in cc
  fine_entered e moment place None (Some w) at housed done good =
      let o = output_opened job c e moment place (digit_at s job place) None (Some w) in
      let new = with_side e moment place None (Some w) in
      let core = with_attributes pack.layout job.core e o.pending in
      let h = heavier s (with_job s n new) 1 sound refl (let p = entered_sum pending core None o in
      let one = new_side e moment place (digit_at s job place) (Some w) in omega (arith, p, one))
      (λ ppn. let q = entered_sum (creation ppn) core None o in omega (arith, q))
      (was_there s (with_job s n new) n ch (λ v. goes_job s v n ch new (good v))) in
      let old = superseded_only (is_absent s place) (ap is_none at) done in
      let room = fits pack s 1 (supersede_needs pack s job place old).1 in
      inr (omega (arith, h, room))
    where
      superseded_only : (absent : Bool) → absent ≡ false
          → (if absent then create_answer pack s job place else supersede_answer pack s job place) ≡ Done
          → supersede_answer pack s job place ≡ Done
      superseded_only false e h = h
      superseded_only true e h = let wrong = e in cc
  fine_entered e moment place (Some i) None at housed done good = let wrong = sym (update_needs pack s job place done).0
      ∙ ap is_none at in cc
  fine_entered e moment place (Some i) (Some w) at housed done good =
      let o = output_updating (digit_at s job place) place w in
      let new = with_side e moment place (Some i) (Some w) in
      let core = with_attributes pack.layout job.core e o.pending in
      let h = heavier s (with_job s n new) (version_cost (length w.file.body)) sound refl
      (let p = entered_sum pending core (Some (record i { version = w })) o in
      let cost = updating_cost place (digit_at s job place) w in omega (arith, p, cost))
      (λ ppn. let q = entered_sum (creation ppn) core (Some (record i { version = w })) o in
      let z = updating_creates place (digit_at s job place) w ppn in omega (arith, q, z))
      (was_there s (with_job s n new) n ch (λ v. goes_job s v n ch new (good v))) in
      let room = fits pack s (present_cost (file_at s.files place)) (update_needs pack s job place done).2 in
      let cost : present_cost (file_at s.files place) ≡ version_cost (length w.file.body) = ap present_cost at in
      inr (omega (arith, h, room, cost))

  pub fine_enter : (e : ℕ) (moment : Moment) → enter_answer pack s job c e (place_at job e) ≡ Done
      → Fine pack s (with_job s n (enter_done pack s job ch c e moment (place_at job e)))
  fine_enter e moment done =
      let needs = enter_needs pack s job c e (place_at job e) done in
      fine_entered e moment (place_at job e) c.input (file_at s.files (place_at job e)) refl needs.0 needs.1
      (λ v. good_entered s v n job there pack ch c e moment (place_at job e) is
      (begin_free pack s job c.input (place_at job e) needs.1) needs.0)

-- All channels of a job closed.

pub fine_closed : (s : State) (n ppn : ℕ) (core : List ℕ) → IsSound s
    → booked (with_job s n (record { ppn = ppn; core = core; channels = all_closed })) ≤ booked s
fine_closed s n ppn core sound =
    lighter_job s n 0 (record { ppn = ppn; core = core; channels = all_closed }) sound
    (λ v. good_closed s v n 0 ppn core) (sum_closed pending s n ppn core)
    (λ ppn'. sum_closed (creation ppn') s n ppn core)

-- MakeDir.

module _ (pack : Pack) (s : State) (sound : IsSound s) (owner protection : ℕ) (none : get s.files owner ≡ None) where
  not_there : (o : SpecOutput) → IsSome (get s.files o.place.ppn) → creation owner o ≡ 0
  not_there o there = decide (o.place.ppn == owner) refl
    where
      no_creation : (create : Bool) → one_if (create && false) ≡ 0
      no_creation true = refl
      no_creation false = refl

      decide : (b : Bool) → (o.place.ppn == owner) ≡ b → creation owner o ≡ 0
      decide true e =
          let there' = subst (λ q. IsSome (get s.files q)) (eqb-true o.place.ppn owner e) there in
          let wrong = sym there' ∙ ap is_some none in cc
      decide false e = rw e (no_creation (is_create o.kind))

  no_creations : pending_creations s owner ≡ 0
  no_creations = total_zero (creation owner) (outputs s)
      (all_outputs s (λ o. creation owner o ≡ 0) (λ m k o h. not_there o (sound.housed m k o h)))

  pub made_fine : exceeds_room pack s (1 + growth (size s.files)) ≡ false
      → booked
      (record s { files = insert s.files owner (record { protection = protection; quota = 0; files = empty }) })
      ≤ space pack
  made_fine room =
      let new : Directory SpecVersion = record { protection = protection; quota = 0; files = empty } in
      let s' : State = record s { files = insert s.files owner new } in
      let a = sum_entries-insert_new nat_cmp_total nat_cmp-IsAntisymmetric
      (λ ppn d. directory_cost (size d.files + pending_creations s ppn)) s.files owner new none in
      let b = size-insert_new nat_cmp_total nat_cmp-IsAntisymmetric s.files owner new none in
      let z = size-empty name_cmp SpecVersion in
      let one : directory_cost (size new.files + pending_creations s owner)
      ≡ 1 = ap directory_cost (ap (λ k. k + pending_creations s owner) z ∙ ap (λ k. 0 + k) no_creations) in
      let master : directory_cost (size (insert s.files owner new))
      ≡ directory_cost (size s.files + 1) = ap directory_cost b in
      let costs = costs_kept s s' sound (λ w h.
      known s w (⊎_elim (λ at. inl (at.0, found_with_directory s.files owner protection 0 none at.0 w at.1))
      (λ held. inr held) h)) in
      let up = up_to (directory_cost (size s.files)) (directory_cost (size s.files + 1)) in
      let f = fits pack s (1 + growth (size s.files)) room in
      omega (arith, a, one, master, costs, up, f)
