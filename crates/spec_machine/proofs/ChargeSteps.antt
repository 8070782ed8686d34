-- Each row that is done charges a directory with no more than before, or with no more than its quota.
use Rattle.std.proofs.Common.{◌≡◌, ℕ, ◌+◌, ◌-◌, ◌≤◌, Bool, true, false, if◌then◌else◌, List, length, Option, Some}
use Rattle.std.proofs.Common.{None, refl, sym, ap, subst, ◌∙◌, ◌⊎◌, inl, inr, ⊎_elim, arith}
use Rattle.std.specs.Prelude.{◌==◌, ◌&&◌, ◌||◌, not, nat_lt, is_none}
use Rattle.std.proofs.lemmas.Bool.{eqb-true}
use Rattle.std.proofs.lemmas.Bool.Decides.{nat_tests}
use Rattle.words36.specs.declared.moment.Moment.{Moment}
use Rattle.spec_image.specs.Common.{size, get, total, Directory, Place, version_cost, directory_cost, length_after}
use Rattle.spec_image.specs.Common.{SpecVersion, file_at, Pack, growth}
use Rattle.spec_machine.specs.Rights.{may_update}
use Rattle.spec_machine.specs.Jobs.{Channel, SpecJob, SpecInput, SpecOutput, State, is_create, all_closed, channel_at}
use Rattle.spec_machine.specs.Jobs.{job_at}
use Rattle.spec_machine.specs.Jobs.{with_job, with_channel}
use Rattle.spec_machine.specs.Room.{output_of, outputs_of, names_in, entry_count, pending_creations, exceeds_room}
use Rattle.spec_machine.specs.Charges.{charge, charge_in, pending_cost_in, quota_of, is_limited, exceeds_left}
use Rattle.spec_machine.specs.Sound.{IsSound}
use Rattle.spec_machine.specs.Outcomes.{settled, clean, stopped_in, refused_at}
use Rattle.spec_machine.specs.Open.{opens, open_answer, open_done, core_opened, channel_opened, ring_answer}
use Rattle.spec_machine.specs.Open.{sets_up}
use Rattle.spec_machine.specs.Lookup.{lookup, lookup_answer, lookup_done, looked_up, place_at, is_absent, digit_at}
use Rattle.spec_machine.specs.Lookup.{with_attributes}
use Rattle.spec_machine.specs.Update.{present_cost, output_updating, input_updating}
use Rattle.spec_machine.specs.Enter.{enter_answer, enter_done, entered, begin_answer, create_answer}
use Rattle.spec_machine.specs.Enter.{supersede_answer, output_opened}
use Rattle.spec_machine.specs.Inputs.{reads, in_answer, in_done, useti, useti_answer, useti_done}
use Rattle.spec_machine.specs.Outputs.{put_on, put_done, out_answer, out_done, outgoing, finds_no_place, rise}
use Rattle.spec_machine.specs.Outputs.{is_before_end, longest, useto, useto_answer, useto_done, outgrows}
use Rattle.spec_machine.specs.declared.call.Reply.{Reply}
use Rattle.spec_machine.specs.declared.call.Reply.TheVariants.{Done}
use Rattle.spec_machine.proofs.OutcomeLaws.{settled_by}
use Rattle.spec_image.proofs.Common.{length-splice}
use Rattle.spec_machine.proofs.SlotLaws.{flat_map-set}
use Rattle.spec_machine.proofs.UndoneLaws.{put_back, SameSides}
use Rattle.spec_machine.proofs.SoundSteps.{enter_needs, create_needs, supersede_needs, update_needs}
use Rattle.spec_machine.proofs.BookingLaws.{item, sum_of, sum_channel, sum_opened, sum_closed}
use Rattle.spec_machine.proofs.RoomLaws.{creation, directory_cost_le}
use Rattle.spec_machine.proofs.RoomSteps.{itself, same_le, less_item, at_output, one_if, out_needs, entered_sum}
use Rattle.words36.proofs.OctetReaderLaws.{is_zero}

-- what an output side charges a directory with
abbrev pub pending_in : ℕ → SpecOutput → ℕ
pending_in p o = if o.place.ppn == p then version_cost (length o.pending.body) else 0

charge_in_le : (d : Option (Directory SpecVersion)) (a b : ℕ) → a ≤ b → charge_in d a ≤ charge_in d b
charge_in_le None a b h = omega arith
charge_in_le (Some d) a b h = let m = directory_cost_le (size d.files + a) (size d.files + b) (omega (arith, h)) in
    omega (arith, m)

charge_in_more : (d : Option (Directory SpecVersion)) (a b : ℕ) → b ≤ a + 1
    → charge_in d b ≤ charge_in d a + growth (names_in d + a)
charge_in_more None a b h = omega arith
charge_in_more (Some d) a b h = let m = grows (size d.files) a b h in omega (arith, m)
  where
    grows : (n a b : ℕ) → b ≤ a + 1 → directory_cost (n + b) ≤ directory_cost (n + a) + growth (n + a)
    grows n a b h = omega (arith, h)

no_creation : (create here : Bool) → here ≡ false → one_if (create && here) ≡ 0
no_creation true here e = ap one_if e
no_creation false here e = refl

at_most_one : (create here : Bool) → one_if (create && here) ≤ 1
at_most_one true true = omega arith
at_most_one true false = omega arith
at_most_one false here = omega arith

same_or_more : (here : Bool) (old new : ℕ) → (if here then new else 0)
    ≤ (if here then old else 0) + (if here then new - old else 0)
same_or_more true old new = omega arith
same_or_more false old new = omega arith

split_left : (none long full over before : Bool) → (not none && (long || full || over || before)) ≡ false
    → (none ≡ true) ⊎ (over ≡ false)
split_left true long full over before e = inl refl
split_left false true full over before e = let wrong = e in cc
split_left false false true over before e = let wrong = e in cc
split_left false false false true before e = let wrong = e in cc
split_left false false false false before e = inr refl

split_outgrows : (none over : Bool) → (not none && over) ≡ false → (none ≡ true) ⊎ (over ≡ false)
split_outgrows true over e = inl refl
split_outgrows false over e = inr e

module _ (s : State) (p : ℕ) where
  -- the directory is unchanged, and what is pending in it costs `more` more
  pub heavier_in : (s' : State) (more : ℕ) → get s'.files p ≡ get s.files p
      → sum_of (creation p) s' ≤ sum_of (creation p) s → sum_of (pending_in p) s' ≤ sum_of (pending_in p) s + more
      → charge s' p ≤ charge s p + more
  heavier_in s' more same few less =
      let a = charge_in_le (get s.files p) (pending_creations s' p) (pending_creations s p) few in
      subst (λ d. charge_in d (pending_creations s' p) + pending_cost_in s' p ≤ charge s p + more) (sym same)
      (omega (arith, a, less))

  pub lighter_in : (s' : State) → get s'.files p ≡ get s.files p → sum_of (creation p) s' ≤ sum_of (creation p) s
      → sum_of (pending_in p) s' ≤ sum_of (pending_in p) s → charge s' p ≤ charge s p
  lighter_in s' same few less = let h = heavier_in s' 0 same few (omega (arith, less)) in omega (arith, h)

  -- one more creation in it
  created_in : (s' : State) (more : ℕ) → get s'.files p ≡ get s.files p
      → sum_of (creation p) s' ≤ sum_of (creation p) s + 1
      → sum_of (pending_in p) s' ≤ sum_of (pending_in p) s + more
      → charge s' p ≤ charge s p + (more + growth (entry_count s p))
  created_in s' more same few less =
      let a = charge_in_more (get s.files p) (pending_creations s p) (pending_creations s' p) few in
      subst (λ d. charge_in d (pending_creations s' p) + pending_cost_in s' p
      ≤ charge s p + (more + growth (entry_count s p))) (sym same) (omega (arith, a, less))

  -- the same output sides
  pub charge-same_sides : (n : ℕ) (new old : SpecJob) → job_at s n ≡ Some old → SameSides new old
      → charge (with_job s n new) p ≡ charge s p
  charge-same_sides n new old e h =
      ap (λ outs. charge_in (get s.files p) (total (creation p) outs) + total (pending_in p) outs)
      (flat_map-set outputs_of s.jobs n new old e h.1)

module _ (s : State) (p : ℕ) (limited : is_limited s p ≡ true) where
  -- The directory is charged with no more than before, or with no more than its quota.
  abbrev pub Within : State → Type 0
  Within s' = (charge s' p ≤ charge s p) ⊎ (charge s' p ≤ quota_of s p)

  pub left_fits : (more : ℕ) → exceeds_left s p more ≡ false → charge s p + more ≤ quota_of s p
  left_fits more e = at_most (is_limited s p) limited (quota_of s p) (charge s p + more) e
    where
      at_most : (b : Bool) → b ≡ true → (q n : ℕ) → (b && nat_lt q n) ≡ false → n ≤ q
      at_most true is q n h = below q n h
        where
          below : (q n : ℕ) → nat_lt q n ≡ false → n ≤ q
          below q n h = grind (arith, nat_tests)
      at_most false is q n h = let wrong = is in cc

  -- words that find a place
  pub put_within : (pack : Pack) (o : SpecOutput) (count now : ℕ) → finds_no_place pack s o count ≡ false
      → now ≤ charge s p + (if o.place.ppn == p
      then version_cost (length_after (length o.pending.body) o.next count) - version_cost (length o.pending.body)
      else 0)
      → (now ≤ charge s p) ⊎ (now ≤ quota_of s p)
  put_within pack o count now place h = decide (o.place.ppn == p) refl h
    where
      decide : (here : Bool) → (o.place.ppn == p) ≡ here → now ≤ charge s p + (if here
          then version_cost (length_after (length o.pending.body) o.next count) - version_cost (length o.pending.body)
          else 0)
          → (now ≤ charge s p) ⊎ (now ≤ quota_of s p)
      decide false e h = inl (omega (arith, h))
      decide true e h = ⊎_elim
          (λ none. inl (let same : version_cost (length_after (length o.pending.body) o.next count)
          ≡ version_cost (length o.pending.body) =
          ap (λ k. version_cost (length_after (length o.pending.body) o.next k)) (is_zero count none) in
          omega (arith, h, same)))
          (λ left. ⊎_elim
          (λ none. inl (let zero = is_zero (rise o count) none in omega (arith, h, zero)))
          (λ fits. inr (let f = left_fits (rise o count)
          (subst (λ q. exceeds_left s q (rise o count) ≡ false) (eqb-true o.place.ppn p e) fits) in
          omega (arith, h, f)))
          (split_outgrows (rise o count == 0) (exceeds_left s o.place.ppn (rise o count)) left))
          (split_left (count == 0) (nat_lt longest (length_after (length o.pending.body) o.next count))
          (exceeds_room pack s (rise o count)) (outgrows s o.place.ppn (rise o count)) (is_before_end o.kind o.next)
          place)

  -- all channels of a job closed
  pub within_closed : (n ppn : ℕ) (core : List ℕ)
      → Within (with_job s n (record { ppn = ppn; core = core; channels = all_closed }))
  within_closed n ppn core = inl (lighter_in s p (with_job s n
      (record { ppn = ppn; core = core; channels = all_closed })) refl (sum_closed (creation p) s n ppn core)
      (sum_closed (pending_in p) s n ppn core))

  module _ (pack : Pack) (sound : IsSound s) (n : ℕ) (job : SpecJob) (there : job_at s n ≡ Some job) where
    -- a channel becomes another one, with no more on its output side
    pub within_channel : (ch : ℕ) (c : Channel) (x : Option Channel) (core : List ℕ) → channel_at job ch ≡ Some c
        → ((f : SpecOutput → ℕ) → ((o : SpecOutput) (k : ℕ) → f (record o { next = k }) ≡ f o)
        → item f (output_of x) ≤ item f c.output)
        → Within (with_job s n (with_channel (record job { core = core }) ch x))
    within_channel ch c x core is few = inl
        (lighter_in s p (with_job s n (with_channel (record job { core = core }) ch x)) refl
        (less_item _ _ _ _ (sum_channel (creation p) s s.files n job core ch c x there is)
        (few (creation p) (λ o k. refl)))
        (less_item _ _ _ _ (sum_channel (pending_in p) s s.files n job core ch c x there is)
        (few (pending_in p) (λ o k. refl))))

    abbrev pub WithinRow : Reply × SpecJob → Type 0
    WithinRow r = r.0 ≡ Done → Within (with_job s n r.1)

    pub within_row : (reply : Reply) (done : SpecJob) (other : Reply → SpecJob)
        → (reply ≡ Done → Within (with_job s n done)) → WithinRow (settled reply done other)
    within_row reply done other h = settled_by (λ r. r.0 ≡ Done → Within (with_job s n r.1)) reply done other
        (λ is done. h is) (λ differs done. absurd (differs done))

    pub within_open : (ch a : ℕ) → WithinRow (opens job ch a)
    within_open ch a = within_row (open_answer job ch a) (open_done job ch a) (λ r. job) (λ is.
        inl (lighter_in s p (with_job s n (open_done job ch a)) refl
        (sum_opened (creation p) s n job (core_opened job.core a) ch (channel_opened job.core a) there refl)
        (sum_opened (pending_in p) s n job (core_opened job.core a) ch (channel_opened job.core a) there refl)))

    pub within_ring : (ch : ℕ) (c : Channel) (header k : ℕ) → channel_at job ch ≡ Some c
        → WithinRow (sets_up job ch c header k)
    within_ring ch c header k is = within_row (ring_answer job c header k) _ (λ r. job)
        (λ done. within_channel ch c (Some (clean c)) _ is (λ f same. itself _))

    within_looked : (ch : ℕ) (c : Channel) (e : ℕ) (place : Place) (found : Option SpecVersion)
        → channel_at job ch ≡ Some c → Within (with_job s n (looked_up pack job ch c e place found))
    within_looked ch c e place None is =
        subst (λ t. Within t) (put_back s n job there) (inl (itself (charge s p)))
    within_looked ch c e place (Some w) is = within_channel ch c _ _ is (λ f same. itself _)

    pub within_lookup : (ch : ℕ) (c : Channel) (e : ℕ) → channel_at job ch ≡ Some c
        → WithinRow (lookup pack s job ch c e)
    within_lookup ch c e is = within_row (lookup_answer s job c e (place_at job e))
        (lookup_done pack s job ch c e (place_at job e)) (refused_at job e)
        (λ done. within_looked ch c e (place_at job e) (file_at s.files (place_at job e)) is)

    pub within_in : (ch : ℕ) (c : Channel) (a : ℕ) → channel_at job ch ≡ Some c → WithinRow (reads job ch c a)
    within_in ch c a is = within_row (in_answer job c a) (in_done job ch c a) (stopped_in job ch c)
        (λ done. within_channel ch c _ _ is (λ f same. itself _))

    pub within_useti : (ch : ℕ) (c : Channel) (k : ℕ) → channel_at job ch ≡ Some c → WithinRow (useti job ch c k)
    within_useti ch c k is = within_row (useti_answer c k) (with_channel job ch (Some (useti_done c k)))
        (stopped_in job ch c)
        (λ done. within_channel ch c (Some (useti_done c k)) job.core is (λ f same. itself _))

    pub within_useto : (ch : ℕ) (c : Channel) (k : ℕ) → channel_at job ch ≡ Some c → WithinRow (useto job ch c k)
    within_useto ch c k is = within_row (useto_answer c k) (with_channel job ch (Some (useto_done c k)))
        (stopped_in job ch c)
        (λ done. within_channel ch c (Some (useto_done c k)) job.core is
        (λ f same. same_le (at_output f c.output k (λ o. same o k))))

    module _ (ch : ℕ) (c : Channel) (is : channel_at job ch ≡ Some c) where
      -- OUT

      put_heavier_in : (o : SpecOutput) (core words : List ℕ) → c.output ≡ Some o
          → charge (with_job s n (with_channel (record job { core = core }) ch
          (Some (record (clean c) { output = put_on c.output words })))) p
          ≤ charge s p + (if o.place.ppn == p
          then version_cost (length_after (length o.pending.body) o.next (length words))
          - version_cost (length o.pending.body) else 0)
      put_heavier_in o core words e =
          let d : Channel = record (clean c) { output = put_on c.output words } in
          let s' = with_job s n (with_channel (record job { core = core }) ch (Some d)) in
          let was : item (pending_in p) c.output ≡ pending_in p o = ap (item (pending_in p)) e in
          let now : item (pending_in p) (put_on c.output words) ≡ (if o.place.ppn == p
          then version_cost (length_after (length o.pending.body) o.next (length words)) else 0) =
          ap (λ x. item (pending_in p) (put_on x words)) e
          ∙ ap (λ k. if o.place.ppn == p then version_cost k else 0) (length-splice o.pending.body o.next words) in
          let more = same_or_more (o.place.ppn == p) (version_cost (length o.pending.body))
          (version_cost (length_after (length o.pending.body) o.next (length words))) in
          let h = sum_channel (pending_in p) s s.files n job core ch c (Some d) there is in
          heavier_in s p s' _ refl
          (less_item _ _ _ _ (sum_channel (creation p) s s.files n job core ch c (Some d) there is)
          (same_le (ap (λ x. item (creation p) (put_on x words)) e ∙ sym (ap (item (creation p)) e))))
          (omega (arith, was, now, more, h))

      pub within_out : (a : ℕ) → out_answer pack s job c a ≡ Done → Within (with_job s n (out_done job ch c a))
      within_out a done =
          let needs = out_needs pack s c c.output (outgoing job c a) done in
          let o = needs.0 in
          let t = needs.2 in
          subst (λ x. Within (with_job s n (put_done job ch c x))) (sym needs.3)
          (put_within pack o (length t.words) (charge (with_job s n (put_done job ch c (Some t))) p) needs.4
          (put_heavier_in o t.core t.words needs.1))

      -- ENTER

      -- a new side that the quota leaves as much for as it costs, with the entry that it makes
      within_side : (core : List ℕ) (input : Option SpecInput) (o : SpecOutput) (more : ℕ)
          → exceeds_left s o.place.ppn more ≡ false
          → version_cost (length o.pending.body) + (if is_create o.kind then growth (entry_count s o.place.ppn) else 0)
          ≤ more
          → Within (with_job s n (with_channel (record job { core = core }) ch
          (Some (record (clean c) { input = input; output = Some o }))))
      within_side core input o more left cost = decide (o.place.ppn == p) refl
        where
          s' : State
          s' = with_job s n (with_channel (record job { core = core }) ch
              (Some (record (clean c) { input = input; output = Some o })))

          costs : sum_of (pending_in p) s' ≤ sum_of (pending_in p) s + pending_in p o
          costs = entered_sum pack s sound n job there ch c is (pending_in p) core input o

          counts : sum_of (creation p) s' ≤ sum_of (creation p) s + creation p o
          counts = entered_sum pack s sound n job there ch c is (creation p) core input o

          decide : (here : Bool) → (o.place.ppn == p) ≡ here → Within s'
          decide false e =
              let none : pending_in p o ≡ 0 = ap (λ b. if b then version_cost (length o.pending.body) else 0) e in
              let no : creation p o ≡ 0 = no_creation (is_create o.kind) (o.place.ppn == p) e in
              inl (lighter_in s p s' refl (omega (arith, counts, no)) (omega (arith, costs, none)))
          decide true e = create (is_create o.kind) refl
            where
              all : pending_in p o ≡ version_cost (length o.pending.body)
              all = ap (λ b. if b then version_cost (length o.pending.body) else 0) e

              fits : charge s p + more ≤ quota_of s p
              fits = left_fits more (subst (λ q. exceeds_left s q more ≡ false) (eqb-true o.place.ppn p e) left)

              here : growth (entry_count s o.place.ppn) ≡ growth (entry_count s p)
              here = ap (λ q. growth (entry_count s q)) (eqb-true o.place.ppn p e)

              create : (b : Bool) → is_create o.kind ≡ b → Within s'
              create true k =
                  let one = at_most_one (is_create o.kind) (o.place.ppn == p) in
                  let h = created_in s p s' (pending_in p o) refl (omega (arith, counts, one)) costs in
                  let m : version_cost (length o.pending.body) + growth (entry_count s o.place.ppn) ≤ more =
                  subst (λ b. version_cost (length o.pending.body)
                  + (if b then growth (entry_count s o.place.ppn) else 0) ≤ more) k cost in
                  inr (omega (arith, h, all, m, fits, here))
              create false k =
                  let no : creation p o ≡ 0 = ap (λ b. one_if (b && (o.place.ppn == p))) k in
                  let h = heavier_in s p s' (pending_in p o) refl (omega (arith, counts, no)) costs in
                  let m : version_cost (length o.pending.body) + 0 ≤ more =
                  subst (λ b. version_cost (length o.pending.body)
                  + (if b then growth (entry_count s o.place.ppn) else 0) ≤ more) k cost in
                  inr (omega (arith, h, all, m, fits))

      -- an update begins with the whole of its version, and creates no name
      within_update : (core : List ℕ) (input : Option SpecInput) (place : Place) (digit : ℕ) (w : SpecVersion)
          → exceeds_left s place.ppn (version_cost (length w.file.body)) ≡ false
          → Within (with_job s n (with_channel (record job { core = core }) ch
          (Some (record (clean c) { input = input; output = Some (output_updating digit place w) }))))
      within_update core input place digit w left = decide (may_update digit) refl
        where
          some : (k : ℕ) → k + 0 ≤ k
          some k = omega arith

          decide : (b : Bool) → may_update digit ≡ b
              → Within (with_job s n (with_channel (record job { core = core }) ch
              (Some (record (clean c) { input = input; output = Some (output_updating digit place w) }))))
          decide true e = rw e (within_side core input _ _ left (some _))
          decide false e = rw e (within_side core input _ _ left (some _))

      within_entered : (e : ℕ) (moment : Moment) (place : Place) (input : Option SpecInput) (found : Option SpecVersion)
          → file_at s.files place ≡ found → begin_answer pack s job input place ≡ Done
          → Within (with_job s n (entered pack job ch c e (input_updating input found)
          (output_opened job c e moment place (digit_at s job place) input found)))
      within_entered e moment place None None at done =
          within_side _ None (output_opened job c e moment place (digit_at s job place) None None) _
          (create_needs pack s job place (created (is_absent s place) (ap is_none at) done)).2 (itself _)
        where
          created : (absent : Bool) → absent ≡ true
              → (if absent then create_answer pack s job place else supersede_answer pack s job place) ≡ Done
              → create_answer pack s job place ≡ Done
          created true e h = h
          created false e h = let wrong = e in cc
      within_entered e moment place None (Some w) at done =
          within_side _ None (output_opened job c e moment place (digit_at s job place) None (Some w)) _
          (supersede_needs pack s job place (superseded (is_absent s place) (ap is_none at) done)).2 (itself _)
        where
          superseded : (absent : Bool) → absent ≡ false
              → (if absent then create_answer pack s job place else supersede_answer pack s job place) ≡ Done
              → supersede_answer pack s job place ≡ Done
          superseded false e h = h
          superseded true e h = let wrong = e in cc
      within_entered e moment place (Some i) None at done =
          let wrong = sym (update_needs pack s job place done).0 ∙ ap is_none at in cc
      within_entered e moment place (Some i) (Some w) at done =
          within_update (with_attributes pack.layout job.core e
          (output_updating (digit_at s job place) place w).pending)
          (Some (record i { version = w })) place (digit_at s job place) w
          (subst (λ v. exceeds_left s place.ppn (present_cost v) ≡ false) at (update_needs pack s job place done).3)

      pub within_enter : (e : ℕ) (moment : Moment) → enter_answer pack s job c e (place_at job e) ≡ Done
          → Within (with_job s n (enter_done pack s job ch c e moment (place_at job e)))
      within_enter e moment done =
          within_entered e moment (place_at job e) c.input (file_at s.files (place_at job e)) refl
          (enter_needs pack s job c e (place_at job e) done).1
