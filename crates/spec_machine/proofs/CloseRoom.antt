-- CLOSE and RELEAS that are done cost no more than before, or no more than there is room for: only a last buffer
-- may cost more.
use Rattle.std.proofs.Common.{◌≡◌, ℕ, ◌+◌, ◌-◌, ◌≤◌, Bool, true, false, if◌then◌else◌, List, length, Option, Some}
use Rattle.std.proofs.Common.{None, refl, sym, ap, subst, ◌∙◌, ◌⊎◌, inl, inr, ⊎_elim, arith}
use Rattle.std.specs.Prelude.{slice_set, ◌&&◌, not, is_some, option_map}
use Rattle.std.proofs.lemmas.Bool.{eq-eqb}
use Rattle.spec_image.specs.Common.{size, get, insert, Files, Directory, version_cost, blocks_of, splice}
use Rattle.spec_image.specs.Common.{length_after, SpecVersion, file_at, with_file, with_file_in, Pack}
use Rattle.spec_machine.specs.Jobs.{Channel, SpecJob, SpecInput, SpecOutput, State, is_create, channel_at, job_at}
use Rattle.spec_machine.specs.Jobs.{with_channel}
use Rattle.spec_machine.specs.Room.{output_of, version_of, booked}
use Rattle.spec_machine.specs.Runs.{IsFresh}
use Rattle.spec_machine.specs.Sound.{output_for, writes_at, version_for, Exists, IsSound}
use Rattle.spec_machine.specs.Outputs.{put_on, finds_no_place}
use Rattle.spec_machine.specs.Close.{published, files_with, files_closed, holding, last_buffer, words_or_none}
use Rattle.spec_machine.specs.Close.{output_put, last_answer, close_answer, close_done, core_closed, channel_closed}
use Rattle.spec_machine.specs.Close.{keeps_input, keeps_output, discards, publishes}
use Rattle.spec_machine.specs.declared.call.Reply.{Reply}
use Rattle.spec_machine.specs.declared.call.Reply.TheVariants.{Done}
use Rattle.spec_image.proofs.Common.{some_same, size-insert_over, size-insert_new, name_total, name_exact, some_is}
use Rattle.spec_image.proofs.Common.{directory_of_file, length-splice}
use Rattle.spec_machine.proofs.CostLaws.{cost}
use Rattle.spec_machine.proofs.SoundLaws.{Goes, Known, GoodJob, good_channel}
use Rattle.spec_machine.proofs.SoundSteps.{would_be}
use Rattle.spec_machine.proofs.CloseSteps.{if_kept, closes_goes, releases_goes}
use Rattle.spec_machine.proofs.BookingLaws.{item, sum_of, sum_channel, costs_new}
use Rattle.spec_machine.proofs.RoomLaws.{pending, creation, directories_changed}
use Rattle.spec_machine.proofs.RoomSteps.{Fine, itself, same_le, channel_fine, placed_needs, put_fits}

module _ (pack : Pack) (s : State) (sound : IsSound s) (n : ℕ) (job : SpecJob) (there : job_at s n
    ≡ Some job) (ch : ℕ) (c : Channel) (is : channel_at job ch ≡ Some c) where
  -- one more name, or the same names
  pub names_more : (v : SpecVersion) (o : SpecOutput) (d : Directory SpecVersion) → writes_at s n ch ≡ Some o
      → get s.files o.place.ppn ≡ Some d → (found : Option SpecVersion) → get d.files o.place.name ≡ found
      → size (insert d.files o.place.name v) ≤ size d.files + creation o.place.ppn o
  names_more v o d w at (Some old) e = let h = size-insert_over name_total name_exact d.files o.place.name v old e in
      omega (arith, h)
  names_more v o d w at None e = decide (is_create o.kind) refl
    where
      one_more : (k : ℕ) → is_create o.kind ≡ true → k ≡ size d.files + 1 → k ≤ size d.files + creation o.place.ppn o
      one_more k f g = let same = eq-eqb o.place.ppn o.place.ppn refl in rw f (rw same (same_le g))

      decide : (b : Bool) → is_create o.kind ≡ b → size (insert d.files o.place.name v)
          ≤ size d.files + creation o.place.ppn o
      decide true f = one_more _ f (size-insert_new name_total name_exact d.files o.place.name v e)
      decide false f =
          let there = some_is (file_at s.files o.place) (sound.present n ch o w f) in
          let h = directory_of_file s.files o.place there.0 there.1 in
          let wrong : None ≡ Some there.0 = sym e
          ∙ ap (λ (x : Directory SpecVersion). get x.files o.place.name) (some_same (sym at ∙ h.1)) ∙ h.2 in cc

  -- the state with this file, and the channel as it closes
  abbrev pub with_closed : Files SpecVersion → List ℕ → Option Channel → State
  with_closed files core x = record s {
    files = files;
    jobs = slice_set s.jobs n (Some (with_channel (record job { core = core }) ch x));
  }

  published_fine : (v : SpecVersion) (o : SpecOutput) (core : List ℕ) (x : Option Channel) → c.output ≡ Some o
      → output_of x ≡ None → IsFresh s v.serial
      → ((w : SpecVersion) → Exists (with_closed (with_file s.files o.place v) core x) w → Known s w ⊎ (w ≡ v))
      → booked (with_closed (with_file s.files o.place v) core x) + pending o ≤ booked s + cost v
  published_fine v o core x e none fresh was =
      let s' = with_closed (with_file s.files o.place v) core x in
      let w : writes_at s n ch ≡ Some o = ap (output_for ch) there ∙ ap output_of is ∙ e in
      let d = some_is (get s.files o.place.ppn) (sound.housed n ch o w) in
      let sums : (f : SpecOutput → ℕ) → sum_of f s' + f o ≡ sum_of f s = λ f.
      let h = sum_channel f s s'.files n job core ch c x there is in
      let a : item f c.output ≡ f o = ap (item f) e in
      let b : item f (output_of x) ≡ 0 = ap (item f) none in omega (arith, h, a, b) in
      let names = names_more v o d.0 w d.1 (get d.0.files o.place.name) refl in
      let here = sums (creation o.place.ppn) in
      let dirs = directories_changed s s' o.place.ppn d.0 (record d.0 { files = insert d.0.files o.place.name v }) d.1
      (ap (λ q. with_file_in q s.files o.place v) d.1)
      (omega (arith, names, here)) (λ ppn differs. let h = sums (creation ppn) in omega (arith, h)) in
      let costs = costs_new s s' sound v fresh was in
      let pend = sums pending in
      omega (arith, dirs, costs, pend)

  -- the output side with words put, and what these cost
  abbrev pub with_words : SpecOutput → List ℕ → SpecOutput
  with_words o words = record o {
    pending = record o.pending { body = splice o.pending.body o.next words };
    next = o.next + blocks_of (length words);
  }

  rises : (now was old new : ℕ) → now + old ≤ was + new → now ≤ was + (new - old)
  rises now was old new h = omega (arith, h)

  pub last_needs : (o : SpecOutput) (last : Option (List ℕ)) → last_answer pack s c (Some o) last ≡ Done
      → finds_no_place pack s o (length (words_or_none last)) ≡ false
  last_needs o None e = let wrong = e in cc
  last_needs o (Some words) e = placed_needs pack s c o words e

  -- a channel that closes as it does, or is closed altogether
  closing : (serial bits : ℕ) (core : List ℕ) (x : Option Channel) → IsFresh s serial
      → close_answer pack s job c bits ≡ Done → (publishes c bits ≡ true → output_of x ≡ None)
      → ((f : SpecOutput → ℕ) → item f (output_of x) ≤ item f c.output) → (publishes c bits ≡ false → (v : SpecVersion)
      → GoodJob s v n ch (with_channel (record job { core = core }) ch x))
      → Goes s (with_closed (files_closed serial s.files job c bits) core x) (would_be serial (output_put job c)) n ch
      → Fine pack s (with_closed (files_closed serial s.files job c bits) core x)
  closing serial bits core x fresh done none few good goes = by_case (publishes c bits) refl c.output refl
    where
      if_done : (b : Bool) (r : Reply) → b ≡ true → (if b then r else Done) ≡ Done → r ≡ Done
      if_done true r e h = h
      if_done false r e h = let wrong = e in cc

      by_case : (b : Bool) → publishes c bits ≡ b → (output : Option SpecOutput) → c.output ≡ output
          → Fine pack s (with_closed (files_closed serial s.files job c bits) core x)
      by_case true e None f = let wrong = sym e
          ∙ ap (λ o. is_some o && not (keeps_output bits) && not (discards bits)) f in cc
      by_case true e (Some o) f =
          let v = published serial (with_words o (words_or_none (last_buffer job c))) in
          let put : output_put job c ≡ Some (with_words o (words_or_none (last_buffer job c))) = ap
          (λ q. put_on q (words_or_none (last_buffer job c))) f in
          let files : files_closed serial s.files job c bits ≡ with_file s.files o.place v = ap (λ b. if b
          then files_with s.files serial (output_put job c) else s.files) e ∙ ap (files_with s.files serial) put in
          let new : would_be serial (output_put job c) ≡ v = ap (would_be serial) put in
          let place : finds_no_place pack s o (length (words_or_none (last_buffer job c))) ≡ false =
          last_needs o (last_buffer job c) (ap (λ q. last_answer pack s c q (last_buffer job c)) (sym f)
          ∙ if_done (publishes c bits) (last_answer pack s c c.output (last_buffer job c)) e done) in
          let p = published_fine v o core x f (none e) fresh
          (subst (λ fs. (w : SpecVersion) → Exists (with_closed fs core x) w → Known s w
          ⊎ (w ≡ v)) files (λ w h. ⊎_elim (λ was. inl was) (λ is. inr (is ∙ new)) (goes.versions w h))) in
          let size : cost v ≡ version_cost
          (length_after (length o.pending.body) o.next (length (words_or_none (last_buffer job c)))) = ap version_cost
          (length-splice o.pending.body o.next (words_or_none (last_buffer job c))) in
          subst (λ fs. Fine pack s (with_closed fs core x)) (sym files)
          (put_fits pack s o (length (words_or_none (last_buffer job c)))
          (booked (with_closed (with_file s.files o.place v) core x)) place
          (subst (λ k. booked (with_closed (with_file s.files o.place v) core x) ≤ booked s + (k - pending o)) size
          (rises _ _ _ _ p)))
      by_case false e output f =
          let files : files_closed serial s.files job c bits
          ≡ s.files = ap (λ b. if b then files_with s.files serial (output_put job c) else s.files) e in
          subst (λ fs. Fine pack s (with_closed fs core x)) (sym files)
          (inl (channel_fine pack s sound n job there ch c x core is (few pending) (λ ppn. few (creation ppn))
          (good e)))

  pub closes_none : (some keeps drops : Bool) (o : Option SpecOutput) → (some && not keeps && not drops) ≡ true
      → (if keeps then o else None) ≡ None
  closes_none true true drops o e = let wrong = e in cc
  closes_none false true drops o e = let wrong = e in cc
  closes_none true false drops o e = refl
  closes_none false false drops o e = refl

  pub closes_few : (keeps : Bool) (f : SpecOutput → ℕ) (o : Option SpecOutput)
      → item f (if keeps then o else None) ≤ item f o
  closes_few true f o = itself (item f o)
  closes_few false f o = omega arith

  kept_input : (keeps : Bool) (i : Option SpecInput) (w : SpecVersion)
      → option_map (λ i. i.version) (if not keeps then None else i) ≡ Some w → option_map (λ i. i.version) i ≡ Some w
  kept_input true i w h = h
  kept_input false i w h = let wrong = h in cc

  good_unpublished : (serial bits : ℕ) → publishes c bits ≡ false → (v : SpecVersion)
      → GoodJob s v n ch (close_done serial job ch c bits)
  good_unpublished serial bits e v =
      good_channel s v n ch job there (core_closed job.core c bits) (Some (channel_closed serial job c bits))
      (λ o h. inl (
        o,
        ap (output_for ch) there ∙ ap output_of is ∙ if_kept (keeps_output bits) c.output o h,
        refl,
        refl,
      ))
      (λ w h. inl (inr (
        n,
        ch,
        ap (version_for ch) there ∙ ap version_of is ∙ kept_input (keeps_input bits) c.input w
            (sym (ap (λ b. option_map (λ i. i.version) (if not (keeps_input bits) then None else if b
            then holding c.input (option_map (published serial) (output_put job c)) else c.input)) e) ∙ h),
      )))

  pub fine_close : (serial bits : ℕ) → IsFresh s serial → close_answer pack s job c bits ≡ Done
      → Fine pack s (record s {
        files = files_closed serial s.files job c bits;
        jobs = slice_set s.jobs n (Some (close_done serial job ch c bits));
      })
  fine_close serial bits fresh done =
      closing serial bits (core_closed job.core c bits) (Some (channel_closed serial job c bits)) fresh done
      (closes_none (is_some c.output) (keeps_output bits) (discards bits) c.output)
      (λ f. closes_few (keeps_output bits) f c.output) (good_unpublished serial bits)
      (closes_goes s serial n job there ch c is bits)

  pub fine_release : (serial : ℕ) → IsFresh s serial → close_answer pack s job c 0 ≡ Done
      → Fine pack s (record s {
        files = files_closed serial s.files job c 0;
        jobs = slice_set s.jobs n (Some (with_channel (record job { core = core_closed job.core c 0 }) ch None));
      })
  fine_release serial fresh done =
      closing serial 0 (core_closed job.core c 0) None fresh done (λ e. refl) (λ f. omega arith)
      (λ e v. good_channel s v n ch job there _ None (λ o h. let wrong = h in cc) (λ w h. let wrong = h in cc))
      (releases_goes s serial n job there ch c is)
