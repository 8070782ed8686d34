-- Each row that is done and changes the files charges a directory with no more than before, or with no more than its
-- quota.
use Rattle.std.proofs.Common.{◌≡◌, ◌≢◌, ℕ, ◌+◌, ◌-◌, ◌≤◌, Bool, true, false, if◌then◌else◌, List, length, Option}
use Rattle.std.proofs.Common.{Some, None, refl, sym, ap, subst, ◌∙◌, ◌⊎◌, inl, inr, ⊎_elim, arith}
use Rattle.std.specs.Prelude.{◌==◌, ◌&&◌, not, is_some, is_none, slice_set, flat_map}
use Rattle.std.specs.Cmp.{nat_cmp_total}
use Rattle.std.specs.FinMap.{nat_cmp-IsAntisymmetric}
use Rattle.std.proofs.lemmas.Bool.{eq-eqb, ne_eqb}
use Rattle.spec_image.specs.Common.{size, get, insert, remove, sum_over, total, Files, Directory, Place, version_cost}
use Rattle.spec_image.specs.Common.{directory_cost, length_after, SpecVersion, file_at, with_file, with_file_in}
use Rattle.spec_image.specs.Common.{without_file, without_file_in, with_protection, Pack, growth, with_quota}
use Rattle.spec_image.specs.Common.{files_limited}
use Rattle.spec_machine.specs.Jobs.{Channel, SpecJob, SpecOutput, State, channel_at, job_at, with_channel}
use Rattle.spec_machine.specs.Room.{output_of, outputs_of, names_in, entry_count, pending_creations}
use Rattle.spec_machine.specs.Charges.{charge, charge_in, quota_in, is_limited, exceeds_left}
use Rattle.spec_machine.specs.Sound.{output_for, writes_at, IsSound}
use Rattle.spec_machine.specs.Update.{present_cost}
use Rattle.spec_machine.specs.Lookup.{place_at, has_no_directory}
use Rattle.spec_machine.specs.Outputs.{put_on, finds_no_place}
use Rattle.spec_machine.specs.Close.{published, files_with, files_closed, last_buffer, words_or_none, output_put}
use Rattle.spec_machine.specs.Close.{last_answer, close_answer, close_done, core_closed, channel_closed}
use Rattle.spec_machine.specs.Close.{keeps_output, discards, publishes}
use Rattle.spec_machine.specs.Rename.{deletes_at, protection_at, overfills, rename_answer, files_moved}
use Rattle.spec_machine.specs.Rename.{files_renamed}
use Rattle.spec_machine.specs.MakeDir.{make_answer, owner_at, directory_made}
use Rattle.spec_machine.specs.declared.call.Reply.{Reply}
use Rattle.spec_machine.specs.declared.call.Reply.TheVariants.{Done}
use Rattle.spec_image.proofs.Common.{same_or_other, get-insert_same, get-insert_other, get-removed, get-remove_other}
use Rattle.spec_image.proofs.Common.{size-remove, sum-insert, sum-remove, name_total, name_exact, some_is}
use Rattle.spec_image.proofs.Common.{directory_of_file, length-splice}
use Rattle.spec_machine.proofs.SlotLaws.{set-slot}
use Rattle.spec_machine.proofs.CostLaws.{cost}
use Rattle.spec_machine.proofs.SoundSteps.{make_needs, is_some_there}
use Rattle.spec_machine.proofs.RemovalSteps.{Renames, rename_needs, move_needs}
use Rattle.spec_machine.proofs.BookingLaws.{item, sum_of, sum_channel}
use Rattle.spec_machine.proofs.RoomLaws.{creation, directory_cost_le}
use Rattle.spec_machine.proofs.RoomSteps.{same_le, less_item}
use Rattle.spec_machine.proofs.RemovalRoom.{with_files, sums_stay, size-insert_le}
use Rattle.spec_machine.proofs.CloseRoom.{names_more, with_closed, with_words, last_needs, closes_none, closes_few}
use Rattle.spec_machine.proofs.ChargeSteps.{pending_in, lighter_in, Within, left_fits, put_within}

-- The directories of files with one at a place, and with none there.

module _ (files : Files SpecVersion) (place : Place) (v : SpecVersion) where
  get-with_here : (d : Directory SpecVersion) → get files place.ppn ≡ Some d
      → get (with_file files place v) place.ppn ≡ Some (record d { files = insert d.files place.name v })
  get-with_here d is = ap (λ o. get (with_file_in o files place v) place.ppn) is
      ∙ get-insert_same nat_cmp_total files place.ppn (record d { files = insert d.files place.name v })

  get-with_other : (q : ℕ) → q ≢ place.ppn → get (with_file files place v) q ≡ get files q
  get-with_other q other = by (get files place.ppn)
    where
      by : (o : Option (Directory SpecVersion)) → get (with_file_in o files place v) q ≡ get files q
      by None = refl
      by (Some d) = get-insert_other nat_cmp_total nat_cmp-IsAntisymmetric files place.ppn
          (record d { files = insert d.files place.name v }) q other

module _ (files : Files SpecVersion) (place : Place) where
  get-without_here : (d : Directory SpecVersion) → get files place.ppn ≡ Some d
      → get (without_file files place) place.ppn ≡ Some (record d { files = remove d.files place.name })
  get-without_here d is = ap (λ o. get (without_file_in o files place) place.ppn) is
      ∙ get-insert_same nat_cmp_total files place.ppn (record d { files = remove d.files place.name })

  get-without_other : (q : ℕ) → q ≢ place.ppn → get (without_file files place) q ≡ get files q
  get-without_other q other = by (get files place.ppn)
    where
      by : (o : Option (Directory SpecVersion)) → get (without_file_in o files place) q ≡ get files q
      by None = refl
      by (Some d) = get-insert_other nat_cmp_total nat_cmp-IsAntisymmetric files place.ppn
          (record d { files = remove d.files place.name }) q other

equal_or_not : (p q : ℕ) → (p ≡ q) ⊎ (p ≢ q)
equal_or_not = same_or_other nat_cmp_total nat_cmp-IsAntisymmetric

module _ (s : State) (p : ℕ) (d new : Directory SpecVersion) (is : get s.files p ≡ Some d) (s' : State)
    (now : get s'.files p ≡ Some new) where
  was_charged : charge s p ≡ directory_cost (size d.files + sum_of (creation p) s) + sum_over cost d.files
      + sum_of (pending_in p) s
  was_charged = ap (λ o. charge_in o (sum_of (creation p) s) + sum_of (pending_in p) s) is

  is_charged : charge s' p ≡ directory_cost (size new.files + sum_of (creation p) s') + sum_over cost new.files
      + sum_of (pending_in p) s'
  is_charged = ap (λ o. charge_in o (sum_of (creation p) s') + sum_of (pending_in p) s') now

  -- the directory's files are other ones, with no more names
  charged_with : (more : ℕ)
      → size new.files + sum_of (creation p) s' ≤ size d.files + sum_of (creation p) s
      → sum_over cost new.files + sum_of (pending_in p) s' ≤ sum_over cost d.files + sum_of (pending_in p) s + more
      → charge s' p ≤ charge s p + more
  charged_with more names costs =
      let m = directory_cost_le (size new.files + sum_of (creation p) s') (size d.files + sum_of (creation p) s) names
      in
      let a = was_charged in
      let b = is_charged in
      omega (arith, m, costs, a, b)

  -- or with one more name
  charged_more : (more : ℕ)
      → size new.files + sum_of (creation p) s' ≤ size d.files + sum_of (creation p) s + 1
      → sum_over cost new.files + sum_of (pending_in p) s' ≤ sum_over cost d.files + sum_of (pending_in p) s + more
      → charge s' p ≤ charge s p + (more + growth (entry_count s p))
  charged_more more names costs =
      let m = grows (size new.files + sum_of (creation p) s') (size d.files + sum_of (creation p) s) names in
      let count : growth (entry_count s p) ≡ growth (size d.files + sum_of (creation p) s) =
      ap (λ o. growth (names_in o + sum_of (creation p) s)) is in
      let a = was_charged in
      let b = is_charged in
      omega (arith, m, costs, a, b, count)
    where
      grows : (a b : ℕ) → a ≤ b + 1 → directory_cost a ≤ directory_cost b + growth b
      grows a b h = omega (arith, h)

module _ (s : State) (p : ℕ) (limited : is_limited s p ≡ true) (pack : Pack) (sound : IsSound s) (n : ℕ) (job : SpecJob)
    (there : job_at s n ≡ Some job) where
  module _ (ch : ℕ) (c : Channel) (is : channel_at job ch ≡ Some c) where
    -- CLOSE and RELEAS

    module _ (v : SpecVersion) (o : SpecOutput) (core : List ℕ) (x : Option Channel) (e : c.output ≡ Some o)
        (none : output_of x ≡ None) where
      after : State
      after = with_closed pack s sound n job there ch c is (with_file s.files o.place v) core x

      sums : (f : SpecOutput → ℕ) → sum_of f after + f o ≡ sum_of f s
      unfolding after
      sums f =
          let h = sum_channel f s (with_file s.files o.place v) n job core ch c x there is in
          let a : item f c.output ≡ f o = ap (item f) e in
          let b : item f (output_of x) ≡ 0 = ap (item f) none in
          omega (arith, h, a, b)

      published_here : o.place.ppn ≡ p
          → charge after p ≤ charge s p + (cost v - version_cost (length o.pending.body))
      unfolding after
      published_here here =
          let w : writes_at s n ch ≡ Some o = ap (output_for ch) there ∙ ap output_of is ∙ e in
          let d = some_is (get s.files o.place.ppn) (sound.housed n ch o w) in
          let names = names_more pack s sound n job there ch c is v o d.0 w d.1 (get d.0.files o.place.name) refl in
          let sum = sum-insert name_total name_exact cost d.0.files o.place.name v (get d.0.files o.place.name) refl in
          let count = sums (creation p) in
          let pend = sums (pending_in p) in
          let all : pending_in p o ≡ version_cost (length o.pending.body) =
          ap (λ b. if b then version_cost (length o.pending.body) else 0) (eq-eqb o.place.ppn p here) in
          let one : creation o.place.ppn o ≡ creation p o = ap (λ q. creation q o) here in
          charged_with s p d.0 (record d.0 { files = insert d.0.files o.place.name v })
          (ap (get s.files) (sym here) ∙ d.1) after
          (ap (get (with_file s.files o.place v)) (sym here) ∙ get-with_here s.files o.place v d.0 d.1)
          (cost v - version_cost (length o.pending.body)) (omega (arith, names, count, one))
          (omega (arith, sum, pend, all))

      published_in : charge after p ≤ charge s p + (if o.place.ppn == p
          then cost v - version_cost (length o.pending.body) else 0)
      unfolding after
      published_in = ⊎_elim
          (λ here. subst (λ b. charge after p ≤ charge s p + (if b then cost v - version_cost (length o.pending.body)
          else 0)) (sym (eq-eqb o.place.ppn p here)) (published_here here))
          (λ other. let count = sums (creation p) in
          let pend = sums (pending_in p) in
          let h = lighter_in s p after (get-with_other s.files o.place v p (λ same. other (sym same)))
          (omega (arith, count)) (omega (arith, pend)) in
          omega (arith, h))
          (equal_or_not o.place.ppn p)

    within_closing : (serial bits : ℕ) (core : List ℕ) (x : Option Channel) → close_answer pack s job c bits ≡ Done
        → (publishes c bits ≡ true → output_of x ≡ None)
        → ((f : SpecOutput → ℕ) → item f (output_of x) ≤ item f c.output)
        → Within s p limited
        (with_closed pack s sound n job there ch c is (files_closed serial s.files job c bits) core x)
    unfolding after
    within_closing serial bits core x done none few = by_case (publishes c bits) refl c.output refl
      where
        if_done : (b : Bool) (r : Reply) → b ≡ true → (if b then r else Done) ≡ Done → r ≡ Done
        if_done true r e h = h
        if_done false r e h = let wrong = e in cc

        words : List ℕ
        words = words_or_none (last_buffer job c)

        by_case : (b : Bool) → publishes c bits ≡ b → (output : Option SpecOutput) → c.output ≡ output
            → Within s p limited
            (with_closed pack s sound n job there ch c is (files_closed serial s.files job c bits) core x)
        by_case true e None f = let wrong = sym e
            ∙ ap (λ o. is_some o && not (keeps_output bits) && not (discards bits)) f in cc
        by_case true e (Some o) f =
            let v = published serial (with_words pack s sound n job there ch c is o words) in
            let put : output_put job c ≡ Some (with_words pack s sound n job there ch c is o words) =
            ap (λ q. put_on q words) f in
            let files : files_closed serial s.files job c bits ≡ with_file s.files o.place v =
            ap (λ b. if b then files_with s.files serial (output_put job c) else s.files) e
            ∙ ap (files_with s.files serial) put in
            let place : finds_no_place pack s o (length words) ≡ false =
            last_needs pack s sound n job there ch c is o (last_buffer job c)
            (ap (λ q. last_answer pack s c q (last_buffer job c)) (sym f)
            ∙ if_done (publishes c bits) (last_answer pack s c c.output (last_buffer job c)) e done) in
            let size : cost v ≡ version_cost (length_after (length o.pending.body) o.next (length words)) =
            ap version_cost (length-splice o.pending.body o.next words) in
            subst (λ fs. Within s p limited (with_closed pack s sound n job there ch c is fs core x)) (sym files)
            (put_within s p limited pack o (length words)
            (charge (with_closed pack s sound n job there ch c is (with_file s.files o.place v) core x) p) place
            (subst (λ k. charge (with_closed pack s sound n job there ch c is (with_file s.files o.place v) core x) p
            ≤ charge s p + (if o.place.ppn == p then k - version_cost (length o.pending.body) else 0)) size
            (published_in v o core x f (none e))))
        by_case false e output f =
            let files : files_closed serial s.files job c bits ≡ s.files =
            ap (λ b. if b then files_with s.files serial (output_put job c) else s.files) e in
            subst (λ fs. Within s p limited (with_closed pack s sound n job there ch c is fs core x)) (sym files)
            (inl (lighter_in s p (with_closed pack s sound n job there ch c is s.files core x) refl
            (less_item _ _ _ _ (sum_channel (creation p) s s.files n job core ch c x there is) (few (creation p)))
            (less_item _ _ _ _ (sum_channel (pending_in p) s s.files n job core ch c x there is)
            (few (pending_in p)))))

    pub within_close : (serial bits : ℕ) → close_answer pack s job c bits ≡ Done
        → Within s p limited (record s {
          files = files_closed serial s.files job c bits;
          jobs = slice_set s.jobs n (Some (close_done serial job ch c bits));
        })
    within_close serial bits done =
        within_closing serial bits (core_closed job.core c bits) (Some (channel_closed serial job c bits)) done
        (closes_none pack s sound n job there ch c is (is_some c.output) (keeps_output bits) (discards bits) c.output)
        (λ f. closes_few pack s sound n job there ch c is (keeps_output bits) f c.output)

    pub within_release : (serial : ℕ) → close_answer pack s job c 0 ≡ Done
        → Within s p limited (record s {
          files = files_closed serial s.files job c 0;
          jobs = slice_set s.jobs n (Some (with_channel (record job { core = core_closed job.core c 0 }) ch None));
        })
    within_release serial done = within_closing serial 0 (core_closed job.core c 0) None done (λ e. refl)
        (λ f. omega arith)

    -- RENAME

    -- the state with these files
    abbrev renamed : Files SpecVersion → State
    renamed files = with_files pack s sound n job there ch c is files

    stay : (f : SpecOutput → ℕ) (files : Files SpecVersion) → sum_of f (renamed files) ≡ sum_of f s
    stay f files = sums_stay pack s sound n job there ch c is f files

    within_same : (files : Files SpecVersion) → get files p ≡ get s.files p → Within s p limited (renamed files)
    within_same files same = inl (lighter_in s p (renamed files) same (same_le (stay (creation p) files))
        (same_le (stay (pending_in p) files)))

    module _ (old : Place) (d : Directory SpecVersion) (w : SpecVersion) (at : get s.files old.ppn ≡ Some d)
        (here : get d.files old.name ≡ Some w) where
      -- the old place's directory without the file
      abbrev thinner : Directory SpecVersion
      thinner = record d { files = remove d.files old.name }

      fewer : size d.files ≡ size (remove d.files old.name) + 1
      fewer = size-remove name_total name_exact d.files old.name w here

      less : sum_over cost d.files ≡ cost w + sum_over cost (remove d.files old.name)
      less = sum-remove name_total name_exact cost d.files old.name w here

      within_thinner : (files : Files SpecVersion) → p ≡ old.ppn → get files p ≡ Some thinner
          → Within s p limited (renamed files)
      within_thinner files same now =
          let a = fewer in
          let b = less in
          let count = stay (creation p) files in
          let pend = stay (pending_in p) files in
          inl (let h = charged_with s p d thinner (ap (get s.files) same ∙ at) (renamed files) now 0
          (omega (arith, a, count)) (omega (arith, b, pend)) in omega (arith, h))

      within_removed : Within s p limited (renamed (without_file s.files old))
      within_removed = ⊎_elim
          (λ same. within_thinner (without_file s.files old) same
          (ap (get (without_file s.files old)) same ∙ get-without_here s.files old d at))
          (λ other. within_same (without_file s.files old) (get-without_other s.files old p other))
          (equal_or_not p old.ppn)

      module _ (new : Place) (v : SpecVersion) (body : cost v ≡ cost w) where
        moved : Files SpecVersion
        moved = with_file (without_file s.files old) new v

        put_more : (t : Directory SpecVersion)
            → sum_over cost (insert t.files new.name v) ≤ sum_over cost t.files + cost v
        put_more t = let h = sum-insert name_total name_exact cost t.files new.name v (get t.files new.name) refl in
            omega (arith, h)

        -- within a directory
        within_it : p ≡ new.ppn → new.ppn ≡ old.ppn → Within s p limited (renamed moved)
        unfolding moved
        within_it here_is same =
            let both : Directory SpecVersion = record thinner { files = insert thinner.files new.name v } in
            let a = fewer in
            let b = less in
            let names = size-insert_le thinner.files new.name v in
            let sum = put_more thinner in
            let count = stay (creation p) moved in
            let pend = stay (pending_in p) moved in
            inl (let h = charged_with s p d both (ap (get s.files) (here_is ∙ same) ∙ at) (renamed moved)
            (ap (get moved) here_is ∙ get-with_here (without_file s.files old) new v thinner
            (ap (get (without_file s.files old)) same ∙ get-without_here s.files old d at)) 0
            (omega (arith, a, names, count)) (omega (arith, b, sum, body, pend)) in omega (arith, h))

        -- into another one, which has enough left
        into_it : p ≡ new.ppn → new.ppn ≢ old.ppn → (t : Directory SpecVersion) → get s.files new.ppn ≡ Some t
            → exceeds_left s new.ppn (cost w + growth (entry_count s new.ppn)) ≡ false
            → Within s p limited (renamed moved)
        unfolding moved
        into_it here_is other t is_there left =
            let both : Directory SpecVersion = record t { files = insert t.files new.name v } in
            let names = size-insert_le t.files new.name v in
            let sum = put_more t in
            let count = stay (creation p) moved in
            let pend = stay (pending_in p) moved in
            let h = charged_more s p t both (ap (get s.files) here_is ∙ is_there) (renamed moved)
            (ap (get moved) here_is ∙ get-with_here (without_file s.files old) new v t
            (get-without_other s.files old new.ppn other ∙ is_there)) (cost w) (omega (arith, names, count))
            (omega (arith, sum, body, pend)) in
            let f = left_fits s p limited (cost w + growth (entry_count s p))
            (subst (λ q. exceeds_left s q (cost w + growth (entry_count s q)) ≡ false) (sym here_is) left) in
            inr (omega (arith, h, f))

        -- out of the one that is left, or far from both
        beside_it : p ≢ new.ppn → Within s p limited (renamed moved)
        unfolding moved
        beside_it other =
            let now = get-with_other (without_file s.files old) new v p other in
            ⊎_elim
            (λ same. within_thinner moved same
            (now ∙ ap (get (without_file s.files old)) same ∙ get-without_here s.files old d at))
            (λ apart. within_same moved (now ∙ get-without_other s.files old p apart))
            (equal_or_not p old.ppn)

    within_moved : (old new : Place) (protection : ℕ) → has_no_directory s new ≡ false → overfills s old new ≡ false
        → (found : Option SpecVersion) → file_at s.files old ≡ found
        → Within s p limited (renamed (files_moved s.files old new protection found))
    unfolding moved
    within_moved old new protection to_house left None at = within_same s.files refl
    within_moved old new protection to_house left (Some w) at =
        let d = directory_of_file s.files old w at in
        let v = with_protection w protection in
        ⊎_elim
        (λ here. ⊎_elim
        (λ same. within_it old d.0 w d.1 d.2 new v refl here same)
        (λ other. let t = some_is (get s.files new.ppn) (is_some_there (get s.files new.ppn) to_house) in
        into_it old d.0 w d.1 d.2 new v refl here other t.0 t.1
        (subst (λ o. exceeds_left s new.ppn (present_cost o + growth (entry_count s new.ppn)) ≡ false) at
        (not_over (new.ppn == old.ppn) _ (ne_eqb new.ppn old.ppn other) left)))
        (equal_or_not new.ppn old.ppn))
        (λ beside. beside_it old d.0 w d.1 d.2 new v refl beside)
        (equal_or_not p new.ppn)
      where
        not_over : (same over : Bool) → same ≡ false → (not same && over) ≡ false → over ≡ false
        not_over true over e f = let wrong = e in cc
        not_over false over e f = f

    within_deleted : (old : Place) (found : Option SpecVersion) → file_at s.files old ≡ found → is_none found ≡ false
        → Within s p limited (renamed (without_file s.files old))
    within_deleted old None at present = let wrong = present in cc
    within_deleted old (Some w) at present =
        let d = directory_of_file s.files old w at in within_removed old d.0 w d.1 d.2

    abbrev either : ℕ → Place → Bool → Files SpecVersion
    either e old deletes = if deletes then without_file s.files old
        else files_moved s.files old (place_at job e) (protection_at job e) (file_at s.files old)

    pub within_rename : (e : ℕ) → rename_answer pack s job c e ≡ Done
        → Within s p limited (renamed (files_renamed s.files job e c.input))
    within_rename e done =
        let needs = rename_needs pack s job c e done in
        subst (λ i. Within s p limited (renamed (files_renamed s.files job e i))) (sym needs.side_is)
        (by_kind needs (deletes_at job e) refl)
      where
        by_kind : (needs : Renames pack s job c e) (deletes : Bool) → deletes_at job e ≡ deletes
            → Within s p limited (renamed (either e needs.side.place deletes))
        by_kind needs true k = within_deleted needs.side.place (file_at s.files needs.side.place) refl needs.present
        by_kind needs false k =
            let moves = move_needs pack s job needs.side.place (place_at job e) (needs.moves k) in
            within_moved needs.side.place (place_at job e) (protection_at job e) moves.0 moves.2
            (file_at s.files needs.side.place) refl

  -- MakeDir, DeleteDir, Quota

  abbrev pub with_them : Files SpecVersion → State
  with_them files = record s { files = files; jobs = slice_set s.jobs n (Some job) }

  back : (f : SpecOutput → ℕ) (files : Files SpecVersion) → sum_of f (with_them files) ≡ sum_of f s
  back f files = ap (λ jobs. total f (flat_map outputs_of jobs)) (set-slot s.jobs n job there)

  within_others : (files : Files SpecVersion) → get files p ≡ get s.files p → Within s p limited (with_them files)
  within_others files same = inl (lighter_in s p (with_them files) same (same_le (back (creation p) files))
      (same_le (back (pending_in p) files)))

  pub within_make : (e : ℕ) → make_answer pack s job e (owner_at job e) ≡ Done
      → Within s p limited (with_them (insert s.files (owner_at job e) (directory_made job e)))
  within_make e done = ⊎_elim
      (λ here. let none : get s.files p ≡ None = ap (get s.files) here
      ∙ (make_needs pack s job e (owner_at job e) done).0 in
      let wrong : true ≡ false = sym limited ∙ ap (λ o. not (quota_in o == 0)) none in cc)
      (λ other. within_others (insert s.files (owner_at job e) (directory_made job e))
      (get-insert_other nat_cmp_total nat_cmp-IsAntisymmetric s.files (owner_at job e) (directory_made job e) p other))
      (equal_or_not p (owner_at job e))

  pub within_remove : (owner : ℕ) → Within s p limited (with_them (remove s.files owner))
  within_remove owner = ⊎_elim
      (λ here. inl (let none : get (remove s.files owner) p ≡ None = ap (get (remove s.files owner)) here
      ∙ get-removed nat_cmp_total s.files owner in
      let now : charge (with_them (remove s.files owner)) p ≡ 0 + sum_of (pending_in p) (with_them
      (remove s.files owner)) = ap (λ o. charge_in o (pending_creations (with_them (remove s.files owner)) p)
      + sum_of (pending_in p) (with_them (remove s.files owner))) none in
      let pend = back (pending_in p) (remove s.files owner) in
      omega (arith, now, pend)))
      (λ other. within_others (remove s.files owner)
      (get-remove_other nat_cmp_total nat_cmp-IsAntisymmetric s.files owner p other))
      (equal_or_not p owner)

  pub within_limit : (owner quota : ℕ) → Within s p limited (with_them (files_limited s.files owner quota))
  within_limit owner quota = by (get s.files owner) refl
    where
      by : (o : Option (Directory SpecVersion)) → get s.files owner ≡ o
          → Within s p limited (with_them (with_quota s.files owner quota o))
      by None is = within_others s.files refl
      by (Some d) is = ⊎_elim
          (λ here. let new : Directory SpecVersion = record d { quota = quota } in
          let count = back (creation p) (insert s.files owner new) in
          let pend = back (pending_in p) (insert s.files owner new) in
          inl (let h = charged_with s p d new (ap (get s.files) here ∙ is) (with_them (insert s.files owner new))
          (ap (get (insert s.files owner new)) here ∙ get-insert_same nat_cmp_total s.files owner new) 0
          (omega (arith, count)) (omega (arith, pend)) in omega (arith, h)))
          (λ other. within_others (insert s.files owner (record d { quota = quota }))
          (get-insert_other nat_cmp_total nat_cmp-IsAntisymmetric s.files owner (record d { quota = quota }) p other))
          (equal_or_not p owner)
