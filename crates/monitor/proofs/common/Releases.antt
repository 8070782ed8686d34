-- One reader unpins a version: it stays for others, or goes with the last of them.
use Rattle.std.proofs.Common.{◌≡◌, ℕ, zero, suc, ◌+◌, ◌-◌, ◌<◌, ◌≤◌, Bool, true, false, [], ◌∷◌, Option, Some, None}
use Rattle.std.proofs.Common.{refl, sym, ap, subst, ◌∙◌, ◌⊎◌, inl, inr, ⊎_elim, arith}
use Rattle.spec_image.specs.Common.{times}
use Rattle.spec_image.proofs.Common.{some_same, some_none, times_head, times_other}
use Rattle.volume.specs.Common.{MemoryMap, pending_at, slot}
use Rattle.volume.specs.declared.live.LiveVersion.{LiveVersion}
use Rattle.monitor.specs.Common.{Closes, readers_of, present}
use Rattle.monitor.proofs.common.Dropped.{same_or_not}

-- a version that is pinned once or more is there, and has a reader
pub held_there : (o : Option LiveVersion) (key : ℕ) → times key (key ∷ []) ≤ readers_of o
    → (v : LiveVersion) × (o ≡ Some v) × (0 < v.readers)
held_there None key held = let one = times_head key [] in absurd (omega arith)
held_there (Some v) key held = let one = times_head key [] in (v, refl, omega arith)

-- it stays, with one reader less: it is current, or has another reader
pub record StaysHeld (v : LiveVersion) (o : Option LiveVersion) : Type 0 where
  pub is : o ≡ Some (record v { readers = v.readers - 1 })
  pub why : (v.is_current ≡ true) ⊎ (1 < v.readers)

-- it goes with its last reader
pub record GoesHeld (v : LiveVersion) (o : Option LiveVersion) : Type 0 where
  pub is : o ≡ None
  pub one : v.readers ≡ 1

stays_or_goes : (v : LiveVersion) (o : Option LiveVersion) → 0 < v.readers
    → ((v.is_current ≡ true) ⊎ (1 < v.readers) → o ≡ Some (record v { readers = v.readers - 1 }))
    → (v.is_current ≡ false → v.readers ≡ 1 → o ≡ None) → StaysHeld v o ⊎ GoesHeld v o
stays_or_goes v o some stays gone = by v.is_current v.readers refl refl
  where
    by : (b : Bool) (n : ℕ) → v.is_current ≡ b → v.readers ≡ n → StaysHeld v o ⊎ GoesHeld v o
    by true n now many = inl (record { is = stays (inl now); why = inl now })
    by false zero past many = absurd (omega (arith, some, many))
    by false (suc zero) past many = inr (record { is = gone past many; one = many })
    by false (suc (suc n)) past many = let more : 1 < v.readers = omega (arith, many) in
        inl (record { is = stays (inr more); why = inr more })

module _ (c c' : MemoryMap) (key : ℕ) (v : LiveVersion) (at : slot c.live key ≡ Some v) (some : 0 < v.readers)
    (others : (k : ℕ) → (k ≡ key → ⊥) → slot c'.live k ≡ slot c.live k) (pending : c'.pending ≡ c.pending)
    (known : c'.known ≡ record c.known { table = c'.known.table })
    (after : StaysHeld v (slot c'.live key) ⊎ GoesHeld v (slot c'.live key)) where
  -- what is under the key was there, with one reader more
  was_here : (w : LiveVersion) → slot c'.live key ≡ Some w → (w ≡ record v { readers = v.readers - 1 })
      × ((v.is_current ≡ true) ⊎ (1 < v.readers))
  was_here w there = ⊎_elim
      (λ (stays : StaysHeld v (slot c'.live key)). (some_same (sym there ∙ stays.is), stays.why))
      (λ (goes : GoesHeld v (slot c'.live key)). absurd (some_none (sym there ∙ goes.is)))
      after

  one_less : readers_of (slot c'.live key) + times key (key ∷ []) ≡ readers_of (slot c.live key)
  one_less =
      let one = times_head key [] in
      let was = ap readers_of at in
      ⊎_elim
      (λ (stays : StaysHeld v (slot c'.live key)). let now = ap readers_of stays.is in omega arith)
      (λ (goes : GoesHeld v (slot c'.live key)). let now = ap readers_of goes.is in let last = goes.one in omega arith)
      after

  closes_one : Closes c c' [] (key ∷ [])
  closes_one = record {
    gone = λ k. let same = ap (λ ps. present (pending_at ps k)) pending in omega arith;
    released = λ k. same_or_not k key
        (λ is. subst (λ (n : ℕ). readers_of (slot c'.live n) + times n (key ∷ []) ≡ readers_of (slot c.live n))
        (sym is) one_less)
        (λ apart. let none = times_other k key [] apart in let same = ap readers_of (others k apart) in omega arith);
    leaves = record {
      stay = λ k p there. sym (ap (λ ps. pending_at ps k) pending) ∙ there;
      live = λ k w there. same_or_not k key
          (λ is.
          let here = was_here w (sym (ap (slot c'.live) is) ∙ there) in (
            v.readers,
            omega (arith, ap (λ (x : LiveVersion). x.readers) here.0),
            ap (slot c.live) is ∙ at
                ∙ ap (λ (x : LiveVersion). Some (record x { readers = v.readers })) (sym here.0),
          ))
          (λ apart. (w.readers, omega arith, sym (others k apart) ∙ there));
      unread = λ none k w there past. same_or_not k key
          (λ is.
          let here = was_here w (sym (ap (slot c'.live) is) ∙ there) in
          let fewer = ap (λ (x : LiveVersion). x.readers) here.0 in
          ⊎_elim
          (λ now. let wrong = ap (λ (x : LiveVersion). x.is_current) here.0 in cc)
          (λ more. omega (arith, fewer, more))
          here.1)
          (λ apart. none k w (sym (others k apart) ∙ there) past);
      known = known;
    };
  }

-- From what is known of one that is unpinned.
pub lets_one_go : (c c' : MemoryMap) (key : ℕ) → (v : LiveVersion) × (slot c.live key ≡ Some v) × (0 < v.readers)
    → ((v : LiveVersion) → slot c.live key ≡ Some v → (v.is_current ≡ true) ⊎ (1 < v.readers)
    → slot c'.live key ≡ Some (record v { readers = v.readers - 1 }))
    → ((v : LiveVersion) → slot c.live key ≡ Some v → v.is_current ≡ false → v.readers ≡ 1 → slot c'.live key ≡ None)
    → ((k : ℕ) → (k ≡ key → ⊥) → slot c'.live k ≡ slot c.live k) → c'.pending ≡ c.pending
    → c'.known ≡ record c.known { table = c'.known.table } → Closes c c' [] (key ∷ [])
lets_one_go c c' key (v, at, some) stays gone others pending known =
    closes_one c c' key v at some others pending known
    (stays_or_goes v (slot c'.live key) some (stays v at) (gone v at))
