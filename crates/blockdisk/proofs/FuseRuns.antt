-- The calls of a run on a disk with a fuse, one after the other.
use Rattle.std.proofs.Common.{◌≡◌, ◌⊎◌, inl, inr, ⊎_elim, ◌<◌, ◌+◌, ◌∙◌, ℕ, Bool, true, false, Some, None, Option}
use Rattle.std.proofs.Common.{Result, Ok, Err, IsErrOf, List, refl, ap, subst, arith}
use Rattle.std.proofs.lemmas.Bool.{false_from_ne_true}
use Rattle.std.proofs.lemmas.Bool.Decides.{nat_tests}
use Rattle.blockdisk.specs.Common.{IsRead, IsWrite, DiskState, IsInRun, one_more, is_blown, left_behind, burnt, Lets}
use Rattle.blockdisk.specs.Common.{left_after, passed, refused, own_failures, IsMadeAnyway, HavePassed, HasBlown}
use Rattle.blockdisk.specs.Common.{fuse_state, HasFailedRead, IsCountedOnce, HasFailedWrite, modifies_wider}
use Rattle.blockdisk.specs.Common.{modifies_write, IsPartWrite}
use Rattle.blockdisk.specs.declared.fault.Fault.{Fault}
use Rattle.blockdisk.specs.declared.fault.Fault.TheVariants.{Device, Damaged}
use Rattle.blockdisk.specs.declared.fuse.Fail.{Fail}
use Rattle.blockdisk.specs.declared.fuse.FuseDisk.{FuseDisk}

pub no_fault : {T : Type 0} (value : T) (fault : Fault) → IsErrOf (Ok value) fault → ⊥
no_fault value fault is = cc

true_or_false : (b : Bool) → (b ≡ true) ⊎ (b ≡ false)
true_or_false true = inl refl
true_or_false false = inr refl

lets_none : (left : Option ℕ) → Lets left 0
lets_none None = tt
lets_none (Some passing) = omega arith

left_after_none : (left : Option ℕ) → left ≡ left_after left 0
left_after_none None = refl
left_after_none (Some passing) = ap Some (omega arith)

-- one call more passes
lets_more : (left : Option ℕ) (count : ℕ) → Lets left count → is_blown (left_after left count) ≡ false
    → Lets left (count + 1)
lets_more None count lets unblown = tt
lets_more (Some passing) count lets unblown = grind (arith, nat_tests)

left_more : (fail : Fail) (left : Option ℕ) (count : ℕ) → is_blown (left_after left count) ≡ false
    → burnt fail (left_after left count) ≡ left_after left (count + 1)
left_more fail None count unblown = refl
left_more fail (Some passing) count unblown = grind (arith, nat_tests)

-- one call more fails
blown_at : (left : Option ℕ) (count : ℕ) → Lets left count → is_blown (left_after left count) ≡ true → left ≡ Some count
blown_at None count lets blown = cc
blown_at (Some passing) count lets blown =
    let here : passing ≡ count = grind (arith, nat_tests) in
    ap Some here

left_blown : (fail : Fail) (left : Option ℕ) → is_blown left ≡ true → burnt fail left ≡ left_behind fail
left_blown fail None blown = cc
left_blown fail (Some passing) blown = grind (arith, nat_tests)

module _ {D : Type 0} where
  pub none_passed : (disk : FuseDisk D) → HavePassed 0 disk disk
  none_passed disk = record {
    lets = lets_none disk.left;
    left = left_after_none disk.left;
    fail = refl;
    failures = refl;
  }

  module _ (count : ℕ) (old mid new : FuseDisk D) (before : HavePassed count old mid) where
    pub one_passed : is_blown mid.left ≡ false → new ≡ passed mid new.inner → HavePassed (count + 1) old new
    one_passed unblown is =
        let here : is_blown (left_after old.left count)
        ≡ false = subst (λ left. is_blown left ≡ false) before.left unblown in
        record {
          lets = lets_more old.left count before.lets here;
          left = ap (λ (d : FuseDisk D). d.left) is ∙ ap (burnt mid.fail) before.left
              ∙ left_more mid.fail old.left count here;
          fail = ap (λ (d : FuseDisk D). d.fail) is ∙ before.fail;
          failures = ap (λ (d : FuseDisk D). d.failures) is ∙ before.failures;
        }

    pub one_blown : is_blown mid.left ≡ true → new.left ≡ burnt mid.fail mid.left → new.fail ≡ mid.fail
        → HasBlown count old new
    one_blown blown left fail = record {
      at = blown_at old.left count before.lets (subst (λ l. is_blown l ≡ true) before.left blown);
      left = left ∙ left_blown mid.fail mid.left blown ∙ ap left_behind before.fail;
      fail = fail ∙ before.fail;
    }

    -- The next call of the run, a read or a write, by what it states about the disk under the fuse.
    module _ (state : D → DiskState) (below : (state mid.inner).failures ≡ (state old.inner).failures) where
      pub read_passed : (n : ℕ) (answer : Result (List ℕ) Fault) → (IsErrOf answer Device → ⊥)
          → (is_blown mid.left ≡ true → IsErrOf answer Device × (new ≡ refused mid))
          → (is_blown mid.left ≡ false → IsRead n (state mid.inner) (state new.inner) answer
          × (new ≡ passed mid new.inner))
          → HavePassed (count + 1) old new × ((state new.inner).failures ≡ (state old.inner).failures)
      read_passed n answer served blown unblown =
          let whole : is_blown mid.left
          ≡ false = false_from_ne_true (is_blown mid.left) (λ is. served (blown is).0) in
          (one_passed whole (unblown whole).1, (unblown whole).0.served served ∙ below)

      pub read_failed : (n total : ℕ) (answer : Result (List ℕ) Fault) → count < total → IsErrOf answer Device
          → (is_blown mid.left ≡ true → IsErrOf answer Device × (new ≡ refused mid))
          → (is_blown mid.left ≡ false → IsRead n (state mid.inner) (state new.inner) answer
          × (new ≡ passed mid new.inner))
          → HasFailedRead state total old new
      read_failed n total answer within failed blown unblown = (
        count,
        within,
        ⊎_elim
            (λ is. inl (
              one_blown is (ap (λ (d : FuseDisk D). d.left) (blown is).1)
                  (ap (λ (d : FuseDisk D). d.fail) (blown is).1),
              ap (λ (d : FuseDisk D). d.failures) (blown is).1 ∙ ap one_more before.failures,
            ))
            (λ is. inr (record {
              passed = one_passed is (unblown is).1;
              below = (unblown is).0.failed failed ∙ ap one_more below;
            }))
            (true_or_false (is_blown mid.left)),
      )

      pub write_passed : (n : ℕ) (words : List ℕ) (done : Unit {0})
          → (is_blown mid.left ≡ true → IsErrOf {T = Unit {0}} (Ok done) Device
          × IsMadeAnyway (IsWrite n words (state mid.inner) (state new.inner)) mid new)
          → (is_blown mid.left ≡ false → IsWrite n words (state mid.inner) (state new.inner) (Ok done)
          × (new ≡ passed mid new.inner))
          → HavePassed (count + 1) old new × ((state new.inner).failures ≡ (state old.inner).failures)
      write_passed n words done blown unblown =
          let whole : is_blown mid.left
          ≡ false = false_from_ne_true (is_blown mid.left) (λ is. no_fault done Device (blown is).0) in
          (one_passed whole (unblown whole).1, (unblown whole).0.served ∙ below)

      -- a write that blew the fuse was made all the same; the fuse or the disk under it counts the failure
      counted : (n : ℕ) (words : List ℕ) (answer : Result (Unit {0}) Fault)
          → IsWrite n words (state mid.inner) (state new.inner) answer → new.failures ≡ own_failures answer mid.failures
          → IsCountedOnce state old new
      counted n words (Ok done) write own = inl (own ∙ ap one_more before.failures, write.served ∙ below)
      counted n words (Err Device) write own = inr (own ∙ before.failures, write.failed refl ∙ ap one_more below)
      counted n words (Err Damaged) write own = absurd (write.device refl)

      pub write_failed : (first n total : ℕ) (blocks : List (List ℕ)) (words : List ℕ) (fault : Fault) → count < total
          → n ≡ first + count → IsPartWrite first count blocks (fuse_state state old) (fuse_state state mid)
          → IsWrite n words (fuse_state state mid) (fuse_state state new) (Err fault)
          → (is_blown mid.left ≡ true → IsErrOf {T = Unit {0}} (Err fault) Device
          × IsMadeAnyway (IsWrite n words (state mid.inner) (state new.inner)) mid new)
          → (is_blown mid.left ≡ false → IsWrite n words (state mid.inner) (state new.inner) (Err fault)
          × (new ≡ passed mid new.inner))
          → HasFailedWrite state first total old new
      write_failed first n total blocks words Damaged within at part write blown unblown = absurd (write.device refl)
      write_failed first n total blocks words Device within at part write blown unblown = record {
        k = count;
        within = within;
        how = ⊎_elim
            (λ is.
            let made = (blown is).1 in
            inl (
              one_blown is (ap (λ (d : FuseDisk D). d.left) made.2) (ap (λ (d : FuseDisk D). d.fail) made.2),
              counted n words made.0 made.1 (ap (λ (d : FuseDisk D). d.failures) made.2),
            ))
            (λ is. inr (record {
              passed = one_passed is (unblown is).1;
              below = (unblown is).0.failed refl ∙ ap one_more below;
            }))
            (true_or_false (is_blown mid.left));
        reached = λ h. modifies_write (IsInRun first (count + 1)) n (fuse_state state old) (fuse_state state mid)
            (fuse_state state new) (omega (arith, at), omega (arith, at))
            (modifies_wider (IsInRun first count) (IsInRun first (count + 1)) (fuse_state state old)
            (fuse_state state mid) (λ m inside. (inside.0, omega (arith, inside.1)))
            (part.writes (write.same.was_honest h)))
            (write.writes h);
      }
