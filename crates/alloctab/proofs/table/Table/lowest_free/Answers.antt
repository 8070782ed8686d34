use Rattle.std.proofs.Common.{ℕ, ◌+◌, ◌*◌, ◌/◌, ◌<◌, Option, Some, None, IfNone, refl, sym, ◌∙◌, subst, arith}
use Rattle.alloctab.specs.Common.{TableState, IsTable, IsFree}
use Rattle.alloctab.proofs.LowestLaws.{lowest_of}
use Rattle.alloctab.proofs.MemoryLaws.{sound, rest_is, found_inside, found_free, none_earlier, none_found}
use Rattle.alloctab.proofs.table.Table.lowest_free.Goals as goal

pub returns-in_err-n-clause-none : goal.returns-in_err-n-clause-none
returns-in_err-n-clause-none c =
    let first = c.self.inside.hint / 36 in
    let set_is = rest_is c.deref.result.now c.self.inside.set.items first c.deref.ensures.value in
    let held_is = rest_is c.deref-2.result.now c.self.inside.held.items first c.deref-2.ensures.value in
    let found = lowest_of _ _ None (sym c.in_err-n.was ∙ c.first_clear.ensures) in
    subst (λ (o : Option ℕ). IfNone o ((m : ℕ) → m < c.args.self.now.size → IsFree c.args.self.now m → ⊥))
    (sym c.from_residual.ensures)
    (subst (λ (t : TableState). (m : ℕ) → m < t.size → IsFree t m → ⊥) c.self.view_is
    (none_found _ _ _ _ _ _ c.self.invariant c.self.inside.booked first _ _ refl set_is held_is found))

pub overflow_add-n : goal.overflow_add-n
overflow_add-n c =
    let first = c.self.inside.hint / 36 in
    let set_is = rest_is c.deref.result.now c.self.inside.set.items first c.deref.ensures.value in
    let held_is = rest_is c.deref-2.result.now c.self.inside.held.items first c.deref-2.ensures.value in
    let found = lowest_of _ _ (Some c.in_ok-n.field-0) (sym c.in_ok-n.was ∙ c.first_clear.ensures) in
    let inside = found_inside _ _ _ _ _ _ c.self.invariant c.self.inside.booked first _ _ refl set_is held_is
    c.in_ok-n.field-0 found in
    let long = c.self.invariant.set_long in
    let large = c.self.invariant.volume.large in
    omega arith

pub returns-in_err-n-clause-sound : goal.returns-in_err-n-clause-sound
returns-in_err-n-clause-sound c =
    subst IsTable c.self.view_is (sound _ _ _ _ _ _ c.self.invariant c.self.inside.booked)

pub returns-then-n-self-clause-free : goal.returns-then-n-self-clause-free
returns-then-n-self-clause-free c =
    let first = c.self.inside.hint / 36 in
    let n = first * 36 + c.in_ok-n.field-0 in
    let set_is = rest_is c.deref.result.now c.self.inside.set.items first c.deref.ensures.value in
    let held_is = rest_is c.deref-2.result.now c.self.inside.held.items first c.deref-2.ensures.value in
    let found = lowest_of _ _ (Some c.in_ok-n.field-0) (sym c.in_ok-n.was ∙ c.first_clear.ensures) in
    subst (λ (t : TableState). (n < t.size) × IsFree t n) c.self.view_is (
      c.if-n-self.true,
      found_free _ _ _ _ _ _ c.self.invariant c.self.inside.booked first _ _ refl set_is held_is c.in_ok-n.field-0 found
          c.if-n-self.true,
    )

pub returns-then-n-self-clause-lowest : goal.returns-then-n-self-clause-lowest
returns-then-n-self-clause-lowest c =
    let first = c.self.inside.hint / 36 in
    let n = first * 36 + c.in_ok-n.field-0 in
    let set_is = rest_is c.deref.result.now c.self.inside.set.items first c.deref.ensures.value in
    let held_is = rest_is c.deref-2.result.now c.self.inside.held.items first c.deref-2.ensures.value in
    let found = lowest_of _ _ (Some c.in_ok-n.field-0) (sym c.in_ok-n.was ∙ c.first_clear.ensures) in
    subst (λ (t : TableState). (m : ℕ) → m < n → IsFree t m → ⊥) c.self.view_is (λ m before.
    none_earlier _ _ _ _ _ _ c.self.invariant c.self.inside.booked first _ _ refl set_is held_is c.in_ok-n.field-0 found
    m before (let inside = c.if-n-self.true in omega arith))

pub returns-then-n-self-clause-sound : goal.returns-then-n-self-clause-sound
returns-then-n-self-clause-sound c =
    subst IsTable c.self.view_is (sound _ _ _ _ _ _ c.self.invariant c.self.inside.booked)

pub returns-else-n-self-clause-none : goal.returns-else-n-self-clause-none
returns-else-n-self-clause-none c =
    let first = c.self.inside.hint / 36 in
    let set_is = rest_is c.deref.result.now c.self.inside.set.items first c.deref.ensures.value in
    let held_is = rest_is c.deref-2.result.now c.self.inside.held.items first c.deref-2.ensures.value in
    let found = lowest_of _ _ (Some c.in_ok-n.field-0) (sym c.in_ok-n.was ∙ c.first_clear.ensures) in
    subst (λ (t : TableState). (m : ℕ) → m < t.size → IsFree t m → ⊥) c.self.view_is (λ m inside.
    none_earlier _ _ _ _ _ _ c.self.invariant c.self.inside.booked first _ _ refl set_is held_is c.in_ok-n.field-0 found
    m (let beyond = c.if-n-self.false in omega arith) inside)

pub returns-else-n-self-clause-sound : goal.returns-else-n-self-clause-sound
returns-else-n-self-clause-sound c =
    subst IsTable c.self.view_is (sound _ _ _ _ _ _ c.self.invariant c.self.inside.booked)
