-- A version becomes the file of its name: the slots of it and of the one before, and lists of which one element
-- changes.
use Rattle.std.proofs.Common.{◌≡◌, ℕ, zero, suc, ◌+◌, ◌<◌, ◌≤◌, ◌==◌, ◌⊎◌, inl, inr, ⊎_elim, Bool, true, false}
use Rattle.std.proofs.Common.{if◌then◌else◌, List, [], ◌∷◌, slice_set, Option, Some, None, slice_index_or, refl, sym}
use Rattle.std.proofs.Common.{ap, subst, ◌∙◌, arith, eqb-true}
use Rattle.std.proofs.lemmas.Bool.{cases_eq}
use Rattle.std.proofs.lemmas.List.{get_or-set_other}
use Rattle.std.specs.List.{AllByRecursion}
use Rattle.blockdisk.specs.Common.{Contents}
use Rattle.spec_image.specs.declared.put.Put.{Put}
use Rattle.spec_image.specs.Common.{total, times}
use Rattle.spec_image.proofs.Common.{some_same, some_none}
use Rattle.volume.specs.Common.{blocks_reached, given_up, cost_before, MemoryMap, slot, pending_at, pinned_reaches}
use Rattle.volume.specs.Common.{pinned_cost, current_reaches, Entered, before, live_left, IsEnded, HasOtherKey}
use Rattle.volume.specs.Common.{MakesCurrent, AreDated, HasSomeBody}
use Rattle.volume.specs.declared.live.LiveVersion.{LiveVersion}
use Rattle.volume.specs.declared.pending.PendingVersion.{PendingVersion}
use Rattle.volume.proofs.common.VersionKeys.{all_slots}
use Rattle.volume.proofs.common.LiveBodies.{HaveBodies}
use Rattle.volume.proofs.common.LiveTotals.{total_updated}
use Rattle.volume.proofs.PinVersion.Pins.{each_slot, total_at}

-- One element of a list is another.

-- The cost of directories with their entries and those that will come.

-- The version of before.

-- the slot that it was in
abbrev pub entered : Entered → Option LiveVersion
entered None = None
entered (Some o) = Some o.1

-- what is left of one
abbrev pub left : LiveVersion → Option LiveVersion
left v = live_left (Some (0, v))

pub left_cases : (v : LiveVersion) → ((v.readers ≡ 0) × (left v ≡ None))
    ⊎ (left v ≡ Some (record v { is_current = false }))
left_cases v = by (v.readers == 0) refl
  where
    by : (b : Bool) → (v.readers == 0) ≡ b
        → ((v.readers ≡ 0) × ((if b then None else Some (record v { is_current = false })) ≡ None))
        ⊎ ((if b then None else Some (record v { is_current = false })) ≡ Some (record v { is_current = false }))
    by true is = inl (eqb-true v.readers 0 is, refl)
    by false is = inr refl

left_reaches : (n : ℕ) (v : LiveVersion) → current_reaches n (left v) ≡ 0
left_reaches n v = ⊎_elim (λ none. ap (current_reaches n) none.1) (λ some. ap (current_reaches n) some) (left_cases v)

left_held : (n : ℕ) (v : LiveVersion) → pinned_reaches n (left v) ≤ times n (blocks_reached v.at v.version)
left_held n v = ⊎_elim (λ none. let is = ap (pinned_reaches n) none.1 in
    omega arith) (λ some. let is = ap (pinned_reaches n) some in omega arith) (left_cases v)

left_cost : (v : LiveVersion) → pinned_cost (left v) ≤ cost_before (before (Some (0, v)))
left_cost v = ⊎_elim (λ none. let is = ap pinned_cost none.1 in omega arith) (λ some. let is = ap pinned_cost some in
    omega arith) (left_cases v)

-- What it counts for, before and after.
pub record Counts (live : List (Option LiveVersion)) (old : Entered) (n : ℕ) : Type 0 where
  pub current : current_reaches n (entered old) ≡ given_up n (before old)
  pub unheld : pinned_reaches n (entered old) ≡ 0
  pub uncosted : pinned_cost (entered old) ≡ 0
  pub ended : current_reaches n (live_left old) ≡ 0
  pub held : pinned_reaches n (live_left old) ≤ given_up n (before old)
  pub cost : pinned_cost (live_left old) ≤ cost_before (before old)
  pub within : given_up n (before old) ≤ total (current_reaches n) live

pub counts : (live live' : List (Option LiveVersion)) (old : Entered) (n : ℕ) → IsEnded live live' old
    → Counts live old n
counts live live' None n is = record {
  current = refl;
  unheld = refl;
  uncosted = refl;
  ended = refl;
  held = omega arith;
  cost = omega arith;
  within = omega arith;
}
counts live live' (Some o) n is =
    let v = o.1 in
    let reached = times n (blocks_reached v.at v.version) in
    let current : current_reaches n (Some v)
    ≡ reached = ap (λ (b : Bool). if b then times n (blocks_reached v.at v.version) else 0) is.1 in
    record {
      current = current;
      unheld = ap (λ (b : Bool). if b then 0 else times n (blocks_reached v.at v.version)) is.1;
      uncosted = ap (λ (b : Bool). if b then 0 else cost_before (before (Some o))) is.1;
      ended = left_reaches n v;
      held = left_held n v;
      cost = left_cost v;
      within = let part = total_at (current_reaches n) refl live o.0 in let here = ap (current_reaches n) is.0 in
          omega arith;
    }

-- The versions in use: one is new, and what is left of the one before is in its slot.

pub set_here : {X : Type 0} (slots : List (Option X)) (k : ℕ) (q : X) (x : Option X)
    → slice_index_or slots k None ≡ Some q
    → slice_index_or (slice_set slots k x) k None ≡ x
set_here [] k q x is = absurd (some_none (sym is))
set_here (o ∷ slots) zero q x is = refl
set_here (o ∷ slots) (suc k) q x is = set_here slots k q x is

pub made_current_total : (f : Option LiveVersion → ℕ) → f None ≡ 0
    → (live live' : List (Option LiveVersion)) (old : Entered) (key : ℕ) (x : Option LiveVersion) → slot live key ≡ None
    → slot live' key ≡ x → IsEnded live live' old
    → ((k : ℕ) → (k ≡ key → ⊥) → HasOtherKey old k → slot live' k ≡ slot live k)
    → total f live' + f (entered old) ≡ total f live + f x + f (live_left old)
made_current_total f none live live' None key x vacant here ended others =
    let all = total_updated f none live live' key x here (λ k other. others k other tt) in
    let was = ap f vacant in
    omega arith
made_current_total f none live live' (Some o) key x vacant here ended others =
    let mid = slice_set live o.0 (live_left (Some o)) in
    let apart : key ≡ o.0 → ⊥ = λ same. some_none (sym ended.0 ∙ sym (ap (slot live) same) ∙ vacant) in
    let first = total_updated f none live mid o.0 (live_left (Some o))
    (set_here live o.0 o.1 (live_left (Some o)) ended.0)
    (λ k other. elsewhere k other) in
    let second = total_updated f none mid live' key x here (λ k other. ⊎_elim
    (λ (same : k ≡ o.0). ap (slot live') same ∙ ended.2 ∙ sym (set_here live o.0 o.1 (live_left (Some o)) ended.0)
    ∙ sym (ap (slot mid) same))
    (λ differs. others k other differs ∙ sym (elsewhere k differs)) (cases_eq k o.0)) in
    let was = ap f ended.0 in
    let empty = ap f (elsewhere key apart ∙ vacant) in
    omega arith
  where
    elsewhere : (k : ℕ) → (k ≡ o.0 → ⊥) → slot (slice_set live o.0 (live_left (Some o))) k ≡ slot live k
    elsewhere k other = get_or-set_other live o.0 k (live_left (Some o)) None other

-- another slot is as it was, or has what is left of the one before
pub made_current_slot : (live live' : List (Option LiveVersion)) (old : Entered) (key : ℕ) → IsEnded live live' old
    → ((k : ℕ) → (k ≡ key → ⊥) → HasOtherKey old k → slot live' k ≡ slot live k)
    → (k : ℕ) → (k ≡ key → ⊥) → (slot live' k ≡ slot live k)
    ⊎ ((v : LiveVersion) × (slot live k ≡ Some v) × (slot live' k ≡ left v))
made_current_slot live live' None key ended others k other = inl (others k other tt)
made_current_slot live live' (Some o) key ended others k other = ⊎_elim
    (λ (same : k ≡ o.0). inr (o.1, ap (slot live) same ∙ ended.0, ap (slot live') same ∙ ended.2))
    (λ differs. inl (others k other differs)) (cases_eq k o.0)

module _ (size : ℕ) (c c' : MemoryMap) (key : ℕ) (p : PendingVersion) (at : ℕ) (ribs : List ℕ) (puts : List Put)
    (is : MakesCurrent size c c' key p at ribs puts) where
  pub slot_of : (k : ℕ) → (k ≡ is.new_key → ⊥) → (slot c'.live k ≡ slot c.live k)
      ⊎ ((v : LiveVersion) × (slot c.live k ≡ Some v) × (slot c'.live k ≡ left v))
  slot_of = made_current_slot c.live c'.live is.old is.new_key is.ended is.others

  -- what holds of all versions, and of what is left of them, still does
  pub made_current_all : (P : Option LiveVersion → Type 0) → P None → P (slot c'.live is.new_key)
      → ((v : LiveVersion) → P (Some v) → P (Some (record v { is_current = false }))) → AllByRecursion P c.live
      → AllByRecursion P c'.live
  made_current_all P none new ends all = all_slots P c'.live (λ k. ⊎_elim
      (λ (same : k ≡ is.new_key). subst (λ n. P (slot c'.live n)) (sym same) new)
      (λ other. ⊎_elim
      (λ kept. subst P (sym kept) (each_slot P none c.live all k))
      (λ ended. subst P (sym ended.2) (⊎_elim
      (λ gone. subst P (sym gone.1) none)
      (λ stays. subst P (sym stays) (ends ended.0 (subst P ended.1 (each_slot P none c.live all k))))
      (left_cases ended.0)))
      (slot_of k other)) (cases_eq k is.new_key))

  -- a pinned version is still there
  pub made_current_readers : (k : ℕ) (v : LiveVersion) → slot c.live k ≡ Some v → 0 < v.readers
      → (b : Bool) × (slot c'.live k ≡ Some (record v { is_current = b }))
  made_current_readers k v there read = ⊎_elim
      (λ kept. (v.is_current, kept ∙ there))
      (λ ended.
      let same : ended.0 ≡ v = some_same (sym ended.1 ∙ there) in (
        false,
        ⊎_elim
            (λ gone. absurd (let readers = ap (λ (u : LiveVersion). u.readers) same in let none = gone.0 in
            omega arith))
            (λ stays. ended.2 ∙ stays ∙ ap (λ (u : LiveVersion). Some (record u { is_current = false })) same)
            (left_cases ended.0),
      ))
      (slot_of k (λ (same : k ≡ is.new_key). some_none (sym there ∙ ap (slot c.live) same ∙ is.vacant)))

-- each that is still being written has its moment
pub published_dated : (size : ℕ) (c c' : MemoryMap) (key : ℕ) (p : PendingVersion) (at : ℕ) (ribs : List ℕ)
    (puts : List Put) → MakesCurrent size c c' key p at ribs puts → (layout : ℕ) → AreDated layout c
    → AreDated layout c'
published_dated size c c' key p at ribs puts is layout dated k q there = ⊎_elim
    (λ (same : k ≡ key). absurd (some_none (sym there ∙ ap (pending_at c'.pending) same ∙ is.gone)))
    (λ other. dated k q (sym (is.other_pending k other) ∙ there)) (cases_eq k key)

-- the words of each are there, and nobody reads the new one yet
pub made_current_bodies : (contents : Contents) (size : ℕ) (c c' : MemoryMap) (key : ℕ) (p : PendingVersion)
    (at : ℕ) (ribs : List ℕ) (puts : List Put) → MakesCurrent size c c' key p at ribs puts → HaveBodies contents c
    → HaveBodies contents c'
made_current_bodies contents size c c' key p at ribs puts is bodies = record {
  read = λ k v there read. ⊎_elim
      (λ (same : k ≡ is.new_key).
      let new = ap (λ (u : LiveVersion). u.readers) (some_same (sym there ∙ ap (slot c'.live) same ∙ is.here)) in
      absurd (omega arith))
      (λ other. ⊎_elim
      (λ kept. bodies.read k v (sym kept ∙ there) read)
      (λ ended. ⊎_elim
      (λ gone. absurd (some_none (sym there ∙ ended.2 ∙ gone.1)))
      (λ stays.
      let same : v ≡ record ended.0 { is_current = false } = some_same (sym there ∙ ended.2 ∙ stays) in
      let readers = ap (λ (u : LiveVersion). u.readers) same in
      subst (λ (u : LiveVersion). HasSomeBody contents u.version) (sym same)
      (bodies.read k ended.0 ended.1 (omega arith)))
      (left_cases ended.0))
      (slot_of size c c' key p at ribs puts is k other)) (cases_eq k is.new_key);
  written = λ k q there. ⊎_elim
      (λ (same : k ≡ key). absurd (some_none (sym there ∙ ap (pending_at c'.pending) same ∙ is.gone)))
      (λ other. bodies.written k q (sym (is.other_pending k other) ∙ there)) (cases_eq k key);
}
