-- What taking blocks, giving them up and bringing them into use does to a table.
use Rattle.std.proofs.Common.{◌≡◌, ℕ, zero, suc, ◌+◌, ◌-◌, ◌/◌, ◌<◌, ◌≤◌, ◌⊎◌, inl, inr, ⊎_elim, Bool, true, false}
use Rattle.std.proofs.Common.{if◌then◌else◌, List, [], ◌∷◌, length, slice_set, slice_index, replicate, option_to_list}
use Rattle.std.proofs.Common.{Option, Some, None, refl, sym, ◌∙◌, ap, subst, arith}
use Rattle.std.proofs.lemmas.Bool.{cases_eq}
use Rattle.std.proofs.lemmas.List.{set-set, set-get_or, get_or_past}
use Rattle.std.specs.List.{AllByRecursion}
use Rattle.blockdisk.specs.Common.{Contents}
use Rattle.changeset.specs.Common.{times_tail}
use Rattle.spec_image.specs.declared.put.Put.{Put}
use Rattle.spec_image.specs.Common.{times, IsTarget, targets, with_puts, table_blocks, table_start, space_start}
use Rattle.spec_image.specs.Common.{InSpace}
use Rattle.alloctab.specs.Common.{TableState, IsTable, IsFree, IsChanged, bit, holds, used_in_space, changed_blocks}
use Rattle.alloctab.specs.Common.{with_bit, with_held, holds-with_held_same, bit-with_bit_other, bit-taken}
use Rattle.alloctab.specs.Common.{changed-with_bit_same, changed-with_bit_other, sound-with_bit, sound-with_held}
use Rattle.alloctab.specs.Common.{sound-booked, changed_blocks-le, changed_blocks-le-most, IsChangedBlock}
use Rattle.alloctab.specs.Common.{SpellsTable}
use Rattle.retrieval.specs.Common.{Takes, IsFixed}
use Rattle.spec_image.proofs.Common.{times_here, times_later}
use Rattle.retrieval.proofs.TakenBlocks.{free_before, free_in_space, used_one_more, takes_each}
use Rattle.volume.specs.Common.{Marks, taken, released, put_in_use, Uses, with_booked, TakesBlocks, PutsTable}

-- Released.

-- holding a block as often as it was held is no change
held_back : (t : TableState) (n x count : ℕ) → count ≡ holds t n → with_held (with_held t n x) n count ≡ t
held_back t n x count is =
    let held : slice_set (slice_set t.held n x) n count ≡ t.held = set-set t.held n x count ∙ ap (slice_set t.held n) is
    ∙ set-get_or t.held n 0 in
    ap (λ (l : List ℕ). record t { held = l }) held

pub released_taken : (t : TableState) (n : ℕ) → IsTable t → n < t.size → released (taken t n) n ≡ t
released_taken t n sound inside = held_back t n (holds t n + 1) (holds (taken t n) n - 1)
    (let e = holds-with_held_same t n (holds t n + 1) sound inside in omega arith)

pub gives_back : (t t' t'' : TableState) (n : ℕ) → IsTable t → n < t.size → t' ≡ taken t n → t'' ≡ released t' n
    → t'' ≡ t
gives_back t t' t'' n sound inside took gave = gave ∙ ap (λ (u : TableState). released u n) took
    ∙ released_taken t n sound inside

-- Brought into use.

pub uses_none : (t : TableState) → IsTable t → Uses t t []
uses_none t sound = record {
  sound = sound;
  size = refl;
  held = refl;
  booked = refl;
  bits = λ n. omega arith;
  moved = λ n still. refl;
}

-- a block that isn't free isn't taken
pub takes_other : (t : TableState) (ns : List ℕ) (t' : TableState) → IsTable t → Takes t ns t' → (n : ℕ)
    → (IsFree t n → ⊥) → times n ns ≡ 0
takes_other t [] t' sound takes n stuck = refl
takes_other t (m ∷ ns) t' sound takes n stuck = ⊎_elim
    (λ is. absurd (stuck (subst (IsFree t) (sym is) takes.1)))
    (λ other. times_tail n m ns other ∙ takes_other (taken t m) ns t' (sound-with_held t m (holds t m + 1) sound)
    takes.2 n (λ free. stuck (free_before t m n sound takes.0 free).1)) (cases_eq n m)

-- the first block of the list is brought into use after the others
pub uses_more : (t : TableState) (n : ℕ) (ns : List ℕ) (t' u : TableState) → IsTable t → Takes t (n ∷ ns) t'
    → Uses (taken t n) u ns → Uses t (put_in_use u n) (n ∷ ns)
uses_more t n ns t' u sound takes uses =
    let inside : n < u.size = let a = takes.0 in let e = uses.size in omega arith in
    let sound' = sound-with_held t n (holds t n + 1) sound in
    let none : times n ns
    ≡ 0 = takes_other (taken t n) ns t' sound' takes.2 n (λ free. (free_before t n n sound takes.0 free).0 refl) in
    let clear : bit u n ≡ 0 = let e = uses.bits n in let z = takes.1.clear in omega arith in
    record {
      sound = sound-with_held (with_bit u n true) n (holds u n - 1) (sound-with_bit u n true uses.sound);
      size = uses.size;
      held = ap (λ (l : List ℕ). slice_set l n (slice_index l n - 1)) uses.held
          ∙ ap (λ (s : TableState). s.held) (released_taken t n sound takes.0);
      booked = uses.booked;
      bits = λ m. let e = bit-taken u n uses.sound inside clear m in let f = uses.bits m in sum m e f;
      moved = λ m still. ⊎_elim
          (λ is. absurd (still (subst (λ (j : ℕ). IsChanged (with_bit u n true) (j / 4608)) (sym is)
          (changed-with_bit_same u n true uses.sound inside))))
          (λ other. by_block m still other) (cases_eq m n);
    }
  where
    sum : (m : ℕ) → bit (with_bit u n true) m ≡ bit u m + times m (n ∷ []) → bit u m ≡ bit t m + times m ns
        → bit (with_bit u n true) m ≡ bit t m + times m (n ∷ ns)
    sum m e f = omega arith

    by_block : (m : ℕ) → (IsChanged (put_in_use u n) (m / 4608) → ⊥) → (m ≡ n → ⊥) → bit (put_in_use u n) m ≡ bit t m
    by_block m still other = bit-with_bit_other u n m true other ∙ uses.moved m (λ was. ⊎_elim
        (λ same. still (subst (λ (i : ℕ). IsChanged (with_bit u n true) i) (sym same)
        (changed-with_bit_same u n true uses.sound (let a = takes.0 in let e = uses.size in omega arith))))
        (λ apart. still (changed-with_bit_other u n (m / 4608) true apart ∙ was)) (cases_eq (m / 4608) (n / 4608)))

-- Put.

pub changed_few : (t u : TableState) (ns : List ℕ) (count : ℕ) → Uses t u ns → count ≤ 2 → count + changed_blocks u ≤ 37
changed_few t u ns count uses few = let most = changed_blocks-le-most u uses.sound in omega arith

changed_inside : (u : TableState) (i : ℕ) → IsTable u → IsChanged u i → i < table_blocks u.size
changed_inside u i sound is = ⊎_elim (λ below. omega (arith, sound.changed_are))
    (λ past. absurd (false_true (sym (get_or_past u.changed i false past) ∙ is))) (cases_le i (length u.changed))
  where
    false_true : false ≡ true → ⊥
    false_true e = cc

    cases_le : (n m : ℕ) → (n < m) ⊎ (m ≤ n)
    cases_le n zero = inr (omega arith)
    cases_le zero (suc m) = inl (omega arith)
    cases_le (suc n) (suc m) = ⊎_elim (λ a. inl (omega arith)) (λ a. inr (omega arith)) (cases_le n m)

module _ (t u t' : TableState) (ns : List ℕ) (before after : List Put) (uses : Uses t u ns) (is : t'
    ≡ record u { changed = replicate (table_blocks u.size) false }) where
  bits_are : (n : ℕ) → bit u n ≡ bit t' n
  bits_are n = ap (λ (v : TableState). bit v n) (sym is)

  pub puts_table : ((c : Contents) (n : ℕ) → (IsChangedBlock u n → ⊥) → with_puts after c n ≡ with_puts before c n)
      → ((c : Contents) → SpellsTable u (with_puts before c) (with_puts after c))
      → (AllByRecursion (IsTarget u.size) (targets before) → AllByRecursion (IsTarget u.size) (targets after))
      → length after ≤ length before + changed_blocks u → PutsTable t.size t t' before after
  puts_table others spells in_range few = subst (λ (n : ℕ). PutsTable n t t' before after) uses.size (record {
    spells = λ c old n. (spells c).bits (λ m still. old m ∙ sym (uses.moved m still)) n ∙ bits_are n;
    undamaged = λ c old i below. (spells c).undamaged i below (inl (old i below));
    others = λ c n away. others c n (λ at. outside n at away);
    in_range = in_range;
    few = let most = changed_blocks-le u uses.sound in omega arith;
  })
    where
      outside : (n : ℕ) → IsChangedBlock u n → (n < table_start u.size) ⊎ (space_start u.size ≤ n) → ⊥
      outside n at away =
          let i = at.i in
          let inside : i < table_blocks u.size = changed_inside u at.i uses.sound at.changed in
          let place : n ≡ table_start u.size + i = at.block in
          ⊎_elim (λ low. omega arith) (λ high. omega arith) away

-- The same of bits that were set and cleared.
pub puts_marked : (t u t' : TableState) (before after : List Put) → Marks t u
    → t' ≡ record u { changed = replicate (table_blocks u.size) false }
    → ((c : Contents) (n : ℕ) → (IsChangedBlock u n → ⊥) → with_puts after c n ≡ with_puts before c n)
    → ((c : Contents) → SpellsTable u (with_puts before c) (with_puts after c))
    → (AllByRecursion (IsTarget u.size) (targets before) → AllByRecursion (IsTarget u.size) (targets after))
    → length after ≤ length before + changed_blocks u → PutsTable t.size t t' before after
puts_marked t u t' before after marks is others spells in_range few = subst
    (λ (n : ℕ). PutsTable n t t' before after) marks.size (record {
      spells = λ c old n. (spells c).bits (λ m still. old m ∙ sym (marks.moved m still)) n
          ∙ ap (λ (v : TableState). bit v n) (sym is);
      undamaged = λ c old i below. (spells c).undamaged i below (inl (old i below));
      others = λ c n away. others c n (λ at. outside n at away);
      in_range = in_range;
      few = let most = changed_blocks-le u marks.sound in omega arith;
    })
  where
    outside : (n : ℕ) → IsChangedBlock u n → (n < table_start u.size) ⊎ (space_start u.size ≤ n) → ⊥
    outside n at away =
        let i = at.i in
        let inside : i < table_blocks u.size = changed_inside u at.i marks.sound at.changed in
        let place : n ≡ table_start u.size + i = at.block in
        ⊎_elim (λ low. omega arith) (λ high. omega arith) away

-- If one block was taken, another one is still booked.
pub second_booked : (t u : TableState) (n : ℕ) (grows : Bool) → grows ≡ true → IsTable t → IsFixed t → n < t.size
    → IsFree t n → u ≡ taken t n → used_in_space t + (if grows then 2 else 1) ≤ t.booked → used_in_space u < u.booked
second_booked t u n false grown sound fixed inside free took enough = cc
second_booked t u n true grown sound fixed inside free took enough =
    let one = used_one_more t n sound fixed inside free in
    subst (λ (v : TableState). used_in_space v < v.booked) (sym took) (omega arith)

-- The blocks of a new directory: its own, and perhaps one more, which was taken last.

pub second_of : (t : TableState) (n k : ℕ) (o : Option ℕ) (t' : TableState) → o ≡ Some k → IsTable t
    → Takes t (n ∷ option_to_list o) t' → (k < t.size) × IsTable (taken t n) × (t' ≡ taken (taken t n) k)
second_of t n k o t' is sound takes =
    let both : Takes t (n ∷ k ∷ []) t' = subst (λ (p : Option ℕ). Takes t (n ∷ option_to_list p) t') is takes in
    (both.2.0, sound-with_held t n (holds t n + 1) sound, both.2.2)

pub first_of : (t : TableState) (n : ℕ) (o : Option ℕ) (t' : TableState) → o ≡ None → Takes t (n ∷ option_to_list o) t'
    → t' ≡ taken t n
first_of t n o t' is takes = (subst (λ (p : Option ℕ). Takes t (n ∷ option_to_list p) t') is takes).2

-- released
pub gives_two : (t : TableState) (n k : ℕ) (o : Option ℕ) (t' v w : TableState) → o ≡ Some k → IsTable t
    → Takes t (n ∷ option_to_list o) t' → v ≡ released t' k → w ≡ released v n → w ≡ t
gives_two t n k o t' v w is sound takes first second =
    let two = second_of t n k o t' is sound takes in
    gives_back t v w n sound takes.0 (gives_back (taken t n) t' v k two.1 two.0 two.2 first) second

-- brought into use
pub uses_one : (t : TableState) (n : ℕ) (o : Option ℕ) (t' v w : TableState) → o ≡ None → IsTable t
    → Takes t (n ∷ option_to_list o) t' → v ≡ t' → w ≡ put_in_use v n → Uses t w (n ∷ option_to_list o)
uses_one t n o t' v w is sound takes same second =
    let one : Takes t (n ∷ []) t' = subst (λ (p : Option ℕ). Takes t (n ∷ option_to_list p) t') is takes in
    let sound' = sound-with_held t n (holds t n + 1) sound in
    let begun : Uses (taken t n) v [] = subst (λ (u : TableState). Uses (taken t n) u []) (sym (same ∙ one.2))
    (uses_none (taken t n) sound') in
    subst (λ (p : Option ℕ). Uses t w (n ∷ option_to_list p)) (sym is)
    (subst (λ (u : TableState). Uses t u (n ∷ [])) (sym second) (uses_more t n [] t' v sound one begun))

pub uses_two : (t : TableState) (n k : ℕ) (o : Option ℕ) (t' v w : TableState) → o ≡ Some k → IsTable t
    → Takes t (n ∷ option_to_list o) t' → v ≡ put_in_use t' k → w ≡ put_in_use v n → Uses t w (n ∷ option_to_list o)
uses_two t n k o t' v w is sound takes first second =
    let two : Takes t (n ∷ k ∷ []) t' = subst (λ (p : Option ℕ). Takes t (n ∷ option_to_list p) t') is takes in
    let sound' = sound-with_held t n (holds t n + 1) sound in
    let sound'' = sound-with_held (taken t n) k (holds (taken t n) k + 1) sound' in
    let begun : Uses (taken (taken t n) k) t' [] = subst (λ (u : TableState). Uses (taken (taken t n) k) u [])
    (sym two.2.2) (uses_none (taken (taken t n) k) sound'') in
    let middle : Uses (taken t n) v (k ∷ []) = subst (λ (u : TableState). Uses (taken t n) u (k ∷ []))
    (sym first) (uses_more (taken t n) k [] t' t' sound' two.2 begun) in
    subst (λ (p : Option ℕ). Uses t w (n ∷ option_to_list p)) (sym is)
    (subst (λ (u : TableState). Uses t u (n ∷ k ∷ [])) (sym second) (uses_more t n (k ∷ []) t' v sound two middle))

-- Blocks that were booked before they were taken.
pub made_table : (size : ℕ) (t b t' : TableState) (blocks : List ℕ) (count : ℕ) (before after : List Put)
    → t.size ≡ size → b ≡ record t { booked = t.booked + count } → count ≡ length blocks
    → TakesBlocks b t' blocks → PutsTable b.size b t' before after
    → TakesBlocks (with_booked t (length blocks)) t' blocks × PutsTable size t t' before after
made_table size t b t' blocks count before after same booked many takes puts =
    let is : b ≡ with_booked t (length blocks) = booked ∙ ap (with_booked t) many in
    let all : PutsTable t.size (with_booked t (length blocks)) t' before after = subst
    (λ (v : TableState). PutsTable v.size v t' before after) is puts in (
      subst (λ (v : TableState). TakesBlocks v t' blocks) is takes,
      subst (λ (n : ℕ). PutsTable n t t' before after) same
          (record {
            spells = all.spells;
            undamaged = all.undamaged;
            others = all.others;
            in_range = all.in_range;
            few = all.few;
          }),
    )

-- Blocks that were taken were free, and lie in the free space.
pub taken_free : (t b t' : TableState) (count : ℕ) (blocks : List ℕ) → IsTable t → IsFixed t
    → b ≡ record t { booked = t.booked + count } → Takes b blocks t'
    → AllByRecursion (IsFree t) blocks × AllByRecursion (InSpace t.size) blocks
taken_free t b t' count blocks sound fixed booked takes =
    let takes' : Takes (with_booked t count) blocks t' = subst (λ (v : TableState). Takes v blocks t') booked takes in
    let each = takes_each (with_booked t count) blocks t' (sound-booked t (t.booked + count) sound) fixed takes' in
    let free : (n : ℕ) → 0 < times n blocks
    → IsFree t n = λ n there. record { clear = (each n there).1.clear; unheld = (each n there).1.unheld } in (
      all_of (IsFree t) blocks free,
      all_of (InSpace t.size) blocks
          (λ n there. record { from = free_in_space t n fixed (free n there); below = (each n there).0 }),
    )
  where
    all_of : (P : ℕ → Type 0) (ns : List ℕ) → ((n : ℕ) → 0 < times n ns → P n) → AllByRecursion P ns
    all_of P [] has = tt
    all_of P (n ∷ ns) has = (has n (times_here n ns), all_of P ns (λ m there. has m (times_later m n ns there)))

pub sound_booked : (t b : TableState) (count : ℕ) → IsTable t → b ≡ record t { booked = t.booked + count } → IsTable b
sound_booked t b count sound booked = subst IsTable (sym booked) (sound-booked t (t.booked + count) sound)
