-- The blocks that are taken for a version and for the chain of its directory, and how all of its blocks come into use.
use Rattle.std.proofs.Common.{◌≡◌, ⊎_elim, ℕ, ◌+◌, ◌<◌, ◌≤◌, List, [], ◌∷◌, ◌++◌, length, refl, sym, ap, subst, arith}
use Rattle.std.proofs.lemmas.Bool.{cases_eq}
use Rattle.changeset.specs.Common.{times_head, times_tail, some_or_none}
use Rattle.spec_image.specs.Common.{times}
use Rattle.spec_image.proofs.Common.{times-append}
use Rattle.alloctab.specs.Common.{TableState, IsTable, bit, holds, used_in_space, sound-with_held}
use Rattle.retrieval.specs.Common.{Takes, IsFixed}
use Rattle.retrieval.proofs.TakenBlocks.{Stays, takes_stays, takes_each, takes_apart, may_be_written}
use Rattle.volume.specs.Common.{taken, put_in_use, Marks, PutsInUse, TakesPlaces}
use Rattle.volume.proofs.common.BlockLists.{marks_none, marks_counts, held_inside, puts_in_use_none, puts_in_use_then}
use Rattle.volume.proofs.common.BlockLists.{puts_in_use_one}
use Rattle.volume.proofs.common.TableBits.{bit_few}
use Rattle.retrieval.proofs.GrownLists.{takes_table, takes_holds}

-- Blocks that are taken.

pub takes_append : (t : TableState) (xs : List ℕ) (u : TableState) (ys : List ℕ) (v : TableState) → Takes t xs u
    → Takes u ys v → Takes t (xs ++ ys) v
takes_append t [] u ys v first second = subst (λ (w : TableState). Takes w ys v) first second
takes_append t (n ∷ xs) u ys v first second = (first.0, first.1, takes_append (taken t n) xs u ys v first.2 second)

-- and none twice
pub takes_once : (t : TableState) (ns : List ℕ) (t' : TableState) → IsTable t → IsFixed t → Takes t ns t'
    → (n : ℕ) → times n ns ≤ 1
takes_once t [] t' sound fixed takes n = omega arith
takes_once t (m ∷ ns) t' sound fixed takes n = ⊎_elim
    (λ (is : n ≡ m).
    let one = times_head n m ns is in
    let none : times m ns ≡ 0 = (takes_apart t (m ∷ ns) t' sound fixed takes).0 in
    let same : times n ns ≡ times m ns = ap (λ (k : ℕ). times k ns) is in
    omega arith)
    (λ other.
    let tail = times_tail n m ns other in
    let rest = takes_once (taken t m) ns t' (sound-with_held t m (holds t m + 1) sound) fixed takes.2 n in
    omega arith) (cases_eq n m)

-- What is booked is enough for the others too.
pub booked_after : (t t' : TableState) (ns : List ℕ) (count others : ℕ) → IsTable t → IsFixed t → Takes t ns t'
    → length ns ≡ count → used_in_space t + count + others ≤ t.booked → used_in_space t' + others ≤ t'.booked
booked_after t t' ns count others sound fixed takes many enough =
    let stays = takes_stays t ns t' sound fixed takes in
    omega (arith, stays.counted, stays.booked)

-- All that a version needs besides its data blocks was taken: first for the chain of its directory, then for itself.
pub takes_places : (t s u : TableState) (grown : List ℕ) (at : ℕ) (ribs : List ℕ) → IsTable t → IsFixed t
    → Takes t grown s → Takes s (at ∷ ribs) u → TakesPlaces t u grown at ribs
takes_places t s u grown at ribs sound fixed first second = record {
  marks = subst (Marks t) (sym same) (marks_counts t t u.held (marks_none t sound) (subst IsTable same stays.sound));
  booked = stays.booked;
  bits = λ n. ap (λ (w : TableState). bit w n) same;
  held = takes_holds t blocks u sound takes;
  fresh = λ n. ⊎_elim
      (λ (there : 0 < times n blocks).
      let free = (takes_each t blocks u sound fixed takes n there).1 in
      omega (arith, free.clear, takes_once t blocks u sound fixed takes n))
      (λ (none : times n blocks ≡ 0). omega (arith, bit_few t n)) (some_or_none (times n blocks));
  free = may_be_written t.size t blocks u refl sound fixed takes;
}
  where
    blocks : List ℕ
    blocks = grown ++ at ∷ ribs

    takes : Takes t blocks u
    takes = takes_append t grown s (at ∷ ribs) u first second

    same : u ≡ record t { held = u.held }
    same = takes_table t blocks u takes

    stays : Stays t u (length blocks)
    stays = takes_stays t blocks u sound fixed takes

-- Its blocks come into use one after the other, and that of the chain.
module _ (t : TableState) (at : ℕ) (ribs blocks grown : List ℕ) (sound : IsTable t)
    (held : (n : ℕ) → times n ((at ∷ (ribs ++ blocks)) ++ grown) ≤ holds t n)
    (clear : (n : ℕ) → bit t n + times n ((at ∷ (ribs ++ blocks)) ++ grown) ≤ 1) where
  -- how often a block occurs among all of them
  parts : (n : ℕ) → times n ((at ∷ (ribs ++ blocks)) ++ grown)
      ≡ times n (at ∷ []) + times n ribs + times n blocks + times n grown
  parts n =
      let whole = times-append n (at ∷ (ribs ++ blocks)) grown in
      let rest = times-append n ribs blocks in
      omega arith

  pub at_held : 0 < holds t at
  at_held = let one = times_head at at [] refl in omega (arith, held at, parts at)

  pub at_inside : at < t.size
  at_inside = held_inside t at sound at_held

  at_clear : bit t at ≡ 0
  at_clear = let one = times_head at at [] refl in omega (arith, clear at, parts at)

  -- the prime block
  module _ (u : TableState) (is : u ≡ put_in_use t at) where
    pub puts_in_use_at : PutsInUse t u (at ∷ [])
    puts_in_use_at = subst (λ (x : TableState). PutsInUse t x (at ∷ [])) (sym is)
        (puts_in_use_one t at sound at_inside at_clear at_held)

    pub ribs_held : (listed : List ℕ) → listed ≡ ribs → (n : ℕ) → times n listed ≤ holds u n
    ribs_held listed same n = let list = ap (times n) same in
        omega (arith, puts_in_use_at.held n, held n, parts n)

    pub ribs_clear : (listed : List ℕ) → listed ≡ ribs → (n : ℕ) → bit u n + times n listed ≤ 1
    ribs_clear listed same n = let list = ap (times n) same in
        omega (arith, puts_in_use_at.bits n, clear n, parts n)

    -- the ribs
    module _ (some_ribs : List ℕ) (of : some_ribs ≡ ribs) (v : TableState)
        (puts_in_use : PutsInUse u v some_ribs) where
      puts_in_use_ribs : PutsInUse t v (at ∷ ribs)
      puts_in_use_ribs = puts_in_use_then t u v (at ∷ []) ribs puts_in_use_at (subst (PutsInUse u v) of puts_in_use)

      pub blocks_held : (listed : List ℕ) → listed ≡ blocks → (n : ℕ) → times n listed ≤ holds v n
      blocks_held listed same n = let list = ap (times n) same in
          omega (arith, puts_in_use_ribs.held n, held n, parts n)

      pub blocks_clear : (listed : List ℕ) → listed ≡ blocks → (n : ℕ) → bit v n + times n listed ≤ 1
      blocks_clear listed same n = let list = ap (times n) same in
          omega (arith, puts_in_use_ribs.bits n, clear n, parts n)

      -- the data blocks
      module _ (some_blocks : List ℕ) (named : some_blocks ≡ blocks) (w : TableState)
          (puts_in_use_blocks : PutsInUse v w some_blocks) where
        puts_in_use_reached : PutsInUse t w (at ∷ (ribs ++ blocks))
        puts_in_use_reached = puts_in_use_then t v w (at ∷ ribs) blocks puts_in_use_ribs
            (subst (PutsInUse v w) named puts_in_use_blocks)

        grown_held : (n : ℕ) → times n grown ≤ holds w n
        grown_held n = omega (arith, puts_in_use_reached.held n, held n, times-append n (at ∷ (ribs ++ blocks)) grown)

        grown_clear : (n : ℕ) → bit w n + times n grown ≤ 1
        grown_clear n = omega (
          arith,
          puts_in_use_reached.bits n,
          clear n,
          times-append n (at ∷ (ribs ++ blocks)) grown,
        )

        -- if no chain grows
        pub used_alone : grown ≡ [] → PutsInUse t w ((at ∷ (ribs ++ blocks)) ++ grown)
        used_alone none = puts_in_use_then t w w (at ∷ (ribs ++ blocks)) grown puts_in_use_reached
            (subst (PutsInUse w w) (sym none) (puts_in_use_none w puts_in_use_blocks.marks.sound))

        -- if one grows
        module _ (k : ℕ) (one : grown ≡ k ∷ []) where
          pub more_held : 0 < holds w k
          more_held =
              let list = ap (times k) one in
              let here = times_head k k [] refl in
              omega (arith, grown_held k)

          pub more_inside : k < w.size
          more_inside = held_inside w k puts_in_use_blocks.marks.sound more_held

          more_clear : bit w k ≡ 0
          more_clear =
              let list = ap (times k) one in
              let here = times_head k k [] refl in
              omega (arith, grown_clear k)

          pub used_grown : (x : TableState) → x ≡ put_in_use w k → PutsInUse t x ((at ∷ (ribs ++ blocks)) ++ grown)
          used_grown x last = puts_in_use_then t w x (at ∷ (ribs ++ blocks)) grown puts_in_use_reached
              (subst (λ (y : TableState). PutsInUse w y grown) (sym last)
              (subst (PutsInUse w (put_in_use w k)) (sym one)
              (puts_in_use_one w k puts_in_use_blocks.marks.sound more_inside more_clear more_held)))
