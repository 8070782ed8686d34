-- The blocks of the allocation table, one by one: what each says of its blocks.
use Rattle.std.proofs.Common.{◌≡◌, ◌⊎◌, inl, inr, ⊎_elim, ◌↔◌, ℕ, ◌+◌, ◌*◌, ◌/◌, ◌<◌, Bool, true, false, List, [], ◌∷◌}
use Rattle.std.proofs.Common.{◌++◌, length, slice_set, Some, refl, sym, ap, subst, ◌∙◌, arith}
use Rattle.std.proofs.lemmas.Bool.{cases_eq}
use Rattle.std.proofs.lemmas.List.{get_or-set_same}
use Rattle.std.proofs.Math.ListN.{length-set}
use Rattle.blockdisk.specs.Common.{Contents}
use Rattle.spec_image.specs.Common.{bit_of, table_blocks, table_start}
use Rattle.spec_image.proofs.Common.{some_same}
use Rattle.alloctab.specs.Common.{flag_at}
use Rattle.volume.specs.declared.error.VolumeError.TheVariants.{TableWrong}
use Rattle.salvage.specs.Common.{AreAdded, IsFreeBlock, TellsBits}
use Rattle.salvage.specs.declared.finding.Cost.TheVariants.{Nothing}
use Rattle.salvage.specs.declared.finding.Defect.TheVariants.{Start}
use Rattle.salvage.specs.declared.finding.Finding.{Finding}
use Rattle.salvage.proofs.WalkedChains.{marked_still, marked_then}

-- The blocks below this one that table block i says are free, by these words, are marked too.
pub record MarksTo (size i : ℕ) (words : List ℕ) (old new : List Bool) (before : ℕ) : Type 0 where
  pub long : length new ≡ length old
  pub only : (n : ℕ) → flag_at new n ≡ true
      → (flag_at old n ≡ true) ⊎ ((n / 4608 ≡ i) × (bit_of words n ≡ 0))
  pub stays : (n : ℕ) → flag_at old n ≡ true → flag_at new n ≡ true
  pub clear : (n : ℕ) → n < before → n / 4608 ≡ i → bit_of words n ≡ 0 → flag_at new n ≡ true

module _ (size i : ℕ) (words : List ℕ) (old : List Bool) where
  pub marks_none : MarksTo size i words old old (i * 4608)
  marks_none = record {
    long = refl;
    only = λ n is. inl is;
    stays = λ n is. is;
    clear = λ n below here bit. absurd (omega arith);
  }

  module _ (new : List Bool) (b : ℕ) (so_far : MarksTo size i words old new b) where
    pub marks_skip : (bit_of words b ≡ 0 → ⊥) → MarksTo size i words old new (b + 1)
    marks_skip used = record {
      long = so_far.long;
      only = so_far.only;
      stays = so_far.stays;
      clear = λ n below here bit. ⊎_elim (λ (same : n ≡ b). absurd (used (ap (bit_of words) (sym same) ∙ bit)))
          (λ (other : n ≡ b → ⊥). so_far.clear n (omega arith) here bit) (cases_eq n b);
    }

    marks_one : b / 4608 ≡ i → b < length new → bit_of words b ≡ 0
        → MarksTo size i words old (slice_set new b true) (b + 1)
    marks_one there inside free = record {
      long = length-set new b true ∙ so_far.long;
      only = λ n is. ⊎_elim (λ before. so_far.only n before)
          (λ same. inr (ap (λ (k : ℕ). k / 4608) same ∙ there, ap (bit_of words) same ∙ free))
          (marked_then new b n is);
      stays = λ n is. marked_still new b n inside (so_far.stays n is);
      clear = λ n below here bit. ⊎_elim
          (λ (same : n ≡ b). ap (flag_at (slice_set new b true)) same ∙ get_or-set_same new b true false inside)
          (λ (other : n ≡ b → ⊥). marked_still new b n inside (so_far.clear n (omega arith) here bit)) (cases_eq n b);
    }

    pub marks_more : (new' : List Bool) → new' ≡ slice_set new b true → b / 4608 ≡ i → b < length new
        → bit_of words b ≡ 0 → MarksTo size i words old new' (b + 1)
    marks_more new' is there inside free =
        subst (λ (l : List Bool). MarksTo size i words old l (b + 1)) (sym is) (marks_one there inside free)

    pub marks_all : ((n : ℕ) → n < size → n / 4608 ≡ i → n < b) → (n : ℕ) → n < size
        → (flag_at new n ≡ true) ↔ ((flag_at old n ≡ true) ⊎ ((n / 4608 ≡ i) × (bit_of words n ≡ 0)))
    marks_all past n below = (
      so_far.only n,
      λ any. ⊎_elim (λ before. so_far.stays n before) (λ here. so_far.clear n (past n below here.0) here.0 here.1) any,
    )

-- A table block that can't be believed says of no block that it is free.
pub untold_free : (size i : ℕ) (contents : Contents) (old : List Bool)
    → ((words : List ℕ) → contents (table_start size + i) ≡ Some words → TellsBits size i words → ⊥) → (n : ℕ)
    → n < size
    → (flag_at old n ≡ true) ↔ ((flag_at old n ≡ true) ⊎ ((n / 4608 ≡ i) × IsFreeBlock size contents n))
untold_free size i contents old untold n below = (
  λ is. inl is,
  λ any. ⊎_elim (λ is. is) (λ p. absurd (none p.0 p.1)) any,
)
  where
    none : n / 4608 ≡ i → IsFreeBlock size contents n → ⊥
    none there free = untold free.words (ap (λ (k : ℕ). contents (table_start size + k)) (sym there) ∙ free.words_are)
        (subst (λ (k : ℕ). TellsBits size k free.words) there free.tells)

pub wrong_untold : (size i : ℕ) (contents : Contents) (words : List ℕ) → contents (table_start size + i) ≡ Some words
    → (TellsBits size i words → ⊥) → (others : List ℕ) → contents (table_start size + i) ≡ Some others
    → TellsBits size i others → ⊥
wrong_untold size i contents words here wrong others is tells =
    wrong (subst (TellsBits size i) (some_same (sym is ∙ here)) tells)

-- Findings.

pub untold_added : (size layout i n : ℕ) (contents : Contents) (old new : List Finding) → i < table_blocks size
    → n ≡ table_start size + i
    → ((words : List ℕ) → contents (table_start size + i) ≡ Some words → TellsBits size i words → ⊥)
    → new ≡ old ++ record { fault = Start (TableWrong n); costs = Nothing } ∷ []
    → AreAdded size layout contents old new
untold_added size layout i n contents old new in_table block untold told = record {
  added = record { fault = Start (TableWrong n); costs = Nothing } ∷ [];
  new_is = told;
  stand = (
    inl (record {
      i = i;
      in_table = in_table;
      block = block;
      untold = λ words is tells. untold words (ap contents (sym block) ∙ is) tells;
    }),
    tt,
  );
}

-- All table blocks before this one.

-- The marked blocks are those that these table blocks say are free.
abbrev pub AreFreeTo : ℕ → Contents → List Bool → ℕ → Type 0
AreFreeTo size contents free i = (n : ℕ) → n < size
    → (flag_at free n ≡ true) ↔ ((n / 4608 < i) × IsFreeBlock size contents n)

pub free_more : (size i : ℕ) (contents : Contents) (old new : List Bool) → AreFreeTo size contents old i
    → ((n : ℕ) → n < size
    → (flag_at new n ≡ true) ↔ ((flag_at old n ≡ true) ⊎ ((n / 4608 ≡ i) × IsFreeBlock size contents n)))
    → AreFreeTo size contents new (i + 1)
free_more size i contents old new so_far marked n below = (
  λ is. ⊎_elim (λ before. let p = (so_far n below).0 before in (let low = p.0 in omega arith, p.1))
      (λ here. (let at = here.0 in omega arith, here.1)) ((marked n below).0 is),
  λ any. (marked n below).1 (⊎_elim (λ (same : n / 4608 ≡ i). inr (same, any.1))
      (λ (other : n / 4608 ≡ i → ⊥). inl ((so_far n below).1 (let low = any.0 in omega arith, any.1)))
      (cases_eq (n / 4608) i)),
)
