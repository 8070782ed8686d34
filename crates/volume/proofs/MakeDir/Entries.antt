-- A directory gets its entry in the master directory and its place in memory.
use Rattle.std.proofs.Common.{◌≡◌, ℕ, suc, ◌+◌, ◌*◌, ◌≤◌, if◌then◌else◌, Bool, true, false, cond, IsTrue, List, []}
use Rattle.std.proofs.Common.{◌∷◌, ◌++◌, map, length, option_to_list, Option, Some, None, refl, sym, ◌∙◌, ap, subst}
use Rattle.std.proofs.Common.{arith, append-nil, ⊎_elim}
use mir.Val.{bool_byte}
use Rattle.std.proofs.lemmas.Bool.Decides.{nat_tests}
use Rattle.std.proofs.lemmas.Bool.{cases_eq}
use Rattle.std.proofs.lemmas.List.{map-append}
use Rattle.std.specs.Ordering.{nat_cmp, eq_by_cmp}
use Rattle.std.specs.FinMap.Entries.{find}
use Rattle.spec_image.specs.declared.put.Put.{Put}
use Rattle.spec_image.specs.Common.{SpecMasterEntry, master_words, IsMasterEntryOf}
use Rattle.directory.specs.Common.{ChainState, IsChain, TakesBlock, PutsChain, inserted}
use Rattle.volume.specs.Common.{CurrentDirectory, CurrentMap, chain_growth, entry_made, bare_known, IsEntered}

-- an entry with a new key is the last one
by_key : (b : Bool) (v : ℕ × ℕ) (x : Option (ℕ × ℕ)) → cond b (Some v) x ≡ None → (b ≡ false) × (x ≡ None)
by_key true v x none = cc
by_key false v x none = (refl, none)

inserted_new : (es : List SpecMasterEntry) (e : SpecMasterEntry) → find nat_cmp e.0 es ≡ None
    → inserted nat_cmp es e ≡ es ++ e ∷ []
inserted_new [] e none = refl
inserted_new (y ∷ ys) e none =
    let first = by_key (eq_by_cmp nat_cmp e.0 y.0) y.1 (find nat_cmp e.0 ys) none in
    ap (λ (b : Bool). cond b (e ∷ ys) (y ∷ inserted nat_cmp ys e)) first.0
    ∙ ap (λ (zs : List SpecMasterEntry). y ∷ zs) (inserted_new ys e first.1)

growth_one : (chain : ChainState SpecMasterEntry) → length chain.entries ≡ 42 * length chain.blocks
    → chain_growth chain ≡ 1
growth_one chain full = grind (arith, nat_tests)

growth_zero : (chain : ChainState SpecMasterEntry) → (length chain.entries ≡ 42 * length chain.blocks → ⊥)
    → chain_growth chain ≡ 0
growth_zero chain room = grind (arith, nat_tests)

grows_at : (chain : ChainState SpecMasterEntry) → 1 ≡ chain_growth chain
    → length chain.entries ≡ 42 * length chain.blocks
grows_at chain is = ⊎_elim (λ same. same) (λ other. absurd (let e = growth_zero chain other in omega arith))
    (cases_eq (length chain.entries) (42 * length chain.blocks))

stays_at : (chain : ChainState SpecMasterEntry) → 0 ≡ chain_growth chain → length chain.entries
    ≡ 42 * length chain.blocks → ⊥
stays_at chain is full = let e = growth_one chain full in omega arith

pub blocks_entered : (chain : ChainState SpecMasterEntry) (ppn : ℕ) (fresh : Option ℕ) (blocks : List ℕ)
    → find nat_cmp ppn chain.entries ≡ None → length (option_to_list fresh) ≡ chain_growth chain
    → ((TakesBlock nat_cmp chain ppn → ⊥) → blocks ≡ chain.blocks)
    → ((n : ℕ) → TakesBlock nat_cmp chain ppn → fresh ≡ Some n → blocks ≡ chain.blocks ++ n ∷ [])
    → blocks ≡ chain.blocks ++ option_to_list fresh
blocks_entered chain ppn None blocks absent count kept grown = kept (λ takes. stays_at chain count takes.1)
    ∙ sym (append-nil chain.blocks)
blocks_entered chain ppn (Some n) blocks absent count kept grown = grown n (absent, grows_at chain count) refl

pub is_entered : (k k' : CurrentMap) (ppn protection first : ℕ) (fresh : Option ℕ) (before after : List Put)
    → find nat_cmp ppn k.master.entries ≡ None → before ≡ []
    → k'.master.blocks ≡ k.master.blocks ++ option_to_list fresh
    → k'.master.entries ≡ inserted nat_cmp k.master.entries (entry_made ppn protection first)
    → IsChain nat_cmp (IsMasterEntryOf 2) k'.master → k'.directories ≡ k.directories ++ bare_known first ∷ []
    → PutsChain master_words k.master k'.master before after → length after ≤ length before + 2
    → IsEntered k k' ppn protection first (option_to_list fresh) after
is_entered k k' ppn protection first fresh before after absent none blocks entries chain directories put few = record {
  blocks = blocks;
  entries = entries ∙ inserted_new k.master.entries (entry_made ppn protection first) absent;
  chain = chain;
  directories = directories;
  put = subst (λ (l : List Put). PutsChain master_words k.master k'.master l after) none put;
  few = let e = ap (λ (l : List Put). length l) none in omega arith;
}

-- a directory more
pub directories_more : {A : Type 0} (known : A → CurrentDirectory) (old new : List A) (x : A) (first : ℕ)
    → new ≡ old ++ x ∷ [] → known x ≡ bare_known first → map known new ≡ map known old ++ bare_known first ∷ []
directories_more known old new x first is same = ap (map known) is ∙ map-append known old (x ∷ [])
    ∙ ap (λ (d : CurrentDirectory). map known old ++ d ∷ []) same

-- how many blocks the chain takes, by whether it grows
pub count_grows : (grows : Bool) (n a b : ℕ) (chain : ChainState SpecMasterEntry) → (IsTrue grows → a ≡ 42 * b)
    → (a ≡ 42 * b → IsTrue grows) → n ≡ (if grows then 1 else 0) → length chain.entries ≡ a → length chain.blocks ≡ b
    → n ≡ chain_growth chain
count_grows true n a b chain full grown is ea eb = let same = full refl in let e : chain_growth chain
    ≡ 1 = let f : length chain.entries ≡ 42 * length chain.blocks = omega arith in growth_one chain f in omega arith
count_grows false n a b chain full grown is ea eb = let e : chain_growth chain
    ≡ 0 = growth_zero chain (λ same. never (grown (omega arith))) in omega arith
  where
    never : IsTrue false → ⊥
    never e = cc

pub two_or_one : (n : ℕ) (grows : Bool) → n ≡ bool_byte grows → (if grows then 2 else 1) ≡ 1 + n
two_or_one n true is = omega arith
two_or_one n false is = omega arith

pub many_blocks : (n m : ℕ) (grows : Bool) → m ≡ (if grows then 1 else 0) → n ≡ bool_byte grows → 1 + n ≡ suc m
many_blocks n m true is also = omega arith
many_blocks n m false is also = omega arith

-- the entry that was made
pub entered_for : (k k' l l' : CurrentMap) (ppn protection first p q f : ℕ) (grown : List ℕ) (puts : List Put)
    → l.master ≡ k.master → l.directories ≡ k.directories → l'.master ≡ k'.master → l'.directories ≡ k'.directories
    → p ≡ ppn → q ≡ protection → f ≡ first → IsEntered k k' p q f grown puts
    → IsEntered l l' ppn protection first grown puts
entered_for k k' l l' ppn protection first p q f grown puts master directories master' directories' a b e entered =
    let is : IsEntered k k' ppn protection first grown puts =
    subst (λ z. IsEntered k k' ppn protection z grown puts) e
    (subst (λ z. IsEntered k k' ppn z f grown puts) b (subst (λ z. IsEntered k k' z q f grown puts) a entered)) in
    record {
      blocks = ap (λ x. x.blocks) master' ∙ is.blocks
          ∙ ap (λ (x : ChainState SpecMasterEntry). x.blocks ++ grown) (sym master);
      entries = ap (λ x. x.entries) master' ∙ is.entries
          ∙ ap (λ (x : ChainState SpecMasterEntry). x.entries ++ entry_made ppn protection first ∷ []) (sym master);
      chain = subst (IsChain nat_cmp (IsMasterEntryOf 2)) (sym master') is.chain;
      directories = directories' ∙ is.directories
          ∙ ap (λ (x : List CurrentDirectory). x ++ bare_known first ∷ []) (sym directories);
      put = subst (λ x. PutsChain master_words x l'.master [] puts) (sym master)
          (subst (λ x. PutsChain master_words k.master x [] puts) (sym master') is.put);
      few = is.few;
    }
