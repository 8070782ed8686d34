-- Chains that are walked: the blocks that are marked meanwhile, and those that a walk comes to.
use Rattle.std.proofs.Common.{◌≡◌, ◌⊎◌, inl, inr, ⊎_elim, ◌↔◌, ℕ, zero, suc, ◌+◌, ◌<◌, ◌≤◌, Bool, true, false, List, []}
use Rattle.std.proofs.Common.{◌∷◌, ◌++◌, Some, length, get_or, slice_set, replicate, map, take, refl, sym, ap, subst}
use Rattle.std.proofs.Common.{◌∙◌}
use Rattle.std.proofs.Common.{arith, Result, Ok, Err, OnOk}
use Rattle.std.proofs.lemmas.Bool.{cases_eq, cases_lt}
use Rattle.std.proofs.lemmas.List.{get_or-set_same, get_or-set_other, get_or-replicate, get_or_past, length-replicate}
use Rattle.std.proofs.lemmas.List.{map-append, take_all}
use Rattle.std.proofs.lemmas.List.Elements.{Contains-append_left, Contains-push, Contains-push_cases}
use Rattle.std.proofs.Math.ListN.{length-set}
use Rattle.std.specs.List.{Contains}
use Rattle.blockdisk.specs.Common.{Contents}
use Rattle.spec_image.specs.Common.{InSpace, LeadsAlong, Node, SpecMasterEntry, IsFileEntry, file_words, numbers, times}
use Rattle.spec_image.specs.Directories.{directory_block}
use Rattle.spec_image.proofs.Common.{times-append, times_here}
use Rattle.alloctab.specs.Common.{flag_at}
use Rattle.alloctab.proofs.SpaceLaws.{in_space_some}
use Rattle.directory.specs.Common.{IsTwiceInChain}
use Rattle.volume.proofs.common.Lookups.{viewed_more}
use Rattle.salvage.specs.Common.{AreMarkedTo, AreWalked, IsClosed, IsFileWalked, IsLink, IsMetAgain, IsUnmet, IsWalked}
use Rattle.salvage.specs.Chains.{at_first, onward}
use Rattle.salvage.proofs.CarriedFacts.{moved}

-- Marks.

pub marked_still : (marks : List Bool) (b n : ℕ) → b < length marks → flag_at marks n ≡ true
    → flag_at (slice_set marks b true) n ≡ true
marked_still marks b n inside is = ⊎_elim
    (λ same. ap (flag_at (slice_set marks b true)) same ∙ get_or-set_same marks b true false inside)
    (λ other. get_or-set_other marks b n true false other ∙ is) (cases_eq n b)

pub marked_after : (marks marks' : List Bool) (b n : ℕ) → marks' ≡ slice_set marks b true → b < length marks
    → flag_at marks n ≡ true → flag_at marks' n ≡ true
marked_after marks marks' b n marked inside is =
    ap (λ (l : List Bool). flag_at l n) marked ∙ marked_still marks b n inside is

pub marked_then : (marks : List Bool) (b n : ℕ) → flag_at (slice_set marks b true) n ≡ true
    → (flag_at marks n ≡ true) ⊎ (n ≡ b)
marked_then marks b n is = ⊎_elim (λ same. inr same)
    (λ other. inl (sym (get_or-set_other marks b n true false other) ∙ is)) (cases_eq n b)

pub none_marked : (size n : ℕ) → flag_at (replicate size false) n ≡ false
none_marked size n = ⊎_elim (λ below. get_or-replicate size n false false below)
    (λ past. get_or_past (replicate size false) n false (let long : length (replicate {A = Bool} size false) ≡ size
    = length-replicate size false in omega arith)) (cases_lt n size)

pub fresh_unmarked : (size : ℕ) (marks : List Bool) (n : ℕ) → marks ≡ replicate size false → flag_at marks n ≡ true → ⊥
fresh_unmarked size marks n fresh is =
    let none = none_marked size n in
    let e : flag_at marks n ≡ flag_at (replicate size false) n = ap (λ (l : List Bool). flag_at l n) fresh in
    cc

-- how many are not marked
abbrev lack : Bool → ℕ
lack true = 0
lack false = 1

abbrev pub unmarked : List Bool → ℕ
unmarked [] = 0
unmarked (b ∷ bs) = lack b + unmarked bs

fewer_unmarked : (marks : List Bool) (n : ℕ) → flag_at marks n ≡ false → n < length marks
    → unmarked (slice_set marks n true) < unmarked marks
fewer_unmarked [] n free inside = absurd (omega arith)
fewer_unmarked (b ∷ bs) zero free inside = let e : lack b ≡ 1 = ap lack free in omega arith
fewer_unmarked (b ∷ bs) (suc n) free inside = let r = fewer_unmarked bs n free (omega arith) in omega arith

pub fewer_after : (marks marks' : List Bool) (n : ℕ) → marks' ≡ slice_set marks n true → flag_at marks n ≡ false
    → n < length marks → unmarked marks' < unmarked marks
fewer_after marks marks' n marked free inside =
    let fewer = fewer_unmarked marks n free inside in let e = ap unmarked marked in omega arith

-- Walks.

-- a walk goes one block further
leads_more : {E : Type 0} (words : E → List ℕ) (c : Contents) (first : ℕ) (nodes : List (Node E)) (n : ℕ)
    (entries : List E) (next : ℕ) → LeadsAlong words c first nodes n → 0 < n
    → c n ≡ Some (directory_block words next entries) → LeadsAlong words c first (nodes ++ (n, entries) ∷ []) next
leads_more words c first [] n entries next walk some is = (sym walk, omega arith, next, ap c walk ∙ is, refl)
leads_more words c first (node ∷ nodes) n entries next walk some is =
    (walk.0, walk.1, walk.2, walk.3, leads_more words c walk.2 nodes n entries next walk.4 some is)

-- the blocks of a walk, and one more
numbers_more : {E : Type 0} (nodes : List (Node E)) (b : ℕ) (entries : List E) (n : ℕ)
    → times n (numbers (nodes ++ (b, entries) ∷ [])) ≡ times n (numbers nodes) + times n (b ∷ [])
numbers_more {E} nodes b entries n = ap (times n) (map-append (λ (node : Node E). node.0) nodes ((b, entries) ∷ []))
    ∙ times-append n (numbers nodes) (b ∷ [])

-- A walk of one block or more goes to the next block first.
pub record IsOnward {K V : Type 0} (words : K × V → List ℕ) (IsEntry : K × V → Type 0) (size : ℕ) (contents : Contents)
    (b n : ℕ) : Type 0 where
  pub next : ℕ
  pub link : IsLink words IsEntry contents b next
  pub inside : InSpace size next
  pub walk : IsWalked words IsEntry size contents next n

onward_first : {K V : Type 0} (words : K × V → List ℕ) (IsEntry : K × V → Type 0) (size : ℕ) (contents : Contents)
    (b n : ℕ) → IsWalked words IsEntry size contents b n → (n ≡ b) ⊎ IsOnward words IsEntry size contents b n
onward_first words IsEntry size contents b n at_first = inl refl
onward_first words IsEntry size contents b n (onward m k walk link inside) = ⊎_elim
    (λ (same : m ≡ b). inr (record {
      next = n;
      link = subst (λ (j : ℕ). IsLink words IsEntry contents j n) same link;
      inside = inside;
      walk = at_first;
    }))
    (λ (more : IsOnward words IsEntry size contents b m). inr (record {
      next = more.next;
      link = more.link;
      inside = more.inside;
      walk = onward m n more.walk link inside;
    }))
    (onward_first words IsEntry size contents b m walk)

-- A walk that was at block n comes to it again.
met_twice : {K V : Type 0} (words : K × V → List ℕ) (contents : Contents) (first n : ℕ) (nodes : List (Node (K × V)))
    → LeadsAlong words contents first nodes n → 0 < n → 0 < times n (numbers nodes)
    → IsTwiceInChain words contents [] first n
met_twice words contents first zero nodes walk some there = absurd (omega arith)
met_twice words contents first (suc n) nodes walk some there = record {
  before = nodes;
  walk = walk;
  somewhere = some;
  twice = let both = times-append (suc n) (numbers nodes) (suc n ∷ []) in
      let here = times_here (suc n) [] in omega arith;
}

-- These blocks were walked, up to the block `next`; each that is marked was marked before, or is one of these.
pub record IsAlong {K V : Type 0} (words : K × V → List ℕ) (contents : Contents) (first : ℕ) (old marks : List Bool)
    (next : ℕ) : Type 0 where
  pub nodes : List (Node (K × V))
  pub walk : LeadsAlong words contents first nodes next
  pub own : (n : ℕ) → flag_at marks n ≡ true → (flag_at old n ≡ true) ⊎ (0 < times n (numbers nodes))

-- What was marked so far of a chain; the block `next` follows, or it is 0.
pub record IsMarking {K V : Type 0} (words : K × V → List ℕ) (IsEntry : K × V → Type 0) (size : ℕ) (honest : Type 0)
    (contents : Contents) (first : ℕ) (old marks : List Bool) (next : ℕ) : Type 0 where
  pub long : length marks ≡ length old
  pub stays : (n : ℕ) → flag_at old n ≡ true → flag_at marks n ≡ true
  pub next_inside : 0 < next → InSpace size next
  pub begins : (flag_at marks first ≡ true) ⊎ (next ≡ first)
  pub walk : honest → 0 < next → IsWalked words IsEntry size contents first next
  pub only : honest → (n : ℕ) → flag_at marks n ≡ true
      → (flag_at old n ≡ true) ⊎ IsWalked words IsEntry size contents first n
  pub closed : honest → IsClosed words IsEntry size contents old → (m n : ℕ) → flag_at marks m ≡ true
      → IsLink words IsEntry contents m n → InSpace size n → (flag_at marks n ≡ true) ⊎ (n ≡ next)
  pub along : honest → 0 < next → IsAlong words contents first old marks next
  pub passed : honest → (n : ℕ) → IsWalked words IsEntry size contents first n
      → (flag_at old n ≡ true → ⊥) ⊎ ((0 < next) × IsWalked words IsEntry size contents next n)

module _ {K V : Type 0} (words : K × V → List ℕ) (IsEntry : K × V → Type 0) (size : ℕ) (contents : Contents)
    (first : ℕ) (old : List Bool) where
  pub marking_starts : (honest : Type 0) → InSpace size first
      → IsMarking words IsEntry size honest contents first old old first
  marking_starts honest inside = record {
    long = refl;
    stays = λ n is. is;
    next_inside = λ some. inside;
    begins = inr refl;
    walk = λ h some. at_first;
    only = λ h n is. inl is;
    closed = λ h closed m n is link there. inl (closed m n is link there);
    along = λ h some. record { nodes = []; walk = refl; own = λ n is. inl is };
    passed = λ h n walk. inr (in_space_some size first inside, walk);
  }

  module _ (honest later : Type 0) (was : later → honest) (marks : List Bool) (b : ℕ)
      (l : IsMarking words IsEntry size honest contents first old marks b) (some : 0 < b)
      (inside : b < length marks) (free : flag_at marks b ≡ false) where
    along_more : (next : ℕ) → later → IsLink words IsEntry contents b next
        → IsAlong words contents first old (slice_set marks b true) next
    along_more next h link =
        let before = l.along (was h) some in
        record {
          nodes = before.nodes ++ (b, link.entries) ∷ [];
          walk = leads_more words contents first before.nodes b link.entries next before.walk some link.words_are;
          own = λ n is.
              let both = numbers_more before.nodes b link.entries n in
              ⊎_elim
              (λ earlier. ⊎_elim (λ yes. inl yes) (λ there. inr (omega arith)) (before.own n earlier))
              (λ (same : n ≡ b).
              let here : 0 < times n (b ∷ []) = subst (λ (k : ℕ). 0 < times k (b ∷ [])) (sym same) (times_here b []) in
              inr (omega arith))
              (marked_then marks b n is);
        }

    passed_more : (next : ℕ) → later
        → ((m : ℕ) → IsLink words IsEntry contents b m → InSpace size m → m ≡ next)
        → (n : ℕ) → IsWalked words IsEntry size contents first n
        → (flag_at old n ≡ true → ⊥) ⊎ ((0 < next) × IsWalked words IsEntry size contents next n)
    passed_more next h none n walk = ⊎_elim (λ clear. inl clear)
        (λ rest. ⊎_elim
        (λ (same : n ≡ b). inl (λ (is : flag_at old n ≡ true).
        let set = l.stays b (ap (flag_at old) (sym same) ∙ is) in
        let differ : true ≡ false = sym set ∙ free in
        cc))
        (λ (more : IsOnward words IsEntry size contents b n).
        let same = none more.next more.link more.inside in
        inr (
          subst (λ (k : ℕ). 0 < k) same (in_space_some size more.next more.inside),
          subst (λ (k : ℕ). IsWalked words IsEntry size contents k n) same more.walk,
        ))
        (onward_first words IsEntry size contents b n rest.1))
        (l.passed (was h) n walk)

    -- block b is marked, and the next one follows
    pub marking_more : (next : ℕ) → (0 < next → InSpace size next)
        → (later → 0 < next → IsLink words IsEntry contents b next × InSpace size next)
        → (later → (m : ℕ) → IsLink words IsEntry contents b m → InSpace size m → m ≡ next)
        → IsMarking words IsEntry size later contents first old (slice_set marks b true) next
    marking_more next next_inside link none = record {
      long = length-set marks b true ∙ l.long;
      stays = λ n is. marked_still marks b n inside (l.stays n is);
      next_inside = next_inside;
      begins = inl (⊎_elim (λ yes. marked_still marks b first inside yes)
          (λ same. ap (flag_at (slice_set marks b true)) (sym same) ∙ get_or-set_same marks b true false inside)
          l.begins);
      walk = λ h more. let p = link h more in onward b next (l.walk (was h) some) p.0 p.1;
      only = λ h n is. ⊎_elim (λ before. l.only (was h) n before)
          (λ same. inr (subst (IsWalked words IsEntry size contents first) (sym same) (l.walk (was h) some)))
          (marked_then marks b n is);
      closed = λ h closed m n is there within. ⊎_elim
          (λ before. inl (⊎_elim (λ yes. marked_still marks b n inside yes)
          (λ same. ap (flag_at (slice_set marks b true)) same ∙ get_or-set_same marks b true false inside)
          (l.closed (was h) closed m n before there within)))
          (λ same. inr (none h n (subst (λ (k : ℕ). IsLink words IsEntry contents k n) same there) within))
          (marked_then marks b m is);
      along = λ h more. let p = link h more in along_more next h p.0;
      passed = λ h n walk. passed_more next h (none h) n walk;
    }

    -- with what a call says of the disk as it found it
    pub marking_on : (marks' : List Bool) (next size' : ℕ) (contents' : Contents) → marks' ≡ slice_set marks b true
        → size' ≡ size → (later → contents' ≡ contents) → (0 < next → InSpace size' next)
        → (later → 0 < next → IsLink words IsEntry contents' b next × InSpace size' next)
        → (later → (m : ℕ) → IsLink words IsEntry contents' b m → InSpace size' m → m ≡ next)
        → IsMarking words IsEntry size later contents first old marks' next
    marking_on marks' next size' contents' marked sizes same next_inside link none =
        subst (λ (l : List Bool). IsMarking words IsEntry size later contents first old l next) (sym marked)
        (marking_more next (λ more. subst (λ (k : ℕ). InSpace k next) sizes (next_inside more))
        (λ h more. let p = link h more in (
          subst (λ (c : Contents). IsLink words IsEntry c b next) (same h) p.0,
          subst (λ (k : ℕ). InSpace k next) sizes p.1,
        ))
        (λ h m there within. none h m (subst (λ (c : Contents). IsLink words IsEntry c b m) (sym (same h)) there)
        (subst (λ (k : ℕ). InSpace k m) (sym sizes) within)))

  -- the walk ends: there is no next block, or it is marked
  module _ (honest : Type 0) (marks : List Bool) (next : ℕ)
      (l : IsMarking words IsEntry size honest contents first old marks next)
      (stop : (next ≡ 0) ⊎ (flag_at marks next ≡ true)) where
    pub begins_end : InSpace size first → flag_at marks first ≡ true
    begins_end inside = ⊎_elim (λ yes. yes)
        (λ same. ⊎_elim (λ zero. absurd (let some = in_space_some size first inside in omega arith))
        (λ yes. ap (flag_at marks) (sym same) ∙ yes) stop) l.begins

    pub closed_end : honest → IsClosed words IsEntry size contents old → IsClosed words IsEntry size contents marks
    closed_end h closed m n is link inside = ⊎_elim (λ yes. yes)
        (λ same. ⊎_elim (λ zero. absurd (let some = in_space_some size n inside in omega arith))
        (λ yes. ap (flag_at marks) same ∙ yes) stop) (l.closed h closed m n is link inside)

  -- it ends at a block that is marked
  pub met_end : (honest : Type 0) (marks : List Bool) (next : ℕ)
      → IsMarking words IsEntry size honest contents first old marks next → 0 < next → flag_at marks next ≡ true
      → honest → IsMetAgain words IsEntry size contents old first next
  met_end honest marks next l some set h =
      let along = l.along h some in
      record {
        inside = l.next_inside some;
        walked = l.walk h some;
        again = ⊎_elim (λ yes. inl yes) (λ there. inr (met_twice words contents first next along.nodes along.walk some
            there)) (along.own next set);
      }

  -- or at none
  pub unmet_end : (honest : Type 0) (marks : List Bool) (next : ℕ)
      → IsMarking words IsEntry size honest contents first old marks next → next ≡ 0 → honest
      → IsUnmet words IsEntry size contents old first
  unmet_end honest marks next l none h n walk set = ⊎_elim (λ clear. clear set)
      (λ more. let some = more.0 in omega arith) (l.passed h n walk)

-- Marks that are closed hold all that a walk comes to.
pub closed_walk : {K V : Type 0} (words : K × V → List ℕ) (IsEntry : K × V → Type 0) (size : ℕ) (contents : Contents)
    (marks : List Bool) (first n : ℕ) → IsClosed words IsEntry size contents marks → flag_at marks first ≡ true
    → IsWalked words IsEntry size contents first n → flag_at marks n ≡ true
closed_walk words IsEntry size contents marks first n closed begins at_first = begins
closed_walk words IsEntry size contents marks first n closed begins (onward m k walk link inside) =
    closed m k (closed_walk words IsEntry size contents marks first m closed begins walk) link inside

pub fresh_closed : {K V : Type 0} (words : K × V → List ℕ) (IsEntry : K × V → Type 0) (size : ℕ) (contents : Contents)
    (marks : List Bool) (k : ℕ) → marks ≡ replicate k false → IsClosed words IsEntry size contents marks
fresh_closed words IsEntry size contents marks k fresh m n is link inside = absurd (fresh_unmarked k marks m fresh is)

-- The blocks of one chain, in fresh marks.
pub fresh_walked : {K V : Type 0} (words : K × V → List ℕ) (IsEntry : K × V → Type 0) (size : ℕ) (contents : Contents)
    (old marks : List Bool) (k first : ℕ) → old ≡ replicate k false → flag_at marks first ≡ true
    → ((n : ℕ) → flag_at marks n ≡ true → (flag_at old n ≡ true) ⊎ IsWalked words IsEntry size contents first n)
    → (IsClosed words IsEntry size contents old → IsClosed words IsEntry size contents marks) → (n : ℕ)
    → (flag_at marks n ≡ true) ↔ IsWalked words IsEntry size contents first n
fresh_walked words IsEntry size contents old marks k first fresh begins only closed n = (
  λ is. ⊎_elim (λ before. absurd (fresh_unmarked k old n fresh before)) (λ walk. walk) (only n is),
  λ walk. closed_walk words IsEntry size contents marks first n
      (closed (fresh_closed words IsEntry size contents old k fresh)) begins walk,
)

-- The chains of directories, one by one.

pub marked_none : (size : ℕ) (contents : Contents) (marks : List Bool) (k : ℕ) → marks ≡ replicate k false
    → AreMarkedTo size contents [] marks
marked_none size contents marks k fresh = record {
  walked = λ n. (λ is. absurd (fresh_unmarked k marks n fresh is), λ any. absurd (let below = any.1.1 in omega arith));
  closed = fresh_closed file_words IsFileEntry size contents marks k fresh;
}

pub marked_one : (size : ℕ) (contents : Contents) (entries : List SpecMasterEntry) (e : SpecMasterEntry)
    (old marks : List Bool) → AreMarkedTo size contents entries old → flag_at marks e.1.1 ≡ true
    → ((n : ℕ) → flag_at old n ≡ true → flag_at marks n ≡ true)
    → ((n : ℕ) → flag_at marks n ≡ true → (flag_at old n ≡ true) ⊎ IsFileWalked size contents e.1.1 n)
    → (IsClosed file_words IsFileEntry size contents old → IsClosed file_words IsFileEntry size contents marks)
    → AreMarkedTo size contents (entries ++ e ∷ []) marks
marked_one size contents entries e old marks before begins stays only closes = record {
  walked = λ n. (λ is. ⊎_elim (earlier n) (here n) (only n is), back n);
  closed = closed;
}
  where
    closed : IsClosed file_words IsFileEntry size contents marks
    closed = closes before.closed

    earlier : (n : ℕ) → flag_at old n ≡ true → (d : SpecMasterEntry) × Contains (entries ++ e ∷ []) d
        × IsFileWalked size contents d.1.1 n
    earlier n is =
        let p = (before.walked n).0 is in
        (p.0, Contains-append_left entries (e ∷ []) p.0 p.1, p.2)

    here : (n : ℕ) → IsFileWalked size contents e.1.1 n → (d : SpecMasterEntry) × Contains (entries ++ e ∷ []) d
        × IsFileWalked size contents d.1.1 n
    here n walk = (e, Contains-push entries e, walk)

    back : (n : ℕ) → ((d : SpecMasterEntry) × Contains (entries ++ e ∷ []) d × IsFileWalked size contents d.1.1 n)
        → flag_at marks n ≡ true
    back n any = ⊎_elim (λ there. stays n ((before.walked n).1 (any.0, there, any.2)))
        (λ same. closed_walk file_words IsFileEntry size contents marks e.1.1 n closed begins
        (subst (λ (d : SpecMasterEntry). IsFileWalked size contents d.1.1 n) (sym same) any.2))
        (Contains-push_cases entries e any.0 any.1)

pub marked_go_on : {E : Type 0} (view : E → SpecMasterEntry) (size size' : ℕ) (contents contents' : Contents)
    (es : List E) (i : ℕ) (e : E) (old marks : List Bool) → i < length es → e ≡ get_or es i e → size' ≡ size
    → contents' ≡ contents → AreMarkedTo size contents (map view (take i es)) old
    → ((directories : List SpecMasterEntry) → AreMarkedTo size' contents' directories old
    → AreMarkedTo size' contents' (directories ++ view e ∷ []) marks)
    → AreMarkedTo size contents (map view (take (i + 1) es)) marks
marked_go_on view size size' contents contents' es i e old marks below is sizes same before more =
    subst (λ (l : List SpecMasterEntry). AreMarkedTo size contents l marks) (sym (viewed_more view es i e below is))
    (moved (λ k c. (directories : List SpecMasterEntry) → AreMarkedTo k c directories old
    → AreMarkedTo k c (directories ++ view e ∷ []) marks) size size' contents contents' sizes same more
    (map view (take i es)) before)

pub marked_all : {E : Type 0} (view : E → SpecMasterEntry) (size : ℕ) (contents : Contents) (es : List E) (i : ℕ)
    (marks : List Bool) → length es ≤ i → AreMarkedTo size contents (map view (take i es)) marks
    → AreWalked size contents (map view es) marks
marked_all {E} view size contents es i marks past l =
    subst (λ (xs : List E). AreWalked size contents (map view xs) marks) (take_all i es past) l.walked

pub on_any : {T E : Type 0} (result : Result T E) (A : Type 0) → A → OnOk result A
on_any (Ok x) A is = is
on_any (Err e) A is = tt
