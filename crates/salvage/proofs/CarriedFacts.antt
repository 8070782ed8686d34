-- What holds for one thing is carried to another.
use Rattle.std.proofs.Common.{◌≡◌, ℕ, List, Result, Ok, Err, OnOk, subst}
use Rattle.std.proofs.lemmas.List.Elements.{All-contains, All-from_recursion}
use Rattle.std.specs.List.{AllByRecursion, Contains}
use Rattle.blockdisk.specs.Common.{Contents}

-- What holds for the disk at one step holds for it at the first, if it was only read.
pub moved : (P : ℕ → Contents → Type 0) (size size' : ℕ) (contents contents' : Contents) → size' ≡ size
    → contents' ≡ contents → P size' contents' → P size contents
moved P size size' contents contents' sizes same holds = subst (λ (c : Contents). P size c) same
    (subst (λ (n : ℕ). P n contents') sizes holds)

-- what holds at Ok, and what follows
pub on_ok : {T E P Q : Type 0} (result : Result T E) → (P → Q) → OnOk result P → OnOk result Q
on_ok (Ok x) then holds = then holds
on_ok (Err e) then holds = tt

pub always : {T E P : Type 0} (result : Result T E) → P → OnOk result P
always (Ok x) holds = holds
always (Err e) holds = tt

pub on_ok_both : {T E P Q R : Type 0} (result : Result T E) → (P → Q → R) → OnOk result P → OnOk result Q
    → OnOk result R
on_ok_both (Ok x) then p q = then p q
on_ok_both (Err e) then p q = tt

-- what all of a list have, each of it has
pub element_has : {A : Type 0} (P : A → Type 0) (xs : List A) (x : A) → AllByRecursion P xs → Contains xs x → P x
element_has P xs x all there = All-contains P xs x (All-from_recursion P xs all) there
