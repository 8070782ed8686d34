-- The size of a volume by its home copies, and a copy of that size.
use Rattle.std.proofs.Common.{◌≡◌, ◌⊎◌, ◌↔◌, inl, inr, ⊎_elim, ◌∙◌, refl, sym, subst, arith, ℕ, ◌+◌, ◌<◌, ◌≤◌}
use Rattle.std.proofs.Common.{Bool, List, Option, Some, None, length, IfOk, IfSome, Result, Ok, Err, ◌==◌}
use Rattle.std.proofs.Common.{true, false}
use Rattle.std.specs.Prelude.{if◌then◌else◌}
use Rattle.std.proofs.lemmas.Bool.Decides.{nat_tests}
use Rattle.blockdisk.specs.Common.{Contents, DiskState, Memory, SameDisk, held}
use Rattle.changeset.specs.Common.{OnlyReads}
use Rattle.spec_image.specs.Common.{File, Files, IsVolumeSize, SettledStands, Stands, home_of}
use Rattle.volume.specs.Common.{SaysSize, holds_words}
use Rattle.salvage.specs.Common.{AreSaid, HasHome, IsCopyAt, IsCopyOf, IsMadeAt, IsSaid, held_to, size_by}
use Rattle.salvage.specs.declared.copied.Copied.{Copied}
use Rattle.salvage.specs.declared.copied.CopyFaults.{CopyFaults}
use Rattle.salvage.proofs.Agreement.{stands_agree}
use Rattle.salvage.proofs.CopySteps.{held_below, held_still}
use Rattle.salvage.proofs.SettledCopies.{copy_stands}

-- What a home copy says.

pub none_some : {X : Type 0} {x : X} → None ≡ Some x → ⊥
none_some e = cc

-- A home copy says what the same block says elsewhere.
pub says_same : (size n : ℕ) (c d : Contents) → c n ≡ d n → SaysSize size c n → SaysSize size d n
says_same size n c d same said = record {
  volume = said.volume;
  home = said.home;
  copy = record {
    words = sym same ∙ said.copy.words;
    layout = said.copy.layout;
    master_from = said.copy.master_from;
    master_below = said.copy.master_below;
  };
}

-- What the words of a block say, the block says.
pub said_there : (n size : ℕ) (c : Contents) (words : List ℕ) (found : Option ℕ) → c n ≡ Some words
    → ((size k : ℕ) → (found ≡ Some size) ↔ SaysSize size (holds_words words) k)
    → (found ≡ Some size) ↔ SaysSize size c n
said_there n size c words found is tells = (
  λ e. says_same size n (holds_words words) c (sym is) ((tells size n).0 e),
  λ said. (tells size n).1 (says_same size n c (holds_words words) is said),
)

pub said_words : (blocks : ℕ) (contents : Contents) (n : ℕ) → n < blocks → (words : List ℕ) (found : Option ℕ)
    → contents n ≡ Some words → ((size k : ℕ) → (found ≡ Some size) ↔ SaysSize size (holds_words words) k)
    → IsSaid (held_to blocks contents) n 0 found
said_words blocks contents n inside words (Some size) is tells = says_same size n (holds_words words)
    (held_to blocks contents) (sym (held_below blocks contents n inside ∙ is)) ((tells size n).0 refl)
said_words blocks contents n inside words None is tells = λ none size said. none_some ((tells size n).1
    (says_same size n (held_to blocks contents) (holds_words words)
    (held_below blocks contents n inside ∙ is) said))

pub said_volume : (found : Option ℕ) (words : List ℕ)
    → ((size n : ℕ) → (found ≡ Some size) ↔ SaysSize size (holds_words words) n) → IfSome found IsVolumeSize
said_volume None words tells = tt
said_volume (Some size) words tells = ((tells size 0).0 refl).volume

-- More reads may have failed, and the disk is as it was.
said_more : (c d : Contents) (n unread total : ℕ) (said : Option ℕ) → c n ≡ d n → unread ≤ total
    → IsSaid c n unread said → IsSaid d n total said
said_more c d n unread total (Some size) same few said = says_same size n c d same said
said_more c d n unread total None same few said = λ none size there. said (omega arith) size
    (says_same size n d c (sym same) there)

-- Both.

pub both_said : (first mid : DiskState) (one other : ℕ) (one_said other_said : Option ℕ) → SameDisk first mid
    → OnlyReads first mid → IsSaid (held_to first.size first.contents) 1 one one_said
    → IsSaid (held_to mid.size mid.contents) 2 other other_said
    → AreSaid first.size first.contents (one + other) one_said other_said
both_said first mid one other one_said other_said same reads a b = record {
  first_said = said_more (held_to first.size first.contents) (held_to first.size first.contents) 1 one (one + other)
      one_said refl (omega arith) a;
  second_said = said_more (held_to mid.size mid.contents) (held_to first.size first.contents) 2 other (one + other)
      other_said (held_still first mid 2 same reads) (omega arith) b;
}

-- If a volume can't have the size, no home copy says one.
pub unsaid : (blocks : ℕ) (contents : Contents) (unread size : ℕ) (one other : Option ℕ)
    → AreSaid blocks contents unread one other → size ≡ size_by blocks one other → unread ≡ 0
    → (IsVolumeSize size → ⊥) → (k : ℕ) → HasHome k (held_to blocks contents) → ⊥
unsaid blocks contents unread size None None are is none wrong k home =
    ⊎_elim (λ said. are.first_said none k said) (λ said. are.second_said none k said) home
unsaid blocks contents unread size (Some a) None are is none wrong k home =
    wrong (subst IsVolumeSize (sym is) are.first_said.volume)
unsaid blocks contents unread size None (Some b) are is none wrong k home =
    wrong (subst IsVolumeSize (sym is) are.second_said.volume)
unsaid blocks contents unread size (Some a) (Some b) are is none wrong k home = by (b == blocks) refl is
  where
    by : (same : Bool) → (b == blocks) ≡ same → size ≡ (if same then blocks else a) → ⊥
    by true e at =
        let equal : b ≡ blocks = grind (arith, nat_tests) in
        wrong (subst IsVolumeSize (equal ∙ sym at) are.second_said.volume)
    by false e at = wrong (subst IsVolumeSize (sym at) are.first_said.volume)

-- The copy of a disk.

-- It is that of the disk as it was before.
pub copy_since : (first mid : DiskState) (size : ℕ) (copy : Memory) (unread : ℕ) (lost : Bool) → SameDisk first mid
    → OnlyReads first mid → IsCopyAt mid size copy unread lost → IsCopyAt first size copy unread lost
copy_since first mid size copy unread lost same reads so = record {
  size_is = so.size_is;
  copied = so.copied;
  copies = record {
    missed = so.copies.missed;
    few = so.copies.few;
    each = λ n below. ⊎_elim (λ is. inl (is ∙ held_still first mid n same reads)) (λ missed. inr missed)
        (so.copies.each n below);
  };
  settled = so.settled;
}

-- Files stand on no disk that hasn't a volume's size.
stands_on : (size : ℕ) (contents : Contents) (files : Files File) → Stands size contents files → IsVolumeSize size
stands_on size contents files stands = stands.2.1.volume

-- The home copy of a copy that stands is valid.
settled_home : (size : ℕ) (settled : Contents) (files : Files File) → SettledStands size settled files
    → HasHome size settled
settled_home size settled files stands =
    let s = stands.1 in
    ⊎_elim (λ one. inl (record { volume = s.volume; home = home_of stands.0; copy = one }))
    (λ other. inr (record { volume = s.volume; home = home_of stands.0; copy = other.1 })) s.mapped.home

module _ (from : DiskState) (faults : CopyFaults) (copy : Memory) (homes others : ℕ) (one other : Option ℕ)
    (all : homes + others ≤ faults.unread) (said : AreSaid from.size from.contents homes one other) where
  -- of the size that its home copies say, which is that of the disk, or the disk has none that a volume has
  pub copy_of_said : (size : ℕ) → size ≡ size_by from.size one other
      → (size ≡ from.size) ⊎ (IsVolumeSize from.size → ⊥)
      → IsCopyAt from size copy others faults.has_bad_log → IsCopyOf from copy faults
  copy_of_said size is either so = record {
    homes = homes;
    others = others;
    all = all;
    size = record { first = one; second = other; said = said; size_is = inl (so.size_is ∙ is) };
    copied = subst (λ k. IsCopyAt from k copy others faults.has_bad_log) (sym so.size_is) so;
    stands = λ none files stands. ⊎_elim
        (λ (same : size ≡ from.size).
        let there = copy_stands from copy others faults.has_bad_log
        (subst (λ k. IsCopyAt from k copy others faults.has_bad_log) same so) (omega arith) files stands in
        (there.0, so.size_is ∙ same, there.1))
        (λ no_size. absurd (no_size (stands_on from.size from.contents files stands))) either;
  }

  -- of the size of the disk, which a home copy of this copy has
  pub copy_of_agreed : IsCopyAt from from.size copy others faults.has_bad_log
      → HasHome from.size (held copy.blocks) → IsCopyOf from copy faults
  copy_of_agreed so home = record {
    homes = homes;
    others = others;
    all = all;
    size = record {
      first = one;
      second = other;
      said = said;
      size_is = inr (so.size_is, subst (λ k. HasHome k (held copy.blocks)) (sym so.size_is) home);
    };
    copied = subst (λ k. IsCopyAt from k copy others faults.has_bad_log) (sym so.size_is) so;
    stands = λ none files stands.
        let there = copy_stands from copy others faults.has_bad_log so (omega arith) files stands in
        (there.0, so.size_is, there.1);
  }

  -- of another one, since no home copy of a copy of the disk's size says that
  pub copy_of_other : (size : ℕ) → size ≡ size_by from.size one other
      → (tried : Memory) (before : ℕ) (was_lost : Bool) → before ≤ faults.unread
      → IsCopyAt from from.size tried before was_lost → (HasHome from.size (held tried.blocks) → ⊥)
      → IsCopyAt from size copy others faults.has_bad_log → IsCopyOf from copy faults
  copy_of_other size is tried before was_lost fewer first no_home so = record {
    homes = homes;
    others = others;
    all = all;
    size = record { first = one; second = other; said = said; size_is = inl (so.size_is ∙ is) };
    copied = subst (λ k. IsCopyAt from k copy others faults.has_bad_log) (sym so.size_is) so;
    stands = λ none files stands.
        let there = copy_stands from tried before was_lost first (omega arith) files stands in
        absurd (no_home (settled_home from.size (held tried.blocks) files there.1));
  }

-- A copy of a disk, by what was made of it.

pub ok_then : {T E : Type 0} (P Q : T → Type 0) (result : Result T E) → ((x : T) → P x → Q x) → IfOk result P
    → IfOk result Q
ok_then P Q (Ok x) next is = next x is
ok_then P Q (Err e) next is = tt

pub agreed_copy : (d : DiskState) (faults : CopyFaults) (copy before : Memory) (blocks unread : ℕ)
    (one other : Option ℕ) → copy ≡ before → blocks ≡ d.size → IsMadeAt d blocks unread before faults
    → HasHome (length before.blocks) (held before.blocks) → AreSaid d.size d.contents unread one other
    → IsCopyOf d copy faults
agreed_copy d faults copy before blocks unread one other same all made home said =
    let few = made.all in
    subst (λ (m : Memory). IsCopyOf d m faults) (sym same)
    (copy_of_agreed d faults before unread made.own one other (omega arith) said
    (subst (λ k. IsCopyAt d k before made.own faults.has_bad_log) all made.copied)
    (subst (λ k. HasHome k (held before.blocks)) (made.copied.size_is ∙ all) home))

pub said_copy : {E : Type 0} (d mid : DiskState) (result : Result Copied E) (size unread : ℕ) (one other : Option ℕ)
    → SameDisk d mid → OnlyReads d mid → (size ≡ d.size) ⊎ (IsVolumeSize d.size → ⊥)
    → size ≡ size_by d.size one other → AreSaid d.size d.contents unread one other
    → IfOk result (λ (c : Copied). IsMadeAt mid size unread c.disk c.faults)
    → IfOk result (λ (c : Copied). IsCopyOf d c.disk c.faults)
said_copy d mid (Err e) size unread one other same reads either is said made = tt
said_copy d mid (Ok c) size unread one other same reads either is said made =
    let few = made.all in
    copy_of_said d c.faults c.disk unread made.own one other (omega arith) said size is either
    (copy_since d mid size c.disk made.own c.faults.has_bad_log same reads made.copied)

pub other_copy : {E : Type 0} (d mid : DiskState) (result : Result Copied E) (tried : Copied)
    (size blocks unread : ℕ) (one other : Option ℕ) → SameDisk d mid → OnlyReads d mid → blocks ≡ d.size
    → IsMadeAt d blocks unread tried.disk tried.faults
    → (HasHome (length tried.disk.blocks) (held tried.disk.blocks) → ⊥) → size ≡ size_by d.size one other
    → AreSaid d.size d.contents unread one other
    → IfOk result (λ (c : Copied). IsMadeAt mid size tried.faults.unread c.disk c.faults)
    → IfOk result (λ (c : Copied). IsCopyOf d c.disk c.faults)
other_copy d mid (Err e) tried size blocks unread one other same reads all first no_home is said made = tt
other_copy d mid (Ok c) tried size blocks unread one other same reads all first no_home is said made =
    let few = made.all in
    let before = first.all in
    copy_of_other d c.faults c.disk unread made.own one other (omega arith) said size is tried.disk first.own
    tried.faults.has_bad_log (omega arith)
    (subst (λ k. IsCopyAt d k tried.disk first.own tried.faults.has_bad_log) all first.copied)
    (λ home. no_home (subst (λ k. HasHome k (held tried.disk.blocks)) (sym (first.copied.size_is ∙ all)) home))
    (copy_since d mid size c.disk made.own c.faults.has_bad_log same reads made.copied)

-- A disk that was only read has the same home copies and the same copies as before.
module _ (d mid : DiskState) (same : SameDisk d mid) (reads : OnlyReads d mid) where
  said_later : (unread : ℕ) (one other : Option ℕ) → AreSaid d.size d.contents unread one other
      → AreSaid mid.size mid.contents unread one other
  said_later unread one other are = record {
    first_said = said_more (held_to d.size d.contents) (held_to mid.size mid.contents) 1 unread unread one
        (sym (held_still d mid 1 same reads)) (omega arith) are.first_said;
    second_said = said_more (held_to d.size d.contents) (held_to mid.size mid.contents) 2 unread unread other
        (sym (held_still d mid 2 same reads)) (omega arith) are.second_said;
  }

  said_before : (unread : ℕ) (one other : Option ℕ) → AreSaid mid.size mid.contents unread one other
      → AreSaid d.size d.contents unread one other
  said_before unread one other are = record {
    first_said = said_more (held_to mid.size mid.contents) (held_to d.size d.contents) 1 unread unread one
        (held_still d mid 1 same reads) (omega arith) are.first_said;
    second_said = said_more (held_to mid.size mid.contents) (held_to d.size d.contents) 2 unread unread other
        (held_still d mid 2 same reads) (omega arith) are.second_said;
  }

  copy_of_before : (copy : Memory) (faults : CopyFaults) → IsCopyOf mid copy faults → IsCopyOf d copy faults
  copy_of_before copy faults p = record {
    homes = p.homes;
    others = p.others;
    all = p.all;
    size = record {
      first = p.size.first;
      second = p.size.second;
      said = said_before p.homes p.size.first p.size.second p.size.said;
      size_is = subst (λ k. (length copy.blocks ≡ size_by k p.size.first p.size.second)
          ⊎ ((length copy.blocks ≡ k) × HasHome (length copy.blocks) (held copy.blocks))) same.size p.size.size_is;
    };
    copied = copy_since d mid (length copy.blocks) copy p.others faults.has_bad_log same reads p.copied;
    stands = λ none files stands. subst (λ k. (faults.has_bad_log ≡ false) × (length copy.blocks ≡ k)
        × SettledStands k (held copy.blocks) files) same.size (p.stands none files
        (subst (λ k. Stands k mid.contents files) (sym same.size)
        (stands_agree d.size d.contents mid.contents (λ n below. reads.still.contents n) files stands)));
  }

  pub either_copy : {E : Type 0} (result : Result Copied E) (size unread : ℕ) (one other : Option ℕ)
      → AreSaid d.size d.contents unread one other → size ≡ size_by d.size one other
      → ((first second : Option ℕ) → AreSaid mid.size mid.contents unread first second
      → size ≡ size_by mid.size first second → IfOk result (λ (c : Copied). IsCopyOf mid c.disk c.faults))
      → IfOk result (λ (c : Copied). IsCopyOf d c.disk c.faults)
  either_copy result size unread one other said is made = ok_then (λ (c : Copied). IsCopyOf mid c.disk c.faults)
      (λ (c : Copied). IsCopyOf d c.disk c.faults) result (λ c p. copy_of_before c.disk c.faults p)
      (made one other (said_later unread one other said) (subst (λ k. size ≡ size_by k one other) (sym same.size) is))
