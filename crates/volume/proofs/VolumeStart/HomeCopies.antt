-- What the words of a home copy say.
use Rattle.std.proofs.Common.{◌≡◌, Bool, ◌==◌, ℕ, ◌<◌, ◌≤◌, List, [], ◌∷◌, length, get_or, Some, refl, sym, inl, inr}
use Rattle.std.proofs.Common.{◌∙◌, ap, subst, arith, replicate, slice_index, Option, None, IfNone}
use Rattle.std.specs.Bool.{Decides}
use Rattle.std.specs.Cmp.Lexicographic.{pointwise}
use Rattle.std.proofs.lemmas.Bool.Decides.{Decides-eqb}
use Rattle.std.proofs.lemmas.Slice.Eq.{slice_eq-Decides}
use Rattle.blockdisk.specs.Common.{Contents}
use Rattle.spec_image.specs.Common.{space_start, filser_word, home_block, IsHomeCopy, IsLayout, layout_number}
use Rattle.spec_image.specs.Common.{InSpace, HasName, log_images, table_blocks}
use Rattle.spec_image.specs.declared.layout.Layout.{Layout}
use Rattle.spec_image.specs.declared.layout.Layout.TheVariants.{One, Two}
use Rattle.spec_image.proofs.Common.{some_same}
use Rattle.volume.specs.declared.home.HomeCopy.{HomeCopy}
use Rattle.volume.specs.declared.home.HomeCopy.TheVariants.{Valid, Named, Unnamed}
use Rattle.volume.specs.declared.home.Home.{Home}
use Rattle.volume.specs.Common.{home_in, IsNoCopy, IsFound, SaysSize, holds_words}

-- the number of a layout is one that an image may have
pub is_allowed : (layout : Layout) → IsLayout (layout_number layout)
is_allowed One = inl refl
is_allowed Two = inr refl

-- a number that an image may have is that of a layout
pub layout_for : (number : ℕ) → IsLayout number → (layout : Layout) × (layout_number layout ≡ number)
layout_for number (inl one) = (One, sym one)
layout_for number (inr two) = (Two, sym two)

pub no_layout : (word number : ℕ) (found : Option Layout) → number ≡ word
    → IfNone found ((layout : Layout) → layout_number layout ≡ number → ⊥) → IfNone found (IsLayout word → ⊥)
no_layout word number (Some layout) is none = tt
no_layout word number None is none = λ allowed. let one = layout_for word allowed in none one.0 (one.1 ∙ sym is)

-- words that begin with the name
pub has_name : (words : List ℕ) (n cell first : ℕ) → length words ≡ 128 → first ≡ get_or words 0 cell
    → first ≡ filser_word → HasName (holds_words words) n
has_name [] n cell first long at is = absurd (omega arith)
has_name (word ∷ words) n cell first long at is = (words, ap (λ (w : ℕ). Some (w ∷ words)) (sym at ∙ is))

-- A valid copy is the block of the layout and the first block that its words name.
pub no_copy : (size n : ℕ) (words : List ℕ) → (IsLayout (slice_index words 1) → InSpace size (slice_index words 5)
    → words ≡ home_block size (home_in (slice_index words 1) (slice_index words 5)) → ⊥)
    → IsNoCopy size (holds_words words) n
no_copy size n words wrong home copy =
    let whole : words ≡ home_block size home = some_same copy.words in
    let layout : home.layout ≡ slice_index words 1 = sym (ap (λ (l : List ℕ). slice_index l 1) whole) in
    let master : home.master ≡ slice_index words 5 = sym (ap (λ (l : List ℕ). slice_index l 5) whole) in
    wrong (subst IsLayout layout copy.layout)
    (record {
      from = subst (λ (k : ℕ). space_start size ≤ k) master copy.master_from;
      below = subst (λ (k : ℕ). k < size) master copy.master_below;
    })
    (whole ∙ (λ i. home_block size (home_in (layout i) (master i))))

-- the third word of a block
pub third : (words : List ℕ) (cell word : ℕ) → length words ≡ 128 → word ≡ get_or words 2 cell
    → word ≡ slice_index words 2
third [] cell word long at = absurd (omega arith)
third (a ∷ []) cell word long at = absurd (omega arith)
third (a ∷ b ∷ []) cell word long at = absurd (omega arith)
third (a ∷ b ∷ c ∷ rest) cell word long at = at

-- the size that a valid copy says is one of its words
pub stated : (size n : ℕ) (words : List ℕ) → SaysSize size (holds_words words) n → size ≡ slice_index words 2
stated size n words said = sym (ap (λ (l : List ℕ). slice_index l 2) (some_same said.copy.words))

pub no_size : (size n : ℕ) (words : List ℕ) (copy : HomeCopy) → IsFound size (holds_words words) n copy
    → ((home : Home) → copy ≡ Valid home → ⊥) → SaysSize size (holds_words words) n → ⊥
no_size size n words (Valid home) found other said = other home refl
no_size size n words Named found other said = found.1 said.home said.copy
no_size size n words Unnamed found other said =
    let home = said.home in
    found (
      home.layout ∷ size ∷ table_blocks size ∷ log_images size ∷ home.master ∷ replicate 122 0,
      said.copy.words,
    )

pub valid_copy : (size n layout master : ℕ) (words : List ℕ) → IsLayout layout → InSpace size master
    → words ≡ home_block size (home_in layout master) → IsHomeCopy size (holds_words words) n (home_in layout master)
valid_copy size n layout master words allowed inside whole = record {
  words = ap Some whole;
  layout = allowed;
  master_from = inside.from;
  master_below = inside.below;
}

-- what is found in the words of a block is found in the block
pub found_in : (size : ℕ) (c : Contents) (n : ℕ) (words : List ℕ) (copy : HomeCopy) → c n ≡ Some words
    → IsFound size (holds_words words) n copy → IsFound size c n copy
found_in size c n words (Valid home) is found = record {
  words = is ∙ found.words;
  layout = found.layout;
  master_from = found.master_from;
  master_below = found.master_below;
}
found_in size c n words Named is found = (
  (found.0.0, is ∙ found.0.1),
  λ home copy. found.1 home (record {
    words = sym is ∙ copy.words;
    layout = copy.layout;
    master_from = copy.master_from;
    master_below = copy.master_below;
  }),
)
found_in size c n words Unnamed is found = λ named. found (named.0, sym is ∙ named.1)

-- words that were compared
pub same_words : (words others : List ℕ) (answer : Bool) → answer ≡ pointwise (λ a b. a == b) words others
    → Decides answer (words ≡ others)
same_words words others answer is = slice_eq-Decides {E = λ a b. a == b} (λ a b. Decides-eqb a b) words others answer is
