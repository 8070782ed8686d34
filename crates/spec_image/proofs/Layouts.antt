-- The layout of contents, and what they stand for in it.
use Rattle.std.proofs.Common.{◌≡◌, ℕ, ◌<◌, ◌≤◌, ◌==◌, inl, inr, Bool, true, false, cond, List, Option, Some, None}
use Rattle.std.proofs.Common.{refl, sym, ap, ◌∙◌}
use Rattle.std.specs.Bool.{Decides}
use Rattle.std.proofs.lemmas.Bool.Decides.{Decides-and, Decides-or, Decides-eqb, Decides-ltb}
use Rattle.std.proofs.lemmas.Bool.{leb-true, le-leb}
use Rattle.std.proofs.lemmas.Slice.Eq.{slice_eq-Decides}
use Rattle.blockdisk.specs.Common.{Contents}
use Rattle.spec_image.specs.Files.{File, Files}
use Rattle.spec_image.specs.Home.{SpecHome, home_block, IsLayout, IsHomeCopy, IsHome}
use Rattle.spec_image.specs.Layouts.{is_layout, home_named, is_home_copy, layout_named, layout_of, pack_in}
use Rattle.spec_image.specs.Layouts.{SettledStandsOn, StandsOn, Pack}
use Rattle.spec_image.specs.Regions.{space_start}
use Rattle.spec_image.specs.Stands.{SettledStands, Stands}

-- The test of a home copy.

layout_told : (layout : ℕ) → Decides (is_layout layout) (IsLayout layout)
layout_told layout = Decides-or (layout == 1) (layout == 2) (Decides-eqb layout 1) (Decides-eqb layout 2)

-- a layout that an image may have isn't 0, which means that there is none
layout_nonzero : (layout : ℕ) → IsLayout layout → (layout == 0) ≡ false
layout_nonzero layout (inl one) = ap (λ l. l == 0) one
layout_nonzero layout (inr two) = ap (λ l. l == 0) two

abbrev Checked : ℕ → List ℕ → Type 0
Checked size words = (words ≡ home_block size (home_named words)) × (IsLayout (home_named words).layout
    × ((space_start size ≤ (home_named words).master) × ((home_named words).master < size)))

copy_told : (size : ℕ) (words : List ℕ) → Decides (is_home_copy size words) (Checked size words)
copy_told size words =
    Decides-and _ _ (slice_eq-Decides {E = λ a b. a == b} (λ a b. Decides-eqb a b) words
    (home_block size (home_named words)) _ refl)
    (Decides-and _ _ (layout_told (home_named words).layout)
    (Decides-and _ _
    (leb-true (space_start size) (home_named words).master, le-leb (space_start size) (home_named words).master)
    (Decides-ltb (home_named words).master size)))

copy_named : (size : ℕ) (contents : Contents) (n : ℕ) (words : List ℕ) → contents n ≡ Some words
    → is_home_copy size words ≡ true → IsHomeCopy size contents n (home_named words)
copy_named size contents n words at valid =
    let is : Checked size words = (copy_told size words).0 valid in
    record {
      words = at ∙ ap Some is.0;
      layout = is.1.0;
      master_from = is.1.1.0;
      master_below = is.1.1.1;
    }

-- a valid copy names its layout
named : (size : ℕ) (contents : Contents) (n : ℕ) (home : SpecHome) → IsHomeCopy size contents n home
    → layout_named size (contents n) ≡ home.layout
named size contents n home copy =
    let is : Checked size (home_block size home) = (refl, (copy.layout, (copy.master_from, copy.master_below))) in
    ap (layout_named size) copy.words
    ∙ ap (λ b. cond b home.layout 0) ((copy_told size (home_block size home)).1 is)

-- a block that is no valid copy names none
unnamed : (size : ℕ) (contents : Contents) (n : ℕ) (block : Option (List ℕ)) → contents n ≡ block
    → ((home : SpecHome) → IsHomeCopy size contents n home → ⊥) → layout_named size block ≡ 0
unnamed size contents n None at none = refl
unnamed size contents n (Some words) at none = by (is_home_copy size words) refl
  where
    by : (b : Bool) → is_home_copy size words ≡ b → cond b (home_named words).layout 0 ≡ 0
    by true valid = absurd (none (home_named words) (copy_named size contents n words at valid))
    by false invalid = refl

-- The layout of contents is that of the home copy that counts.
pub layout_is : (size : ℕ) (contents : Contents) (home : SpecHome) → IsHome size contents home
    → layout_of size contents ≡ home.layout
unfolding layout_of
layout_is size contents home (inl copy) =
    let first = named size contents 1 home copy in
    let nonzero : (layout_named size (contents 1) == 0) ≡ false = ap (λ l. l == 0) first
    ∙ layout_nonzero home.layout copy.layout in
    ap (λ b. cond b (layout_named size (contents 2)) (layout_named size (contents 1))) nonzero ∙ first
layout_is size contents home (inr copy) =
    let first = unnamed size contents 1 (contents 1) refl copy.0 in
    ap (λ l. cond (l == 0) (layout_named size (contents 2)) l) first ∙ named size contents 2 home copy.1

-- Contents with the same home copies have the same layout.
pub layouts_agree : (size : ℕ) (contents other : Contents) → contents 1 ≡ other 1 → contents 2 ≡ other 2
    → layout_of size contents ≡ layout_of size other
unfolding layout_of
layouts_agree size contents other first second i =
    cond (layout_named size (first i) == 0) (layout_named size (second i)) (layout_named size (first i))

-- What contents stand for in a layout.

pub stands_in_any : (pack : Pack) (contents : Contents) (files : Files File) → StandsOn pack contents files
    → Stands pack.blocks contents files
stands_in_any pack contents files stands = (stands.0, stands.1, (stands.2.0, stands.2.1, stands.2.2))

pub settled_in_any : (pack : Pack) (settled : Contents) (files : Files File) → SettledStandsOn pack settled files
    → SettledStands pack.blocks settled files
settled_in_any pack settled files stands = (stands.0, stands.1, stands.2)

pub settled_in_its_own : (size : ℕ) (settled : Contents) (files : Files File) → SettledStands size settled files
    → SettledStandsOn (pack_in (layout_of size settled) size) settled files
settled_in_its_own size settled files stands =
    (stands.0, stands.1, stands.2, sym (layout_is size settled _ stands.1.mapped.home))

-- There is one such layout.
pub settled_layout : (pack : Pack) (settled : Contents) (files : Files File) → SettledStandsOn pack settled files
    → layout_of pack.blocks settled ≡ pack.layout
settled_layout pack settled files stands = layout_is pack.blocks settled _ stands.1.mapped.home ∙ stands.3
