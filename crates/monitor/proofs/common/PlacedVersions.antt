-- Versions that are being written may be published under their names: they still may if others are dropped, get words,
-- are begun or published.
use Rattle.std.proofs.Common.{◌≡◌, ◌<◌, ℕ, zero, suc, Bool, true, false, Option, List, [], ◌∷◌, slice_get, slice_set}
use Rattle.std.proofs.Common.{Some, None, refl, sym, ap, subst, ◌∙◌, ⊎_elim, arith}
use Rattle.std.proofs.lemmas.Bool.{cases_eq, eq-eqb}
use Rattle.std.specs.Prelude.{◌==◌, ◌&&◌, ◌||◌, is_none}
use Rattle.std.specs.List.{list_any}
use Rattle.spec_image.specs.Common.{Place, same_place, place_of, SpecMasterEntry, name_cmp, get, insert, from_entries}
use Rattle.retrieval.specs.Common.{VersionState}
use Rattle.retrieval.specs.declared.prime.Prime.{Prime}
use Rattle.volume.specs.Common.{claims_at, claims, begun, begun_version, is_absent, IsBegun, IsDirectoryOf}
use Rattle.volume.specs.Common.{CurrentDirectory, MemoryMap, pending_at, IsPlaced, IsPublishedMemory}
use Rattle.monitor.specs.Common.{OnlyDrops, ArePlaced}
use Rattle.monitor.proofs.common.Dropped.{same_or_not}
use Rattle.words36.specs.declared.names.FileName.{FileName}
use Rattle.std.specs.Ordering.{nat_cmp}
use Rattle.spec_image.proofs.Common.{some_same, some_none, get-insert_other, get-from_entries, name_total, name_exact}
use Rattle.directory.specs.Common.{StandsAt}
use Rattle.volume.specs.declared.pending.PendingKind.{PendingKind}
use Rattle.volume.specs.declared.pending.PendingVersion.{PendingVersion}
use Rattle.volume.proofs.BeginVersion.Beginnings.{named_none}
use Rattle.volume.proofs.PublishVersion.Publications.{placed_on}
use Rattle.volume.proofs.common.Lists.{set_there}
use Rattle.volume.proofs.RenameAcross.Places.{set_elsewhere}

pub placed_none : (c : MemoryMap) → c.pending ≡ [] → ArePlaced c
placed_none c none = record {
  each = λ key p at. absurd (wrong key p at);
  single = λ k key p q at here ppn file. absurd (wrong k p at);
}
  where
    wrong : (key : ℕ) (p : PendingVersion) → pending_at c.pending key ≡ Some p → ⊥
    wrong key p at = some_none (sym (subst (λ ps. pending_at ps key ≡ Some p) none at))

pub placed_left : (c c' : MemoryMap) → OnlyDrops c c' → ArePlaced c → ArePlaced c'
placed_left c c' leaves placed = record {
  each = λ key p at. placed_on c c' leaves.known p p.version (placed.each key p (leaves.stay key p at));
  single = λ k key p q at here. placed.single k key p q (leaves.stay k p at) (leaves.stay key q here);
}

-- Words are put into one.

pub placed_put : (c c' : MemoryMap) (key : ℕ) (p : PendingVersion) (v : VersionState)
    → pending_at c.pending key ≡ Some p → pending_at c'.pending key ≡ Some (record p { version = v })
    → ((k : ℕ) → (k ≡ key → ⊥) → pending_at c'.pending k ≡ pending_at c.pending k)
    → c'.known ≡ record c.known { table = c'.known.table } → ArePlaced c → ArePlaced c'
placed_put c c' key p v at here others known placed = record {
  each = λ k q there.
      let was = before k q there in
      subst (IsPlaced c') (sym was.2) (placed_on c c' known was.0 q.version (placed.each k was.0 was.1));
  single = λ k j q r there too ppn file.
      let x = before k q there in
      let y = before j r too in
      placed.single k j x.0 y.0 x.1 y.1 (sym (ap (λ (z : PendingVersion). z.prime.ppn) x.2) ∙ ppn
      ∙ ap (λ (z : PendingVersion). z.prime.ppn) y.2) (sym (ap (λ (z : PendingVersion). z.prime.file) x.2)
      ∙ file ∙ ap (λ (z : PendingVersion). z.prime.file) y.2);
}
  where
    -- each was there, with words of its own
    before : (k : ℕ) (q : PendingVersion) → pending_at c'.pending k ≡ Some q → (r : PendingVersion)
        × (pending_at c.pending k ≡ Some r) × (q ≡ record r { version = q.version })
    before k q there = same_or_not k key
        (λ same.
        let is : q ≡ record p { version = v } = some_same (sym there ∙ ap (pending_at c'.pending) same ∙ here) in (
          p,
          ap (pending_at c.pending) same ∙ at,
          is ∙ ap (λ (x : VersionState). record p { version = x }) (sym (ap (λ (z : PendingVersion). z.version) is)),
        ))
        (λ apart. (q, sym (others k apart) ∙ there, refl))

-- One is begun, whose place none has.

-- a place that nobody claims is no version's
pub unclaimed : (pending : List (Option PendingVersion)) (k : ℕ) (p : PendingVersion) (place : Place)
    → claims pending place ≡ false → pending_at pending k ≡ Some p → place_of p.prime.ppn p.prime.file ≡ place → ⊥
unclaimed pending k p place none at is =
    let here = in_any (claims_at place) pending k (Some p) (get_of pending k p at) none in
    let all = same_is (place_of p.prime.ppn p.prime.file) place is in
    let both = sym here ∙ all in
    cc both
  where
    same_is : (a b : Place) → a ≡ b → same_place a b ≡ true
    same_is a b e = subst (λ x. same_place a x ≡ true) e (both a.ppn a.name.name a.name.ext)
      where
        both : (i j k : ℕ) → ((i == i) && (j == j) && (k == k)) ≡ true
        both i j k = ap (λ b. b && (j == j) && (k == k)) (eq-eqb i i refl) ∙ ap (λ b. b && (k == k)) (eq-eqb j j refl)
            ∙ eq-eqb k k refl

    get_of : (xs : List (Option PendingVersion)) (i : ℕ) (p : PendingVersion) → pending_at xs i ≡ Some p
        → slice_get xs i ≡ Some (Some p)
    get_of [] i p at = absurd (some_none (sym at))
    get_of (x ∷ xs) zero p at = ap (λ o. Some o) at
    get_of (x ∷ xs) (suc i) p at = get_of xs i p at

    left_false : (a b : Bool) → (a || b) ≡ false → a ≡ false
    left_false true b e = e
    left_false false b e = refl

    right_false : (a b : Bool) → (a || b) ≡ false → b ≡ false
    right_false true b e = let wrong = e in cc
    right_false false b e = e

    in_any : {X : Type 0} (f : X → Bool) (xs : List X) (i : ℕ) (x : X) → slice_get xs i ≡ Some x → list_any f xs ≡ false
        → f x ≡ false
    in_any f [] i x at none = absurd (some_none (sym at))
    in_any f (y ∷ ys) zero x at none = ap f (sym (some_same at)) ∙ left_false (f y) (list_any f ys) none
    in_any f (y ∷ ys) (suc i) x at none = in_any f ys i x at (right_false (f y) (list_any f ys) none)

pub placed_begun : (c c' : MemoryMap) (key : ℕ) (kind : PendingKind) (prime : Prime) → IsBegun c c' key kind prime
    → (prime.file.name == 0) ≡ false → claims c.pending (place_of prime.ppn prime.file) ≡ false → ArePlaced c
    → ArePlaced c'
placed_begun c c' key kind prime begins named free placed = record {
  each = λ k p at. same_or_not k key
      (λ same. subst (IsPlaced c') (some_same (sym begins.here ∙ ap (pending_at c'.pending) (sym same) ∙ at))
      (placed_on c c' known (begun kind prime begins.old) (begun_version kind begins.old)
      (record {
        named = above prime.file.name named;
        directory = begins.directory;
        there = begins.there;
        is_new = begins.is_new ∙ named_none begins.directory prime.file begins.old begins.named;
      })))
      (λ other. placed_on c c' known p p.version (placed.each k p (sym (begins.others k other) ∙ at)));
  single = λ k l p q at there ppn file. same_or_not k key
      (λ here. same_or_not l key (λ too. here
      ∙ sym too) (λ other. absurd (new_alone k l p q at there here other (sym ppn) (sym file))))
      (λ other. same_or_not l key (λ here. absurd (new_alone l k q p there at here other ppn file))
      (λ apart. placed.single k l p q (sym (begins.others k other) ∙ at) (sym (begins.others l apart)
      ∙ there) ppn file));
}
  where
    above : (n : ℕ) → (n == 0) ≡ false → 0 < n
    above zero is = let wrong = is in cc
    above (suc n) is = omega arith

    known : c'.known ≡ record c.known { table = c'.known.table }
    known = begins.known ∙ (λ i. record c.known { table = sym (ap (λ x. x.table) begins.known) i })

    new_alone : (k l : ℕ) (p q : PendingVersion) → pending_at c'.pending k ≡ Some p → pending_at c'.pending l ≡ Some q
        → k ≡ key → (l ≡ key → ⊥) → q.prime.ppn ≡ p.prime.ppn → q.prime.file ≡ p.prime.file → ⊥
    new_alone k l p q at there here other ppn file =
        let is = ap (λ (x : PendingVersion). x.prime)
        (some_same (sym begins.here ∙ ap (pending_at c'.pending) (sym here) ∙ at)) in
        unclaimed c.pending l q (place_of prime.ppn prime.file) free (sym (begins.others l other)
        ∙ there) (λ i. place_of ((ppn ∙ sym (ap (λ x. x.ppn) is)) i) ((file ∙ sym (ap (λ x. x.file) is)) i))

-- One is published.

-- another name is in a directory where it was
same_absent : (d d' : CurrentDirectory) (name other : FileName) (at : ℕ) → from_entries {R = name_cmp} d'.chain.entries
    ≡ insert (from_entries d.chain.entries) name at → (other ≡ name → ⊥) → is_absent other d' ≡ is_absent other d
same_absent d d' name other at names apart =
    ap is_none (sym (get-from_entries name_total d'.chain.entries other) ∙ ap (λ m. get m other) names
    ∙ get-insert_other name_total name_exact (from_entries d.chain.entries) name at other apart
    ∙ get-from_entries name_total d.chain.entries other)

module _ (size : ℕ) (c c' : MemoryMap) (key : ℕ) (p : PendingVersion) (words : ℕ)
    (is : IsPublishedMemory size c c' key p words) where
  other_placed : (q : PendingVersion) → (q.prime.ppn ≡ p.prime.ppn → q.prime.file ≡ p.prime.file → ⊥) → IsPlaced c q
      → IsPlaced c' q
  other_placed q apart placed =
      let put = placed_on c is.put is.known q q.version placed in
      let new = is.makes_current.published in
      let there = put.there in
      let stands = subst (λ (es : List SpecMasterEntry). StandsAt nat_cmp es q.prime.ppn there.1 there.0)
      (ap (λ m. m.entries) (sym new.master)) there.2 in
      ⊎_elim
      (λ (same : there.0 ≡ new.place).
      let directory : new.directory ≡ put.directory = some_same (sym new.directory_at
      ∙ ap (slice_get is.put.known.directories) (sym same) ∙ there.3) in
      let ppn : q.prime.ppn ≡ p.prime.ppn = ap (λ (e : ℕ × (ℕ × ℕ)). e.0)
      (some_same (sym there.2.is ∙ ap (slice_get is.put.known.master.entries) same ∙ new.there.is)) in
      record {
        named = put.named;
        directory = new.directory';
        there = (
          there.0,
          there.1,
          stands,
          ap (λ ds. slice_get ds there.0) new.directories
              ∙ ap (slice_get (slice_set is.put.known.directories new.place new.directory')) same
              ∙ set_there is.put.known.directories new.place new.directory new.directory' new.directory_at,
        );
        is_new = put.is_new ∙ ap (is_absent q.prime.file) (sym directory)
            ∙ sym (same_absent new.directory new.directory' p.prime.file q.prime.file is.at new.entry.names
            (apart ppn));
      })
      (λ other. record {
        named = put.named;
        directory = put.directory;
        there = (
          there.0,
          there.1,
          stands,
          ap (λ ds. slice_get ds there.0) new.directories
              ∙ set_elsewhere is.put.known.directories new.place there.0 new.directory' other ∙ there.3,
        );
        is_new = put.is_new;
      })
      (cases_eq there.0 new.place)

  pub placed_published : pending_at c.pending key ≡ Some p → pending_at c'.pending key ≡ None
      → ((k : ℕ) → (k ≡ key → ⊥) → pending_at c'.pending k ≡ pending_at c.pending k) → ArePlaced c → ArePlaced c'
  placed_published here gone others placed = record {
    each = λ k q at.
        let other : k ≡ key → ⊥ = λ same. some_none (sym at ∙ ap (pending_at c'.pending) same ∙ gone) in
        let was = sym (others k other) ∙ at in
        other_placed q (λ ppn file. other (placed.single k key q p was here ppn file)) (placed.each k q was);
    single = λ k j q r at there.
        let first : k ≡ key → ⊥ = λ same. some_none (sym at ∙ ap (pending_at c'.pending) same ∙ gone) in
        let second : j ≡ key → ⊥ = λ same. some_none (sym there ∙ ap (pending_at c'.pending) same ∙ gone) in
        placed.single k j q r (sym (others k first) ∙ at) (sym (others j second) ∙ there);
  }

-- A directory is made.
pub placed_made : (c c' : MemoryMap) → c'.pending ≡ c.pending → ((owner : ℕ) (d : CurrentDirectory)
    → IsDirectoryOf c owner d → IsDirectoryOf c' owner d) → ArePlaced c → ArePlaced c'
placed_made c c' pending stays placed = record {
  each = λ key p at.
      let was = placed.each key p (before key p at) in
      record {
        named = was.named;
        directory = was.directory;
        there = stays p.prime.ppn was.directory was.there;
        is_new = was.is_new;
      };
  single = λ k key p q at here. placed.single k key p q (before k p at) (before key q here);
}
  where
    before : (key : ℕ) (p : PendingVersion) → pending_at c'.pending key ≡ Some p → pending_at c.pending key ≡ Some p
    before key p at = ap (λ ps. pending_at ps key) (sym pending) ∙ at
