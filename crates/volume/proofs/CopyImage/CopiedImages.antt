-- A copy of a volume stands for its files, though it has zeros if a block was damaged: what the files reach isn't.
use Rattle.std.proofs.Common.{◌≡◌, ◌∙◌, ◌+◌, ◌*◌, ◌/◌, ◌<◌, ◌≤◌, ◌++◌, ℕ, Bool, true, false, cond, List, [], ◌∷◌}
use Rattle.std.proofs.Common.{Option, Some, None, IsSome, slice_index, refl, sym, ap, subst, arith, inl, inr, ⊎_elim}
use Rattle.std.proofs.Common.{ltb, ltb-true, Result, Ok, Err, OnOk}
use Rattle.std.proofs.lemmas.Bool.{cases_eq, cases_lt}
use Rattle.std.proofs.lemmas.Bool.Decides.{nat_tests}
use Rattle.blockdisk.specs.Common.{Contents, DiskState, NoneOpen, none_open_leaves}
use Rattle.spec_image.specs.Common.{File, Files, Place, get, times, IsVolumeSize, table_blocks, table_start}
use Rattle.spec_image.specs.Common.{open_gate, SpecHome, home_block, IsHomeCopy, IsHome, bit_in, Node, numbers}
use Rattle.spec_image.specs.Common.{IsSpelled}
use Rattle.spec_image.specs.Common.{master_words, IsMasterEntry, file_words, IsFileEntry, Extension}
use Rattle.spec_image.specs.Common.{extension_numbers, AreExtensions, StoredFile, StoredDirectory, DiskMap, reaches}
use Rattle.spec_image.specs.Common.{blocks_of_file, IsVersion, IsWhole, IsMapped, HasMap, place_of, pack_of}
use Rattle.spec_image.specs.Common.{SettledStandsOn}
use Rattle.spec_image.proofs.Common.{some_same, directory_kept, version_kept, directory_part, file_part, times-append}
use Rattle.spec_image.proofs.Common.{undamaged_at, some_none}
use Rattle.changeset.specs.Common.{AtRest}
use Rattle.volume.specs.Common.{copied, AreCopied, RestsAt}
use Rattle.volume.proofs.common.Packs.{rests_in, pack_rests}

times_tail : (n k : ℕ) (ns : List ℕ) → (n ≡ k → ⊥) → times n (k ∷ ns) ≡ times n ns
times_tail n k ns other = grind (arith, nat_tests)

-- What is reached isn't damaged.

spelled_whole : {E : Type 0} (words : E → List ℕ) (c : Contents) (nodes : List (Node E)) → IsSpelled words c nodes
    → (n : ℕ) → 0 < times n (numbers nodes) → c n ≡ None → ⊥
spelled_whole words c [] s n h none = omega arith
spelled_whole words c (node ∷ nodes) s n h none = ⊎_elim
    (λ (here : n ≡ node.0). some_none (sym s.0 ∙ ap c (sym here) ∙ none))
    (λ other. spelled_whole words c nodes s.1 n
    (let e = times_tail n node.0 (numbers nodes) other in omega arith) none) (cases_eq n node.0)

extensions_whole : (c : Contents) (es : List Extension) → AreExtensions c es → (n : ℕ)
    → 0 < times n (extension_numbers es) → c n ≡ None → ⊥
extensions_whole c [] s n h none = omega arith
extensions_whole c (e ∷ es) s n h none = ⊎_elim
    (λ (here : n ≡ e.0). some_none (sym s.0 ∙ ap c (sym here) ∙ none))
    (λ other. extensions_whole c es s.5 n
    (let t = times_tail n e.0 (extension_numbers es) other in omega arith) none) (cases_eq n e.0)

version_whole : (layout : ℕ) (c : Contents) (place : Place) (f : StoredFile) → IsVersion layout c place f → (n : ℕ)
    → 0 < times n (blocks_of_file f) → c n ≡ None → ⊥
version_whole layout c place f v n h none = ⊎_elim
    (λ (here : n ≡ f.prime). some_none (sym v.retrieved.prime_is ∙ ap c (sym here) ∙ none))
    (λ other.
    let rest : times n (blocks_of_file f) ≡ times n (f.extensions ++ f.blocks)
    = times_tail n f.prime (f.extensions ++ f.blocks) other in
    let parts = times-append n f.extensions f.blocks in
    ⊎_elim
    (λ (some : 0 < times n f.extensions). extensions_whole c v.retrieved.further v.retrieved.extended n
    (let e = ap (times n) v.retrieved.extensions_are in omega arith) none)
    (λ (no : times n f.extensions ≤ 0). undamaged_at c f.blocks v.body.each n v.body.undamaged (omega arith) none)
    (cases_lt 0 (times n f.extensions))) (cases_eq n f.prime)

-- The copy of a block that isn't damaged is the same.
same_at : (o : Option (List ℕ)) (c d : Contents) (n : ℕ) → c n ≡ o → d n ≡ Some (copied (c n)) → (c n ≡ None → ⊥)
    → d n ≡ c n
same_at None c d n is copy whole = absurd (whole is)
same_at (Some words) c d n is copy whole = copy ∙ ap (λ o. Some (copied o)) is ∙ sym is

-- Zeros are no home copy, and no open gate.

no_home : (size : ℕ) (other : SpecHome) → copied None ≡ home_block size other → ⊥
no_home size other e = let first = ap (λ l. slice_index l 0) e in omega (arith, first)

no_gate : copied None ≡ open_gate → ⊥
no_gate e = let first = ap (λ l. slice_index l 0) e in omega (arith, first)

home_before : (size : ℕ) (c d : Contents) (o : Option (List ℕ)) → c 1 ≡ o → d 1 ≡ Some (copied (c 1))
    → (other : SpecHome)
    → IsHomeCopy size d 1 other → IsHomeCopy size c 1 other
home_before size c d None is copy other h = absurd (no_home size other
    (some_same (ap (λ o. Some (copied o)) (sym is) ∙ sym copy ∙ h.words)))
home_before size c d (Some words) is copy other h = record {
  words = is ∙ ap (λ o. Some (copied o)) (sym is) ∙ sym copy ∙ h.words;
  layout = h.layout;
  master_from = h.master_from;
  master_below = h.master_below;
}

gate_before : (c d : Contents) (o : Option (List ℕ)) → c 3 ≡ o → d 3 ≡ Some (copied (c 3)) → d 3 ≡ Some open_gate
    → c 3 ≡ Some open_gate
gate_before c d None is copy opened = absurd (no_gate
    (some_same (ap (λ o. Some (copied o)) (sym is) ∙ sym copy ∙ opened)))
gate_before c d (Some words) is copy opened = is ∙ ap (λ o. Some (copied o)) (sym is) ∙ sym copy ∙ opened

module _ (size : ℕ) (c d : Contents) (copy : AreCopied size c d) (m : DiskMap) (has : HasMap size c m) where
  same : (n : ℕ) → n < size → (c n ≡ None → ⊥) → d n ≡ c n
  same n inside whole = same_at (c n) c d n refl (copy n inside) whole

  reached_inside : (n : ℕ) → 0 < reaches n m → n < size
  reached_inside n h = ⊎_elim (λ low. low) (λ past. absurd (let none = has.marked.inside n past in omega arith))
      (cases_lt n size)

  copied_home : (home : SpecHome) → IsHome size c home → IsHome size d home
  copied_home home (inl h) = inl (record {
    words = same 1 (let low = has.volume.small in omega arith) (λ none. some_none (sym h.words ∙ none)) ∙ h.words;
    layout = h.layout;
    master_from = h.master_from;
    master_below = h.master_below;
  })
  copied_home home (inr h) = inr (
    λ other is. h.0 other (home_before size c d (c 1) refl
        (copy 1 (let low = has.volume.small in omega arith)) other is),
    record {
      words = same 2 (let low = has.volume.small in omega arith) (λ none. some_none (sym h.1.words ∙ none)) ∙ h.1.words;
      layout = h.1.layout;
      master_from = h.1.master_from;
      master_below = h.1.master_below;
    },
  )

  copied_whole : (ppn : ℕ) (e : StoredDirectory) → get m.directories ppn ≡ Some e → IsWhole m.layout c ppn e
      → IsWhole m.layout d ppn e
  copied_whole ppn e at w = record {
    protection = w.protection;
    quota = w.quota;
    chain = directory_kept file_words IsFileEntry c d e.chain _ w.chain
        (λ n h. same n (reached_inside n (let p = directory_part m ppn e at n in omega arith))
        (spelled_whole file_words c w.chain.nodes w.chain.spelled n
        (let q = ap (times n) w.chain.blocks_are in omega arith)));
    files = λ name f is. version_kept m.layout c d (place_of ppn name) f (w.files name f is)
        (λ n h. same n (reached_inside n (let p = directory_part m ppn e at n in
        let q = file_part e name f is n in omega arith))
        (version_whole m.layout c (place_of ppn name) f (w.files name f is) n h));
  }

  copied_mapped : IsMapped size d m
  copied_mapped = record {
    home = copied_home _ has.mapped.home;
    master = directory_kept master_words IsMasterEntry c d m.chain _ has.mapped.master
        (λ n h. same n (reached_inside n (omega arith))
        (spelled_whole master_words c has.mapped.master.nodes has.mapped.master.spelled n
        (let q = ap (times n) has.mapped.master.blocks_are in omega arith)));
    directories = λ ppn e at. copied_whole ppn e at (has.mapped.directories ppn e at);
  }

  table_same : (i : ℕ) → i < table_blocks size → d (table_start size + i) ≡ c (table_start size + i)
  table_same i h = same (table_start size + i)
      (let low = has.volume.small in let high = has.volume.large in omega arith)
      (λ none. is_there (c (table_start size + i)) (has.marked.undamaged i h) none)
    where
      is_there : (o : Option (List ℕ)) → IsSome o → o ≡ None → ⊥
      is_there None some none = cc
      is_there (Some words) some none = cc

  copied_bits : (n : ℕ) (b : Bool) → ltb n (4608 * table_blocks size) ≡ b
      → cond b (bit_in (d (table_start size + n / 4608)) n) 0
      ≡ cond b (bit_in (c (table_start size + n / 4608)) n) 0
  copied_bits n true e = ap (λ o. bit_in o n)
      (table_same (n / 4608) (let h = ltb-true n (4608 * table_blocks size) e in omega arith))
  copied_bits n false e = refl

  pub copied_map : HasMap size d m
  copied_map = record {
    volume = has.volume;
    mapped = copied_mapped;
    marked = record {
      undamaged = λ i h. let e = table_same i h in rw e (has.marked.undamaged i h);
      inside = has.marked.inside;
      bits = λ n. copied_bits n (ltb n (4608 * table_blocks size)) refl ∙ has.marked.bits n;
    };
  }

-- A copy that is on the disk stands for what is copied, in the same layout.

at_rest : (s s' : DiskState) (files : Files File) → s'.size ≡ s.size → NoneOpen s'
    → AreCopied s.size s.contents s'.contents → RestsAt s files → AtRest s' (λ c. SettledStandsOn (pack_of s) c files)
at_rest s s' files size none copy rest =
    let stands : SettledStandsOn (pack_of s) s.contents files = rest.all s.contents (λ n closed. refl) in
    let there : SettledStandsOn (pack_of s) s'.contents files
    = (stands.0, copied_map s.size s.contents s'.contents copy stands.0 stands.1, stands.2, stands.3) in
    let low : 3 < s.size = (let small = stands.1.volume.small in omega arith) in
    record {
      shut = λ c left opened.
          let now : c ≡ s'.contents = none_open_leaves s' none c left in
          rest.shut s.contents (λ n closed. refl) (record {
            volume = subst IsVolumeSize size opened.volume;
            gate = gate_before s.contents s'.contents (s.contents 3) refl (copy 3 low)
                (ap (λ (f : Contents). f 3) (sym now) ∙ opened.gate);
          });
      all = λ c left. subst (λ (f : Contents). SettledStandsOn (pack_of s) f files)
          (sym (none_open_leaves s' none c left)) there;
    }

pub copy_rests : (s s' : DiskState) (files : Files File) → s'.size ≡ s.size → NoneOpen s'
    → AreCopied s.size s.contents s'.contents → RestsAt s files → RestsAt s' files
copy_rests s s' files size none copy rest =
    rests_in s' (pack_of s) files (sym size) (at_rest s s' files size none copy rest)

pub copy_pack : (s s' : DiskState) (files : Files File) → s'.size ≡ s.size → NoneOpen s'
    → AreCopied s.size s.contents s'.contents → RestsAt s files → pack_of s' ≡ pack_of s
copy_pack s s' files size none copy rest =
    pack_rests s' (pack_of s) files (sym size) (at_rest s s' files size none copy rest)

-- What holds for an answer.

pub ok_both : {E : Type 0} (answer : Result (Unit {0}) E) (A B C : Type 0) → OnOk answer A → OnOk answer B
    → (A → B → C) → OnOk answer C
ok_both (Ok done) A B C a b on = on a b
ok_both (Err error) A B C a b on = tt

pub ok_any : {E : Type 0} (answer : Result (Unit {0}) E) (A : Type 0) → A → OnOk answer A
ok_any (Ok done) A a = a
ok_any (Err error) A a = tt
