-- Contents that agree below the size of a disk stand for the same files: nothing past it is ever reached.
use Rattle.std.proofs.Common.{◌≡◌, ◌∙◌, ◌+◌, ◌*◌, ◌/◌, ◌<◌, ◌≤◌, ℕ, Bool, true, false, cond, List, [], ◌∷◌, length}
use Rattle.std.proofs.Common.{Option, Some, refl, sym, ap, arith, inl, inr, ⊎_elim, ltb, ltb-true}
use Rattle.std.proofs.lemmas.Bool.{cases_lt}
use Rattle.std.specs.Prelude.{if◌then◌else◌, ◌==◌}
use Rattle.blockdisk.specs.Common.{Contents}
use Rattle.spec_image.specs.declared.put.Put.{Put}
use Rattle.spec_image.specs.Common.{File, Files, SpecHome, IsHomeCopy, IsHome, AreImages, IsGateOpen, IsLog, with_puts}
use Rattle.spec_image.specs.Common.{get, IsVolumeSize, log_start, table_blocks, table_start, DiskMap, HasMap, IsWhole}
use Rattle.spec_image.specs.Common.{Stands, StoredDirectory, place_of, reaches, IsFileEntry, IsMasterEntry}
use Rattle.spec_image.specs.Common.{file_words, master_words, bit_in}
use Rattle.spec_image.proofs.Common.{directory_kept, directory_part, file_part, version_kept}

-- the same at each block of the disk
abbrev pub Agree : ℕ → Contents → Contents → Type 0
Agree size c d = (n : ℕ) → n < size → d n ≡ c n

module _ (size : ℕ) (c d : Contents) (agree : Agree size c d) where
  home_copy : (n : ℕ) (home : SpecHome) → n < size → IsHomeCopy size c n home → IsHomeCopy size d n home
  home_copy n home inside h = record {
    words = agree n inside ∙ h.words;
    layout = h.layout;
    master_from = h.master_from;
    master_below = h.master_below;
  }

  home_back : (n : ℕ) (home : SpecHome) → n < size → IsHomeCopy size d n home → IsHomeCopy size c n home
  home_back n home inside h = record {
    words = sym (agree n inside) ∙ h.words;
    layout = h.layout;
    master_from = h.master_from;
    master_below = h.master_below;
  }

  home_agrees : IsVolumeSize size → (home : SpecHome) → IsHome size c home → IsHome size d home
  home_agrees volume home (inl h) = inl (home_copy 1 home (let low = volume.small in omega arith) h)
  home_agrees volume home (inr h) = inr (
    λ other is. h.0 other (home_back 1 other (let low = volume.small in omega arith) is),
    home_copy 2 home (let low = volume.small in omega arith) h.1,
  )

  module _ (m : DiskMap) (has : HasMap size c m) where
    reached : (n : ℕ) → 0 < reaches n m → d n ≡ c n
    reached n h = agree n (⊎_elim (λ low. low) (λ past. absurd (let none = has.marked.inside n past in omega arith))
        (cases_lt n size))

    whole_agrees : (ppn : ℕ) (e : StoredDirectory) → get m.directories ppn ≡ Some e → IsWhole m.layout c ppn e
        → IsWhole m.layout d ppn e
    whole_agrees ppn e at w = record {
      protection = w.protection;
      quota = w.quota;
      chain = directory_kept file_words IsFileEntry c d e.chain _ w.chain
          (λ n h. reached n (let p = directory_part m ppn e at n in omega arith));
      files = λ name f is. version_kept m.layout c d (place_of ppn name) f (w.files name f is)
          (λ n h. reached n (let p = directory_part m ppn e at n in let q = file_part e name f is n in omega arith));
    }

    table_agrees : (i : ℕ) → i < table_blocks size → d (table_start size + i) ≡ c (table_start size + i)
    table_agrees i h = agree (table_start size + i)
        (let low = has.volume.small in let high = has.volume.large in omega arith)

    bits_agree : (n : ℕ) (b : Bool) → ltb n (4608 * table_blocks size) ≡ b
        → cond b (bit_in (d (table_start size + n / 4608)) n) 0
        ≡ cond b (bit_in (c (table_start size + n / 4608)) n) 0
    bits_agree n true e = ap (λ o. bit_in o n)
        (table_agrees (n / 4608) (let h = ltb-true n (4608 * table_blocks size) e in omega arith))
    bits_agree n false e = refl

    pub map_agrees : HasMap size d m
    map_agrees = record {
      volume = has.volume;
      mapped = record {
        home = home_agrees has.volume _ has.mapped.home;
        master = directory_kept master_words IsMasterEntry c d m.chain _ has.mapped.master
            (λ n h. reached n (omega arith));
        directories = λ ppn e at. whole_agrees ppn e at (has.mapped.directories ppn e at);
      };
      marked = record {
        undamaged = λ i h. let e = table_agrees i h in rw e (has.marked.undamaged i h);
        inside = has.marked.inside;
        bits = λ n. bits_agree n (ltb n (4608 * table_blocks size)) refl ∙ has.marked.bits n;
      };
    }

  gate_agrees : IsGateOpen size d → IsGateOpen size c
  gate_agrees h = record {
    volume = h.volume;
    gate = sym (agree 3 (let low = h.volume.small in omega arith)) ∙ h.gate;
  }

  images_agree : (at : ℕ) (puts : List Put) → at + length puts ≤ size → AreImages c at puts → AreImages d at puts
  images_agree at [] few images = tt
  images_agree at (put ∷ puts) few images =
      (agree at (omega arith) ∙ images.0, images_agree (at + 1) puts (omega arith) images.1)

  puts_agree : (puts : List Put) → Agree size (with_puts puts c) (with_puts puts d)
  puts_agree [] n inside = agree n inside
  puts_agree (put ∷ puts) n inside =
      ap (λ (o : Option (List ℕ)). if n == put.block then Some put.words else o) (puts_agree puts n inside)

  gate_opens : IsGateOpen size c → IsGateOpen size d
  gate_opens h = record {
    volume = h.volume;
    gate = agree 3 (let low = h.volume.small in omega arith) ∙ h.gate;
  }

  log_agrees : IsVolumeSize size → (puts : List Put) → IsLog size c puts → IsLog size d puts
  log_agrees volume puts log = record {
    header = agree 4 (let low = volume.small in omega arith) ∙ log.header;
    some = log.some;
    few = log.few;
    distinct = log.distinct;
    in_range = log.in_range;
    images = images_agree log_start puts
        (let low = volume.small in let high = volume.large in let few = log.few in omega arith) log.images;
  }

pub stands_agree : (size : ℕ) (c d : Contents) → Agree size c d → (files : Files File) → Stands size c files
    → Stands size d files
stands_agree size c d agree files (settled, inl (closed, same), (m, has, are)) = (
  d,
  inl (λ opened. closed (gate_agrees size c d agree opened), λ n. refl),
  (m, map_agrees size settled d (λ n inside. agree n inside ∙ sym (same n)) m has, are),
)
stands_agree size c d agree files (settled, inr (opened, puts, log, same), (m, has, are)) = (
  with_puts puts d,
  inr (gate_opens size c d agree opened, puts, log_agrees size c d agree opened.volume puts log, λ n. refl),
  (
    m,
    map_agrees size settled (with_puts puts d) (λ n inside. puts_agree size c d agree puts n inside ∙ sym (same n)) m
        has,
    are,
  ),
)
