-- A version becomes the file of its name: this is one change of the volume, with its retrieval blocks written
-- beforehand.
use Rattle.std.proofs.Common.{◌≡◌, ℕ, ◌<◌, Bool, true, false, List, ◌∷◌, length, Some, Result, Ok, Err, OnOk, is_err}
use Rattle.std.proofs.Common.{refl, sym, subst, ◌∙◌, arith}
use Rattle.blockdisk.specs.Common.{Contents, DiskState, MayLeave, SameDisk, Modifies}
use Rattle.spec_image.specs.declared.put.Put.{Put}
use Rattle.spec_image.specs.Common.{File, Files, pack_of, with_puts, get, times, IsRetrieved, HasBody, date_limit}
use Rattle.spec_image.specs.Common.{StoredFile, StoredDirectory, DiskMap, IsVersion, files_of, place_of}
use Rattle.spec_image.proofs.Common.{body_kept}
use Rattle.retrieval.specs.Common.{with_length}
use Rattle.retrieval.specs.declared.prime.Prime.{Prime}
use Rattle.volume.specs.Common.{IsCommitted, IsEdited, facts_of, known_facts, CurrentVersion, MatchesMap, MemoryMap}
use Rattle.volume.specs.Common.{IsWholeMemory, file_of, files_published, before, IsPublished, IsSoundMemory}
use Rattle.volume.specs.declared.error.CallError.{CallError}
use Rattle.volume.specs.declared.error.CallError.TheVariants.{Device}
use Rattle.volume.specs.declared.live.LiveVersion.{LiveVersion}
use Rattle.volume.specs.declared.pending.PendingVersion.{PendingVersion}
use Rattle.volume.proofs.common.Edits.{IsEdit, interrupted, edited}
use Rattle.volume.proofs.common.MapStays.{written_kept}
use Rattle.volume.proofs.common.ChainPuts.{both_in_range, both_few, low_not_put}
use Rattle.volume.proofs.PublishVersion.Blocks.{IsMadeCurrent, retrieval_free, published_both, kept_put}
use Rattle.volume.proofs.PublishVersion.Memory.{made_current_whole}
use Rattle.volume.proofs.PublishVersion.Law.{map_published, published_files, publishing_leads_in, stored, stored_at}
use Rattle.volume.proofs.PublishVersion.Slots.{made_current_bodies, published_dated}

-- a call that gave no error
pub ok_is : {T E : Type 0} (result : Result T E) (A : Type 0) → is_err result ≡ false → OnOk result A → A
ok_is (Ok x) A none is = is
ok_is (Err e) A none is = absurd (cc)

-- the same version, as it was when it was still being written
retrieved_as : (layout : ℕ) (contents : Contents) (prime prime' : Prime) (words words' at : ℕ)
    (ribs blocks blocks' : List ℕ)
    → prime ≡ prime' → words ≡ words' → blocks ≡ blocks'
    → IsRetrieved layout contents (with_length prime words) at ribs blocks
    → IsRetrieved layout contents (with_length prime' words') at ribs blocks'
retrieved_as layout contents prime prime' words words' at ribs blocks blocks' same long lies is =
    subst (λ (x : Prime). IsRetrieved layout contents (with_length x words') at ribs blocks') same
    (subst (λ (w : ℕ). IsRetrieved layout contents (with_length prime w) at ribs blocks') long
    (subst (λ (ns : List ℕ). IsRetrieved layout contents (with_length prime words) at ribs ns) lies is))

-- the retrieval blocks
abbrev pub IsRetrievalOf : LiveVersion → ℕ → Type 0
IsRetrievalOf v n = 0 < times n (v.at ∷ v.version.ribs)

-- The version's retrieval blocks and its words are on the disk, in a layout that has room for its moment.
pub record IsStanding (layout : ℕ) (p : PendingVersion) (v : LiveVersion) (body : List ℕ) (d : Contents) : Type 0 where
  pub dated : p.prime.moment.date < date_limit layout
  pub retrieved : (n : ℕ) → v.prime.moment.date < date_limit n
      → IsRetrieved n d (with_length v.prime v.version.words) v.at v.version.ribs v.version.blocks
  pub has : HasBody d p.version.blocks body

module _ {size : ℕ} {c c' : MemoryMap} {key : ℕ} {p : PendingVersion} {v : LiveVersion} {puts : List Put}
    (whole : IsWholeMemory size c) (made_current : IsMadeCurrent size c c' key p v puts) where
  abbrev as_file : CurrentVersion
  as_file = record { prime = p.prime; version = record p.version { ribs = v.version.ribs } }

  abbrev published : IsPublished size c.known c'.known p.prime.ppn p.prime.file v.at as_file
      (before made_current.makes_current.old) puts
  published = made_current.makes_current.published

  module _ (layout : ℕ) (body : List ℕ) (long : length body ≡ p.version.words) where
    abbrev file : StoredFile
    file = record { file = file_of p.prime body; prime = v.at; extensions = v.version.ribs; blocks = p.version.blocks }

    facts : facts_of file ≡ known_facts v.at p.prime (record p.version { ribs = v.version.ribs })
    facts = λ i. record (facts_of file) { words = long i }

    module _ (m : DiskMap) (d : Contents) (same : m.layout ≡ layout) (held : MatchesMap size c.known m d)
        (ready : IsStanding layout p v body d) where
      -- the layout has room for its moment
      dated : v.prime.moment.date < date_limit m.layout
      dated = subst (λ (n : ℕ). v.prime.moment.date < date_limit n) (sym same)
          (subst (λ (x : Prime). x.moment.date < date_limit layout) (sym made_current.prime) ready.dated)

      version : IsVersion m.layout d (place_of p.prime.ppn p.prime.file) file
      version = record {
        retrieved = retrieved_as m.layout d v.prime p.prime v.version.words (length body) v.at v.version.ribs
            v.version.blocks p.version.blocks made_current.prime (made_current.words ∙ sym long) made_current.blocks
            (ready.retrieved m.layout dated);
        body = ready.has;
      }

      abbrev in_map : StoredDirectory
      in_map = stored size c.known c'.known m p.prime.ppn p.prime.file v.at as_file
          (before made_current.makes_current.old) puts published held.known

      in_map_at : get m.directories p.prime.ppn ≡ Some in_map
      in_map_at = stored_at size c.known c'.known m p.prime.ppn p.prime.file v.at as_file
          (before made_current.makes_current.old) puts published held.known

      leads : (m' : DiskMap) × MatchesMap size c'.known m' (with_puts puts d)
          × (files_of m' ≡ files_published (files_of m) p.prime.ppn p.prime.file (file_of p.prime body))
          × (m'.layout ≡ m.layout)
      leads = (
        map_published m p.prime.ppn in_map published.directory'.chain.blocks p.prime.file file,
        publishing_leads_in size c.known c'.known m p.prime.ppn p.prime.file v.at as_file
            (before made_current.makes_current.old) puts whole.map published in_map in_map_at d held file facts version,
        published_files m p.prime.ppn in_map published.directory'.chain.blocks p.prime.file file in_map_at,
        refl,
      )

    pub published_edit : IsEdit size layout c c' (IsRetrievalOf v) (IsStanding layout p v body) puts
        (λ f. files_published f p.prime.ppn p.prime.file (file_of p.prime body))
    published_edit = record {
      whole = made_current_whole size c c' key p v.at v.version.ribs puts whole made_current.makes_current;
      bodies = λ d. made_current_bodies d size c c' key p v.at v.version.ribs puts made_current.makes_current;
      dated = published_dated size c c' key p v.at v.version.ribs puts made_current.makes_current;
      quiet = retrieval_free whole made_current;
      in_range = both_in_range (published_both whole made_current);
      few = both_few (published_both whole made_current);
      low = λ n low. low_not_put (published_both whole made_current) n (omega arith);
      spares = kept_put whole made_current;
      leads = leads;
    }

-- On the disk.

module _ {s mid : DiskState} {c c' : MemoryMap} {key : ℕ} {p : PendingVersion} {v : LiveVersion} {puts : List Put}
    (sound : IsSoundMemory s c false) (made_current : IsMadeCurrent s.size c c' key p v puts)
    (only_now : s.honest → (d : Contents) → s.left_since s.clock d → MayLeave s d) (same : SameDisk s mid)
    (written : mid.honest → Modifies (IsRetrievalOf v) s mid) where
  pub new_whole : IsWholeMemory s.size c'
  new_whole = made_current_whole s.size c c' key p v.at v.version.ribs puts sound.whole made_current.makes_current

  -- if the retrieval blocks were not written
  pub published_ended : (become : Files File → Files File) → IsEdited s mid c c' become true (Err Device)
  published_ended become = interrupted sound refl only_now same (retrieval_free sound.whole made_current) new_whole
      written
      Device

  pub published_edited : {s' : DiskState} {was failed : Bool} {result : Result (Unit {0}) CallError}
      → IsCommitted mid s' puts was failed result
      → (mid.honest → (n : ℕ) → v.prime.moment.date < date_limit n
      → IsRetrieved n mid.contents (with_length v.prime v.version.words) v.at v.version.ribs v.version.blocks)
      → (body : List ℕ) → length body ≡ p.version.words → (s.honest → HasBody s.contents p.version.blocks body)
      → IsEdited s s' c c' (λ f. files_published f p.prime.ppn p.prime.file (file_of p.prime body)) failed result
  published_edited committed retrieved body long has =
      let there = made_current.makes_current.written in
      edited sound refl only_now same (retrieval_free sound.whole made_current)
      (published_edit sound.whole made_current (pack_of s).layout body long) committed written
      (λ m. record {
        dated = sound.dated (same.was_honest m) refl key p there;
        retrieved = retrieved m;
        has = body_kept s.contents mid.contents p.version.blocks body (has (same.was_honest m))
            (λ n is. (written m).contents n (λ own.
            (written_kept s.size c sound.whole key p there n is).used (retrieval_free sound.whole made_current n own)));
      }) (λ h. refl)

  -- A volume that was sound is sound, if it is on an honest disk.
  pub published_sound : {s' : DiskState} {failed : Bool} → SameDisk mid s' → (s'.honest → IsSoundMemory s' c' failed)
      → IsSoundMemory s' c' failed
  published_sound after is = record {
    whole = subst (λ (n : ℕ). IsWholeMemory n c') (sym (after.size ∙ same.size)) new_whole;
    rest = λ h. (is h).rest h;
    read = λ h. (is h).read h;
    written = λ h. (is h).written h;
    dated = λ h. (is h).dated h;
  }
