-- Memory and disk agree while versions are begun and dropped: the map is the one that it was.
use Rattle.std.proofs.Common.{◌≡◌, ℕ, ◌<◌, Bool, true, false, if◌then◌else◌, List, [], Some, None, refl, sym, ap}
use Rattle.std.proofs.Common.{subst, ◌∙◌, ⊎_elim}
use Rattle.std.proofs.lemmas.Bool.{cases_eq}
use Rattle.blockdisk.specs.Common.{Contents, DiskState}
use Rattle.spec_image.specs.Common.{DiskMap, pack_of, date_limit}
use Rattle.spec_image.proofs.Common.{some_same, some_none}
use Rattle.retrieval.specs.declared.prime.Prime.{Prime}
use Rattle.volume.specs.declared.pending.PendingVersion.{PendingVersion}
use Rattle.volume.specs.declared.pending.PendingKind.{PendingKind}
use Rattle.volume.specs.Common.{CurrentMap, CurrentVersion, Before, MatchesMap, IsWholeMap, MemoryMap, slot, pending_at}
use Rattle.volume.specs.Common.{IsWholeMemory, AreDated, IsAtRest, HasSomeBody, IsSoundMemory, is_update, no_words}
use Rattle.volume.specs.Common.{shared_body, begun_version, begun, IsBegun}

-- other counts in the table
abbrev pub counting : CurrentMap → List ℕ → ℕ → CurrentMap
counting k held booked = record k { table = record k.table { held = held; booked = booked } }

counts_held : (size : ℕ) (k : CurrentMap) (held : List ℕ) (booked : ℕ) (m : DiskMap) (contents : Contents)
    → MatchesMap size k m contents → MatchesMap size (counting k held booked) m contents
counts_held size k held booked m contents is = record {
  known = record { chain = is.known.chain; names = is.known.names; each = is.known.each };
  stands = is.stands;
  master = is.master;
  chains = is.chains;
  bits = is.bits;
}

pub counts_rest : (s : DiskState) (k : CurrentMap) (held : List ℕ) (booked : ℕ) → IsAtRest s k
    → IsAtRest s (counting k held booked)
counts_rest s k held booked at = record {
  map = at.map;
  rest = record { shut = at.rest.shut; all = λ c left. counts_held s.size k held booked at.map c (at.rest.all c left) };
}

pub counts_whole : (size : ℕ) (k : CurrentMap) (held : List ℕ) (booked : ℕ) → IsWholeMap size k
    → IsWholeMap size (counting k held booked)
counts_whole size k held booked whole = record {
  volume = whole.volume;
  size_is = whole.size_is;
  chain = whole.chain;
  inside = whole.inside;
  aligned = whole.aligned;
  each = whole.each;
  bits = whole.bits;
  unchanged = whole.unchanged;
}

-- The same map and the same versions in use, with other counts, and versions that are written each as they
-- were, or of no words.
pub counts_sound : (s : DiskState) (c c' : MemoryMap) (failed : Bool) (size : ℕ) (held : List ℕ) (booked : ℕ)
    → IsSoundMemory s c failed → size ≡ s.size → IsWholeMemory size c' → c'.live ≡ c.live
    → c'.known ≡ counting c.known held booked
    → ((k : ℕ) (p : PendingVersion) → pending_at c'.pending k ≡ Some p → (contents : Contents)
    → ((q : PendingVersion) → pending_at c.pending k ≡ Some q → HasSomeBody contents q.version)
    → HasSomeBody contents p.version)
    → ((layout : ℕ) → AreDated layout c → AreDated layout c')
    → IsSoundMemory s c' failed
counts_sound s c c' failed size held booked sound same whole live known written dated = record {
  whole = subst (λ (b : ℕ). IsWholeMemory b c') same whole;
  rest = λ h ok. subst (IsAtRest s) (sym known) (counts_rest s c.known held booked (sound.rest h ok));
  read = λ h ok key v is. sound.read h ok key v (ap (λ l. slot l key) (sym live) ∙ is);
  written = λ h ok key p is. written key p is s.contents (λ q was. sound.written h ok key q was);
  dated = λ h ok. dated (pack_of s).layout (sound.dated h ok);
}

-- a version of no words
empty_body : (contents : Contents) → HasSomeBody contents no_words
empty_body contents = ([], refl, record { each = []; undamaged = tt; whole = tt; body_is = refl })

-- A version that begins has the words that it shares, or no words.
begun_body : (contents : Contents) (kind : PendingKind) (old : Before)
    → ((v : ℕ × CurrentVersion) → old ≡ Some v → HasSomeBody contents v.1.version)
    → HasSomeBody contents (begun_version kind old)
begun_body contents kind old has = by (is_update kind) old has
  where
    by : (b : Bool) (q : Before) → ((v : ℕ × CurrentVersion) → q ≡ Some v → HasSomeBody contents v.1.version)
        → HasSomeBody contents (if b then shared_body q else no_words)
    by false q has = empty_body contents
    by true None has = empty_body contents
    by true (Some v) has = let body = has v refl in (body.0, body.1, body.2)

pub begun_sound : (s : DiskState) (c c' : MemoryMap) (failed : Bool) (size key : ℕ) (kind : PendingKind) (prime : Prime)
    → IsSoundMemory s c failed → size ≡ c'.known.table.size → IsWholeMemory size c'
    → (begins : IsBegun c c' key kind prime)
    → (s.honest → failed ≡ false → (v : ℕ × CurrentVersion) → begins.old ≡ Some v
    → HasSomeBody s.contents v.1.version)
    → (s.honest → failed ≡ false → (begun kind prime begins.old).prime.moment.date < date_limit (pack_of s).layout)
    → IsSoundMemory s c' failed
begun_sound s c c' failed size key kind prime sound is whole begins has timely = record {
  whole = subst (λ (b : ℕ). IsWholeMemory b c') (is ∙ ap (λ k. k.table.size) begins.known
      ∙ sound.whole.map.size_is) whole;
  rest = λ h ok. subst (IsAtRest s) (sym begins.known) (counts_rest s c.known c'.known.table.held _ (sound.rest h ok));
  read = λ h ok k v there. sound.read h ok k v (ap (λ l. slot l k) (sym begins.live) ∙ there);
  written = λ h ok k p there. ⊎_elim
      (λ (same : k ≡ key).
      let both : begun kind prime begins.old
      ≡ p = some_same (sym begins.here ∙ sym (ap (pending_at c'.pending) same) ∙ there) in
      subst (λ (q : PendingVersion). HasSomeBody s.contents q.version) both
      (begun_body s.contents kind begins.old (has h ok)))
      (λ other. sound.written h ok k p (sym (begins.others k other) ∙ there)) (cases_eq k key);
  dated = λ h ok k p there. ⊎_elim
      (λ (same : k ≡ key).
      let both : begun kind prime begins.old
      ≡ p = some_same (sym begins.here ∙ sym (ap (pending_at c'.pending) same) ∙ there) in
      subst (λ (q : PendingVersion). q.prime.moment.date < date_limit (pack_of s).layout) both (timely h ok))
      (λ other. sound.dated h ok k p (sym (begins.others k other) ∙ there)) (cases_eq k key);
}

-- a version less
pub dropped_sound : (s : DiskState) (c c' : MemoryMap) (failed : Bool) (size key : ℕ) (held : List ℕ) (booked : ℕ)
    → IsSoundMemory s c failed → size ≡ c'.known.table.size → IsWholeMemory size c' → pending_at c'.pending key ≡ None
    → ((k : ℕ) → (k ≡ key → ⊥) → pending_at c'.pending k ≡ pending_at c.pending k) → c'.live ≡ c.live
    → c'.known ≡ counting c.known held booked → IsSoundMemory s c' failed
dropped_sound s c c' failed size key held booked sound is whole gone others live known =
    counts_sound s c c' failed size held booked sound (is ∙ ap (λ k. k.table.size) known
    ∙ sound.whole.map.size_is) whole live known
    (λ k p there contents old. ⊎_elim
    (λ (same : k ≡ key). absurd (some_none (sym there ∙ ap (pending_at c'.pending) same ∙ gone)))
    (λ other. old p (sym (others k other) ∙ there)) (cases_eq k key))
    (λ layout dated k p there. ⊎_elim
    (λ (same : k ≡ key). absurd (some_none (sym there ∙ ap (pending_at c'.pending) same ∙ gone)))
    (λ other. dated k p (sym (others k other) ∙ there)) (cases_eq k key))
