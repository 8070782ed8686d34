-- Both home copies are written again for layout 2: what a crash leaves, and the end.
use Rattle.std.proofs.Common.{◌≡◌, ◌⊎◌, inl, inr, ⊎_elim, ℕ, ◌≤◌, List, [], ◌∷◌, Some, refl, sym, ap, subst, ◌∙◌}
use Rattle.std.proofs.Common.{arith, slice_index, Result, Ok, Err, IfErr}
use Rattle.std.proofs.lemmas.Bool.{cases_eq}
use Rattle.std.proofs.lemmas.Bool.Decides.{nat_tests}
use Rattle.blockdisk.specs.Common.{Contents, DiskState, NoneOpen, SameOutside, Modifies, LeavesOnly, leaves_weaker}
use Rattle.blockdisk.specs.Common.{leaves_on, modifies_wider}
use Rattle.changeset.specs.Common.{IsGateOrLog, IsShut, AllOrNone, IsRecovered, SyncsFirst, IsPutIn, Ignores}
use Rattle.changeset.specs.Common.{SettlesTo, AtRest, commit_leaves, commit_rest, recover_rest}
use Rattle.spec_image.specs.declared.put.Put.{Put}
use Rattle.spec_image.specs.Common.{head_or_zero, in_layout, File, Files, SpecHome, home_block, IsHome, IsLayout}
use Rattle.spec_image.specs.Common.{layout_number, pack_in, pack_of, SettledStandsOn, StandsOn, IsGateOpen, with_puts}
use Rattle.spec_image.specs.Common.{date_limit, DiskMap, HasMap, home_of, quota_limit, files_of}
use Rattle.spec_image.proofs.Common.{log_ignored, stands_same, homes_raised, layout_is, settled_layout}
use Rattle.spec_image.proofs.Common.{settled_in_any, settled_same}
use Rattle.volume.specs.Common.{RaisedLike, RaisedLikeBefore, StandsOrRaised, IsHomeBlock, AreCopies, IsMigrated}
use Rattle.volume.specs.Common.{home_puts, known_of, home_in, IsAtRest, StandsLike, StandsLikeBefore}
use Rattle.volume.specs.declared.volume.LoadedMap.{LoadedMap}
use Rattle.volume.proofs.common.Packs.{pack_held}
use Rattle.volume.proofs.VolumeStart.Starts.{stands_ignores_gate}

-- Every layout fits into layout 2.

dates_fit : (layout : ℕ) → IsLayout layout → date_limit layout ≤ date_limit 2
dates_fit layout (inl one) = let e = ap date_limit one in omega arith
dates_fit layout (inr two) = let e = ap date_limit two in omega arith

quotas_fit : (layout : ℕ) → IsLayout layout → quota_limit layout ≤ quota_limit 2
quotas_fit layout (inl one) = let e = ap quota_limit one in omega arith
quotas_fit layout (inr two) = let e = ap quota_limit two in omega arith

home_layout : (size : ℕ) (c : Contents) (m : DiskMap) → IsHome size c (home_of m) → IsLayout m.layout
home_layout size c m (inl copy) = copy.layout
home_layout size c m (inr copy) = copy.1.layout

-- The change.

-- the words that the copies get
pub home_words : (size blocks master : ℕ) (m : DiskMap) (words : List ℕ) → words ≡ home_block blocks (home_in 2 master)
    → blocks ≡ size → head_or_zero m.chain ≡ master → words ≡ home_block size (home_of (in_layout m 2))
home_words size blocks master m words are same head = are ∙ (λ i. home_block (same i) (home_in 2 (sym head i)))

pub raised : (size : ℕ) (c : Contents) (m : DiskMap) (words : List ℕ)
    → words ≡ home_block size (home_of (in_layout m 2)) → HasMap size c m
    → HasMap size (with_puts (home_puts words) c) (in_layout m 2)
raised size c m words is has =
    let layout = home_layout size c m has.mapped.home in
    homes_raised size c (with_puts (home_puts words) c) m 2 (inr refl) (dates_fit m.layout layout)
    (quotas_fit m.layout layout) has (ap Some is) (ap Some is) (λ n first second. grind (arith, nat_tests))

map_ignores_log : (size : ℕ) (m : DiskMap) → Ignores (IsGateOrLog size) (λ c. HasMap size c m)
map_ignores_log size m c d same has = log_ignored size c d m (λ n place. same n (λ is. let low = is.0 in
    let high = is.1 in ⊎_elim (λ e. absurd (omega arith)) (⊎_elim (λ e. absurd (omega arith))
    (λ le. absurd (omega arith))) place)) has

map_settled : (size : ℕ) (c : Contents) (m : DiskMap) → SettlesTo size (λ d. HasMap size d m) c
    → StandsOn (pack_in m.layout size) c (files_of m)
map_settled size c m to = (to.0, to.1, (m, to.2, refl, refl))

module _ (s s' : DiskState) (m : DiskMap) (words : List ℕ) (is : words ≡ home_block s.size (home_of (in_layout m 2)))
    (rest : AtRest s (λ c. HasMap s.size c m)) where
  Old : Contents → Type 0
  Old c = HasMap s.size c m

  New : Contents → Type 0
  New c = HasMap s.size c (in_layout m 2)

  changed : New (with_puts (home_puts words) s.contents)
  unfolding New
  changed = raised s.size s.contents m words is (rest.all s.contents (λ n closed. refl))

  pub raise_leaves : (puts : List Put) → puts ≡ home_puts words → LeavesOnly s s' (AllOrNone puts s)
      → LeavesOnly s s' (StandsOrRaised s.size m.layout (files_of m))
  unfolding Old New
  raise_leaves puts are leaves =
      leaves_weaker s s' (λ c. SettlesTo s.size Old c ⊎ SettlesTo s.size New c)
      (StandsOrRaised s.size m.layout (files_of m))
      (commit_leaves (home_puts words) s s' Old New (map_ignores_log s.size m) (map_ignores_log s.size (in_layout m 2))
      rest changed (subst (λ (l : List Put). LeavesOnly s s' (AllOrNone l s)) are leaves))
      (λ c. ⊎_elim (λ old. inl (map_settled s.size c m old)) (λ new. inr (map_settled s.size c (in_layout m 2) new)))

  pub raise_rest : (puts : List Put) → puts ≡ home_puts words
      → SameOutside (IsGateOrLog s.size) (with_puts puts s.contents) s'.contents → NoneOpen s' → IsShut s'
      → AtRest s' (λ c. SettledStandsOn (pack_in 2 s.size) c (files_of m))
  unfolding New
  raise_rest puts are all none shut =
      let same = subst (λ (l : List Put). SameOutside (IsGateOrLog s.size) (with_puts l s.contents) s'.contents)
      are all in
      let after = commit_rest (home_puts words) s s' New (map_ignores_log s.size (in_layout m 2)) changed same none
      shut in
      record { shut = after.shut; all = λ c left. (in_layout m 2, after.all c left, refl, refl) }

-- which blocks are written
pub home_written : (size : ℕ) (puts : List Put) (words : List ℕ) (s s' : DiskState) → puts ≡ home_puts words
    → Modifies (λ n. IsGateOrLog size n ⊎ IsPutIn puts n) s s' → Modifies (λ n. IsGateOrLog size n ⊎ IsHomeBlock n) s s'
home_written size puts words s s' are modified =
    modifies_wider (λ n. IsGateOrLog size n ⊎ IsPutIn (home_puts words) n)
    (λ n. IsGateOrLog size n ⊎ IsHomeBlock n) s s' (λ n. ⊎_elim (λ log. inl log) (λ put. inr (home_put n put)))
    (subst (λ (l : List Put). Modifies (λ n. IsGateOrLog size n ⊎ IsPutIn l n) s s') are modified)
  where
    home_put : (n : ℕ) → IsPutIn (home_puts words) n → IsHomeBlock n
    home_put n put = ⊎_elim (λ first. inl first)
        (λ not_first. ⊎_elim (λ second. inr second) (λ not_second. absurd (grind (arith, nat_tests))) (cases_eq n 2))
        (cases_eq n 1)

-- After the recovery.

-- what the disk stood for is what its map says, in the map's layout
pub stood_as : (s s1 : DiskState) (m : DiskMap) → s1.size ≡ s.size
    → IsRecovered s.size s.contents s1.contents → NoneOpen s1 → HasMap s1.size s1.contents m
    → (layout : ℕ) (files : Files File) → StandsOn (pack_in layout s.size) s.contents files
    → (layout ≡ m.layout) × (files ≡ files_of m)
stood_as s s1 m size recovered none has layout files stands =
    let pack = pack_in layout s.size in
    let rest : AtRest s1 (λ c. SettledStandsOn pack c files) = recover_rest s s1 (λ c. SettledStandsOn pack c files)
    (stands_ignores_gate pack files) size (λ settled is. subst (λ c. SettledStandsOn pack c files)
    (settled_same s.size s.contents stands.0 settled stands.1 is) stands.2) recovered none in
    let here : SettledStandsOn pack s1.contents files = rest.all s1.contents (λ n closed. refl) in
    let there : HasMap s.size s1.contents m = subst (λ (n : ℕ). HasMap n s1.contents m) size has in (
      sym (settled_layout pack s1.contents files here) ∙ layout_is s.size s1.contents _ there.mapped.home,
      stands_same s.size s1.contents files (files_of m) (settled_in_any pack s1.contents files here) (m, there, refl),
    )

-- what is like before is so in the same layout or in layout 2
pub before_raised : (s s' : DiskState) → LeavesOnly s s' (StandsLikeBefore s) → LeavesOnly s s' (RaisedLikeBefore s)
before_raised s s' leaves = leaves_weaker s s' (StandsLikeBefore s) (RaisedLikeBefore s) leaves
    (λ c like. (like.0, like.1, λ layout files stands. inl (like.2 layout files stands)))

module _ (s s1 s2 : DiskState) (m : DiskMap) (size : s1.size ≡ s.size)
    (stood : (layout : ℕ) (files : Files File) → StandsOn (pack_in layout s.size) s.contents files
    → (layout ≡ m.layout) × (files ≡ files_of m)) where
  pub either_before : (c : Contents) → StandsOrRaised s1.size m.layout (files_of m) c → RaisedLike s c
  either_before c either layout files stands =
      let same = stood layout files stands in
      let sized : StandsOrRaised s.size m.layout (files_of m) c =
      subst (λ (n : ℕ). StandsOrRaised n m.layout (files_of m) c) size either in
      subst (λ (f : Files File). StandsOrRaised s.size layout f c) (sym same.1)
      (subst (λ (l : ℕ). StandsOrRaised s.size l (files_of m) c) (sym same.0) sized)

  pub migrate_leaves : LeavesOnly s s1 (StandsLikeBefore s)
      → LeavesOnly s1 s2 (StandsOrRaised s1.size m.layout (files_of m)) → LeavesOnly s s2 (RaisedLikeBefore s)
  migrate_leaves first second =
      leaves_on s s1 s2 (RaisedLikeBefore s) (StandsOrRaised s1.size m.layout (files_of m)) (before_raised s s1 first)
      second (λ c either. (s.contents, (λ n closed. refl), either_before c either))

-- what was so from the end of the first sync on, and then of the change
pub synced_on : {D : Type 0} (state : D → DiskState) (old read new : D) (fault fault' : Type 0) (P : Contents → Type 0)
    → (fault → ⊥) → SyncsFirst state old read fault (StandsLike (state old)) → LeavesOnly (state read) (state new) P
    → ((c : Contents) → P c → RaisedLike (state old) c) → SyncsFirst state old new fault' (RaisedLike (state old))
synced_on {D} state old read new fault fault' P none first after weaker = ⊎_elim
    (λ failed. absurd (none failed.0))
    (λ from. inr (
      from.0,
      from.1,
      leaves_on (state from.0) (state read) (state new) (RaisedLike (state old)) P
          (leaves_weaker (state from.0) (state read) (StandsLike (state old)) (RaisedLike (state old)) from.2
          (λ c like layout files stands. inl (like layout files stands))) after weaker,
    )) first

-- what was so of the reading alone
pub synced_raised : {D : Type 0} (state : D → DiskState) (old new : D) (fault fault' : Type 0) → (fault → fault')
    → SyncsFirst state old new fault (StandsLike (state old)) → SyncsFirst state old new fault' (RaisedLike (state old))
synced_raised {D} state old new fault fault' on first = ⊎_elim
    (λ failed. inl (on failed.0, failed.1))
    (λ from. inr (
      from.0,
      from.1,
      leaves_weaker (state from.0) (state new) (StandsLike (state old)) (RaisedLike (state old)) from.2
          (λ c like layout files stands. inl (like layout files stands)),
    )) first

-- What is known after the reading.

first_is : (blocks others : List ℕ) → blocks ≡ others → head_or_zero others ≡ slice_index blocks 0
first_is [] others same = ap head_or_zero (sym same)
first_is (block ∷ blocks) others same = ap head_or_zero (sym same)

module _ (s s1 : DiskState) (map : LoadedMap) (size : s1.size ≡ s.size)
    (recovered : IsRecovered s.size s.contents s1.contents) (none : NoneOpen s1) (rest : IsAtRest s1 (known_of map))
    (layout_is : layout_number map.layout ≡ (pack_of s1).layout) where
  pub here : HasMap s1.size s1.contents rest.map
  here = (rest.rest.all s1.contents (λ n closed. refl)).stands

  pub map_rest : AtRest s1 (λ c. HasMap s1.size c rest.map)
  map_rest = record { shut = rest.rest.shut; all = λ c left. (rest.rest.all c left).stands }

  pub map_layout : rest.map.layout ≡ layout_number map.layout
  map_layout = pack_held s1 (known_of map) rest.map rest.rest ∙ sym layout_is

  -- the block in which the master directory begins
  pub map_first : (blocks : List ℕ) → blocks ≡ map.master.blocks → head_or_zero rest.map.chain ≡ slice_index blocks 0
  map_first blocks are = first_is blocks rest.map.chain (are
      ∙ sym (rest.rest.all s1.contents (λ n closed. refl)).known.chain)

  pub stood_here : (layout : ℕ) (files : Files File) → StandsOn (pack_in layout s.size) s.contents files
      → (layout ≡ rest.map.layout) × (files ≡ files_of rest.map)
  stood_here = stood_as s s1 rest.map size recovered none here

  pub told : (number layout : ℕ) (files : Files File) → layout_number map.layout ≡ number
      → StandsOn (pack_in layout s.size) s.contents files → layout ≡ number
  told number layout files is stands = (stood_here layout files stands).0 ∙ map_layout ∙ is

  -- a disk that had layout 2 rests in it
  pub rests_already : (layout : ℕ) (files : Files File) → layout_number map.layout ≡ 2
      → StandsOn (pack_in layout s.size) s.contents files → AtRest s1 (λ c. SettledStandsOn (pack_in 2 s.size) c files)
  rests_already layout files is stands = record {
    shut = rest.rest.shut;
    all = λ c left. (
      rest.map,
      subst (λ (n : ℕ). HasMap n c rest.map) size (map_rest.all c left),
      sym (stood_here layout files stands).1,
      map_layout ∙ is,
    );
  }

  -- one that was raised rests in it, too
  pub rests_raised : (s2 : DiskState) (layout : ℕ) (files : Files File)
      → StandsOn (pack_in layout s.size) s.contents files
      → AtRest s2 (λ c. SettledStandsOn (pack_in 2 s1.size) c (files_of rest.map))
      → AtRest s2 (λ c. SettledStandsOn (pack_in 2 s.size) c files)
  rests_raised s2 layout files stands raised =
      subst (λ (f : Files File). AtRest s2 (λ c. SettledStandsOn (pack_in 2 s.size) c f))
      (sym (stood_here layout files stands).1)
      (subst (λ (n : ℕ). AtRest s2 (λ c. SettledStandsOn (pack_in 2 n) c (files_of rest.map))) size raised)

  pub is_migrated : (s2 : DiskState) (master : ℕ) → s2.size ≡ s1.size → layout_number map.layout ≡ 1
      → head_or_zero rest.map.chain ≡ master → IsShut s2
      → Modifies (λ n. IsGateOrLog s1.size n ⊎ IsHomeBlock n) s1 s2
      → AreCopies (home_block s1.size (home_in 2 master)) s2.contents → IsMigrated s.size s.contents s2.contents
  is_migrated s2 master size2 one head shut modified copies =
      let there = subst (λ (n : ℕ). HasMap n s1.contents rest.map) size here in
      let before = map_ignores_log s.size rest.map s1.contents recovered.settled
      (λ n out. sym (recovered.others n (λ gate. out (omega arith, omega arith)))) there in
      record {
        settled = recovered.settled;
        is_settled = recovered.is_settled;
        others = λ n out.
            modified.contents n (λ is. out (subst (λ (b : ℕ). IsGateOrLog b n ⊎ IsHomeBlock n) size is))
            ∙ recovered.others n (λ gate. out (inl (omega arith, omega arith)));
        gate = λ opened. shut s2.contents (λ n closed. refl)
            (subst (λ (n : ℕ). IsGateOpen n s2.contents) (sym (size2 ∙ size)) opened);
        master = master;
        home = subst (λ (h : SpecHome). IsHome s.size recovered.settled h)
            (λ i. home_in ((map_layout ∙ one) i) (head i)) before.mapped.home;
        copies = subst (λ (n : ℕ). AreCopies (home_block n (home_in 2 master)) s2.contents) size copies;
      }

  pub stood_then : (files : Files File) → StandsOn (pack_of s1) s.contents files
      → StandsOn (pack_in (pack_of s1).layout s.size) s.contents files
  stood_then files stands = subst (λ (n : ℕ). StandsOn (pack_in (pack_of s1).layout n) s.contents files) size stands

-- What every other error has.
pub each_other : {T E : Type 0} (result : Result T E) (one : E) (P : Type 0) → ((result ≡ Err one → ⊥) → P)
    → IfErr result (λ error. (error ≡ one → ⊥) → P)
each_other (Ok x) one P all = tt
each_other (Err error) one P all = λ no. all (λ is. no (cc))
