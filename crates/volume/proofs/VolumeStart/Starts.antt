-- A start: recovery, and then reading alone.
use Rattle.std.proofs.Common.{◌≡◌, ◌⊎◌, inl, inr, ⊎_elim, ℕ, ◌<◌, ◌≤◌, List, [], ◌∷◌, Option, Some, None, Result, Ok}
use Rattle.std.proofs.Common.{Err, IfOk, refl, sym, ap, subst, ◌∙◌, arith}
use Rattle.std.proofs.lemmas.Bool.{cases_eq}
use Rattle.blockdisk.specs.Common.{Contents, DiskState, MayLeave, NoneOpen, LeavesOnly, none_open_leaves}
use Rattle.blockdisk.specs.Common.{leaves_still, leaves_weaker, leaves_on}
use Rattle.changeset.specs.Common.{IsGate, IsGateOrLog, IsLost, IsRecovered, SyncsFirst, SettlesLike}
use Rattle.changeset.specs.Common.{SettlesLikeBefore, OnlyReads, AtRest, Ignores, recover_leaves, recover_rest}
use Rattle.changeset.specs.Common.{like_settles}
use Rattle.spec_image.specs.Common.{File, Files, IsVolumeSize, IsGateOpen, open_gate, with_puts, pack_in, pack_of}
use Rattle.spec_image.specs.Common.{SettledStandsOn, StandsOn, Pack, DiskMap, HasMap, files_of, Stands}
use Rattle.spec_image.specs.Common.{IsSettledFault, HasFault, StartFault}
use Rattle.spec_image.proofs.Common.{log_ignored, settled_same}
use Rattle.volume.specs.declared.error.VolumeError.{VolumeError}
use Rattle.volume.specs.declared.error.VolumeError.TheVariants.{NotVolume, BadHome, BadLog, BadDirectory}
use Rattle.volume.specs.declared.error.VolumeError.TheVariants.{BadRetrieval, BlockTwice, TableWrong, Device}
use Rattle.volume.specs.declared.error.VolumeError.TheVariants.{NoMemory, Failed, BadData}
use Rattle.volume.specs.Common.{CurrentMap, MatchesMap, SettledRefuses, Refuses, IsAtRest, RestsAt, StandsLike}
use Rattle.volume.specs.Common.{StandsLikeBefore}
use Rattle.volume.proofs.common.Packs.{pack_rests, rests_in}
use Rattle.spec_image.specs.Faults as faults

-- Answers.

pub ok_on : {T E : Type 0} (P Q : T → Type 0) (result : Result T E) → ((x : T) → P x → Q x) → IfOk result P
    → IfOk result Q
ok_on P Q (Ok x) on is = on x is
ok_on P Q (Err e) on is = tt

pub ok_always : {T E : Type 0} (P : Type 0) (result : Result T E) → P → IfOk result (λ x. P)
ok_always P (Ok x) is = is
ok_always P (Err e) is = tt

-- Gate and log are no part of what stands for files.

pub stands_ignores_log : (pack : Pack) (files : Files File)
    → Ignores (IsGateOrLog pack.blocks) (λ c. SettledStandsOn pack c files)
stands_ignores_log pack files c d same stands = (
  stands.0,
  log_ignored pack.blocks c d stands.0 (λ n place. same n (λ is. let low = is.0 in let high = is.1 in
      ⊎_elim (λ e. absurd (omega arith)) (⊎_elim (λ e. absurd (omega arith)) (λ le. absurd (omega arith))) place))
      stands.1,
  stands.2,
  stands.3,
)

pub stands_ignores_gate : (pack : Pack) (files : Files File) → Ignores IsGate (λ c. SettledStandsOn pack c files)
stands_ignores_gate pack files c d same stands = stands_ignores_log pack files c d
    (λ n out. same n (λ is. out (omega arith, omega arith))) stands

-- Recovery.

pub crash_recovered : (s s' : DiskState) → LeavesOnly s s' (SettlesLikeBefore s) → LeavesOnly s s' (StandsLikeBefore s)
crash_recovered s s' leaves =
    leaves_weaker s s' _ (StandsLikeBefore s)
    (recover_leaves s s' (λ (x : ℕ × Files File) c. SettledStandsOn (pack_in x.0 s.size) c x.1)
    (λ x. stands_ignores_log (pack_in x.0 s.size) x.1) leaves)
    (λ c like. (like.0, like.1, λ layout files. like.2 (layout, files)))

settles_stands : (s : DiskState) (c : Contents) → SettlesLike s.size s.contents c → StandsLike s c
settles_stands s c like layout files stands =
    like_settles s.size (λ d. SettledStandsOn (pack_in layout s.size) d files) s.contents c
    (stands_ignores_log (pack_in layout s.size) files) like stands

-- what recovery returned, and what is returned for it
pub synced_recovered : {D : Type 0} (state : D → DiskState) (old new : D) (fault fault' : Type 0) → (fault → fault')
    → SyncsFirst state old new fault (SettlesLike (state old).size (state old).contents)
    → SyncsFirst state old new fault' (StandsLike (state old))
synced_recovered {D} state old new fault fault' on first = ⊎_elim
    (λ failed. inl (on failed.0, failed.1))
    (λ from. inr (
      from.0,
      from.1,
      leaves_weaker (state from.0) (state new) (SettlesLike (state old).size (state old).contents)
          (StandsLike (state old)) from.2 (settles_stands (state old)),
    )) first

-- The reading after it.

pub crash_read : (s s' s'' : DiskState) (P : Contents → Type 0) → LeavesOnly s s' P
    → ((c : Contents) → s'.left_since s'.clock c → MayLeave s' c) → OnlyReads s' s'' → LeavesOnly s s'' P
crash_read s s' s'' P first only_now reads = leaves_on s s' s'' P (MayLeave s') first
    (leaves_still s' s'' (MayLeave s') only_now reads.still (λ c left. left)) (λ c left. first.now c left)

pub synced_read : {D : Type 0} (state : D → DiskState) (old mid new : D) (fault fault' : Type 0) (P : Contents → Type 0)
    → (fault → ⊥)
    → ((c : Contents) → (state mid).left_since (state mid).clock c → MayLeave (state mid) c)
    → OnlyReads (state mid) (state new) → SyncsFirst state old mid fault P → SyncsFirst state old new fault' P
synced_read {D} state old mid new fault fault' P none only_now reads first = ⊎_elim
    (λ failed. absurd (none failed.0))
    (λ from. inr (from.0, from.1, crash_read (state from.0) (state mid) (state new) P from.2 only_now reads)) first

-- The same for what is returned in another form.
pub synced_as : {D : Type 0} (state : D → DiskState) (old new : D) (fault fault' : Type 0) (P : Contents → Type 0)
    → (fault → fault') → SyncsFirst state old new fault P → SyncsFirst state old new fault' P
synced_as {D} state old new fault fault' P on first = ⊎_elim (λ failed. inl (on failed.0, failed.1))
    (λ from. inr from) first

pub rest_read : (s s' : DiskState) (Q : Contents → Type 0) → s'.size ≡ s.size → OnlyReads s s' → AtRest s Q
    → AtRest s' Q
rest_read s s' Q size reads rest = record {
  shut = λ c left is_open. rest.shut c (reads.still.crash c left) (subst (λ (n : ℕ). IsGateOpen n c) size is_open);
  all = λ c left. rest.all c (reads.still.crash c left);
}

-- What is known of the contents holds for all that a crash may leave.
pub rest_known : (s s' s'' : DiskState) (known : CurrentMap) (m : DiskMap) → s'.size ≡ s.size → s''.size ≡ s'.size
    → IsRecovered s.size s.contents s'.contents → NoneOpen s' → OnlyReads s' s''
    → MatchesMap s'.size known m s'.contents
    → IsAtRest s'' known
rest_known s s' s'' known m size size' recovered none reads held = record {
  map = m;
  rest = rest_read s' s'' (MatchesMap s''.size known m) size' reads (record {
    shut = λ c left is_open. recovered.gate (subst (IsGateOpen s.size) (none_open_leaves s' none c left)
        (subst (λ (n : ℕ). IsGateOpen n c) size is_open));
    all = λ c left. subst (MatchesMap s''.size known m) (sym (none_open_leaves s' none c left))
        (subst (λ (n : ℕ). MatchesMap n known m s'.contents) (sym size') held);
  });
}

-- The files are those that the disk stood for, in the layout in which it stood for them.

rest_pack : (s s' s'' : DiskState) (files : Files File) (layout : ℕ) → s'.size ≡ s.size → s''.size ≡ s'.size
    → IsRecovered s.size s.contents s'.contents → NoneOpen s' → OnlyReads s' s''
    → StandsOn (pack_in layout s.size) s.contents files
    → (pack_of s'' ≡ pack_in layout s.size) × RestsAt s'' files
rest_pack s s' s'' files layout size size' recovered none reads stands =
    let pack = pack_in layout s.size in
    let rest : AtRest s'' (λ c. SettledStandsOn pack c files) =
    rest_read s' s'' (λ c. SettledStandsOn pack c files) size' reads
    (recover_rest s s' (λ c. SettledStandsOn pack c files) (stands_ignores_gate pack files) size
    (λ settled is. subst (λ c. SettledStandsOn pack c files)
    (settled_same s.size s.contents stands.0 settled stands.1 is) stands.2) recovered none) in (
      pack_rests s'' pack files (sym (size' ∙ size)) rest,
      rests_in s'' pack files (sym (size' ∙ size)) rest,
    )

pub rest_files : (s s' s'' : DiskState) (files : Files File) → s'.size ≡ s.size → s''.size ≡ s'.size
    → IsRecovered s.size s.contents s'.contents → NoneOpen s' → OnlyReads s' s'' → Stands s.size s.contents files
    → RestsAt s'' files
rest_files s s' s'' files size size' recovered none reads stands =
    (rest_pack s s' s'' files (stands.2.0).layout size size' recovered none reads
    (stands.0, stands.1, (stands.2.0, stands.2.1, stands.2.2, refl))).1

-- They stood for some files before the recovery, since what was recovered is what settled.
pub stood_before : (s s' s'' : DiskState) (known : CurrentMap) (m : DiskMap) → s'.size ≡ s.size → s''.size ≡ s'.size
    → IsRecovered s.size s.contents s'.contents → NoneOpen s' → OnlyReads s' s''
    → MatchesMap s'.size known m s'.contents
    → (files : Files File) × StandsOn (pack_of s'') s.contents files × RestsAt s'' files
stood_before s s' s'' known m size size' recovered none reads held =
    let pack = pack_in m.layout s.size in
    let there : SettledStandsOn pack s'.contents
    (files_of m) = (m, subst (λ (n : ℕ). HasMap n s'.contents m) size held.stands, refl, refl) in
    let before : StandsOn pack s.contents (files_of m) = (
      recovered.settled,
      recovered.is_settled,
      stands_ignores_gate pack (files_of m) s'.contents recovered.settled
          (λ n out. sym (recovered.others n out)) there,
    ) in
    let after = rest_pack s s' s'' (files_of m) m.layout size size' recovered none reads before in
    (files_of m, subst (λ (p : Pack). StandsOn p s.contents (files_of m)) (sym after.0) before, after.1)

-- Faults.

-- With a closed gate the contents are settled.
pub closed_refuses : (size : ℕ) (contents : Contents) → (IsGateOpen size contents → ⊥) → (error : VolumeError)
    → SettledRefuses size contents error → Refuses size contents error
closed_refuses size contents closed = by_error
  where
    fault : (f : StartFault) → IsSettledFault size contents f → HasFault size contents f
    fault f is = inr (contents, inl (closed, λ n. refl), is)

    by_error : (error : VolumeError) → SettledRefuses size contents error → Refuses size contents error
    by_error NotVolume is = fault faults.StartFault.NotVolume is
    by_error BadHome is = fault faults.StartFault.BadHome is
    by_error BadLog is = fault faults.StartFault.BadLog is
    by_error (BadDirectory n) is = fault (faults.StartFault.BadDirectory n) is
    by_error (BadRetrieval n) is = fault (faults.StartFault.BadRetrieval n) is
    by_error (BlockTwice n) is = fault (faults.StartFault.BlockTwice n) is
    by_error (TableWrong n) is = fault (faults.StartFault.TableWrong n) is
    by_error Device is = tt
    by_error NoMemory is = tt
    by_error Failed is = is
    by_error (BadData n) is = fault (faults.StartFault.BadData n) is

lists_apart : (xs ys : List ℕ) → (xs ≡ ys) ⊎ (xs ≡ ys → ⊥)
lists_apart [] [] = inl refl
lists_apart [] (y ∷ ys) = inr (λ e. cc)
lists_apart (x ∷ xs) [] = inr (λ e. cc)
lists_apart (x ∷ xs) (y ∷ ys) = ⊎_elim (λ heads. ⊎_elim (λ tails. inl (λ i. heads i ∷ tails i))
    (λ other. inr (λ e. other (cc))) (lists_apart xs ys)) (λ other. inr (λ e. other (cc))) (cases_eq x y)

-- If nothing settles, the gate is open.
lost_gate : (size : ℕ) (contents : Contents) → IsLost size contents → contents 3 ≡ Some open_gate
lost_gate size contents lost = by_block (contents 3) refl
  where
    by_block : (block : Option (List ℕ)) → contents 3 ≡ block → contents 3 ≡ Some open_gate
    by_block None is = absurd (lost contents (inl (λ o. (let e = o.gate in cc), λ n. refl)))
    by_block (Some words) is = ⊎_elim
        (λ same. is ∙ ap Some same)
        (λ other. absurd (lost contents (inl (
          λ o. other (let e : Some words ≡ Some open_gate = sym is ∙ o.gate in cc),
          λ n. refl,
        )))) (lists_apart words open_gate)

low_or_high : (m n : ℕ) → (m ≤ n) ⊎ (n < m)
low_or_high m n = grind arith

volume_or_not : (size : ℕ) → IsVolumeSize size ⊎ (IsVolumeSize size → ⊥)
volume_or_not size = ⊎_elim
    (λ small. ⊎_elim (λ large. inl (record { small = small; large = large })) (λ past. inr (λ v. let l = v.large in
    absurd (omega arith))) (low_or_high size 131072))
    (λ low. inr (λ v. let l = v.small in absurd (omega arith))) (low_or_high 64 size)

lost_open : (size : ℕ) (contents : Contents) → IsLost size contents → IsGateOpen size contents
lost_open size contents lost = ⊎_elim
    (λ volume. record { volume = volume; gate = lost_gate size contents lost })
    (λ no. absurd (lost contents (inl (λ is_open. no is_open.volume, λ n. refl)))) (volume_or_not size)

pub lost_refuses : (size : ℕ) (contents : Contents) → IsLost size contents → Refuses size contents BadLog
lost_refuses size contents lost =
    let is_open = lost_open size contents lost in
    inl (
      record {
        open_gate = is_open;
        no_log = λ puts log. lost (with_puts puts contents) (inr (is_open, puts, log, λ n. refl));
      },
      refl,
    )
