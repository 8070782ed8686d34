-- What the layers above state of a disk with a log, without mentioning gate or log: between two changes it
-- is at rest, writes that nobody reads leave it at rest, and a commit leads from rest to rest.
use Rattle.std.specs.Prelude.{◌≡◌, ◌⊎◌, ℕ, List}
use Rattle.std.proofs.Common.{inl, inr, ⊎_elim, refl, sym, ◌∙◌, subst}
use Rattle.blockdisk.specs.Common.{Contents, DiskState, MayLeave, NoneOpen, SameOutside, Near, Modifies, LeavesOnly}
use Rattle.blockdisk.specs.Common.{modifies_leaves, leaves_weaker, leaves_on, none_open_leaves}
use Rattle.spec_image.specs.declared.put.Put.{Put}
use Rattle.spec_image.specs.Common.{IsVolumeSize, IsGateOpen, IsSettled, with_puts}
use Rattle.changeset.specs.Crashes.{IsGate, IsGateOrLog, IsShut, SettlesAs, AllOrNone, SettlesLike, SettlesLikeBefore}
use Rattle.changeset.specs.Crashes.{IsRecovered}

-- Q doesn't depend on these blocks
abbrev pub Ignores : (ℕ → Type 0) → (Contents → Type 0) → Type 0
Ignores In Q = (c d : Contents) → SameOutside In c d → Q c → Q d

-- contents c settle to some that have Q
abbrev pub SettlesTo : ℕ → (Contents → Type 0) → Contents → Type 0
SettlesTo size Q c = (settled : Contents) × IsSettled size c settled × Q settled

-- Whatever a crash may leave has its gate closed, and has Q.
pub record AtRest (s : DiskState) (Q : Contents → Type 0) : Type 0 where
  pub shut : IsShut s
  pub all : (c : Contents) → MayLeave s c → Q c

pub rest_settles : (s : DiskState) (Q : Contents → Type 0) → AtRest s Q → (c : Contents) → MayLeave s c
    → SettlesTo s.size Q c
rest_settles s Q rest c left = (c, inl (rest.shut c left, λ n. refl), rest.all c left)

-- contents that settle like some that have Q
settles_to : (size : ℕ) (Q : Contents → Type 0) (wanted c : Contents) → Ignores (IsGateOrLog size) Q → Q wanted
    → SettlesAs size wanted c → SettlesTo size Q c
settles_to size Q wanted c ignores has to = (to.settled, to.is_settled, ignores wanted to.settled to.same has)

-- A commit: a crash leaves what was, or what the puts make of it.
pub commit_leaves : (puts : List Put) (s s' : DiskState) (Q R : Contents → Type 0) → Ignores (IsGateOrLog s.size) Q
    → Ignores (IsGateOrLog s.size) R → AtRest s Q
    → R (with_puts puts s.contents) → LeavesOnly s s' (AllOrNone puts s)
    → LeavesOnly s s' (λ c. SettlesTo s.size Q c ⊎ SettlesTo s.size R c)
commit_leaves puts s s' Q R ignores ignores' rest changed leaves = leaves_weaker s s' (AllOrNone puts s)
    (λ c. SettlesTo s.size Q c ⊎ SettlesTo s.size R c) leaves which
  where
    which : (c : Contents) → AllOrNone puts s c → SettlesTo s.size Q c ⊎ SettlesTo s.size R c
    which c = ⊎_elim
        (λ old. inl (settles_to s.size Q old.0 c ignores (rest.all old.0 old.1) old.2))
        (λ new. inr (settles_to s.size R (with_puts puts s.contents) c ignores' changed new))

-- A commit that succeeded ends at rest.
pub commit_rest : (puts : List Put) (s s' : DiskState) (R : Contents → Type 0) → Ignores (IsGateOrLog s.size) R
    → R (with_puts puts s.contents)
    → SameOutside (IsGateOrLog s.size) (with_puts puts s.contents) s'.contents → NoneOpen s' → IsShut s' → AtRest s' R
commit_rest puts s s' R ignores changed all none shut = record {
  shut = shut;
  all = λ c left. subst R (sym (none_open_leaves s' none c left))
      (ignores (with_puts puts s.contents) s'.contents all changed);
}

-- Quiet writes, of blocks on which Q doesn't depend and which don't include the gate: the disk stays at rest.
pub quiet_rest : (In : ℕ → Type 0) (s s' : DiskState) (Q : Contents → Type 0) → Ignores In Q → (In 3 → ⊥)
    → s'.size ≡ s.size → AtRest s Q → Modifies In s s' → AtRest s' Q
quiet_rest In s s' Q ignores gate size rest t = record {
  shut = λ c left is_open.
      let near = t.crash c left in
      rest.shut near.0 near.1
      (record { volume = subst IsVolumeSize size is_open.volume; gate = sym (near.2 3 gate) ∙ is_open.gate });
  all = λ c left. let near = t.crash c left in ignores near.0 c near.2 (rest.all near.0 near.1);
}

pub quiet_leaves : (In : ℕ → Type 0) (s s' : DiskState) (Q : Contents → Type 0) → Ignores In Q → (In 3 → ⊥) → AtRest s Q
    → ((c : Contents) → s.left_since s.clock c → MayLeave s c) → Modifies In s s'
    → LeavesOnly s s' (λ c. (IsGateOpen s.size c → ⊥) × Q c)
quiet_leaves In s s' Q ignores gate rest only_now t = modifies_leaves In s s' (λ c. (IsGateOpen s.size c → ⊥)
    × Q c) only_now t near
  where
    near : (c : Contents) → Near In s c → (IsGateOpen s.size c → ⊥) × Q c
    near c is = (
      λ is_open. rest.shut is.0 is.1 (record { volume = is_open.volume; gate = sym (is.2 3 gate) ∙ is_open.gate }),
      ignores is.0 c is.2 (rest.all is.0 is.1),
    )

pub quiet_stands : (s s' : DiskState) (Q : Contents → Type 0) → LeavesOnly s s' (λ c. (IsGateOpen s.size c → ⊥) × Q c)
    → LeavesOnly s s' (SettlesTo s.size Q)
quiet_stands s s' Q leaves = leaves_weaker s s' (λ c. (IsGateOpen s.size c → ⊥)
    × Q c) (SettlesTo s.size Q) leaves (λ c is. (c, inl (is.0, λ n. refl), is.1))

-- One transaction of a layer above: quiet writes, then one commit.
pub transaction_leaves : (In : ℕ → Type 0) (puts : List Put) (s mid s' : DiskState) (Q R : Contents → Type 0)
    → Ignores In Q → (In 3 → ⊥)
    → Ignores (IsGateOrLog s.size) Q → Ignores (IsGateOrLog s.size) R → mid.size ≡ s.size → AtRest s Q
    → ((c : Contents) → s.left_since s.clock c → MayLeave s c) → Modifies In s mid
    → R (with_puts puts mid.contents) → LeavesOnly mid s' (AllOrNone puts mid)
    → LeavesOnly s s' (λ c. SettlesTo s.size Q c ⊎ SettlesTo s.size R c)
transaction_leaves In puts s mid s' Q R ignores gate log_q log_r size rest only_now quiet changed leaves =
    leaves_on s mid s' (Either s.size) (Either mid.size) first second (λ c. subst (λ (n : ℕ). Either n c) size)
  where
    Either : ℕ → Contents → Type 0
    Either n c = SettlesTo n Q c ⊎ SettlesTo n R c

    first : LeavesOnly s mid (Either s.size)
    first = leaves_weaker s mid (SettlesTo s.size Q) (Either s.size)
        (quiet_stands s mid Q (quiet_leaves In s mid Q ignores gate rest only_now quiet)) (λ c is. inl is)

    second : LeavesOnly mid s' (Either mid.size)
    second = commit_leaves puts mid s' Q R (subst (λ (n : ℕ). Ignores (IsGateOrLog n) Q) (sym size) log_q)
        (subst (λ (n : ℕ). Ignores (IsGateOrLog n) R) (sym size) log_r)
        (quiet_rest In s mid Q ignores gate size rest quiet) changed leaves

-- After the first sync of recovery: what the contents read before it settle to.
pub like_settles : (size : ℕ) (Q : Contents → Type 0) (d c : Contents) → Ignores (IsGateOrLog size) Q
    → SettlesLike size d c → SettlesTo size Q d → SettlesTo size Q c
like_settles size Q d c ignores like to = settles_to size Q to.0 c ignores to.2 (like to.0 to.1)

-- Recovery: what settled to one of these things still settles to it.
pub recover_leaves : {T : Type 0} (s s' : DiskState) (Q : T → Contents → Type 0)
    → ((x : T) → Ignores (IsGateOrLog s.size) (Q x))
    → LeavesOnly s s' (SettlesLikeBefore s)
    → LeavesOnly s s' (λ c. (d : Contents) × MayLeave s d
    × ((x : T) → SettlesTo s.size (Q x) d → SettlesTo s.size (Q x) c))
recover_leaves {T} s s' Q ignores leaves =
    leaves_weaker s s' (SettlesLikeBefore s) (λ c. (d : Contents) × MayLeave s d
    × ((x : T) → SettlesTo s.size (Q x) d → SettlesTo s.size (Q x) c)) leaves
    (λ c like. (like.0, like.1, λ x. like_settles s.size (Q x) like.0 c (ignores x) like.2))

-- Recovery that succeeded ends at rest, with what the contents settled to.
pub recover_rest : (s s' : DiskState) (Q : Contents → Type 0) → Ignores IsGate Q → s'.size ≡ s.size
    → ((settled : Contents) → IsSettled s.size s.contents settled → Q settled)
    → IsRecovered s.size s.contents s'.contents → NoneOpen s' → AtRest s' Q
recover_rest s s' Q ignores size all recovered none = record {
  shut = λ c left is_open. recovered.gate (subst (λ (n : ℕ). IsGateOpen n s'.contents) size
      (subst (IsGateOpen s'.size) (none_open_leaves s' none c left) is_open));
  all = λ c left. subst Q (sym (none_open_leaves s' none c left))
      (ignores recovered.settled s'.contents recovered.others (all recovered.settled recovered.is_settled));
}
