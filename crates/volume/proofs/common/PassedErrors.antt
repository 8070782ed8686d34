-- Errors that are passed on.
use Rattle.std.proofs.Common.{◌≡◌, ℕ, ◌⊎◌, ⊎_elim, Result, Ok, Err, IfErr, refl, sym, subst, Bool, List}
use Rattle.std.proofs.Common.{IsErrOf, ap}
use Rattle.blockdisk.specs.Common.{Contents}
use Rattle.spec_image.specs.Common.{Place, InSpace, IsBadVersion}
use Rattle.volume.specs.declared.error.VolumeError.{VolumeError}
use Rattle.volume.specs.declared.error.VolumeError.TheVariants.{NotVolume, BadHome, BadLog, BadDirectory}
use Rattle.volume.specs.declared.error.VolumeError.TheVariants.{BadRetrieval, BlockTwice, TableWrong, Device}
use Rattle.volume.specs.declared.error.VolumeError.TheVariants.{NoMemory, Failed, BadData}
use Rattle.volume.specs.Common.{IsVersionRefusal, IsDataRefusal, IsFileRefusal, IsOtherPlace, IsReachedTwice}
use Rattle.volume.specs.Common.{IsDamagedData, NamesInSpace, IsFaultOfFile, IsTableRefusal, error_of_chain}
use Rattle.directory.specs.declared.error.DirectoryError.{DirectoryError}
use Rattle.alloctab.specs.Common.{InTable}
use Rattle.volume.proofs.VolumeStart.FileFaults.{refusal}
use Rattle.directory.specs.declared.error.DirectoryError.TheVariants as directory

pub err_of : {T E : Type 0} (x y : E) → x ≡ y → IsErrOf {T = T} (Err x) y
err_of x y is = ap (λ e. Err e) is

pub err_on : {T U E : Type 0} (x y : E) → IsErrOf {T = T} (Err x) y → IsErrOf {T = U} (Err x) y
err_on x y is = let same : x ≡ y = cc in ap (λ e. Err e) same

-- what an error has that is handed on
pub handed : {T U E : Type 0} (P : E → Type 0) (outer : Result T E) (inner : Result U E) (x y : E) → outer ≡ Err x
    → x ≡ y → inner ≡ Err y → IfErr inner P → IfErr outer P
handed P outer inner x y is same was met = subst (λ r. IfErr r P) (sym is)
    (subst P (sym same) (subst (λ r. IfErr r P) was met))

-- What holds of each error that a chain may meet holds of what it is refused with.
pub by_chain : (P : VolumeError → Type 0) (error : DirectoryError) (refused : VolumeError)
    → refused ≡ error_of_chain error → ((n : ℕ) → error ≡ directory.BadDirectory n → P (BadDirectory n))
    → ((n : ℕ) → error ≡ directory.BlockTwice n → P (BlockTwice n)) → P Device → P NoMemory → P refused
by_chain P error refused is bad twice device memory = subst P (sym is) (by error refl)
  where
    by : (e : DirectoryError) → error ≡ e → P (error_of_chain e)
    by (directory.BadDirectory n) same = bad n same
    by (directory.BlockTwice n) same = twice n same
    by directory.Device same = device
    by directory.NoMemory same = memory

-- each error of the result has P
pub each_error : {T E : Type 0} (P : E → Type 0) (result : Result T E) → ((e : E) → result ≡ Err e → P e)
    → IfErr result P
each_error P (Ok x) all = tt
each_error P (Err e) all = all e refl

pub file_met_by : {T : Type 0} (size layout : ℕ) (contents : Contents) (reached : List Bool) (place : Place)
    (prime : ℕ) (result : Result T VolumeError) → IfErr result IsFileRefusal
    → ((k : ℕ) → result ≡ Err (BadRetrieval k) → IsBadVersion size contents layout prime k
    ⊎ ((k ≡ prime) × IsOtherPlace layout contents place prime))
    → ((k : ℕ) → result ≡ Err (BlockTwice k) → IsReachedTwice layout contents place prime reached k)
    → ((k : ℕ) → result ≡ Err (BadData k) → IsDamagedData layout contents place prime k)
    → IfErr result (IsFaultOfFile size layout contents reached place prime)
file_met_by size layout contents reached place prime result only bad twice damaged = each_error
    (IsFaultOfFile size layout contents reached place prime) result by_error
  where
    by_error : (e : VolumeError) → result ≡ Err e → IsFaultOfFile size layout contents reached place prime e
    by_error NotVolume is = refusal IsFileRefusal result NotVolume is only
    by_error BadHome is = refusal IsFileRefusal result BadHome is only
    by_error BadLog is = refusal IsFileRefusal result BadLog is only
    by_error (BadDirectory n) is = refusal IsFileRefusal result (BadDirectory n) is only
    by_error (BadRetrieval n) is = bad n is
    by_error (BlockTwice n) is = twice n is
    by_error (TableWrong n) is = refusal IsFileRefusal result (TableWrong n) is only
    by_error Device is = tt
    by_error NoMemory is = tt
    by_error Failed is = refusal IsFileRefusal result Failed is only
    by_error (BadData n) is = damaged n is

pub found_on : {T E : Type 0} (P Q : E → Type 0) (result : Result T E) → ((e : E) → P e → Q e) → IfErr result P
    → IfErr result Q
found_on P Q (Ok x) on met = tt
found_on P Q (Err e) on met = on e met

-- The block that is named lies in the free space.

pub version_named : {T : Type 0} (size prime : ℕ) (result : Result T VolumeError) → InSpace size prime
    → IfErr result IsVersionRefusal → ((k : ℕ) → result ≡ Err (BadRetrieval k) → (k ≡ prime) ⊎ InSpace size k)
    → IfErr result (NamesInSpace size)
version_named size prime result here only named = each_error (NamesInSpace size) result by_error
  where
    by_error : (e : VolumeError) → result ≡ Err e → NamesInSpace size e
    by_error NotVolume is = tt
    by_error BadHome is = tt
    by_error BadLog is = tt
    by_error (BadDirectory n) is = absurd (refusal IsVersionRefusal result (BadDirectory n) is only)
    by_error (BadRetrieval n) is = ⊎_elim (λ e. subst (InSpace size) (sym e) here) (λ there. there) (named n is)
    by_error (BlockTwice n) is = absurd (refusal IsVersionRefusal result (BlockTwice n) is only)
    by_error (TableWrong n) is = absurd (refusal IsVersionRefusal result (TableWrong n) is only)
    by_error Device is = tt
    by_error NoMemory is = tt
    by_error Failed is = tt
    by_error (BadData n) is = absurd (refusal IsVersionRefusal result (BadData n) is only)

pub data_named : {T : Type 0} (size : ℕ) (result : Result T VolumeError) → IfErr result IsDataRefusal
    → ((k : ℕ) → result ≡ Err (BadData k) → InSpace size k) → IfErr result (NamesInSpace size)
data_named size result only named = each_error (NamesInSpace size) result by_error
  where
    by_error : (e : VolumeError) → result ≡ Err e → NamesInSpace size e
    by_error NotVolume is = tt
    by_error BadHome is = tt
    by_error BadLog is = tt
    by_error (BadDirectory n) is = absurd (refusal IsDataRefusal result (BadDirectory n) is only)
    by_error (BadRetrieval n) is = absurd (refusal IsDataRefusal result (BadRetrieval n) is only)
    by_error (BlockTwice n) is = absurd (refusal IsDataRefusal result (BlockTwice n) is only)
    by_error (TableWrong n) is = absurd (refusal IsDataRefusal result (TableWrong n) is only)
    by_error Device is = tt
    by_error NoMemory is = tt
    by_error Failed is = tt
    by_error (BadData n) is = named n is

pub home_named : {T : Type 0} (size : ℕ) (result : Result T VolumeError)
    → ((e : VolumeError) → result ≡ Err e → (e ≡ NotVolume) ⊎ (e ≡ BadHome) ⊎ (e ≡ Device))
    → IfErr result (NamesInSpace size)
home_named size result only = each_error (NamesInSpace size) result (λ e is.
    ⊎_elim (λ same. subst (NamesInSpace size) (sym same) tt) (⊎_elim (λ same. subst (NamesInSpace size) (sym same) tt)
    (λ same. subst (NamesInSpace size) (sym same) tt)) (only e is))

pub table_named : {T : Type 0} (size : ℕ) (result : Result T VolumeError) → IfErr result IsTableRefusal
    → ((n : ℕ) → result ≡ Err (TableWrong n) → InTable size n) → IfErr result (NamesInSpace size)
table_named size result only named = each_error (NamesInSpace size) result by_error
  where
    by_error : (e : VolumeError) → result ≡ Err e → NamesInSpace size e
    by_error NotVolume is = tt
    by_error BadHome is = tt
    by_error BadLog is = tt
    by_error (BadDirectory n) is = absurd (refusal IsTableRefusal result (BadDirectory n) is only)
    by_error (BadRetrieval n) is = absurd (refusal IsTableRefusal result (BadRetrieval n) is only)
    by_error (BlockTwice n) is = absurd (refusal IsTableRefusal result (BlockTwice n) is only)
    by_error (TableWrong n) is = named n is
    by_error Device is = tt
    by_error NoMemory is = tt
    by_error Failed is = tt
    by_error (BadData n) is = absurd (refusal IsTableRefusal result (BadData n) is only)

pub named_on : {T : Type 0} (size size' : ℕ) (result : Result T VolumeError) → size ≡ size'
    → IfErr result (NamesInSpace size) → IfErr result (NamesInSpace size')
named_on size size' result same named = subst (λ (n : ℕ). IfErr result (NamesInSpace n)) same named

pub found_named : {T E : Type 0} (P N Q : E → Type 0) (result : Result T E) → ((e : E) → P e → N e → Q e)
    → IfErr result P → IfErr result N → IfErr result Q
found_named P N Q (Ok x) on met named = tt
found_named P N Q (Err e) on met named = on e met named
