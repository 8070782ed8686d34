-- Quotas in the entries of the master directory, which layout 1 doesn't have.
use Rattle.std.specs.Prelude.{◌≡◌, ℕ, ◌/◌, ◌<◌, List, Some, slice_get, get_or, take}
use Rattle.std.specs.List.{AllByRecursion}
use Rattle.directory.specs.Common.{ChainState}
use Rattle.directory.specs.declared.master.MasterEntry.{MasterEntry}

abbrev pub HasNoQuota : MasterEntry → Type 0
HasNoQuota e = e.quota ≡ 0

-- The entry at place i, counted from 0, is the first that has a quota.
pub record IsFirstQuota (entries : List MasterEntry) (i : ℕ) : Type 0 where
  pub entry : MasterEntry
  pub is : slice_get entries i ≡ Some entry
  pub some : 0 < entry.quota
  pub before : AllByRecursion HasNoQuota (take i entries)

-- Block n of a chain is the one that has that entry.
pub record IsFirstQuotaBlock (chain : ChainState MasterEntry) (n : ℕ) : Type 0 where
  pub place : ℕ
  pub first : IsFirstQuota chain.entries place
  pub block : n ≡ get_or chain.blocks (place / 42) 0
