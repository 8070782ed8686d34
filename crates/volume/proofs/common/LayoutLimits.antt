-- What one layout has room for, the wider one has room for, too.
use Rattle.std.proofs.Common.{◌≡◌, ℕ, Bool, true, false, ◌<◌, ◌==◌, if◌then◌else◌, ◌^◌, sym, subst, arith}
use Rattle.spec_image.specs.Common.{SpecMasterEntry, master_word, IsMasterEntryOf, SpecPrime, IsPrime, date_limit}
use Rattle.spec_image.specs.Common.{quota_limit}
use Rattle.spec_image.proofs.Common.{quota_bound}

-- every layout spells a quota of 0, which means no limit
pub some_quota : (layout : ℕ) → 0 < quota_limit layout
some_quota layout = by (layout == 1)
  where
    by : (b : Bool) → 0 < (if b then 1 else 262144)
    by true = omega arith
    by false = omega arith

few_dates : (layout n : ℕ) → n < date_limit layout → n < date_limit 2
few_dates layout n = by (layout == 1)
  where
    by : (b : Bool) → n < (if b then 2 ^ 12 else 2 ^ 15) → n < 2 ^ 15
    by true below = omega arith
    by false below = below

pub wide_prime : (layout : ℕ) (p : SpecPrime) → IsPrime layout p → IsPrime 2 p
wide_prime layout p is = record {
  protection = is.protection;
  mode = is.mode;
  time = is.time;
  date = few_dates layout p.date is.date;
  few = is.few;
}

pub wide_entry : (layout : ℕ) (e : SpecMasterEntry) → IsMasterEntryOf layout e → IsMasterEntryOf 2 e
wide_entry layout e is = record {
  ppn = is.ppn;
  protection = is.protection;
  quota = is.quota;
  protection_fits = is.protection_fits;
  quota_fits = quota_bound layout is.quota is.quota_fits;
  word = is.word;
}

-- the quota in the word of an entry is the entry's
pub entry_quota : (layout ppn protection quota first : ℕ) → quota < 262144
    → IsMasterEntryOf layout (ppn, (master_word protection quota, first)) → quota < quota_limit layout
entry_quota layout ppn protection quota first few is =
    let own = quota_bound layout is.quota is.quota_fits in
    let word = is.word in
    let same : quota ≡ is.quota = omega arith in
    subst (λ (n : ℕ). n < quota_limit layout) (sym same) is.quota_fits
