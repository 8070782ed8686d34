use Rattle.std.proofs.Common.{◌≡◌, ◌-◌, ◌<◌, ◌≤◌, ℕ, List, None, Contains, nat_eq}
use Rattle.std.specs.Map.{lookup}
use Rattle.blockcache.specs.Cache.{without_run}
use Rattle.blockcache.proofs.cache.Cached.forget_run.Given as goal

abbrev pub invariant-loop-number : goal.invariant-loop-number
invariant-loop-number g l = record {
  none : (n : ℕ) → l.first ≤ n → n < l.number → lookup (nat_eq n) l.self.cache.entries ≡ None;
  no_others : (e : ℕ × List ℕ) → Contains l.self.cache.entries e → Contains l.fn.self.cache.entries e;
  forgotten : l.self.cache ≡ without_run l.first (l.number - l.first) l.fn.self.cache;
  inner : l.self.inner ≡ l.fn.self.inner;
}
