use Rattle.std.proofs.Common.{◌≡◌, ◌∙◌, ◌+◌, ◌-◌, ap, None, Contains, nat_eq, ⊎_elim, subst, sym, refl, arith}
use Rattle.std.proofs.lemmas.Bool.{cases_eq}
use Rattle.std.specs.Map.{lookup}
use Rattle.lru.proofs.CallerLemmas.{Contains-remove_entry}
use Rattle.blockcache.specs.Cache.{CachedBlocks, without, without_run}
use Rattle.blockcache.proofs.CachedContents.{none_without, run_more}
use Rattle.blockcache.proofs.cache.Cached.forget_run.Goals as goal

pub loop-number-init : goal.loop-number-init
loop-number-init g c = record {
  none = λ n from below. absurd (omega (arith, from, below));
  no_others = λ e is. is;
  forgotten =
      let none : 0 ≡ c.args.first - c.args.first = omega arith in
      ap (λ k. without_run c.args.first k c.args.self.now.cache) none;
  inner = refl;
}

pub loop-number-preserved : goal.loop-number-preserved
loop-number-preserved g c =
    let number = c.loop-number.number in
    let before = c.loop-number.self.cache.entries in
    let gone = c.forget.ensures.forgotten in
    record {
      none = λ n from below. ⊎_elim
          (λ here. subst (λ k. lookup (nat_eq k) c.forget.new.self.cache.entries ≡ None) (sym here)
          c.forget.ensures.none)
          (λ other. subst (λ (kept : CachedBlocks). lookup (nat_eq n) kept.entries ≡ None) (sym gone)
          (none_without n number before
          (c.loop-number.invariant.none n from (omega (arith, below, other)))))
          (cases_eq n number);
      no_others = λ e is. c.loop-number.invariant.no_others e (Contains-remove_entry (nat_eq number) before e
          (subst (λ (kept : CachedBlocks). Contains kept.entries e) gone is));
      forgotten =
          let here : number ≡ c.args.first + (number - c.args.first) = omega arith in
          let more : number - c.args.first + 1 ≡ number + 1 - c.args.first = omega arith in
          gone ∙ ap (without number) c.loop-number.invariant.forgotten
          ∙ ap (λ k. without k (without_run c.args.first (number - c.args.first) c.args.self.now.cache)) here
          ∙ run_more c.args.first (number - c.args.first) (number + 1 - c.args.first) c.args.self.now.cache more;
      inner = c.forget.ensures.inner ∙ c.loop-number.invariant.inner;
    }

pub returns-clause-none : goal.returns-clause-none
returns-clause-none g c n within =
    let ended = c.loop-number-test.false in
    c.loop-number.invariant.none n within.0 (omega (arith, within.1, ended))

pub returns-clause-forgotten : goal.returns-clause-forgotten
returns-clause-forgotten g c =
    let all : c.loop-number.number - c.args.first ≡ c.args.count = omega arith in
    c.loop-number.invariant.forgotten ∙ ap (λ k. without_run c.args.first k c.args.self.now.cache) all
