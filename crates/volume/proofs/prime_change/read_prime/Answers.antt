use Rattle.std.proofs.Common.{List, ℕ, refl, sym, subst, ◌∙◌}
use Rattle.spec_image.proofs.Common.{some_same}
use Rattle.volume.specs.Common.{IsFilePrime}
use Rattle.volume.proofs.prime_change.read_prime.Goals as goal

pub returns-then-not-is_file_prime-clause-broken : goal.returns-then-not-is_file_prime-clause-broken
returns-then-not-is_file_prime-clause-broken g c h failed v words here read prime =
    c.if-not-is_file_prime.ensures.no refl v here
    (subst (λ (w : List ℕ). IsFilePrime w c.args.ppn c.args.name.now v)
    (some_same (sym read ∙ c.in-Ok.ensures.words h)) prime)
