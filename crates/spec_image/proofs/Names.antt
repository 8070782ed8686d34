-- The order of file names is total, and distinguishes different names.
use Rattle.std.proofs.Common.{◌≡◌, refl, Less, Equal, Greater, Ordering, nat_cmp}
use Rattle.std.specs.Ordering.{ordering_then}
use Rattle.std.specs.Cmp.{IsTotalOrder, nat_cmp_total, on_total, then_total}
use Rattle.std.specs.FinMap.{IsAntisymmetric, nat_cmp-IsAntisymmetric}
use Rattle.words36.specs.declared.names.FileName.{FileName}
use Rattle.spec_image.specs.Files.{name_cmp}

pub name_total : IsTotalOrder name_cmp
name_total = then_total (on_total (λ (k : FileName). k.name) nat_cmp_total)
    (on_total (λ (k : FileName). k.ext) nat_cmp_total)

pub name_exact : IsAntisymmetric name_cmp
name_exact a b e = split (nat_cmp a.name b.name) refl e
  where
    split : (r : Ordering) → nat_cmp a.name b.name ≡ r → ordering_then r (nat_cmp a.ext b.ext) ≡ Equal → a ≡ b
    split Less p h = cc
    split Equal p h =
        let names = nat_cmp-IsAntisymmetric a.name b.name p in
        let exts = nat_cmp-IsAntisymmetric a.ext b.ext h in
        λ i. record { name = names i; ext = exts i }
    split Greater p h = cc
