use Rattle.std.proofs.Common.{◌<◌, ◌*◌, ◌^◌, refl, subst}
use Rattle.directory.proofs.GrownLists.{grown_within}
use Rattle.directory.proofs.prealloc.make_place.Goals as goal

pub returns-then-not-is_full-clause-places : goal.returns-then-not-is_full-clause-places
returns-then-not-is_full-clause-places g c =
    let (k, low, high) = c.if-not-is_full.ensures.no refl in
    grown_within c.args.list.now.len k c.args.list.now.cap (subst (λ n. 2 ^ k < n) c.len.ensures low)
    (subst (λ n. n < 2 * 2 ^ k) c.len.ensures high) c.requires.places
