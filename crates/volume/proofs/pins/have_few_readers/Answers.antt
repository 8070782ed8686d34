use Rattle.std.proofs.Common.{sym, subst, ◌∙◌}
use Rattle.volume.proofs.PinVersion.CountedReaders.{HaveFew, few_of_entries, entries_of_few}
use Rattle.volume.proofs.pins.have_few_readers.Goals as goal

pub loop-version-init : goal.loop-version-init
loop-version-init c =
    let all = c.into_iter-version-iterator.ensures.into_iter_gives ∙ c.iter-version-items.ensures.rest in (
      tt,
      tt,
      λ few. few_of_entries 0 c.args.versions.now.slots (subst HaveFew all few),
      λ few. subst HaveFew (sym all) (entries_of_few 0 c.args.versions.now.slots few),
    )
