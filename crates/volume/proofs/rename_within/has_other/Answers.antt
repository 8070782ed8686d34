use Rattle.std.proofs.Common.{inr, sym, ◌∙◌}
use Rattle.volume.proofs.PublishVersion.StepPremises.{directory_read}
use Rattle.volume.proofs.RenameWithin.Renamings.{name_free, name_taken, names_differ}
use Rattle.volume.proofs.rename_within.has_other.Goals as goal

pub returns-clause-no : goal.returns-clause-no
returns-clause-no c none d there =
    let m = c.args.map.now in
    let place = c.place_of-place.result in
    let stands = c.place_of-place.ensures in
    let at = directory_read m c.requires.whole stands.1 _ c.index.ensures in
    inr (name_free m c.requires.whole c.args.ppn place stands.0 stands.1 c.index.result.now at c.args.to.now
    c.find.result (sym c.is_some.ensures ∙ none) c.find.ensures.none d there)

pub returns-clause-yes : goal.returns-clause-yes
returns-clause-yes c some =
    let m = c.args.map.now in
    let place = c.place_of-place.result in
    let stands = c.place_of-place.ensures in
    let at = directory_read m c.requires.whole stands.1 _ c.index.ensures in (
      names_differ c.args.to.now c.args.name.now c.if-eq.ensures,
      name_taken m c.requires.whole c.args.ppn place stands.0 stands.1 c.index.result.now at c.args.to.now c.find.result
          (sym c.is_some.ensures ∙ some) c.find.ensures.found,
    )
