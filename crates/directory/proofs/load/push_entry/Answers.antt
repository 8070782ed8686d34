use Rattle.std.proofs.Common.{subst, ◌∙◌}
use Rattle.spec_image.specs.Common.{InSpace}
use Rattle.directory.proofs.AddedEntries.{good_push}
use Rattle.directory.proofs.load.push_entry.Goals as goal

pub returns-in-Ok-push-clause-good : goal.returns-in-Ok-push-clause-good
returns-in-Ok-push-clause-good g c =
    good_push g.met.E.ChainEntry.total g.E.ChainEntry.view g.E.ChainEntry.IsEntry g.E.ChainEntry.target c.args.size
    c.args.entries.now
    c.push.new.self c.in-Ok.entry c.in-Ok-push.ensures.more c.requires.good c.in-Ok.ensures.good
    (subst (InSpace c.args.size) (c.from.ensures
    ∙ c.target.ensures) (c.is_in_space.ensures.0 c.if-not-is_in_space.false)) c.in-Ok-push.ensures.absent
