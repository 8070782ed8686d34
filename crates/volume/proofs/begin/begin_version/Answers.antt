use Rattle.std.proofs.Common.{sym, ◌∙◌}
use Rattle.volume.specs.Common.{version_before}
use Rattle.volume.proofs.BeginVersion.Beginnings.{begun_bare}
use Rattle.volume.proofs.begin.begin_version.Goals as goal

pub returns : goal.returns
returns c =
    (λ i. record { prime = c.args.prime; version = c.new.ensures i; kind = c.args.kind; kept_blocks = 0 })
    ∙ begun_bare c.args.kind c.args.prime (version_before c.args.versions.now.slots c.args.before)
    (sym c.is_update.ensures ∙ c.if-is_update.false)
