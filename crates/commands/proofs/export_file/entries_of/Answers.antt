use Rattle.spec_language.specs.Common.{refuses}
use Rattle.commands.proofs.ExportLaws.{entries_are, no_entries}
use Rattle.commands.proofs.export_file.entries_of.Goals as goal

pub returns-in-Done : goal.returns-in-Done
returns-in-Done g c = entries_are g.S.FileService.machine g.met.S.FileService.stands (λ v. v.items) _ _ _
    c.args.moment c.operator.result c.args.owner c.operator.ensures c.event-reply.result c.list.result c.in-Done.is
    c.event-reply.ensures c.list.ensures

pub returns-in_default : goal.returns-in_default
returns-in_default g c = no_entries g.S.FileService.machine g.met.S.FileService.stands (λ v. v.items) _ _ _
    c.args.moment c.operator.result c.args.owner c.operator.ensures c.event-reply.result c.in_default.not-Done
    c.event-reply.ensures (c.reset.ensures (refuses c.event-reply.result))
