use Rattle.commands.proofs.SessionLaws.{as_session}
use Rattle.commands.proofs.run.run_session.Goals as goal

pub returns : goal.returns
returns g c = as_session g.S.FileService.machine _ _ _ _ _ _ c.args.moment c.serve_lines.result c.serve_lines.ensures
