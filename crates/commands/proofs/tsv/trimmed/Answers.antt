use Rattle.commands.proofs.TableLaws.{trimmed_is}
use Rattle.commands.proofs.tsv.trimmed.Goals as goal

pub returns : goal.returns
returns c = trimmed_is c.args.text.now c.trim_ascii_end.result.now c.requires c.trim_ascii_end.ensures.value
