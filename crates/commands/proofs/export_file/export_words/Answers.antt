use Rattle.commands.proofs.export_file.export_words.Goals as goal

pub returns-in-Some-clause-exported : goal.returns-in-Some-clause-exported
returns-in-Some-clause-exported c = rw c.in-Some.is (c.export_as.ensures c.args.mode)
