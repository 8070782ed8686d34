use Rattle.std.proofs.Common.{◌≡◌, ◌∙◌}
use Rattle.words36.specs.Common.{number_at}
use Rattle.words36.proofs.BlockLaws.{number_at-group}
use Rattle.commands.proofs.input_words.word_at.Goals as goal

read : (c : goal.After-new) → c.from_be_bytes.result ≡ number_at c.args.bytes.now c.args.place
read c = c.from_be_bytes.ensures ∙ number_at-group c.args.bytes.now _ c.args.place c.copy_from_slice.ensures.after

pub returns-clause-value : goal.returns-clause-value
returns-clause-value c = rw (← read c) c.new.ensures.value

pub returns-clause-fits : goal.returns-clause-fits
returns-clause-fits c = rw (← read c) c.new.ensures.fits
