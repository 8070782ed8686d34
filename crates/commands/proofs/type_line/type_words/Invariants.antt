use Rattle.words36.specs.declared.moment.Moment.{Moment}
use Rattle.spec_language.specs.Common.{block_address}
use Rattle.commands.proofs.TypeLaws.{Fetched}
use Rattle.commands.proofs.type_line.type_words.Given as goal

abbrev pub invariant-loop-place : goal.invariant-loop-place
invariant-loop-place g l = (moment : Moment)
    → Fetched g.S.FileService.machine moment block_address l.fn.count l.fn.service l.service l.place l.fn.typed l.typed
