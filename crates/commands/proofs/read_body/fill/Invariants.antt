use Rattle.spec_language.specs.Common.{block_address}
use Rattle.commands.proofs.BodyLaws.{Fills}
use Rattle.commands.proofs.read_body.fill.Given as goal

abbrev pub invariant-loop-place : goal.invariant-loop-place
invariant-loop-place g l = Fills g.S.FileService.machine block_address 128 l.fn.word l.fn.service l.service l.place
