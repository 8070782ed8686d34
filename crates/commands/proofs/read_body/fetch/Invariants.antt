use Rattle.std.proofs.Common.{◌≡◌, take, length}
use Rattle.spec_language.specs.Common.{block_address}
use Rattle.commands.proofs.BodyLaws.{Fetches}
use Rattle.commands.proofs.read_body.fetch.Given as goal

abbrev pub invariant-loop-place : goal.invariant-loop-place
invariant-loop-place g l = (length l.block ≡ 128)
    × Fetches g.S.FileService.machine block_address l.fn.count l.fn.service l.service l.place (take l.place l.block)
