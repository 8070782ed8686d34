use Rattle.std.proofs.Common.{[], option_to_list, subst, arith}
use Rattle.monitor.specs.Common.{Closes, keys_of, pins_of}
use Rattle.monitor.proofs.common.Dropped.{closes_on}
use Rattle.monitor.proofs.close_job.close_sides.Goals as goal

pub returns-clause-closed : goal.returns-clause-closed
returns-clause-closed g c =
    closes_on c.args.volume.now.map c.drop_output.new.volume.map c.release_input.new.volume.map _ _ _ _ _ _
    (subst (λ o. Closes c.args.volume.now.map c.drop_output.new.volume.map (keys_of (option_to_list o)) [])
    c.side_of.ensures c.drop_output.ensures.closed)
    (subst (λ o. Closes c.drop_output.new.volume.map c.release_input.new.volume.map [] (pins_of (option_to_list o)))
    c.reader_of.ensures c.release_input.ensures.closed)
    (λ key. omega arith) (λ key. omega arith)
