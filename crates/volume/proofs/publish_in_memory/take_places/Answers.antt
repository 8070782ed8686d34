use Rattle.std.proofs.Common.{option_to_list}
use Rattle.volume.proofs.PublishVersion.UsedVersions.{booked_after, takes_places}
use Rattle.volume.proofs.publish_in_memory.take_places.Goals as goal

pub take_retrieval_blocks-at-requires-clause-booked : goal.take_retrieval_blocks-at-requires-clause-booked
take_retrieval_blocks-at-requires-clause-booked c =
    booked_after c.args.table.now c.take_for_chain-grown.new.table (option_to_list c.take_for_chain-grown.result) _ _
    c.requires.sound c.requires.fixed c.take_for_chain-grown.ensures.taken c.take_for_chain-grown.ensures.count
    c.requires.used

pub returns-clause-taken : goal.returns-clause-taken
returns-clause-taken c =
    takes_places c.args.table.now c.take_for_chain-grown.new.table c.take_retrieval_blocks-at.new.table
    (option_to_list c.take_for_chain-grown.result) c.take_retrieval_blocks-at.result
    c.take_retrieval_blocks-at.new.version.ribs c.requires.sound c.requires.fixed
    c.take_for_chain-grown.ensures.taken c.take_retrieval_blocks-at.ensures.taken
