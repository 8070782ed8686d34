use Rattle.retrieval.proofs.RibCounts.{ribs_few}
use Rattle.test_retrieval.proofs.write_tests.runs_ask_for_less.Goals as goal

pub returns : goal.returns
returns c = ribs_few c.args._version.now.blocks
