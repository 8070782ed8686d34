use Rattle.std.proofs.Common.{◌≡◌, Some, rules, ap, ◌∙◌}
use Rattle.volume.specs.Common.{begun, slot, pending_at}
use Rattle.retrieval.specs.Common.{VersionState}
use Rattle.test_versions.proofs.Placed.{written}
use Rattle.test_versions.proofs.publish_tests.write.Goals as goal

pub returns-clause-placed : goal.returns-clause-placed
returns-clause-placed g c p is =
    let begins = c.in-Ok.ensures.begun in
    let put : (v : VersionState) × (pending_at c.put_words.new.self.map.pending c.in-Ok.pending.key
    ≡ Some (record (begun c.args.kind c.prime_of-prime.result begins.old) { version = v })) = search rules in
    written c.args.volume.now.map c.begin.new.self.map c.put_words.new.self.map c.in-Ok.pending.key c.args.kind
    c.prime_of-prime.result begins put.0 p c.prime_of-prime.ensures c.put_words.ensures.known put.1 is

pub returns-clause-readers : goal.returns-clause-readers
returns-clause-readers g c pin live =
    (live.0, ap (λ l. slot l pin.key) (c.put_words.ensures.live ∙ c.in-Ok.ensures.begun.live) ∙ live.1, live.2)
