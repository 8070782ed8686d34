use Rattle.std.proofs.Common.{◌≡◌, [], ◌∷◌, ◌++◌, length, sym, ◌∙◌, IfSome, rules}
use Rattle.std.proofs.lemmas.Iterator.Adapters.{YieldsList-from_vec}
use Rattle.std.proofs.lemmas.Iterator.Consumers.{YieldsList-turn}
use Rattle.std.proofs.lemmas.List.{length_push, length-map}
use Rattle.volume.specs.Common.{file_view, known_version, known_directory, IsWholeDirectory, IsFirstRead}
use Rattle.volume.proofs.common.Lookups.{viewed_at}
use Rattle.volume.proofs.common.VersionKeys.{next_directory_keyed, next_directory_known, next_directory_current}
use Rattle.volume.proofs.common.VersionKeys.{all_slots}
use Rattle.volume.proofs.live.keep.Goals as goal

pub into_live_directory-requires-clause-aligned : goal.into_live_directory-requires-clause-aligned
into_live_directory-requires-clause-aligned c =
    let stored = c.args.map.directories.items in
    let d = c.in-Some.directory in
    let gives = c.into_iter-directory-iterator.ensures.into_iter_gives in
    let turn = YieldsList-turn (YieldsList-from_vec stored gives.0 (gives.1 ∙ c.args.map.directories.ok.0))
    c.loop-directory.yielded _ c.loop-directory.yielded_by _ c.next.new.self d c.in-Some.is c.next.ensures.steps in
    let whole = viewed_at known_directory stored (length c.loop-directory.yielded) d turn.0 turn.1
    (IsWholeDirectory c.requires.whole.0) c.requires.whole.1.each in
    sym (length-map d.versions.items known_version) ∙ whole.aligned ∙ length-map d.chain.entries file_view

pub into_live_directory-requires-clause-whole : goal.into_live_directory-requires-clause-whole
into_live_directory-requires-clause-whole c =
    let stored = c.args.map.directories.items in
    let d = c.in-Some.directory in
    let gives = c.into_iter-directory-iterator.ensures.into_iter_gives in
    let turn = YieldsList-turn (YieldsList-from_vec stored gives.0 (gives.1 ∙ c.args.map.directories.ok.0))
    c.loop-directory.yielded _ c.loop-directory.yielded_by _ c.next.new.self d c.in-Some.is c.next.ensures.steps in
    (viewed_at known_directory stored (length c.loop-directory.yielded) d turn.0 turn.1
    (IsWholeDirectory c.requires.whole.0) c.requires.whole.1.each).versions

pub loop-directory-preserved : goal.loop-directory-preserved
loop-directory-preserved c =
    let stored = c.args.map.directories.items in
    let i = length c.loop-directory.yielded in
    let d = c.in-Some.directory in
    let gives = c.into_iter-directory-iterator.ensures.into_iter_gives in
    let turn = YieldsList-turn (YieldsList-from_vec stored gives.0 (gives.1 ∙ c.args.map.directories.ok.0))
    c.loop-directory.yielded _ c.loop-directory.yielded_by _ c.next.new.self d c.in-Some.is c.next.ensures.steps in
    let more = length_push c.loop-directory.yielded d in
    let l = c.in_ok-live.live in
    let so_far = c.loop-directory.invariant in
    let kept = c.in_ok-live.ensures in
    let pushed : c.push.new.self.items ≡ c.loop-directory.directories.items ++ l ∷ [] = search rules in
    record {
      read = kept.read;
      keyed = next_directory_keyed stored i _ d more turn.0 turn.1 _ _ kept.stay _ _ l pushed so_far.keyed kept.keyed;
      known = next_directory_known stored i _ d more turn.0 turn.1 _ _ kept.stay _ _ l pushed so_far.keyed
          kept.known so_far.known;
      current = λ n. next_directory_current stored i _ d more turn.0 turn.1 _ _ kept.stay _ _ l pushed
          so_far.keyed n kept.known so_far.known (so_far.current n) (kept.current n);
    }

pub returns-clause-read : goal.returns-clause-read
returns-clause-read c = all_slots (λ o. IfSome o IsFirstRead) _ c.loop-directory.invariant.read
