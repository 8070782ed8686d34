use Rattle.std.proofs.Common.{◌≡◌, refl, sym, [], ◌∷◌, ◌++◌, ◌+◌, map, length, ap, ◌∙◌, rules}
use Rattle.std.proofs.lemmas.Iterator.{YieldsList-from_slice, YieldsList-from_zip}
use Rattle.std.proofs.lemmas.Iterator.Adapters.{YieldsList-from_vec}
use Rattle.std.proofs.lemmas.Iterator.Consumers.{YieldsList-turn, YieldsList-end}
use Rattle.std.proofs.lemmas.List.{length_push}
use Rattle.volume.specs.Common.{file_view, known_version, reaches_in_entries, IsCurrent, current_reaches}
use Rattle.spec_image.specs.Common.{total}
use Rattle.volume.proofs.common.VersionKeys.{zip_at, zip_all, zip_same, next_keyed, next_known, next_current, next_read}
use Rattle.volume.proofs.common.VersionKeys.{put_stay, first_read}
use Rattle.volume.proofs.live.into_live_versions.Goals as goal

pub loop-entry-preserved : goal.loop-entry-preserved
loop-entry-preserved c =
    let entries = c.args.entries.now in
    let stored = c.args.stored.items in
    let i = length c.loop-entry.yielded in
    let e = c.in-Some.entry.now in
    let s = c.in-Some.version in
    let turn = YieldsList-turn (YieldsList-from_zip (YieldsList-from_slice entries cc)
    (YieldsList-from_vec stored (cc) (cc))) c.loop-entry.yielded _ c.loop-entry.yielded_by _ c.next.new.self
    (c.in-Some.entry, s) c.in-Some.is c.next.ensures.steps in
    let at = zip_at entries stored i e s turn.0 turn.1 in
    let more = length_push c.loop-entry.yielded (c.in-Some.entry, s) in
    let old = c.loop-entry.versions in
    let new = c.into_live_version.new.versions in
    let key = c.in_ok-key.key in
    let kept = c.in_ok-key.ensures in
    let so_far = c.loop-entry.invariant in
    let pushed : c.push.new.self.items ≡ c.loop-entry.keys.items ++ key ∷ [] = search rules in
    record {
      stay = λ k v was. put_stay old new key (first_read e s) kept.vacant kept.kept k v (so_far.stay k v was);
      read = next_read entries stored i _ e s more at old new _ _ key pushed kept.vacant kept.kept so_far.keyed
          c.requires.whole so_far.read;
      keyed = next_keyed entries stored i _ e s more at old new _ _ key pushed kept.vacant kept.kept so_far.keyed;
      known = next_known entries stored i _ e s more at old new _ _ key pushed kept.vacant kept.kept so_far.keyed
          so_far.known;
      current = λ m. next_current entries stored i _ e s more at old new _ _ key pushed kept.vacant kept.kept
          so_far.keyed m _ (so_far.current m);
    }

pub returns-clause-keyed : goal.returns-clause-keyed
returns-clause-keyed c =
    let entries = c.args.entries.now in
    let stored = c.args.stored.items in
    let end = YieldsList-end (YieldsList-from_zip (YieldsList-from_slice entries cc)
    (YieldsList-from_vec stored (cc) (cc))) c.loop-entry.yielded _ c.loop-entry.yielded_by _ c.next.new.self
    c.in-None.is c.next.ensures.steps in
    let all = zip_all entries stored (length c.loop-entry.yielded) end.1 c.requires.aligned in
    zip_same (λ e key. IsCurrent c.loop-entry.versions.slots key e.1) _ _ _ _
    (ap (map file_view) all.0) refl c.loop-entry.invariant.keyed

pub returns-clause-known : goal.returns-clause-known
returns-clause-known c =
    let entries = c.args.entries.now in
    let stored = c.args.stored.items in
    let end = YieldsList-end (YieldsList-from_zip (YieldsList-from_slice entries cc)
    (YieldsList-from_vec stored (cc) (cc))) c.loop-entry.yielded _ c.loop-entry.yielded_by _ c.next.new.self
    c.in-None.is c.next.ensures.steps in
    let all = zip_all entries stored (length c.loop-entry.yielded) end.1 c.requires.aligned in
    c.loop-entry.invariant.known ∙ ap (map known_version) (sym all.1)

pub returns-clause-current : goal.returns-clause-current
returns-clause-current c m =
    let entries = c.args.entries.now in
    let stored = c.args.stored.items in
    let end = YieldsList-end (YieldsList-from_zip (YieldsList-from_slice entries cc)
    (YieldsList-from_vec stored (cc) (cc))) c.loop-entry.yielded _ c.loop-entry.yielded_by _ c.next.new.self
    c.in-None.is c.next.ensures.steps in
    let all = zip_all entries stored (length c.loop-entry.yielded) end.1 c.requires.aligned in
    c.loop-entry.invariant.current m ∙ (λ i. total (current_reaches m) c.args.versions.now.slots
    + reaches_in_entries m (map file_view (sym all.0 i)) (map known_version (sym all.1 i)))
