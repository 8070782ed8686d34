use Rattle.std.proofs.Common.{◌≡◌, ◌+◌, ◌≤◌, ◌++◌, ◌∷◌, [], ℕ, List, true, map, slice_get, slice_set, option_to_list}
use Rattle.std.proofs.Common.{Some, None, IfSome, IfNone, IsSome, refl, sym, ap, subst, ◌∙◌, arith}
use Rattle.std.specs.FinMap.Entries.{find}
use Rattle.spec_image.specs.Common.{name_cmp, insert, from_entries, times}
use Rattle.directory.specs.Common.{StandsAt, IsReserve, inserted, viewed}
use Rattle.volume.specs.Common.{file_view, memory_of, live_directory, blocks_reached, PutsInUse, MakesCurrent}
use Rattle.volume.specs.declared.live.LiveVersion.{LiveVersion}
use Rattle.volume.specs.declared.pending.PendingVersion.{PendingVersion}
use Rattle.volume.proofs.PublishVersion.StepPremises.{vacant_stays, directory_there, directory_read, known_place}
use Rattle.volume.proofs.PublishVersion.StepPremises.{keys_place, is_directory, as_many_keys, within_space}
use Rattle.volume.proofs.PublishVersion.StepPremises.{blocks_booked, grown_free, may_retire, used_sound, used_held}
use Rattle.volume.proofs.PublishVersion.StepPremises.{used_clear, changed_many, new_stands, chain_grown}
use Rattle.volume.proofs.PublishVersion.CurrentVersion.{made_current_by}
use Rattle.std.specs.Vec.{with_item}
use Rattle.alloctab.specs.Common.{bit, holds}
use Rattle.retrieval.specs.Common.{ribs_of, VersionState}
use Rattle.retrieval.proofs.RibCounts.{ribs_few}
use Rattle.volume.specs.declared.live.LiveMap.{LiveMap}
use Rattle.spec_image.proofs.Common.{some_same}
use Rattle.volume.proofs.PublishVersion.Preallocs.{is_there}
use Rattle.volume.proofs.publish_in_memory.make_current.Goals as goal

pub place_of-place-requires : goal.place_of-place-requires
place_of-place-requires c =
    let was = sym c.try_remove.ensures.value ∙ c.in-Some.is in
    is_there (memory_of c.args.memory.now) c.in-Some.field-0 (c.requires.placed c.in-Some.field-0 was)

pub take_places-at-requires-clause-used : goal.take_places-at-requires-clause-used
take_places-at-requires-clause-used c =
    let m = c.args.memory.now in
    let p = c.in-Some.field-0 in
    let was = sym c.try_remove.ensures.value ∙ c.in-Some.is in
    let place = c.place_of-place.result in
    let stands = c.place_of-place.ensures in
    let d = directory_there m c.requires.whole p.prime.ppn place stands.0 stands.1 in
    blocks_booked m c.requires.whole c.args.key was (c.requires.placed p was) stands.1 d.1 c.takes_block-grows.result
    (ribs_of p.version.blocks) (c.takes_block-grows.ensures d.0 d.1) (ribs_few p.version.blocks)

pub take_places-at-requires-clause-enough : goal.take_places-at-requires-clause-enough
take_places-at-requires-clause-enough c =
    let p = c.in-Some.field-0 in
    let was = sym c.try_remove.ensures.value ∙ c.in-Some.is in
    let few = ribs_few p.version.blocks in
    let all = c.requires.ribs p was in
    omega arith

pub take_places-at-requires-clause-room : goal.take_places-at-requires-clause-room
take_places-at-requires-clause-room c =
    let m = c.args.memory.now in
    let p = c.in-Some.field-0 in
    let was = sym c.try_remove.ensures.value ∙ c.in-Some.is in
    let place = c.place_of-place.result in
    let stands = c.place_of-place.ensures in
    let d = directory_there m c.requires.whole p.prime.ppn place stands.0 stands.1 in
    within_space m c.requires.whole c.args.key was (c.requires.placed p was) stands.1 d.1

pub file_entry-entry-requires : goal.file_entry-entry-requires
file_entry-entry-requires c =
    let was = sym c.try_remove.ensures.value ∙ c.in-Some.is in
    (c.requires.placed c.in-Some.field-0 was).named

pub put_entry-old-requires-clause-reserve : goal.put_entry-old-requires-clause-reserve
put_entry-old-requires-clause-reserve c =
    let m = c.args.memory.now in
    let p = c.in-Some.field-0 in
    let was = sym c.try_remove.ensures.value ∙ c.in-Some.is in
    let stands = c.place_of-place.ensures in
    let d = c.index_mut.result.now in
    let at = directory_read m c.requires.whole stands.1 _ c.index_mut.ensures.value in
    subst (λ name. IsReserve name_cmp (viewed file_view d.chain) name c.args.supplies.reserve)
    (sym c.file_entry-entry.ensures.name)
    ((c.requires.supplied p was).fits (live_directory m.versions.slots d)
    (is_directory m c.requires.whole c.args.key was (c.requires.placed p was) stands.1 at))

pub put_entry-old-requires-clause-keys : goal.put_entry-old-requires-clause-keys
put_entry-old-requires-clause-keys c absent =
    let m = c.args.memory.now in
    let p = c.in-Some.field-0 in
    let was = sym c.try_remove.ensures.value ∙ c.in-Some.is in
    let place = c.place_of-place.result in
    let stands = c.place_of-place.ensures in
    let d = c.index_mut.result.now in
    let at = directory_read m c.requires.whole stands.1 _ c.index_mut.ensures.value in
    (c.requires.supplied p was).roomy place stands.0 (live_directory m.versions.slots d) d.keys.items stands.1
    (known_place m c.requires.whole c.args.key was (c.requires.placed p was) stands.1 at)
    (keys_place m c.requires.whole c.args.key was (c.requires.placed p was) stands.1 at)
    (subst (λ name. find name_cmp name (map file_view d.chain.entries) ≡ None) c.file_entry-entry.ensures.name absent)

pub put_entry-old-requires-clause-aligned : goal.put_entry-old-requires-clause-aligned
put_entry-old-requires-clause-aligned c =
    let m = c.args.memory.now in
    let p = c.in-Some.field-0 in
    let was = sym c.try_remove.ensures.value ∙ c.in-Some.is in
    let stands = c.place_of-place.ensures in
    let at = directory_read m c.requires.whole stands.1 _ c.index_mut.ensures.value in
    as_many_keys m c.requires.whole c.args.key was (c.requires.placed p was) stands.1 at

pub put_entry-old-requires-clause-grown : goal.put_entry-old-requires-clause-grown
put_entry-old-requires-clause-grown c =
    let m = c.args.memory.now in
    let p = c.in-Some.field-0 in
    let was = sym c.try_remove.ensures.value ∙ c.in-Some.is in
    let placed = c.requires.placed p was in
    let stands = c.place_of-place.ensures in
    let d = c.index_mut.result.now in
    let at = directory_read m c.requires.whole stands.1 _ c.index_mut.ensures.value in
    grown_free m c.requires.whole c.args.key was placed stands.1 at c.takes_block-grows.result
    c.take_places-at.result.grown c.file_entry-entry.result.name c.take_places-at.new.table c.take_places-at.result.at
    c.take_places-at.new.version.ribs
    c.file_entry-entry.ensures.name (c.takes_block-grows.ensures d at) c.take_places-at.ensures.grown
    c.take_places-at.ensures.taken

pub retire_before-requires-clause-may : goal.retire_before-requires-clause-may
retire_before-requires-clause-may c =
    let m = c.args.memory.now in
    let p = c.in-Some.field-0 in
    let was = sym c.try_remove.ensures.value ∙ c.in-Some.is in
    let placed = c.requires.placed p was in
    let stands = c.place_of-place.ensures in
    let put = c.insert_reserved-current.ensures in
    let at = directory_read m c.requires.whole stands.1 _ c.index_mut.ensures.value in
    may_retire m c.requires.whole c.args.key was placed stands.1 at c.put_entry-old.result
    c.file_entry-entry.ensures.name
    (λ keys i. c.put_entry-old.new.directory.keys.items ≡ slice_set keys i c.insert_reserved-current.result)
    c.put_entry-old.ensures.replaced c.insert_reserved-current.new.self.slots
    (vacant_stays m.versions.slots _ _ put.was_vacant put.updates.others) c.take_places-at.ensures.taken

pub use_current-requires-clause-sound : goal.use_current-requires-clause-sound
use_current-requires-clause-sound c =
    let m = c.args.memory.now in
    let p = c.in-Some.field-0 in
    let was = sym c.try_remove.ensures.value ∙ c.in-Some.is in
    let placed = c.requires.placed p was in
    let stands = c.place_of-place.ensures in
    let put = c.insert_reserved-current.ensures in
    let at = directory_read m c.requires.whole stands.1 _ c.index_mut.ensures.value in
    used_sound m c.requires.whole c.args.key was placed stands.1 at c.put_entry-old.result
    c.file_entry-entry.ensures.name
    (λ keys i. c.put_entry-old.new.directory.keys.items ≡ slice_set keys i c.insert_reserved-current.result)
    c.put_entry-old.ensures.replaced c.insert_reserved-current.new.self.slots
    (vacant_stays m.versions.slots _ _ put.was_vacant put.updates.others) c.take_places-at.ensures.taken
    c.retire_before.new.table c.retire_before.ensures.retired (λ none. (c.retire_before.ensures.none none).1)

pub use_current-requires-clause-there : goal.use_current-requires-clause-there
use_current-requires-clause-there c =
    let m = c.args.memory.now in
    let p = c.in-Some.field-0 in
    let was = sym c.try_remove.ensures.value ∙ c.in-Some.is in
    let placed = c.requires.placed p was in
    let stands = c.place_of-place.ensures in
    let at = directory_read m c.requires.whole stands.1 _ c.index_mut.ensures.value in
    let new : LiveVersion = record {
      prime = p.prime;
      version = c.take_places-at.new.version;
      at = c.take_places-at.result.at;
      readers = 0;
      is_current = true;
    } in
    let put = c.insert_reserved-current.ensures in
    let here = new_stands m c.requires.whole c.args.key was placed stands.1 at c.put_entry-old.result
    c.file_entry-entry.ensures.name
    (λ keys i. c.put_entry-old.new.directory.keys.items ≡ slice_set keys i c.insert_reserved-current.result)
    c.put_entry-old.ensures.replaced c.insert_reserved-current.new.self.slots
    (vacant_stays m.versions.slots _ _ put.was_vacant put.updates.others) c.take_places-at.ensures.taken
    c.retire_before.new.versions.slots c.insert_reserved-current.result new put.was_vacant put.updates.changed
    c.retire_before.ensures.others (λ none. ap (λ s. s.slots) (c.retire_before.ensures.none none).0) in
    subst IsSome (sym here) refl

pub use_current-requires-clause-held : goal.use_current-requires-clause-held
use_current-requires-clause-held c v there n =
    let m = c.args.memory.now in
    let p = c.in-Some.field-0 in
    let was = sym c.try_remove.ensures.value ∙ c.in-Some.is in
    let placed = c.requires.placed p was in
    let stands = c.place_of-place.ensures in
    let at = directory_read m c.requires.whole stands.1 _ c.index_mut.ensures.value in
    let new : LiveVersion = record {
      prime = p.prime;
      version = c.take_places-at.new.version;
      at = c.take_places-at.result.at;
      readers = 0;
      is_current = true;
    } in
    let put = c.insert_reserved-current.ensures in
    let here = new_stands m c.requires.whole c.args.key was placed stands.1 at c.put_entry-old.result
    c.file_entry-entry.ensures.name
    (λ keys i. c.put_entry-old.new.directory.keys.items ≡ slice_set keys i c.insert_reserved-current.result)
    c.put_entry-old.ensures.replaced c.insert_reserved-current.new.self.slots
    (vacant_stays m.versions.slots _ _ put.was_vacant put.updates.others) c.take_places-at.ensures.taken
    c.retire_before.new.versions.slots c.insert_reserved-current.result new put.was_vacant put.updates.changed
    c.retire_before.ensures.others (λ none. ap (λ s. s.slots) (c.retire_before.ensures.none none).0) in
    let version : c.take_places-at.new.version ≡ record p.version {
      ribs = c.take_places-at.new.version.ribs;
    } = c.take_places-at.ensures.kept in
    let grown = option_to_list c.take_places-at.result.grown in
    let t = c.retire_before.new.table in
    subst (λ (x : LiveVersion). times n (blocks_reached x.at x.version ++ grown) ≤ holds t n)
    (some_same (sym here ∙ there))
    (subst (λ (x : VersionState). times n (blocks_reached c.take_places-at.result.at x ++ grown) ≤ holds t n)
    (sym version)
    (used_held m c.requires.whole c.args.key was placed stands.1 at c.put_entry-old.result
    c.file_entry-entry.ensures.name
    (λ keys i. c.put_entry-old.new.directory.keys.items ≡ slice_set keys i c.insert_reserved-current.result)
    c.put_entry-old.ensures.replaced c.insert_reserved-current.new.self.slots
    (vacant_stays m.versions.slots _ _ put.was_vacant put.updates.others) c.take_places-at.ensures.taken
    c.retire_before.new.table c.retire_before.ensures.retired (λ none. (c.retire_before.ensures.none none).1) n))

pub use_current-requires-clause-clear : goal.use_current-requires-clause-clear
use_current-requires-clause-clear c v there n =
    let m = c.args.memory.now in
    let p = c.in-Some.field-0 in
    let was = sym c.try_remove.ensures.value ∙ c.in-Some.is in
    let placed = c.requires.placed p was in
    let stands = c.place_of-place.ensures in
    let at = directory_read m c.requires.whole stands.1 _ c.index_mut.ensures.value in
    let new : LiveVersion = record {
      prime = p.prime;
      version = c.take_places-at.new.version;
      at = c.take_places-at.result.at;
      readers = 0;
      is_current = true;
    } in
    let put = c.insert_reserved-current.ensures in
    let here = new_stands m c.requires.whole c.args.key was placed stands.1 at c.put_entry-old.result
    c.file_entry-entry.ensures.name
    (λ keys i. c.put_entry-old.new.directory.keys.items ≡ slice_set keys i c.insert_reserved-current.result)
    c.put_entry-old.ensures.replaced c.insert_reserved-current.new.self.slots
    (vacant_stays m.versions.slots _ _ put.was_vacant put.updates.others) c.take_places-at.ensures.taken
    c.retire_before.new.versions.slots c.insert_reserved-current.result new put.was_vacant put.updates.changed
    c.retire_before.ensures.others (λ none. ap (λ s. s.slots) (c.retire_before.ensures.none none).0) in
    let version : c.take_places-at.new.version ≡ record p.version {
      ribs = c.take_places-at.new.version.ribs;
    } = c.take_places-at.ensures.kept in
    let grown = option_to_list c.take_places-at.result.grown in
    let t = c.retire_before.new.table in
    subst (λ (x : LiveVersion). bit t n + times n (blocks_reached x.at x.version ++ grown) ≤ 1)
    (some_same (sym here ∙ there))
    (subst (λ (x : VersionState). bit t n + times n (blocks_reached c.take_places-at.result.at x ++ grown) ≤ 1)
    (sym version)
    (used_clear m c.requires.whole c.args.key was placed stands.1 at c.put_entry-old.result
    c.file_entry-entry.ensures.name
    (λ keys i. c.put_entry-old.new.directory.keys.items ≡ slice_set keys i c.insert_reserved-current.result)
    c.put_entry-old.ensures.replaced c.insert_reserved-current.new.self.slots
    (vacant_stays m.versions.slots _ _ put.was_vacant put.updates.others) c.take_places-at.ensures.taken
    c.retire_before.new.table c.retire_before.ensures.retired (λ none. (c.retire_before.ensures.none none).1) _
    c.put_entry-old.ensures.added n))

pub changes-requires : goal.changes-requires
changes-requires c =
    let m = c.args.memory.now in
    let p = c.in-Some.field-0 in
    let was = sym c.try_remove.ensures.value ∙ c.in-Some.is in
    let placed = c.requires.placed p was in
    let stands = c.place_of-place.ensures in
    let at = directory_read m c.requires.whole stands.1 _ c.index_mut.ensures.value in
    let new : LiveVersion = record {
      prime = p.prime;
      version = c.take_places-at.new.version;
      at = c.take_places-at.result.at;
      readers = 0;
      is_current = true;
    } in
    let put = c.insert_reserved-current.ensures in
    let here = new_stands m c.requires.whole c.args.key was placed stands.1 at c.put_entry-old.result
    c.file_entry-entry.ensures.name
    (λ keys i. c.put_entry-old.new.directory.keys.items ≡ slice_set keys i c.insert_reserved-current.result)
    c.put_entry-old.ensures.replaced c.insert_reserved-current.new.self.slots
    (vacant_stays m.versions.slots _ _ put.was_vacant put.updates.others) c.take_places-at.ensures.taken
    c.retire_before.new.versions.slots c.insert_reserved-current.result new put.was_vacant put.updates.changed
    c.retire_before.ensures.others (λ none. ap (λ s. s.slots) (c.retire_before.ensures.none none).0) in
    changed_many c.use_current.new.table _ (c.use_current.ensures new here).marks.sound c.put_entry-old.ensures.few

pub returns : goal.returns
returns c q there =
    let m = c.args.memory.now in
    let p = c.in-Some.field-0 in
    let was = sym c.try_remove.ensures.value ∙ c.in-Some.is in
    let same : p ≡ q = some_same (sym was ∙ there) in
    let placed = c.requires.placed p was in
    let place = c.place_of-place.result in
    let stands = c.place_of-place.ensures in
    let d = c.index_mut.result.now in
    let d' = c.put_entry-old.new.directory in
    let at = directory_read m c.requires.whole stands.1 _ c.index_mut.ensures.value in
    let m' : LiveMap = record {
      master = m.master;
      directories = with_item m.directories place d';
      versions = c.retire_before.new.versions;
      pending = c.try_remove.new.self;
      table = c.changes.new.self;
    } in
    let taken = c.take_places-at in
    let ribs = taken.new.version.ribs in
    let set = c.put_entry-old.new.set in
    let entry = c.file_entry-entry.ensures in
    let version : taken.new.version ≡ record p.version { ribs = ribs } = taken.ensures.kept in
    let new : LiveVersion = record {
      prime = p.prime;
      version = taken.new.version;
      at = taken.result.at;
      readers = 0;
      is_current = true;
    } in
    let put = c.insert_reserved-current.ensures in
    let here = new_stands m c.requires.whole c.args.key was placed stands.1 at c.put_entry-old.result
    c.file_entry-entry.ensures.name
    (λ keys i. c.put_entry-old.new.directory.keys.items ≡ slice_set keys i c.insert_reserved-current.result)
    c.put_entry-old.ensures.replaced c.insert_reserved-current.new.self.slots
    (vacant_stays m.versions.slots _ _ put.was_vacant put.updates.others) c.take_places-at.ensures.taken
    c.retire_before.new.versions.slots c.insert_reserved-current.result new put.was_vacant put.updates.changed
    c.retire_before.ensures.others (λ none. ap (λ s. s.slots) (c.retire_before.ensures.none none).0) in
    let puts_in_use = subst (λ (x : VersionState). PutsInUse c.retire_before.new.table c.use_current.new.table
    (blocks_reached taken.result.at x ++ option_to_list taken.result.grown)) version
    (c.use_current.ensures new here) in
    let makes_current = made_current_by m m' c.requires.whole c.args.key p was placed place stands.0 stands.1
    d d' at refl refl c.try_remove.ensures.updates.changed c.try_remove.ensures.updates.others
    (option_to_list taken.result.grown) taken.result.at ribs (taken.ensures.count
    ∙ ap (λ (x : VersionState). ribs_of x.blocks) version) taken.new.table c.retire_before.new.table
    c.use_current.new.table taken.ensures.taken
    puts_in_use c.changes.ensures.done set c.changes.new.set c.put_entry-old.ensures.put
    c.put_entry-old.ensures.few c.changes.ensures.others
    c.changes.ensures.spells c.changes.ensures.in_range c.changes.ensures.few
    (chain_grown m c.requires.whole c.args.key was placed stands.1 at c.takes_block-grows.result
    taken.result.grown c.file_entry-entry.result.name d'.chain.blocks entry.name
    (c.takes_block-grows.ensures d at) taken.ensures.grown c.put_entry-old.ensures.same c.put_entry-old.ensures.more)
    c.insert_reserved-current.result put.was_vacant (here
    ∙ (λ i. Some (record new { version = version i }))) c.put_entry-old.ensures.chain
    (c.put_entry-old.ensures.items
    ∙ (λ i. inserted name_cmp (map file_view d.chain.entries) (entry.name i, entry.prime i)))
    (c.put_entry-old.ensures.map
    ∙ (λ i. insert (from_entries (map file_view d.chain.entries)) (entry.name i) (entry.prime i)))
    c.insert_reserved-current.new.self.slots put.updates.others c.put_entry-old.result c.retire_before.ensures.retired
    c.retire_before.ensures.left c.retire_before.ensures.others
    (λ none. (ap (λ s. s.slots) (c.retire_before.ensures.none none).0, (c.retire_before.ensures.none none).1))
    c.put_entry-old.result refl
    (subst (λ name. IfSome c.put_entry-old.result (λ k. (i : ℕ) × (v : ℕ)
    × StandsAt name_cmp (map file_view d.chain.entries) name v i × (slice_get d.keys.items i ≡ Some k)
    × (d'.keys.items ≡ slice_set d.keys.items i c.insert_reserved-current.result))) entry.name
    c.put_entry-old.ensures.replaced)
    (subst (λ name. IfNone c.put_entry-old.result ((find name_cmp name (map file_view d.chain.entries) ≡ None)
    × (d'.keys.items ≡ d.keys.items ++ c.insert_reserved-current.result ∷ []))) entry.name
    c.put_entry-old.ensures.added) in
    subst (λ (x : PendingVersion). (n : ℕ) × (ns : List ℕ)
    × (makes_current : MakesCurrent m.table.size (memory_of m) (memory_of m') c.args.key x n ns c.changes.new.set)
    × (c.insert_reserved-current.result ≡ makes_current.new_key)) same
    (taken.result.at, ribs, makes_current.0, makes_current.1)
