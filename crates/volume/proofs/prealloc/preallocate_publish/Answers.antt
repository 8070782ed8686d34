use Rattle.std.proofs.Common.{refl, sym, subst, ◌∙◌}
use Rattle.std.proofs.lemmas.Option.{get_or_from_slice_get}
use Rattle.spec_image.proofs.Common.{some_same}
use Rattle.volume.specs.Common.{memory_of, IsSupplied}
use Rattle.volume.specs.declared.pending.PendingVersion.{PendingVersion}
use Rattle.volume.proofs.PublishVersion.StepPremises.{place_within}
use Rattle.volume.proofs.common.UsedBlocks.{element_at}
use Rattle.volume.proofs.PublishVersion.Preallocs.{is_there, supplied}
use Rattle.volume.proofs.prealloc.preallocate_publish.Goals as goal

-- src/supplies.rt:108:9
pub unreachable-requires-in_default-directory_place :
    goal.unreachable-requires-in_default-directory_place
unreachable-requires-in_default-directory_place c =
    let p = c.in-Some.version.now in
    is_there (memory_of c.args.map.now) p (c.requires.placed p (sym c.in-Some.ensures))
    (c.in_default-directory_place.ensures.none refl)

-- src/supplies.rt:111:43
pub preallocate_entry-requires-clause-named : goal.preallocate_entry-requires-clause-named
preallocate_entry-requires-clause-named c = (c.requires.placed c.in-Some.version.now (sym c.in-Some.ensures)).named

-- src/supplies.rt:88:1
pub returns-clause-supplied : goal.returns-clause-supplied
returns-clause-supplied c p is =
    let memory = c.args.map.now in
    let q = c.in-Some.version.now in
    let place = c.in-Ok.place in
    let stands = c.in-Ok.ensures.found in
    let within = place_within memory c.requires.whole q.prime.ppn place stands.0 stands.1 in
    let e = element_at memory.directories.items place within in
    let room = c.in_ok-reserve.field-0.reserve in
    let keys = c.in_ok-reserve.field-0.keys in
    let all = supplied memory.table.size memory q place stands.0 e.0 room keys c.requires.whole stands.1
    (sym (get_or_from_slice_get memory.directories.items place e.0 e.0 e.1))
    (c.in_ok-reserve.ensures.fits e.0 e.1) (c.in_ok-reserve.ensures.roomy e.0 e.1) in
    subst (λ (v : PendingVersion). IsSupplied (memory_of memory) v room keys) (some_same (c.in-Some.ensures ∙ is)) all
