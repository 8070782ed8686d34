use Rattle.std.proofs.Common.{◌+◌, List, map, ap, subst, sym, ◌∙◌}
use Rattle.std.proofs.lemmas.Result.{err_from_is_err_and}
use Rattle.std.specs.List.{AllByRecursion}
use Rattle.alloctab.specs.Common.{digit_at}
use Rattle.spec_image.specs.Common.{SpecFileEntry, InSpace, name_cmp, layout_number, EachOnce}
use Rattle.spec_image.proofs.Common.{name_exact, name_total}
use Rattle.volume.specs.declared.turns.Turn.{Turn}
use Rattle.volume.specs.Common.{file_view, turn_view, placed_known, IsWholeVersion, reaches_in_entries, AreFilesRead}
use Rattle.volume.specs.Common.{IsFaultOfFiles}
use Rattle.volume.proofs.common.PassedErrors.{handed, found_on}
use Rattle.volume.proofs.VolumeStart.ReadTurns.{as_many_versions, entries_moved, fault_moved, places_read}
use Rattle.volume.proofs.VolumeStart.ReadTurns.{read_the_same, reached_the_same, whole_the_same}
use Rattle.volume.proofs.common.Reordered.{all_moved, once_moved}
use Rattle.volume.proofs.read.read_files.Goals as goal

pub read_turns-requires-clause-inside : goal.read_turns-requires-clause-inside
read_turns-requires-clause-inside g c =
    let inside : SpecFileEntry → Type 0 = λ e. InSpace (g.D.Disk.state c.args.disk.now).size e.1 in
    subst (λ (ts : List Turn). AllByRecursion inside (map turn_view ts)) (sym c.deref.ensures.value)
    (all_moved (map file_view c.args.entries.now) (map turn_view c.in_ok-turns.turns.items)
    (entries_moved c.args.entries.now c.in_ok-turns.turns.items c.in_ok-turns.ensures.all) inside c.requires.inside)

pub read_turns-requires-clause-once : goal.read_turns-requires-clause-once
read_turns-requires-clause-once g c =
    subst (λ (ts : List Turn). EachOnce name_cmp (map turn_view ts)) (sym c.deref.ensures.value)
    (once_moved name_total name_exact (map file_view c.args.entries.now) (map turn_view c.in_ok-turns.turns.items)
    (entries_moved c.args.entries.now c.in_ok-turns.turns.items c.in_ok-turns.ensures.all) c.requires.once)

pub returns-in_err-read-clause-fault : goal.returns-in_err-read-clause-fault
returns-in_err-read-clause-fault g c h =
    let s = g.D.Disk.state c.args.disk.now in
    let layout = layout_number c.args.layout in
    let marks = digit_at c.args.reached.now in
    let turns = c.in_ok-turns.turns.items in
    let p = err_from_is_err_and c.from_residual-in_err-read.result c.from_residual-in_err-read.ensures.1 in
    handed (IsFaultOfFiles s.size layout s.contents marks c.args.ppn (map file_view c.args.entries.now))
    c.from_residual-in_err-read.result c.read_turns.result p.0 c.in_err-read.field-0.0 p.1 p.2 c.in_err-read.was
    (found_on (IsFaultOfFiles s.size layout s.contents marks c.args.ppn (map turn_view c.deref.result.now))
    (IsFaultOfFiles s.size layout s.contents marks c.args.ppn (map file_view c.args.entries.now)) c.read_turns.result
    (λ error met. fault_moved s.size layout s.contents marks c.args.ppn (map file_view c.args.entries.now)
    (map turn_view turns) (entries_moved c.args.entries.now turns c.in_ok-turns.ensures.all) c.requires.once error
    (subst (λ (ts : List Turn). IsFaultOfFiles s.size layout s.contents marks c.args.ppn (map turn_view ts) error)
    c.deref.ensures.value met))
    (c.read_turns.ensures.fault h))

pub by_place-requires : goal.by_place-requires
by_place-requires g c =
    places_read c.args.entries.now c.in_ok-turns.turns.items c.in_ok-turns.ensures.all c.in_ok-read.read.items
    (c.in_ok-read.ensures.placed ∙ ap (λ (ts : List Turn). map (λ t. t.place) ts) c.deref.ensures.value)

pub returns-clause-aligned : goal.returns-clause-aligned
returns-clause-aligned g c =
    as_many_versions c.args.entries.now c.in_ok-turns.turns.items c.in_ok-turns.ensures.all c.in_ok-read.read.items
    (c.in_ok-read.ensures.placed ∙ ap (λ (ts : List Turn). map (λ t. t.place) ts) c.deref.ensures.value)
    c.in_ok-versions.versions.items c.in_ok-versions.ensures

pub returns-clause-whole : goal.returns-clause-whole
returns-clause-whole g c =
    whole_the_same c.args.entries.now c.in_ok-turns.turns.items c.in_ok-turns.ensures.all c.in_ok-read.read.items
    (c.in_ok-read.ensures.placed ∙ ap (λ (ts : List Turn). map (λ t. t.place) ts) c.deref.ensures.value)
    c.in_ok-versions.versions.items c.in_ok-versions.ensures IsWholeVersion c.in_ok-read.ensures.whole

pub returns-clause-marked : goal.returns-clause-marked
returns-clause-marked g c n =
    let placed = c.in_ok-read.ensures.placed ∙ ap (λ (ts : List Turn). map (λ t. t.place) ts) c.deref.ensures.value in
    c.in_ok-read.ensures.marked n
    ∙ ap (λ (ts : List Turn). digit_at c.args.reached.now n
    + reaches_in_entries n (map turn_view ts) (map placed_known c.in_ok-read.read.items)) c.deref.ensures.value
    ∙ ap (λ m. digit_at c.args.reached.now n + m)
    (reached_the_same c.args.entries.now c.in_ok-turns.turns.items c.in_ok-turns.ensures.all
    c.in_ok-read.read.items placed c.in_ok-versions.versions.items c.in_ok-versions.ensures n)

pub returns-clause-read : goal.returns-clause-read
returns-clause-read g c h =
    let s = g.D.Disk.state c.args.disk.now in
    let layout = layout_number c.args.layout in
    let placed = c.in_ok-read.ensures.placed ∙ ap (λ (ts : List Turn). map (λ t. t.place) ts) c.deref.ensures.value in
    read_the_same c.args.entries.now c.in_ok-turns.turns.items c.in_ok-turns.ensures.all c.in_ok-read.read.items
    placed c.in_ok-versions.versions.items c.in_ok-versions.ensures layout s.contents c.args.ppn
    (digit_at c.args.reached.now) (digit_at c.read_turns.new.reached)
    (subst (λ (ts : List Turn). AreFilesRead layout s.contents c.args.ppn (map turn_view ts)
    (map placed_known c.in_ok-read.read.items) (digit_at c.args.reached.now) (digit_at c.read_turns.new.reached))
    c.deref.ensures.value (c.in_ok-read.ensures.read h)) (returns-clause-marked g c)
