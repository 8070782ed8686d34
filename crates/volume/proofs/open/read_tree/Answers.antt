use Rattle.std.proofs.Common.{◌<◌, ℕ, List, map, sym, ap, subst, ◌∙◌, ◌≡◌, Err, IsErrOf}
use Rattle.std.proofs.lemmas.Result.{err_from_is_err_and}
use Rattle.blockdisk.specs.Common.{same_contents}
use Rattle.spec_image.specs.Common.{SpecMasterEntry, master_words, layout_number, times, InSpace, IsMasterEntryOf}
use Rattle.alloctab.specs.Common.{digit_at}
use Rattle.directory.specs.Common.{nodes_of, viewed, chain_items, numbers_of}
use Rattle.volume.specs.Common.{master_view, IsOnlySpace, NamesInSpace, IsFaultOfDirectories, SettledRefuses}
use Rattle.volume.specs.declared.error.VolumeError.TheVariants.{Device}
use Rattle.volume.proofs.common.DisksAsked.{reads_disk_served, reads_disk_ok, reads_disk_on, reads_disk_handed}
use Rattle.volume.proofs.common.DisksAsked.{reads_disk_of}
use Rattle.volume.proofs.common.PassedErrors.{handed, found_named, named_on}
use Rattle.volume.proofs.VolumeStart.FaultyMaps.{directories_fault}
use Rattle.spec_image.proofs.Common.{each_times}
use Rattle.volume.proofs.open.read_tree.Goals as goal

pub returns-in_err-directories-clause-fault : goal.returns-in_err-directories-clause-fault
returns-in_err-directories-clause-fault g c h home =
    let s = g.D.Disk.state c.args.disk.now in
    let now = g.D.Disk.state c.load_master.new.disk in
    let p = err_from_is_err_and c.from_residual-in_err-directories.result
    c.from_residual-in_err-directories.ensures.1 in
    let same = same_contents s.contents now.contents
    (c.load_master.ensures.disk.reads (c.read_directories.ensures.disk.same.was_honest h)).still.contents in
    let marks = digit_at c.load_master.new.reached in
    let chain = viewed master_view c.in_ok-master.master in
    handed (SettledRefuses s.size s.contents) c.from_residual-in_err-directories.result c.read_directories.result
    p.0 c.in_err-directories.field-0.0 p.1 p.2 c.in_err-directories.was
    (found_named (IsFaultOfDirectories now.size (layout_number c.args.layout) now.contents marks
    (map master_view c.entries.result.now))
    (NamesInSpace now.size) (SettledRefuses s.size s.contents) c.read_directories.result
    (λ error met inside. directories_fault s.size s.contents (layout_number c.args.layout) c.args.first
    (nodes_of chain.blocks chain.entries)
    chain.entries marks error c.requires.volume home
    (c.in_ok-master.ensures.walk (c.read_directories.ensures.disk.same.was_honest h))
    (chain_items master_words (IsMasterEntryOf (layout_number c.args.layout)) chain c.in_ok-master.ensures.chain)
    (λ n. c.in_ok-master.ensures.marked n ∙ ap (times n) (sym (numbers_of chain.blocks chain.entries)))
    (subst (λ (n : ℕ). NamesInSpace n error) c.load_master.ensures.disk.same.size inside)
    (subst (λ (es : List SpecMasterEntry). IsFaultOfDirectories s.size (layout_number c.args.layout) s.contents marks es
    error)
    (ap (map master_view) c.entries.ensures.value)
    (subst (λ contents. IsFaultOfDirectories s.size (layout_number c.args.layout) contents marks
    (map master_view c.entries.result.now) error) same
    (subst (λ (n : ℕ). IsFaultOfDirectories n (layout_number c.args.layout) now.contents marks
    (map master_view c.entries.result.now) error)
    c.load_master.ensures.disk.same.size met))))
    (c.read_directories.ensures.fault h) c.read_directories.ensures.named)

pub returns-clause-space : goal.returns-clause-space
returns-clause-space g c =
    let s = g.D.Disk.state c.args.disk.now in
    let now = g.D.Disk.state c.load_master.new.disk in
    let size = c.load_master.ensures.disk.same.size in
    let before : IsOnlySpace s.size c.load_master.new.reached = λ n some.
    each_times (InSpace s.size) c.in_ok-master.master.blocks n c.in_ok-master.ensures.inside
    (subst (λ (k : ℕ). 0 < k) (c.in_ok-master.ensures.marked n) some) in
    subst (λ (k : ℕ). IsOnlySpace k c.read_directories.new.reached) size
    (c.in_ok-directories.ensures.space (subst (λ (k : ℕ). IsOnlySpace k c.load_master.new.reached) (sym size) before))

pub returns-in_err-master-clause-named : goal.returns-in_err-master-clause-named
returns-in_err-master-clause-named g c =
    let p = err_from_is_err_and c.from_residual.result c.from_residual.ensures.1 in
    handed (NamesInSpace (g.D.Disk.state c.args.disk.now).size) c.from_residual.result c.load_master.result
    p.0 c.in_err-master.field-0.0 p.1 p.2 c.in_err-master.was c.load_master.ensures.named

pub returns-in_err-directories-clause-named : goal.returns-in_err-directories-clause-named
returns-in_err-directories-clause-named g c =
    let size = (g.D.Disk.state c.args.disk.now).size in
    let p = err_from_is_err_and c.from_residual-in_err-directories.result
    c.from_residual-in_err-directories.ensures.1 in
    handed (NamesInSpace size) c.from_residual-in_err-directories.result c.read_directories.result p.0
    c.in_err-directories.field-0.0 p.1 p.2 c.in_err-directories.was
    (named_on (g.D.Disk.state c.load_master.new.disk).size size c.read_directories.result
    c.load_master.ensures.disk.same.size c.read_directories.ensures.named)

pub returns-in_err-directories-clause-disk : goal.returns-in_err-directories-clause-disk
returns-in_err-directories-clause-disk g c =
    let s = g.D.Disk.state c.args.disk.now in
    let then = g.D.Disk.state c.load_master.new.disk in
    let new = g.D.Disk.state c.read_directories.new.disk in
    let p = err_from_is_err_and c.from_residual-in_err-directories.result c.from_residual-in_err-directories.ensures.1
    in
    reads_disk_handed s new c.from_residual-in_err-directories.result c.read_directories.result p.0
    c.in_err-directories.field-0.0 Device p.1 p.2
    c.in_err-directories.was (reads_disk_on s then new (IsErrOf c.read_directories.result Device)
    (reads_disk_served s then (IsErrOf c.load_master.result Device)
    (λ (is : c.load_master.result ≡ Err Device). let was = c.in_ok-master.was in cc) c.load_master.ensures.disk)
    (reads_disk_of then new (IsErrOf c.read_directories.result Device) c.read_directories.ensures.disk))

pub returns-clause-disk : goal.returns-clause-disk
returns-clause-disk g c =
    let s = g.D.Disk.state c.args.disk.now in
    let then = g.D.Disk.state c.load_master.new.disk in
    let new = g.D.Disk.state c.read_directories.new.disk in
    reads_disk_ok s new (reads_disk_on s then new ⊥
    (reads_disk_served s then (IsErrOf c.load_master.result Device)
    (λ (is : c.load_master.result ≡ Err Device). let was = c.in_ok-master.was in cc) c.load_master.ensures.disk)
    (reads_disk_served then new (IsErrOf c.read_directories.result Device)
    (λ (is : c.read_directories.result ≡ Err Device). let was = c.in_ok-directories.was in cc)
    (reads_disk_of then new (IsErrOf c.read_directories.result Device) c.read_directories.ensures.disk)))
