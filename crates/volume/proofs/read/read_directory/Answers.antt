use Rattle.std.proofs.Common.{ℕ, List, map, length, sym, ap, subst, ◌∙◌, ◌≡◌, Err, IsErrOf}
use Rattle.std.specs.List.{AllByRecursion}
use Rattle.std.proofs.lemmas.Result.{err_from_is_err_and}
use Rattle.std.proofs.lemmas.List.{length-map}
use Rattle.blockdisk.specs.Common.{Contents, same_contents}
use Rattle.spec_image.specs.Common.{layout_number, InSpace, SpecFileEntry}
use Rattle.alloctab.specs.Common.{digit_at}
use Rattle.directory.specs.Common.{viewed}
use Rattle.volume.specs.Common.{file_view, known_version, IsOnlySpace, AreFilesRead, NamesInSpace, IsFaultOfFiles}
use Rattle.volume.specs.Common.{IsFaultOfDirectory}
use Rattle.volume.specs.declared.error.VolumeError.TheVariants.{Device}
use Rattle.volume.proofs.common.DisksAsked.{keeps_disk_served, keeps_disk_ok, keeps_disk_on, keeps_disk_handed}
use Rattle.volume.proofs.common.PassedErrors.{handed, found_on, named_on}
use Rattle.volume.proofs.VolumeStart.FoundDirectories.{directory_found, space_more}
use Rattle.volume.proofs.VolumeStart.FaultyDirectories.{files_fault}
use Rattle.volume.proofs.common.LayoutLimits.{entry_quota}
use Rattle.volume.proofs.read.read_directory.Goals as goal

pub returns-in_err-chain-clause-fault : goal.returns-in_err-chain-clause-fault
returns-in_err-chain-clause-fault g c h =
    let s = g.D.Disk.state c.args.disk.now in
    let p = err_from_is_err_and c.from_residual.result c.from_residual.ensures.1 in
    handed (IsFaultOfDirectory s.size (layout_number c.args.layout) s.contents (digit_at c.args.reached.now)
    c.args.entry.now.ppn
    c.args.entry.now.first) c.from_residual.result c.load_files.result p.0 c.in_err-chain.field-0.0 p.1
    p.2 c.in_err-chain.was
    (c.load_files.ensures.fault h (layout_number c.args.layout) c.args.entry.now.ppn)

pub read_files-requires-clause-inside : goal.read_files-requires-clause-inside
read_files-requires-clause-inside g c =
    subst (λ (es : List SpecFileEntry). AllByRecursion (λ e. InSpace (g.D.Disk.state c.load_files.new.disk).size e.1)
    es)
    (ap (map file_view) (sym c.entries.ensures.value))
    (subst (λ (n : ℕ). AllByRecursion (λ (e : SpecFileEntry). InSpace n e.1)
    (map file_view c.in_ok-chain.chain.entries))
    (sym c.load_files.ensures.disk.same.size) c.in_ok-chain.ensures.targets)

pub returns-in_err-versions-clause-fault : goal.returns-in_err-versions-clause-fault
returns-in_err-versions-clause-fault g c h =
    let s = g.D.Disk.state c.args.disk.now in
    let now = g.D.Disk.state c.load_files.new.disk in
    let p = err_from_is_err_and c.from_residual-in_err-versions.result c.from_residual-in_err-versions.ensures.1 in
    let same = same_contents s.contents now.contents
    (c.load_files.ensures.disk.keeps (c.read_files.ensures.disk.same.was_honest h)).contents in
    let marks = digit_at c.load_files.new.reached in
    let ppn = c.args.entry.now.ppn in
    let chain = viewed file_view c.in_ok-chain.chain in
    handed (IsFaultOfDirectory s.size (layout_number c.args.layout) s.contents (digit_at c.args.reached.now) ppn
    c.args.entry.now.first)
    c.from_residual-in_err-versions.result c.read_files.result p.0 c.in_err-versions.field-0.0 p.1 p.2
    c.in_err-versions.was
    (found_on (IsFaultOfFiles now.size (layout_number c.args.layout) now.contents marks ppn
    (map file_view c.entries.result.now))
    (IsFaultOfDirectory s.size (layout_number c.args.layout) s.contents (digit_at c.args.reached.now) ppn
    c.args.entry.now.first) c.read_files.result
    (λ error met. files_fault s.size (layout_number c.args.layout) s.contents (digit_at c.args.reached.now) marks ppn
    c.args.entry.now.first
    chain error c.in_ok-chain.ensures.chain (c.in_ok-chain.ensures.walk (c.read_files.ensures.disk.same.was_honest h))
    c.in_ok-chain.ensures.marked
    (subst (λ (es : List SpecFileEntry). IsFaultOfFiles s.size (layout_number c.args.layout) s.contents marks ppn es
    error)
    (ap (map file_view) c.entries.ensures.value)
    (subst (λ contents. IsFaultOfFiles s.size (layout_number c.args.layout) contents marks ppn
    (map file_view c.entries.result.now) error) same
    (subst (λ (n : ℕ). IsFaultOfFiles n (layout_number c.args.layout) now.contents marks ppn
    (map file_view c.entries.result.now) error)
    c.load_files.ensures.disk.same.size met))))
    (c.read_files.ensures.fault h))

pub returns-clause-whole : goal.returns-clause-whole
returns-clause-whole g c = record {
  chain = c.in_ok-chain.ensures.chain;
  inside = c.in_ok-chain.ensures.inside;
  versions = c.in_ok-versions.ensures.whole;
  aligned = length-map c.in_ok-versions.versions.items known_version ∙ c.in_ok-versions.ensures.aligned
      ∙ ap length c.entries.ensures.value ∙ sym (length-map c.in_ok-chain.chain.entries file_view);
}

pub returns-clause-read : goal.returns-clause-read
returns-clause-read g c h =
    let s = g.D.Disk.state c.args.disk.now in
    let now = g.D.Disk.state c.load_files.new.disk in
    let same = same_contents s.contents now.contents
    (c.load_files.ensures.disk.keeps (c.in_ok-versions.ensures.disk.same.was_honest h)).contents in
    let ppn = c.args.entry.now.ppn in
    let chain = viewed file_view c.in_ok-chain.chain in
    let versions = map known_version c.in_ok-versions.versions.items in
    let read : AreFilesRead (layout_number c.args.layout) s.contents ppn chain.entries versions
    (digit_at c.load_files.new.reached)
    (digit_at c.read_files.new.reached) =
    subst (λ (es : List SpecFileEntry). AreFilesRead (layout_number c.args.layout) s.contents ppn es versions
    (digit_at c.load_files.new.reached)
    (digit_at c.read_files.new.reached)) (ap (map file_view) c.entries.ensures.value)
    (subst (λ (contents : Contents). AreFilesRead (layout_number c.args.layout) contents ppn
    (map file_view c.entries.result.now) versions
    (digit_at c.load_files.new.reached) (digit_at c.read_files.new.reached)) same
    (c.in_ok-versions.ensures.read h)) in
    let entry = c.args.entry.now in
    directory_found (layout_number c.args.layout) s.contents ppn entry.protection entry.quota entry.first chain versions
    (digit_at c.args.reached.now) (digit_at c.load_files.new.reached) (digit_at c.read_files.new.reached)
    entry.protection_fits (entry_quota (layout_number c.args.layout) entry.ppn entry.protection entry.quota entry.first
    entry.quota_fits c.requires.entry) c.in_ok-chain.ensures.chain
    (c.in_ok-chain.ensures.on (c.in_ok-versions.ensures.disk.same.was_honest h)) c.in_ok-chain.ensures.begins
    (c.in_ok-chain.ensures.walk (c.in_ok-versions.ensures.disk.same.was_honest h)) c.in_ok-chain.ensures.marked read

pub returns-clause-space : goal.returns-clause-space
returns-clause-space g c only =
    let s = g.D.Disk.state c.args.disk.now in
    let size = c.load_files.ensures.disk.same.size in
    subst (λ (n : ℕ). IsOnlySpace n c.read_files.new.reached) size
    (c.in_ok-versions.ensures.space (subst (λ (n : ℕ). IsOnlySpace n c.load_files.new.reached) (sym size)
    (space_more s.size c.args.reached.now c.load_files.new.reached c.in_ok-chain.chain.blocks only
    c.in_ok-chain.ensures.inside c.in_ok-chain.ensures.marked)))

pub returns-in_err-chain-clause-named : goal.returns-in_err-chain-clause-named
returns-in_err-chain-clause-named g c =
    let p = err_from_is_err_and c.from_residual.result c.from_residual.ensures.1 in
    handed (NamesInSpace (g.D.Disk.state c.args.disk.now).size) c.from_residual.result c.load_files.result
    p.0 c.in_err-chain.field-0.0 p.1 p.2 c.in_err-chain.was c.load_files.ensures.named

pub returns-in_err-versions-clause-named : goal.returns-in_err-versions-clause-named
returns-in_err-versions-clause-named g c =
    let size = (g.D.Disk.state c.args.disk.now).size in
    let p = err_from_is_err_and c.from_residual-in_err-versions.result c.from_residual-in_err-versions.ensures.1 in
    handed (NamesInSpace size) c.from_residual-in_err-versions.result c.read_files.result p.0
    c.in_err-versions.field-0.0 p.1 p.2 c.in_err-versions.was
    (named_on (g.D.Disk.state c.load_files.new.disk).size size c.read_files.result c.load_files.ensures.disk.same.size
    c.read_files.ensures.named)

pub returns-in_err-versions-clause-disk : goal.returns-in_err-versions-clause-disk
returns-in_err-versions-clause-disk g c =
    let s = g.D.Disk.state c.args.disk.now in
    let then = g.D.Disk.state c.load_files.new.disk in
    let new = g.D.Disk.state c.read_files.new.disk in
    let p = err_from_is_err_and c.from_residual-in_err-versions.result c.from_residual-in_err-versions.ensures.1 in
    keeps_disk_handed s new c.from_residual-in_err-versions.result c.read_files.result p.0 c.in_err-versions.field-0.0
    Device p.1 p.2 c.in_err-versions.was (keeps_disk_on s then new (IsErrOf c.read_files.result Device)
    (keeps_disk_served s then (IsErrOf c.load_files.result Device)
    (λ (is : c.load_files.result ≡ Err Device). let was = c.in_ok-chain.was in cc) c.load_files.ensures.disk)
    c.read_files.ensures.disk)

pub returns-clause-disk : goal.returns-clause-disk
returns-clause-disk g c =
    let s = g.D.Disk.state c.args.disk.now in
    let then = g.D.Disk.state c.load_files.new.disk in
    let new = g.D.Disk.state c.read_files.new.disk in
    keeps_disk_ok s new (keeps_disk_on s then new ⊥
    (keeps_disk_served s then (IsErrOf c.load_files.result Device)
    (λ (is : c.load_files.result ≡ Err Device). let was = c.in_ok-chain.was in cc) c.load_files.ensures.disk)
    (keeps_disk_served then new (IsErrOf c.read_files.result Device)
    (λ (is : c.read_files.result ≡ Err Device). let was = c.in_ok-versions.was in cc)
    c.read_files.ensures.disk))
