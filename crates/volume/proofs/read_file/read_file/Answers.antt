use Rattle.std.proofs.Common.{◌<◌, ◌∷◌, ◌++◌, ℕ, sym, subst, ◌∙◌, ◌≡◌, Err, IsErrOf}
use Rattle.std.specs.List.{AllByRecursion}
use Rattle.std.proofs.lemmas.Result.{err_from_is_err_and}
use Rattle.blockdisk.specs.Common.{same_contents, Contents, IsWholeBlock}
use Rattle.spec_image.specs.Common.{layout_number, InSpace}
use Rattle.volume.specs.Common.{IsVersionRefusal, IsDataRefusal, IsFileRefusal, NamesInSpace}
use Rattle.volume.specs.declared.error.VolumeError.TheVariants.{Device, BadRetrieval, BlockTwice, NoMemory, BadData}
use Rattle.volume.proofs.common.DisksAsked.{keeps_disk_served, keeps_disk_ok, keeps_disk_on, keeps_disk_handed}
use Rattle.volume.proofs.common.PassedErrors.{handed, version_named, data_named, named_on}
use Rattle.volume.proofs.common.MarkedBlocks.{all_weaker}
use Rattle.volume.proofs.VolumeStart.FileFaults.{refusal, refused_on, version_wider, data_wider, file_found}
use Rattle.volume.proofs.VolumeStart.FileFaults.{reached_twice, damaged_data}
use Rattle.changeset.proofs.LogRead.{passed_on}
use Rattle.spec_image.proofs.Common.{all_append, each_times}
use Rattle.volume.proofs.read_file.read_file.Goals as goal

pub returns-in_err-stored-clause-twice : goal.returns-in_err-stored-clause-twice
returns-in_err-stored-clause-twice g c h k is =
    let p = err_from_is_err_and c.from_residual.result c.from_residual.ensures.1 in
    absurd (refusal IsVersionRefusal c.read_named.result (BlockTwice k)
    (passed_on c.from_residual.result c.read_named.result p.0 c.in_err-stored.field-0.0
    (BlockTwice k) is p.1 p.2 c.in_err-stored.was) c.read_named.ensures.only)

pub returns-in_err-stored-clause-bad_data : goal.returns-in_err-stored-clause-bad_data
returns-in_err-stored-clause-bad_data g c h k is =
    let p = err_from_is_err_and c.from_residual.result c.from_residual.ensures.1 in
    absurd (refusal IsVersionRefusal c.read_named.result (BadData k)
    (passed_on c.from_residual.result c.read_named.result p.0 c.in_err-stored.field-0.0
    (BadData k) is p.1 p.2 c.in_err-stored.was) c.read_named.ensures.only)

pub returns-in_err-stored-clause-only : goal.returns-in_err-stored-clause-only
returns-in_err-stored-clause-only g c =
    let p = err_from_is_err_and c.from_residual.result c.from_residual.ensures.1 in
    refused_on IsVersionRefusal IsFileRefusal c.from_residual.result c.read_named.result p.0 c.in_err-stored.field-0.0
    p.1 p.2 c.in_err-stored.was version_wider c.read_named.ensures.only

pub mark_version-requires-clause-ribs : goal.mark_version-requires-clause-ribs
mark_version-requires-clause-ribs g c =
    let size = (g.D.Disk.state c.args.disk.now).size in
    subst (λ (m : ℕ). AllByRecursion (λ n. n < m) c.in_ok-stored.stored.version.ribs) (sym c.requires.marks)
    (all_weaker (InSpace size) (λ n. n < size) c.in_ok-stored.stored.version.ribs
    (λ n is. is.below) c.in_ok-stored.ensures.ribs_inside)

pub mark_version-requires-clause-blocks : goal.mark_version-requires-clause-blocks
mark_version-requires-clause-blocks g c =
    let size = (g.D.Disk.state c.args.disk.now).size in
    subst (λ (m : ℕ). AllByRecursion (λ n. n < m) c.in_ok-stored.stored.version.blocks) (sym c.requires.marks)
    (all_weaker (InSpace size) (λ n. n < size) c.in_ok-stored.stored.version.blocks
    (λ n is. is.below) c.in_ok-stored.ensures.blocks_inside)

pub returns-in-Err-clause-twice : goal.returns-in-Err-clause-twice
returns-in-Err-clause-twice g c h k is =
    let s = g.D.Disk.state c.args.disk.now in
    let v = c.in_ok-stored.stored in
    reached_twice s.size (layout_number c.args.layout) s.contents c.args.ppn c.args.name c.args.prime v.prime v.version
    (c.in_ok-stored.ensures.ok h) c.in_ok-stored.ensures.name c.in_ok-stored.ensures.ppn
    c.args.reached.now k (c.mark_version.ensures.twice k (cc))

pub returns-in_err-read_data-clause-memory : goal.returns-in_err-read_data-clause-memory
returns-in_err-read_data-clause-memory g c is =
    let p = err_from_is_err_and c.from_residual-in_err-read_data.result c.from_residual-in_err-read_data.ensures.1 in
    absurd (refusal IsDataRefusal c.read_data.result NoMemory
    (passed_on c.from_residual-in_err-read_data.result c.read_data.result p.0 c.in_err-read_data.field-0.0
    NoMemory is p.1 p.2 c.in_err-read_data.was) c.read_data.ensures.only)

pub returns-in_err-read_data-clause-bad_version : goal.returns-in_err-read_data-clause-bad_version
returns-in_err-read_data-clause-bad_version g c h k is =
    let p = err_from_is_err_and c.from_residual-in_err-read_data.result c.from_residual-in_err-read_data.ensures.1 in
    absurd (refusal IsDataRefusal c.read_data.result (BadRetrieval k)
    (passed_on c.from_residual-in_err-read_data.result c.read_data.result p.0 c.in_err-read_data.field-0.0
    (BadRetrieval k) is p.1 p.2 c.in_err-read_data.was) c.read_data.ensures.only)

pub returns-in_err-read_data-clause-twice : goal.returns-in_err-read_data-clause-twice
returns-in_err-read_data-clause-twice g c h k is =
    let p = err_from_is_err_and c.from_residual-in_err-read_data.result c.from_residual-in_err-read_data.ensures.1 in
    absurd (refusal IsDataRefusal c.read_data.result (BlockTwice k)
    (passed_on c.from_residual-in_err-read_data.result c.read_data.result p.0 c.in_err-read_data.field-0.0
    (BlockTwice k) is p.1 p.2 c.in_err-read_data.was) c.read_data.ensures.only)

pub returns-in_err-read_data-clause-bad_data : goal.returns-in_err-read_data-clause-bad_data
returns-in_err-read_data-clause-bad_data g c h k is =
    let s = g.D.Disk.state c.args.disk.now in
    let read = g.D.Disk.state c.read_named.new.disk in
    let v = c.in_ok-stored.stored in
    let p = err_from_is_err_and c.from_residual-in_err-read_data.result c.from_residual-in_err-read_data.ensures.1 in
    let bad = c.read_data.ensures.damaged h k
    (passed_on c.from_residual-in_err-read_data.result c.read_data.result p.0 c.in_err-read_data.field-0.0
    (BadData k) is p.1 p.2 c.in_err-read_data.was) in
    damaged_data s.size (layout_number c.args.layout) s.contents c.args.ppn c.args.name c.args.prime v.prime v.version
    (c.in_ok-stored.ensures.ok (c.read_data.ensures.disk.same.was_honest h)) c.in_ok-stored.ensures.name
    c.in_ok-stored.ensures.ppn
    k (bad.0)
    (sym ((c.read_named.ensures.disk.keeps (c.read_data.ensures.disk.same.was_honest h)).contents k) ∙ bad.1)

pub returns-in_err-read_data-clause-only : goal.returns-in_err-read_data-clause-only
returns-in_err-read_data-clause-only g c =
    let p = err_from_is_err_and c.from_residual-in_err-read_data.result c.from_residual-in_err-read_data.ensures.1 in
    refused_on IsDataRefusal IsFileRefusal c.from_residual-in_err-read_data.result c.read_data.result p.0
    c.in_err-read_data.field-0.0 p.1 p.2 c.in_err-read_data.was data_wider c.read_data.ensures.only

pub returns-clause-ok : goal.returns-clause-ok
returns-clause-ok g c h =
    let s = g.D.Disk.state c.args.disk.now in
    let read = g.D.Disk.state c.read_named.new.disk in
    let v = c.in_ok-stored.stored in
    let whole : AllByRecursion (IsWholeBlock read.contents) v.version.blocks = (c.in_ok-read_data.ensures.ok h) in
    file_found s.size (layout_number c.args.layout) s.contents c.args.ppn c.args.name c.args.prime v.prime v.version
    (c.in_ok-stored.ensures.ok (c.in_ok-read_data.ensures.disk.same.was_honest h)) c.in_ok-stored.ensures.name
    c.in_ok-stored.ensures.ppn
    (subst (λ (d : Contents). AllByRecursion (IsWholeBlock d) v.version.blocks)
    (same_contents s.contents read.contents
    (c.read_named.ensures.disk.keeps (c.in_ok-read_data.ensures.disk.same.was_honest h)).contents) whole)

-- The block that is named.

pub returns-in_err-stored-clause-named : goal.returns-in_err-stored-clause-named
returns-in_err-stored-clause-named g c =
    let size = (g.D.Disk.state c.args.disk.now).size in
    let p = err_from_is_err_and c.from_residual.result c.from_residual.ensures.1 in
    handed (NamesInSpace size) c.from_residual.result c.read_named.result p.0 c.in_err-stored.field-0.0
    p.1 p.2 c.in_err-stored.was
    (version_named size c.args.prime c.read_named.result c.requires.inside c.read_named.ensures.only
    c.read_named.ensures.named)

pub returns-in-Err-clause-named : goal.returns-in-Err-clause-named
returns-in-Err-clause-named g c =
    let size = (g.D.Disk.state c.args.disk.now).size in
    let v = c.in_ok-stored.stored.version in
    each_times (InSpace size) (c.args.prime ∷ (v.ribs ++ v.blocks)) c.in-Err.block (
      c.requires.inside,
      all_append (InSpace size) v.ribs v.blocks c.in_ok-stored.ensures.ribs_inside
          c.in_ok-stored.ensures.blocks_inside,
    )
    (c.mark_version.ensures.among c.in-Err.block (cc))

pub returns-in_err-read_data-clause-named : goal.returns-in_err-read_data-clause-named
returns-in_err-read_data-clause-named g c =
    let size = (g.D.Disk.state c.args.disk.now).size in
    let now = (g.D.Disk.state c.read_named.new.disk).size in
    let p = err_from_is_err_and c.from_residual-in_err-read_data.result c.from_residual-in_err-read_data.ensures.1 in
    handed (NamesInSpace size) c.from_residual-in_err-read_data.result c.read_data.result p.0
    c.in_err-read_data.field-0.0 p.1 p.2 c.in_err-read_data.was
    (named_on now size c.read_data.result c.read_named.ensures.disk.same.size
    (data_named now c.read_data.result c.read_data.ensures.only c.read_data.ensures.named))

pub returns-in_err-read_data-clause-disk : goal.returns-in_err-read_data-clause-disk
returns-in_err-read_data-clause-disk g c =
    let s = g.D.Disk.state c.args.disk.now in
    let then = g.D.Disk.state c.read_named.new.disk in
    let new = g.D.Disk.state c.read_data.new.disk in
    let p = err_from_is_err_and c.from_residual-in_err-read_data.result c.from_residual-in_err-read_data.ensures.1 in
    keeps_disk_handed s new c.from_residual-in_err-read_data.result c.read_data.result p.0 c.in_err-read_data.field-0.0
    Device p.1 p.2 c.in_err-read_data.was (keeps_disk_on s then new (IsErrOf c.read_data.result Device)
    (keeps_disk_served s then (IsErrOf c.read_named.result Device)
    (λ (is : c.read_named.result ≡ Err Device). let was = c.in_ok-stored.was in cc) c.read_named.ensures.disk)
    c.read_data.ensures.disk)

pub returns-clause-disk : goal.returns-clause-disk
returns-clause-disk g c =
    let s = g.D.Disk.state c.args.disk.now in
    let then = g.D.Disk.state c.read_named.new.disk in
    let new = g.D.Disk.state c.read_data.new.disk in
    keeps_disk_ok s new (keeps_disk_on s then new ⊥
    (keeps_disk_served s then (IsErrOf c.read_named.result Device)
    (λ (is : c.read_named.result ≡ Err Device). let was = c.in_ok-stored.was in cc) c.read_named.ensures.disk)
    (keeps_disk_served then new (IsErrOf c.read_data.result Device)
    (λ (is : c.read_data.result ≡ Err Device). let was = c.in_ok-read_data.was in cc)
    c.read_data.ensures.disk))
