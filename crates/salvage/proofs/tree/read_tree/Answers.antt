use Rattle.std.proofs.Common.{◌≡◌, ℕ, IfOk, sym, ap, ◌∙◌}
use Rattle.blockdisk.specs.Common.{Contents, same_contents}
use Rattle.changeset.proofs.LogRead.{only_reads_on}
use Rattle.spec_image.specs.Common.{SpecHome, IsHome, layout_number}
use Rattle.spec_image.proofs.Common.{home_same}
use Rattle.volume.specs.Common.{home_in}
use Rattle.salvage.specs.Common.{AreMarked, IsTree}
use Rattle.salvage.specs.declared.tree.Tree.{Tree}
use Rattle.salvage.proofs.CarriedFacts.{moved}
use Rattle.salvage.proofs.Refusals.{home_refused}
use Rattle.salvage.proofs.TreesRead.{no_home_on}
use Rattle.volume.proofs.VolumeStart.Starts.{ok_on}
use Rattle.salvage.proofs.tree.read_tree.Goals as goal

pub returns-in-Ok-clause-tree : goal.returns-in-Ok-clause-tree
returns-in-Ok-clause-tree g c h =
    let s = g.D.Disk.state c.args.disk.now in
    let now = g.D.Disk.state c.read_home.new.disk in
    let was = c.read_from.ensures.same.was_honest h in
    let sizes = c.read_home.ensures.disk.same.size in
    let same = same_contents s.contents now.contents (c.read_home.ensures.disk.reads was).still.contents in
    let home = home_in (layout_number c.in-Ok.home.layout) c.in-Ok.home.master in
    moved (λ (n : ℕ) (contents : Contents). IfOk c.read_from.result (λ (tree : Tree).
    IsTree n (layout_number tree.layout) contents tree.files.items tree.findings.items)) s.size now.size s.contents
    now.contents sizes same
    (c.read_from.ensures.tree h (moved (λ (n : ℕ) (contents : Contents). IsHome n contents home) now.size s.size
    now.contents s.contents (sym sizes) (sym same) (c.in-Ok.ensures.ok was)))

pub returns-in-Ok-clause-marked : goal.returns-in-Ok-clause-marked
returns-in-Ok-clause-marked g c h =
    let s = g.D.Disk.state c.args.disk.now in
    let now = g.D.Disk.state c.read_home.new.disk in
    let was = c.read_from.ensures.same.was_honest h in
    let sizes = c.read_home.ensures.disk.same.size in
    let same = same_contents s.contents now.contents (c.read_home.ensures.disk.reads was).still.contents in
    let home = home_in (layout_number c.in-Ok.home.layout) c.in-Ok.home.master in
    moved (λ (n : ℕ) (contents : Contents). IfOk c.read_from.result (λ (tree : Tree).
    AreMarked n (layout_number tree.layout) contents tree.files.items tree.chains.master tree.chains.directories))
    s.size now.size s.contents now.contents sizes same
    (c.read_from.ensures.marked h (moved (λ (n : ℕ) (contents : Contents). IsHome n contents home) now.size s.size
    now.contents s.contents (sym sizes) (sym same) (c.in-Ok.ensures.ok was)))

pub returns-in-Err-clause-tree : goal.returns-in-Err-clause-tree
returns-in-Err-clause-tree g c h =
    let s = g.D.Disk.state c.args.disk.now in
    let ensures = c.read_home.ensures in
    no_home_on s.size s.contents c.in-Err.refusal c.without_home.result
    (home_refused s.size s.contents c.read_home.result c.in-Err.refusal c.in-Err.is (ensures.not_volume h)
    (ensures.bad h) ensures.only)
    c.without_home.ensures.files c.without_home.ensures.findings c.without_home.ensures.fault

pub returns-in-Ok-clause-layout : goal.returns-in-Ok-clause-layout
returns-in-Ok-clause-layout g c h home is =
    let s = g.D.Disk.state c.args.disk.now in
    let own = home_in (layout_number c.in-Ok.home.layout) c.in-Ok.home.master in
    ok_on (λ (tree : Tree). tree.layout ≡ c.in-Ok.home.layout)
    (λ (tree : Tree). layout_number tree.layout ≡ home.layout) c.read_from.result
    (λ tree layout. ap layout_number layout ∙ ap (λ (x : SpecHome). x.layout)
    (home_same s.size s.contents own home (c.in-Ok.ensures.ok (c.read_from.ensures.same.was_honest h)) is))
    c.read_from.ensures.layout

pub returns-in-Ok-clause-no_layout : goal.returns-in-Ok-clause-no_layout
returns-in-Ok-clause-no_layout g c h none =
    absurd (none (home_in (layout_number c.in-Ok.home.layout) c.in-Ok.home.master)
    (c.in-Ok.ensures.ok (c.read_from.ensures.same.was_honest h)))

pub returns-in-Ok-clause-reads : goal.returns-in-Ok-clause-reads
returns-in-Ok-clause-reads g c h =
    only_reads_on (g.D.Disk.state c.args.disk.now) (g.D.Disk.state c.read_home.new.disk)
    (g.D.Disk.state c.read_from.new.disk) (c.read_home.ensures.disk.reads (c.read_from.ensures.same.was_honest h))
    (c.read_from.ensures.reads h)
