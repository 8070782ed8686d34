use Rattle.std.proofs.Common.{◌≡◌, ◌+◌, ◌≤◌, ◌++◌, ℕ, List, slice_index, sym, subst, ◌∙◌, arith}
use Rattle.std.specs.List.{AllByRecursion}
use Rattle.blockdisk.specs.Common.{same_contents}
use Rattle.changeset.proofs.LogRead.{only_reads_on}
use Rattle.spec_image.specs.Common.{File, Files, SettledStands, layout_number}
use Rattle.salvage.specs.Common.{AreAdded, AreApart, AreFree, AreMarked, ArePlaced, AreTaken, IsNamedRead}
use Rattle.salvage.specs.Common.{IsRead, IsScanned, claims}
use Rattle.salvage.specs.declared.saved.SavedFile.{SavedFile}
use Rattle.salvage.proofs.CarriedFacts.{moved}
use Rattle.salvage.proofs.SurveySteps.{apart_both, survey_more, surveyed}
use Rattle.salvage.proofs.survey.survey_volume.Goals as goal

pub returns-in_err-free-clause-reads : goal.returns-in_err-free-clause-reads
returns-in_err-free-clause-reads g c h =
    let s = g.D.Disk.state c.args.disk.now in
    let t0 = g.D.Disk.state c.read_tree.new.disk in
    let t1 = g.D.Disk.state c.find_free.new.disk in
    let h0 = c.find_free.ensures.same.was_honest h in
    let r0 = c.read_tree.ensures.reads h0 in
    let r1 = only_reads_on s t0 t1 r0 (c.find_free.ensures.reads h) in
    r1

pub returns-in_err-found-clause-reads : goal.returns-in_err-found-clause-reads
returns-in_err-found-clause-reads g c h =
    let s = g.D.Disk.state c.args.disk.now in
    let t0 = g.D.Disk.state c.read_tree.new.disk in
    let t1 = g.D.Disk.state c.find_free.new.disk in
    let t2 = g.D.Disk.state c.scan.new.disk in
    let h1 = c.scan.ensures.same.was_honest h in
    let h0 = c.find_free.ensures.same.was_honest h1 in
    let r0 = c.read_tree.ensures.reads h0 in
    let r1 = only_reads_on s t0 t1 r0 (c.find_free.ensures.reads h1) in
    let r2 = only_reads_on s t1 t2 r1 (c.scan.ensures.reads h) in
    r2

pub returns-in_err-claimed-clause-reads : goal.returns-in_err-claimed-clause-reads
returns-in_err-claimed-clause-reads g c h =
    let s = g.D.Disk.state c.args.disk.now in
    let t0 = g.D.Disk.state c.read_tree.new.disk in
    let t1 = g.D.Disk.state c.find_free.new.disk in
    let t2 = g.D.Disk.state c.scan.new.disk in
    let h1 = c.scan.ensures.same.was_honest h in
    let h0 = c.find_free.ensures.same.was_honest h1 in
    let r0 = c.read_tree.ensures.reads h0 in
    let r1 = only_reads_on s t0 t1 r0 (c.find_free.ensures.reads h1) in
    let r2 = only_reads_on s t1 t2 r1 (c.scan.ensures.reads h) in
    r2

pub returns-in_err-taken-clause-reads : goal.returns-in_err-taken-clause-reads
returns-in_err-taken-clause-reads g c h =
    let s = g.D.Disk.state c.args.disk.now in
    let t0 = g.D.Disk.state c.read_tree.new.disk in
    let t1 = g.D.Disk.state c.find_free.new.disk in
    let t2 = g.D.Disk.state c.scan.new.disk in
    let t3 = g.D.Disk.state c.take_named.new.disk in
    let h2 = c.take_named.ensures.same.was_honest h in
    let h1 = c.scan.ensures.same.was_honest h2 in
    let h0 = c.find_free.ensures.same.was_honest h1 in
    let r0 = c.read_tree.ensures.reads h0 in
    let r1 = only_reads_on s t0 t1 r0 (c.find_free.ensures.reads h1) in
    let r2 = only_reads_on s t1 t2 r1 (c.scan.ensures.reads h2) in
    let r3 = only_reads_on s t2 t3 r2 (c.take_named.ensures.reads h) in
    r3

pub returns-in_err-unnamed-clause-reads : goal.returns-in_err-unnamed-clause-reads
returns-in_err-unnamed-clause-reads g c h =
    let s = g.D.Disk.state c.args.disk.now in
    let t0 = g.D.Disk.state c.read_tree.new.disk in
    let t1 = g.D.Disk.state c.find_free.new.disk in
    let t2 = g.D.Disk.state c.scan.new.disk in
    let t3 = g.D.Disk.state c.take_named.new.disk in
    let t4 = g.D.Disk.state c.take_unnamed.new.disk in
    let h3 = c.take_unnamed.ensures.same.was_honest h in
    let h2 = c.take_named.ensures.same.was_honest h3 in
    let h1 = c.scan.ensures.same.was_honest h2 in
    let h0 = c.find_free.ensures.same.was_honest h1 in
    let r0 = c.read_tree.ensures.reads h0 in
    let r1 = only_reads_on s t0 t1 r0 (c.find_free.ensures.reads h1) in
    let r2 = only_reads_on s t1 t2 r1 (c.scan.ensures.reads h2) in
    let r3 = only_reads_on s t2 t3 r2 (c.take_named.ensures.reads h3) in
    let r4 = only_reads_on s t3 t4 r3 (c.take_unnamed.ensures.reads h) in
    r4

pub returns-in_err-confirm-clause-reads : goal.returns-in_err-confirm-clause-reads
returns-in_err-confirm-clause-reads g c h =
    let s = g.D.Disk.state c.args.disk.now in
    let t0 = g.D.Disk.state c.read_tree.new.disk in
    let t1 = g.D.Disk.state c.find_free.new.disk in
    let t2 = g.D.Disk.state c.scan.new.disk in
    let t3 = g.D.Disk.state c.take_named.new.disk in
    let t4 = g.D.Disk.state c.take_unnamed.new.disk in
    let t5 = g.D.Disk.state c.confirm.new.disk in
    let h4 = c.confirm.ensures.same.was_honest h in
    let h3 = c.take_unnamed.ensures.same.was_honest h4 in
    let h2 = c.take_named.ensures.same.was_honest h3 in
    let h1 = c.scan.ensures.same.was_honest h2 in
    let h0 = c.find_free.ensures.same.was_honest h1 in
    let r0 = c.read_tree.ensures.reads h0 in
    let r1 = only_reads_on s t0 t1 r0 (c.find_free.ensures.reads h1) in
    let r2 = only_reads_on s t1 t2 r1 (c.scan.ensures.reads h2) in
    let r3 = only_reads_on s t2 t3 r2 (c.take_named.ensures.reads h3) in
    let r4 = only_reads_on s t3 t4 r3 (c.take_unnamed.ensures.reads h4) in
    let r5 = only_reads_on s t4 t5 r4 (c.confirm.ensures.reads h) in
    r5

pub returns-clause-reads : goal.returns-clause-reads
returns-clause-reads g c h =
    let s = g.D.Disk.state c.args.disk.now in
    let t0 = g.D.Disk.state c.read_tree.new.disk in
    let t1 = g.D.Disk.state c.find_free.new.disk in
    let t2 = g.D.Disk.state c.scan.new.disk in
    let t3 = g.D.Disk.state c.take_named.new.disk in
    let t4 = g.D.Disk.state c.take_unnamed.new.disk in
    let t5 = g.D.Disk.state c.confirm.new.disk in
    let h4 = c.confirm.ensures.same.was_honest h in
    let h3 = c.take_unnamed.ensures.same.was_honest h4 in
    let h2 = c.take_named.ensures.same.was_honest h3 in
    let h1 = c.scan.ensures.same.was_honest h2 in
    let h0 = c.find_free.ensures.same.was_honest h1 in
    let r0 = c.read_tree.ensures.reads h0 in
    let r1 = only_reads_on s t0 t1 r0 (c.find_free.ensures.reads h1) in
    let r2 = only_reads_on s t1 t2 r1 (c.scan.ensures.reads h2) in
    let r3 = only_reads_on s t2 t3 r2 (c.take_named.ensures.reads h3) in
    let r4 = only_reads_on s t3 t4 r3 (c.take_unnamed.ensures.reads h4) in
    let r5 = only_reads_on s t4 t5 r4 (c.confirm.ensures.reads h) in
    r5

pub returns-clause-layout : goal.returns-clause-layout
returns-clause-layout g c h home is =
    c.in_ok-tree.ensures.layout (c.find_free.ensures.same.was_honest (c.scan.ensures.same.was_honest
    (c.take_named.ensures.same.was_honest (c.take_unnamed.ensures.same.was_honest
    (c.confirm.ensures.same.was_honest h))))) home is

pub returns-clause-silent : goal.returns-clause-silent
returns-clause-silent g c h none =
    let s = g.D.Disk.state c.args.disk.now in
    let t0 = g.D.Disk.state c.read_tree.new.disk in
    let t1 = g.D.Disk.state c.find_free.new.disk in
    let t2 = g.D.Disk.state c.scan.new.disk in
    let t3 = g.D.Disk.state c.take_named.new.disk in
    let t4 = g.D.Disk.state c.take_unnamed.new.disk in
    let h4 = c.confirm.ensures.same.was_honest h in
    let h3 = c.take_unnamed.ensures.same.was_honest h4 in
    let h2 = c.take_named.ensures.same.was_honest h3 in
    let h1 = c.scan.ensures.same.was_honest h2 in
    let h0 = c.find_free.ensures.same.was_honest h1 in
    let r0 = c.read_tree.ensures.reads h0 in
    let r1 = only_reads_on s t0 t1 r0 (c.find_free.ensures.reads h1) in
    let r2 = only_reads_on s t1 t2 r1 (c.scan.ensures.reads h2) in
    let r3 = only_reads_on s t2 t3 r2 (c.take_named.ensures.reads h3) in
    let r4 = only_reads_on s t3 t4 r3 (c.take_unnamed.ensures.reads h4) in
    let z0 = c.read_tree.ensures.same.size in
    let z1 = c.find_free.ensures.same.size ∙ z0 in
    let z2 = c.scan.ensures.same.size ∙ z1 in
    let z3 = c.take_named.ensures.same.size ∙ z2 in
    let z4 = c.take_unnamed.ensures.same.size ∙ z3 in
    let e4 : t4.contents ≡ s.contents = same_contents s.contents t4.contents r4.still.contents in
    moved (λ n k. (files : Files File) × SettledStands n k files) s.size t4.size s.contents t4.contents z4 e4
    (c.in_ok-confirm.ensures.silent h none)

pub returns-clause-surveyed : goal.returns-clause-surveyed
returns-clause-surveyed g c h =
    let s = g.D.Disk.state c.args.disk.now in
    let t0 = g.D.Disk.state c.read_tree.new.disk in
    let t1 = g.D.Disk.state c.find_free.new.disk in
    let t2 = g.D.Disk.state c.scan.new.disk in
    let t3 = g.D.Disk.state c.take_named.new.disk in
    let t4 = g.D.Disk.state c.take_unnamed.new.disk in
    let h4 = c.confirm.ensures.same.was_honest h in
    let h3 = c.take_unnamed.ensures.same.was_honest h4 in
    let h2 = c.take_named.ensures.same.was_honest h3 in
    let h1 = c.scan.ensures.same.was_honest h2 in
    let h0 = c.find_free.ensures.same.was_honest h1 in
    let r0 = c.read_tree.ensures.reads h0 in
    let r1 = only_reads_on s t0 t1 r0 (c.find_free.ensures.reads h1) in
    let r2 = only_reads_on s t1 t2 r1 (c.scan.ensures.reads h2) in
    let r3 = only_reads_on s t2 t3 r2 (c.take_named.ensures.reads h3) in
    let r4 = only_reads_on s t3 t4 r3 (c.take_unnamed.ensures.reads h4) in
    let z0 = c.read_tree.ensures.same.size in
    let z1 = c.find_free.ensures.same.size ∙ z0 in
    let z2 = c.scan.ensures.same.size ∙ z1 in
    let z3 = c.take_named.ensures.same.size ∙ z2 in
    let z4 = c.take_unnamed.ensures.same.size ∙ z3 in
    let e0 : t0.contents ≡ s.contents = same_contents s.contents t0.contents r0.still.contents in
    let e1 : t1.contents ≡ s.contents = same_contents s.contents t1.contents r1.still.contents in
    let e2 : t2.contents ≡ s.contents = same_contents s.contents t2.contents r2.still.contents in
    let e3 : t3.contents ≡ s.contents = same_contents s.contents t3.contents r3.still.contents in
    let e4 : t4.contents ≡ s.contents = same_contents s.contents t4.contents r4.still.contents in
    let tree = c.in_ok-tree.tree in
    let layout = layout_number tree.layout in
    let named = tree.files.items in
    let marks = tree.chains in
    let free = c.in_ok-free.free in
    let found = c.in_ok-found.found.items in
    let taken = c.in_ok-taken.taken in
    let unnamed = c.in_ok-unnamed.unnamed.items in
    let claimed = c.take_named.new.claimed in
    let search = c.args.search in
    let read = c.in_ok-tree.ensures.tree h0 in
    let is_free : AreFree s.size s.contents free = moved (λ n k. AreFree n k free) s.size t0.size s.contents t0.contents
    z0 e0 (c.in_ok-free.ensures.free h1) in
    let free_there : AreFree t1.size t1.contents free = moved (λ n k. AreFree n k free) t1.size s.size t1.contents
    s.contents (sym z1) (sym e1) is_free in
    let second = c.find_free.new.findings.items in
    let third = c.scan.new.findings.items in
    let fourth = c.take_named.new.findings.items in
    let fifth = c.take_unnamed.new.findings.items in
    let one = moved (λ n k. AreAdded n layout k tree.findings.items second) s.size t0.size s.contents t0.contents z0 e0
    (c.in_ok-free.ensures.added h1 layout) in
    let scanned = moved (λ n k. IsScanned n layout k search named found third) s.size t1.size s.contents t1.contents z1
    e1 (subst (λ (l : List SavedFile). IsScanned t1.size layout t1.contents search l found third)
    c.as_slice.ensures.value (c.in_ok-found.ensures.scanned h2 free_there)) in
    let two = moved (λ n k. AreAdded n layout k second third) s.size t1.size s.contents t1.contents z1 e1
    (c.in_ok-found.ensures.added h2 free_there) in
    let marked = c.in_ok-tree.ensures.marked h0 in
    let placed = moved (λ n k. AllByRecursion (IsNamedRead n layout k) named → AreApart named
    → AreMarked n layout k named marks.master marks.directories → AreFree n k free
    → ArePlaced n layout k named taken.files.items taken.doubtful.items fourth) s.size t2.size s.contents t2.contents
    z2 e2 (c.in_ok-taken.ensures.placed h3 layout) read.read read.apart marked is_free in
    let three = moved (λ n k. AllByRecursion (IsNamedRead n layout k) named → AreApart named
    → AreMarked n layout k named marks.master marks.directories → AreFree n k free
    → AreAdded n layout k third fourth) s.size t2.size s.contents t2.contents
    z2 e2 (c.in_ok-taken.ensures.added h3 layout) read.read read.apart marked is_free in
    let others = moved (λ n k. AllByRecursion (IsRead n layout k) found → AreApart found
    → AreTaken n layout k found unnamed fifth) s.size t3.size s.contents t3.contents z3 e3
    (c.in_ok-unnamed.ensures.taken h4 layout) scanned.read scanned.apart in
    let apart = apart_both s.size layout s.contents search named found read.apart scanned.apart scanned.at in
    let four = moved (λ n k. AllByRecursion (IsRead n layout k) found → (earlier : List SavedFile)
    → AllByRecursion (IsNamedRead n layout k) earlier → AreApart (earlier ++ found)
    → ((m : ℕ) → slice_index claimed m ≤ claims earlier m) → AreAdded n layout k fourth fifth) s.size t3.size
    s.contents t3.contents z3 e3 (c.in_ok-unnamed.ensures.added h4 layout) scanned.read named read.read apart
    c.in_ok-taken.ensures.grown in
    let few : (m : ℕ) → claims taken.files.items m + claims taken.doubtful.items m + claims unnamed m ≤ 4 = λ m.
    let held = c.in_ok-taken.ensures.held h3 m in
    let most = c.in_ok-unnamed.ensures.few c.in_ok-taken.ensures.few m in omega (arith, held, most) in
    survey_more s.size layout s.contents search taken.files.items taken.doubtful.items unnamed fifth
    c.confirm.new.findings.items
    (surveyed s.size layout s.contents search named found taken.files.items taken.doubtful.items unnamed
    tree.findings.items second third fourth fifth read one scanned two placed three others four few)
    (moved (λ n k. AreAdded n layout k fifth c.confirm.new.findings.items) s.size t4.size s.contents t4.contents z4 e4
    (c.in_ok-confirm.ensures.added h layout))
