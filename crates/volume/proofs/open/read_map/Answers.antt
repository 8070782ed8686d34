use Rattle.std.proofs.Common.{◌≡◌, ℕ, map, length, sym, refl, ap, subst, ◌∙◌, Err, IsErrOf}
use Rattle.std.proofs.lemmas.List.{length-map}
use Rattle.std.proofs.lemmas.Result.{err_from_is_err_and}
use Rattle.blockdisk.specs.Common.{Contents, same_contents}
use Rattle.spec_image.specs.Common.{IsHome, layout_number}
use Rattle.alloctab.specs.Common.{InTable, digit_at, TableState}
use Rattle.directory.specs.Common.{viewed, chain_weaker}
use Rattle.volume.specs.Common.{master_view, known_directory, cost_of_known, home_in, IsOnlySpace, IsMapFound}
use Rattle.volume.specs.Common.{IsRightFor, IsWrongFor, NamesInSpace, SettledRefuses}
use Rattle.volume.specs.declared.error.VolumeError.TheVariants.{Device}
use Rattle.volume.proofs.common.DisksAsked.{reads_disk_served, reads_disk_ok, reads_disk_on, reads_disk_handed}
use Rattle.volume.proofs.common.PassedErrors.{handed, found_on, home_named, table_named, named_on}
use Rattle.volume.proofs.VolumeStart.FoundMaps.{map_found, map_held, table_fault}
use Rattle.volume.proofs.common.LayoutLimits.{wide_entry}
use Rattle.volume.proofs.VolumeStart.Opens.{table_refused, right_bits, read_whole, read_booked}
use Rattle.volume.proofs.open.read_map.Goals as goal

pub returns-in_err-master-clause-fault : goal.returns-in_err-master-clause-fault
returns-in_err-master-clause-fault g c h =
    let s = g.D.Disk.state c.args.disk.now in
    let now = g.D.Disk.state c.read_home.new.disk in
    let p = err_from_is_err_and c.from_residual-in_err-master.result c.from_residual-in_err-master.ensures.1 in
    let same = same_contents s.contents now.contents
    (c.read_home.ensures.disk.reads (c.read_tree.ensures.disk.same.was_honest h)).still.contents in
    let first = c.in_ok-home.home.master in
    let layout = layout_number c.in_ok-home.home.layout in
    let home : IsHome now.size now.contents (home_in layout first) =
    subst (λ (n : ℕ). IsHome n now.contents (home_in layout first)) (sym c.read_home.ensures.disk.same.size)
    (subst (λ (contents : Contents). IsHome s.size contents (home_in layout first)) (sym same)
    (c.in_ok-home.ensures.ok (c.read_tree.ensures.disk.same.was_honest h))) in
    handed (SettledRefuses s.size s.contents) c.from_residual-in_err-master.result c.read_tree.result p.0
    c.in_err-master.field-0.0 p.1 p.2 c.in_err-master.was
    (found_on (SettledRefuses now.size now.contents) (SettledRefuses s.size s.contents) c.read_tree.result
    (λ error met. subst (λ contents. SettledRefuses s.size contents error) same
    (subst (λ (n : ℕ). SettledRefuses n now.contents error) c.read_home.ensures.disk.same.size met))
    (c.read_tree.ensures.fault h home))

pub returns-in_err-master-clause-disk : goal.returns-in_err-master-clause-disk
returns-in_err-master-clause-disk g c =
    let s = g.D.Disk.state c.args.disk.now in
    let first = g.D.Disk.state c.read_home.new.disk in
    let second = g.D.Disk.state c.read_tree.new.disk in
    let p = err_from_is_err_and c.from_residual-in_err-master.result c.from_residual-in_err-master.ensures.1 in
    reads_disk_handed s second c.from_residual-in_err-master.result c.read_tree.result p.0 c.in_err-master.field-0.0
    Device p.1 p.2 c.in_err-master.was
    (reads_disk_on s first second (IsErrOf c.read_tree.result Device)
    (reads_disk_served s first (IsErrOf c.read_home.result Device)
    (λ (is : c.read_home.result ≡ Err Device). let was = c.in_ok-home.was in cc) c.read_home.ensures.disk)
    c.read_tree.ensures.disk)

pub returns-in_err-table-clause-disk : goal.returns-in_err-table-clause-disk
returns-in_err-table-clause-disk g c =
    let s = g.D.Disk.state c.args.disk.now in
    let first = g.D.Disk.state c.read_home.new.disk in
    let second = g.D.Disk.state c.read_tree.new.disk in
    let third = g.D.Disk.state c.load_table.new.disk in
    let p = err_from_is_err_and c.from_residual-in_err-table.result c.from_residual-in_err-table.ensures.1 in
    reads_disk_handed s third c.from_residual-in_err-table.result c.load_table.result p.0 c.in_err-table.field-0.0
    Device p.1 p.2 c.in_err-table.was
    (reads_disk_on s second third (IsErrOf c.load_table.result Device)
    (reads_disk_on s first second ⊥
    (reads_disk_served s first (IsErrOf c.read_home.result Device)
    (λ (is : c.read_home.result ≡ Err Device). let was = c.in_ok-home.was in cc) c.read_home.ensures.disk)
    (reads_disk_served first second (IsErrOf c.read_tree.result Device)
    (λ (is : c.read_tree.result ≡ Err Device). let was = c.in_ok-master.was in cc) c.read_tree.ensures.disk))
    c.load_table.ensures.disk)

pub returns-clause-disk : goal.returns-clause-disk
returns-clause-disk g c =
    let s = g.D.Disk.state c.args.disk.now in
    let first = g.D.Disk.state c.read_home.new.disk in
    let second = g.D.Disk.state c.read_tree.new.disk in
    let third = g.D.Disk.state c.load_table.new.disk in
    reads_disk_ok s third (reads_disk_on s second third ⊥
    (reads_disk_on s first second ⊥
    (reads_disk_served s first (IsErrOf c.read_home.result Device)
    (λ (is : c.read_home.result ≡ Err Device). let was = c.in_ok-home.was in cc) c.read_home.ensures.disk)
    (reads_disk_served first second (IsErrOf c.read_tree.result Device)
    (λ (is : c.read_tree.result ≡ Err Device). let was = c.in_ok-master.was in cc) c.read_tree.ensures.disk))
    (reads_disk_served second third (IsErrOf c.load_table.result Device)
    (λ (is : c.load_table.result ≡ Err Device). let was = c.in_ok-table.was in cc) c.load_table.ensures.disk))

pub returns-in_err-table-clause-fault : goal.returns-in_err-table-clause-fault
returns-in_err-table-clause-fault g c h =
    let s = g.D.Disk.state c.args.disk.now in
    let now = g.D.Disk.state c.read_home.new.disk in
    let then = g.D.Disk.state c.read_tree.new.disk in
    let size = c.read_home.ensures.disk.same.size in
    let same = same_contents s.contents now.contents
    (c.read_home.ensures.disk.reads
    (c.read_tree.ensures.disk.same.was_honest (c.load_table.ensures.disk.same.was_honest h))).still.contents in
    let later : then.contents ≡ s.contents = same_contents s.contents then.contents
    (λ n. (c.read_tree.ensures.disk.reads (c.load_table.ensures.disk.same.was_honest h)).still.contents n
    ∙ (c.read_home.ensures.disk.reads
    (c.read_tree.ensures.disk.same.was_honest (c.load_table.ensures.disk.same.was_honest h))).still.contents n) in
    let sizes : then.size ≡ s.size = c.read_tree.ensures.disk.same.size ∙ size in
    let first = c.in_ok-home.home.master in
    let layout = layout_number c.in_ok-home.home.layout in
    let home : IsHome now.size now.contents (home_in layout first) =
    subst (λ (n : ℕ). IsHome n now.contents (home_in layout first)) (sym size)
    (subst (λ (contents : Contents). IsHome s.size contents (home_in layout first)) (sym same)
    (c.in_ok-home.ensures.ok (c.read_tree.ensures.disk.same.was_honest (c.load_table.ensures.disk.same.was_honest h))))
    in
    let master = viewed master_view c.in_ok-master.master in
    let directories = map known_directory c.in_ok-master.directories.items in
    let reached = c.read_tree.new.reached in
    let read : IsMapFound s.size s.contents layout first master directories (digit_at reached) =
    subst (λ (contents : Contents). IsMapFound s.size contents layout first master directories (digit_at reached)) same
    (subst (λ (n : ℕ). IsMapFound n now.contents layout first master directories (digit_at reached)) size
    (c.in_ok-master.ensures.read (c.load_table.ensures.disk.same.was_honest h) home)) in
    let only : IsOnlySpace s.size reached = subst (λ (n : ℕ). IsOnlySpace n reached) size
    c.in_ok-master.ensures.space in
    let p = err_from_is_err_and c.from_residual-in_err-table.result c.from_residual-in_err-table.ensures.1 in
    handed (SettledRefuses s.size s.contents) c.from_residual-in_err-table.result c.load_table.result p.0
    c.in_err-table.field-0.0 p.1 p.2 c.in_err-table.was
    (table_refused s.size s.contents then.contents reached c.load_table.result later c.load_table.ensures.only
    (λ n is. subst (λ (k : ℕ). IsWrongFor k then.contents reached n) sizes (c.load_table.ensures.wrong h n is))
    (λ n wrong. table_fault s.size s.contents layout first master directories (digit_at reached) read reached n
    (λ k. refl) only wrong))

pub returns-clause-held : goal.returns-clause-held
returns-clause-held g c h =
    let s = g.D.Disk.state c.args.disk.now in
    let now = g.D.Disk.state c.read_home.new.disk in
    let then = g.D.Disk.state c.read_tree.new.disk in
    let size = c.read_home.ensures.disk.same.size in
    let same = same_contents s.contents now.contents
    (c.read_home.ensures.disk.reads
    (c.read_tree.ensures.disk.same.was_honest (c.in_ok-table.ensures.disk.same.was_honest h))).still.contents in
    let later : then.contents ≡ s.contents = same_contents s.contents then.contents
    (λ n. (c.read_tree.ensures.disk.reads (c.in_ok-table.ensures.disk.same.was_honest h)).still.contents n
    ∙ (c.read_home.ensures.disk.reads
    (c.read_tree.ensures.disk.same.was_honest (c.in_ok-table.ensures.disk.same.was_honest h))).still.contents n) in
    let sizes : then.size ≡ s.size = c.read_tree.ensures.disk.same.size ∙ size in
    let first = c.in_ok-home.home.master in
    let layout = layout_number c.in_ok-home.home.layout in
    let home : IsHome now.size now.contents (home_in layout first) =
    subst (λ (n : ℕ). IsHome n now.contents (home_in layout first)) (sym size)
    (subst (λ (contents : Contents). IsHome s.size contents (home_in layout first)) (sym same)
    (c.in_ok-home.ensures.ok (c.read_tree.ensures.disk.same.was_honest (c.in_ok-table.ensures.disk.same.was_honest h))))
    in
    let master = viewed master_view c.in_ok-master.master in
    let directories = map known_directory c.in_ok-master.directories.items in
    let reached = c.read_tree.new.reached in
    let read : IsMapFound s.size s.contents layout first master directories (digit_at reached) =
    subst (λ (contents : Contents). IsMapFound s.size contents layout first master directories (digit_at reached)) same
    (subst (λ (n : ℕ). IsMapFound n now.contents layout first master directories (digit_at reached)) size
    (c.in_ok-master.ensures.read (c.in_ok-table.ensures.disk.same.was_honest h) home)) in
    let only : IsOnlySpace s.size reached = subst (λ (n : ℕ). IsOnlySpace n reached) size
    c.in_ok-master.ensures.space in
    let right : IsRightFor s.size s.contents reached c.in_ok-table.table =
    subst (λ (contents : Contents). IsRightFor s.size contents reached c.in_ok-table.table) later
    (subst (λ (n : ℕ). IsRightFor n then.contents reached c.in_ok-table.table) sizes (c.in_ok-table.ensures.right h)) in
    let bits : c.book_map.new.table.bits
    ≡ c.in_ok-table.table.bits = ap (λ (t : TableState). t.bits) c.book_map.ensures in
    let booked : IsRightFor s.size s.contents reached c.book_map.new.table = right_bits s.size s.contents
    reached c.in_ok-table.table c.book_map.new.table bits right in (
      map_found s.size s.contents layout first master directories (digit_at reached) read,
      map_held s.size s.contents layout first master directories (digit_at reached) read reached c.book_map.new.table
          (λ k. refl) only booked,
      refl,
    )

pub returns-clause-booked : goal.returns-clause-booked
returns-clause-booked g c =
    let s = g.D.Disk.state c.args.disk.now in
    let then = g.D.Disk.state c.read_tree.new.disk in
    let sizes : then.size ≡ s.size = c.read_tree.ensures.disk.same.size ∙ c.read_home.ensures.disk.same.size in
    let master = c.in_ok-master.master in
    let directories = c.in_ok-master.directories in
    let booked : c.book_map.new.table
    ≡ record c.in_ok-table.table {
      booked = cost_of_known (viewed master_view master)
          (map known_directory directories.items);
    } =
    c.book_map.ensures
    ∙ (λ i. record c.in_ok-table.table {
      booked = cost_of_known (viewed master_view master)
          (map known_directory (c.deref.ensures.value i));
    }) in
    read_booked s.size then.size (record {
      master = viewed master_view master;
      directories = map known_directory directories.items;
      table = c.book_map.new.table;
    }) c.in_ok-table.table sizes booked c.in_ok-table.ensures.unheld

pub returns-clause-whole : goal.returns-clause-whole
returns-clause-whole g c =
    let s = g.D.Disk.state c.args.disk.now in
    let now = g.D.Disk.state c.read_home.new.disk in
    let then = g.D.Disk.state c.read_tree.new.disk in
    let size : now.size ≡ s.size = c.read_home.ensures.disk.same.size in
    let sizes : then.size ≡ s.size = c.read_tree.ensures.disk.same.size ∙ size in
    let master = c.in_ok-master.master in
    let directories = c.in_ok-master.directories in
    let aligned : length (map known_directory directories.items) ≡ length (map master_view master.entries) =
    length-map directories.items known_directory ∙ c.in_ok-master.ensures.aligned
    ∙ sym (length-map master.entries master_view) in
    let booked : c.book_map.new.table
    ≡ record c.in_ok-table.table {
      booked = cost_of_known (viewed master_view master)
          (map known_directory directories.items);
    } =
    c.book_map.ensures
    ∙ (λ i. record c.in_ok-table.table {
      booked = cost_of_known (viewed master_view master)
          (map known_directory (c.deref.ensures.value i));
    }) in
    read_whole s.size now.size then.size
    (record {
      master = viewed master_view master;
      directories = map known_directory directories.items;
      table = c.book_map.new.table;
    }) c.in_ok-table.table c.read_tree.new.reached size sizes
    c.in_ok-home.ensures.volume
    (chain_weaker (wide_entry (layout_number c.in_ok-home.home.layout)) (viewed master_view master)
    c.in_ok-master.ensures.chain) c.in_ok-master.ensures.inside aligned
    c.in_ok-master.ensures.whole booked
    c.in_ok-table.ensures.size c.in_ok-table.ensures.unchanged c.in_ok-table.ensures.wanted
    c.in_ok-master.ensures.marked

-- The block that is named.

pub returns-in_err-home-clause-named : goal.returns-in_err-home-clause-named
returns-in_err-home-clause-named g c =
    let size = (g.D.Disk.state c.args.disk.now).size in
    let p = err_from_is_err_and c.from_residual.result c.from_residual.ensures.1 in
    handed (NamesInSpace size) c.from_residual.result c.read_home.result p.0 c.in_err-home.field-0.0 p.1
    p.2 c.in_err-home.was (home_named size c.read_home.result c.read_home.ensures.only)

pub returns-in_err-master-clause-named : goal.returns-in_err-master-clause-named
returns-in_err-master-clause-named g c =
    let size = (g.D.Disk.state c.args.disk.now).size in
    let p = err_from_is_err_and c.from_residual-in_err-master.result c.from_residual-in_err-master.ensures.1 in
    handed (NamesInSpace size) c.from_residual-in_err-master.result c.read_tree.result p.0 c.in_err-master.field-0.0
    p.1 p.2 c.in_err-master.was
    (named_on (g.D.Disk.state c.read_home.new.disk).size size c.read_tree.result c.read_home.ensures.disk.same.size
    c.read_tree.ensures.named)

pub returns-in_err-table-clause-named : goal.returns-in_err-table-clause-named
returns-in_err-table-clause-named g c =
    let size = (g.D.Disk.state c.args.disk.now).size in
    let p = err_from_is_err_and c.from_residual-in_err-table.result c.from_residual-in_err-table.ensures.1 in
    handed (NamesInSpace size) c.from_residual-in_err-table.result c.load_table.result p.0 c.in_err-table.field-0.0
    p.1 p.2 c.in_err-table.was
    (table_named size c.load_table.result c.load_table.ensures.only
    (λ n is. subst (λ (k : ℕ). InTable k n) (c.read_tree.ensures.disk.same.size ∙ c.read_home.ensures.disk.same.size)
    (c.load_table.ensures.named n is)))
