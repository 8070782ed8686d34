use Rattle.std.proofs.Common.{◌≡◌, ◌+◌, ◌<◌, ℕ, is_none, Some, refl, sym, ap, subst, ◌∙◌, arith}
use Rattle.spec_image.specs.Common.{times}
use Rattle.alloctab.specs.Common.{TableState, holds}
use Rattle.volume.specs.Common.{begin_cost, entries_with, begun, begun_version, is_absent, version_before, pending_at}
use Rattle.volume.specs.Common.{is_create, IsWholeMemory, memory_of}
use Rattle.volume.specs.declared.pending.PendingVersion.{PendingVersion}
use Rattle.volume.proofs.BeginVersion.Beginnings.{absent_same, not_there, not_absent, cost_is, misfit_exists}
use Rattle.volume.proofs.BeginVersion.Beginnings.{misfit_absent, misfit_not, no_room, begun_inside, begun_once}
use Rattle.volume.proofs.BeginVersion.Beginnings.{begun_whole, known_place, named_here, before_none, has_version}
use Rattle.volume.proofs.BeginVersion.Beginnings.{fits_before, begun_hold}
use Rattle.volume.proofs.common.Growths.{Adds, entries_few}
use Rattle.volume.proofs.begin.begin_in_memory.Goals as goal

pub returns-in-Some-clause-exists : goal.returns-in-Some-clause-exists
returns-in-Some-clause-exists c d there =
    let o = c.in_ok-before.before in
    misfit_exists (is_create c.args.kind) (is_none o) (is_absent c.args.prime.file d) c.in-Some.code
    (absent_same c.requires.whole c.args.kind c.args.prime c.in_ok-before.ensures.before d there) c.in-Some.ensures

pub returns-in-Some-clause-not_found : goal.returns-in-Some-clause-not_found
returns-in-Some-clause-not_found c d there =
    let o = c.in_ok-before.before in
    misfit_absent (is_create c.args.kind) (is_none o) (is_absent c.args.prime.file d) c.in-Some.code
    (absent_same c.requires.whole c.args.kind c.args.prime c.in_ok-before.ensures.before d there) c.in-Some.ensures

pub returns-in-Some-clause-room : goal.returns-in-Some-clause-room
returns-in-Some-clause-room c d there prior named fits =
    let o = c.in_ok-before.before in
    let no = misfit_not (is_create c.args.kind) (is_none o) c.in-Some.code c.in-Some.ensures
    (fits_before c.requires.whole c.args.kind c.args.prime c.in_ok-before.ensures.before d there prior named fits) in
    (λ any. absurd no, λ more. absurd no)

pub begin_cost-cost-requires-clause-few : goal.begin_cost-cost-requires-clause-few
begin_cost-cost-requires-clause-few c d at =
    let few = entries_few c.args.memory.now.table.size (memory_of c.args.memory.now) c.args.prime.ppn
    c.in_ok-place.place
    d c.requires.whole at in
    omega arith

pub returns-then-not-can_book-clause-exists : goal.returns-then-not-can_book-clause-exists
returns-then-not-can_book-clause-exists c d there =
    let no = not_there c.requires.whole c.args.kind c.args.prime c.in_ok-before.ensures.before d there
    c.in_default.ensures in
    (λ any. cc, λ both. absurd (no both))

pub returns-then-not-can_book-clause-not_found : goal.returns-then-not-can_book-clause-not_found
returns-then-not-can_book-clause-not_found c d there =
    let no = not_absent c.requires.whole c.args.kind c.args.prime c.in_ok-before.ensures.before d there
    c.in_default.ensures in
    (λ any. cc, λ both. absurd (no both))

pub returns-then-not-can_book-clause-room : goal.returns-then-not-can_book-clause-room
returns-then-not-can_book-clause-room c d there prior named fits =
    let whole = c.requires.whole in
    let stands = c.in_ok-place.ensures.found in
    let e = known_place c.args.memory.now whole c.args.prime.ppn c.in_ok-place.place stands.0 stands.1 in
    let cost = cost_is whole c.args.kind c.args.prime c.in_ok-before.ensures.before d there c.in_ok-place.place
    stands.0 e.0 c.begin_cost-cost.result stands.1.is e.1 (c.begin_cost-cost.ensures.value e.0 e.1) prior named in
    let full = no_room _ _ _ c.can_book.result c.can_book.ensures c.if-not-can_book.true in
    (λ any. omega arith, λ more. refl)

pub returns-in_default-begin_version-clause-exists : goal.returns-in_default-begin_version-clause-exists
returns-in_default-begin_version-clause-exists c d there =
    let no = not_there c.requires.whole c.args.kind c.args.prime c.in_ok-before.ensures.before d there
    c.in_default.ensures in
    (λ any. cc, λ both. absurd (no both))

pub returns-in_default-begin_version-clause-not_found : goal.returns-in_default-begin_version-clause-not_found
returns-in_default-begin_version-clause-not_found c d there =
    let no = not_absent c.requires.whole c.args.kind c.args.prime c.in_ok-before.ensures.before d there
    c.in_default.ensures in
    (λ any. cc, λ both. absurd (no both))

pub returns-in_default-begin_version-clause-room : goal.returns-in_default-begin_version-clause-room
returns-in_default-begin_version-clause-room c d there prior named fits =
    let whole = c.requires.whole in
    let stands = c.in_ok-place.ensures.found in
    let e = known_place c.args.memory.now whole c.args.prime.ppn c.in_ok-place.place stands.0 stands.1 in
    let cost = cost_is whole c.args.kind c.args.prime c.in_ok-before.ensures.before d there c.in_ok-place.place
    stands.0 e.0 c.begin_cost-cost.result stands.1.is e.1 (c.begin_cost-cost.ensures.value e.0 e.1) prior named in
    let room = c.can_book.ensures.0 c.if-not-can_book.false in
    (λ any. cc, λ more. absurd (omega arith))

pub returns-then-is_err-clause-exists : goal.returns-then-is_err-clause-exists
returns-then-is_err-clause-exists c d there =
    let no = not_there c.requires.whole c.args.kind c.args.prime c.in_ok-before.ensures.before d there
    c.in_default.ensures in
    (λ any. cc, λ both. absurd (no both))

pub returns-then-is_err-clause-not_found : goal.returns-then-is_err-clause-not_found
returns-then-is_err-clause-not_found c d there =
    let no = not_absent c.requires.whole c.args.kind c.args.prime c.in_ok-before.ensures.before d there
    c.in_default.ensures in
    (λ any. cc, λ both. absurd (no both))

pub returns-then-is_err-clause-room : goal.returns-then-is_err-clause-room
returns-then-is_err-clause-room c d there prior named fits =
    let whole = c.requires.whole in
    let stands = c.in_ok-place.ensures.found in
    let e = known_place c.args.memory.now whole c.args.prime.ppn c.in_ok-place.place stands.0 stands.1 in
    let cost = cost_is whole c.args.kind c.args.prime c.in_ok-before.ensures.before d there c.in_ok-place.place
    stands.0 e.0 c.begin_cost-cost.result stands.1.is e.1 (c.begin_cost-cost.ensures.value e.0 e.1) prior named in
    let room = c.can_book.ensures.0 c.if-not-can_book.false in
    (λ any. cc, λ more. absurd (omega arith))

pub returns-clause-exists : goal.returns-clause-exists
returns-clause-exists c d there =
    let no = not_there c.requires.whole c.args.kind c.args.prime c.in_ok-before.ensures.before d there
    c.in_default.ensures in
    (λ any. cc, λ both. absurd (no both))

pub returns-clause-not_found : goal.returns-clause-not_found
returns-clause-not_found c d there =
    let no = not_absent c.requires.whole c.args.kind c.args.prime c.in_ok-before.ensures.before d there
    c.in_default.ensures in
    (λ any. cc, λ both. absurd (no both))

pub returns-clause-room : goal.returns-clause-room
returns-clause-room c d there prior named fits =
    let whole = c.requires.whole in
    let stands = c.in_ok-place.ensures.found in
    let e = known_place c.args.memory.now whole c.args.prime.ppn c.in_ok-place.place stands.0 stands.1 in
    let cost = cost_is whole c.args.kind c.args.prime c.in_ok-before.ensures.before d there c.in_ok-place.place
    stands.0 e.0 c.begin_cost-cost.result stands.1.is e.1 (c.begin_cost-cost.ensures.value e.0 e.1) prior named in
    let room = c.can_book.ensures.0 c.if-not-can_book.false in
    (λ any. cc, λ more. absurd (omega arith))

pub hold_blocks-requires-clause-inside : goal.hold_blocks-requires-clause-inside
hold_blocks-requires-clause-inside c n some =
    let memory = memory_of c.args.memory.now in
    let version : c.in-Ok.version
    ≡ begun c.args.kind c.args.prime (version_before memory.live c.in_ok-before.before) = c.in-Ok.ensures in
    let inside = begun_inside c.requires.whole c.booked-booked.ensures.sound c.args.kind c.args.prime
    c.in_ok-before.ensures.before n (subst (λ (p : PendingVersion). 0 < times n p.version.blocks) version some) in
    inside.below

pub hold_blocks-requires-clause-fits : goal.hold_blocks-requires-clause-fits
hold_blocks-requires-clause-fits c n =
    let memory = memory_of c.args.memory.now in
    let o = c.in_ok-before.before in
    let is = c.in_ok-before.ensures.before in
    let whole = c.requires.whole in
    let version : c.in-Ok.version ≡ begun c.args.kind c.args.prime (version_before memory.live o) = c.in-Ok.ensures in
    let few = begun_hold whole c.args.kind c.args.prime is n (c.begin_cost-cost.result)
    (c.can_book.ensures.0 c.if-not-can_book.false) in
    let once = begun_once whole c.booked-booked.ensures.sound c.args.kind c.args.prime is n in
    let same = ap (λ (p : PendingVersion). times n p.version.blocks) version in
    omega arith

pub returns-clause-begun : goal.returns-clause-begun
returns-clause-begun c =
    let m = c.args.memory.now in
    let memory = memory_of m in
    let o = c.in_ok-before.before in
    let is = c.in_ok-before.ensures.before in
    let whole = c.requires.whole in
    let version : c.in-Ok.version ≡ begun c.args.kind c.args.prime (version_before memory.live o) = c.in-Ok.ensures in
    let stands = c.in_ok-place.ensures.found in
    let e = known_place m whole c.args.prime.ppn c.in_ok-place.place stands.0 stands.1 in
    let cost : c.begin_cost-cost.result
    ≡ begin_cost c.args.kind (entries_with memory e.0 c.args.prime.ppn) (version_before memory.live o) =
    c.begin_cost-cost.ensures.value e.0 e.1 in
    let slots : c.reserve.new.self.slots ≡ m.pending.slots = ap (λ s. s.slots) c.reserve.ensures.rest_kept in
    let table : c.book.new.self
    ≡ record m.table { held = c.hold_blocks.new.table.held; booked = m.table.booked + c.begin_cost-cost.result } =
    c.book.ensures ∙ (λ i. record (c.hold_blocks.ensures.rest i) {
      booked = (c.hold_blocks.ensures.rest i).booked + c.begin_cost-cost.result;
    }) in
    let held : (n : ℕ) → holds c.hold_blocks.new.table n
    ≡ holds m.table n + times n (begun_version c.args.kind (version_before memory.live o)).blocks = λ n.
    c.hold_blocks.ensures.held n
    ∙ ap (λ (p : PendingVersion). holds m.table n + times n p.version.blocks) version in
    record {
      directory = e.0;
      there = (c.in_ok-place.place, stands.0, stands.1, e.1);
      old = version_before memory.live o;
      named = named_here whole c.args.kind c.args.prime is e.0 (c.in_ok-place.place, stands.0, stands.1, e.1);
      is_new = c.in_default.ensures ∙ sym (before_none memory.live o
          (has_version whole c.booked-booked.ensures.sound c.args.kind c.args.prime is));
      vacant = sym (ap (λ ps. pending_at ps c.insert_reserved.result) slots) ∙ c.insert_reserved.ensures.was_vacant;
      here = c.insert_reserved.ensures.updates.changed ∙ ap Some version;
      others = λ k other. c.insert_reserved.ensures.updates.others k other ∙ ap (λ ps. pending_at ps k) slots;
      live = refl;
      keys = refl;
      held = λ n. ap (λ (t : TableState). holds t n) table ∙ held n;
      known = λ i. record memory.known {
        table = (table ∙ (λ j. record m.table {
          held = ap (λ (t : TableState). t.held) (sym table) j;
          booked = m.table.booked + cost j;
        })) i;
      };
    }

pub returns-clause-whole : goal.returns-clause-whole
returns-clause-whole c =
    let m = c.args.memory.now in
    let memory = memory_of m in
    let o = c.in_ok-before.before in
    let whole = c.requires.whole in
    let version : c.in-Ok.version ≡ begun c.args.kind c.args.prime (version_before memory.live o) = c.in-Ok.ensures in
    let stands = c.in_ok-place.ensures.found in
    let e = known_place m whole c.args.prime.ppn c.in_ok-place.place stands.0 stands.1 in
    let cost : c.begin_cost-cost.result
    ≡ begin_cost c.args.kind (entries_with memory e.0 c.args.prime.ppn) (version_before memory.live o) =
    c.begin_cost-cost.ensures.value e.0 e.1 in
    let slots : c.reserve.new.self.slots ≡ m.pending.slots = ap (λ s. s.slots) c.reserve.ensures.rest_kept in
    let table : c.book.new.self
    ≡ record m.table { held = c.hold_blocks.new.table.held; booked = m.table.booked + c.begin_cost-cost.result } =
    c.book.ensures ∙ (λ i. record (c.hold_blocks.ensures.rest i) {
      booked = (c.hold_blocks.ensures.rest i).booked + c.begin_cost-cost.result;
    }) in
    let held : (n : ℕ) → holds c.hold_blocks.new.table n
    ≡ holds m.table n + times n (begun_version c.args.kind (version_before memory.live o)).blocks = λ n.
    c.hold_blocks.ensures.held n
    ∙ ap (λ (p : PendingVersion). holds m.table n + times n p.version.blocks) version in
    let adds : Adds m.pending.slots c.insert_reserved.new.self.slots c.insert_reserved.result
    (begun c.args.kind c.args.prime (version_before memory.live o)) = record {
      vacant = sym (ap (λ ps. pending_at ps c.insert_reserved.result) slots) ∙ c.insert_reserved.ensures.was_vacant;
      here = c.insert_reserved.ensures.updates.changed ∙ ap Some version;
      others = λ k other. c.insert_reserved.ensures.updates.others k other ∙ ap (λ ps. pending_at ps k) slots;
    } in
    let room = c.can_book.ensures.0 c.if-not-can_book.false in
    subst (λ (t : TableState). IsWholeMemory t.size
    (memory_of (record {
      master = m.master;
      directories = m.directories;
      versions = m.versions;
      pending = c.insert_reserved.new.self;
      table = t;
    }))) (sym table)
    (begun_whole whole c.booked-booked.ensures.sound c.args.kind c.args.prime c.in_ok-before.ensures.before
    c.insert_reserved.new.self.slots c.insert_reserved.result adds c.in_default.ensures
    c.hold_blocks.new.table.held held c.in_ok-place.place stands.0 e.0 stands.1.is e.1
    (m.table.booked + c.begin_cost-cost.result)
    (ap (λ (n : ℕ). m.table.booked + n) cost) room)
