use Rattle.std.proofs.Common.{◌≡◌, ◌+◌, ◌*◌, ◌-◌, ◌/◌, ◌<◌, length, refl, arith, Some, None}
use Rattle.std.proofs.lemmas.Grind.{common_steps}
use Rattle.imagefile.specs.declared.form.Form.TheVariants.{Wide}
use Rattle.imagefile.proofs.Groups.{bad_within, bad_place, group_whole, group_bad}
use Rattle.imagefile.proofs.ImageCalls.{group_verified}
use Rattle.imagefile.proofs.codec.verify_wide.Goals as goal

pub overflow_cast-result : goal.overflow_cast-result
overflow_cast-result g c =
    let long : length c.read_at.new.bytes ≡ (c.args.end - c.args.first) * 1024 = grind (arith, common_steps) in
    let place : c.in-Some.place / 128 < c.args.end - c.args.first = bad_place c.args.first c.args.end _
    c.read_at.new.bytes c.requires.some long refl c.in-Some.place ((c.in-Some.ensures c.in-Some.place).0 refl) in
    omega arith

pub overflow_add-result : goal.overflow_add-result
overflow_add-result g c =
    let long : length c.read_at.new.bytes ≡ (c.args.end - c.args.first) * 1024 = grind (arith, common_steps) in
    let place : c.in-Some.place / 128 < c.args.end - c.args.first = bad_place c.args.first c.args.end _
    c.read_at.new.bytes c.requires.some long refl c.in-Some.place ((c.in-Some.ensures c.in-Some.place).0 refl) in
    omega arith

pub returns-in-None-clause-verifies : goal.returns-in-None-clause-verifies
returns-in-None-clause-verifies g c =
    let s = g.F.Durable.state c.args.file.now in
    let long : length c.read_at.new.bytes ≡ (c.args.end - c.args.first) * 1024 = grind (arith, common_steps) in
    λ blocks. group_verified Wide blocks c.args.first c.args.end s (g.F.Durable.state c.read_at.new.self) None
    c.in_ok-read_at.ensures.same tt
    (λ h. group_whole c.args.first c.args.end _ c.read_at.new.bytes c.requires.some (omega arith) (omega arith)
    s.bytes c.place_of.result c.place_of.ensures (c.in_ok-read_at.ensures.read h) c.first_bad_word.result c.in-None.is
    c.first_bad_word.ensures)
    c.in_ok-read_at.ensures.keeps c.in_ok-read_at.ensures.served

pub returns-in-Some-clause-verifies : goal.returns-in-Some-clause-verifies
returns-in-Some-clause-verifies g c =
    let s = g.F.Durable.state c.args.file.now in
    let bad = (c.in-Some.ensures c.in-Some.place).0 refl in
    let long : length c.read_at.new.bytes ≡ (c.args.end - c.args.first) * 1024 = grind (arith, common_steps) in
    λ blocks. group_verified Wide blocks c.args.first c.args.end s (g.F.Durable.state c.read_at.new.self)
    (Some (c.args.first + c.in-Some.place / 128)) c.in_ok-read_at.ensures.same
    (bad_within c.args.first c.args.end _ c.read_at.new.bytes c.requires.some long refl c.in-Some.place bad)
    (λ h. group_bad c.args.first c.args.end _ c.read_at.new.bytes c.requires.some (omega arith) (omega arith)
    s.bytes c.place_of.result c.place_of.ensures (c.in_ok-read_at.ensures.read h) c.in-Some.place bad)
    c.in_ok-read_at.ensures.keeps c.in_ok-read_at.ensures.served
