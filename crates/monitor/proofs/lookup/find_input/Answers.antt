use Rattle.std.proofs.Common.{◌≡◌, ◌∙◌, sym, ap, subst}
use Rattle.spec_image.specs.Common.{number_of, without_serials, file_at, place_of}
use Rattle.spec_machine.specs.Common.{lookup_answer, place_at}
use Rattle.spec_machine.specs.declared.call.Reply.TheVariants.{Done, Refused}
use Rattle.volume.specs.Common.{IsSoundMemory}
use Rattle.monitor.specs.Common.{job_of}
use Rattle.monitor.proofs.EnterFile.Outcomes.{at_place}
use Rattle.monitor.proofs.LookupFile.LookupAnswers.{nowhere, refused, done, held, not_held}
use Rattle.monitor.proofs.lookup.find_input.Goals as goal

pub returns-in_default-clause-answered : goal.returns-in_default-clause-answered
returns-in_default-clause-answered g c h s known w m free inside =
    nowhere (g.D.Disk.state c.args.volume.now.disk) c.args.volume.now.map s known
    (subst (IsSoundMemory (g.D.Disk.state c.args.volume.now.disk) c.args.volume.now.map) c.requires.alive
    c.requires.sound)
    h w c.args.job.now m
    c.args.address free inside (place_at (job_of w c.args.job.now) c.args.address) c.in_default.ensures.none

pub returns-in-Err-clause-answered : goal.returns-in-Err-clause-answered
returns-in-Err-clause-answered g c h s known w m free inside =
    let d = g.D.Disk.state c.args.volume.now.disk in
    let map = c.args.volume.now.map in
    let job = c.args.job.now in
    subst (λ p. lookup_answer s (job_of w job) m c.args.address p ≡ Refused (number_of c.in-Err.code))
    (at_place w job c.args.address c.in-Some.ppn c.name_at-file.result c.in-Some.ensures.there c.name_at-file.ensures.0
    c.name_at-file.ensures.1)
    (refused d map s known (subst (IsSoundMemory d map) c.requires.alive c.requires.sound) h w job m c.args.address
    free inside (place_of c.in-Some.ppn c.name_at-file.result) c.in-Err.code
    (c.in-Err.ensures.found h c.requires.alive (without_serials s.files) known.files))

pub returns-in-Ok-pin-clause-answered : goal.returns-in-Ok-pin-clause-answered
returns-in-Ok-pin-clause-answered g c h s known w m free inside =
    let was = subst (λ disk. (g.D.Disk.state disk).honest) c.pin.ensures.untouched.0 h in
    let d = g.D.Disk.state c.args.volume.now.disk in
    let map = c.args.volume.now.map in
    let job = c.args.job.now in
    let place = place_of c.in-Some.ppn c.name_at-file.result in
    let named : place ≡ place_at (job_of w job) c.args.address = at_place w job c.args.address c.in-Some.ppn
    c.name_at-file.result c.in-Some.ensures.there c.name_at-file.ensures.0 c.name_at-file.ensures.1 in
    let sound = subst (IsSoundMemory d map) c.requires.alive c.requires.sound in
    let may = c.in-Ok.ensures.found was c.requires.alive (without_serials s.files) known.files in
    let x = held d map s known sound was w job m c.args.address free inside place c.in-Ok.facts may
    c.pin.new.self.map.live c.in-Ok-pin.pin
    (c.in-Ok-pin.ensures.value h c.requires.alive (without_serials s.files) known.files) in (
      subst (λ p. lookup_answer s (job_of w job) m c.args.address p ≡ Done) named
          (done d map s known sound was w job m c.args.address free inside place c.in-Ok.facts may),
      record {
        version = x.0;
        there = ap (file_at s.files) (sym named) ∙ x.1;
        shown = x.2;
        protection = x.2.protection;
        short = x.3;
        held = x.4;
        pinned_at = x.5;
        body = x.6;
      },
    )

pub returns-in-Err-pin-clause-answered : goal.returns-in-Err-pin-clause-answered
returns-in-Err-pin-clause-answered g c h s known w m free inside =
    let was = subst (λ disk. (g.D.Disk.state disk).honest) c.pin.ensures.untouched.0 h in
    let d = g.D.Disk.state c.args.volume.now.disk in
    let map = c.args.volume.now.map in
    let may = c.in-Ok.ensures.found was c.requires.alive (without_serials s.files) known.files in
    absurd
    (not_held d map s known (subst (IsSoundMemory d map) c.requires.alive c.requires.sound) was w c.args.job.now
    m c.args.address free inside (place_of c.in-Some.ppn c.name_at-file.result) c.in-Ok.facts may
    c.pin.new.self.map.live c.in-Err-pin.field-0
    (c.in-Err-pin.ensures.value h c.requires.alive (without_serials s.files) known.files))
