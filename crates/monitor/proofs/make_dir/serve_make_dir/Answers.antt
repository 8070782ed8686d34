use Rattle.std.proofs.Common.{◌≡◌, refl, ap, subst, ◌∙◌, inl, inr, rules}
use Rattle.spec_image.specs.Common.{number_of, File, Files}
use Rattle.spec_machine.specs.declared.call.Reply.TheVariants.{AddressCheck, Done, Refused}
use Rattle.volume.specs.Common.{ChangesFiles, files_made}
use Rattle.monitor.specs.Common.{asked_owner, directory_protection_asked, early_answer, IsAbsent, IsCrowded}
use Rattle.monitor.specs.Common.{IsRefusedBy}
use Rattle.monitor.proofs.MakeDir.Serves.{checked_serves, denied_serves, lacking_serves, make_broken, make_done}
use Rattle.monitor.proofs.make_dir.serve_make_dir.Goals as goal

pub returns-then-lies_outside-clause-serving : goal.returns-then-lies_outside-clause-serving
returns-then-lies_outside-clause-serving g c =
    let volume = c.args.volume.now in
    let job = c.args.job.now in
    let outside : early_answer job.ppn job.core c.args.address ≡ AddressCheck = search rules in
    checked_serves g.D.Disk.state g.met.D.Disk.only_now volume.disk volume.map volume.failed job c.requires.ready
    c.args.address outside

pub returns-in_default-clause-serving : goal.returns-in_default-clause-serving
returns-in_default-clause-serving g c =
    let volume = c.args.volume.now in
    let job = c.args.job.now in
    let early : early_answer job.ppn job.core c.args.address ≡ Refused 1 = search rules in
    denied_serves g.D.Disk.state g.met.D.Disk.only_now volume.disk volume.map volume.failed job c.requires.ready
    c.args.address 1 (inl early) volume.disk volume.map volume.failed (refl, refl, refl)
    (record job { core = c.refuse.new.core }) c.refuse.result
    (ap (λ core. record job { core = core }) c.refuse.ensures.kept) c.refuse.ensures.answered

pub returns-then-ne-clause-serving : goal.returns-then-ne-clause-serving
returns-then-ne-clause-serving g c =
    let volume = c.args.volume.now in
    let job = c.args.job.now in
    let early : early_answer job.ppn job.core c.args.address ≡ Refused 2 = search rules in
    denied_serves g.D.Disk.state g.met.D.Disk.only_now volume.disk volume.map volume.failed job c.requires.ready
    c.args.address 2 (inl early) volume.disk volume.map volume.failed (refl, refl, refl)
    (record job { core = c.refuse-then-ne.new.core }) c.refuse-then-ne.result
    (ap (λ core. record job { core = core }) c.refuse-then-ne.ensures.kept) c.refuse-then-ne.ensures.answered

pub returns-in-Err-Refused-clause-serving : goal.returns-in-Err-Refused-clause-serving
returns-in-Err-Refused-clause-serving g c =
    let volume = c.args.volume.now in
    let new = c.make_dir.new.self in
    let job = c.args.job.now in
    let size = (g.D.Disk.state volume.disk).size in
    let code = number_of c.in-Err-Refused.code in
    let fine : early_answer job.ppn job.core c.args.address ≡ Done = search rules in
    let same : (new.disk ≡ volume.disk) × (new.map ≡ volume.map) × (new.failed ≡ volume.failed) = search rules in
    let why : IsRefusedBy size volume.map (asked_owner job.core c.args.address) code = search rules in
    denied_serves g.D.Disk.state g.met.D.Disk.only_now volume.disk volume.map volume.failed job c.requires.ready
    c.args.address code (inr (fine, why)) new.disk new.map new.failed same
    (record job { core = c.refuse-in-Err-Refused.new.core }) c.refuse-in-Err-Refused.result
    (ap (λ core. record job { core = core }) c.refuse-in-Err-Refused.ensures.kept)
    c.refuse-in-Err-Refused.ensures.answered

pub returns-in-Err-NoMemory-clause-serving : goal.returns-in-Err-NoMemory-clause-serving
returns-in-Err-NoMemory-clause-serving g c =
    let volume = c.args.volume.now in
    let new = c.make_dir.new.self in
    let job = c.args.job.now in
    let fine : early_answer job.ppn job.core c.args.address ≡ Done = search rules in
    let same : (new.disk ≡ volume.disk) × (new.map ≡ volume.map) × (new.failed ≡ volume.failed) = search rules in
    lacking_serves g.D.Disk.state g.met.D.Disk.only_now volume.disk volume.map volume.failed job c.requires.ready
    c.args.address fine new.disk new.map new.failed same

pub returns-in-Ok-clause-serving : goal.returns-in-Ok-clause-serving
returns-in-Ok-clause-serving g c =
    let state = g.D.Disk.state in
    let volume = c.args.volume.now in
    let new = c.make_dir.new.self in
    let job = c.args.job.now in
    let owner = asked_owner job.core c.args.address in
    let protection = directory_protection_asked job.core c.args.address in
    let asked : c.protection_or-protection.result ≡ protection = search rules in
    let fine : early_answer job.ppn job.core c.args.address ≡ Done = search rules in
    let absent : IsAbsent volume.map owner = search rules in
    let fits : IsCrowded (state volume.disk).size volume.map → ⊥ = search rules in
    make_done state g.met.D.Disk.only_now volume.disk volume.map volume.failed job c.requires.ready c.args.address fine
    absent fits new.disk new.map new.failed c.make_dir.result
    (subst (λ (f : Files File → Files File). ChangesFiles (state volume.disk) (state new.disk) volume.map f
    c.make_dir.result)
    (λ i f. files_made f ((c.in-Some.ensures.value ∙ c.word_at.ensures.value) i) (asked i))
    c.make_dir.ensures.files)
    c.make_dir.ensures.answer c.in-Ok.is c.make_dir.ensures.live c.make_dir.ensures.pending
    c.make_dir.ensures.directories c.make_dir.ensures.primes

pub returns-in-Err-Device-clause-serving : goal.returns-in-Err-Device-clause-serving
returns-in-Err-Device-clause-serving g c =
    let state = g.D.Disk.state in
    let volume = c.args.volume.now in
    let new = c.make_dir.new.self in
    let job = c.args.job.now in
    let owner = asked_owner job.core c.args.address in
    let protection = directory_protection_asked job.core c.args.address in
    let asked : c.protection_or-protection.result ≡ protection = search rules in
    let fine : early_answer job.ppn job.core c.args.address ≡ Done = search rules in
    let absent : IsAbsent volume.map owner = search rules in
    let fits : IsCrowded (state volume.disk).size volume.map → ⊥ = search rules in
    make_broken state g.met.D.Disk.only_now volume.disk volume.map volume.failed job c.requires.ready c.args.address
    fine absent fits new.disk new.map new.failed c.make_dir.result
    (subst (λ (f : Files File → Files File). ChangesFiles (state volume.disk) (state new.disk) volume.map f
    c.make_dir.result)
    (λ i f. files_made f ((c.in-Some.ensures.value ∙ c.word_at.ensures.value) i) (asked i))
    c.make_dir.ensures.files)
    c.make_dir.ensures.answer (search rules)
