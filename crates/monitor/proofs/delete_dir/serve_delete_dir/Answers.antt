use Rattle.std.proofs.Common.{◌≡◌, ◌⊎◌, false, None, refl, sym, ap, subst, ◌∙◌, inl, rules}
use Rattle.std.specs.Ordering.{nat_cmp}
use Rattle.std.specs.FinMap.Entries.{find}
use Rattle.words36.specs.Common.{IsPpn}
use Rattle.spec_image.specs.Common.{number_of, File, Files}
use Rattle.spec_image.specs.declared.code.ErrorCode.TheVariants.{NoDirectory, NotEmpty}
use Rattle.volume.specs.Common.{ChangesFiles, directory_removed, HasEntries}
use Rattle.monitor.specs.Common.{IsNowhere, IsThere, IsRemovable, IsKeptBy, is_kept_from, asked_owner}
use Rattle.monitor.proofs.DeleteDir.Asked.{nowhere_numbered, nowhere_known, there_by, kept_by}
use Rattle.monitor.proofs.DeleteDir.Serves.{checked_serves, kept_serves, removal_broken, removal_done}
use Rattle.monitor.proofs.delete_dir.serve_delete_dir.Goals as goal

pub returns-then-lies_outside-clause-serving : goal.returns-then-lies_outside-clause-serving
returns-then-lies_outside-clause-serving g c =
    let volume = c.args.volume.now in
    checked_serves g.D.Disk.state g.met.D.Disk.only_now volume.disk volume.map volume.failed c.args.job.now
    c.requires.ready c.args.address (sym c.lies_outside.ensures.value ∙ c.if-lies_outside.true)

pub returns-in_default-clause-serving : goal.returns-in_default-clause-serving
returns-in_default-clause-serving g c =
    let volume = c.args.volume.now in
    let d = g.D.Disk.state volume.disk in
    let job = c.args.job.now in
    let owner = asked_owner job.core c.args.address in
    let none : IsPpn c.word_at.result → ⊥ = search rules in
    let nowhere : IsNowhere d owner = subst (IsNowhere d) c.word_at.ensures.value
    (nowhere_numbered d volume.map volume.failed c.requires.ready.sound c.requires.ready.alive c.word_at.result none)
    in
    kept_serves g.D.Disk.state g.met.D.Disk.only_now volume.disk volume.map volume.failed job c.requires.ready
    c.args.address 1 (sym c.lies_outside.ensures.value ∙ c.if-lies_outside.false) (inl (refl, nowhere)) volume.disk
    volume.map volume.failed (refl, refl, refl) (record job { core = c.refuse.new.core }) c.refuse.result
    (ap (λ core. record job { core = core }) c.refuse.ensures.kept) c.refuse.ensures.answered

pub returns-then-is_err-clause-serving : goal.returns-then-is_err-clause-serving
returns-then-is_err-clause-serving g c =
    let volume = c.args.volume.now in
    let d = g.D.Disk.state volume.disk in
    let job = c.args.job.now in
    let owner = asked_owner job.core c.args.address in
    let why : IsKeptBy d volume.map job.ppn owner 1 = search rules in
    kept_serves g.D.Disk.state g.met.D.Disk.only_now volume.disk volume.map volume.failed job c.requires.ready
    c.args.address 1 (sym c.lies_outside.ensures.value ∙ c.if-lies_outside.false) why volume.disk volume.map
    volume.failed (refl, refl, refl) (record job { core = c.refuse-then-is_err.new.core }) c.refuse-then-is_err.result
    (ap (λ core. record job { core = core }) c.refuse-then-is_err.ensures.kept) c.refuse-then-is_err.ensures.answered

pub returns-then-is_kept_from-clause-serving : goal.returns-then-is_kept_from-clause-serving
returns-then-is_kept_from-clause-serving g c =
    let volume = c.args.volume.now in
    let d = g.D.Disk.state volume.disk in
    let job = c.args.job.now in
    let owner = asked_owner job.core c.args.address in
    let why : IsKeptBy d volume.map job.ppn owner 2 = search rules in
    kept_serves g.D.Disk.state g.met.D.Disk.only_now volume.disk volume.map volume.failed job c.requires.ready
    c.args.address 2 (sym c.lies_outside.ensures.value ∙ c.if-lies_outside.false) why volume.disk volume.map
    volume.failed (refl, refl, refl) (record job { core = c.refuse-then-is_kept_from.new.core })
    c.refuse-then-is_kept_from.result
    (ap (λ core. record job { core = core }) c.refuse-then-is_kept_from.ensures.kept)
    c.refuse-then-is_kept_from.ensures.answered

pub returns-in-Err-Refused-clause-serving : goal.returns-in-Err-Refused-clause-serving
returns-in-Err-Refused-clause-serving g c =
    let volume = c.args.volume.now in
    let new = c.delete_dir.new.self in
    let d = g.D.Disk.state volume.disk in
    let job = c.args.job.now in
    let code = c.in-Err-Refused.code in
    let same : (new.disk ≡ volume.disk) × (new.map ≡ volume.map) × (new.failed ≡ volume.failed) = search rules in
    let there : IsThere d c.in-Some.owner = there_by d c.in-Some.owner volume.failed c.directory.result
    c.requires.ready.alive c.directory.ensures.value (sym c.is_err.ensures.value ∙ c.if-is_err.false) in
    let own : is_kept_from volume.map job.ppn c.in-Some.owner ≡ false =
    sym c.is_kept_from.ensures ∙ c.if-is_kept_from.false in
    let codes : (code ≡ NoDirectory) ⊎ (code ≡ NotEmpty) = search rules in
    let nowhere : code ≡ NoDirectory → IsNowhere d c.in-Some.owner = λ is.
    let none : find nat_cmp c.in-Some.owner volume.map.known.master.entries ≡ None = search rules in
    nowhere_known d volume.map volume.failed c.requires.ready.sound c.requires.ready.alive c.in-Some.owner none in
    let filled : code ≡ NotEmpty → HasEntries volume.map c.in-Some.owner = search rules in
    let why = subst (λ n. IsKeptBy d volume.map job.ppn n (number_of code))
    (c.in-Some.ensures.value ∙ c.word_at.ensures.value)
    (kept_by d volume.map job.ppn c.in-Some.owner code codes nowhere filled there own) in
    kept_serves g.D.Disk.state g.met.D.Disk.only_now volume.disk volume.map volume.failed job c.requires.ready
    c.args.address (number_of code) (sym c.lies_outside.ensures.value ∙ c.if-lies_outside.false) why new.disk new.map
    new.failed same (record job { core = c.refuse-in-Err-Refused.new.core }) c.refuse-in-Err-Refused.result
    (ap (λ core. record job { core = core }) c.refuse-in-Err-Refused.ensures.kept)
    c.refuse-in-Err-Refused.ensures.answered

pub returns-in-Ok-clause-serving : goal.returns-in-Ok-clause-serving
returns-in-Ok-clause-serving g c =
    let state = g.D.Disk.state in
    let volume = c.args.volume.now in
    let new = c.delete_dir.new.self in
    let d = state volume.disk in
    let job = c.args.job.now in
    let owner = asked_owner job.core c.args.address in
    let whose : c.in-Some.owner ≡ owner = c.in-Some.ensures.value ∙ c.word_at.ensures.value in
    let there : IsThere d c.in-Some.owner = there_by d c.in-Some.owner volume.failed c.directory.result
    c.requires.ready.alive c.directory.ensures.value (sym c.is_err.ensures.value ∙ c.if-is_err.false) in
    let own : is_kept_from volume.map job.ppn c.in-Some.owner ≡ false =
    sym c.is_kept_from.ensures ∙ c.if-is_kept_from.false in
    let bare : HasEntries volume.map c.in-Some.owner → ⊥ = search rules in
    let may = subst (IsRemovable d volume.map job.ppn) whose (there, own, bare) in
    removal_done state g.met.D.Disk.only_now volume.disk volume.map volume.failed job c.requires.ready c.args.address
    (sym c.lies_outside.ensures.value ∙ c.if-lies_outside.false) may new.disk new.map new.failed c.delete_dir.result
    (subst (λ (f : Files File → Files File). ChangesFiles d (state new.disk) volume.map f c.delete_dir.result)
    (λ i f. directory_removed f (whose i)) c.delete_dir.ensures.files)
    c.delete_dir.ensures.answer c.in-Ok.is c.delete_dir.ensures.live c.delete_dir.ensures.pending
    (λ ppn x at other. c.delete_dir.ensures.directories ppn x at (λ same. other (same ∙ whose)))
    c.delete_dir.ensures.primes

pub returns-in-Err-Device-clause-serving : goal.returns-in-Err-Device-clause-serving
returns-in-Err-Device-clause-serving g c =
    let state = g.D.Disk.state in
    let volume = c.args.volume.now in
    let new = c.delete_dir.new.self in
    let d = state volume.disk in
    let job = c.args.job.now in
    let owner = asked_owner job.core c.args.address in
    let whose : c.in-Some.owner ≡ owner = c.in-Some.ensures.value ∙ c.word_at.ensures.value in
    let there : IsThere d c.in-Some.owner = there_by d c.in-Some.owner volume.failed c.directory.result
    c.requires.ready.alive c.directory.ensures.value (sym c.is_err.ensures.value ∙ c.if-is_err.false) in
    let own : is_kept_from volume.map job.ppn c.in-Some.owner ≡ false =
    sym c.is_kept_from.ensures ∙ c.if-is_kept_from.false in
    let bare : HasEntries volume.map c.in-Some.owner → ⊥ = search rules in
    let may = subst (IsRemovable d volume.map job.ppn) whose (there, own, bare) in
    removal_broken state g.met.D.Disk.only_now volume.disk volume.map volume.failed job c.requires.ready
    c.args.address (sym c.lies_outside.ensures.value ∙ c.if-lies_outside.false) may new.disk new.map new.failed
    c.delete_dir.result
    (subst (λ (f : Files File → Files File). ChangesFiles d (state new.disk) volume.map f c.delete_dir.result)
    (λ i f. directory_removed f (whose i)) c.delete_dir.ensures.files)
    c.delete_dir.ensures.answer (search rules)
