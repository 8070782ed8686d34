use Rattle.std.proofs.Common.{◌≡◌, ◌==◌, false, None, refl, sym, ap, subst, ◌∙◌, inl, inr, rules}
use Rattle.std.specs.Ordering.{nat_cmp}
use Rattle.std.specs.FinMap.Entries.{find}
use Rattle.words36.specs.Common.{IsPpn}
use Rattle.spec_image.specs.Common.{number_of, File, Files, layout_number, files_limited}
use Rattle.spec_image.specs.declared.code.ErrorCode.TheVariants.{NoDirectory}
use Rattle.volume.specs.Common.{ChangesFiles, IsSoundMemory}
use Rattle.monitor.specs.Common.{IsNowhere, asked_owner, IsDenied, IsLimitable, asked_quota}
use Rattle.monitor.proofs.DeleteDir.Asked.{nowhere_numbered, nowhere_known}
use Rattle.monitor.proofs.SetQuota.Serves.{checked_serves, denied_serves, limit_broken, limit_done}
use Rattle.monitor.proofs.quota.serve_quota.Goals as goal

pub returns-then-lies_outside-clause-serving : goal.returns-then-lies_outside-clause-serving
returns-then-lies_outside-clause-serving g c =
    let volume = c.args.volume.now in
    checked_serves g.D.Disk.state g.met.D.Disk.only_now volume.disk volume.map volume.failed c.args.job.now
    c.requires.ready (layout_number volume.layout)
    (λ h. ap layout_number (sym c.layout-layout.ensures.value) ∙ c.layout-layout.ensures.disk h c.requires.ready.alive)
    c.args.address (sym c.lies_outside.ensures.value ∙ c.if-lies_outside.true)

pub returns-then-has_no_quotas-clause-serving : goal.returns-then-has_no_quotas-clause-serving
returns-then-has_no_quotas-clause-serving g c =
    let volume = c.args.volume.now in
    let d = g.D.Disk.state volume.disk in
    let job = c.args.job.now in
    let layout = layout_number volume.layout in
    let owner = asked_owner job.core c.args.address in
    let why : IsDenied d layout job.ppn owner 5 = search rules in
    denied_serves g.D.Disk.state g.met.D.Disk.only_now volume.disk volume.map volume.failed job c.requires.ready layout
    (λ h. ap layout_number (sym c.layout-layout.ensures.value) ∙ c.layout-layout.ensures.disk h c.requires.ready.alive)
    c.args.address 5 (sym c.lies_outside.ensures.value ∙ c.if-lies_outside.false) why volume.disk volume.map
    volume.failed (refl, refl, refl) (record job { core = c.refuse.new.core }) c.refuse.result
    (ap (λ core. record job { core = core }) c.refuse.ensures.kept) c.refuse.ensures.answered

pub returns-in_default-clause-serving : goal.returns-in_default-clause-serving
returns-in_default-clause-serving g c =
    let volume = c.args.volume.now in
    let d = g.D.Disk.state volume.disk in
    let job = c.args.job.now in
    let layout = layout_number volume.layout in
    let owner = asked_owner job.core c.args.address in
    let two : (layout == 1) ≡ false = sym c.has_no_quotas.ensures ∙ c.if-has_no_quotas.false in
    let sound = subst (IsSoundMemory d volume.map) c.requires.ready.alive c.requires.ready.sound in
    let none : IsPpn c.word_at.result → ⊥ = search rules in
    let nowhere : IsNowhere d owner = subst (IsNowhere d) c.word_at.ensures.value
    (nowhere_numbered d volume.map false sound refl c.word_at.result none) in
    let why : IsDenied d layout job.ppn owner 1 = inr (inl (refl, two, nowhere)) in
    denied_serves g.D.Disk.state g.met.D.Disk.only_now volume.disk volume.map volume.failed job c.requires.ready layout
    (λ h. ap layout_number (sym c.layout-layout.ensures.value) ∙ c.layout-layout.ensures.disk h c.requires.ready.alive)
    c.args.address 1 (sym c.lies_outside.ensures.value ∙ c.if-lies_outside.false) why volume.disk volume.map
    volume.failed (refl, refl, refl) (record job { core = c.refuse-in_default.new.core }) c.refuse-in_default.result
    (ap (λ core. record job { core = core }) c.refuse-in_default.ensures.kept) c.refuse-in_default.ensures.answered

pub returns-then-is_err-clause-serving : goal.returns-then-is_err-clause-serving
returns-then-is_err-clause-serving g c =
    let volume = c.args.volume.now in
    let d = g.D.Disk.state volume.disk in
    let job = c.args.job.now in
    let layout = layout_number volume.layout in
    let owner = asked_owner job.core c.args.address in
    let two : (layout == 1) ≡ false = sym c.has_no_quotas.ensures ∙ c.if-has_no_quotas.false in
    let why : IsDenied d layout job.ppn owner 1 = search rules in
    denied_serves g.D.Disk.state g.met.D.Disk.only_now volume.disk volume.map volume.failed job c.requires.ready layout
    (λ h. ap layout_number (sym c.layout-layout.ensures.value) ∙ c.layout-layout.ensures.disk h c.requires.ready.alive)
    c.args.address 1 (sym c.lies_outside.ensures.value ∙ c.if-lies_outside.false) why volume.disk volume.map
    volume.failed (refl, refl, refl) (record job { core = c.refuse-then-is_err.new.core }) c.refuse-then-is_err.result
    (ap (λ core. record job { core = core }) c.refuse-then-is_err.ensures.kept) c.refuse-then-is_err.ensures.answered

pub returns-then-not-is_system-clause-serving : goal.returns-then-not-is_system-clause-serving
returns-then-not-is_system-clause-serving g c =
    let volume = c.args.volume.now in
    let d = g.D.Disk.state volume.disk in
    let job = c.args.job.now in
    let layout = layout_number volume.layout in
    let owner = asked_owner job.core c.args.address in
    let two : (layout == 1) ≡ false = sym c.has_no_quotas.ensures ∙ c.if-has_no_quotas.false in
    let why : IsDenied d layout job.ppn owner 2 = search rules in
    denied_serves g.D.Disk.state g.met.D.Disk.only_now volume.disk volume.map volume.failed job c.requires.ready layout
    (λ h. ap layout_number (sym c.layout-layout.ensures.value) ∙ c.layout-layout.ensures.disk h c.requires.ready.alive)
    c.args.address 2 (sym c.lies_outside.ensures.value ∙ c.if-lies_outside.false) why volume.disk volume.map
    volume.failed (refl, refl, refl) (record job { core = c.refuse-then-not-is_system.new.core })
    c.refuse-then-not-is_system.result
    (ap (λ core. record job { core = core }) c.refuse-then-not-is_system.ensures.kept)
    c.refuse-then-not-is_system.ensures.answered

pub returns-in-Err-Refused-clause-serving : goal.returns-in-Err-Refused-clause-serving
returns-in-Err-Refused-clause-serving g c =
    let volume = c.args.volume.now in
    let d = g.D.Disk.state volume.disk in
    let job = c.args.job.now in
    let layout = layout_number volume.layout in
    let owner = asked_owner job.core c.args.address in
    let two : (layout == 1) ≡ false = sym c.has_no_quotas.ensures ∙ c.if-has_no_quotas.false in
    let sound = subst (IsSoundMemory d volume.map) c.requires.ready.alive c.requires.ready.sound in
    let code = c.in-Err-Refused.code in
    let same : (c.set_quota.new.self.disk ≡ volume.disk) × (c.set_quota.new.self.map ≡ volume.map)
    × (c.set_quota.new.self.failed ≡ volume.failed) = search rules in
    let is : code ≡ NoDirectory = search rules in
    let none : find nat_cmp c.in-Some.owner volume.map.known.master.entries ≡ None = search rules in
    let nowhere : IsNowhere d owner = subst (IsNowhere d) (c.in-Some.ensures.value ∙ c.word_at.ensures.value)
    (nowhere_known d volume.map false sound refl c.in-Some.owner none) in
    let why : IsDenied d layout job.ppn owner (number_of code) = inr (inl (ap number_of is, two, nowhere)) in
    denied_serves g.D.Disk.state g.met.D.Disk.only_now volume.disk volume.map volume.failed job c.requires.ready layout
    (λ h. ap layout_number (sym c.layout-layout.ensures.value) ∙ c.layout-layout.ensures.disk h c.requires.ready.alive)
    c.args.address (number_of code) (sym c.lies_outside.ensures.value ∙ c.if-lies_outside.false) why
    c.set_quota.new.self.disk c.set_quota.new.self.map
    c.set_quota.new.self.failed same (record job { core = c.refuse-in-Err-Refused.new.core })
    c.refuse-in-Err-Refused.result
    (ap (λ core. record job { core = core }) c.refuse-in-Err-Refused.ensures.kept)
    c.refuse-in-Err-Refused.ensures.answered

pub returns-in-Ok-clause-serving : goal.returns-in-Ok-clause-serving
returns-in-Ok-clause-serving g c =
    let state = g.D.Disk.state in
    let volume = c.args.volume.now in
    let new = c.set_quota.new.self in
    let job = c.args.job.now in
    let layout = layout_number volume.layout in
    let owner = asked_owner job.core c.args.address in
    let asked : c.bits.result ≡ asked_quota job.core c.args.address = search rules in
    let may : IsLimitable (state volume.disk) layout job.ppn owner = search rules in
    limit_done state g.met.D.Disk.only_now volume.disk volume.map volume.failed job c.requires.ready layout
    (λ h. ap layout_number (sym c.layout-layout.ensures.value) ∙ c.layout-layout.ensures.disk h c.requires.ready.alive)
    c.args.address (sym c.lies_outside.ensures.value ∙ c.if-lies_outside.false) may new.disk new.map new.failed
    c.set_quota.result
    (subst (λ (f : Files File → Files File). ChangesFiles (state volume.disk) (state new.disk) volume.map f
    c.set_quota.result)
    (λ i f. files_limited f ((c.in-Some.ensures.value ∙ c.word_at.ensures.value) i) (asked i))
    c.set_quota.ensures.files)
    c.set_quota.ensures.answer (c.in-Ok.is) c.set_quota.ensures.live c.set_quota.ensures.pending
    c.set_quota.ensures.directories c.set_quota.ensures.primes

pub returns-in-Err-Device-clause-serving : goal.returns-in-Err-Device-clause-serving
returns-in-Err-Device-clause-serving g c =
    let state = g.D.Disk.state in
    let volume = c.args.volume.now in
    let new = c.set_quota.new.self in
    let job = c.args.job.now in
    let layout = layout_number volume.layout in
    let owner = asked_owner job.core c.args.address in
    let asked : c.bits.result ≡ asked_quota job.core c.args.address = search rules in
    let may : IsLimitable (state volume.disk) layout job.ppn owner = search rules in
    limit_broken state g.met.D.Disk.only_now volume.disk volume.map volume.failed job c.requires.ready layout
    (λ h. ap layout_number (sym c.layout-layout.ensures.value) ∙ c.layout-layout.ensures.disk h c.requires.ready.alive)
    c.args.address (sym c.lies_outside.ensures.value ∙ c.if-lies_outside.false) may new.disk new.map new.failed
    c.set_quota.result
    (subst (λ (f : Files File → Files File). ChangesFiles (state volume.disk) (state new.disk) volume.map f
    c.set_quota.result)
    (λ i f. files_limited f ((c.in-Some.ensures.value ∙ c.word_at.ensures.value) i) (asked i))
    c.set_quota.ensures.files)
    c.set_quota.ensures.answer (search rules)
