use Rattle.std.proofs.Common.{◌≡◌, ◌∙◌, ℕ, ap, sym, subst, Err, rules}
use Rattle.words36.specs.declared.names.FileName.{FileName}
use Rattle.spec_image.specs.Common.{number_of, pack_of, without_serials, place_of}
use Rattle.spec_machine.specs.Common.{place_at}
use Rattle.spec_machine.specs.declared.call.Reply.TheVariants.{Done, Refused}
use Rattle.volume.specs.Common.{IsSoundMemory}
use Rattle.monitor.specs.Common.{IsAnswer, begin_answer_at, job_of}
use Rattle.monitor.proofs.common.EventAnswers.{contrary}
use Rattle.monitor.proofs.EnterFile.Outcomes.{at_place, no_owner, refused, may_begin_at, limited_at, begun_at}
use Rattle.monitor.proofs.EnterFile.Outcomes.{not_begun_at}
use Rattle.monitor.proofs.common.Limits.{AllowsBegin}
use Rattle.monitor.proofs.enter.begin_at.Goals as goal

pub returns-in_default-clause-answered : goal.returns-in_default-clause-answered
returns-in_default-clause-answered g c h alive s known w =
    no_owner (g.D.Disk.state c.args.volume.now.disk) c.args.volume.now.map s known
    (subst (IsSoundMemory (g.D.Disk.state c.args.volume.now.disk) c.args.volume.now.map) alive c.requires.sound)
    h w c.args.job.now
    (place_at (job_of w c.args.job.now) c.args.address) c.in_default.ensures.none

pub returns-in-Err-clause-answered : goal.returns-in-Err-clause-answered
returns-in-Err-clause-answered g c h alive s known w =
    let d = g.D.Disk.state c.args.volume.now.disk in
    let map = c.args.volume.now.map in
    subst (λ p. begin_answer_at (pack_of d) s (job_of w c.args.job.now) p ≡ Refused (number_of c.in-Err.code))
    (at_place w c.args.job.now c.args.address c.in-Some.ppn c.name_at-file.result c.in-Some.ensures.there
    c.name_at-file.ensures.0 c.name_at-file.ensures.1)
    (refused d map s known (subst (IsSoundMemory d map) alive c.requires.sound) h w c.args.job.now
    (place_of c.in-Some.ppn c.name_at-file.result) c.in-Err.code
    (c.in-Err.ensures.found h alive (without_serials s.files) known.files))

pub returns-in-Ok-begin-clause-answered : goal.returns-in-Ok-begin-clause-answered
returns-in-Ok-begin-clause-answered g c h alive s known w =
    let was = subst (λ disk. (g.D.Disk.state disk).honest) c.begin.ensures.untouched.0 h in
    let d = g.D.Disk.state c.args.volume.now.disk in
    let map = c.args.volume.now.map in
    let prime = c.prime_for-prime.result in
    let sound = subst (IsSoundMemory d map) alive c.requires.sound in
    subst (λ p. begin_answer_at (pack_of d) s (job_of w c.args.job.now) p ≡ Done)
    (at_place w c.args.job.now c.args.address prime.ppn prime.file
    (c.prime_for-prime.ensures.ppn ∙ c.in-Some.ensures.there)
    (ap (λ (x : FileName). x.name) c.prime_for-prime.ensures.file ∙ c.name_at-file.ensures.0)
    (ap (λ (x : FileName). x.ext) c.prime_for-prime.ensures.file ∙ c.name_at-file.ensures.1))
    (begun_at d map s known sound was w c.args.job.now c.in-Ok.found c.kind_for-kind.result prime c.begin.result
    (may_begin_at d map s known sound was c.in-Ok.found c.args.job.now c.in-Some.ppn c.name_at-file.result prime
    c.prime_for-prime.ensures.ppn c.prime_for-prime.ensures.file
    (c.in-Ok.ensures.found was alive (without_serials s.files) known.files))
    c.kind_for-kind.ensures (c.begin.ensures.room alive) c.in-Ok-begin.pending c.in-Ok-begin.is
    c.quota_allows_begin.result (search rules)
    (subst (λ (ppn : ℕ). AllowsBegin map ppn prime.file c.kind_for-kind.result c.quota_allows_begin.result)
    (sym c.prime_for-prime.ensures.ppn)
    (subst (λ (file : FileName). AllowsBegin map c.in-Some.ppn file c.kind_for-kind.result c.quota_allows_begin.result)
    (sym c.prime_for-prime.ensures.file) c.quota_allows_begin.ensures.value)))

pub returns-in-Err-begin-clause-answered : goal.returns-in-Err-begin-clause-answered
returns-in-Err-begin-clause-answered g c h alive s known w =
    let was = subst (λ disk. (g.D.Disk.state disk).honest) c.begin.ensures.untouched.0 h in
    let d = g.D.Disk.state c.args.volume.now.disk in
    let map = c.args.volume.now.map in
    let prime = c.prime_for-prime.result in
    let sound = subst (IsSoundMemory d map) alive c.requires.sound in
    subst (λ p. IsAnswer {X = ℕ} (Err c.in-Err-begin.error) (begin_answer_at (pack_of d) s
    (job_of w c.args.job.now) p))
    (at_place w c.args.job.now c.args.address prime.ppn prime.file
    (c.prime_for-prime.ensures.ppn ∙ c.in-Some.ensures.there)
    (ap (λ (x : FileName). x.name) c.prime_for-prime.ensures.file ∙ c.name_at-file.ensures.0)
    (ap (λ (x : FileName). x.ext) c.prime_for-prime.ensures.file ∙ c.name_at-file.ensures.1))
    (not_begun_at d map s known sound was w c.args.job.now c.in-Ok.found c.kind_for-kind.result prime c.begin.result
    (may_begin_at d map s known sound was c.in-Ok.found c.args.job.now c.in-Some.ppn c.name_at-file.result prime
    c.prime_for-prime.ensures.ppn c.prime_for-prime.ensures.file
    (c.in-Ok.ensures.found was alive (without_serials s.files) known.files))
    c.kind_for-kind.ensures (c.begin.ensures.room alive) ℕ c.in-Err-begin.error c.in-Err-begin.is
    (c.begin.ensures.absent alive).0 (c.begin.ensures.exists alive) (c.begin.ensures.not_found alive)
    c.begin.ensures.codes c.begin.ensures.served (λ e. contrary alive (c.begin.ensures.failed.0 e)))

-- the quota leaves too little
pub returns-then-not-quota_allows_begin-clause-answered : goal.returns-then-not-quota_allows_begin-clause-answered
returns-then-not-quota_allows_begin-clause-answered g c h alive s known w =
    let d = g.D.Disk.state c.args.volume.now.disk in
    let map = c.args.volume.now.map in
    let sound = subst (IsSoundMemory d map) alive c.requires.sound in
    subst (λ p. begin_answer_at (pack_of d) s (job_of w c.args.job.now) p ≡ Refused 0o14)
    (at_place w c.args.job.now c.args.address c.in-Some.ppn c.name_at-file.result c.in-Some.ensures.there
    c.name_at-file.ensures.0 c.name_at-file.ensures.1)
    (limited_at d map s known sound h w c.args.job.now c.in-Ok.found c.kind_for-kind.result c.in-Some.ppn
    c.name_at-file.result (c.in-Ok.ensures.found h alive (without_serials s.files) known.files)
    c.kind_for-kind.ensures c.quota_allows_begin.result (search rules) c.quota_allows_begin.ensures.value)
