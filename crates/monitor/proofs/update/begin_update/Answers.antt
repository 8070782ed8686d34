use Rattle.std.proofs.Common.{◌≡◌, ◌∙◌, ℕ, sym, subst, Ok, Err, rules}
use Rattle.std.specs.Prelude.{◌==◌}
use Rattle.words36.specs.declared.names.FileName.{FileName}
use Rattle.spec_image.specs.Common.{Place, pack_of, get, without_serials, place_of}
use Rattle.spec_machine.specs.declared.call.Reply.TheVariants.{Done}
use Rattle.volume.specs.Common.{pending_at, BeginsWithFile, IsSoundMemory}
use Rattle.monitor.specs.Common.{IsAnswer, job_of, allowed_update, update_answer_at}
use Rattle.monitor.proofs.common.EventAnswers.{contrary}
use Rattle.monitor.proofs.UpdateFile.Updates.{updates, may, refused, limited, begun, not_begun}
use Rattle.monitor.proofs.common.Limits.{AllowsBegin}
use Rattle.monitor.proofs.update.begin_update.Goals as goal

pub returns-in-Ok-begin-clause-begun : goal.returns-in-Ok-begin-clause-begun
returns-in-Ok-begin-clause-begun g c = (
  updates c.find-found.result c.args.job.now.ppn c.args.input.now.ppn _ _ c.in-Ok.kind (sym c.in-Ok.ensures),
  c.place_of.result,
  c.place_of.ensures.0,
  c.place_of.ensures.1,
  c.in-Ok-begin.ensures.begun,
)

pub returns-in-Ok-begin-clause-file : goal.returns-in-Ok-begin-clause-file
returns-in-Ok-begin-clause-file g c h alive files rests =
    let contents = (g.D.Disk.state c.args.volume.now.disk).contents in
    let version = pending_at c.begin.new.self.map.pending c.in-Ok-begin.pending.key in
    let file : c.place_of.result.file ≡ c.args.input.now.file = c.place_of.ensures.1 in
    let ppn : c.place_of.result.ppn ≡ c.args.input.now.ppn = c.place_of.ensures.0 in
    subst (λ (n : ℕ). BeginsWithFile contents version c.args.input.now.file (get files n)) ppn
    (subst (λ (name : FileName). BeginsWithFile contents version name (get files c.place_of.result.ppn)) file
    (c.in-Ok-begin.ensures.file h alive files rests
    (updates c.find-found.result c.args.job.now.ppn c.args.input.now.ppn _ _ c.in-Ok.kind (sym c.in-Ok.ensures))))

pub returns-in-Err-clause-answered : goal.returns-in-Err-clause-answered
returns-in-Err-clause-answered g c h alive s known w =
    let d = g.D.Disk.state c.args.volume.now.disk in
    let map = c.args.volume.now.map in
    let job = c.args.job.now in
    let input = c.args.input.now in
    refused d map s known (subst (IsSoundMemory d map) alive c.requires.sound) h w job
    (place_of input.ppn input.file) c.in-Err.code
    ((λ i. allowed_update (sym (c.find-found.ensures h alive (without_serials s.files) known.files) i) job.ppn input.ppn
    (sym c.bits-is_zero.ensures.value i == 0) (sym c.is_claimed-claimed.ensures i)) ∙ sym c.in-Err.ensures)

pub returns-in-Ok-begin-clause-answered : goal.returns-in-Ok-begin-clause-answered
returns-in-Ok-begin-clause-answered g c h alive s known w =
    let was = subst (λ disk. (g.D.Disk.state disk).honest) c.begin.ensures.untouched.0 h in
    let d = g.D.Disk.state c.args.volume.now.disk in
    let map = c.args.volume.now.map in
    let job = c.args.job.now in
    let input = c.args.input.now in
    let prime = c.place_of.result in
    let sound = subst (IsSoundMemory d map) alive c.requires.sound in
    let at : place_of prime.ppn prime.file ≡ place_of input.ppn input.file =
    λ i. place_of (c.place_of.ensures.0 i) (c.place_of.ensures.1 i) in
    let with_file = updates c.find-found.result job.ppn input.ppn _ _ c.in-Ok.kind (sym c.in-Ok.ensures) in
    let ok : may d map s known sound was job.ppn (place_of input.ppn input.file) ≡ Ok c.in-Ok.kind =
    (λ i. allowed_update (sym (c.find-found.ensures was alive (without_serials s.files) known.files) i) job.ppn
    input.ppn (sym c.bits-is_zero.ensures.value i == 0) (sym c.is_claimed-claimed.ensures i)) ∙ sym c.in-Ok.ensures in
    subst (λ (p : Place). update_answer_at (pack_of d) s (job_of w job) p ≡ Done) at
    (begun d map s known sound was w job (place_of prime.ppn prime.file) c.in-Ok.kind c.begin.result
    (subst (λ (p : Place). may d map s known sound was job.ppn p ≡ Ok c.in-Ok.kind) (sym at) ok)
    (λ D here file there. c.begin.ensures.full h alive (without_serials s.files) known.files with_file D here file
    there)
    c.in-Ok-begin.pending c.in-Ok-begin.is with_file c.quota_allows_begin.result (search rules)
    (subst (λ (p : Place). AllowsBegin map p.ppn p.name c.in-Ok.kind c.quota_allows_begin.result) (sym at)
    c.quota_allows_begin.ensures.value))

pub returns-in-Err-begin-clause-answered : goal.returns-in-Err-begin-clause-answered
returns-in-Err-begin-clause-answered g c h alive s known w =
    let was = subst (λ disk. (g.D.Disk.state disk).honest) c.begin.ensures.untouched.0 h in
    let d = g.D.Disk.state c.args.volume.now.disk in
    let map = c.args.volume.now.map in
    let job = c.args.job.now in
    let input = c.args.input.now in
    let prime = c.place_of.result in
    let sound = subst (IsSoundMemory d map) alive c.requires.sound in
    let at : place_of prime.ppn prime.file ≡ place_of input.ppn input.file =
    λ i. place_of (c.place_of.ensures.0 i) (c.place_of.ensures.1 i) in
    let with_file = updates c.find-found.result job.ppn input.ppn _ _ c.in-Ok.kind (sym c.in-Ok.ensures) in
    let ok : may d map s known sound was job.ppn (place_of input.ppn input.file) ≡ Ok c.in-Ok.kind =
    (λ i. allowed_update (sym (c.find-found.ensures was alive (without_serials s.files) known.files) i) job.ppn
    input.ppn (sym c.bits-is_zero.ensures.value i == 0) (sym c.is_claimed-claimed.ensures i)) ∙ sym c.in-Ok.ensures in
    subst (λ (p : Place). IsAnswer {X = ℕ} (Err c.in-Err-begin.error) (update_answer_at (pack_of d) s
    (job_of w job) p))
    at
    (not_begun d map s known sound was w job (place_of prime.ppn prime.file) c.in-Ok.kind c.begin.result
    (subst (λ (p : Place). may d map s known sound was job.ppn p ≡ Ok c.in-Ok.kind) (sym at) ok)
    (λ D here file there. c.begin.ensures.full h alive (without_serials s.files) known.files with_file D here file
    there)
    ℕ c.in-Err-begin.error c.in-Err-begin.is with_file
    (c.begin.ensures.absent alive).0 (c.begin.ensures.exists alive) (c.begin.ensures.not_found alive)
    c.begin.ensures.codes c.begin.ensures.served (λ e. contrary alive (c.begin.ensures.failed.0 e)))

-- the quota leaves too little
pub returns-then-not-quota_allows_begin-clause-answered : goal.returns-then-not-quota_allows_begin-clause-answered
returns-then-not-quota_allows_begin-clause-answered g c h alive s known w =
    let d = g.D.Disk.state c.args.volume.now.disk in
    let map = c.args.volume.now.map in
    let job = c.args.job.now in
    let input = c.args.input.now in
    let sound = subst (IsSoundMemory d map) alive c.requires.sound in
    let with_file = updates c.find-found.result job.ppn input.ppn _ _ c.in-Ok.kind (sym c.in-Ok.ensures) in
    let ok : may d map s known sound h job.ppn (place_of input.ppn input.file) ≡ Ok c.in-Ok.kind =
    (λ i. allowed_update (sym (c.find-found.ensures h alive (without_serials s.files) known.files) i) job.ppn
    input.ppn (sym c.bits-is_zero.ensures.value i == 0) (sym c.is_claimed-claimed.ensures i)) ∙ sym c.in-Ok.ensures in
    limited d map s known sound h w job (place_of input.ppn input.file) c.in-Ok.kind ok with_file
    c.quota_allows_begin.result c.quota_allows_begin.ensures.value (search rules)
