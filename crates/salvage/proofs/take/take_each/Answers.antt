use Rattle.std.proofs.Common.{◌++◌, ◌∷◌, [], ℕ, List, length, refl, sym, ap, subst, ◌∙◌, arith, take}
use Rattle.std.proofs.lemmas.Iterator.Adapters.{YieldsList-from_vec}
use Rattle.std.proofs.lemmas.Iterator.Consumers.{YieldsList-turn, YieldsList-end}
use Rattle.std.proofs.lemmas.List.{length_push, take_all}
use Rattle.std.specs.List.{AllByRecursion}
use Rattle.blockdisk.specs.Common.{Contents, same_contents, same_disk_on, same_disk_start, still_start}
use Rattle.changeset.proofs.LogRead.{only_reads_on}
use Rattle.spec_image.specs.Common.{times}
use Rattle.spec_image.proofs.Common.{total-append}
use Rattle.salvage.specs.Common.{FitsDisk, Judges, blocks_of, claims}
use Rattle.salvage.specs.declared.saved.SavedFile.{SavedFile}
use Rattle.salvage.proofs.CountLaws.{fits_at}
use Rattle.salvage.proofs.JudgedFiles.{judges_start, judges_next}
use Rattle.salvage.proofs.KeptFiles.{one_more_of}
use Rattle.salvage.proofs.Members.{nothing_behind}
use Rattle.salvage.proofs.take.take_each.Goals as goal

pub take_file-requires-clause-fits : goal.take_file-requires-clause-fits
take_file-requires-clause-fits g c =
    let items = c.args.candidates.items in
    let turn = YieldsList-turn (YieldsList-from_vec items (cc) (cc)) c.loop-file.yielded _ c.loop-file.yielded_by _
    c.next.new.self c.in-Some.file c.in-Some.is c.next.ensures.steps in
    subst (λ (z : ℕ). FitsDisk z c.in-Some.file) (sym c.loop-file.invariant.same.size)
    (fits_at (g.D.Disk.state c.args.disk.now).size items (length c.loop-file.yielded) c.in-Some.file turn.0 turn.1
    c.requires.fit)

pub loop-file-init : goal.loop-file-init
loop-file-init g c =
    let s = g.D.Disk.state c.args.disk.now in
    let files = c.args.taken.now.files.items in
    let doubtful = c.args.taken.now.doubtful.items in
    let findings = c.args.findings.now.items in
    record {
      same = same_disk_start s;
      served = refl;
      reads = λ h. record { still = still_start s; is_open = λ n. refl };
      few = λ n. omega arith;
      fits = λ fit. fit;
      fits_too = λ fit. fit;
      judged = λ h. judges_start s.contents c.args.counts.now c.args.free.now c.args.are_named files doubtful findings
          (nothing_behind files) (nothing_behind doubtful) (nothing_behind findings);
    }

pub loop-file-preserved : goal.loop-file-preserved
loop-file-preserved g c =
    let s = g.D.Disk.state c.args.disk.now in
    let now = g.D.Disk.state c.loop-file.disk in
    let new = g.D.Disk.state c.take_file.new.disk in
    let items = c.args.candidates.items in
    let inv = c.loop-file.invariant in
    let e = c.in_ok-take_file.ensures in
    let before = c.take_file.ensures.same.was_honest in
    let turn = YieldsList-turn (YieldsList-from_vec items (cc) (cc)) c.loop-file.yielded _ c.loop-file.yielded_by _
    c.next.new.self c.in-Some.file c.in-Some.is c.next.ensures.steps in
    record {
      same = same_disk_on s now new inv.same c.take_file.ensures.same;
      served = e.served (λ is. cc) ∙ inv.served;
      reads = λ h. only_reads_on s now new (inv.reads (before h)) (c.take_file.ensures.reads h);
      few = λ n.
          let so_far = inv.few n in
          let more = e.few n in
          let all = ap (λ (l : List SavedFile). claims l n)
          (one_more_of items (length c.loop-file.yielded) (length (c.loop-file.yielded ++ c.in-Some.file ∷ []))
          c.in-Some.file (length_push c.loop-file.yielded c.in-Some.file) turn.0 turn.1) in
          let both = total-append (λ file. times n (blocks_of file)) (take (length c.loop-file.yielded) items)
          (c.in-Some.file ∷ []) in
          omega (arith, so_far, more, all, both);
      fits = λ fit. subst (λ (z : ℕ). AllByRecursion (FitsDisk z) c.take_file.new.taken.files.items) inv.same.size
          (e.fits (subst (λ (z : ℕ). AllByRecursion (FitsDisk z) c.loop-file.taken.files.items) (sym inv.same.size)
          (inv.fits fit)));
      fits_too = λ fit. subst (λ (z : ℕ). AllByRecursion (FitsDisk z) c.take_file.new.taken.doubtful.items)
          inv.same.size
          (e.fits_too (subst (λ (z : ℕ). AllByRecursion (FitsDisk z) c.loop-file.taken.doubtful.items)
          (sym inv.same.size) (inv.fits_too fit)));
      judged = λ h. judges_next s.contents c.args.counts.now c.args.free.now c.args.are_named items
          (length c.loop-file.yielded) (length (c.loop-file.yielded ++ c.in-Some.file ∷ [])) c.in-Some.file
          c.args.taken.now.files.items c.loop-file.taken.files.items c.take_file.new.taken.files.items
          c.args.taken.now.doubtful.items c.loop-file.taken.doubtful.items c.take_file.new.taken.doubtful.items
          c.args.findings.now.items c.loop-file.findings.items c.take_file.new.findings.items
          (length_push c.loop-file.yielded c.in-Some.file) turn.0 turn.1 (inv.judged (before h))
          (subst (λ (d : Contents). Judges d c.args.counts.now c.args.free.now c.args.are_named (c.in-Some.file ∷ [])
          c.loop-file.taken.files.items c.take_file.new.taken.files.items c.loop-file.taken.doubtful.items
          c.take_file.new.taken.doubtful.items c.loop-file.findings.items c.take_file.new.findings.items)
          (same_contents s.contents now.contents (inv.reads (before h)).still.contents) (e.judged h));
    }

pub returns-clause-few : goal.returns-clause-few
returns-clause-few g c n =
    let items = c.args.candidates.items in
    let end = YieldsList-end (YieldsList-from_vec items (cc) (cc)) c.loop-file.yielded _ c.loop-file.yielded_by _
    c.next.new.self c.in-None.is c.next.ensures.steps in
    let all = ap (λ (l : List SavedFile). claims l n)
    (take_all (length c.loop-file.yielded) items (omega (arith, end.1))) in
    omega (arith, all, c.loop-file.invariant.few n)

pub returns-clause-judged : goal.returns-clause-judged
returns-clause-judged g c h =
    let s = g.D.Disk.state c.args.disk.now in
    let items = c.args.candidates.items in
    let end = YieldsList-end (YieldsList-from_vec items (cc) (cc)) c.loop-file.yielded _ c.loop-file.yielded_by _
    c.next.new.self c.in-None.is c.next.ensures.steps in
    subst (λ (xs : List SavedFile). Judges s.contents c.args.counts.now c.args.free.now c.args.are_named xs
    c.args.taken.now.files.items c.loop-file.taken.files.items c.args.taken.now.doubtful.items
    c.loop-file.taken.doubtful.items c.args.findings.now.items c.loop-file.findings.items)
    (take_all (length c.loop-file.yielded) items (omega (arith, end.1))) (c.loop-file.invariant.judged h)
