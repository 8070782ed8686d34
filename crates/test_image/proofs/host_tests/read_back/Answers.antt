use Rattle.std.proofs.Common.{◌∙◌, length, Result, Ok, Err, OnOk, ap}
use Rattle.imagefile.specs.Common.{window, calls_of, system_of, unseen_of, after_calls, window-same}
use Rattle.test_image.proofs.host_tests.read_back.Goals as goal

on_ok : {T E P Q : Type 0} (result : Result T E) → (P → Q) → OnOk result P → OnOk result Q
on_ok (Ok value) f p = f p
on_ok (Err error) f p = tt

at_ok : {T E Q : Type 0} (result : Result T E) → Q → OnOk result Q
at_ok (Ok value) q = q
at_ok (Err error) q = tt

pub returns-clause-same : goal.returns-clause-same
returns-clause-same g c h =
    let synced = c.read_at.ensures.same.was_honest h in
    let written = c.in_ok-sync.ensures.same.was_honest synced in
    let file = calls_of c.write_at.new.self in
    let file' = calls_of c.sync.new.self in
    let b = (after_calls (unseen_of file) (g.S.SystemCalls.history (system_of file))).bytes in
    let b' = (after_calls (unseen_of file') (g.S.SystemCalls.history (system_of file'))).bytes in
    on_ok c.read_at.result
    (λ is. is ∙ ap (window b' c.args.at) c.requires.long
    ∙ window-same b b' c.args.at (length c.args.bytes.now) (λ p inside. (c.in_ok-sync.ensures.syncs synced).bytes p)
    ∙ c.in_ok-write_at.ensures.put written)
    (c.read_at.ensures.read h)

pub returns-clause-closed : goal.returns-clause-closed
returns-clause-closed g c h =
    let synced = c.read_at.ensures.same.was_honest h in
    at_ok c.read_at.result (λ p. (c.read_at.ensures.keeps h).is_open p ∙ (c.in_ok-sync.ensures.syncs synced).closed p)
