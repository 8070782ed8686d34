use Rattle.std.proofs.Common.{◌≡◌, ◌≤◌, ◌+◌, ◌∙◌, ℕ, List, Option, Some, Ok, Err, refl, sym, ap, subst, slice_set}
use Rattle.std.specs.Prelude.{◌==◌, ◌||◌, not}
use Rattle.words36.specs.declared.names.FileName.{FileName}
use Rattle.spec_image.specs.Common.{number_of, get, times, same_place, place_of, pack_of}
use Rattle.spec_machine.specs.Common.{with_right, place_at, with_attributes}
use Rattle.spec_machine.specs.declared.call.Reply.TheVariants.{Refused}
use Rattle.spec_machine.proofs.Common.{same_place-equal, is_none_of}
use Rattle.volume.specs.Common.{begun, claims, IsWholeMemory, slot as version_at, IsPinAnswer, prime_at, RestsAt}
use Rattle.volume.specs.declared.live.LiveVersion.{LiveVersion}
use Rattle.volume.proofs.common.PrimeBlocks.{begun_named}
use Rattle.monitor.specs.Common.{IsAnswer, file_begun, KeepsReading, readers_in, pins_of, job_of, readers_of}
use Rattle.monitor.specs.Common.{update_answer_at, updating_side}
use Rattle.retrieval.specs.declared.prime.Prime.{Prime}
use Rattle.monitor.proofs.LookupFile.Lookups.{placed_still}
use Rattle.monitor.proofs.common.PlacedVersions.{placed_begun}
use Rattle.monitor.proofs.common.Renewals.{renews_with, renewed_reading, renewed_pending, renewed_known}
use Rattle.monitor.proofs.UpdateFile.Rows.{out_of_order, done, refused, wanting, reader_held, few_kept, is_update_of}
use Rattle.monitor.proofs.update.update.Goals.{then-is_some-via-then-is_some}
use Rattle.monitor.proofs.update.update.Goals.{then-is_some-via-else-is_some+then-not-names_input}
use Rattle.volume.proofs.BeginVersion.BegunFiles.{update_creates}
use Rattle.monitor.proofs.update.update.Goals as goal

pub side_of-output-requires-clause-few : goal.side_of-output-requires-clause-few
side_of-output-requires-clause-few g c =
    let begins = c.in-Ok.ensures.begun in
    few_kept (g.D.Disk.state c.args.volume.now.disk).size c.args.volume.now.map c.begin_update.new.volume.map
    c.in-Ok.pending.key c.in-Ok.kind begins.1 c.requires.sound.whole.map begins.4

pub renew-renewed-requires-clause-there : goal.renew-renewed-requires-clause-there
renew-renewed-requires-clause-there g c none =
    let begins = c.in-Ok.ensures.begun in
    let between = c.begin_update.new.volume.map in
    let ppn : begins.1.ppn ≡ c.args.reading.1.ppn = begins.2 in
    let file : begins.1.file ≡ c.args.reading.1.file = begins.3 in
    begun_named c.args.volume.now.map between c.in-Ok.pending.key c.in-Ok.kind begins.1 begins.4
    (update_creates c.in-Ok.kind begins.0) ((λ i. prime_at between (ppn i) (file i)) ∙ none)

pub renew-renewed-requires-clause-held : goal.renew-renewed-requires-clause-held
renew-renewed-requires-clause-held g c =
    reader_held c.begin_update.new.volume.map.live c.args.job.now c.args.number c.args.reading.0 c.args.reading.1
    c.requires.there c.requires.side
    (subst (λ (live : List (Option LiveVersion)). (key : ℕ) → times key (pins_of (readers_in (Some c.args.job.now)))
    ≤ readers_of (version_at live key)) (sym c.in-Ok.ensures.begun.4.live) c.requires.held)

pub returns-in-Ok-clause-begun : goal.returns-in-Ok-clause-begun
returns-in-Ok-clause-begun g c is =
    let state = g.D.Disk.state in
    let begins = c.in-Ok.ensures.begun in
    let version = begun c.in-Ok.kind begins.1 begins.4.old in
    let renews = c.renew-renewed.ensures.renews in
    let prime : c.prime_of-prime.result ≡ version.prime = c.prime_of-prime.ensures version begins.4.here in
    let held = renews_with c.begin_update.new.volume.map c.renew-renewed.new.volume.map c.args.reading.1
    c.renew-renewed.result c.args.reading.1.ppn c.args.reading.1.file c.prime_of-prime.result.protection
    version.prime.protection (ap (λ (p : Prime). p.protection) prime) renews.0 in
    let side : c.side_of-output.result ≡ updating_side c.in-Ok.pending.key c.in-Ok.kind version.kept_blocks =
    c.side_of-output.ensures version begins.4.here in
    let status = c.cleared.ensures.value in
    let core = c.put_attributes.ensures
    ∙ ap (λ (p : Prime). with_attributes 2 c.args.job.now.core c.args.address (file_begun p)) prime in (
      c.in-Ok.pending.key,
      record {
        there = c.requires.there;
        side = c.requires.side;
        free = is_none_of c.args.reading.0.output (sym c.is_some.ensures ∙ c.if-is_some.false);
        named = λ w. same_place-equal _ _ (sym (c.names_input.ensures w) ∙ c.if-not-names_input.false);
        kind = c.in-Ok.kind;
        updates = begins.0;
        prime = begins.1;
        prime_is = (begins.2, begins.3);
        between = c.begin_update.new.volume.map;
        begun = begins.4;
        version = version;
        version_is = begins.4.here;
        renewed = c.renew-renewed.result;
        renews = held;
        job_is = c.set_channel.ensures ∙ (λ i. record c.args.job.now {
          core = core i;
          channels = slice_set c.args.job.now.channels c.args.number
              (Some (record c.args.reading.0 {
                status = status i;
                input = Some c.renew-renewed.result;
                output = Some (side i);
              }));
        });
      },
      subst (λ disk. IsWholeMemory (state disk).size c.begin_update.new.volume.map) c.in-Ok.ensures.untouched.0
          c.has_failed-failed.ensures.sound.whole,
      λ h files rests.
          let between = subst (λ disk. (state disk).honest) c.renew-renewed.ensures.untouched.0 h in
          let same = c.in-Ok.ensures.untouched.0 in
          is_update_of (state c.args.volume.now.disk).contents c.args.job.now c.args.reading.1 c.in-Ok.kind version _
          c.begin_update.new.volume.map c.renew-renewed.new.volume.map c.renew-renewed.result files held
          begins.4.here (c.in-Ok.ensures.file between c.requires.alive files rests)
          (c.in-Ok.ensures.kind between c.requires.alive files rests)
          (subst (λ disk. IsPinAnswer (state disk).contents renews.0.between.live c.args.reading.1.file
          (Ok renews.0.held.pin) (get files c.args.reading.1.ppn)) same
          (renews.1 h files (subst (λ disk. RestsAt (state disk) files) (sym same) rests))),
    )

pub returns-in-Ok-clause-placed : goal.returns-in-Ok-clause-placed
returns-in-Ok-clause-placed g c placed =
    let begins = c.in-Ok.ensures.begun in
    let ppn : begins.1.ppn ≡ c.args.reading.1.ppn = begins.2 in
    let file : begins.1.file ≡ c.args.reading.1.file = begins.3 in
    let between = c.begin_update.new.volume.map in
    let new = c.renew-renewed.new.volume.map in
    let renews = c.renew-renewed.ensures.renews.0 in
    placed_still between new
    (renewed_pending between new c.args.reading.1 c.renew-renewed.result c.args.reading.1.ppn c.args.reading.1.file
    c.prime_of-prime.result.protection renews)
    (renewed_known between new c.args.reading.1 c.renew-renewed.result c.args.reading.1.ppn c.args.reading.1.file
    c.prime_of-prime.result.protection renews)
    (placed_begun c.args.volume.now.map between c.in-Ok.pending.key c.in-Ok.kind begins.1 begins.4
    (ap (λ (x : FileName). x.name == 0) file ∙ c.in-Ok.ensures.free.0)
    ((λ i. claims c.args.volume.now.map.pending (place_of (ppn i) (file i))) ∙ c.in-Ok.ensures.free.1) placed)

pub returns-in-Ok-clause-reads : goal.returns-in-Ok-clause-reads
returns-in-Ok-clause-reads g c =
    let begins = c.in-Ok.ensures.begun in
    let between = c.begin_update.new.volume.map in
    let new = c.renew-renewed.new.volume.map in
    subst (λ live. KeepsReading live new.live c.args.job.now c.set_channel.new.self) begins.4.live
    (subst (KeepsReading between.live new.live c.args.job.now) (sym c.set_channel.ensures)
    (renewed_reading between new c.args.reading.1 c.renew-renewed.result c.args.reading.1.ppn c.args.reading.1.file
    c.prime_of-prime.result.protection c.renew-renewed.ensures.renews.0 c.args.job.now c.args.number _ c.args.reading.0
    _
    c.requires.there
    c.requires.side refl))

pub returns-then-is_some-clause-row : goal.returns-then-is_some-clause-row
returns-then-is_some-clause-row g c h s known w =
    let place = place_of c.args.reading.1.ppn c.args.reading.1.file in
    let other = place_at (job_of w c.args.job.now) c.args.address in
    out_of_order (pack_of (g.D.Disk.state c.args.volume.now.disk)) s w c.args.job.now c.args.number c.args.address
    c.args.reading.0 c.args.reading.1 c.requires.there (sym c.lies_outside.ensures.value ∙ c.if-lies_outside.false)
    c.requires.side c.refuse.new.core c.refuse.result
    (elim c.then-is_some.branch [
      | then-is_some-via-then-is_some b ↦ ap (λ t. t || not (same_place place other))
          (sym c.is_some.ensures ∙ b.if-is_some.true)
      | then-is_some-via-else-is_some+then-not-names_input b ↦ ap (λ t. t || not (same_place place other))
          (sym c.is_some.ensures ∙ b.if-is_some.false)
          ∙ ap not (sym (b.names_input.ensures w) ∙ b.if-not-names_input.true)
    ])
    c.refuse.ensures.answered c.refuse.ensures.kept

pub returns-in-Ok-clause-row : goal.returns-in-Ok-clause-row
returns-in-Ok-clause-row g c h s known w =
    let there = sym (c.names_input.ensures w) ∙ c.if-not-names_input.false in
    let free = sym c.is_some.ensures ∙ c.if-is_some.false in
    let place = place_of c.args.reading.1.ppn c.args.reading.1.file in
    let other = place_at (job_of w c.args.job.now) c.args.address in
    done (pack_of (g.D.Disk.state c.args.volume.now.disk)) s w c.args.job.now c.args.number c.args.address
    c.args.reading.0 c.args.reading.1 c.requires.there (sym c.lies_outside.ensures.value ∙ c.if-lies_outside.false)
    c.requires.side (ap (λ t. t || not (same_place place other)) free ∙ ap not there)
    (same_place-equal place other there) (job_of w c.set_channel.new.self)
    (c.in-Ok.ensures.answered (subst (λ disk. (g.D.Disk.state disk).honest) c.renew-renewed.ensures.untouched.0 h)
    c.requires.alive s known w)

pub returns-in-Err-Refused-clause-row : goal.returns-in-Err-Refused-clause-row
returns-in-Err-Refused-clause-row g c h s known w =
    let there = sym (c.names_input.ensures w) ∙ c.if-not-names_input.false in
    let free = sym c.is_some.ensures ∙ c.if-is_some.false in
    let place = place_of c.args.reading.1.ppn c.args.reading.1.file in
    let other = place_at (job_of w c.args.job.now) c.args.address in
    refused (pack_of (g.D.Disk.state c.args.volume.now.disk)) s w c.args.job.now c.args.number c.args.address
    c.args.reading.0 c.args.reading.1 c.requires.there (sym c.lies_outside.ensures.value ∙ c.if-lies_outside.false)
    c.requires.side (ap (λ t. t || not (same_place place other)) free ∙ ap not there)
    (same_place-equal place other there) c.refuse-in-Err-Refused.new.core
    c.refuse-in-Err-Refused.result c.in-Err-Refused.code (c.refuse-in-Err-Refused.ensures.answered
    ∙ ap (λ x. Refused (number_of x)) c.in-Err-Refused.code-is)
    (c.refuse-in-Err-Refused.ensures.kept
    ∙ ap (λ x. with_right c.args.job.now.core (c.args.address + 1) (number_of x)) c.in-Err-Refused.code-is)
    (subst (λ x. IsAnswer {X = ℕ} (Err x) (update_answer_at (pack_of (g.D.Disk.state c.args.volume.now.disk)) s
    (job_of w c.args.job.now) place)) c.in-Err-Refused.field-0-is
    (c.in-Err-Refused.ensures.answered h c.requires.alive s known w))

pub returns-in-Err-NoMemory-clause-row : goal.returns-in-Err-NoMemory-clause-row
returns-in-Err-NoMemory-clause-row g c h s known w =
    let there = sym (c.names_input.ensures w) ∙ c.if-not-names_input.false in
    let free = sym c.is_some.ensures ∙ c.if-is_some.false in
    let place = place_of c.args.reading.1.ppn c.args.reading.1.file in
    let other = place_at (job_of w c.args.job.now) c.args.address in
    wanting (pack_of (g.D.Disk.state c.args.volume.now.disk)) s w c.args.job.now c.args.number c.args.address
    c.args.reading.0 c.args.reading.1 c.requires.there (sym c.lies_outside.ensures.value ∙ c.if-lies_outside.false)
    c.requires.side (ap (λ t. t || not (same_place place other)) free ∙ ap not there)
    (same_place-equal place other there)
    (subst (λ x. IsAnswer {X = ℕ} (Err x) (update_answer_at (pack_of (g.D.Disk.state c.args.volume.now.disk)) s
    (job_of w c.args.job.now) place)) c.in-Err-NoMemory.field-0-is
    (c.in-Err-NoMemory.ensures.answered h c.requires.alive s known w))
