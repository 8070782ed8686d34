use Rattle.std.proofs.Common.{◌≡◌, ◌%◌, ◌^◌, ℕ, get_or, ap, sym, ◌∙◌}
use Rattle.volume.specs.Common.{master_view}
use Rattle.volume.proofs.common.Answers.{viewed_get}
use Rattle.volume.proofs.BeginVersion.Beginnings.{known_place}
use Rattle.volume.proofs.Charges.Charges.{word_quota}
use Rattle.volume.proofs.charge.charge_in_memory.Goals as goal

pub returns-clause-charged : goal.returns-clause-charged
returns-clause-charged c =
    let m = c.args.memory.now in
    let at = c.in-Ok.ensures.found in
    let i = c.in-Ok.place in
    let e = known_place m c.requires.whole c.args.ppn i at.0 at.1 in
    let entry = c.index-entries-place.result in
    let is : entry ≡ get_or m.master.entries i entry = c.index-entries-place.is
    ∙ ap (λ es. get_or es i entry) c.entries.ensures.value in
    let seen : master_view entry ≡ (c.args.ppn, at.0) = ap master_view is
    ∙ viewed_get master_view m.master.entries i (c.args.ppn, at.0) entry at.1.is in
    record {
      place = i;
      word = at.0;
      there = at.1;
      directory = e.0;
      directory_at = e.1;
      quota_is = sym (word_quota entry.protection entry.quota entry.quota_fits)
          ∙ ap (λ (x : ℕ × (ℕ × ℕ)). x.1.0 % 2 ^ 18) seen;
      used_is = c.used_at.ensures.value e.0 e.1;
    }
