use Rattle.std.proofs.Common.{inr, inl, refl, ⊎_elim}
use Rattle.blockdisk.specs.Common.{memory_state, still_start}
use Rattle.salvage.specs.declared.error.SalvageError.TheVariants.{NoMemory}
use Rattle.filser.proofs.SalvageLaws.{part_copied}
use Rattle.filser.proofs.salvage_image.salvage_part.Goals as goal

pub returns-in-Named-clause-ran : goal.returns-in-Named-clause-ran
returns-in-Named-clause-ran g c = inr (
  refl,
  record {
    error = NoMemory;
    read = record { still = still_start (memory_state c.args.copied.now.disk); is_open = λ n. refl };
    cause = inl (refl, refl);
    said = c.say.ensures.said;
  },
)

pub returns-in-Used : goal.returns-in-Used
returns-in-Used g c = record {
  serving = c.salvage_named.ensures.serving;
  ran = part_copied _ _ c.args.task.now _ _ _ _ c.args.copied.now.faults
      c.salvage_named.result
      (λ named. ⊎_elim (λ used. absurd (cc (used, named))) (λ every. absurd (cc (every, named))) c.in-Used.is)
      c.salvage_named.ensures.ran;
}
