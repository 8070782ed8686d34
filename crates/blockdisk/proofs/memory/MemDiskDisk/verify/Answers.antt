use Rattle.std.proofs.Common.{◌≡◌, ◌∙◌, ⊎_elim, length, subst, sym, arith}
use Rattle.std.proofs.lemmas.Bool.{cases_eq}
use Rattle.blockdisk.specs.Common.{IsWholeBlock, Memory, held}
use Rattle.blockdisk.proofs.memory.MemDiskDisk.verify.Goals as goal

pub loop-n-preserved : goal.loop-n-preserved
loop-n-preserved c =
    let inv = c.loop-n.invariant in
    let m = c.args.self.now in
    let long : length c.in-Ok.field-0 ≡ 128 = let inv = rw c.in-Ok.is at c.read.type_inv in assumption inv in
    let read : IsWholeBlock (held c.loop-n.self.blocks) c.loop-n.n
    = record { words = c.in-Ok.field-0; holds = c.in-Ok.ensures.words; all = long } in
    let here : IsWholeBlock (held m.blocks) c.loop-n.n
    = subst (λ (w : Memory). IsWholeBlock (held w.blocks) c.loop-n.n) inv.same read in
    record {
      whole = λ n low less. ⊎_elim (λ same. subst (IsWholeBlock (held m.blocks)) (sym same) here)
          (λ other. inv.whole n low (omega (arith, less, other))) (cases_eq n c.loop-n.n);
      same = c.in-Ok.ensures.unchanged ∙ inv.same;
    }
