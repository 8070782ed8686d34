use Rattle.std.proofs.Common.{◌≡◌, ◌⊎◌, ◌↔◌, ◌+◌, ◌++◌, ◌∷◌, ◌/◌, ◌<◌, ℕ, [], true, Some, IsTrue, sym, ap, subst, ◌∙◌}
use Rattle.blockdisk.specs.Common.{keeps_still}
use Rattle.spec_image.specs.Common.{table_start}
use Rattle.alloctab.specs.Common.{flag_at}
use Rattle.volume.specs.declared.error.VolumeError.TheVariants.{TableWrong}
use Rattle.salvage.specs.Common.{AreAdded, IsFreeBlock, TellsBits}
use Rattle.salvage.specs.declared.finding.Cost.TheVariants.{Nothing}
use Rattle.salvage.specs.declared.finding.Defect.TheVariants.{Start}
use Rattle.salvage.proofs.CarriedFacts.{on_ok}
use Rattle.salvage.proofs.FreeTables.{untold_added, untold_free, wrong_untold}
use Rattle.salvage.proofs.WalkedChains.{on_any}
use Rattle.salvage.proofs.free.read_free.Goals as goal

pub returns-then-not-tells_bits-clause-marked : goal.returns-then-not-tells_bits-clause-marked
returns-then-not-tells_bits-clause-marked g c h =
    let s = g.D.Disk.state c.args.disk.now in
    let i = c.args.i in
    let words = c.in-Ok.words in
    let block : c.table_start.result + i ≡ table_start s.size + i = ap (λ (n : ℕ). n + i) (c.table_start.ensures
    ∙ ap table_start c.blocks-size.ensures) in
    let here : s.contents (table_start s.size + i) ≡ Some words = ap s.contents (sym block)
    ∙ c.in-Ok.ensures.words h in
    let wrong : TellsBits s.size i words → ⊥ = λ tells.
    let yes : IsTrue c.tells_bits.result = c.tells_bits.ensures.1
    (subst (λ (n : ℕ). TellsBits n i words) (sym c.blocks-size.ensures) tells) in
    let no = c.if-not-tells_bits.true in cc in
    on_any c.push_finding-then-not-tells_bits.result ((n : ℕ) → n < s.size → (flag_at c.args.free.now n ≡ true)
    ↔ ((flag_at c.args.free.now n ≡ true) ⊎ ((n / 4608 ≡ i) × IsFreeBlock s.size s.contents n)))
    (untold_free s.size i s.contents c.args.free.now (wrong_untold s.size i s.contents words here wrong))

pub returns-then-not-tells_bits-clause-added : goal.returns-then-not-tells_bits-clause-added
returns-then-not-tells_bits-clause-added g c h layout =
    let s = g.D.Disk.state c.args.disk.now in
    let i = c.args.i in
    let words = c.in-Ok.words in
    let block : c.table_start.result + i ≡ table_start s.size + i = ap (λ (n : ℕ). n + i) (c.table_start.ensures
    ∙ ap table_start c.blocks-size.ensures) in
    let here : s.contents (table_start s.size + i) ≡ Some words = ap s.contents (sym block)
    ∙ c.in-Ok.ensures.words h in
    let wrong : TellsBits s.size i words → ⊥ = λ tells.
    let yes : IsTrue c.tells_bits.result = c.tells_bits.ensures.1
    (subst (λ (n : ℕ). TellsBits n i words) (sym c.blocks-size.ensures) tells) in
    let no = c.if-not-tells_bits.true in cc in
    let new = c.push_finding-then-not-tells_bits.new.findings.items in
    let old = c.args.findings.now.items in
    on_ok {P = new ≡ old ++ record { fault = Start (TableWrong (c.table_start.result + i)); costs = Nothing } ∷ []}
    {Q = AreAdded s.size layout s.contents old new} c.push_finding-then-not-tells_bits.result
    (λ told. untold_added s.size layout i (c.table_start.result + i) s.contents old new c.requires.in_table block
    (wrong_untold s.size i s.contents words here wrong) told) c.push_finding-then-not-tells_bits.ensures.told

pub returns-then-not-tells_bits-clause-reads : goal.returns-then-not-tells_bits-clause-reads
returns-then-not-tells_bits-clause-reads g c h =
    let keeps = c.read.ensures.keeps h in
    record {
      still = keeps_still (g.D.Disk.state c.args.disk.now) (g.D.Disk.state c.read.new.self) keeps;
      is_open = keeps.is_open;
    }
