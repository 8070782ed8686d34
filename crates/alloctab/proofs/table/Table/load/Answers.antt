use Rattle.std.proofs.Common.{◌≡◌, ℕ, ◌*◌, List, length, replicate, sym, ◌∙◌, ap, subst, arith, rules}
use Rattle.std.proofs.lemmas.List.{with_items_is}
use Rattle.alloctab.specs.Common.{digit_at, word_bit, flags, IsClearFrom, IsTableInMemory, IsTableOf}
use Rattle.alloctab.proofs.MemoryLaws.{sound, kept_loaded, table_read, zeros}
use Rattle.alloctab.proofs.table.Table.load.Goals as goal

pub invariant_of-result : goal.invariant_of-result
invariant_of-result g c =
    let long = c.table_blocks.result * 128 in
    let words = c.read_table.new.set in
    let size : c.blocks-size.result ≡ (g.D.Disk.state c.args.disk.now).size = search rules in
    let zero : c.as_mut_slice.result.now ≡ replicate {A = ℕ} long 0 = search rules in
    let whole : length words ≡ c.in_ok-set.set.len = search rules in
    let none = c.in_ok-read_table.ensures.past (λ m from. ap (λ (l : List ℕ). word_bit l m) zero ∙ zeros long m) in
    let clear : IsClearFrom c.blocks-size.result words = λ m from. none m (omega arith) in
    subst (λ (l : List ℕ). IsTableInMemory c.blocks-size.result l c.in_ok-held.held.items c.in_ok-counts.counts.items
    c.in_ok-changed.changed.items 0) (sym (with_items_is c.in_ok-set.set words whole))
    (kept_loaded c.blocks-size.result words c.in_ok-held.held.items c.in_ok-counts.counts.items
    c.in_ok-changed.changed.items long (search rules) (search rules) (search rules) clear (search rules) (search rules)
    (search rules))

pub returns-clause-sound : goal.returns-clause-sound
returns-clause-sound g c = sound _ _ _ _ _ _ (invariant_of-result g c) 0

pub returns-clause-read : goal.returns-clause-read
returns-clause-read g c h =
    let old = g.D.Disk.state c.args.disk.now in
    let long = c.table_blocks.result * 128 in
    let words = c.read_table.new.set in
    let size : c.blocks-size.result ≡ old.size = search rules in
    let zero : c.as_mut_slice.result.now ≡ replicate {A = ℕ} long 0 = search rules in
    let whole : length words ≡ c.in_ok-set.set.len = search rules in
    let clear = c.in_ok-read_table.ensures.past (λ m from. ap (λ (l : List ℕ). word_bit l m) zero ∙ zeros long m) in
    subst (λ (l : List ℕ). IsTableOf old.size old.contents (digit_at (flags (word_bit l) c.blocks-size.result)))
    (sym (with_items_is c.in_ok-set.set words whole))
    (subst (λ (n : ℕ). IsTableOf old.size old.contents (digit_at (flags (word_bit words) n))) (sym size)
    (table_read old.size words old.contents clear (c.in_ok-read_table.ensures.read h)))
