use Rattle.std.proofs.Common.{◌≡◌, ◌∙◌, ◌+◌, ◌-◌, ◌≤◌, ℕ, List, length, get_or, take, drop, sym, ap, arith}
use Rattle.std.proofs.Common.{get_or-take, get_or-drop, length-take, length-drop}
use Rattle.imagefile.specs.Common.{window, FileMemory}
use Rattle.imagefile.proofs.Record.{window-list}
use Rattle.imagefile.proofs.memory.MemFileDurable.read_at.Goals as goal

-- what is copied out of a list is a window of it
copied : (all got : List ℕ) (at count n : ℕ) → got ≡ take count (drop at all) → count ≡ n → at + n ≤ length all
    → got ≡ window (λ p. get_or all p 0) at n
copied all got at count n is same fits =
    let part = take count (drop at all) in
    let long : length part ≡ n = omega (arith, length-take count (drop at all), length-drop at all) in
    is ∙ sym (window-list (λ p. get_or all p 0) at part
    (λ i less. sym (get_or-take count (drop at all) i 0 (omega arith) ∙ get_or-drop at all i 0)))
    ∙ ap (window (λ p. get_or all p 0) at) long

pub returns-clause-read : goal.returns-clause-read
returns-clause-read c =
    let view : c.self.inside.bytes.items ≡ c.args.self.now.bytes = ap (λ (m : FileMemory). m.bytes) c.self.view_is in
    let count = c.args.at + length c.args.bytes.now - c.args.at in
    let same : count ≡ length c.args.bytes.now = omega arith in
    copied c.args.self.now.bytes c.copy_from_slice.new.self c.args.at count (length c.args.bytes.now)
    (c.copy_from_slice.ensures.after ∙ ap (λ l. take count (drop c.args.at l)) (c.deref.ensures.value ∙ view))
    same c.requires
