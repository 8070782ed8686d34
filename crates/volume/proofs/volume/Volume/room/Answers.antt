use Rattle.std.proofs.Common.{◌≡◌, ◌+◌, ◌<◌, ◌^◌, ◌-◌, ◌-ℤ◌, pos, ℕ, w64, sym, ap, subst, ◌∙◌}
use Rattle.std.proofs.lemmas.Int.{to_z-of_z}
use Rattle.spec_image.specs.Common.{cost_of_files, space_start}
use Rattle.volume.specs.Common.{cost_beyond, memory_of}
use Rattle.volume.proofs.common.Answers.{rest_holds, booked_is}
use Rattle.volume.proofs.volume.Volume.room.Goals as goal

pub difference-requires : goal.difference-requires
difference-requires g c = subst (λ (n : ℕ). n < 2 ^ 63) (sym c.booked.ensures.value) c.self.invariant.map.whole.fits

pub returns : goal.returns
returns g c = rw (← c.self.view_is) (λ honest alive files rest.
    let s = g.D.Disk.state c.self.inside.disk in
    let k = memory_of c.self.inside.map in
    let booked : c.booked.result ≡ cost_of_files files + cost_beyond k = c.booked.ensures.value
    ∙ booked_is s k files c.self.invariant.map.whole
    (rest_holds s k c.self.inside.failed c.self.invariant.map honest alive files rest) in
    let space : c.blocks-size.result - c.space_start.result
    ≡ s.size - space_start s.size = ap (λ n. c.blocks-size.result - n) c.space_start.ensures
    ∙ ap (λ n. n - space_start n) c.blocks-size.ensures in
    to_z-of_z w64 c.difference.result (record { sfits = c.difference.type_inv }) ∙ c.difference.ensures
    ∙ (λ i. pos (space i) -ℤ pos (booked i)))
