-- Texts that are written one after the other.
use Rattle.std.proofs.Common.{◌≡◌, ◌<◌, ◌++◌, ℕ, List, Option, Result, Ok, Err, OnOk, IfErr, length, refl}
use Rattle.std.proofs.Common.{sym, ap, ◌∙◌, subst, arith}
use Rattle.std.proofs.KnownBytes.{Appends-trans}
use Rattle.std.proofs.lemmas.List.{append_assoc, length-append}
use Rattle.std.specs.Io.KnownBytes.{Appends}
use Rattle.commands.specs.declared.error.SessionError.{SessionError}
use Rattle.commands.specs.declared.error.SessionError.TheVariants.{Write}
use Rattle.filser.specs.Common.{IsBegun, Puts}

-- what `write_text` promises
pub wrote : {T : Type 0} (sink full : Option (List ℕ)) (given text : List ℕ) (result : Result T SessionError)
    → given ≡ text → OnOk result (Appends sink full given)
    → IfErr result (λ error. (error ≡ Write) × ((written : List ℕ) × (unwritten : List ℕ)
    × Appends sink full written × (given ≡ written ++ unwritten) × (0 < length unwritten)))
    → Puts result sink full text
wrote sink full given text (Ok value) same ok err = subst (λ t. Appends sink full t) same ok
wrote sink full given text (Err error) same ok err = (err.0, subst (λ t. IsBegun sink full t) same err.1)

-- a writer that failed has no more of what would have followed
pub cut_on : (sink full : Option (List ℕ)) (given text more : List ℕ) → given ≡ text → IsBegun sink full given
    → IsBegun sink full (text ++ more)
cut_on sink full given text more same p = (
  p.0,
  p.1 ++ more,
  p.2,
  ap (λ xs. xs ++ more) (sym same ∙ p.3) ∙ append_assoc p.0 p.1 more,
  omega (arith, p.4, length-append p.1 more),
)

-- what follows is written after it, or a beginning of that
pub cut_behind : (sink mid full : Option (List ℕ)) (given text more : List ℕ) → given ≡ text → Appends sink mid given
    → IsBegun mid full more → IsBegun sink full (text ++ more)
cut_behind sink mid full given text more same p q = (
  text ++ q.0,
  q.1,
  Appends-trans sink mid full text q.0 (subst (λ t. Appends sink mid t) same p) q.2,
  ap (λ xs. text ++ xs) q.3 ∙ sym (append_assoc text q.0 q.1),
  q.4,
)

pub put_on : {T : Type 0} (result : Result T SessionError) (sink mid full : Option (List ℕ)) (text more : List ℕ)
    → Appends sink mid text → Puts result mid full more → Puts result sink full (text ++ more)
put_on (Ok value) sink mid full text more p q = Appends-trans sink mid full text more p q
put_on (Err error) sink mid full text more p q = (q.0, cut_behind sink mid full text text more refl p q.1)
