-- Runs whose words make no request.
use Rattle.std.proofs.Common.{◌≡◌, ◌⊎◌, ◌∙◌, [], List, Option, inl, inr, refl, subst, sym, Err}
use Rattle.std.specs.Prelude.{IsErrOf}
use Rattle.clap.specs.Words.{Kinds, IsAmong, Row, Text, kind_of}
use Rattle.clap.specs.declared.error.Error.{Error}
use Rattle.filser.specs.Common.{AreMistaken, AskToSee, EndsUnasked, Asks, IsUsage}
use Rattle.filser.specs.declared.request.Request.{Request}
use Rattle.filser.specs.declared.error.RequestError.{RequestError}
use Rattle.filser.specs.declared.error.WrongArgument.{WrongArgument}
use Rattle.filser.specs.declared.error.RequestError.TheVariants.{Usage, BadArgument, NoMemory}
use Rattle.filser.specs.declared.status.Status.{Status}
use Rattle.filser.specs.declared.status.Status.TheVariants.{Done, BadArguments, Fault}

pub ends_mistaken : (kinds : Kinds) (found : Option (Text × List Row)) (error : RequestError) (s : Status)
    → EndsUnasked error s
    → ((e : Error) → IsErrOf {T = Request} {E = RequestError} (Err error) (Usage e) → IsUsage kinds found e)
    → AreMistaken kinds → (s ≡ BadArguments) ⊎ (s ≡ Fault)
ends_mistaken kinds found (Usage e) s ends usage mistaken = inl (ends.1 (λ shown. elim (usage e refl) [
  | inl among ↦ mistaken.1 (kind_of e) among shown
  | inr past ↦ mistaken.0 past.0
]))
ends_mistaken kinds found (BadArgument wrong) s ends usage mistaken = inl ends
ends_mistaken kinds found NoMemory s ends usage mistaken = inr ends

pub ends_shown : (kinds : Kinds) (found : Option (Text × List Row)) (error : RequestError) (s : Status)
    → EndsUnasked error s
    → ((e : Error) → IsErrOf {T = Request} {E = RequestError} (Err error) (Usage e) → IsUsage kinds found e)
    → ((wrong : Option WrongArgument) → IsErrOf {T = Request} {E = RequestError} (Err error) (BadArgument wrong)
    → kinds ≡ []) → AskToSee kinds → (s ≡ Done) ⊎ (s ≡ Fault)
ends_shown kinds found (Usage e) s ends usage bad ask = ends.0 (elim (usage e refl) [
  | inl among ↦ ask.1 (kind_of e) among
  | inr past ↦ absurd (ask.0 past.0)
])
ends_shown kinds found (BadArgument wrong) s ends usage bad ask = absurd (ask.0 (bad wrong refl))
ends_shown kinds found NoMemory s ends usage bad ask = inr ends

-- words that make a request are no mistake
pub ends_asked : (kinds : Kinds) (found : Option (Text × List Row)) (error : RequestError) (s : Status)
    → EndsUnasked error s
    → ((e : Error) → IsErrOf {T = Request} {E = RequestError} (Err error) (Usage e) → IsUsage kinds found e)
    → ((wrong : Option WrongArgument) → IsErrOf {T = Request} {E = RequestError} (Err error) (BadArgument wrong)
    → (r : Request) → Asks found r → ⊥)
    → (r : Request) → Asks found r → kinds ≡ [] → s ≡ BadArguments → ⊥
ends_asked kinds found (Usage e) s ends usage bad r asks none is = elim (usage e refl) [
  | inl among ↦ subst (λ (k : Kinds). IsAmong (kind_of e) k) none among
  | inr past ↦ past.3 r asks
]
ends_asked kinds found (BadArgument wrong) s ends usage bad r asks none is = bad wrong refl r asks
ends_asked kinds found NoMemory s ends usage bad r asks none is = let wrong : Fault ≡ BadArguments = sym ends ∙ is in cc
