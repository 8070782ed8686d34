-- The exit status of a run, and what is printed if the words make no request.
use Rattle.std.proofs.Common.{◌≡◌, ◌≢◌, ◌⊎◌, inl, inr, ℕ, List, Option, Result, Ok, Err, IfOk, IsSome}
use Rattle.std.proofs.Common.{Bool, MatchOption, true}
use Rattle.std.proofs.Common.{refl, sym, ◌∙◌, ap, subst}
use Rattle.std.specs.Prelude.{IsErrOf, None, Some}
use Rattle.std.specs.Option.{option_or}
use Rattle.std.specs.declared.io.Error.{Error as IoError}
use Rattle.clap.specs.Words.{Kinds, Row, Text, kind_of}
use Rattle.clap.specs.declared.error.Error.{Error}
use Rattle.filser.specs.Common.{AsksForHelp, IsMistaken, IsUsage, PrintsOnly, fault_of_flush, status_code}
use Rattle.filser.specs.declared.output.OutputFault.{OutputFault}
use Rattle.filser.specs.declared.output.OutputFault.TheVariants.{System}
use Rattle.filser.specs.declared.request.Request.{Request}
use Rattle.filser.specs.declared.error.RequestError.{RequestError}
use Rattle.filser.specs.declared.error.WrongArgument.{WrongArgument}
use Rattle.filser.specs.declared.error.RequestError.TheVariants.{Usage, BadArgument, NoMemory}
use Rattle.filser.specs.declared.status.Status.{Status}
use Rattle.filser.specs.declared.status.Status.TheVariants.{Done, Refused, BadArguments, BadImage, Fault}

-- the status of a run is that of what was done, or 4
pub code_is : {F : Type 0} (fault : Option F) (status : Status) (code : ℕ)
    → MatchOption fault (code ≡ status_code status) (λ why. code ≡ 4) → (code ≡ status_code status) ⊎ (code ≡ 4)
code_is None status code h = inl h
code_is (Some why) status code h = inr h

-- and 4 only after a fault of the output
pub code_ran : {F : Type 0} (fault : Option F) (status : Status) (code : ℕ)
    → MatchOption fault (code ≡ status_code status) (λ why. code ≡ 4)
    → (code ≡ status_code status) ⊎ ((code ≡ 4) × IsSome fault)
code_ran None status code h = inl h
code_ran (Some why) status code h = inr (h, refl)

-- and 4 after each fault, and if the output wasn't flushed
pub code_written : {T : Type 0} (flushed : Result T IoError) (old new : Option OutputFault) (is_flushed : Bool)
    (status : Status) (code : ℕ) → MatchOption new (code ≡ status_code status) (λ why. code ≡ 4)
    → new ≡ option_or old (fault_of_flush flushed) → IfOk flushed (λ v. is_flushed ≡ true)
    → (code ≡ 4) ⊎ ((new ≡ None) × (is_flushed ≡ true))
code_written flushed old (Some why) is_flushed status code h is made = inl h
code_written (Ok v) old None is_flushed status code h is made = inr (refl, made)
code_written (Err e) None None is_flushed status code h is made = let wrong : None ≡ Some (System e) = is in cc
code_written (Err e) (Some fault) None is_flushed status code h is made = let wrong : None ≡ Some fault = is in cc

pub code_mistaken : (status : Status) (code : ℕ) → (code ≡ status_code status) ⊎ (code ≡ 4)
    → (status ≡ BadArguments) ⊎ (status ≡ Fault) → (code ≡ 2) ⊎ (code ≡ 4)
code_mistaken status code (inr e) s = inr e
code_mistaken status code (inl e) (inl s) = inl (e ∙ ap status_code s)
code_mistaken status code (inl e) (inr s) = inr (e ∙ ap status_code s)

not_two : (status : Status) → status_code status ≡ 2 → status ≡ BadArguments
not_two Done e = let wrong : 0 ≡ 2 = e in cc
not_two Refused e = let wrong : 1 ≡ 2 = e in cc
not_two BadArguments e = refl
not_two BadImage e = let wrong : 3 ≡ 2 = e in cc
not_two Fault e = let wrong : 4 ≡ 2 = e in cc

pub code_asked : (status : Status) (code : ℕ) → (code ≡ status_code status) ⊎ (code ≡ 4) → status ≢ BadArguments
    → code ≡ 2 → ⊥
code_asked status code (inl e) differs two = differs (not_two status (sym e ∙ two))
code_asked status code (inr e) differs two = let wrong : 4 ≡ 2 = sym e ∙ two in cc

pub prints_only : (kinds : Kinds) (found : Option (Text × List Row)) (error : RequestError)
    (sink full : Option (List ℕ))
    → ((e : Error) → IsErrOf {T = Request} {E = RequestError} (Err error) (Usage e) → IsUsage kinds found e)
    → ((wrong : Option WrongArgument) → IsErrOf {T = Request} {E = RequestError} (Err error) (BadArgument wrong)
    → IsMistaken found wrong)
    → (((wrong : Option WrongArgument) × (error ≡ BadArgument wrong)) ⊎ (error ≡ NoMemory) → full ≡ sink)
    → ((e : Error) → error ≡ Usage e → (AsksForHelp (kind_of e) → ⊥) → full ≡ sink)
    → PrintsOnly kinds found error sink full
prints_only kinds found (Usage e) sink full usage bad none mistake = (usage e refl, mistake e refl)
prints_only kinds found (BadArgument wrong) sink full usage bad none mistake = (
  bad wrong refl,
  none (inl (wrong, refl)),
)
prints_only kinds found NoMemory sink full usage bad none mistake = none (inr refl)

pub bad_error : (error : RequestError) (wrong : Option WrongArgument) → error ≡ BadArgument wrong
    → IsErrOf {T = Request} {E = RequestError} (Err error) (BadArgument wrong)
bad_error error wrong is =
    subst (λ e. IsErrOf {T = Request} {E = RequestError} (Err e) (BadArgument wrong)) (sym is) refl
