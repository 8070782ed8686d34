-- Images to which a standard stream leads, and streams that lead to no image that is named.
use Rattle.std.proofs.Common.{◌≡◌, ◌⊎◌, inl, inr, ℕ, List, Bool, true, false, Option, Some, None, IfSome, All}
use Rattle.std.proofs.Common.{MatchOption, IsTrue, IsFalse, not, ap, subst, sym, refl, ◌∙◌}
use Rattle.std.specs.Prelude.{drop}
use Rattle.clap.specs.Words.{subcommand_of}
use Rattle.arguments.specs.CommandLine.{command_line}
use Rattle.filser.specs.Common.{AreReportsSpared, AreWordsSpared, Covers, HostFacts, IsApart, IsLedBy, IsStreamAt}
use Rattle.filser.specs.Common.{SparesErrors, SparesOutput, forbids_errors, forbids_output}
use Rattle.filser.specs.declared.fault.HostFault.{HostFault}
use Rattle.filser.specs.declared.fault.HostFault.TheVariants.{System, InUse, Input, Output, Errors, Memory}
use Rattle.filser.specs.declared.fault.HostFault.TheVariants.{WrongLength}
use Rattle.filser.specs.declared.fault.ImageFault.{ImageFault}
use Rattle.filser.specs.declared.led_image.LedImage.{LedImage}
use Rattle.filser.specs.declared.refusal.Refusal.{Refusal}
use Rattle.filser.proofs.NamedFiles.{holds_of_named}

-- what forbids reports forbids the output too
mute_too : (fault : HostFault) → forbids_errors fault ≡ true → forbids_output fault ≡ true
mute_too (System error) h = h
mute_too InUse h = h
mute_too Input h = h
mute_too Output h = refl
mute_too Errors h = refl
mute_too Memory h = refl
mute_too WrongLength h = h

-- of two faults one covers the other
covers_one : (o e p f : Bool) → (e ≡ true → o ≡ true) → (f ≡ true → p ≡ true)
    → ((p ≡ true → o ≡ true) × (f ≡ true → e ≡ true)) ⊎ ((o ≡ true → p ≡ true) × (e ≡ true → f ≡ true))
covers_one true true p f one other = inl (λ h. refl, λ h. refl)
covers_one true false p true one other = inr (λ h. other refl, λ h. refl)
covers_one true false p false one other = inl (λ h. refl, λ h. h)
covers_one false e p f one other = inr (
  λ h. let wrong : false ≡ true = h in cc,
  λ h. let wrong : false ≡ true = one h in cc,
)

pub covers_back : (fault other : HostFault) → (Covers fault other → ⊥) → Covers other fault
covers_back fault other not = elim (covers_one (forbids_output fault) (forbids_errors fault) (forbids_output other)
    (forbids_errors other) (mute_too fault) (mute_too other)) [
      | inl covers ↦ absurd (not covers)
      | inr covers ↦ covers
    ]

-- what a covered fault forbids is forbidden
pub unset : (a b : Bool) → (a ≡ true → b ≡ true) → b ≡ false → a ≡ false
unset true b above is = let wrong : true ≡ false = sym (above refl) ∙ is in cc
unset false b above is = refl

-- if no stream leads to an image, nothing lands in it
pub apart_output : {H : Type 0} (facts : HostFacts H) (image : Option (List ℕ)) → IsApart facts image
    → IfSome image (SparesOutput facts)
apart_output facts None apart = apart
apart_output facts (Some path) apart = record { stream = None; leads = apart; free = refl }

pub apart_errors : {H : Type 0} (facts : HostFacts H) (image : Option (List ℕ)) → IsApart facts image
    → IfSome image (SparesErrors facts)
apart_errors facts None apart = apart
apart_errors facts (Some path) apart = record { stream = None; leads = apart; free = refl }

-- nor if the stream that leads to it doesn't forbid that
pub led_output : {H : Type 0} (facts : HostFacts H) (image : Option (List ℕ)) (refusal : Refusal) (path : List ℕ)
    (fault : ImageFault) (stream : HostFault) → IsLedBy facts image refusal path fault → fault.host ≡ Some stream
    → forbids_output stream ≡ false → IfSome image (SparesOutput facts)
led_output facts image refusal path fault stream led is free =
    subst (λ (i : Option (List ℕ)). IfSome i (SparesOutput facts)) (sym led.named) (record {
      stream = Some stream;
      leads = subst (λ s. IsStreamAt facts path s) (sym (ap (λ (f : ImageFault). f.host) led.cause) ∙ is) led.leads;
      free = free;
    })

pub led_errors : {H : Type 0} (facts : HostFacts H) (image : Option (List ℕ)) (refusal : Refusal) (path : List ℕ)
    (fault : ImageFault) (stream : HostFault) → IsLedBy facts image refusal path fault → fault.host ≡ Some stream
    → forbids_errors stream ≡ false → IfSome image (SparesErrors facts)
led_errors facts image refusal path fault stream led is free =
    subst (λ (i : Option (List ℕ)). IfSome i (SparesErrors facts)) (sym led.named) (record {
      stream = Some stream;
      leads = subst (λ s. IsStreamAt facts path s) (sym (ap (λ (f : ImageFault). f.host) led.cause) ∙ is) led.leads;
      free = free;
    })

-- one image alone may have a stream that leads to it
pub alone_output : {H : Type 0} (facts : HostFacts H) (image new : Option (List ℕ)) (refusal : Refusal)
    (o : Option LedImage) → IsApart facts new
    → MatchOption o (IsApart facts image) (λ led. IsLedBy facts image refusal led.path.now
    (record { refusal = led.refusal; host = Some led.stream }))
    → IfSome o (λ led. forbids_output led.stream ≡ false
    → IfSome image (SparesOutput facts) × IfSome new (SparesOutput facts))
alone_output facts image new refusal None apart is = tt
alone_output facts image new refusal (Some led) apart is =
    λ free. (led_output facts image refusal _ _ led.stream is refl free, apart_output facts new apart)

pub alone_errors : {H : Type 0} (facts : HostFacts H) (image new : Option (List ℕ)) (refusal : Refusal)
    (o : Option LedImage) → IsApart facts new
    → MatchOption o (IsApart facts image) (λ led. IsLedBy facts image refusal led.path.now
    (record { refusal = led.refusal; host = Some led.stream }))
    → IfSome o (λ led. forbids_errors led.stream ≡ false
    → IfSome image (SparesErrors facts) × IfSome new (SparesErrors facts))
alone_errors facts image new refusal None apart is = tt
alone_errors facts image new refusal (Some led) apart is =
    λ free. (led_errors facts image refusal _ _ led.stream is refl free, apart_errors facts new apart)

-- the stream is free
pub is_free : (free : Bool) → not free ≡ false → IsTrue free
is_free true h = refl
is_free false h = let wrong : true ≡ false = h in cc

-- a stream that leads to no file of the words leads to no image of their request
words_spared : {H : Type 0} (facts : HostFacts H) (words : List (List ℕ)) → All (SparesErrors facts) (drop 1 words)
    → AreWordsSpared facts (subcommand_of command_line words) (drop 1 words)
words_spared facts words all = record {
  files = all;
  images = λ request asks. holds_of_named (SparesErrors facts) words (subcommand_of command_line words) request refl
      asks all;
}

-- what a request reports, and then the end of its run
pub reports_spared : {H : Type 0} (facts : HostFacts H) (words : List (List ℕ)) (told middle reported : Option (List ℕ))
    → AreReportsSpared facts (subcommand_of command_line words) (drop 1 words) told middle
    → (reported ≡ middle) ⊎ All (SparesErrors facts) (drop 1 words)
    → AreReportsSpared facts (subcommand_of command_line words) (drop 1 words) told reported
reports_spared facts words told middle reported first (inr spared) = inr (inl (words_spared facts words spared))
reports_spared facts words told middle reported (inl same) (inl still) = inl (still ∙ same)
reports_spared facts words told middle reported (inr spared) (inl still) = inr spared

-- what is reported of words that make no request
pub free_spared : {H : Type 0} (facts : HostFacts H) (words : List (List ℕ)) (told reported : Option (List ℕ))
    (free : Bool) → (IsFalse free → reported ≡ told) → (IsTrue free → All (SparesErrors facts) (drop 1 words))
    → AreReportsSpared facts (subcommand_of command_line words) (drop 1 words) told reported
free_spared facts words told reported true kept spared = inr (inl (words_spared facts words (spared refl)))
free_spared facts words told reported false kept spared = inl (kept refl)
