-- Plans after a label, and files that are made of bytes in memory.
use Rattle.std.proofs.Common.{◌≡◌, ◌≤◌, ℕ, List, [], ◌∷◌, ◌++◌, Option, Result, Ok, Err, IfOk, length, refl, ap, inl}
use Rattle.std.proofs.Common.{inr, subst, sym}
use Rattle.std.proofs.KnownBytes.{Appends-nil}
use Rattle.spec_language.specs.Common.{AreWords, Act, Asks, Looks, Plan, Ask, Show, Say, Leads, RunsPlan, Spoken}
use Rattle.spec_language.specs.declared.encoding.Encoding.{Encoding}
use Rattle.commands.specs.Common.{FinishesPlan, Errand, Performs, TellsMisfit, no_room, Imported, labels, said_behind}
use Rattle.commands.specs.Common.{AlwaysStands, Machine, IsTooLong, most_bytes}
use Rattle.commands.specs.declared.answer.Tally.{Tally}
use Rattle.commands.specs.declared.error.SessionError.{SessionError}
use Rattle.commands.specs.declared.error.SessionError.TheVariants.{NoMemory}
use Rattle.commands.proofs.ActLaws.{goes_nowhere}

leads_labelled : (label : List ℕ) (plan rest : Plan) (acts : List Act) → Leads plan acts rest
    → Leads (labels label plan) acts (labels label rest)
leads_labelled label plan rest [] p = ap (labels label) p
leads_labelled label (Ask event next) rest (Asks asked reply ∷ acts) p =
    (p.0, leads_labelled label (next reply) rest acts p.1)
leads_labelled label (Ask event next) rest (Looks owner answer ∷ acts) p = absurd p
leads_labelled label (Show owner next) rest (Asks asked reply ∷ acts) p = absurd p
leads_labelled label (Show owner next) rest (Looks shown answer ∷ acts) p =
    (p.0, leads_labelled label (next answer) rest acts p.1)
leads_labelled label (Say said) rest (act ∷ acts) p = absurd p

-- the text after a label is that of the plan
pub unlabelled : (label : List ℕ) (plan : Plan) (acts : List Act) (said : Spoken)
    → RunsPlan (labels label plan) acts said
    → (inner : Spoken) × RunsPlan plan acts inner × (said ≡ said_behind label inner)
unlabelled label (Ask event next) [] said p = let wrong = p in cc
unlabelled label (Ask event next) (Asks asked reply ∷ acts) said p =
    let more = unlabelled label (next reply) acts said p.1 in (more.0, (p.0, more.1), more.2)
unlabelled label (Ask event next) (Looks owner answer ∷ acts) said p = absurd p
unlabelled label (Show owner next) [] said p = let wrong = p in cc
unlabelled label (Show owner next) (Asks asked reply ∷ acts) said p = absurd p
unlabelled label (Show owner next) (Looks shown answer ∷ acts) said p =
    let more = unlabelled label (next answer) acts said p.1 in (more.0, (p.0, more.1), more.2)
unlabelled label (Say inner) [] said p = (inner, refl, let same = p in cc)
unlabelled label (Say inner) (act ∷ acts) said p = absurd p

module _ {V E S : Type 0} (machine : S → Machine) (bytes : V → List ℕ) (label : List ℕ) (a b : S) (plan : Plan)
    (tally counted : Tally) where
  -- there was no memory for the text
  pub label_lost : (result line : Result V E) (error : E) → line ≡ Err error
      → FinishesPlan bytes result machine a b plan tally counted
      → FinishesPlan bytes line machine a b (labels label plan) tally counted
  label_lost result line error none p = record {
    said = said_behind label p.said;
    led = record {
      acts = p.led.acts;
      goes = p.led.goes;
      leads = leads_labelled label plan (Say p.said) p.led.acts p.led.leads;
    };
    refused = p.refused;
    broke = p.broke;
    reason = p.reason;
    text = subst (λ (r : Result V E). IfOk r (λ v. bytes v ≡ label ++ p.said.text)) (sym none) tt;
  }

  pub labelled : (text : V) (line : Result V E) → IfOk line (λ v. bytes v ≡ label ++ bytes text)
      → FinishesPlan {E = E} bytes (Ok text) machine a b plan tally counted
      → FinishesPlan bytes line machine a b (labels label plan) tally counted
  labelled text line put p = record {
    said = said_behind label p.said;
    led = record {
      acts = p.led.acts;
      goes = p.led.goes;
      leads = leads_labelled label plan (Say p.said) p.led.acts p.led.leads;
    };
    refused = p.refused;
    broke = p.broke;
    reason = p.reason;
    text = subst (λ (l : List ℕ). IfOk line (λ v. bytes v ≡ label ++ l)) p.text put;
  }

module _ {S : Type 0} (machine : S → Machine) (sink full : Option (List ℕ)) (a b : S) (encoding : Encoding)
    (label bytes : List ℕ) (plan : Option (List ℕ) → Plan) where
  pub imported : (result : Result Tally SessionError) (words : Option (List ℕ)) → length bytes ≤ most_bytes encoding
      → AreWords encoding bytes words → Errand sink full machine a b (labels label (plan words)) result
      → (told : Result Tally SessionError)
      → ((acts : List Act) (written : List ℕ) → Performs (labels label (plan words)) acts written result
      → Performs (labels label (plan words)) acts written told) → TellsMisfit encoding bytes told
      → Imported sink full machine a b encoding label bytes plan told
  imported result words few are p told same tells = record {
    written = p.written;
    acts = p.acts;
    appended = p.appended;
    goes = p.goes;
    imports = inl (few, words, are, same p.acts p.written p.performs);
    tells = tells;
  }

  pub not_imported : (result : Result Tally SessionError) → IsTooLong encoding bytes
      → Errand sink full machine a b (labels label no_room) result → (told : Result Tally SessionError)
      → ((acts : List Act) (written : List ℕ) → Performs (labels label no_room) acts written result
      → Performs (labels label no_room) acts written told) → TellsMisfit encoding bytes told
      → Imported sink full machine a b encoding label bytes plan told
  not_imported result long p told same tells = record {
    written = p.written;
    acts = p.acts;
    appended = p.appended;
    goes = p.goes;
    imports = inr (inl (long, same p.acts p.written p.performs));
    tells = tells;
  }

pub no_words : {S : Type 0} (machine : S → Machine) (stands : AlwaysStands machine) (sink : Option (List ℕ)) (a : S)
    (encoding : Encoding) (label bytes : List ℕ) (plan : Option (List ℕ) → Plan)
    → Imported sink sink machine a a encoding label bytes plan (Err NoMemory)
no_words machine stands sink a encoding label bytes plan = record {
  written = [];
  acts = [];
  appended = Appends-nil sink;
  goes = goes_nowhere machine stands a;
  imports = inr (inr (refl, refl, refl));
  tells = tt;
}
