-- The files of a directory, and files that are taken out.
use Rattle.std.proofs.Common.{◌≡◌, ℕ, List, [], ◌∷◌, ◌++◌, All, Option, Some, None, Result, Ok, Err, IfOk, refl, sym}
use Rattle.std.proofs.Common.{ap, subst, inl, inr, ◌+◌}
use Rattle.std.specs.Prelude.{flat_map, MatchResult}
use Rattle.words36.specs.Common.{word_bytes, IsOctet, IsWord}
use Rattle.words36.specs.declared.moment.Moment.{Moment}
use Rattle.spec_language.specs.Common.{AreWords, operator, Act, Asks, Looks, Plan, Show, Say, Leads, blocks_said}
use Rattle.spec_language.specs.Common.{call_event, each, ends, examines, fails, file_words, lookup_events, list_events}
use Rattle.spec_language.specs.Common.{read_plan}
use Rattle.spec_language.specs.Common.{type_body_plan, until_end, Spoken, file_said, prints, refuses, core_words}
use Rattle.spec_machine.specs.declared.call.Call.TheVariants.{Reset}
use Rattle.spec_machine.specs.declared.call.Event.{Event}
use Rattle.spec_machine.specs.declared.call.Event.TheVariants.{Login}
use Rattle.spec_machine.specs.declared.call.Reply.{Reply}
use Rattle.spec_machine.specs.declared.call.Reply.TheVariants.{Done}
use Rattle.spec_language.specs.declared.command.Spec.{Spec}
use Rattle.spec_language.specs.declared.encoding.Encoding.{Encoding}
use Rattle.spec_language.specs.declared.encoding.Encoding.TheVariants.{Words}
use Rattle.spec_image.specs.declared.entry.Entry.{Entry}
use Rattle.commands.specs.Common.{AreTyped, HasTyped, FollowsPlan, Exports, HasBytes, HasEntries, HasExported}
use Rattle.commands.specs.Common.{HasWordsRead}
use Rattle.commands.specs.Common.{IsExport, ComesBack, IsFirstFor, SaysWords, asks_for, entries_answered}
use Rattle.commands.specs.Common.{AlwaysStands, IsAnswered, IsListed, Machine}
use Rattle.commands.specs.declared.export_file.Exported.{Exported}
use Rattle.commands.specs.declared.export_file.Exported.TheVariants.{File, Refused, NotBytes}
use Rattle.commands.specs.declared.type_line.Target.TheVariants.{List as ListTarget}
use Rattle.commands.specs.declared.type_line.Typed.{Typed}
use Rattle.commands.proofs.ActLaws.{goes_answered, goes_listed, goes_on}
use Rattle.commands.proofs.InputLaws.{not_both}
use Rattle.commands.proofs.LedLaws.{led_on, if_other}
use Rattle.commands.proofs.WordBytes.{one_reading}

-- The first encoding of three, the last of which is that of words.
module _ (words : List ℕ) (order : List Encoding) (first second : Encoding) (is : order ≡ first ∷ second ∷ Words ∷ [])
    (bytes : List ℕ) where
  pub last_exact : (HasBytes first words → ⊥) → (HasBytes second words → ⊥)
      → All IsOctet bytes × AreWords Words bytes (Some words)
      → IsFirstFor words order Words × AreWords Words bytes (Some words)
  last_exact none other p = (
    subst (λ (l : List Encoding). IsFirstFor words l Words) (sym is)
        (inr (none, inr (other, inl ((bytes, p.0, p.1), refl)))),
    p.1,
  )

-- Words that are read.

module _ {V E X S : Type 0} (machine : S → Machine) (items : V → List ℕ) (a b c : S) (moment : Moment) (spec : Spec)
    (read : Result X Reply) (before after : Typed)
    (p : HasTyped machine a b moment (λ next. each moment (lookup_events moment spec ++ list_events 128)
    (examines moment (file_words + 3) (λ size. type_body_plan moment (blocks_said size) size
    (λ words. until_end moment (next words))))) read before after)
    (closed : (said : Spoken) → FollowsPlan machine b c (ends moment said) (Say said)) where
  pub words_out : (x : X) (result : Result V E) → read ≡ Ok x → AreTyped ListTarget before []
      → ((words : List ℕ) → AreTyped ListTarget after words → IfOk result (λ v. items v ≡ words))
      → HasWordsRead items (Ok result) machine a c (read_plan moment Words spec)
  words_out x result e fresh kept =
      let q = subst (λ (r : Result X Reply). HasTyped machine a b moment (λ next. each moment
      (lookup_events moment spec ++ list_events 128)
      (examines moment (file_words + 3) (λ size. type_body_plan moment (blocks_said size)
      size (λ words. until_end moment (next words))))) r before after) e p in
      record {
        said = file_said Words q.words;
        led = led_on machine a b c (read_plan moment Words spec) (ends moment (file_said Words q.words))
            (Say (file_said Words q.words)) (q.led (λ words. ends moment (file_said Words words)))
            (closed (file_said Words q.words));
        says = by result q.words (kept q.words (q.types ListTarget [] fresh));
      }
    where
      by : (r : Result V E) (words : List ℕ) → IfOk r (λ v. items v ≡ words)
          → SaysWords items (file_said Words words) (Ok r)
      by (Ok v) words same = ap (λ (l : List ℕ). prints (flat_map word_bytes l)) (sym same)
      by (Err error) words same = (words, refl)

  pub words_refused : (reply : Reply) → read ≡ Err reply
      → HasWordsRead {V = V} {E = E} items (Err reply) machine a c (read_plan moment Words spec)
  words_refused reply e =
      let q = subst (λ (r : Result X Reply). HasTyped machine a b moment (λ next. each moment
      (lookup_events moment spec ++ list_events 128)
      (examines moment (file_words + 3) (λ size. type_body_plan moment (blocks_said size)
      size (λ words. until_end moment (next words))))) r before after) e p in
      record {
        said = refuses reply;
        led = led_on machine a b c (read_plan moment Words spec) (ends moment (refuses reply)) (Say (refuses reply))
            (q.led (λ words. ends moment (file_said Words words))) (closed (refuses reply));
        says = refl;
      }

-- Files that are taken out.

module _ {V E S : Type 0} (machine : S → Machine) (items : V → List ℕ) (a b c : S) (plan : Plan) where
  -- the acts before an end
  pub read_behind : (rest : Plan) (result : Result (Result V E) Reply) → FollowsPlan machine a b plan rest
      → HasWordsRead items result machine b c rest → HasWordsRead items result machine a c plan
  read_behind rest result led p = record {
    said = p.said;
    led = led_on machine a b c plan rest (Say p.said) led p.led;
    says = p.says;
  }

  pub not_begun : (moment : Moment) (reply : Reply) → FollowsPlan machine a b plan (fails moment reply)
      → FollowsPlan machine b c (ends moment (refuses reply)) (Say (refuses reply))
      → HasWordsRead {V = V} {E = E} items (Err reply) machine a c plan
  not_begun moment reply led closed = record {
    said = refuses reply;
    led = led_on machine a b c plan (fails moment reply) (Say (refuses reply)) led closed;
    says = refl;
  }

module _ {V E F S : Type 0} (machine : S → Machine) (items : V → List ℕ) (a b : S) (asked : Option Encoding) (mode : ℕ)
    (plan : Plan) where
  pub exported : (v : V) (result : Result Exported F) → IfOk result (IsExport asked mode (items v))
      → All IsWord (items v) → HasWordsRead {E = E} items (Ok (Ok v)) machine a b plan
      → HasExported machine a b asked mode plan result
  exported v result is fit p =
      let led = subst (λ (said : Spoken). FollowsPlan machine a b plan (Say said)) p.says p.led in
      record { acts = led.acts; goes = led.goes; exports = by result is led.acts led.leads }
    where
      by : (r : Result Exported F) → IfOk r (IsExport asked mode (items v)) → (acts : List Act)
          → Leads plan acts (Say (prints (flat_map word_bytes (items v)))) → Exports asked mode plan acts r
      by (Ok (File encoding bytes)) is acts leads = (items v, fit, leads, is)
      by (Ok (Refused reply)) is acts leads = absurd (never asked is)
        where
          never : (o : Option Encoding) → IsExport o mode (items v) (Refused reply) → ⊥
          never None i = i
          never (Some e) i = i
      by (Ok NotBytes) is acts leads = (items v, fit, leads, is)
      by (Err error) is acts leads = (items v, leads)

-- all channels are closed by one act
one_reset : (moment : Moment) (said : Spoken) (acts : List Act) → Leads (ends moment said) acts (Say said)
    → (reset : Reply) × (acts ≡ Asks (call_event moment Reset) reset ∷ [])
one_reset moment said [] p = let wrong = p in cc
one_reset moment said (Asks asked reply ∷ []) p = (reply, ap (λ (e : Event). Asks e reply ∷ []) p.0)
one_reset moment said (Asks asked reply ∷ (act ∷ acts)) p = absurd p.1
one_reset moment said (Looks owner answer ∷ acts) p = absurd p

-- The files of a directory.
module _ {V S : Type 0} (machine : S → Machine) (stands : AlwaysStands machine) (entries : V → List Entry)
    (a b c : S) (moment : Moment) (user owner : ℕ) (is : user ≡ operator) where
  pub entries_are : (reply : Reply) (result : Result V Reply) → reply ≡ Done
      → IsAnswered (machine a) (machine b) (Login 1 user core_words) reply
      → MatchResult result (λ v. IsListed (machine b) (machine c) 1 owner (Ok (entries v)))
      (λ refused. IsListed (machine b) (machine c) 1 owner (Err refused))
      → HasEntries entries machine a c moment owner result
  unfolding each
  entries_are reply result done answered list =
      let listed = by result list in
      let login = subst (λ (r : Reply). IsAnswered (machine a) (machine b) (Login 1 operator core_words) r) done
      (subst (λ (n : ℕ). IsAnswered (machine a) (machine b) (Login 1 n core_words) reply) is answered) in
      record {
        acts = Asks (Login 1 operator core_words) Done ∷ Looks owner (entries_answered entries result) ∷ [];
        goes = goes_on machine a b c (Asks (Login 1 operator core_words) Done ∷ [])
            (Looks owner (entries_answered entries result) ∷ [])
            (goes_answered machine stands a b (Login 1 operator core_words) Done login)
            (goes_listed machine stands b c owner (entries_answered entries result) listed);
        answer = inl (λ next. asked_done moment owner (entries_answered entries result) next);
      }
    where
      by : (r : Result V Reply)
          → MatchResult r (λ v. IsListed (machine b) (machine c) 1 owner (Ok (entries v)))
          (λ refused. IsListed (machine b) (machine c) 1 owner (Err refused))
          → IsListed (machine b) (machine c) 1 owner (entries_answered entries r)
      by (Ok v) p = p
      by (Err refused) p = p

      asked_done : (moment : Moment) (owner : ℕ) (answer : Result (List Entry) Reply)
          (next : Result (List Entry) Reply → Plan)
          → Leads (asks_for moment owner next)
          (Asks (Login 1 operator core_words) Done ∷ Looks owner answer ∷ []) (next answer)
      asked_done moment owner answer next = (refl, (refl, refl))

  pub no_entries : (reply : Reply) → (reply ≡ Done → ⊥)
      → IsAnswered (machine a) (machine b) (Login 1 user core_words) reply
      → FollowsPlan machine b c (ends moment (refuses reply)) (Say (refuses reply))
      → HasEntries {V = V} entries machine a c moment owner (Err reply)
  unfolding each
  no_entries reply other answered closed =
      let one = one_reset moment (refuses reply) closed.acts closed.leads in
      record {
        acts = Asks (Login 1 operator core_words) reply ∷ closed.acts;
        goes = goes_on machine a b c (Asks (Login 1 operator core_words) reply ∷ []) closed.acts
            (goes_answered machine stands a b (Login 1 operator core_words) reply
            (subst (λ (n : ℕ). IsAnswered (machine a) (machine b) (Login 1 n core_words) reply) is answered))
            closed.goes;
        answer = inr (
          reply,
          one.0,
          refl,
          ap (λ (l : List Act). Asks (Login 1 operator core_words) reply ∷ l) one.1,
          λ next. asked_other next,
        );
      }
    where
      asked_other : (next : Result (List Entry) Reply → Plan)
          → Leads (asks_for moment owner next) (Asks (Login 1 operator core_words) reply ∷ closed.acts)
          (Say (refuses reply))
      asked_other next = (
        refl,
        subst (λ (l : Plan). Leads l closed.acts (Say (refuses reply)))
            (sym (if_other moment (Show owner next) reply other)) closed.leads,
      )

-- Bytes that come back.
pub comes_back : (mode : ℕ) (words : List ℕ) (exported : Exported) → IsExport None mode words exported
    → ComesBack words exported
comes_back mode words (File encoding bytes) is =
    (is.1, λ said are. by said are)
  where
    by : (said : Option (List ℕ)) → AreWords encoding bytes.items said → said ≡ Some words
    by None none = absurd (not_both encoding bytes.items words is.1 none)
    by (Some other) are = ap Some (one_reading encoding bytes.items words other is.1 are)
comes_back mode words (Refused reply) is = is
comes_back mode words NotBytes is = is
