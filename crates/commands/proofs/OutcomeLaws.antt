-- What the errands of job 1 come to.
use Rattle.std.proofs.Common.{◌≡◌, ◌⊎◌, inl, inr, ⊎_elim, ◌<◌, ℕ, true, false, List, [], ◌∷◌, length, Option, Some}
use Rattle.std.proofs.Common.{None, All, Ok, refl, sym, ap, subst, ◌∙◌}
use Rattle.std.specs.Prelude.{codes, flat_map, IsTrue}
use Rattle.std.specs.Io.KnownBytes.{IsAtEnd}
use Rattle.std.specs.declared.alloc.AllocError.{AllocError}
use Rattle.words36.specs.Common.{word_bytes, IsWord}
use Rattle.words36.specs.declared.moment.Moment.{Moment}
use Rattle.spec_language.specs.Common.{AreShort, HasFiles, IsLineRefused, IsPrinted, HasHalfwordExtension}
use Rattle.spec_language.specs.Common.{IsRefusedAt, AreWords, get_plan, put_plan, operator, unfit, Act, Say, RunsPlan}
use Rattle.spec_language.specs.Common.{ok}
use Rattle.spec_language.specs.Common.{Spoken, complains, prints, refuses, Went}
use Rattle.spec_image.specs.Common.{Files, SpecVersion, Pack}
use Rattle.spec_machine.specs.Common.{State, Service, Serving}
use Rattle.spec_machine.specs.declared.call.Reply.{Reply}
use Rattle.spec_language.specs.declared.command.Spec.{Spec}
use Rattle.spec_language.specs.declared.encoding.Encoding.{Encoding}
use Rattle.spec_language.specs.declared.encoding.Encoding.TheVariants.{Words}
use Rattle.spec_language.proofs.Common.{put_refusals, get_refusals, puts_are_exact, gets_are_exact, no_reply}
use Rattle.commands.specs.Common.{Machine, put_plan_new, no_room, Exports, ExportsWords, export_plan, said_behind}
use Rattle.commands.specs.Common.{IsStored, IsStoredNew, DeliveriesKeepFiles, DeliveriesMakeFiles, ErrandsShowFiles}
use Rattle.commands.specs.Common.{AreReadOf, ExportsShowFiles, ImportsMakeFiles, IsExportOf, BeginsNoFile, spoken}
use Rattle.commands.specs.declared.export_file.Exported.{Exported}
use Rattle.commands.specs.declared.export_file.Exported.TheVariants.{File, Refused, NotBytes}
use Rattle.commands.proofs.ActLaws.{acts_went}
use Rattle.commands.proofs.ImportLaws.{unlabelled}
use Rattle.commands.proofs.InputLaws.{no_file, not_both}
use Rattle.commands.proofs.NewRuns.{new_puts_are_exact}
use Rattle.commands.proofs.WordBytes.{words_same}

-- no call is made if the input can't be a file
complained : (pack : Pack) (s : State) (acts : List Act) (text : List ℕ) (said : Spoken) (last : Service)
    → RunsPlan (Say (complains text)) acts said → Went pack (Serving s) acts last
    → IsTrue said.refused × HasFiles s.files last × (said ≡ complains text)
complained pack s [] text said last led went =
    let e : said ≡ complains text = let f = led in cc in
    let flag : said.refused ≡ true = ap (λ (x : Spoken). x.refused) e in
    (flag, subst (HasFiles s.files) (sym went) refl, e)
complained pack s (act ∷ acts) text said last led went = absurd led

-- what isn't refused is no refusal
not_refused : (said other : Spoken) → IsTrue said.refused → said ≡ other → other.refused ≡ false → ⊥
not_refused said other refused e is =
    let wrong : true ≡ false = sym refused ∙ ap (λ (x : Spoken). x.refused) e ∙ is in cc

says_refused : (files : Files SpecVersion) (said : Spoken) (last : Service) → IsLineRefused files said last
    → IsTrue said.refused
says_refused files said last refused = ap (λ (x : Spoken). x.refused) refused.0.1

-- an input that has words was read to its end
whole : {A : Type 0} (encoding : Encoding) (read words : List ℕ) → AreWords encoding read (Some words)
    → A ⊎ BeginsNoFile encoding read → A
whole encoding read words are (inl at_end) = at_end
whole encoding read words are (inr none) = absurd (not_both encoding read words are (no_file encoding read none))

delivered : (pack : Pack) (s : State) (moment : Moment) (me : ℕ) (encoding : Encoding) (spec : Spec) (at_end : Type 0)
    (read : List ℕ) (words : Option (List ℕ)) (acts : List Act) (said : Spoken) (last : Service) → 1 < length s.jobs
    → HasHalfwordExtension spec → at_end ⊎ BeginsNoFile encoding read
    → AreWords encoding read words → RunsPlan (put_plan moment me encoding spec words) acts said
    → Went pack (Serving s) acts last → IsStored moment me s encoding spec at_end read acts said last
delivered pack s moment me encoding spec at_end read None acts said last there few ended are led went =
    let c = complained pack s acts (unfit encoding) said last led went in
    inr (c.0, c.1, inl (ended, are, c.2))
delivered pack s moment me encoding spec at_end read (Some words) acts said last there few ended are led went = ⊎_elim
    (λ put. inl (whole encoding read words are ended, words, are, put))
    (λ refused. inr (
      says_refused s.files said last refused,
      refused.1,
      ⊎_elim (λ is. absurd (not_refused said ok (says_refused s.files said last refused) is refl))
          (λ cause. inr (inr (whole encoding read words are ended, cause)))
          (put_refusals moment me encoding spec words acts said led),
    ))
    (puts_are_exact pack moment me s encoding spec words said last there few (acts, led, went))

-- the same for a file that is put only if its name is free
delivered_new : (pack : Pack) (s : State) (moment : Moment) (me : ℕ) (encoding : Encoding) (spec : Spec)
    (at_end : Type 0) (read : List ℕ) (words : Option (List ℕ)) (acts : List Act) (said : Spoken) (last : Service)
    → 1 < length s.jobs → HasHalfwordExtension spec → at_end ⊎ BeginsNoFile encoding read
    → AreWords encoding read words → RunsPlan (put_plan_new moment me encoding spec words) acts said
    → Went pack (Serving s) acts last → IsStoredNew moment me s encoding spec at_end read said last
delivered_new pack s moment me encoding spec at_end read None acts said last there few ended are led went =
    let c = complained pack s acts (unfit encoding) said last led went in
    inr (c.0, c.1)
delivered_new pack s moment me encoding spec at_end read (Some words) acts said last there few ended are led went =
    ⊎_elim (λ put. inl (whole encoding read words are ended, words, are, put.0, put.1))
    (λ refused. inr (says_refused s.files said last refused, refused.1))
    (new_puts_are_exact pack moment me s encoding spec words said last there few (acts, led, went))

-- the same for a file that is got
got : (pack : Pack) (s : State) (moment : Moment) (me : ℕ) (encoding : Encoding) (spec : Spec) (acts : List Act)
    (said : Spoken) (last : Service) → 1 < length s.jobs → HasHalfwordExtension spec → AreShort s.files
    → RunsPlan (get_plan moment me encoding spec) acts said → Went pack (Serving s) acts last
    → IsPrinted me s encoding spec said last ⊎ (IsLineRefused s.files said last × IsRefusedAt moment acts said)
got pack s moment me encoding spec acts said last there few short led went = ⊎_elim inl
    (λ refused. inr (
      refused,
      ⊎_elim
          (λ (words, is). absurd (no_reply encoding words refused.0.0 (sym is ∙ refused.0.1)))
          (λ r. r)
          (get_refusals moment me encoding spec acts said led),
    ))
    (gets_are_exact pack moment me s encoding spec said last there few short (acts, led, went))

-- words that are printed in the same way as a body
read_of : (body words : List ℕ) → All IsWord words
    → prints (flat_map word_bytes words) ≡ prints (flat_map word_bytes body) → AreReadOf body words
read_of body words fit is =
    let printed : flat_map word_bytes words ≡ flat_map word_bytes body = ap (λ (x : Spoken). x.text) is in
    record {
      fit = fit;
      printed = printed;
      same = λ fits. words_same words body fit fits printed;
    }

-- the same for a file that is taken out
module _ (pack : Pack) (s : State) (moment : Moment) (asked : Option Encoding) (mode : ℕ) (spec : Spec)
    (acts : List Act) (last : Service) (there : 1 < length s.jobs) (few : HasHalfwordExtension spec)
    (short : AreShort s.files) (went : Went pack (Serving s) acts last) where
  abbrev IsOut : Exported → Type 0
  IsOut exported = HasFiles s.files last × IsExportOf moment asked mode s spec acts exported

  words_out : (exported : Exported) → ExportsWords asked mode (export_plan moment spec) acts exported → IsOut exported
  words_out exported (words, fit, led, is) =
      let said = prints (flat_map word_bytes words) in
      ⊎_elim
      (λ printed. (
        printed.1,
        inl (
          printed.0.0,
          printed.0.1,
          words,
          read_of printed.0.0.file.body words fit printed.0.2,
          is,
        ),
      ))
      (λ refused. absurd (not_refused said said (says_refused s.files said last refused.0) refl refl))
      (got pack s moment operator Words spec acts said last there few short led went)

  refused_out : (reply : Reply) → RunsPlan (export_plan moment spec) acts (refuses reply) → IsOut (Refused reply)
  refused_out reply led = ⊎_elim
      (λ printed. absurd (no_reply Words printed.0.0.file.body reply (sym printed.0.2)))
      (λ refused. (refused.0.1, inr (reply, refl, refused.1)))
      (got pack s moment operator Words spec acts (refuses reply) last there few short led went)

  taken_out : (exported : Exported)
      → Exports {E = AllocError} asked mode (export_plan moment spec) acts (Ok exported) → IsOut exported
  taken_out (File encoding bytes) out = words_out (File encoding bytes) out
  taken_out (Refused reply) out = refused_out reply out
  taken_out NotBytes out = words_out NotBytes out

module _ {S : Type 0} (machine : S → Machine) where
  pub deliveries_keep_files : DeliveriesKeepFiles machine
  deliveries_keep_files source left sink full old new moment me encoding spec tally d honest s serves there few =
      let end = d.goes.went honest (Serving s) serves in
      let went = acts_went machine (machine old).pack old (Serving s) d.acts new end.0 end.2 in
      let stored : IsStored moment me s encoding spec (IsAtEnd left) d.read d.acts (spoken d.written tally) end.0 =
      ⊎_elim
      (λ done. delivered (machine old).pack s moment me encoding spec (IsAtEnd left) d.read done.2 d.acts
      (spoken d.written tally) end.0 there few done.0 done.3 done.4 went)
      (⊎_elim
      (λ long.
      let c = complained (machine old).pack s d.acts (codes "?No room") (spoken d.written tally) end.0 long.1 went in
      inr (c.0, c.1, inr (inl (long.0, c.2))))
      (λ unread. absurd unread.0)) d.delivers in
      (d.read, d.written, d.consumed, d.appended, end.0, end.1, stored)

  pub deliveries_make_files : DeliveriesMakeFiles machine
  deliveries_make_files source left sink full old new moment me encoding spec tally d honest s serves there few =
      let end = d.goes.went honest (Serving s) serves in
      let went = acts_went machine (machine old).pack old (Serving s) d.acts new end.0 end.2 in
      let stored : IsStoredNew moment me s encoding spec (IsAtEnd left) d.read (spoken d.written tally) end.0 =
      ⊎_elim
      (λ done. delivered_new (machine old).pack s moment me encoding spec (IsAtEnd left) d.read done.2 d.acts
      (spoken d.written tally) end.0 there few done.0 done.3 done.4 went)
      (⊎_elim
      (λ long.
      let c = complained (machine old).pack s d.acts (codes "?No room") (spoken d.written tally) end.0 long.1 went in
      inr (c.0, c.1))
      (λ unread. absurd unread.0)) d.delivers in
      (d.read, d.written, d.consumed, d.appended, end.0, end.1, stored)

  pub imports_make_files : ImportsMakeFiles machine
  imports_make_files sink full old new moment me encoding spec label bytes tally p honest s serves there few =
      let end = p.goes.went honest (Serving s) serves in
      let went = acts_went machine (machine old).pack old (Serving s) p.acts new end.0 end.2 in
      let told = spoken p.written tally in
      let stored : (said : Spoken) × (told ≡ said_behind label said)
      × IsStoredNew moment me s encoding spec (Unit {0}) bytes said end.0 =
      ⊎_elim
      (λ done. let inner = unlabelled label (put_plan_new moment me encoding spec done.1) p.acts told done.3 in (
        inner.0,
        inner.2,
        delivered_new (machine old).pack s moment me encoding spec (Unit {0}) bytes done.1 p.acts
            inner.0 end.0 there few (inl tt) done.2 inner.1 went,
      ))
      (⊎_elim
      (λ long. let inner = unlabelled label no_room p.acts told long.1 in
      let c = complained (machine old).pack s p.acts (codes "?No room") inner.0 end.0 inner.1 went in
      (inner.0, inner.2, inr (c.0, c.1)))
      (λ unread. let wrong = unread.0 in cc)) p.imports in
      (p.written, p.appended, stored.0, stored.1, end.0, end.1, stored.2)

  pub errands_show_files : ErrandsShowFiles machine
  errands_show_files sink full old new moment me encoding spec tally e honest s serves there few short =
      let end = e.goes.went honest (Serving s) serves in
      let went = acts_went machine (machine old).pack old (Serving s) e.acts new end.0 end.2 in (
        e.written,
        e.appended,
        end.0,
        end.1,
        got (machine old).pack s moment me encoding spec e.acts
            (spoken e.written tally) end.0 there few short e.performs went,
      )

  pub exports_show_files : ExportsShowFiles machine
  exports_show_files old new moment asked mode spec exported out honest s serves there few short =
      let end = out.goes.went honest (Serving s) serves in
      let went = acts_went machine (machine old).pack old (Serving s) out.acts new end.0 end.2 in
      let is = taken_out (machine old).pack s moment asked mode spec out.acts end.0 there few short went exported
      out.exports in
      (end.0, end.1, is.0, is.1)
