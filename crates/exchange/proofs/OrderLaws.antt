-- The service of an order.
use Rattle.std.proofs.Common.{◌≡◌, ℕ, ◌+◌, ◌-◌, ◌^◌, ◌≤◌, List, [], ◌∷◌, ◌++◌, length, map, All, refl, sym, ap, subst}
use Rattle.std.proofs.Common.{◌∙◌, append-nil, arith}
use Rattle.std.proofs.lemmas.List.{length-map}
use Rattle.std.specs.Int.{saturate_unsigned, w64}
use Rattle.std.specs.List.{range_with_len}
use Rattle.words36.specs.Common.{IsWord}
use Rattle.words36.specs.declared.moment.Moment.{Moment}
use Rattle.spec_machine.specs.Common.{State, room, Serving}
use Rattle.spec_language.specs.Common.{Act, Asks}
use Rattle.spec_machine.specs.declared.area.Area.{Area}
use Rattle.spec_machine.specs.declared.call.Call.{Call}
use Rattle.spec_machine.specs.declared.call.Event.TheVariants.{Login as Logins, Call as CallEvents}
use Rattle.spec_machine.specs.declared.call.Reply.{Reply}
use Rattle.commands.specs.Common.{Machine, AlwaysStands, IsAnswered}
use Rattle.commands.proofs.ActLaws.{goes_nowhere, goes_on, goes_answered}
use Rattle.wire.proofs.Words.{numbers_of}
use Rattle.wire.specs.Frames.{Framed}
use Rattle.wire.specs.Records.{IsOrder, HasWords}
use Rattle.wire.specs.declared.answer.Answer.{Answer}
use Rattle.wire.specs.declared.answer.Answer.TheVariants.{Reply as Replies, Room as HasRoom}
use Rattle.wire.specs.declared.header.Header.{Header}
use Rattle.wire.specs.declared.order.Order.{Order}
use Rattle.wire.specs.declared.order.Order.TheVariants.{Login, Deposit, Examine, Call as Calls, Room}
use Rattle.exchange.specs.Turns.{AreRead, addresses, group}
use Rattle.exchange.specs.Exchanges.{HasRead, HasWritten, ServesOrder, AreTold}
use Rattle.exchange.proofs.ReplyLaws.{read_few}

module _ {S : Type 0} (machine : S → Machine) where
  pub obeyed_deposit : (a b : S) (frame : Framed) (order : Order) (words : List ℕ) (areas : List Area)
      (groups : List ℕ) (job first count : ℕ) (reply : Reply) → order ≡ Deposit job first count → groups ≡ []
      → HasWritten machine a b job first words reply
      → ServesOrder machine a b frame order words areas (Replies reply) groups
  obeyed_deposit a b frame order words areas groups job first count reply is none p = subst
      (λ (o : Order). ServesOrder machine a b frame o words areas (Replies reply) groups) (sym is) (record {
        acts = p.acts;
        goes = p.goes;
        obeyed = (reply, p.written, refl, none);
        tells = λ honest s serves. tt;
      })

  pub obeyed_examine : (a b : S) (frame : Framed) (order : Order) (words : List ℕ) (areas : List Area)
      (before groups : List ℕ) (job first count : ℕ) (reply : Reply) → order ≡ Examine job first count
      → before ≡ [] → AreTold (machine a) order areas → HasRead machine a b job (addresses areas) before groups reply
      → ServesOrder machine a b frame order words areas (Replies reply) groups
  obeyed_examine a b frame order words areas before groups job first count reply is none told p =
      let are = subst (λ (o : Order). AreTold (machine a) o areas) is told in
      let places : addresses areas ≡ range_with_len first count
      = ap addresses are ∙ append-nil (range_with_len first count) in
      subst (λ (o : Order). ServesOrder machine a b frame o words areas (Replies reply) groups) (sym is) (record {
        acts = p.acts;
        goes = p.goes;
        obeyed = (
          reply,
          p.told,
          subst (λ (l : List ℕ). AreRead job l p.told p.acts reply) places p.read,
          refl,
          p.groups ∙ ap (λ l. l ++ map group p.told) none,
        );
        tells = λ honest s serves. tt;
      })

  module _ (stands : AlwaysStands machine) where
    pub obeyed_login : (a b : S) (frame : Framed) (order : Order) (words : List ℕ) (areas : List Area)
        (groups : List ℕ) (job ppn core : ℕ) (reply : Reply) → order ≡ Login job ppn core → groups ≡ []
        → IsAnswered (machine a) (machine b) (Logins job ppn core) reply
        → ServesOrder machine a b frame order words areas (Replies reply) groups
    obeyed_login a b frame order words areas groups job ppn core reply is none answered = subst
        (λ (o : Order). ServesOrder machine a b frame o words areas (Replies reply) groups) (sym is) (record {
          acts = Asks (Logins job ppn core) reply ∷ [];
          goes = goes_answered machine stands a b (Logins job ppn core) reply answered;
          obeyed = (reply, refl, refl, none);
          tells = λ honest s serves. tt;
        })

    pub obeyed_call : (a b c : S) (frame : Framed) (order : Order) (words : List ℕ) (areas : List Area)
        (before groups : List ℕ) (job : ℕ) (call : Call) (moment : Moment) (reply end : Reply)
        → order ≡ Calls job call moment → before ≡ [] → AreTold (machine a) order areas
        → IsAnswered (machine a) (machine b) (CallEvents job call moment) reply
        → HasRead machine b c job (addresses areas) before groups end
        → ServesOrder machine a c frame order words areas (Replies reply) groups
    obeyed_call a b c frame order words areas before groups job call moment reply end is none told answered p =
        let are = subst (λ (o : Order). AreTold (machine a) o areas) is told in
        subst (λ (o : Order). ServesOrder machine a c frame o words areas (Replies reply) groups) (sym is) (record {
          acts = Asks (CallEvents job call moment) reply ∷ p.acts;
          goes = goes_on machine a b c (Asks (CallEvents job call moment) reply ∷ []) p.acts
              (goes_answered machine stands a b (CallEvents job call moment) reply answered) p.goes;
          obeyed = (
            reply,
            p.acts,
            refl,
            end,
            p.told,
            p.read,
            refl,
            p.groups ∙ ap (λ l. l ++ map group p.told) none,
          );
          tells = λ honest s serves. are s serves;
        })

    pub obeyed_room : (a : S) (frame : Framed) (order : Order) (words : List ℕ) (areas : List Area)
        (groups : List ℕ) (blocks : ℕ) → order ≡ Room → groups ≡ []
        → ((machine a).honest → (s : State) → (machine a).serves (Serving s)
        → blocks ≡ saturate_unsigned w64 (room (machine a).pack s))
        → ServesOrder machine a a frame order words areas (HasRoom blocks) groups
    obeyed_room a frame order words areas groups blocks is none room_is = subst
        (λ (o : Order). ServesOrder machine a a frame o words areas (HasRoom blocks) groups) (sym is) (record {
          acts = [];
          goes = goes_nowhere machine stands a;
          obeyed = (refl, (blocks, refl), none);
          tells = λ honest s serves. ap HasRoom (room_is honest s serves);
        })

-- the words of a deposit are in core, so their bytes are few
pub deposit_fits : (header : Header) (body : List ℕ) (order : Order) (words : List ℕ) (job first count : ℕ)
    → IsOrder header body order words → order ≡ Deposit job first count → first + length body ≤ 2 ^ 32 - 1
deposit_fits header body order words job first count is deposit =
    let fit = subst (λ (o : Order). HasWords o words) deposit is.words_fit in
    let numbers = numbers_of body words fit.0 is.body_is in
    omega (arith, fit.1, fit.2, numbers.long)

-- and they are the words of the record
pub deposit_words : (header : Header) (body : List ℕ) (order : Order) (words : List ℕ) (job first count : ℕ)
    → IsOrder header body order words → order ≡ Deposit job first count → All IsWord words
deposit_words header body order words job first count is deposit =
    (subst (λ (o : Order). HasWords o words) deposit is.words_fit).0

none_told : (groups : List ℕ) (areas : List Area) → groups ≡ [] → length groups ≤ length (addresses areas)
none_told groups areas none = let long = ap length none in omega arith

read_count : (job : ℕ) (places : List ℕ) (told : List (ℕ × ℕ)) (acts : List Act) (reply : Reply) (groups : List ℕ)
    → AreRead job places told acts reply → groups ≡ map group told → length groups ≤ length places
read_count job places told acts reply groups read is =
    omega (arith, ap length is, length-map told group, read_few job places told acts reply read)

-- No more words are reported than the areas have.
pub few_told : {S : Type 0} (machine : S → Machine) (a b : S) (frame : Framed) (order : Order) (words : List ℕ)
    (areas : List Area) (answer : Answer) (groups : List ℕ) → AreTold (machine a) order areas
    → ServesOrder machine a b frame order words areas answer groups → length groups ≤ length (addresses areas)
few_told machine a b frame (Login job ppn core) words areas answer groups told p =
    none_told groups areas p.obeyed.3
few_told machine a b frame (Deposit job first count) words areas answer groups told p =
    none_told groups areas p.obeyed.3
few_told machine a b frame (Examine job first count) words areas answer groups told p =
    let o = p.obeyed in
    let places : addresses areas ≡ range_with_len first count
    = ap addresses told ∙ append-nil (range_with_len first count) in
    omega (
      arith,
      read_count job (range_with_len first count) o.1 p.acts o.0 groups o.2 o.4,
      ap length places,
    )
few_told machine a b frame (Calls job call moment) words areas answer groups told p =
    let o = p.obeyed in read_count job (addresses areas) o.4 o.1 o.3 groups o.5 o.7
few_told machine a b frame Room words areas answer groups told p = none_told groups areas p.obeyed.2
