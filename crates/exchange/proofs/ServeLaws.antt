-- An exchange, from its first byte to its end.
use Rattle.std.proofs.Common.{◌≡◌, ◌<◌, ◌||◌, ℕ, List, [], ◌∷◌, ◌++◌, length, take, drop, refl, sym, ap, ◌∙◌, subst}
use Rattle.std.proofs.Common.{append-nil, append_assoc, inl, inr, arith, Option, Result, Ok, Err}
use Rattle.std.specs.Prelude.{not, ◌==◌}
use Rattle.std.specs.Io.KnownBytes.{Appends, Consumes, Keeps, IsAtEnd}
use Rattle.std.proofs.KnownBytes.{Appends-nil, Appends-trans, Consumes-trans, Consumes-nil, Consumes-kept}
use Rattle.std.proofs.lemmas.List.{take-append-drop, length-append}
use Rattle.commands.specs.Common.{fresh, Machine, AlwaysStands}
use Rattle.commands.specs.declared.answer.Tally.{Tally}
use Rattle.commands.specs.declared.error.SessionError.{SessionError}
use Rattle.commands.specs.declared.error.SessionError.TheVariants.{Read, Write, NoMemory}
use Rattle.wire.specs.Frames.{IsPart, IsTooLong}
use Rattle.exchange.specs.Exchanges.{Takes, Counts, StepsOn, BreaksOff, HasTaken, HasClosed, Exchange, IsNotWhole}
use Rattle.exchange.specs.Exchanges.{IsRest, Ends, IsBreak, closing}
use Rattle.exchange.specs.Turns.{Turn, answers_of, orders_of}
use Rattle.exchange.specs.declared.wire_session.Waiting.{Waiting}
use Rattle.exchange.proofs.StreamLaws.{answers_on, orders_on}
use Rattle.exchange.proofs.TurnSteps.{takes_on, takes_none, counts_on, counts_none}

-- the progress of an exchange, with its reader, its writer and its service
pub record InStream {S : Type 0} (source left sink full : Option (List ℕ)) (machine : S → Machine) (old now : S)
    (waiting : Waiting) : Type 0 where
  pub read : List ℕ
  pub written : List ℕ
  pub turns : List Turn
  pub consumed : Consumes source left read
  pub appended : Appends sink full written
  pub takes : Takes machine old now turns
  pub orders : read ≡ orders_of turns ++ waiting.held.items
  pub answers : written ≡ answers_of turns
  pub counts : Counts fresh waiting.tally turns
  pub waits : waiting.answers.items ≡ []

-- the bytes of a list of turns and a rest, and more bytes after these
joined : (read turns held piece front after : List ℕ) → read ≡ turns ++ held → held ++ piece ≡ front ++ after
    → read ++ piece ≡ (turns ++ front) ++ after
joined read turns held piece front after p q = ap (λ l. l ++ piece) p ∙ append_assoc turns held piece
    ∙ ap (λ l. turns ++ l) q ∙ sym (append_assoc turns front after)

module _ {S : Type 0} (machine : S → Machine) where
  pub stream_starts : AlwaysStands machine → (source sink : Option (List ℕ)) (m : S) (waiting : Waiting)
      → waiting.held.items ≡ [] → waiting.answers.items ≡ [] → waiting.tally ≡ fresh
      → InStream source source sink sink machine m m waiting
  stream_starts stands source sink m waiting held waits tally = record {
    read = [];
    written = [];
    turns = [];
    consumed = Consumes-nil source;
    appended = Appends-nil sink;
    takes = takes_none machine stands m;
    orders = sym held;
    answers = refl;
    counts = subst (λ t. Counts fresh t []) (sym tally) (counts_none fresh);
    waits = waits;
  }

  pub stream_more : (source left rest sink full over : Option (List ℕ)) (old now new : S) (waiting after : Waiting)
      (piece : List ℕ) → InStream source left sink full machine old now waiting → Consumes left rest piece
      → HasTaken machine now new full over waiting after piece → InStream source rest sink over machine old new after
  stream_more source left rest sink full over old now new waiting after piece s c t = record {
    read = s.read ++ piece;
    written = s.written ++ t.steps.written;
    turns = s.turns ++ t.steps.turns;
    consumed = Consumes-trans source left rest s.read piece s.consumed c;
    appended = Appends-trans sink full over s.written t.steps.written s.appended t.steps.appended;
    takes = takes_on machine old now new s.turns t.steps.turns s.takes t.steps.takes;
    orders = joined s.read (orders_of s.turns) waiting.held.items piece t.front after.held.items s.orders t.parted
        ∙ ap (λ l. (orders_of s.turns ++ l) ++ after.held.items) t.steps.orders
        ∙ ap (λ l. l ++ after.held.items) (sym (orders_on s.turns t.steps.turns));
    answers = ap (λ l. l ++ t.steps.written) s.answers
        ∙ ap (λ l. answers_of s.turns ++ l) (sym (t.steps.answers ∙ append-nil t.steps.written))
        ∙ sym (answers_on s.turns t.steps.turns);
    counts = counts_on fresh waiting.tally after.tally s.turns t.steps.turns s.counts t.steps.counts;
    waits = t.written;
  }

  -- the reader failed
  pub stream_stops : (source left rest sink full : Option (List ℕ)) (old now : S) (waiting : Waiting)
      → InStream source left sink full machine old now waiting → IsPart waiting.held.items → Keeps left rest
      → Exchange source rest sink full machine old now (Err Read)
  stream_stops source left rest sink full old now waiting s part k = record {
    read = s.read;
    written = s.written;
    turns = s.turns;
    consumed = Consumes-kept source left rest s.read s.consumed k;
    appended = s.appended;
    takes = s.takes;
    ends = record { rest = waiting.held.items; orders = s.orders; part = part; answers = s.answers };
  }

  ends_broken : (at_end : Type 0) (error : SessionError) (read written unwritten : List ℕ) (turns : List Turn)
      (rest : List ℕ) → read ≡ orders_of turns ++ rest → written ++ unwritten ≡ answers_of turns
      → (error ≡ Read → ⊥) → (error ≡ Write → 0 < length unwritten)
      → (error ≡ NoMemory → (unwritten ≡ []) × (0 < length rest)) → Ends at_end read written turns (Err error)
  ends_broken at_end Read read written unwritten turns rest orders answers a b c = absurd (a refl)
  ends_broken at_end Write read written unwritten turns rest orders answers a b c = record {
    rest = rest;
    unwritten = unwritten;
    orders = orders;
    answers = inl answers;
    some = b refl;
  }
  ends_broken at_end NoMemory read written unwritten turns rest orders answers a b c = record {
    rest = rest;
    orders = orders;
    some = (c refl).1;
    answers = sym (append-nil written) ∙ ap (λ l. written ++ l) (sym (c refl).0) ∙ answers;
  }

  -- it broke off in the bytes that were read last
  pub stream_breaks : (source left rest sink full over : Option (List ℕ)) (old now new : S) (waiting : Waiting)
      (error : SessionError) (piece : List ℕ) → InStream source left sink full machine old now waiting
      → Consumes left rest piece → BreaksOff machine now new full over [] error (waiting.held.items ++ piece)
      → Exchange source rest sink over machine old new (Err error)
  stream_breaks source left rest sink full over old now new waiting error piece s c t = record {
    read = s.read ++ piece;
    written = s.written ++ t.written;
    turns = s.turns ++ t.turns;
    consumed = Consumes-trans source left rest s.read piece s.consumed c;
    appended = Appends-trans sink full over s.written t.written s.appended t.appended;
    takes = takes_on machine old now new s.turns t.turns s.takes t.takes;
    ends = ends_broken (IsAtEnd rest) error (s.read ++ piece) (s.written ++ t.written) t.unwritten (s.turns ++ t.turns)
        t.rest
        (joined s.read (orders_of s.turns) waiting.held.items piece (orders_of t.turns) t.rest s.orders t.orders
        ∙ ap (λ l. l ++ t.rest) (sym (orders_on s.turns t.turns)))
        (append_assoc s.written t.written t.unwritten ∙ ap (λ l. l ++ (t.written ++ t.unwritten)) s.answers
        ∙ ap (λ l. answers_of s.turns ++ l) (sym t.answers) ∙ sym (answers_on s.turns t.turns))
        (λ is. no_read error is t.cause) (λ is. of_write error is t.cause) (λ is. of_memory error is t.cause);
  }
    where
      no_read : (e : SessionError) → e ≡ Read → IsBreak e t.unwritten t.rest → ⊥
      no_read e is cause = subst (λ (k : SessionError). IsBreak k t.unwritten t.rest) is cause

      of_write : (e : SessionError) → e ≡ Write → IsBreak e t.unwritten t.rest → 0 < length t.unwritten
      of_write e is cause = subst (λ (k : SessionError). IsBreak k t.unwritten t.rest) is cause

      of_memory : (e : SessionError) → e ≡ NoMemory → IsBreak e t.unwritten t.rest
          → (t.unwritten ≡ []) × (0 < length t.rest)
      of_memory e is cause = subst (λ (k : SessionError). IsBreak k t.unwritten t.rest) is cause

  -- the rest was answered
  pub stream_ends : (source left rest sink full over : Option (List ℕ)) (old now : S) (waiting : Waiting)
      (result : Result Tally SessionError) → InStream source left sink full machine old now waiting
      → Consumes left rest [] → IsRest (IsAtEnd rest) waiting.held.items
      → HasClosed full over waiting.held.items waiting.tally result
      → Exchange source rest sink over machine old now result
  stream_ends source left rest sink full over old now waiting (Ok tally) s c end t = record {
    read = s.read;
    written = s.written ++ closing waiting.held.items;
    turns = s.turns;
    consumed = subst (λ l. Consumes source rest l) (append-nil s.read)
        (Consumes-trans source left rest s.read [] s.consumed c);
    appended = Appends-trans sink full over s.written (closing waiting.held.items) s.appended t.0;
    takes = s.takes;
    ends = record {
      rest = waiting.held.items;
      orders = s.orders;
      ends = end;
      answers = ap (λ l. l ++ closing waiting.held.items) s.answers;
      refused = t.1 ∙ ap (λ b. b || not (length waiting.held.items == 0)) s.counts.refused;
      broke = t.2 ∙ s.counts.broke;
      reason = t.3 ∙ s.counts.reason;
    };
  }
  stream_ends source left rest sink full over old now waiting (Err Read) s c end t = absurd t
  stream_ends source left rest sink full over old now waiting (Err Write) s c end t = record {
    read = s.read;
    written = s.written ++ t.0;
    turns = s.turns;
    consumed = subst (λ l. Consumes source rest l) (append-nil s.read)
        (Consumes-trans source left rest s.read [] s.consumed c);
    appended = Appends-trans sink full over s.written t.0 s.appended t.2;
    takes = s.takes;
    ends = record {
      rest = waiting.held.items;
      unwritten = t.1;
      orders = s.orders;
      answers = inr (
        end,
        append_assoc s.written t.0 t.1 ∙ ap (λ l. s.written ++ l) (sym t.3)
            ∙ ap (λ l. l ++ closing waiting.held.items) s.answers,
      );
      some = t.4;
    };
  }
  stream_ends source left rest sink full over old now waiting (Err NoMemory) s c end t = record {
    read = s.read;
    written = s.written;
    turns = s.turns;
    consumed = subst (λ l. Consumes source rest l) (append-nil s.read)
        (Consumes-trans source left rest s.read [] s.consumed c);
    appended = subst (λ k. Appends sink k s.written) (sym t.0) s.appended;
    takes = s.takes;
    ends = record { rest = waiting.held.items; orders = s.orders; some = t.1; answers = s.answers };
  }

  -- no memory for bytes that were read
  pub piece_refused : AlwaysStands machine → (a : S) (sink : Option (List ℕ)) (held piece : List ℕ)
      → 0 < length piece → BreaksOff machine a a sink sink [] NoMemory (held ++ piece)
  piece_refused stands a sink held piece some = record {
    turns = [];
    takes = takes_none machine stands a;
    rest = held ++ piece;
    orders = refl;
    written = [];
    unwritten = [];
    appended = Appends-nil sink;
    answers = refl;
    cause = (refl, omega (arith, some, length-append held piece));
  }

  -- the whole records of the bytes that were read are answered, and the rest waits
  pub piece_taken : (a b : S) (sink full : Option (List ℕ)) (before after : Waiting) (piece all : List ℕ) (place : ℕ)
      → before.held.items ++ piece ≡ all → before.answers.items ≡ []
      → StepsOn machine a b sink full before.answers.items [] before.tally after.tally (take place all)
      → IsNotWhole (drop place all) → after.held.items ≡ drop place all → after.answers.items ≡ []
      → HasTaken machine a b sink full before after piece
  piece_taken a b sink full before after piece all place joins none steps rest held written = record {
    front = take place all;
    parted = joins ∙ sym (take-append-drop place all) ∙ ap (λ l. take place all ++ l) (sym held);
    steps = subst (λ waits. StepsOn machine a b sink full waits [] before.tally after.tally (take place all)) none
        steps;
    rest = subst (λ l. IsNotWhole l) (sym held) rest;
    written = written;
  }

-- The end of the input.

pub rest_ends : (at_end : Type 0) (rest : List ℕ) → at_end → IsPart rest → IsRest at_end rest
rest_ends at_end [] end part = end
rest_ends at_end (byte ∷ bytes) end part = inl (end, part)

pub rest_is_long : (at_end : Type 0) (rest : List ℕ) → IsTooLong rest → IsRest at_end rest
rest_is_long at_end [] long = absurd (no_bytes long)
  where
    no_bytes : IsTooLong [] → ⊥
    no_bytes (header, fits, more, is, many) = cc
rest_is_long at_end (byte ∷ bytes) long = inr long

pub nothing_held : (held : List ℕ) → held ≡ [] → IsPart held
nothing_held held none = λ frame more is begins. cc
