-- What is written has one reading.
use Rattle.std.proofs.Common.{◌≡◌, ◌==◌, ◌<◌, ℕ, List, [], ◌∷◌, length, All, Option, Some, None, if◌then◌else◌, refl}
use Rattle.std.proofs.Common.{sym, ap, subst, ◌∙◌, arith}
use Rattle.std.proofs.lemmas.List.{ext_get_or}
use Rattle.words36.specs.Common.{IsWord, block_bytes}
use Rattle.words36.specs.declared.moment.Moment.{Moment}
use Rattle.spec_machine.specs.declared.call.Call.{Call}
use Rattle.spec_machine.specs.declared.call.Call.TheVariants.{Open, Inbuf, Outbuf, Lookup, Enter, Rename, In, Out}
use Rattle.spec_machine.specs.declared.call.Call.TheVariants.{Useti, Useto, Close, Releas, Getsts, Reset, MakeDir}
use Rattle.spec_machine.specs.declared.call.Call.TheVariants.{DeleteDir, Quota}
use Rattle.wire.specs.Records.{IsOrder, HasWords, record_of, opcode, channel_named, number_named, moment_number}
use Rattle.wire.specs.declared.header.Header.{Header}
use Rattle.wire.specs.declared.order.Order.{Order}
use Rattle.wire.specs.declared.order.Order.TheVariants.{Login, Deposit, Examine, Call as Calls, Room}
use Rattle.wire.proofs.Moments.{one_moment, parts_of}
use Rattle.wire.proofs.Orders.{one_word}
use Rattle.wire.proofs.Words.{numbers_of}

-- the call that a code, a channel and a number are
call_read : ℕ → ℕ → ℕ → Option Call
call_read code channel n =
    if code == 0o50 then Some (Open channel n)
    else if code == 0o64 then Some (Inbuf channel n)
    else if code == 0o65 then Some (Outbuf channel n)
    else if code == 0o76 then Some (Lookup channel n)
    else if code == 0o77 then Some (Enter channel n)
    else if code == 0o55 then Some (Rename channel n)
    else if code == 0o56 then Some (In channel n)
    else if code == 0o57 then Some (Out channel n)
    else if code == 0o74 then Some (Useti channel n)
    else if code == 0o75 then Some (Useto channel n)
    else if code == 0o70 then Some (Close channel n)
    else if code == 0o71 then Some (Releas channel)
    else if code == 0o62 then Some (Getsts channel)
    else if code == 0o47 then Some (Reset)
    else if code == 1 then Some (MakeDir n)
    else if code == 2 then Some (DeleteDir n)
    else if code == 3 then Some (Quota n)
    else None

call_reads : (call : Call) → call_read (opcode call) (channel_named call) (number_named call) ≡ Some call
unfolding call_read
call_reads (Open channel n) = refl
call_reads (Inbuf channel n) = refl
call_reads (Outbuf channel n) = refl
call_reads (Lookup channel n) = refl
call_reads (Enter channel n) = refl
call_reads (Rename channel n) = refl
call_reads (In channel n) = refl
call_reads (Out channel n) = refl
call_reads (Useti channel n) = refl
call_reads (Useto channel n) = refl
call_reads (Close channel n) = refl
call_reads (Releas channel) = refl
call_reads (Getsts channel) = refl
call_reads Reset = refl
call_reads (MakeDir n) = refl
call_reads (DeleteDir n) = refl
call_reads (Quota n) = refl

-- two calls with the same spelling are one
one_call : (a b : Call) → opcode a ≡ opcode b → channel_named a ≡ channel_named b → number_named a ≡ number_named b
    → a ≡ b
one_call a b codes channels numbers = some_same a b
    (sym (call_reads a) ∙ ap (λ (c : ℕ). call_read c (channel_named a) (number_named a)) codes
    ∙ ap (λ (c : ℕ). call_read (opcode b) c (number_named a)) channels
    ∙ ap (λ (c : ℕ). call_read (opcode b) (channel_named b) c) numbers ∙ call_reads b)
  where
    some_same : (a b : Call) → Some a ≡ Some b → a ≡ b
    some_same a b is = cc

-- two moments with the same number are one
one_time : (a b : Moment) → moment_number a ≡ moment_number b → a ≡ b
one_time a b is =
    let first = parts_of a.date a.minute (moment_number b) a.minute_in_range is in
    let second = parts_of b.date b.minute (moment_number b) b.minute_in_range refl in
    one_moment a b (first.0 ∙ sym second.0) (first.1 ∙ sym second.1)

no_words : All IsWord []
no_words k d inside = absurd (none k inside)
  where
    none : (k : ℕ) → k < 0 → ⊥
    none k inside = omega (arith, inside)

-- the words after an order are words
all_words : (order : Order) (words : List ℕ) → HasWords order words → All IsWord words
all_words (Login job ppn core) words fit = subst (All IsWord) (sym fit.1) (one_word ppn fit.0.word)
all_words (Deposit job address count) words fit = fit.0
all_words (Examine job address count) words fit = subst (All IsWord) (sym fit.0) no_words
all_words (Calls job call moment) words fit = subst (All IsWord) (sym fit) no_words
all_words Room words fit = subst (All IsWord) (sym fit) no_words

-- bytes are one list of words
one_list : (body words others : List ℕ) → All IsWord words → All IsWord others → block_bytes words ≡ body
    → block_bytes others ≡ body → words ≡ others
one_list body words others each each' is is' =
    let a = numbers_of body words each is in
    let b = numbers_of body others each' is' in
    let long : length words ≡ length others = omega (arith, a.long, b.long) in
    ext_get_or 0 words others long (λ i h. sym (a.at i h) ∙ b.at i (subst (λ (n : ℕ). i < n) long h))

one_made : (job other : ℕ) (a b : Call) (m n : Moment) → record_of (Calls job a m) ≡ record_of (Calls other b n)
    → Calls job a m ≡ Calls other b n
one_made job other a b m n same =
    let jobs : job ≡ other = ap (λ (h : Header). h.job) same in
    let call : a ≡ b = one_call a b (ap (λ (h : Header). h.code) same) (ap (λ (h : Header). h.channel) same)
    (ap (λ (h : Header). h.number) same) in
    let time : m ≡ n = one_time m n (ap (λ (h : Header). h.detail) same) in
    λ i. Calls (jobs i) (call i) (time i)

one_head : (x y : ℕ) → x ∷ [] ≡ y ∷ [] → x ≡ y
one_head x y is = cc

login_one : (job other x x' y y' : ℕ) → record_of (Login job x y) ≡ record_of (Login other x' y') → x ≡ x'
    → Login job x y ≡ Login other x' y'
login_one job other x x' y y' same owner = λ i. Login (same i).job (owner i) (same i).number

deposit_one : (job other x x' y y' : ℕ) → record_of (Deposit job x y) ≡ record_of (Deposit other x' y')
    → Deposit job x y ≡ Deposit other x' y'
deposit_one job other x x' y y' same = ap (λ (h : Header). Deposit h.job h.number h.count) same

examine_one : (job other x x' y y' : ℕ) → record_of (Examine job x y) ≡ record_of (Examine other x' y')
    → Examine job x y ≡ Examine other x' y'
examine_one job other x x' y y' same = ap (λ (h : Header). Examine h.job h.number h.detail) same

-- two orders with the same record and the same words are one
one_order : (a b : Order) (words : List ℕ) → record_of a ≡ record_of b → HasWords a words → HasWords b words → a ≡ b
one_order (Login job x y) (Login other x' y') words same fit fit' = login_one job other x x' y y' same
    (one_head x x' (sym fit.1 ∙ fit'.1))
one_order (Login job x y) (Deposit other x' y') words same fit fit' = let k = ap (λ (h : Header). h.kind) same in cc
one_order (Login job x y) (Examine other x' y') words same fit fit' = let k = ap (λ (h : Header). h.kind) same in cc
one_order (Login job x y) (Calls other x' y') words same fit fit' = let k = ap (λ (h : Header). h.kind) same in cc
one_order (Login job x y) Room words same fit fit' = let k = ap (λ (h : Header). h.kind) same in cc
one_order (Deposit job x y) (Login other x' y') words same fit fit' = let k = ap (λ (h : Header). h.kind) same in cc
one_order (Deposit job x y) (Deposit other x' y') words same fit fit' = deposit_one job other x x' y y' same
one_order (Deposit job x y) (Examine other x' y') words same fit fit' = let k = ap (λ (h : Header). h.kind) same in cc
one_order (Deposit job x y) (Calls other x' y') words same fit fit' = let k = ap (λ (h : Header). h.kind) same in cc
one_order (Deposit job x y) Room words same fit fit' = let k = ap (λ (h : Header). h.kind) same in cc
one_order (Examine job x y) (Login other x' y') words same fit fit' = let k = ap (λ (h : Header). h.kind) same in cc
one_order (Examine job x y) (Deposit other x' y') words same fit fit' = let k = ap (λ (h : Header). h.kind) same in cc
one_order (Examine job x y) (Examine other x' y') words same fit fit' = examine_one job other x x' y y' same
one_order (Examine job x y) (Calls other x' y') words same fit fit' = let k = ap (λ (h : Header). h.kind) same in cc
one_order (Examine job x y) Room words same fit fit' = let k = ap (λ (h : Header). h.kind) same in cc
one_order (Calls job x y) (Login other x' y') words same fit fit' = let k = ap (λ (h : Header). h.kind) same in cc
one_order (Calls job x y) (Deposit other x' y') words same fit fit' = let k = ap (λ (h : Header). h.kind) same in cc
one_order (Calls job x y) (Examine other x' y') words same fit fit' = let k = ap (λ (h : Header). h.kind) same in cc
one_order (Calls job x y) (Calls other x' y') words same fit fit' = one_made job other x x' y y' same
one_order (Calls job x y) Room words same fit fit' = let k = ap (λ (h : Header). h.kind) same in cc
one_order Room (Login other x' y') words same fit fit' = let k = ap (λ (h : Header). h.kind) same in cc
one_order Room (Deposit other x' y') words same fit fit' = let k = ap (λ (h : Header). h.kind) same in cc
one_order Room (Examine other x' y') words same fit fit' = let k = ap (λ (h : Header). h.kind) same in cc
one_order Room (Calls other x' y') words same fit fit' = let k = ap (λ (h : Header). h.kind) same in cc
one_order Room Room words same fit fit' = refl

pub one_reading : (h : Header) (body : List ℕ) (a b : Order) (words others : List ℕ) → IsOrder h body a words
    → IsOrder h body b others → (a ≡ b) × (words ≡ others)
one_reading h body a b words others is is' =
    let list : words ≡ others = one_list body words others (all_words a words is.words_fit)
    (all_words b others is'.words_fit) is.body_is is'.body_is in (
      one_order a b words (is.record_is ∙ sym is'.record_is) is.words_fit
          (subst (HasWords b) (sym list) is'.words_fit),
      list,
    )
