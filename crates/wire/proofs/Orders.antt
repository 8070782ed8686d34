-- What a record states about the order that it spells.
use Rattle.std.proofs.Common.{◌≡◌, ◌+◌, ◌≤◌, ◌*◌, ◌/◌, ◌<◌, ℕ, List, [], ◌∷◌, length, All, sym, ap, refl, ◌∙◌, subst}
use Rattle.std.proofs.Common.{zero, suc, ⊎_elim, get_or, arith}
use Rattle.words36.specs.Common.{IsWord, IsPpn, number_at, block_bytes, IsFirstBadWord}
use Rattle.words36.specs.declared.moment.Moment.{Moment}
use Rattle.spec_machine.specs.declared.call.Call.{Call}
use Rattle.wire.specs.Records.{IsOrder, most_words, record_of, opcode, channel_named, number_named, moment_number}
use Rattle.wire.proofs.Words.{words_in, words_read, good_or_bad, numbers_of, no_bad}
use Rattle.wire.specs.declared.header.Header.{Header}
use Rattle.wire.specs.declared.order.Order.{Order}
use Rattle.wire.specs.declared.order.Order.TheVariants.{Login, Deposit, Examine, Call as Calls, Room}

-- A call is spelled by its parts.
pub record IsCall (h : Header) (order : Order) : Type 0 where
  pub call : Call
  pub moment : Moment
  pub is : order ≡ Calls h.job call moment
  pub code : opcode call ≡ h.code
  pub channel : channel_named call ≡ h.channel
  pub number : number_named call ≡ h.number
  pub detail : moment_number moment ≡ h.detail

pub call_parts : (order : Order) (h : Header) → record_of order ≡ h → h.kind ≡ 4 → IsCall h order
call_parts (Login job ppn words) h is kind = cc
call_parts (Deposit job address count) h is kind = cc
call_parts (Examine job address count) h is kind = cc
call_parts (Calls job call moment) h is kind = record {
  call = call;
  moment = moment;
  is = ap (λ (x : Header). Calls x.job call moment) is;
  code = ap (λ (x : Header). x.code) is;
  channel = ap (λ (x : Header). x.channel) is;
  number = ap (λ (x : Header). x.number) is;
  detail = ap (λ (x : Header). x.detail) is;
}
call_parts Room h is kind = cc

pub one_word : (w : ℕ) → IsWord w → All IsWord (w ∷ [])
one_word w fits zero d inside = fits
one_word w fits (suc k) d inside = absurd (none k inside)
  where
    none : (k : ℕ) → suc k < 1 → ⊥
    none k inside = omega arith

-- A login, and the word after it.
pub record IsLogin (h : Header) (body : List ℕ) (order : Order) : Type 0 where
  pub owner : ℕ
  pub ppn : IsPpn owner
  pub is : order ≡ Login h.job owner h.number
  pub code : h.code ≡ 0
  pub channel : h.channel ≡ 0
  pub detail : h.detail ≡ 0
  pub count : h.count ≡ 1
  pub long : length body ≡ 8
  pub number : number_at body 0 ≡ owner

pub login_parts : (order : Order) (h : Header) (body words : List ℕ) → IsOrder h body order words → h.kind ≡ 1
    → IsLogin h body order
login_parts (Login job ppn count) h body words is kind =
    let each : All IsWord (ppn ∷ []) = one_word ppn is.words_fit.0.word in
    let body_is : block_bytes (ppn ∷ []) ≡ body = ap block_bytes (sym is.words_fit.1) ∙ is.body_is in
    let numbers = numbers_of body (ppn ∷ []) each body_is in
    record {
      owner = ppn;
      ppn = is.words_fit.0;
      is = ap (λ (x : Header). Login x.job ppn x.number) is.record_is;
      code = sym (ap (λ (x : Header). x.code) is.record_is);
      channel = sym (ap (λ (x : Header). x.channel) is.record_is);
      detail = sym (ap (λ (x : Header). x.detail) is.record_is);
      count = sym (ap (λ (x : Header). x.count) is.record_is);
      long = numbers.long;
      number = numbers.at 0 (omega arith);
    }
login_parts (Deposit job address count) h body words is kind = let r = is.record_is in cc
login_parts (Examine job address count) h body words is kind = let r = is.record_is in cc
login_parts (Calls job call moment) h body words is kind = let r = is.record_is in cc
login_parts Room h body words is kind = let r = is.record_is in cc

-- and back
pub login_made : (h : Header) (body : List ℕ) (owner : ℕ) → ((j : ℕ) → get_or body j 0 < 256) → h.kind ≡ 1 → IsPpn owner
    → h.code ≡ 0 → h.channel ≡ 0 → h.detail ≡ 0 → h.count ≡ 1 → length body ≡ 8 → number_at body 0 ≡ owner
    → IsOrder h body (Login h.job owner h.number) (owner ∷ [])
unfolding words_in
login_made h body owner small kind ppn code channel detail count long number =
    let read = words_read body 1 small long (λ k less. subst IsWord (sym (at k less)) ppn.word) in record {
      record_is = λ i. record {
        kind = sym kind i;
        code = sym code i;
        job = h.job;
        channel = sym channel i;
        number = h.number;
        detail = sym detail i;
        count = sym count i;
      };
      words_fit = (ppn, refl);
      body_is = ap (λ (n : ℕ). block_bytes (n ∷ [])) (sym number) ∙ one body read.bytes_are;
    }
  where
    at : (k : ℕ) → k < 1 → number_at body k ≡ owner
    at k less = let first : k ≡ 0 = omega arith in ap (number_at body) first ∙ number

    one : (body : List ℕ) → block_bytes (words_in body 1) ≡ body → block_bytes (number_at body 0 ∷ []) ≡ body
    one body is = is

-- A deposit, and the words after it.
pub record IsDeposit (h : Header) (body : List ℕ) (order : Order) : Type 0 where
  pub is : order ≡ Deposit h.job h.number h.count
  pub code : h.code ≡ 0
  pub channel : h.channel ≡ 0
  pub detail : h.detail ≡ 0
  pub long : length body ≡ 8 * h.count
  pub inside : h.number + h.count ≤ most_words
  pub good : (place : ℕ) → IsFirstBadWord (length body / 8) body place → ⊥

pub deposit_parts : (order : Order) (h : Header) (body words : List ℕ) → IsOrder h body order words → h.kind ≡ 2
    → IsDeposit h body order
deposit_parts (Login job ppn count) h body words is kind = let r = is.record_is in cc
deposit_parts (Deposit job address count) h body words is kind = record {
  is = ap (λ (x : Header). Deposit x.job x.number x.count) is.record_is;
  code = sym (ap (λ (x : Header). x.code) is.record_is);
  channel = sym (ap (λ (x : Header). x.channel) is.record_is);
  detail = sym (ap (λ (x : Header). x.detail) is.record_is);
  long = (numbers_of body words is.words_fit.0 is.body_is).long
      ∙ ap (λ (n : ℕ). 8 * n) (is.words_fit.1 ∙ ap (λ (x : Header). x.count) is.record_is);
  inside = subst (λ (x : Header). x.number + x.count ≤ most_words) is.record_is is.words_fit.2;
  good = λ place. no_bad body words place is.words_fit.0 is.body_is;
}
deposit_parts (Examine job address count) h body words is kind = let r = is.record_is in cc
deposit_parts (Calls job call moment) h body words is kind = let r = is.record_is in cc
deposit_parts Room h body words is kind = let r = is.record_is in cc

pub deposit_made : (h : Header) (body : List ℕ) → ((j : ℕ) → get_or body j 0 < 256) → h.kind ≡ 2 → h.code ≡ 0
    → h.channel ≡ 0 → h.detail ≡ 0 → length body ≡ 8 * h.count → h.number + h.count ≤ most_words
    → ((place : ℕ) → IsFirstBadWord (length body / 8) body place → ⊥)
    → IsOrder h body (Deposit h.job h.number h.count) (words_in body h.count)
deposit_made h body small kind code channel detail long inside good =
    let count : length body / 8 ≡ h.count = omega arith in
    let fits = ⊎_elim (λ all. all) (λ bad. absurd (good bad.0 bad.1)) (good_or_bad body (length body / 8)) in
    let read = words_read body h.count small long (λ k less. fits k (omega (arith, less, count))) in record {
      record_is = λ i. record {
        kind = sym kind i;
        code = sym code i;
        job = h.job;
        channel = sym channel i;
        number = h.number;
        detail = sym detail i;
        count = h.count;
      };
      words_fit = (read.each, read.long, inside);
      body_is = read.bytes_are;
    }
