-- A file that is put, part by part, and published.
use Rattle.std.proofs.Common.{◌≡◌, ◌⊎◌, inl, inr, ⊎_elim, ℕ, zero, suc, ◌+◌, ◌-◌, ◌*◌, ◌<◌, ◌≤◌, List, [], ◌∷◌, ◌++◌}
use Rattle.std.proofs.Common.{length, take, drop, min, Some, refl, sym, ap, subst, ◌∙◌, arith, append-nil}
use Rattle.std.proofs.Common.{append_assoc}
use Rattle.std.specs.List.{AllByRecursion}
use Rattle.std.proofs.lemmas.List.{length-take, length-drop, length-append, take-append-drop}
use Rattle.words36.specs.declared.moment.Moment.{Moment}
use Rattle.spec_image.specs.Common.{File, Place, blocks_of, splice, Pack}
use Rattle.spec_machine.specs.Common.{after_writes, placed, SpecJob, State, Kind, job_at, channel_at, Service, Serving}
use Rattle.spec_machine.specs.Common.{Steps}
use Rattle.spec_language.specs.Texts.{Spoken}
use Rattle.spec_language.specs.Plans.{Plan, list_events, out_event, deposit_events, list_words, block_address}
use Rattle.spec_language.specs.Errands.{fill_events, fill_parts_plan, part_address, part_words, parts_of}
use Rattle.spec_language.specs.Copies.{Comes, IsLineRefused}
use Rattle.spec_language.specs.declared.encoding.Encoding.{Encoding}
use Rattle.spec_language.specs.declared.encoding.Encoding.TheVariants.{Characters, Words, Octets}
use Rattle.spec_machine.specs.declared.call.Reply.TheVariants.{Done}
use Rattle.spec_image.proofs.Common.{all_append}
use Rattle.spec_language.proofs.PlanRuns.{AllDone, each_done, split_done}
use Rattle.spec_machine.proofs.Common.{IsQuiet, writes_length, window, written, passed}
use Rattle.spec_language.proofs.CallRuns.{at, IsJob, with_core, deposits_done}
use Rattle.spec_language.proofs.OpenRuns.{writing, with_open, at_own, job_core, job_open}
use Rattle.spec_language.proofs.EnterRuns.{side, list_pair, listing}
use Rattle.spec_language.proofs.BlockRuns.{put_at_end, puts_done}
use Rattle.spec_language.proofs.CopyRuns.{with_body, start_is}
use Rattle.spec_language.proofs.SizeRuns.{quiet_deposits}

-- what each part does, whatever else holds between two of them
abbrev pub PartsAreDone : Pack → State → Moment → Encoding → (ℕ → List ℕ → SpecJob → Type 0) → Type 0
PartsAreDone pack s moment encoding W =
    (k : ℕ) (done part : List ℕ) (j : SpecJob) (t : State) → W k done j → length done ≡ k * 128 → 0 < length part
    → length part ≤ part_words encoding → AllDone pack (at s j) (fill_events moment encoding part) t
    → (j' : SpecJob) × (t ≡ at s j') × W (k + blocks_of (length part)) (done ++ part) j'

quiet_fills : (moment : Moment) (encoding : Encoding) (part : List ℕ)
    → AllByRecursion IsQuiet (fill_events moment encoding part)
quiet_fills moment Characters part = all_append IsQuiet (deposit_events (part_address Characters) part) _
    (quiet_deposits part (part_address Characters)) (tt, (tt, tt))
quiet_fills moment Words part = all_append IsQuiet (deposit_events (part_address Words) part) _
    (quiet_deposits part (part_address Words))
    (all_append IsQuiet (list_events (length part)) (out_event moment ∷ [])
    (quiet_deposits (list_pair (length part)) list_words)
    (tt, tt))
quiet_fills moment Octets part = all_append IsQuiet (deposit_events (part_address Octets) part) _
    (quiet_deposits part (part_address Octets))
    (all_append IsQuiet (list_events (length part)) (out_event moment ∷ [])
    (quiet_deposits (list_pair (length part)) list_words)
    (tt, tt))

-- How many parts there are.

no_words : (encoding : Encoding) (len : ℕ) → 0 ≡ parts_of encoding len → len ≡ 0
no_words Characters len e = grind arith
no_words Words len e = grind arith
no_words Octets len e = grind arith

some_words : (encoding : Encoding) (more len : ℕ) → suc more ≡ parts_of encoding len → 0 < len
some_words Characters more len e = grind arith
some_words Words more len e = grind arith
some_words Octets more len e = grind arith

parts_left : (encoding : Encoding) (more len : ℕ) → suc more ≡ parts_of encoding len
    → more ≡ parts_of encoding (len - part_words encoding)
parts_left Characters more len e = grind arith
parts_left Words more len e = grind arith
parts_left Octets more len e = grind arith

pub some_part : (encoding : Encoding) → 0 < part_words encoding
some_part Characters = omega arith
some_part Words = omega arith
some_part Octets = omega arith

-- a part that others follow ends at a block's edge
whole_part : (encoding : Encoding) → blocks_of (part_words encoding) * 128 ≡ part_words encoding
whole_part Characters = refl
whole_part Words = refl
whole_part Octets = refl

next_edge : (k blocks words : ℕ) → blocks * 128 ≡ words → k * 128 + words ≡ (k + blocks) * 128
next_edge k blocks words e = grind arith

module _ (pack : Pack) (s : State) (moment : Moment) (encoding : Encoding) (W : ℕ → List ℕ → SpecJob → Type 0)
    (part_done : PartsAreDone pack s moment encoding W) where
  pub parts_done : (more k : ℕ) (done words : List ℕ) (next : Plan) (said : Spoken) (new : Service) (j : SpecJob)
      → more ≡ parts_of encoding (length words) → W k done j → (0 < length words → length done ≡ k * 128)
      → Comes pack (Serving (at s j)) (fill_parts_plan moment encoding more words next) said new
      → IsLineRefused s.files said new
      ⊎ ((n : ℕ) × (j' : SpecJob) × W n (done ++ words) j' × Comes pack (Serving (at s j')) next said new)
  unfolding fill_parts_plan
  parts_done zero k done words next said new j count is whole come =
      let none : words ≡ [] = empty words (no_words encoding (length words) count) in
      inr (k, j, subst (λ ws. W k ws j) (sym (append-nil done) ∙ ap (λ ws. done ++ ws) (sym none)) is, come)
    where
      empty : (xs : List ℕ) → length xs ≡ 0 → xs ≡ []
      empty [] e = refl
      empty (x ∷ xs) e = absurd (omega arith)
  parts_done (suc more) k done words next said new j count is whole come = ⊎_elim inl
      (λ (t, all, same, rest).
      let some : 0 < length words = some_words encoding more (length words) count in
      let d = part_done k done part j t is (whole some) (omega (arith, cut, some_part encoding)) (omega (arith, cut))
      all in
      let joined = append_assoc done part behind ∙ ap (λ ws. done ++ ws) (take-append-drop most words) in
      ⊎_elim inl (λ (n, j', is', more'). inr (n, j', subst (λ ws. W n ws j') joined is', more'))
      (parts_done more (k + blocks_of (length part)) (done ++ part) behind next said new d.0
      (parts_left encoding more (length words) count ∙ ap (parts_of encoding) (sym (length-drop most words))) d.2
      (λ left. length-append done part ∙ edge left (whole some))
      (subst (λ u. Comes pack (Serving u) (fill_parts_plan moment encoding more behind next) said new) d.1 rest)))
      (each_done pack (at s j) moment (fill_events moment encoding part)
      (fill_parts_plan moment encoding more behind next) said
      new (quiet_fills moment encoding part) come)
    where
      most : ℕ
      most = part_words encoding

      part : List ℕ
      part = take most words

      behind : List ℕ
      behind = drop most words

      cut : length part ≡ min most (length words)
      cut = length-take most words

      edge : 0 < length behind → length done ≡ k * 128
          → length done + length part ≡ (k + blocks_of (length part)) * 128
      edge left begin =
          let full : length part ≡ most = omega (arith, cut, length-drop most words, left) in
          ap (λ n. n + length part) begin
          ∙ ap (λ n. k * 128 + n) full
          ∙ next_edge k (blocks_of most) most (whole_part encoding)
          ∙ ap (λ n. (k + blocks_of n) * 128) (sym full)

-- Parts that are words: the block has them, and a command list names them.
pub record PutsWords (me : ℕ) (to : Place) (kind : Kind) (file : File) (k : ℕ) (done : List ℕ) (j : SpecJob) : Type
    0 where
  pub whole : IsJob me j
  pub second : channel_at j 2 ≡ Some (writing (side to kind (with_body file done) (k + 1)))

module _ (pack : Pack) (s : State) (j0 : SpecJob) (there : job_at s 1 ≡ Some j0) (moment : Moment) where
  pub words_done : (me : ℕ) (to : Place) (kind : Kind) (file : File)
      → PartsAreDone pack s moment Words (PutsWords me to kind file)
  words_done me to kind file k done part j t is long some few all =
      let count = length part in
      let last = split_done pack (at s j) (deposit_events block_address part)
      (list_events count ++ out_event moment ∷ []) t all in
      let both = split_done pack last.0 (list_events count) (out_event moment ∷ []) t last.2 in
      let core1 = after_writes j.core (placed block_address part) in
      let j1 = with_core j core1 in
      let is1 : IsJob me j1 = job_core me j core1 is.whole (writes_length j.core (placed block_address part)) in
      let to1 = deposits_done pack s j0 there part j block_address last.0 last.1 in
      let core2 = after_writes core1 (placed list_words (list_pair count)) in
      let j2 = with_core j1 core2 in
      let is2 : IsJob me j2 = job_core me j1 core2 is1 (writes_length core1 (placed list_words (list_pair count))) in
      let to2 = deposits_done pack s j0 there (list_pair count) j1 list_words both.0
      (subst (λ u. AllDone pack u (list_events count) both.0) to1 both.1) in
      let o = side to kind (with_body file done) (k + 1) in
      let to3 = puts_done pack s j0 there moment me j2 o count both.2.0 is2 is.second some few
      (listing core1 count is1.core) (subst (λ u. Steps pack u (out_event moment) Done both.2.0) to2 both.2.1) in
      let words : window core2 block_address count ≡ part =
      ap (take count) (passed core1 list_words block_address (list_pair count) (omega arith))
      ∙ written j.core block_address count part refl (let l = is.whole.core in omega arith) in
      let after : k + 1 + blocks_of (length (window core2 block_address count)) ≡ k + blocks_of count + 1 =
      ap (λ ws. k + 1 + blocks_of (length ws)) words ∙ behind (blocks_of count) in
      let body : splice done (k + 1) (window core2 block_address count) ≡ done ++ part =
      ap (splice done (k + 1)) words ∙ put_at_end done (k + 1) part (start_is k ∙ sym long) in
      let o' = side to kind (with_body file (done ++ part)) (k + blocks_of count + 1) in (
        with_open j2 2 (writing o'),
        both.2.2 ∙ to3 ∙ ap {A = List ℕ × ℕ}
            (λ b. at s (with_open j2 2 (writing (side to kind (with_body file b.0) b.1)))) (λ i. (body i, after i)),
        record {
          whole = job_open me j2 2 (writing o') is2;
          second = at_own j2 me 2 (writing o') is2 (omega arith);
        },
      )
    where
      behind : (blocks : ℕ) → k + 1 + blocks ≡ k + blocks + 1
      behind blocks = omega arith
