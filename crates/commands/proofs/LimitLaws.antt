-- The parts of a line that gives a quota: QUOTA [p,n] N.
use Rattle.std.proofs.Common.{◌≡◌, ◌≢◌, ℕ, ◌<◌, nat_eq, not, Bool, true, false, List, [], ◌∷◌, ◌++◌, length, refl}
use Rattle.std.proofs.Common.{sym, ◌∙◌, ap, subst, Option, Some, None, IfSome, IfNone, arith}
use Rattle.std.specs.Prelude.{◌==◌, codes}
use Rattle.std.specs.Cmp.Lexicographic.{pointwise}
use Rattle.std.proofs.lemmas.Bool.{eqb-true}
use Rattle.spec_language.specs.Common.{is_space, is_visible, Are, IsBracketed, IsBlockCount, IsLimit, IsCommand}
use Rattle.spec_language.specs.declared.command.Command.TheVariants.{Quota}
use Rattle.spec_language.proofs.Common.{Stops, stretch, bracketed_other, differs, none_all}
use Rattle.spec_image.proofs.Common.{same_head, same_tail}
use Rattle.commands.specs.Common.{is_other_than, IsBehind}
use Rattle.commands.proofs.FieldLaws.{IsSplit, not_same, one_gap, not_blank}
use Rattle.commands.proofs.MadeLaws.{AreParted}
use Rattle.commands.proofs.SpokenLaws.{differ, agree}
use Rattle.spec_machine.proofs.Common.{not_false}

-- Two texts that were compared.

pub unlike : (xs ys : List ℕ) (t : Bool) → t ≡ not (pointwise nat_eq xs ys) → t ≡ true → xs ≢ ys
unlike xs ys t e f = differ xs ys ys (pointwise nat_eq xs ys) refl refl (not_blank (pointwise nat_eq xs ys) (sym e ∙ f))

pub alike : (xs ys : List ℕ) (t : Bool) → t ≡ not (pointwise nat_eq xs ys) → t ≡ false → xs ≡ ys
alike xs ys t e f = agree xs ys ys (pointwise nat_eq xs ys) refl refl (not_false (pointwise nat_eq xs ys) (sym e ∙ f))

-- A word, spaces, and what follows them.

not_begun : (rest : List ℕ) → Stops is_space rest → (more : List ℕ) → rest ≡ 32 ∷ more → ⊥
not_begun [] s more e = none_all e
not_begun (c ∷ cs) s more e = let wrong = sym (ap is_space (same_head e)) ∙ s in cc

begun : (rest : List ℕ) → ((more : List ℕ) → rest ≡ 32 ∷ more → ⊥) → Stops is_space rest
begun [] none = tt
begun (c ∷ cs) none = not_same c 32 (λ e. none cs (ap (λ k. k ∷ cs) e))

pub is_behind : (text first word behind gap rest : List ℕ) → IsSplit text first behind gap rest → first ≡ word
    → 0 < length gap → IsBehind text word rest
is_behind text first word behind gap rest s same some =
    let d = one_gap gap rest some s.spaces in
    record {
      gap = d.0;
      spaces = d.1;
      spelled = s.whole ∙ (λ i. same i ++ (s.rest ∙ d.2) i);
      begins = not_begun rest s.ends;
    }

-- what follows a word follows the word that was found
pub record FollowsFirst (first word gap rest other : List ℕ) : Type 0 where
  pub is : first ≡ word
  pub some : 0 < length gap
  pub same : rest ≡ other

pub follows_first : (text first word behind gap rest other : List ℕ) → IsSplit text first behind gap rest
    → Are is_visible word → IsBehind text word other → FollowsFirst first word gap rest other
follows_first text first word behind gap rest other s visible b =
    let r = stretch is_visible first behind word (32 ∷ (b.gap ++ other)) s.visible visible s.stops refl
    (sym s.whole ∙ b.spelled) in
    let q = stretch is_space gap rest (32 ∷ b.gap) other s.spaces (refl, b.spaces) s.ends (begun other b.begins)
    (sym s.rest ∙ r.1) in
    record {
      is = r.0;
      some = subst (λ (l : List ℕ). 0 < length l) (sym q.0) (omega arith);
      same = q.1;
    }

same_behind : (text word rest other : List ℕ) → Are is_visible word → IsBehind text word rest
    → IsBehind text word other → rest ≡ other
same_behind text word rest other visible a b =
    let r = stretch is_visible word (32 ∷ (a.gap ++ rest)) word (32 ∷ (b.gap ++ other)) visible visible refl refl
    (sym a.spelled ∙ b.spelled) in
    (stretch is_space a.gap rest b.gap other a.spaces b.spaces (begun rest a.begins) (begun other b.begins)
    (same_tail r.1)).1

-- [p,n] N

a_space : (c : ℕ) → is_other_than 32 c ≡ false → c ≡ 32
a_space c e = eqb-true c 32 (not_false (c == 32) e)

pub limit_is : (text front back digits : List ℕ) (space p n : ℕ) → AreParted 32 text front back
    → back ≡ space ∷ digits → IsBracketed front p → IsBlockCount digits n → IsLimit text p n
limit_is text front back digits space p n parted e a b =
    let is : space ≡ 32 = a_space space (subst (Stops (is_other_than 32)) e parted.stops) in
    record {
      before = front;
      behind = digits;
      left = a;
      right = b;
      spelled = parted.whole ∙ ap (λ l. front ++ l) (e ∙ ap (λ c. c ∷ digits) is);
    }

pub record AreLimitParts (front back : List ℕ) (p n : ℕ) : Type 0 where
  pub digits : List ℕ
  pub named : IsBracketed front p
  pub number : IsBlockCount digits n
  pub spelled : back ≡ 32 ∷ digits

pub limit_parts : (text front back : List ℕ) (p n : ℕ) → AreParted 32 text front back → IsLimit text p n
    → AreLimitParts front back p n
limit_parts text front back p n parted m =
    let r = stretch (is_other_than 32) front back m.before (32 ∷ m.behind) parted.plain
    (bracketed_other 32 m.before p refl refl refl refl m.left) parted.stops refl (sym parted.whole ∙ m.spelled) in
    record {
      digits = m.behind;
      named = subst (λ l. IsBracketed l p) (sym r.0) m.left;
      number = m.right;
      spelled = r.1;
    }

pub limit_number : (text front back digits : List ℕ) (space p n : ℕ) → AreParted 32 text front back
    → back ≡ space ∷ digits → IsLimit text p n → IsBlockCount digits n
limit_number text front back digits space p n parted e m =
    let parts = limit_parts text front back p n parted m in
    subst (λ l. IsBlockCount l n) (same_tail (sym parts.spelled ∙ e)) parts.number

pub no_limit : (text front back : List ℕ) (p n : ℕ) → AreParted 32 text front back → length back ≡ 0
    → IsLimit text p n → ⊥
no_limit text front back p n parted none m =
    let parts = limit_parts text front back p n parted m in
    let some : 0 < length back = subst (λ (l : List ℕ). 0 < length l) (sym parts.spelled) (omega arith) in
    omega (arith, none, some)

-- QUOTA [p,n] N

abbrev quota : List ℕ
quota = codes "QUOTA"

quota_visible : Are is_visible quota
quota_visible = (refl, (refl, (refl, (refl, (refl, tt)))))

pub is_visible_quota : (word : List ℕ) → word ≡ quota → Are is_visible word
is_visible_quota word e = subst (Are is_visible) (sym e) quota_visible

-- a limit begins with a bracket
bracket_first : (text : List ℕ) (p n : ℕ) → IsLimit text p n → (more : List ℕ) → text ≡ 32 ∷ more → ⊥
bracket_first text p n m more e =
    let begin : text ≡ 91 ∷ ((m.left.pair ++ 93 ∷ []) ++ 32 ∷ m.behind) = m.spelled
    ∙ ap (λ l. l ++ 32 ∷ m.behind) m.left.spelled in
    differs 32 91 refl (same_head (sym e ∙ begin))

behind_quota : (text : List ℕ) (p n : ℕ) (a : IsCommand text (Quota p n)) → IsBehind text quota a.2
behind_quota text p n a = record {
  gap = a.0;
  spaces = a.1;
  spelled = a.3;
  begins = bracket_first a.2 p n a.4;
}

pub quota_some : (found : Option (ℕ × ℕ)) (text word rest : List ℕ) → word ≡ quota → IsBehind text word rest
    → IfSome found (λ limit. IsLimit rest limit.0 limit.1)
    → IfSome found (λ limit. IsCommand text (Quota limit.0 limit.1))
quota_some None text word rest e b some = tt
quota_some (Some limit) text word rest e b some =
    let c : IsBehind text quota rest = subst (λ w. IsBehind text w rest) e b in
    (c.gap, c.spaces, rest, c.spelled, some)

pub quota_none : (found : Option (ℕ × ℕ)) (text word rest : List ℕ) → word ≡ quota → IsBehind text word rest
    → IfNone found ((p n : ℕ) → IsLimit rest p n → ⊥) → IfNone found ((p n : ℕ) → IsCommand text (Quota p n) → ⊥)
quota_none (Some limit) text word rest e b none = tt
quota_none None text word rest e b none = λ p n a.
    let c : IsBehind text quota rest = subst (λ w. IsBehind text w rest) e b in
    let same : a.2 ≡ rest = same_behind text quota a.2 rest quota_visible (behind_quota text p n a) c in
    none p n (subst (λ l. IsLimit l p n) same a.4)

pub no_quota : (text word : List ℕ) → word ≡ quota → ((rest : List ℕ) → IsBehind text word rest → ⊥) → (p n : ℕ)
    → IsCommand text (Quota p n) → ⊥
no_quota text word e none p n a = none a.2 (subst (λ w. IsBehind text w a.2) (sym e) (behind_quota text p n a))
