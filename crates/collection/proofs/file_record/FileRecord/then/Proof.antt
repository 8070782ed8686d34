-- `then` makes a value of no bytes, with one more act in its record.
use Rattle.std.proofs.Common.{[], ◌∷◌, refl}
use Rattle.std.proofs.raw_atomic.Walks.{proved}
use mir.Syntax.{named}
use mir.Val.{vptr, vstruct, vnil}
use denote.Exit.{yes}
use denote.RattleType.{owns}
use denote.Ref.{shr_vals, shr_Tells}
use denote.Shadow.{pure_i}
use denote.Signature.{plain, types_at, named_lft}
use denote.Triple.Entry.{alive}
use denote.Triple.Walked.{says, stay_none_ref, Stays, walk_of, ends_at, Goes-none_ref}
use Rattle.collection.specs.Common.{spelled_act}
use Rattle.collection.proofs.file_record.FileRecord.then.Statement.{statement}
use types.Kit.{‵, raw, ◌⊛◌, ◌$◌, ◌∵◌, !, qed, move, keep, split, suffices, done}
use types.Run.{no_more, returns, enter}
use types.Part.{agg}
use types.ByLocal.{alloc_all, pass_all, free_all, look_at, sets}
use Rattle.collection.specs.contracts.file_record.FileRecord as record_type
use Rattle.collection.specs.contracts.file_record.ActMade as act_type
use Rattle.collection.specs.contracts.file_record.FileRecord.then as f
use Rattle.collection.proofs.file_record.FileRecord.then.Code as code

abbrev stayed : Stays f.ended.signature.params f.ended.kept
stayed = (
  stay_none_ref (0 ∷ []) tt (plain (λ _. record_type.the_row)) yes,
  (stay_none_ref (1 ∷ []) tt (plain (λ κs. act_type.the_row (named_lft 3 2 tt κs))) yes, tt),
)

pub then_spec : {M : Type 1} → statement M
then_spec 𝓤 𝓛 𝓜 𝓡 wired =
    let c = f.clauses 𝓛 𝓜.mem 𝓡.returns in
    let W = walk_of 𝓛 f.ended stayed c in
    proved 𝓛 f.ended stayed c 𝓜 𝓡 (
      Goes-none_ref 𝓛 3 (0 ∷ []) tt (plain (λ _. record_type.the_row)) yes,
      (Goes-none_ref 𝓛 3 (1 ∷ []) tt (plain (λ κs. act_type.the_row (named_lft 3 2 tt κs))) yes, tt),
    )
    f.Key.name code.function (code.unfolded 𝓤 𝓛.H 𝓜 𝓡 wired) (λ κs. (shr_vals, (shr_vals, tt)))
    (λ κs. (
      shr_Tells (named 0) κs.0 record_type.the_row,
      (shr_Tells (named 1) κs.1.0 (act_type.the_row (named_lft 3 2 tt κs)), tt),
    )) (λ κs qs bounds a g are.
    let before = vptr a.0.ref_ptr.0 a.0.ref_ptr.1 in
    let act = vptr a.1.0.ref_ptr.0 a.1.0.ref_ptr.1 in
    let y : W.Ghost = ((κs, qs, bounds, a, (before ∷ [], (act ∷ [], tt))), g) in
    let made : (record_type.the_row).Denot = record { acts = spelled_act a.1.0.now ∷ a.0.now.acts } in
    qed 𝓛 ((raw (alive 𝓛 f.signature κs qs) ⊛ ‵ (owns (types_at f.signature.params κs) a
    (before ∷ [], (act ∷ [], tt)))) ∷ raw ((c κs a).requires g) ∷ []) ∵ keep ! (0 ∷ []) $ split ! $
    enter ! _ _ _ _ _ $ alloc_all ! (λ l. pass_all ! refl ((tt, tt), ((tt, tt), tt)) $
    sets ! (agg ! (no_more !)) refl (tt, tt) $
    returns ! (look_at ! 0 refl) $ free_all ! refl $
    suffices ! _ (ends_at 𝓛 f.ended stayed c y (vstruct vnil) made (tt, (tt, tt)) (tt, (tt, tt))) $ says ! refl $
    pure_i ! (record_type.the_row.own_val made (vstruct vnil ∷ [])) ((λ vss. (tt, tt)), tt) ((tt, (refl, tt)), tt) $
    move ! (1 ∷ 2 ∷ 0 ∷ []) $ done !))
