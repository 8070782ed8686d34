-- `any` makes a value of no bytes, with an empty file for what it supposes: no contract states which it is.
use Rattle.std.proofs.Common.{List, [], ◌∷◌, refl}
use Rattle.std.proofs.raw_atomic.Walks.{proved}
use mir.Val.{vstruct, vnil}
use denote.RattleType.{owns}
use denote.Shadow.{pure_i}
use denote.Triple.Entry.{alive}
use denote.Triple.Walked.{Stays, walk_of, ends_at}
use Rattle.imagefile.proofs.assumed_image.AssumedImage.any.Statement.{statement}
use seplogic.Ra.Ura.{Ura}
use base.Logic.{SProp, sep, emp, via, comm∗, emp∗}
use types.Logic.{Logic}
use types.Kit.{Item, prop, Step, step, ‵, raw, ◌⊛◌, ◌$◌, ◌∵◌, !, qed, move, keep, split, suffices, done}
use types.Run.{no_more, returns, enter}
use types.Part.{agg}
use types.ByLocal.{alloc_all, pass_all, free_all, look_at, sets}
use Rattle.imagefile.specs.contracts.assumed_image.AssumedImage as record_type
use Rattle.imagefile.specs.contracts.assumed_image.AssumedImage.any as f
use Rattle.imagefile.proofs.assumed_image.AssumedImage.any.Code as code

abbrev stayed : Stays f.ended.signature.params f.ended.kept
stayed = tt

-- a contract that ensures nothing: the rest of the goal is left
says_nothing : {M : Type 1} {𝓤 : Ura M} {𝓛 : Logic 𝓤} {K : Type 0} {Γ : List (Item 𝓤)} → K → {P : SProp 𝓤}
    → Step K 𝓛 Γ (prop P) Γ (prop (sep 𝓤 P (emp 𝓤)))
says_nothing {𝓤 = 𝓤} t {P} = step
    (λ s. record { prf = via 𝓤 P s.prf (via 𝓤 (sep 𝓤 (emp 𝓤) P) (emp∗ 𝓤 P) (comm∗ 𝓤 (emp 𝓤) P)) })

pub any_spec : {M : Type 1} → statement M
any_spec 𝓤 𝓛 𝓜 𝓡 wired =
    let c = f.clauses 𝓛 𝓜.mem 𝓡.returns in
    let W = walk_of 𝓛 f.ended stayed c in
    proved 𝓛 f.ended stayed c 𝓜 𝓡 tt f.Key.name code.function (code.unfolded 𝓤 𝓛.H 𝓜 𝓡 wired) (λ κs. tt)
    (λ κs. tt) (λ κs qs bounds a g are.
    let y : W.Ghost = ((κs, qs, bounds, a, tt), g) in
    let made : (record_type.the_row).Denot = record { unseen = record { first = []; opened = []; left = [] } } in
    qed 𝓛 ((raw (alive 𝓛 f.signature κs qs) ⊛ ‵ (owns [] tt tt)) ∷ raw ((c κs a).requires g) ∷ []) ∵ keep ! (0 ∷ [])
    $ split ! $
    enter ! _ _ _ _ _ $ alloc_all ! (λ l. pass_all ! refl tt $
    sets ! (agg ! (no_more !)) refl (tt, tt) $
    returns ! (look_at ! 0 refl) $ free_all ! refl $
    suffices ! _ (ends_at 𝓛 f.ended stayed c y (vstruct vnil) made tt tt) $ says_nothing ! $
    pure_i ! (record_type.the_row.own_val made (vstruct vnil ∷ [])) ((λ vss. (tt, tt)), tt) ((tt, (refl, tt)), tt) $
    move ! (1 ∷ 2 ∷ 0 ∷ []) $ done !))
