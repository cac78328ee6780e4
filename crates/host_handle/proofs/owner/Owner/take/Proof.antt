-- `take` hands over what the pointer owns, and leaves a pointer that owns nothing.
use Rattle.std.proofs.Common.{◌≡◌, List, [], ◌∷◌, ◌++◌, refl, sym, ap, ◌∙◌, subst, IsSome, Option, Some, None}
use mir.Val.{Val, vptr}
use mir.Raw.{raw as bare}
use base.Logic.{SProp, ent, emp, never, id⊢, fst∗}
use base.Fml.{ftrue, flft}
use prog.Wp.{WpFn}
use types.Logic.{sem}
use types.Kit.{‵, raw, ◌⊛◌, ◌$◌, ◌∵◌, !, qed, by, move, keep, split, join, fsplit, fjoin, suffices, use0, rewrite, feq_i}
use types.Run.{stop, fld, load, of_opd, no_more, and_then, returns, enter}
use types.ByLocal.{alloc_all, pass_all, free_all, look_at, get, through, sets}
use types.Part.{agg, sub, whole, look_in}
use contract.Monad.{fact, fact_i}
use contract.Running.{tables}
use denote.Exit.{yes}
use denote.Laws.{shows}
use denote.RattleType.{RattleType, owns}
use denote.Signature.{types_at, plain}
use denote.Memory.{cell_at, lone}
use base.Fraction.{full_share}
use denote.RawPtr.{Ptr, block_ptr, null_ptr, in_a_block}
use denote.Steps.{nothing, heard, opens, closes, peeks}
use denote.Param.{layout}
use denote.Triple.Walked.{Stays, stay_dropped, stay_ref, walk_of, Goes-dropped, Goes-ref}
use Rattle.core.proofs.cell.Inside.{one}
use Rattle.std.specs.contracts.alloc.Global as heap
use Rattle.std.proofs.alloc.Global.TheLaws as heap_laws
use Rattle.std.specs.contracts.impls.GlobalAllocator.TheImpl.{ghosts}
use Rattle.std.proofs.raw_atomic.Walks.{proved_at, leaves}
use Rattle.std_alloc.specs.Box.Ownership.{box_owns}
use Rattle.host_core.specs.HostView.{HostView}
use Rattle.host_core.specs.contracts.host.Host as host
use Rattle.host_handle.specs.Owned.{owned}
use Rattle.host_handle.proofs.Values.{both, loose_good, loose_in, kept_host}
use Rattle.host_handle.specs.contracts.owner.Owner.{the_row as R}
use Rattle.host_handle.proofs.owner.Owner.TheLaws.{lowers}
use Rattle.host_handle.specs.contracts.owner.Owner.take.{ended, clauses}
use Rattle.host_handle.specs.contracts.owner.Owner.take.Key.{name as #self}
use Rattle.host_handle.proofs.owner.Owner.take.Statement.{statement}
use Rattle.host_handle.proofs.owner.Owner.take.Code as code

pub take_spec : {M : Type 1} → statement M
take_spec 𝓤 𝓛 𝓜 𝓡 wired =
    let H = 𝓛.H in let 𝓣 = tables 𝓤 H 𝓜 𝓡 𝓡.env in let c = clauses 𝓛 𝓜.mem 𝓡.returns in
    let X : RattleType = host.the_row in let Z : RattleType = heap.the_row in let LZ = heap_laws.the_row_laws in
    let hs : Stays ended.signature.params ended.kept = (stay_ref (0 ∷ []) tt (plain (λ _. R)), (stay_dropped (plain (λ _. Z)) yes, tt)) in
    proved_at 𝓛 ended hs c 𝓜 𝓡 (Goes-ref 𝓛 1 0 tt (plain (λ _. R)), (Goes-dropped 𝓛 1 (plain (λ _. Z)) yes (λ κs x w. refl), tt)) #self code.function (code.unfolded 𝓤 H 𝓜 𝓡 wired) (λ z are.
    let κs = z.0.0 in let qs = z.0.1 in let b = z.0.3.0.ref_ptr.0 in let o = z.0.3.0.ref_ptr.1 in let h = z.0.3.0.now in let a = z.0.3.1.0 in
    let Post : Val → SProp 𝓤 = (walk_of 𝓛 ended hs c).post z in let Run : List Val → SProp 𝓤 = λ ws. WpFn 𝓤 H 𝓣.C 𝓣.Λ code.function ws Post in
    let g = one (layout Z) z.0.4.1.0 ((LZ.lawful 𝓛).typed a z.0.4.1.0 are.1.0) in
    qed 𝓛 (((‵ (flft κs.0 qs.0) ⊛ ‵ ftrue) ⊛ ‵ (owns (types_at ended.signature.params κs) z.0.3 z.0.4)) ∷ raw ((c κs z.0.3).requires z.1) ∷ []) ∵
    move ! (1 ∷ []) $ heard ! (IsSome h.host) (λ some. let known = kept_host h.host some in let v = known.0 in let left : R.Denot = record h { host = None } in
    split ! $ split ! $ move ! (2 ∷ []) $ fsplit ! $ fsplit ! $ keep ! (1 ∷ 2 ∷ 3 ∷ []) $ move ! (1 ∷ []) $ fsplit ! $ keep ! (2 ∷ 3 ∷ 0 ∷ []) $
    rewrite ! 2 (λ (us : List Val). ‵ (Z.own_val a us)) g.1 refl $
    suffices ! (Run (vptr b o ∷ g.0 ∷ [])) (subst (λ (us : List Val). ent 𝓤 (Run (vptr b o ∷ g.0 ∷ [])) (Run us)) (sym (λ i. are.0.0 i ++ (g.1 i ++ []))) (id⊢ 𝓤 (Run (vptr b o ∷ g.0 ∷ [])))) $
    enter ! 𝓣.C 𝓣.Λ code.function (vptr b o ∷ g.0 ∷ []) Post $ alloc_all ! (λ l. pass_all ! refl ((tt, tt), (g.2, tt)) $
    fsplit ! $ opens ! tt R b o (λ us. move ! (1 ∷ []) $ peeks ! R _ (shows 𝓛 R) h us (λ is. fsplit ! $ move ! (1 ∷ []) $
    rewrite ! 0 (λ (x : Option HostView). ‵ (owned h.at x)) known.1 refl $
    in_a_block ! h.at (λ p. box_owns (ghosts.dealloc_token a) X p v) (fst∗ 𝓤 (never 𝓤) (sem 𝓛 (ghosts.dealloc_token a (bare (lone X.mir)) null_ptr))) (λ b' o' e.
    let word = lowers.val_is h us is ∙ ap (λ (p : Ptr). lowers.lowered (record h { at = p }) ∷ []) e in
    let Cell = λ (ws : List Val). ‵ (cell_at full_share R.mir ws b o) in
    rewrite ! 2 Cell word refl $
    -- [the box; what the fields own; the struct's cell; the open borrow, in three entries; the allocator]
    sets ! (of_opd ! (load ! (through ! refl (fld ! refl (stop !))) (look_in ! 2 (sub ! 0 refl (whole !))))) refl (tt, tt) $
    sets ! (of_opd ! (get ! refl)) refl (tt, tt) $
    sets ! (agg ! (and_then ! (get ! refl) (and_then ! (get ! refl) (no_more !)))) refl (loose_good X Z LZ ghosts b' o' g.0 g.2) $
    rewrite ! 2 Cell (sym word) refl $
    move ! (0 ∷ 6 ∷ []) $ loose_in X Z LZ ghosts ! b' o' g.0 a v $
    nothing ! $ move ! (2 ∷ 0 ∷ []) $ fjoin ! $ move ! (2 ∷ 0 ∷ 3 ∷ 4 ∷ 5 ∷ []) $ closes ! tt R left us b o $
    fjoin ! $ feq_i ! (List Val) z.0.4.0 (vptr b o ∷ []) are.0.0 $ fjoin ! $
    -- [self; the token; the box as its pointer]
    nothing ! $ nothing ! $ fjoin ! $ move ! (1 ∷ 0 ∷ []) $ fjoin ! $ nothing ! $ move ! (2 ∷ 0 ∷ []) $ join ! $
    use0 𝓛 (raw (fact 𝓤 (left.host ≡ None))) (fact_i 𝓤 _ (emp 𝓤) refl) $ use0 𝓛 (raw (fact 𝓤 (h.host ≡ Some v))) (fact_i 𝓤 _ (emp 𝓤) known.1) $ join ! $
    returns ! (look_at ! 0 refl) $ free_all ! refl $ keep ! (1 ∷ 2 ∷ 3 ∷ 0 ∷ []) $
    by ! (leaves 𝓛 ended hs c z (both (vptr b' o') g.0) (record { at = block_ptr b' o'; alloc = a; value = v }) (left, (tt, tt)) (tt, (tt, tt)))))))))
