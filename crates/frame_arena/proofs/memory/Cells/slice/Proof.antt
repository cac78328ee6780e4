-- `slice` shows a run of values that the cells lend. Assumes `Logic`.
use mathlib.Core.Path.{◌≡◌, refl, sym, ap, subst, ◌∙◌}
use Prim.Native.Nat.{ℕ, ◌+◌, ◌*◌, ◌<◌, ◌^◌}
use native.Mathlib.Omega.{arith}
use mathlib.Core.List.{List, [], ◌∷◌, ◌++◌}
use seplogic.Ra.Ura.{Ura}
use base.Fraction.{full_share}
use mir.Syntax.{Fn, named, w64}
use mir.MapTy.{inst_fn}
use mir.Val.{Val, vptr, vint}
use base.Logic.{SProp, ent, never, id⊢}
use base.Fml.{Lft, Share, ftrue, fat, flft}
use prog.Wp.{Env, Calls, Loops, WpFn, Tables}
use types.Logic.{Logic}
use contract.Monad.{fact}
use contract.Running.{tables, tables_of}
use sound.WpLaws.{WpFn-mono}
use types.Kit.{Item, ⋆, ‵, ◌⊛◌, at_ret, ◌$◌, ◌∵◌, !, qed, by, move, keep, drop, use1, split, join, rewrite, fsplit, fjoin, feq_i, feq_l, suffices, frame, done}
use types.Part.{whole, sub, agg}
use types.Run.{stop, fld, of_opd, and_then, no_more, first, blocks, exec, returns, enter}
use types.ByLocal.{alloc_all, pass_all, free_all, look_at, get, get_in, sets, sets_last, is, env}
use denote.Exit.{yes, no}
use denote.RattleType.{owns}
use denote.Memory.{hidden_shr}
use denote.Param.{layout}
use denote.RawPtr.{Ptr, in_a_block}
use denote.Ref.{Bor, ShrRef}
use denote.Builtin.{RefOf}
use denote.Signature.{plain}
use denote.Opens.{hide, unhide}
use denote.Steps.{nothing}
use denote.Triple.Carry.{spared}
use denote.Triple.Clauses.{Clauses, Ended, closing}
use denote.Triple.Entry.{on_entry}
use denote.Triple.Spec.{Meets, triple_of}
use denote.Triple.Table.{entered, run_framed}
use denote.Triple.Walked.{says, needs, Stays, stay_dropped, walk_of, ends_at, Goes-dropped, walk_Meets}
use Rattle.std_alloc.proofs.VecSteps.Shapes.{after}
use Rattle.std_alloc.proofs.RcSteps.{word, word-Good}
use lib.ListN.{length, take, length-take, length-drop}
use lib.ListN.{drop as drop_l}
use mathlib.Core.List.{map}
use types.Kit.{flt_l, flt_i}
use types.Run.{bin}
use types.ByLocal.{take_at, give_at}
use denote.Builtin.{usize, SliceRefOf}
use Rattle.std.specs.Prelude.{Some}
use Rattle.std.proofs.lemmas.List.{length-map}
use Rattle.core.proofs.mem.Param.{El, R, args, el_x}
use Rattle.core.proofs.ptr.Rows.{times_below}
use Rattle.frame_arena.specs.Offsets.{IsRun}
use Rattle.frame_arena.specs.Ownership.{cells_lent}
use Rattle.frame_arena.proofs.Walking.{Cr, Bs, sz, word_had, run_seen}
use denote.Slice.{ShrSlice, slice_val, elements_shared}
use types.Run.{size_word}
use Rattle.core.proofs.slots.Leases.{uncapped}
use Rattle.frame_arena.specs.contracts.memory.Cells.slice.Key.{name as #self}
use Rattle.frame_arena.proofs.memory.Cells.slice.Statement as stated
use Rattle.frame_arena.proofs.memory.Cells.slice.Code as code

module _ (E : El) where
  abbrev function : Fn
  function = inst_fn (args E) code.function

  abbrev ended : Ended
  ended = record { signature = record { lifetimes = 1; outlives = []; params = RefOf (0 ∷ []) tt (plain (λ _. Cr E)) (λ _. tt) ∷ plain (λ _. Bs E) ∷ plain (λ _. usize) ∷ plain (λ _. usize) ∷ []; result = SliceRefOf (0 ∷ []) tt (plain (λ _. R E)) (λ _. tt) }; kept = (yes, (no, (no, (no, tt)))) }

  abbrev stayed : Stays ended.signature.params ended.kept
  stayed = (stay_dropped (RefOf (0 ∷ []) tt (plain (λ _. Cr E)) (λ _. tt)) yes, (stay_dropped (plain (λ _. Bs E)) no, (stay_dropped (plain (λ _. usize)) no, (stay_dropped (plain (λ _. usize)) no, tt))))

  abbrev Asks : (Cr E).Denot → (Bs E).Denot → (usize).Denot → (usize).Denot → Type 0
  Asks d base from len = (base.ptr ≡ d.at) × IsRun d.slots from len

  abbrev Gives0 : (Cr E).Denot → (Bs E).Denot → (usize).Denot → (usize).Denot → Bor (List (el_x E)) → Type 0
  Gives0 d base from len r = take len (drop_l from d.slots) ≡ map Some r.now

  abbrev spec : {M : Type 1} {𝓤 : Ura M} (𝓛 : Logic 𝓤) → Clauses 𝓤 ended
  spec {𝓤 = 𝓤} 𝓛 κs a = record { ghost = Unit {0}; requires = λ _. fact 𝓤 (Asks a.0.now a.1.0 a.1.1.0 a.1.1.1.0); ensures = λ _ r w. fact 𝓤 (Gives0 a.0.now a.1.0 a.1.1.0 a.1.1.1.0 r) }

module _ (E : El) {M : Type 1} {𝓤 : Ura M} (𝓛 : Logic 𝓤) (C : Calls 𝓤 𝓛.H) (Λ : Loops 𝓤 𝓛.H) (κ : Lft) (q : Share) (rb ro : ℕ) (d : (Cr E).Denot) (base : (Bs E).Denot) (from : (usize).Denot) (len : (usize).Denot) (us0 us1 us2 us3 : List Val) where
  open 𝓛 use {H, A}

  abbrev self : Bor (Cr E).Denot
  self = record { ref_ptr = (rb, ro); now = d }

  abbrev bound : (walk_of 𝓛 (ended E) (stayed E) (spec E 𝓛)).Ghost
  bound = (((κ, tt), (q, tt), tt, (self, (base, (from, (len, tt)))), (us0, (us1, (us2, (us3, tt))))), tt)

  abbrev Post : Val → SProp 𝓤
  Post = (walk_of 𝓛 (ended E) (stayed E) (spec E 𝓛)).post bound

  exits : (r : (ShrSlice (named 0) κ (R E)).Denot) (v : Val) → Gives0 E d base from len r → ent 𝓤 (⋆ 𝓛 (‵ (flft κ q) ∷ ‵ ((ShrSlice (named 0) κ (R E)).own_val r (v ∷ [])) ∷ [])) (Post v)
  exits r v g0 =
      qed 𝓛 (‵ (flft κ q) ∷ ‵ ((ShrSlice (named 0) κ (R E)).own_val r (v ∷ [])) ∷ []) ∵
      suffices ! _ (ends_at 𝓛 (ended E) (stayed E) (spec E 𝓛) bound v r (tt, (tt, (tt, (tt, tt)))) (tt, (tt, (tt, (tt, tt))))) $ says ! g0 $
      nothing ! $ move ! (1 ∷ 0 ∷ []) $ join ! $ frame ! $ nothing ! $ nothing ! $ fjoin ! $ nothing ! $ fjoin ! $ nothing ! $ fjoin ! $ nothing ! $ fjoin ! $ done !

  abbrev Had : List (Item 𝓤)
  Had = ‵ (hidden_shr (Cr E) κ d rb ro) ∷ ‵ (flft κ q) ∷ []

  walk : Asks E d base from len → from < 2 ^ 64 → len < 2 ^ 64 → ent 𝓤 (⋆ 𝓛 Had) (WpFn 𝓤 H C Λ (function E) (vptr rb ro ∷ word base.ptr ∷ vint w64 from ∷ vint w64 len ∷ []) Post)
  walk asked fits_from fits_len =
      let xs = asked.1.1.0 in let filled = asked.1.1.1 in let within = asked.1.0 in
      let long : length xs ≡ len = omega (arith, ap length filled, length-map xs Some, length-take len (drop_l from d.slots), length-drop from d.slots) in
      qed 𝓛 Had ∵ enter ! C Λ (function E) (vptr rb ro ∷ word base.ptr ∷ vint w64 from ∷ vint w64 len ∷ []) _ $ alloc_all ! (λ l. pass_all ! refl ((tt, tt), (word-Good [] base.ptr, ((tt, record { fits = fits_from }), ((tt, record { fits = fits_len }), tt)))) $
      let En : Env 𝓤 H = env (function E).locals l in
      unhide ! $ fsplit ! $ drop ! $ in_a_block ! d.at (λ p. cells_lent (R E) p d.slots κ) (id⊢ 𝓤 (never 𝓤)) (λ b o e. fsplit ! $ flt_l ! (λ small.
      let s = sz E in
      let far : from * s < 2 ^ 64 = omega (arith, times_below from (length d.slots) s (2 ^ 63) (omega arith) small) in
      take_at ! 2 $ rewrite ! 0 (λ (p : Ptr). ‵ (fat full_share (layout (Bs E)) (l 2) 0 (word p))) (asked.0 ∙ e) refl $ give_at ! 2 $ first ! $ blocks ! $
      sets ! (is ! (bin ! (get ! refl) (size_word !) (record { fits = subst (λ (k : ℕ). k < 2 ^ 64) (sym (uncapped from s far)) far })) (ap (vint w64) (uncapped from s far))) refl (tt, record { fits = far }) $
      sets ! (bin ! (get_in ! (fld ! refl (stop !)) (sub ! 0 refl (whole !))) (get ! refl) tt) refl (tt, tt) $
      let at : ℕ × ℕ = (b, from * s + o) in
      use1 𝓛 (‵ (elements_shared (R E) xs b (from * s + o) κ)) (run_seen E 𝓛 b κ o d.slots from len xs (omega arith) filled) $ hide ! $
      sets_last ! (agg ! (and_then ! (get ! refl) (and_then ! (get ! refl) (no_more !)))) refl (tt, (tt, (record { fits = fits_len }, tt))) $
      exec ! C Λ En (after 1 (function E).body) (at_ret En Post) $ sets ! (of_opd ! (get ! refl)) refl (tt, (tt, (record { fits = fits_len }, tt))) $
      flt_i ! (length xs * s) (2 ^ 63) (times_below (length xs) (length d.slots) s (2 ^ 63) (omega arith) small) $ flt_i ! (length xs) (2 ^ 64) (omega arith) $ fjoin ! $
      feq_i ! (List Val) (slice_val at len ∷ []) (slice_val at (length xs) ∷ []) (ap (λ k. slice_val at k ∷ []) (sym long)) $ fjoin ! $ fjoin ! $
      returns ! (look_at ! 0 refl) $ free_all ! refl $ keep ! (1 ∷ 0 ∷ []) $ by ! (exits (record { ref_ptr = at; now = xs }) (slice_val at len) filled))))

  entry : Asks E d base from len → ent 𝓤 (on_entry 𝓛 (ended E).signature (κ, tt) (q, tt) (self, (base, (from, (len, tt)))) (us0, (us1, (us2, (us3, tt))))) (WpFn 𝓤 H C Λ (function E) (us0 ++ (us1 ++ (us2 ++ (us3 ++ [])))) Post)
  entry asked =
      qed 𝓛 ((‵ (flft κ q) ⊛ ‵ ftrue) ∷ ‵ (owns (ShrRef (named 0) κ (Cr E) ∷ Bs E ∷ usize ∷ usize ∷ []) (self, (base, (from, (len, tt)))) (us0, (us1, (us2, (us3, tt))))) ∷ []) ∵
      split ! $ move ! (2 ∷ []) $
      fsplit ! $
      fsplit ! $ feq_l ! (λ e0.
      move ! (1 ∷ []) $
      fsplit ! $
      word_had ! base.ptr us1 (λ e1.
      fsplit ! $
      fsplit ! $ feq_l ! (λ e2. flt_l ! (λ fits_from.
      fsplit ! $
      fsplit ! $ feq_l ! (λ e3. flt_l ! (λ fits_len.
      keep ! (1 ∷ 2 ∷ []) $
      by ! (subst (λ (ws : List Val × List Val × List Val × List Val). ent 𝓤 (⋆ 𝓛 Had) (WpFn 𝓤 H C Λ (function E) (ws.0 ++ (ws.1 ++ (ws.2 ++ (ws.3 ++ [])))) Post)) (λ j. (sym e0 j, sym e1 j, sym e2 j, sym e3 j)) (walk asked fits_from fits_len))))))))

fulfils : (E : El) {M : Type 1} {𝓤 : Ura M} (𝓛 : Logic 𝓤) (𝓣 : Tables 𝓤 𝓛.H)
    → Meets 𝓛 (ended E).signature (WpFn 𝓤 𝓛.H 𝓣.C 𝓣.Λ (function E)) (closing 𝓛 (ended E) (spec E 𝓛))
fulfils E {𝓤 = 𝓤} 𝓛 𝓣 =
    walk_Meets 𝓛 (ended E) (stayed E) (Goes-dropped 𝓛 1 (RefOf (0 ∷ []) tt (plain (λ _. Cr E)) (λ _. tt)) yes (λ κs x f. refl), (Goes-dropped 𝓛 1 (plain (λ _. Bs E)) no (λ κs x f. refl), (Goes-dropped 𝓛 1 (plain (λ _. usize)) no (λ κs x f. refl), (Goes-dropped 𝓛 1 (plain (λ _. usize)) no (λ κs x f. refl), tt)))) (spec E 𝓛) (WpFn 𝓤 𝓛.H 𝓣.C 𝓣.Λ (function E)) (WpFn-mono 𝓤 𝓛.H 𝓛.laws 𝓣 (function E))
    (λ z. needs 𝓤 (Asks E z.0.3.0.now z.0.3.1.0 z.0.3.1.1.0 z.0.3.1.1.1.0) _ (entry E 𝓛 𝓣.C 𝓣.Λ z.0.0.0 z.0.1.0 z.0.3.0.ref_ptr.0 z.0.3.0.ref_ptr.1 z.0.3.0.now z.0.3.1.0 z.0.3.1.1.0 z.0.3.1.1.1.0 z.0.4.0 z.0.4.1.0 z.0.4.1.1.0 z.0.4.1.1.1.0))

pub slice_spec : {M : Type 1} → stated.statement M
unfolding tables_of
slice_spec 𝓤 𝓛 𝓜 𝓡 wired X LX y =
    let E : El = record { row = X; laws = LX } in
    let 𝓣 : Tables 𝓤 𝓛.H = tables_of 𝓤 𝓛.H 𝓜 (tables 𝓤 𝓛.H 𝓜 𝓡 𝓡.env) in
    let k = #self (args E) in
    spared 𝓛 (ended E).signature (𝓡.run (𝓡.env k)) (run_framed 𝓤 𝓛.H 𝓜 𝓡 (𝓡.env k)) 1 (X.lives, tt) (closing 𝓛 (ended E) (spec E 𝓛))
    (entered 𝓤 𝓛.H (triple_of 𝓛 (ended E).signature (closing 𝓛 (ended E) (spec E 𝓛))) 𝓣.C 𝓣.Λ k (function E) (code.unfolded 𝓤 𝓛.H 𝓜 𝓡 wired (X, tt)) (fulfils E 𝓛 𝓣))
    ((y.0.0, y.0.1, tt, y.0.3, y.0.4), y.1)
