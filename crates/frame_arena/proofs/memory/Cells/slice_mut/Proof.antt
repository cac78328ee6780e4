-- `slice_mut` lends a run of values, and the cells follow it. Assumes `Logic`.
use mathlib.Core.Path.{◌≡◌, refl, sym, ap, subst, ◌∙◌}
use Prim.Native.Nat.{ℕ, ◌+◌, ◌*◌, ◌<◌, ◌≤◌, ◌^◌}
use native.Mathlib.Omega.{arith}
use mathlib.Core.List.{List, [], ◌∷◌, ◌++◌}
use seplogic.Ra.Ura.{Ura}
use base.Fraction.{full_share}
use mir.Syntax.{Fn, named, w64}
use mir.MapTy.{inst_fn}
use mir.Val.{Val, vptr, vint}
use base.Logic.{SProp, ent, sep, never, id⊢}
use base.Fml.{Lft, GName, Share, Fml, ftrue, fsep, fat, flft, fobs, fbor}
use prog.Wp.{Env, Calls, Loops, WpFn, Tables}
use types.Logic.{Logic, sem}
use contract.Monad.{fact}
use contract.Running.{tables, tables_of}
use sound.WpLaws.{WpFn-mono}
use types.Kit.{Item, ⋆, ‵, raw, ◌⊛◌, some, later, await, pick, at_ret, ◌$◌, ◌∵◌, !, qed, by, move, keep, use1, use2, split, join, group, rewrite, fsplit, fsplit3, fjoin, fjoin3, fpack, feq_l, suffices, frame, done}
use types.Part.{whole, sub, agg}
use types.Run.{stop, fld, of_opd, and_then, no_more, first, blocks, exec, returns, enter}
use types.ByLocal.{alloc_all, pass_all, free_all, look_at, get, get_in, sets, sets_last, is, env}
use types.SemTy.{Body as Borrowed}
use denote.Exit.{no}
use denote.RattleType.{owns}
use denote.Memory.{mem, cell_at, part_of}
use denote.Param.{layout}
use denote.RawPtr.{Ptr, block_ptr, in_a_block}
use denote.Ref.{MutBor, MutRef}
use denote.Builtin.{RefMutOf}
use denote.Signature.{plain, mut_ref_to}
use denote.Steps.{nothing, opens}
use denote.Triple.Carry.{spared}
use denote.Triple.Clauses.{Clauses, Ended, closing}
use denote.Triple.Entry.{on_entry}
use denote.Triple.Spec.{Meets, triple_of}
use denote.Triple.Table.{entered, run_framed}
use denote.Triple.Walked.{says, needs, Stays, stay_dropped, walk_of, ends_at, Goes-dropped, Goes-spent_ref, walk_Meets}
use Rattle.std_alloc.proofs.VecSteps.Shapes.{after}
use Rattle.std_alloc.proofs.RcSteps.{word, word-Good}
use lib.ListN.{length, take, length-take, length-drop, length-append}
use lib.ListN.{drop as drop_l}
use mathlib.Core.List.{map}
use types.Kit.{flt_l, flt_i}
use types.Run.{bin}
use types.ByLocal.{take_at, give_at}
use denote.Builtin.{usize, SliceRefMutOf}
use Rattle.std.specs.Prelude.{Some}
use Rattle.std.proofs.lemmas.List.{length-map}
use Rattle.core.proofs.mem.Param.{El, R, args, el_x}
use Rattle.core.proofs.ptr.Rows.{times_below}
use Rattle.frame_arena.specs.Offsets.{somes, IsRun}
use Rattle.frame_arena.specs.Ownership.{slots, cells_own}
use Rattle.frame_arena.proofs.Walking.{Cr, Bs, Mark, sz, Cell, word_had, Around, run_out, run_in, to_cells, of_cells}
use types.SemTy.{cells}
use denote.Array.{Array}
use denote.Slice.{MutSlice, slice_val}
use denote.Follow.{follows}
use denote.FollowSlice.{Elements, lends_Elements}
use lib.Seq.{take_at as take_front}
use Rattle.std.specs.List.{refill}
use Rattle.frame_arena.specs.Lends.{with_slots, spliced}
use types.Run.{size_word}
use Rattle.core.proofs.slots.Leases.{uncapped}
use Rattle.frame_arena.specs.contracts.memory.Cells.slice_mut.Key.{name as #self}
use Rattle.frame_arena.proofs.memory.Cells.slice_mut.Statement as stated
use Rattle.frame_arena.proofs.memory.Cells.slice_mut.Code as code

module _ (E : El) where
  abbrev function : Fn
  function = inst_fn (args E) code.function

  abbrev ended : Ended
  ended = record { signature = record { lifetimes = 1; outlives = []; params = RefMutOf (0 ∷ []) tt (plain (λ _. Cr E)) (λ _. tt) ∷ plain (λ _. Bs E) ∷ plain (λ _. usize) ∷ plain (λ _. usize) ∷ []; result = SliceRefMutOf (0 ∷ []) tt (plain (λ _. R E)) (λ _. tt) }; kept = (no, (no, (no, (no, tt)))) }

  abbrev stayed : Stays ended.signature.params ended.kept
  stayed = (stay_dropped (mut_ref_to (0 ∷ []) tt (plain (λ _. Cr E))) no, (stay_dropped (plain (λ _. Bs E)) no, (stay_dropped (plain (λ _. usize)) no, (stay_dropped (plain (λ _. usize)) no, tt))))

  abbrev Asks : (Cr E).Denot → (Bs E).Denot → (usize).Denot → (usize).Denot → Type 0
  Asks d base from len = (base.ptr ≡ d.at) × IsRun d.slots from len

  abbrev Gives0 : (Cr E).Denot → (Bs E).Denot → (usize).Denot → (usize).Denot → MutBor (List (el_x E)) → Type 0
  Gives0 d base from len r = take len (drop_l from d.slots) ≡ map Some r.now

  abbrev Written : (Cr E).Denot → ℕ → ℕ → List (el_x E) → (Cr E).Denot
  Written d from len ws = with_slots d (spliced d.slots from len (refill len (somes (take len (drop_l from d.slots))) ws))

  abbrev spec : {M : Type 1} {𝓤 : Ura M} (𝓛 : Logic 𝓤) → Clauses 𝓤 ended
  spec {𝓤 = 𝓤} 𝓛 κs a = record { ghost = Unit {0}; requires = λ _. fact 𝓤 (Asks a.0.now a.1.0 a.1.1.0 a.1.1.1.0); ensures = λ _ r w. sep 𝓤 (sem 𝓛 (follows (Cr E) (Array (R E) 0) a.0.ghost_name r.ghost_name (Written a.0.now a.1.1.0 a.1.1.1.0))) (fact 𝓤 (Gives0 a.0.now a.1.0 a.1.1.0 a.1.1.1.0 r)) }

module _ (E : El) {M : Type 1} {𝓤 : Ura M} (𝓛 : Logic 𝓤) (C : Calls 𝓤 𝓛.H) (Λ : Loops 𝓤 𝓛.H) (κ : Lft) (q : Share) (rb ro : ℕ) (γ : GName) (d : (Cr E).Denot) (base : (Bs E).Denot) (from : (usize).Denot) (len : (usize).Denot) (us0 us1 us2 us3 : List Val) where
  open 𝓛 use {H, A}

  abbrev self : MutBor (Cr E).Denot
  self = record { ref_ptr = (rb, ro); ghost_name = γ; now = d }

  abbrev bound : (walk_of 𝓛 (ended E) (stayed E) (spec E 𝓛)).Ghost
  bound = (((κ, tt), (q, tt), tt, (self, (base, (from, (len, tt)))), (us0, (us1, (us2, (us3, tt))))), tt)

  abbrev Post : Val → SProp 𝓤
  Post = (walk_of 𝓛 (ended E) (stayed E) (spec E 𝓛)).post bound

  abbrev new : List (el_x E) → (Cr E).Denot
  new = Written E d from len

  module _ (vs : List Val) (b o : ℕ) (xs : List (el_x E)) where
    -- all but the run
    abbrev Rest : Fml
    Rest = fsep (Around E 𝓛 b o d.slots from len) (fsep ((Mark E).own_val (tt, tt) vs) (cell_at full_share (Cr E).mir vs rb ro))

    back : d.at ≡ block_ptr b o → from + len ≤ length d.slots → length d.slots * sz E < 2 ^ 63 → length xs ≡ len → (ws : List (el_x E)) → length ws ≡ length xs
        → ent 𝓤 (sep 𝓤 (sem 𝓛 (cells (mem (R E)) ws b (from * sz E + o))) (sem 𝓛 Rest)) (sem 𝓛 ((mem (Cr E)).own_at (new ws) rb ro))
    unfolding part_of
    back e within small count ws same =
        let old = somes (take len (drop_l from d.slots)) in
        let all : refill len old ws ≡ ws = take_front ws (drop_l (length ws) old) len (same ∙ count) in
        let rest = drop_l (from + len) d.slots in
        let long : length (new ws).slots ≡ length d.slots = ap (λ l. length (spliced d.slots from len l)) all
        ∙ omega (arith, length-append (take from d.slots) (map Some ws ++ rest), length-append (map Some ws) rest, length-map ws Some, length-take from d.slots, length-drop (from + len) d.slots) in
        qed 𝓛 (‵ (cells (mem (R E)) ws b (from * sz E + o)) ∷ ‵ Rest ∷ []) ∵ use1 𝓛 (‵ (slots (R E) b (from * sz E + o) (map Some ws))) (of_cells E 𝓛 b ws (from * sz E + o)) $
        move ! (1 ∷ []) $ fsplit3 ! $ move ! (3 ∷ 0 ∷ []) $
        use2 𝓛 (‵ (slots (R E) b o (spliced d.slots from len ws))) (run_in E 𝓛 b o d.slots from len within (map Some ws) (omega (arith, length-map ws Some))) $
        rewrite ! 0 (λ (l : List (el_x E)). ‵ (slots (R E) b o (spliced d.slots from len l))) (sym all) refl $
        flt_i ! (length (new ws).slots * sz E) (2 ^ 63) (subst (λ k. k * sz E < 2 ^ 63) (sym long) small) $ fjoin ! $
        rewrite ! 0 (λ (p : Ptr). ‵ (cells_own (R E) p (new ws).slots)) (sym e) refl $ move ! (1 ∷ 0 ∷ []) $ fjoin ! $ move ! (1 ∷ 0 ∷ []) $ fjoin ! $
        fpack ! (List Val) (λ us. fsep (cell_at full_share (Cr E).mir us rb ro) ((Cr E).own_val (new ws) us)) vs $ done !

  exits : (v : Val) (r : MutBor (List (el_x E))) → Gives0 E d base from len r
      → ent 𝓤 (sep 𝓤 (sem 𝓛 ((MutSlice (named 0) κ (R E)).own_val r (v ∷ []))) (sep 𝓤 (A.lft κ q) (sem 𝓛 (follows (Cr E) (Array (R E) 0) γ r.ghost_name new)))) (Post v)
  exits v r e =
      qed 𝓛 (‵ ((MutSlice (named 0) κ (R E)).own_val r (v ∷ [])) ∷ ‵ (flft κ q) ∷ ‵ (follows (Cr E) (Array (R E) 0) γ r.ghost_name new) ∷ []) ∵
      suffices ! _ (ends_at 𝓛 (ended E) (stayed E) (spec E 𝓛) bound v r (tt, (tt, (tt, (tt, tt)))) (tt, (tt, (tt, (tt, tt))))) $
      nothing ! $ nothing ! $ fjoin ! $ nothing ! $ fjoin ! $ nothing ! $ fjoin ! $ nothing ! $ fjoin ! $ join ! $ nothing ! $ move ! (2 ∷ 0 ∷ []) $ join ! $ join ! $ frame ! $ says ! e $ done !

  abbrev Had : List (Item 𝓤)
  Had = ‵ (fobs γ ((Cr E).coded.code d)) ∷ ‵ (fbor κ (Borrowed (mem (Cr E)) rb ro γ)) ∷ ‵ (flft κ q) ∷ []

  walk : Asks E d base from len → from < 2 ^ 64 → len < 2 ^ 64 → ent 𝓤 (⋆ 𝓛 Had) (WpFn 𝓤 H C Λ (function E) (vptr rb ro ∷ word base.ptr ∷ vint w64 from ∷ vint w64 len ∷ []) Post)
  walk asked fits_from fits_len =
      let xs = asked.1.1.0 in let filled = asked.1.1.1 in let within = asked.1.0 in
      let long : length xs ≡ len = omega (arith, ap length filled, length-map xs Some, length-take len (drop_l from d.slots), length-drop from d.slots) in
      let code = (Cr E).coded.code d in
      qed 𝓛 Had ∵ enter ! C Λ (function E) (vptr rb ro ∷ word base.ptr ∷ vint w64 from ∷ vint w64 len ∷ []) _ $ alloc_all ! (λ l. pass_all ! refl ((tt, tt), (word-Good [] base.ptr, ((tt, record { fits = fits_from }), ((tt, record { fits = fits_len }), tt)))) $
      let En : Env 𝓤 H = env (function E).locals l in
      opens ! tt (Cr E) {h = d} rb ro (λ vs. move ! (1 ∷ []) $ fsplit ! $ move ! (1 ∷ []) $
      in_a_block ! d.at (λ p. cells_own (R E) p d.slots) (id⊢ 𝓤 (never 𝓤)) (λ b o e. fsplit ! $ flt_l ! (λ small.
      let s = sz E in
      let far : from * s < 2 ^ 64 = omega (arith, times_below from (length d.slots) s (2 ^ 63) (omega arith) small) in
      take_at ! 2 $ rewrite ! 0 (λ (p : Ptr). ‵ (fat full_share (layout (Bs E)) (l 2) 0 (word p))) (asked.0 ∙ e) refl $ give_at ! 2 $ first ! $ blocks ! $
      sets ! (is ! (bin ! (get ! refl) (size_word !) (record { fits = subst (λ (k : ℕ). k < 2 ^ 64) (sym (uncapped from s far)) far })) (ap (vint w64) (uncapped from s far))) refl (tt, record { fits = far }) $
      sets ! (bin ! (get_in ! (fld ! refl (stop !)) (sub ! 0 refl (whole !))) (get ! refl) tt) refl (tt, tt) $
      let at = from * s + o in let way = back vs b o xs e within small long in
      let roomy : length xs < 2 ^ 64 = omega arith in let fitting = times_below (length xs) (length d.slots) s (2 ^ 63) (omega arith) small in
      use1 𝓛 (‵ (slots (R E) b at (take len (drop_l from d.slots))) ⊛ ‵ (Around E 𝓛 b o d.slots from len)) (run_out E 𝓛 b o d.slots from len within) $ split ! $
      rewrite ! 0 (λ (cs : List (Cell E)). ‵ (slots (R E) b at cs)) filled refl $ use1 𝓛 (‵ (cells (mem (R E)) xs b at)) (to_cells E 𝓛 b xs at) $
      sets_last ! (agg ! (and_then ! (get ! refl) (and_then ! (get ! refl) (no_more !)))) refl (tt, (tt, (record { fits = fits_len }, tt))) $
      exec ! C Λ En (after 1 (function E).body) (at_ret En Post) $ sets ! (of_opd ! (get ! refl)) refl (tt, (tt, (record { fits = fits_len }, tt))) $
      move ! (1 ∷ 2 ∷ 3 ∷ []) $ fjoin3 ! $ move ! (2 ∷ 3 ∷ 4 ∷ 1 ∷ 0 ∷ []) $ group ! 5 $
      use1 𝓛 (later (some (λ (δ : GName). raw (Elements 𝓛 (Cr E) (R E) new (named 0) κ q rb ro b at γ xs (roomy, fitting) (sem 𝓛 (Rest vs b o xs)) way δ))))
      (lends_Elements 𝓛 (Cr E) (R E) new (named 0) κ q rb ro b at γ xs (roomy, fitting) (sem 𝓛 (Rest vs b o xs)) way code code) $ await ! tt $ pick ! (λ δ.
      let r : MutBor (List (el_x E)) = record { ref_ptr = (b, at); ghost_name = δ; now = xs } in
      returns ! (look_at ! 0 refl) $ free_all ! refl $ keep ! (0 ∷ []) $
      by ! (subst (λ (k : ℕ). ent 𝓤 (Elements 𝓛 (Cr E) (R E) new (named 0) κ q rb ro b at γ xs (roomy, fitting) (sem 𝓛 (Rest vs b o xs)) way δ) (Post (slice_val (b, at) k))) long
      (exits (slice_val (b, at) (length xs)) r filled)))))))

  entry : Asks E d base from len → ent 𝓤 (on_entry 𝓛 (ended E).signature (κ, tt) (q, tt) (self, (base, (from, (len, tt)))) (us0, (us1, (us2, (us3, tt))))) (WpFn 𝓤 H C Λ (function E) (us0 ++ (us1 ++ (us2 ++ (us3 ++ [])))) Post)
  entry asked =
      qed 𝓛 ((‵ (flft κ q) ⊛ ‵ ftrue) ∷ ‵ (owns (MutRef (named 0) κ (Cr E) ∷ Bs E ∷ usize ∷ usize ∷ []) (self, (base, (from, (len, tt)))) (us0, (us1, (us2, (us3, tt))))) ∷ []) ∵
      split ! $ move ! (2 ∷ []) $
      fsplit ! $
      fsplit3 ! $ feq_l ! (λ e0.
      move ! (2 ∷ []) $
      fsplit ! $
      word_had ! base.ptr us1 (λ e1.
      fsplit ! $
      fsplit ! $ feq_l ! (λ e2. flt_l ! (λ fits_from.
      fsplit ! $
      fsplit ! $ feq_l ! (λ e3. flt_l ! (λ fits_len.
      keep ! (1 ∷ 2 ∷ 3 ∷ []) $
      by ! (subst (λ (ws : List Val × List Val × List Val × List Val). ent 𝓤 (⋆ 𝓛 Had) (WpFn 𝓤 H C Λ (function E) (ws.0 ++ (ws.1 ++ (ws.2 ++ (ws.3 ++ [])))) Post)) (λ j. (sym e0 j, sym e1 j, sym e2 j, sym e3 j)) (walk asked fits_from fits_len))))))))

fulfils : (E : El) {M : Type 1} {𝓤 : Ura M} (𝓛 : Logic 𝓤) (𝓣 : Tables 𝓤 𝓛.H)
    → Meets 𝓛 (ended E).signature (WpFn 𝓤 𝓛.H 𝓣.C 𝓣.Λ (function E)) (closing 𝓛 (ended E) (spec E 𝓛))
fulfils E {𝓤 = 𝓤} 𝓛 𝓣 =
    walk_Meets 𝓛 (ended E) (stayed E) (Goes-spent_ref 𝓛 1 (0 ∷ []) tt (plain (λ _. Cr E)), (Goes-dropped 𝓛 1 (plain (λ _. Bs E)) no (λ κs x f. refl), (Goes-dropped 𝓛 1 (plain (λ _. usize)) no (λ κs x f. refl), (Goes-dropped 𝓛 1 (plain (λ _. usize)) no (λ κs x f. refl), tt)))) (spec E 𝓛) (WpFn 𝓤 𝓛.H 𝓣.C 𝓣.Λ (function E)) (WpFn-mono 𝓤 𝓛.H 𝓛.laws 𝓣 (function E))
    (λ z. needs 𝓤 (Asks E z.0.3.0.now z.0.3.1.0 z.0.3.1.1.0 z.0.3.1.1.1.0) _ (entry E 𝓛 𝓣.C 𝓣.Λ z.0.0.0 z.0.1.0 z.0.3.0.ref_ptr.0 z.0.3.0.ref_ptr.1 z.0.3.0.ghost_name z.0.3.0.now z.0.3.1.0 z.0.3.1.1.0 z.0.3.1.1.1.0 z.0.4.0 z.0.4.1.0 z.0.4.1.1.0 z.0.4.1.1.1.0))

pub slice_mut_spec : {M : Type 1} → stated.statement M
unfolding tables_of
slice_mut_spec 𝓤 𝓛 𝓜 𝓡 wired X LX y =
    let E : El = record { row = X; laws = LX } in
    let 𝓣 : Tables 𝓤 𝓛.H = tables_of 𝓤 𝓛.H 𝓜 (tables 𝓤 𝓛.H 𝓜 𝓡 𝓡.env) in
    let k = #self (args E) in
    spared 𝓛 (ended E).signature (𝓡.run (𝓡.env k)) (run_framed 𝓤 𝓛.H 𝓜 𝓡 (𝓡.env k)) 1 (X.lives, tt) (closing 𝓛 (ended E) (spec E 𝓛))
    (entered 𝓤 𝓛.H (triple_of 𝓛 (ended E).signature (closing 𝓛 (ended E) (spec E 𝓛))) 𝓣.C 𝓣.Λ k (function E) (code.unfolded 𝓤 𝓛.H 𝓜 𝓡 wired (X, tt)) (fulfils E 𝓛 𝓣))
    ((y.0.0, y.0.1, tt, y.0.3, y.0.4), y.1)
