-- Calls that make many runs on two systems that agree on a tenant.
use Rattle.std.proofs.Common.{◌≡◌, ◌⊎◌, inl, inr, ℕ, zero, suc, ◌<◌, ◌≤◌, List, Option, Some, None, refl, ap, sym, ◌∙◌, subst, arith}
use Rattle.std.proofs.lemmas.Bool.{cases_lt, cases_order}
use Rattle.std.specs.Prelude.{slice_index_or}
use Rattle.host_core.specs.declared.reply.Reply.{Reply}
use Rattle.host_core.specs.declared.reply.Reply.TheVariants.{Ended}
use Rattle.host_core.specs.World.{System}
use Rattle.host_core.specs.Happens.{RunHappens}
use Rattle.host_core.specs.Many.{RunsFirst, RunsMany, EndedBefore, context_at}
use Rattle.isolation.specs.Tenants.{AgreeOn, seen_by}
use Rattle.isolation.proofs.Alike.{Alike}
use Rattle.library_calls.specs.Several.{StoppedForWant, ReturnAlike, ManyRunsAreIsolated}
use Rattle.library_calls.proofs.Together.{runs_together}

-- the number that a run returned
abbrev returned : Reply → ℕ
returned (Ended ret steps) = ret
returned reply = 0

-- two runs that ended returned the same
end_alike : (t k : ℕ) (context : List ℕ) (x y x' y' : System) (ret other steps further : ℕ) → AgreeOn t x y
    → RunHappens x t k context (Ended ret steps) x' → RunHappens y t k context (Ended other further) y' → (ret ≡ other) × AgreeOn t x' y'
end_alike t k context x y x' y' ret other steps further agree one two =
    cases (runs_together t k context x y x' y' (Ended ret steps) (Ended other further) agree one two)
  where
    cases : Alike t (Ended ret steps) (Ended other further) x' y' → (ret ≡ other) × AgreeOn t x' y'
    cases (inl scarce) = absurd (cc (scarce))
    cases (inr (inl scarce)) = absurd (cc (scarce))
    cases (inr (inr same)) = (ap returned same.0, same.1)

-- the first n numbers are the same
abbrev FirstAlike : ℕ → List ℕ → List ℕ → Type 0
FirstAlike n rets others = (i : ℕ) → i < n → slice_index_or rets i 0 ≡ slice_index_or others i 0

one_more_alike : (n : ℕ) (rets others : List ℕ) → FirstAlike n rets others → slice_index_or rets n 0 ≡ slice_index_or others n 0 → FirstAlike (suc n) rets others
one_more_alike n rets others before last i few = cases (cases_lt i n)
  where
    cases : (i < n) ⊎ (n ≤ i) → slice_index_or rets i 0 ≡ slice_index_or others i 0
    cases (inl less) = before i less
    cases (inr more) = subst (λ j. slice_index_or rets j 0 ≡ slice_index_or others j 0) (omega (arith, few, more)) last

-- as many runs that ended
first_alike : (t k : ℕ) (contexts : List ℕ) (size : ℕ) (rets others : List ℕ) (n : ℕ) (x y x' y' : System) → AgreeOn t x y
    → RunsFirst t k contexts size rets n x x' → RunsFirst t k contexts size others n y y' → FirstAlike n rets others × AgreeOn t x' y'
first_alike t k contexts size rets others zero x y x' y' agree h l =
    ((λ i few. absurd (omega (arith, few))), ap (seen_by t) h ∙ agree ∙ sym (ap (seen_by t) l))
first_alike t k contexts size rets others (suc n) x y x' y' agree (between, first, (steps, run)) (also, second, (further, last)) =
    let before = first_alike t k contexts size rets others n x y between also agree first second in
    let both = end_alike t k (context_at contexts size n) between also x' y' (slice_index_or rets n 0) (slice_index_or others n 0) steps further before.1 run last in
    (one_more_alike n rets others before.0 both.0, both.1)

-- the first of more runs that ended, and the one after them
abbrev GoesOnAfter : ℕ → ℕ → List ℕ → ℕ → List ℕ → ℕ → System → Type 0
GoesOnAfter t k contexts size rets n x =
    (z : System) × ((next : System) × ((ret steps : ℕ) × (RunsFirst t k contexts size rets n x z × RunHappens z t k (context_at contexts size n) (Ended ret steps) next)))

goes_on_after : (t k : ℕ) (contexts : List ℕ) (size : ℕ) (rets : List ℕ) (n m : ℕ) (x x' : System) → n < m
    → RunsFirst t k contexts size rets m x x' → GoesOnAfter t k contexts size rets n x
goes_on_after t k contexts size rets n zero x x' few h = absurd (omega (arith, few))
goes_on_after t k contexts size rets n (suc m) x x' few (between, first, (steps, run)) = elim (cases_lt n m) [
  | inl less ↦ goes_on_after t k contexts size rets n m x between less first
  | inr more ↦ subst (λ j. GoesOnAfter t k contexts size rets j x) (omega (arith, few, more)) (between, (x', (slice_index_or rets m 0, steps, (first, run))))
]

at_most : (count n : ℕ) (stopped : Option Reply) → EndedBefore count n stopped → n ≤ count
at_most count n None made = omega (arith, made)
at_most count n (Some reply) made = omega (arith, made)

-- where fewer runs ended, frames or memory were short
fewer_for_want : (t k : ℕ) (contexts : List ℕ) (size count : ℕ) (x y x' y' : System) (rets others : List ℕ) (n m : ℕ) (stopped : Option Reply)
    → AgreeOn t x y → EndedBefore count n stopped → m ≤ count → n < m
    → RunsMany t k contexts size rets n stopped x x' → RunsFirst t k contexts size others m y y' → FirstAlike n rets others × StoppedForWant stopped
fewer_for_want t k contexts size count x y x' y' rets others n m None agree made most few h l = absurd (omega (arith, made, most, few))
fewer_for_want t k contexts size count x y x' y' rets others n m (Some reply) agree made most few (between, first, (stops, run)) l =
    let (z, (next, (ret, steps, (second, ends)))) = goes_on_after t k contexts size others n m y y' few l in
    let before = first_alike t k contexts size rets others n x y between z agree first second in (
      before.0,
      elim (runs_together t k (context_at contexts size n) between z x' next reply (Ended ret steps) before.1 run ends) [
        | inl scarce ↦ scarce
        | inr (inl scarce) ↦ absurd (cc (scarce))
        | inr (inr same) ↦ absurd (stops ret steps same.0)
      ],
    )

-- where as many ended, both calls were stopped alike
as_many_alike : (t k : ℕ) (contexts : List ℕ) (size count : ℕ) (x y x' y' : System) (rets others : List ℕ) (n : ℕ) (stopped halted : Option Reply)
    → AgreeOn t x y → EndedBefore count n stopped → EndedBefore count n halted
    → RunsMany t k contexts size rets n stopped x x' → RunsMany t k contexts size others n halted y y'
    → FirstAlike n rets others × (StoppedForWant stopped ⊎ StoppedForWant halted ⊎ ((stopped ≡ halted) × AgreeOn t x' y'))
as_many_alike t k contexts size count x y x' y' rets others n None None agree made also (between, first, h) (last, second, l) =
    let before = first_alike t k contexts size rets others n x y between last agree first second in
    (before.0, inr (inr (refl, ap (seen_by t) h ∙ before.1 ∙ sym (ap (seen_by t) l))))
as_many_alike t k contexts size count x y x' y' rets others n None (Some reply) agree made also h l = absurd (omega (arith, made, also))
as_many_alike t k contexts size count x y x' y' rets others n (Some reply) None agree made also h l = absurd (omega (arith, made, also))
as_many_alike t k contexts size count x y x' y' rets others n (Some reply) (Some other) agree made also (between, first, (stops, run)) (last, second, (ends, more)) =
    let before = first_alike t k contexts size rets others n x y between last agree first second in (
      before.0,
      elim (runs_together t k (context_at contexts size n) between last x' y' reply other before.1 run more) [
        | inl scarce ↦ inl scarce
        | inr (inl scarce) ↦ inr (inl scarce)
        | inr (inr same) ↦ inr (inr (ap Some same.0, same.1))
      ],
    )

-- what is said of both calls
abbrev GoTogether : ℕ → List ℕ → List ℕ → ℕ → ℕ → Option Reply → Option Reply → System → System → Type 0
GoTogether t rets others n m stopped halted x' y' =
    ReturnAlike n m rets others
    × (((n ≤ m) × StoppedForWant stopped) ⊎ ((m ≤ n) × StoppedForWant halted) ⊎ ((n ≡ m) × (stopped ≡ halted) × AgreeOn t x' y'))

as_many : (t : ℕ) (rets others : List ℕ) (n m : ℕ) (stopped halted : Option Reply) (x' y' : System) → n ≡ m
    → FirstAlike n rets others × (StoppedForWant stopped ⊎ StoppedForWant halted ⊎ ((stopped ≡ halted) × AgreeOn t x' y'))
    → GoTogether t rets others n m stopped halted x' y'
as_many t rets others n m stopped halted x' y' same (first, inl scarce) = ((λ i few less. first i few), inl (omega (arith, same), scarce))
as_many t rets others n m stopped halted x' y' same (first, inr (inl scarce)) = ((λ i few less. first i few), inr (inl (omega (arith, same), scarce)))
as_many t rets others n m stopped halted x' y' same (first, inr (inr alike)) = ((λ i few less. first i few), inr (inr (same, alike.0, alike.1)))

pub many_runs_are_isolated : ManyRunsAreIsolated
many_runs_are_isolated t k contexts size count x y x' y' rets others n m stopped halted agree made also h l = cases (cases_order n m)
  where
    cases : (n ≡ m) ⊎ ((n < m) ⊎ (m < n)) → GoTogether t rets others n m stopped halted x' y'
    cases (inl same) =
        as_many t rets others n m stopped halted x' y' same
        (as_many_alike t k contexts size count x y x' y' rets others n stopped halted agree made (subst (λ i. EndedBefore count i halted) (sym same) also)
        h (subst (λ i. RunsMany t k contexts size others i halted y y') (sym same) l))
    cases (inr (inl fewer)) =
        let before = fewer_for_want t k contexts size count x y x' l.0 rets others n m stopped agree made (at_most count m halted also) fewer h l.1 in
        ((λ i few less. before.0 i few), inl (omega (arith, fewer), before.1))
    cases (inr (inr more)) =
        let before = fewer_for_want t k contexts size count y x y' h.0 others rets m n halted (sym agree) also (at_most count n stopped made) more l h.1 in
        ((λ i few less. sym (before.0 i less)), inr (inl (omega (arith, more), before.1)))
