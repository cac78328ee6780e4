-- What keeps pinned pages as they are: each change of a page either leaves those that are pinned alone, or leaves them Volatile.
use Rattle.std.proofs.Common.{◌≡◌, ◌∙◌, ⊎_elim, ℕ, zero, suc, ◌<◌, if◌then◌else◌, Bool, true, false, List, [], ◌∷◌, length, slice_index_or, slice_set, Option, Some, None, option_map, IsSomeAnd, refl, sym, ap, subst, arith}
use Rattle.std.proofs.lemmas.List.{get_or-set_same, get_or-set_other, length-set}
use Rattle.std.proofs.lemmas.Bool.Decides.{eqb_tells}
use Rattle.host_types.specs.declared.status.Status.TheVariants.{Volatile}
use Rattle.host_types.specs.Sharing.{Sharing, PageState, state_at, is_shared, is_shared_page, broken, broken_page}
use Rattle.host_types.specs.Pins.{pinned, broken_for_run, PinsOwn, PinsFit}
use Rattle.host_types.proofs.Unmerging.{broken-own, broken-shared, state_inside}

-- a page that is there and Volatile
abbrev IsVolatile : Option PageState → Type 0
IsVolatile page = IsSomeAnd page (λ (state : PageState). state.status ≡ Volatile)

volatile-own : (page : Option PageState) → IsVolatile page → is_shared_page page ≡ false
volatile-own None h = absurd h
volatile-own (Some state) h = ap is_shared h

-- where the list reaches, both readings of a pin are one
pinned-within : (pins : List Bool) (i : ℕ) → i < length pins → slice_index_or pins i true ≡ slice_index_or pins i false
pinned-within [] i h = absurd (omega arith)
pinned-within (b ∷ pins) zero h = refl
pinned-within (b ∷ pins) (suc i) h = pinned-within pins i (omega arith)

shared-there : (pages : List (Option PageState)) (i : ℕ) → is_shared_page (slice_index_or pages i None) ≡ true → i < length pages
shared-there [] i h = absurd cc
shared-there (page ∷ pages) zero h = omega arith
shared-there (page ∷ pages) (suc i) h = let rest = shared-there pages i h in omega (arith, rest)

-- a page that lies on a frame that isn't its own isn't pinned
pub fit-own : (s : Sharing) → PinsFit s.pages s.pins → PinsOwn s
fit-own s fit i shared =
    let inside = shared-there s.pages i shared in
    let as_many = fit.as_many in
    pinned-within s.pins i (omega (arith, inside, as_many)) ∙ by_test (slice_index_or s.pins i false) refl
  where
    by_test : (b : Bool) → slice_index_or s.pins i false ≡ b → slice_index_or s.pins i false ≡ false
    by_test false e = e
    by_test true e = absurd (let own = volatile-own (state_at s i) (fit.volatile i e) in cc)

-- ---- changes of a page

module _ (pages : List (Option PageState)) (pins : List Bool) (fit : PinsFit pages pins) where
  -- a page that isn't pinned may become anything
  pub fit-set : (i : ℕ) (page : Option PageState) → slice_index_or pins i false ≡ false → PinsFit (slice_set pages i page) pins
  fit-set i page free = record {
    as_many = fit.as_many ∙ sym (length-set pages i page);
    volatile = λ j is. ⊎_elim
        (λ same. absurd (let here = ap (λ (k : ℕ). slice_index_or pins k false) same.1 in cc))
        (λ other. subst IsVolatile (sym (get_or-set_other pages i j page None other.1)) (fit.volatile j is))
        (eqb_tells j i);
  }

  -- a page that is Volatile afterwards fits, pinned or not
  pub fit-volatile : (i : ℕ) (page : Option PageState) → ((state : PageState) → slice_index_or pages i None ≡ Some state → IsVolatile page) → PinsFit (slice_set pages i page) pins
  fit-volatile i page becomes = record {
    as_many = fit.as_many ∙ sym (length-set pages i page);
    volatile = λ j is. ⊎_elim
        (λ same. subst (λ (k : ℕ). IsVolatile (slice_index_or (slice_set pages i page) k None)) (sym same.1) (here (subst (λ (k : ℕ). slice_index_or pins k false ≡ true) same.1 is)))
        (λ other. subst IsVolatile (sym (get_or-set_other pages i j page None other.1)) (fit.volatile j is))
        (eqb_tells j i);
  }
    where
      there : (found : Option PageState) → slice_index_or pages i None ≡ found → IsVolatile found → IsVolatile (slice_index_or (slice_set pages i page) i None)
      there None e v = absurd v
      there (Some state) e v = subst IsVolatile (sym (get_or-set_same pages i page None (state_inside pages i state e))) (becomes state e)

      here : slice_index_or pins i false ≡ true → IsVolatile (slice_index_or (slice_set pages i page) i None)
      here is = there (slice_index_or pages i None) refl (fit.volatile i is)

  -- a page that is Volatile may be pinned
  pub fit-pin : (i : ℕ) → IsVolatile (slice_index_or pages i None) → PinsFit pages (slice_set pins i true)
  fit-pin i v = record {
    as_many = length-set pins i true ∙ fit.as_many;
    volatile = λ j is. ⊎_elim
        (λ same. subst (λ (k : ℕ). IsVolatile (slice_index_or pages k None)) (sym same.1) v)
        (λ other. fit.volatile j (sym (get_or-set_other pins i j true false other.1) ∙ is))
        (eqb_tells j i);
  }

  -- a page that isn't there any more isn't pinned
  pub fit-gone : (i : ℕ) (page : Option PageState) → PinsFit (slice_set pages i page) (slice_set pins i false)
  fit-gone i page = record {
    as_many = length-set pins i false ∙ fit.as_many ∙ sym (length-set pages i page);
    volatile = λ j is. ⊎_elim
        (λ same. absurd (let none = unset pins i in let here = ap (λ (k : ℕ). slice_index_or (slice_set pins i false) k false) same.1 in cc))
        (λ other. subst IsVolatile (sym (get_or-set_other pages i j page None other.1)) (fit.volatile j (sym (get_or-set_other pins i j false false other.1) ∙ is)))
        (eqb_tells j i);
  }
    where
      unset : (pins : List Bool) (i : ℕ) → slice_index_or (slice_set pins i false) i false ≡ false
      unset [] i = refl
      unset (b ∷ pins) zero = refl
      unset (b ∷ pins) (suc i) = unset pins i

-- ---- breaks

broken-volatile : (page : Option PageState) (state : PageState) → page ≡ Some state → IsVolatile (option_map broken_page page)
broken-volatile page state e = rw e refl

-- a page that is taken out, by whomever
pub fit-broken : (s : Sharing) (i : ℕ) → PinsFit s.pages s.pins → PinsFit (broken s i).pages (broken s i).pins
fit-broken s i fit = by_test (is_shared_page (state_at s i)) refl
  where
    by_test : (b : Bool) → is_shared_page (state_at s i) ≡ b → PinsFit (broken s i).pages (broken s i).pins
    by_test true shared = rw (broken-shared s i shared) (fit-volatile s.pages s.pins fit i (option_map broken_page (state_at s i)) (broken-volatile (state_at s i)))
    by_test false own = rw (broken-own s i own) fit

-- and by an open run, which pins it
pub fit-by : (running : Bool) (s : Sharing) (i : ℕ) → PinsFit s.pages s.pins → PinsFit (broken_for_run running s i).pages (broken_for_run running s i).pins
unfolding broken_for_run
fit-by false s i fit = fit-broken s i fit
fit-by true s i fit = by_test (is_shared_page (state_at s i)) refl
  where
    there : (found : Option PageState) → state_at s i ≡ found → is_shared_page found ≡ true → IsVolatile (slice_index_or (slice_set s.pages i (option_map broken_page (state_at s i))) i None)
    there None e shared = absurd cc
    there (Some state) e shared =
        subst IsVolatile (sym (get_or-set_same s.pages i (option_map broken_page (state_at s i)) None (state_inside s.pages i state e))) (broken-volatile (state_at s i) state e)

    volatile : is_shared_page (state_at s i) ≡ true → IsVolatile (state_at (broken s i) i)
    volatile shared = rw (broken-shared s i shared) (there (state_at s i) refl shared)

    by_test : (b : Bool) → is_shared_page (state_at s i) ≡ b → PinsFit (if b then pinned (broken s i) i else broken s i).pages (if b then pinned (broken s i) i else broken s i).pins
    by_test true shared = fit-pin (broken s i).pages (broken s i).pins (fit-broken s i fit) i (volatile shared)
    by_test false own = fit-broken s i fit
