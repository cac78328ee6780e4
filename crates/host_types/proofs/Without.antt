-- A list of indices or frames without one of them, and the groups that are left then.
use Rattle.std.proofs.Common.{◌≡◌, ◌≢◌, ◌∙◌, ⊎_elim, ℕ, suc, ◌+◌, ◌<◌, ◌==◌, nat_lt, not, Bool, true, false, if◌then◌else◌, List, [], ◌∷◌, length, sum_by, refl, sym, ap, arith}
use Rattle.std.proofs.lemmas.List.Sums.{sum_by-cons}
use Rattle.std.proofs.lemmas.Bool.Decides.{nat_tests, eqb_tells}
use Rattle.host_types.specs.Sharing.{without}

abbrev pub one_when : Bool → ℕ
one_when b = if b then 1 else 0

-- how often an index, or a frame, is listed
abbrev pub times : ℕ → List ℕ → ℕ
times i page_indices = sum_by (λ j. one_when (j == i)) page_indices

pub not_equal : (i j : ℕ) → j ≢ i → (j == i) ≡ false
not_equal i j ne = grind (arith, nat_tests)

-- one less for each time that it was listed
pub without-length : (i : ℕ) (g : List ℕ) → length (without i g) + times i g ≡ length g
without-length i [] = refl
without-length i (j ∷ g) =
    let split = sum_by-cons (λ (x : ℕ). one_when (x == i)) j g in
    by_test (j == i) refl (without-length i g) split
  where
    by_test : (b : Bool) → (j == i) ≡ b → length (without i g) + times i g ≡ length g → times i (j ∷ g) ≡ one_when (j == i) + times i g
        → length (if not b then j ∷ without i g else without i g) + times i (j ∷ g) ≡ suc (length g)
    by_test true e rest split = let one = ap one_when e in omega (arith, rest, split, one)
    by_test false e rest split = let one = ap one_when e in omega (arith, rest, split, one)

pub times-gone : (i : ℕ) (g : List ℕ) → times i (without i g) ≡ 0
times-gone i [] = refl
times-gone i (j ∷ g) = by_test (j == i) refl (times-gone i g)
  where
    by_test : (b : Bool) → (j == i) ≡ b → times i (without i g) ≡ 0 → times i (if not b then j ∷ without i g else without i g) ≡ 0
    by_test true e rest = rest
    by_test false e rest =
        let split = sum_by-cons (λ (x : ℕ). one_when (x == i)) j (without i g) in
        let one = ap one_when e in
        omega (arith, rest, split, one)

pub times-kept : (i k : ℕ) (g : List ℕ) → k ≢ i → times k (without i g) ≡ times k g
times-kept i k [] ne = refl
times-kept i k (j ∷ g) ne =
    let split = sum_by-cons (λ (x : ℕ). one_when (x == k)) j g in
    ⊎_elim
    (λ same. ap (λ b. times k (if not b then j ∷ without i g else without i g)) same.0
    ∙ let rest = times-kept i k g ne in let one = ap one_when (not_equal k j (λ e. ne (sym e ∙ same.1))) in omega (arith, rest, split, one))
    (λ other. ap (λ b. times k (if not b then j ∷ without i g else without i g)) other.0
    ∙ let rest = times-kept i k g ne in let more = sum_by-cons (λ (x : ℕ). one_when (x == k)) j (without i g) in omega (arith, rest, split, more))
    (eqb_tells j i)

-- a group in front of others, unless it is empty
abbrev pub kept_group : List ℕ → List (List ℕ) → List (List ℕ)
kept_group group rest = if nat_lt 0 (length group) then group ∷ rest else rest

pub some_kept : (group : List ℕ) (rest : List (List ℕ)) → 0 < length group → kept_group group rest ≡ group ∷ rest
some_kept group rest h =
    let some : nat_lt 0 (length group) ≡ true = grind (arith, nat_tests) in
    ap (λ (b : Bool). if b then group ∷ rest else rest) some
