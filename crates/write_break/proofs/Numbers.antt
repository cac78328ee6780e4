-- Where loads and stores lie in pages.
use Rattle.std.proofs.Common.{◌≡◌, ◌⊎◌, ℕ, ◌+◌, ◌%◌, ◌<◌, ◌≤◌, sym, subst, ⊎_elim, arith}
use Rattle.std.proofs.lemmas.Bool.Decides.{nat_tests}
use Rattle.frame_arena.specs.Pages.{IsAccessSize}

pub access_size : (size : ℕ) → IsAccessSize size → (size ≡ 1) ⊎ (size ≡ 2) ⊎ (size ≡ 4) ⊎ (size ≡ 8)
access_size size is = grind (arith, nat_tests)

pub some_size : (size : ℕ) → IsAccessSize size → 0 < size
some_size size is = grind (arith, nat_tests)

-- an aligned load or store lies in one page
pub access_in_page : (at size : ℕ) → IsAccessSize size → at % size ≡ 0 → at % 4096 + size ≤ 4096
access_in_page at size is aligned =
    let P : ℕ → Type 0 = λ n. at % n ≡ 0 → at % 4096 + n ≤ 4096 in
    ⊎_elim (λ e. subst P (sym e) (λ h. omega arith)) (λ more.
    ⊎_elim (λ e. subst P (sym e) (λ h. omega arith)) (λ more.
    ⊎_elim (λ e. subst P (sym e) (λ h. omega arith)) (λ e. subst P (sym e) (λ h. omega arith)) more) more) (access_size size is) aligned
