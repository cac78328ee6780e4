-- A search may leave out the first elements where none of them is what is looked for.
use Rattle.std.proofs.Common.{◌≡◌, ◌&&◌, ◌==◌, ℕ, zero, suc, Bool, false, not, List, [], ◌∷◌, find, filter, drop, length, refl, ap, arith}
use Rattle.std.proofs.lemmas.Bool.Decides.{nat_tests}
use Rattle.unstable_tree.specs.declared.tree.Waiter.{Waiter}
use Rattle.unstable_tree.specs.WaitingList.{AreOthers, AreElsewhere}

-- none has the fingerprint, so none is a match
pub skipped : (fingerprint : ℕ) (test : Waiter → Bool) (n : ℕ) (waiters : List Waiter) → AreOthers fingerprint waiters 0 n
    → find (λ w. w.fingerprint == fingerprint && test w) (drop n waiters) ≡ find (λ w. w.fingerprint == fingerprint && test w) waiters
skipped fingerprint test zero waiters others = refl
skipped fingerprint test (suc n) [] others = refl
skipped fingerprint test (suc n) (w ∷ rest) others =
    let other : (w.fingerprint == fingerprint) ≡ false = let apart = others 0 (omega arith) (omega arith) in grind (arith, nat_tests) in
    rw other (skipped fingerprint test n rest (λ i low high. others (suc i) (omega arith) (omega (arith, high))))

-- the page of the index isn't there, so each one stays
pub all_kept : (page_index : ℕ) (waiters : List Waiter) → AreElsewhere page_index waiters 0 (length waiters) → filter (λ w. not (w.page_index == page_index)) waiters ≡ waiters
all_kept page_index [] others = refl
all_kept page_index (w ∷ rest) others =
    let other : (w.page_index == page_index) ≡ false = let apart = others 0 (omega arith) (omega arith) in grind (arith, nat_tests) in
    rw other (ap (λ (more : List Waiter). w ∷ more) (all_kept page_index rest (λ i low high. others (suc i) (omega arith) (omega (arith, high)))))
