-- Rows of cells that each hold a value, and the row that is being filled from its first cell on.
use Rattle.std.proofs.Common.{◌≡◌, ℕ, zero, suc, ◌+◌, ◌-◌, ◌<◌, ◌≤◌, List, [], ◌∷◌, ◌++◌, map, length, take, drop, replicate, slice_set, slice_index_or, Option, Some, None, refl, sym, ap, ◌∙◌, arith}
use Rattle.std.specs.List.{refill, length_refill}
use Rattle.std.proofs.lemmas.List.{take_all, take_at, drop_all, length-map, length-replicate, append-nil}
use Rattle.frame_arena.specs.Offsets.{somes}
use Rattle.frame_arena.specs.Lends.{spliced}

module _ {X : Type 0} where
  pub somes-map : (xs : List X) → somes (map Some xs) ≡ xs
  somes-map [] = refl
  somes-map (x ∷ xs) = ap (λ l. x ∷ l) (somes-map xs)

  -- cells of the same values have the same values
  pub same-values : (xs ys : List X) → map Some xs ≡ map Some ys → xs ≡ ys
  same-values xs ys e = sym (somes-map xs) ∙ ap somes e ∙ somes-map ys

  -- a row of values is a run of them
  pub whole-run : (cs : List (Option X)) (n : ℕ) → cs ≡ map Some (somes cs) → length cs ≡ n → take n (drop 0 cs) ≡ map Some (somes cs)
  whole-run cs n filled long = take_all n cs (omega (arith, long)) ∙ filled

  pub length-somes : (cs : List (Option X)) (n : ℕ) → cs ≡ map Some (somes cs) → length cs ≡ n → length (somes cs) ≡ n
  length-somes cs n filled long = sym (length-map (somes cs) Some) ∙ sym (ap length filled) ∙ long

  -- a row with all its values written over
  pub spliced-whole : (cs : List (Option X)) (n : ℕ) (ws : List X) → length cs ≡ n → spliced cs 0 n ws ≡ map Some ws
  spliced-whole cs n ws long = rw (drop_all (0 + n) cs (omega (arith, long)), append-nil) refl

  -- all the values, written over by others
  pub record IsRewritten (cs ds : List (Option X)) (n : ℕ) (ws : List X) : Type 0 where
    pub filled : ds ≡ map Some (somes ds)
    pub sized : length ds ≡ n
    pub values : somes ds ≡ refill (length (somes cs)) (somes cs) ws

  pub rewritten : (cs : List (Option X)) (n : ℕ) (ws : List X) → cs ≡ map Some (somes cs) → length cs ≡ n → IsRewritten cs (spliced cs 0 n (refill n (somes (take n cs)) ws)) n ws
  rewritten cs n ws filled long =
      let count = length-somes cs n filled long in
      let new : List X = refill n (somes cs) ws in
      let whole : spliced cs 0 n (refill n (somes (take n cs)) ws) ≡ map Some new = ap (λ l. spliced cs 0 n (refill n (somes l) ws)) (take_all n cs (omega (arith, long))) ∙ spliced-whole cs n new long in
      let wide : length new ≡ n = sym (length_refill n (somes cs) ws (sym count)) in
      rw whole (record {
        filled = sym (ap (map Some) (somes-map new));
        sized = length-map new Some ∙ wide;
        values = somes-map new ∙ ap (λ k. refill k (somes cs) ws) (sym count);
      })

  -- as many others are all written
  pub refill-same : (xs ws : List X) → length ws ≡ length xs → refill (length xs) xs ws ≡ ws
  refill-same xs ws e = take_at ws (drop (length ws) xs) (length xs) e

  -- cells of which the first n have a value, and the others up to the m-th none
  abbrev pub begun : X → ℕ → ℕ → List (Option X)
  begun x n m = map Some (replicate n x) ++ replicate (m - n) None

  -- n values, and m cells that are empty
  abbrev row : X → ℕ → ℕ → List (Option X)
  row x n m = map Some (replicate n x) ++ replicate m None

  row-empty : (x : X) (n m : ℕ) → slice_index_or (row x n (suc m)) n None ≡ None
  row-empty x zero m = refl
  row-empty x (suc n) m = row-empty x n m

  row-filled : (x : X) (n m : ℕ) → slice_set (row x n (suc m)) n (Some x) ≡ row x (suc n) m
  row-filled x zero m = refl
  row-filled x (suc n) m = ap (λ l. Some x ∷ l) (row-filled x n m)

  length-row : (x : X) (n m : ℕ) → length (row x n m) ≡ n + m
  length-row x zero m = omega (arith, length-replicate {A = Option X} m None)
  length-row x (suc n) m = omega (arith, length-row x n m)

  pub length-begun : (x : X) (n m : ℕ) → n ≤ m → length (begun x n m) ≡ m
  length-begun x n m h = omega (arith, length-row x n (m - n))

  -- the next cell is empty
  pub next-empty : (x : X) (n m : ℕ) → n < m → slice_index_or (begun x n m) n None ≡ None
  next-empty x n m h = let more : m - n ≡ suc (m - (n + 1)) = omega arith in rw more (row-empty x n (m - (n + 1)))

  -- and gets the value
  pub next-filled : (x : X) (n m : ℕ) → n < m → slice_set (begun x n m) n (Some x) ≡ begun x (n + 1) m
  next-filled x n m h =
      let more : m - n ≡ suc (m - (n + 1)) = omega arith in
      let next : suc n ≡ n + 1 = omega arith in
      ap (λ (k : ℕ). slice_set (row x n k) n (Some x)) more ∙ row-filled x n (m - (n + 1)) ∙ ap (λ (k : ℕ). row x k (m - (n + 1))) next

  -- all cells have got it
  pub all-filled : (x : X) (n : ℕ) → begun x n n ≡ map Some (replicate n x)
  all-filled x n = let none : n - n ≡ 0 = omega arith in rw (none, append-nil) refl
