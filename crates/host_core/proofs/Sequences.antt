-- Runs on one context after the other.
use Rattle.std.proofs.Common.{◌≡◌, ◌<◌, ◌+◌, ◌*◌, ◌-◌, ◌/◌, ◌%◌, ℕ, zero, suc, List, length, slice_set, slice_index_or, sym, ap, ◌∙◌, arith, add-one, add-zero, ne_of_lt, div-add-mod', take, drop}
use Rattle.std.proofs.lemmas.List.{get_or-set_same, get_or-set_other, drop-set-lt, drop-drop}
use Rattle.std.proofs.lemmas.Nat.{mod-mul-add}
use Rattle.host_types.specs.Bytes.{part_of}
use Rattle.host_core.specs.declared.reply.Reply.TheVariants.{Ended}
use Rattle.host_core.specs.World.{System}
use Rattle.host_core.specs.Happens.{RunHappens}
use Rattle.host_core.specs.Many.{context_at, RunsFirst}

module _ (t k : ℕ) (contexts : List ℕ) (size : ℕ) where
  -- of the numbers only those of these runs count
  same_first : (rets others : List ℕ) (n : ℕ) (x x' : System) → ((i : ℕ) → i < n → slice_index_or others i 0 ≡ slice_index_or rets i 0) → RunsFirst t k contexts size rets n x x' → RunsFirst t k contexts size others n x x'
  same_first rets others zero x x' same runs = runs
  same_first rets others (suc n) x x' same (between, first, (steps, whole)) =
      let here : slice_index_or others n 0 ≡ slice_index_or rets n 0 = same n (omega arith) in
      (between, same_first rets others n x between (λ i less. same i (omega (arith, less))) first, (steps, rw here whole))

  -- one run more
  pub runs_next : (rets : List ℕ) (n ret steps : ℕ) (x between x' : System) → n < length rets → RunsFirst t k contexts size rets n x between → RunHappens between t k (context_at contexts size n) (Ended ret steps) x'
      → RunsFirst t k contexts size (slice_set rets n ret) (n + 1) x x'
  runs_next rets n ret steps x between x' there first whole =
      let here : slice_index_or (slice_set rets n ret) n 0 ≡ ret = get_or-set_same rets n ret 0 there in
      let before = same_first rets (slice_set rets n ret) n x between (λ i less. get_or-set_other rets n i ret 0 (ne_of_lt less)) first in
      rw (add-one n) (between, before, (steps, rw here whole))

-- the bytes between two ends are a part
pub between_ends : (bytes : List ℕ) (at size : ℕ) → take (at + size - at) (drop at bytes) ≡ part_of bytes at size
unfolding part_of
between_ends bytes at size = let same : at + size - at ≡ size = omega arith in ap (λ (n : ℕ). take n (drop at bytes)) same

-- so many numbers of one size aren't so many bytes that leave a rest
pub no_rest : (bytes count size : ℕ) → 0 < count → size * count ≡ bytes → bytes % count ≡ 0
no_rest bytes count size some whole = ap (λ (n : ℕ). n % count) (sym whole ∙ sym (add-zero (size * count))) ∙ mod-mul-add size count 0 some

-- what leaves no rest is made of so many numbers of one size
pub whole_parts : (bytes count : ℕ) → bytes % count ≡ 0 → bytes / count * count ≡ bytes
whole_parts bytes count none = let parts = div-add-mod' bytes count in omega (arith, parts, none)

-- a number that is written leaves those after it
pub later_kept : (written rets : List ℕ) (n ret : ℕ) → drop n written ≡ drop n rets → drop (n + 1) (slice_set written n ret) ≡ drop (n + 1) rets
later_kept written rets n ret same =
    drop-set-lt (n + 1) written n ret (omega arith) ∙ sym (drop-drop 1 n written) ∙ ap (drop 1) same ∙ drop-drop 1 n rets
