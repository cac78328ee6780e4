-- The name that ends at the first zero.
use Rattle.std.proofs.Common.{◌≡◌, ◌≢◌, ℕ, ◌+◌, ◌<◌, List, length, slice_index, arith}
use Rattle.object_file.specs.Names.{IsNameAt}
use Rattle.object_file.specs.Numbers.{IsPartOfFile}

pub name_found : (names name : List ℕ) (at size : ℕ) → length name ≡ size → IsPartOfFile names at name → at + size < length names → size < 256
    → slice_index names (at + size) ≡ 0 → ((k : ℕ) → k < size → slice_index names (at + k) ≢ 0) → IsNameAt names at name
name_found names name at size same stands within short ended none_zero = record {
  stands = stands;
  within = omega (arith, same);
  short = omega (arith, same);
  none_zero = λ k h. none_zero k (omega (arith, same));
  ended = rw same ended;
}
