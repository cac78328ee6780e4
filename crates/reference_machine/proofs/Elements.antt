-- Where the value of an element lies.
use Rattle.std.proofs.Common.{ℕ, ◌+◌, ◌*◌, ◌/◌, ◌%◌, ◌<◌, ◌≤◌, arith}
use Rattle.std.proofs.Math.Nat.{mul-le-mul_left}

-- bytes that lie whole in one element lie whole in all of them
pub within_map : (at size sized stride entries : ℕ) → at / stride < entries → at % stride + size ≤ sized → sized ≤ stride → 1 ≤ sized → at + size ≤ stride * entries
within_map at size sized stride entries counted inside most least =
    let up : stride * (at / stride + 1) ≤ stride * entries = mul-le-mul_left stride (omega arith) in
    omega arith

-- an element's value lies whole in all of them
pub element_within : (key sized stride entries : ℕ) → key < entries → sized ≤ stride → stride * key + sized ≤ stride * entries
element_within key sized stride entries counted most =
    let up : stride * (key + 1) ≤ stride * entries = mul-le-mul_left stride (omega arith) in
    omega arith
