-- Where the elements of a map stand.
use Rattle.std.proofs.Common.{ℕ, suc, ◌+◌, ◌*◌, ◌<◌, ◌≤◌, arith}
use Rattle.std.proofs.Math.Nat.{mul-le-mul_right}
use Rattle.host_types.specs.declared.shape.Shape.{Shape}
use Rattle.host_types.specs.Helpers.{element_at}
use Rattle.host_types.specs.Shapes.{stride_of, byte_len_of}

-- a value has at most a stride
pub value-in-stride : (shape : Shape) → shape.value_size ≤ stride_of shape
value-in-stride shape = omega arith

-- an element that is there lies in its map
pub element-in-map : (shape : Shape) (key : ℕ) → key < shape.entries → element_at shape key + shape.value_size ≤ byte_len_of shape
element-in-map shape key there =
    let whole : suc key * stride_of shape ≤ shape.entries * stride_of shape = mul-le-mul_right (stride_of shape) there in
    let value = value-in-stride shape in
    omega (arith, whole, value)

pub ruleset elements = (element-in-map)
