-- Kinds: what they stand for, and which of two says more (this project's own profile).
use Rattle.std.specs.Prelude.{◌≡◌, ◌⊎◌, ℕ, ◌+◌, ◌-◌, ◌*◌, ◌/◌, ◌%◌, ◌^◌, ◌<◌, ◌≤◌, ℤ, pos, negsuc, ◌+ℤ◌, ◌≤ℤ◌, int_le, min, max, Bool, nat_le, ◌==◌, ◌&&◌, if◌then◌else◌, List, length, slice_index_or, All, Option, Some, None, IsSome, IsSomeAnd, IfSome}
use Rattle.host_types.specs.declared.shape.Shape.{Shape}
use Rattle.host_types.specs.Shapes.{IsShape}
use Rattle.host_types.specs.Layout.{context_base, stack_end, map_name, map_values}
use Rattle.host_types.specs.Helpers.{element_at}
use Rattle.host_types.specs.Memory.{only_if}
use Rattle.verifier_kinds.specs.declared.kind.Align.{Align}
use Rattle.verifier_kinds.specs.declared.kind.Align.TheVariants.{One, Two, Four, Eight}
use Rattle.verifier_kinds.specs.declared.kind.Range.{Range}
use Rattle.verifier_kinds.specs.declared.kind.Offsets.{Offsets}
use Rattle.verifier_kinds.specs.declared.kind.Kind.{Kind}
use Rattle.verifier_kinds.specs.declared.kind.Kind.TheVariants.{Scalar, Context, Stack, MapValue, MaybeValue, MapName}

-- the power of 2 that an alignment names
abbrev pub factor : Align → ℕ
factor One = 1
factor Two = 2
factor Four = 4
factor Eight = 8

-- the exponent of that power, by which alignments are ordered
abbrev pub rank : Align → ℕ
rank One = 0
rank Two = 1
rank Four = 2
rank Eight = 3

-- the least of two alignments
abbrev pub least_align : Align → Align → Align
least_align a b = if nat_le (rank a) (rank b) then a else b

-- the greatest of two alignments
abbrev pub greatest_align : Align → Align → Align
greatest_align a b = if nat_le (rank a) (rank b) then b else a

-- the alignment with an exponent, at most that of 8
abbrev pub of_rank : ℕ → Align
of_rank n =
    if n == 0 then One else (
    if n == 1 then Two else (
    if n == 2 then Four else Eight))

-- the alignment of a number's products with a power of 2
abbrev pub times_power : Align → ℕ → Align
times_power align exponent = of_rank (rank align + exponent)

-- the greatest alignment that divides a number
abbrev pub align_of : ℕ → Align
align_of n =
    if n % 8 == 0 then Eight else (
    if n % 4 == 0 then Four else (
    if n % 2 == 0 then Two else One))

-- The numbers of a range, with its ends moved inward to multiples of the alignment; of a single number
-- the alignment is the greatest that divides it.
abbrev pub normal : ℕ → ℕ → Align → Range
normal low high align =
    let first = (low + (factor align - 1)) / factor align * factor align in
    let last = high / factor align * factor align in
    record { low = first; high = last; align = if first == last then align_of first else align }

-- the range of one number
abbrev pub constant : ℕ → Range
constant n = record { low = n; high = n; align = align_of n }

-- all numbers of 64 bits that an alignment divides
abbrev pub full : Align → Range
full align = normal 0 18446744073709551615 align

-- a range has one number
abbrev pub is_constant : Range → Bool
is_constant range = range.low == range.high

-- the number is within the range
pub record IsIn (range : Range) (n : ℕ) : Type 0 where
  pub low : range.low ≤ n
  pub high : n ≤ range.high
  pub aligned : n % factor range.align ≡ 0

-- What kinds speak of: the shapes of the maps by number, and what each call of a lookup answered, by
-- the slot of the call.
pub record Setting : Type 0 where
  pub shapes : List (Option Shape)
  pub answers : ℕ → ℕ

-- at most eight shapes, each within the limits of a map or not there
pub record IsSetting (setting : Setting) : Type 0 where
  pub few : length setting.shapes ≤ 8
  pub each : All (λ shape. IfSome shape IsShape) setting.shapes

-- the shape of the map with a number
abbrev pub shape_at : List (Option Shape) → ℕ → Option Shape
shape_at shapes m = slice_index_or shapes m None

-- How many bytes a pointer may point at most before or after the beginning of an element. Its offsets are kept this
-- much more than they are, so that they are natural numbers, from 0 to `greatest_offset`.
abbrev pub offset_bias : ℕ
offset_bias = 65536

-- the greatest offset as it is kept: that of a pointer `offset_bias` bytes after the beginning of an element
abbrev pub greatest_offset : ℕ
greatest_offset = 131072

-- the offsets as a range of numbers, each `offset_bias` more than the offset is
abbrev pub range_in : Offsets → Range
range_in offsets = record { low = offsets.low; high = offsets.high; align = offsets.align }

-- the address at which an element of the map m begins
pub record IsElement (shape : Shape) (m n : ℕ) : Type 0 where
  pub element : ℕ
  pub there : element < shape.entries
  pub address : n ≡ map_values m + element_at shape element

-- an address at one of the offsets from the beginning of an element of the map m
pub record IsByElement (offsets : Offsets) (shape : Shape) (m n : ℕ) : Type 0 where
  pub first : ℕ
  pub element : IsElement shape m first
  pub offset : ℕ
  pub within : IsIn (range_in offsets) offset
  pub address : n + offset_bias ≡ first + offset

-- what a lookup answered: nothing, or where an element of the map m begins
abbrev pub IsAnswer : Shape → ℕ → ℕ → Type 0
IsAnswer shape m n = (n ≡ 0) ⊎ IsElement shape m n

-- the number is of the kind
abbrev pub IsOfKind : Setting → Kind → ℕ → Type 0
IsOfKind setting (Scalar range) n = IsIn range n
IsOfKind setting (Context offset) n = pos n ≡ pos context_base +ℤ offset
IsOfKind setting (Stack offset) n = pos n ≡ pos stack_end +ℤ offset
IsOfKind setting (MapValue m offsets) n = IsSomeAnd (shape_at setting.shapes m) (λ shape. IsByElement offsets shape m n)
IsOfKind setting (MaybeValue m id) n = IsSomeAnd (shape_at setting.shapes m) (λ shape. IsAnswer shape m n) × (n ≡ setting.answers id)
IsOfKind setting (MapName m) n = IsSome (shape_at setting.shapes m) × (n ≡ map_name m)

-- a kind, where there is one, describes a number that is set
abbrev pub Describes : Setting → Option Kind → Option ℕ → Type 0
Describes setting None x = Unit {0}
Describes setting (Some kind) None = ⊥
Describes setting (Some kind) (Some n) = IsOfKind setting kind n

-- an offset that a pointer to the context or the stack may have: at most `offset_bias` bytes before or after (negsuc 65535 is
-- -65536), and kept as it is
pub record IsOffset (offset : ℤ) : Type 0 where
  pub above : negsuc 65535 ≤ℤ offset
  pub below : offset ≤ℤ pos offset_bias

-- the ends of a range are multiples of its alignment, and one number has the greatest that divides it
pub record IsNormal (range : Range) : Type 0 where
  pub ordered : range.low ≤ range.high
  pub fits : range.high < 2 ^ 64
  pub low : range.low % factor range.align ≡ 0
  pub high : range.high % factor range.align ≡ 0
  pub single : range.low ≡ range.high → range.align ≡ align_of range.low

-- The ranges of a kind are normal: this is asked of each kind in a lawful table.
abbrev pub IsNormalKind : Kind → Type 0
IsNormalKind (Scalar range) = IsNormal range
IsNormalKind (MapValue m offsets) = IsNormal (range_in offsets)
IsNormalKind kind = Unit {0}

-- offsets within `offset_bias` bytes of the beginning of an element
pub record AreOffsets (offsets : Offsets) : Type 0 where
  pub normal : IsNormal (range_in offsets)
  pub below : offsets.high ≤ greatest_offset

-- what holds of each kind of the verifier
abbrev pub IsKind : Kind → Type 0
IsKind (Scalar range) = IsNormal range
IsKind (Context offset) = IsOffset offset
IsKind (Stack offset) = IsOffset offset
IsKind (MapValue m offsets) = AreOffsets offsets
IsKind (MaybeValue m id) = Unit {0}
IsKind (MapName m) = Unit {0}

-- of the calls of a lookup the kind names one below a slot alone
abbrev pub IsOfCallBelow : ℕ → Kind → Type 0
IsOfCallBelow slot (MaybeValue m id) = id < slot
IsOfCallBelow slot kind = Unit {0}

-- one range lies within another
pub record IsWithin (inner outer : Range) : Type 0 where
  pub low : outer.low ≤ inner.low
  pub high : inner.high ≤ outer.high
  pub aligned : rank outer.align ≤ rank inner.align

-- The kind says at least as much as another. Only ranges have others within them.
abbrev pub IsKindBelow : Kind → Kind → Type 0
IsKindBelow kind (Scalar outer) = (inner : Range) × (kind ≡ Scalar inner) × IsWithin inner outer
IsKindBelow kind (Context offset) = kind ≡ Context offset
IsKindBelow kind (Stack offset) = kind ≡ Stack offset
IsKindBelow kind (MapValue m outer) = (inner : Offsets) × (kind ≡ MapValue m inner) × IsWithin (range_in inner) (range_in outer)
IsKindBelow kind (MaybeValue m id) = kind ≡ MaybeValue m id
IsKindBelow kind (MapName m) = kind ≡ MapName m

-- the same where nothing may be known: every kind is below that
abbrev pub IsBelow : Option Kind → Option Kind → Type 0
IsBelow kind None = Unit {0}
IsBelow kind (Some outer) = (inner : Kind) × (kind ≡ Some inner) × IsKindBelow inner outer

-- the offsets of a range of numbers that are each `offset_bias` more
abbrev pub offsets_in : Range → Offsets
offsets_in range = record { low = range.low; high = range.high; align = range.align }

-- the least range above two
abbrev pub join_of_ranges : Range → Range → Range
join_of_ranges a b = record { low = min a.low b.low; high = max a.high b.high; align = least_align a.align b.align }

-- two offsets are one
abbrev pub is_same : ℤ → ℤ → Bool
is_same a b = int_le a b && int_le b a

-- the least kind above two, if there is one
abbrev pub join_of_kinds : Kind → Kind → Option Kind
join_of_kinds (Scalar a) (Scalar b) = Some (Scalar (join_of_ranges a b))
join_of_kinds (Context a) (Context b) = only_if (is_same a b) (Context a)
join_of_kinds (Stack a) (Stack b) = only_if (is_same a b) (Stack a)
join_of_kinds (MapValue m a) (MapValue n b) = only_if (m == n) (MapValue m (offsets_in (join_of_ranges (range_in a) (range_in b))))
join_of_kinds (MaybeValue m i) (MaybeValue n j) = only_if ((m == n) && (i == j)) (MaybeValue m i)
join_of_kinds (MapName m) (MapName n) = only_if (m == n) (MapName m)
join_of_kinds a b = None
