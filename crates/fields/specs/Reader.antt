-- How the parameters of a field are read. A field is a command up to the end of its data, so that a position in it is
-- an offset in the command.
use Rattle.std.specs.Prelude.{ℕ, zero, suc, ◌+◌, cond, ◌&&◌, List, [], ◌∷◌, length, take, drop, Some, None, Option, ◌==◌, nat_le, nat_lt, slice_index}
use Rattle.text.specs.Identifier.{identifies}
use Rattle.text.specs.Operator.{coded_by}
use Rattle.text.specs.declared.operator.Operator.{Operator}
use Rattle.fields.specs.declared.reader.Part.{Part}
use Rattle.fields.specs.declared.reader.Parts.{Parts}

-- a parameter: the offset of its length byte, and its bytes
pub record Parameter : Type 0 where
  pub place : ℕ
  pub bytes : List ℕ

-- the parameter whose length byte stands at a position, and the position behind it
abbrev pub parameter_at : List ℕ → ℕ → Parameter
parameter_at bs at = record { place = at; bytes = take (slice_index bs at) (drop (at + 1) bs) }

abbrev pub behind : List ℕ → ℕ → ℕ
behind bs at = at + 1 + slice_index bs at

-- What was read: a value and the position behind it, or the place of the fault.
pub data Read (X : Type 0) : Type 0 where
  got : X → ℕ → Read X
  broken : ℕ → Read X

-- goes on behind what was read, and stops at a fault
abbrev pub and_then : {X Y : Type 0} → Read X → (X → ℕ → Read Y) → Read Y
and_then (got x q) k = k x q
and_then (broken p) k = broken p

abbrev pub or_broken : {X Y : Type 0} → Option X → ℕ → (X → Read Y) → Read Y
or_broken (Some x) p k = k x
or_broken None p k = broken p

-- a length byte and as many bytes; where bytes are missing, the place is the offset past the data
unfoldable pub param_at : List ℕ → ℕ → Read Parameter
param_at bs at =
    cond (nat_lt at (length bs))
    (cond (nat_le (behind bs at) (length bs)) (got (parameter_at bs at) (behind bs at)) (broken (length bs)))
    (broken (length bs))

-- n parameters, one behind the other, as far as they can be read
abbrev pub each : {X Y : Type 0} → Read X → (X → ℕ → List Y) → List Y
each (got x q) k = k x q
each (broken p) k = []

abbrev pub parameters : List ℕ → ℕ → ℕ → List Parameter
parameters bs at zero = []
parameters bs at (suc n) = each (param_at bs at) (λ p q. p ∷ parameters bs q n)

-- what the code's parts say
abbrev pub parameter : Part → Parameter
parameter p = record { place = p.place; bytes = p.bytes.now }

abbrev pub listed : Parts → List Parameter
listed p = parameters p.field.now p.at p.count

-- a count byte within a range
unfoldable pub count_at : List ℕ → ℕ → ℕ → ℕ → Read ℕ
count_at bs least most at =
    cond (nat_lt at (length bs))
    (cond (nat_le least (slice_index bs at) && nat_le (slice_index bs at) most) (got (slice_index bs at) (at + 1)) (broken at))
    (broken (length bs))

-- an identifier
unfoldable pub identifier_at : List ℕ → ℕ → Read Parameter
identifier_at bs at = and_then (param_at bs at) (λ p q. cond (identifies p.bytes) (got p q) (broken at))

-- a parameter of one byte
unfoldable pub byte_at : List ℕ → ℕ → Read ℕ
byte_at bs at = and_then (param_at bs at) (λ p q. cond (length p.bytes == 1) (got (slice_index p.bytes 0) q) (broken at))

-- the code of an operator
unfoldable pub operator_at : List ℕ → ℕ → Read Operator
operator_at bs at = and_then (byte_at bs at) (λ code q. or_broken (coded_by code) at (λ o. got o q))
