-- The envelope: which bytes are a command, and what its header says.
use Rattle.std.specs.Prelude.{◌≡◌, ℕ, ◌+◌, ◌<◌, ◌≤◌, Bool, true, false, cond, not, ◌&&◌, ◌||◌, List, length, take, is_some, Some, None, Ok, Err, Option, Result, ◌==◌, nat_lt, slice_index}
use Rattle.apdu.specs.declared.operation.Operation.{Operation}
use Rattle.apdu.specs.declared.envelope.Body.{Body}
use Rattle.apdu.specs.declared.envelope.Envelope.{Envelope}
use Rattle.apdu.specs.declared.envelope.EnvelopeFault.{EnvelopeFault}
use Rattle.apdu.specs.declared.envelope.EnvelopeFault.TheVariants.{Area, NoApdu, Class, Instruction, P1, P2, Shape}
use Rattle.apdu.specs.Operation.{operation_of, carries_data, carries_le}

-- a body of so many data bytes, with or without a length byte Le
abbrev body : ℕ → Option ℕ → Option Body
body n le = Some (record { len = n; le = le })

-- What follows the four bytes CLA, INS, P1 and P2: nothing, or Le, or Lc (at least 1) and as many data bytes, with or
-- without Le. Anything else is no command.
abbrev pub body_of : List ℕ → Option Body
body_of bs =
    cond (nat_lt (length bs) 4) None
    (cond (length bs == 4) (body 0 None)
    (cond (length bs == 5) (body 0 (Some (slice_index bs 4)))
    (cond (slice_index bs 4 == 0) None
    (cond (length bs == 5 + slice_index bs 4) (body (slice_index bs 4) None)
    (cond (length bs == 6 + slice_index bs 4) (body (slice_index bs 4) (Some (slice_index bs (5 + slice_index bs 4))))
    None)))))

-- how a body that was read stands to its command
pub record Fitting (bs : List ℕ) (b : Body) : Type 0 where
  pub header : 4 ≤ length bs
  pub small : b.len < 256
  pub behind : 0 < b.len → 5 + b.len ≤ length bs
  pub lc : 0 < b.len → b.len ≡ slice_index bs 4

-- Le '00' means 256, and without Le nothing is expected
abbrev pub expected : Option ℕ → ℕ
expected None = 0
expected (Some n) = cond (n == 0) 256 n

-- a command carries data and Le exactly as its operation wants
abbrev pub same : Bool → Bool → Bool
same true b = b
same false b = not b

abbrev pub fits : Operation → Body → Bool
fits o b = same (carries_data o) (not (b.len == 0)) && same (carries_le o) (is_some b.le)

-- A command that was opened: its operation, its bytes up to the end of its data, and the length that it expects.
pub record Opened : Type 0 where
  pub operation : Operation
  pub field : List ℕ
  pub le : ℕ

abbrev field_of : List ℕ → ℕ → List ℕ
field_of bs n = take (cond (n == 0) 4 (5 + n)) bs

abbrev with_operation : List ℕ → Body → Option Operation → Result Opened EnvelopeFault
with_operation bs b None = Err P2
with_operation bs b (Some o) = cond (fits o b) (Ok (record { operation = o; field = field_of bs b.len; le = expected b.le })) (Err Shape)

abbrev with_body : List ℕ → Option Body → Result Opened EnvelopeFault
with_body bs None = Err NoApdu
with_body bs (Some b) =
    cond (not (slice_index bs 0 == 0x00)) (Err Class)
    (cond (not (slice_index bs 1 == 0x10 || slice_index bs 1 == 0x14)) (Err Instruction)
    (cond (not (slice_index bs 2 == 0x00)) (Err P1)
    (with_operation bs b (operation_of (slice_index bs 1) (slice_index bs 3)))))

-- The first cause that applies: an answer area under 255 bytes, no command, then CLA, INS, P1, P2, and what it carries.
abbrev pub opened : List ℕ → ℕ → Result Opened EnvelopeFault
opened bs area = cond (nat_lt area 255) (Err Area) (with_body bs (body_of bs))

-- what the code's envelope says
abbrev pub envelope : Result Envelope EnvelopeFault → Result Opened EnvelopeFault
envelope (Ok e) = Ok (record { operation = e.operation; field = e.field.now; le = e.le })
envelope (Err f) = Err f

-- A field is the front of its command. Where there are data, it ends behind them, and there is at least one byte.
pub record Within (bs : List ℕ) (o : Operation) (field : List ℕ) : Type 0 where
  pub front : field ≡ take (length field) bs
  pub inside : length field ≤ length bs
  pub data_end : carries_data o ≡ true → length field ≡ 5 + slice_index bs 4
  pub data_some : carries_data o ≡ true → 5 < length field
