-- The field of a command is its front, up to the end of its data.
use Rattle.std.proofs.Common.{◌≡◌, ℕ, ◌+◌, true, cond, eqb, List, take, rules}
use Rattle.apdu.specs.declared.operation.Operation.{Operation}
use Rattle.apdu.specs.declared.envelope.Body.{Body}
use Rattle.apdu.specs.Envelope.{Fitting, Within, fits}

pub field_within : (bs : List ℕ) (o : Operation) (b : Body) (n : ℕ) → Fitting bs b → fits o b ≡ true → n ≡ cond (eqb b.len 0) 4 (5 + b.len) → Within bs o (take n bs)
field_within bs o b n body wanted is = search rules
