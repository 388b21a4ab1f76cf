-- What DECLARE CURSOR tells of an object that is not reached.
use Rattle.std.specs.Prelude.{◌≡◌, Bool, false, Some, None, Option}
use Rattle.commands.specs.Command.{Selected}
use Rattle.cardmodel.specs.State.{Id, Object, Catalogue, Rows}
use Rattle.cardmodel.specs.Objects.{object_named}
use Rattle.cardmodel.specs.Rights.{reaches}
use Rattle.cardmodel.specs.Verdict.{refused, not_allowed}
use Rattle.cardmodel.specs.CursorRules.{declaring}

-- whether there is such an object, and the user reaches it
abbrev pub is_reached : Catalogue → Id → Option Object → Bool
is_reached k u None = false
is_reached k u (Some o) = reaches k.privileges.records u o

-- an object that is not there and one that is not reached are refused alike, whatever else the command says
abbrev pub UnreachedAsUnknown : Type 0
UnreachedAsUnknown =
    (k : Catalogue) (u : Id) (rows : Rows) (s : Selected) → is_reached k u (object_named k.objects.records s.source.bytes) ≡ false
    → declaring k u rows s ≡ refused not_allowed
