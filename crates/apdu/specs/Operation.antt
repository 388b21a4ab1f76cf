-- The operations: how they are coded, and what their commands carry.
use Rattle.std.specs.Prelude.{ℕ, Bool, true, false, cond, ◌&&◌, List, [], ◌∷◌, Some, None, Option, ◌==◌}
use Rattle.apdu.specs.declared.operation.Operation.{Operation}
use Rattle.apdu.specs.declared.operation.Operation.TheVariants.{PresentUser, CreateUser, CreateTable, CreateView, DropTable, DropView, Grant, Revoke, DeclareCursor, Open, Next, Fetch, FetchNext, Insert, Update, Delete}

-- a row of the table of operations: INS, P2 and what they name
pub record Coded : Type 0 where
  pub ins : ℕ
  pub p2 : ℕ
  pub names : Operation

abbrev coded : ℕ → ℕ → Operation → Coded
coded i p o = record { ins = i; p2 = p; names = o }

abbrev pub table : List Coded
table =
    coded 0x14 0x80 PresentUser ∷ (coded 0x14 0x81 CreateUser ∷
    (coded 0x10 0x80 CreateTable ∷ (coded 0x10 0x81 CreateView ∷ (coded 0x10 0x83 DropTable ∷ (coded 0x10 0x84 DropView ∷
    (coded 0x10 0x85 Grant ∷ (coded 0x10 0x86 Revoke ∷ (coded 0x10 0x87 DeclareCursor ∷ (coded 0x10 0x88 Open ∷
    (coded 0x10 0x89 Next ∷ (coded 0x10 0x8A Fetch ∷ (coded 0x10 0x8B FetchNext ∷ (coded 0x10 0x8C Insert ∷
    (coded 0x10 0x8D Update ∷ (coded 0x10 0x8E Delete ∷ [])))))))))))))))

abbrev pub find : List Coded → ℕ → ℕ → Option Operation
find [] ins p2 = None
find (c ∷ cs) ins p2 = cond (ins == c.ins && p2 == c.p2) (Some c.names) (find cs ins p2)

abbrev pub operation_of : ℕ → ℕ → Option Operation
operation_of ins p2 = find table ins p2

abbrev pub carries_data : Operation → Bool
carries_data PresentUser = true
carries_data CreateUser = true
carries_data CreateTable = true
carries_data CreateView = true
carries_data DropTable = true
carries_data DropView = true
carries_data Grant = true
carries_data Revoke = true
carries_data DeclareCursor = true
carries_data Open = false
carries_data Next = false
carries_data Fetch = false
carries_data FetchNext = false
carries_data Insert = true
carries_data Update = true
carries_data Delete = false

abbrev pub carries_le : Operation → Bool
carries_le PresentUser = false
carries_le CreateUser = false
carries_le CreateTable = false
carries_le CreateView = false
carries_le DropTable = false
carries_le DropView = false
carries_le Grant = false
carries_le Revoke = false
carries_le DeclareCursor = false
carries_le Open = false
carries_le Next = false
carries_le Fetch = true
carries_le FetchNext = true
carries_le Insert = false
carries_le Update = false
carries_le Delete = false
