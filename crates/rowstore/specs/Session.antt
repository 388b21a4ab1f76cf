-- What a session works on.
use Rattle.std.specs.Prelude.{◌≡◌}
use Rattle.rowmodel.specs.Meaning.{Meaning}
use Rattle.rowstore.specs.declared.session.Session.{Session}
use Rattle.rowstore.specs.Runs.{Held, held}

-- its store, by what the store means, and its area
abbrev pub held_by : {S : Type 0} → (S → Meaning) → Session S → Held
held_by meaning s = held (meaning s.store.now) s.area.now

-- the store and the area are the ones that were lent to it
abbrev pub SameLoans : {S : Type 0} → Session S → Session S → Type 0
SameLoans old new = (new.store.ghost_name ≡ old.store.ghost_name) × (new.area.ghost_name ≡ old.area.ghost_name)
