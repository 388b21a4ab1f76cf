-- A card with nobody registered refuses every command; so does every card that was issued although the check said no.
use Rattle.std.specs.Prelude.{◌≡◌, ℕ, Bool, false, [], None}
use Rattle.cardmodel.specs.State.{Card}
use Rattle.cardmodel.specs.Answer.{Sent, reply, is_accepted, Capacities, may_issue, issued}

pub record NobodyServed : Type 0 where
  pub unregistered : (c : Card) → c.catalogue.users.records ≡ [] → c.current ≡ None → (m : Sent) → is_accepted (reply c m) ≡ false
  pub closed : (store_empty : Bool) (free : ℕ) (z : Capacities) → may_issue store_empty z ≡ false → (m : Sent) → is_accepted (reply (issued store_empty free z) m) ≡ false
