-- What a card tells a user is what the user sees.
use Rattle.std.specs.Prelude.{◌≡◌, ℕ, true, List, [], ◌∷◌}
use Rattle.cardmodel.specs.State.{Id, Card}
use Rattle.cardmodel.specs.Answer.{Sent, after, reply, is_accepted, Presents, PresentsNobody, run, replies, Capacities, new_card}
use Rattle.cardmodel.specs.Sight.{Sight, sight, OutsideKept}

-- no PRESENT USER of a list is accepted
abbrev pub Stays : Card → List Sent → Type 0
Stays c [] = Unit {0}
Stays c (m ∷ ms) = PresentsNobody c m × Stays (after c m) ms

-- what a user sees after each command of a list
abbrev pub sights : Id → Card → List Sent → List Sight
sights u c [] = []
sights u c (m ∷ ms) = sight u (after c m) ∷ sights u (after c m) ms

-- after each command, what was outside the sight at the start is as it was
abbrev pub AllKept : Id → Card → Card → List Sent → Type 0
AllKept u start c [] = Unit {0}
AllKept u start c (m ∷ ms) = OutsideKept u start (after c m) × AllKept u start (after c m) ms

-- Two cards tell a user the same, show it the same, and lose nothing that it does not see.
pub record Alike (u : Id) (c d : Card) (ms : List Sent) : Type 0 where
  -- every reply is equal: data, word, cause, layer and place
  pub told : replies c ms ≡ replies d ms
  -- the sights are equal after every command
  pub seen : sights u c ms ≡ sights u d ms
  -- on each card every cell outside the sight at the start keeps its bytes, and its row its place
  pub left_kept : AllKept u c c ms
  pub right_kept : AllKept u d d ms

-- How a card came to be that serves a user: it was made new, of any size; commands of its own were sent to it, by
-- whomever; and then PRESENT USER of that user was accepted.
pub record Served (u : Id) : Type 0 where
  pub rows : ℕ
  pub capacities : Capacities
  pub past : List Sent
  pub presented : Sent
  pub presents : Presents presented u
  pub accepted : is_accepted (reply (run (new_card rows capacities) past) presented) ≡ true

abbrev pub card_of : {u : Id} → Served u → Card
card_of s = after (run (new_card s.rows s.capacities) s.past) s.presented

-- SECRECY. Two cards serve one user, each with its own size and past, and the user sees the same on both. Then one list
-- of commands in which nobody else is presented does not tell them apart.
--
-- The premises. `Served`: only cards that commands can make are meant, and who is present is the one who reads. Equal
-- sights: what the user may see is all that may make a difference. `Stays`: with another user present, that user's
-- sight would count; it is asked of one card, since it follows for the other.
abbrev pub Secrecy : Type 0
Secrecy =
    (u : Id) (one other : Served u) → sight u (card_of one) ≡ sight u (card_of other) →
    (ms : List Sent) → Stays (card_of one) ms → Alike u (card_of one) (card_of other) ms
