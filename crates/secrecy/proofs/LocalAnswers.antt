-- A card answers by what its user reaches.
use Rattle.std.proofs.Common.{◌≡◌, Bool, true, false, cond, [], is_some, Some, None, Ok, Option, sym, refl, ap, ◌∙◌, subst}
use Rattle.std.proofs.lemmas.Bool.{both_ways}
use Rattle.fields.specs.Reader.{Parameter}
use Rattle.commands.specs.Command.{Parsed, present_user, create_user, create_table, create_view, drop_table, drop_view, grant, revoke, declare_cursor, open_cursor, next_row, fetch, fetch_next, insert, update, delete_row}
use Rattle.commands.specs.Parse.{parsed}
use Rattle.cardmodel.specs.State.{Bytes, Id, Catalogue, Rows, Cursor, absent, Card}
use Rattle.cardmodel.specs.Objects.{same}
use Rattle.cardmodel.specs.Rights.{known}
use Rattle.cardmodel.specs.Verdict.{Cause, Checked, refused, passed, unless, gives, missing, Verdict, reply_of, card_after}
use Rattle.cardmodel.specs.CatalogueRules.{Alteration, with_emptied}
use Rattle.cardmodel.specs.CursorRules.{Step}
use Rattle.cardmodel.specs.Answer.{Sent, verdict, presenting, altering, stepping, obeyed, after, reply, is_accepted, Presents, PresentsNobody}
use Rattle.cardmodel.proofs.Checks.{Holds, Both}
use Rattle.cardmodel.proofs.Verdicts.{each_two}
use Rattle.cardlaws.proofs.Kept.{view_says}
use Rattle.secrecy.specs.Locality.{reaches_table, EqualWithinReach, Locality}
use Rattle.secrecy.proofs.Linked.{Fit, sound_fit}
use Rattle.secrecy.proofs.Catalogues.{Change, stays, whole, fresh, emptied_alike, user_changes, table_changes, view_changes, table_dropped, view_dropped, granting_changes, revoking_changes}
use Rattle.secrecy.proofs.Reach.{whole_reaches, Within, Beyond, Local, declaring_local, opening_local, nexting_local, fetching_local, fetching_next_local, inserting_local, updating_local, deleting_local}

-- a card that serves a user
abbrev pub serving : Catalogue → Id → Rows → Cursor → Card
serving k u f x = record { catalogue = k; rows = f; current = Some u; cursor = x }

pub serving_is : (c : Card) (u : Id) → c.current ≡ Some u → c ≡ serving c.catalogue u c.rows c.cursor
serving_is c u e = ap (λ y. record { catalogue = c.catalogue; rows = c.rows; current = y; cursor = c.cursor }) e

-- Verdicts on one command of two cards with one catalogue, user and cursor: they tell the same, they leave equal rows
-- within reach unless somebody is presented, and the first leaves the rows out of reach.
pub record LocalVerdicts (k : Catalogue) (u : Id) (f g : Rows) (x : Cursor) (m : Sent) (v w : Verdict) : Type 0 where
  pub told : reply_of v ≡ reply_of w
  pub equal : ((n : Id) → Presents m n → is_accepted (reply_of v) ≡ false) → EqualWithinReach u (card_after (serving k u f x) v) (card_after (serving k u g x) w)
  pub beyond : Beyond k u (card_after (serving k u f x) v).rows f

-- an alteration of the catalogue
module _ (k : Catalogue) (u : Id) (f g : Rows) (x : Cursor) (left : Fit k u f x) (right : Fit k u g x) (q : Within k u f g) (a : Alteration) (changes : (t : Bytes) → Change k u a t) where
  altered_within : Within a.catalogue u (with_emptied f a.emptied) (with_emptied g a.emptied)
  altered_within t r = go (changes t)
    where
      go : Change k u a t → with_emptied f a.emptied t ≡ with_emptied g a.emptied t
      go (stays e h) = rw (h f, h g) (q t (rw e r))
      go (whole w) = emptied_alike f g a.emptied t (q t (whole_reaches w))
      go (fresh e) = emptied_alike f g a.emptied t (left.elsewhere t e ∙ sym (right.elsewhere t e))

  altered_beyond : Beyond k u (with_emptied f a.emptied) f
  altered_beyond t r = go (changes t)
    where
      none : f t ≡ [] → (o : Option Bytes) → with_emptied f o t ≡ f t
      none e None = refl
      none e (Some n) = elim (same t n) as (λ b. cond b [] (f t) ≡ f t) [ true ↦ sym e | false ↦ refl ]

      go : Change k u a t → with_emptied f a.emptied t ≡ f t
      go (stays e h) = h f
      go (whole w) = absurd (both_ways (reaches_table k u t) r (whole_reaches w))
      go (fresh e) = none (left.elsewhere t e) a.emptied

-- a refusal, what is made of the catalogue, what is made of rows and cursor, and PRESENT USER
module _ (k : Catalogue) (u : Id) (f g : Rows) (x : Cursor) (m : Sent) (left : Fit k u f x) (right : Fit k u g x) (q : Within k u f g) where
  abbrev Verdicts : Verdict → Verdict → Type 0
  Verdicts = LocalVerdicts k u f g x m

  refusals : (c : Cause) → Verdicts (refused c) (refused c)
  refusals c = record { told = refl; equal = λ _. record { catalogue = refl; left_user = refl; right_user = refl; cursor = refl; rows = q }; beyond = λ t e. refl }

  alters : (a : Checked Alteration) → Holds (λ y. (t : Bytes) → Change k u y t) a → Verdicts (altering (serving k u f x) a) (altering (serving k u g x) a)
  alters (refused c) h = refusals c
  alters (passed a) h = record {
    told = refl;
    equal = λ _. record { catalogue = refl; left_user = refl; right_user = refl; cursor = refl; rows = altered_within k u f g x left right q a h };
    beyond = altered_beyond k u f g x left right q a h;
  }

  steps : (a b : Checked Step) → Both (Local k u f) a b → Verdicts (stepping (serving k u f x) a) (stepping (serving k u g x) b)
  steps (refused c) (refused d) h = subst (λ z. Verdicts (refused c) (refused z)) h (refusals c)
  steps (refused c) (passed b) h = absurd h
  steps (passed a) (refused d) h = absurd h
  steps (passed a) (passed b) h = record {
    told = ap (λ o. reply_of (passed (record { card = serving k u f x; outcome = o }))) h.told;
    equal = λ _. record { catalogue = refl; left_user = refl; right_user = refl; cursor = h.cursor; rows = h.within };
    beyond = h.beyond;
  }

  presents : (id : Parameter) → parsed m.bytes m.area ≡ Ok (present_user id) → Verdicts (presenting (serving k u f x) id) (presenting (serving k u g x) id)
  unfolding presenting
  presents id said = go (is_some (known k.users.records id.bytes))
    where
      now : Rows → Card
      now rows = record { catalogue = k; rows = rows; current = Some id.bytes; cursor = absent }

      checked : Bool → Rows → Verdict
      checked b rows = unless b (missing id.place) (passed (record { card = now rows; outcome = gives [] }))

      go : (b : Bool) → Verdicts (checked b f) (checked b g)
      go true = record {
        told = refl;
        equal = λ nobody. absurd (both_ways true (nobody id.bytes (record { id = id; said = said; named = refl })) refl);
        beyond = λ t e. refl;
      }
      go false = refusals (missing id.place)

-- EVERY COMMAND
pub local_verdicts : (k : Catalogue) (u : Id) (f g : Rows) (x : Cursor) (m : Sent) → Fit k u f x → Fit k u g x → Within k u f g →
    LocalVerdicts k u f g x m (verdict (serving k u f x) m) (verdict (serving k u g x) m)
local_verdicts k u f g x m left right q = each_two (serving k u f x) (serving k u g x) u refl refl m (LocalVerdicts k u f g x m) (refusals k u f g x m left right q) go
  where
    catalogue : (a : Checked Alteration) → Holds (λ y. (t : Bytes) → Change k u y t) a → LocalVerdicts k u f g x m (altering (serving k u f x) a) (altering (serving k u g x) a)
    catalogue = alters k u f g x m left right q

    rows : (a b : Checked Step) → Both (Local k u f) a b → LocalVerdicts k u f g x m (stepping (serving k u f x) a) (stepping (serving k u g x) b)
    rows = steps k u f g x m left right q

    go : (p : Parsed) → parsed m.bytes m.area ≡ Ok p → LocalVerdicts k u f g x m (obeyed (serving k u f x) u p) (obeyed (serving k u g x) u p)
    go (present_user id) e = presents k u f g x m left right q id e
    go (create_user id profile) e = catalogue _ (user_changes k u left.names left.objects id profile)
    go (create_table name definition columns limit) e = catalogue _ (table_changes k u left.names left.objects name definition limit)
    go (create_view name definition s) e = catalogue _ (view_changes k u left.names left.objects name definition s (view_says m name definition s e))
    go (drop_table name) e = catalogue _ (table_dropped k u left.names left.objects name)
    go (drop_view name) e = catalogue _ (view_dropped k u left.names left.objects name)
    go (grant p) e = catalogue _ (granting_changes k u left.names left.objects p)
    go (revoke p) e = catalogue _ (revoking_changes k u left.names left.objects p)
    go (declare_cursor s) e = rows _ _ (declaring_local k u f g q s)
    go open_cursor e = rows _ _ (opening_local k u f g q x left.cursor)
    go next_row e = rows _ _ (nexting_local k u f g q x left.cursor)
    go (fetch le) e = rows _ _ (fetching_local k u f g q x le left.cursor)
    go (fetch_next le) e = rows _ _ (fetching_next_local k u f g q x le left.cursor)
    go (insert table count strings row) e = rows _ _ (inserting_local k u f g q x table count strings)
    go (update assignments) e = rows _ _ (updating_local k u f g q x assignments left.cursor)
    go delete_row e = rows _ _ (deleting_local k u f g q x left.cursor)

pub locality : Locality
locality total other_total z other_z c d sc sd u q m =
    subst (λ y. Answers y d) (sym left_is) (subst (λ y. Answers (serving c.catalogue u c.rows c.cursor) y) (sym right_is) (l.told, l.equal))
  where
    Answers : Card → Card → Type 0
    Answers y w = (reply y m ≡ reply w m) × (PresentsNobody y m → EqualWithinReach u (after y m) (after w m))

    left_is : c ≡ serving c.catalogue u c.rows c.cursor
    left_is = serving_is c u q.left_user

    right_is : d ≡ serving c.catalogue u d.rows c.cursor
    right_is = serving_is d u q.right_user ∙ ap (λ k. serving k u d.rows d.cursor) (sym q.catalogue) ∙ ap (serving c.catalogue u d.rows) (sym q.cursor)

    right : Fit c.catalogue u d.rows c.cursor
    right =
        subst (λ k. Fit k u d.rows c.cursor) (sym q.catalogue)
        (subst (Fit d.catalogue u d.rows) (sym q.cursor) (sound_fit other_total other_z d u sd q.right_user))

    l : LocalVerdicts c.catalogue u c.rows d.rows c.cursor m (verdict (serving c.catalogue u c.rows c.cursor) m) (verdict (serving c.catalogue u d.rows c.cursor) m)
    l = local_verdicts c.catalogue u c.rows d.rows c.cursor m (sound_fit total z c u sc q.left_user) right q.rows
