-- The cursor after a command that alters the catalogue.
use Rattle.std.proofs.Common.{◌≡◌, ℕ, Bool, true, false, cond, Some, None, Option, sym, refl, subst}
use Rattle.cardmodel.specs.Lists.{all}
use Rattle.cardmodel.specs.State.{Bytes, Id, Catalogue, Rows, Choice, Cursor, absent, declared, on_row, ended}
use Rattle.cardmodel.specs.Objects.{object_named, Window, shows, rows_behind}
use Rattle.cardmodel.specs.Rights.{reaches}
use Rattle.cardmodel.specs.CatalogueRules.{stands, cursor_kept}
use Rattle.cardmodel.specs.CursorRules.{through}
use Rattle.cardlaws.specs.Sound.{Chosen, StandsAt, Pointed}

-- what a choice keeps from one catalogue and its rows to another
pub record ChoiceKept (k l : Catalogue) (olds news : Rows) (u : Id) (s : Choice) : Type 0 where
  pub stands : object_named l.objects.records s.object.name ≡ Some s.object
  pub reached : reaches l.privileges.records u s.object ≡ true
  pub window : through l s ≡ through k s
  pub rows : rows_behind news (through k s) ≡ rows_behind olds (through k s)

chosen_kept : (k l : Catalogue) (rows news : Rows) (u : Id) (s : Choice) → Chosen k u s → ChoiceKept k l rows news u s → Chosen l u s
chosen_kept k l rows news u s c h = record {
  stands = h.stands;
  reached = h.reached;
  columns = subst (λ w. all (shows w) s.columns ≡ true) (sym h.window) c.columns;
  tests = subst (λ w. all (λ q. shows w q.on.number) s.tests ≡ true) (sym h.window) c.tests;
}

place_kept : (k l : Catalogue) (rows news : Rows) (u : Id) (s : Choice) (i : ℕ) → ChoiceKept k l rows news u s →
    StandsAt (rows_behind rows (through k s)) (through k s) i → StandsAt (rows_behind news (through l s)) (through l s) i
place_kept k l rows news u s i h p =
    subst (λ w. StandsAt (rows_behind news w) w i) (sym h.window) (subst (λ r. StandsAt r (through k s) i) (sym h.rows) p)

-- A cursor whose object stands stays where it is, if its choice is kept; every other is dropped.
pub cursor_sound : (k l : Catalogue) (rows news : Rows) (u : Option Id) (c : Cursor) → Pointed k u rows c →
    ((v : Id) (s : Choice) → u ≡ Some v → Chosen k v s → stands l.objects.records s.object ≡ true → ChoiceKept k l rows news v s) →
    Pointed l u news (cursor_kept l.objects.records c)
unfolding cursor_kept
cursor_sound k l rows news None absent p h = tt
cursor_sound k l rows news None (declared s) p h = absurd p
cursor_sound k l rows news None (on_row s i) p h = absurd p
cursor_sound k l rows news None (ended s) p h = absurd p
cursor_sound k l rows news (Some u) absent p h = tt
cursor_sound k l rows news (Some u) (declared s) p h = go (stands l.objects.records s.object) refl
  where
    go : (b : Bool) → stands l.objects.records s.object ≡ b → Pointed l (Some u) news (cond b (declared s) absent)
    go true e = chosen_kept k l rows news u s p (h u s refl p e)
    go false e = tt
cursor_sound k l rows news (Some u) (on_row s i) p h = go (stands l.objects.records s.object) refl
  where
    go : (b : Bool) → stands l.objects.records s.object ≡ b → Pointed l (Some u) news (cond b (on_row s i) absent)
    go true e = let q = h u s refl p.0 e in (chosen_kept k l rows news u s p.0 q, place_kept k l rows news u s i q p.1)
    go false e = tt
cursor_sound k l rows news (Some u) (ended s) p h = go (stands l.objects.records s.object) refl
  where
    go : (b : Bool) → stands l.objects.records s.object ≡ b → Pointed l (Some u) news (cond b (ended s) absent)
    go true e = chosen_kept k l rows news u s p (h u s refl p e)
    go false e = tt

-- rows behind a window are those of its table
pub behind_same : (rows news : Rows) (w : Window) → ((n : Bytes) → w.table ≡ Some n → news n ≡ rows n) → rows_behind news w ≡ rows_behind rows w
unfolding rows_behind
behind_same rows news w h = go w.table h
  where
    go : (t : Option Bytes) → ((n : Bytes) → t ≡ Some n → news n ≡ rows n) →
        rows_behind news (record { name = w.name; table = t; held = w.held; columns = w.columns; tests = w.tests })
        ≡ rows_behind rows (record { name = w.name; table = t; held = w.held; columns = w.columns; tests = w.tests })
    go None h = refl
    go (Some n) h = h n refl
