-- Two cards that a user cannot tell apart.
use Rattle.std.proofs.Common.{◌≡◌, ℕ, ◌<◌, true, List, [], length, get_or, Some, None, sym, ◌∙◌, subst}
use Rattle.std.specs.List.{AllByRecursion}
use Rattle.cardmodel.specs.State.{Bytes, Id, Row, Object, Catalogue, Rows, Choice, Cursor, absent, declared, on_row, ended, Card}
use Rattle.cardmodel.specs.Objects.{is_table, table_named, columns_in, Window, window, meets, rows_behind}
use Rattle.cardmodel.specs.Rights.{reaches}
use Rattle.cardmodel.specs.CursorRules.{through}
use Rattle.cardmodel.specs.Answer.{Capacities}
use Rattle.cardmodel.specs.Sight.{reached}
use Rattle.cardmodel.proofs.Lists.{In, all-In, nth, nth_below}
use Rattle.cardlaws.specs.Sound.{Apart, one_name, Formed, RowOf, RowsOf, Chosen, StandsAt, Pointed, Sound}
use Rattle.cardlaws.proofs.Rows.{row_length}
use Rattle.cardlaws.proofs.Windows.{object_found}
use Rattle.secrecy.proofs.Ranks.{rank, nth_seen}
use Rattle.secrecy.proofs.Looks.{look, visible, visible-In, sees, rows_equal, rank_table}
use Rattle.secrecy.proofs.Bases.{spoken, table_spoken, behind_spoken, reached-In}

-- how many visible rows stand before a place
abbrev pub before : Catalogue → Id → Bytes → List Row → ℕ → ℕ
before k u t rs i = rank visible (look (reached k u t)) rs i

-- equal sight of the rows, in a catalogue that both cards have
abbrev pub Seen : Catalogue → Id → Rows → Rows → Type 0
Seen k u f g = (t : Bytes) → sees (reached k u t) (f t) ≡ sees (reached k u t) (g t)

-- cursors with one declaration, on rows behind equally many visible ones
pub data Matched (k : Catalogue) (u : Id) (f g : Rows) : Cursor → Cursor → Type 0 where
  both_absent : Matched k u f g absent absent
  both_declared : (s : Choice) → Matched k u f g (declared s) (declared s)
  both_ended : (s : Choice) → Matched k u f g (ended s) (ended s)
  both_on : (s : Choice) (i j : ℕ) → before k u (spoken s.object) (f (spoken s.object)) i ≡ before k u (spoken s.object) (g (spoken s.object)) j →
      Matched k u f g (on_row s i) (on_row s j)

-- what is used of a sound card
pub record Fit (k : Catalogue) (u : Id) (f : Rows) (c : Cursor) : Type 0 where
  pub names : Apart one_name k.objects.records
  pub objects : AllByRecursion (Formed k.objects.records) k.objects.records
  pub rows : AllByRecursion (RowsOf f) k.objects.records
  pub elsewhere : (t : Bytes) → table_named k.objects.records t ≡ None → f t ≡ []
  pub cursor : Pointed k (Some u) f c

pub sound_fit : (total : ℕ) (z : Capacities) (c : Card) (u : Id) → Sound total z c → c.current ≡ Some u → Fit c.catalogue u c.rows c.cursor
sound_fit total z c u s e = record {
  names = s.names;
  objects = s.objects;
  rows = s.rows;
  elsewhere = s.elsewhere;
  cursor = subst (λ x. Pointed c.catalogue x c.rows c.cursor) e s.cursor;
}

-- a cursor's object is reached
pub chosen-In : (k : Catalogue) (u : Id) (s : Choice) → Chosen k u s → In (through k s) (reached k u (spoken s.object))
chosen-In k u s h = reached-In k u s.object (object_found k.objects.records s.object.name s.object h.stands).0 h.reached

-- a row that a window shows stands at a place
pub record At (w : Window) (rs : List Row) (i : ℕ) : Type 0 where
  pub row : Row
  pub stands : nth rs i ≡ Some row
  pub meet : meets w row ≡ true

pub pointed_at : (k : Catalogue) (u : Id) (f : Rows) (s : Choice) (i : ℕ) → StandsAt (rows_behind f (through k s)) (through k s) i → At (through k s) (f (spoken s.object)) i
pointed_at k u f s i h =
    subst (λ rs. At (through k s) rs i) (behind_spoken f k.objects.records s.object)
    (record { row = get_or (rows_behind f (through k s)) i []; stands = nth_below (rows_behind f (through k s)) i [] h.place; meet = h.shown })

-- the rows at the two cursors look alike
pub looks_alike : (k : Catalogue) (u : Id) (t : Bytes) (w : Window) (rs ss : List Row) (i j : ℕ) → In w (reached k u t) → (x : At w rs i) (y : At w ss j) →
    sees (reached k u t) rs ≡ sees (reached k u t) ss → before k u t rs i ≡ before k u t ss j → look (reached k u t) x.row ≡ look (reached k u t) y.row
looks_alike k u t w rs ss i j h x y q e =
    let a = nth_seen visible (look (reached k u t)) rs i x.row x.stands (visible-In x.row h x.meet) in
    let b = nth_seen visible (look (reached k u t)) ss j y.row y.stands (visible-In y.row h y.meet) in
    Rattle.cardmodel.proofs.Lists.some_inj (sym a ∙ rw (q, e) b)

-- A TABLE THAT THE USER REACHES ITSELF: its rows are equal on both cards, and so are places in it
pub record Whole (k : Catalogue) (u : Id) (t : Bytes) : Type 0 where
  pub object : Object
  pub stands : In object k.objects.records
  pub reach : reaches k.privileges.records u object ≡ true
  pub table : is_table object ≡ true
  pub named : object.name ≡ t

pub whole-In : {k : Catalogue} {u : Id} {t : Bytes} (w : Whole k u t) → In (window k.objects.records w.object) (reached k u t)
whole-In {k} {u} {t} w =
    subst (λ n. In (window k.objects.records w.object) (reached k u n)) (table_spoken w.object w.table ∙ w.named) (reached-In k u w.object w.stands w.reach)

-- rows of a table have a cell for each of its columns
pub rows_length : (k : Catalogue) (f : Rows) → AllByRecursion (RowsOf f) k.objects.records → (o : Object) → In o k.objects.records → is_table o ≡ true →
    (r : Row) → In r (f o.name) → length r ≡ length (columns_in o.definition)
rows_length k f a o i t r j = row_length (columns_in o.definition) r (all-In (RowOf (columns_in o.definition)) (all-In (RowsOf f) a i t).cells j)

module _ {k : Catalogue} {u : Id} {t : Bytes} (w : Whole k u t) where
  pub whole_length : (f : Rows) → AllByRecursion (RowsOf f) k.objects.records → (r : Row) → In r (f t) → length r ≡ length (columns_in w.object.definition)
  whole_length f a r i = rows_length k f a w.object w.stands w.table r (subst (λ n. In r (f n)) (sym w.named) i)

  pub whole_rows : (f g : Rows) → AllByRecursion (RowsOf f) k.objects.records → AllByRecursion (RowsOf g) k.objects.records → Seen k u f g → f t ≡ g t
  whole_rows f g a b q = rows_equal k.objects.records w.object w.table (whole-In w) (f t) (g t) (whole_length f a) (whole_length g b) (q t)

  pub whole_place : (rs ss : List Row) (i j : ℕ) → i < length rs → j < length ss → before k u t rs i ≡ before k u t ss j → i ≡ j
  whole_place rs ss i j p q e =
      sym (rank_table k.objects.records w.object w.table (whole-In w) rs i p) ∙ e ∙ rank_table k.objects.records w.object w.table (whole-In w) ss j q
