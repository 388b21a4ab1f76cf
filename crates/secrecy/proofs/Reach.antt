-- The commands of the cursor and of rows, on two cards with one catalogue and cursor and equal rows within reach: they
-- tell the same and make the same of the rows within reach, and the other rows they leave.
use Rattle.std.proofs.Common.{◌≡◌, ℕ, suc, Bool, true, false, cond, eqb, leb, List, [], ◌∷◌, ◌++◌, length, get_or, Some, None, Option, sym, refl, ap, ◌∙◌, subst}
use Rattle.std.specs.List.{remove}
use Rattle.std.proofs.lemmas.Bool.{both_ways}
use Rattle.fields.specs.Reader.{Parameter}
use Rattle.commands.specs.Command.{Selected}
use Rattle.cardmodel.specs.Lists.{somes, next_place}
use Rattle.cardmodel.specs.State.{Bytes, Id, Row, Object, Catalogue, Rows, Choice, Cursor, absent, declared, on_row, ended}
use Rattle.cardmodel.specs.Objects.{same, limit_of, object_named, table_named, columns_in, Window, window, shown_column, rows_behind}
use Rattle.cardmodel.specs.Rights.{may, reaches}
use Rattle.cardmodel.specs.Verdict.{Checked, passed, unless, unless_at, gives, repeated, store_refuses}
use Rattle.cardmodel.specs.Storing.{appends, replaces, removes}
use Rattle.cardmodel.specs.CatalogueRules.{with_rows, first_foreign, names_in}
use Rattle.cardmodel.specs.CursorRules.{Step, through, selected, next_selected, gone_to, declaring, opening, nexting, fetched, giving, fetching, giving_next, fetching_next, Write, first_long, first_repeated, row_writes, strings_of, inserting, writes_of, assigned_columns, barred_at, written, with_rows_behind, updated, updating, deleted, deleting}
use Rattle.cardmodel.specs.Sight.{reached}
use Rattle.cardmodel.proofs.Checks.{Both, both_unless, both_unless_at, both_found}
use Rattle.cardmodel.proofs.Lists.{In}
use Rattle.cardmodel.proofs.Names.{same_true}
use Rattle.cardmodel.proofs.Rights.{right_reaches, insert_some}
use Rattle.cardlaws.specs.Sound.{Chosen, Pointed}
use Rattle.cardlaws.proofs.Windows.{table_found}
use Rattle.secrecy.specs.Locality.{reaches_table}
use Rattle.secrecy.proofs.Bases.{spoken, window_table, behind_spoken}
use Rattle.secrecy.proofs.Linked.{chosen-In, Whole, whole-In}

-- what some reached window is of, is reached
pub In-reaches : (k : Catalogue) (u : Id) (t : Bytes) (w : Window) → In w (reached k u t) → reaches_table k u t ≡ true
In-reaches k u t w i = go (reached k u t) refl i
  where
    go : (vs : List Window) → reached k u t ≡ vs → In w vs → reaches_table k u t ≡ true
    go [] e j = elim j [ ]
    go (v ∷ vs) e j = rw e refl

pub whole_reaches : {k : Catalogue} {u : Id} {t : Bytes} → Whole k u t → reaches_table k u t ≡ true
whole_reaches {k} {u} {t} w = In-reaches k u t _ (whole-In w)

pub chosen_reaches : (k : Catalogue) (u : Id) (s : Choice) → Chosen k u s → reaches_table k u (spoken s.object) ≡ true
chosen_reaches k u s h = In-reaches k u (spoken s.object) (through k s) (chosen-In k u s h)

-- equal rows in each table within reach; equal rows in each table out of reach
abbrev pub Within : Catalogue → Id → Rows → Rows → Type 0
Within k u f g = (t : Bytes) → reaches_table k u t ≡ true → f t ≡ g t

abbrev pub Beyond : Catalogue → Id → Rows → Rows → Type 0
Beyond k u f g = (t : Bytes) → reaches_table k u t ≡ false → f t ≡ g t

-- Two steps, the first from rows f: they tell the same, leave one cursor and equal rows within reach, and the first
-- leaves the rows out of reach.
pub record Local (k : Catalogue) (u : Id) (f : Rows) (x y : Step) : Type 0 where
  pub told : x.outcome ≡ y.outcome
  pub cursor : x.cursor ≡ y.cursor
  pub within : Within k u x.rows y.rows
  pub beyond : Beyond k u x.rows f

-- rows of one table are replaced on both cards
module _ (k : Catalogue) (u : Id) (f g : Rows) (q : Within k u f g) where
  put_within : (n : Bytes) (rs : List Row) → Within k u (with_rows f n rs) (with_rows g n rs)
  put_within n rs t r = elim (same t n) as (λ b. cond b rs (f t) ≡ cond b rs (g t)) [ true ↦ refl | false ↦ q t r ]

  put_beyond : (n : Bytes) (rs : List Row) → reaches_table k u n ≡ true → Beyond k u (with_rows f n rs) f
  put_beyond n rs r t e = go (same t n) refl
    where
      go : (b : Bool) → same t n ≡ b → cond b rs (f t) ≡ f t
      go true s = absurd (both_ways (reaches_table k u t) e (subst (λ z. reaches_table k u z ≡ true) (sym (same_true t n s)) r))
      go false s = refl

  -- those behind a choice
  behind_within : (s : Choice) (rs : List Row) → Within k u (with_rows_behind f (through k s).table rs) (with_rows_behind g (through k s).table rs)
  behind_within s rs = rw (window_table k.objects.records s.object) (put_within (spoken s.object) rs)

  behind_beyond : (s : Choice) (rs : List Row) → Chosen k u s → Beyond k u (with_rows_behind f (through k s).table rs) f
  behind_beyond s rs h = rw (window_table k.objects.records s.object) (put_beyond (spoken s.object) rs (chosen_reaches k u s h))

  behind_equal : (s : Choice) → Chosen k u s → rows_behind f (through k s) ≡ rows_behind g (through k s)
  behind_equal s h =
      behind_spoken f k.objects.records s.object ∙ q (spoken s.object) (chosen_reaches k u s h) ∙ sym (behind_spoken g k.objects.records s.object)

  next_equal : (s : Choice) → Chosen k u s → (n : ℕ) → next_selected (through k s) s f n ≡ next_selected (through k s) s g n
  unfolding next_selected
  next_equal s h n = ap (λ rs. next_place (selected (through k s) s.tests) rs n) (behind_equal s h)

  -- a cursor that goes to one place, and to the next row
  module _ (before : Rows) (b : Beyond k u f before) where
    gone_local : (s : Choice) (o : Option ℕ) → Both (Local k u before) (gone_to f s o) (gone_to g s o)
    gone_local s None = record { told = refl; cursor = refl; within = q; beyond = b }
    gone_local s (Some i) = record { told = refl; cursor = refl; within = q; beyond = b }

    next_local : (s : Choice) → Chosen k u s → (n : ℕ) → Both (Local k u before) (gone_to f s (next_selected (through k s) s f n)) (gone_to g s (next_selected (through k s) s g n))
    next_local s h n = rw (next_equal s h n) (gone_local s (next_selected (through k s) s g n))

-- EACH COMMAND
module _ (k : Catalogue) (u : Id) (f g : Rows) (q : Within k u f g) where
  abbrev Steps : Step → Step → Type 0
  Steps = Local k u f

  -- the cursor alone
  stay : Beyond k u f f
  stay t e = refl

  -- DECLARE CURSOR
  pub declaring_local : (s : Selected) → Both Steps (declaring k u f s) (declaring k u g s)
  unfolding declaring
  declaring_local s =
      both_found Steps (object_named k.objects.records s.source.bytes) _ _ _ (λ o _.
      both_unless Steps (reaches k.privileges.records u o) _ _ _ (λ _.
      both_unless_at Steps (first_foreign (window k.objects.records o) (names_in s)) _ _ _ (λ _.
      record { told = refl; cursor = refl; within = q; beyond = stay })))

  -- OPEN
  pub opening_local : (c : Cursor) → Pointed k (Some u) f c → Both Steps (opening k f c) (opening k g c)
  unfolding opening
  opening_local absent h = refl
  opening_local (declared s) h = next_local k u f g q f stay s h 0
  opening_local (on_row s i) h = next_local k u f g q f stay s h.0 0
  opening_local (ended s) h = next_local k u f g q f stay s h 0

  -- NEXT
  pub nexting_local : (c : Cursor) → Pointed k (Some u) f c → Both Steps (nexting k f c) (nexting k g c)
  unfolding nexting
  nexting_local absent h = refl
  nexting_local (declared s) h = refl
  nexting_local (on_row s i) h = next_local k u f g q f stay s h.0 (suc i)
  nexting_local (ended s) h = gone_local k u f g q f stay s None

  -- FETCH
  giving_local : (s : Choice) → Chosen k u s → (i le : ℕ) → Both Steps (giving (through k s) f s i le) (giving (through k s) g s i le)
  giving_local s h i le =
      rw (behind_equal k u f g q s h)
      (both_unless Steps (leb (length (fetched s (get_or (rows_behind g (through k s)) i []))) le) _ _ _ (λ _. record { told = refl; cursor = refl; within = q; beyond = stay }))

  pub fetching_local : (c : Cursor) (le : ℕ) → Pointed k (Some u) f c → Both Steps (fetching k u f c le) (fetching k u g c le)
  unfolding fetching
  fetching_local absent le h = refl
  fetching_local (declared s) le h = refl
  fetching_local (on_row s i) le h = both_unless Steps (may k.privileges.records u s.object (λ r. r.select)) _ _ _ (λ _. giving_local s h.0 i le)
  fetching_local (ended s) le h = refl

  -- FETCH NEXT
  giving_next_local : (s : Choice) → Chosen k u s → (le : ℕ) (o : Option ℕ) → Both Steps (giving_next (through k s) f s le o) (giving_next (through k s) g s le o)
  giving_next_local s h le None = gone_local k u f g q f stay s None
  giving_next_local s h le (Some i) = giving_local s h i le

  pub fetching_next_local : (c : Cursor) (le : ℕ) → Pointed k (Some u) f c → Both Steps (fetching_next k u f c le) (fetching_next k u g c le)
  unfolding fetching_next
  fetching_next_local absent le h = refl
  fetching_next_local (declared s) le h = refl
  fetching_next_local (on_row s i) le h =
      both_unless Steps (may k.privileges.records u s.object (λ r. r.select)) _ _ _ (λ _.
      rw (next_equal k u f g q s h.0 (suc i)) (giving_next_local s h.0 le (next_selected (through k s) s g (suc i))))
  fetching_next_local (ended s) le h = both_unless Steps (may k.privileges.records u s.object (λ r. r.select)) _ _ _ (λ _. gone_local k u f g q f stay s None)

  -- INSERT
  pub inserting_local : (c : Cursor) (name : Parameter) (count : ℕ) (strings : List Parameter) → Both Steps (inserting k u f c name count strings) (inserting k u g c name count strings)
  unfolding inserting
  inserting_local c name count strings =
      both_found Steps (table_named k.objects.records name.bytes) _ _ _ (λ t found.
      both_unless Steps (may k.privileges.records u t (λ r. r.insert)) _ _ _ (λ m.
      both_unless Steps (eqb (length strings) (length (columns_in t.definition))) _ _ _ (λ _.
      both_unless_at Steps (first_long (row_writes 0 (columns_in t.definition) strings)) _ _ _ (λ _.
      let r = table_found k.objects.records name.bytes t found in
      go t (whole_reaches (record {
        object = t;
        stands = r.0;
        reach = right_reaches k.privileges.records u t (λ r. r.insert) insert_some m;
        table = r.2;
        named = r.1;
      }))))))
    where
      rest : Rows → List Row → Object → Checked Step
      rest rows rs t =
          unless_at (first_repeated rs (row_writes 0 (columns_in t.definition) strings)) repeated
          (unless (appends (limit_of t.kind) rs (strings_of strings)) store_refuses
          (passed (record { rows = with_rows rows name.bytes (rs ++ (strings_of strings ∷ [])); cursor = c; outcome = gives [] })))

      go : (t : Object) → reaches_table k u name.bytes ≡ true → Both Steps (rest f (f name.bytes) t) (rest g (g name.bytes) t)
      go t r =
          subst (λ rs. Both Steps (rest f rs t) (rest g (g name.bytes) t)) (sym (q name.bytes r))
          (both_unless_at Steps (first_repeated (g name.bytes) (row_writes 0 (columns_in t.definition) strings)) _ _ _ (λ _.
          both_unless Steps (appends (limit_of t.kind) (g name.bytes) (strings_of strings)) _ _ _ (λ _.
          record { told = refl; cursor = refl; within = put_within k u f g q name.bytes _; beyond = put_beyond k u f g q name.bytes _ r })))

  -- UPDATE
  updated_local : (s : Choice) → Chosen k u s → (i : ℕ) (rs : List Row) (ws : List Write) → Both Steps (updated k f s i rs ws) (updated k g s i rs ws)
  updated_local s h i rs ws =
      both_unless_at Steps (barred_at k.objects.records s.object ws) _ _ _ (λ _.
      both_unless_at Steps (first_long ws) _ _ _ (λ _.
      both_unless_at Steps (first_repeated (remove rs i) ws) _ _ _ (λ _.
      both_unless Steps (replaces rs i (written ws (get_or rs i []))) _ _ _ (λ _.
      record { told = refl; cursor = refl; within = behind_within k u f g q s _; beyond = behind_beyond k u f g q s _ h }))))

  pub updating_local : (c : Cursor) (ps : List Parameter) → Pointed k (Some u) f c → Both Steps (updating k u f c ps) (updating k u g c ps)
  unfolding updating
  updating_local absent ps h = refl
  updating_local (declared s) ps h = refl
  updating_local (on_row s i) ps h =
      both_unless Steps (may k.privileges.records u s.object (λ r. r.update)) _ _ _ (λ _.
      both_unless_at Steps (first_foreign (through k s) (assigned_columns ps)) _ _ _ (λ _.
      rw (behind_equal k u f g q s h.0) (updated_local s h.0 i (rows_behind g (through k s)) (somes (writes_of (shown_column (through k s)) ps)))))
  updating_local (ended s) ps h = refl

  -- DELETE
  deleted_local : (s : Choice) → Chosen k u s → (i : ℕ) (rs : List Row) →
      Both Steps (deleted (through k s) (with_rows_behind f (through k s).table rs) s i) (deleted (through k s) (with_rows_behind g (through k s).table rs) s i)
  deleted_local s h i rs =
      next_local k u (with_rows_behind f (through k s).table rs) (with_rows_behind g (through k s).table rs) (behind_within k u f g q s rs) f (behind_beyond k u f g q s rs h) s h i

  pub deleting_local : (c : Cursor) → Pointed k (Some u) f c → Both Steps (deleting k u f c) (deleting k u g c)
  unfolding deleting
  deleting_local absent h = refl
  deleting_local (declared s) h = refl
  deleting_local (on_row s i) h =
      both_unless Steps (may k.privileges.records u s.object (λ r. r.delete)) _ _ _ (λ _.
      rw (behind_equal k u f g q s h.0)
      (both_unless Steps (removes (rows_behind g (through k s)) i) _ _ _ (λ _. deleted_local s h.0 i (remove (rows_behind g (through k s)) i))))
  deleting_local (ended s) h = refl
