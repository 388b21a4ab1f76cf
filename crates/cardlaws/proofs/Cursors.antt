-- The commands of the cursor keep a card sound: DECLARE CURSOR, OPEN, NEXT, FETCH and FETCH NEXT.
use Rattle.std.proofs.Common.{◌≡◌, ℕ, suc, true, eqb, leb, List, [], ◌∷◌, length, get_or, Some, None, Option, sym, refl, subst, ⊎_elim}
use Rattle.std.proofs.lemmas.Bool.{and_parts, and_from, eq-eqb}
use Rattle.text.specs.Operator.{coded_by}
use Rattle.fields.specs.Reader.{Parameter}
use Rattle.commands.specs.Command.{Selected}
use Rattle.cardmodel.specs.Lists.{all, somes}
use Rattle.cardmodel.specs.State.{Bytes, Id, Object, Rows, Choice, Cursor, absent, declared, on_row, ended, Card}
use Rattle.cardmodel.specs.Objects.{object_named, Window, window, shows, shown_column, numbers_of, tests_of, passes, meets, rows_behind}
use Rattle.cardmodel.specs.Rights.{may, reaches}
use Rattle.cardmodel.specs.Verdict.{passed, unless, gives, le_short}
use Rattle.cardmodel.specs.CatalogueRules.{first_foreign, names_in}
use Rattle.cardmodel.specs.CursorRules.{Step, moved, through, selected, next_selected, gone_to, choice_of, declaring, opening, nexting, fetching, fetching_next}
use Rattle.cardmodel.specs.Answer.{Capacities}
use Rattle.cardmodel.proofs.Lists.{any-In, all_true_from, next_place_is}
use Rattle.cardmodel.proofs.Checks.{Holds, holds_unless, holds_unless_at, holds_found}
use Rattle.cardmodel.proofs.Options.{option_cases}
use Rattle.cardlaws.specs.Sound.{Chosen, StandsAt, Pointed, Sound}
use Rattle.cardlaws.proofs.Rows.{shown_placed}
use Rattle.cardlaws.proofs.Steps.{with_cursor, cursor_now}
use Rattle.cardlaws.proofs.Windows.{object_found}

-- the next selected row is one that the window shows
pub next_stands : (w : Window) (s : Choice) (rows : Rows) (k i : ℕ) → next_selected w s rows k ≡ Some i → StandsAt (rows_behind rows w) w i
unfolding next_selected selected
next_stands w s rows k i e =
    let r = next_place_is (selected w s.tests) (rows_behind rows w) k i [] e in
    record { place = r.0; shown = (and_parts (meets w (get_or (rows_behind rows w) i [])) (all (passes (get_or (rows_behind rows w) i [])) s.tests) r.1).0 }

-- what is chosen through a window is shown by it
columns_shown : (w : Window) → all (shows w) w.columns ≡ true
unfolding shows
columns_shown w = all_true_from (shows w) w.columns (λ n i. any-In (eqb n) i (eq-eqb n n refl))

numbers_shown : (w : Window) (ps : List Parameter) → all (shows w) (numbers_of (shown_column w) ps) ≡ true
numbers_shown w [] = refl
numbers_shown w (p ∷ ps) = ⊎_elim
    (λ f. rw f (numbers_shown w ps))
    (λ r. rw r.1 (and_from _ _ (shown_placed w p.bytes r.0 r.1).1 (numbers_shown w ps)))
    (option_cases (shown_column w p.bytes))

tests_shown : (w : Window) (ps : List Parameter) → all (λ q. shows w q.on.number) (somes (tests_of (shown_column w) ps)) ≡ true
tests_shown w [] = refl
tests_shown w (a ∷ []) = refl
tests_shown w (a ∷ (b ∷ [])) = refl
tests_shown w (a ∷ (b ∷ (s ∷ ps))) = ⊎_elim
    (λ f. rw f (tests_shown w ps))
    (λ r. ⊎_elim
    (λ g. rw (r.1, g) (tests_shown w ps))
    (λ o. rw (r.1, o.1) (and_from _ _ (shown_placed w a.bytes r.0 r.1).1 (tests_shown w ps)))
    (option_cases (coded_by (get_or b.bytes 0 0))))
    (option_cases (shown_column w a.bytes))

chosen_shown : (w : Window) (o : Object) (t : Parameter) (cs qs : List Parameter) → all (shows w) (choice_of w o (record { source = t; columns = cs; conditions = qs })).columns ≡ true
chosen_shown w o t [] qs = columns_shown w
chosen_shown w o t (p ∷ ps) qs = numbers_shown w (p ∷ ps)

module _ (total : ℕ) (z : Capacities) (c : Card) (u : Id) (sound : Sound total z c) (present : c.current ≡ Some u) where
  abbrev Good : Step → Type 0
  Good x = Sound total z (moved c x)

  -- a place that was looked for in the rows as they are
  gone_sound : (s : Choice) → Chosen c.catalogue u s → (o : Option ℕ) → ((i : ℕ) → o ≡ Some i → StandsAt (rows_behind c.rows (through c.catalogue s)) (through c.catalogue s) i) →
      Holds Good (gone_to c.rows s o)
  gone_sound s h None f = with_cursor total z c u sound present (ended s) h
  gone_sound s h (Some i) f = with_cursor total z c u sound present (on_row s i) (h, f i refl)

  next_sound : (s : Choice) → Chosen c.catalogue u s → (k : ℕ) → Holds Good (gone_to c.rows s (next_selected (through c.catalogue s) s c.rows k))
  next_sound s h k = gone_sound s h _ (λ i e. next_stands (through c.catalogue s) s c.rows k i e)

  -- OPEN, NEXT
  pub opening_sound : Holds (λ x. Sound total z (moved c x)) (opening c.catalogue c.rows c.cursor)
  unfolding opening
  opening_sound = go c.cursor (cursor_now total z c u sound present)
    where
      go : (p : Cursor) → Pointed c.catalogue (Some u) c.rows p → Holds Good (opening c.catalogue c.rows p)
      go absent h = tt
      go (declared s) h = next_sound s h 0
      go (on_row s i) h = next_sound s h.0 0
      go (ended s) h = next_sound s h 0

  pub nexting_sound : Holds (λ x. Sound total z (moved c x)) (nexting c.catalogue c.rows c.cursor)
  unfolding nexting
  nexting_sound = go c.cursor (cursor_now total z c u sound present)
    where
      go : (p : Cursor) → Pointed c.catalogue (Some u) c.rows p → Holds Good (nexting c.catalogue c.rows p)
      go absent h = tt
      go (declared s) h = tt
      go (on_row s i) h = next_sound s h.0 (suc i)
      go (ended s) h = with_cursor total z c u sound present (ended s) h

  -- FETCH, FETCH NEXT: the row that is given is the cursor's
  given_sound : (s : Choice) → Chosen c.catalogue u s → (i le : ℕ) (bytes : Bytes) → StandsAt (rows_behind c.rows (through c.catalogue s)) (through c.catalogue s) i →
      Holds Good (unless (leb (length bytes) le) (le_short (length bytes)) (passed (record { rows = c.rows; cursor = on_row s i; outcome = gives bytes })))
  given_sound s h i le bytes p = holds_unless Good (leb (length bytes) le) _ _ (λ e. with_cursor total z c u sound present (on_row s i) (h, p))

  pub fetching_sound : (le : ℕ) → Holds (λ x. Sound total z (moved c x)) (fetching c.catalogue u c.rows c.cursor le)
  unfolding fetching
  fetching_sound le = go c.cursor (cursor_now total z c u sound present)
    where
      go : (p : Cursor) → Pointed c.catalogue (Some u) c.rows p → Holds Good (fetching c.catalogue u c.rows p le)
      go absent h = tt
      go (declared s) h = tt
      go (on_row s i) h = holds_unless Good (may c.catalogue.privileges.records u s.object (λ r. r.select)) _ _ (λ e. given_sound s h.0 i le _ h.1)
      go (ended s) h = tt

  pub fetching_next_sound : (le : ℕ) → Holds (λ x. Sound total z (moved c x)) (fetching_next c.catalogue u c.rows c.cursor le)
  unfolding fetching_next
  fetching_next_sound le = go c.cursor (cursor_now total z c u sound present)
    where
      go : (p : Cursor) → Pointed c.catalogue (Some u) c.rows p → Holds Good (fetching_next c.catalogue u c.rows p le)
      go absent h = tt
      go (declared s) h = tt
      go (on_row s i) h =
          holds_unless Good (may c.catalogue.privileges.records u s.object (λ r. r.select)) _ _
          (λ e. ⊎_elim
          (λ f. rw f (with_cursor total z c u sound present (ended s) h.0))
          (λ r. rw r.1 (given_sound s h.0 r.0 le _ (next_stands (through c.catalogue s) s c.rows (suc i) r.0 r.1)))
          (option_cases (next_selected (through c.catalogue s) s c.rows (suc i))))
      go (ended s) h =
          holds_unless Good (may c.catalogue.privileges.records u s.object (λ r. r.select)) _ _ (λ e. with_cursor total z c u sound present (ended s) h)

  -- DECLARE CURSOR
  pub declaring_sound : (s : Selected) → Holds (λ x. Sound total z (moved c x)) (declaring c.catalogue u c.rows s)
  unfolding declaring
  declaring_sound s =
      holds_found Good (object_named c.catalogue.objects.records s.source.bytes) _ _ (λ o e.
      holds_unless Good (reaches c.catalogue.privileges.records u o) _ _ (λ r.
      holds_unless_at Good (first_foreign (window c.catalogue.objects.records o) (names_in s)) _ _ (λ f.
      let w = window c.catalogue.objects.records o in
      let n = (object_found c.catalogue.objects.records s.source.bytes o e).1 in
      with_cursor total z c u sound present (declared (choice_of w o s))
      (record {
        stands = subst (λ x. object_named c.catalogue.objects.records x ≡ Some o) (sym n) e;
        reached = r;
        columns = chosen_shown w o s.source s.columns s.conditions;
        tests = tests_shown w s.conditions;
      }))))
