-- The commands of the cursor on two cards: they tell the same, and leave the cards alike.
use Rattle.std.proofs.Common.{◌≡◌, ℕ, suc, leb, [], length, get_or, Some, None, Option, sym, refl, ap, ◌∙◌}
use Rattle.std.specs.Option.{option_map}
use Rattle.commands.specs.Command.{Selected}
use Rattle.cardmodel.specs.Lists.{next_place}
use Rattle.cardmodel.specs.State.{Bytes, Id, Catalogue, Rows, Choice, Cursor}
use Rattle.cardmodel.specs.Objects.{object_named, window, rows_behind}
use Rattle.cardmodel.specs.Rights.{may, reaches}
use Rattle.cardmodel.specs.CatalogueRules.{first_foreign, names_in}
use Rattle.cardmodel.specs.CursorRules.{Step, through, selected, next_selected, gone_to, declaring, opening, nexting, fetched, fitted, giving, fetching, giving_next, fetching_next}
use Rattle.cardmodel.specs.Sight.{reached}
use Rattle.cardmodel.proofs.Checks.{Both, both_unless, both_unless_at, both_found}
use Rattle.cardmodel.proofs.Lists.{none_some, some_inj, nth-get_or}
use Rattle.cardlaws.specs.Sound.{Chosen}
use Rattle.cardlaws.proofs.Cursors.{next_stands}
use Rattle.secrecy.proofs.Ranks.{rank_suc}
use Rattle.secrecy.proofs.Looks.{look, visible, visible-In}
use Rattle.secrecy.proofs.Told.{next_alike, fetched_alike}
use Rattle.secrecy.proofs.Bases.{spoken, behind_spoken}
use Rattle.secrecy.proofs.Linked.{before, Seen, Matched, both_absent, both_declared, both_ended, both_on, Fit, chosen-In, At, pointed_at, looks_alike}

-- two steps that agree: they tell the same, and leave equal sight and cursors that correspond
pub record Agree (k : Catalogue) (u : Id) (x y : Step) : Type 0 where
  pub told : x.outcome ≡ y.outcome
  pub seen : Seen k u x.rows y.rows
  pub cursors : Matched k u x.rows y.rows x.cursor y.cursor

module _ (k : Catalogue) (u : Id) where
  -- a cursor that goes to places which correspond
  pub gone_agree : (f g : Rows) → Seen k u f g → (s : Choice) (x y : Option ℕ) →
      option_map (before k u (spoken s.object) (f (spoken s.object))) x ≡ option_map (before k u (spoken s.object) (g (spoken s.object))) y →
      Both (Agree k u) (gone_to f s x) (gone_to g s y)
  gone_agree f g q s None None e = record { told = refl; seen = q; cursors = both_ended s }
  gone_agree f g q s None (Some j) e = absurd (none_some e)
  gone_agree f g q s (Some i) None e = absurd (none_some (sym e))
  gone_agree f g q s (Some i) (Some j) e = record { told = refl; seen = q; cursors = both_on s i j (some_inj e) }

  -- the next selected row, in the rows of the table
  pub next_is : (f : Rows) (s : Choice) (m : ℕ) → next_selected (through k s) s f m ≡ next_place (selected (through k s) s.tests) (f (spoken s.object)) m
  unfolding next_selected
  next_is f s m = ap (λ rs. next_place (selected (through k s) s.tests) rs m) (behind_spoken f k.objects.records s.object)

  next_corresponds : (f g : Rows) → Seen k u f g → (s : Choice) → Chosen k u s → (m n : ℕ) →
      before k u (spoken s.object) (f (spoken s.object)) m ≡ before k u (spoken s.object) (g (spoken s.object)) n →
      option_map (before k u (spoken s.object) (f (spoken s.object))) (next_selected (through k s) s f m)
      ≡ option_map (before k u (spoken s.object) (g (spoken s.object))) (next_selected (through k s) s g n)
  next_corresponds f g q s h m n e =
      rw (next_is f s m, next_is g s n)
      (next_alike (through k s) s.tests (chosen-In k u s h) h.tests (f (spoken s.object)) (g (spoken s.object)) m n (q (spoken s.object)) e)

  next_at : (f : Rows) (s : Choice) (m i : ℕ) → next_selected (through k s) s f m ≡ Some i → At (through k s) (f (spoken s.object)) i
  next_at f s m i e = pointed_at k u f s i (next_stands (through k s) s f m i e)

  -- one row further
  further : (f g : Rows) (s : Choice) → Chosen k u s → (i j : ℕ) → At (through k s) (f (spoken s.object)) i → At (through k s) (g (spoken s.object)) j →
      before k u (spoken s.object) (f (spoken s.object)) i ≡ before k u (spoken s.object) (g (spoken s.object)) j →
      before k u (spoken s.object) (f (spoken s.object)) (suc i) ≡ before k u (spoken s.object) (g (spoken s.object)) (suc j)
  further f g s h i j x y e =
      let v = look (reached k u (spoken s.object)) in
      rank_suc visible v (f (spoken s.object)) i x.row x.stands (visible-In x.row (chosen-In k u s h) x.meet)
      ∙ ap suc e ∙ sym (rank_suc visible v (g (spoken s.object)) j y.row y.stands (visible-In y.row (chosen-In k u s h) y.meet))

  -- a row that is given, if it fits
  giving_agree : (f g : Rows) → Seen k u f g → (s : Choice) → Chosen k u s → (i j le : ℕ) → At (through k s) (f (spoken s.object)) i → At (through k s) (g (spoken s.object)) j →
      before k u (spoken s.object) (f (spoken s.object)) i ≡ before k u (spoken s.object) (g (spoken s.object)) j →
      Both (Agree k u) (giving (through k s) f s i le) (giving (through k s) g s j le)
  giving_agree f g q s h i j le x y e = go (fetched s (get_or (rows_behind f (through k s)) i [])) (fetched s (get_or (rows_behind g (through k s)) j [])) bytes
    where
      at : (rows : Rows) (n : ℕ) (z : At (through k s) (rows (spoken s.object)) n) → get_or (rows_behind rows (through k s)) n [] ≡ z.row
      at rows n z = ap (λ rs. get_or rs n []) (behind_spoken rows k.objects.records s.object) ∙ nth-get_or (rows (spoken s.object)) n z.row [] z.stands

      bytes : fetched s (get_or (rows_behind f (through k s)) i []) ≡ fetched s (get_or (rows_behind g (through k s)) j [])
      bytes =
          rw (at f i x, at g j y)
          (fetched_alike s (through k s) (chosen-In k u s h) h.columns x.row y.row x.meet y.meet
          (looks_alike k u (spoken s.object) (through k s) (f (spoken s.object)) (g (spoken s.object)) i j (chosen-In k u s h) x y (q (spoken s.object)) e))

      go : (a b : Bytes) → a ≡ b →
          Both (Agree k u) (fitted f s i le a) (fitted g s j le b)
      go a b z = rw z (both_unless (Agree k u) (leb (length b) le) _ _ _ (λ _. record { told = refl; seen = q; cursors = both_on s i j e }))

  module _ (f g : Rows) (q : Seen k u f g) where
    -- OPEN
    opened_agree : (s : Choice) → Chosen k u s → Both (Agree k u) (gone_to f s (next_selected (through k s) s f 0)) (gone_to g s (next_selected (through k s) s g 0))
    opened_agree s h = gone_agree f g q s (next_selected (through k s) s f 0) (next_selected (through k s) s g 0) (next_corresponds f g q s h 0 0 refl)

    pub opening_agree : (c d : Cursor) → Fit k u f c → Fit k u g d → Matched k u f g c d → Both (Agree k u) (opening k f c) (opening k g d)
    unfolding opening
    opening_agree c d a b both_absent = refl
    opening_agree c d a b (both_declared s) = opened_agree s a.cursor
    opening_agree c d a b (both_ended s) = opened_agree s a.cursor
    opening_agree c d a b (both_on s i j e) = opened_agree s a.cursor.0

    -- NEXT
    pub nexting_agree : (c d : Cursor) → Fit k u f c → Fit k u g d → Matched k u f g c d → Both (Agree k u) (nexting k f c) (nexting k g d)
    unfolding nexting
    nexting_agree c d a b both_absent = refl
    nexting_agree c d a b (both_declared s) = refl
    nexting_agree c d a b (both_ended s) = record { told = refl; seen = q; cursors = both_ended s }
    nexting_agree c d a b (both_on s i j e) =
        gone_agree f g q s (next_selected (through k s) s f (suc i)) (next_selected (through k s) s g (suc j))
        (next_corresponds f g q s a.cursor.0 (suc i) (suc j) (further f g s a.cursor.0 i j (pointed_at k u f s i a.cursor.1) (pointed_at k u g s j b.cursor.1) e))

    -- FETCH
    pub fetching_agree : (c d : Cursor) (le : ℕ) → Fit k u f c → Fit k u g d → Matched k u f g c d → Both (Agree k u) (fetching k u f c le) (fetching k u g d le)
    unfolding fetching
    fetching_agree c d le a b both_absent = refl
    fetching_agree c d le a b (both_declared s) = refl
    fetching_agree c d le a b (both_ended s) = refl
    fetching_agree c d le a b (both_on s i j e) =
        both_unless (Agree k u) (may k.privileges.records u s.object (λ r. r.select)) _ _ _ (λ _.
        giving_agree f g q s a.cursor.0 i j le (pointed_at k u f s i a.cursor.1) (pointed_at k u g s j b.cursor.1) e)

    -- FETCH NEXT
    giving_next_agree : (s : Choice) → Chosen k u s → (le : ℕ) (x y : Option ℕ) →
        option_map (before k u (spoken s.object) (f (spoken s.object))) x ≡ option_map (before k u (spoken s.object) (g (spoken s.object))) y →
        ((i : ℕ) → x ≡ Some i → At (through k s) (f (spoken s.object)) i) → ((i : ℕ) → y ≡ Some i → At (through k s) (g (spoken s.object)) i) →
        Both (Agree k u) (giving_next (through k s) f s le x) (giving_next (through k s) g s le y)
    giving_next_agree s h le None None e p r = record { told = refl; seen = q; cursors = both_ended s }
    giving_next_agree s h le None (Some j) e p r = absurd (none_some e)
    giving_next_agree s h le (Some i) None e p r = absurd (none_some (sym e))
    giving_next_agree s h le (Some i) (Some j) e p r = giving_agree f g q s h i j le (p i refl) (r j refl) (some_inj e)

    pub fetching_next_agree : (c d : Cursor) (le : ℕ) → Fit k u f c → Fit k u g d → Matched k u f g c d → Both (Agree k u) (fetching_next k u f c le) (fetching_next k u g d le)
    unfolding fetching_next
    fetching_next_agree c d le a b both_absent = refl
    fetching_next_agree c d le a b (both_declared s) = refl
    fetching_next_agree c d le a b (both_ended s) =
        both_unless (Agree k u) (may k.privileges.records u s.object (λ r. r.select)) _ _ _ (λ _. record { told = refl; seen = q; cursors = both_ended s })
    fetching_next_agree c d le a b (both_on s i j e) =
        both_unless (Agree k u) (may k.privileges.records u s.object (λ r. r.select)) _ _ _ (λ _.
        giving_next_agree s a.cursor.0 le (next_selected (through k s) s f (suc i)) (next_selected (through k s) s g (suc j))
        (next_corresponds f g q s a.cursor.0 (suc i) (suc j) (further f g s a.cursor.0 i j (pointed_at k u f s i a.cursor.1) (pointed_at k u g s j b.cursor.1) e))
        (next_at f s (suc i)) (next_at g s (suc j)))

    -- DECLARE CURSOR
    pub declaring_agree : (s : Selected) → Both (Agree k u) (declaring k u f s) (declaring k u g s)
    unfolding declaring
    declaring_agree s =
        both_found (Agree k u) (object_named k.objects.records s.source.bytes) _ _ _ (λ o _.
        both_unless (Agree k u) (reaches k.privileges.records u o) _ _ _ (λ _.
        both_unless_at (Agree k u) (first_foreign (window k.objects.records o) (names_in s)) _ _ _ (λ _.
        record { told = refl; seen = q; cursors = both_declared _ })))
