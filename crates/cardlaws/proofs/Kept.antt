-- Every command keeps a card sound.
use Rattle.std.proofs.Common.{◌≡◌, ℕ, List, [], ◌∷◌, Some, Ok, subst}
use Rattle.fields.specs.Reader.{Parameter}
use Rattle.commands.specs.Command.{Selected, Parsed, present_user, create_user, create_table, create_view, drop_table, drop_view, grant, revoke, declare_cursor, open_cursor, next_row, fetch, fetch_next, insert, update, delete_row}
use Rattle.commands.specs.Parse.{parsed}
use Rattle.cardmodel.specs.State.{Bytes, Id, Card}
use Rattle.cardmodel.specs.Objects.{columns_in, selection_in}
use Rattle.cardmodel.specs.Verdict.{Checked, refused, passed, Verdict, card_after}
use Rattle.cardmodel.specs.CatalogueRules.{Alteration, altered, creating_user, creating_table, creating_view, dropping_table, dropping_view, granting, revoking}
use Rattle.cardmodel.specs.CursorRules.{Step, moved, declaring, opening, nexting, fetching, fetching_next, inserting, updating, deleting}
use Rattle.cardmodel.specs.Answer.{Sent, presenting, altering, stepping, obeyed, after, run, Capacities, new_card}
use Rattle.cardmodel.proofs.Checks.{Holds}
use Rattle.cardmodel.proofs.Lists.{all-In}
use Rattle.cardmodel.proofs.Verdicts.{each_verdict}
use Rattle.cardlaws.specs.Sound.{level_at, UniqueIn, RowsFormed, RowsOf, Sound}
use Rattle.cardlaws.specs.Soundness.{AlwaysSound}
use Rattle.cardlaws.specs.Uniqueness.{UniqueValues}
use Rattle.cardlaws.proofs.Cursors.{declaring_sound, opening_sound, nexting_sound, fetching_sound, fetching_next_sound}
use Rattle.cardlaws.proofs.Reread.{table_reads, view_reads}
use Rattle.cardlaws.proofs.Drops.{dropping_table_sound, dropping_view_sound}
use Rattle.cardlaws.proofs.Grants.{granting_sound, revoking_sound}
use Rattle.cardlaws.proofs.Issued.{presenting_sound, new_sound}
use Rattle.cardlaws.proofs.NewObjects.{creating_table_sound, creating_view_sound}
use Rattle.cardlaws.proofs.NewUsers.{creating_user_sound}
use Rattle.cardlaws.proofs.Order.{level_at_back}
use Rattle.cardlaws.proofs.Rows.{column_named_placed}
use Rattle.cardlaws.proofs.Unlike.{apart_places}
use Rattle.cardlaws.proofs.Updates.{updating_sound}
use Rattle.cardlaws.proofs.Windows.{table_found}
use Rattle.cardlaws.proofs.Writes.{inserting_sound, deleting_sound}

-- a view's definition names the table that the command named
pub view_says : (m : Sent) (name : Parameter) (definition : Bytes) (s : Selected) → parsed m.bytes m.area ≡ Ok (create_view name definition s) → (selection_in definition).source.bytes ≡ s.source.bytes
view_says m name definition s e = (view_reads m.bytes m.area name definition s e).1.source

module _ (total : ℕ) (z : Capacities) (c : Card) (sound : Sound total z c) where
  abbrev SoundAfter : Verdict → Type 0
  SoundAfter v = Sound total z (card_after c v)

  altered_sound : (x : Checked Alteration) → Holds (λ a. Sound total z (altered c a)) x → SoundAfter (altering c x)
  altered_sound (refused x) h = sound
  altered_sound (passed a) h = h

  stepped_sound : (x : Checked Step) → Holds (λ s. Sound total z (moved c s)) x → SoundAfter (stepping c x)
  stepped_sound (refused x) h = sound
  stepped_sound (passed s) h = h

  presented_sound : (x : Verdict) → Holds (λ d. Sound total z d.card) x → SoundAfter x
  presented_sound (refused x) h = sound
  presented_sound (passed d) h = h

  obeyed_sound : (m : Sent) (u : Id) (p : Parsed) → c.current ≡ Some u → parsed m.bytes m.area ≡ Ok p → SoundAfter (obeyed c u p)
  obeyed_sound m u (present_user id) e q = presented_sound (presenting c id) (presenting_sound total z c sound id)
  obeyed_sound m u (create_user id p) e q = altered_sound (creating_user c.catalogue u id p) (creating_user_sound total z c u sound e id p)
  obeyed_sound m u (create_table name definition columns limit) e q =
      altered_sound (creating_table c.catalogue u name definition limit) (creating_table_sound total z c u sound e name definition limit (table_reads m.bytes m.area name definition columns limit q))
  obeyed_sound m u (create_view name definition s) e q =
      let r = view_reads m.bytes m.area name definition s q in
      altered_sound (creating_view c.catalogue u name definition s) (creating_view_sound total z c u sound e name definition s r.0 r.1)
  obeyed_sound m u (drop_table name) e q = altered_sound (dropping_table c.catalogue u name) (dropping_table_sound total z c u sound e name)
  obeyed_sound m u (drop_view name) e q = altered_sound (dropping_view c.catalogue u name) (dropping_view_sound total z c u sound e name)
  obeyed_sound m u (grant p) e q = altered_sound (granting c.catalogue u p) (granting_sound total z c u sound e p)
  obeyed_sound m u (revoke p) e q = altered_sound (revoking c.catalogue u p) (revoking_sound total z c u sound e p)
  obeyed_sound m u (declare_cursor s) e q = stepped_sound (declaring c.catalogue u c.rows s) (declaring_sound total z c u sound e s)
  obeyed_sound m u open_cursor e q = stepped_sound (opening c.catalogue c.rows c.cursor) (opening_sound total z c u sound e)
  obeyed_sound m u next_row e q = stepped_sound (nexting c.catalogue c.rows c.cursor) (nexting_sound total z c u sound e)
  obeyed_sound m u (fetch le) e q = stepped_sound (fetching c.catalogue u c.rows c.cursor le) (fetching_sound total z c u sound e le)
  obeyed_sound m u (fetch_next le) e q = stepped_sound (fetching_next c.catalogue u c.rows c.cursor le) (fetching_next_sound total z c u sound e le)
  obeyed_sound m u (insert name count strings row) e q =
      stepped_sound (inserting c.catalogue u c.rows c.cursor name count strings) (inserting_sound total z c u sound e name count strings)
  obeyed_sound m u (update ps) e q = stepped_sound (updating c.catalogue u c.rows c.cursor ps) (updating_sound total z c u sound e ps)
  obeyed_sound m u delete_row e q = stepped_sound (deleting c.catalogue u c.rows c.cursor) (deleting_sound total z c u sound e)

  pub after_sound : (m : Sent) → Sound total z (after c m)
  after_sound m = each_verdict c m SoundAfter (λ x. sound) (λ u p e q. obeyed_sound m u p e q) (λ id. presented_sound (presenting c id) (presenting_sound total z c sound id))

pub run_sound : (total : ℕ) (z : Capacities) (c : Card) → Sound total z c → (ms : List Sent) → Sound total z (run c ms)
run_sound total z c s [] = s
run_sound total z c s (m ∷ ms) = run_sound total z (after c m) (after_sound total z c s m) ms

pub always_sound : AlwaysSound
always_sound rows z ms = run_sound _ z _ (new_sound rows z) ms

-- no value twice
pub unique_values : UniqueValues
unique_values rows z ms table column t p found named unique i j l m n =
    let sound = always_sound rows z ms in
    let o = table_found _ table t found in
    let formed = subst (λ x. RowsFormed t ((run (new_card rows z) ms).rows x)) o.1 (all-In (RowsOf _) sound.rows o.0 o.2) in
    apart_places (level_at p) (level_at_back p) _ i j [] (all-In (UniqueIn _) formed.unique (column_named_placed (columns_in t.definition) column p named) unique) l m n
