-- What a card tells a user is what the user sees: step by step, and over whole lists.
use Rattle.std.proofs.Common.{◌≡◌, ℕ, ◌<◌, min, Bool, true, false, List, [], ◌∷◌, length, get_or, is_some, Some, Ok, sym, refl, ap, ◌∙◌, subst}
use Rattle.std.proofs.lemmas.Bool.{both_ways}
use Rattle.fields.specs.Reader.{Parameter}
use Rattle.commands.specs.Command.{Parsed, present_user, create_user, create_table, create_view, drop_table, drop_view, grant, revoke, declare_cursor, open_cursor, next_row, fetch, fetch_next, insert, update, delete_row}
use Rattle.commands.specs.Parse.{parsed}
use Rattle.cardmodel.specs.State.{Bytes, Id, Catalogue, Rows, Cursor, absent, Card}
use Rattle.cardmodel.specs.Objects.{cell}
use Rattle.cardmodel.specs.Rights.{known}
use Rattle.cardmodel.specs.Verdict.{Cause, missing, Checked, refused, passed, unless, gives, Verdict, reply_of, card_after}
use Rattle.cardmodel.specs.CatalogueRules.{Alteration, creating_user, creating_table, creating_view, dropping_table, dropping_view, granting, revoking}
use Rattle.cardmodel.specs.CursorRules.{Step, declaring, opening, nexting, fetching, fetching_next, inserting, updating, deleting}
use Rattle.cardmodel.specs.Answer.{Sent, verdict, presenting, altering, stepping, obeyed, after, reply, is_accepted, Presents, PresentsNobody, run, replies, Capacities, new_card}
use Rattle.cardmodel.specs.Sight.{Sight, sight, reached, shown_rows, cell_shown, OutsideKept}
use Rattle.cardmodel.proofs.Checks.{Holds, Both}
use Rattle.cardmodel.proofs.Lists.{nth_below, nth-get_or, nth_length, some_inj}
use Rattle.cardmodel.proofs.Verdicts.{each_verdict, each_two, verdict_parsed, verdict_presents}
use Rattle.cardlaws.specs.Sound.{Sound}
use Rattle.cardlaws.proofs.Kept.{view_says, after_sound, run_sound}
use Rattle.cardlaws.proofs.Issued.{new_sound}
use Rattle.secrecy.specs.Secrecy.{Stays, sights, AllKept, Alike, Served, card_of, Secrecy}
use Rattle.secrecy.proofs.Linked.{Seen, Matched, both_absent, Fit, sound_fit}
use Rattle.secrecy.proofs.Moves.{Agree, declaring_agree, opening_agree, nexting_agree, fetching_agree, fetching_next_agree}
use Rattle.secrecy.proofs.RowChanges.{inserting_agree, updating_agree, deleting_agree}
use Rattle.secrecy.proofs.Catalogues.{Changes, altered_seen, altered_matched, user_changes, table_changes, view_changes, table_dropped, view_dropped, granting_changes, revoking_changes}
use Rattle.secrecy.proofs.Literal.{told_sees, sees_told, reached_apart}
use Rattle.secrecy.proofs.Touches.{Touch, declaring_touches, opening_touches, nexting_touches, fetching_touches, fetching_next_touches, inserting_touches, updating_touches, deleting_touches}
use Rattle.secrecy.proofs.Cells.{Safe, altered_safe, touched_safe}

-- PRESENT USER of an id that is registered or not
abbrev presented : Card → Parameter → Bool → Verdict
presented c id b =
    unless b (missing id.place) (passed (record { card = record { catalogue = c.catalogue; rows = c.rows; current = Some id.bytes; cursor = absent }; outcome = gives [] }))

-- a card that is sound, of some size
pub record IsSound (c : Card) : Type 0 where
  pub total : ℕ
  pub capacities : Capacities
  pub sound : Sound total capacities c

-- TWO CARDS THAT A USER CANNOT TELL APART
pub record Linked (u : Id) (c d : Card) : Type 0 where
  pub left_sound : IsSound c
  pub right_sound : IsSound d
  pub catalogue : c.catalogue ≡ d.catalogue
  pub left_user : c.current ≡ Some u
  pub right_user : d.current ≡ Some u
  pub seen : Seen c.catalogue u c.rows d.rows
  pub cursors : Matched c.catalogue u c.rows d.rows c.cursor d.cursor

still_sound : (c : Card) (m : Sent) → IsSound c → IsSound (after c m)
still_sound c m s = record { total = s.total; capacities = s.capacities; sound = after_sound s.total s.capacities c s.sound m }

-- what is the same after a verdict
record LinkedBy (u : Id) (c d : Card) (v w : Verdict) : Type 0 where
  told : reply_of v ≡ reply_of w
  catalogue : (card_after c v).catalogue ≡ (card_after d w).catalogue
  left_user : (card_after c v).current ≡ Some u
  right_user : (card_after d w).current ≡ Some u
  seen : Seen (card_after c v).catalogue u (card_after c v).rows (card_after d w).rows
  cursors : Matched (card_after c v).catalogue u (card_after c v).rows (card_after d w).rows (card_after c v).cursor (card_after d w).cursor

-- ONE COMMAND to two cards
module _ (u : Id) (c d : Card) (l : Linked u c d) where
  refusal : (x : Cause) → LinkedBy u c d (refused x) (refused x)
  refusal x = record { told = refl; catalogue = l.catalogue; left_user = l.left_user; right_user = l.right_user; seen = l.seen; cursors = l.cursors }

  left : Fit c.catalogue u c.rows c.cursor
  left = sound_fit l.left_sound.total l.left_sound.capacities c u l.left_sound.sound l.left_user

  right : Fit c.catalogue u d.rows d.cursor
  right = subst (λ k. Fit k u d.rows d.cursor) (sym l.catalogue) (sound_fit l.right_sound.total l.right_sound.capacities d u l.right_sound.sound l.right_user)

  altered_both : (rule : Catalogue → Checked Alteration) → Holds (Changes c.catalogue u) (rule c.catalogue) → LinkedBy u c d (altering c (rule c.catalogue)) (altering d (rule d.catalogue))
  altered_both rule h = subst (λ k. LinkedBy u c d (altering c (rule c.catalogue)) (altering d (rule k))) l.catalogue (go (rule c.catalogue) h)
    where
      go : (x : Checked Alteration) → Holds (Changes c.catalogue u) x → LinkedBy u c d (altering c x) (altering d x)
      go (refused x) h = refusal x
      go (passed a) h = record {
        told = refl;
        catalogue = refl;
        left_user = l.left_user;
        right_user = l.right_user;
        seen = altered_seen c.catalogue u a h c.rows d.rows c.cursor d.cursor left right l.seen;
        cursors = altered_matched c.catalogue u a h c.rows d.rows c.cursor d.cursor left right l.seen l.cursors;
      }

  stepped_both : (rule : Catalogue → Rows → Cursor → Checked Step) →
      Both (Agree c.catalogue u) (rule c.catalogue c.rows c.cursor) (rule c.catalogue d.rows d.cursor) →
      LinkedBy u c d (stepping c (rule c.catalogue c.rows c.cursor)) (stepping d (rule d.catalogue d.rows d.cursor))
  stepped_both rule h =
      subst (λ k. LinkedBy u c d (stepping c (rule c.catalogue c.rows c.cursor)) (stepping d (rule k d.rows d.cursor))) l.catalogue
      (go (rule c.catalogue c.rows c.cursor) (rule c.catalogue d.rows d.cursor) h)
    where
      go : (x y : Checked Step) → Both (Agree c.catalogue u) x y → LinkedBy u c d (stepping c x) (stepping d y)
      go (refused x) (refused y) h = subst (λ z. LinkedBy u c d (refused x) (refused z)) h (refusal x)
      go (refused x) (passed y) h = absurd h
      go (passed x) (refused y) h = absurd h
      go (passed x) (passed y) h = record {
        told = ap (λ o. reply_of (passed (record { card = c; outcome = o }))) h.told;
        catalogue = l.catalogue;
        left_user = l.left_user;
        right_user = l.right_user;
        seen = h.seen;
        cursors = h.cursors;
      }

  -- PRESENT USER is refused on both
  presented_both : (id : Parameter) → is_accepted (reply_of (presenting c id)) ≡ false → LinkedBy u c d (presenting c id) (presenting d id)
  unfolding presenting
  presented_both id e =
      let b : is_some (known c.catalogue.users.records id.bytes) ≡ false = unknown (is_some (known c.catalogue.users.records id.bytes)) e in
      let b' : is_some (known d.catalogue.users.records id.bytes) ≡ false = subst (λ (k : Catalogue). is_some (known k.users.records id.bytes) ≡ false) l.catalogue b in
      rw (b, b') (refusal _)
    where
      unknown : (b : Bool) → is_accepted (reply_of (presented c id b)) ≡ false → b ≡ false
      unknown true e = e
      unknown false e = refl

  obeyed_both : (m : Sent) → PresentsNobody c m → (p : Parsed) → parsed m.bytes m.area ≡ Ok p → LinkedBy u c d (obeyed c u p) (obeyed d u p)
  obeyed_both m nobody (present_user id) e =
      presented_both id (subst (λ v. is_accepted (reply_of v) ≡ false) (verdict_parsed c u l.left_user m (present_user id) e) (nobody id.bytes (record { id = id; said = e; named = refl })))
  obeyed_both m nobody (create_user id p) e = altered_both (λ k. creating_user k u id p) (user_changes c.catalogue u left.names left.objects id p)
  obeyed_both m nobody (create_table name definition columns limit) e = altered_both (λ k. creating_table k u name definition limit) (table_changes c.catalogue u left.names left.objects name definition limit)
  obeyed_both m nobody (create_view name definition s) e = altered_both (λ k. creating_view k u name definition s) (view_changes c.catalogue u left.names left.objects name definition s (view_says m name definition s e))
  obeyed_both m nobody (drop_table name) e = altered_both (λ k. dropping_table k u name) (table_dropped c.catalogue u left.names left.objects name)
  obeyed_both m nobody (drop_view name) e = altered_both (λ k. dropping_view k u name) (view_dropped c.catalogue u left.names left.objects name)
  obeyed_both m nobody (grant p) e = altered_both (λ k. granting k u p) (granting_changes c.catalogue u left.names left.objects p)
  obeyed_both m nobody (revoke p) e = altered_both (λ k. revoking k u p) (revoking_changes c.catalogue u left.names left.objects p)
  obeyed_both m nobody (declare_cursor s) e = stepped_both (λ k f x. declaring k u f s) (declaring_agree c.catalogue u c.rows d.rows l.seen s)
  obeyed_both m nobody open_cursor e = stepped_both (λ k f x. opening k f x) (opening_agree c.catalogue u c.rows d.rows l.seen c.cursor d.cursor left right l.cursors)
  obeyed_both m nobody next_row e = stepped_both (λ k f x. nexting k f x) (nexting_agree c.catalogue u c.rows d.rows l.seen c.cursor d.cursor left right l.cursors)
  obeyed_both m nobody (fetch le) e = stepped_both (λ k f x. fetching k u f x le) (fetching_agree c.catalogue u c.rows d.rows l.seen c.cursor d.cursor le left right l.cursors)
  obeyed_both m nobody (fetch_next le) e = stepped_both (λ k f x. fetching_next k u f x le) (fetching_next_agree c.catalogue u c.rows d.rows l.seen c.cursor d.cursor le left right l.cursors)
  obeyed_both m nobody (insert name count strings row) e =
      stepped_both (λ k f x. inserting k u f x name count strings) (inserting_agree c.catalogue u c.rows d.rows l.seen c.cursor d.cursor name count strings left right l.cursors)
  obeyed_both m nobody (update ps) e = stepped_both (λ k f x. updating k u f x ps) (updating_agree c.catalogue u c.rows d.rows l.seen c.cursor d.cursor ps left right l.cursors)
  obeyed_both m nobody delete_row e = stepped_both (λ k f x. deleting k u f x) (deleting_agree c.catalogue u c.rows d.rows l.seen c.cursor d.cursor left right l.cursors)

  step_by : (m : Sent) → PresentsNobody c m → LinkedBy u c d (verdict c m) (verdict d m)
  step_by m nobody = each_two c d u l.left_user l.right_user m (LinkedBy u c d) refusal (obeyed_both m nobody)

  pub step_told : (m : Sent) → PresentsNobody c m → reply c m ≡ reply d m
  step_told m nobody = (step_by m nobody).told

  pub step_linked : (m : Sent) → PresentsNobody c m → Linked u (after c m) (after d m)
  step_linked m nobody =
      let x = step_by m nobody in
      record {
        left_sound = still_sound c m l.left_sound;
        right_sound = still_sound d m l.right_sound;
        catalogue = x.catalogue;
        left_user = x.left_user;
        right_user = x.right_user;
        seen = x.seen;
        cursors = x.cursors;
      }

-- WHAT A USER DOES NOT SEE, on one card: it stays through every command
module _ (u : Id) (t : Bytes) (i n : ℕ) (v : Bytes) (c : Card) (sound : IsSound c) (present : c.current ≡ Some u) (s : Safe u t i n v c.catalogue c.rows) where
  abbrev SafeAfter : Verdict → Type 0
  SafeAfter w = Safe u t i n v (card_after c w).catalogue (card_after c w).rows

  fit : Fit c.catalogue u c.rows c.cursor
  fit = sound_fit sound.total sound.capacities c u sound.sound present

  altered_after : (x : Checked Alteration) → Holds (Changes c.catalogue u) x → SafeAfter (altering c x)
  altered_after (refused x) h = s
  altered_after (passed a) h = altered_safe u t i n v c.catalogue c.rows fit.rows s fit.elsewhere a (h t)

  stepped_after : (x : Checked Step) → Holds (λ y. Touch c.catalogue u c.rows y.rows) x → SafeAfter (stepping c x)
  stepped_after (refused x) h = s
  stepped_after (passed y) h = touched_safe u t i n v c.catalogue c.rows fit.rows s y.rows h

  presented_after : (id : Parameter) → SafeAfter (presenting c id)
  unfolding presenting
  presented_after id = elim (is_some (known c.catalogue.users.records id.bytes)) as (λ b. SafeAfter (presented c id b)) [ true ↦ s | false ↦ s ]

  obeyed_after : (m : Sent) (p : Parsed) → parsed m.bytes m.area ≡ Ok p → SafeAfter (obeyed c u p)
  obeyed_after m (present_user id) e = presented_after id
  obeyed_after m (create_user id p) e = altered_after (creating_user c.catalogue u id p) (user_changes c.catalogue u fit.names fit.objects id p)
  obeyed_after m (create_table name definition columns limit) e = altered_after (creating_table c.catalogue u name definition limit) (table_changes c.catalogue u fit.names fit.objects name definition limit)
  obeyed_after m (create_view name definition x) e = altered_after (creating_view c.catalogue u name definition x) (view_changes c.catalogue u fit.names fit.objects name definition x (view_says m name definition x e))
  obeyed_after m (drop_table name) e = altered_after (dropping_table c.catalogue u name) (table_dropped c.catalogue u fit.names fit.objects name)
  obeyed_after m (drop_view name) e = altered_after (dropping_view c.catalogue u name) (view_dropped c.catalogue u fit.names fit.objects name)
  obeyed_after m (grant p) e = altered_after (granting c.catalogue u p) (granting_changes c.catalogue u fit.names fit.objects p)
  obeyed_after m (revoke p) e = altered_after (revoking c.catalogue u p) (revoking_changes c.catalogue u fit.names fit.objects p)
  obeyed_after m (declare_cursor x) e = stepped_after (declaring c.catalogue u c.rows x) (declaring_touches c.catalogue u c.rows x)
  obeyed_after m open_cursor e = stepped_after (opening c.catalogue c.rows c.cursor) (opening_touches c.catalogue u c.rows c.cursor)
  obeyed_after m next_row e = stepped_after (nexting c.catalogue c.rows c.cursor) (nexting_touches c.catalogue u c.rows c.cursor)
  obeyed_after m (fetch le) e = stepped_after (fetching c.catalogue u c.rows c.cursor le) (fetching_touches c.catalogue u c.rows c.cursor le)
  obeyed_after m (fetch_next le) e = stepped_after (fetching_next c.catalogue u c.rows c.cursor le) (fetching_next_touches c.catalogue u c.rows c.cursor le)
  obeyed_after m (insert name count strings row) e = stepped_after (inserting c.catalogue u c.rows c.cursor name count strings) (inserting_touches c.catalogue u c.rows c.cursor name count strings)
  obeyed_after m (update ps) e = stepped_after (updating c.catalogue u c.rows c.cursor ps) (updating_touches c.catalogue u c.rows c.cursor fit.cursor ps)
  obeyed_after m delete_row e = stepped_after (deleting c.catalogue u c.rows c.cursor) (deleting_touches c.catalogue u c.rows c.cursor fit.cursor)

  step_safe : (m : Sent) → Safe u t i n v (after c m).catalogue (after c m).rows
  step_safe m = each_verdict c m SafeAfter (λ x. s)
      (λ w p e q. subst (λ y. SafeAfter (obeyed c y p)) (some_inj (sym present ∙ e)) (obeyed_after m p q)) presented_after

-- all that was outside the sight at the start is as it was
abbrev Still : Id → Card → Card → Type 0
Still u start c =
    (t : Bytes) (i n : ℕ) → i < length (start.rows t) → n < length (get_or (start.rows t) i []) → cell_shown (reached start.catalogue u t) (get_or (start.rows t) i []) n ≡ false →
    Safe u t i n (cell (get_or (start.rows t) i []) n) c.catalogue c.rows

still_start : (u : Id) (c : Card) → Still u c c
still_start u c t i n l m h = record { row = get_or (c.rows t) i []; stands = nth_below (c.rows t) i [] l; inside = m; hidden = h; holds = refl }

still_outside : (u : Id) (start c : Card) → Still u start c → OutsideKept u start c
still_outside u start c s t i n l m h =
    let x = s t i n l m h in
    let e = nth-get_or (c.rows t) i x.row [] x.stands in
    (nth_length (c.rows t) i x.row x.stands, subst (λ r. n < length r) (sym e) x.inside, ap (λ r. cell r n) e ∙ x.holds)

still_after : (u : Id) (start c : Card) → IsSound c → c.current ≡ Some u → Still u start c → (m : Sent) → Still u start (after c m)
still_after u start c sound present s m t i n l j h = step_safe u t i n _ c sound present (s t i n l j h) m

-- WHOLE LISTS
linked_sight : (u : Id) (c d : Card) → Linked u c d → sight u c ≡ sight u d
linked_sight u c d l =
    let p : sight u c ≡ record { catalogue = c.catalogue; seen = λ t. shown_rows (reached c.catalogue u t) (d.rows t) } =
    λ i. record { catalogue = c.catalogue; seen = λ t. sees_told (reached c.catalogue u t) (c.rows t) (d.rows t) (l.seen t) i } in
    p ∙ ap {B = Sight} (λ k. record { catalogue = k; seen = λ t. shown_rows (reached k u t) (d.rows t) }) l.catalogue

all_replies : (u : Id) (c d : Card) (ms : List Sent) → Stays c ms → Linked u c d → replies c ms ≡ replies d ms
all_replies u c d [] s l = refl
all_replies u c d (m ∷ ms) s l =
    let x = step_told u c d l m s.0 in
    let y = all_replies u (after c m) (after d m) ms s.1 (step_linked u c d l m s.0) in λ i. x i ∷ y i

all_seen : (u : Id) (c d : Card) (ms : List Sent) → Stays c ms → Linked u c d → sights u c ms ≡ sights u d ms
all_seen u c d [] s l = refl
all_seen u c d (m ∷ ms) s l =
    let n = step_linked u c d l m s.0 in
    let x = linked_sight u (after c m) (after d m) n in
    let y = all_seen u (after c m) (after d m) ms s.1 n in λ i. x i ∷ y i

all_kept_left : (u : Id) (start c d : Card) (ms : List Sent) → Stays c ms → Linked u c d → Still u start c → AllKept u start c ms
all_kept_left u start c d [] s l h = tt
all_kept_left u start c d (m ∷ ms) s l h =
    let k = still_after u start c l.left_sound l.left_user h m in
    (still_outside u start (after c m) k, all_kept_left u start (after c m) (after d m) ms s.1 (step_linked u c d l m s.0) k)

all_kept_right : (u : Id) (start c d : Card) (ms : List Sent) → Stays c ms → Linked u c d → Still u start d → AllKept u start d ms
all_kept_right u start c d [] s l h = tt
all_kept_right u start c d (m ∷ ms) s l h =
    let k = still_after u start d l.right_sound l.right_user h m in
    (still_outside u start (after d m) k, all_kept_right u start (after c m) (after d m) ms s.1 (step_linked u c d l m s.0) k)

alike : (u : Id) (c d : Card) (ms : List Sent) → Stays c ms → Linked u c d → Alike u c d ms
alike u c d ms s l = record {
  told = all_replies u c d ms s l;
  seen = all_seen u c d ms s l;
  left_kept = all_kept_left u c c d ms s l (still_start u c);
  right_kept = all_kept_right u d c d ms s l (still_start u d);
}

-- THE THEOREM
-- a user that is accepted is the current one, and there is no cursor
served_user : (c : Card) (u : Id) (m : Sent) → Presents m u → is_accepted (reply c m) ≡ true → ((after c m).current ≡ Some u) × ((after c m).cursor ≡ absent)
unfolding presenting
served_user c u m p e =
    let v = verdict_presents c m p.id p.said e in
    subst (λ w. ((card_after c w).current ≡ Some u) × ((card_after c w).cursor ≡ absent)) (sym v)
    (go (is_some (known c.catalogue.users.records p.id.bytes)) (subst (λ w. is_accepted (reply_of w) ≡ true) v e))
  where
    go : (b : Bool) → is_accepted (reply_of (presented c p.id b)) ≡ true → ((card_after c (presented c p.id b)).current ≡ Some u) × ((card_after c (presented c p.id b)).cursor ≡ absent)
    go true e = (ap Some p.named, refl)
    go false e = absurd (both_ways false refl e)

served_sound : (u : Id) (s : Served u) → IsSound (card_of s)
served_sound u s = record {
  total = min s.rows 65535;
  capacities = s.capacities;
  sound = after_sound _ s.capacities (run (new_card s.rows s.capacities) s.past) (run_sound _ s.capacities _ (new_sound s.rows s.capacities) s.past) s.presented;
}

start_linked : (u : Id) (one other : Served u) → sight u (card_of one) ≡ sight u (card_of other) → Linked u (card_of one) (card_of other)
start_linked u one other s =
    let c = card_of one in
    let d = card_of other in
    let x = served_user (run (new_card one.rows one.capacities) one.past) u one.presented one.presents one.accepted in
    let y = served_user (run (new_card other.rows other.capacities) other.past) u other.presented other.presents other.accepted in
    let k : c.catalogue ≡ d.catalogue = ap (λ z. z.catalogue) s in
    let sound = served_sound u one in
    record {
      left_sound = sound;
      right_sound = served_sound u other;
      catalogue = k;
      left_user = x.0;
      right_user = y.0;
      seen = λ t. told_sees (reached c.catalogue u t) (reached_apart c.catalogue u t sound.sound.names) (c.rows t) (d.rows t)
          (subst (λ z. shown_rows (reached c.catalogue u t) (c.rows t) ≡ shown_rows (reached z u t) (d.rows t)) (sym k) (ap (λ z. z.seen t) s));
      cursors = subst (λ z. Matched c.catalogue u c.rows d.rows z d.cursor) (sym x.1) (subst (λ z. Matched c.catalogue u c.rows d.rows absent z) (sym y.1) both_absent);
    }

pub secrecy : Secrecy
secrecy u one other s ms stays = alike u (card_of one) (card_of other) ms stays (start_linked u one other s)
