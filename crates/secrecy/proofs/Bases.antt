-- The table that an object speaks of, by its name.
use Rattle.std.proofs.Common.{◌≡◌, true, List, [], ◌∷◌, map, Some, filter, sym, refl, ◌∙◌}
use Rattle.std.proofs.lemmas.Bool.{and_parts, and_from}
use Rattle.cardmodel.specs.State.{Bytes, Id, Kind, a_table, a_view, Object, Catalogue, Rows}
use Rattle.cardmodel.specs.Objects.{same, is_table, selection_in, base, over_table, Window, window, rows_behind}
use Rattle.cardmodel.specs.Rights.{reaches}
use Rattle.cardmodel.specs.Sight.{reached_over, reached}
use Rattle.cardmodel.proofs.Names.{same_true, same_refl}
use Rattle.cardmodel.proofs.Lists.{In, here, there, some_inj, In-kept, kept-In}
use Rattle.cardlaws.proofs.Windows.{source_of}
use Rattle.cardlaws.proofs.Drops.{base_table, base_view, window_base}
use Rattle.cardlaws.proofs.Steps.{rows_behind_named}

-- a table speaks of itself, a view of the table that it selects from
abbrev spoken_by : Bytes → Bytes → Kind → Bytes
spoken_by name definition (a_table limit) = name
spoken_by name definition a_view = (selection_in definition).source.bytes

unfoldable pub spoken : Object → Bytes
spoken o = spoken_by o.name o.definition o.kind

pub base_spoken : (o : Object) → base o ≡ Some (spoken o)
unfolding base spoken
base_spoken o = go o.kind refl
  where
    go : (k : Kind) → o.kind ≡ k → base o ≡ Some (spoken o)
    go (a_table n) e = rw e refl
    go a_view e = rw e refl

pub over_spoken : (t : Bytes) (o : Object) → over_table t o ≡ same (spoken o) t
over_spoken t o = rw (base_spoken o) refl

pub over_is : (t : Bytes) (o : Object) → over_table t o ≡ true → spoken o ≡ t
over_is t o e = same_true (spoken o) t (sym (over_spoken t o) ∙ e)

pub table_spoken : (o : Object) → is_table o ≡ true → spoken o ≡ o.name
table_spoken o t = some_inj (sym (base_spoken o) ∙ base_table o t)

pub view_spoken : (o : Object) → o.kind ≡ a_view → spoken o ≡ source_of o
view_spoken o e = some_inj (sym (base_spoken o) ∙ base_view o e)

pub window_table : (os : List Object) (o : Object) → (window os o).table ≡ Some (spoken o)
window_table os o = window_base os o ∙ base_spoken o

pub behind_spoken : (f : Rows) (os : List Object) (o : Object) → rows_behind f (window os o) ≡ f (spoken o)
behind_spoken f os o = rows_behind_named f (window os o) (spoken o) (window_table os o)

-- what a user reaches over a table
map-In : {A B : Type 0} (h : A → B) {x : A} {xs : List A} → In x xs → In (h x) (map h xs)
map-In h here = here
map-In h (there i) = there (map-In h i)

In-map : {A B : Type 0} (h : A → B) (xs : List A) {y : B} → In y (map h xs) → (x : A) × In x xs × (h x ≡ y)
In-map h [] i = elim i [ ]
In-map h (x ∷ xs) here = (x, here, refl)
In-map h (x ∷ xs) (there i) = let r = In-map h xs i in (r.0, there r.1, r.2)

pub reached-In : (k : Catalogue) (u : Id) (o : Object) → In o k.objects.records → reaches k.privileges.records u o ≡ true → In (window k.objects.records o) (reached k u (spoken o))
unfolding reached
reached-In k u o i r =
    map-In (window k.objects.records) (In-kept (reached_over k.privileges.records u (spoken o))
    (and_from (reaches k.privileges.records u o) (over_table (spoken o) o) r (over_spoken (spoken o) o ∙ same_refl (spoken o))) i)

-- an object behind a window that is reached
pub record Reaching (k : Catalogue) (u : Id) (t : Bytes) (w : Window) : Type 0 where
  pub object : Object
  pub stands : In object k.objects.records
  pub reaching : reaches k.privileges.records u object ≡ true
  pub over : over_table t object ≡ true
  pub is : window k.objects.records object ≡ w

pub In-reached : (k : Catalogue) (u : Id) (t : Bytes) (w : Window) → In w (reached k u t) → Reaching k u t w
unfolding reached
In-reached k u t w i =
    let r = In-map (window k.objects.records) (filter (reached_over k.privileges.records u t) k.objects.records) i in
    let s = kept-In (reached_over k.privileges.records u t) k.objects.records r.1 in
    let p = and_parts (reaches k.privileges.records u r.0) (over_table t r.0) s.1 in
    record { object = r.0; stands = s.0; reaching = p.0; over = p.1; is = r.2 }
