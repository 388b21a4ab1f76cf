-- The sight as it is told, and as the proofs take it: with a place for each window, filled or not.
use Rattle.std.proofs.Common.{◌≡◌, Bool, true, false, cond, ◌||◌, List, [], ◌∷◌, map, Some, None, filter, Option, sym, refl, ap, ◌∙◌}
use mathlib.Core.List.{head-eq_of_cons-eq, tail-eq_of_cons-eq}
use Rattle.std.proofs.lemmas.Bool.{both_ways, or_left, or_right}
use Rattle.cardmodel.specs.Lists.{any}
use Rattle.cardmodel.specs.State.{Bytes, Id, Row, Catalogue}
use Rattle.cardmodel.specs.Objects.{same, Window, window, cell, meets}
use Rattle.cardmodel.specs.Sight.{reached_over, reached, Shown, shown, showing, some_shown, shown_rows}
use Rattle.cardmodel.proofs.Names.{same_since}
use Rattle.cardlaws.specs.Sound.{Apart, one_name}
use Rattle.cardlaws.proofs.Apart.{apart_kept}
use Rattle.secrecy.proofs.Looks.{Look, shown_cells, look, given, visible, sees}

-- what is told of a look: the places that are filled
abbrev join : Bytes → Option (List Bytes) → List Shown → List Shown
join n None l = l
join n (Some xs) l = record { object = n; cells = xs } ∷ l

abbrev forget : Look → List Shown
forget [] = []
forget (x ∷ l) = join x.0 x.1 (forget l)

showing_forgets : (vs : List Window) (r : Row) → showing vs r ≡ forget (look vs r)
unfolding shown_cells
showing_forgets [] r = refl
showing_forgets (v ∷ vs) r =
    elim (meets v r) as (λ b. cond b (shown v r ∷ showing vs r) (showing vs r) ≡ join v.name (cond b (Some (map (cell r) v.columns)) None) (forget (look vs r)))
    [ true ↦ ap {B = List Shown} (λ l. shown v r ∷ l) (showing_forgets vs r) | false ↦ showing_forgets vs r ]

forget_visible : (l : Look) → some_shown (forget l) ≡ visible l
forget_visible [] = refl
forget_visible (x ∷ l) = elim x.1 as (λ y. some_shown (join x.0 y (forget l)) ≡ (given y || visible l)) [ None ↦ forget_visible l | Some r ↦ refl ]

-- windows with different names
abbrev pub one_window : Window → Window → Bool
one_window v w = same w.name v.name

-- a name that is told is that of a window
told_named : (vs : List Window) (s : Row) (x : Shown) (l : List Shown) → forget (look vs s) ≡ x ∷ l → any (λ w. same w.name x.object) vs ≡ true
told_named [] s x l q = cc
told_named (v ∷ vs) s x l q = go (shown_cells v s) q (told_named vs s x l)
  where
    go : (y : Option (List Bytes)) → join v.name y (forget (look vs s)) ≡ x ∷ l → (forget (look vs s) ≡ x ∷ l → any (λ w. same w.name x.object) vs ≡ true) →
        (same v.name x.object || any (λ w. same w.name x.object) vs) ≡ true
    go None q ih = or_right (same v.name x.object) _ (ih q)
    go (Some b) q ih = or_left (same v.name x.object) _ (same_since v.name x.object (ap (λ z. z.object) (head-eq_of_cons-eq q)))

-- nothing is lost
forget_injective : (vs : List Window) → Apart one_window vs → (r s : Row) → forget (look vs r) ≡ forget (look vs s) → look vs r ≡ look vs s
forget_injective [] a r s q = refl
forget_injective (v ∷ vs) a r s q = go (shown_cells v r) (shown_cells v s) q (forget_injective vs a.1 r s)
  where
    clash : (b : List Bytes) (x : Row) (l : List Shown) → forget (look vs x) ≡ record { object = v.name; cells = b } ∷ l → ⊥
    clash b x l w = both_ways (any (one_window v) vs) a.0 (told_named vs x (record { object = v.name; cells = b }) l w)

    go : (x y : Option (List Bytes)) → join v.name x (forget (look vs r)) ≡ join v.name y (forget (look vs s)) → (forget (look vs r) ≡ forget (look vs s) → look vs r ≡ look vs s) →
        (v.name, x) ∷ look vs r ≡ (v.name, y) ∷ look vs s
    go None None q ih = ap {B = Look} (λ l. (v.name, None) ∷ l) (ih q)
    go None (Some b) q ih = absurd (clash b r _ q)
    go (Some b) None q ih = absurd (clash b s _ (sym q))
    go (Some b) (Some d) q ih =
        let m : b ≡ d = ap (λ z. z.cells) (head-eq_of_cons-eq q) in
        let t : look vs r ≡ look vs s = ih (tail-eq_of_cons-eq q) in λ i. (v.name, Some (m i)) ∷ t i

map_finer : {A B C : Type 0} (h : A → B) (f : A → C) → ((x y : A) → h x ≡ h y → f x ≡ f y) → (xs ys : List A) → map h xs ≡ map h ys → map f xs ≡ map f ys
map_finer h f i [] [] e = refl
map_finer h f i [] (y ∷ ys) e = cc
map_finer h f i (x ∷ xs) [] e = cc
map_finer h f i (x ∷ xs) (y ∷ ys) e =
    let p : f x ≡ f y = i x y (head-eq_of_cons-eq e) in
    let t : map f xs ≡ map f ys = map_finer h f i xs ys (tail-eq_of_cons-eq e) in cc

kept_map : {A B : Type 0} (p : A → Bool) (v : B → Bool) (h : A → B) → ((x : A) → v (h x) ≡ p x) → (xs : List A) → filter v (map h xs) ≡ map h (filter p xs)
kept_map p v h e [] = refl
kept_map {A} {B} p v h e (x ∷ xs) =
    rw (e x, kept_map p v h e xs) (elim (p x) as (λ b. cond b (h x ∷ map h (filter p xs)) (map h (filter p xs)) ≡ map h (cond b (x ∷ filter p xs) (filter p xs))) [ true ↦ refl | false ↦ refl ])

abbrev seen_by : List Window → Row → Bool
seen_by vs r = visible (look vs r)

rows_told : (vs : List Window) (rs : List Row) → shown_rows vs rs ≡ map (showing vs) (filter (seen_by vs) rs)
rows_told vs rs = kept_map (seen_by vs) some_shown (showing vs) (λ r. ap some_shown (showing_forgets vs r) ∙ forget_visible (look vs r)) rs

rows_looked : (vs : List Window) (rs : List Row) → sees vs rs ≡ map (look vs) (filter (seen_by vs) rs)
rows_looked vs rs = kept_map (seen_by vs) visible (look vs) (λ r. refl) rs

pub told_sees : (vs : List Window) → Apart one_window vs → (rs ss : List Row) → shown_rows vs rs ≡ shown_rows vs ss → sees vs rs ≡ sees vs ss
told_sees vs a rs ss q =
    rows_looked vs rs
    ∙ map_finer (showing vs) (look vs) (λ r s w. forget_injective vs a r s (sym (showing_forgets vs r) ∙ w ∙ showing_forgets vs s)) (filter (seen_by vs) rs) (filter (seen_by vs) ss)
    (sym (rows_told vs rs) ∙ q ∙ rows_told vs ss)
    ∙ sym (rows_looked vs ss)

pub sees_told : (vs : List Window) (rs ss : List Row) → sees vs rs ≡ sees vs ss → shown_rows vs rs ≡ shown_rows vs ss
sees_told vs rs ss q =
    rows_told vs rs
    ∙ map_finer (look vs) (showing vs) (λ r s w. showing_forgets vs r ∙ ap forget w ∙ sym (showing_forgets vs s)) (filter (seen_by vs) rs) (filter (seen_by vs) ss)
    (sym (rows_looked vs rs) ∙ q ∙ rows_looked vs ss)
    ∙ sym (rows_told vs ss)

-- what a user reaches has different names
any_map : {A B : Type 0} (h : A → B) (p : B → Bool) (xs : List A) → any p (map h xs) ≡ any (λ x. p (h x)) xs
any_map h p [] = refl
any_map h p (x ∷ xs) = ap (λ b. p (h x) || b) (any_map h p xs)

map_apart : {A B : Type 0} (h : A → B) (alike : B → B → Bool) (xs : List A) → Apart (λ x y. alike (h x) (h y)) xs → Apart alike (map h xs)
map_apart h alike [] a = tt
map_apart h alike (x ∷ xs) a = (any_map h (alike (h x)) xs ∙ a.0, map_apart h alike xs a.1)

pub reached_apart : (k : Catalogue) (u : Id) (t : Bytes) → Apart one_name k.objects.records → Apart one_window (reached k u t)
unfolding reached window
reached_apart k u t a = map_apart (window k.objects.records) one_window _ (apart_kept one_name (reached_over k.privileges.records u t) k.objects.records a)
