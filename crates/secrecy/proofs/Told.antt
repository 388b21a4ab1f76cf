-- What a cursor selects and fetches is told by the look of a row.
use Rattle.std.proofs.Common.{◌≡◌, ℕ, Bool, true, false, cond, ◌&&◌, eqb, List, [], ◌∷◌, map, Some, None, Option, sym, refl, ap, ◌∙◌, subst}
use mathlib.Core.Path.{fun_ext}
use Rattle.std.specs.Option.{option_map}
use Rattle.std.proofs.lemmas.Bool.{both_ways, and_parts}
use Rattle.text.specs.Operator.{holds_of}
use Rattle.cells.specs.Form.{encoded}
use Rattle.cardmodel.specs.Lists.{any, all, next_place}
use Rattle.cardmodel.specs.State.{Bytes, Row, Test, Choice}
use Rattle.cardmodel.specs.Objects.{Window, shows, cell, compared, passes, meets}
use Rattle.cardmodel.specs.CursorRules.{selected, fetched}
use Rattle.cardmodel.proofs.Lists.{In, some_inj}
use Rattle.secrecy.proofs.Ranks.{rank, next_seen}
use Rattle.secrecy.proofs.Looks.{Look, shown_cells, look, given, visible, sees, entry, entry_look, entry_hidden, cell_in, cell_in_shown}

-- a condition, told by the shown cells
test_in : List ℕ → List Bytes → Test → Bool
test_in cs xs q = holds_of q.operator (compared q.on.column (cell_in cs xs q.on.number) q.string)

tests_in : List ℕ → List Test → Option (List Bytes) → Bool
tests_in cs qs None = false
tests_in cs qs (Some xs) = all (test_in cs xs) qs

-- whether a row is selected, told by its look
tells : (w : Window) (qs : List Test) {vs : List Window} → In w vs → Look → Bool
tells w qs i l = tests_in w.columns qs (entry i l)

all_told : (cs : List ℕ) (r : Row) (qs : List Test) → all (λ q. any (eqb q.on.number) cs) qs ≡ true → all (test_in cs (map (cell r) cs)) qs ≡ all (passes r) qs
unfolding test_in passes
all_told cs r [] h = refl
all_told cs r (q ∷ qs) h =
    let p = and_parts (any (eqb q.on.number) cs) (all (λ q. any (eqb q.on.number) cs) qs) h in
    rw (cell_in_shown cs r q.on.number p.0, all_told cs r qs p.1)

tells_selected : (w : Window) (qs : List Test) {vs : List Window} (i : In w vs) → all (λ q. shows w q.on.number) qs ≡ true → (r : Row) → tells w qs i (look vs r) ≡ selected w qs r
unfolding tells tests_in shown_cells selected shows
tells_selected w qs i h r =
    rw (entry_look i r)
    (elim (meets w r) as (λ b. tests_in w.columns qs (cond b (Some (map (cell r) w.columns)) None) ≡ (b && all (passes r) qs))
    [ true ↦ all_told w.columns r qs h | false ↦ refl ])

tells_hidden : (w : Window) (qs : List Test) {vs : List Window} (i : In w vs) (l : Look) → visible l ≡ false → tells w qs i l ≡ false
unfolding tells tests_in
tells_hidden w qs i l v = go (entry i l) (entry_hidden i l v)
  where
    go : (x : Option (List Bytes)) → given x ≡ false → tests_in w.columns qs x ≡ false
    go None g = refl
    go (Some x) g = absurd (both_ways true g refl)

-- the next selected row stands in both tables behind equally many visible ones
pub next_alike : (w : Window) (qs : List Test) {vs : List Window} (i : In w vs) → all (λ q. shows w q.on.number) qs ≡ true → (rs ss : List Row) (m n : ℕ) →
    sees vs rs ≡ sees vs ss → rank visible (look vs) rs m ≡ rank visible (look vs) ss n →
    option_map (rank visible (look vs) rs) (next_place (selected w qs) rs m) ≡ option_map (rank visible (look vs) ss) (next_place (selected w qs) ss n)
next_alike w qs {vs} i h rs ss m n q e =
    let same_test : (λ r. tells w qs i (look vs r)) ≡ selected w qs = fun_ext (tells_selected w qs i h) in
    let at : (xs : List Row) (k : ℕ) → option_map (rank visible (look vs) xs) (next_place (selected w qs) xs k) ≡ next_place (tells w qs i) (sees vs xs) (rank visible (look vs) xs k) =
    λ xs k. subst (λ p. option_map (rank visible (look vs) xs) (next_place p xs k) ≡ next_place (tells w qs i) (sees vs xs) (rank visible (look vs) xs k)) same_test
    (next_seen visible (look vs) (tells w qs i) (tells_hidden w qs i) xs k) in
    at rs m ∙ rw (q, e) refl ∙ sym (at ss n)

map_told : (cs : List ℕ) (r s : Row) (ns : List ℕ) → map (cell r) cs ≡ map (cell s) cs → all (λ n. any (eqb n) cs) ns ≡ true → map (cell r) ns ≡ map (cell s) ns
map_told cs r s [] e h = refl
map_told cs r s (n ∷ ns) e h =
    let p = and_parts (any (eqb n) cs) (all (λ n. any (eqb n) cs) ns) h in
    let x : cell r n ≡ cell s n = sym (cell_in_shown cs r n p.0) ∙ ap (λ y. cell_in cs y n) e ∙ cell_in_shown cs s n p.0 in
    let t : map (cell r) ns ≡ map (cell s) ns = map_told cs r s ns e p.1 in cc

-- what is fetched of two rows that look alike
pub fetched_alike : (s : Choice) (w : Window) {vs : List Window} (i : In w vs) → all (shows w) s.columns ≡ true → (r t : Row) → meets w r ≡ true → meets w t ≡ true →
    look vs r ≡ look vs t → fetched s r ≡ fetched s t
unfolding fetched shown_cells shows
fetched_alike s w {vs} i h r t mr mt l =
    let a : shown_cells w r ≡ shown_cells w t = sym (entry_look i r) ∙ ap (entry i) l ∙ entry_look i t in
    let b : Some (map (cell r) w.columns) ≡ Some (map (cell t) w.columns) = rw (mr, mt) at a in
    ap encoded (map_told w.columns r t s.columns (some_inj b) h)
