-- What holds of every store is kept by every call.
use Rattle.std.proofs.Common.{◌≡◌, ℕ, ◌+◌, ◌-◌, ◌<◌, ◌≤◌, true, false, List, [], ◌∷◌, ◌++◌, length, get_or, set, replicate, None, sym, refl, ap, ◌∙◌, subst, ⊎_elim, arith}
use Rattle.std.specs.List.{remove as without}
use Rattle.std.proofs.lemmas.List.{get_or_past, get_or-set_same, get_or-set_other, get_or_append_left, get_or_push, get_or-replicate, length-set, length_push}
use Rattle.std.proofs.lemmas.List.Edits.{length-remove, get_or-remove_below, get_or-remove_above}
use Rattle.std.proofs.lemmas.Bool.{cases_lt, cases_eq}
use Rattle.rowmodel.specs.Meaning.{Table, unused, used, Meaning, empty, table, with_table, with_free, is_used, limit_of, rows_of, with_rows, Sound}
use Rattle.rowmodel.specs.Needs.{make_unmet, drop_unmet, append_unmet, replace_unmet, remove_unmet}
use Rattle.rowmodel.specs.Calls.{made, dropped, listed, appended, replaced, removed}
use Rattle.rowmodel.proofs.Needed.{make_met, drop_met, append_met, place_met, replace_met}
use Rattle.rowmodel.proofs.Tables.{used_within, limit_with, limits_set}

-- what holds of each table
pub record Fair (x : Table) : Type 0 where
  pub some : is_used x ≡ true → 1 ≤ limit_of x
  pub small : limit_of x ≤ 255
  pub few : length (rows_of x) ≤ limit_of x
  pub sized : (k : ℕ) → k < length (rows_of x) → (1 ≤ length (get_or (rows_of x) k [])) × (length (get_or (rows_of x) k []) ≤ 240)

pub fair_at : (m : Meaning) (t : ℕ) → Sound m → Fair (table m t)
fair_at m t s = record { some = (s.limited t).0; small = (s.limited t).1; few = (s.limited t).2; sized = s.sized t }

fair_unused : Fair unused
fair_unused = record { some = λ e. let z : ◌≡◌ {A = ℕ} 0 1 = cc in absurd (omega arith); small = omega arith; few = omega arith; sized = λ k l. absurd (omega arith) }

-- another fair table at one number, which with the free rows takes no more room
pub sound_with : (m : Meaning) (t : ℕ) (x : Table) (f : ℕ) → Sound m → t < 16 → Fair x → f + limit_of x ≤ m.free + limit_of (table m t) →
    Sound (with_free (with_table m t x) f)
sound_with m t x f s lt fair room = record {
  sixteen = length-set m.tables t x ∙ s.sixteen;
  limited = λ u. ((all u).some, (all u).small, (all u).few);
  sized = λ u. (all u).sized;
  roomy = omega (arith, limits_set m.tables t x (omega (arith, s.sixteen)), s.roomy);
}
  where
    all : (u : ℕ) → Fair (get_or (set m.tables t x) u unused)
    all u =
        ⊎_elim
        (λ e. subst Fair (sym (ap (λ j. get_or (set m.tables t x) j unused) e ∙ get_or-set_same m.tables t x unused (omega (arith, s.sixteen)))) fair)
        (λ ne. subst Fair (sym (get_or-set_other m.tables t u x unused ne)) (fair_at m u s))
        (cases_eq u t)

-- a store at its start
pub sound_empty : (n : ℕ) → n ≤ 65535 → Sound (empty n)
sound_empty n l = record {
  sixteen = refl;
  limited = λ u. ((all u).some, (all u).small, (all u).few);
  sized = λ u. (all u).sized;
  roomy = omega arith;
}
  where
    all : (u : ℕ) → Fair (get_or (replicate 16 unused) u unused)
    all u = subst Fair (sym (⊎_elim (λ h. get_or-replicate 16 u unused unused h) (λ h. get_or_past (replicate 16 unused) u unused h) (cases_lt u 16))) fair_unused

unused_limit : (x : Table) → is_used x ≡ false → limit_of x ≡ 0
unused_limit unused e = refl
unused_limit (used limit rows) e = let z : ◌≡◌ {A = ℕ} 0 1 = cc in absurd (omega arith)

pub sound_made : (m : Meaning) (t limit : ℕ) → Sound m → make_unmet m t limit ≡ None → Sound (made m t limit)
sound_made m t limit s o =
    let h = make_met m t limit o in
    sound_with m t (used limit []) (m.free - limit) s h.0
    (record { some = λ _. h.2; small = h.3; few = omega arith; sized = λ k l. absurd (omega arith) })
    (omega (arith, h.4, unused_limit (table m t) h.1))

pub used_below : (m : Meaning) (t : ℕ) → Sound m → is_used (table m t) ≡ true → t < 16
used_below m t s e = omega (arith, used_within m t e, s.sixteen)

pub sound_dropped : (m : Meaning) (t : ℕ) → Sound m → drop_unmet m t ≡ None → Sound (dropped m t)
sound_dropped m t s o =
    sound_with m t unused (m.free + limit_of (table m t)) s (used_below m t s (drop_met m t o)) fair_unused (omega arith)

-- another list of rows under the same limit
fair_rows : (x : Table) (rows : List (List ℕ)) → Fair x → is_used x ≡ true → length rows ≤ limit_of x →
    ((k : ℕ) → k < length rows → (1 ≤ length (get_or rows k [])) × (length (get_or rows k []) ≤ 240)) → Fair (with_rows x rows)
fair_rows unused rows f e l h = f
fair_rows (used limit old) rows f e l h = record { some = f.some; small = f.small; few = l; sized = h }

pub sound_listed : (m : Meaning) (t : ℕ) (rows : List (List ℕ)) → Sound m → is_used (table m t) ≡ true → length rows ≤ limit_of (table m t) →
    ((k : ℕ) → k < length rows → (1 ≤ length (get_or rows k [])) × (length (get_or rows k []) ≤ 240)) → Sound (listed m t rows)
sound_listed m t rows s e l h =
    sound_with m t (with_rows (table m t) rows) m.free s (used_below m t s e) (fair_rows (table m t) rows (fair_at m t s) e l h)
    (omega (arith, limit_with (table m t) rows))

pub sound_appended : (m : Meaning) (t : ℕ) (row : List ℕ) → Sound m → append_unmet m t row ≡ None → Sound (appended m t row)
sound_appended m t row s o =
    let h = append_met m t row o in
    let rows = rows_of (table m t) in
    sound_listed m t (rows ++ (row ∷ [])) s h.0 (omega (arith, length_push rows row, h.3))
    (λ k l. ⊎_elim
    (λ b. subst (λ r. (1 ≤ length r) × (length r ≤ 240)) (sym (get_or_append_left rows (row ∷ []) [] k b)) (s.sized t k b))
    (λ b. subst (λ r. (1 ≤ length r) × (length r ≤ 240)) (sym (get_or_push rows row [] k (omega (arith, length_push rows row)))) (h.1, h.2))
    (cases_lt k (length rows)))

pub sound_replaced : (m : Meaning) (t k : ℕ) (row : List ℕ) → Sound m → replace_unmet m t k row ≡ None → Sound (replaced m t k row)
sound_replaced m t k row s o =
    let h = replace_met m t k row o in
    let rows = rows_of (table m t) in
    sound_listed m t (set rows k row) s h.0 (omega (arith, length-set rows k row, (s.limited t).2))
    (λ j l. ⊎_elim
    (λ e. subst (λ r. (1 ≤ length r) × (length r ≤ 240)) (sym (ap (λ i. get_or (set rows k row) i []) e ∙ get_or-set_same rows k row [] h.1)) (h.2, h.3))
    (λ ne. subst (λ r. (1 ≤ length r) × (length r ≤ 240)) (sym (get_or-set_other rows k j row [] ne)) (s.sized t j (omega (arith, length-set rows k row))))
    (cases_eq j k))

pub sound_removed : (m : Meaning) (t k : ℕ) → Sound m → remove_unmet m t k ≡ None → Sound (removed m t k)
sound_removed m t k s o =
    let h = place_met m t k o in
    let rows = rows_of (table m t) in
    let shorter = length-remove rows k h.1 in
    sound_listed m t (without rows k) s h.0 (omega (arith, shorter, (s.limited t).2))
    (λ j l. ⊎_elim
    (λ b. subst (λ r. (1 ≤ length r) × (length r ≤ 240)) (sym (get_or-remove_below rows k [] j b h.1)) (s.sized t j (omega (arith, shorter))))
    (λ a. subst (λ r. (1 ≤ length r) × (length r ≤ 240)) (sym (get_or-remove_above rows k [] j a h.1)) (s.sized t (j + 1) (omega (arith, shorter))))
    (cases_lt j k))
