-- An accepted append adds one row at the end, and leaves all else.
use Rattle.std.proofs.Common.{◌≡◌, ℕ, ◌-◌, ◌<◌, true, cond, ltb, List, [], ◌∷◌, ◌++◌, length, get_or, Some, None, Ok, sym, refl, ap, ◌∙◌, subst, ⊎_elim, arith}
use Rattle.std.proofs.lemmas.List.{get_or_past, get_or_append_left, get_or_push, length_push}
use Rattle.std.proofs.lemmas.Bool.{cases_lt, cases_eq, cond-true, lt-ltb}
use Rattle.rowmodel.specs.declared.StoreFault.TheVariants.{Unused, Place}
use Rattle.rowmodel.specs.Meaning.{Meaning, table, is_used, limit_of, rows_of, with_rows, row_at}
use Rattle.rowmodel.specs.Needs.{answer, append_unmet, row_unmet}
use Rattle.rowmodel.specs.Calls.{appended}
use Rattle.rowmodel.proofs.Needed.{append_met}
use Rattle.rowmodel.proofs.Tables.{used_within, table_set, table_other, used_with, limit_with, rows_with}
use Rattle.rowstore.specs.Added.{count, Added}

-- a place in a list with one row more at its end
push_at : (rows : List (List ℕ)) (row : List ℕ) (k : ℕ) → (k ≡ length rows → ⊥) → get_or (rows ++ (row ∷ [])) k [] ≡ get_or rows k []
push_at rows row k ne =
    ⊎_elim (λ b. get_or_append_left rows (row ∷ []) [] k b)
    (λ a. get_or_past (rows ++ (row ∷ [])) k [] (omega (arith, length_push rows row, ne)) ∙ sym (get_or_past rows k [] a))
    (cases_lt k (length rows))

pub appended_adds : (m : Meaning) (t : ℕ) (row : List ℕ) → append_unmet m t row ≡ None → Added m t row (appended m t row)
appended_adds m t row o = record {
  longer = ap length here ∙ length_push (rows_of (table m t)) row;
  last = ap (λ rs. get_or rs (count m t) []) here ∙ get_or_push (rows_of (table m t)) row [] (count m t) refl;
  others = λ u k ne. ⊎_elim
      (λ e. ap (λ v. row_at (appended m t row) v k) e ∙ ap (λ rs. get_or rs k []) here ∙ push_at (rows_of (table m t)) row k (ne e) ∙ ap (λ v. row_at m v k) (sym e))
      (λ d. ap (λ x. get_or (rows_of x) k []) (there u d))
      (cases_eq u t);
  lists = λ u ne. ap (λ x. length (rows_of x)) (there u ne);
  numbers = λ u. ⊎_elim (λ e. ap (λ v. is_used (table (appended m t row) v)) e ∙ ap is_used at ∙ used_with (table m t) _ ∙ ap (λ v. is_used (table m v)) (sym e)) (λ d. ap is_used (there u d)) (cases_eq u t);
  limits = λ u. ⊎_elim (λ e. ap (λ v. limit_of (table (appended m t row) v)) e ∙ ap limit_of at ∙ limit_with (table m t) _ ∙ ap (λ v. limit_of (table m v)) (sym e)) (λ d. ap limit_of (there u d)) (cases_eq u t);
  free = refl;
}
  where
    used : is_used (table m t) ≡ true
    used = (append_met m t row o).0

    at : table (appended m t row) t ≡ with_rows (table m t) (rows_of (table m t) ++ (row ∷ []))
    at = table_set m t (with_rows (table m t) (rows_of (table m t) ++ (row ∷ []))) (used_within m t used)

    here : rows_of (table (appended m t row) t) ≡ rows_of (table m t) ++ (row ∷ [])
    here = ap rows_of at ∙ rows_with (table m t) (rows_of (table m t) ++ (row ∷ [])) used

    there : (u : ℕ) → (u ≡ t → ⊥) → table (appended m t row) u ≡ table m u
    there u ne = table_other m t u (with_rows (table m t) (rows_of (table m t) ++ (row ∷ []))) ne

-- a row that is there is lent
pub row_none : (m : Meaning) (t k : ℕ) → is_used (table m t) ≡ true → k < count m t → row_unmet m t k ≡ None
row_none m t k e l = cond-true (is_used (table m t)) (cond (ltb k (count m t)) None (Some Place)) (Some Unused) e ∙ cond-true (ltb k (count m t)) None (Some Place) (lt-ltb k (count m t) l)

-- after an append the last row is the new one
pub last_is_new : (m : Meaning) (t : ℕ) (row : List ℕ) → append_unmet m t row ≡ None → (m' : Meaning) → m' ≡ appended m t row →
    answer (row_unmet m' t (count m' t - 1)) (row_at m' t (count m' t - 1)) ≡ Ok row
last_is_new m t row o m' e =
    let a : Added m t row m' = subst (Added m t row) (sym e) (appended_adds m t row o) in
    let place : count m' t - 1 ≡ count m t = omega (arith, a.longer) in
    ap (λ n. answer n (row_at m' t (count m' t - 1))) (row_none m' t (count m' t - 1) (a.numbers t ∙ (append_met m t row o).0) (omega (arith, a.longer)))
    ∙ ap Ok (ap (row_at m' t) place ∙ a.last)
