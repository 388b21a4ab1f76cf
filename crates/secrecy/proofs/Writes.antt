-- What is written of two rows alike stays alike.
use Rattle.std.proofs.Common.{◌≡◌, ℕ, zero, suc, List, [], ◌∷◌, map, length, set, sym, refl, ◌∙◌, arith}
use mathlib.Core.List.{head-eq_of_cons-eq, tail-eq_of_cons-eq}
use Rattle.cardmodel.specs.State.{Bytes, Row}
use Rattle.cardmodel.specs.Objects.{cell}
use Rattle.cardmodel.specs.CursorRules.{Write, written}
use Rattle.cardlaws.proofs.Rows.{written_length}

set_alike : (r s : Row) (c n : ℕ) (v : Bytes) → length r ≡ length s → cell r n ≡ cell s n → cell (set r c v) n ≡ cell (set s c v) n
set_alike [] [] c n v l e = refl
set_alike [] (y ∷ s) c n v l e = absurd (omega arith)
set_alike (x ∷ r) [] c n v l e = absurd (omega arith)
set_alike (x ∷ r) (y ∷ s) zero zero v l e = refl
set_alike (x ∷ r) (y ∷ s) zero (suc n) v l e = e
set_alike (x ∷ r) (y ∷ s) (suc c) zero v l e = e
set_alike (x ∷ r) (y ∷ s) (suc c) (suc n) v l e = set_alike r s c n v (omega arith) e

pub written_alike : (ws : List Write) (r s : Row) (n : ℕ) → length r ≡ length s → cell r n ≡ cell s n → cell (written ws r) n ≡ cell (written ws s) n
written_alike [] r s n l e = e
written_alike (w ∷ ws) r s n l e =
    set_alike (written ws r) (written ws s) w.to.number n w.string.bytes (written_length ws r ∙ l ∙ sym (written_length ws s)) (written_alike ws r s n l e)

pub map_written : (ws : List Write) (r s : Row) (cs : List ℕ) → length r ≡ length s → map (cell r) cs ≡ map (cell s) cs → map (cell (written ws r)) cs ≡ map (cell (written ws s)) cs
map_written ws r s [] l e = refl
map_written ws r s (c ∷ cs) l e =
    let h : cell (written ws r) c ≡ cell (written ws s) c = written_alike ws r s c l (head-eq_of_cons-eq e) in
    let t : map (cell (written ws r)) cs ≡ map (cell (written ws s)) cs = map_written ws r s cs l (tail-eq_of_cons-eq e) in cc
