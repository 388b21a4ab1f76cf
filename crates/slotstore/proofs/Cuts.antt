-- Tables cut from the front of the free chain, and joined to it again.
use Rattle.std.proofs.Common.{◌≡◌, ℕ, suc, ◌+◌, ◌-◌, ◌<◌, ◌≤◌, cond, eqb, ◌≢◌, List, [], map, length, get_or, set, ap, ◌∙◌, add-zero, add-suc, arith}
use Rattle.std.specs.List.{range_with_len}
use Rattle.std.proofs.lemmas.List.{length-set, get_or-set_same, get_or-set_other}
use Rattle.std.proofs.lemmas.Bool.Decides.{nat_tests}
use Rattle.rowmodel.specs.Meaning.{used, table_of}
use Rattle.rowmodel.proofs.Tables.{table_of_used}
use Rattle.rowmodel.specs.Calls.{made}
use Rattle.slotstore.specs.declared.slot.Slot.{Slot}
use Rattle.slotstore.specs.declared.chain.Chain.{Chain}
use Rattle.slotstore.specs.Chain.{chain_at, spot}
use Rattle.slotstore.specs.Store.{row_along, slot_meaning}
use Rattle.slotstore.proofs.Tables.{changed, chain_kept}
use Rattle.slotstore.proofs.Moves.{Moved, field_sets}

module _ (ls : List ℕ) (cs : List Chain) (t n : ℕ) (lt : t < 16) (long : length cs ≡ 17) (unused : (chain_at cs t).size ≡ 0) (room : n ≤ (chain_at cs 16).size) (end : ℕ) (reached : end ≡ spot ls cs 16 n) where
  abbrev pub cut_off : Chain
  cut_off = record { head = (chain_at cs 16).head; size = n; count = 0 }

  abbrev pub rest : Chain
  rest = record { head = end; size = (chain_at cs 16).size - n; count = 0 }

  abbrev pub cut : List Chain
  cut = set (set cs t cut_off) 16 rest

  size_is : (u : ℕ) → (chain_at cut u).size ≡ cond (eqb u 16) ((chain_at cs 16).size - n) (cond (eqb u t) n (chain_at cs u).size)
  size_is u = field_sets (λ c. c.size) cs t cut_off rest u lt long

  head_is : (u : ℕ) → (chain_at cut u).head ≡ cond (eqb u 16) end (cond (eqb u t) (chain_at cs 16).head (chain_at cs u).head)
  head_is u = field_sets (λ c. c.head) cs t cut_off rest u lt long

  abbrev from_chain : ℕ → ℕ → ℕ
  from_chain u k = cond (eqb u t) 16 u

  abbrev from_place : ℕ → ℕ → ℕ
  from_place u k = cond (eqb u 16) (n + k) k

  cut_inside : (u k : ℕ) → k < (chain_at cut u).size → from_place u k < (chain_at cs (from_chain u k)).size
  cut_inside u k l = let e = size_is u in grind (arith, nat_tests)

  cut_once : (u k w j : ℕ) → k < (chain_at cut u).size → j < (chain_at cut w).size → from_chain u k ≡ from_chain w j → from_place u k ≡ from_place w j → (u ≡ w) × (k ≡ j)
  cut_once u k w j lk lj e f = let a = size_is u in let b = size_is w in (grind (arith, nat_tests), grind (arith, nat_tests))

  cut_starts : (u : ℕ) → 0 < (chain_at cut u).size → (chain_at cut u).head ≡ spot ls cs (from_chain u 0) (from_place u 0)
  cut_starts u l = let e = head_is u in let z = add-zero n in grind (arith, nat_tests)

  cut_steps : (u k : ℕ) → suc k < (chain_at cut u).size → get_or ls (spot ls cs (from_chain u k) (from_place u k)) 0 ≡ spot ls cs (from_chain u (suc k)) (from_place u (suc k))
  cut_steps u k l =
      let z = add-suc n k in
      let next : suc (from_place u k) ≡ from_place u (suc k) = grind (arith, nat_tests) in
      ap (spot ls cs (from_chain u k)) next

  pub cut_moved : Moved ls ls cs cut
  cut_moved = record { chain = from_chain; place = from_place; inside = cut_inside; once = cut_once; starts = cut_starts; steps = cut_steps }

  cut_here : chain_at cut t ≡ cut_off
  cut_here = get_or-set_other (set cs t cut_off) 16 t rest _ (λ e. omega arith) ∙ get_or-set_same cs t cut_off _ (omega arith)

  cut_others : (u : ℕ) → u < 16 → u ≢ t → chain_at cut u ≡ chain_at cs u
  cut_others u l ne = get_or-set_other (set cs t cut_off) 16 u rest _ (λ e. omega arith) ∙ get_or-set_other cs t u cut_off _ ne

  pub cut_meaning : (ss : List Slot) → 0 < n → slot_meaning ss cut ≡ made (slot_meaning ss cs) t n
  cut_meaning ss some =
      changed ss ss cs cut t lt (λ u l ne. chain_kept ss cs cut u (cut_others u l ne)) (used n []) ((chain_at cs 16).size - n)
      (ap (λ m. table_of (chain_at cut t).size (map (row_along ss cut t) (range_with_len 0 m))) (ap (λ c. c.count) cut_here)
      ∙ ap (λ m. table_of m []) (ap (λ c. c.size) cut_here) ∙ table_of_used n [] some)
      (ap (λ c. c.size) (get_or-set_same (set cs t cut_off) 16 rest _ (omega (arith, length-set cs t cut_off))))
