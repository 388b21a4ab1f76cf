-- The slots of one chain in another order: place j has the slot that place σ j had.
use Rattle.std.proofs.Common.{◌≡◌, ℕ, suc, ◌<◌, ◌≤◌, cond, eqb, ◌≢◌, List, map, length, get_or, set, sym, refl, ap, ◌∙◌, ⊎_elim, arith}
use Rattle.std.specs.List.{range_with_len}
use Rattle.std.proofs.lemmas.List.{get_or-set_same, get_or-set_other}
use Rattle.std.proofs.lemmas.Bool.{cases_eq, eq-eqb, ne_eqb, cond-true, cond-false}
use Rattle.rowmodel.specs.Calls.{listed}
use Rattle.rowmodel.proofs.Tables.{map_counting_same}
use Rattle.slotstore.specs.declared.slot.Slot.{Slot}
use Rattle.slotstore.specs.declared.chain.Chain.{Chain}
use Rattle.slotstore.specs.declared.store.SlotStore.{SlotStore}
use Rattle.slotstore.specs.Slot.{links, contents}
use Rattle.slotstore.specs.Chain.{chain_at, spot, InUse}
use Rattle.slotstore.specs.Store.{row_along, slot_meaning}
use Rattle.slotstore.proofs.Tables.{Kept, listed_by}
use Rattle.slotstore.proofs.Moves.{Moved, field_kept, link_between}
use Rattle.slotstore.proofs.Bounds.{meaning_of}
use Rattle.slotstore.proofs.Keeps.{row_moved, moved_kept}

module _ (s : SlotStore) (t : ℕ) (used : InUse s.chains t) (σ : ℕ → ℕ) (σ-inside : (j : ℕ) → j < (chain_at s.chains t).size → σ j < (chain_at s.chains t).size) (σ-once : (i j : ℕ) → σ i ≡ σ j → i ≡ j)
    (ss' : List Slot) (head count : ℕ) (filled : contents ss' ≡ contents s.memory.slots.now)
    (starts : head ≡ spot (links s.memory.slots.now) s.chains t (σ 0))
    (steps : (j : ℕ) → suc j < (chain_at s.chains t).size → get_or (links ss') (spot (links s.memory.slots.now) s.chains t (σ j)) 0 ≡ spot (links s.memory.slots.now) s.chains t (σ (suc j)))
    (others : (u j : ℕ) → u ≢ t → j < (chain_at s.chains u).size → get_or (links ss') (spot (links s.memory.slots.now) s.chains u j) 0 ≡ spot (links s.memory.slots.now) s.chains u (suc j)) where
  abbrev ss : List Slot
  ss = s.memory.slots.now

  abbrev ls : List ℕ
  ls = links ss

  abbrev cs : List Chain
  cs = s.chains

  abbrev changed_chain : Chain
  changed_chain = record { head = head; size = (chain_at cs t).size; count = count }

  abbrev pub turned : List Chain
  turned = set cs t changed_chain

  inside : t < length cs
  inside = omega (arith, used.below, s.long)

  sizes : (u : ℕ) → (chain_at turned u).size ≡ (chain_at cs u).size
  sizes u = field_kept (λ c. c.size) cs t changed_chain u inside refl

  abbrev from_place : ℕ → ℕ → ℕ
  from_place u j = cond (eqb u t) (σ j) j

  here : (u j : ℕ) → u ≡ t → from_place u j ≡ σ j
  here u j e = cond-true (eqb u t) (σ j) j (eq-eqb u t e)

  elsewhere : (u j : ℕ) → u ≢ t → from_place u j ≡ j
  elsewhere u j ne = cond-false (eqb u t) (σ j) j (ne_eqb u t ne)

  turn_inside : (u j : ℕ) → j < (chain_at turned u).size → from_place u j < (chain_at cs u).size
  turn_inside u j l =
      let size = sizes u in
      ⊎_elim
      (λ e. let z : (chain_at cs u).size ≡ (chain_at cs t).size = ap (λ i. (chain_at cs i).size) e in omega (arith, here u j e, σ-inside j (omega arith)))
      (λ ne. omega (arith, elsewhere u j ne))
      (cases_eq u t)

  turn_once : (u j w i : ℕ) → j < (chain_at turned u).size → i < (chain_at turned w).size → u ≡ w → from_place u j ≡ from_place w i → (u ≡ w) × (j ≡ i)
  turn_once u j w i _ _ e f = (
    e,
    ⊎_elim
        (λ same. σ-once j i (sym (here u j same) ∙ f ∙ here w i (sym e ∙ same)))
        (λ ne. sym (elsewhere u j ne) ∙ f ∙ elsewhere w i (λ z. ne (e ∙ z)))
        (cases_eq u t),
  )

  turn_starts : (u : ℕ) → 0 < (chain_at turned u).size → (chain_at turned u).head ≡ spot ls cs u (from_place u 0)
  turn_starts u l =
      ⊎_elim
      (λ e. ap (λ i. (chain_at turned i).head) e ∙ ap (λ c. c.head) (get_or-set_same cs t changed_chain _ inside) ∙ starts ∙ ap (spot ls cs t) (sym (here u 0 e)) ∙ ap (λ i. spot ls cs i (from_place u 0)) (sym e))
      (λ ne. ap (λ c. c.head) (get_or-set_other cs t u changed_chain _ ne) ∙ ap (spot ls cs u) (sym (elsewhere u 0 ne)))
      (cases_eq u t)

  turn_steps : (u j : ℕ) → suc j < (chain_at turned u).size → get_or (links ss') (spot ls cs u (from_place u j)) 0 ≡ spot ls cs u (from_place u (suc j))
  turn_steps u j l =
      let size = sizes u in
      ⊎_elim
      (λ e. let z : (chain_at cs u).size ≡ (chain_at cs t).size = ap (λ i. (chain_at cs i).size) e in
      link_between ls (links ss') cs u (from_place u j) u (from_place u (suc j)) t (σ j) t (σ (suc j)) e (here u j e) e (here u (suc j) e) (steps j (omega arith)))
      (λ ne. link_between ls (links ss') cs u (from_place u j) u (from_place u (suc j)) u j u (suc j) refl (elsewhere u j ne) refl (elsewhere u (suc j) ne) (others u j ne (omega arith)))
      (cases_eq u t)

  pub turn_moved : Moved ls (links ss') cs turned
  turn_moved = record { chain = λ u j. u; place = from_place; inside = turn_inside; once = turn_once; starts = turn_starts; steps = turn_steps }

  pub row_turned : (j : ℕ) → j < (chain_at cs t).size → row_along ss' turned t j ≡ row_along ss cs t (σ j)
  unfolding turn_moved
  row_turned j l =
      let size = sizes t in
      row_moved s ss' turned turn_moved filled t j (omega arith) ∙ ap (row_along ss cs t) (here t j refl)

  turn_others : (u : ℕ) → u < 16 → u ≢ t → Kept ss ss' cs turned u
  unfolding turn_moved
  turn_others u l ne =
      moved_kept s ss' turned turn_moved filled u l (sizes u) (ap (λ c. c.count) (get_or-set_other cs t u changed_chain _ ne)) (λ j. refl) (λ j. elsewhere u j ne)

  -- the rows in their new places
  pub turn_meaning : (rows : List (List ℕ)) → map (λ j. row_along ss cs t (σ j)) (range_with_len 0 count) ≡ rows → count ≤ (chain_at cs t).size → slot_meaning ss' turned ≡ listed (meaning_of s) t rows
  turn_meaning rows is few =
      listed_by ss ss' cs turned t used.below turn_others rows used.some (sizes t) (sizes 16)
      (ap (λ m. map (row_along ss' turned t) (range_with_len 0 m)) (ap (λ c. c.count) (get_or-set_same cs t changed_chain _ inside))
      ∙ map_counting_same (row_along ss' turned t) (λ j. row_along ss cs t (σ j)) count (λ j l. row_turned j (omega arith)) ∙ is)
