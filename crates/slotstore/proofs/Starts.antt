-- A store at its start: one chain, of the free slots.
use Rattle.std.proofs.Common.{◌≡◌, ℕ, zero, suc, ◌+◌, ◌<◌, ◌≤◌, cond, eqb, List, ◌++◌, length, get_or, set, replicate, sym, refl, ap, ◌∙◌, subst, ⊎_elim, add-one, arith}
use Rattle.std.proofs.lemmas.List.{get_or_past, get_or_append_left, map-append, get_or-set_same, get_or-set_other, get_or-replicate, map-set, length-map}
use Rattle.std.proofs.lemmas.Bool.{cases_eq, cases_lt}
use Rattle.std.proofs.lemmas.Bool.Decides.{nat_tests}
use Rattle.slotstore.specs.declared.slot.Slot.{Slot}
use Rattle.slotstore.specs.declared.chain.Chain.{Chain}
use Rattle.slotstore.specs.Slot.{link, links}
use Rattle.slotstore.specs.Chain.{follow, chain_at, Place, Within, Apart}
use Rattle.slotstore.proofs.Moves.{field_set}

-- one slot more is linked to the one after it
pub linked_more : (ss : List Slot) (i : ℕ) (s : Slot) → i < length ss → s.next ≡ i + 1 → ((k : ℕ) → k < i → get_or (links ss) k 0 ≡ k + 1) →
    (k : ℕ) → k < i + 1 → get_or (links (set ss i s)) k 0 ≡ k + 1
linked_more ss i s l e inv k lk =
    ap (λ ls. get_or ls k 0) (map-set link ss i s)
    ∙ ⊎_elim
    (λ same. ap (λ j. get_or (set (links ss) i s.next) j 0) same ∙ get_or-set_same (links ss) i s.next 0 (subst (λ m. i < m) (sym (length-map ss link)) l) ∙ e ∙ ap (λ j. j + 1) (sym same))
    (λ ne. get_or-set_other (links ss) i k s.next 0 ne ∙ inv k (omega arith))
    (cases_eq k i)

-- more slots behind them leave them linked
pub linked_front : (front rest : List Slot) (n : ℕ) → n ≤ length front → ((k : ℕ) → k < n → get_or (links front) k 0 ≡ k + 1) →
    (k : ℕ) → k < n → get_or (links (front ++ rest)) k 0 ≡ k + 1
linked_front front rest n l inv k lk =
    ap (λ ls. get_or ls k 0) (map-append link front rest) ∙ get_or_append_left (links front) (links rest) 0 k (omega (arith, length-map front link)) ∙ inv k lk

abbrev no_chain : Chain
no_chain = record { head = 0; size = 0; count = 0 }

abbrev only : ℕ → Chain
only n = record { head = 0; size = n; count = 0 }

abbrev pub start : ℕ → List Chain
start n = set (replicate 17 no_chain) 16 (only n)

none_at : (t : ℕ) → chain_at (replicate 17 no_chain) t ≡ no_chain
none_at t = ⊎_elim (λ l. get_or-replicate 17 t no_chain no_chain l) (λ past. get_or_past (replicate 17 no_chain) t no_chain past) (cases_lt t 17)

start_field : (f : Chain → ℕ) (n t : ℕ) → f (chain_at (start n) t) ≡ cond (eqb t 16) (f (only n)) (f no_chain)
start_field f n t = field_set f (replicate 17 no_chain) 16 (only n) t (omega arith) ∙ ap (λ c. cond (eqb t 16) (f (only n)) (f c)) (none_at t)

module _ (ls : List ℕ) (n : ℕ) (linked : (k : ℕ) → k < n → get_or ls k 0 ≡ k + 1) where
  count_on : (k : ℕ) → k ≤ n → follow ls 0 k ≡ k
  count_on zero l = refl
  count_on (suc k) l = ap (λ i. get_or ls i 0) (count_on k (omega arith)) ∙ linked k (omega arith) ∙ add-one k

  -- a place is one of the free slots, and its number is the slot's
  free_only : (p : Place (start n)) → (p.chain ≡ 16) × (p.place < n)
  free_only p =
      let size = start_field (λ c. c.size) n p.chain in
      let l = p.inside in
      (grind (arith, nat_tests), grind (arith, nat_tests))

  stands : (p : Place (start n)) → follow ls (chain_at (start n) p.chain).head p.place ≡ p.place
  stands p =
      let first = start_field (λ c. c.head) n p.chain in
      let h : (chain_at (start n) p.chain).head ≡ 0 = grind (arith, nat_tests) in
      ap (λ h. follow ls h p.place) h ∙ count_on p.place (omega (arith, (free_only p).1))

  pub start_within : (m : ℕ) → n ≤ m → Within m ls (start n)
  start_within m h p = omega (arith, stands p, (free_only p).1)

  pub start_apart : Apart ls (start n)
  start_apart s = ((free_only s.one).0 ∙ sym (free_only s.other).0, sym (stands s.one) ∙ s.same ∙ stands s.other)
