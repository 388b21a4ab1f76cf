-- The three links that take a slot out of its place and put it in behind the last row.
use Rattle.std.proofs.Common.{◌≡◌, ℕ, suc, ◌+◌, ◌-◌, ◌<◌, ◌≢◌, ◌⊎◌, List, length, get_or, set, sym, refl, ap, ◌∙◌, subst, ⊎_elim, arith}
use Rattle.std.proofs.lemmas.List.{get_or-set_same, get_or-set_other, length-set, length-map}
use Rattle.std.proofs.lemmas.Bool.{cases_eq, cases_order}
use Rattle.std.proofs.lemmas.Bool.Decides.{nat_tests}
use Rattle.slotstore.specs.declared.store.SlotStore.{SlotStore}
use Rattle.slotstore.specs.Slot.{link, links}
use Rattle.slotstore.specs.Chain.{chain_at, spot, InUse}
use Rattle.slotstore.proofs.Bounds.{differ, spot_within}
use Rattle.slotstore.proofs.Moves.{link_between}
use Rattle.slotstore.proofs.Removes.{behind}

module _ (s : SlotStore) (t k : ℕ) (used : InUse s.chains t) (early : k + 1 < (chain_at s.chains t).count) where
  abbrev ls : List ℕ
  ls = links s.memory.slots.now

  abbrev n : ℕ
  n = (chain_at s.chains t).count

  -- the slot at a place of the table
  abbrev pub at : ℕ → ℕ
  at j = spot ls s.chains t j

  -- the links after the writes, of which the first is of the slot before the place, if there is one
  abbrev pub relinked : ℕ → List ℕ
  relinked before = set (set (set ls before (at (suc k))) (at k) (at (suc (n - 1)))) (at (n - 1)) (at k)

  -- where the chain begins, and which slot is written first
  abbrev pub Begins : ℕ → ℕ → Type 0
  Begins head before = ((k ≡ 0) × (head ≡ at 1) × (before ≡ at 0)) ⊎ ((0 < k) × (head ≡ at 0) × (before ≡ at (k - 1)))

  module _ (head before : ℕ) (begins : Begins head before) where
    is_slot : (xs : List ℕ) (j : ℕ) → length xs ≡ length ls → j < n → at j < length xs
    is_slot xs j e l = subst (λ m. at j < m) (sym (e ∙ length-map s.memory.slots.now link)) (spot_within s t j (omega (arith, used.few)))

    to_last : get_or (relinked before) (at (n - 1)) 0 ≡ at k
    to_last = get_or-set_same _ (at (n - 1)) (at k) 0 (is_slot _ (n - 1) (simp length-set) (omega arith))

    to_taken : get_or (relinked before) (at k) 0 ≡ at (suc (n - 1))
    to_taken =
        get_or-set_other _ (at (n - 1)) (at k) (at k) 0 (differ s t k t (n - 1) (omega (arith, used.few)) (omega (arith, used.few)) (λ _ e. omega arith))
        ∙ get_or-set_same _ (at k) (at (suc (n - 1))) 0 (is_slot _ k (simp length-set) (omega arith))

    -- a slot of another place than those two has the first write, or what it had
    to_rest : (u i : ℕ) → i < (chain_at s.chains u).size → (u ≡ t → i ≡ k → ⊥) → (u ≡ t → i ≡ n - 1 → ⊥) →
        get_or (relinked before) (spot ls s.chains u i) 0 ≡ get_or (set ls before (at (suc k))) (spot ls s.chains u i) 0
    to_rest u i l not-k not_last =
        get_or-set_other _ (at (n - 1)) (spot ls s.chains u i) (at k) 0 (differ s u i t (n - 1) l (omega (arith, used.few)) not_last)
        ∙ get_or-set_other _ (at k) (spot ls s.chains u i) (at (suc (n - 1))) 0 (differ s u i t k l (omega (arith, used.few)) not-k)

    to_before : (i : ℕ) → suc i ≡ k → get_or (relinked before) (at i) 0 ≡ at (suc k)
    to_before i e =
        to_rest t i (omega (arith, used.few)) (λ _ f. omega arith) (λ _ f. omega arith)
        ∙ ap (λ b. get_or (set ls b (at (suc k))) (at i) 0) is
        ∙ get_or-set_same ls (at i) (at (suc k)) 0 (is_slot ls i refl (omega arith))
      where
        is : before ≡ at i
        is = ⊎_elim (λ z. absurd (omega arith)) (λ p. p.2 ∙ ap at (omega arith)) begins

    to_other : (u i : ℕ) → i < (chain_at s.chains u).size → (u ≡ t → i ≡ k → ⊥) → (u ≡ t → i ≡ n - 1 → ⊥) → (u ≡ t → suc i ≡ k → ⊥) →
        get_or (relinked before) (spot ls s.chains u i) 0 ≡ spot ls s.chains u (suc i)
    to_other u i l not-k not_last not-before = to_rest u i l not-k not_last ∙ get_or-set_other ls before (spot ls s.chains u i) (at (suc k)) 0 elsewhere
      where
        elsewhere : spot ls s.chains u i ≢ before
        elsewhere f =
            ⊎_elim
            (λ p. differ s u i t 0 l used.some (λ e z. not-k e (omega arith)) (f ∙ p.2))
            (λ p. differ s u i t (k - 1) l (omega (arith, used.few)) (λ e z. not-before e (omega arith)) (f ∙ p.2))
            begins

    pub relinked_starts : head ≡ at (behind k n 0)
    relinked_starts =
        ⊎_elim
        (λ p. let e : 1 ≡ behind k n 0 = grind (arith, nat_tests) in p.1 ∙ ap at e)
        (λ p. let e : 0 ≡ behind k n 0 = grind (arith, nat_tests) in p.1 ∙ ap at e)
        begins

    steps : (j : ℕ) → suc j < (chain_at s.chains t).size → get_or (relinked before) (at (behind k n j)) 0 ≡ at (behind k n (suc j))
    steps j l =
        ⊎_elim
        (λ e. between j (suc k) (grind (arith, nat_tests)) (grind (arith, nat_tests)) (to_before j e))
        (λ o. ⊎_elim
        (λ early-place. between j (suc j) (grind (arith, nat_tests)) (grind (arith, nat_tests)) (to_other t j (omega arith) (λ _ e. omega arith) (λ _ e. omega arith) (λ _ e. omega arith)))
        (λ from-k. ⊎_elim
        (λ e. between (n - 1) k (grind (arith, nat_tests)) (grind (arith, nat_tests)) to_last)
        (λ p. ⊎_elim
        (λ amid. between (suc j) (suc (suc j)) (grind (arith, nat_tests)) (grind (arith, nat_tests)) (to_other t (suc j) (omega arith) (λ _ e. omega arith) (λ _ e. omega arith) (λ _ e. omega arith)))
        (λ late. ⊎_elim
        (λ e. between k (suc (n - 1)) (grind (arith, nat_tests)) (grind (arith, nat_tests)) to_taken)
        (λ ne. between j (suc j) (grind (arith, nat_tests)) (grind (arith, nat_tests)) (to_other t j (omega arith) (λ _ e. omega arith) (λ _ e. omega arith) (λ _ e. omega arith)))
        (cases_eq (suc j) n))
        p)
        (cases_order (j + 2) n))
        o)
        (cases_order (suc j) k)
      where
        between : (a b : ℕ) → behind k n j ≡ a → behind k n (suc j) ≡ b → get_or (relinked before) (at a) 0 ≡ at b → get_or (relinked before) (at (behind k n j)) 0 ≡ at (behind k n (suc j))
        between a b e f leads = link_between ls (relinked before) s.chains t (behind k n j) t (behind k n (suc j)) t a t b refl e refl f leads

    module _ (xs : List ℕ) (linked : xs ≡ relinked before) where
      pub relinked_steps : (j : ℕ) → suc j < (chain_at s.chains t).size → get_or xs (at (behind k n j)) 0 ≡ at (behind k n (suc j))
      relinked_steps j l = ap (λ ys. get_or ys (at (behind k n j)) 0) linked ∙ steps j l

      pub relinked_others : (u j : ℕ) → u ≢ t → j < (chain_at s.chains u).size → get_or xs (spot ls s.chains u j) 0 ≡ spot ls s.chains u (suc j)
      relinked_others u j ne l = ap (λ ys. get_or ys (spot ls s.chains u j) 0) linked ∙ to_other u j l (λ e _. ne e) (λ e _. ne e) (λ e _. ne e)
