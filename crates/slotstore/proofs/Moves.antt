-- Chains whose places were places of other chains before.
use Rattle.std.proofs.Common.{◌≡◌, ℕ, zero, suc, ◌<◌, cond, eqb, List, length, get_or, set, sym, ap, ◌∙◌, subst, ⊎_elim, arith}
use Rattle.std.proofs.lemmas.List.{get_or-set_same, get_or-set_other, length-set}
use Rattle.std.proofs.lemmas.Bool.{cases_eq, eq-eqb, ne_eqb, cond-true, cond-false}
use Rattle.slotstore.specs.declared.chain.Chain.{Chain}
use Rattle.slotstore.specs.Chain.{chain_at, spot, Place, Within, Apart}

-- a field of a chain, after a write of chain t
pub field_set : {X : Type 0} (f : Chain → X) (cs : List Chain) (t : ℕ) (c : Chain) (u : ℕ) → t < length cs →
    f (chain_at (set cs t c) u) ≡ cond (eqb u t) (f c) (f (chain_at cs u))
field_set f cs t c u l =
    ⊎_elim
    (λ e. ap (λ j. f (chain_at (set cs t c) j)) e ∙ ap f (get_or-set_same cs t c _ l) ∙ sym (cond-true (eqb u t) (f c) (f (chain_at cs u)) (eq-eqb u t e)))
    (λ ne. ap f (get_or-set_other cs t u c _ ne) ∙ sym (cond-false (eqb u t) (f c) (f (chain_at cs u)) (ne_eqb u t ne)))
    (cases_eq u t)

-- a field of a chain, after a write of chain t and then of the free chain
pub field_sets : (f : Chain → ℕ) (cs : List Chain) (t : ℕ) (a b : Chain) (u : ℕ) → t < 16 → length cs ≡ 17 →
    f (chain_at (set (set cs t a) 16 b) u) ≡ cond (eqb u 16) (f b) (cond (eqb u t) (f a) (f (chain_at cs u)))
field_sets f cs t a b u l long =
    field_set f (set cs t a) 16 b u (omega (arith, length-set cs t a)) ∙ ap (cond (eqb u 16) (f b)) (field_set f cs t a u (omega arith))

-- a field that the write leaves
pub field_kept : {X : Type 0} (f : Chain → X) (cs : List Chain) (t : ℕ) (c : Chain) (u : ℕ) → t < length cs → f c ≡ f (chain_at cs t) →
    f (chain_at (set cs t c) u) ≡ f (chain_at cs u)
field_kept f cs t c u l same =
    ⊎_elim
    (λ e. ap (λ j. f (chain_at (set cs t c) j)) e ∙ ap f (get_or-set_same cs t c _ l) ∙ same ∙ ap (λ j. f (chain_at cs j)) (sym e))
    (λ ne. ap f (get_or-set_other cs t u c _ ne))
    (cases_eq u t)

-- Place k of chain u was place `place u k` of chain `chain u k`, and no place became two.
pub record Moved (ls ls' : List ℕ) (cs cs' : List Chain) : Type 0 where
  pub chain : ℕ → ℕ → ℕ
  pub place : ℕ → ℕ → ℕ
  pub inside : (u k : ℕ) → k < (chain_at cs' u).size → place u k < (chain_at cs (chain u k)).size
  pub once : (u k w j : ℕ) → k < (chain_at cs' u).size → j < (chain_at cs' w).size → chain u k ≡ chain w j → place u k ≡ place w j → (u ≡ w) × (k ≡ j)
  pub starts : (u : ℕ) → 0 < (chain_at cs' u).size → (chain_at cs' u).head ≡ spot ls cs (chain u 0) (place u 0)
  pub steps : (u k : ℕ) → suc k < (chain_at cs' u).size → get_or ls' (spot ls cs (chain u k) (place u k)) 0 ≡ spot ls cs (chain u (suc k)) (place u (suc k))

module _ (ls ls' : List ℕ) (cs cs' : List Chain) (m : Moved ls ls' cs cs') where
  pub stood : (u k : ℕ) → k < (chain_at cs' u).size → spot ls' cs' u k ≡ spot ls cs (m.chain u k) (m.place u k)
  stood u zero l = m.starts u l
  stood u (suc k) l = ap (λ i. get_or ls' i 0) (stood u k (omega arith)) ∙ m.steps u k l

  abbrev before : Place cs' → Place cs
  before p = record { chain = m.chain p.chain p.place; place = m.place p.chain p.place; inside = m.inside p.chain p.place p.inside }

  pub moved_within : (n : ℕ) → Within n ls cs → Within n ls' cs'
  moved_within n within p = subst (λ i. i < n) (sym (stood p.chain p.place p.inside)) (within (before p))

  pub moved_apart : Apart ls cs → Apart ls' cs'
  moved_apart apart s =
      let p = s.one in
      let q = s.other in
      let both = apart (record { one = before p; other = before q; same = sym (stood p.chain p.place p.inside) ∙ s.same ∙ stood q.chain q.place q.inside }) in
      m.once p.chain p.place q.chain q.place p.inside q.inside both.0 both.1

-- a link between two places, under other names of theirs
pub link_between : (ls ls' : List ℕ) (cs : List Chain) (a b c d w j v i : ℕ) → a ≡ w → b ≡ j → c ≡ v → d ≡ i → get_or ls' (spot ls cs w j) 0 ≡ spot ls cs v i → get_or ls' (spot ls cs a b) 0 ≡ spot ls cs c d
link_between ls ls' cs a b c d w j v i e f g h leads = cc

-- all places stay
pub stayed : (ls ls' : List ℕ) (cs cs' : List Chain) → ls' ≡ ls → ((u : ℕ) → (chain_at cs' u).head ≡ (chain_at cs u).head) → ((u : ℕ) → (chain_at cs' u).size ≡ (chain_at cs u).size) → Moved ls ls' cs cs'
stayed ls ls' cs cs' linked heads sizes = record {
  chain = λ u k. u;
  place = λ u k. k;
  inside = λ u k l. subst (λ n. k < n) (sizes u) l;
  once = λ u k w j _ _ e f. (e, f);
  starts = λ u l. heads u;
  steps = λ u k l. ap (λ xs. get_or xs (spot ls cs u k) 0) linked;
}
