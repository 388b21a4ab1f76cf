-- Regions and places once the places of one region are closed up.
use Rattle.std.proofs.Common.{◌≡◌, ℕ, ◌+◌, ◌-◌, ◌*◌, ◌<◌, ◌≤◌, cond, ltb, ◌≢◌, List, map, length, get_or, set, sym, refl, ap, ◌∙◌, subst, ⊎_elim, arith}
use Rattle.std.proofs.lemmas.List.{length-map, get_or-set_other}
use Rattle.std.proofs.lemmas.Bool.{cases_lt, lt-ltb, le-ltb, cond-true, cond-false, cond_both}
use Rattle.rowmodel.proofs.Mapped.{get_or-map_all}
use Rattle.bytestore.specs.declared.region.Region.{Region}
use Rattle.bytestore.specs.Memory.{Alike}
use Rattle.bytestore.specs.Region.{none, region, Covers, Within, Apart, lowered}
use Rattle.bytestore.proofs.Areas.{Lies, new, old, lies}

-- where the bytes of place p were
abbrev pub raised : Region → ℕ → ℕ
raised g p = cond (ltb p g.base) p (p + g.limit)

raised_below : (g : Region) (p : ℕ) → p < g.base → raised g p ≡ p
raised_below g p l = cond-true (ltb p g.base) p (p + g.limit) (lt-ltb p g.base l)

raised_above : (g : Region) (p : ℕ) → g.base ≤ p → raised g p ≡ p + g.limit
raised_above g p l = cond-false (ltb p g.base) p (p + g.limit) (le-ltb p g.base l)

-- a region that is lowered keeps its size
pub lowered_limit : (g r : Region) → (lowered g r).limit ≡ r.limit
lowered_limit g r = cond_both (ltb r.base (g.base + g.limit)) r _ (λ x. x.limit ≡ r.limit) (λ _. refl) (λ _. refl)

pub lowered_count : (g r : Region) → (lowered g r).count ≡ r.count
lowered_count g r = cond_both (ltb r.base (g.base + g.limit)) r _ (λ x. x.count ≡ r.count) (λ _. refl) (λ _. refl)

low : (g r : Region) → r.base < g.base + g.limit → (lowered g r).base ≡ r.base
low g r l = ap (λ x. x.base) (cond-true (ltb r.base (g.base + g.limit)) r _ (lt-ltb r.base (g.base + g.limit) l))

high : (g r : Region) → g.base + g.limit ≤ r.base → (lowered g r).base ≡ r.base - g.limit
high g r l = ap (λ x. x.base) (cond-false (ltb r.base (g.base + g.limit)) r (record { base = r.base - g.limit; limit = r.limit; count = r.count }) (le-ltb r.base (g.base + g.limit) l))

-- what was moved down from the end of the region, and what stayed below it
pub alike_raised : (bs cs : List ℕ) (g : Region) (top end : ℕ) → end ≡ g.base + g.limit → end ≤ top → ((k : ℕ) → k < top - end → Alike cs (g.base + k) bs (end + k)) → ((q : ℕ) → q < g.base → Alike cs q bs q) →
    (p : ℕ) → p < top - g.limit → Alike cs p bs (raised g p)
alike_raised bs cs g top end e fits moved below p l =
    ⊎_elim
    (λ b. subst (λ q. Alike cs p bs q) (sym (raised_below g p b)) (below p b))
    (λ a. λ i li. ap (λ q. get_or cs (241 * q + i) 0) (omega arith) ∙ moved (p - g.base) (omega arith) i li ∙ ap (λ q. get_or bs (241 * q + i) 0) (omega (arith, raised_above g p a)))
    (cases_lt p g.base)

module _ (rs : List Region) (g : Region) (t : ℕ) (some : 0 < g.limit) (clear : (u p : ℕ) → u ≢ t → Covers (region rs u) p → Covers g p → ⊥) where
  -- another region that begins before the end of this one lies below it
  before : (u k : ℕ) → u ≢ t → k < (region rs u).limit → (region rs u).base < g.base + g.limit → (region rs u).base + k < g.base
  before u k ne l b =
      ⊎_elim (λ x. x)
      (λ a. ⊎_elim
      (λ x. absurd (clear u ((region rs u).base + k) ne (omega arith, omega arith) (a, x)))
      (λ x. absurd (clear u (g.base + g.limit - 1) ne (omega arith, omega arith) (omega arith, omega arith)))
      (cases_lt ((region rs u).base + k) (g.base + g.limit)))
      (cases_lt ((region rs u).base + k) g.base)

  -- where the places of another region were
  pub raised_place : (u k : ℕ) → u ≢ t → k < (region rs u).limit → raised g ((lowered g (region rs u)).base + k) ≡ (region rs u).base + k
  raised_place u k ne l =
      ⊎_elim
      (λ b. ap (λ q. raised g (q + k)) (low g (region rs u) b) ∙ raised_below g ((region rs u).base + k) (before u k ne l b))
      (λ a. ap (λ q. raised g (q + k)) (high g (region rs u) a) ∙ raised_above g ((region rs u).base - g.limit + k) (omega arith) ∙ omega arith)
      (cases_lt (region rs u).base (g.base + g.limit))

  covers_raised : (u p : ℕ) → u ≢ t → Covers (lowered g (region rs u)) p → Covers (region rs u) (raised g p)
  covers_raised u p ne c =
      let k : ℕ = p - (lowered g (region rs u)).base in
      let l : k < (region rs u).limit = omega (arith, lowered_limit g (region rs u), c) in
      let e : raised g p ≡ (region rs u).base + k = ap (raised g) (omega (arith, c)) ∙ raised_place u k ne l in
      (omega (arith, e), omega (arith, e, l))

  pub lowered_within : (top u p : ℕ) → Within top rs → g.base + g.limit ≤ top → u ≢ t → Covers (lowered g (region rs u)) p → p < top - g.limit
  lowered_within top u p within fits ne c =
      let w = within u (raised g p) (covers_raised u p ne c) in
      ⊎_elim (λ b. omega arith) (λ a. omega (arith, raised_above g p a, w)) (cases_lt p g.base)

  region_lowered : (u : ℕ) → get_or (map (lowered g) rs) u none ≡ lowered g (region rs u)
  region_lowered u = subst (λ d. get_or (map (lowered g) rs) u d ≡ lowered g (region rs u)) (cond-true (ltb 0 (g.base + g.limit)) none _ (lt-ltb 0 (g.base + g.limit) (omega arith))) (get_or-map_all (lowered g) rs u none)

  pub region_closed : (u : ℕ) → u ≢ t → region (set (map (lowered g) rs) t none) u ≡ lowered g (region rs u)
  region_closed u ne = get_or-set_other (map (lowered g) rs) t u none none ne ∙ region_lowered u

  module _ (lt : t < length rs) where
    record Was (u p : ℕ) : Type 0 where
      other : u ≢ t
      there : Covers (lowered g (region rs u)) p

    was : (u p : ℕ) → Covers (region (set (map (lowered g) rs) t none) u) p → Was u p
    was u p h = by (lies (map (lowered g) rs) t none (omega (arith, length-map rs (lowered g))) u p h)
      where
        by : Lies (map (lowered g) rs) t none (omega (arith, length-map rs (lowered g))) u p → Was u p
        by (new e c) = absurd (omega (arith, c))
        by (old ne c) = record { other = ne; there = subst (λ r. Covers r p) (region_lowered u) c }

    pub closed_within : (top : ℕ) → Within top rs → g.base + g.limit ≤ top → Within (top - g.limit) (set (map (lowered g) rs) t none)
    closed_within top within fits u p h = let w = was u p h in lowered_within top u p within fits w.other w.there

    pub closed_apart : Apart rs → Apart (set (map (lowered g) rs) t none)
    closed_apart apart s =
        let v = was s.one s.place s.in_one in
        let w = was s.other s.place s.in_other in
        apart (record { one = s.one; other = s.other; place = raised g s.place; in_one = covers_raised s.one s.place v.other v.there; in_other = covers_raised s.other s.place w.other w.there })
