-- Regions after one of them is another.
use Rattle.std.proofs.Common.{◌≡◌, ℕ, ◌<◌, ◌≤◌, ◌≢◌, List, length, get_or, set, sym, ap, ◌∙◌, subst, ⊎_elim, arith}
use Rattle.std.proofs.lemmas.List.{get_or-set_same, get_or-set_other}
use Rattle.std.proofs.lemmas.Bool.{cases_eq}
use Rattle.bytestore.specs.declared.region.Region.{Region}
use Rattle.bytestore.specs.Region.{none, region, Covers, Within, Apart}

module _ (rs : List Region) (t : ℕ) (r : Region) (lt : t < length rs) where
  -- which region covers a place: the new one, or one that was there
  pub data Lies (u p : ℕ) : Type 0 where
    new : u ≡ t → Covers r p → Lies u p
    old : u ≢ t → Covers (region rs u) p → Lies u p

  pub lies : (u p : ℕ) → Covers (region (set rs t r) u) p → Lies u p
  lies u p h =
      ⊎_elim
      (λ e. new e (subst (λ x. Covers x p) (ap (λ j. get_or (set rs t r) j none) e ∙ get_or-set_same rs t r none lt) h))
      (λ ne. old ne (subst (λ x. Covers x p) (get_or-set_other rs t u r none ne) h))
      (cases_eq u t)

  pub within_set : (low top : ℕ) → Within low rs → low ≤ top → ((p : ℕ) → Covers r p → p < top) → Within top (set rs t r)
  within_set low top within le fits u p h = by (lies u p h)
    where
      by : Lies u p → p < top
      by (new e c) = fits p c
      by (old ne c) = omega (arith, within u p c)

  pub apart_set : Apart rs → ((u p : ℕ) → Covers r p → Covers (region rs u) p → u ≡ t) → Apart (set rs t r)
  apart_set apart clash s = by s.one s.other s.place (lies s.one s.place s.in_one) (lies s.other s.place s.in_other)
    where
      by : (u w p : ℕ) → Lies u p → Lies w p → u ≡ w
      by u w p (new e c) (new f d) = e ∙ sym f
      by u w p (new e c) (old ne d) = e ∙ sym (clash w p c d)
      by u w p (old ne c) (new f d) = clash u p d c ∙ sym f
      by u w p (old ne c) (old nf d) = apart (record { one = u; other = w; place = p; in_one = c; in_other = d })
