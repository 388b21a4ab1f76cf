use Rattle.std.proofs.Common.{ℕ, ◌-◌, replicate, refl, subst, ⊎_elim, arith}
use Rattle.std.proofs.lemmas.List.{get_or-replicate, get_or_past}
use Rattle.std.proofs.lemmas.Bool.{cases_lt}
use Rattle.rowmodel.proofs.Kept.{sound_empty}
use Rattle.bytestore.specs.Region.{none, region, Covers}
use Rattle.bytestore.proofs.store.ByteStore.new.Goals as goal

none_covers : (t p : ℕ) → Covers (region (replicate 16 none) t) p → ⊥
none_covers t p h =
    let empty : Covers none p = subst (λ r. Covers r p) (⊎_elim (λ l. get_or-replicate 16 t none none l) (λ l. get_or_past (replicate 16 none) t none l) (cases_lt t 16)) h in
    omega (arith, empty)

pub invariant_of-result : goal.invariant_of-result
invariant_of-result c =
    record {
      long = refl;
      fits = (omega arith, omega arith);
      within = λ t p h. absurd (none_covers t p h);
      apart = λ s. absurd (none_covers s.one s.place s.in_one);
      sound = sound_empty (c.min-places.result - 0) (omega arith);
    }
