use Rattle.std.proofs.Common.{◌≡◌, ℕ, ◌+◌, ◌<◌, List, None, Ok, ◌∙◌}
use Rattle.rowmodel.specs.Meaning.{row_at}
use Rattle.rowmodel.specs.Needs.{answer, row_unmet}
use Rattle.rowmodel.proofs.Refusals.{ok_at, none_at_ok}
use Rattle.bytestore.specs.declared.store.ByteStore.{ByteStore}
use Rattle.bytestore.specs.Memory.{row_in}
use Rattle.bytestore.proofs.Stores.{bytes_of, region_of, meaning_of, row_fits, row_told}
use Rattle.bytestore.proofs.store.ByteStoreRowStore.row.Goals as goal

pub row-requires : goal.row-requires
row-requires c =
    let h = c.in_ok-place_of.ensures.found in
    let fits = row_fits c.args.self.now c.args.number h.2 c.args.place _ h.3 h.0 in
    record { place = fits.0; row = fits.1 }

answered : (s : ByteStore) (t k p : ℕ) (row : List ℕ) → 0 < (region_of s t).limit → k < (region_of s t).count → p ≡ (region_of s t).base + k → row ≡ row_in (bytes_of s) p → row_unmet (meaning_of s) t k ≡ None →
    Ok row ≡ answer (row_unmet (meaning_of s) t k) (row_at (meaning_of s) t k)
answered s t k p row some inside e read o = ok_at (row_unmet (meaning_of s) t k) row (row_at (meaning_of s) t k) o (read ∙ row_told s t some k p inside e)

pub returns : goal.returns
returns c =
    let h = c.in_ok-place_of.ensures in
    answered c.args.self.now c.args.number c.args.place _ _ h.found.2 h.found.3 h.found.0 c.row.ensures (none_at_ok _ _ _ h.result)
