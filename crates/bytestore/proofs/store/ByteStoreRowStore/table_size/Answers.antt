use Rattle.std.proofs.Common.{◌≡◌, ℕ, ◌<◌, Some, None, Ok, Err, Option, Result, IfOk, sym, ap, ◌∙◌, arith}
use Rattle.std.specs.Result.{result_ok}
use Rattle.rowmodel.specs.declared.StoreFault.{StoreFault}
use Rattle.rowmodel.specs.declared.TableSize.{TableSize}
use Rattle.rowmodel.specs.Meaning.{table}
use Rattle.rowmodel.specs.Calls.{size_of}
use Rattle.bytestore.specs.declared.region.Region.{Region}
use Rattle.bytestore.specs.declared.store.ByteStore.{ByteStore}
use Rattle.bytestore.proofs.Regions.{length-rows}
use Rattle.bytestore.proofs.Stores.{bytes_of, region_of, meaning_of, limit_small, table_at, count_at, parts}
use Rattle.bytestore.proofs.store.ByteStoreRowStore.table_size.Goals as goal

abbrev size : ℕ → ℕ → Option TableSize
size limit rows = Some (record { limit = limit; rows = rows })

told : (s : ByteStore) (t : ℕ) (r : Region) → r ≡ region_of s t → 0 < (region_of s t).limit → size r.limit r.count ≡ size_of (table (meaning_of s) t)
told s t r e some = ap (λ x. size x.limit x.count) e ∙ sym (ap size_of (table_at s t some) ∙ ap (size (region_of s t).limit) (length-rows (bytes_of s) (region_of s t).base (region_of s t).count))

-- what is found holds of the region that is told
found_in : (s : ByteStore) (t : ℕ) (o : Result Region StoreFault) (r : Region) → Some r ≡ result_ok o →
    IfOk o (λ x. (x ≡ region_of s t) × (t < 16) × (0 < (region_of s t).limit)) → (r ≡ region_of s t) × (t < 16) × (0 < (region_of s t).limit)
found_in s t (Ok x) r e h = let same : r ≡ x = cc in (same ∙ h.0, h.1, h.2)
found_in s t (Err f) r e h = let z : Some r ≡ None = e in cc

pub overflow_cast-result-2 : goal.overflow_cast-result-2
overflow_cast-result-2 c =
    let s = c.args.self.now in
    let t = c.args.number in
    let h = found_in s t _ c.in_ok-region.region c.in_ok-region.ensures.value c.used_region.ensures.found in
    omega (arith, parts s t c.in_ok-region.region h.0, limit_small s t, count_at s t h.2)

pub returns : goal.returns
returns c =
    let s = c.args.self.now in
    let t = c.args.number in
    let h = found_in s t _ c.in_ok-region.region c.in_ok-region.ensures.value c.used_region.ensures.found in
    told s t c.in_ok-region.region h.0 h.2
