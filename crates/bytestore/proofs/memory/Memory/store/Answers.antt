use Rattle.std.proofs.Common.{◌≡◌, ℕ, ◌+◌, ◌-◌, ◌*◌, ◌<◌, ◌≤◌, List, map, length, get_or, set, sym, refl, ap, ◌∙◌, ⊎_elim, arith, rules}
use borrow.Rule.Slice.PartMut.{put_mid}
use Rattle.std.specs.List.{range_with_len}
use Rattle.std.proofs.lemmas.List.{places, length-set, get_or-set_same, get_or-set_other}
use Rattle.std.proofs.lemmas.List.FromFn.{fill_by_all}
use Rattle.std.proofs.lemmas.Bool.{cases_lt}
use Rattle.bytestore.proofs.memory.Memory.store.Goals as goal

module _ (a k : ℕ) (xs ys : List ℕ) (e : k ≡ length ys) (fits : a + k ≤ length xs) where
  length-put : length (put_mid a k xs ys) ≡ length xs
  length-put = search (rules, places)

  put_below : (j : ℕ) → j < a → get_or (put_mid a k xs ys) j 0 ≡ get_or xs j 0
  put_below j l = search (rules, places)

  put_here : (j : ℕ) → j < k → get_or (put_mid a k xs ys) (a + j) 0 ≡ get_or ys j 0
  put_here j l = search (rules, places)

  put_above : (j : ℕ) → a + k ≤ j → get_or (put_mid a k xs ys) j 0 ≡ get_or xs j 0
  put_above j l = search (rules, places)

pub returns : goal.returns
returns c =
    let p = c.args.place in
    let row = c.args.row.bytes.now in
    let bs = c.args.self.now.bytes.now in
    let a : ℕ = 241 * p + 1 in
    let k : ℕ = a + length row - a in
    let xs : List ℕ = set bs (241 * p) (length row) in
    let ys = c.copy_from_slice.new.self in
    let e : k ≡ length ys = omega (arith, ap length c.copy_from_slice.ensures.after) in
    let fits : a + k ≤ length xs = omega (arith, c.requires, length-set bs (241 * p) (length row)) in
    let size : get_or (put_mid a k xs ys) (241 * p) 0 ≡ length row = put_below a k xs ys e fits (241 * p) (omega arith) ∙ get_or-set_same bs (241 * p) (length row) 0 (omega (arith, c.requires)) in
    record {
      len = length-put a k xs ys e fits ∙ length-set bs (241 * p) (length row);
      here = ap (λ n. map (λ j. get_or (put_mid a k xs ys) (a + j) 0) (range_with_len 0 n)) size
          ∙ sym (fill_by_all (λ j. get_or (put_mid a k xs ys) (a + j) 0) row (length row) 0 refl
          (λ j l. sym (put_here a k xs ys e fits j (omega arith) ∙ ap (λ zs. get_or zs j 0) c.copy_from_slice.ensures.after)));
      others = λ q ne i l. ⊎_elim
          (λ b. put_below a k xs ys e fits (241 * q + i) (omega arith))
          (λ b. put_above a k xs ys e fits (241 * q + i) (omega (arith, c.requires, ne)))
          (cases_lt q p)
          ∙ get_or-set_other bs (241 * p) (241 * q + i) (length row) 0 (λ z. ne (omega arith));
    }
