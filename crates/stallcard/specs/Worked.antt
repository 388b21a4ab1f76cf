-- Worked examples of the rules.
use Rattle.std.specs.Prelude.{◌≡◌, [], ◌∷◌}
use Rattle.cardmodel.specs.Answer.{run, replies}
use Rattle.stallcard.specs.Stall.{success, warning, refusal, empty_day, day, office, stall, stall_at_95, insert_7, insert_8, insert_9, declare_fee, declare_fee_above_10, declare_fee_below_10, declare_day, open_cursor, delete, fetch_7, fetch_6, fetch_next_7, fetch_next_6, create_wide, create_8, create_9}

-- THE WORKED EXAMPLES.
pub record Worked : Type 0 where
  -- a row is inserted; sent again, its number is repeated, at the length byte of that string
  pub repeated : replies empty_day (insert_7 ∷ (insert_7 ∷ [])) ≡ success "" ∷ (refusal 0x6A89 17 3 10 ∷ [])
  -- a second row is inserted; a third is over the table's limit, and the store refuses
  pub limit : replies day (insert_8 ∷ (insert_9 ∷ [])) ≡ success "" ∷ (refusal 0x6A84 19 4 0 ∷ [])
  -- OFFICE reads the row through FEE
  pub fetched : replies stall (declare_fee ∷ (open_cursor ∷ (fetch_7 ∷ []))) ≡ success "" ∷ (success "" ∷ (success "02 01 37 03 32 35 30" ∷ []))
  -- a length that is too short is told the one that is wanted
  pub short : replies stall (declare_fee ∷ (open_cursor ∷ (fetch_6 ∷ []))) ≡ success "" ∷ (success "" ∷ (refusal 0x6C07 20 3 0 ∷ []))
  -- so it is by FETCH NEXT, and the cursor stays: the row is still the next one
  pub short_next : replies (run (run day (insert_8 ∷ [])) office) (declare_fee ∷ (open_cursor ∷ (fetch_next_6 ∷ (fetch_7 ∷ (fetch_next_7 ∷ [])))))
      ≡ success "" ∷ (success "" ∷ (refusal 0x6C07 20 3 0 ∷ (success "02 01 37 03 32 35 30" ∷ (success "02 01 38 03 32 35 30" ∷ []))))
  -- another cost, which FEE leaves out, is answered alike
  pub hidden : replies stall_at_95 (declare_fee ∷ (open_cursor ∷ (fetch_7 ∷ []))) ≡ replies stall (declare_fee ∷ (open_cursor ∷ (fetch_7 ∷ [])))
  -- numbers are compared as text: 7 is above 10
  pub above : replies stall (declare_fee_above_10 ∷ (open_cursor ∷ (fetch_7 ∷ []))) ≡ success "" ∷ (success "" ∷ (success "02 01 37 03 32 35 30" ∷ []))
  pub below : replies stall (declare_fee_below_10 ∷ (open_cursor ∷ [])) ≡ success "" ∷ (warning ∷ [])
  -- a longest row of 240 bytes passes, and one of 241 does not
  pub longest : replies empty_day (create_wide "0D" ∷ []) ≡ success "" ∷ []
  pub longer : replies empty_day (create_wide "0E" ∷ []) ≡ refusal 0x6A84 18 3 0 ∷ []
  -- the only row is deleted, and there is none to fetch
  pub deleted : replies day (declare_day ∷ (open_cursor ∷ (delete ∷ (fetch_7 ∷ [])))) ≡ success "" ∷ (success "" ∷ (warning ∷ (refusal 0x6985 10 3 0 ∷ [])))
  -- a name has at most 8 bytes
  pub name_8 : replies empty_day (create_8 ∷ []) ≡ success "" ∷ []
  pub name_9 : replies empty_day (create_9 ∷ []) ≡ refusal 0x6A80 9 2 5 ∷ []
