-- What each guard of the rules refuses, or lets pass, by an example: without that guard the answer would be another.
use Rattle.std.specs.Prelude.{◌≡◌, [], ◌∷◌}
use Rattle.cardmodel.specs.State.{Card}
use Rattle.cardmodel.specs.Answer.{Sent, run, reply, replies}
use Rattle.stallcard.specs.Stall.{sent, success, refusal, day, fee, stall, insert_8, declare_fee, declare_day, open_cursor, fetch_7}

-- ANNA has a cursor on the row 7, through FEE
abbrev pub through_fee : Card
through_fee = run (run day fee) (declare_fee ∷ (open_cursor ∷ []))

-- ANNA creates LOW, a view of the numbers of days with an AMT below 300
abbrev pub create_low : Sent
create_low = sent "00 10 00 81 17 03 4C 4F 57 03 44 41 59 01 02 4E 4F 01 03 41 4D 54 01 3C 03 33 30 30"

-- AMT becomes 1, or 2500
abbrev pub update_1 : Sent
update_1 = sent "00 10 00 8D 07 01 03 41 4D 54 01 31"

abbrev pub update_2500 : Sent
update_2500 = sent "00 10 00 8D 0A 01 03 41 4D 54 04 32 35 30 30"

-- GUARDS. OFFICE is present in `stall`, and ANNA in `through_fee`.
pub record Guarded : Type 0 where
  -- LOW tests AMT, so AMT is not written through FEE
  pub tested : reply (run through_fee (create_low ∷ [])) update_1 ≡ refusal 0x6A81 15 3 6
  -- without LOW it is, and however long the row is that FEE shows in part: its cells alone are measured
  pub measured : replies through_fee (update_2500 ∷ (sent "00 10 00 8A 08" ∷ [])) ≡ success "" ∷ (success "02 01 37 04 32 35 30 30" ∷ [])
  -- OFFICE asks for COST through FEE
  pub shown : reply stall (sent "00 10 00 87 0A 03 46 45 45 01 04 43 4F 53 54") ≡ refusal 0x6A80 13 3 10
  -- to OFFICE a table that it does not reach is as one that is not there
  pub unreached : reply stall declare_day ≡ refusal 0x6982 12 3 0
  pub unknown : reply stall (sent "00 10 00 87 05 03 58 59 5A 00") ≡ refusal 0x6982 12 3 0
  -- OFFICE inserts into DAY
  pub uninvited : reply stall insert_8 ≡ refusal 0x6982 12 3 0
  -- a view that is dropped takes the cursor on it along
  pub dropped : replies through_fee (sent "00 10 00 84 04 03 46 45 45" ∷ (fetch_7 ∷ [])) ≡ success "" ∷ (refusal 0x6985 10 3 0 ∷ [])
  -- OFFICE creates a view of DAY, of a column XXX: who may comes before what is
  pub order : reply stall (sent "00 10 00 81 0D 03 46 45 46 03 44 41 59 01 03 58 58 58") ≡ refusal 0x6982 12 3 0
