-- Each cause of a refusal, by an example: word, cause, layer and place.
use Rattle.std.specs.Prelude.{◌≡◌, [], ◌∷◌}
use Rattle.cardmodel.specs.Answer.{Sent, run, reply}
use Rattle.stallcard.specs.Stall.{hex, sent, refusal, new, day, fee, stall, insert_7, insert_8, insert_9, create_day, declare_fee, declare_day, open_cursor, fetch_7, fetch_6}

abbrev pub short_area : Sent
short_area = record { bytes = hex "00 10 00 88"; area = 254 }

-- EACH CAUSE, in their order. The stall is as OFFICE finds it; in some examples ANNA is still present.
pub record Caused : Type 0 where
  -- an answer area of 254 bytes
  pub area : reply stall short_area ≡ refusal 0x6500 1 1 0
  -- three bytes are no command
  pub no_command : reply stall (sent "00 10 00") ≡ refusal 0x6700 2 1 0
  -- CLA, INS, P1, P2
  pub class : reply stall (sent "80 10 00 88") ≡ refusal 0x6E00 3 1 0
  pub instruction : reply stall (sent "00 16 00 80") ≡ refusal 0x6D00 4 1 0
  pub p1 : reply stall (sent "00 10 01 88") ≡ refusal 0x6A00 5 1 0
  pub p2 : reply stall (sent "00 10 00 82") ≡ refusal 0x6A81 6 1 0
  -- OPEN with Le
  pub shape : reply stall (sent "00 10 00 88 00") ≡ refusal 0x6700 7 1 0
  -- OPEN on a new card
  pub nobody : reply new open_cursor ≡ refusal 0x6982 8 3 0
  -- anna is no identifier
  pub form : reply stall (sent "00 14 00 80 04 61 6E 6E 61") ≡ refusal 0x6A80 9 2 5
  -- FETCH without a cursor
  pub state : reply stall fetch_7 ≡ refusal 0x6985 10 3 0
  -- BOB is not registered
  pub missing : reply stall (sent "00 14 00 80 03 42 4F 42") ≡ refusal 0x6A88 11 3 5
  -- OFFICE declares a cursor on DAY
  pub right : reply stall declare_day ≡ refusal 0x6982 12 3 0
  -- OFFICE tests COST through FEE: COST = 90
  pub foreign : reply stall (sent "00 10 00 87 10 03 46 45 45 00 01 04 43 4F 53 54 01 3D 02 39 30") ≡ refusal 0x6A80 13 3 11
  -- ANNA creates DAY again
  pub taken : reply day create_day ≡ refusal 0x6A89 14 3 5
  -- ANNA writes NO through FEE
  pub barred : reply (run (run day fee) (declare_fee ∷ (open_cursor ∷ []))) (sent "00 10 00 8D 06 01 02 4E 4F 01 38") ≡ refusal 0x6A81 15 3 6
  -- an AMT of 25 bytes
  pub long : reply day (sent "00 10 00 8C 24 03 44 41 59 03 01 38 19 31 31 31 31 31 31 31 31 31 31 31 31 31 31 31 31 31 31 31 31 31 31 31 31 31 02 39 30") ≡ refusal 0x6700 16 3 12
  -- a second row with the NO 7
  pub repeated : reply day insert_7 ≡ refusal 0x6A89 17 3 10
  -- ten columns of 24 bytes
  pub full : reply day (sent "00 10 00 80 24 04 57 49 44 45 0A 02 43 30 02 43 31 02 43 32 02 43 33 02 43 34 02 43 35 02 43 36 02 43 37 02 43 38 02 43 39") ≡ refusal 0x6A84 18 3 0
  -- a third row in DAY
  pub store : reply (run day (insert_8 ∷ [])) insert_9 ≡ refusal 0x6A84 19 4 0
  -- seven bytes, and a length of six
  pub length : reply (run stall (declare_fee ∷ (open_cursor ∷ []))) fetch_6 ≡ refusal 0x6C07 20 3 0
