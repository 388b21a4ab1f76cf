-- The card of a stall, from the bytes of commands. ANNA, an object owner, hides what she paid (COST); OFFICE, a basic
-- user, holds her view FEE of the columns NO and AMT of her table DAY.
use Rattle.std.specs.Prelude.{ℕ, List, [], ◌∷◌, ◌++◌, codes}
use Prim.Native.String.{String}
use Rattle.std.specs.Option.{unwrap_or}
use Rattle.hexadecimal.specs.Digits.{decoded}
use Rattle.cardmodel.specs.State.{Bytes, Card}
use Rattle.cardmodel.specs.Verdict.{Reply}
use Rattle.cardmodel.specs.Answer.{Sent, run, new_card}

-- bytes, written in hexadecimal digits
abbrev pub hex : String → Bytes
hex text = unwrap_or (decoded (codes text)) []

-- a command, with an area of 255 bytes for its answer
abbrev pub sent : String → Sent
sent text = record { bytes = hex text; area = 255 }

-- what is told: success, with data or without; the warning; a refusal
abbrev pub success : String → Reply
success text = record { bytes = hex text; word = 0x9000; cause = 0; layer = 0; place = 0 }

abbrev pub warning : Reply
warning = record { bytes = []; word = 0x6282; cause = 0; layer = 0; place = 0 }

abbrev pub refusal : ℕ → ℕ → ℕ → ℕ → Reply
refusal word cause layer place = record { bytes = []; word = word; cause = cause; layer = layer; place = place }

-- a new card of 100 rows and eight records in each register
abbrev pub new : Card
new = new_card 100 (record { users = 8; objects = 8; privileges = 8 })

-- OWNER is presented, and creates ANNA; she is presented, and creates OFFICE
abbrev pub users : List Sent
users =
    sent "00 14 00 80 05 4F 57 4E 45 52"
    ∷ (sent "00 14 00 81 0A 04 41 4E 4E 41 04 44 42 4F 4F"
    ∷ (sent "00 14 00 80 04 41 4E 4E 41"
    ∷ (sent "00 14 00 81 0C 06 4F 46 46 49 43 45 04 44 42 42 55" ∷ [])))

-- ANNA creates DAY with NO.U, AMT and COST, of at most 2 rows
abbrev pub create_day : Sent
create_day = sent "00 10 00 80 15 03 44 41 59 03 04 4E 4F 2E 55 03 41 4D 54 04 43 4F 53 54 01 02"

-- rows of DAY: a number, 250, and a cost of 90 or 95
abbrev pub insert_7 : Sent
insert_7 = sent "00 10 00 8C 0E 03 44 41 59 03 01 37 03 32 35 30 02 39 30"

abbrev pub insert_7_at_95 : Sent
insert_7_at_95 = sent "00 10 00 8C 0E 03 44 41 59 03 01 37 03 32 35 30 02 39 35"

abbrev pub insert_8 : Sent
insert_8 = sent "00 10 00 8C 0E 03 44 41 59 03 01 38 03 32 35 30 02 39 30"

abbrev pub insert_9 : Sent
insert_9 = sent "00 10 00 8C 0E 03 44 41 59 03 01 39 03 32 35 30 02 39 30"

-- ANNA creates FEE, and grants select on it to OFFICE; then OFFICE is presented
abbrev pub fee : List Sent
fee =
    sent "00 10 00 81 10 03 46 45 45 03 44 41 59 02 02 4E 4F 03 41 4D 54"
    ∷ (sent "00 10 00 85 0D 01 42 03 46 45 45 06 4F 46 46 49 43 45" ∷ [])

abbrev pub office : List Sent
office = fee ++ (sent "00 14 00 80 06 4F 46 46 49 43 45" ∷ [])

-- the stall with an empty DAY; with the row 7, as ANNA has it; and as OFFICE finds it, with either cost
abbrev pub empty_day : Card
empty_day = run new (users ++ (create_day ∷ []))

abbrev pub day : Card
day = run empty_day (insert_7 ∷ [])

abbrev pub stall : Card
stall = run day office

abbrev pub stall_at_95 : Card
stall_at_95 = run (run empty_day (insert_7_at_95 ∷ [])) office

-- commands of the cursor
abbrev pub declare_fee : Sent
declare_fee = sent "00 10 00 87 05 03 46 45 45 00"

abbrev pub declare_fee_above_10 : Sent
declare_fee_above_10 = sent "00 10 00 87 0E 03 46 45 45 00 01 02 4E 4F 01 3E 02 31 30"

abbrev pub declare_fee_below_10 : Sent
declare_fee_below_10 = sent "00 10 00 87 0E 03 46 45 45 00 01 02 4E 4F 01 3C 02 31 30"

abbrev pub declare_day : Sent
declare_day = sent "00 10 00 87 05 03 44 41 59 00"

abbrev pub open_cursor : Sent
open_cursor = sent "00 10 00 88"

abbrev pub delete : Sent
delete = sent "00 10 00 8E"

abbrev pub fetch_7 : Sent
fetch_7 = sent "00 10 00 8A 07"

abbrev pub fetch_6 : Sent
fetch_6 = sent "00 10 00 8A 06"

abbrev pub fetch_next_7 : Sent
fetch_next_7 = sent "00 10 00 8B 07"

abbrev pub fetch_next_6 : Sent
fetch_next_6 = sent "00 10 00 8B 06"

-- tables of ten columns, of which the last has a longest length of 13 or 14, and the others of 24
abbrev pub create_wide : String → Sent
create_wide longest = record { bytes = hex "00 10 00 80 27 04 57 49 44 45 0A 02 43 30 02 43 31 02 43 32 02 43 33 02 43 34 02 43 35 02 43 36 02 43 37 02 43 38 05 43 39 2E 56" ++ hex longest; area = 255 }

-- tables with names of 8 and of 9 bytes
abbrev pub create_8 : Sent
create_8 = sent "00 10 00 80 0D 08 41 42 43 44 45 46 47 48 01 02 4E 4F"

abbrev pub create_9 : Sent
create_9 = sent "00 10 00 80 0E 09 41 42 43 44 45 46 47 48 49 01 02 4E 4F"
