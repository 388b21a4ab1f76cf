-- What becomes of a command: checks in order, of which the first that fails refuses, and what is told.
use Rattle.std.specs.Prelude.{ℕ, ◌+◌, Bool, cond, [], Some, None, Option}
use Rattle.cardmodel.specs.State.{Bytes, Card}

-- Why a command is refused. The number of a cause with a place is that place; of `le_short`, the length that is wanted.
pub data Cause : Type 0 where
  area_short : Cause
  no_command : Cause
  class_unknown : Cause
  instruction_unknown : Cause
  p1_unknown : Cause
  p2_unknown : Cause
  shape_wrong : Cause
  nobody_present : Cause
  form_broken : ℕ → Cause
  cursor_state : Cause
  missing : ℕ → Cause
  not_allowed : Cause
  foreign : ℕ → Cause
  taken : ℕ → Cause
  barred : ℕ → Cause
  too_long : ℕ → Cause
  repeated : ℕ → Cause
  catalogue_full : Cause
  store_refuses : Cause
  le_short : ℕ → Cause

-- What checks end with: a cause, or what was to be made.
pub data Checked (A : Type 0) : Type 0 where
  refused : Cause → Checked A
  passed : A → Checked A

module _ {A : Type 0} where
  -- a check, and what comes behind it
  abbrev pub unless : Bool → Cause → Checked A → Checked A
  unless ok x v = cond ok v (refused x)

  -- a check that tells the place of the first fault
  abbrev pub unless_at : Option ℕ → (ℕ → Cause) → Checked A → Checked A
  unless_at None x v = v
  unless_at (Some p) x v = refused (x p)

  -- what is looked up must be there
  abbrev pub with_found : {B : Type 0} → Option B → Cause → (B → Checked A) → Checked A
  with_found None x k = refused x
  with_found (Some b) x k = k b

-- what an accepted command is told with: data, or the warning that there is no further row
pub data Outcome : Type 0 where
  gives : Bytes → Outcome
  no_further_row : Outcome

pub record Done : Type 0 where
  pub card : Card
  pub outcome : Outcome

-- the verdict on a command
abbrev pub Verdict : Type 0
Verdict = Checked Done

-- What is told: data, a status word, and a fault of cause, layer and place.
pub record Reply : Type 0 where
  pub bytes : Bytes
  pub word : ℕ
  pub cause : ℕ
  pub layer : ℕ
  pub place : ℕ

abbrev told : ℕ → ℕ → ℕ → ℕ → Reply
told word cause layer place = record { bytes = []; word = word; cause = cause; layer = layer; place = place }

-- each cause's word, number, layer and place
abbrev pub refusal : Cause → Reply
refusal area_short = told 0x6500 1 1 0
refusal no_command = told 0x6700 2 1 0
refusal class_unknown = told 0x6E00 3 1 0
refusal instruction_unknown = told 0x6D00 4 1 0
refusal p1_unknown = told 0x6A00 5 1 0
refusal p2_unknown = told 0x6A81 6 1 0
refusal shape_wrong = told 0x6700 7 1 0
refusal nobody_present = told 0x6982 8 3 0
refusal (form_broken p) = told 0x6A80 9 2 p
refusal cursor_state = told 0x6985 10 3 0
refusal (missing p) = told 0x6A88 11 3 p
refusal not_allowed = told 0x6982 12 3 0
refusal (foreign p) = told 0x6A80 13 3 p
refusal (taken p) = told 0x6A89 14 3 p
refusal (barred p) = told 0x6A81 15 3 p
refusal (too_long p) = told 0x6700 16 3 p
refusal (repeated p) = told 0x6A89 17 3 p
refusal catalogue_full = told 0x6A84 18 3 0
refusal store_refuses = told 0x6A84 19 4 0
refusal (le_short n) = told (0x6C00 + n) 20 3 0

abbrev acceptance : Outcome → Reply
acceptance (gives bytes) = record { bytes = bytes; word = 0x9000; cause = 0; layer = 0; place = 0 }
acceptance no_further_row = told 0x6282 0 0 0

abbrev pub reply_of : Verdict → Reply
reply_of (refused x) = refusal x
reply_of (passed d) = acceptance d.outcome

-- A refusal leaves the card as it was.
abbrev pub card_after : Card → Verdict → Card
card_after c (refused x) = c
card_after c (passed d) = d.card
