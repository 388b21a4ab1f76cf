-- Lists of calls: what they answer, and what they leave.
use Rattle.std.specs.Prelude.{◌≡◌, ℕ, Bool, true, List, [], ◌∷◌, length, Ok, Result}
use Rattle.rowmodel.specs.declared.StoreFault.{StoreFault}
use Rattle.rowmodel.specs.Meaning.{Meaning, table, row_at}
use Rattle.rowmodel.specs.Needs.{answer, make_unmet, drop_unmet, append_unmet, replace_unmet, remove_unmet, copy_unmet}
use Rattle.rowmodel.specs.Calls.{after_make, after_drop, after_append, after_replace, after_remove, after_copy, size_of}
use Rattle.rowstore.specs.declared.call.Call.{Call}
use Rattle.rowstore.specs.declared.call.Call.TheVariants as call
use Rattle.rowstore.specs.declared.call.Answer.{Answer}
use Rattle.rowstore.specs.declared.call.Answer.TheVariants.{Done, Copied, Size, Free}

-- what a call asks: its rows by their bytes, wherever those lie
pub data Request : Type 0 where
  make : ℕ → ℕ → Request
  discard : ℕ → Request
  append : ℕ → List ℕ → Request
  replace : ℕ → ℕ → List ℕ → Request
  remove : ℕ → ℕ → Request
  copy : ℕ → ℕ → Request
  size : ℕ → Request
  free : Request

abbrev pub request : Call → Request
request (call.Make t limit) = make t limit
request (call.Drop t) = discard t
request (call.Append t row) = append t row.now
request (call.Replace t k row) = replace t k row.now
request (call.Remove t k) = remove t k
request (call.Copy t k) = copy t k
request (call.Table t) = size t
request call.Free = free

-- what calls work on: a store, by its meaning, and the area that rows are copied to
pub record Held : Type 0 where
  pub store : Meaning
  pub area : List ℕ

abbrev pub held : Meaning → List ℕ → Held
held m area = record { store = m; area = area }

-- what one call answers
abbrev pub answered : Held → Request → Result Answer StoreFault
answered h (make t limit) = answer (make_unmet h.store t limit) Done
answered h (discard t) = answer (drop_unmet h.store t) Done
answered h (append t row) = answer (append_unmet h.store t row) Done
answered h (replace t k row) = answer (replace_unmet h.store t k row) Done
answered h (remove t k) = answer (remove_unmet h.store t k) Done
answered h (copy t k) = answer (copy_unmet h.store t k (length h.area)) (Copied (length (row_at h.store t k)))
answered h (size t) = Ok (Size (size_of (table h.store t)))
answered h free = Ok (Free h.store.free)

-- what one call leaves: of the store, and of the area
abbrev pub stored : Meaning → Request → Meaning
stored m (make t limit) = after_make m t limit
stored m (discard t) = after_drop m t
stored m (append t row) = after_append m t row
stored m (replace t k row) = after_replace m t k row
stored m (remove t k) = after_remove m t k
stored m (copy t k) = m
stored m (size t) = m
stored m free = m

abbrev pub written : Held → Request → List ℕ
written h (make t limit) = h.area
written h (discard t) = h.area
written h (append t row) = h.area
written h (replace t k row) = h.area
written h (remove t k) = h.area
written h (copy t k) = after_copy h.store t k h.area
written h (size t) = h.area
written h free = h.area

abbrev pub after : Held → Request → Held
after h q = record { store = stored h.store q; area = written h q }

-- what is received for one call: the answer, and the area as it then is
pub record Reply : Type 0 where
  pub answer : Result Answer StoreFault
  pub area : List ℕ

abbrev pub reply : Held → Request → Reply
reply h q = record { answer = answered h q; area = written h q }

-- a list of calls: what it leaves at its end, and what is received on the way
abbrev pub run : Held → List Request → Held
run h [] = h
run h (q ∷ qs) = run (after h q) qs

abbrev pub replies : Held → List Request → List Reply
replies h [] = []
replies h (q ∷ qs) = reply h q ∷ replies (after h q) qs

-- What calls answer and leave hangs on the meaning alone: what was equal before a list of calls is equal after it,
-- and all replies on the way were the same.
abbrev pub StayEqual : Held → Held → Bool → Held → Held → Type 0
StayEqual left right same left' right' = left ≡ right → (same ≡ true) × (left' ≡ right')
