-- Slots linked into chains.
use Rattle.std.specs.Prelude.{◌≡◌, ℕ, zero, suc, ◌<◌, ◌≤◌, List, slice_index, slice_index_or}
use Rattle.slotstore.specs.declared.chain.Chain.{Chain}

-- the slot that is k links from h
abbrev pub follow : List ℕ → ℕ → ℕ → ℕ
follow ls h zero = h
follow ls h (suc k) = slice_index ls (follow ls h k)

-- the chain of a number; a number past the last has no slots
abbrev pub chain_at : List Chain → ℕ → Chain
chain_at cs t = slice_index_or cs t (record { head = 0; size = 0; count = 0 })

-- the slot at place k of chain t
abbrev pub spot : List ℕ → List Chain → ℕ → ℕ → ℕ
spot ls cs t k = follow ls (chain_at cs t).head k

-- what holds of the chain of a table
pub record InUse (cs : List Chain) (t : ℕ) : Type 0 where
  pub below : t < 16
  pub some : 0 < (chain_at cs t).size
  pub small : (chain_at cs t).size ≤ 255
  pub few : (chain_at cs t).count ≤ (chain_at cs t).size

-- a place that a chain has
pub record Place (cs : List Chain) : Type 0 where
  pub chain : ℕ
  pub place : ℕ
  pub inside : place < (chain_at cs chain).size

-- the slot at that place
abbrev pub slot_at : (ls : List ℕ) (cs : List Chain) → Place cs → ℕ
slot_at ls cs p = spot ls cs p.chain p.place

-- each chain stays within the n slots
abbrev pub Within : ℕ → List ℕ → List Chain → Type 0
Within n ls cs = (p : Place cs) → slot_at ls cs p < n

-- two places of one slot
pub record Shared (ls : List ℕ) (cs : List Chain) : Type 0 where
  pub one : Place cs
  pub other : Place cs
  pub same : slot_at ls cs one ≡ slot_at ls cs other

-- no slot stands at two places
abbrev pub Apart : List ℕ → List Chain → Type 0
Apart ls cs = (s : Shared ls cs) → (s.one.chain ≡ s.other.chain) × (s.one.place ≡ s.other.place)
