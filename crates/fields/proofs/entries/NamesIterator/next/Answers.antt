use Rattle.std.proofs.Common.{◌≡◌, ℕ, ◌∷◌, sym, ap, ◌∙◌, arith}
use Rattle.fields.specs.Reader.{Read, got}
use Rattle.fields.specs.Entries.{rest_at, names}
use Rattle.fields.proofs.Listing.{names_none, names_broken, names_by}
use Rattle.fields.proofs.entries.NamesIterator.next.Goals as goal
use Rattle.fields.proofs.entries.NamesIterator.next.Goals.{in-Ok-entry_rest, in-Err}

pub returns-then-self-eq0-clause-steps : goal.returns-then-self-eq0-clause-steps
returns-then-self-eq0-clause-steps c = let s = c.args.self.now in names_none s.kind s.reader.field.now s.reader.at s.count (omega (arith, c.if-self-eq0.true))

pub returns-in_default-clause-steps : goal.returns-in_default-clause-steps
returns-in_default-clause-steps c = let s = c.args.self.now in names_broken s.kind s.reader.field.now s.reader.at s.count (omega (arith, c.if-self-eq0.false)) _ c.in_default.ensures.0

pub returns-clause-steps : goal.returns-clause-steps
returns-clause-steps c =
    let s = c.args.self.now in
    let x = c.in-Ok.name.now in
    let behind = c.entry_rest.new.self.at in
    let by = names_by s.kind s.reader.field.now s.reader.at s.count (omega (arith, c.if-self-eq0.false)) x c.entry_name.new.self.at c.in-Ok.ensures.0 in
    let here : (r : Read ℕ) → rest_at s.kind c.entry_name.new.self.field.now c.entry_name.new.self.at ≡ r → rest_at s.kind s.reader.field.now c.entry_name.new.self.at ≡ r =
    λ r h. ap (λ f. rest_at s.kind f c.entry_name.new.self.at) (sym c.in-Ok.ensures.1) ∙ h
    in
    elim c.match-entry_rest.branch [
      | in-Ok-entry_rest w ↦ by (got 0 behind) (here (got 0 behind) w.in-Ok-entry_rest.ensures.0) ∙ ap (λ n. x ∷ names s.kind s.reader.field.now behind n) (sym w.self-is)
          ∙ ap (λ f. x ∷ names s.kind f behind c.match-entry_rest.self) (sym (w.in-Ok-entry_rest.ensures.1 ∙ c.in-Ok.ensures.1))
      | in-Err w ↦ by _ (here _ w.in-Err.ensures.0) ∙ ap (λ ns. x ∷ ns) (sym (names_none s.kind c.entry_rest.new.self.field.now behind c.match-entry_rest.self w.self-is))
    ]
