use Rattle.std.proofs.Common.{◌≡◌, Some, None, Ok, Err, Option, Result, sym, ap, ◌∙◌, subst, rules, MatchResult, IsOkAnd}
use Rattle.rowmodel.specs.declared.StoreFault.{StoreFault}
use Rattle.rowmodel.specs.Needs.{answer, make_unmet, append_unmet, replace_unmet}
use Rattle.rowstore.specs.declared.call.Answer.{Answer}
use Rattle.rowstore.specs.declared.call.Answer.TheVariants.{Done}
use Rattle.rowstore.specs.Runs.{Held, answered, request}
use Rattle.rowstore.specs.Session.{held_by}
use Rattle.rowstore.proofs.session.Session.perform.Goals as goal

-- an accepted call that gives nothing back answers `Done`
done : (o : Option StoreFault) (r : Result (Unit {0}) StoreFault) (a : Result Answer StoreFault) (P : Unit {0} → Answer → Type 0) → r ≡ answer o tt →
    MatchResult r (λ u. IsOkAnd a (P u)) (λ f. a ≡ Err f) → ((u : Unit {0}) (x : Answer) → P u x → x ≡ Done) → a ≡ answer o Done
done None r a P e h k = at a (subst (λ x. MatchResult x (λ u. IsOkAnd a (P u)) (λ f. a ≡ Err f)) e h)
  where
    at : (b : Result Answer StoreFault) → IsOkAnd b (P tt) → b ≡ Ok Done
    at (Ok x) p = ap Ok (k tt x p)
    at (Err f) p = absurd p
done (Some f) r a P e h k = subst (λ x. MatchResult x (λ u. IsOkAnd a (P u)) (λ f. a ≡ Err f)) e h

pub returns-in-Make-clause-told : goal.returns-in-Make-clause-told
returns-in-Make-clause-told g c =
    let h : Held = held_by g.S.RowStore.meaning c.args.self.now in
    done (make_unmet h.store c.in-Make.number c.in-Make.limit) _ _ _ c.make_table.ensures.result c.map.ensures.cases (λ u x p. search rules) ∙ sym (ap (λ q. answered h (request q)) c.in-Make.is)

pub returns-in-Append-clause-told : goal.returns-in-Append-clause-told
returns-in-Append-clause-told g c =
    let h : Held = held_by g.S.RowStore.meaning c.args.self.now in
    done (append_unmet h.store c.in-Append.number c.in-Append.row.now) _ _ _ c.append.ensures.result c.map-in-Append.ensures.cases (λ u x p. search rules) ∙ sym (ap (λ q. answered h (request q)) c.in-Append.is)

pub returns-in-Replace-clause-told : goal.returns-in-Replace-clause-told
returns-in-Replace-clause-told g c =
    let h : Held = held_by g.S.RowStore.meaning c.args.self.now in
    done (replace_unmet h.store c.in-Replace.number c.in-Replace.place c.in-Replace.row.now) _ _ _ c.replace.ensures.result c.map-in-Replace.ensures.cases (λ u x p. search rules) ∙ sym (ap (λ q. answered h (request q)) c.in-Replace.is)
