use Rattle.std.proofs.Common.{◌≡◌, ℕ, None, sym, ap, ◌∙◌, subst, arith}
use Rattle.std.proofs.lemmas.Slice.Eq.{slice_eq-Decides}
use Rattle.rowmodel.specs.Needs.{append_unmet}
use Rattle.rowmodel.specs.Calls.{appended, lent}
use Rattle.rowmodel.proofs.Refusals.{none_at_ok, new_at_none, ok_at}
use Rattle.rowstore.specs.Added.{Added}
use Rattle.rowstore.proofs.Appends.{appended_adds, last_is_new}
use Rattle.rowstore.proofs.added.append_and_look.Goals as goal
use Rattle.std.proofs.lemmas.Bool.Decides.{Decides-eqb}

pub returns-in_err-last_row : goal.returns-in_err-last_row
returns-in_err-last_row g c =
    let m = g.S.RowStore.meaning c.args.store.now in
    let put = c.in_ok-append.ensures in
    let o : append_unmet m c.args.number c.args.row.now ≡ None = none_at_ok (append_unmet m c.args.number c.args.row.now) _ _ put.result in
    let e : g.S.RowStore.meaning c.append.new.self ≡ appended m c.args.number c.args.row.now = new_at_none _ _ _ _ o put.after in
    let look = c.last_row.ensures ∙ last_is_new m c.args.number c.args.row.now o (g.S.RowStore.meaning c.append.new.self) e in
    let broke = ap lent c.in_err-last_row.was in
    let z : ◌≡◌ {A = ℕ} 0 1 = cc (look, broke) in absurd (omega arith)

pub returns-clause-result : goal.returns-clause-result
returns-clause-result g c =
    let m = g.S.RowStore.meaning c.args.store.now in
    let put = c.in_ok-append.ensures in
    let o : append_unmet m c.args.number c.args.row.now ≡ None = none_at_ok (append_unmet m c.args.number c.args.row.now) _ _ put.result in
    let e : g.S.RowStore.meaning c.append.new.self ≡ appended m c.args.number c.args.row.now = new_at_none _ _ _ _ o put.after in
    let look = sym (ap lent c.in_ok-last_row.was) ∙ c.last_row.ensures ∙ last_is_new m c.args.number c.args.row.now o (g.S.RowStore.meaning c.append.new.self) e in
    let same : c.in_ok-last_row.field-0.now ≡ c.args.row.now = cc look in
    ok_at _ _ _ o ((slice_eq-Decides Decides-eqb _ _ _ c.eq.ensures).1 same)

pub returns-clause-added : goal.returns-clause-added
returns-clause-added g c =
    let m = g.S.RowStore.meaning c.args.store.now in
    let put = c.in_ok-append.ensures in
    let o : append_unmet m c.args.number c.args.row.now ≡ None = none_at_ok (append_unmet m c.args.number c.args.row.now) _ _ put.result in
    let e : g.S.RowStore.meaning c.append.new.self ≡ appended m c.args.number c.args.row.now = new_at_none _ _ _ _ o put.after in
    subst (Added m c.args.number c.args.row.now) (sym e) (appended_adds m c.args.number c.args.row.now o)
