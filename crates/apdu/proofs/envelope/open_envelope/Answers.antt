use Rattle.std.proofs.Common.{sym, ◌∙◌}
use Rattle.apdu.proofs.Fields.{field_within}
use Rattle.apdu.proofs.envelope.open_envelope.Goals as goal

pub returns-clause-within : goal.returns-clause-within
returns-clause-within c =
    let fitting = rw c.in_ok-body.ensures.ok_part at c.read_body.ensures.sized in
    field_within c.args.command.now c.in_ok-operation.operation c.in_ok-body.body c.field_end.result fitting (sym c.is_wanted_by.ensures ∙ c.if-not-is_wanted_by.false) c.field_end.ensures
