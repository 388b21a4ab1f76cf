use Rattle.std.proofs.Common.{◌≡◌, Err, sym, subst, rules}
use Rattle.commands.specs.declared.parse.CommandFault.TheVariants.{Field}
use Rattle.commands.specs.Inside.{Inside}
use Rattle.commands.specs.Parse.{understood}
use Rattle.commands.proofs.Fronts.{parsed_inside, fault_inside}
use Rattle.commands.proofs.parse.parse_command.Goals as goal

pub returns-in_err-parse_field : goal.returns-in_err-parse_field
returns-in_err-parse_field c =
    let e = c.in_ok-envelope.envelope in
    let f = c.in_err-parse_field.field-0.0 in
    let is : c.from_residual-in_err-parse_field.result ≡ Err (Field f) = search rules in
    record {
      result = search rules;
      inside = subst (λ r. Inside c.args.command.now (understood r)) (sym is)
          (fault_inside c.args.command.now e.operation e.field.now e.le c.in_ok-envelope.ensures.within f c.in_err-parse_field.ensures);
    }

pub returns : goal.returns
returns c =
    let e = c.in_ok-envelope.envelope in
    record {
      result = search rules;
      inside = parsed_inside c.args.command.now e.operation e.field.now e.le c.in_ok-envelope.ensures.within _ c.in_ok-parse_field.ensures;
    }
