use Rattle.fields.proofs.Fronts.{part_min}
use Rattle.fields.proofs.reader.Reader.since.Goals as goal

pub returns : goal.returns
returns c =
    part_min c.args.self.now.field.now c.args.from c.args.self.now.at c.min-start.result c.min-end.result c.min-end.ensures c.min-start.ensures
