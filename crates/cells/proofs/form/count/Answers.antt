use Rattle.cells.proofs.Forms.{count_read}
use Rattle.cells.proofs.form.count.Goals as goal

pub returns-in-empty-clause-lawful : goal.returns-in-empty-clause-lawful
returns-in-empty-clause-lawful c = count_read

pub returns-in-len1-up-clause-lawful : goal.returns-in-len1-up-clause-lawful
returns-in-len1-up-clause-lawful c = count_read
