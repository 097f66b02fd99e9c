use Rattle.sheets.specs.Read.{sheets_of}
use Rattle.sheets.specs.Held.{model_of}
use Rattle.rules.proofs.Asked.{read_so}
use Rattle.rules.proofs.columns.ask.Goals as goal

pub returns-clause-value : goal.returns-clause-value
returns-clause-value c = read_so (sheets_of c.args.posts.now c.args.staff.now) c.read.result (model_of c.read.new.self) c.read.ensures.value
