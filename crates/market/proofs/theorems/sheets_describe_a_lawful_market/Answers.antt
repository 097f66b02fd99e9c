use Rattle.market.proofs.Lawful.{sheets_describe_a_lawful_market_lem}
use Rattle.market.proofs.theorems.sheets_describe_a_lawful_market.Goals as goal

pub returns : goal.returns
returns c = sheets_describe_a_lawful_market_lem
