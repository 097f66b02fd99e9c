use Rattle.std.proofs.Common.{map, ap, ◌∙◌, rules}
use Rattle.sheets.specs.Model.{LaneRecord, lane_record}
use Rattle.rules.proofs.Gathers.{all_gathered}
use Rattle.rules.proofs.columns.sizes_of.Goals as goal

pub returns : goal.returns
returns c = c.gather.ensures (λ l. l.size) (λ l r p. search rules) ∙ all_gathered 80 (λ (l : LaneRecord). l.size) lane_record c.lanes.result.now c.lanes.ensures.few ∙ ap (map (λ (l : LaneRecord). l.size)) c.lanes.ensures.value
