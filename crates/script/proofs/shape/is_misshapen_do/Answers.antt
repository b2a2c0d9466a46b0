use Rattle.serde_json.specs.View.{view}
use Rattle.script.proofs.ReadShape.{read_is_misshapen, send_is_misshapen}
use Rattle.script.proofs.shape.is_misshapen_do.Goals as goal

pub returns-then-eq-16 : goal.returns-then-eq-16
returns-then-eq-16 c = read_is_misshapen (view c.args.value.now) c.args.word.now c.eq-10.result c.lacks_members_of_read.result c.requires c.eq-10.ensures c.if-eq-16.true c.lacks_members_of_read.ensures

pub returns-then-eq-17 : goal.returns-then-eq-17
returns-then-eq-17 c = send_is_misshapen (view c.args.value.now) c.args.word.now c.eq-11.result c.lacks_members_of_read-then-eq-17.result c.requires c.eq-11.ensures c.if-eq-17.true c.lacks_members_of_read-then-eq-17.ensures
