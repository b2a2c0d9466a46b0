use Rattle.serde_json.specs.View.{view, items_view}
use Rattle.script.proofs.DocumentPlaces.{shape_refused, opening_refused, commands_refused, script_made}
use Rattle.script.proofs.read.read_value.Goals as goal

pub returns-in-Err-Shape-clause-refused : goal.returns-in-Err-Shape-clause-refused
returns-in-Err-Shape-clause-refused c =
    let none = rw c.in-Err-Shape.field-0-is at c.in-Err-Shape.ensures in
    shape_refused (view c.args.value.now) c.refused.result none c.refused.ensures

pub returns-in-Err-Breaks-clause-refused : goal.returns-in-Err-Breaks-clause-refused
returns-in-Err-Breaks-clause-refused c =
    let head = c.in-Ok.head in
    let broken = rw c.in-Err-Breaks.field-0-is at c.in-Err-Breaks.ensures.broken in
    let is = rw c.in-Err-Breaks.field-0-is at c.refused-in-Err-Breaks.ensures in
    opening_refused (view c.args.value.now) (view head.opening.now) (items_view head.commands.now) _ c.refused-in-Err-Breaks.result c.in-Ok.ensures broken is

pub returns-in-Ok-commands_of-clause-read : goal.returns-in-Ok-commands_of-clause-read
returns-in-Ok-commands_of-clause-read c =
    let head = c.in-Ok.head in
    let opening = c.in-Ok-read_opening in
    let commands = c.in-Ok-commands_of in
    script_made (view c.args.value.now) (view head.opening.now) (items_view head.commands.now) opening.opening commands.commands.items c.script_from.result c.in-Ok.ensures opening.ensures.kept opening.ensures.read commands.ensures.kept
    commands.ensures.read c.script_from.ensures.made

pub returns-in-Err-clause-refused : goal.returns-in-Err-clause-refused
returns-in-Err-clause-refused c =
    let head = c.in-Ok.head in
    commands_refused (view c.args.value.now) (view head.opening.now) (items_view head.commands.now) c.in-Err.refusal c.in-Ok.ensures c.in-Ok-read_opening.ensures.kept c.in-Err.ensures.refused
