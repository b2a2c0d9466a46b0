-- The names of the rules, as a line about a refused script shows them.
use Rattle.std.specs.Prelude.{ℕ, List, codes}
use Rattle.script.specs.declared.refusal.ScriptRule.{ScriptRule}
use Rattle.script.specs.declared.refusal.ScriptRule.TheVariants.{NotJson, BadShape, TooMany, UnknownSnapshot, SnapshotTaken, BadNumber, BadEncoding, EmptyNeedle, BadName}

abbrev pub rule_name : ScriptRule → List ℕ
rule_name NotJson = codes "NotJson"
rule_name BadShape = codes "BadShape"
rule_name TooMany = codes "TooMany"
rule_name UnknownSnapshot = codes "UnknownSnapshot"
rule_name SnapshotTaken = codes "SnapshotTaken"
rule_name BadNumber = codes "BadNumber"
rule_name BadEncoding = codes "BadEncoding"
rule_name EmptyNeedle = codes "EmptyNeedle"
rule_name BadName = codes "BadName"
