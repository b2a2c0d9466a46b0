use Rattle.std.proofs.Common.{arith}
use Rattle.std.proofs.lemmas.Result.{on_ok_weaker}
use Rattle.script.proofs.WrittenLemmas.{whole_readable}
use Rattle.script.proofs.values.U64HasValue.write.Goals as goal

pub returns : goal.returns
returns c =
    on_ok_weaker c.u64.result (λ e. record { adds = record { tokens = e; before = c.u64.ensures.room.0 }; readable = whole_readable c.args.self.now (omega arith) }) c.u64.ensures.ok
