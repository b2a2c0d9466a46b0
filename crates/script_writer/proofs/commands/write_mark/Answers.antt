use Rattle.std.proofs.Common.{refl, rules}
use Rattle.std.proofs.lemmas.Result.{on_ok_weaker}
use Rattle.script.proofs.WrittenLemmas.{closed, and_member, object_written}
use Rattle.script_writer.proofs.commands.write_mark.Goals as goal

pub returns : goal.returns
returns c =
    on_ok_weaker c.end_object.result (λ e.
    object_written c.args.out.now c.begin_object.new.self c.end_object.new.self _ (search rules) c.begin_object.ensures.room.0
    (and_member c.in_ok-write_member.ensures (and_member c.in_ok-write_member-2.ensures (and_member c.in_ok-write_member-3.ensures (and_member c.in_ok-write_member-4.ensures (closed c.write_member-4.new.out c.end_object.new.self e c.end_object.ensures.room.0)))))
    refl) c.end_object.ensures.ok
