use Rattle.codecs.proofs.Sending.{all_put, all_failed, all_count, ok_count, ok_turned, err_turned}
use Rattle.codecs.proofs.saving.save.Goals as goal

pub returns-clause-bytes : goal.returns-clause-bytes
returns-clause-bytes g c = ok_count c.finish.result _ _ c.finish.ensures.bytes
    (all_count c.args.reader.now.text c.args.encoding c.in_ok-out.out (g.K.Sink.taken c.args.sink.now) (g.K.Sink.taken c.put_text.new.sink) c.in_ok-out.ensures.given c.requires)

pub returns-clause-saved : goal.returns-clause-saved
returns-clause-saved g c = ok_turned c.finish.result c.finish.ensures.put
    (all_put c.args.reader.now.text c.args.encoding c.in_ok-out.out (g.K.Sink.taken c.args.sink.now) (g.K.Sink.taken c.put_text.new.sink) c.in_ok-out.ensures.given c.requires (g.K.Sink.taken c.finish.new.sink))

pub returns-clause-prefix : goal.returns-clause-prefix
returns-clause-prefix g c = err_turned c.finish.result c.finish.ensures.prefix
    (all_failed c.args.reader.now.text c.args.encoding c.in_ok-out.out (g.K.Sink.taken c.args.sink.now) (g.K.Sink.taken c.put_text.new.sink) c.in_ok-out.ensures.given c.requires (g.K.Sink.taken c.finish.new.sink))
