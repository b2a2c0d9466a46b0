use Rattle.std.proofs.Common.{rules}
use Rattle.script.proofs.ReadBack.{value_reads_back}
use Rattle.script.proofs.Whole.{text_of_tokens}
use Rattle.script.proofs.values.document_bytes.Goals as goal

pub returns-clause-text : goal.returns-clause-text
returns-clause-text g c =
    let start = c.new-out.ensures in
    text_of_tokens (g.T.HasValue.json c.args.of.now) c.new-out.result c.write.new.out c.into_inner-bytes.result.items c.push.new.self.items (search rules) start.tokens
    c.in_ok-write.ensures c.into_inner-bytes.ensures.items c.in_ok-push.ensures.items

pub returns-clause-reads_back : goal.returns-clause-reads_back
returns-clause-reads_back g c =
    let start = c.new-out.ensures in
    let text = c.into_inner-bytes.ensures in
    value_reads_back (g.T.HasValue.json c.args.of.now) c.new-out.result c.write.new.out c.into_inner-bytes.result.items c.push.new.self.items c.requires (search rules) start.tokens
    c.in_ok-write.ensures text.items text.reads_back text.utf8 c.in_ok-push.ensures.items
