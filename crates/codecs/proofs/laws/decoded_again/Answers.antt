use Rattle.codecs.proofs.Again.{decoded-encode}
use Rattle.codecs.proofs.laws.decoded_again.Goals as goal

pub returns : goal.returns
returns c = λ good narrow. decoded-encode c.args.encoding c.args.text.now good narrow
