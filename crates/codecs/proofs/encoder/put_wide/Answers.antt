use Rattle.std.proofs.Common.{◌≤◌, arith}
use Rattle.std.specs.Char.Utf16.{surrogate_pair_char}
use Rattle.std.proofs.lemmas.Grind.{common_steps}
use Rattle.codecs.proofs.Spelled.{four_bytes, pair_is_wide}
use Rattle.codecs.proofs.encoder.put_wide.Goals as goal

pub returns : goal.returns
returns c = let wide = pair_is_wide c.args.high c.args.low c.requires.high c.requires.low in
    let big : 65536 ≤ surrogate_pair_char c.args.high c.args.low = omega arith in
    rw (four_bytes (surrogate_pair_char c.args.high c.args.low) big) (grind (arith, common_steps))
