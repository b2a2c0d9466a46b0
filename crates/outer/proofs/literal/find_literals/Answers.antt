use Rattle.std.proofs.Common.{◌≡◌, ◌<◌, ◌==◌, ℕ, false, length, arith, ap}
use Rattle.std.proofs.lemmas.Bool.Decides.{nat_tests}
use Rattle.outer.proofs.SoundLemmas.{found_literals}
use Rattle.outer.proofs.literal.find_literals.Goals as goal

some_bytes : (n m : ℕ) → false ≡ (n == 0) → m ≡ n → 0 < m
some_bytes n m apart same = grind (arith, nat_tests)

pub returns-clause-finds : goal.returns-clause-finds
returns-clause-finds c = found_literals c.args.needle.now c.args.text.now c.as_bytes-2.result.now c.as_bytes.result.now c.args.limit c.args.into.now c.put_matches.new.into c.put_matches.result
    c.as_bytes-2.ensures.value c.as_bytes.ensures.value c.utf8.needle c.utf8.text (some_bytes _ _ c.if-is_empty.ensures (ap length c.as_bytes-2.ensures.value)) c.put_matches.ensures.count c.put_matches.ensures.first
