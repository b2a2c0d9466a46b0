use Rattle.std.proofs.Common.{◌≡◌, ◌<◌, ◌≤◌, ℕ, length, arith}
use Rattle.std.specs.Char.Escape.{encode_utf16}
use Rattle.std.specs.Str.Iter.{chars_rest}
use Rattle.std.proofs.lemmas.Bool.Decides.{nat_tests}
use Rattle.std.proofs.lemmas.Str.{IsUtf8-past_char}
use Rattle.generator.proofs.Characters.{units_of_next, utf16_of_nothing, utf16_of_fits}
use Rattle.generator.proofs.measure.units_of.Goals as goal

units_of_char : (c n : ℕ) → (c < 0x1_0000 → n ≡ 1) → (0x1_0000 ≤ c → n ≡ 2) → n ≡ length (encode_utf16 c)
units_of_char c n one two = grind (arith, nat_tests)

pub overflow_add-units : goal.overflow_add-units
overflow_add-units c =
    let own = units_of_char c.in-Some.c c.len_utf16.result c.len_utf16.ensures.bmp c.len_utf16.ensures.surrogate_pair in
    let next = units_of_next (chars_rest c.loop-c.c-iterator) (chars_rest c.next.new.self) c.in-Some.c c.loop-c.invariant.utf8 c.in-Some.ensures.steps.0 in
    omega (arith, utf16_of_fits c.args.text.now c.utf8.text)

pub loop-c-preserved : goal.loop-c-preserved
loop-c-preserved c =
    let own = units_of_char c.in-Some.c c.len_utf16.result c.len_utf16.ensures.bmp c.len_utf16.ensures.surrogate_pair in
    let next = units_of_next (chars_rest c.loop-c.c-iterator) (chars_rest c.next.new.self) c.in-Some.c c.loop-c.invariant.utf8 c.in-Some.ensures.steps.0 in
    record {
      utf8 = IsUtf8-past_char (chars_rest c.loop-c.c-iterator) (chars_rest c.next.new.self) c.in-Some.c c.loop-c.invariant.utf8 c.in-Some.ensures.steps.0;
      counted = omega arith;
    }

pub returns : goal.returns
returns c = omega (arith, utf16_of_nothing (chars_rest c.loop-c.c-iterator) c.in-None.ensures.steps.0.0)
