use Rattle.std.proofs.Common.{◌≡◌, ℕ, cond, refl, arith}
use Rattle.std.specs.Str.Iter.{chars_rest}
use Rattle.std.proofs.lemmas.Bool.Decides.{nat_tests}
use Rattle.std.proofs.lemmas.List.Sums.{count_by-le-length}
use Rattle.std.proofs.lemmas.Str.{IsUtf8-past_char}
use Rattle.points.specs.Text.{utf16_of, is_lf}
use Rattle.generator.proofs.Characters.{line_feeds_of_next, line_feeds_of_nothing, utf16_of_fits}
use Rattle.generator.proofs.measure.rows_of.Goals as goal

one_feed : (c n : ℕ) → c ≡ 10 → n ≡ cond (is_lf c) 1 0 → n ≡ 1
one_feed c n e is = grind (arith, nat_tests)

no_feed : (c n : ℕ) → ¬ (c ≡ 10) → n ≡ cond (is_lf c) 1 0 → n ≡ 0
no_feed c n e is = grind (arith, nat_tests)

pub overflow_add-rows : goal.overflow_add-rows
overflow_add-rows c = omega (arith, c.loop-c.invariant.counted, count_by-le-length is_lf (utf16_of c.args.text.now), utf16_of_fits c.args.text.now c.utf8.text)

pub loop-c-preserved-then-c-eq10 : goal.loop-c-preserved-then-c-eq10
loop-c-preserved-then-c-eq10 c =
    let next = line_feeds_of_next (chars_rest c.loop-c.c-iterator) (chars_rest c.next.new.self) c.in-Some.c c.loop-c.invariant.utf8 c.in-Some.ensures.steps.0 in
    let one = one_feed c.in-Some.c (cond (is_lf c.in-Some.c) 1 0) c.if-c-eq10.true refl in
    record {
      utf8 = IsUtf8-past_char (chars_rest c.loop-c.c-iterator) (chars_rest c.next.new.self) c.in-Some.c c.loop-c.invariant.utf8 c.in-Some.ensures.steps.0;
      counted = omega (arith, c.loop-c.invariant.counted);
    }

pub loop-c-preserved : goal.loop-c-preserved
loop-c-preserved c =
    let next = line_feeds_of_next (chars_rest c.loop-c.c-iterator) (chars_rest c.next.new.self) c.in-Some.c c.loop-c.invariant.utf8 c.in-Some.ensures.steps.0 in
    let none = no_feed c.in-Some.c (cond (is_lf c.in-Some.c) 1 0) c.if-c-eq10.false refl in
    record {
      utf8 = IsUtf8-past_char (chars_rest c.loop-c.c-iterator) (chars_rest c.next.new.self) c.in-Some.c c.loop-c.invariant.utf8 c.in-Some.ensures.steps.0;
      counted = omega (arith, c.loop-c.invariant.counted);
    }

pub returns : goal.returns
returns c = omega (arith, c.loop-c.invariant.counted, line_feeds_of_nothing (chars_rest c.loop-c.c-iterator) c.in-None.ensures.steps.0.0)
