use Rattle.std.proofs.Common.{◌≡◌, ℕ, ◌+◌, ◌≤◌, List, ◌++◌, length, take, get_or, Option, IfSome, IsTrue, is_some, refl, sym, ap, ◌∙◌, subst, append-nil, append_assoc, arith, length-append}
use Rattle.std.specs.Char.Utf16.{is_high_surrogate}
use Rattle.machine.specs.declared.reads.Encoding.{Encoding}
use Rattle.machine.specs.Encodings.{encode}
use Rattle.codecs.specs.Partway.{Partway, waiting, completed, behind, unit_bytes}
use Rattle.codecs.proofs.Spelled.{encode-nil}
use Rattle.codecs.proofs.Steps.{behind_nothing, next_of, room_next}
use Rattle.codecs.proofs.encoder.Encoder.step.Goals as goal

pub loop-taken-init : goal.loop-taken-init
loop-taken-init c = let e = c.args.self.now.encoding in let none = behind_nothing c.args.self.now.waits (subst (λ (p : Partway). IfSome p.waits (λ u. IsTrue (is_high_surrogate u))) c.self.view_is c.self.invariant) in record {
  within = omega arith;
  encoding = refl;
  waits = sym none.0;
  still = λ _. refl;
  bytes = sym (ap (λ (xs : List ℕ). c.args.into.now.items ++ xs) (ap (encode e) none.1 ∙ encode-nil e) ∙ append-nil c.args.into.now.items);
  room = λ k lt. absurd (omega arith);
}

pub take_unit-requires-clause-fits : goal.take_unit-requires-clause-fits
take_unit-requires-clause-fits c = let n = next_of c.args.self.now.encoding c.args.self.now.waits c.args.units.now c.loop-taken.taken c.loop-taken-test.true c.requires in
    ap is_some c.loop-taken.invariant.waits ∙ n.fits

pub loop-taken-preserved : goal.loop-taken-preserved
loop-taken-preserved c =
    let e = c.args.self.now.encoding in
    let o = c.args.self.now.waits in
    let units = c.args.units.now in
    let i = c.loop-taken.taken in
    let u = get_or units i 0 in
    let n = next_of e o units i c.loop-taken-test.true c.requires in
    let same : unit_bytes c.loop-taken.self u ≡ unit_bytes (record { encoding = e; waits = waiting (behind o (take i units)) }) u =
    ap (λ (x : Encoding). unit_bytes (record { encoding = x; waits = c.loop-taken.self.waits }) u) c.loop-taken.invariant.encoding
    ∙ ap (λ (x : Option ℕ). unit_bytes (record { encoding = e; waits = x }) u) c.loop-taken.invariant.waits in
    let short : length c.args.into.now.items + length (encode e (completed (behind o (take i units)))) ≤ 4092 =
    let k = ap length c.loop-taken.invariant.bytes in omega (arith, k, c.if-len-le4092.true, c.len.ensures.value, length-append c.args.into.now.items (encode e (completed (behind o (take i units))))) in
    record {
      within = omega arith;
      encoding = c.take_unit.ensures.encoding ∙ c.loop-taken.invariant.encoding;
      waits = c.take_unit.ensures.waits ∙ sym n.waits;
      still = λ zero. absurd (omega (arith, zero));
      bytes = c.take_unit.ensures.bytes ∙ (ap (λ (xs : List ℕ). xs ++ unit_bytes c.loop-taken.self u) c.loop-taken.invariant.bytes
          ∙ (append_assoc c.args.into.now.items (encode e (completed (behind o (take i units)))) (unit_bytes c.loop-taken.self u)
          ∙ ap (λ (xs : List ℕ). c.args.into.now.items ++ xs) (ap (λ (xs : List ℕ). encode e (completed (behind o (take i units))) ++ xs) same ∙ sym n.bytes)));
      room = room_next (λ (k : ℕ). length c.args.into.now.items + length (encode e (completed (behind o (take k units))))) i 4092 c.loop-taken.invariant.room short;
    }
