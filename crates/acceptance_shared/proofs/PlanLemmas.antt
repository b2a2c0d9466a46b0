-- A session that types.
use Rattle.std.proofs.Common.{◌≡◌, ℕ, Bool, List, [], ◌∷◌, ◌++◌, ◌&&◌, true, refl, arith}
use Rattle.std.proofs.lemmas.Bool.{and_parts}
use Rattle.std.proofs.lemmas.List.Sums.{sum_by-append}
use Rattle.points.specs.declared.range.Range.{Range}
use Rattle.machine.specs.declared.command.Command.{Command}
use Rattle.machine.specs.declared.command.Command.TheVariants as command
use Rattle.machine.specs.Lawful.{patterns_in, patterns_of}
use Rattle.sessions.specs.Rules.{numbers_after, can_answer, can_answer_all}

both_true : (a b : Bool) → a ≡ true → b ≡ true → (a && b) ≡ true
both_true a b p q = rw (p, q) refl

-- an edit can come behind all that can be answered
pub can_edit : (hands : ℕ) (live : List ℕ) (cs : List Command) (range : Range) (text : List ℕ) → can_answer_all hands live cs ≡ true → can_answer_all hands live (cs ++ command.Edit range text ∷ []) ≡ true
can_edit hands live [] range text can = refl
can_edit hands live (c ∷ cs) range text can =
    let both = and_parts (can_answer hands live c) (can_answer_all hands (numbers_after c live) cs) can in
    both_true (can_answer hands live c) (can_answer_all hands (numbers_after c live) (cs ++ command.Edit range text ∷ [])) both.0 (can_edit hands (numbers_after c live) cs range text both.1)

-- and reads no pattern
pub none_edit : (cs : List Command) (range : Range) (text : List ℕ) → patterns_of cs ≡ 0 → patterns_of (cs ++ command.Edit range text ∷ []) ≡ 0
none_edit cs range text none = omega (arith, sum_by-append patterns_in cs (command.Edit range text ∷ []), none)
