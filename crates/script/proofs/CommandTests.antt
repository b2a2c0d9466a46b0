-- The lowest rule that a command breaks, by the tests one after another.
use Rattle.std.proofs.Common.{◌≡◌, ◌&&◌, ◌||◌, ◌⊎◌, inl, inr, not, List, [], ◌∷◌, Bool, true, false, cond, Option, Some, None, is_some, refl, sym, ap, subst, ◌∙◌}
use Rattle.std.specs.Prelude.{codes}
use Rattle.std.specs.List.{list_all}
use Rattle.std.proofs.lemmas.Bool.{false≢true}
use Rattle.machine.specs.declared.command.Command.{Command}
use Rattle.script.specs.declared.refusal.ScriptRule.{ScriptRule}
use Rattle.script.specs.declared.refusal.ScriptRule.TheVariants.{BadShape, TooMany, UnknownSnapshot, SnapshotTaken, BadNumber, BadEncoding, EmptyNeedle, BadName}
use Rattle.script.specs.Limits.{has_needles}
use Rattle.script.specs.Reading.{is_unread, unread_rule}
use Rattle.script.specs.Rules as rules
use Rattle.script.specs.Rules.{any_item, command_tests, command_breaks, first_broken, is_misshapen, is_too_many, needs_live, is_live, is_do, is_again, is_name, names_in, reads_in, snapshot_in, wrong_number, wrong_encoding, empty_needle, wrong_name}
use Rattle.script.specs.ScriptDocument.{command_of}
use Rattle.script.proofs.RuleLemmas.{or_false}
use Rattle.script.proofs.Shaped.{HasNeedles, command_shaped}
use Rattle.serde_json.specs.Data.{Data}

-- the first four tests pass
pub record IsEarly (b : rules.Before) (d : Data) : Type 0 where
  pub shape : is_misshapen false d ≡ false
  pub many : is_too_many b d ≡ false
  pub unknown : (needs_live d && not (is_live b d)) ≡ false
  pub taken : (is_do (codes "take") d && is_live b d) ≡ false

abbrev eight : (a b c d e f g h : Bool) → List (Bool × ScriptRule)
eight a b c d e f g h = (a, BadShape) ∷ (b, TooMany) ∷ (c, UnknownSnapshot) ∷ (d, SnapshotTaken) ∷ (e, BadNumber) ∷ (f, BadEncoding) ∷ (g, EmptyNeedle) ∷ (h, BadName) ∷ []

fifth : (a b c d e f g h : Bool) → a ≡ false → b ≡ false → c ≡ false → d ≡ false → e ≡ true → first_broken (eight a b c d e f g h) ≡ Some BadNumber
fifth a b c d e f g h a_is b_is c_is d_is e_is = rw (a_is, b_is, c_is, d_is, e_is) refl

sixth : (a b c d e f g h : Bool) → a ≡ false → b ≡ false → c ≡ false → d ≡ false → e ≡ false → f ≡ true → first_broken (eight a b c d e f g h) ≡ Some BadEncoding
sixth a b c d e f g h a_is b_is c_is d_is e_is f_is = rw (a_is, b_is, c_is, d_is, e_is, f_is) refl

seventh : (a b c d e f g h : Bool) → a ≡ false → b ≡ false → c ≡ false → d ≡ false → e ≡ false → f ≡ false → g ≡ true → first_broken (eight a b c d e f g h) ≡ Some EmptyNeedle
seventh a b c d e f g h a_is b_is c_is d_is e_is f_is g_is = rw (a_is, b_is, c_is, d_is, e_is, f_is, g_is) refl

eighth : (a b c d e f g h : Bool) → a ≡ false → b ≡ false → c ≡ false → d ≡ false → e ≡ false → f ≡ false → g ≡ false → h ≡ true → first_broken (eight a b c d e f g h) ≡ Some BadName
eighth a b c d e f g h a_is b_is c_is d_is e_is f_is g_is h_is = rw (a_is, b_is, c_is, d_is, e_is, f_is, g_is, h_is) refl

none_of : (a b c d e f g h : Bool) → a ≡ false → b ≡ false → c ≡ false → d ≡ false → e ≡ false → f ≡ false → g ≡ false → h ≡ false → first_broken (eight a b c d e f g h) ≡ None
none_of a b c d e f g h a_is b_is c_is d_is e_is f_is g_is h_is = rw (a_is, b_is, c_is, d_is, e_is, f_is, g_is, h_is) refl

-- what isn't read has a wrong number, or a wrong encoding
pick : (x n e : Bool) → x ≡ false → (n || e) ≡ not x → (n ≡ true) ⊎ ((n ≡ false) × (e ≡ true))
pick true n e is h = absurd cc
pick false true e is h = inl refl
pick false false e is h = inr (refl, h)

-- the last two tests of the rule: the encodings that are wrong, the snapshot's number, and the numbers of the reads that are wrong
by_rule : (n e s m : Bool) → (n ≡ true) ⊎ ((n ≡ false) × (e ≡ true)) → (e ≡ true → n ≡ (not s || m)) → cond (e && (s && not m)) BadEncoding BadNumber ≡ cond n BadNumber BadEncoding
by_rule true true true true h is = refl
by_rule true true true false h is = absurd (false≢true (sym (is refl)))
by_rule true true false m h is = refl
by_rule true false s m h is = refl
by_rule false true true true h is = absurd (false≢true (is refl))
by_rule false true true false h is = refl
by_rule false true false m h is = absurd (false≢true (is refl))
by_rule false false s m h is = absurd (elim h [ inl a ↦ false≢true a | inr b ↦ false≢true b.1 ])

module _ (b : rules.Before) (d : Data) (h : IsEarly b d) where
  abbrev wrong : Bool
  wrong = command_breaks wrong_name false d || is_again b.names (names_in (reads_in d))

  by_number : (n : Bool) (e : Bool) → command_breaks wrong_number false d ≡ n → command_breaks wrong_encoding false d ≡ e → (n ≡ true) ⊎ ((n ≡ false) × (e ≡ true)) → first_broken (command_tests false b d) ≡ Some (cond n BadNumber BadEncoding)
  by_number true e n_is e_is either =
      fifth (is_misshapen false d) (is_too_many b d) (needs_live d && not (is_live b d)) (is_do (codes "take") d && is_live b d) (command_breaks wrong_number false d) (command_breaks wrong_encoding false d) (command_breaks empty_needle false d)
      wrong h.shape h.many h.unknown h.taken n_is
  by_number false true n_is e_is either =
      sixth (is_misshapen false d) (is_too_many b d) (needs_live d && not (is_live b d)) (is_do (codes "take") d && is_live b d) (command_breaks wrong_number false d) (command_breaks wrong_encoding false d) (command_breaks empty_needle false d)
      wrong h.shape h.many h.unknown h.taken n_is e_is
  by_number false false n_is e_is either = absurd (elim either [ inl a ↦ false≢true a | inr b ↦ false≢true b.1 ])

  -- a command that isn't read
  pub unread_broken : (why : ScriptRule) → command_of d ≡ None → why ≡ unread_rule d → first_broken (command_tests false b d) ≡ Some why
  unread_broken why none rule =
      let is = command_shaped d h.shape in
      let gone : is_some is.found ≡ false = ap is_some (sym is.read ∙ none) in
      let either = pick (is_some is.found) (command_breaks wrong_number false d) (command_breaks wrong_encoding false d) gone (sym is.fails) in
      let ruled = by_rule (command_breaks wrong_number false d) (command_breaks wrong_encoding false d) (is_some (snapshot_in d)) (any_item (is_unread false) (reads_in d)) either (λ e. is.number (sym is.encoding ∙ e)) in
      by_number _ _ refl refl either ∙ ap Some (sym ruled ∙ ap (λ e. cond (e && (is_some (snapshot_in d) && not (any_item (is_unread false) (reads_in d)))) BadEncoding BadNumber) is.encoding ∙ sym rule)

  module _ (c : Command) (e : command_of d ≡ Some c) where
    right : (command_breaks wrong_number false d ≡ false) × (command_breaks wrong_encoding false d ≡ false)
    right = let is = command_shaped d h.shape in or_false _ _ (sym is.fails ∙ ap (λ (o : Option Command). not (is_some o)) (sym is.read ∙ e))

    needle_of : command_breaks empty_needle false d ≡ not (has_needles c)
    needle_of = let is = command_shaped d h.shape in subst (λ o. HasNeedles o (command_breaks empty_needle false d)) (sym is.read ∙ e) is.needle

    pub needle_broken : has_needles c ≡ false → first_broken (command_tests false b d) ≡ Some EmptyNeedle
    needle_broken empty =
        seventh (is_misshapen false d) (is_too_many b d) (needs_live d && not (is_live b d)) (is_do (codes "take") d && is_live b d) (command_breaks wrong_number false d) (command_breaks wrong_encoding false d) (command_breaks empty_needle false d)
        wrong h.shape h.many h.unknown h.taken right.0 right.1 (needle_of ∙ ap not empty)

    -- the names that the command saves under
    name_test : (bad : Bool) → bad ≡ (not (list_all is_name (names_in (reads_in d))) || is_again b.names (names_in (reads_in d))) → wrong ≡ bad
    name_test bad is = ap (λ x. x || is_again b.names (names_in (reads_in d))) (command_shaped d h.shape).name ∙ sym is

    pub name_broken : (bad : Bool) → has_needles c ≡ true → bad ≡ (not (list_all is_name (names_in (reads_in d))) || is_again b.names (names_in (reads_in d))) → bad ≡ true → first_broken (command_tests false b d) ≡ Some BadName
    name_broken bad needles is refused =
        eighth (is_misshapen false d) (is_too_many b d) (needs_live d && not (is_live b d)) (is_do (codes "take") d && is_live b d) (command_breaks wrong_number false d) (command_breaks wrong_encoding false d) (command_breaks empty_needle false d)
        wrong h.shape h.many h.unknown h.taken right.0 right.1 (needle_of ∙ ap not needles) (name_test bad is ∙ refused)

    pub none_broken : (bad : Bool) → has_needles c ≡ true → bad ≡ (not (list_all is_name (names_in (reads_in d))) || is_again b.names (names_in (reads_in d))) → bad ≡ false → first_broken (command_tests false b d) ≡ None
    none_broken bad needles is taken =
        none_of (is_misshapen false d) (is_too_many b d) (needs_live d && not (is_live b d)) (is_do (codes "take") d && is_live b d) (command_breaks wrong_number false d) (command_breaks wrong_encoding false d) (command_breaks empty_needle false d)
        wrong h.shape h.many h.unknown h.taken right.0 right.1 (needle_of ∙ ap not needles) (name_test bad is ∙ taken)
