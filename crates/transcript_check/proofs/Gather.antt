-- The numbered calls of a transcript, as loops gather them.
use Rattle.std.proofs.Common.{◌≡◌, ℕ, ◌+◌, ◌<◌, ◌≤◌, List, [], ◌∷◌, ◌++◌, length, drop, get_or, min, Option, Some, None, refl, sym, ◌∙◌, ap, arith, append_assoc, append-nil, inl, inr}
use Rattle.std.proofs.lemmas.Bool.{cases_lt}
use Rattle.std.proofs.lemmas.List.{drop_all}
use Rattle.machine.specs.declared.command.Command.{Command}
use Rattle.machine.specs.declared.reply.Reply.{Reply}
use Rattle.machine.specs.Machine.{Call, undo}
use Rattle.machine.specs.Answers.{call_of, number_of}
use Rattle.machine.specs.Lawful.{Entry, with_entry, session_entries, entries}
use Rattle.std.specs.Prelude.{is_some, unwrap_or, true}
use Rattle.snapshot_check.proofs.Dropped.{dropped}

pub entry_in_front : (o : Option Call) (n : Option ℕ) (r : Reply) (es : List Entry) → with_entry o n r es ≡ with_entry o n r [] ++ es
entry_in_front None n r es = refl
entry_in_front (Some call) None r es = refl
entry_in_front (Some call) (Some n) r es = refl

-- a list that was gathered so far, and the rest of what is to come
pub gathered_more : {X : Type 0} (all more here rest left total : List X) → more ≡ all ++ here → left ≡ here ++ rest → all ++ left ≡ total → more ++ rest ≡ total
gathered_more all more here rest left total is cut so_far = ap (λ xs. xs ++ rest) is ∙ append_assoc all here rest ∙ ap (λ xs. all ++ xs) (sym cut) ∙ so_far

pub session_at : (cs : List Command) (rs : List Reply) (i : ℕ) (c : Command) (r : Reply) → i < length cs → i < length rs → c ≡ get_or cs i c → r ≡ get_or rs i r
    → session_entries (drop i cs) (drop i rs) ≡ with_entry (call_of c) (number_of r) r [] ++ session_entries (drop (i + 1) cs) (drop (i + 1) rs)
session_at cs rs i c r a b left right = ap (λ l. session_entries l (drop i rs)) (dropped cs i c a left) ∙ ap (λ l. session_entries (c ∷ drop (i + 1) cs) l) (dropped rs i r b right)
    ∙ entry_in_front (call_of c) (number_of r) r (session_entries (drop (i + 1) cs) (drop (i + 1) rs))

none_left : (cs : List Command) → session_entries cs [] ≡ []
none_left [] = refl
none_left (c ∷ cs) = refl

pub session_end : (cs : List Command) (rs : List Reply) (i : ℕ) → min (length cs) (length rs) ≤ i → session_entries (drop i cs) (drop i rs) ≡ []
session_end cs rs i over = elim (cases_lt i (length cs)) [
  | inl under ↦ ap (λ l. session_entries (drop i cs) l) (drop_all i rs (omega (arith, over, under))) ∙ none_left (drop i cs)
  | inr past ↦ ap (λ l. session_entries l (drop i rs)) (drop_all i cs past)
]

pub entries_at : (ss : List (List Command)) (rr : List (List Reply)) (i : ℕ) (cs : List Command) (rs : List Reply) → i < length ss → i < length rr → cs ≡ get_or ss i cs → rs ≡ get_or rr i rs
    → entries (drop i ss) (drop i rr) ≡ session_entries cs rs ++ entries (drop (i + 1) ss) (drop (i + 1) rr)
entries_at ss rr i cs rs a b left right = ap (λ l. entries l (drop i rr)) (dropped ss i cs a left) ∙ ap (λ l. entries (cs ∷ drop (i + 1) ss) l) (dropped rr i rs b right)

no_more : (ss : List (List Command)) → entries ss [] ≡ []
no_more [] = refl
no_more (cs ∷ ss) = refl

pub entries_end : (ss : List (List Command)) (rr : List (List Reply)) (i : ℕ) → min (length ss) (length rr) ≤ i → entries (drop i ss) (drop i rr) ≡ []
entries_end ss rr i over = elim (cases_lt i (length ss)) [
  | inl under ↦ ap (λ l. entries (drop i ss) l) (drop_all i rr (omega (arith, over, under))) ∙ no_more (drop i ss)
  | inr past ↦ ap (λ l. entries l (drop i rr)) (drop_all i ss past)
]

pub gathered_all : {X : Type 0} (all left total : List X) → left ≡ [] → all ++ left ≡ total → all ≡ total
gathered_all all left total none so_far = sym (append-nil all) ∙ ap (λ xs. all ++ xs) (sym none) ∙ so_far

pub call_there : (o : Option Call) → is_some o ≡ true → o ≡ Some (unwrap_or o undo)
call_there None is = let no = is in cc
call_there (Some call) is = refl
