-- The parts of the check put together.
use Rattle.std.proofs.Common.{◌≡◌, ℕ, suc, ◌+◌, ◌≤◌, List, [], ◌∷◌, length, map, Bool, Option, Some, None, sym, ◌∙◌, ap, subst, arith, length-append}
use Rattle.std.specs.Prelude.{sum}
use Rattle.std.specs.Bool.{Decides}
use Rattle.std.proofs.lemmas.Bool.Decides.{Decides-like}
use Rattle.std.proofs.lemmas.List.Sums.{sum_by-cons}
use Rattle.points.specs.Text.{text_of}
use Rattle.machine.specs.declared.command.Command.{Command}
use Rattle.machine.specs.declared.command.Script.{Script}
use Rattle.machine.specs.declared.reply.Reply.{Reply}
use Rattle.machine.specs.declared.reply.Transcript.{Transcript}
use Rattle.machine.specs.Machine.{Call, opened}
use Rattle.machine.specs.Answers.{call_of, number_of}
use Rattle.machine.specs.Lawful.{Entry, with_entry, session_entries, entries, state_after, EndAgrees}
use Rattle.machine.specs.FirstFault.{EndIsLawful}

one_more_at_most : (o : Option Call) (n : Option ℕ) (r : Reply) (es : List Entry) → length (with_entry o n r es) ≤ suc (length es)
one_more_at_most None n r es = omega arith
one_more_at_most (Some call) None r es = omega arith
one_more_at_most (Some call) (Some n) r es = omega arith

session_calls : (cs : List Command) (rs : List Reply) → length (session_entries cs rs) ≤ length cs
session_calls [] rs = omega arith
session_calls (c ∷ cs) [] = omega arith
session_calls (c ∷ cs) (r ∷ rs) = omega (arith, one_more_at_most (call_of c) (number_of r) r (session_entries cs rs), session_calls cs rs)

-- there are no more calls than commands
pub few_calls : (sessions : List (List Command)) (replies : List (List Reply)) → length (entries sessions replies) ≤ sum (map length sessions)
few_calls [] rest = omega arith
few_calls (cs ∷ others) [] = omega arith
few_calls (cs ∷ others) (rs ∷ rest) =
    let whole : sum (length cs ∷ map length others) ≡ length cs + sum (map length others) = sum_by-cons (λ n. n) (length cs) (map length others) in
    omega (arith, length-append (session_entries cs rs) (entries others rest), session_calls cs rs, few_calls others rest, whole)

-- the end of a transcript, tested against a text and a number of calls
pub end_decides : (script : Script) (opening : List ℕ) (t : Transcript) (es : List Entry) (n : ℕ) (units : List ℕ) (b : Bool) → es ≡ entries script.sessions t.sessions → n ≡ length es
    → units ≡ (state_after (opened opening) es (length es)).text → Decides b ((t.end.count ≡ n) × (t.end.text ≡ text_of units)) → Decides b (EndIsLawful script opening t)
end_decides script opening t es n units b is long text decides =
    subst (λ xs. Decides b (EndAgrees (opened opening) xs t)) is
    (Decides-like b
    (λ p. record { count = p.0 ∙ long; text = p.1 ∙ ap text_of text })
    (λ e. (e.count ∙ sym long, e.text ∙ sym (ap text_of text))) decides)
