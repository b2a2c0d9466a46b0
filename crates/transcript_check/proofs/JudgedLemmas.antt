-- What the check of a transcript has found when it comes to the takes.
use Rattle.std.proofs.Common.{◌≡◌, ℕ, ◌+◌, List, length, map, Bool, sym, ◌∙◌, ap, subst}
use Rattle.std.specs.Prelude.{Option}
use Rattle.machine.specs.declared.command.Command.{Command}
use Rattle.machine.specs.declared.command.Script.{Script}
use Rattle.machine.specs.declared.reply.Reply.{Reply}
use Rattle.machine.specs.declared.reply.Transcript.{Transcript}
use Rattle.machine.specs.Machine.{State, opened}
use Rattle.machine.specs.Answers.{Matches}
use Rattle.machine.specs.Lawful.{Entry, entries, all_takings, HasForm, CallsAgree}
use Rattle.snapshot_check.specs.Takes.{Spot, placed}
use Rattle.snapshot_check.specs.Gathered.{AreAllTakes}
use Rattle.transcript_check.specs.Found.{IsPassed}

-- the form is right and the calls agree, the pass over them is done, and these are the takes
pub record IsReady (script : Script) (opening : List ℕ) (told : List (Option Matches)) (t : Transcript) (es : List Entry) (spots : List Spot) (vs : List ℕ) (right : List Bool) : Type 0 where
  pub form : HasForm script t
  pub is : es ≡ entries script.sessions t.sessions
  pub agree : CallsAgree script.version (opened opening) es
  pub passed : IsPassed (opened opening) es told spots (length es + 1) vs right
  pub listed : all_takings told 1 script.sessions t.sessions ≡ map (placed told) spots

passed_as : (s u : State) (es : List Entry) (told : List (Option Matches)) (n : ℕ) (spots shown : List Spot) (vs versions : List ℕ) (right marks : List Bool) → s ≡ u → shown ≡ spots → versions ≡ vs → marks ≡ right
    → IsPassed s es told spots n vs right → IsPassed u es told shown n versions marks
passed_as s u es told n spots shown vs versions right marks a b c d p =
    subst (λ (x : State). IsPassed x es told shown n versions marks) a
    (subst (λ (x : List Spot). IsPassed s es told x n versions marks) (sym b)
    (subst (λ (x : List ℕ). IsPassed s es told spots n x marks) (sym c)
    (subst (λ (x : List Bool). IsPassed s es told spots n vs x) (sym d) p)))

listed_as : (script : Script) (t : Transcript) (told : List (Option Matches)) (all : ℕ) (ss : List (List Command)) (rr : List (List Reply)) (spots shown : List Spot) → ss ≡ script.sessions → rr ≡ t.sessions
    → AreAllTakes all ss rr spots → length told ≡ all → shown ≡ spots → all_takings told 1 script.sessions t.sessions ≡ map (placed told) shown
listed_as script t told all ss rr spots shown of_script of_replies are long same =
    sym (ap (λ (x : List (List Command)). all_takings told 1 x t.sessions) of_script) ∙ (sym (ap (λ (x : List (List Reply)). all_takings told 1 ss x) of_replies)
    ∙ (sym (are told long) ∙ sym (ap (map (placed told)) same)))

pub ready : (script : Script) (opening : List ℕ) (told : List (Option Matches)) (t : Transcript) (es : List Entry) (s : State) (spots shown : List Spot) (vs versions : List ℕ) (right marks : List Bool) (all : ℕ) (ss : List (List Command)) (rr : List (List Reply))
    → HasForm script t → es ≡ entries script.sessions t.sessions → s ≡ opened opening → CallsAgree script.version s es → IsPassed s es told spots (length es + 1) vs right → shown ≡ spots → versions ≡ vs → marks ≡ right
    → ss ≡ script.sessions → rr ≡ t.sessions → AreAllTakes all ss rr spots → length told ≡ all → IsReady script opening told t es shown versions marks
ready script opening told t es s spots shown vs versions right marks all ss rr form is start agree passed same_takes same_versions same_marks of_script of_replies are long = record {
  form = form;
  is = is;
  agree = subst (λ (x : State). CallsAgree script.version x es) start agree;
  passed = passed_as s (opened opening) es told (length es + 1) spots shown vs versions right marks start same_takes same_versions same_marks passed;
  listed = listed_as script t told all ss rr spots shown of_script of_replies are long same_takes;
}
