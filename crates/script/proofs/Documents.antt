-- Which bytes are a document, and how it is refused.
use Rattle.std.proofs.Common.{◌≡◌, ℕ, List, Bool, true, false, Option, Some, None, is_some, cond, Result, Ok, Err, refl}
use Rattle.std.specs.Prelude.{IfOk, IfErr}
use Rattle.std.specs.Str.{IsUtf8, is_utf8}
use Rattle.std.proofs.lemmas.Option.{none-some}
use Rattle.std.proofs.lemmas.Str.{is_utf8-from_IsUtf8, IsUtf8-from_is_utf8}
use Rattle.machine.specs.declared.command.Script.{Script}
use Rattle.script.specs.declared.refusal.ScriptRefusal.{ScriptRefusal}
use Rattle.script.specs.declared.refusal.ScriptRefusal.TheVariants.{Refused}
use Rattle.script.specs.declared.refusal.ScriptRule.TheVariants.{NotJson}
use Rattle.script.specs.Limits.{IsWithinLimits}
use Rattle.script.specs.Rules.{Fault, built_place}
use Rattle.script.specs.ScriptDocument.{reading, script_of, document, script_in, script_place, IsRefusalAt}
use Rattle.script.proofs.KeyOrder.{document_in_order}
use Rattle.script.proofs.RuleLemmas.{read_within}
use Rattle.serde_json.specs.Data.{Data}
use Rattle.serde_json.specs.Read.{read}

-- the value of bytes that are UTF-8
pub document_is : (bytes : List ℕ) (d : Option Data) → IsUtf8 bytes → read bytes ≡ d → document bytes ≡ d
unfolding document
document_is bytes d utf8 e = rw (is_utf8-from_IsUtf8 bytes utf8) e

unless_utf8 : (bytes : List ℕ) (b : Bool) → is_utf8 bytes ≡ b → (IsUtf8 bytes → read bytes ≡ None) → cond b (read bytes) None ≡ None
unless_utf8 bytes true is h = h (IsUtf8-from_is_utf8 bytes is)
unless_utf8 bytes false is h = refl

-- bytes that hold no value
pub no_document : (bytes : List ℕ) → (IsUtf8 bytes → read bytes ≡ None) → document bytes ≡ None
unfolding document
no_document bytes h = unless_utf8 bytes (is_utf8 bytes) refl h

-- what was read
pub script_read : (bytes : List ℕ) (d : Data) (r : Result Script ScriptRefusal) → document bytes ≡ Some d → IfOk r (λ s. script_of d ≡ Some s) → IfOk r (λ s. script_in bytes ≡ Some s)
script_read bytes d (Ok s) is e = rw is e
script_read bytes d (Err refusal) is e = tt

pub limits_kept : (bytes : List ℕ) (d : Data) (r : Result Script ScriptRefusal) → document bytes ≡ Some d → IfOk r (λ s. script_of d ≡ Some s) → IfOk r (λ s. IsWithinLimits s)
limits_kept bytes d (Ok s) is e = read_within d s (document_in_order bytes d is) e
limits_kept bytes d (Err refusal) is e = tt

no_place : (o : Option Fault) (p : Option Script) (s : Script) → cond (is_some o) None p ≡ Some s → o ≡ None
no_place None p s e = refl
no_place (Some x) p s e = absurd (none-some s e)

place_kept : (d : Data) (s : Script) → script_of d ≡ Some s → built_place d ≡ None
unfolding script_of
place_kept d s e = no_place (built_place d) (reading d) s e

pub script_kept : (bytes : List ℕ) (d : Data) (r : Result Script ScriptRefusal) → document bytes ≡ Some d → IfOk r (λ s. script_of d ≡ Some s) → IfOk r (λ s. script_place bytes ≡ None)
script_kept bytes d (Ok s) is e = rw is (place_kept d s e)
script_kept bytes d (Err refusal) is e = tt

-- the refusals
pub not_json : (bytes : List ℕ) (r : ScriptRefusal) → document bytes ≡ None → r ≡ Refused 0 0 NotJson → IsRefusalAt (script_place bytes) r
not_json bytes r none is = rw (is, none) refl

pub refused_at : (bytes : List ℕ) (d : Data) (r : Result Script ScriptRefusal) → document bytes ≡ Some d → IfErr r (IsRefusalAt (built_place d)) → IfErr r (IsRefusalAt (script_place bytes))
refused_at bytes d (Ok s) is h = tt
refused_at bytes d (Err refusal) is h = rw is h
