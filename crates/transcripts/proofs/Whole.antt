-- What reading a document answers.
use Rattle.std.proofs.Common.{◌≡◌, List, ℕ, Option, Some, None, sym, ap, subst, ◌∙◌}
use Rattle.std.proofs.lemmas.Option.{none-some, same_Some}
use Rattle.machine.specs.declared.reply.Transcript.{Transcript}
use Rattle.script.proofs.KeyOrder.{document_in_order}
use Rattle.script.specs.ScriptDocument.{document}
use Rattle.script.specs.TranscriptDocument.{transcript_value}
use Rattle.serde_json.specs.Data.{Data}
use Rattle.transcripts.proofs.Again.{transcript_again}
use Rattle.transcripts.proofs.Sound.{transcript_exact}
use Rattle.transcripts.specs.Exact.{IsOfVersionOne, IsReadOf}
use Rattle.transcripts.specs.Reading.{transcript_of}

pub nothing_read : (bytes : List ℕ) → document bytes ≡ None → IsReadOf bytes None
nothing_read bytes none t one is = none-some (transcript_value t) (sym none ∙ is)

pub none_read : (bytes : List ℕ) (d : Data) → document bytes ≡ Some d → transcript_of d ≡ None → IsReadOf bytes None
none_read bytes d is none t one again =
    let same = same_Some d (transcript_value t) (sym is ∙ again) in
    none-some t (sym none ∙ ap transcript_of same ∙ transcript_again t one)

pub one_read : (bytes : List ℕ) (d : Data) (t : Transcript) → document bytes ≡ Some d → transcript_of d ≡ Some t → IsReadOf bytes (Some t)
one_read bytes d t is read =
    let h = transcript_exact d t (document_in_order bytes d is) read in
    (is ∙ ap Some h.0, h.1)
