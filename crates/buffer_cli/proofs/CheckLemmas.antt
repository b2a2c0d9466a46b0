-- What a check found, by what its parts found.
use Rattle.std.proofs.Common.{◌≡◌, ◌⊎◌, inl, inr, ℕ, ◌+◌, ◌<◌, ◌≤◌, ◌^◌, List, [], ◌∷◌, ◌++◌, length, map, length-append, Option, Some, None, Result, Ok, Err, refl, sym, subst, ap, ◌∙◌, arith, rules, true, false}
use Rattle.std.specs.Prelude.{Vec, sum, sum_by, IfSome, IfOk, IfErr, IsErrAnd, IsOk, unwrap_or, IsSome}
use Rattle.std.specs.declared.alloc.Global.{Global}
use Rattle.std.specs.List.{AllByRecursion}
use Rattle.std.proofs.Math.ListN.{length-map}
use Rattle.std.proofs.lemmas.List.Sums.{sum_by-cons}
use Rattle.std.proofs.lemmas.Option.{none-some, same_Some}
use Rattle.points.specs.Text.{utf16_of}
use Rattle.points.specs.declared.limits.TheConstants.{MAX_UNITS}
use Rattle.outer.specs.Count.{Rose}
use Rattle.outer.specs.Folder.{Files, bytes_of, KeepsOthers, KeepsAll}
use Rattle.outer.specs.Sink.{Appends, AppendsPrefix}
use Rattle.outer.proofs.Counts.{Rose-after}
use Rattle.outer.proofs.Kept.{KeepsAll-then, KeepsOthers-all, KeepsOthers-then}
use Rattle.machine.specs.declared.command.Command.{Command}
use Rattle.machine.specs.declared.command.Opening.{Opening}
use Rattle.machine.specs.declared.command.Opening.TheVariants as opening
use Rattle.machine.specs.declared.command.Script.{Script}
use Rattle.machine.specs.declared.reads.Encoding.{Encoding}
use Rattle.machine.specs.declared.reply.Transcript.{Transcript}
use Rattle.machine.specs.declared.verdict.Place.TheVariants as place
use Rattle.machine.specs.declared.verdict.Verdict.{Verdict}
use Rattle.machine.specs.declared.verdict.Verdict.TheVariants as verdict
use Rattle.machine.specs.Answers.{Matches}
use Rattle.machine.specs.FirstFault.{IsVerdict}
use Rattle.machine.specs.Lawful.{patterns_of}
use Rattle.codecs.specs.Decoding.{decoded}
use Rattle.script.specs.declared.refusal.ScriptRule.{ScriptRule}
use Rattle.script.specs.declared.limits.TheConstants.{MAX_COMMANDS}
use Rattle.script.specs.Limits.{IsWithinLimits}
use Rattle.script.specs.ScriptDocument.{script_in, script_place}
use Rattle.transcripts.specs.Exact.{IsReadOf}
use Rattle.transcript_check.specs.Found.{IsFound, AreAllTold}
use Rattle.buffer_cli.specs.Input.{max_input}
use Rattle.buffer_cli.specs.declared.input.InputFault.{InputFault}
use Rattle.buffer_cli.specs.declared.input.InputFault.TheVariants as fault
use Rattle.buffer_cli.specs.Load.{opened_with, IsFileOf, IsFile, IsLongFile, IsLongText, IsLoaded, IsFetched, Loads, OpensFile}
use Rattle.buffer_cli.specs.declared.load.Unloaded.{Unloaded}
use Rattle.buffer_cli.specs.declared.load.Unloaded.TheVariants as unloaded
use Rattle.buffer_cli.specs.Patterns.{told_hits, script_patterns, session_patterns, IsPatternAt}
use Rattle.buffer_cli.specs.Run.{IsPatternRefused, IsFileTooLong, IsTextTooLong, refuses_pattern}
use Rattle.buffer_cli.specs.Check.{verdict_text, status_of_verdict, is_verdict, Judges, IsJudged, IsFinding, IsVerdictOf, IsVerdictOn, HasBytes, IsOpenedBy, IsUnread, IsTooLong, IsStop, IsFetchStop, AreRead, IsRefusal, IsRunStop, of_script, of_input, of_file, Checking, Writes, IsChecked, IsStopped, Checks, IsFitFile, IsFitOpening, IsFit}
use Rattle.buffer_cli.specs.declared.check.Documents.{Documents}
use Rattle.buffer_cli.specs.declared.status.Status.{Status}
use Rattle.buffer_cli.specs.declared.status.Status.TheVariants as status
use Rattle.buffer_cli.proofs.Expected.{unbroken}
use Rattle.buffer_cli.proofs.PatternLemmas.{script_is, session_many}

-- ---- what the folder told before a call that leaves every name, it tells behind it

module _ (name : List ℕ) where
  pub file_still : (before after : Option Files) (bytes : List ℕ) → KeepsAll before after → IsFileOf name before bytes → IsFileOf name after bytes
  file_still before None bytes keeps is = (is.0, tt)
  file_still None (Some files) bytes keeps is = absurd keeps
  file_still (Some had) (Some files) bytes keeps is = (is.0, ap (λ (o : Option (List ℕ)). unwrap_or o []) (keeps name) ∙ is.1)

  long_front : (before after : Option Files) (file : List ℕ) → KeepsAll before after → IfSome before (λ files. (rest : List ℕ) × (bytes_of files name ≡ file ++ rest)) → IfSome after (λ files. (rest : List ℕ) × (bytes_of files name ≡ file ++ rest))
  long_front before None file keeps front = tt
  long_front None (Some files) file keeps front = absurd keeps
  long_front (Some had) (Some files) file keeps front = (front.0, ap (λ (o : Option (List ℕ)). unwrap_or o []) (keeps name) ∙ front.1)

  pub long_still : (before after : Option Files) → KeepsAll before after → IsLongFile name before → IsLongFile name after
  long_still before after keeps long = record { file = long.file; over = long.over; front = long_front before after long.file keeps long.front }

  pub text_still : (encoding : Encoding) (before after : Option Files) → KeepsAll before after → IsLongText name encoding before → IsLongText name encoding after
  text_still encoding before after keeps long = record { file = long.file; is = file_still before after long.file keeps long.is; over = long.over }

pub opening_still : (o : Opening) (before after : Option Files) (file : List ℕ) → KeepsAll before after → IsFile o before file → IsFile o after file
opening_still (opening.Text text) before after file keeps is = is
opening_still (opening.File name encoding) before after file keeps is = file_still name before after file keeps is

-- ---- the two files

module _ (script transcript : List ℕ) where
  pub unfetched_script : (files after : Option Files) (f : InputFault) → IsFetched script files after (Err f) → IsFetchStop script transcript files after (of_input f)
  unfetched_script files after fault.Failed h = (script, inl refl, h)
  unfetched_script files after fault.TooLong h = (inl (long_still script files after h.1 h.0), h.1)
  unfetched_script files after fault.NoMemory h = h

  pub unfetched_transcript : (files between after : Option Files) (v : Vec ℕ Global) (f : InputFault) → IsFetched script files between (Ok v) → IsFetched transcript between after (Err f) → IsFetchStop script transcript files after (of_input f)
  unfetched_transcript files between after v fault.Failed one h = (transcript, inr refl, KeepsOthers-then transcript files between after (KeepsOthers-all transcript files between one.1) h)
  unfetched_transcript files between after v fault.TooLong one h = (inr (long_still transcript between after h.1 h.0), KeepsAll-then files between after one.1 h.1)
  unfetched_transcript files between after v fault.NoMemory one h = KeepsAll-then files between after one.1 h

  pub unfetched_in : (files after : Option Files) (r : Result Documents Status) (s : Status) → IsErrAnd r (λ e. e ≡ s) → IsFetchStop script transcript files after s → AreRead script transcript files after r
  unfetched_in files after (Ok d) s is h = absurd is
  unfetched_in files after (Err e) s is h = subst (IsFetchStop script transcript files after) (sym is) h

  pub both_fetched : (files between after : Option Files) (v w : Vec ℕ Global) → IsFetched script files between (Ok v) → IsFetched transcript between after (Ok w) → AreRead script transcript files after (Ok (record { script = v; transcript = w }))
  both_fetched files between after v w one two = (one.0, file_still transcript between after w.items two.1 two.0, KeepsAll-then files between after one.1 two.1)

pub load_failed : (f : InputFault) → of_input f ≡ status.LoadFault → f ≡ fault.Failed
load_failed fault.Failed is = refl
load_failed fault.TooLong is = absurd cc
load_failed fault.NoMemory is = absurd cc

pub no_pattern : (f : InputFault) → refuses_pattern (of_input f) ≡ false
no_pattern fault.Failed = refl
no_pattern fault.TooLong = refl
no_pattern fault.NoMemory = refl

-- ---- the verdict on both documents

module _ (tells : List ℕ → Option Matches) (files after : Option Files) (keeps : KeepsAll files after) where
  finding_still : (script : Script) (t : Option Transcript) (v : Verdict) → IsFinding tells files script t v → IsFinding tells after script t v
  finding_still script None v h = h
  finding_still script (Some t) v h = record { file = h.file; opens = opening_still script.opening files after h.file keeps h.opens; short = h.short; judged = h.judged }

  pub verdict_still : (script_bytes bytes : List ℕ) (v : Verdict) → IsVerdictOf tells files script_bytes bytes v → IsVerdictOf tells after script_bytes bytes v
  verdict_still script_bytes bytes v h = record { script = h.script; is_script = h.is_script; transcript = h.transcript; is_transcript = h.is_transcript; finding = finding_still h.script h.transcript v h.finding }

-- the verdict of documents that were read from these files
module _ (script transcript : List ℕ) (files between after : Option Files) (d : Documents) (read : AreRead script transcript files between (Ok d)) where
  still_script : KeepsAll between after → IsFileOf script after d.script.items
  still_script keeps = file_still script files after d.script.items (KeepsAll-then files between after read.2 keeps) read.0

  script_has : KeepsAll between after → (Holds : List ℕ → Type 0) → Holds d.script.items → HasBytes script after Holds
  script_has keeps Holds h = record { bytes = d.script.items; is = still_script keeps; holds = h }

  pub judged_on : (tells : List ℕ → Option Matches) (r : Result Verdict Status) → IfOk r (IsVerdictOf tells between d.script.items d.transcript.items) → (IsOk r → KeepsAll between after) → IfOk r (IsVerdictOn tells script transcript after)
  judged_on tells (Err s) h keeps = tt
  judged_on tells (Ok v) h keeps = record {
    script_bytes = d.script.items;
    script_file = still_script (keeps refl);
    bytes = d.transcript.items;
    transcript_file = file_still transcript between after d.transcript.items (keeps refl) read.1;
    verdict = verdict_still tells between after (keeps refl) d.script.items d.transcript.items v h;
  }

  pub judged_kept : (r : Result Verdict Status) → (IsOk r → KeepsAll between after) → IsOk r → KeepsAll files after
  judged_kept r keeps ok = KeepsAll-then files between after read.2 (keeps ok)

  stopped_by : (last : Option (List ℕ)) (s : Status) → IsRefusal d.script.items last between after s → IsStop script transcript last files after s
  stopped_by last (status.ScriptRefused session command why) h = (script_has h.1 _ h.0, KeepsAll-then files between after read.2 h.1)
  stopped_by last (status.PatternRefused session command) h = (script_has h.1 _ h.0, KeepsAll-then files between after read.2 h.1)
  stopped_by last status.LoadFault h = record {
    name = h.0;
    asked = inr (inr (record { bytes = d.script.items; is = read.0; holds = h.1 }));
    others = KeepsOthers-then h.0 files between after (KeepsOthers-all h.0 files between read.2) h.2;
  }
  stopped_by last status.InputTooLong h =
      let long = h.0 in
      (inr (inr (script_has h.1 (λ bytes. IsFileTooLong bytes after) (record { name = long.name; encoding = long.encoding; opens = long.opens; long = long_still long.name between after h.1 long.long }))), KeepsAll-then files between after read.2 h.1)
  stopped_by last status.TextTooLong h =
      let long = h.0 in
      (script_has h.1 (λ bytes. IsTextTooLong bytes after) (record { name = long.name; encoding = long.encoding; opens = long.opens; long = text_still long.name long.encoding between after h.1 long.long }), KeepsAll-then files between after read.2 h.1)
  stopped_by last status.NoMemory h = KeepsAll-then files between after read.2 h
  stopped_by last _ h = absurd h

  pub refused_on : (last : Option (List ℕ)) (r : Result Verdict Status) → IfErr r (IsRefusal d.script.items last between after) → IfErr r (IsStop script transcript last files after)
  refused_on last (Ok v) h = tt
  refused_on last (Err s) h = stopped_by last s h

-- no documents were read
asked_of : (script transcript name : List ℕ) (files : Option Files) → (name ≡ script) ⊎ (name ≡ transcript) → (name ≡ script) ⊎ ((name ≡ transcript) ⊎ HasBytes script files (IsOpenedBy name))
asked_of script transcript name files (inl is) = inl is
asked_of script transcript name files (inr is) = inr (inl is)

long_of : (script transcript : List ℕ) (files : Option Files) → IsLongFile script files ⊎ IsLongFile transcript files → IsTooLong script transcript files
long_of script transcript files (inl long) = inl long
long_of script transcript files (inr long) = inr (inl long)

pub unread : (script transcript : List ℕ) (last : Option (List ℕ)) (files after : Option Files) (s : Status) → IsFetchStop script transcript files after s → IsStop script transcript last files after s
unread script transcript last files after status.LoadFault h = record { name = h.0; asked = asked_of script transcript h.0 files h.1; others = h.2 }
unread script transcript last files after status.InputTooLong h = (long_of script transcript after h.0, h.1)
unread script transcript last files after status.NoMemory h = h
unread script transcript last files after _ h = absurd h

-- ---- the check over a text

few : (script : Script) (cs : List Command) → script.sessions ≡ cs ∷ [] → IsWithinLimits script → length cs ≤ MAX_COMMANDS
few script cs one limits = (subst (AllByRecursion (λ c. length c ≤ MAX_COMMANDS)) one limits.commands).0

pub few_sessions : (script : Script) (cs : List Command) → script.sessions ≡ cs ∷ [] → length script.sessions < 2 ^ 32
few_sessions script cs one = rw one (omega arith)

pub few_commands : (script : Script) (cs : List Command) → script.sessions ≡ cs ∷ [] → IsWithinLimits script → sum (map length script.sessions) < 2 ^ 32
few_commands script cs one limits = let small = few script cs one limits in rw one (omega (arith, small))

-- as many hits are told as there are patterns
all_of : (tells : List ℕ → Option Matches) (script : Script) (cs : List Command) (made : List (Option Matches)) → script.sessions ≡ cs ∷ [] → made ≡ map tells (session_patterns cs) → sum_by patterns_of script.sessions ≤ length made
all_of tells script cs made one is =
    let counted : sum_by patterns_of script.sessions ≡ sum_by patterns_of (cs ∷ []) = ap (sum_by patterns_of) one in
    let long : length made ≡ length (session_patterns cs) = ap length is ∙ length-map (session_patterns cs) tells in
    omega (arith, counted, long, session_many cs, sum_by-cons patterns_of cs [])

pub judges_by : (tells : List ℕ → Option Matches) (script : Script) (cs : List Command) (opening : List ℕ) (t : Transcript) (v : Verdict) (made : List (Option Matches)) → script.sessions ≡ cs ∷ [] → made ≡ map tells (session_patterns cs)
    → IsFound script opening made t v → (AreAllTold script made → IsVerdict script opening made t v) → Judges (told_hits tells script) opening script t v
judges_by tells script cs opening t v made one is found told =
    let same : made ≡ told_hits tells script = is ∙ ap (map tells) (sym (script_is script cs one)) in
    let every : AllByRecursion (λ m. IsSome m) (told_hits tells script) → AreAllTold script made = λ each. record {
      all = all_of tells script cs made one is;
      each = subst (AllByRecursion (λ m. IsSome m)) (sym same) each;
    } in
    (subst (λ (ms : List (Option Matches)). IsFound script opening ms t v) same found, λ each. subst (λ (ms : List (Option Matches)). IsVerdict script opening ms t v) same (told (every each)))

-- ---- both documents were read

module _ (tells : List ℕ → Option Matches) (files : Option Files) (script_bytes bytes : List ℕ) (script : Script) (is_script : script_in script_bytes ≡ Some script) where
  pub no_transcript : IsReadOf bytes None → IsVerdictOf tells files script_bytes bytes (verdict.Unlawful place.Form)
  no_transcript none = record { script = script; is_script = is_script; transcript = None; is_transcript = none; finding = refl }

  pub judged_text : (t : Transcript) (text : List ℕ) (v : Verdict) → IsReadOf bytes (Some t) → script.opening ≡ opening.Text text → length (utf16_of text) ≤ MAX_UNITS
      → Judges (told_hits tells script) (utf16_of text) script t v → IsVerdictOf tells files script_bytes bytes v
  judged_text t text v is opens short judged = record {
    script = script;
    is_script = is_script;
    transcript = Some t;
    is_transcript = is;
    finding = record {
      file = [];
      opens = subst (λ (o : Opening). IsFile o files []) (sym opens) refl;
      short = subst (λ (o : Opening). length (opened_with o []) ≤ MAX_UNITS) (sym opens) short;
      judged = subst (λ (o : Opening). Judges (told_hits tells script) (opened_with o []) script t v) (sym opens) judged;
    };
  }

  pub judged_file : (t : Transcript) (name : List ℕ) (encoding : Encoding) (units : List ℕ) (v : Verdict) → IsReadOf bytes (Some t) → script.opening ≡ opening.File name encoding → IsLoaded name encoding files units
      → Judges (told_hits tells script) units script t v → IsVerdictOf tells files script_bytes bytes v
  judged_file t name encoding units v is opens loaded judged = record {
    script = script;
    is_script = is_script;
    transcript = Some t;
    is_transcript = is;
    finding = record {
      file = loaded.file;
      opens = subst (λ (o : Opening). IsFile o files loaded.file) (sym opens) loaded.is;
      short = subst (λ (o : Opening). length (opened_with o loaded.file) ≤ MAX_UNITS) (sym opens) (subst (λ (us : List ℕ). length us ≤ MAX_UNITS) loaded.read loaded.short);
      judged = subst (λ (o : Opening). Judges (told_hits tells script) (opened_with o loaded.file) script t v) (sym opens) (subst (λ (us : List ℕ). Judges (told_hits tells script) us script t v) loaded.read judged);
    };
  }

  -- its file wasn't loaded
  pub unloaded_by : (last : Option (List ℕ)) (after : Option Files) (name : List ℕ) (encoding : Encoding) (f : Unloaded) → script.opening ≡ opening.File name encoding → Loads name encoding files after (Err f) → IsRefusal script_bytes last files after (of_file f)
  unloaded_by last after name encoding unloaded.Failed opens h = (name, (encoding, record { script = script; read = is_script; opens = opens }), h)
  unloaded_by last after name encoding unloaded.TooLong opens h = (record { name = name; encoding = encoding; opens = record { script = script; read = is_script; opens = opens }; long = h.0 }, h.1)
  unloaded_by last after name encoding unloaded.TextTooLong opens h = (record { name = name; encoding = encoding; opens = record { script = script; read = is_script; opens = opens }; long = h.0 }, h.1)
  unloaded_by last after name encoding unloaded.NoMemory opens h = h

  -- its patterns weren't made
  pub unmade_by : (last : Option (List ℕ)) (after : Option Files) (s : Status) → KeepsAll files after → IsRunStop script last s → IsRefusal script_bytes last files after s
  unmade_by last after (status.PatternRefused session command) keeps at = (record { script = script; read = is_script; at = at }, keeps)
  unmade_by last after status.NoMemory keeps at = keeps
  unmade_by last after _ keeps at = absurd at

  pub unmade_in : (last : Option (List ℕ)) (after : Option Files) (r : Result Verdict Status) → KeepsAll files after → IfErr r (IsRunStop script last) → IfErr r (IsRefusal script_bytes last files after)
  unmade_in last after (Ok v) keeps at = tt
  unmade_in last after (Err s) keeps at = unmade_by last after s keeps at

-- ---- the whole check

wrote_whole : (o : Checking) (v : Verdict) → IsChecked v o → Appends (verdict_text v) o.before o.after → Checks (status_of_verdict v) o
wrote_whole o verdict.Lawful checked wrote = (checked, wrote)
wrote_whole o (verdict.Unlawful where_) checked wrote = (checked, wrote)

pub wrote : (o : Checking) (v : Verdict) (s : Status) → IsChecked v o → Writes s v o.before o.after → Checks s o
wrote o v status.WriteFault checked h = (v, checked, h)
wrote o v status.NoMemory checked h = (checked.1, h)
wrote o v _ checked h = subst (λ (s : Status). Checks s o) (sym h.0) (wrote_whole o v checked h.1)

pub stopped : (o : Checking) (s : Status) → IsStop o.script o.transcript o.last o.files o.files_after s → o.after ≡ o.before → Checks s o
stopped o status.Done stop same = absurd stop
stopped o (status.Unlawful where_) stop same = absurd stop
stopped o status.WriteFault stop same = absurd stop
stopped o _ stop same = (stop, same)

-- a status that stops the check is none of writing
pub stop_is_unwritten : (script transcript : List ℕ) (last : Option (List ℕ)) (files after : Option Files) (s : Status) → IsStop script transcript last files after s → s ≡ status.WriteFault → ⊥
stop_is_unwritten script transcript last files after status.WriteFault stop is = stop
stop_is_unwritten script transcript last files after _ stop is = absurd cc

-- ---- files that ask for a verdict

module _ (files : Files) (script transcript : List ℕ) (fit : IsFit files script transcript) where
  not_long : (name : List ℕ) → length (bytes_of files name) ≤ max_input → IsLongFile name (Some files) → ⊥
  not_long name short long = omega (arith, short, long.over, ap length long.front.1, length-append long.file long.front.0)

  -- the file that the script opens
  opened_fits : (bytes name : List ℕ) (encoding : Encoding) → bytes_of files script ≡ bytes → OpensFile bytes name encoding → IsFitFile (bytes_of files name) encoding
  opened_fits bytes name encoding is opens =
      let same : fit.of ≡ opens.script = same_Some _ _ (sym fit.is_script ∙ (ap script_in is ∙ opens.read)) in
      subst (IsFitOpening files) (ap (λ (s : Script). s.opening) same ∙ opens.opens) fit.opening

  not_refused : (session command : ℕ) (why : ScriptRule) → HasBytes script (Some files) (λ bytes. script_place bytes ≡ Some (session, command, why)) → ⊥
  not_refused session command why has =
      let none : script_place has.bytes ≡ None = ap script_place (sym has.is.1) ∙ unbroken (bytes_of files script) fit.of fit.is_script in
      none-some _ (sym none ∙ has.holds)

  not_too_long : IsTooLong script transcript (Some files) → ⊥
  not_too_long (inl long) = not_long script fit.script_short long
  not_too_long (inr (inl long)) = not_long transcript fit.transcript_short long
  not_too_long (inr (inr has)) = let long = has.holds in not_long long.name (opened_fits has.bytes long.name long.encoding has.is.1 long.opens).0 long.long

  not_text : HasBytes script (Some files) (λ bytes. IsTextTooLong bytes (Some files)) → ⊥
  not_text has =
      let long = has.holds in
      let fits = (opened_fits has.bytes long.name long.encoding has.is.1 long.opens).1 in
      let same : length (decoded long.encoding (bytes_of files long.name)) ≡ length (decoded long.encoding long.long.file) = ap (λ (b : List ℕ). length (decoded long.encoding b)) long.long.is.1 in
      omega (arith, fits, same, long.long.over)

  verdict_by : (last : Option (List ℕ)) (before : Option Files) (s : Status) → IsStop script transcript last before (Some files) s → (s ≡ status.LoadFault → ⊥) → (refuses_pattern s ≡ true → ⊥) → s ≡ status.NoMemory
  verdict_by last before (status.ScriptRefused session command why) stop load pattern = absurd (not_refused session command why stop.0)
  verdict_by last before (status.PatternRefused session command) stop load pattern = absurd (pattern refl)
  verdict_by last before status.LoadFault stop load pattern = absurd (load refl)
  verdict_by last before status.InputTooLong stop load pattern = absurd (not_too_long stop.0)
  verdict_by last before status.TextTooLong stop load pattern = absurd (not_text stop.0)
  verdict_by last before status.NoMemory stop load pattern = refl
  verdict_by last before _ stop load pattern = absurd stop

module _ (o : Checking) (write_rose load_rose pattern_rose : Type 0) where
  abbrev IsComplete : Status → Files → Type 0
  IsComplete s files = IsFit files o.script o.transcript → ¬ write_rose → ¬ load_rose → ¬ pattern_rose → (is_verdict s ≡ true) ⊎ (s ≡ status.NoMemory)

  complete_at : (s : Status) (files : Files) → o.files_after ≡ Some files → Checks s o → (s ≡ status.WriteFault → write_rose) → (s ≡ status.LoadFault → load_rose) → (refuses_pattern s ≡ true → pattern_rose) → IsComplete s files
  complete_at status.Done files told checks write load pattern = λ fit w l p. inl refl
  complete_at (status.Unlawful where_) files told checks write load pattern = λ fit w l p. inl refl
  complete_at status.WriteFault files told checks write load pattern = λ fit w l p. absurd (w (write refl))
  complete_at s files told checks write load pattern = λ fit w l p.
      inr (verdict_by files o.script o.transcript fit o.last o.files s (subst (λ (t : Option Files). IsStop o.script o.transcript o.last o.files t s) told checks.0) (λ is. l (load is)) (λ is. p (pattern is)))

  complete_told : (s : Status) (told : Option Files) → o.files_after ≡ told → Checks s o → (s ≡ status.WriteFault → write_rose) → (s ≡ status.LoadFault → load_rose) → (refuses_pattern s ≡ true → pattern_rose) → IfSome told (IsComplete s)
  complete_told s None told checks write load pattern = tt
  complete_told s (Some files) told checks write load pattern = complete_at s files told checks write load pattern

  pub check_complete : (s : Status) → Checks s o → (s ≡ status.WriteFault → write_rose) → (s ≡ status.LoadFault → load_rose) → (refuses_pattern s ≡ true → pattern_rose) → IfSome o.files_after (IsComplete s)
  check_complete s checks write load pattern = complete_told s o.files_after refl checks write load pattern

  -- so of the words that name the two files
  pub complete_of : (names : Option (List ℕ × List ℕ)) → names ≡ Some (o.script, o.transcript) → (s : Status) → Checks s o → (s ≡ status.WriteFault → write_rose) → (s ≡ status.LoadFault → load_rose) → (refuses_pattern s ≡ true → pattern_rose)
      → IfSome names (λ n. IfSome o.files_after (λ files. IsFit files n.0 n.1 → ¬ write_rose → ¬ load_rose → ¬ pattern_rose → (is_verdict s ≡ true) ⊎ (s ≡ status.NoMemory)))
  complete_of names is s checks write load pattern = rw is (check_complete s checks write load pattern)
