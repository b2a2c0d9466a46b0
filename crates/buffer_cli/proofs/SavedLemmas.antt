-- Saves, taken by sinks in turn and kept in a folder.
use Rattle.std.proofs.Common.{◌≡◌, ◌⊎◌, inl, inr, ℕ, suc, ◌+◌, ◌<◌, ◌≤◌, List, [], ◌∷◌, ◌++◌, length, length-append, map, take, drop, get_or, Bool, true, false, Option, Some, None, refl, sym, subst, ap, ap₂, ◌∙◌, arith, append_assoc, append-nil, ◌||◌, ◌&&◌, not}
use Rattle.std.specs.Prelude.{◌==◌, nat_lt, IfSome, OnOk, Result, Ok, Err}
use Rattle.std.specs.List.{AllByRecursion, list_any}
use Rattle.std.specs.Str.{bytes_eq}
use Rattle.std.proofs.Math.ListN.{drop_of_length-le}
use Rattle.std.proofs.lemmas.Bool.{false≢true}
use Rattle.std.proofs.lemmas.Bool.Decides.{nat_tests}
use Rattle.std.proofs.lemmas.Slice.Eq.{bytes_eq-Decides}
use Rattle.std.proofs.lemmas.List.Folds.{list_any-append}
use Rattle.outer.specs.Count.{Rose, LAST_COUNT}
use Rattle.outer.specs.Folder.{Files, Holds}
use Rattle.outer.specs.Sink.{Appends}
use Rattle.drafts.specs.Drafts.{are_apart, HoldEach, IsFresh, KeepsBut, has_faulty}
use Rattle.machine.specs.declared.command.Command.{Command}
use Rattle.machine.specs.declared.command.Command.TheVariants as command
use Rattle.machine.specs.declared.command.Script.{Script}
use Rattle.machine.specs.declared.reads.Read.{Read}
use Rattle.machine.specs.declared.reads.Read.TheVariants as read
use Rattle.machine.specs.Answers.{call_of}
use Rattle.machine.specs.Lawful.{reads_in}
use Rattle.machine.specs.Machine.{State, opened}
use Rattle.machine.specs.Plain.{Kept, after_call}
use Rattle.script.specs.Limits.{names_among, saved_names, IsWithinLimits}
use Rattle.script.specs.Rules.{is_again, is_among}
use Rattle.buffer_cli.specs.Answered.{held_after}
use Rattle.buffer_cli.specs.Saved.{file_in, files_among, text_read, saved_files, names_saved, IsPut, TakeInTurn, HoldFiles}
use Rattle.buffer_cli.proofs.RunLemmas.{rest_at}

-- ---- in turn

-- some saves, and then some
pub turn-append : (xs ys : List (List ℕ)) (a b c : List (Option (List ℕ))) → TakeInTurn xs a b → TakeInTurn ys b c → TakeInTurn (xs ++ ys) a c
turn-append [] ys a b c first more = subst (λ l. TakeInTurn ys l c) first more
turn-append (x ∷ xs) ys a b c first more = (first.0, first.1, turn-append xs ys first.0 b c first.2 more)

-- the first sink takes a save
pub put_first : {K : Type 0} (taken : K → Option (List ℕ)) (bytes : List ℕ) (old mid new : List K) (before after : K) → before ≡ get_or old 0 before → mid ≡ take 0 old ++ drop 1 old → 0 < length old → new ≡ mid ++ after ∷ []
    → Appends bytes (taken before) (taken after) → TakeInTurn (bytes ∷ []) (map taken old) (map taken new)
put_first taken bytes [] mid new before after at is len last took = absurd (omega (arith, len))
put_first taken bytes (k ∷ ks) mid new before after at is len last took =
    let all : new ≡ ks ++ after ∷ [] = last ∙ ap (λ ms. ms ++ after ∷ []) is in
    (map taken new, record { first = taken before; rest = map taken ks; now = taken after; are = ap (λ x. taken x ∷ map taken ks) (sym at); took = took; then = ap (map taken) all ∙ mapped ks }, refl)
  where
    mapped : (xs : List _) → map taken (xs ++ after ∷ []) ≡ map taken xs ++ taken after ∷ []
    mapped [] = refl
    mapped (x ∷ xs) = ap (λ ys. taken x ∷ ys) (mapped xs)

-- ---- faults

-- a count that rose isn't 0, so the sink that stands last is one with a fault
rose_above : (before after : ℕ) → Rose before after → nat_lt 0 after ≡ true
rose_above before after (inl less) = grind (arith, nat_tests, less)
rose_above before after (inr last) = rw last refl

or_right : (b c : Bool) → c ≡ true → (b || (c || false)) ≡ true
or_right true c e = refl
or_right false true e = refl
or_right false false e = e

pub faulty_last : {K : Type 0} (faults : K → ℕ) (mid new : List K) (k : K) (before : ℕ) → new ≡ mid ++ k ∷ [] → Rose before (faults k) → has_faulty faults new ≡ true
faulty_last faults mid new k before is rose =
    ap (has_faulty faults) is ∙ list_any-append (λ x. nat_lt 0 (faults x)) mid (k ∷ []) ∙ or_right (has_faulty faults mid) (nat_lt 0 (faults k)) (rose_above before (faults k) rose)

-- ---- reads and commands in turn

pub files_first : (t : List ℕ) (rs : List Read) (i : ℕ) (r : Read) (a b c : List (Option (List ℕ))) → i < length rs → r ≡ get_or rs i r → TakeInTurn (files_among t (r ∷ [])) a b → TakeInTurn (files_among t (drop (i + 1) rs)) b c
    → TakeInTurn (files_among t (drop i rs)) a c
files_first t rs i r a b c within at first more =
    let one : TakeInTurn (file_in t r) a b = subst (λ fs. TakeInTurn fs a b) (append-nil (file_in t r)) first in
    subst (λ xs. TakeInTurn (files_among t xs) a c) (sym (rest_at rs i r within at)) (turn-append (file_in t r) (files_among t (drop (i + 1) rs)) a b c one more)

pub files_end : (t : List ℕ) (rs : List Read) (i : ℕ) (a : List (Option (List ℕ))) → length rs ≤ i → TakeInTurn (files_among t (drop i rs)) a a
files_end t rs i a past = let none : drop i rs ≡ [] = drop_of_length-le rs {i = i} past in subst (λ xs. TakeInTurn (files_among t xs) a a) (sym none) refl

pub saved_first : (s next : State) (held later : List Kept) (cs : List Command) (i : ℕ) (c : Command) (a b d : List (Option (List ℕ))) → i < length cs → c ≡ get_or cs i c → next ≡ after_call s (call_of c) → later ≡ held_after s c held
    → TakeInTurn (files_among (text_read c held) (reads_in c)) a b → TakeInTurn (saved_files next later (drop (i + 1) cs)) b d → TakeInTurn (saved_files s held (drop i cs)) a d
saved_first s next held later cs i c a b d within at next_is later_is first more =
    let rest : List Command = drop (i + 1) cs in
    let from : TakeInTurn (saved_files (after_call s (call_of c)) (held_after s c held) rest) b d = subst (λ fs. TakeInTurn fs b d) (ap₂ (λ n l. saved_files n l rest) next_is later_is) more in
    subst (λ xs. TakeInTurn (saved_files s held xs) a d) (sym (rest_at cs i c within at)) (turn-append (files_among (text_read c held) (reads_in c)) (saved_files (after_call s (call_of c)) (held_after s c held) rest) a b d first from)

pub saved_end : (s : State) (held : List Kept) (cs : List Command) (i : ℕ) (a : List (Option (List ℕ))) → length cs ≤ i → TakeInTurn (saved_files s held (drop i cs)) a a
saved_end s held cs i a past = let none : drop i cs ≡ [] = drop_of_length-le cs {i = i} past in subst (λ xs. TakeInTurn (saved_files s held xs) a a) (sym none) refl

-- ---- as many as there are names

files-length : (t : List ℕ) (rs : List Read) → length (files_among t rs) ≡ length (names_among rs)
files-length t [] = refl
files-length t (read.Size ∷ rs) = files-length t rs
files-length t (read.Text range limit ∷ rs) = files-length t rs
files-length t (read.Find needle limit ∷ rs) = files-length t rs
files-length t (read.Pattern pattern limit ∷ rs) = files-length t rs
files-length t (read.Save name encoding ∷ rs) = ap suc (files-length t rs)

pub saved-length : (s : State) (held : List Kept) (cs : List Command) → length (saved_files s held cs) ≡ length (saved_names cs)
saved-length s held [] = refl
saved-length s held (c ∷ cs) =
    let t = text_read c held in
    let next = after_call s (call_of c) in
    let later = held_after s c held in
    omega (arith, length-append (files_among t (reads_in c)) (saved_files next later cs), length-append (names_among (reads_in c)) (saved_names cs), files-length t (reads_in c), saved-length next later cs)

-- ---- what the sinks have then

-- each sink that tells its bytes took these
abbrev pub TookEach : List (List ℕ) → List (Option (List ℕ)) → Type 0
TookEach [] [] = Unit {0}
TookEach [] (t ∷ ts) = ⊥
TookEach (b ∷ bytes) [] = ⊥
TookEach (b ∷ bytes) (t ∷ ts) = IfSome t (λ taken. taken ≡ b) × TookEach bytes ts

-- nothing was taken before
abbrev AreEmpty : List (Option (List ℕ)) → Type 0
AreEmpty ts = AllByRecursion (λ t. IfSome t (λ bytes. bytes ≡ [])) ts

fresh_took : (b : List ℕ) (before after : Option (List ℕ)) → IfSome before (λ bytes. bytes ≡ []) → Appends b before after → IfSome after (λ taken. taken ≡ b)
fresh_took b before None empty took = tt
fresh_took b None (Some taken) empty took = absurd took
fresh_took b (Some had) (Some taken) empty took = took ∙ ap (λ h. h ++ b) empty

cons_parts : {A : Type 0} (x y : A) (xs ys : List A) → x ∷ xs ≡ y ∷ ys → (x ≡ y) × (xs ≡ ys)
cons_parts x y xs ys e = (cc, cc)

-- those that took none yet stand before those that took theirs
record HaveTaken (files : List (List ℕ)) (done after : List (Option (List ℕ))) : Type 0 where
  news : List (Option (List ℕ))
  are : after ≡ done ++ news
  took : TookEach files news

in_order : (files : List (List ℕ)) (waiting done before after : List (Option (List ℕ))) → before ≡ waiting ++ done → length waiting ≡ length files → AreEmpty waiting → TakeInTurn files before after → HaveTaken files done after
in_order [] [] done before after is many empty turns = record { news = []; are = turns ∙ is ∙ sym (append-nil done); took = tt }
in_order [] (w ∷ waiting) done before after is many empty turns = absurd (omega (arith, many))
in_order (b ∷ files) [] done before after is many empty turns = absurd (omega (arith, many))
in_order (b ∷ files) (w ∷ waiting) done before after is many empty turns =
    let put = turns.1 in
    let parts = cons_parts put.first w put.rest (waiting ++ done) (sym put.are ∙ is) in
    let between : turns.0 ≡ waiting ++ (done ++ put.now ∷ []) = put.then ∙ ap (λ xs. xs ++ put.now ∷ []) parts.1 ∙ append_assoc waiting done (put.now ∷ []) in
    let more = in_order files waiting (done ++ put.now ∷ []) turns.0 after between (omega (arith, many)) empty.1 turns.2 in
    record {
      news = put.now ∷ more.news;
      are = more.are ∙ append_assoc done (put.now ∷ []) more.news;
      took = (fresh_took b put.first put.now (subst (λ o. IfSome o (λ bytes. bytes ≡ [])) (sym parts.0) empty.0) put.took, more.took);
    }

-- ---- and the folder

held_one : (name b : List ℕ) (t : Option (List ℕ)) (told : Option Files) → IfSome t (λ taken. taken ≡ b) → Holds name t told → IfSome told (λ files. files name ≡ Some b)
held_one name b t None took held = tt
held_one name b None (Some files) took held = absurd held
held_one name b (Some taken) (Some files) took held = held ∙ ap Some took

held_all : (names bytes : List (List ℕ)) (ts : List (Option (List ℕ))) (told : Option Files) → TookEach bytes ts → HoldEach names ts told → HoldFiles names bytes told
held_all [] [] [] told took held = tt
held_all [] [] (t ∷ ts) told took held = absurd took
held_all [] (b ∷ bytes) [] told took held = absurd took
held_all [] (b ∷ bytes) (t ∷ ts) told took held = absurd held
held_all (name ∷ names) [] [] told took held = absurd held
held_all (name ∷ names) [] (t ∷ ts) told took held = absurd took
held_all (name ∷ names) (b ∷ bytes) [] told took held = absurd took
held_all (name ∷ names) (b ∷ bytes) (t ∷ ts) told took held = (held_one name b t told took.0 held.0, held_all names bytes ts told took.1 held.1)

module _ {K : Type 0} (taken : K → Option (List ℕ)) (faults : K → ℕ) where
  empties : (sinks : List K) → AllByRecursion (IsFresh taken faults) sinks → AreEmpty (map taken sinks)
  empties [] fresh = tt
  empties (k ∷ sinks) fresh = (fresh.0.0, empties sinks fresh.1)

  map-length : (sinks : List K) → length (map taken sinks) ≡ length sinks
  map-length [] = refl
  map-length (k ∷ sinks) = ap suc (map-length sinks)

  -- fresh sinks that took saves in turn, and were kept under these names
  pub files_held : (names files : List (List ℕ)) (old new : List K) (told : Option Files) → length files ≡ length names → length old ≡ length names → AllByRecursion (IsFresh taken faults) old
      → TakeInTurn files (map taken old) (map taken new) → HoldEach names (map taken new) told → HoldFiles names files told
  files_held names files old new told many sinks fresh turns held =
      let all = in_order files (map taken old) [] (map taken old) (map taken new) (sym (append-nil (map taken old))) (map-length old ∙ sinks ∙ sym many) (empties old fresh) turns in
      held_all names files (map taken new) told (subst (TookEach files) (sym all.are) all.took) held

  -- none of no sinks had a fault
  pub none_faulty : (sinks : List K) → length sinks ≡ 0 → has_faulty faults sinks ≡ true → ⊥
  none_faulty [] none h = false≢true h
  none_faulty (k ∷ sinks) none h = omega (arith, none)

-- ---- names

-- the names of the one session
pub names_of_one : (sessions : List (List Command)) (cs : List Command) → sessions ≡ cs ∷ [] → names_saved sessions ≡ saved_names cs
names_of_one sessions cs one = ap names_saved one ∙ append-nil (saved_names cs)

or_none : (x y : Bool) → (x || y) ≡ false → (x ≡ false) × (y ≡ false)
or_none true y h = absurd (false≢true (sym h))
or_none false y h = (refl, h)

same_name : (s m : List ℕ) (there : List (List ℕ)) (b : Bool) → bytes_eq s m ≡ b → is_among there s ≡ true → is_among there m ≡ false → b ≡ false
same_name s m there true is has isnt = absurd (false≢true (sym isnt ∙ ap (is_among there) (sym ((bytes_eq-Decides s m).0 is)) ∙ has))
same_name s m there false is has isnt = refl

among-push : (there : List (List ℕ)) (m s : List ℕ) → is_among there s ≡ true → is_among (there ++ m ∷ []) s ≡ true
among-push there m s has = list_any-append (bytes_eq s) there (m ∷ []) ∙ ap (λ b. b || (bytes_eq s m || false)) has

-- a name that is there isn't among new ones
not_again : (there names : List (List ℕ)) (s : List ℕ) → is_again there names ≡ false → is_among there s ≡ true → is_among names s ≡ false
not_again there [] s h has = refl
not_again there (m ∷ names) s h has =
    let parts = or_none (is_among there m) (is_again (there ++ m ∷ []) names) h in
    rw (same_name s m there (bytes_eq s m) refl has parts.0, not_again (there ++ m ∷ []) names s parts.1 (among-push there m s has)) refl

eq_self : (s : List ℕ) → bytes_eq s s ≡ true
eq_self s = (bytes_eq-Decides s s).1 refl

own_among : (there : List (List ℕ)) (s : List ℕ) → is_among (there ++ s ∷ []) s ≡ true
own_among there s = list_any-append (bytes_eq s) there (s ∷ []) ∙ or_last (is_among there s) (bytes_eq s s) (eq_self s)
  where
    or_last : (a b : Bool) → b ≡ true → (a || (b || false)) ≡ true
    or_last true b e = refl
    or_last false true e = refl
    or_last false false e = e

pub apart_from : (there names : List (List ℕ)) → is_again there names ≡ false → are_apart names ≡ true
apart_from there [] h = refl
apart_from there (s ∷ names) h =
    let parts = or_none (is_among there s) (is_again (there ++ s ∷ []) names) h in
    rw (not_again (there ++ s ∷ []) names s parts.1 (own_among there s), apart_from (there ++ s ∷ []) names parts.1) refl

-- the names of the one session are apart
pub all_apart : (sessions : List (List Command)) → length sessions ≡ 1 → AllByRecursion (λ cs. is_again [] (saved_names cs) ≡ false) sessions → are_apart (names_saved sessions) ≡ true
all_apart [] one h = absurd (omega (arith, one))
all_apart (cs ∷ []) one h = ap are_apart (append-nil (saved_names cs)) ∙ apart_from [] (saved_names cs) h.0
all_apart (cs ∷ ds ∷ rest) one h = absurd (omega (arith, one))

pub names_apart : (script : Script) (names : List (List ℕ)) → names ≡ names_saved script.sessions → IsWithinLimits script → are_apart names ≡ true
names_apart script names are limits = ap are_apart are ∙ all_apart script.sessions limits.one limits.apart

-- what is told of the one session
pub of_one : (P : List Command → Type 0) (sessions : List (List Command)) (cs : List Command) → sessions ≡ cs ∷ [] → P cs → AllByRecursion P sessions
of_one P sessions cs one h = subst (AllByRecursion P) (sym one) (h, tt)

pub one_of : (P : List Command → Type 0) (sessions : List (List Command)) (cs : List Command) → sessions ≡ cs ∷ [] → AllByRecursion P sessions → P cs
one_of P sessions cs one h = (subst (AllByRecursion P) one h).0

-- what a run of the one session put to fresh sinks stands under its names
module _ {K : Type 0} (taken : K → Option (List ℕ)) (faults : K → ℕ) (s : State) (old new : List K) (told : Option Files) (fresh : AllByRecursion (IsFresh taken faults) old) where
  pub all_held : (sessions : List (List Command)) (names : List (List ℕ)) → names ≡ names_saved sessions → length sessions ≡ 1 → length old ≡ length names
      → AllByRecursion (λ cs. TakeInTurn (saved_files s [] cs) (map taken old) (map taken new)) sessions → HoldEach names (map taken new) told → AllByRecursion (λ cs. HoldFiles (saved_names cs) (saved_files s [] cs) told) sessions
  all_held [] names are one many turns held = absurd (omega (arith, one))
  all_held (cs ∷ []) names are one many turns held =
      let own : names ≡ saved_names cs = are ∙ append-nil (saved_names cs) in
      (files_held taken faults (saved_names cs) (saved_files s [] cs) old new told (saved-length s [] cs) (many ∙ ap length own) fresh turns.0 (subst (λ ns. HoldEach ns (map taken new) told) own held), tt)
  all_held (cs ∷ ds ∷ rest) names are one many turns held = absurd (omega (arith, one))

-- a session without names holds nothing
pub none_held : (s : State) (sessions : List (List Command)) (told : Option Files) → length sessions ≡ 1 → length (names_saved sessions) ≡ 0 → AllByRecursion (λ cs. HoldFiles (saved_names cs) (saved_files s [] cs) told) sessions
none_held s [] told one none = absurd (omega (arith, one))
none_held s (cs ∷ []) told one none = (no_files (saved_names cs) (saved_files s [] cs) (sym (ap length (append-nil (saved_names cs))) ∙ none) (saved-length s [] cs), tt)
  where
    no_files : (names files : List (List ℕ)) → length names ≡ 0 → length files ≡ length names → HoldFiles names files told
    no_files [] [] e same = tt
    no_files [] (f ∷ files) e same = absurd (omega (arith, same))
    no_files (n ∷ names) files e same = absurd (omega (arith, e))
none_held s (cs ∷ ds ∷ rest) told one none = absurd (omega (arith, one))

-- ---- the folder, call after call

pub keeps_both : (names : List (List ℕ)) (a b c : Option Files) → KeepsBut names a b → KeepsBut names b c → KeepsBut names a c
keeps_both names a b None one more = tt
keeps_both names a None (Some files) one more = absurd more
keeps_both names None (Some had) (Some files) one more = absurd one
keeps_both names (Some start) (Some had) (Some files) one more = λ other apart. more other apart ∙ one other apart

pub names_two : (sessions : List (List Command)) (cs : List Command) (names : List (List ℕ)) → sessions ≡ cs ∷ [] → names ≡ saved_names cs → names ≡ names_saved sessions
names_two sessions cs names one are = are ∙ sym (names_of_one sessions cs one)

-- what holds anyway holds on Ok
pub on_ok : {A E P : Type 0} (r : Result A E) → P → OnOk r P
on_ok (Ok a) h = h
on_ok (Err e) h = tt

pub none_of_empty : (b : Bool) (n : ℕ) → b ≡ (n == 0) → b ≡ true → n ≡ 0
none_of_empty b n is empty = grind (arith, nat_tests, is, empty)
