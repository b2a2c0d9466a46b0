-- What an edit and a look answer on a text alone, case by case; and that a script of these alone is answered as well without
-- what could be taken back.
use Rattle.std.proofs.Common.{◌≡◌, ℕ, ◌+◌, ◌-◌, ◌<◌, ◌≤◌, List, [], ◌∷◌, length, drop, Bool, true, false, cond, Option, Some, None, refl, sym, subst, ap, ◌∙◌, inl, inr}
use Rattle.std.specs.Prelude.{◌==◌, ◌&&◌, Result, Ok, Err, ◌↔◌}
use Rattle.std.specs.List.{AllByRecursion}
use Rattle.std.proofs.lemmas.Bool.{lt-ltb, le-ltb, cases_lt, false≢true}
use Rattle.points.specs.declared.point.Point.{Point}
use Rattle.points.specs.declared.range.Range.{Range}
use Rattle.points.specs.Text.{replaced}
use Rattle.points.specs.Place.{point_at, clip, clipped_offset, span}
use Rattle.points.proofs.ClipLemmas.{clipped_at}
use Rattle.machine.specs.declared.command.Command.{Command}
use Rattle.machine.specs.declared.command.Command.TheVariants as command
use Rattle.machine.specs.declared.reply.CallRefusal.TheVariants.{TooLong}
use Rattle.points.specs.declared.limits.TheConstants.{MAX_UNITS}
use Rattle.machine.specs.Machine.{State, Answer, Edited, Refused, Shown, edit, look, step, no_hits, nothing_made, one_made, edited, edited_one, shown, between}
use Rattle.machine.specs.Bare.{bare_state, bare, is_plain, bare_next, bare_reply, bare_after, bare_replies}
use Rattle.machine.specs.Answers.{Matches, call_of, reply_of}
use Rattle.machine.specs.Lawful.{patterns_in}
use Rattle.machine.specs.Plain.{plain_replies, plain_reply, after_call, kept_after, calls_of, Kept}
use Rattle.machine.specs.Machine.{after}

-- the edit from offset i to offset j puts nothing in and takes nothing out
abbrev pub is_nothing : ℕ → ℕ → List ℕ → Bool
is_nothing i j new = (i == j) && (length new == 0)

-- a bare state after a call, and what the call answers
abbrev pub bare_step : State × Answer → State × Answer
bare_step r = (bare r.0, r.1)

-- an edit from offset i to offset j of a text alone, by the two tests
abbrev by_tests : State → ℕ → ℕ → List ℕ → Bool → Bool → State × Answer
by_tests s i j new nothing long = edited s edited_one (cond nothing (Some (nothing_made s i)) (cond long None (Some (one_made s i j new))))

nothing_by : (t : List ℕ) (count version i j : ℕ) (new : List ℕ) (nothing long : Bool) (p : Point) → nothing ≡ true → p ≡ point_at t i
    → bare_step (by_tests (bare_state t count version) i j new nothing long) ≡ (bare_state t (count + 1) version, Edited (record { from = p; to = p; end = p; hits = no_hits }))
nothing_by t count version i j new nothing long p is at = rw (is, at) refl

long_by : (t : List ℕ) (count version i j : ℕ) (new : List ℕ) (nothing long : Bool) → nothing ≡ false → long ≡ true
    → bare_step (by_tests (bare_state t count version) i j new nothing long) ≡ (bare_state t (count + 1) version, Refused TooLong)
long_by t count version i j new nothing long some is = rw (some, is) refl

change_by : (t : List ℕ) (count version i j : ℕ) (new changed : List ℕ) (nothing long : Bool) (end from to : Point) → nothing ≡ false → long ≡ false → changed ≡ replaced t i j new
    → from ≡ point_at t i → to ≡ point_at t j → end ≡ point_at changed (i + length new)
    → bare_step (by_tests (bare_state t count version) i j new nothing long) ≡ (bare_state changed (count + 1) (count + 1), Edited (record { from = from; to = to; end = end; hits = no_hits }))
change_by t count version i j new changed nothing long end from to some fits is first last close = rw (some, fits, first, last, close, is) refl

-- the offsets that the caller found are those of the clipped ends
nothing_at : (t : List ℕ) (range : Range) (new : List ℕ) (i j : ℕ) (b : Bool) → i ≡ clipped_offset t range.start → j ≡ clipped_offset t range.end → is_nothing i j new ≡ b → is_nothing (clipped_offset t range.start) (clipped_offset t range.end) new ≡ b
nothing_at t range new i j b start end is = subst (λ m. is_nothing m (clipped_offset t range.end) new ≡ b) start (subst (λ m. is_nothing i m new ≡ b) end is)

pub edit_nothing : (t : List ℕ) (count version : ℕ) (range : Range) (new : List ℕ) (i j : ℕ) (p : Point) → i ≡ clipped_offset t range.start → j ≡ clipped_offset t range.end → is_nothing i j new ≡ true → p ≡ point_at t i
    → bare_step (step (bare_state t count version) (edit (range, new))) ≡ (bare_state t (count + 1) version, Edited (record { from = p; to = p; end = p; hits = no_hits }))
unfolding step
edit_nothing t count version range new i j p start end is at =
    nothing_by t count version (clipped_offset t range.start) (clipped_offset t range.end) new _ _ p (nothing_at t range new i j true start end is) (at ∙ ap (point_at t) start)

pub edit_too_long : (t : List ℕ) (count version : ℕ) (range : Range) (new : List ℕ) (i j : ℕ) → i ≡ clipped_offset t range.start → j ≡ clipped_offset t range.end → is_nothing i j new ≡ false
    → MAX_UNITS < length (replaced t (clipped_offset t range.start) (clipped_offset t range.end) new)
    → bare_step (step (bare_state t count version) (edit (range, new))) ≡ (bare_state t (count + 1) version, Refused TooLong)
unfolding step
edit_too_long t count version range new i j start end some long =
    long_by t count version (clipped_offset t range.start) (clipped_offset t range.end) new _ _ (nothing_at t range new i j false start end some) (lt-ltb _ _ long)

pub edit_changes : (t : List ℕ) (count version : ℕ) (range : Range) (new changed : List ℕ) (i j : ℕ) (end from to : Point) → i ≡ clipped_offset t range.start → j ≡ clipped_offset t range.end → is_nothing i j new ≡ false
    → length (replaced t (clipped_offset t range.start) (clipped_offset t range.end) new) ≤ MAX_UNITS
    → changed ≡ replaced t (clipped_offset t range.start) (clipped_offset t range.end) new
    → from ≡ clip t range.start → to ≡ clip t range.end → end ≡ point_at changed (clipped_offset t range.start + length new)
    → bare_step (step (bare_state t count version) (edit (range, new))) ≡ (bare_state changed (count + 1) (count + 1), Edited (record { from = from; to = to; end = end; hits = no_hits }))
unfolding step
edit_changes t count version range new changed i j end from to start stop some fits is first last close =
    change_by t count version (clipped_offset t range.start) (clipped_offset t range.end) new changed _ _ end from to (nothing_at t range new i j false start stop some) (le-ltb _ _ fits) is
    (first ∙ sym (clipped_at t range.start).point) (last ∙ sym (clipped_at t range.end).point) close

pub look_shows : (t : List ℕ) (count version : ℕ) (range : Range) (limit i j n : ℕ) (units : List ℕ) → i ≡ clipped_offset t range.start → j ≡ clipped_offset t range.end → units ≡ shown limit (between t i j) → n ≡ j - i
    → bare_step (step (bare_state t count version) (look range limit)) ≡ (bare_state t (count + 1) version, Shown units n)
unfolding step
look_shows t count version range limit i j n units start end shows is = rw (shows, is, start, end) refl

-- what a refusal exactly above the limit says where it didn't come
pub within_limit : {T E : Type 0} (r : Result T E) (x : T) (e : E) (n limit : ℕ) → r ≡ Ok x → ((r ≡ Err e) ↔ (limit < n)) → n ≤ limit
within_limit r x e n limit is h = elim (cases_lt limit n) [ inl above ↦ let bad : r ≡ Err e = h.1 above in cc | inr below ↦ below ]

same_by : (s : State) (i j : ℕ) (new : List ℕ) (nothing long : Bool) → bare_step (by_tests s i j new nothing long) ≡ bare_step (by_tests (bare s) i j new nothing long)
same_by s i j new true long = refl
same_by s i j new false true = refl
same_by s i j new false false = refl

-- a command that edits or looks, on a state and on what is left of it
record IsSame (version : ℕ) (s : State) (c : Command) : Type 0 where
  state : bare_next s c ≡ bare_next (bare s) c
  reply : (told : List (Option Matches)) (kept : List Kept) → plain_reply version s kept told c ≡ bare_reply version (bare s) c

is_same : (version : ℕ) (s : State) (c : Command) → is_plain c ≡ true → IsSame version s c
unfolding step
is_same version s (command.Edit range bytes) plain =
    let ends : ℕ × ℕ = span s.text range.start range.end in
    let same = same_by s ends.0 ends.1 _ _ _ in
    record { state = ap (λ (r : State × Answer). r.0) same; reply = λ told kept. ap (λ (r : State × Answer). reply_of version (s.count + 1) r.1) same }
is_same version s (command.Text range limit) plain = record { state = refl; reply = λ told kept. refl }
is_same version s _ plain = absurd (false≢true plain)

-- the replies of a script that edits and looks, and what is left of its last state
pub replies_are_bare : (version : ℕ) (told : List (Option Matches)) (s : State) (kept : List Kept) (cs : List Command) → AllByRecursion (λ c. is_plain c ≡ true) cs
    → plain_replies version told s kept cs ≡ bare_replies version (bare s) cs
replies_are_bare version told s kept [] plain = refl
replies_are_bare version told s kept (c ∷ cs) plain =
    let same : IsSame version s c = is_same version s c plain.0 in
    let later : plain_replies version (drop (patterns_in c) told) (after_call s (call_of c)) (kept_after s c kept) cs ≡ bare_replies version (bare_next s c) cs = replies_are_bare version (drop (patterns_in c) told) (after_call s (call_of c)) (kept_after s c kept) cs plain.1 in
    rw (later, same.state) (ap (λ r. r ∷ bare_replies version (bare_next (bare s) c) cs) (same.reply told kept))

-- a plain command is numbered
next_of : (s : State) (c : Command) (cs : List Command) → is_plain c ≡ true → after s (calls_of (c ∷ cs)) ≡ after (after_call s (call_of c)) (calls_of cs)
next_of s (command.Edit range bytes) cs plain = refl
next_of s (command.Text range limit) cs plain = refl
next_of s _ cs plain = absurd (false≢true plain)

pub after_is_bare : (version : ℕ) (s : State) (cs : List Command) → AllByRecursion (λ c. is_plain c ≡ true) cs → bare (after s (calls_of cs)) ≡ bare_after (bare s) cs
after_is_bare version s [] plain = refl
after_is_bare version s (c ∷ cs) plain =
    let same : IsSame version s c = is_same version s c plain.0 in
    ap bare (next_of s c cs plain.0) ∙ after_is_bare version (after_call s (call_of c)) cs plain.1 ∙ ap (λ t. bare_after t cs) same.state
