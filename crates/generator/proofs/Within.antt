-- Made scripts keep the limits of scripts.
use Rattle.std.proofs.Common.{◌≡◌, ℕ, zero, suc, ◌+◌, ◌*◌, ◌/◌, ◌%◌, ◌≤◌, ◌<◌, ◌&&◌, not, Bool, true, false, cond, List, [], ◌∷◌, ◌++◌, length, filter, refl, ap, ap₂, subst, sym, ◌∙◌, arith, length-append}
use Rattle.std.specs.Prelude.{◌==◌, codes, count_by, sum_by}
use Rattle.std.specs.List.{AllByRecursion, list_all, list_any}
use Rattle.std.proofs.Math.Nat.{mod-lt, div-add-mod}
use Rattle.std.proofs.lemmas.Bool.{and_parts, and_from, eq-eqb}
use Rattle.std.proofs.lemmas.Bool.Decides.{nat_tests}
use Rattle.std.proofs.lemmas.List.Sums.{sum_by-append}
use Rattle.points.specs.Text.{LF, utf16_of}
use Rattle.points.specs.declared.limits.TheConstants.{MAX_HANDS}
use Rattle.machine.specs.declared.command.Command.{Command}
use Rattle.machine.specs.declared.command.Command.TheVariants as command
use Rattle.machine.specs.Plain.{live_after, is_live, are_live}
use Rattle.machine.specs.Lawful.{patterns_in, patterns_of, reads_in}
use Rattle.machine.proofs.OneSession.{all-append}
use Rattle.script.specs.Limits.{has_built_word, has_needles, IsReadable, readings_of, is_find, is_watch, names_among, saved_names, is_in_turn, are_in_turn, IsWithinLimits}
use Rattle.json.proofs.Printed.Utf8.{IsUtf8-are_ascii}
use Rattle.generator.proofs.Characters.{utf16_of_fits}
use Rattle.generator.specs.Generator.{state_after, drawn, in_row, letters, drawn_edit, sent_reads, sent, block, blocks, made_sessions, made_script}

-- ---- a block, by what its number is a multiple of

abbrev parts : Bool → Bool → ℕ → Command → List Command
parts sends squashes e c = c ∷ cond sends (sent e) [] ++ cond squashes (command.Squash ∷ []) []

parts_all : (P : Command → Type 0) (a b : Bool) (e : ℕ) (c : Command) → P c → P (command.Take e) → P (command.Send e sent_reads) → P command.Squash → AllByRecursion P (parts a b e c)
parts_all P true true e c edit take send squash = (edit, (take, (send, (squash, tt))))
parts_all P true false e c edit take send squash = (edit, (take, (send, tt)))
parts_all P false true e c edit take send squash = (edit, (squash, tt))
parts_all P false false e c edit take send squash = (edit, tt)

-- what holds of each command that is drawn, with numbers of snapshots up to m
blocks_all : (P : Command → Type 0) (m x n : ℕ) → ((y : ℕ) → P (drawn_edit y)) → ((k : ℕ) → k ≤ m → P (command.Take k)) → ((k : ℕ) → k ≤ m → P (command.Send k sent_reads)) → P command.Squash → n ≤ m → AllByRecursion P (blocks x n)
blocks_all P m x zero edit take send squash few = tt
blocks_all P m x (suc e) edit take send squash few =
    let y : ℕ = state_after (5 * e) x in
    let earlier : e ≤ m = omega (arith, few) in
    all-append P (blocks x e) (block (suc e) y) (blocks_all P m x e edit take send squash earlier)
    (parts_all P (suc e % 16 == 0) (suc e % 64 == 0) (suc e) (drawn_edit y) (edit y) (take (suc e) few) (send (suc e) few) squash)

-- ---- counts

parts_short : (a b : Bool) (e : ℕ) (c : Command) → length (parts a b e c) ≤ 4
parts_short true true e c = omega arith
parts_short true false e c = omega arith
parts_short false true e c = omega arith
parts_short false false e c = omega arith

blocks_short : (x n : ℕ) → length (blocks x n) ≤ 4 * n
blocks_short x zero = omega arith
blocks_short x (suc e) =
    let y : ℕ = state_after (5 * e) x in
    omega (arith, length-append (blocks x e) (block (suc e) y), blocks_short x e, parts_short (suc e % 16 == 0) (suc e % 64 == 0) (suc e) (drawn_edit y))

-- a count that only what is sent adds to
parts_sum : (f : Command → ℕ) (a b : Bool) (e : ℕ) (c : Command) → f c ≡ 0 → f (command.Take e) ≡ 0 → f command.Squash ≡ 0 → sum_by f (parts a b e c) ≡ cond a (f (command.Send e sent_reads)) 0
parts_sum f true true e c edit take squash = omega (arith, edit, take, squash)
parts_sum f true false e c edit take squash = omega (arith, edit, take, squash)
parts_sum f false true e c edit take squash = omega (arith, edit, take, squash)
parts_sum f false false e c edit take squash = omega (arith, edit, take, squash)

-- one more in sixteen
sixteenth : (e : ℕ) (b : Bool) → b ≡ (suc e % 16 == 0) → suc e / 16 ≡ e / 16 + cond b 1 0
sixteenth e true is =
    let all : suc e % 16 ≡ 0 = grind (arith, nat_tests, is) in
    let low : e % 16 < 16 = mod-lt e (omega arith) in
    omega (arith, all, div-add-mod e 16, div-add-mod (suc e) 16, low)
sixteenth e false is =
    let some : (suc e % 16 ≡ 0) → ⊥ = λ h. grind (arith, nat_tests, is, h) in
    let low : e % 16 < 16 = mod-lt e (omega arith) in
    let next : suc e % 16 < 16 = mod-lt (suc e) (omega arith) in
    grind (arith, some, div-add-mod e 16, div-add-mod (suc e) 16, low, next)

more_in_sixteen : (s v e : ℕ) (b : Bool) → b ≡ (suc e % 16 == 0) → v ≡ s → s * (e / 16) + cond b v 0 ≡ s * (suc e / 16)
more_in_sixteen s v e true is same = rw (sixteenth e true is) (rw same (grind arith))
more_in_sixteen s v e false is same = rw (sixteenth e false is) (grind arith)

blocks_sum : (f : Command → ℕ) (s x n : ℕ) → ((y : ℕ) → f (drawn_edit y) ≡ 0) → ((k : ℕ) → f (command.Take k) ≡ 0) → ((k : ℕ) → f (command.Send k sent_reads) ≡ s) → f command.Squash ≡ 0 → sum_by f (blocks x n) ≡ s * (n / 16)
blocks_sum f s x zero edit take send squash = omega arith
blocks_sum f s x (suc e) edit take send squash =
    let y : ℕ = state_after (5 * e) x in
    let b : Bool = suc e % 16 == 0 in
    let one : sum_by f (block (suc e) y) ≡ cond b (f (command.Send (suc e) sent_reads)) 0 = parts_sum f b (suc e % 64 == 0) (suc e) (drawn_edit y) (edit y) (take (suc e)) squash in
    sum_by-append f (blocks x e) (block (suc e) y) ∙ (ap₂ (λ m n. m + n) (blocks_sum f s x e edit take send squash) one ∙ more_in_sixteen s (f (command.Send (suc e) sent_reads)) e b refl (send (suc e)))

-- ---- snapshots

-- what is live behind commands
abbrev live_behind : List ℕ → List Command → List ℕ
live_behind live [] = live
live_behind live (c ∷ cs) = live_behind (live_after c live) cs

behind-append : (live : List ℕ) (cs ds : List Command) → live_behind live (cs ++ ds) ≡ live_behind (live_behind live cs) ds
behind-append live [] ds = refl
behind-append live (c ∷ cs) ds = behind-append (live_after c live) cs ds

turns-append : (live : List ℕ) (cs ds : List Command) → are_in_turn live cs ≡ true → are_in_turn (live_behind live cs) ds ≡ true → are_in_turn live (cs ++ ds) ≡ true
turns-append live [] ds one more = more
turns-append live (c ∷ cs) ds one more =
    let both = and_parts (is_in_turn live c) (are_in_turn (live_after c live) cs) one in
    and_from (is_in_turn live c) (are_in_turn (live_after c live) (cs ++ ds)) both.0 (turns-append (live_after c live) cs ds both.1 more)

same : (e : ℕ) → (e == e) ≡ true
same e = eq-eqb e e refl

edit_leaves : (y : ℕ) (live : List ℕ) → live_after (drawn_edit y) live ≡ live
edit_leaves y live = refl

parts_behind : (a b : Bool) (e y : ℕ) → live_behind [] (parts a b e (drawn_edit y)) ≡ []
parts_behind true true e y = rw (same e) refl
parts_behind true false e y = rw (same e) refl
parts_behind false true e y = refl
parts_behind false false e y = refl

parts_in_turn : (a b : Bool) (e y : ℕ) → are_in_turn [] (parts a b e (drawn_edit y)) ≡ true
parts_in_turn true true e y = rw (same e) refl
parts_in_turn true false e y = rw (same e) refl
parts_in_turn false true e y = refl
parts_in_turn false false e y = refl

blocks_behind : (x n : ℕ) → live_behind [] (blocks x n) ≡ []
blocks_behind x zero = refl
blocks_behind x (suc e) =
    let y : ℕ = state_after (5 * e) x in
    behind-append [] (blocks x e) (block (suc e) y) ∙ (ap (λ live. live_behind live (block (suc e) y)) (blocks_behind x e) ∙ parts_behind (suc e % 16 == 0) (suc e % 64 == 0) (suc e) y)

blocks_in_turn : (x n : ℕ) → are_in_turn [] (blocks x n) ≡ true
blocks_in_turn x zero = refl
blocks_in_turn x (suc e) =
    let y : ℕ = state_after (5 * e) x in
    turns-append [] (blocks x e) (block (suc e) y) (blocks_in_turn x e)
    (subst (λ live. are_in_turn live (block (suc e) y) ≡ true) (sym (blocks_behind x e)) (parts_in_turn (suc e % 16 == 0) (suc e % 64 == 0) (suc e) y))

-- what is in turn is live
one_live : (live : List ℕ) (c : Command) → is_in_turn live c ≡ true → is_live live c ≡ true
one_live live (command.Read k reads) h = h
one_live live (command.Send k reads) h = h
one_live live c h = refl

all_live : (live : List ℕ) (cs : List Command) → are_in_turn live cs ≡ true → are_live live cs ≡ true
all_live live [] h = refl
all_live live (c ∷ cs) h =
    let both = and_parts (is_in_turn live c) (are_in_turn (live_after c live) cs) h in
    and_from (is_live live c) (are_live (live_after c live) cs) (one_live live c both.0) (all_live (live_after c live) cs both.1)

-- ---- the script

opening_short : length (utf16_of (codes "abc" ++ LF ∷ codes "def" ++ LF ∷ [])) ≤ 8
opening_short =
    let text : List ℕ = codes "abc" ++ LF ∷ codes "def" ++ LF ∷ [] in
    utf16_of_fits text (IsUtf8-are_ascii text refl)

edit_readable : (y : ℕ) → IsReadable (drawn_edit y)
edit_readable y =
    let row : drawn 1 64 y < 64 = mod-lt (state_after 1 y) (omega arith) in
    let column : drawn 2 16 y < 16 = mod-lt (state_after 2 y) (omega arith) in
    let units : drawn 3 4 y < 4 = mod-lt (state_after 3 y) (omega arith) in
    record {
      start = record { row = omega (arith, row); column = omega (arith, column) };
      end = record { row = omega (arith, row); column = omega (arith, column, units) };
    }

-- commands without saves
no_names : (cs : List Command) → AllByRecursion (λ c. names_among (reads_in c) ≡ []) cs → saved_names cs ≡ []
no_names [] h = refl
no_names (c ∷ cs) h = rw (h.0, no_names cs h.1) refl

unsaved : (x edits : ℕ) → saved_names (blocks x edits) ≡ []
unsaved x edits = no_names (blocks x edits) (blocks_all (λ c. names_among (reads_in c) ≡ []) edits x edits (λ y. refl) (λ k h. refl) (λ k h. refl) refl (omega arith))

pub made_within : (first edits : ℕ) → edits ≤ 4096 → IsWithinLimits (made_script first edits 1)
made_within first edits few =
    let x : ℕ = state_after (5 * edits * 0) first in
    let turns = blocks_in_turn x edits in
    record {
      version = refl;
      one = refl;
      opening = omega (arith, opening_short);
      commands = (omega (arith, blocks_short x edits, few), tt);
      readings = (omega (arith, blocks_sum readings_of 2 x edits (λ y. refl) (λ k. refl) (λ k. refl) refl, div-add-mod edits 16, few), tt);
      saves = (rw (unsaved x edits) (omega arith), tt);
      apart = (rw (unsaved x edits) refl, tt);
      finds = (omega (arith, blocks_sum (λ c. cond (is_find c) 1 0) 0 x edits (λ y. refl) (λ k. refl) (λ k. refl) refl), tt);
      watches = (omega (arith, blocks_sum (λ c. cond (is_watch c) 1 0) 0 x edits (λ y. refl) (λ k. refl) (λ k. refl) refl), tt);
      built = (blocks_all (λ c. has_built_word c ≡ true) edits x edits (λ y. refl) (λ k h. refl) (λ k h. refl) refl (omega arith), tt);
      numbers = (blocks_all IsReadable edits x edits edit_readable (λ k h. omega (arith, h, few)) (λ k h. (omega (arith, h, few), (omega arith, (tt, tt)))) tt (omega arith), tt);
      needles = (blocks_all (λ c. has_needles c ≡ true) edits x edits (λ y. refl) (λ k h. refl) (λ k h. refl) refl (omega arith), tt);
      turns = (turns, tt);
      live = (all_live [] (blocks x edits) turns, tt);
    }

pub made_without_patterns : (first edits : ℕ) → AllByRecursion (λ cs. patterns_of cs ≡ 0) (made_script first edits 1).sessions
made_without_patterns first edits = let x : ℕ = state_after (5 * edits * 0) first in (blocks_sum patterns_in 0 x edits (λ y. refl) (λ k. refl) (λ k. refl) refl ∙ (omega arith), tt)

pub made_without_saves : (first edits : ℕ) → AllByRecursion (λ cs. saved_names cs ≡ []) (made_script first edits 1).sessions
made_without_saves first edits = (unsaved (state_after (5 * edits * 0) first) edits, tt)
