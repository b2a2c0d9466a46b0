-- The plain machine on small texts, worked out by computing.
use Rattle.std.proofs.Common.{◌≡◌, ℕ, [], ◌∷◌, true, false, refl}
use Rattle.points.specs.declared.point.Point.{Point}
use Rattle.points.specs.declared.range.Range.{Range}
use Rattle.points.specs.declared.mark.HitCounts.{HitCounts}
use Rattle.points.specs.Point.{point_le}
use Rattle.machine.specs.declared.reply.CallRefusal.TheVariants as no
use Rattle.machine.specs.declared.command.How.TheVariants.{Intersecting}
use Rattle.points.specs.declared.mark.MarkOrder.TheVariants.{Same}
use Rattle.machine.specs.Machine.{Part, opened, edit, batch, undo, redo, look, add_mark, remove_mark, mark_range, find_marks, compare_marks, watch, unwatch, Edited, Batched, Shown, Done, Ranged, Found, Compared, Heard, Refused, step, answers, after}

at : ℕ → ℕ → Point
at row column = record { row = row; column = column }

range : (a b c d : ℕ) → point_le (record { row = a; column = b }) (record { row = c; column = d }) ≡ true → Range
range a b c d h = record { start = record { row = a; column = b }; end = record { row = c; column = d }; ordered = h }

hits : ℕ → ℕ → ℕ → ℕ → HitCounts
hits touch inside overlap surround = record { touch = touch; inside = inside; overlap = overlap; surround = surround }

part : Point → Point → Point → HitCounts → Part
part from to end hits = record { from = from; to = to; end = end; hits = hits }

-- an edit of an empty text, read back
inserts_into_an_empty_text : answers (opened []) (edit (range 0 0 0 0 refl, 104 ∷ 105 ∷ []) ∷ look (range 0 0 9 9 refl) 100 ∷ [])
    ≡ Edited (part (at 0 0) (at 0 0) (at 0 2) (hits 0 0 0 0)) ∷ Shown (104 ∷ 105 ∷ []) 2 ∷ []
unfolding step range at part hits
inserts_into_an_empty_text = refl

-- an edit that hits nothing
none : Point → Point → Point → Part
none from to end = part from to end (hits 0 0 0 0)

-- an insertion between a carriage return and its line feed goes before both
clips_inside_crlf : answers (opened (97 ∷ 13 ∷ 10 ∷ 98 ∷ [])) (edit (range 0 2 0 2 refl, 120 ∷ []) ∷ look (range 0 0 9 9 refl) 9 ∷ [])
    ≡ Edited (none (at 0 1) (at 0 1) (at 0 2)) ∷ Shown (97 ∷ 120 ∷ 13 ∷ 10 ∷ 98 ∷ []) 5 ∷ []
unfolding step range at part hits none
clips_inside_crlf = refl

-- an insertion inside a surrogate pair goes before it
clips_inside_a_pair : answers (opened (0xD83D ∷ 0xDE00 ∷ [])) (edit (range 0 1 0 1 refl, 120 ∷ []) ∷ look (range 0 0 9 9 refl) 9 ∷ [])
    ≡ Edited (none (at 0 0) (at 0 0) (at 0 1)) ∷ Shown (120 ∷ 0xD83D ∷ 0xDE00 ∷ []) 3 ∷ []
unfolding step range at part hits none
clips_inside_a_pair = refl

-- a range past the end replaces everything
replaces_everything : answers (opened (97 ∷ 98 ∷ 10 ∷ 99 ∷ 100 ∷ [])) (edit (range 0 0 9 9 refl, 122 ∷ []) ∷ look (range 0 0 9 9 refl) 9 ∷ [])
    ≡ Edited (none (at 0 0) (at 1 2) (at 0 1)) ∷ Shown (122 ∷ []) 1 ∷ []
unfolding step range at part hits none
replaces_everything = refl

-- a limit that would part a pair shows one unit fewer
shows_no_half_of_a_pair : answers (opened (97 ∷ 0xD83D ∷ 0xDE00 ∷ [])) (look (range 0 0 0 9 refl) 2 ∷ []) ≡ Shown (97 ∷ []) 3 ∷ []
unfolding step range at
shows_no_half_of_a_pair = refl

-- an edit, taken back and made again; then there is nothing to make again
undo_and_redo : answers (opened (97 ∷ 98 ∷ [])) (edit (range 0 1 0 1 refl, 120 ∷ []) ∷ undo ∷ redo ∷ redo ∷ look (range 0 0 9 9 refl) 9 ∷ [])
    ≡ Edited (none (at 0 1) (at 0 1) (at 0 2)) ∷ Batched (none (at 0 1) (at 0 2) (at 0 1) ∷ []) ∷ Batched (none (at 0 1) (at 0 1) (at 0 2) ∷ [])
    ∷ Refused no.Nothing ∷ Shown (97 ∷ 120 ∷ 98 ∷ []) 3 ∷ []
unfolding step range at part hits none
undo_and_redo = refl

-- a carriage return before a line feed is taken back without clipping
undo_within_an_ending : answers (opened (10 ∷ [])) (edit (range 0 0 0 0 refl, 13 ∷ []) ∷ undo ∷ look (range 0 0 9 9 refl) 9 ∷ [])
    ≡ Edited (none (at 0 0) (at 0 0) (at 0 1)) ∷ Batched (none (at 0 0) (at 0 1) (at 0 0) ∷ []) ∷ Shown (10 ∷ []) 1 ∷ []
unfolding step range at part hits none
undo_within_an_ending = refl

-- an edit of nothing leaves the future and the version, and tells no watcher
nothing_leaves_the_future : answers (opened (97 ∷ 98 ∷ [])) (watch 7 ∷ edit (range 0 0 0 0 refl, 120 ∷ []) ∷ undo ∷ edit (range 0 1 0 1 refl, []) ∷ redo ∷ unwatch 7 ∷ [])
    ≡ Done ∷ Edited (none (at 0 0) (at 0 0) (at 0 1)) ∷ Batched (none (at 0 0) (at 0 1) (at 0 0) ∷ []) ∷ Edited (none (at 0 1) (at 0 1) (at 0 1))
    ∷ Batched (none (at 0 0) (at 0 0) (at 0 1) ∷ []) ∷ Heard 3 ∷ []
unfolding step range at part hits none
nothing_leaves_the_future = refl

version_of_nothing : (after (opened (97 ∷ 98 ∷ [])) (edit (range 0 0 0 0 refl, 120 ∷ []) ∷ edit (range 0 1 0 1 refl, []) ∷ [])).version ≡ 1
unfolding step range
version_of_nothing = refl

-- the replacement of a text by the same one is a change
same_text_is_a_change : (after (opened (97 ∷ [])) (edit (range 0 0 0 1 refl, 97 ∷ []) ∷ [])).version ≡ 1
unfolding step range
same_text_is_a_change = refl

-- six marks around an insertion
six_marks : answers (opened (97 ∷ 97 ∷ 97 ∷ 97 ∷ [])) (add_mark 1 (range 0 2 0 2 refl) false ∷ add_mark 2 (range 0 2 0 2 refl) true ∷ add_mark 3 (range 0 2 0 4 refl) false
    ∷ add_mark 4 (range 0 2 0 4 refl) true ∷ add_mark 5 (range 0 0 0 2 refl) false ∷ add_mark 6 (range 0 0 0 2 refl) true ∷ edit (range 0 2 0 2 refl, 98 ∷ 98 ∷ 98 ∷ [])
    ∷ mark_range 1 ∷ mark_range 2 ∷ mark_range 3 ∷ mark_range 4 ∷ mark_range 5 ∷ mark_range 6 ∷ [])
    ≡ Done ∷ Done ∷ Done ∷ Done ∷ Done ∷ Done ∷ Edited (part (at 0 2) (at 0 2) (at 0 5) (hits 6 0 0 0)) ∷ Ranged (at 0 2) (at 0 5) false ∷ Ranged (at 0 5) (at 0 5) true
    ∷ Ranged (at 0 2) (at 0 7) false ∷ Ranged (at 0 5) (at 0 7) true ∷ Ranged (at 0 0) (at 0 5) false ∷ Ranged (at 0 0) (at 0 2) true ∷ []
unfolding step range at part hits
six_marks = refl

-- marks and their refusals; the hits are counted before the marks move
marks_of_hello : answers (opened (104 ∷ 101 ∷ 108 ∷ 108 ∷ 111 ∷ [])) (add_mark 1 (range 0 1 0 3 refl) false ∷ add_mark 1 (range 0 1 0 3 refl) false
    ∷ edit (range 0 3 0 3 refl, 88 ∷ []) ∷ mark_range 1 ∷ remove_mark 9 ∷ find_marks Intersecting (range 0 4 0 4 refl) ∷ compare_marks 1 1 ∷ [])
    ≡ Done ∷ Refused no.MarkTaken ∷ Edited (part (at 0 3) (at 0 3) (at 0 4) (hits 1 0 0 0)) ∷ Ranged (at 0 1) (at 0 4) false
    ∷ Refused no.MarkUnknown ∷ Found (1 ∷ []) ∷ Compared Same ∷ []
unfolding step range at part hits
marks_of_hello = refl

-- a watcher is told of one edit and not of the empty one
watches_an_edit : answers (opened (97 ∷ 98 ∷ [])) (watch 7 ∷ watch 7 ∷ edit (range 0 0 0 0 refl, 120 ∷ []) ∷ edit (range 0 0 0 0 refl, []) ∷ unwatch 7 ∷ unwatch 7 ∷ [])
    ≡ Done ∷ Refused no.WatchTaken ∷ Edited (none (at 0 0) (at 0 0) (at 0 1)) ∷ Edited (none (at 0 0) (at 0 0) (at 0 0)) ∷ Heard 1 ∷ Refused no.WatchUnknown ∷ []
unfolding step range at part hits none
watches_an_edit = refl

-- a batch of two edits is one step: an undo takes back the last edit first
batch_of_two : answers (opened (97 ∷ 98 ∷ 99 ∷ [])) (batch ((range 0 0 0 0 refl, 88 ∷ []) ∷ (range 0 2 0 3 refl, []) ∷ []) ∷ look (range 0 0 9 9 refl) 9 ∷ undo ∷ look (range 0 0 9 9 refl) 9 ∷ [])
    ≡ Batched (none (at 0 0) (at 0 0) (at 0 1) ∷ none (at 0 2) (at 0 3) (at 0 2) ∷ []) ∷ Shown (88 ∷ 97 ∷ 99 ∷ []) 3
    ∷ Batched (none (at 0 2) (at 0 2) (at 0 3) ∷ none (at 0 0) (at 0 1) (at 0 0) ∷ []) ∷ Shown (97 ∷ 98 ∷ 99 ∷ []) 3 ∷ []
unfolding step range at part hits none
batch_of_two = refl
