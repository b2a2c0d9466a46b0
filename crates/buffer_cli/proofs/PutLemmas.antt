-- The hits that the matcher of a regular expression puts in turn.
use Rattle.std.proofs.Common.{◌≡◌, ℕ, ◌+◌, ◌<◌, ◌≤◌, ◌⊎◌, inl, inr, List, [], ◌∷◌, ◌++◌, length, length-append, take, refl, sym, ap, ◌∙◌, arith, append_assoc, append-nil}
use Rattle.std.specs.Prelude.{Result, Ok, Err, IfOk, OnOk}
use Rattle.std.specs.Str.{IsCharBoundary}
use Rattle.points.specs.declared.memory.NoMemory.{NoMemory}
use Rattle.std.proofs.lemmas.List.{take_all, take-append-le}
use Rattle.outer.specs.Matcher.{AreHitsFrom}
use Rattle.buffer_cli.specs.declared.regexes.Seen.{Seen}
use Rattle.buffer_cli.specs.Put.{IsNext, end_of, ArePut}

abbrev Unit₀ : Type 0
Unit₀ = Unit {0}

abbrev Hit : Type 0
Hit = ℕ × ℕ

end_more : (at : ℕ) (hs : List Hit) (hit : Hit) → end_of at (hs ++ hit ∷ []) ≡ hit.1
end_more at [] hit = refl
end_more at (h ∷ hs) hit = end_more h.1 hs hit

hits_more : (bytes : List ℕ) (at : ℕ) (hs : List Hit) (hit : Hit) → AreHitsFrom bytes at hs → end_of at hs ≤ hit.0 → hit.0 ≤ hit.1 → IsCharBoundary bytes hit.0 → IsCharBoundary bytes hit.1 → AreHitsFrom bytes at (hs ++ hit ∷ [])
hits_more bytes at [] hit h behind order starts ends = (behind, order, starts, ends, tt)
hits_more bytes at (x ∷ hs) hit h behind order starts ends = (h.0, h.1, h.2, h.3, hits_more bytes x.1 hs hit h.4 behind order starts ends)

-- the first of one hit more
first_shown : (limit : ℕ) (before after new hs : List Hit) (hit : Hit) → length hs < limit → after ≡ before ++ take limit hs → new ≡ after ++ hit ∷ [] → new ≡ before ++ take limit (hs ++ hit ∷ [])
first_shown limit before after new hs hit room are is =
    is ∙ (ap (λ (xs : List Hit). xs ++ hit ∷ []) (are ∙ ap (λ (xs : List Hit). before ++ xs) (take_all limit hs (omega (arith, room))))
    ∙ (append_assoc before hs (hit ∷ []) ∙ ap (λ (xs : List Hit). before ++ xs) (sym (take_all limit (hs ++ hit ∷ []) (omega (arith, room, length-append hs (hit ∷ [])))))))

first_counted : (limit : ℕ) (before after hs : List Hit) (hit : Hit) → limit ≤ length hs → after ≡ before ++ take limit hs → after ≡ before ++ take limit (hs ++ hit ∷ [])
first_counted limit before after hs hit full are = are ∙ ap (λ (xs : List Hit). before ++ xs) (sym (take-append-le limit hs (hit ∷ []) full))

few_more : (old now : Seen) (start end : ℕ) → (old.count ≡ 0) ⊎ (old.end < end) → old.count ≤ old.end + 1 → now.count ≡ old.count + 1 → now.end ≡ end → now.count ≤ now.end + 1
few_more old now start end (inl none) few counted is = omega (arith, none, counted)
few_more old now start end (inr later) few counted is = omega (arith, later, few, counted, is)

counted_by : (bytes : List ℕ) (limit : ℕ) (before after new : List Hit) (old now : Seen) (start end : ℕ) (h : ArePut bytes limit before after old) → IsNext bytes old start end → end ≤ length bytes → now.count ≡ old.count + 1 → now.end ≡ end
    → new ≡ before ++ take limit (h.hits ++ (start, end) ∷ []) → ArePut bytes limit before new now
counted_by bytes limit before after new old now start end h next within counted is first = record {
  hits = h.hits ++ (start, end) ∷ [];
  sound = hits_more bytes 0 h.hits (start, end) h.sound (omega (arith, h.end_is, next.behind)) next.order next.starts next.ends;
  count_is = omega (arith, counted, h.count_is, length-append h.hits ((start, end) ∷ []));
  first_are = first;
  end_is = is ∙ sym (end_more 0 h.hits (start, end));
  few = few_more old now start end next.later h.few counted is;
  within = omega (arith, is, within);
}

put_shown : (bytes : List ℕ) (limit : ℕ) (before after new : List Hit) (old now : Seen) (start end : ℕ) → IsNext bytes old start end → end ≤ length bytes → now.count ≡ old.count + 1 → now.end ≡ end → old.count < limit → new ≡ after ++ (start, end) ∷ []
    → ArePut bytes limit before after old → ArePut bytes limit before new now
put_shown bytes limit before after new old now start end next within counted is room pushed h =
    counted_by bytes limit before after new old now start end h next within counted is (first_shown limit before after new h.hits (start, end) (omega (arith, room, h.count_is)) h.first_are pushed)

pub put_done : (bytes : List ℕ) (limit : ℕ) (before after new : List Hit) (old now : Seen) (start end : ℕ) (r : Result Unit₀ NoMemory) → IsNext bytes old start end → end ≤ length bytes → now.count ≡ old.count + 1 → now.end ≡ end → old.count < limit
    → OnOk r (new ≡ after ++ (start, end) ∷ []) → ArePut bytes limit before after old → IfOk r (λ _. ArePut bytes limit before new now)
put_done bytes limit before after new old now start end (Ok u) next within counted is room pushed h = put_shown bytes limit before after new old now start end next within counted is room pushed h
put_done bytes limit before after new old now start end (Err e) next within counted is room pushed h = pushed

pub put_counted : (bytes : List ℕ) (limit : ℕ) (before after : List Hit) (old now : Seen) (start end : ℕ) → IsNext bytes old start end → end ≤ length bytes → now.count ≡ old.count + 1 → now.end ≡ end → limit ≤ old.count
    → ArePut bytes limit before after old → ArePut bytes limit before after now
put_counted bytes limit before after old now start end next within counted is full h =
    counted_by bytes limit before after after old now start end h next within counted is (first_counted limit before after h.hits (start, end) (omega (arith, full, h.count_is)) h.first_are)

pub put_none : (bytes : List ℕ) (limit : ℕ) (before : List Hit) (seen : Seen) → seen.count ≡ 0 → seen.end ≡ 0 → ArePut bytes limit before before seen
put_none bytes limit before seen none start = record { hits = []; sound = tt; count_is = none; first_are = sym (before_all limit before); end_is = start; few = omega (arith, none); within = omega (arith, start) }
  where
    before_all : (limit : ℕ) (before : List Hit) → before ++ take limit [] ≡ before
    before_all limit before = ap (λ (xs : List Hit). before ++ xs) (take_all limit [] (omega arith)) ∙ append-nil before
