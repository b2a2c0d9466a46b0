-- Hands, and places that are freed, leave what stands at the top.
use Rattle.std.proofs.Common.{◌≡◌, ℕ, suc, ◌-◌, ◌<◌, Bool, true, false, cond, [], ◌∷◌, ◌++◌, map, length, drop, get_or, Option, Some, None, refl, sym, ap, ◌∙◌, arith}
use Rattle.std.specs.Prelude.{filter, slice_get, option_map, bit_or, ◌==◌}
use Rattle.std.specs.Option.{unwrap_or}
use Rattle.std.proofs.lemmas.List.{length-map, map-append, take-append-drop}
use Rattle.std.proofs.lemmas.List.Elements.{filter-append}
use Rattle.std.proofs.lemmas.Option.{slice_get-map, slice_get-get_or}
use Rattle.std.proofs.Math.Seq.{drop-cons}
use Rattle.std.proofs.Math.ListN.{drop_of_length-le}
use Rattle.places.specs.declared.placed.Placed.{Placed}
use Rattle.places.specs.declared.placed.TopId.{TopId}
use Rattle.places.specs.Placed.{placed_at, top_of, top_id, id_of, others_of, top_alone, without, newest_alone, noted, quieted, narrowed, is_kept}
use Rattle.places.specs.Table.{IsTable}
use Rattle.places.proofs.FindLemmas.{found_filter, found_map}
use Rattle.places.proofs.StandLemmas.{top_there, here_is}
use Rattle.places.proofs.MarkLemmas.{keeps_top}
use Rattle.places.proofs.TableLemmas.{unmasked}
use Rattle.layers.specs.declared.versioned.Versioned.{Versioned}
use Rattle.layers.specs.Shelf.{Shelved, held_at, top_held}
use Rattle.layers.proofs.LawLemmas.{last_got, held_there, top_is}

-- ---- other hands
id_unmasked : (o : Option (Placed Versioned)) → option_map id_of (option_map unmasked o) ≡ option_map id_of o
id_unmasked None = refl
id_unmasked (Some e) = refl

held_unmasked : (o : Option (Placed Versioned)) → option_map (λ (e : Placed Versioned). e.held) (option_map unmasked o) ≡ option_map (λ (e : Placed Versioned). e.held) o
held_unmasked None = refl
held_unmasked (Some e) = refl

abbrev no_id : TopId
no_id = record { place = 0; age = 0; depth = 0 }

same_id : (s : Shelved) → top_id (map unmasked s) ≡ top_id s
same_id s =
    let long : length (map unmasked s) - 1 ≡ length s - 1 = ap (λ n. n - 1) (length-map s unmasked) in
    let got : top_of (map unmasked s) ≡ option_map unmasked (top_of s) = ap (slice_get (map unmasked s)) long ∙ slice_get-map unmasked s (length s - 1) in
    ap (λ (o : Option (Placed Versioned)). unwrap_or (option_map id_of o) no_id) got ∙ ap (λ (o : Option TopId). unwrap_or o no_id) (id_unmasked (top_of s))

same_held : (s : Shelved) (p : ℕ) → held_at (map unmasked s) p ≡ held_at s p
same_held s p =
    let found = found_map (λ e. e.place == p) unmasked (λ x. refl) s in
    let held = ap (λ (o : Option (Placed Versioned)). option_map (λ (e : Placed Versioned). e.held) o) found ∙ held_unmasked (placed_at s p) in
    ap (λ (o : Option Versioned). unwrap_or o (record { layers = record { base = []; above = [] }; version = 0 })) held

same_top : (s : Shelved) → top_held (map unmasked s) ≡ top_held s
same_top s = ap (λ (t : TopId). held_at (map unmasked s) t.place) (same_id s) ∙ same_held s (top_id s).place

hands_alone : (s t : Shelved) → map unmasked t ≡ map unmasked s → top_held t ≡ top_held s
hands_alone s t same = sym (same_top t) ∙ (ap top_held same ∙ same_top s)

noted_one : (place hands : ℕ) (e : Placed Versioned) (b : Bool) → unmasked (cond b (record e { mask = bit_or e.mask hands }) e) ≡ unmasked e
noted_one place hands e true = refl
noted_one place hands e false = refl

noted_same : (place hands : ℕ) (s : Shelved) → map unmasked (map (noted place hands) s) ≡ map unmasked s
noted_same place hands [] = refl
noted_same place hands (e ∷ es) = let one = noted_one place hands e (e.place == place) in let rest = noted_same place hands es in cc

without_same : (hands : ℕ) (s : Shelved) → map unmasked (map (without hands) s) ≡ map unmasked s
without_same hands [] = refl
without_same hands (e ∷ es) = ap (λ (l : Shelved). unmasked e ∷ l) (without_same hands es)

newest_same : (s : Shelved) → map unmasked (newest_alone s) ≡ map unmasked s
newest_same [] = refl
newest_same (e ∷ es) = ap (λ (l : Shelved). unmasked e ∷ l) (newest_same es)

others_same : (s us : Shelved) → map unmasked us ≡ map unmasked (others_of s) → map unmasked (us ++ top_alone s) ≡ map unmasked s
others_same s us same =
    map-append unmasked us (top_alone s) ∙ (ap (λ (l : Shelved). l ++ map unmasked (top_alone s)) same
    ∙ (sym (map-append unmasked (others_of s) (top_alone s)) ∙ ap (map unmasked) (take-append-drop (length s - 1) s)))

-- the top stays the one it was
ids_alone : (s t : Shelved) → map unmasked t ≡ map unmasked s → top_id t ≡ top_id s
ids_alone s t same = sym (same_id t) ∙ (ap (λ (l : Shelved). top_id l) same ∙ same_id s)

pub noted_id : (s : Shelved) (place hands : ℕ) → top_id (map (noted place hands) s) ≡ top_id s
noted_id s place hands = ids_alone s (map (noted place hands) s) (noted_same place hands s)

pub quieted_id : (s : Shelved) (hands : ℕ) → top_id (quieted hands s) ≡ top_id s
quieted_id s hands = ids_alone s (quieted hands s) (others_same s (map (without hands) (others_of s)) (without_same hands (others_of s)))

pub narrowed_id : (s : Shelved) → top_id (narrowed s) ≡ top_id s
narrowed_id s = ids_alone s (narrowed s) (others_same s (newest_alone (others_of s)) (newest_same (others_of s)))

pub noted_top : (s : Shelved) (place hands : ℕ) → top_held (map (noted place hands) s) ≡ top_held s
noted_top s place hands = hands_alone s (map (noted place hands) s) (noted_same place hands s)

pub quieted_top : (s : Shelved) (hands : ℕ) → top_held (quieted hands s) ≡ top_held s
quieted_top s hands = hands_alone s (quieted hands s) (others_same s (map (without hands) (others_of s)) (without_same hands (others_of s)))

pub narrowed_top : (s : Shelved) → top_held (narrowed s) ≡ top_held s
narrowed_top s = hands_alone s (narrowed s) (others_same s (newest_alone (others_of s)) (newest_same (others_of s)))

-- ---- fewer places
top_last : (s : Shelved) (e : Placed Versioned) → 0 < length s → top_of s ≡ Some e → s ≡ others_of s ++ e ∷ []
top_last s e some top =
    let at = slice_get-get_or s (length s - 1) e (omega arith) in
    let one : get_or s (length s - 1) e ≡ e = cc in
    let none : drop (suc (length s - 1)) s ≡ [] = drop_of_length-le s {i = suc (length s - 1)} (omega arith) in
    let alone : top_alone s ≡ e ∷ [] = drop-cons s (length s - 1) e (omega arith) ∙ (ap (λ (x : Placed Versioned). x ∷ drop (suc (length s - 1)) s) one ∙ ap (λ (l : Shelved). e ∷ l) none) in
    sym (take-append-drop (length s - 1) s) ∙ ap (λ (l : Shelved). others_of s ++ l) alone

kept_last : (s : Shelved) → IsTable s → top_of (filter (is_kept s) s) ≡ top_of s
kept_last s is =
    let top = top_there s is.some in
    let e = top.0 in
    let kept = keeps_top s is e top.1 top.2 in
    let alone : filter (is_kept s) (e ∷ []) ≡ e ∷ [] = rw kept refl in
    let split : filter (is_kept s) s ≡ filter (is_kept s) (others_of s) ++ e ∷ [] = ap (filter (is_kept s)) (top_last s e is.some top.2)
    ∙ (filter-append (is_kept s) (others_of s) (e ∷ []) ∙ ap (λ (l : Shelved). filter (is_kept s) (others_of s) ++ l) alone) in
    ap (λ (l : Shelved). top_of l) split ∙ (last_got (filter (is_kept s) (others_of s)) e ∙ sym top.2)

pub collected_id : (s : Shelved) → IsTable s → top_id (filter (is_kept s) s) ≡ top_id s
collected_id s is = ap (λ (o : Option (Placed Versioned)). unwrap_or (option_map id_of o) no_id) (kept_last s is)

pub collected_top : (s : Shelved) → IsTable s → top_held (filter (is_kept s) s) ≡ top_held s
collected_top s is =
    let top = top_there s is.some in
    let e = top.0 in
    let kept = keeps_top s is e top.1 top.2 in
    let here = here_is s is e top.1 in
    let new = ap (held_at (filter (is_kept s) s)) (top_is (filter (is_kept s) s) e (kept_last s is ∙ top.2)) ∙ held_there (filter (is_kept s) s) e.place e (found_filter (λ x. x.place == e.place) (is_kept s) s e here kept) in
    let old = ap (held_at s) (top_is s e top.2) ∙ held_there s e.place e here in
    new ∙ sym old
