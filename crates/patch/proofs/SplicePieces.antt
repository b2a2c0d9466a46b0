-- One replacement in a tagged text made of pieces: the pieces up to it stay, those that it absorbs become one, and those behind it stay.
use Rattle.std.proofs.Common.{◌≡◌, ℕ, suc, ◌+◌, List, [], ◌∷◌, ◌++◌, length, take, drop, map, cond, Bool, true, false, Some, None, refl, sym, ap, ◌∙◌, arith, append_assoc, length-append}
use Rattle.std.proofs.lemmas.List.{append-nil, drop_at, take-append-le}
use Rattle.points.specs.declared.point.Point.{Point}
use Rattle.points.specs.Point.{origin, traverse, traversal}
use Rattle.points.specs.Place.{extent}
use Rattle.points.proofs.PointLemmas.{traverse_origin, traverse_assoc, traversal-traverse}
use Rattle.points.proofs.ExtentLemmas.{extent-append}
use Rattle.patch.specs.Hunk.{Hunk}
use Rattle.patch.specs.Tagged.{Tagged, tagged_from, untagged, edited, gaps}
use Rattle.patch.specs.Spliced.{change_at, moved_hunk}
use Rattle.patch.proofs.Pieces.{Piece, old_of, new_of, tag_of, changes_of, is_none, AllApart, gaps_of_pieces}
use Rattle.patch.proofs.PatchPieces.{hunk_with, hunk_between, shown}

abbrev pub piece : List ℕ → List ℕ → List ℕ → Piece
piece kept old new = record { kept = kept; old = old; new = new }

-- pieces in a row
pub old-append : (f : List Piece) (q : List Piece) (tail : List ℕ) → old_of (f ++ q) tail ≡ old_of f [] ++ old_of q tail
old-append [] q tail = refl
old-append (p ∷ f) q tail = ap (λ (xs : List ℕ). p.kept ++ (p.old ++ xs)) (old-append f q tail)
    ∙ sym (append_assoc p.kept (p.old ++ old_of f []) (old_of q tail) ∙ ap (λ (xs : List ℕ). p.kept ++ xs) (append_assoc p.old (old_of f []) (old_of q tail)))

pub tag-append : (i : ℕ) (f : List Piece) (q : List Piece) (tail : List ℕ) → tag_of i (f ++ q) tail ≡ tag_of i f [] ++ tag_of (i + length (old_of f [])) q tail
tag-append i [] q tail = ap (λ (n : ℕ). tag_of n q tail) (omega arith)
tag-append i (p ∷ f) q tail = let k : ℕ = i + length p.kept + length p.old in
    ap (λ (g : Tagged). tagged_from i p.kept ++ (untagged p.new ++ g)) (tag-append k f q tail ∙ ap (λ (n : ℕ). tag_of k f [] ++ tag_of n q tail) (omega (arith, length-append p.kept (p.old ++ old_of f []), length-append p.old (old_of f []))))
    ∙ sym (append_assoc (tagged_from i p.kept) (untagged p.new ++ tag_of k f []) G ∙ ap (λ (g : Tagged). tagged_from i p.kept ++ g) (append_assoc (untagged p.new) (tag_of k f []) G))
  where
    G : Tagged
    G = tag_of (i + length (p.kept ++ (p.old ++ old_of f []))) q tail

pub tagged-append : (i : ℕ) (a b : List ℕ) → tagged_from i (a ++ b) ≡ tagged_from i a ++ tagged_from (i + length a) b
tagged-append i [] b = ap (λ (n : ℕ). tagged_from n b) (omega arith)
tagged-append i (u ∷ a) b = ap (λ (g : Tagged). (u, Some i) ∷ g) (tagged-append (i + 1) a b ∙ ap (λ (n : ℕ). tagged_from (i + 1) a ++ tagged_from n b) (omega arith))

pub length-tagged : (i : ℕ) (a : List ℕ) → length (tagged_from i a) ≡ length a
length-tagged i [] = refl
length-tagged i (u ∷ a) = ap suc (length-tagged (i + 1) a)

pub length-untagged : (a : List ℕ) → length (untagged a) ≡ length a
length-untagged [] = refl
length-untagged (u ∷ a) = ap suc (length-untagged a)

pub untagged-append : (a b : List ℕ) → untagged (a ++ b) ≡ untagged a ++ untagged b
untagged-append [] b = refl
untagged-append (u ∷ a) b = ap (λ (g : Tagged). (u, None) ∷ g) (untagged-append a b)

-- pieces whose first part, `kept` and the new units `pre`, stands before a place: the pieces `front` before it, and the pieces from it on,
-- the first of which has its whole new text, of which `pre` is the beginning
pub record IsOpened (ps : List Piece) (tail : List ℕ) (front : List Piece) (kept pre : List ℕ) (rest : List Piece) (rest_tail : List ℕ) : Type 0 where
  pub old_is : old_of ps tail ≡ old_of front [] ++ (kept ++ old_of rest rest_tail)
  pub tag_is : (i : ℕ) → tag_of i ps tail ≡ tag_of i front [] ++ (tagged_from (i + length (old_of front [])) kept ++ tag_of (i + length (old_of front []) + length kept) rest rest_tail)

-- pieces of which `mid` is absorbed: `over` is the absorbed tagged text, and `post` the new units of the last absorbed piece that stand behind it
pub record IsAbsorbed (ps : List Piece) (tail : List ℕ) (size : ℕ) (mid post : List ℕ) (rest : List Piece) (rest_tail : List ℕ) : Type 0 where
  pub old_is : old_of ps tail ≡ mid ++ old_of rest rest_tail
  pub over : ℕ → Tagged
  pub over_size : (i : ℕ) → length (over i) ≡ size
  pub tag_is : (i : ℕ) → tag_of i ps tail ≡ over i ++ (untagged post ++ tag_of (i + length mid) rest rest_tail)

-- nothing behind the absorbed units is touched
pub absorbed_tail : (tail d z : List ℕ) → tail ≡ d ++ z → IsAbsorbed [] tail (length d) d [] [] z
absorbed_tail tail d z tail_is = record {
  old_is = tail_is;
  over = λ i. tagged_from i d;
  over_size = λ i. length-tagged i d;
  tag_is = λ i. ap (tagged_from i) tail_is ∙ tagged-append i d z;
}

-- the absorbed units end in what is kept before the first piece
pub absorbed_kept : (p : Piece) (ps : List Piece) (tail d z : List ℕ) → p.kept ≡ d ++ z → IsAbsorbed (p ∷ ps) tail (length d) d [] (piece z p.old p.new ∷ ps) tail
absorbed_kept p ps tail d z kept_is = record {
  old_is = ap (λ (xs : List ℕ). xs ++ (p.old ++ old_of ps tail)) kept_is ∙ append_assoc d z (p.old ++ old_of ps tail);
  over = λ i. tagged_from i d;
  over_size = λ i. length-tagged i d;
  tag_is = λ i. ap (λ (xs : List ℕ). tagged_from i xs ++ (untagged p.new ++ tag_of (i + length xs + length p.old) ps tail)) kept_is
      ∙ (ap (λ (g : Tagged). g ++ (untagged p.new ++ tag_of (i + length (d ++ z) + length p.old) ps tail)) (tagged-append i d z)
      ∙ (append_assoc (tagged_from i d) (tagged_from (i + length d) z) (untagged p.new ++ tag_of (i + length (d ++ z) + length p.old) ps tail)
      ∙ ap (λ (n : ℕ). tagged_from i d ++ (tagged_from (i + length d) z ++ (untagged p.new ++ tag_of n ps tail))) (omega (arith, length-append d z))));
}

-- they end in the first piece's new text, or at its end
pub absorbed_new : (p : Piece) (ps : List Piece) (tail d post : List ℕ) → p.new ≡ d ++ post → IsAbsorbed (p ∷ ps) tail (length p.kept + length d) (p.kept ++ p.old) post ps tail
absorbed_new p ps tail d post new_is = record {
  old_is = sym (append_assoc p.kept p.old (old_of ps tail));
  over = λ i. tagged_from i p.kept ++ untagged d;
  over_size = λ i. length-append (tagged_from i p.kept) (untagged d) ∙ omega (arith, length-tagged i p.kept, length-untagged d);
  tag_is = λ i. ap (λ (g : Tagged). tagged_from i p.kept ++ (g ++ tag_of (i + length p.kept + length p.old) ps tail)) (ap untagged new_is ∙ untagged-append d post)
      ∙ (ap (λ (g : Tagged). tagged_from i p.kept ++ g) (append_assoc (untagged d) (untagged post) (tag_of (i + length p.kept + length p.old) ps tail))
      ∙ (sym (append_assoc (tagged_from i p.kept) (untagged d) (untagged post ++ tag_of (i + length p.kept + length p.old) ps tail))
      ∙ ap (λ (n : ℕ). tagged_from i p.kept ++ untagged d ++ (untagged post ++ tag_of n ps tail)) (omega (arith, length-append p.kept p.old))));
}

-- they go on behind it
pub absorbed_more : (p : Piece) (ps : List Piece) (tail : List ℕ) (size : ℕ) (mid post : List ℕ) (rest : List Piece) (rest_tail : List ℕ) → IsAbsorbed ps tail size mid post rest rest_tail
    → IsAbsorbed (p ∷ ps) tail (length p.kept + length p.new + size) (p.kept ++ (p.old ++ mid)) post rest rest_tail
absorbed_more p ps tail size mid post rest rest_tail h = record {
  old_is = ap (λ (xs : List ℕ). p.kept ++ (p.old ++ xs)) h.old_is ∙ sym (append_assoc p.kept (p.old ++ mid) (old_of rest rest_tail) ∙ ap (λ (xs : List ℕ). p.kept ++ xs) (append_assoc p.old mid (old_of rest rest_tail)));
  over = λ i. tagged_from i p.kept ++ (untagged p.new ++ h.over (i + length p.kept + length p.old));
  over_size = λ i. length-append (tagged_from i p.kept) (untagged p.new ++ h.over (i + length p.kept + length p.old)) ∙ omega (arith, length-append (untagged p.new) (h.over (i + length p.kept + length p.old)), length-tagged i p.kept, length-untagged p.new, h.over_size (i + length p.kept + length p.old));
  tag_is = λ i. ap (λ (g : Tagged). tagged_from i p.kept ++ (untagged p.new ++ g)) (h.tag_is (i + length p.kept + length p.old) ∙ ap (λ (n : ℕ). h.over (i + length p.kept + length p.old) ++ (untagged post ++ tag_of n rest rest_tail)) (omega (arith, length-append p.kept (p.old ++ mid), length-append p.old mid)))
      ∙ sym (append_assoc (tagged_from i p.kept) (untagged p.new ++ h.over (i + length p.kept + length p.old)) (untagged post ++ tag_of (i + length (p.kept ++ (p.old ++ mid))) rest rest_tail)
      ∙ ap (λ (g : Tagged). tagged_from i p.kept ++ g) (append_assoc (untagged p.new) (h.over (i + length p.kept + length p.old)) (untagged post ++ tag_of (i + length (p.kept ++ (p.old ++ mid))) rest rest_tail)));
}

pub length-tag : (i : ℕ) (ps : List Piece) (tail : List ℕ) → length (tag_of i ps tail) ≡ length (new_of ps tail)
length-tag i [] tail = length-tagged i tail
length-tag i (p ∷ ps) tail = let k : ℕ = i + length p.kept + length p.old in
    omega (
      arith,
      length-append (tagged_from i p.kept) (untagged p.new ++ tag_of k ps tail),
      length-append (untagged p.new) (tag_of k ps tail),
      length-tagged i p.kept,
      length-untagged p.new,
      length-tag k ps tail,
      length-append p.kept (p.new ++ new_of ps tail),
      length-append p.new (new_of ps tail),
    )

taken_past : (a b : Tagged) (n : ℕ) → take (length a + n) (a ++ b) ≡ a ++ take n b
taken_past [] b n = let e : 0 + n ≡ n = omega arith in ap (λ (m : ℕ). take m b) e
taken_past (x ∷ a) b n = let e : suc (length a) + n ≡ suc (length a + n) = omega arith in ap (λ (m : ℕ). take m (x ∷ (a ++ b))) e ∙ ap (λ (g : Tagged). x ∷ g) (taken_past a b n)

-- a stretch of tagged text replaced by new units: what stands before it, `pre` among it, and behind it, from `post` on
pub edited_is : (before over after : Tagged) (pre post ins : List ℕ) (j size : ℕ) → j ≡ length before + length pre → length over ≡ length pre + size → take (length pre) over ≡ untagged pre
    → edited (before ++ (over ++ (untagged post ++ after))) j (j + size) ins ≡ before ++ (untagged (pre ++ ins ++ post) ++ after)
edited_is before over after pre post ins j size j_is over_size begins =
    ap (λ (g : Tagged). g ++ untagged ins ++ drop (j + size) (before ++ (over ++ (untagged post ++ after)))) front_is
    ∙ (ap (λ (g : Tagged). before ++ untagged pre ++ untagged ins ++ g) back_is ∙ regroup)
  where
    front_is : take j (before ++ (over ++ (untagged post ++ after))) ≡ before ++ untagged pre
    front_is = ap (λ (n : ℕ). take n (before ++ (over ++ (untagged post ++ after)))) j_is
        ∙ (taken_past before (over ++ (untagged post ++ after)) (length pre)
        ∙ ap (λ (g : Tagged). before ++ g) (take-append-le (length pre) over (untagged post ++ after) (omega (arith, over_size)) ∙ begins))

    back_is : drop (j + size) (before ++ (over ++ (untagged post ++ after))) ≡ untagged post ++ after
    back_is = ap (drop (j + size)) (sym (append_assoc before over (untagged post ++ after))) ∙ drop_at (before ++ over) (untagged post ++ after) (j + size) (length-append before over ∙ omega (arith, over_size, j_is))

    regroup : before ++ untagged pre ++ untagged ins ++ (untagged post ++ after) ≡ before ++ (untagged (pre ++ ins ++ post) ++ after)
    regroup = ap (λ (g : Tagged). g ++ (untagged post ++ after)) (append_assoc before (untagged pre) (untagged ins)) ∙ (append_assoc before (untagged pre ++ untagged ins) (untagged post ++ after)
        ∙ ap (λ (g : Tagged). before ++ g) (sym (append_assoc (untagged pre ++ untagged ins) (untagged post) after) ∙ ap (λ (g : Tagged). g ++ after) (ap (λ (g : Tagged). g ++ untagged post) (sym (untagged-append pre ins)) ∙ sym (untagged-append (pre ++ ins) post))))

-- the gaps after one replacement more: the absorbed pieces, `pre` and `post` of the change's new text beside the new units, have become one
pub gaps_after : (s : List ℕ) (ps : List Piece) (tail : List ℕ) (front : List Piece) (kept pre : List ℕ) (absorbed : List Piece) (absorbed_end : List ℕ) (size : ℕ) (mid post : List ℕ) (rest : List Piece) (rest_tail ins : List ℕ) (j : ℕ)
    → s ≡ old_of ps tail → IsOpened ps tail front kept pre absorbed absorbed_end → (h : IsAbsorbed absorbed absorbed_end (length pre + size) mid post rest rest_tail)
    → ((i : ℕ) → take (length pre) (h.over i) ≡ untagged pre) → j ≡ length (new_of front []) + length kept + length pre
    → gaps s (edited (tag_of 0 ps tail) j (j + size) ins) ≡ changes_of origin origin [] [] (front ++ piece kept mid (pre ++ ins ++ post) ∷ rest)
gaps_after s ps tail front kept pre absorbed absorbed_end size mid post rest rest_tail ins j s_is opened h begins j_is =
    ap (gaps s) (ap (λ (g : Tagged). edited g j (j + size) ins) whole ∙ (edited_is (F ++ K) (h.over k) G pre post ins j size before_size (h.over_size k) (begins k) ∙ (append_assoc F K (untagged (pre ++ ins ++ post) ++ G) ∙ sym made)))
    ∙ gaps_of_pieces s (front ++ piece kept mid (pre ++ ins ++ post) ∷ rest) rest_tail (s_is ∙ (opened.old_is ∙ (ap (λ (xs : List ℕ). old_of front [] ++ (kept ++ xs)) h.old_is ∙ sym (old-append front (piece kept mid (pre ++ ins ++ post) ∷ rest) rest_tail))))
  where
    k : ℕ
    k = 0 + length (old_of front []) + length kept

    F : Tagged
    F = tag_of 0 front []

    K : Tagged
    K = tagged_from (0 + length (old_of front [])) kept

    G : Tagged
    G = tag_of (0 + length (old_of front []) + length kept + length mid) rest rest_tail

    before_size : j ≡ length (tag_of 0 front [] ++ tagged_from (0 + length (old_of front [])) kept) + length pre
    before_size = j_is ∙ omega (arith, length-append (tag_of 0 front []) (tagged_from (0 + length (old_of front [])) kept), length-tag 0 front [], length-tagged (0 + length (old_of front [])) kept)

    whole : tag_of 0 ps tail ≡ tag_of 0 front [] ++ tagged_from (0 + length (old_of front [])) kept ++ (h.over (0 + length (old_of front []) + length kept) ++ (untagged post ++ tag_of (0 + length (old_of front []) + length kept + length mid) rest rest_tail))
    whole = opened.tag_is 0 ∙ (ap (λ (g : Tagged). tag_of 0 front [] ++ (tagged_from (0 + length (old_of front [])) kept ++ g)) (h.tag_is (0 + length (old_of front []) + length kept))
        ∙ sym (append_assoc (tag_of 0 front []) (tagged_from (0 + length (old_of front [])) kept) (h.over (0 + length (old_of front []) + length kept) ++ (untagged post ++ tag_of (0 + length (old_of front []) + length kept + length mid) rest rest_tail))))

    made : tag_of 0 (front ++ piece kept mid (pre ++ ins ++ post) ∷ rest) rest_tail ≡ tag_of 0 front [] ++ (tagged_from (0 + length (old_of front [])) kept ++ (untagged (pre ++ ins ++ post) ++ tag_of (0 + length (old_of front []) + length kept + length mid) rest rest_tail))
    made = tag-append 0 front (piece kept mid (pre ++ ins ++ post) ∷ rest) rest_tail

-- the changes of pieces, each by itself; none for a piece whose two texts are empty
abbrev pub spread : Point → Point → List Piece → List Hunk
spread a b [] = []
spread a b (p ∷ ps) = change_at (traverse a (extent p.kept)) (traverse b (extent p.kept)) p.old p.new
    ++ spread (traverse (traverse a (extent p.kept)) (extent p.old)) (traverse (traverse b (extent p.kept)) (extent p.new)) ps

-- pieces with something kept between them don't join
pub spread_behind : (a b : Point) (old new : List ℕ) (ps : List Piece) → AllApart ps → changes_of a b old new ps ≡ change_at a b old new ++ spread (traverse a (extent old)) (traverse b (extent new)) ps
spread_behind a b old new [] apart = sym (append-nil (change_at a b old new))
spread_behind a b old new (p ∷ ps) apart = at_kept _ _ _ (is_none p.kept) apart.0
    (spread_behind (traverse (traverse a (extent old)) (extent p.kept)) (traverse (traverse b (extent new)) (extent p.kept)) p.old p.new ps apart.1)
  where
    at_kept : (x y z : List Hunk) (n : Bool) → n ≡ false → y ≡ z → cond n x (change_at a b old new ++ y) ≡ change_at a b old new ++ z
    at_kept x y z true e rest = cc
    at_kept x y z false e rest = ap (λ (hs : List Hunk). change_at a b old new ++ hs) rest

pub spread_whole : (p : Piece) (ps : List Piece) → AllApart ps → changes_of origin origin [] [] (p ∷ ps) ≡ spread origin origin (p ∷ ps)
spread_whole p ps apart = at_kept p.kept
  where
    at_kept : (kept : List ℕ) → cond (is_none kept) (changes_of origin origin p.old p.new ps) (change_at origin origin [] [] ++ changes_of (traverse (traverse origin (extent [])) (extent kept)) (traverse (traverse origin (extent [])) (extent kept)) p.old p.new ps)
        ≡ change_at (traverse origin (extent kept)) (traverse origin (extent kept)) p.old p.new ++ spread (traverse (traverse origin (extent kept)) (extent p.old)) (traverse (traverse origin (extent kept)) (extent p.new)) ps
    at_kept [] = spread_behind origin origin p.old p.new ps apart
    at_kept (u ∷ us) = spread_behind (traverse origin (extent (u ∷ us))) (traverse origin (extent (u ∷ us))) p.old p.new ps apart

pub led_on : (a : Point) (x y z : List ℕ) → traverse a (extent (x ++ (y ++ z))) ≡ traverse (traverse (traverse a (extent x)) (extent y)) (extent z)
led_on a x y z = ap (traverse a) (extent-append x (y ++ z) ∙ ap (traverse (extent x)) (extent-append y z)) ∙ (sym (traverse_assoc a (extent x) (traverse (extent y) (extent z))) ∙ sym (traverse_assoc (traverse a (extent x)) (extent y) (extent z)))

pub spread-append : (a b : Point) (f q : List Piece) → spread a b (f ++ q) ≡ spread a b f ++ spread (traverse a (extent (old_of f []))) (traverse b (extent (new_of f []))) q
spread-append a b [] q = ap (λ (x : Point). spread x b q) (sym (traverse_origin a)) ∙ ap (λ (x : Point). spread (traverse a origin) x q) (sym (traverse_origin b))
spread-append a b (p ∷ f) q = ap (λ (hs : List Hunk). first ++ hs) (spread-append (traverse (traverse a (extent p.kept)) (extent p.old)) (traverse (traverse b (extent p.kept)) (extent p.new)) f q)
    ∙ (sym (append_assoc first (spread (traverse (traverse a (extent p.kept)) (extent p.old)) (traverse (traverse b (extent p.kept)) (extent p.new)) f) (spread (traverse (traverse (traverse a (extent p.kept)) (extent p.old)) (extent (old_of f []))) (traverse (traverse (traverse b (extent p.kept)) (extent p.new)) (extent (new_of f []))) q))
    ∙ (ap (λ (x : Point). (first ++ spread (traverse (traverse a (extent p.kept)) (extent p.old)) (traverse (traverse b (extent p.kept)) (extent p.new)) f) ++ spread x (traverse (traverse (traverse b (extent p.kept)) (extent p.new)) (extent (new_of f []))) q) (sym (led_on a p.kept p.old (old_of f [])))
    ∙ ap (λ (x : Point). (first ++ spread (traverse (traverse a (extent p.kept)) (extent p.old)) (traverse (traverse b (extent p.kept)) (extent p.new)) f) ++ spread (traverse a (extent (p.kept ++ (p.old ++ old_of f [])))) x q) (sym (led_on b p.kept p.new (new_of f [])))))
  where
    first : List Hunk
    first = change_at (traverse a (extent p.kept)) (traverse b (extent p.kept)) p.old p.new

-- the changes of pieces behind a place that has moved
pub shown_moved : (from to : Point) (a way : Point) (ps : List Piece) → shown a (traverse to way) ps ≡ map (moved_hunk from to) (shown a (traverse from way) ps)
shown_moved from to a way [] = refl
shown_moved from to a way (p ∷ ps) = ap (λ (h : Hunk). h ∷ shown a2 (traverse (traverse (traverse to way) (extent p.kept)) (extent p.new)) ps) here
    ∙ ap (λ (hs : List Hunk). moved_hunk from to (hunk_between (traverse a (extent p.kept)) (traverse (traverse from way) (extent p.kept)) p.old p.new) ∷ hs)
    (ap (λ (x : Point). shown a2 x ps) (far to) ∙ (shown_moved from to a2 (traverse (traverse way (extent p.kept)) (extent p.new)) ps ∙ ap (λ (x : Point). map (moved_hunk from to) (shown a2 x ps)) (sym (far from))))
  where
    a2 : Point
    a2 = traverse (traverse a (extent p.kept)) (extent p.old)

    near_ : (x : Point) → traverse (traverse x way) (extent p.kept) ≡ traverse x (traverse way (extent p.kept))
    near_ x = traverse_assoc x way (extent p.kept)

    far : (x : Point) → traverse (traverse (traverse x way) (extent p.kept)) (extent p.new) ≡ traverse x (traverse (traverse way (extent p.kept)) (extent p.new))
    far x = ap (λ (y : Point). traverse y (extent p.new)) (near_ x) ∙ traverse_assoc x (traverse way (extent p.kept)) (extent p.new)

    same_way : (x y : Point) → x ≡ traverse from y → traverse to y ≡ traverse to (traversal x from)
    same_way x y e = ap (traverse to) (sym (ap (λ (z : Point). traversal z from) e ∙ traversal-traverse from y))

    here : hunk_between (traverse a (extent p.kept)) (traverse (traverse to way) (extent p.kept)) p.old p.new ≡ moved_hunk from to (hunk_between (traverse a (extent p.kept)) (traverse (traverse from way) (extent p.kept)) p.old p.new)
    here = ap (λ (x : Point). hunk_with (traverse a (extent p.kept)) (traverse (traverse a (extent p.kept)) (extent p.old)) x (traverse (traverse (traverse to way) (extent p.kept)) (extent p.new)) p.old p.new)
        (near_ to ∙ same_way (traverse (traverse from way) (extent p.kept)) (traverse way (extent p.kept)) (near_ from))
        ∙ ap (λ (x : Point). hunk_with (traverse a (extent p.kept)) (traverse (traverse a (extent p.kept)) (extent p.old)) (traverse to (traversal (traverse (traverse from way) (extent p.kept)) from)) x p.old p.new)
        (far to ∙ same_way (traverse (traverse (traverse from way) (extent p.kept)) (extent p.new)) (traverse (traverse way (extent p.kept)) (extent p.new)) (far from))
