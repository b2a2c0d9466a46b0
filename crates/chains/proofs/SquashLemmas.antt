-- All layers above the base as one: offsets that rise through the layers, and how much is put in.
use Rattle.std.proofs.Common.{◌≡◌, ℕ, zero, suc, ◌+◌, ◌-◌, ◌<◌, ◌≤◌, ◌==◌, ◌&&◌, Bool, true, false, cond, List, [], ◌∷◌, ◌++◌, length, take, drop, slice_range, slice_get, option_and_then, nat_le, Option, Some, None, refl, sym, ap, ◌∙◌, subst, arith, length-append, take-append-drop}
use Rattle.std.specs.List.{sum_by}
use Rattle.std.proofs.lemmas.List.{drop-drop, drop_all, length-take-le}
use Rattle.std.proofs.lemmas.List.Sums.{sum_by-append, sum_by-cons}
use Rattle.std.proofs.lemmas.Bool.Decides.{nat_tests}
use Rattle.points.specs.declared.point.Point.{Point}
use Rattle.points.specs.Place.{extent, point_at}
use Rattle.points.specs.declared.limits.TheConstants.{MAX_UNITS}
use Rattle.patch.specs.Hunk.{Hunk, hunk_size}
use Rattle.patch.specs.Tagged.{Tagged, tagged_from, untagged, gap, gaps_from, gaps}
use Rattle.patch.proofs.Pieces.{Piece, old_of, tag_of}
use Rattle.chains.specs.declared.spot.Spot.{Spot}
use Rattle.chains.specs.declared.overlay.Overlay.{Overlay}
use Rattle.chains.specs.declared.weaver.Weaver.{Weaver}
use Rattle.chains.specs.declared.size.LayerSize.{LayerSize}
use Rattle.chains.specs.Layered.{retagged, tags_since, size_of, is_within}
use Rattle.chains.specs.Overlay.{AreLaid, IsLaid, end_of, puts_of, tags_of, tags_above, text_of_all}
use Rattle.chains.specs.Spots.{spot_in}
use Rattle.chains.specs.Stand.{StandsAt, tags_at}
use Rattle.chains.specs.Squash.{IsSquash, CanWeaveStretch}
use Rattle.chains.specs.Weaving.{IsWoven, IsStretch, Follows, Weaves}
use Rattle.chains.proofs.LaidLemmas.{tags_of_laid}
use Rattle.chains.proofs.RetagLemmas.{units_since}
use Rattle.chains.proofs.StretchLemmas.{length-units, stretch_units}
use Rattle.chains.proofs.EditLemmas.{follows_tags, take_more_slice, three_parts}
use Rattle.chains.proofs.SpotLemmas.{spot_taken, spot_with}

-- offsets that rise
no_offset : (j : ℕ) → None ≡ Some j → ⊥
no_offset j e = cc

same_offset : (i j : ℕ) → Some i ≡ Some j → i ≡ j
same_offset i j e = cc

no_unit : (x : ℕ × Option ℕ) → None ≡ Some x → ⊥
no_unit x e = cc

no_tag : (x y : ℕ × Option ℕ) (j : ℕ) → x.1 ≡ None → y.1 ≡ Some j → Some x ≡ Some y → ⊥
no_tag x y j none is e = no_offset j (sym none ∙ (ap (option_and_then (λ (z : ℕ × Option ℕ). z.1)) e ∙ is))

same_tag : (x y : ℕ × Option ℕ) (i j : ℕ) → x.1 ≡ Some i → y.1 ≡ Some j → Some x ≡ Some y → i ≡ j
same_tag x y i j here is e = same_offset i j (sym here ∙ (ap (option_and_then (λ (z : ℕ × Option ℕ). z.1)) e ∙ is))

at_least : (f : Tagged) (m i v j : ℕ) → Follows m f → slice_get f i ≡ Some (v, Some j) → m ≤ j
at_least [] m i v j h e = absurd (no_unit (v, Some j) e)
at_least ((u, None) ∷ f) m zero v j h e = absurd (no_tag (u, None) (v, Some j) j refl refl e)
at_least ((u, None) ∷ f) m (suc i) v j h e = at_least f m i v j h e
at_least ((u, Some k) ∷ f) m zero v j h e = omega (arith, h.0, same_tag (u, Some k) (v, Some j) k j refl refl e)
at_least ((u, Some k) ∷ f) m (suc i) v j h e = omega (arith, h.0, at_least f (k + 1) i v j h.1 e)

-- a later offset is larger
risen : (f : Tagged) (m i l v w j k : ℕ) → Follows m f → i < l → slice_get f i ≡ Some (v, Some j) → slice_get f l ≡ Some (w, Some k) → j + 1 ≤ k
risen [] m i l v w j k h lt e there = absurd (no_unit (v, Some j) e)
risen ((u, None) ∷ f) m zero l v w j k h lt e there = absurd (no_tag (u, None) (v, Some j) j refl refl e)
risen ((u, None) ∷ f) m (suc i) zero v w j k h lt e there = absurd (let no : ⊥ = omega (arith, lt) in no)
risen ((u, None) ∷ f) m (suc i) (suc l) v w j k h lt e there = risen f m i l v w j k h (omega (arith, lt)) e there
risen ((u, Some n) ∷ f) m zero zero v w j k h lt e there = absurd (let no : ⊥ = omega (arith, lt) in no)
risen ((u, Some n) ∷ f) m zero (suc l) v w j k h lt e there = omega (arith, same_tag (u, Some n) (v, Some j) n j refl refl e, at_least f (n + 1) l w k h.1 there)
risen ((u, Some n) ∷ f) m (suc i) zero v w j k h lt e there = absurd (let no : ⊥ = omega (arith, lt) in no)
risen ((u, Some n) ∷ f) m (suc i) (suc l) v w j k h lt e there = risen f (n + 1) i l v w j k h.1 (omega (arith, lt)) e there

follows_unit : (u : ℕ) (rest : Tagged) (m : ℕ) (o : Option (ℕ × Option ℕ)) → Follows m rest → ((v j : ℕ) → o ≡ Some (v, Some j) → (m ≤ j) × Follows (j + 1) rest)
    → Follows m ((u, option_and_then (λ (y : ℕ × Option ℕ). y.1) o) ∷ rest)
follows_unit u rest m None plain got = plain
follows_unit u rest m (Some (v, None)) plain got = plain
follows_unit u rest m (Some (v, Some j)) plain got = got v j refl

-- tags taken from rising ones, at places that rise
follows_retag : (f g : Tagged) (m n : ℕ) → Follows 0 f → Follows n g → ((i v j : ℕ) → n ≤ i → slice_get f i ≡ Some (v, Some j) → m ≤ j) → Follows m (retagged f g)
follows_retag f [] m n rises h least = tt
follows_retag f ((u, None) ∷ g) m n rises h least = follows_retag f g m n rises h least
follows_retag f ((u, Some i) ∷ g) m n rises h least = follows_unit u (retagged f g) m (slice_get f i)
    (follows_retag f g m (i + 1) rises h.1 (λ k v j le e. least k v j (omega (arith, h.0, le)) e))
    (λ v j e. (least i v j h.0 e, follows_retag f g (j + 1) (i + 1) rises h.1 (λ k w l le found. risen f 0 i k v w j l rises (omega (arith, le)) e found)))

pub follows_since : (base : List ℕ) (os : List Overlay) → AreLaid base os → Follows 0 (tags_since base (tags_above base os))
follows_since base [] laid = follows_tags 0 [] base
follows_since base (o ∷ os) laid = follows_retag (tags_since base (tags_above base os)) (tags_of (text_of_all base os) o) 0 0 (follows_since base os laid.1)
    (subst (Follows 0) (sym (tags_of_laid (text_of_all base os) o laid.0)) (follows_tags 0 laid.0.pieces laid.0.tail)) (λ i v j le e. omega arith)

pub since_length : (base : List ℕ) (os : List Overlay) → length (tags_since base (tags_above base os)) ≡ length (text_of_all base os)
since_length base os = sym (length-units (tags_since base (tags_above base os))) ∙ ap length (units_since base (tags_above base os))

-- how many units are put in
abbrev news : Tagged → ℕ
news [] = 0
news ((u, None) ∷ g) = suc (news g)
news ((u, Some i) ∷ g) = news g

news-append : (f g : Tagged) → news (f ++ g) ≡ news f + news g
news-append [] g = omega arith
news-append ((u, None) ∷ f) g = omega (arith, news-append f g)
news-append ((u, Some i) ∷ f) g = news-append f g

news_put : (us : List ℕ) → news (untagged us) ≡ length us
news_put [] = refl
news_put (u ∷ us) = ap suc (news_put us)

news_kept : (i : ℕ) (us : List ℕ) → news (tagged_from i us) ≡ 0
news_kept i [] = refl
news_kept i (u ∷ us) = news_kept (i + 1) us

news_pieces : (i : ℕ) (ps : List Piece) → news (tag_of i ps []) ≡ length (puts_of ps)
news_pieces i [] = refl
news_pieces i (p ∷ ps) = let rest : Tagged = tag_of (i + length p.kept + length p.old) ps [] in
    omega (arith, news-append (tagged_from i p.kept) (untagged p.new ++ rest), news_kept i p.kept, news-append (untagged p.new) rest, news_put p.new, news_pieces (i + length p.kept + length p.old) ps, length-append p.new (puts_of ps))

news_woven : (s : List ℕ) (g : Tagged) (w : Weaver) → IsWoven s g w → length w.text ≡ news g
news_woven s g w h = let kept : Tagged = tagged_from (length (old_of h.pieces [])) h.kept in
    omega (
      arith,
      ap length h.puts_are,
      length-append (puts_of h.pieces) h.new,
      ap news h.tags_are,
      news-append (tag_of 0 h.pieces []) (kept ++ untagged h.new),
      news-append kept (untagged h.new),
      news_pieces 0 h.pieces,
      news_kept (length (old_of h.pieces [])) h.kept,
      news_put h.new,
    )

-- the gaps have them all
both_none : (a b : ℕ) → ((a == 0) && (b == 0)) ≡ true → b ≡ 0
both_none a b e = grind (arith, nat_tests)

one_gap : (b : Bool) (h : Hunk) (n : ℕ) → (b ≡ true → n ≡ 0) → n ≤ hunk_size h → n ≤ sum_by hunk_size (cond b [] (h ∷ []))
one_gap true h n none size = omega (arith, none refl)
one_gap false h n none size = omega (arith, size, sum_by-cons hunk_size h [])

gap_news : (s : List ℕ) (i j : ℕ) (before t : List ℕ) → length t ≤ sum_by hunk_size (gap s i j before t)
gap_news s i j before t =
    let h : Hunk = record { old_start = point_at s i; old_end = point_at s j; new_start = extent before; new_end = extent (before ++ t); old_text = slice_range s i j; new_text = t } in
    one_gap ((length (slice_range s i j) == 0) && (length t == 0)) h (length t) (both_none (length (slice_range s i j)) (length t)) (omega arith)

gaps_news : (s : List ℕ) (i : ℕ) (before t : List ℕ) (g : Tagged) → length t + news g ≤ sum_by hunk_size (gaps_from s i before t g)
gaps_news s i before t [] = omega (arith, gap_news s i (length s) before t)
gaps_news s i before t ((u, None) ∷ g) = omega (arith, gaps_news s i before (t ++ u ∷ []) g, length-append t (u ∷ []))
gaps_news s i before t ((u, Some j) ∷ g) = omega (
  arith,
  gap_news s i j before t,
  gaps_news s (j + 1) (before ++ t ++ u ∷ []) [] g,
  sum_by-append hunk_size (gap s i j before t) (gaps_from s (j + 1) (before ++ t ++ u ∷ []) [] g),
)

past : (a b : ℕ) → 65536 < b → (nat_le a 512 && nat_le b 65536) ≡ false
past a b lt = grind (arith, nat_tests)

-- a stretch that puts in too much makes the whole too large
pub too_large : (base us : List ℕ) (whole left : Tagged) (w : Weaver) → Weaves base whole (untagged us ++ left) w → 65536 < length w.text + length us → is_within 512 65536 (size_of base whole) ≡ false
too_large base us whole left w h lt = past (length (gaps base whole)) (sum_by hunk_size (gaps base whole)) (omega (
  arith,
  lt,
  gaps_news base 0 [] [] whole,
  ap news h.whole_is,
  news-append h.done (untagged us ++ left),
  news-append (untagged us) left,
  news_put us,
  news_woven base h.done w h.woven,
))

-- the walk over the stretches
pub stretch_next : {X : Type 0} (x : List X) (at n : ℕ) → drop at x ≡ slice_range x at (at + n) ++ drop (at + n) x
stretch_next {X} x at n = let e : n ≡ at + n - at = omega arith in sym (take-append-drop n (drop at x))
    ∙ (ap (λ (m : ℕ). take m (drop at x) ++ drop n (drop at x)) e ∙ ap (λ (ys : List X). slice_range x at (at + n) ++ ys) (drop-drop n at x))

module _ (base : List ℕ) (os : List Overlay) where
  pub weaves_start : (w : Weaver) → AreLaid base os → length base ≤ MAX_UNITS → length (text_of_all base os) ≤ MAX_UNITS → IsWoven base [] w → w.at_old.offset ≡ 0
      → Weaves base (tags_since base (tags_above base os)) (tags_since base (tags_above base os)) w
  weaves_start w laid base_short short woven at = record {
    done = [];
    whole_is = refl;
    woven = woven;
    follows = subst (λ (n : ℕ). Follows n (tags_since base (tags_above base os))) (sym at) (follows_since base os laid);
    short = omega (arith, since_length base os, short);
    short_text = base_short;
  }

  -- at the end of the text nothing is left
  pub weaves_end : (at : ℕ) (w : Weaver) → length (text_of_all base os) ≤ at → Weaves base (tags_since base (tags_above base os)) (drop at (tags_since base (tags_above base os))) w
      → Weaves base (tags_since base (tags_above base os)) [] w
  weaves_end at w le h = let whole : Tagged = tags_since base (tags_above base os) in
      subst (λ (g : Tagged). Weaves base whole g w) (drop_all at whole (omega (arith, le, since_length base os))) h

  -- the stretch that is next, and what is left behind it
  module _ (us : List ℕ) (where_ : Option ℕ) (at : ℕ) (w : Weaver) (tags : slice_range (tags_since base (tags_above base os)) at (at + length us) ≡ tags_at us where_) where
    pub weaves_next : Weaves base (tags_since base (tags_above base os)) (drop at (tags_since base (tags_above base os))) w
        → Weaves base (tags_since base (tags_above base os)) (tags_at us where_ ++ drop (at + length us) (tags_since base (tags_above base os))) w
    weaves_next h = let whole : Tagged = tags_since base (tags_above base os) in
        subst (λ (g : Tagged). Weaves base whole g w) (stretch_next whole at (length us) ∙ ap (λ (g : Tagged). g ++ drop (at + length us) whole) tags) h

    pub can_weave : (from to : Spot) → at + length us ≤ length (text_of_all base os) → from ≡ spot_in (text_of_all base os) at → to ≡ spot_in (text_of_all base os) (at + length us) → StandsAt base us where_
        → Weaves base (tags_since base (tags_above base os)) (drop at (tags_since base (tags_above base os))) w → CanWeaveStretch base us where_ from to w
    can_weave from to within from_is to_is stands h = record {
      front = take at t;
      whole = tags_since base (tags_above base os);
      left = drop (at + length us) (tags_since base (tags_above base os));
      from_is = from_is ∙ spot_taken t at (omega (arith, within));
      to_is = to_is ∙ (spot_taken t (at + length us) within ∙ ap end_of (take_more_slice at (at + length us) t (omega arith)
          ∙ ap (λ (xs : List ℕ). take at t ++ xs) (stretch_units base (tags_above base os) us where_ at (at + length us) tags)));
      stands = stands;
      weaves = weaves_next h;
    }
      where
        t : List ℕ
        t = text_of_all base os

-- a stretch of the base
module _ (base us : List ℕ) (k : ℕ) (from to : Spot) (stands : StandsAt base us (Some k)) where
  pub kept_stretch : from ≡ spot_in base k → to ≡ spot_in base (k + length us) → IsStretch base (take k base) us from to
  kept_stretch from_is to_is = record {
    behind = drop (k + length us) base;
    text_is = three_parts k (k + length us) base (omega arith) ∙ ap (λ (xs : List ℕ). take k base ++ (xs ++ drop (k + length us) base)) (sym stands.1);
    from_is = from_is ∙ spot_taken base k (omega (arith, stands.0));
    to_is = to_is ∙ (spot_taken base (k + length us) stands.0 ∙ ap end_of (take_more_slice k (k + length us) base (omega arith) ∙ ap (λ (xs : List ℕ). take k base ++ xs) (sym stands.1)));
  }

  pub kept_weaves : (whole left : Tagged) (w : Weaver) → Weaves base whole (tagged_from k us ++ left) w → Weaves base whole (tagged_from (length (take k base)) us ++ left) w
  kept_weaves whole left w h = subst (λ (n : ℕ). Weaves base whole (tagged_from n us ++ left) w) (sym (length-take-le k base (omega (arith, stands.0)))) h

pub end_made : (t : List ℕ) (n : ℕ) (p : Point) → n ≡ length t → p ≡ extent t → spot_with n p ≡ end_of t
end_made t n p at is = ap (λ (m : ℕ). spot_with m p) at ∙ ap (spot_with (length t)) is

-- a finished layer, by its size
within_both : (a b : ℕ) → a ≤ 512 → b ≤ 65536 → (nat_le a 512 && nat_le b 65536) ≡ true
within_both a b few little = grind (arith, nat_tests)

past_first : (a b : ℕ) → 512 < a → (nat_le a 512 && nat_le b 65536) ≡ false
past_first a b lt = grind (arith, nat_tests)

module _ (base : List ℕ) (whole : Tagged) (o : Overlay) (z : LayerSize) (tags : tags_of base o ≡ whole) (size : z ≡ size_of base (tags_of base o)) where
  by_size : (b : Bool) → is_within 512 65536 z ≡ b → is_within 512 65536 (size_of base whole) ≡ b
  by_size b is = ap (λ (g : Tagged). is_within 512 65536 (size_of base g)) (sym tags) ∙ (ap (is_within 512 65536) (sym size) ∙ is)

  pub small_layer : IsLaid base o → z.changes ≤ 512 → z.units ≤ 65536 → IsSquash base whole (Some o)
  small_layer laid few little = (laid, tags, by_size true (within_both z.changes z.units few little))

  pub many_changes : 512 < z.changes → IsSquash base whole None
  many_changes lt = by_size false (past_first z.changes z.units lt)

  pub many_units : 65536 < z.units → IsSquash base whole None
  many_units lt = by_size false (past z.changes z.units lt)
