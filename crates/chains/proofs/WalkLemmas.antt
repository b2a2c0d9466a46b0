-- Places looked for by their points: a walk down from the newest layer.
use Rattle.std.proofs.Common.{◌≡◌, ℕ, ◌+◌, ◌-◌, ◌<◌, ◌≤◌, List, [], ◌∷◌, ◌++◌, length, take, drop, slice_get, Some, true, false, refl, sym, ap, ◌∙◌, subst, arith, append_assoc, length-append}
use Rattle.std.proofs.lemmas.List.{take_at}
use Rattle.points.specs.declared.point.Point.{Point}
use Rattle.points.specs.declared.limits.TheConstants.{MAX_UNITS, MAX_COORD}
use Rattle.points.specs.Point.{IsWithin, point_le, point_lt, traverse, traversal}
use Rattle.points.specs.Place.{extent, point_at}
use Rattle.points.proofs.PointLemmas.{traversal-traverse, point_lt_not_le}
use Rattle.points.proofs.OffsetLemmas.{point_at_later, point_at_lt, point_at_le}
use Rattle.points.proofs.ExtentParts.{point_at_within}
use Rattle.patch.specs.Tagged.{units_of}
use Rattle.patch.proofs.Pieces.{Piece, old_of, new_of}
use Rattle.chains.specs.declared.spot.Spot.{Spot}
use Rattle.chains.specs.declared.overlay.Cut.{Cut}
use Rattle.chains.specs.declared.overlay.Overlay.{Overlay}
use Rattle.chains.specs.declared.lookup.WayDown.{WayDown}
use Rattle.chains.specs.declared.lookup.WayDown.TheVariants.{Put, Below}
use Rattle.chains.specs.Overlay.{IsLaid, AreLaid, end_of, first_kept, first_new, tags_of, text_of_all}
use Rattle.chains.specs.Spots.{ahead, spot_in}
use Rattle.chains.specs.LeadsDown.{LeadsDown}
use Rattle.chains.proofs.LaidLemmas.{text_of_laid}
use Rattle.chains.proofs.StandParts.{blank_spot, starts_at, new_before}
use Rattle.chains.proofs.StretchLemmas.{laid_newest, text_short}
use Rattle.chains.proofs.SpotLemmas.{spot_with, prefix_spot, new_split, new_first, way_put, way_below, way_first, newest_text}

-- a place that isn't behind the point of offset i isn't behind i
at_or_behind : (t : List ℕ) (a : Spot) (i : ℕ) → a.offset ≤ length t → a ≡ spot_in t a.offset → i ≤ length t → point_lt (point_at t i) a.point ≡ false → a.offset ≤ i
at_or_behind t a i fits is within not_before = omega (arith, never)
  where
    never : i < a.offset → ⊥
    never less = let before : point_lt (point_at t i) a.point ≡ true = ap (λ (x : Spot). point_lt (point_at t i) x.point) is ∙ point_at_lt t i a.offset less fits in
        let no : ⊥ = cc in no

before_it : (t : List ℕ) (a : Spot) (i : ℕ) → a.offset ≤ length t → a ≡ spot_in t a.offset → i ≤ length t → point_lt (point_at t i) a.point ≡ true → i < a.offset
before_it t a i fits is within before = omega (arith, never)
  where
    never : a.offset ≤ i → ⊥
    never behind =
        let reached : point_le a.point (point_at t i) ≡ true = ap (λ (x : Spot). point_le x.point (point_at t i)) is ∙ point_at_le t a.offset i behind within in
        let not_reached : point_le a.point (point_at t i) ≡ false = point_lt_not_le (point_at t i) a.point before in
        let no : ⊥ = cc in no

-- a point carried over from one text to another lies as far behind the other's place
carried : (u : List ℕ) (j k : ℕ) (a p : Point) → j ≤ k → p ≡ traverse a (traversal (point_at u k) (point_at u j)) → traverse (point_at u j) (traversal p a) ≡ point_at u k
carried u j k a p order p_is =
    let far : Point = extent (drop j (take k u)) in
    let there : point_at u k ≡ traverse (point_at u j) far = point_at_later u j k order in
    let here : p ≡ traverse a far = p_is ∙ (ap (λ (x : Point). traverse a (traversal x (point_at u j))) there ∙ ap (traverse a) (traversal-traverse (point_at u j) far)) in
    ap (traverse (point_at u j)) (ap (λ (x : Point). traversal x a) here ∙ traversal-traverse a far) ∙ sym there

module _ (s : List ℕ) (o : Overlay) (h : IsLaid s o) where
  -- the ends of a cut are places of the text
  start_spot : (n : ℕ) (c : Cut) → slice_get o.cuts.items n ≡ Some c → (c.new.offset ≤ length (units_of (tags_of s o))) × (c.new ≡ spot_in (units_of (tags_of s o)) c.new.offset)
  start_spot n c e = prefix_spot (units_of (tags_of s o)) (new_of (take n h.pieces) [] ++ first_kept (drop n h.pieces) h.tail) (first_new (drop n h.pieces) ++ (new_first (drop n h.pieces) h.tail).0) c.new
      (new_split s o h n ∙ sym (append_assoc (new_of (take n h.pieces) []) (first_kept (drop n h.pieces) h.tail) (first_new (drop n h.pieces) ++ (new_first (drop n h.pieces) h.tail).0))) (starts_at s o h n c e).new

  end_spot : (n : ℕ) (c : Cut) → 0 < n → slice_get o.cuts.items (n - 1) ≡ Some c → (c.new_end.offset ≤ length (units_of (tags_of s o))) × (c.new_end ≡ spot_in (units_of (tags_of s o)) c.new_end.offset)
  end_spot n c some e = prefix_spot (units_of (tags_of s o)) (new_of (take n h.pieces) []) (first_kept (drop n h.pieces) h.tail ++ (first_new (drop n h.pieces) ++ (new_first (drop n h.pieces) h.tail).0)) c.new_end (new_split s o h n) (new_before s o h n c some e)

  module _ (p : Point) (i : ℕ) (within : i ≤ length (units_of (tags_of s o))) (is : point_at (units_of (tags_of s o)) i ≡ p) where
    not_past : (n : ℕ) → ((d : Cut) → slice_get o.cuts.items n ≡ Some d → point_lt p d.new.point ≡ true) → (d : Cut) → slice_get o.cuts.items n ≡ Some d → i < d.new.offset
    not_past n next d e = let at = start_spot n d e in before_it (units_of (tags_of s o)) d.new i at.0 at.1 within (ap (λ (x : Point). point_lt x d.new.point) is ∙ next d e)

    in_text : i ≤ o.end.offset
    in_text = omega (arith, within, ap length (text_of_laid s o h), ap (λ (x : Spot). x.offset) h.end_is)

    pub point_put : (n : ℕ) (c : Cut) → 0 < n → slice_get o.cuts.items (n - 1) ≡ Some c → point_lt p c.new.point ≡ false → point_lt p c.new_end.point ≡ true → LeadsDown s o i (Put c.new c.text)
    point_put n c some e behind before =
        let start = start_spot (n - 1) c e in
        let stop = end_spot n c some e in
        let less : i < c.new_end.offset = before_it (units_of (tags_of s o)) c.new_end i stop.0 stop.1 within (ap (λ (x : Point). point_lt x c.new_end.point) is ∙ before) in
        way_put s o h n c i some e (at_or_behind (units_of (tags_of s o)) c.new i start.0 start.1 within (ap (λ (x : Point). point_lt x c.new.point) is ∙ behind)) (omega (arith, less))

    pub point_below : (n : ℕ) (c : Cut) → 0 < n → slice_get o.cuts.items (n - 1) ≡ Some c → point_lt p c.new_end.point ≡ false → ((d : Cut) → slice_get o.cuts.items n ≡ Some d → point_lt p d.new.point ≡ true) → LeadsDown s o i (Below c.new_end c.old_end)
    point_below n c some e behind next =
        let stop = end_spot n c some e in
        way_below s o h n c i some e (at_or_behind (units_of (tags_of s o)) c.new_end i stop.0 stop.1 within (ap (λ (x : Point). point_lt x c.new_end.point) is ∙ behind)) (not_past n next) in_text

    pub point_first : (n : ℕ) → n ≡ 0 → ((d : Cut) → slice_get o.cuts.items n ≡ Some d → point_lt p d.new.point ≡ true) → LeadsDown s o i (Below blank_spot blank_spot)
    point_first n none next = way_first s o h n i none (not_past n next) in_text

module _ (base : List ℕ) (os : List Overlay) (o : Overlay) (below : List Overlay) (os_is : os ≡ o ∷ below) (laid : AreLaid base os) (p : Point) (i : ℕ) (is : point_at (text_of_all base os) i ≡ p) where
  point_above : point_at (units_of (tags_of (text_of_all base below) o)) i ≡ p
  point_above = ap (λ (t : List ℕ). point_at t i) (sym (newest_text base os o below os_is laid)) ∙ is

  -- a way that leads to every place with this point leads to this one
  pub leads_here : (w : WayDown) → ((s : List ℕ) → IsLaid s o → (j : ℕ) → j ≤ length (units_of (tags_of s o)) → point_at (units_of (tags_of s o)) j ≡ p → LeadsDown s o j w) → i ≤ length (text_of_all base os)
      → LeadsDown (text_of_all base below) o i w
  leads_here w all within = all (text_of_all base below) (laid_newest base os o below os_is laid) i (omega (arith, within, ap length (newest_text base os o below os_is laid))) point_above

  -- the point in the overlay's text, and the one in the text below
  pub carried_put : (new : Spot) (text : ℕ) (start : Spot) → LeadsDown (text_of_all base below) o i (Put new text) → start ≡ spot_in o.text text
      → (traverse start.point (traversal p new.point) ≡ point_at o.text (text + (i - new.offset))) × IsWithin MAX_COORD (traverse start.point (traversal p new.point))
  carried_put new text start leads start_is =
      let there : traverse start.point (traversal p new.point) ≡ point_at o.text (text + (i - new.offset)) = ap (λ (x : Spot). traverse x.point (traversal p new.point)) start_is
      ∙ carried o.text text (text + (i - new.offset)) new.point p (omega arith) (sym point_above ∙ ap (λ (x : Spot). x.point) leads.2) in
      (there, subst (IsWithin MAX_COORD) (sym there) (point_at_within o.text (text + (i - new.offset)) MAX_COORD (omega (arith, text_short (text_of_all base below) o (laid_newest base os o below os_is laid)))))

  pub carried_below : (new old : Spot) → LeadsDown (text_of_all base below) o i (Below new old)
      → (traverse old.point (traversal p new.point) ≡ point_at (text_of_all base below) (old.offset + (i - new.offset))) × IsWithin MAX_COORD (traverse old.point (traversal p new.point))
  carried_below new old leads =
      let t : List ℕ = text_of_all base below in
      let there : traverse old.point (traversal p new.point) ≡ point_at t (old.offset + (i - new.offset)) = ap (λ (x : Spot). traverse x.point (traversal p new.point)) leads.3
      ∙ carried t old.offset (old.offset + (i - new.offset)) new.point p (omega arith) (sym point_above ∙ (ap (λ (x : Spot). x.point) leads.2 ∙ ap (λ (x : Spot). traverse new.point (traversal (point_at t (old.offset + (i - new.offset))) x.point)) leads.3)) in
      (there, subst (IsWithin MAX_COORD) (sym there) (point_at_within t (old.offset + (i - new.offset)) MAX_COORD (omega (arith, (laid_newest base os o below os_is laid).old_short))))

  -- the place that is reached is the one at offset i
  pub reached_put : (new : Spot) (text : ℕ) (start place : Spot) → LeadsDown (text_of_all base below) o i (Put new text) → start ≡ spot_in o.text text → place ≡ spot_in o.text (text + (i - new.offset)) → ahead new start place ≡ spot_in (text_of_all base os) i
  reached_put new text start place leads start_is place_is = ap (λ (x : Spot). ahead new x place) start_is ∙ (ap (ahead new (spot_in o.text text)) place_is
      ∙ (sym leads.2 ∙ ap (λ (t : List ℕ). spot_in t i) (sym (newest_text base os o below os_is laid))))

  pub reached_below : (new old place : Spot) → LeadsDown (text_of_all base below) o i (Below new old) → place ≡ spot_in (text_of_all base below) (old.offset + (i - new.offset)) → ahead new old place ≡ spot_in (text_of_all base os) i
  reached_below new old place leads place_is = ap (ahead new old) place_is ∙ (sym leads.2 ∙ ap (λ (t : List ℕ). spot_in t i) (sym (newest_text base os o below os_is laid)))

-- a place that was found by its point
pub found_spot : (n i : ℕ) (p : Point) (t : List ℕ) → n ≡ i → point_at t i ≡ p → spot_with n p ≡ spot_in t i
found_spot n i p t at is = ap (λ (m : ℕ). spot_with m p) at ∙ ap (spot_with i) (sym is)
