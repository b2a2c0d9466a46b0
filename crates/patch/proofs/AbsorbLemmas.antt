-- Which changes a replacement absorbs, found with no text but that of the replaced units.
use Rattle.std.proofs.Common.{◌≡◌, ℕ, ◌+◌, ◌<◌, ◌≤◌, List, [], ◌∷◌, ◌++◌, length, take, drop, leb, false, Option, Some, None, refl, sym, ap, ◌∙◌, subst, inl, inr, arith, append_assoc, length-append, length-drop, take-append-drop}
use Rattle.std.proofs.lemmas.List.{append-nil, append_cancel_left, take_at, take_all, take-append-le}
use Rattle.std.proofs.lemmas.Bool.{cases_lt, le-leb, lt-leb, cond-true, cond-false}
use Rattle.points.specs.declared.point.Point.{Point}
use Rattle.points.specs.Point.{traverse, traversal}
use Rattle.points.specs.Place.{extent, offset_of}
use Rattle.points.proofs.PointLemmas.{traverse_assoc, traversal-traverse}
use Rattle.points.proofs.ExtentLemmas.{extent-append}
use Rattle.points.proofs.OffsetLemmas.{offset_of-at, offset_of-nowhere, point_at_same}
use Rattle.patch.specs.Hunk.{Hunk}
use Rattle.patch.specs.Spliced.{Absorption, absorption_made, absorption_step, absorption}
use Rattle.patch.proofs.Pieces.{Piece, new_of, is_none, AllApart, AllApartBehind, AllSome}
use Rattle.patch.proofs.PatchPieces.{hunk_between, shown}
use Rattle.patch.proofs.SplicePieces.{piece, IsAbsorbed, absorbed_tail, absorbed_kept, absorbed_new, absorbed_more, led_on}

-- what is found is what is absorbed, for the changes of these pieces, the first behind the points a and b
pub record IsAbsorption (a b : Point) (ps : List Piece) (tail d : List ℕ) (c : Absorption) : Type 0 where
  pub rest : List Piece
  pub rest_tail : List ℕ
  pub absorbed : IsAbsorbed ps tail (length d) c.mid c.post rest rest_tail
  pub rest_is : c.rest ≡ shown (traverse a (extent c.mid)) (traverse b (extent (d ++ c.post))) rest
  pub apart : AllApart rest
  pub some : AllSome rest

-- lists of which one begins the other
pub shorter : (x y d z : List ℕ) → x ++ y ≡ d ++ z → length d ≤ length x → x ≡ d ++ drop (length d) x
shorter x y d z e le = sym (take-append-drop (length d) x) ∙ ap (λ (xs : List ℕ). xs ++ drop (length d) x) begins
  where
    begins : take (length d) x ≡ d
    begins = sym (take-append-le (length d) x y le) ∙ (ap (take (length d)) e ∙ take_at d z (length d) refl)

pub behind_it : (x y d z : List ℕ) → x ++ y ≡ d ++ z → d ≡ x ++ drop (length x) d → y ≡ drop (length x) d ++ z
behind_it x y d z e d_is = append_cancel_left x y (drop (length x) d ++ z) (e ∙ (ap (λ (xs : List ℕ). xs ++ z) d_is ∙ append_assoc x (drop (length x) d) z))

-- the change isn't reached
pub not_reached : (kept d : List ℕ) → kept ≡ d ++ drop (length d) kept → length d < length kept → offset_of d (extent kept) ≡ None
not_reached kept d kept_is lt = offset_of-nowhere d (extent kept) (λ i within e. apart i within (point_at_same kept i (length kept) (omega arith) (omega arith) (ap extent (same_units i within) ∙ (e ∙ ap extent (sym (take_all (length kept) kept (omega arith)))))))
  where
    same_units : (i : ℕ) → i ≤ length d → take i kept ≡ take i d
    same_units i within = ap (take i) kept_is ∙ take-append-le i d (drop (length d) kept) within

    apart : (i : ℕ) → i ≤ length d → i ≡ length kept → ⊥
    apart i within e = omega arith

pub reached : (kept d : List ℕ) → d ≡ kept ++ drop (length kept) d → length kept ≤ length d → offset_of d (extent kept) ≡ Some (length kept)
reached kept d d_is le = offset_of-at d (extent kept) (length kept) le (ap extent (ap (take (length kept)) d_is ∙ take_at kept (drop (length kept) d) (length kept) refl))

some_kept : (xs : List ℕ) → 0 < length xs → is_none xs ≡ false
some_kept [] lt = absurd (omega arith)
some_kept (u ∷ us) lt = refl

pub extent_two : (a : Point) (x y : List ℕ) → traverse a (extent (x ++ y)) ≡ traverse (traverse a (extent x)) (extent y)
extent_two a x y = ap (traverse a) (extent-append x y) ∙ sym (traverse_assoc a (extent x) (extent y))

module _ (a b : Point) (p : Piece) (ps : List Piece) (tail d z : List ℕ) (apart : AllApart ps) (some_units : AllSome (p ∷ ps)) (text_is : p.kept ++ (p.new ++ new_of ps tail) ≡ d ++ z) where
  h : Hunk
  h = hunk_between (traverse a (extent p.kept)) (traverse b (extent p.kept)) p.old p.new

  -- the change and those behind it, from where the change starts
  row : Point → Point → List Hunk
  row x y = hunk_between x y p.old p.new ∷ shown (traverse x (extent p.old)) (traverse y (extent p.new)) ps

  step_kept : length d < length p.kept → IsAbsorption a b (p ∷ ps) tail d (absorption b d (shown a b (p ∷ ps)))
  unfolding row
  step_kept lt = subst (IsAbsorption a b (p ∷ ps) tail d) (sym (ap (λ (o : Option ℕ). absorption_step o d (hunk_between (traverse a (extent p.kept)) (traverse b (extent p.kept)) p.old p.new) (shown (traverse (traverse a (extent p.kept)) (extent p.old)) (traverse (traverse b (extent p.kept)) (extent p.new)) ps)
      (λ k. absorption (traverse (traverse b (extent p.kept)) (extent p.new)) (drop (length p.new) (drop k d)) (shown (traverse (traverse a (extent p.kept)) (extent p.old)) (traverse (traverse b (extent p.kept)) (extent p.new)) ps))) none))
      record {
        rest = piece (drop (length d) p.kept) p.old p.new ∷ ps;
        rest_tail = tail;
        absorbed = absorbed_kept p ps tail d (drop (length d) p.kept) kept_is;
        rest_is = ap (λ (x : Point). row x (traverse b (extent p.kept))) (way a) ∙ (ap (row (traverse (traverse a (extent d)) (extent (drop (length d) p.kept)))) (way b)
            ∙ ap (λ (xs : List ℕ). row (traverse (traverse a (extent d)) (extent (drop (length d) p.kept))) (traverse (traverse b (extent xs)) (extent (drop (length d) p.kept)))) (sym (append-nil d)));
        apart = (some_kept (drop (length d) p.kept) (omega (arith, length-drop (length d) p.kept)), apart);
        some = some_units;
      }
    where
      kept_is : p.kept ≡ d ++ drop (length d) p.kept
      kept_is = shorter p.kept (p.new ++ new_of ps tail) d z text_is (omega arith)

      none : offset_of d (traversal (traverse b (extent p.kept)) b) ≡ None
      none = ap (offset_of d) (traversal-traverse b (extent p.kept)) ∙ not_reached p.kept d kept_is lt

      way : (x : Point) → traverse x (extent p.kept) ≡ traverse (traverse x (extent d)) (extent (drop (length d) p.kept))
      way x = ap (λ (xs : List ℕ). traverse x (extent xs)) kept_is ∙ extent_two x d (drop (length d) p.kept)

  module _ (le : length p.kept ≤ length d) where
    d_is : d ≡ p.kept ++ drop (length p.kept) d
    d_is = shorter d z p.kept (p.new ++ new_of ps tail) (sym text_is) le

    behind : p.new ++ new_of ps tail ≡ drop (length p.kept) d ++ z
    behind = behind_it p.kept (p.new ++ new_of ps tail) d z text_is d_is

    some : offset_of d (traversal (traverse b (extent p.kept)) b) ≡ Some (length p.kept)
    some = ap (offset_of d) (traversal-traverse b (extent p.kept)) ∙ reached p.kept d d_is le

    begins : take (length p.kept) d ≡ p.kept
    begins = ap (take (length p.kept)) d_is ∙ take_at p.kept (drop (length p.kept) d) (length p.kept) refl

    sizes : length d ≡ length p.kept + length (drop (length p.kept) d)
    sizes = ap length d_is ∙ length-append p.kept (drop (length p.kept) d)

    -- the change's new text is absorbed up to somewhere in it, or to its end
    step_new : length (drop (length p.kept) d) ≤ length p.new → IsAbsorption a b (p ∷ ps) tail d (absorption b d (shown a b (p ∷ ps)))
    step_new within = subst (IsAbsorption a b (p ∷ ps) tail d) (sym computed) record {
      rest = ps;
      rest_tail = tail;
      absorbed = subst (λ (n : ℕ). IsAbsorbed (p ∷ ps) tail n (p.kept ++ p.old) (drop (length (drop (length p.kept) d)) p.new) ps tail) (sym sizes) (absorbed_new p ps tail (drop (length p.kept) d) (drop (length (drop (length p.kept) d)) p.new) new_is);
      rest_is = ap (λ (x : Point). shown x (traverse (traverse b (extent p.kept)) (extent p.new)) ps) (sym (extent_two a p.kept p.old)) ∙ ap (λ (x : Point). shown (traverse a (extent (p.kept ++ p.old))) x ps) (sym (ap (λ (xs : List ℕ). traverse b (extent xs)) whole ∙ extent_two b p.kept p.new));
      apart = apart;
      some = some_units.1;
    }
      where
        hs : List Hunk
        hs = shown (traverse (traverse a (extent p.kept)) (extent p.old)) (traverse (traverse b (extent p.kept)) (extent p.new)) ps

        new_is : p.new ≡ drop (length p.kept) d ++ drop (length (drop (length p.kept) d)) p.new
        new_is = shorter p.new (new_of ps tail) (drop (length p.kept) d) z behind within

        whole : d ++ drop (length (drop (length p.kept) d)) p.new ≡ p.kept ++ p.new
        whole = ap (λ (xs : List ℕ). xs ++ drop (length (drop (length p.kept) d)) p.new) d_is ∙ (append_assoc p.kept (drop (length p.kept) d) (drop (length (drop (length p.kept) d)) p.new) ∙ ap (λ (xs : List ℕ). p.kept ++ xs) (sym new_is))

        computed : absorption b d (shown a b (p ∷ ps)) ≡ absorption_made (p.kept ++ p.old) (drop (length (drop (length p.kept) d)) p.new) (shown (traverse (traverse a (extent p.kept)) (extent p.old)) (traverse (traverse b (extent p.kept)) (extent p.new)) ps)
        computed = ap (λ (o : Option ℕ). absorption_step o d (hunk_between (traverse a (extent p.kept)) (traverse b (extent p.kept)) p.old p.new) (shown (traverse (traverse a (extent p.kept)) (extent p.old)) (traverse (traverse b (extent p.kept)) (extent p.new)) ps)
            (λ k. absorption (traverse (traverse b (extent p.kept)) (extent p.new)) (drop (length p.new) (drop k d)) (shown (traverse (traverse a (extent p.kept)) (extent p.old)) (traverse (traverse b (extent p.kept)) (extent p.new)) ps))) some
            ∙ (cond-true (leb (length (drop (length p.kept) d)) (length p.new)) _ _ (le-leb (length (drop (length p.kept) d)) (length p.new) within)
            ∙ ap (λ (xs : List ℕ). absorption_made (xs ++ p.old) (drop (length (drop (length p.kept) d)) p.new) (shown (traverse (traverse a (extent p.kept)) (extent p.old)) (traverse (traverse b (extent p.kept)) (extent p.new)) ps)) begins)

    -- it is absorbed whole, and more behind it
    step_more : length p.new < length (drop (length p.kept) d) → (r : Absorption) → r ≡ absorption (traverse (traverse b (extent p.kept)) (extent p.new)) (drop (length p.new) (drop (length p.kept) d)) (shown (traverse (traverse a (extent p.kept)) (extent p.old)) (traverse (traverse b (extent p.kept)) (extent p.new)) ps)
        → IsAbsorption (traverse (traverse a (extent p.kept)) (extent p.old)) (traverse (traverse b (extent p.kept)) (extent p.new)) ps tail (drop (length p.new) (drop (length p.kept) d)) r → IsAbsorption a b (p ∷ ps) tail d (absorption b d (shown a b (p ∷ ps)))
    step_more longer r r_is later = subst (IsAbsorption a b (p ∷ ps) tail d) (sym computed) record {
      rest = later.rest;
      rest_tail = later.rest_tail;
      absorbed = subst (λ (n : ℕ). IsAbsorbed (p ∷ ps) tail n (p.kept ++ (p.old ++ r.mid)) r.post later.rest later.rest_tail) (sym all_sizes) (absorbed_more p ps tail (length d2) r.mid r.post later.rest later.rest_tail later.absorbed);
      rest_is = later.rest_is ∙ (ap (λ (x : Point). shown x (traverse (traverse (traverse b (extent p.kept)) (extent p.new)) (extent (d2 ++ r.post))) later.rest) (sym (led_on a p.kept p.old r.mid))
          ∙ ap (λ (x : Point). shown (traverse a (extent (p.kept ++ (p.old ++ r.mid)))) x later.rest) (sym (ap (λ (xs : List ℕ). traverse b (extent xs)) whole ∙ led_on b p.kept p.new (d2 ++ r.post))));
      apart = later.apart;
      some = later.some;
    }
      where
        d2 : List ℕ
        d2 = drop (length p.new) (drop (length p.kept) d)

        d1_is : drop (length p.kept) d ≡ p.new ++ drop (length p.new) (drop (length p.kept) d)
        d1_is = shorter (drop (length p.kept) d) z p.new (new_of ps tail) (sym behind) (omega arith)

        all_sizes : length d ≡ length p.kept + length p.new + length (drop (length p.new) (drop (length p.kept) d))
        all_sizes = omega (arith, sizes, ap length d1_is, length-append p.new (drop (length p.new) (drop (length p.kept) d)))

        whole : d ++ r.post ≡ p.kept ++ (p.new ++ (drop (length p.new) (drop (length p.kept) d) ++ r.post))
        whole = ap (λ (xs : List ℕ). xs ++ r.post) d_is ∙ (append_assoc p.kept (drop (length p.kept) d) r.post ∙ ap (λ (xs : List ℕ). p.kept ++ xs) (ap (λ (xs : List ℕ). xs ++ r.post) d1_is ∙ append_assoc p.new (drop (length p.new) (drop (length p.kept) d)) r.post))

        computed : absorption b d (shown a b (p ∷ ps)) ≡ absorption_made (p.kept ++ (p.old ++ r.mid)) r.post r.rest
        computed = ap (λ (o : Option ℕ). absorption_step o d (hunk_between (traverse a (extent p.kept)) (traverse b (extent p.kept)) p.old p.new) (shown (traverse (traverse a (extent p.kept)) (extent p.old)) (traverse (traverse b (extent p.kept)) (extent p.new)) ps)
            (λ k. absorption (traverse (traverse b (extent p.kept)) (extent p.new)) (drop (length p.new) (drop k d)) (shown (traverse (traverse a (extent p.kept)) (extent p.old)) (traverse (traverse b (extent p.kept)) (extent p.new)) ps))) some
            ∙ (cond-false (leb (length (drop (length p.kept) d)) (length p.new)) _ _ (lt-leb (length (drop (length p.kept) d)) (length p.new) longer)
            ∙ (ap (λ (c : Absorption). absorption_made (take (length p.kept) d ++ (p.old ++ c.mid)) c.post c.rest) (sym r_is)
            ∙ ap (λ (xs : List ℕ). absorption_made (xs ++ (p.old ++ r.mid)) r.post r.rest) begins))

from_apart : (ps : List Piece) → AllApart ps → AllApartBehind ps
from_apart [] apart = tt
from_apart (p ∷ ps) apart = apart.1

-- what is found is what is absorbed
pub absorption_is : (a b : Point) (ps : List Piece) (tail d z : List ℕ) → AllApartBehind ps → AllSome ps → new_of ps tail ≡ d ++ z → IsAbsorption a b ps tail d (absorption b d (shown a b ps))
absorption_is a b [] tail d z apart some_units text_is = record { rest = []; rest_tail = z; absorbed = absorbed_tail tail d z text_is; rest_is = refl; apart = tt; some = tt }
absorption_is a b (p ∷ ps) tail d z apart some_units text_is = elim (cases_lt (length d) (length p.kept)) [
  | inl lt ↦ step_kept a b p ps tail d z apart some_units text_is lt
  | inr le ↦ elim (cases_lt (length p.new) (length (drop (length p.kept) d))) [
    | inr within ↦ step_new a b p ps tail d z apart some_units text_is le within
    | inl longer ↦ step_more a b p ps tail d z apart some_units text_is le longer (absorption (traverse (traverse b (extent p.kept)) (extent p.new)) (drop (length p.new) (drop (length p.kept) d)) (shown (traverse (traverse a (extent p.kept)) (extent p.old)) (traverse (traverse b (extent p.kept)) (extent p.new)) ps)) refl
        (absorption_is (traverse (traverse a (extent p.kept)) (extent p.old)) (traverse (traverse b (extent p.kept)) (extent p.new)) ps tail (drop (length p.new) (drop (length p.kept) d)) z (from_apart ps apart) some_units.1
        (append_cancel_left p.new (new_of ps tail) (drop (length p.new) (drop (length p.kept) d) ++ z) (behind a b p ps tail d z apart some_units text_is le ∙ (ap (λ (xs : List ℕ). xs ++ z) (shorter (drop (length p.kept) d) z p.new (new_of ps tail) (sym (behind a b p ps tail d z apart some_units text_is le)) (omega arith)) ∙ append_assoc p.new (drop (length p.new) (drop (length p.kept) d)) z))))
  ]
]
