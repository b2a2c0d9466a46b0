-- Reads of the nodes after one of them was changed.
use Rattle.std.proofs.Common.{◌≡◌, ◌≢◌, ℕ, zero, suc, ◌≤◌, ◌<◌, List, [], ◌∷◌, ◌++◌, length, Some, None, Option, slice_get, set, refl, ap, ◌∙◌, arith, length-set}
use Rattle.std.proofs.lemmas.Option.{slice_get_within, slice_get_past, same_Some}
use Rattle.splay.specs.Nodes.{with_node}
use Rattle.splay.specs.declared.store.Node.{Node}

-- an element after a write, at its place and elsewhere
pub slice_get-set_same : {X : Type 0} → (xs : List X) (i : ℕ) (y : X) → i < length xs → slice_get (set xs i y) i ≡ Some y
slice_get-set_same [] i y h = absurd (omega arith)
slice_get-set_same (x ∷ xs) zero y h = refl
slice_get-set_same (x ∷ xs) (suc i) y h = slice_get-set_same xs i y (omega arith)

pub slice_get-set_other : {X : Type 0} → (xs : List X) (i j : ℕ) (y : X) → j ≢ i → slice_get (set xs i y) j ≡ slice_get xs j
slice_get-set_other [] i j y h = refl
slice_get-set_other (x ∷ xs) zero zero y h = absurd (h refl)
slice_get-set_other (x ∷ xs) zero (suc j) y h = refl
slice_get-set_other (x ∷ xs) (suc i) zero y h = refl
slice_get-set_other (x ∷ xs) (suc i) (suc j) y h = slice_get-set_other xs i j y (λ e. h (ap suc e))

-- an element after a push, before the new one and at its place
pub slice_get-push : {X : Type 0} (xs : List X) (y : X) (i : ℕ) → i < length xs → slice_get (xs ++ y ∷ []) i ≡ slice_get xs i
slice_get-push [] y i h = absurd (omega arith)
slice_get-push (x ∷ xs) y zero h = refl
slice_get-push (x ∷ xs) y (suc i) h = slice_get-push xs y i (omega arith)

pub slice_get-pushed : {X : Type 0} (xs : List X) (y : X) → slice_get (xs ++ y ∷ []) (length xs) ≡ Some y
slice_get-pushed [] y = refl
slice_get-pushed (x ∷ xs) y = slice_get-pushed xs y

module _ {M V : Type 0} where
  with_node_same_cases : (nodes : List (Node M V)) (i : ℕ) (f : Node M V → Node M V) (n : Node M V) (o : Option (Node M V)) → o ≡ Some n → i < length nodes → slice_get (elim o as (λ _. List (Node M V)) [ None ↦ nodes | Some k ↦ set nodes i (f k) ]) i ≡ Some (f n)
  with_node_same_cases nodes i f n None e h = cc
  with_node_same_cases nodes i f n (Some k) e h = slice_get-set_same nodes i (f k) h ∙ ap (λ z. Some (f z)) (same_Some k n e)

  pub with_node-same : (nodes : List (Node M V)) (i : ℕ) (f : Node M V → Node M V) (n : Node M V) → slice_get nodes i ≡ Some n → slice_get (with_node nodes i f) i ≡ Some (f n)
  with_node-same nodes i f n e = with_node_same_cases nodes i f n (slice_get nodes i) e (slice_get_within nodes i n e)

  with_node_cases : (nodes : List (Node M V)) (i j : ℕ) (f : Node M V → Node M V) (o : Option (Node M V)) → j ≢ i → slice_get (elim o as (λ _. List (Node M V)) [ None ↦ nodes | Some n ↦ set nodes i (f n) ]) j ≡ slice_get nodes j
  with_node_cases nodes i j f None h = refl
  with_node_cases nodes i j f (Some n) h = slice_get-set_other nodes i j (f n) h

  pub with_node-other : (nodes : List (Node M V)) (i j : ℕ) (f : Node M V → Node M V) → j ≢ i → slice_get (with_node nodes i f) j ≡ slice_get nodes j
  with_node-other nodes i j f h = with_node_cases nodes i j f (slice_get nodes i) h

  with_node_past_cases : (nodes : List (Node M V)) (i : ℕ) (f : Node M V → Node M V) (o : Option (Node M V)) → o ≡ None → elim o as (λ _. List (Node M V)) [ None ↦ nodes | Some n ↦ set nodes i (f n) ] ≡ nodes
  with_node_past_cases nodes i f None h = refl
  with_node_past_cases nodes i f (Some n) h = cc

  -- past the end nothing is changed
  pub with_node-past : (nodes : List (Node M V)) (i : ℕ) (f : Node M V → Node M V) → length nodes ≤ i → with_node nodes i f ≡ nodes
  with_node-past nodes i f h = with_node_past_cases nodes i f (slice_get nodes i) (slice_get_past nodes i h)

  with_node_length_cases : (nodes : List (Node M V)) (i : ℕ) (f : Node M V → Node M V) (o : Option (Node M V)) → length (elim o as (λ _. List (Node M V)) [ None ↦ nodes | Some n ↦ set nodes i (f n) ]) ≡ length nodes
  with_node_length_cases nodes i f None = refl
  with_node_length_cases nodes i f (Some n) = length-set nodes i (f n)

  pub length-with_node : (nodes : List (Node M V)) (i : ℕ) (f : Node M V → Node M V) → length (with_node nodes i f) ≡ length nodes
  length-with_node nodes i f = with_node_length_cases nodes i f (slice_get nodes i)
