-- One step more of a session, and one of a worker.
use Rattle.std.proofs.Common.{◌≡◌, ℕ, List, [], ◌∷◌, ◌++◌, map, Option, IsPermutation, sym, ap, ◌∙◌, append_assoc, subst, ◌<◌, length, append-nil, length-append, arith}
use Rattle.std.proofs.lemmas.List.Elements.{All-push}
use Rattle.std.proofs.lemmas.List.Sorted.{IsPermutation-sym, IsPermutation-middle, IsPermutation-append_comm, IsPermutation-push_more, IsPermutation-map, length_permutation}
use Rattle.std.proofs.lemmas.List.{map-append, length-map}
use Rattle.handover.specs.declared.rule.Share.{Share}
use Rattle.handover.specs.Accounts.{with_put, with_taken, Learned, ALL_PARTS}
use Rattle.outer.specs.Matcher.{ToldHits}
use Rattle.workers.specs.Tasks.{Request}
use Rattle.workers.specs.declared.done.Done.{Done}
use Rattle.pool.specs.declared.noted.Noted.{Noted}
use Rattle.pool.specs.Sendings.{Sending, queued, noted, sending_of, IsEnded}
use Rattle.pool.specs.Shifts.{HasSent, HasHelped}

module _ {X : Type 0} where
  -- what was sent grows by x, and so does the one part or the other of what it went to
  grows_left : (sent ps ds : List X) (x : X) → IsPermutation sent (ps ++ ds) → IsPermutation (sent ++ x ∷ []) ((ps ++ x ∷ []) ++ ds)
  grows_left sent ps ds x h =
      let mid : IsPermutation (x ∷ (ps ++ ds)) (ps ++ x ∷ ds) = IsPermutation-sym _ _ (IsPermutation-middle ps x ds) in
      let all : IsPermutation (x ∷ (ps ++ ds)) ((ps ++ x ∷ []) ++ ds) = subst (λ (l : List X). IsPermutation (x ∷ (ps ++ ds)) l) (sym (append_assoc ps (x ∷ []) ds)) mid in
      IsPermutation-push_more _ _ _ x h all

  grows_right : (sent ps ds : List X) (x : X) → IsPermutation sent (ps ++ ds) → IsPermutation (sent ++ x ∷ []) (ps ++ (ds ++ x ∷ []))
  grows_right sent ps ds x h =
      let last : IsPermutation (x ∷ (ps ++ ds)) ((ps ++ ds) ++ x ∷ []) = IsPermutation-append_comm (x ∷ []) (ps ++ ds) in
      let all : IsPermutation (x ∷ (ps ++ ds)) (ps ++ (ds ++ x ∷ [])) = subst (λ (l : List X). IsPermutation (x ∷ (ps ++ ds)) l) (append_assoc ps ds (x ∷ [])) last in
      IsPermutation-push_more _ _ _ x h all

module _ {M K : Type 0} (tells : M → Option ToldHits) (taken : K → Option (List ℕ)) (faults : K → ℕ) where
  pub puts : (v : Share (Request M K)) (sent : List (Sending M K)) (dones : List (Done M K)) (x : Request M K) → HasSent tells taken faults v sent dones → HasSent tells taken faults (with_put v x) (sent ++ queued x ∷ []) dones
  puts v sent dones x h =
      record {
        none = h.none;
        once = subst (λ (l : List (Sending M K)). IsPermutation (sent ++ queued x ∷ []) (l ++ map sending_of dones)) (sym (map-append queued v.put (x ∷ []))) (grows_left sent (map queued v.put) (map sending_of dones) (queued x) h.once);
        ended = h.ended;
      }

  pub runs : (v : Share (Request M K)) (sent : List (Sending M K)) (dones : List (Done M K)) (x : Sending M K) (d : Done M K) → sending_of d ≡ x → IsEnded tells taken faults d → HasSent tells taken faults v sent dones → HasSent tells taken faults v (sent ++ x ∷ []) (dones ++ d ∷ [])
  runs v sent dones x d is e h =
      let more : map sending_of (dones ++ d ∷ []) ≡ map sending_of dones ++ x ∷ [] = map-append sending_of dones (d ∷ []) ∙ ap (λ (y : Sending M K). map sending_of dones ++ y ∷ []) is in
      record {
        none = h.none;
        once = subst (λ (l : List (Sending M K)). IsPermutation (sent ++ x ∷ []) (map queued v.put ++ l)) (sym more) (grows_right sent (map queued v.put) (map sending_of dones) x h.once);
        ended = All-push (IsEnded tells taken faults) dones d h.ended e;
      }

  pub takes : (v : Share (Request M K)) (dones : List (Done M K)) (x : Request M K) (d : Done M K) → sending_of d ≡ queued x → IsEnded tells taken faults d → HasHelped tells taken faults v dones → HasHelped tells taken faults (with_taken v x) (dones ++ d ∷ [])
  takes v dones x d is e h =
      record {
        once = map-append sending_of dones (d ∷ []) ∙ (ap (λ (y : Sending M K). map sending_of dones ++ y ∷ []) is ∙ (ap (λ (l : List (Sending M K)). l ++ queued x ∷ []) h.once ∙ sym (map-append queued v.taken (x ∷ []))));
        ended = All-push (IsEnded tells taken faults) dones d h.ended e;
      }

  -- the same of what a port remembers
  pub put_noted : (v w : Share (Request M K)) (xs ys : List (Noted M K)) (dones : List (Done M K)) (x : Request M K) (n : Noted M K) → w ≡ with_put v x → ys ≡ xs ++ n ∷ [] → noted n ≡ queued x → HasSent tells taken faults v (map noted xs) dones → HasSent tells taken faults w (map noted ys) dones
  put_noted v w xs ys dones x n grown more is h =
      let all : map noted ys ≡ map noted xs ++ queued x ∷ [] = ap (map noted) more ∙ (map-append noted xs (n ∷ []) ∙ ap (λ (y : Sending M K). map noted xs ++ y ∷ []) is) in
      subst (λ (l : List (Sending M K)). HasSent tells taken faults w l dones) (sym all)
      (subst (λ (u : Share (Request M K)). HasSent tells taken faults u (map noted xs ++ queued x ∷ []) dones) (sym grown) (puts v (map noted xs) dones x h))

  pub run_noted : (v : Share (Request M K)) (xs ys : List (Noted M K)) (dones after : List (Done M K)) (n : Noted M K) (d : Done M K) → ys ≡ xs ++ n ∷ [] → after ≡ dones ++ d ∷ [] → sending_of d ≡ noted n → IsEnded tells taken faults d → HasSent tells taken faults v (map noted xs) dones → HasSent tells taken faults v (map noted ys) after
  run_noted v xs ys dones after n d more longer is e h =
      let all : map noted ys ≡ map noted xs ++ noted n ∷ [] = ap (map noted) more ∙ map-append noted xs (n ∷ []) in
      subst (λ (l : List (Sending M K)). HasSent tells taken faults v l after) (sym all)
      (subst (λ (l : List (Done M K)). HasSent tells taken faults v (map noted xs ++ noted n ∷ []) l) (sym longer) (runs v (map noted xs) dones (noted n) d is e h))

  -- a worker that ran one task more, and one that found none
  pub took : (v w : Share (Request M K)) (dones after : List (Done M K)) (x : Request M K) (d : Done M K) → w ≡ with_taken v x → after ≡ dones ++ d ∷ [] → sending_of d ≡ queued x → IsEnded tells taken faults d → HasHelped tells taken faults v dones → HasHelped tells taken faults w after
  took v w dones after x d grown longer is e h =
      subst (λ (l : List (Done M K)). HasHelped tells taken faults w l) (sym longer)
      (subst (λ (u : Share (Request M K)). HasHelped tells taken faults u (dones ++ d ∷ [])) (sym grown) (takes v dones x d is e h))

  pub stays : (v w : Share (Request M K)) (dones : List (Done M K)) → w ≡ v → HasHelped tells taken faults v dones → HasHelped tells taken faults w dones
  stays v w dones same h = subst (λ (u : Share (Request M K)). HasHelped tells taken faults u dones) (sym same) h

  -- what was run is as long as what was taken, and what was taken is no longer than what was put
  pub room : (v : Share (Request M K)) (dones : List (Done M K)) (x : Request M K) (w : Share (Request M K)) (items : List (Request M K)) → w ≡ with_taken v x → Learned w items → w.parts ≡ ALL_PARTS → HasHelped tells taken faults v dones → length dones < length v.put
  room v dones x w items grown learned all h =
      let put : w.put ≡ v.put = ap (λ (s : Share (Request M K)). s.put) grown in
      let took : w.taken ≡ v.taken ++ x ∷ [] = ap (λ (s : Share (Request M K)). s.taken) grown in
      let long : length (w.taken ++ items) ≡ length w.put = length_permutation _ _ (learned all) in
      let same : length (map sending_of dones) ≡ length (map queued v.taken) = ap length h.once in
      let a = length-map dones sending_of in
      let b = length-map v.taken queued in
      let d = length-append w.taken items in
      let e : length w.taken ≡ length (v.taken ++ x ∷ []) = ap length took in
      let f = length-append v.taken (x ∷ []) in
      let k : length w.put ≡ length v.put = ap length put in
      grind (arith, long, same, a, b, d, e, f, k)

  -- where nothing is left, each task that was put was run
  pub drained : (v : Share (Request M K)) (dones : List (Done M K)) (items : List (Request M K)) → length items ≡ 0 → Learned v items → v.parts ≡ ALL_PARTS → HasHelped tells taken faults v dones → IsPermutation (map queued v.put) (map sending_of dones)
  drained v dones [] none learned all h =
      let lists : IsPermutation v.put v.taken = subst (λ (l : List (Request M K)). IsPermutation v.put l) (append-nil v.taken) (learned all) in
      subst (λ (l : List (Sending M K)). IsPermutation (map queued v.put) l) (sym h.once) (IsPermutation-map queued _ _ lists)
  drained v dones (x ∷ items) none learned all h = absurd (omega (arith, none))
