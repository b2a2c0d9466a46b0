-- Units taken on their way to a sink: one lot behind the other, puts in between, and faults.
use Rattle.std.proofs.Common.{◌≡◌, ℕ, ◌+◌, ◌-◌, ◌*◌, ◌^◌, ◌<◌, ◌≤◌, min, List, [], ◌++◌, length, take, drop, Option, Some, None, IfSome, IsTrue, cond, Bool, true, false, refl, sym, ap, ◌∙◌, subst, arith, slice_range, get_or, take_all, length-drop, Result, Ok, Err, IfOk, OnErr, OnOk, length-append, append_assoc, append-nil}
use Rattle.std.proofs.Math.Seq.{take-append-add}
use Rattle.std.specs.Option.{option_to_list}
use Rattle.std.specs.Char.Utf16.{is_high_surrogate}
use Rattle.std.proofs.lemmas.List.{take-append-drop, length-take-le}
use Rattle.points.specs.Text.{IsWellFormed}
use Rattle.points.specs.Point.{origin}
use Rattle.points.specs.Place.{extent, splits_pair, line_of, clipped_column, clipped_offset, row_start}
use Rattle.points.specs.declared.point.Point.{Point}
use Rattle.points.proofs.ClipLemmas.{clipped_offset_in, clipped_offset_past}
use Rattle.chains.proofs.EditLemmas.{slice_whole}
use Rattle.outer.specs.Sink.{Appends, AppendsPrefix}
use Rattle.outer.proofs.Appended.{Appends-nil, Appends-append, AppendsPrefix-append, AppendsPrefix-more}
use Rattle.machine.specs.declared.reads.Encoding.{Encoding}
use Rattle.machine.specs.Encodings.{encode}
use Rattle.codecs.specs.Partway.{waiting, completed, behind, IsFront}
use Rattle.codecs.specs.Saving.{Outgoing, ahead, weight, IsSent, IsGiven}
use Rattle.codecs.proofs.Fronts.{parts_of, completed_good, waiting-append, completed-append, completed-all, waits_none, front-append, split_of}
use Rattle.codecs.proofs.Spelled.{encode-append, encode-nil, encode_short}
use Rattle.codecs.proofs.Steps.{behind_nothing}

-- behind what some units completed stand those that come next
behind_both : (o : Option ℕ) (a b : List ℕ) → behind o (a ++ b) ≡ completed (behind o a) ++ behind (waiting (behind o a)) b
behind_both o a b = sym (append_assoc (option_to_list o) a b) ∙ (ap (λ (xs : List ℕ). xs ++ b) (sym (parts_of (behind o a)))
    ∙ append_assoc (completed (behind o a)) (option_to_list (waiting (behind o a))) b)

-- more units than some come to the same as first these and then the others
pub record Later (e : Encoding) (o : Option ℕ) (a b : List ℕ) : Type 0 where
  pub waits : waiting (behind o (a ++ b)) ≡ waiting (behind (waiting (behind o a)) b)
  pub bytes : encode e (completed (behind o (a ++ b))) ≡ encode e (completed (behind o a)) ++ encode e (completed (behind (waiting (behind o a)) b))

front_of : (o : Option ℕ) (a b : List ℕ) → IsFront (behind o (a ++ b)) → IsFront (behind o a)
front_of o a b h = front-append (behind o a) b (subst IsFront (sym (append_assoc (option_to_list o) a b)) h)

pub later : (e : Encoding) (o : Option ℕ) (a b : List ℕ) → IsFront (behind o (a ++ b)) → Later e o a b
later e o a b h =
    let c = completed (behind o a) in
    let x = behind (waiting (behind o a)) b in
    let good = completed_good (behind o a) (front_of o a b h) in
    record {
      waits = ap waiting (behind_both o a b) ∙ waiting-append c x good;
      bytes = ap (λ (xs : List ℕ). encode e (completed xs)) (behind_both o a b) ∙ (ap (encode e) (completed-append c x good) ∙ encode-append e c (completed x) good);
    }

take_two : (at n : ℕ) (xs : List ℕ) → at ≤ length xs → take (at + n) xs ≡ take at xs ++ take n (drop at xs)
take_two at n xs within =
    let k : length (take at xs) + n ≡ at + n = omega (arith, length-take-le at xs within) in
    ap (λ (j : ℕ). take j xs) (sym k) ∙ (ap (λ (ys : List ℕ). take (length (take at xs) + n) ys) (sym (take-append-drop at xs)) ∙ take-append-add (take at xs) (drop at xs) n)

-- what comes next is a front, too
pub front_next : (o : Option ℕ) (a b : List ℕ) → IsFront (behind o (a ++ b)) → IsFront (behind (waiting (behind o a)) b)
front_next o a b h =
    let t = behind o a in
    let w : behind o (a ++ b) ++ h.0 ≡ t ++ (b ++ h.0) = ap (λ (xs : List ℕ). xs ++ h.0) (sym (append_assoc (option_to_list o) a b)) ∙ append_assoc t b h.0 in
    (h.0, subst IsWellFormed (sym (append_assoc (option_to_list (waiting t)) b h.0)) (split_of t (b ++ h.0) (subst IsWellFormed w h.1)).back)

-- no unit was taken
pub sent_none : (o : Outgoing) (taken : Option (List ℕ)) → IfSome o.encoder.waits (λ u. IsTrue (is_high_surrogate u)) → IsSent [] o o taken taken
sent_none o taken high = let none = behind_nothing o.encoder.waits high in record {
  bytes = [];
  parts = ap (λ (xs : List ℕ). o.held ++ xs) (ap (encode o.encoder.encoding) none.1 ∙ encode-nil o.encoder.encoding) ∙ append-nil o.held;
  count = omega arith;
  taken = Appends-nil taken;
  encoding = refl;
  waits = sym none.0;
}

-- what stands before the sink once some units were taken
ahead_next : (a b : List ℕ) (one two : Outgoing) (first between : Option (List ℕ)) (s : IsSent a one two first between) → IsFront (behind one.encoder.waits (a ++ b)) → ahead one (a ++ b) ≡ s.bytes ++ ahead two b
ahead_next a b one two first between s h =
    let e = one.encoder.encoding in
    let o = one.encoder.waits in
    let E = encode e (completed (behind (waiting (behind o a)) b)) in
    let same : E ≡ encode two.encoder.encoding (completed (behind two.encoder.waits b)) =
    ap (λ (x : Encoding). encode x (completed (behind (waiting (behind o a)) b))) (sym s.encoding) ∙ ap (λ (x : Option ℕ). encode two.encoder.encoding (completed (behind x b))) (sym s.waits) in
    ap (λ (xs : List ℕ). one.held ++ xs) (later e o a b h).bytes ∙ (sym (append_assoc one.held (encode e (completed (behind o a))) E)
    ∙ (ap (λ (xs : List ℕ). xs ++ E) s.parts ∙ (append_assoc s.bytes two.held E ∙ ap (λ (xs : List ℕ). s.bytes ++ (two.held ++ xs)) same)))

-- one lot of units behind the other
pub sent_then : (a b : List ℕ) (one two three : Outgoing) (first between last : Option (List ℕ)) → IsSent a one two first between → IsSent b two three between last → IsFront (behind one.encoder.waits (a ++ b))
    → IsSent (a ++ b) one three first last
sent_then a b one two three first between last s r h = record {
  bytes = s.bytes ++ r.bytes;
  parts = ahead_next a b one two first between s h ∙ (ap (λ (xs : List ℕ). s.bytes ++ xs) r.parts ∙ sym (append_assoc s.bytes r.bytes three.held));
  count = omega (arith, s.count, r.count, length-append s.bytes r.bytes);
  taken = Appends-append s.bytes r.bytes first between last s.taken r.taken;
  encoding = r.encoding ∙ s.encoding;
  waits = r.waits ∙ (ap (λ (x : Option ℕ). waiting (behind x b)) s.waits ∙ sym (later one.encoder.encoding one.encoder.waits a b h).waits);
}

-- what was held is put
pub sent_put : (a : List ℕ) (one two three : Outgoing) (first between last : Option (List ℕ)) → IsSent a one two first between → Appends two.held between last
    → three ≡ record { encoder = two.encoder; held = []; put = two.put + length two.held } → IsSent a one three first last
sent_put a one two three first between last s put is = subst (λ (o : Outgoing). IsSent a one o first last) (sym is) (record {
  bytes = s.bytes ++ two.held;
  parts = s.parts ∙ sym (append-nil (s.bytes ++ two.held));
  count = omega (arith, s.count, length-append s.bytes two.held);
  taken = Appends-append s.bytes two.held first between last s.taken put;
  encoding = s.encoding;
  waits = s.waits;
})

-- a fault later on
pub failed_then : (a b : List ℕ) (one two : Outgoing) (first between last : Option (List ℕ)) → IsSent a one two first between → AppendsPrefix (ahead two b) between last → IsFront (behind one.encoder.waits (a ++ b))
    → AppendsPrefix (ahead one (a ++ b)) first last
failed_then a b one two first between last s failed h = subst (λ (xs : List ℕ). AppendsPrefix xs first last) (sym (ahead_next a b one two first between s h))
    (AppendsPrefix-append s.bytes (ahead two b) first between last s.taken failed)

-- a fault as what is held was put
pub failed_held : (o : Outgoing) (b : List ℕ) (before after : Option (List ℕ)) → AppendsPrefix o.held before after → AppendsPrefix (ahead o b) before after
failed_held o b before after failed = AppendsPrefix-more o.held (encode o.encoder.encoding (completed (behind o.encoder.waits b))) before after failed

-- the bytes put, those held and those that wait for their partner are at most four for each unit
pub weight_sent : (a : List ℕ) (one two : Outgoing) (before after : Option (List ℕ)) → IsSent a one two before after → IsFront (behind one.encoder.waits a) → weight two ≤ weight one + 4 * length a
weight_sent a one two before after s h =
    let x = behind one.encoder.waits a in
    let parts = ap length s.parts in
    let all = ap length (parts_of x) in
    let waits : length (option_to_list two.encoder.waits) ≡ length (option_to_list (waiting x)) = ap (λ (o : Option ℕ). length (option_to_list o)) s.waits in
    omega (
      arith,
      parts,
      all,
      waits,
      s.count,
      encode_short one.encoder.encoding (completed x) (completed_good x h),
      length-append one.held (encode one.encoder.encoding (completed x)),
      length-append s.bytes two.held,
      length-append (completed x) (option_to_list (waiting x)),
      length-append (option_to_list one.encoder.waits) a,
    )

-- units taken by a step, with no put
pub record Stepped (a : List ℕ) (one two : Outgoing) : Type 0 where
  pub held : two.held ≡ one.held ++ encode one.encoder.encoding (completed (behind one.encoder.waits a))
  pub put : two.put ≡ one.put
  pub encoding : two.encoder.encoding ≡ one.encoder.encoding
  pub waits : two.encoder.waits ≡ waiting (behind one.encoder.waits a)

pub sent_step : (a : List ℕ) (one two : Outgoing) (taken : Option (List ℕ)) → Stepped a one two → IsSent a one two taken taken
sent_step a one two taken s = record { bytes = []; parts = sym s.held; count = omega (arith, s.put); taken = Appends-nil taken; encoding = s.encoding; waits = s.waits }

pub weight_step : (units : List ℕ) (n : ℕ) (one two : Outgoing) → Stepped (take n units) one two → n ≤ length units → IsFront (behind one.encoder.waits units) → weight one + 4 * length units ≤ 2 ^ 63 → weight two ≤ 2 ^ 63
weight_step units n one two s within h small =
    let a = take n units in
    let front : IsFront (behind one.encoder.waits a) = front_of one.encoder.waits a (drop n units) (subst (λ (xs : List ℕ). IsFront (behind one.encoder.waits xs)) (sym (take-append-drop n units)) h) in
    omega (arith, weight_sent a one two None None (sent_step a one two None s) front, length-take-le n units within)

pub failed_step : (units : List ℕ) (n : ℕ) (one two : Outgoing) (before after : Option (List ℕ)) → Stepped (take n units) one two → IsFront (behind one.encoder.waits units) → AppendsPrefix two.held before after
    → AppendsPrefix (ahead one units) before after
failed_step units n one two before after s h failed =
    subst (λ (xs : List ℕ). AppendsPrefix (ahead one xs) before after) (take-append-drop n units)
    (failed_then (take n units) (drop n units) one two before before after (sent_step (take n units) one two before s) (failed_held two (drop n units) before after failed)
    (subst (λ (xs : List ℕ). IsFront (behind one.encoder.waits xs)) (sym (take-append-drop n units)) h))

pub on_err : {T E : Type 0} (r : Result T E) {P : Type 0} → P → OnErr r P
on_err (Ok x) p = tt
on_err (Err e) p = p

pub on_ok : {T E : Type 0} (r : Result T E) {P : Type 0} → P → OnOk r P
on_ok (Ok x) p = p
on_ok (Err e) p = tt

-- the state of a call of `take` that took some units, and what the next part of it needs
pub record Partial (units : List ℕ) (at : ℕ) (one two : Outgoing) : Type 0 where
  pub front : IsFront (behind two.encoder.waits (drop at units))
  pub small : weight two + 4 * length (drop at units) ≤ 2 ^ 63

pub partial : (units : List ℕ) (at : ℕ) (one two : Outgoing) (before after : Option (List ℕ)) → IsSent (take at units) one two before after → at ≤ length units → IsFront (behind one.encoder.waits units)
    → weight one + 4 * length units ≤ 2 ^ 63 → Partial units at one two
partial units at one two before after s within h small =
    let both : IsFront (behind one.encoder.waits (take at units ++ drop at units)) = subst (λ (xs : List ℕ). IsFront (behind one.encoder.waits xs)) (sym (take-append-drop at units)) h in
    record {
      front = subst (λ (o : Option ℕ). IsFront (behind o (drop at units))) (sym s.waits) (front_next one.encoder.waits (take at units) (drop at units) both);
      small = omega (arith, weight_sent (take at units) one two before after s (front_of one.encoder.waits (take at units) (drop at units) both), length-take-le at units within, length-drop at units);
    }

pub sent_more : (units : List ℕ) (at n : ℕ) (one two three : Outgoing) (first between last : Option (List ℕ)) → IsSent (take at units) one two first between → IsSent (take n (drop at units)) two three between last
    → at ≤ length units → IsFront (behind one.encoder.waits units) → IsSent (take (at + n) units) one three first last
sent_more units at n one two three first between last s r within h =
    let both : take (at + n) units ≡ take at units ++ take n (drop at units) = take_two at n units within in
    let front : IsFront (behind one.encoder.waits (take (at + n) units)) = front_of one.encoder.waits (take (at + n) units) (drop (at + n) units)
    (subst (λ (xs : List ℕ). IsFront (behind one.encoder.waits xs)) (sym (take-append-drop (at + n) units)) h) in
    subst (λ (xs : List ℕ). IsSent xs one three first last) (sym both) (sent_then (take at units) (take n (drop at units)) one two three first between last s r (subst (λ (xs : List ℕ). IsFront (behind one.encoder.waits xs)) both front))

pub failed_more : (units : List ℕ) (at : ℕ) (one two : Outgoing) (first between last : Option (List ℕ)) → IsSent (take at units) one two first between → IsFront (behind one.encoder.waits units)
    → AppendsPrefix (ahead two (drop at units)) between last → AppendsPrefix (ahead one units) first last
failed_more units at one two first between last s h failed =
    subst (λ (xs : List ℕ). AppendsPrefix (ahead one xs) first last) (take-append-drop at units)
    (failed_then (take at units) (drop at units) one two first between last s failed (subst (λ (xs : List ℕ). IsFront (behind one.encoder.waits xs)) (sym (take-append-drop at units)) h))

-- at the start nothing was taken
pub given_none : (text : List ℕ) (e : Encoding) (taken : Option (List ℕ)) → IsGiven text e text (record { encoder = record { encoding = e; waits = None }; held = []; put = 0 }) taken taken
given_none text e taken = record { given = []; whole = refl; sent = sent_none _ taken tt }

waiting_high : (t : List ℕ) → IfSome (waiting t) (λ u. IsTrue (is_high_surrogate u))
waiting_high t = by (is_high_surrogate (get_or t (length t - 1) 0)) refl
  where
    by : (b : Bool) → is_high_surrogate (get_or t (length t - 1) 0) ≡ b → IfSome (cond b (Some (get_or t (length t - 1) 0)) None) (λ u. IsTrue (is_high_surrogate u))
    by true high = high
    by false low = tt

-- a text with no more than so many units, of which the next are these
module _ (text : List ℕ) (e : Encoding) (piece rest : List ℕ) (out : Outgoing) (before between : Option (List ℕ)) (s : IsGiven text e (piece ++ rest) out before between) (good : IsWellFormed text) where
  abbrev zero_out : Outgoing
  zero_out = record { encoder = record { encoding = e; waits = None }; held = []; put = 0 }

  both_front : IsFront (behind None (s.given ++ piece))
  both_front = (rest, subst IsWellFormed (sym (append_assoc s.given piece rest ∙ s.whole)) good)

  pub next_front : IsFront (behind out.encoder.waits piece)
  next_front = subst (λ (o : Option ℕ). IsFront (behind o piece)) (sym s.sent.waits) (front_next None s.given piece both_front)

  pub next_high : IfSome out.encoder.waits (λ u. IsTrue (is_high_surrogate u))
  next_high = subst (λ (o : Option ℕ). IfSome o (λ u. IsTrue (is_high_surrogate u))) (sym s.sent.waits) (waiting_high (behind None s.given))

  pub next_small : (n : ℕ) → length text ≤ n → 4 * n ≤ 2 ^ 63 → weight out + 4 * length piece ≤ 2 ^ 63
  next_small n short few = let whole = ap length s.whole in
      omega (arith, short, few, whole, weight_sent s.given zero_out out before between s.sent (front_of None s.given piece both_front), length-append s.given (piece ++ rest), length-append piece rest)

  pub next_given : (new : Outgoing) (after : Option (List ℕ)) → IsSent piece out new between after → IsGiven text e rest new before after
  next_given new after r = record { given = s.given ++ piece; whole = append_assoc s.given piece rest ∙ s.whole; sent = sent_then s.given piece zero_out out new before between after s.sent r both_front }

  pub next_failed : (after : Option (List ℕ)) → AppendsPrefix (ahead out piece) between after → AppendsPrefix (encode e text) before after
  next_failed after failed =
      let whole : (s.given ++ piece) ++ rest ≡ text = append_assoc s.given piece rest ∙ s.whole in
      let all : encode e text ≡ encode e (completed (s.given ++ piece)) ++ encode e (completed (behind (waiting (s.given ++ piece)) rest)) =
      ap (encode e) (sym (completed-all text (waits_none text good))) ∙ (ap (λ (xs : List ℕ). encode e (completed xs)) (sym whole)
      ∙ (later e None (s.given ++ piece) rest ([], subst IsWellFormed (sym (append-nil ((s.given ++ piece) ++ rest) ∙ whole)) good)).bytes) in
      subst (λ (xs : List ℕ). AppendsPrefix xs before after) (sym all) (AppendsPrefix-more (encode e (completed (s.given ++ piece))) _ before after
      (failed_then s.given piece zero_out out before between after s.sent failed both_front))

-- the whole text was taken
module _ (text : List ℕ) (e : Encoding) (out : Outgoing) (before between : Option (List ℕ)) (s : IsGiven text e [] out before between) (good : IsWellFormed text) where
  abbrev start_out : Outgoing
  start_out = record { encoder = record { encoding = e; waits = None }; held = []; put = 0 }

  given_all : s.given ≡ text
  given_all = sym (append-nil s.given) ∙ s.whole

  pub all_bytes : encode e text ≡ s.sent.bytes ++ out.held
  all_bytes = ap (encode e) (sym (completed-all text (waits_none text good)) ∙ ap completed (sym given_all)) ∙ s.sent.parts

  pub all_small : (n : ℕ) → length text ≤ n → 4 * n ≤ 2 ^ 63 → weight out ≤ 2 ^ 63
  all_small n short few = let whole = ap length given_all in
      omega (arith, short, few, whole, weight_sent s.given start_out out before between s.sent ([], subst IsWellFormed (sym (append-nil s.given ∙ given_all)) good))

  pub all_put : (after : Option (List ℕ)) → Appends out.held between after → Appends (encode e text) before after
  all_put after put = subst (λ (xs : List ℕ). Appends xs before after) (sym all_bytes) (Appends-append s.sent.bytes out.held before between after s.sent.taken put)

  pub all_failed : (after : Option (List ℕ)) → AppendsPrefix out.held between after → AppendsPrefix (encode e text) before after
  all_failed after failed = subst (λ (xs : List ℕ). AppendsPrefix xs before after) (sym all_bytes) (AppendsPrefix-append s.sent.bytes out.held before between after s.sent.taken failed)

  pub all_count : out.put + length out.held ≡ length (encode e text)
  all_count = let n = ap length all_bytes in omega (arith, n, s.sent.count, length-append s.sent.bytes out.held)

-- the offsets of a whole text's ends
by_split : (b : Bool) (k : ℕ) → k ≤ 0 → cond b (k - 1) k ≡ 0
by_split true k le = omega arith
by_split false k le = omega arith

zero_plus : (n m : ℕ) → n ≡ 0 → m ≡ 0 → n + m ≡ 0
zero_plus n m e f = omega (arith, e, f)

pub start_offset : (t : List ℕ) → clipped_offset t origin ≡ 0
start_offset t = clipped_offset_in t origin (omega arith) ∙ zero_plus (row_start t 0) (clipped_column (line_of t 0) 0) refl
    (by_split (splits_pair (line_of t 0) (min 0 (length (line_of t 0)))) (min 0 (length (line_of t 0))) (omega arith))

-- the whole text, by its first point and one behind its last
pub whole_range : (t : List ℕ) (p : Point) → (extent t).row < p.row → slice_range t (clipped_offset t origin) (clipped_offset t p) ≡ t
whole_range t p past = ap (λ (k : ℕ). slice_range t k (clipped_offset t p)) (start_offset t) ∙ (ap (λ (k : ℕ). slice_range t 0 k) (clipped_offset_past t p past) ∙ slice_whole t (length t) refl)

pub slice_rest : (units : List ℕ) (at : ℕ) → take (length units - at) (drop at units) ≡ drop at units
slice_rest units at = take_all (length units - at) (drop at units) (omega (arith, length-drop at units))

-- answers of a call, turned by what they say
pub ok_count : {E : Type 0} (r : Result ℕ E) (a b : ℕ) → IfOk r (λ n. n ≡ a) → a ≡ b → IfOk r (λ n. n ≡ b)
ok_count (Ok n) a b h e = h ∙ e
ok_count (Err x) a b h e = h

pub ok_turned : {T E P Q : Type 0} (r : Result T E) → OnOk r P → (P → Q) → OnOk r Q
ok_turned (Ok x) h f = f h
ok_turned (Err e) h f = tt

pub err_turned : {T E P Q : Type 0} (r : Result T E) → OnErr r P → (P → Q) → OnErr r Q
err_turned (Ok x) h f = tt
err_turned (Err e) h f = f h
