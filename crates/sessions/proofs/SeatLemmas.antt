-- Sessions at desks of their own, run and gathered in again.
use Rattle.std.proofs.Common.{◌≡◌, ℕ, suc, zero, ◌+◌, ◌≤◌, ◌<◌, List, [], ◌∷◌, ◌++◌, length, map, take, drop, Option, None, Some, refl, sym, ◌∙◌, ap, subst, arith, append_assoc, append-nil}
use Rattle.std.specs.Prelude.{slice_index_or, MatchOption, MatchResult, IfOk, IfErr}
use Rattle.std.specs.List.{AllByRecursion}
use Rattle.std.proofs.lemmas.List.{length-map, take_all, drop_all}
use Rattle.std.specs.declared.result.Result.{Result}
use Rattle.std.specs.declared.result.Result.TheVariants.{Ok, Err}
use mathlib.Core.List.{IsPrefix}
use Rattle.atomic_table.specs.declared.badge.Badge.{Badge}
use Rattle.points.specs.Text.{text_of}
use Rattle.machine.specs.declared.command.Command.{Command}
use Rattle.machine.specs.declared.reply.Reply.{Reply}
use Rattle.machine.specs.Answers.{Matches}
use Rattle.machine.specs.Lawful.{patterns_of}
use Rattle.turn_table.specs.declared.view.Part.{Part}
use Rattle.turn_table.specs.declared.view.Role.{Role}
use Rattle.turn_table.specs.Calls.{Has, Turned, Joined}
use Rattle.turn_table.specs.Meaning.{MayFollow}
use Rattle.turn_table.specs.History.{calls_under, AreCalled}
use Rattle.turn_table.specs.Openings.{new_desk, AreDealt}
use Rattle.turn_table.specs.Steps.{parts_of}
use Rattle.turn_table.specs.Views.{desk, part, AllMine, AreApart, Mine}
use Rattle.turn_table.proofs.HistoryLemmas.{prefix_self, prefix_trans}
use Rattle.shared_buffer.specs.Entries.{Entry, Meets}
use Rattle.shared_buffer.specs.Tokens.{Line, Known, Opening, rules, IsDeskOf, IsInformed, IsFinished}
use Rattle.sessions.specs.declared.plan.Plan.{Plan}
use Rattle.sessions.specs.declared.seat.Seat.{Seat}
use Rattle.sessions.specs.Gathered.{ArePlayed}
use Rattle.sessions.specs.Running.{IsRun}
use Rattle.sessions.specs.Seats.{Work, commands_of, TellsEach, all_told, CanBeAnswered, AreSeated, work_of, CanRun, IsReady, AreReady, HasEnded, WasRun, HasRun, HaveRun, AllWent, IsGatheredIn, IsLawfulRun}
use Rattle.sessions.proofs.Playing.{own_is}
use Rattle.sessions.proofs.Ending.{did_from, run_is_played}
use Rattle.sessions.proofs.Gathering.{gathered}

-- a list that is written over as a whole
pub written_over : {X : Type 0} (n : ℕ) (xs ys : List X) → length ys ≡ length xs → length xs ≡ n → take n (ys ++ drop (length ys) xs) ≡ ys
written_over n xs ys even len = ap (λ l. take n (ys ++ l)) (drop_all (length ys) xs (omega (arith, even))) ∙ ap (take n) (append-nil ys) ∙ take_all n ys (omega (arith, even, len))

-- ---- seats are dealt

-- some seats are there, and these plans and desks are left
pub record Seating {M : Type 0} (plans rest : List (Plan M)) (desks left : List (Badge Known)) (seats : List (Seat M)) : Type 0 where
  pub even : length rest ≡ length left
  pub onward : (more : List (Seat M)) → AreSeated rest left more → AreSeated plans desks (seats ++ more)

pub seating_begun : {M : Type 0} (plans rest : List (Plan M)) (desks left : List (Badge Known)) (seats : List (Seat M)) → rest ≡ plans → left ≡ desks → seats ≡ [] → length desks ≡ length plans → Seating plans rest desks left seats
seating_begun plans rest desks left seats same desks_same none even = subst (λ ss. Seating plans rest desks left ss) (sym none) (subst (λ l. Seating plans rest desks l []) (sym desks_same) (subst (λ r. Seating plans r desks desks []) (sym same) (record { even = sym even; onward = λ more all. all })))

pub seated_one : {M : Type 0} (plans rest rest' : List (Plan M)) (desks left left' : List (Badge Known)) (seats seats' : List (Seat M)) (p : Plan M) (d : Badge Known) (s : Seat M) → Seating plans rest desks left seats → rest ≡ p ∷ rest' → left ≡ d ∷ left'
    → AreSeated (p ∷ []) (d ∷ []) (s ∷ []) → seats' ≡ seats ++ s ∷ [] → Seating plans rest' desks left' seats'
seated_one {M} plans rest rest' desks left left' seats seats' p d s so_far rest_is left_is one all =
    let even : length (p ∷ rest') ≡ length (d ∷ left') = ap length (sym rest_is) ∙ so_far.even ∙ ap length left_is in
    let on : (more : List (Seat M)) → AreSeated (p ∷ rest') (d ∷ left') more → AreSeated plans desks (seats ++ more) = subst (λ l. (more : List (Seat M)) → AreSeated (p ∷ rest') l more → AreSeated plans desks (seats ++ more)) left_is (subst (λ r. (more : List (Seat M)) → AreSeated r left more → AreSeated plans desks (seats ++ more)) rest_is so_far.onward) in
    subst (λ ss. Seating plans rest' desks left' ss) (sym all) (record { even = omega (arith, even); onward = λ more others. subst (AreSeated plans desks) (sym (append_assoc seats (s ∷ []) more)) (on (s ∷ more) (one.0, others)) })

none_left : {X : Type 0} (xs : List X) → length xs ≡ 0 → xs ≡ []
none_left [] none = refl
none_left (x ∷ xs) none = absurd (omega (arith, none))

pub all_seated : {M : Type 0} (plans rest : List (Plan M)) (desks left : List (Badge Known)) (seats : List (Seat M)) → length rest ≡ 0 → Seating plans rest desks left seats → AreSeated plans desks seats
all_seated {M} plans rest desks left seats none so_far =
    let no_rest : rest ≡ [] = none_left rest none in
    let no_left : left ≡ [] = none_left left (sym so_far.even ∙ none) in
    let on : (more : List (Seat M)) → AreSeated [] [] more → AreSeated plans desks (seats ++ more) = subst (λ l. (more : List (Seat M)) → AreSeated [] l more → AreSeated plans desks (seats ++ more)) no_left (subst (λ r. (more : List (Seat M)) → AreSeated r left more → AreSeated plans desks (seats ++ more)) no_rest so_far.onward) in
    subst (AreSeated plans desks) (append-nil seats) (on [] tt)

one_view : {V : Type 0} (v w : V) → v ∷ [] ≡ w ∷ [] → v ≡ w
one_view v w e = cc (e)

-- what a session that was run answered
ended_as : {V E : Type 0} (P Q : V → Type 0) (x : Option (Result V E)) → ((v : V) → P v → Q v) → MatchOption x ⊥ (λ e. MatchResult e P (λ no. Unit {0})) → MatchOption x ⊥ (λ e. MatchResult e Q (λ no. Unit {0}))
ended_as P Q None to has = has
ended_as P Q (Some (Ok v)) to has = to v has
ended_as P Q (Some (Err why)) to has = has

-- what is said of a result's one case
pub err_only : {V E : Type 0} (Q : E → Type 0) (x : Result V E) → IfErr x Q → MatchResult x (λ v. Unit {0}) Q
err_only Q (Ok v) says = tt
err_only Q (Err why) says = says

pub ok_only : {V E : Type 0} (P : V → Type 0) (x : Result V E) → IfOk x P → MatchResult x P (λ why. Unit {0})
ok_only P (Ok v) says = says
ok_only P (Err why) says = tt

pub as_both : {X : Type 0} (P : X → X → Type 0) (a b x y : X) → a ≡ x → b ≡ y → P a b → P x y
as_both P a b x y e f p = subst (λ z. P x z) f (subst (λ z. P z b) e p)

ended_in : {V E : Type 0} (P : V → Type 0) (x : Option (Result V E)) (v : V) → x ≡ Some (Ok v) → MatchOption x ⊥ (λ e. MatchResult e P (λ no. Unit {0})) → P v
ended_in P x v is has = subst (λ y. MatchOption y ⊥ (λ e. MatchResult e P (λ no. Unit {0}))) is has

module _ {M : Type 0} (tells : M → Option Matches) (o : Opening) where
  -- the new desks from the number n on
  abbrev pub AreNew : ℕ → List (Badge Known) → Type 0
  AreNew n [] = Unit {0}
  AreNew n (d ∷ ds) = ((d.table_id ≡ o.table) × (d.views ≡ new_desk n ∷ [])) × AreNew (n + 1) ds

  new_from : (n : ℕ) (desks : List (Badge Known)) → ((k : ℕ) (d : Badge Known) → k < length desks → ((slice_index_or desks k d).table_id ≡ o.table) × ((slice_index_or desks k d).views ≡ new_desk (n + k) ∷ [])) → AreNew n desks
  new_from n [] each = tt
  new_from n (d ∷ ds) each =
      let here = each 0 d (omega arith) in
      let at : n + 0 ≡ n = omega arith in (
        (here.0, subst (λ i. d.views ≡ new_desk i ∷ []) at here.1),
        new_from (n + 1) ds (λ k e low. let more = each (suc k) e (omega arith) in let at : n + suc k ≡ n + 1 + k = omega arith in (more.0, subst (λ i. (slice_index_or ds k e).views ≡ new_desk i ∷ []) at more.1)),
      )

  pub dealt_new : (count : ℕ) (desks : List (Badge Known)) → AreDealt o.table new_desk count desks → AreNew 0 desks
  dealt_new count desks dealt = new_from 0 desks (λ k d low. let below : k < count = subst (λ m. k < m) dealt.len low in let at : k ≡ 0 + k = omega arith in (dealt.tables k d below, subst (λ i. (slice_index_or desks k d).views ≡ new_desk i ∷ []) at (dealt.views k d below)))

  new_is_desk : (n : ℕ) (d : Badge Known) → d.table_id ≡ o.table → d.views ≡ new_desk n ∷ [] → IsDeskOf o d
  new_is_desk n d table views = (table, (new_desk n, views, record { first = part n []; others = []; role = refl; rests = refl }))

  pub seats_ready : (n : ℕ) (plans : List (Plan M)) (desks : List (Badge Known)) (seats : List (Seat M)) → AreSeated plans desks seats → AreNew n desks → AreReady tells o n (map (work_of tells) plans) seats
  seats_ready n [] [] [] seated new = tt
  seats_ready n (p ∷ ps) (d ∷ ds) (s ∷ ss) seated new = (record { views = ap (λ (b : Badge Known). b.views) seated.0.desk ∙ new.0.1; commands = ap (λ v. v.items) seated.0.commands; matchers = ap (λ v. map tells v.items) seated.0.matchers }, seats_ready (n + 1) ps ds ss seated.1 new.1)
  seats_ready n plans desks seats seated new = absurd seated

  pub seats_can : (n : ℕ) (plans : List (Plan M)) (desks : List (Badge Known)) (seats : List (Seat M)) → AreSeated plans desks seats → AreNew n desks → AllByRecursion CanBeAnswered plans → AllByRecursion (CanRun tells o) seats
  seats_can n [] [] [] seated new can = tt
  seats_can n (p ∷ ps) (d ∷ ds) (s ∷ ss) seated new can = (record { desk = subst (IsDeskOf o) (sym seated.0.desk) (new_is_desk n d new.0.0 new.0.1); hands = rw (seated.0.hands, seated.0.commands) can.0.hands; matchers = omega (arith, can.0.matchers, ap (λ v. length v.items) seated.0.matchers, ap (λ v. patterns_of v.items) seated.0.commands) }, seats_can (n + 1) ps ds ss seated.1 new.1 can.1)
  seats_can n plans desks seats seated new can = absurd seated

  pub seated_len : (plans : List (Plan M)) (desks : List (Badge Known)) (seats : List (Seat M)) → AreSeated plans desks seats → length seats ≡ length plans
  seated_len [] [] [] seated = refl
  seated_len (p ∷ ps) (d ∷ ds) (s ∷ ss) seated = ap suc (seated_len ps ds ss seated.1)
  seated_len plans desks seats seated = absurd seated

  -- ---- seats that were run

  run_from : (n : ℕ) (told ts : List (Option Matches)) (cs xs : List Command) (rs : List Reply) (old new : List Known) → old ≡ new_desk n ∷ [] → ts ≡ told → xs ≡ cs → Turned (IsRun o ts xs rs) old new → (w : Known) × (new ≡ w ∷ []) × IsRun o told cs rs (new_desk n) w
  run_from n told ts cs xs rs old new views same_told same turned = let one = turned (new_desk n) views in (one.0, one.1, subst (λ l. IsRun o told l rs (new_desk n) one.0) same (subst (λ l. IsRun o l xs rs (new_desk n) one.0) same_told one.2))

  has_run : (n : ℕ) (j : Work) (x y : Seat M) → IsReady tells o n j x → WasRun tells o x y → HasRun tells o n j y
  has_run n j x y ready was =
      ended_as (λ rs. Turned (IsRun o (map tells x.matchers.items) x.commands.items rs.items) x.desk.views y.desk.views) (λ rs. (w : Known) × (y.desk.views ≡ w ∷ []) × IsRun o j.told j.commands rs.items (new_desk n) w) y.ended
      (λ rs. run_from n j.told (map tells x.matchers.items) j.commands x.commands.items rs.items x.desk.views y.desk.views ready.views ready.matchers ready.commands) was.run

  pub have_run : (n : ℕ) (js : List Work) (xs ys : List (Seat M)) → length ys ≡ length xs → ((k : ℕ) (d : Seat M) → k < length xs → WasRun tells o (slice_index_or xs k d) (slice_index_or ys k d)) → AreReady tells o n js xs → HaveRun tells o n js ys
  have_run n [] [] [] len each ready = tt
  have_run n (j ∷ js) (x ∷ xs) (y ∷ ys) len each ready = (has_run n j x y ready.0 (each 0 x (omega arith)), have_run (n + 1) js xs ys (omega (arith, len)) (λ k d low. each (suc k) d (omega arith)) ready.1)
  have_run n [] [] (y ∷ ys) len each ready = absurd (omega (arith, len))
  have_run n (j ∷ js) (x ∷ xs) [] len each ready = absurd (omega (arith, len))
  have_run n [] (x ∷ xs) ys len each ready = absurd ready
  have_run n (j ∷ js) [] ys len each ready = absurd ready

  pub none_run : (js : List Work) (xs : List (Seat M)) → length xs ≡ 0 → AreReady tells o 0 js xs → HaveRun tells o 0 js xs
  none_run [] [] none ready = tt
  none_run (j ∷ js) [] none ready = absurd ready
  none_run js (x ∷ xs) none ready = absurd (omega (arith, none))

  pub all_ended : (xs ys : List (Seat M)) → length ys ≡ length xs → ((k : ℕ) (d : Seat M) → k < length xs → WasRun tells o (slice_index_or xs k d) (slice_index_or ys k d)) → AllByRecursion (HasEnded tells o) ys
  all_ended [] [] len each = tt
  all_ended [] (y ∷ ys) len each = absurd (omega (arith, len))
  all_ended (x ∷ xs) [] len each = absurd (omega (arith, len))
  all_ended (x ∷ xs) (y ∷ ys) len each = ((each 0 x (omega arith)).ended, all_ended xs ys (omega (arith, len)) (λ k d low. each (suc k) d (omega arith)))

  pub all_at : (P : Seat M → Type 0) (xs : List (Seat M)) → AllByRecursion P xs → (k : ℕ) (d : Seat M) → k < length xs → P (slice_index_or xs k d)
  all_at P [] all k d low = absurd (omega (arith, low))
  all_at P (x ∷ xs) all zero d low = all.0
  all_at P (x ∷ xs) all (suc k) d low = all_at P xs all.1 k d (omega arith)

  -- ---- seats are gathered in

  -- what a session's run from its new desk leaves
  pub part_of : (n : ℕ) (j : Work) (rs : List Reply) (w : Known) → n < o.desks → IsRun o j.told j.commands rs (new_desk n) w → (p : Part Entry) × (w.role ≡ desk (p ∷ []))
  part_of n j rs w below run = let d = did_from o n j.told j.commands rs w below run [] in (part n d.mine, d.role)

  -- some desks were ended into the first, and these seats are left
  pub record Gathering (js : List Work) (rest : List (Seat M)) (rss : List (List Reply)) (w : Known) : Type 0 where
    pub next : ℕ
    pub later : List Work
    pub parts : List (Part Entry)
    pub low : next + length later ≤ o.desks
    pub have : HaveRun tells o next later rest
    pub role : w.role ≡ desk parts
    pub informed : IsInformed o w
    pub onward : (more : List (List Reply)) (qs : List (Part Entry)) (h : List Line) → IsPrefix w.seen h → AllWent o next later more qs h → AllWent o 0 js (rss ++ more) (parts ++ qs) h

  -- the session of a seat whose replies are these, from the views of its desk
  pub ended_run : (n : ℕ) (j : Work) (s : Seat M) (rs : _) (views : List Known) → s.ended ≡ Some (Ok rs) → views ≡ s.desk.views → HasRun tells o n j s → (w : Known) × (views ≡ w ∷ []) × IsRun o j.told j.commands rs.items (new_desk n) w
  ended_run n j s rs views is same has = let one = ended_in (λ rs. (w : Known) × (s.desk.views ≡ w ∷ []) × IsRun o j.told j.commands rs.items (new_desk n) w) s.ended rs is has in (one.0, same ∙ one.1, one.2)

  pub first_gathered : (js : List Work) (all rest : List (Seat M)) (s : Seat M) (rs : List Reply) (rss : List (List Reply)) (views : List Known) → all ≡ s ∷ rest → rss ≡ rs ∷ [] → length js ≤ o.desks → HaveRun tells o 0 js all
      → ((n : ℕ) (j : Work) → HasRun tells o n j s → (w : Known) × (views ≡ w ∷ []) × IsRun o j.told j.commands rs (new_desk n) w) → Has (Gathering js rest rss) views
  first_gathered [] all rest s rs rss views is rss_is low have of = absurd (subst (HaveRun tells o 0 []) is have)
  first_gathered (j ∷ later) all rest s rs rss views is rss_is low have of =
      let here : HaveRun tells o 0 (j ∷ later) (s ∷ rest) = subst (HaveRun tells o 0 (j ∷ later)) is have in
      let one = of 0 j here.0 in
      let below : 0 < o.desks = omega (arith, low) in
      let p = part_of 0 j rs one.0 below one.2 in
      let d = did_from o 0 j.told j.commands rs one.0 below one.2 [] in (
        one.0,
        one.1,
        subst (λ l. Gathering (j ∷ later) rest l one.0) (sym rss_is) (record {
          next = 1;
          later = later;
          parts = p.0 ∷ [];
          low = omega (arith, low);
          have = here.1;
          role = p.1;
          informed = d.informed;
          onward = λ more qs h begun went. (record { last = one.0; run = one.2; role = p.1; seen = begun }, went);
        }),
      )

  one_gathered : (js : List Work) (rest : List (Seat M)) (s : Seat M) (rs : List Reply) (rss : List (List Reply)) (v x w : Known) → (g : Gathering js (s ∷ rest) rss v) → (later : List Work) → g.later ≡ later
      → ((n : ℕ) (j : Work) → HasRun tells o n j s → IsRun o j.told j.commands rs (new_desk n) x) → Joined (rules o) (MayFollow (rules o) Meets) o.start o.desks v x w → Gathering js rest (rss ++ rs ∷ []) w
  one_gathered js rest s rs rss v x w g [] none of joined = absurd (subst (λ l. HaveRun tells o g.next l (s ∷ rest)) none g.have)
  one_gathered js rest s rs rss v x w g (j ∷ later) is of joined =
      let here : HaveRun tells o g.next (j ∷ later) (s ∷ rest) = subst (λ l. HaveRun tells o g.next l (s ∷ rest)) is g.have in
      let run : IsRun o j.told j.commands rs (new_desk g.next) x = of g.next j here.0 in
      let low : g.next + length (j ∷ later) ≤ o.desks = subst (λ l. g.next + length l ≤ o.desks) is g.low in
      let p = part_of g.next j rs x (omega (arith, low)) run in
      let on : (more : List (List Reply)) (qs : List (Part Entry)) (h : List Line) → IsPrefix v.seen h → AllWent o g.next (j ∷ later) more qs h → AllWent o 0 js (rss ++ more) (g.parts ++ qs) h = subst (λ l. (more : List (List Reply)) (qs : List (Part Entry)) (h : List Line) → IsPrefix v.seen h → AllWent o g.next l more qs h → AllWent o 0 js (rss ++ more) (g.parts ++ qs) h) is g.onward in
      record {
        next = g.next + 1;
        later = later;
        parts = g.parts ++ p.0 ∷ [];
        low = omega (arith, low);
        have = here.1;
        role = joined.role ∙ ap (λ (r : Role Entry). desk (parts_of r ++ parts_of x.role)) g.role ∙ ap (λ (r : Role Entry). desk (g.parts ++ parts_of r)) p.1;
        informed = joined.knows;
        onward = λ more qs h begun went.
            subst (λ l. AllWent o 0 js l ((g.parts ++ p.0 ∷ []) ++ qs) h) (sym (append_assoc rss (rs ∷ []) more)) (subst (λ l. AllWent o 0 js (rss ++ rs ∷ more) l h) (sym (append_assoc g.parts (p.0 ∷ []) qs))
            (on (rs ∷ more) (p.0 ∷ qs) h (prefix_trans v.seen w.seen h joined.seen begun) (record { last = x; run = run; role = p.1; seen = prefix_trans x.seen w.seen h joined.told begun }, went)));
      }

  next_by : (js : List Work) (left : List (Seat M)) (s : Seat M) (rs : List Reply) (rss new : List (List Reply)) (old other after : List Known) (v : Known) (g : Gathering js (s ∷ left) rss v) (later : List Work) → g.later ≡ later → new ≡ rss ++ rs ∷ []
      → ((n : ℕ) (j : Work) → HasRun tells o n j s → (w : Known) × (other ≡ w ∷ []) × IsRun o j.told j.commands rs (new_desk n) w)
      → ((x : Known) → other ≡ x ∷ [] → Turned (λ v w. Joined (rules o) (MayFollow (rules o) Meets) o.start o.desks v x w) old after)
      → old ≡ v ∷ [] → Has (Gathering js left new) after
  next_by js left s rs rss new old other after v g [] none new_is of joined views = absurd (subst (λ l. HaveRun tells o g.next l (s ∷ left)) none g.have)
  next_by js left s rs rss new old other after v g (j ∷ later) is new_is of joined views =
      let here : HaveRun tells o g.next (j ∷ later) (s ∷ left) = subst (λ l. HaveRun tells o g.next l (s ∷ left)) is g.have in
      let ran = of g.next j here.0 in
      let turned = joined ran.0 ran.1 v views in
      let one : (n : ℕ) (c : Work) → HasRun tells o n c s → IsRun o c.told c.commands rs (new_desk n) ran.0 = λ n c h. let again = of n c h in subst (λ x. IsRun o c.told c.commands rs (new_desk n) x) (one_view again.0 ran.0 (sym again.1 ∙ ran.1)) again.2 in
      (turned.0, turned.1, subst (λ l. Gathering js left l turned.0) (sym new_is) (one_gathered js left s rs rss v ran.0 turned.0 g (j ∷ later) is one turned.2))

  whole_by : (js : List Work) (rss : List (List Reply)) (w : Known) (g : Gathering js [] rss w) (later : List Work) → g.later ≡ later → AllWent o 0 js rss g.parts w.seen
  whole_by js rss w g [] is =
      let on : AllWent o 0 js (rss ++ []) (g.parts ++ []) w.seen = g.onward [] [] w.seen (prefix_self w.seen) (subst (λ l. AllWent o g.next l [] [] w.seen) (sym is) tt) in
      subst (λ l. AllWent o 0 js l g.parts w.seen) (append-nil rss) (subst (λ l. AllWent o 0 js (rss ++ []) l w.seen) (append-nil g.parts) on)
  whole_by js rss w g (j ∷ later) is = absurd (subst (λ l. HaveRun tells o g.next l []) is g.have)

  whole : (js : List Work) (rss : List (List Reply)) (w : Known) → Gathering js [] rss w → IsGatheredIn o js rss w
  whole js rss w g = record { parts = g.parts; role = g.role; informed = g.informed; went = whole_by js rss w g g.later refl }

  pub next_gathered : (js : List Work) (rest left : List (Seat M)) (s : Seat M) (rs : List Reply) (rss new : List (List Reply)) (old other after : List Known) → rest ≡ s ∷ left → new ≡ rss ++ rs ∷ []
      → ((n : ℕ) (j : Work) → HasRun tells o n j s → (w : Known) × (other ≡ w ∷ []) × IsRun o j.told j.commands rs (new_desk n) w)
      → ((x : Known) → other ≡ x ∷ [] → Turned (λ v w. Joined (rules o) (MayFollow (rules o) Meets) o.start o.desks v x w) old after)
      → Has (Gathering js rest rss) old → Has (Gathering js left new) after
  next_gathered js rest left s rs rss new old other after is new_is of joined has = next_by js left s rs rss new old other after has.0 (subst (λ l. Gathering js l rss has.0) is has.2) (subst (λ l. Gathering js l rss has.0) is has.2).later refl new_is of joined has.1

  pub end_gathered : (js : List Work) (rest : List (Seat M)) (rss : List (List Reply)) (views : List Known) → length rest ≡ 0 → Has (Gathering js rest rss) views → Has (IsGatheredIn o js rss) views
  end_gathered js rest rss views none has = (has.0, has.1, whole js rss has.0 (subst (λ l. Gathering js l rss has.0) (none_left rest none) has.2))

  -- ---- the transcript

  part_number : (n : ℕ) (m : List Line) (p : Part Entry) (r : Role Entry) → r ≡ desk (p ∷ []) → r ≡ desk (part n m ∷ []) → p ≡ part n m
  part_number n m p r is also = one_view p (part n m) (ap parts_of (sym is ∙ also))

  drop_front : {X : Type 0} (xs ys : List X) → drop (length xs) (xs ++ ys) ≡ ys
  drop_front [] ys = refl
  drop_front (x ∷ xs) ys = drop_front xs ys

  pub all_played : (n : ℕ) (js : List Work) (rss : List (List Reply)) (ps : List (Part Entry)) (seen log : List Line) → n + length js ≤ o.desks → AllByRecursion TellsEach js → AllWent o n js rss ps seen → IsPrefix seen log → AllMine (rules o) log ps → ArePlayed o (all_told js) n (map commands_of js) rss log
  all_played n [] [] [] seen log low each went begun mine = tt
  all_played n (j ∷ js) (rs ∷ rss) (p ∷ ps) seen log low each went begun mine =
      let w = went.0 in
      let below : n < o.desks = omega (arith, low) in
      let d = did_from o n j.told j.commands rs w.last below w.run [] in
      let is : p ≡ part n d.mine = part_number n d.mine p w.last.role w.role d.role in
      let whole : d.mine ≡ calls_under (rules o) n log = subst (λ (q : Part Entry). q.mine ≡ calls_under (rules o) q.number log) is mine.0 in
      let own : d.mine ≡ calls_under (rules o) n w.last.seen = own_is o n w.last d.mine d.role d.informed in
      let rest : all_told js ≡ drop (patterns_of j.commands) (j.told ++ all_told js) = sym (ap (λ k. drop k (j.told ++ all_told js)) (sym each.0) ∙ drop_front j.told (all_told js)) in (
        run_is_played o n j.told j.commands rs w.last (all_told js) log below w.run (prefix_trans w.last.seen seen log w.seen begun) (sym whole ∙ own),
        subst (λ ts. ArePlayed o ts (n + 1) (map commands_of js) rss log) rest (all_played (n + 1) js rss ps seen log (omega (arith, low)) each.1 went.1 begun mine.1),
      )
  all_played n js rss ps seen log low each went begun mine = absurd went

  pub tells_each : (plans : List (Plan M)) → AllByRecursion CanBeAnswered plans → AllByRecursion TellsEach (map (work_of tells) plans)
  tells_each [] can = tt
  tells_each (p ∷ ps) can = (length-map p.matchers.items tells ∙ can.0.matchers, tells_each ps can.1)

  pub lawful_run : (plans : List (Plan M)) (replies : List (List Reply)) (text : List ℕ) (count : ℕ) (views : List Known) → o.desks ≡ length plans → AllByRecursion CanBeAnswered plans → Has (IsGatheredIn o (map (work_of tells) plans) replies) views
      → ((v : Known) → views ≡ v ∷ [] → IsFinished o text count v) → IsLawfulRun o.version o.start.plain (map (work_of tells) plans) replies text count
  lawful_run plans replies text count views desks can has finished script opening t opens version sessions version_is replies_is count_is text_is =
      let js : List Work = map (work_of tells) plans in
      let g : IsGatheredIn o js replies has.0 = has.2 in
      let f : IsFinished o text count has.0 = finished has.0 has.1 in
      let mine : AllMine (rules o) f.log g.parts × AreApart g.parts = subst (Mine (rules o) f.log) g.role f.parts in
      let len : length js ≡ length plans = length-map plans (work_of tells) in
      gathered o script opening (all_told js) f.log t (record {
        opens = opens;
        replies_as = version;
        history = f.history;
        callers = subst (λ n. AreCalled (rules o) n f.log) (desks ∙ sym len ∙ sym (length-map js commands_of) ∙ ap length (sym sessions)) f.callers;
        played = rw (sessions, replies_is) (all_played 0 js replies g.parts has.0.seen f.log (omega (arith, desks, len)) (tells_each plans can) g.went f.begun mine.0);
        version = version_is;
        count = count_is ∙ f.count_is;
        text = text_is ∙ ap text_of f.text_is;
      })
