-- A transcript that gathers what the sessions of a script did with a buffer that they share is lawful.
use Rattle.std.proofs.Common.{◌≡◌, ℕ, ◌+◌, List, [], ◌∷◌, ◌++◌, length, map, drop, true, ◌&&◌, Option, refl, sym, ◌∙◌, ap, subst}
use Rattle.std.specs.List.{AllByRecursion}
use Rattle.points.specs.Text.{text_of}
use Rattle.machine.specs.declared.command.Command.{Command}
use Rattle.machine.specs.declared.reply.Reply.{Reply}
use Rattle.machine.specs.Machine.{State, opened}
use Rattle.machine.specs.Answers.{Matches}
use Rattle.machine.specs.Lawful.{have_forms, sessions_have_forms, IsAsked, Taking, takings, all_takings, patterns_of}
use Rattle.machine.specs.Histories as plain
use Rattle.machine.specs.Histories.{number_in, own, numbered_from, after_events, opened_shared, AreOwn}
use Rattle.machine.proofs.OneSession.{all-append, all-map}
use Rattle.machine.proofs.ManySessions.{history_is_lawful}
use Rattle.turn_table.specs.History.{calls_under}
use Rattle.shared_buffer.specs.Tokens.{Line, Opening, rules, IsHistory, behind}
use Rattle.sessions.specs.Gathered.{HasFront, ArePlayed}
use Rattle.sessions.specs.Laws.{GatheredIsLawful}
use Rattle.sessions.proofs.Events.{events, at, after-events, legal_events, events-append, legal_front, own_events, callers_events, session_written}

both_true : (a b : _) → a ≡ true → b ≡ true → (a && b) ≡ true
both_true a b p q = rw (p, q) refl

all_of : {X : Type 0} (P Q : X → Type 0) (xs : List X) → ((x : X) → P x → Q x) → AllByRecursion P xs → AllByRecursion Q xs
all_of P Q [] f all = tt
all_of P Q (x ∷ xs) f all = (f x all.0, all_of P Q xs f all.1)

module _ (o : Opening) (opening : List ℕ) (opens : o.start.plain ≡ opened opening) where
  -- the same of the plain machine's history
  same_state : (h : List Line) → after_events (opened_shared opening 0) (events o.start h) ≡ at (behind o h).plain
  same_state h = subst (λ (s : State). after_events (at s) (events o.start h) ≡ at (behind o h).plain) opens (after-events o.version o.start h)

  front_of : (h : List Line) (n : ℕ) (t : Taking) → IsHistory o h → HasFront o n h t → plain.HasFront o.version (opened_shared opening 0) (events o.start h) (n + 1) t
  front_of h n t legal f =
      let rest : List Line = f.begun.0 in
      let whole : f.front ++ rest ≡ h = f.begun.1 in
      let here : IsHistory o (f.front ++ rest) = subst (IsHistory o) (sym whole) legal in
      let state = same_state f.front in record {
        front = events o.start f.front;
        behind = events (behind o f.front) rest;
        is_front = ap (events o.start) (sym whole) ∙ events-append o.version o.start f.front rest;
        earlier = ap (map number_in) (own_events o.version n 0 o.start f.front (ap (λ (s : State). s.count) opens) (legal_front o.version o.start f.front rest here)) ∙ f.earlier;
        shown = f.shown ∙ sym (ap (λ (s : plain.Shared). s.plain.version) state);
        answers = subst (λ (x : List ℕ). AllByRecursion (IsAsked x) t.asked) (sym (ap (λ (s : plain.Shared). s.plain.text) state)) f.answers;
      }

  forms_of : (told : List (Option Matches)) (n : ℕ) (css : List (List Command)) (rss : List (List Reply)) (h : List Line) → ArePlayed o told n css rss h → sessions_have_forms o.version css rss ≡ true
  forms_of told n [] [] h played = refl
  forms_of told n [] (rs ∷ rest) h played = absurd played
  forms_of told n (cs ∷ others) [] h played = absurd played
  forms_of told n (cs ∷ others) (rs ∷ rest) h played =
      both_true (have_forms o.version cs rs) (sessions_have_forms o.version others rest) played.0.forms (forms_of (drop (patterns_of cs) told) (n + 1) others rest h played.1)

  owned_of : (told : List (Option Matches)) (n : ℕ) (css : List (List Command)) (rss : List (List Reply)) (h : List Line) → IsHistory o h → ArePlayed o told n css rss h
      → AreOwn (numbered_from o.version 0 (events o.start h)) (n + 1) css rss
  owned_of told n [] rss h legal played = tt
  owned_of told n (cs ∷ others) [] h legal played = absurd played
  owned_of told n (cs ∷ others) (rs ∷ rest) h legal played = (
    session_written (calls_under (rules o) n h) cs rs played.0.calls ∙ sym (own_events o.version n 0 o.start h (ap (λ (s : State). s.count) opens) legal),
    owned_of (drop (patterns_of cs) told) (n + 1) others rest h legal played.1,
  )

  fronts_of : (told : List (Option Matches)) (n : ℕ) (css : List (List Command)) (rss : List (List Reply)) (h : List Line) → IsHistory o h → ArePlayed o told n css rss h
      → AllByRecursion (λ x. plain.HasFront o.version (opened_shared opening 0) (events o.start h) x.0 x.1) (all_takings told (n + 1) css rss)
  fronts_of told n [] rss h legal played = tt
  fronts_of told n (cs ∷ others) [] h legal played = absurd played
  fronts_of told n (cs ∷ others) (rs ∷ rest) h legal played =
      let P : ℕ × Taking → Type 0 = λ x. plain.HasFront o.version (opened_shared opening 0) (events o.start h) x.0 x.1 in
      all-append P (map (λ t. (n + 1, t)) (takings told 1 [] cs rs)) (all_takings (drop (patterns_of cs) told) (n + 1 + 1) others rest)
      (all-map P (λ t. (n + 1, t)) (takings told 1 [] cs rs) (all_of (HasFront o n h) (λ t. P (n + 1, t)) (takings told 1 [] cs rs) (λ t f. front_of h n t legal f) played.0.fronts))
      (fronts_of (drop (patterns_of cs) told) (n + 1) others rest h legal played.1)

pub gathered : GatheredIsLawful
gathered o script opening told h t g =
    let same : o.version ≡ script.version = g.replies_as in
    let es : List plain.Event = events o.start h in
    let last : after_events (opened_shared opening 0) es ≡ at (behind o h).plain = same_state o opening g.opens h in
    history_is_lawful script opening 0 told es t (record {
      legal = subst (λ (s : State). plain.IsLegal (at s) es) g.opens (legal_events o.start h);
      callers = subst (λ v. AllByRecursion (plain.IsSession (length script.sessions)) (numbered_from v 0 es)) same (callers_events o.version (length script.sessions) 0 o.start h g.callers);
      version = g.version;
      forms = subst (λ v. sessions_have_forms v script.sessions t.sessions ≡ true) same (forms_of o opening g.opens told 0 script.sessions t.sessions h g.played);
      owned = subst (λ v. AreOwn (numbered_from v 0 es) 1 script.sessions t.sessions) same (owned_of o opening g.opens told 0 script.sessions t.sessions h g.history g.played);
      fronts = subst (λ v. AllByRecursion (λ x. plain.HasFront v (opened_shared opening 0) es x.0 x.1) (all_takings told 1 script.sessions t.sessions)) same (fronts_of o opening g.opens told 0 script.sessions t.sessions h g.history g.played);
      count = g.count ∙ sym (ap (λ (s : plain.Shared). s.plain.count) last);
      text = g.text ∙ sym (ap (λ (s : plain.Shared). text_of s.plain.text) last);
    })
