use Rattle.std.proofs.Common.{◌≡◌, ℕ, List, get_or, true, sym, subst, ap, ◌∙◌, arith}
use Rattle.std.specs.Prelude.{◌==◌, map}
use Rattle.std.specs.List.{list_any}
use Rattle.machine.specs.Plain.{kept_text}
use Rattle.sessions.specs.declared.holding.Live.{Live}
use Rattle.sessions.specs.Holding.{Held, number_of, kept_of, place_in}
use Rattle.sessions.proofs.HoldingLemmas.{within, text_there}
use Rattle.sessions.proofs.holding.Holding.find.Goals as goal

pub index-requires : goal.index-requires
index-requires c =
    let ls : List Live = c.self.inside.live.items in
    let k : ℕ = c.args.number in
    let there : list_any (λ n. n == k) (map number_of (map kept_of ls)) ≡ true = subst (λ (h : Held). list_any (λ n. n == k) (map number_of h.kept) ≡ true) (sym c.self.view_is) c.requires in
    let place : c.place_of.result ≡ place_in k ls = c.place_of.ensures ∙ ap (λ (l : List Live). place_in k l) c.as_slice.ensures.value in
    omega (arith, within k ls there, place)

pub returns : goal.returns
returns c =
    let ls : List Live = c.self.inside.live.items in
    let k : ℕ = c.args.number in
    let there : list_any (λ n. n == k) (map number_of (map kept_of ls)) ≡ true = subst (λ (h : Held). list_any (λ n. n == k) (map number_of h.kept) ≡ true) (sym c.self.view_is) c.requires in
    let place : c.place_of.result ≡ place_in k ls = c.place_of.ensures ∙ ap (λ (l : List Live). place_in k l) c.as_slice.ensures.value in
    let here : c.index.result.now ≡ get_or ls (place_in k ls) c.index.result.now = c.index.ensures ∙ ap (λ (i : ℕ). get_or ls i c.index.result.now) place in
    text_there k ls c.index.result.now (within k ls there) here ∙ ap (λ (h : Held). kept_text k h.kept) c.self.view_is
