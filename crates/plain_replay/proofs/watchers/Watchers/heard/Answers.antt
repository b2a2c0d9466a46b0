use Rattle.std.proofs.Common.{◌≡◌, ◌∙◌, ◌-◌, ap, Some, None, ℕ, find, ◌==◌, length, arith}
use Rattle.plain_replay.specs.declared.watchers.Seat.{Seat}
use Rattle.plain_replay.proofs.SeatLemmas.{heard_is}
use Rattle.plain_replay.proofs.watchers.Watchers.heard.Goals as goal

pub returns-in-Some : goal.returns-in-Some
returns-in-Some c = let long : c.len.result ≡ length c.self.inside.told.items = omega (arith, c.len.ensures, c.self.inside.told.ok) in
    ap Some (c.saturating_sub.ensures ∙ ap (λ (n : ℕ). n - c.in-Some.seat.since) long)
    ∙ heard_is c.self.inside.told.items c.self.inside.seats.items c.args.id (Some c.in-Some.seat) c.args.self.now
    (c.in-Some.ensures ∙ ap (find (λ (s : Seat). s.id == c.args.id)) c.as_slice.ensures.value) c.self.view_is

pub returns-in-None : goal.returns-in-None
returns-in-None c = heard_is c.self.inside.told.items c.self.inside.seats.items c.args.id None c.args.self.now
    (c.in-None.ensures ∙ ap (find (λ (s : Seat). s.id == c.args.id)) c.as_slice.ensures.value) c.self.view_is
