use Rattle.std.proofs.Common.{rules, map, length, sym, subst, ap, ◌∙◌, arith}
use Rattle.std.specs.List.{AllByRecursion}
use Rattle.std.proofs.lemmas.List.{length-map}
use Rattle.sessions.specs.Seats.{work_of, AreReady, CanRun, HaveRun}
use Rattle.sessions.proofs.SeatLemmas.{dealt_new, seats_can, seats_ready, seated_len, lawful_run, written_over}
use Rattle.sessions.proofs.run.run_sessions.Goals as goal

pub run_seats-requires-clause-can : goal.run_seats-requires-clause-can
run_seats-requires-clause-can g c = λ κs within.
    let buffer = c.in_ok-started.started.buffer in
    let new = dealt_new g.M.Matcher.tells buffer _ _ c.in_ok-started.ensures.desks in
    subst (AllByRecursion (CanRun g.M.Matcher.tells buffer)) (sym c.as_mut_slice.ensures.value) (seats_can g.M.Matcher.tells buffer 0 _ _ _ c.in_ok-seats.ensures new c.requires.can)

pub gather-requires-clause-some : goal.gather-requires-clause-some
gather-requires-clause-some g c = λ κs within.
    let e = seated_len g.M.Matcher.tells c.in_ok-started.started.buffer _ _ _ c.in_ok-seats.ensures in
    omega (arith, e, c.requires.sessions.0, c.as_mut_slice.ensures.len, ap length c.as_mut_slice.ensures.value)

pub returns-in-Ok-clause-lawful : goal.returns-in-Ok-clause-lawful
returns-in-Ok-clause-lawful g c = λ script opening t opens version sessions version_is replies_is count_is text_is.
    let buffer = c.in_ok-started.started.buffer in
    let start = c.in_ok-started.ensures.start in
    let new = dealt_new g.M.Matcher.tells buffer _ _ c.in_ok-started.ensures.desks in
    let works = map (work_of g.M.Matcher.tells) c.args.plans.items in
    let ready = subst (λ ss. AreReady g.M.Matcher.tells buffer 0 works ss) (sym c.as_mut_slice.ensures.value) (seats_ready g.M.Matcher.tells buffer 0 _ _ _ c.in_ok-seats.ensures new) in
    let all = written_over c.in_ok-seats.seats.len c.in_ok-seats.seats.items c.run_seats.new.seats (c.run_seats.ensures.len ∙ ap length c.as_mut_slice.ensures.value) (omega (arith, c.as_mut_slice.ensures.len, ap length c.as_mut_slice.ensures.value)) in
    let ran = subst (HaveRun g.M.Matcher.tells buffer 0 works) (sym all) (c.run_seats.ensures.run works ready) in
    let has = c.in_ok-desk.ensures.gathered works (omega (arith, start.1, length-map c.args.plans.items (work_of g.M.Matcher.tells))) ran in
    lawful_run g.M.Matcher.tells buffer c.args.plans.items c.in_ok-desk.sessions.items c.in-Ok.field-0.text c.in-Ok.field-0.count c.in_ok-desk.desk.views (search rules) c.requires.can has c.in-Ok.ensures.ok script opening t (start.0 ∙ opens) (start.2 ∙ version) sessions version_is replies_is count_is text_is
