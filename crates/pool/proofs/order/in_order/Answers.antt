use Rattle.std.proofs.Common.{rules, ◌+◌, ◌*◌, ◌^◌}
use Rattle.std.proofs.lemmas.List.Sorted.{IsNonDecreasingBy-from_sort_by_key, All-permutation}
use Rattle.pool.specs.Sendings.{IsEnded}
use Rattle.pool.proofs.OrderLemmas.{sorted_is}
use Rattle.pool.proofs.order.in_order.Goals as goal

pub returns-clause-ended : goal.returns-clause-ended
returns-clause-ended g c = All-permutation (IsEnded g.M.Matcher.tells g.K.Sink.taken g.K.Sink.faults) _ _ c.sort_unstable_by_key.ensures.permutation c.requires.ended

pub returns-clause-order : goal.returns-clause-order
returns-clause-order g c = λ sent rising once. sorted_is g.M.Matcher.tells g.K.Sink.taken g.K.Sink.faults _ _ sent c.sort_unstable_by_key.ensures.permutation
    (IsNonDecreasingBy-from_sort_by_key (λ d. d.session * 2 ^ 32 + d.number) _ c.sort_unstable_by_key.ensures.sorted (λ a r q k. search rules)) c.requires.ended rising once
