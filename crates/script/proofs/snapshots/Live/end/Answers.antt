use Rattle.std.proofs.Common.{◌≡◌, not, ℕ, List, rules, subst}
use Rattle.std.specs.Prelude.{◌==◌, filter}
use Rattle.std.proofs.lemmas.Fn.{filter_same}
use Rattle.script.proofs.snapshots.Live.end.Goals as goal

pub returns : goal.returns
returns c =
    let same = filter_same _ (λ m. not (m == c.args.number)) _ (λ x b f k. search rules) _ _ c.retain.ensures.filtered in
    let P : List ℕ → Type 0 = λ u. c.retain.new.self.items ≡ filter (λ m. not (m == c.args.number)) u in
    subst P c.self.view_is same
