use Rattle.std.proofs.Common.{◌≡◌, [], ◌∷◌, ◌++◌, map, true, false, is_some, sym, ap, ◌∙◌}
use Rattle.std.proofs.lemmas.List.{map-append}
use Rattle.std.specs.List.{position_from}
use Rattle.std.specs.Str.{bytes_eq}
use Rattle.outer.specs.FileList.{found}
use Rattle.outer.proofs.Entries.{key, value}
use Rattle.outer.proofs.Files.{is_there, added_old, added_new}
use Rattle.outer.proofs.file_list.Listed.add.Goals as goal

pub returns-then-is_some-clause-ok : goal.returns-then-is_some-clause-ok
returns-then-is_some-clause-ok c =
    let there : is_some (found c.args.self.now c.args.name.now) ≡ true =
    ap (λ fs. is_some (found fs c.args.name.now)) (sym c.self.view_is)
    ∙ (is_there key value c.args.name.now 0 c.self.inside.entries.items
    ∙ (ap is_some (sym (c.place_of.ensures ∙ ap (position_from (λ e. bytes_eq (key e) c.args.name.now) 0) c.deref.ensures.value)) ∙ (sym c.is_some.ensures ∙ c.if-is_some.true))) in
    sym (added_old c.args.name.now c.args.self.now there)

pub returns-clause-ok : goal.returns-clause-ok
returns-clause-ok c =
    let new : is_some (found c.args.self.now c.args.name.now) ≡ false =
    ap (λ fs. is_some (found fs c.args.name.now)) (sym c.self.view_is)
    ∙ (is_there key value c.args.name.now 0 c.self.inside.entries.items
    ∙ (ap is_some (sym (c.place_of.ensures ∙ ap (position_from (λ e. bytes_eq (key e) c.args.name.now) 0) c.deref.ensures.value)) ∙ (sym c.is_some.ensures ∙ c.if-is_some.false))) in
    ap (map (λ e. (key e, value e))) c.in_ok-push.ensures.items
    ∙ (map-append (λ e. (key e, value e)) c.self.inside.entries.items ((c.in_ok-name.name, c.new.result) ∷ [])
    ∙ (ap (λ fs. fs ++ (key (c.in_ok-name.name, c.new.result), value (c.in_ok-name.name, c.new.result)) ∷ []) c.self.view_is
    ∙ (ap (λ n. c.args.self.now ++ (n, value (c.in_ok-name.name, c.new.result)) ∷ []) c.in_ok-name.ensures.ok
    ∙ (ap (λ b. c.args.self.now ++ (c.args.name.now, b) ∷ []) c.new.ensures.items
    ∙ sym (added_new c.args.name.now c.args.self.now new)))))
