use Rattle.std.proofs.Common.{◌≡◌, Some, None, arith, sym, ap, ◌∙◌}
use Rattle.std.specs.Prelude.{option_copied}
use Rattle.std.specs.List.{position_from}
use Rattle.std.specs.Str.{bytes_eq}
use Rattle.outer.specs.FileList.{found}
use Rattle.outer.proofs.Entries.{key, value}
use Rattle.outer.proofs.Files.{stands_at, found_nowhere}
use Rattle.outer.proofs.file_list.Listed.bytes.Goals as goal

pub returns-in_err-at : goal.returns-in_err-at
returns-in_err-at c =
    let none = found_nowhere key value c.args.name.now 0 c.self.inside.entries.items
    (sym (c.place_of.ensures ∙ ap (position_from (λ e. bytes_eq (key e) c.args.name.now) 0) c.deref.ensures.value) ∙ c.in_err-at.was) in
    let absent : found c.args.self.now c.args.name.now ≡ None = ap (λ fs. found fs c.args.name.now) (sym c.self.view_is) ∙ none in
    ap option_copied c.from_residual.ensures ∙ sym absent

pub index-requires : goal.index-requires
index-requires c =
    let at = stands_at key value c.args.name.now c.self.inside.entries.items c.in_ok-at.at
    (sym (c.place_of.ensures ∙ ap (position_from (λ e. bytes_eq (key e) c.args.name.now) 0) c.deref.ensures.value) ∙ c.in_ok-at.was) in
    let low = at.within in grind (arith, low, c.deref.ensures.len, c.deref.ensures.value)

pub returns : goal.returns
returns c =
    let at = stands_at key value c.args.name.now c.self.inside.entries.items c.in_ok-at.at
    (sym (c.place_of.ensures ∙ ap (position_from (λ e. bytes_eq (key e) c.args.name.now) 0) c.deref.ensures.value) ∙ c.in_ok-at.was) in
    let there : found c.args.self.now c.args.name.now ≡ Some (value c.index.result.now) =
    ap (λ fs. found fs c.args.name.now) (sym c.self.view_is) ∙ (at.found_is c.index.result.now ∙ ap (λ e. Some (value e)) (sym c.index.ensures)) in
    ap Some c.as_slice.ensures.value ∙ sym there
