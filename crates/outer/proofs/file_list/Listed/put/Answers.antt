use Rattle.std.proofs.Common.{◌≡◌, None, arith, sym, ap, ◌∙◌}
use Rattle.std.specs.List.{position_from}
use Rattle.std.specs.Str.{bytes_eq}
use Rattle.outer.specs.FileList.{with_bytes, found}
use Rattle.outer.proofs.Entries.{key, value}
use Rattle.outer.proofs.Files.{stands_at, found_nowhere, put_nowhere}
use Rattle.outer.proofs.file_list.Listed.put.Goals as goal

pub index_mut-requires : goal.index_mut-requires
index_mut-requires c =
    let at = stands_at key value c.args.name.now c.self.inside.entries.items c.in-Some.at
    (sym (c.place_of.ensures ∙ ap (position_from (λ e. bytes_eq (key e) c.args.name.now) 0) c.deref.ensures.value) ∙ c.in-Some.is) in
    let low = at.within in grind (arith, low, c.deref.ensures.len, c.deref.ensures.value)

pub returns-in-Some : goal.returns-in-Some
returns-in-Some c =
    let at = stands_at key value c.args.name.now c.self.inside.entries.items c.in-Some.at
    (sym (c.place_of.ensures ∙ ap (position_from (λ e. bytes_eq (key e) c.args.name.now) 0) c.deref.ensures.value) ∙ c.in-Some.is) in
    at.put_is (c.index_mut.result.now.0, c.args.bytes) c.index_mut.result.now (ap key c.index_mut.ensures.value)
    ∙ ap (with_bytes c.args.name.now c.args.bytes.items) c.self.view_is

pub returns-in_default : goal.returns-in_default
returns-in_default c =
    let none = found_nowhere key value c.args.name.now 0 c.self.inside.entries.items
    (sym (c.place_of.ensures ∙ ap (position_from (λ e. bytes_eq (key e) c.args.name.now) 0) c.deref.ensures.value) ∙ c.in_default.is) in
    let absent : found c.args.self.now c.args.name.now ≡ None = ap (λ fs. found fs c.args.name.now) (sym c.self.view_is) ∙ none in
    sym (put_nowhere c.args.name.now c.args.bytes.items c.args.self.now absent)
