use Rattle.std.proofs.Common.{[], refl}
use Rattle.chains.proofs.weaver.Weaver.new.Goals as goal

pub returns-clause-woven : goal.returns-clause-woven
returns-clause-woven c = λ s. record {
  pieces = [];
  kept = [];
  old = [];
  new = [];
  rest = s;
  text_is = refl;
  tags_are = refl;
  cuts_are = c.in_ok-with_capacity.ensures.items;
  puts_are = c.in_ok-with_room.ensures;
  open_old = refl;
  open_new = refl;
  open_text = refl;
  old_is = refl;
  new_is = refl;
  units_are = refl;
  some = tt;
  behind = λ o n. tt;
}
