-- Values behind tests and maps.
use Rattle.std.proofs.Common.{◌≡◌, Bool, true, false, cond, Option, Some, None, refl}
use Rattle.std.specs.Prelude.{option_map}
use Rattle.std.proofs.lemmas.Option.{none-some, same_Some}

-- the value behind a test that passed, and behind a map
pub behind_test : {A : Type 0} (b : Bool) (o : Option A) (y : A) → cond b o None ≡ Some y → o ≡ Some y
behind_test true o y h = h
behind_test false o y h = absurd (none-some y h)

pub behind_map : {A B P : Type 0} (f : A → B) (o : Option A) (y : B) → option_map f o ≡ Some y → ((x : A) → o ≡ Some x → f x ≡ y → P) → P
behind_map f None y h k = absurd (none-some y h)
behind_map f (Some x) y h k = k x refl (same_Some _ _ h)
