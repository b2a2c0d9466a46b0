-- What a source gave over several reads in a row.
use Rattle.std.proofs.Common.{◌≡◌, ℕ, ◌≤◌, List, [], ◌++◌, length, arith, refl}
use Rattle.std.proofs.lemmas.Grind.{common_steps}
use Rattle.std.specs.Prelude.{Option, Some, None, IfSome, is_some}
use Rattle.outer.specs.Source.{Gives, IsAtEnd, IsEndOf}

-- no read gave nothing
pub Gives-nil : (left : Option (List ℕ)) → Gives [] left left
Gives-nil None = refl
Gives-nil (Some rest) = refl

-- one read behind another
pub Gives-append : (a b : List ℕ) (first between last : Option (List ℕ)) → Gives a first between → Gives b between last → Gives (a ++ b) first last
Gives-append a b first between None one two = grind (arith, common_steps)
Gives-append a b first between (Some rest) one two = grind (arith, common_steps)

-- the bytes left are told after exactly where they were told before
pub Gives-told : (bytes : List ℕ) (before after : Option (List ℕ)) → Gives bytes before after → is_some before ≡ is_some after
Gives-told bytes before None gives = grind arith
Gives-told bytes before (Some rest) gives = grind arith

-- what was given is no longer than what was left
pub Gives-length : (bytes : List ℕ) (before after : Option (List ℕ)) → Gives bytes before after → IfSome before (λ left. length bytes ≤ length left)
Gives-length bytes None after gives = tt
Gives-length bytes (Some left) None gives = grind arith
Gives-length bytes (Some left) (Some rest) gives = grind (arith, common_steps)

-- at the end, what was given is all that was left
pub Gives-all : (bytes : List ℕ) (before after : Option (List ℕ)) → Gives bytes before after → IsAtEnd after → IfSome before (λ left. left ≡ bytes)
Gives-all bytes None after gives end = tt
Gives-all bytes (Some left) None gives end = grind arith
Gives-all bytes (Some left) (Some rest) gives end = grind (arith, common_steps)

-- a read of no bytes found the end
pub IsAtEnd-read : (left : Option (List ℕ)) → IsEndOf left 0 → IsAtEnd left
IsAtEnd-read None end = tt
IsAtEnd-read (Some bytes) end = grind arith
