-- What a sink took over several puts in a row.
use Rattle.std.proofs.Common.{ℕ, ◌+◌, ◌≤◌, min, List, [], ◌++◌, length, take, arith}
use Rattle.std.proofs.Math.Seq.{take-append-add, take-length}
use Rattle.std.proofs.lemmas.List.{take-append-le, take_min}
use Rattle.std.proofs.lemmas.Grind.{common_steps}
use Rattle.std.specs.Prelude.{Option, Some, None}
use Rattle.outer.specs.Sink.{Appends, AppendsPrefix}

-- no put appended nothing
pub Appends-nil : (taken : Option (List ℕ)) → Appends [] taken taken
Appends-nil None = tt
Appends-nil (Some had) = grind (arith, common_steps)

-- one put behind another
pub Appends-append : (a b : List ℕ) (first between last : Option (List ℕ)) → Appends a first between → Appends b between last → Appends (a ++ b) first last
Appends-append a b first between None one two = tt
Appends-append a b first None (Some taken) one two = absurd two
Appends-append a b None (Some had) (Some taken) one two = absurd one
Appends-append a b (Some start) (Some had) (Some taken) one two = grind (arith, common_steps)

-- no put appended a prefix of all that was to come
pub AppendsPrefix-nil : (bytes : List ℕ) (taken : Option (List ℕ)) → AppendsPrefix bytes taken taken
AppendsPrefix-nil bytes taken = (0, Appends-nil taken)

-- all the bytes are a prefix of them
pub AppendsPrefix-all : (bytes : List ℕ) (before after : Option (List ℕ)) → Appends bytes before after → AppendsPrefix bytes before after
AppendsPrefix-all bytes before after all = (length bytes, rw take-length all)

-- a put that failed behind one that didn't
pub AppendsPrefix-append : (a b : List ℕ) (first between last : Option (List ℕ)) → Appends a first between → AppendsPrefix b between last → AppendsPrefix (a ++ b) first last
AppendsPrefix-append a b first between last one two = (length a + two.0, rw take-append-add (Appends-append a (take two.0 b) first between last one two.1))

-- a put that failed before others that never came
pub AppendsPrefix-more : (a b : List ℕ) (before after : Option (List ℕ)) → AppendsPrefix a before after → AppendsPrefix (a ++ b) before after
AppendsPrefix-more a b before after part =
    let short : min part.0 (length a) ≤ length a = omega arith in
    (min part.0 (length a), rw (take-append-le, take_min) part.1)
