-- What was told, in order.
use Rattle.std.specs.Prelude.{List, [], ◌∷◌, ◌++◌}
use Rattle.watch.specs.declared.watcher.Heard.{Heard}
use Rattle.watch.specs.declared.seat.Log.{Log}
use Rattle.watch.specs.declared.seat.Log.TheVariants.{Nothing, Told'}

abbrev pub log_of : Log → List Heard
log_of Nothing = []
log_of (Told' x m s) = log_of s ++ x ∷ []
