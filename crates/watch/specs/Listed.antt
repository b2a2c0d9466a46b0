-- What a list watcher heard.
use Rattle.std.specs.Prelude.{ℕ, nat_le, List, Option, Some, None, if◌then◌else◌}
use Rattle.watch.specs.declared.list_watcher.ListWatcher.{ListWatcher}
use Rattle.watch.specs.declared.watcher.Heard.{Heard}

-- how many changes it heard
abbrev pub heard_count : ListWatcher → ℕ
heard_count w = w.count

-- which, while it had room for all
abbrev pub heard_list : ListWatcher → Option (List Heard)
heard_list w = if nat_le w.count w.room then Some w.list.items else None
