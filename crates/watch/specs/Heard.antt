-- What a watcher hears.
use Rattle.patch.specs.declared.change.Change.{Change}
use Rattle.watch.specs.declared.watcher.Heard.{Heard}

-- what is heard of a change: where it starts, and where it ends before and after it
abbrev pub heard_of : Change → Heard
heard_of c = record { start = c.old_range.start; old_end = c.old_range.end; new_end = c.new_range.end }
