use Rattle.std.proofs.Common.{◌<◌, ◌≤◌, refl}
use Rattle.buffer_cli.proofs.PutLemmas.{put_done, put_counted}
use Rattle.buffer_cli.proofs.regexes.put.Goals as goal

pub returns-then-shown : goal.returns-then-shown
returns-then-shown c = λ before h.
    let room : c.args.seen.now.count < c.args.limit = c.if-shown.true in
    put_done c.args.text.now c.args.limit before c.args.into.now c.push.new.self c.args.seen.now _ c.args.hit.0 c.args.hit.1 c.push.result c.requires.next c.requires.next.ends.0 refl refl room c.push.ensures.ok h

pub returns-else-shown : goal.returns-else-shown
returns-else-shown c = λ before h.
    let full : c.args.limit ≤ c.args.seen.now.count = c.if-shown.false in
    put_counted c.args.text.now c.args.limit before c.args.into.now c.args.seen.now _ c.args.hit.0 c.args.hit.1 c.requires.next c.requires.next.ends.0 refl refl full h
