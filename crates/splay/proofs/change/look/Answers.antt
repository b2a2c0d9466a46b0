use Rattle.splay.proofs.ChangeCalls.{looks_nowhere, looks_by}
use Rattle.splay.proofs.change.look.Goals as goal

pub returns-then-found : goal.returns-then-found
returns-then-found g c =
    looks_nowhere g.M.Measure.unit g.M.Measure.add g.M.Measure.weight c.args.store.now c.args.root (g.S.Seek.passes c.args.seek.now) c.search-found.result.count c.search-found.result.last c.search-found.ensures

pub returns : goal.returns
returns g c =
    looks_by g.M.Measure.unit g.M.Measure.add g.M.Measure.weight c.args.store.now c.splay.new.store c.args.root (g.S.Seek.passes c.args.seek.now) c.search-found.result.count c.search-found.result.last c.search-found.ensures c.if-found.false c.splay.ensures
