use Rattle.sessions.proofs.Ending.{run_is_played}
use Rattle.sessions.proofs.laws.run_is_played.Goals as goal

pub returns : goal.returns
returns c = run_is_played
