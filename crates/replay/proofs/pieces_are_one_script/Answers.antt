use Rattle.replay.proofs.Runs.{pieces-are-one-script}
use Rattle.replay.proofs.pieces_are_one_script.Goals as goal

pub returns : goal.returns
returns c = pieces-are-one-script
