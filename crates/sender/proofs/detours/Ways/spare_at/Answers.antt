-- `detours::Ways::spare_at` meets its contract: both differences have enough only where nothing is missing. Assumes nothing.
use mathlib.Core.Path.{refl}
use Rattle.sender.proofs.NoDetours.{spare_direct}
use Rattle.sender.proofs.detours.Ways.spare_at.Goals as goal

pub returns : goal.returns
returns c = spare_direct _ _ _ _ _ _ _ _ _ _ _ c.args.self.now.others c.requires.1 refl refl refl refl refl refl
