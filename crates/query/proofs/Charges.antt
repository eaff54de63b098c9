-- The charges hold, by computation.
use mathlib.Core.Path.{◌≡◌, refl}
use mathlib.Core.Bool.{true}
use Rattle.query.specs.Prices.{parcels, reads}
use Rattle.query.specs.Charges.{charges, every_holds, qualified, every_qualified}

pub charges_hold : every_holds charges ≡ true
unfolding parcels reads
charges_hold = refl

pub qualified_hold : every_qualified qualified ≡ true
unfolding reads
qualified_hold = refl
