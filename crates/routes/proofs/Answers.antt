-- The answers of the vectors hold, by computation.
use mathlib.Core.Path.{◌≡◌, refl}
use mathlib.Core.Bool.{true}
use Rattle.routes.specs.Least.{best}
use Rattle.routes.specs.Routes.{by_sends, cheapest_route, fewest_sends, next_site, stops}
use Rattle.routes.specs.Vectors.{vectors, every_answered}

pub vectors_hold : every_answered vectors ≡ true
unfolding best by_sends cheapest_route fewest_sends next_site stops
vectors_hold = refl
