-- Routes with their answers: the cost, and the sites to which the sends go. They tell what no law of the cheapest route can: which of equal routes is
-- taken. `vectors_hold` in proofs/ is their one theorem.
use Rattle.std.specs.Prelude.{ℕ, Bool, true, false, ◌&&◌, List, [], ◌∷◌, eqb}
use Rattle.query.specs.Choice.{pick}
use Rattle.query.specs.Cost.{Cost, none, some}
use Rattle.routes.specs.Routes.{cheapest_route, fewest_sends, stops}

-- A line from a site to a site, and what a send over it costs.
pub record Line : Type 0 where
  pub from : ℕ
  pub to : ℕ
  pub price : ℕ

abbrev pub line : (from to price : ℕ) → Line
line from to price = record { from = from; to = to; price = price }

-- What a send from a to b costs, by a list of the open lines.
abbrev pub over : List Line → ℕ → ℕ → Cost
over [] a b = none
over (x ∷ xs) a b = pick (eqb x.from a && eqb x.to b) (some x.price) (over xs a b)

pub record Vector : Type 0 where
  pub lines : List Line
  pub sites : ℕ
  pub from : ℕ
  pub to : ℕ
  pub cost : Cost
  pub route : List ℕ

abbrev pub same_cost : Cost → Cost → Bool
same_cost none none = true
same_cost (some c) (some d) = eqb c d
same_cost none (some d) = false
same_cost (some c) none = false

abbrev pub same_sites : List ℕ → List ℕ → Bool
same_sites [] [] = true
same_sites (m ∷ ms) (n ∷ ns) = eqb m n && same_sites ms ns
same_sites [] (n ∷ ns) = false
same_sites (m ∷ ms) [] = false

-- Lines from 0 to 2, at some price, and by way of 1 for 10 each.
abbrev pub beside_two : ℕ → List Line
beside_two price = line 0 2 price ∷ line 0 1 10 ∷ line 1 2 10 ∷ []

-- Three sites with a line for nothing between any two of them.
abbrev pub free : List Line
free = line 0 1 0 ∷ line 0 2 0 ∷ line 1 0 0 ∷ line 1 2 0 ∷ line 2 0 0 ∷ line 2 1 0 ∷ []

abbrev pub vectors : List Vector
vectors =
    -- Two cheap lines beat a dear one; for as much the direct line is a send fewer.
    record { lines = beside_two 21; sites = 3; from = 0; to = 2; cost = some 20; route = 1 ∷ 2 ∷ [] }
    ∷ record { lines = beside_two 20; sites = 3; from = 0; to = 2; cost = some 20; route = 2 ∷ [] }
    -- Where it stays there is no send, though a tour would cost nothing; and a send goes straight where a way over a lower site costs as much.
    ∷ record { lines = free; sites = 3; from = 1; to = 1; cost = some 0; route = [] }
    ∷ record { lines = free; sites = 3; from = 1; to = 2; cost = some 0; route = 2 ∷ [] }
    -- One way from site to site: as many sends as there are sites, less one. And no way back.
    ∷ record { lines = line 0 1 1 ∷ line 1 2 1 ∷ line 2 3 1 ∷ []; sites = 4; from = 0; to = 3; cost = some 3; route = 1 ∷ 2 ∷ 3 ∷ [] }
    ∷ record { lines = line 0 1 1 ∷ line 1 2 1 ∷ line 2 3 1 ∷ []; sites = 4; from = 3; to = 0; cost = none; route = [] }
    -- Of 0-1-4-5 and 0-2-3-5 the one whose next site is the lowest; where the first is the same, so with the second.
    ∷ record {
      lines = line 0 1 1 ∷ line 1 4 1 ∷ line 4 5 1 ∷ line 0 2 1 ∷ line 2 3 1 ∷ line 3 5 1 ∷ [];
      sites = 6;
      from = 0;
      to = 5;
      cost = some 3;
      route = 1 ∷ 4 ∷ 5 ∷ [];
    }
    ∷ record { lines = line 4 3 1 ∷ line 3 2 1 ∷ line 3 1 1 ∷ line 2 0 1 ∷ line 1 0 1 ∷ []; sites = 5; from = 4; to = 0; cost = some 3; route = 3 ∷ 1 ∷ 0 ∷ [] }
    ∷ []

abbrev pub answered : Vector → Bool
answered v =
    let way = over v.lines in
    same_cost (cheapest_route way v.sites v.from v.to) v.cost
    && same_sites (stops way v.sites (fewest_sends way v.sites v.from v.to) v.from v.to) v.route

abbrev pub every_answered : List Vector → Bool
every_answered [] = true
every_answered (v ∷ vs) = answered v && every_answered vs
