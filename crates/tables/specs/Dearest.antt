-- The dearest plan that there is. It costs `most_cost`, so that limit is reached: `most_reached` in proofs/ computes it by the plan rules.
use Rattle.std.specs.Prelude.{ℕ, suc, ◌+◌, List, [], ◌∷◌, replicate}
use Rattle.relations.specs.Code.{most_sets}
use Rattle.query.specs.declared.Query.{Query}
use Rattle.query.specs.Query.{Valid}
use Rattle.rules.specs.Allowed.{AllowedAt}
use Rattle.tables.specs.Theorems.{most_cost}
use Rattle.tables.specs.Rows.{chain_of_nine}

-- Nine relations in a chain, all at home at site 0 and without an index; three sites that may join, every line open, delivery 0; every size, fixed
-- amount and rate at its limit. (The lists hold the limit also where there is no subquery, site or line; no price looks there.)
abbrev pub at_the_limits : Query
at_the_limits =
    record {
      sites = record { count = 3; may = replicate 8 1; fixed = replicate 8 1_000_000; rate = replicate 8 1_000 };
      relations = record { count = 9; home = replicate 9 0; index = replicate 9 0 };
      joins = chain_of_nine;
      sizes = replicate most_sets 1_000_000_000;
      lines = record { flag = replicate 64 1; fixed = replicate 64 1_000_000; rate = replicate 64 1_000 };
      target = 0;
    }

-- Seven sends, to and fro between two sites, that end at the first.
abbrev pub seven_sends : (to fro : ℕ) → List ℕ → List ℕ
seven_sends to fro bytes = 2 ∷ to ∷ 2 ∷ fro ∷ 2 ∷ to ∷ 2 ∷ fro ∷ 2 ∷ to ∷ 2 ∷ fro ∷ 2 ∷ to ∷ bytes

-- Relation e + 1 is loaded and sent to where the result of relations 0 to e stands; join e joins the two there, and what it makes is sent on.
abbrev pub join_and_send : (e here there : ℕ) → List ℕ → List ℕ
join_and_send e here there bytes = 1 ∷ suc e ∷ seven_sends here there (3 ∷ e ∷ seven_sends there here bytes)

-- 136 steps: each relation is sent seven times, and so is each joined result.
abbrev pub dearest_plan : List ℕ
dearest_plan =
    136 ∷ 1 ∷ 0
    ∷ seven_sends 1 2
    (join_and_send 0 1 2 (join_and_send 1 2 1 (join_and_send 2 1 2 (join_and_send 3 2 1 (join_and_send 4 1 2 (join_and_send 5 2 1 (join_and_send 6 1 2 (join_and_send 7 2 0 []))))))))

pub record MostReached : Type 0 where
  pub valid : Valid at_the_limits
  pub reached : AllowedAt ◌+◌ at_the_limits dearest_plan most_cost
