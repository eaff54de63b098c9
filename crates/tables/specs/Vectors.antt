-- Queries with their answers: cost, trials and the written plan's bytes; the check accepts each plan at that cost. They tell what no law of the
-- cheapest plan can: the ties, which part is written first, and the trials; and the figures of the index rule and of routes. `vectors_hold` in proofs/ is their
-- one theorem.
use Rattle.std.specs.Prelude.{ℕ, ◌+◌, Bool, true, false, ◌&&◌, List, [], ◌∷◌, eqb}
use Rattle.relations.specs.Code.{most_sets}
use Rattle.relations.specs.declared.Joins.{Joins}
use Rattle.query.specs.declared.Lines.{Lines}
use Rattle.query.specs.declared.Query.{Query}
use Rattle.query.specs.Cost.{some}
use Rattle.query.specs.Terms.{with_line}
use Rattle.query.specs.Zeros.{no_lines}
use Rattle.rules.specs.Allowed.{Verdict, accepted, rejected, checked}
use Rattle.tables.specs.Tables.{cheapest, trials}
use Rattle.tables.specs.Written.{written}
use Rattle.tables.specs.Rows.{filled, every_line, Q, with_target, with_index, with_may, with_lines, closing, same}

abbrev pub with_sizes : List ℕ → Query → Query
with_sizes l q =
    record { sites = q.sites; relations = q.relations; joins = q.joins; sizes = filled most_sets l; lines = q.lines; target = q.target }

pub record Vector : Type 0 where
  pub query : Query
  pub cost : ℕ
  pub trials : ℕ
  pub plan : List ℕ

-- One site that may join, join fixed 2, rate 1, the home of n relations; no index, no line, delivery there.
abbrev pub at_one_site : ℕ → Joins → List ℕ → Query
at_one_site n J sizes =
    record {
      sites = record { count = 1; may = filled 8 (1 ∷ []); fixed = filled 8 (2 ∷ []); rate = filled 8 (1 ∷ []) };
      relations = record { count = n; home = filled 9 []; index = filled 9 [] };
      joins = J;
      sizes = filled most_sets sizes;
      lines = no_lines;
      target = 0;
    }

-- Relations 0, 1 and 2 in a chain, join 1 from 2 to 1, every size 1: either join may come last.
abbrev pub even_chain : Query
even_chain =
    at_one_site 3 (record { count = 2; first = filled 8 (0 ∷ 2 ∷ []); second = filled 8 (1 ∷ 1 ∷ []) }) (0 ∷ 1 ∷ 1 ∷ 1 ∷ 1 ∷ 0 ∷ 1 ∷ 1 ∷ [])

-- Relations 0 to 3 in a chain: each, 0 with 1, 2 with 3 and all have size 1, the other subqueries 9.
abbrev pub two_pairs : Query
two_pairs =
    at_one_site 4 (record { count = 3; first = filled 8 (0 ∷ 1 ∷ 2 ∷ []); second = filled 8 (1 ∷ 2 ∷ 3 ∷ []) })
    (0 ∷ 1 ∷ 1 ∷ 1 ∷ 1 ∷ 0 ∷ 9 ∷ 9 ∷ 1 ∷ 0 ∷ 0 ∷ 0 ∷ 1 ∷ 0 ∷ 9 ∷ 1 ∷ [])

-- Q with both relations at site 0, both with an index, and sizes x, y and 3.
abbrev pub two_indexes : ℕ → ℕ → Query
two_indexes x y =
    record {
      sites = Q.sites;
      relations = record { count = 2; home = filled 9 []; index = filled 9 (1 ∷ 1 ∷ []) };
      joins = Q.joins;
      sizes = filled most_sets (0 ∷ x ∷ y ∷ 3 ∷ []);
      lines = Q.lines;
      target = 0;
    }

-- Q with both join amounts of site 2 at 0.
abbrev pub free_joining : Query
free_joining =
    record {
      sites = record { count = 3; may = filled 8 (1 ∷ 1 ∷ 1 ∷ []); fixed = filled 8 (2 ∷ 2 ∷ []); rate = filled 8 (1 ∷ 1 ∷ []) };
      relations = Q.relations;
      joins = Q.joins;
      sizes = Q.sizes;
      lines = Q.lines;
      target = 0;
    }

-- One relation of x bytes at site 0, to be delivered at the last of s sites over these lines.
abbrev pub carrying : (s t x : ℕ) → Lines → Query
carrying s t x ls =
    record {
      sites = record { count = s; may = filled 8 []; fixed = filled 8 []; rate = filled 8 [] };
      relations = record { count = 1; home = filled 9 []; index = filled 9 [] };
      joins = record { count = 0; first = filled 8 []; second = filled 8 [] };
      sizes = filled most_sets (0 ∷ x ∷ []);
      lines = ls;
      target = t;
    }

-- An open line more, for a fixed amount and a rate.
abbrev pub opening : (a b fixed rate : ℕ) → Lines → Lines
opening a b f r ls = with_line a b ls (record { flag = 1; fixed = f; rate = r })

-- From 0 to 2 for 10 a parcel, and by way of 1 for 10 and 10.
abbrev pub dear_by_parcel : Lines
dear_by_parcel = opening 0 2 0 10 (opening 0 1 10 0 (opening 1 2 10 0 no_lines))

-- From 0 to 5 by way of 1 and 4, and by way of 2 and 3, each line for 1.
abbrev pub two_routes : Lines
two_routes = opening 0 1 1 0 (opening 1 4 1 0 (opening 4 5 1 0 (opening 0 2 1 0 (opening 2 3 1 0 (opening 3 5 1 0 no_lines)))))

-- From 0 to 3 by way of 1 and 2 alone.
abbrev pub one_way : Lines
one_way = opening 0 1 1 0 (opening 1 2 1 0 (opening 2 3 1 0 no_lines))

abbrev pub vectors : List Vector
vectors =
    -- Q: load 0, load 1, send 0, join 0.
    record { query = Q; cost = 21; trials = 3; plan = 4 ∷ 1 ∷ 0 ∷ 1 ∷ 1 ∷ 2 ∷ 0 ∷ 3 ∷ 0 ∷ [] }
    -- Lines for nothing and delivery 1: each site is as good, so it is joined at site 0, the lowest, and sent to 1.
    ∷ record {
      query = with_target 1 (with_lines (every_line 3 3 (record { flag = 1; fixed = 0; rate = 0 })) Q);
      cost = 19;
      trials = 3;
      plan = 5 ∷ 1 ∷ 0 ∷ 1 ∷ 1 ∷ 2 ∷ 0 ∷ 3 ∷ 0 ∷ 2 ∷ 1 ∷ [];
    }
    -- Sizes 7, 7 and 8 start a parcel each, so each site is as good, and site 0 is taken; by the byte site 2 would be cheaper.
    ∷ record {
      query = with_target 2 (with_sizes (0 ∷ 7 ∷ 7 ∷ 8 ∷ []) Q);
      cost = 28;
      trials = 3;
      plan = 5 ∷ 1 ∷ 0 ∷ 1 ∷ 1 ∷ 2 ∷ 0 ∷ 3 ∷ 0 ∷ 2 ∷ 2 ∷ [];
    }
    -- Relation 1 has 0 bytes and is sent for the fixed amount alone.
    ∷ record { query = with_sizes (0 ∷ 10 ∷ 0 ∷ 3 ∷ []) Q; cost = 16; trials = 3; plan = 4 ∷ 1 ∷ 0 ∷ 1 ∷ 1 ∷ 2 ∷ 0 ∷ 3 ∷ 0 ∷ [] }
    -- Join 0, the lowest, is the last; of join 1, relation 2, its first, is written first.
    ∷ record { query = even_chain; cost = 10; trials = 4; plan = 5 ∷ 1 ∷ 0 ∷ 1 ∷ 2 ∷ 1 ∷ 1 ∷ 3 ∷ 1 ∷ 3 ∷ 0 ∷ [] }
    -- Relation 0 has its index but is sent to site 1, so it is read.
    ∷ record {
      query = with_index (1 ∷ []) (with_may (0 ∷ 1 ∷ 1 ∷ []) Q);
      cost = 24;
      trials = 3;
      plan = 5 ∷ 1 ∷ 0 ∷ 2 ∷ 1 ∷ 1 ∷ 1 ∷ 3 ∷ 0 ∷ 2 ∷ 0 ∷ [];
    }
    -- Both relations qualify at site 0: one index is followed, that of the larger, and the smaller is read. With equal sizes one of them is read.
    ∷ record { query = two_indexes 10 4; cost = 9; trials = 3; plan = 3 ∷ 1 ∷ 0 ∷ 1 ∷ 1 ∷ 3 ∷ 0 ∷ [] }
    ∷ record { query = two_indexes 4 10; cost = 9; trials = 3; plan = 3 ∷ 1 ∷ 0 ∷ 1 ∷ 1 ∷ 3 ∷ 0 ∷ [] }
    ∷ record { query = two_indexes 5 5; cost = 10; trials = 3; plan = 3 ∷ 1 ∷ 0 ∷ 1 ∷ 1 ∷ 3 ∷ 0 ∷ [] }
    -- Both have their index but site 0 may not join: both are sent to site 1, so both are read.
    ∷ record {
      query = with_may (0 ∷ 1 ∷ 1 ∷ []) (two_indexes 10 4);
      cost = 26;
      trials = 3;
      plan = 6 ∷ 1 ∷ 0 ∷ 2 ∷ 1 ∷ 1 ∷ 1 ∷ 2 ∷ 1 ∷ 3 ∷ 0 ∷ 2 ∷ 0 ∷ [];
    }
    -- Both have their index, at different homes: at site 0 relation 0 qualifies and relation 1, which was sent there, is read.
    ∷ record { query = with_index (1 ∷ 1 ∷ []) Q; cost = 11; trials = 3; plan = 4 ∷ 1 ∷ 0 ∷ 1 ∷ 1 ∷ 2 ∷ 0 ∷ 3 ∷ 0 ∷ [] }
    -- The line from 1 to 0 is closed: relation 1 comes by way of site 2.
    ∷ record {
      query = with_lines (closing 1 0 Q.lines) Q;
      cost = 23;
      trials = 3;
      plan = 5 ∷ 1 ∷ 0 ∷ 1 ∷ 1 ∷ 2 ∷ 2 ∷ 2 ∷ 0 ∷ 3 ∷ 0 ∷ [];
    }
    -- Joined at site 2, where neither relation is at home, for nothing.
    ∷ record { query = free_joining; cost = 7; trials = 3; plan = 6 ∷ 1 ∷ 0 ∷ 2 ∷ 2 ∷ 1 ∷ 1 ∷ 2 ∷ 2 ∷ 3 ∷ 0 ∷ 2 ∷ 0 ∷ [] }
    -- The route goes by the size: one parcel is sent straight, two as well, as that is a send fewer for as much, and five by way of site 1.
    ∷ record { query = carrying 3 2 8 dear_by_parcel; cost = 10; trials = 0; plan = 2 ∷ 1 ∷ 0 ∷ 2 ∷ 2 ∷ [] }
    ∷ record { query = carrying 3 2 16 dear_by_parcel; cost = 20; trials = 0; plan = 2 ∷ 1 ∷ 0 ∷ 2 ∷ 2 ∷ [] }
    ∷ record { query = carrying 3 2 33 dear_by_parcel; cost = 20; trials = 0; plan = 3 ∷ 1 ∷ 0 ∷ 2 ∷ 1 ∷ 2 ∷ 2 ∷ [] }
    -- Of two routes with as many sends for as much the next site from the sender is the lowest, not the last site before the receiver.
    ∷ record { query = carrying 6 5 1 two_routes; cost = 3; trials = 0; plan = 4 ∷ 1 ∷ 0 ∷ 2 ∷ 1 ∷ 2 ∷ 4 ∷ 2 ∷ 5 ∷ [] }
    -- As many sends as there are sites, less one.
    ∷ record { query = carrying 4 3 1 one_way; cost = 3; trials = 0; plan = 4 ∷ 1 ∷ 0 ∷ 2 ∷ 1 ∷ 2 ∷ 2 ∷ 2 ∷ 3 ∷ [] }
    -- The lowest site comes before the fewest sends: joined at 0, from where it goes on by way of 1, not at 1 or at 2.
    ∷ record {
      query = with_target 2 (with_lines (closing 0 2 (every_line 3 3 (record { flag = 1; fixed = 0; rate = 0 }))) Q);
      cost = 19;
      trials = 3;
      plan = 6 ∷ 1 ∷ 0 ∷ 1 ∷ 1 ∷ 2 ∷ 0 ∷ 3 ∷ 0 ∷ 2 ∷ 1 ∷ 2 ∷ 2 ∷ [];
    }
    -- Two pairs are joined: no operand of the last join is a single relation.
    ∷ record { query = two_pairs; cost = 15; trials = 10; plan = 7 ∷ 1 ∷ 0 ∷ 1 ∷ 1 ∷ 3 ∷ 0 ∷ 1 ∷ 2 ∷ 1 ∷ 3 ∷ 3 ∷ 2 ∷ 3 ∷ 1 ∷ [] }
    ∷ []

abbrev pub same_bytes : List ℕ → List ℕ → Bool
same_bytes [] [] = true
same_bytes [] (y ∷ ys) = false
same_bytes (x ∷ xs) [] = false
same_bytes (x ∷ xs) (y ∷ ys) = eqb x y && same_bytes xs ys

abbrev pub accepted_at : Verdict → ℕ → Bool
accepted_at (accepted c) n = eqb c n
accepted_at (rejected k i) n = false

unfoldable pub answered : Vector → Bool
answered v =
    (same (cheapest ◌+◌ v.query) (some v.cost) && (eqb (trials v.query) v.trials && same_bytes (written ◌+◌ v.query) v.plan))
    && accepted_at (checked ◌+◌ v.query v.plan) v.cost

-- A relation that was sent has lost its index, even when it is home again: read whole, the plan costs 109, and the cheapest 9.
abbrev pub home_again : Query
home_again = with_lines (every_line 3 3 (record { flag = 1; fixed = 0; rate = 0 })) (with_sizes (0 ∷ 100 ∷ 4 ∷ 3 ∷ []) (with_index (1 ∷ []) (two_indexes 100 4)))

abbrev pub round_trip : Bool
round_trip =
    same (cheapest ◌+◌ home_again) (some 9)
    && accepted_at (checked ◌+◌ home_again (5 ∷ 1 ∷ 0 ∷ 2 ∷ 1 ∷ 2 ∷ 0 ∷ 1 ∷ 1 ∷ 3 ∷ 0 ∷ [])) 109

abbrev pub every_answered : List Vector → Bool
every_answered [] = true
every_answered (v ∷ vs) = answered v && every_answered vs
