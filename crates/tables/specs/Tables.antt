-- The two tables (rules 5.2 to 5.8), equations (8) and (9) of the paper that rule 1.3 names: Delivered and Joined, by each other over fewer relations.
-- The combination of two operands' figures is a parameter: for costs it is the sum.
use Rattle.std.specs.Prelude.{ℕ, zero, suc, ◌+◌, ◌-◌, ◌*◌, ◌^◌, eqb}
use Rattle.std.specs.Int.Count.{ones}
use Rattle.relations.specs.Sets.{all, lowest}
use Rattle.relations.specs.Growth.{inside}
use Rattle.relations.specs.Trees.{is_subquery, part, rest}
use Rattle.relations.specs.declared.Joins.{Joins}
use Rattle.query.specs.declared.Query.{Query}
use Rattle.query.specs.Choice.{pick}
use Rattle.query.specs.Cost.{Cost, none, some, both, plus}
use Rattle.query.specs.Query.{relations_of, sites_of, home, may_join}
use Rattle.query.specs.Prices.{join_price, indexed}
use Rattle.routes.specs.Least.{least}
use Rattle.routes.specs.Routes.{carriage}

-- The parts of S by join e: the one with e's first relation, and the other.
abbrev pub first_part : Query → ℕ → ℕ → ℕ
first_part q S e = part q.joins (relations_of q) S e

abbrev pub other_part : Query → ℕ → ℕ → ℕ
other_part q S e = rest q.joins (relations_of q) S e

-- The relation of a set of one.
abbrev pub only : Query → ℕ → ℕ
only q S = lowest (relations_of q) S

-- What S costs at k by join e: Delivered (D) of both parts at k plus the join price; none where e is not in S.
unfoldable pub by_join : (ℕ → ℕ → ℕ) → (ℕ → ℕ → Cost) → Query → ℕ → ℕ → ℕ → Cost
by_join combine D q S k e =
    pick (inside q.joins S e)
    (plus (both combine (D (first_part q S e) k) (D (other_part q S e) k))
    (some (join_price q k (indexed q (first_part q S e) k) (first_part q S e) (indexed q (other_part q S e) k) (other_part q S e))))
    none

-- Joined(S, k) by Delivered (D) of fewer relations: the least over joins e in S; none if k may not join.
unfoldable pub joined_by : (ℕ → ℕ → ℕ) → (ℕ → ℕ → Cost) → Query → ℕ → ℕ → Cost
joined_by combine D q S k = pick (may_join q k) (least (by_join combine D q S k) q.joins.count) none

-- What S costs at t by way of site k: Joined (J) there plus the carriage from k to t.
abbrev pub by_site : (ℕ → Cost) → Query → ℕ → ℕ → ℕ → Cost
by_site J q S t k = plus (J k) (carriage q S k t)

-- Delivered(S, t) by Joined (J) of S: for one relation its carriage from its home, else the least over sites k.
unfoldable pub delivered_by : (ℕ → Cost) → Query → ℕ → ℕ → Cost
delivered_by J q S t = pick (eqb (ones S) 1) (carriage q S (home q (only q S)) t) (least (by_site J q S t) (sites_of q))

-- The two tables up to f relations.
unfoldable pub delivered_up_to : (ℕ → ℕ → ℕ) → Query → ℕ → ℕ → ℕ → Cost
delivered_up_to combine q zero S t = none
delivered_up_to combine q (suc f) S t = delivered_by (joined_by combine (delivered_up_to combine q f) q S) q S t

-- Delivered(S, t) and Joined(S, k).
unfoldable pub delivered : (ℕ → ℕ → ℕ) → Query → ℕ → ℕ → Cost
delivered combine q S t = delivered_up_to combine q (relations_of q) S t

unfoldable pub joined : (ℕ → ℕ → ℕ) → Query → ℕ → ℕ → Cost
joined combine q S k = joined_by combine (delivered combine q) q S k

-- Delivered(all, query site): what the query costs.
abbrev pub cheapest : (ℕ → ℕ → ℕ) → Query → Cost
cheapest combine q = delivered combine q (all (relations_of q)) q.target

-- The sum over the subqueries below m of their relations less one.
unfoldable pub joins_below : Joins → ℕ → ℕ → ℕ
joins_below J n zero = 0
joins_below J n (suc m) = joins_below J n m + pick (is_subquery J n m) (ones m - 1) 0

-- Trials = s × the sum over subqueries of (relations - 1), whether or not a site may join: the joins and the number of sites alone decide.
abbrev pub trials_of : (s : ℕ) → Joins → (n : ℕ) → ℕ
trials_of s J n = s * joins_below J n (2 ^ n)

abbrev pub trials : Query → ℕ
trials q = trials_of (sites_of q) q.joins (relations_of q)
