-- The board: a query as the loops take it, laid out once a solve in rows of eight lanes.
use Rattle.std.specs.Prelude.{ℕ, ◌+◌, ◌*◌, ◌^◌, ◌<◌, ◌≡◌, ◌&&◌, List, eqb, length, get_or}
use Rattle.std.specs.Int.Count.{ones, count_trailing_zeros}
use Rattle.relations.specs.Growth.{first, second}
use Rattle.relations.specs.Trees.{side}
use Rattle.relations.specs.Code.{ends_of}
use Rattle.query.specs.declared.Query.{Query}
use Rattle.query.specs.Choice.{pick}
use Rattle.query.specs.Query.{relations_of, sites_of, home, index, may_join, join_fixed, join_rate, is_open, line_fixed, line_rate, size}
use Rattle.query.specs.Spared.{spareable, spared}
use Rattle.board.specs.Figures.{none_mark}

-- How many entries it has: forty rows.
abbrev pub entries : ℕ
entries = 320

-- Lane k of row i.
abbrev pub lane : List ℕ → ℕ → ℕ → ℕ
lane b i k = get_or b (8 * i + k) 0

-- Rows 0 and 1: the ends of join e and its side, as sets. Rows 2 and 3: the fixed amount and rate of joining at site k.
abbrev pub ends_at : List ℕ → ℕ → ℕ
ends_at b e = lane b 0 e

abbrev pub side_at : List ℕ → ℕ → ℕ
side_at b e = lane b 1 e

abbrev pub fixed_at : List ℕ → ℕ → ℕ
fixed_at b k = lane b 2 k

abbrev pub rate_at : List ℕ → ℕ → ℕ
rate_at b k = lane b 3 k

-- Rows 4 to 12: what the index of relation r can spare at site k. Row 13: nothing, for a joined result.
unfoldable pub operand_row : ℕ → ℕ
operand_row S = pick (eqb (ones S) 1) (4 + count_trailing_zeros 64 S) 13

-- Rows 30 to 37: what is spared at site k where the two relations of join e are joined. So the row with what is spared where P and R are joined by e
-- is the join's own for two relations, and else that of the one relation, if there is one: only two relations can both qualify.
unfoldable pub spared_row : (P R e : ℕ) → ℕ
spared_row P R e = pick (eqb (ones P) 1) (pick (eqb (ones R) 1) (30 + e) (operand_row P)) (operand_row R)

-- Rows 14 to 21 and 22 to 29: the fixed amount and rate of the line from k to t.
abbrev pub line_fixed_at : List ℕ → ℕ → ℕ → ℕ
line_fixed_at b k t = lane b (14 + k) t

abbrev pub line_rate_at : List ℕ → ℕ → ℕ → ℕ
line_rate_at b k t = lane b (22 + k) t

-- From entry 304 on: the set of sites where relation r stands. Then the numbers of joins and of sites.
abbrev pub homes_at : List ℕ → ℕ → ℕ
homes_at b r = get_or b (304 + r) 0

abbrev pub joins_at : List ℕ → ℕ
joins_at b = get_or b 313 0

abbrev pub sites_at : List ℕ → ℕ
sites_at b = get_or b 314 0

-- What the loops find there: none in the fixed amount where a site may not join, where a line is closed, and from a site to itself: a send goes to
-- another site.
unfoldable pub fixed_of : Query → ℕ → ℕ
fixed_of q k = pick (may_join q k) (join_fixed q k) none_mark

unfoldable pub spareable_of : Query → ℕ → ℕ → ℕ
spareable_of q r k = spareable (eqb (home q r) k && index q r) (size q (2 ^ r))

unfoldable pub line_fixed_of : Query → ℕ → ℕ → ℕ
line_fixed_of q k t = pick (eqb k t) none_mark (pick (is_open q k t) (line_fixed q k t) none_mark)

unfoldable pub line_rate_of : Query → ℕ → ℕ → ℕ
line_rate_of q k t = pick (eqb k t) 0 (line_rate q k t)

-- The board is the query's.
pub record BoardOf (q : Query) (b : List ℕ) : Type 0 where
  pub long : length b ≡ entries
  pub ends : (e : ℕ) → e < q.joins.count → ends_at b e ≡ ends_of q.joins e
  pub sides : (e : ℕ) → e < q.joins.count → side_at b e ≡ side q.joins (relations_of q) e
  pub fixed : (k : ℕ) → k < 8 → fixed_at b k ≡ fixed_of q k
  pub rate : (k : ℕ) → k < 8 → rate_at b k ≡ join_rate q k
  pub spareables : (r k : ℕ) → r < relations_of q → k < 8 → lane b (4 + r) k ≡ spareable_of q r k
  pub nothing : (k : ℕ) → k < 8 → lane b 13 k ≡ 0
  pub pairs : (e k : ℕ) → e < q.joins.count → k < 8 → lane b (30 + e) k ≡ spared (spareable_of q (first q.joins e) k) (spareable_of q (second q.joins e) k)
  pub line_fixed : (k t : ℕ) → k < sites_of q → t < 8 → line_fixed_at b k t ≡ line_fixed_of q k t
  pub line_rate : (k t : ℕ) → k < sites_of q → t < 8 → line_rate_at b k t ≡ line_rate_of q k t
  pub homes : (r : ℕ) → r < relations_of q → homes_at b r ≡ 2 ^ home q r
  pub joins : joins_at b ≡ q.joins.count
  pub sites : sites_at b ≡ sites_of q
