-- The parts of a query by the rules' names, and what every decoded query keeps to.
use Rattle.std.specs.Prelude.{ℕ, ◌+◌, ◌*◌, ◌≤◌, ◌<◌, Bool, List, get_or, eqb}
use Rattle.relations.specs.Trees.{Tree}
use Rattle.query.specs.declared.Query.{Query}

-- n and s.
abbrev pub relations_of : Query → ℕ
relations_of q = q.relations.count

abbrev pub sites_of : Query → ℕ
sites_of q = q.sites.count

-- A relation's home, and whether it has its index.
unfoldable pub home : Query → ℕ → ℕ
home q r = get_or q.relations.home r 0

unfoldable pub index : Query → ℕ → Bool
index q r = eqb (get_or q.relations.index r 0) 1

-- Whether site k may join, its join fixed amount and join rate.
unfoldable pub may_join : Query → ℕ → Bool
may_join q k = eqb (get_or q.sites.may k 0) 1

unfoldable pub join_fixed : Query → ℕ → ℕ
join_fixed q k = get_or q.sites.fixed k 0

unfoldable pub join_rate : Query → ℕ → ℕ
join_rate q k = get_or q.sites.rate k 0

-- Whether the line from a to b is open, its fixed amount and rate.
unfoldable pub is_open : Query → ℕ → ℕ → Bool
is_open q a b = eqb (get_or q.lines.flag (8 * a + b) 0) 1

unfoldable pub line_fixed : Query → ℕ → ℕ → ℕ
line_fixed q a b = get_or q.lines.fixed (8 * a + b) 0

unfoldable pub line_rate : Query → ℕ → ℕ → ℕ
line_rate q a b = get_or q.lines.rate (8 * a + b) 0

-- The size of a set of relations.
unfoldable pub size : Query → ℕ → ℕ
size q S = get_or q.sizes S 0

-- Every number of a list is at most a limit.
abbrev pub UpTo : ℕ → List ℕ → Type 0
UpTo limit l = (i : ℕ) → get_or l i 0 ≤ limit

-- What a decoded query keeps to.
pub record Valid (q : Query) : Type 0 where
  pub sites_some : 1 ≤ sites_of q
  pub sites_most : sites_of q ≤ 8
  pub relations_most : relations_of q ≤ 9
  pub tree : Tree q.joins (relations_of q)
  pub homes : (r : ℕ) → r < relations_of q → home q r < sites_of q
  pub target_in : q.target < sites_of q
  pub sizes_most : UpTo 1_000_000_000 q.sizes
  pub join_fixed_most : UpTo 1_000_000 q.sites.fixed
  pub join_rate_most : UpTo 1_000 q.sites.rate
  pub line_fixed_most : UpTo 1_000_000 q.lines.fixed
  pub line_rate_most : UpTo 1_000 q.lines.rate
