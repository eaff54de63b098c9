-- What the writer asks and leaves: over lists of a query whose cells are filled, its written steps as bytes.
use Rattle.std.specs.Prelude.{ℕ, zero, suc, ◌+◌, ◌^◌, ◌<◌, ◌≡◌, List, eqb}
use Rattle.std.specs.Int.Bits.{bit_and}
use Rattle.relations.specs.Sets.{all}
use Rattle.relations.specs.Trees.{Subquery}
use Rattle.query.specs.declared.Query.{Query}
use Rattle.query.specs.Choice.{pick}
use Rattle.query.specs.Cost.{some}
use Rattle.query.specs.Query.{relations_of, sites_of}
use Rattle.tables.specs.Tables.{delivered, joined}
use Rattle.board.specs.Figures.{place_of}
use Rattle.board.specs.Board.{ends_at, joins_at}
use Rattle.filler.specs.Trials.{Lent, size_in, join_trial, joined_in}
use Rattle.filler.specs.Filling.{LaidOut, Filled}
use Rattle.solver.specs.declared.writing.Due.{Due}
use Rattle.router.specs.Routing.{site_in}

-- The joins in S among the first m, as bits, by their ends on the board.
unfoldable pub joins_within : List ℕ → ℕ → ℕ → ℕ
joins_within b S zero = 0
joins_within b S (suc m) = joins_within b S m + pick (eqb (bit_and S (ends_at b m)) (ends_at b m)) (2 ^ m) 0

-- The site where S is joined for delivery at t, and the join that is taken last for S at site k.
abbrev pub site_by : (ℕ → ℕ → ℕ) → Lent → ℕ → ℕ → ℕ
site_by combine l S t = site_in (joined_in combine l (joins_within l.board S (joins_at l.board)) S) l.board (size_in l S) t

abbrev pub join_by : (ℕ → ℕ → ℕ) → Lent → ℕ → ℕ → ℕ
join_by combine l S k = place_of (join_trial combine l (joins_within l.board S (joins_at l.board)) S k) 8

-- A set at a site, where it costs a figure.
abbrev pub due_of : (S t figure : ℕ) → Due
due_of S t figure = record { set = S; site = t; figure = figure }

-- What is lent is a query's with its cells filled, and S is a subquery of it.
pub record Known (combine : ℕ → ℕ → ℕ) (q : Query) (l : Lent) (S : ℕ) : Type 0 where
  pub laid : LaidOut q l
  pub filled : Filled combine q l.places l.work (all (relations_of q))
  pub subquery : Subquery q.joins (relations_of q) S

-- S is to be written as it is delivered at t, which costs so much, or as it is joined at k: there is a way.
pub record ToDeliver (combine : ℕ → ℕ → ℕ) (q : Query) (l : Lent) (S t cost : ℕ) : Type 0 where
  pub known : Known combine q l S
  pub listed : t < sites_of q
  pub cost_is : delivered combine q S t ≡ some cost

pub record ToJoin (combine : ℕ → ℕ → ℕ) (q : Query) (l : Lent) (S k : ℕ) : Type 0 where
  pub known : Known combine q l S
  pub listed : k < sites_of q
  pub cost : ℕ
  pub cost_is : joined combine q S k ≡ some cost
