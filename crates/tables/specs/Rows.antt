-- The pinned rows (rule 10.3): eleven rows, each with what it must give, as one computed table. `rows_hold` in proofs/ is its one theorem.
use Rattle.std.specs.Prelude.{ℕ, zero, suc, ◌+◌, ◌-◌, Bool, true, false, ◌&&◌, List, [], ◌∷◌, ◌++◌, length, replicate, eqb}
use Rattle.relations.specs.Code.{most_sets}
use Rattle.relations.specs.declared.Joins.{Joins}
use Rattle.relations.specs.Sets.{all}
use Rattle.relations.specs.Trees.{subqueries}
use Rattle.query.specs.declared.Lines.{Lines}
use Rattle.query.specs.declared.Query.{Query}
use Rattle.query.specs.Choice.{pick}
use Rattle.query.specs.Cost.{Cost, none, some}
use Rattle.query.specs.Query.{relations_of}
use Rattle.query.specs.declared.Terms.{Terms}
use Rattle.query.specs.Terms.{with_line}
use Rattle.query.specs.Zeros.{no_lines}
use Rattle.tables.specs.Tables.{cheapest, trials}
use Rattle.tables.specs.Written.{best_site, written_steps}

-- These numbers, and zeros up to m of them.
abbrev pub filled : ℕ → List ℕ → List ℕ
filled m l = l ++ replicate (m - length l) 0

-- The lines with those from site a to b - 1, b - 2, .., 0 but itself on the terms t, and so for each sender below a.
abbrev pub lines_from : ℕ → ℕ → Terms → Lines → Lines
lines_from a zero t ls = ls
lines_from a (suc b) t ls = pick (eqb a b) (lines_from a b t ls) (with_line a b (lines_from a b t ls) t)

abbrev pub every_line : ℕ → ℕ → Terms → Lines
every_line s zero t = no_lines
every_line s (suc a) t = lines_from a s t (every_line s a t)

-- Three sites, all may join, join fixed 2, rate 1; relation 0 at site 0, relation 1 at site 1, no index; join 0 links 0 and 1;
-- sizes 10, 4, 3; every line open, fixed 1, rate 1; delivery 0.
abbrev pub Q : Query
Q =
    record {
      sites = record { count = 3; may = filled 8 (1 ∷ 1 ∷ 1 ∷ []); fixed = filled 8 (2 ∷ 2 ∷ 2 ∷ []); rate = filled 8 (1 ∷ 1 ∷ 1 ∷ []) };
      relations = record { count = 2; home = filled 9 (0 ∷ 1 ∷ []); index = filled 9 [] };
      joins = record { count = 1; first = filled 8 (0 ∷ []); second = filled 8 (1 ∷ []) };
      sizes = filled most_sets (0 ∷ 10 ∷ 4 ∷ 3 ∷ []);
      lines = every_line 3 3 (record { flag = 1; fixed = 1; rate = 1 });
      target = 0;
    }

-- A query with one section changed.
abbrev pub with_target : ℕ → Query → Query
with_target t q = record { sites = q.sites; relations = q.relations; joins = q.joins; sizes = q.sizes; lines = q.lines; target = t }

abbrev pub with_index : List ℕ → Query → Query
with_index l q =
    record {
      sites = q.sites;
      relations = record { count = q.relations.count; home = q.relations.home; index = filled 9 l };
      joins = q.joins;
      sizes = q.sizes;
      lines = q.lines;
      target = q.target;
    }

abbrev pub with_may : List ℕ → Query → Query
with_may l q =
    record {
      sites = record { count = q.sites.count; may = filled 8 l; fixed = q.sites.fixed; rate = q.sites.rate };
      relations = q.relations;
      joins = q.joins;
      sizes = q.sizes;
      lines = q.lines;
      target = q.target;
    }

abbrev pub with_lines : Lines → Query → Query
with_lines ls q = record { sites = q.sites; relations = q.relations; joins = q.joins; sizes = q.sizes; lines = ls; target = q.target }

-- A closed line keeps its amounts.
abbrev pub closing : ℕ → ℕ → Lines → Lines
closing a b ls = with_line a b ls (record { flag = 0; fixed = 1; rate = 1 })

-- Q with relation 1 and join 0 taken out.
abbrev pub alone : Query → Query
alone q =
    record {
      sites = q.sites;
      relations = record { count = 1; home = filled 9 (0 ∷ []); index = filled 9 [] };
      joins = record { count = 0; first = filled 8 []; second = filled 8 [] };
      sizes = filled most_sets (0 ∷ 10 ∷ []);
      lines = q.lines;
      target = q.target;
    }

-- A chain links each relation with the next, a star relation 0 with each other.
abbrev pub chain_of_nine : Joins
chain_of_nine = record { count = 8; first = 0 ∷ 1 ∷ 2 ∷ 3 ∷ 4 ∷ 5 ∷ 6 ∷ 7 ∷ []; second = 1 ∷ 2 ∷ 3 ∷ 4 ∷ 5 ∷ 6 ∷ 7 ∷ 8 ∷ [] }

abbrev pub star_of_nine : Joins
star_of_nine = record { count = 8; first = replicate 8 0; second = 1 ∷ 2 ∷ 3 ∷ 4 ∷ 5 ∷ 6 ∷ 7 ∷ 8 ∷ [] }

-- A row: what a query costs; or also the site where it is joined; or also how many steps and trials; or how many subqueries nine relations have.
pub data Row : Type 0 where
  costs : Query → Cost → Row
  joins_at : Query → Cost → ℕ → Row
  takes : Query → Cost → (steps trials : ℕ) → Row
  counts : Joins → ℕ → Row

abbrev pub rows : List Row
rows =
    costs Q (some 21)
    ∷ costs (with_target 2 Q) (some 23)
    ∷ costs (with_index (1 ∷ []) Q) (some 11)
    ∷ costs (with_may (0 ∷ 1 ∷ 1 ∷ []) Q) (some 24)
    ∷ costs (with_lines (closing 1 0 Q.lines) Q) (some 23)
    ∷ costs (with_lines (closing 2 0 (closing 1 0 Q.lines)) Q) none
    ∷ joins_at (with_lines (every_line 3 3 (record { flag = 1; fixed = 0; rate = 0 })) Q) (some 19) 0
    ∷ takes (alone Q) (some 0) 1 0
    ∷ costs (with_target 1 (alone Q)) (some 3)
    ∷ counts chain_of_nine 45
    ∷ counts star_of_nine 264
    ∷ []

abbrev pub same : Cost → Cost → Bool
same none none = true
same none (some d) = false
same (some c) none = false
same (some c) (some d) = eqb c d

unfoldable pub holds : Row → Bool
holds (costs q c) = same (cheapest ◌+◌ q) c
holds (joins_at q c k) = same (cheapest ◌+◌ q) c && eqb (best_site ◌+◌ q (all (relations_of q)) q.target) k
holds (takes q c n t) = same (cheapest ◌+◌ q) c && (eqb (length (written_steps ◌+◌ q)) n && eqb (trials q) t)
holds (counts J n) = eqb (subqueries J 9) n

abbrev pub every : List Row → Bool
every [] = true
every (r ∷ rs) = holds r && every rs
