-- One line replaced by other terms.
use Rattle.std.specs.Prelude.{ℕ, ◌+◌, ◌*◌, set}
use Rattle.query.specs.declared.Lines.{Lines}
use Rattle.query.specs.declared.Query.{Query}
use Rattle.query.specs.declared.Terms.{Terms}

-- The lines with the line from sender a to receiver b replaced.
abbrev pub with_line : ℕ → ℕ → Lines → Terms → Lines
with_line a b ls t =
    record { flag = set ls.flag (8 * a + b) t.flag; fixed = set ls.fixed (8 * a + b) t.fixed; rate = set ls.rate (8 * a + b) t.rate }

-- The query with the line from sender a to receiver b replaced.
abbrev pub relined : Query → ℕ → ℕ → Terms → Query
relined q a b t = record {
  sites = q.sites;
  relations = q.relations;
  joins = q.joins;
  sizes = q.sizes;
  lines = with_line a b q.lines t;
  target = q.target;
}
